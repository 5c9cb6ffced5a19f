-- The loop keeps what the claims before c put for their sums in the list, lifted.
use Rattle.algebra.specs.Laws.Fills.{Filled}
use Rattle.ticket.specs.Laws.Decodes.{lifted_at}
use Rattle.ticket.proofs.decode.lifted_claims.Given as goal

abbrev pub invariant-loop-c : goal.invariant-loop-c
invariant-loop-c l =
    Filled 0 l.initial.list l.c (lifted_at l.quotients l.remainders l.half.0 l.scale) l.list
