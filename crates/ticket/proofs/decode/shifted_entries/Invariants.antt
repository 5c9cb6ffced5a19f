-- The loop keeps the values of the records before k in the list, each with the shift added.
use Rattle.algebra.specs.Laws.Fills.{Filled}
use Rattle.ticket.specs.Laws.Decodes.{shifted_at}
use Rattle.ticket.proofs.decode.shifted_entries.Given as goal

abbrev pub invariant-loop-k : goal.invariant-loop-k
invariant-loop-k l = Filled 0 l.initial.list l.k (shifted_at l.records l.shift.0) l.list
