-- The loop keeps the entries of the records before i in the list.
use Rattle.std.proofs.Common.{pos}
use Rattle.algebra.specs.Laws.Fills.{Filled}
use Rattle.ticket.specs.Laws.Decodes.{narrow_at}
use Rattle.ticket.proofs.decode.narrow_entries.Given as goal

abbrev pub invariant-loop-i : goal.invariant-loop-i
invariant-loop-i l = Filled (pos 0) l.initial.list l.i (narrow_at l.records) l.list
