-- The loop keeps the entries of the records before k taken off the numbers of the list.
use Rattle.algebra.specs.Laws.Fills.{Filled}
use Rattle.ticket.specs.Laws.Decodes.{less_at}
use Rattle.ticket.proofs.decode.subtract_entries.Given as goal

abbrev pub invariant-loop-k : goal.invariant-loop-k
invariant-loop-k l = Filled 0 l.initial.list l.k (less_at l.records l.initial.list) l.list
