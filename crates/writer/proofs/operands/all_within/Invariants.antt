-- The loop keeps whether the entries so far are within the bound.
use Rattle.std.proofs.Common.{◌≡◌}
use Rattle.ticket.specs.Laws.All.{all}
use Rattle.writer.specs.Laws.Operands.{within_at}
use Rattle.writer.proofs.operands.all_within.Given as goal

abbrev pub invariant-loop-entry : goal.invariant-loop-entry
invariant-loop-entry l = l.within ≡ all l.entry-index (within_at l.bound l.operand)
