-- The loop keeps whether the records of the row before this column pass.
use Rattle.std.proofs.Common.{◌≡◌}
use Rattle.ticket.specs.Laws.All.{all}
use Rattle.ticket.specs.Laws.Passing.{row_passing}
use Rattle.ticket.proofs.records.row_passes.Given as goal

abbrev pub invariant-loop-column : goal.invariant-loop-column
invariant-loop-column l = l.ok ≡ all l.column (row_passing l.records l.form l.start l.row)
