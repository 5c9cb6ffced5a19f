-- The loop keeps that the records of the rows before this one pass.
use Rattle.std.proofs.Common.{◌≡◌, true, ◌*◌}
use Rattle.ticket.specs.Laws.All.{all}
use Rattle.ticket.specs.Laws.Passing.{passing}
use Rattle.ticket.proofs.records.passes.Given as goal

abbrev pub invariant-loop-row : goal.invariant-loop-row
invariant-loop-row l = true ≡ all (l.row * l.form.columns) (passing l.records l.form)
