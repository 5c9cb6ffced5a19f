-- The loops keep that the records before this row, and before this column of it, pass.
use Rattle.std.proofs.Common.{◌≡◌, ℕ, ◌+◌, ◌*◌, ◌<◌}
use Rattle.ticket.specs.Laws.Forms.{tested}
use Rattle.ticket.proofs.records.first_refusal.Given as goal

abbrev pub invariant-loop-row : goal.invariant-loop-row
invariant-loop-row l = (k : ℕ) → k < l.row * l.form.columns → tested l.records l.form k ≡ 0

abbrev pub invariant-loop-column : goal.invariant-loop-column
invariant-loop-column l = (k : ℕ) → k < l.row * l.form.columns + l.column → tested l.records l.form k ≡ 0
