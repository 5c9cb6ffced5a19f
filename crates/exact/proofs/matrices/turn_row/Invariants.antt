-- The loop keeps the numbers of the rows before, and the first ones of this row, at their places.
use Rattle.std.proofs.Common.{◌+◌, ◌*◌}
use Rattle.exact.specs.Laws.Matrices.{TurnedFurther}
use Rattle.exact.proofs.matrices.turn_row.Given as goal

abbrev pub invariant-loop-column : goal.invariant-loop-column
invariant-loop-column l = TurnedFurther l.matrix l.height l.width (l.row * l.width) (l.row * l.width + l.column) l.initial.list l.list
