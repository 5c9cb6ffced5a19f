-- The loop keeps the numbers of the rows before this one at their places.
use Rattle.std.proofs.Common.{◌*◌}
use Rattle.exact.specs.Laws.Matrices.{TurnedTo}
use Rattle.exact.proofs.matrices.turn.Given as goal

abbrev pub invariant-loop-row : goal.invariant-loop-row
invariant-loop-row l = TurnedTo l.matrix l.rows l.columns (l.row * l.columns) l.initial.list l.list
