-- The loop keeps the columns before this one in the list, and in `start` where it begins.
use Rattle.std.proofs.Common.{◌≡◌, ◌*◌, pos}
use Rattle.algebra.specs.Laws.Fills.{Filled}
use Rattle.exact.specs.Laws.Matrices.{turned_number}
use Rattle.writer.proofs.operands.narrow_columns.Given as goal

abbrev pub invariant-loop-column : goal.invariant-loop-column
invariant-loop-column l =
    (l.start ≡ l.column * l.height) × Filled (pos 0) l.initial.list l.start (turned_number l.matrix l.height l.width) l.list
