-- The loop keeps the first k entries of the column in the list, and in `at` where entry k stands.
use Rattle.std.proofs.Common.{◌≡◌, ◌+◌, ◌-◌, ◌*◌, ◌≤◌, length, pos}
use Rattle.algebra.specs.Laws.Fills.{Filled}
use Rattle.writer.specs.Laws.Operands.{column_of}
use Rattle.writer.proofs.operands.narrow.Given as goal

abbrev pub invariant-loop-at : goal.invariant-loop-at
invariant-loop-at l =
    (l.k ≤ length l.initial.list) × (l.at ≡ l.k * l.width + l.column) × Filled (pos 0) l.initial.list l.k (column_of l.matrix l.width l.column) l.list

abbrev pub decreases-loop-at : goal.decreases-loop-at
decreases-loop-at l = length l.matrix + l.width - l.at
