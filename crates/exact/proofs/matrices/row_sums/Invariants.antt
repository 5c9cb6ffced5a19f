-- The loop keeps the sums of the columns before start in the list.
use Rattle.std.proofs.Common.{◌≡◌, ◌*◌, ◌≤◌, length}
use Rattle.algebra.specs.Laws.Fills.{Filled, line_at}
use Rattle.exact.specs.Rules.{dot_product}
use Rattle.exact.proofs.matrices.row_sums.Given as goal

abbrev pub invariant-loop-sum : goal.invariant-loop-sum
invariant-loop-sum l =
    (l.start ≡ l.sum-index * length l.row)
    × (l.start ≤ length l.columns)
    × Filled 0 l.initial.sums l.sum-index (λ i. dot_product l.row (line_at l.columns (length l.row) i)) l.sums
