-- The loop keeps the sum of the first k products, of the count that there are in the shorter list.
use Rattle.std.proofs.Common.{◌-◌, ◌≤◌, length}
use Rattle.exact.specs.Laws.Products.{Summed}
use Rattle.exact.proofs.dot.Given as goal

abbrev pub invariant-loop-k : goal.invariant-loop-k
invariant-loop-k l = (l.k ≤ l.count) × (l.count ≤ length l.x) × (l.count ≤ length l.y) × Summed l.x l.y 0 0 l.k l.sum

abbrev pub decreases-loop-k : goal.decreases-loop-k
decreases-loop-k l = l.count - l.k
