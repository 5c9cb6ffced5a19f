-- The loop keeps the sum of the first k products, of the count that there are.
use Rattle.std.proofs.Common.{◌-◌, ◌≤◌}
use Rattle.exact.specs.Laws.Products.{Summed}
use Rattle.exact.proofs.rest.Given as goal

abbrev pub invariant-loop-k : goal.invariant-loop-k
invariant-loop-k l = (l.k ≤ l.count) × Summed l.x l.y l.before l.start l.k l.sum

abbrev pub decreases-loop-k : goal.decreases-loop-k
decreases-loop-k l = l.count - l.k
