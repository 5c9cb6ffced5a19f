-- The loop keeps the sum of the first k products.
use Rattle.exact.specs.Laws.Products.{Summed}
use Rattle.exact.proofs.products.Given as goal

abbrev pub invariant-loop-k : goal.invariant-loop-k
invariant-loop-k l = Summed l.x l.y l.before l.start l.k l.sum
