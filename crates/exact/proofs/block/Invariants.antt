-- The loop keeps the sum of the products of the first k rows.
use Rattle.std.proofs.Common.{◌*◌}
use Rattle.exact.specs.Laws.Products.{Summed}
use Rattle.exact.proofs.block.Given as goal

abbrev pub invariant-loop-k : goal.invariant-loop-k
invariant-loop-k l = Summed l.x l.y l.before l.start (l.k * 32) l.sum
