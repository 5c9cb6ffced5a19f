-- The loop keeps: the sum is the offset and the first i products.
use Rattle.std.proofs.Common.{◌*◌, get_or}
use Rattle.challenge.proofs.Laws.Products.{Reached}
use Rattle.challenge.proofs.products.dot.Given as goal

abbrev pub invariant-loop-i : goal.invariant-loop-i
invariant-loop-i l = Reached l.offset (λ k. get_or l.list k 0 * get_or l.vector k 0) l.i l.sum
