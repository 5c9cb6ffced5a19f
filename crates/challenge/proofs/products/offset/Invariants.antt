-- The loop keeps: the sum is that of the numbers before this one.
use Rattle.std.proofs.Common.{get_or}
use Rattle.challenge.proofs.Laws.Products.{Reached}
use Rattle.challenge.proofs.products.offset.Given as goal

abbrev pub invariant-loop-number : goal.invariant-loop-number
invariant-loop-number l = Reached 0 (λ i. get_or l.vector i 0) l.number-index l.sum
