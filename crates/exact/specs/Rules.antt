-- Sums of products of 16-bit numbers, modulo 2^32: the rule. It is all that a reader has to believe beside those of the crates
-- below; nothing is proved here.
--
--   product_sum n x y   the sum of the first n products of a number of x and the number of y beside it
--   dot_product x y     that sum up to the end of the shorter list, modulo 2^32
use Rattle.std.specs.Prelude.{ℕ, ◌^◌, min, List, length, ℤ, pos, ◌*ℤ◌, slice_index_or}
use Rattle.residue.specs.Rules.{least_residue}
use Rattle.algebra.specs.Rules.{int_sum}

unfoldable pub product_sum : ℕ → List ℤ → List ℤ → ℤ
product_sum n x y = int_sum n (λ k. slice_index_or x k (pos 0) *ℤ slice_index_or y k (pos 0))

unfoldable pub dot_product : List ℤ → List ℤ → ℕ
dot_product x y = least_residue (2 ^ 32) (product_sum (min (length x) (length y)) x y)
