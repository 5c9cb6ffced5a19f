-- Sums, products of matrices and floor division over the integers: the rules. They are all that a reader has to believe; nothing
-- is proved here.
--
--   int_sum n f                  f 0 + f 1 + .. + f (n - 1), over the integers
--   matrix_product m A B i j   row i of A times column j of B, m products
--   floor_division z d         the integer z over the number d, rounded down: also below zero
--   word a b c d              the number of four bytes, little-endian
--
-- The rules are shut, but for `word`, which is a short name: outside this crate a proof cites the laws (Laws/).
use Rattle.std.specs.Prelude.{ℕ, zero, suc, ◌+◌, ◌*◌, ◌/◌, ℤ, pos, negsuc, ◌+ℤ◌, ◌*ℤ◌}

unfoldable pub int_sum : ℕ → (ℕ → ℤ) → ℤ
int_sum zero f = pos 0
int_sum (suc n) f = int_sum n f +ℤ f n

unfoldable pub matrix_product : ℕ → (ℕ → ℕ → ℤ) → (ℕ → ℕ → ℤ) → ℕ → ℕ → ℤ
matrix_product m A B i j = int_sum m (λ k. A i k *ℤ B k j)

-- -(n + 1) over d lies from -(n/d + 1) up to, but not at, -(n/d), with n/d rounded down: -17 = -(16 + 1) over 10 gives -(1 + 1)
unfoldable pub floor_division : ℤ → ℕ → ℤ
floor_division (pos n) d = pos (n / d)
floor_division (negsuc n) d = negsuc (n / d)

abbrev pub word : ℕ → ℕ → ℕ → ℕ → ℕ
word a b c d = a + 256 * b + 65_536 * c + 16_777_216 * d
