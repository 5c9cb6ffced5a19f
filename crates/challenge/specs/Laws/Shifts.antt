-- Sums of products in which one factor is shifted: the list holds z j + s, which is not negative, in place of the integer z j, and
-- the shift s is taken off the sum modulo p. Numbers and p are any, but for those of the narrow law.
--
--   taken_off p s n x   what takes the shift off: the sum of x times the negative of s, modulo p
use Rattle.std.specs.Prelude.{ℕ, ◌-◌, ◌*◌, ◌%◌}
use Rattle.residue.specs.Rules.{sum}

unfoldable pub taken_off : ℕ → ℕ → ℕ → (ℕ → ℕ) → ℕ
taken_off p s n x = (p - s) * (sum n x % p)
