-- Residue arithmetic modulo p: the rules. They are all that a reader has to believe; nothing is proved here.
--
--   modulus            the p of the delivery
--   least_residue p z   the least residue of the integer z modulo p
--   signed_entry p r    the signed entry that the least residue r modulo p stands for
--   Prime p            p is a prime number
--   power_of_two k       two to the power k, and 0 for an exponent above 30
--   sum n f            f 0 + f 1 + .. + f (n - 1)
--   WithNumber l h n l' h'   the two words l and h with the number n added are l' and h'
--
-- The rules are shut: outside this crate a proof cites the laws (Laws/), and only a module of worked examples opens a rule.
use Rattle.std.specs.Prelude.{◌≡◌, ℕ, zero, suc, ◌+◌, ◌-◌, ◌*◌, ◌/◌, ◌%◌, ◌^◌, ◌<◌, cond, ◌⊎◌, ℤ, pos, negsuc, ◌-ℤ◌, nat_le}

unfoldable pub modulus : ℕ
modulus = 2_147_483_647

-- a number n leaves n % p; -(n + 1) is as far below a multiple of p as n + 1 is above one
unfoldable pub least_residue : ℕ → ℤ → ℕ
least_residue p (pos n) = n % p
least_residue p (negsuc n) = (p - suc n % p) % p

-- up to (p - 1)/2 a residue stands for itself, above that for the number p below it
unfoldable pub signed_entry : ℕ → ℕ → ℤ
signed_entry p r = cond (nat_le r ((p - 1) / 2)) (pos r) (pos r -ℤ pos p)

-- above 1, and every divisor is 1 or the number itself
pub record Prime (p : ℕ) : Type 0 where
  pub above_one : 1 < p
  pub divisors : (d k : ℕ) → d * k ≡ p → (d ≡ 1) ⊎ (d ≡ p)

unfoldable pub power_of_two : ℕ → ℕ
power_of_two k = cond (nat_le k 30) (2 ^ k) 0

unfoldable pub sum : ℕ → (ℕ → ℕ) → ℕ
sum zero f = 0
sum (suc n) f = sum n f + f n

-- the number's low 31 bits go to the one word, what stands above them to the other, each modulo 2^64
pub record WithNumber (low high n low' high' : ℕ) : Type 0 where
  pub low_is : low' ≡ (low + n % 2 ^ 31) % 2 ^ 64
  pub high_is : high' ≡ (high + n / 2 ^ 31) % 2 ^ 64
