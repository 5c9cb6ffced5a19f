-- A number in decimal.
--
--   decimal_digit    a number below 10 is one digit
--   decimal_longer   any other one is the digits of its tenth, and its last digit
-- more digits are allowed than there are
use Rattle.std.specs.Prelude.{ℕ, zero, suc, ◌/◌, ◌%◌, ◌^◌, ◌≤◌, ◌<◌, ◌≡◌, [], ◌∷◌, ◌++◌, length}
use Rattle.std.proofs.Math.Decide.{dec_le}
use Rattle.std.proofs.Common.{pow-suc, arith, ap, lt-ltb, le-ltb, length-append}
use Rattle.files.specs.Rules.{digit, digits_of, decimal}
pub mod DecimalShort

enough : (j k n : ℕ) → n < j → n < k → digits_of j n ≡ digits_of k n
unfolding digits_of
enough zero k n l m = absurd (omega arith)
enough (suc j) zero n l m = absurd (omega arith)
enough (suc j) (suc k) n l m =
    elim (dec_le 10 n) [
      | yes h ↦ rw (enough j k (n / 10) (omega arith) (omega arith))
      | no h ↦ rw (lt-ltb n 10 (omega arith))
    ]

pub decimal_digit : (n : ℕ) → n < 10 → decimal n ≡ digit n ∷ []
unfolding decimal digits_of
decimal_digit n l = rw (lt-ltb n 10 l)

pub decimal_longer : (n : ℕ) → 10 ≤ n → decimal n ≡ decimal (n / 10) ++ (digit (n % 10) ∷ [])
unfolding decimal digits_of
decimal_longer n l = rw (le-ltb n 10 l) (ap (λ d. d ++ (digit (n % 10) ∷ [])) (enough n (suc (n / 10)) (n / 10) (omega arith) (omega arith)))
