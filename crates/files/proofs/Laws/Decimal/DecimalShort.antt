-- What rests on Decimal.
--
--   decimal_short    a number below 10^k has at most k digits, where k is not 0
use Rattle.std.specs.Prelude.{ℕ, zero, suc, ◌/◌, ◌%◌, ◌^◌, ◌≤◌, ◌<◌, [], ◌∷◌, length}
use Rattle.std.proofs.Math.Decide.{dec_le}
use Rattle.std.proofs.Common.{pow-suc, arith, length-append}
use Rattle.files.specs.Rules.{digit, decimal}
use Rattle.files.proofs.Laws.Decimal.{decimal_digit, decimal_longer}

pub decimal_short : (k n : ℕ) → n < 10 ^ suc k → length (decimal n) ≤ suc k
decimal_short zero n l = rw (decimal_digit n (omega arith)) (omega arith)
decimal_short (suc k) n l =
    elim (dec_le 10 n) [
      | yes h ↦
          rw (decimal_longer n h)
          (omega (arith, length-append (decimal (n / 10)) (digit (n % 10) ∷ []), decimal_short k (n / 10) (omega (arith, pow-suc 10 (suc k)))))
      | no h ↦ rw (decimal_digit n (omega arith)) (omega arith)
    ]
