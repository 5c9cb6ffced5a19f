-- What rests on ClaimsTrue, TicketDecided.
--
--   size_due                   so is what a claim is compared with
--   claims_close               a claim and what it is compared with are less than p apart
use Rattle.std.specs.Prelude.{ℕ, ◌*◌, ◌<◌, ◌≤◌, List, pos, ◌+ℤ◌, ◌-ℤ◌, ◌*ℤ◌, unsigned_abs}
use Rattle.std.proofs.Common.{mul-le-mul_left}
use native.Mathlib.Omega.{arith}
use Rattle.residue.specs.Rules.{modulus}
use Rattle.algebra.proofs.Laws.IntegerSums.{size_sum, size_difference, size_product}
use Rattle.ticket.specs.declared.setting.Setting.{Setting}
use Rattle.ticket.specs.Rules.{reach, half_range, entry_a, entry_b, entry_bias, quotient, remainder, claim, due}
use Rattle.ticket.proofs.Laws.Limits.{range_double}
use Rattle.ticket.specs.Laws.Passes.{Passed}
use Rattle.ticket.proofs.Laws.Differences.ClaimsTrue.{size_sum_of}
use Rattle.ticket.proofs.Laws.Differences.TicketDecided.{remainder_below, size_bias, size_entry_a, size_entry_b, size_quotient}

module _ {G : Setting} {t : List ℕ} (passed : Passed G t) where
  module _ (i j : ℕ) (l : i < G.rows) (m : j < G.columns) where
    pub size_due : unsigned_abs (due G t i j) ≤ reach G
    size_due =
        size_sum_of G (entry_a G t) (entry_b G t) (entry_bias G t) i j (λ k h. (size_entry_a passed) i k l h) (λ k h. (size_entry_b passed) k j h m)
        (size_bias passed i j l m)

    pub claims_close : unsigned_abs (claim G t i j -ℤ due G t i j) < modulus
    unfolding claim remainder
    claims_close =
        let scaled : unsigned_abs (pos G.scale *ℤ quotient G t i j) ≤ G.scale * half_range G =
        rw (size_product (pos G.scale) (quotient G t i j)) (mul-le-mul_left G.scale (size_quotient passed i j l m)) in
        let made = pos G.scale *ℤ quotient G t i j +ℤ remainder G t i j in
        omega (
          arith,
          size_difference (claim G t i j) (due G t i j),
          size_difference made (pos G.rounding),
          size_sum (pos G.scale *ℤ quotient G t i j) (remainder G t i j),
          (remainder_below passed i j l m),
          size_due,
          range_double {G = G} passed.numbers,
          passed.fitted,
        )
