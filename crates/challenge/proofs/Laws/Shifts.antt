-- Sums of products in which one factor is shifted: the list holds z j + s, which is not negative, in place of the integer z j, and
-- the shift s is taken off the sum modulo p. Numbers and p are any, but for those of the narrow law.
--
--   shifted_residue     a shifted integer, modulo p
--   shift_off           the sum of the shifted products with that added is the sum of the products, modulo p
--   narrow_term         a number below 2^16 times one of 32 bits is at most 2^48
use Rattle.std.specs.Prelude.{ℕ, ◌+◌, ◌-◌, ◌*◌, ◌/◌, ◌%◌, ◌^◌, ◌≤◌, ◌<◌, ◌≡◌, ℤ, pos, ◌+ℤ◌, ◌*ℤ◌}
use Rattle.std.proofs.Math.Nat.{add-mod-mod, div-add-mod}
use Rattle.std.proofs.Common.{mul-le-mul, ◌∙◌}
use native.Mathlib.Omega.{arith}
use Rattle.std.proofs.Math.Path.{sym, ap}
use Rattle.residue.specs.Rules.{least_residue, sum}
use Rattle.residue.proofs.Laws.Modulo.{mod_of_multiples, multiples_of_mod, mod_mul_left}
use Rattle.residue.proofs.Laws.Residues.{residue_of_natural, residue_sum}
use Rattle.residue.proofs.Laws.Sums.{sum_mod_cong, sum_add, sum_scale}
use Rattle.algebra.specs.Rules.{int_sum}
use Rattle.algebra.proofs.Laws.IntegerSums.ResidueDot.{residue_dot}
use Rattle.challenge.specs.Laws.Shifts.{taken_off}

module _ (p : ℕ) (above : 0 < p) (s : ℕ) where
  pub shifted_residue : (z : ℤ) (e : ℕ) → pos e ≡ z +ℤ pos s → e % p ≡ (least_residue p z + s) % p
  shifted_residue z e is =
      sym (residue_of_natural p above e) ∙ ap (least_residue p) is ∙ residue_sum p above z (pos s)
      ∙ ap (λ n. (least_residue p z + n) % p) (residue_of_natural p above s) ∙ add-mod-mod (least_residue p z) s p

  module _ (n : ℕ) (z : ℕ → ℤ) (e x : ℕ → ℕ) (same : (j : ℕ) → j < n → pos (e j) ≡ z j +ℤ pos s) where
    -- the sum of the products, by least residues
    plain : ℕ
    plain = sum n (λ j. least_residue p (z j) * x j)

    shifted_sum : sum n (λ j. e j * x j) % p ≡ (plain + s * sum n x) % p
    unfolding plain
    shifted_sum =
        sum_mod_cong n p (λ j. e j * x j) (λ j. least_residue p (z j) * x j + s * x j)
        (λ j l. sym (mod_mul_left p (e j) (x j)) ∙ ap (λ m. m * x j % p) (shifted_residue (z j) (e j) (same j l))
        ∙ mod_mul_left p (least_residue p (z j) + s) (x j) ∙ ap (λ m. m % p) (omega arith))
        ∙ ap (λ m. m % p) (sum_add n (λ j. least_residue p (z j) * x j) (λ j. s * x j) ∙ ap (λ m. plain + m) (sum_scale n s x))

    pub shift_off : s ≤ p → (taken_off p s n x + sum n (λ j. e j * x j)) % p ≡ least_residue p (int_sum n (λ j. z j *ℤ pos (x j)))
    unfolding taken_off plain
    shift_off l =
        let total = sum n x in
        let moved = sum n (λ j. e j * x j) in
        let whole : p ≡ s + (p - s) = omega arith in
        mod_of_multiples p ((p - s) * (total % p) + moved) plain ((plain + s * total) / p) (total % p + s * (total / p) + moved / p)
        (omega (
          arith,
          multiples_of_mod p moved (plain + s * total) shifted_sum,
          ap (λ k. k * (total % p)) whole,
          ap (λ k. s * k) (div-add-mod total p),
        ))
        ∙ sym (residue_dot p above n z x)

pub narrow_term : {e x : ℕ} → e < 2 ^ 16 → x < 2 ^ 32 → e * x ≤ 2 ^ 48
narrow_term {e} {x} small below =
    let a : e ≤ 2 ^ 16 = omega arith in
    let b : x ≤ 2 ^ 32 = omega arith in
    omega (arith, mul-le-mul a b)
