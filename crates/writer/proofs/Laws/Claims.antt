-- Quotient and remainder of a sum, as the written ticket claims them and as the code makes them.
--
--   claim_sum         scale times quotient plus remainder is what is divided for the sum
--   remainder_left    the remainder is a natural number below the scale
--   lifting_of        from what a setting gives
--   quotient_low, quotient_high, remainder_made   quotient and remainder, as the code makes them
--   quotient_true, remainder_true   they are those of a sum that is small enough
use Rattle.std.specs.Prelude.{◌≡◌, ℕ, ◌+◌, ◌-◌, ◌*◌, ◌/◌, ◌%◌, ◌^◌, ◌<◌, ◌≤◌, List, ℤ, pos, ◌+ℤ◌, ◌-ℤ◌, ◌*ℤ◌, unsigned_abs}
use Rattle.std.proofs.Math.Nat.{div-add-mod, div-le_self, mod-lt}
use Rattle.std.proofs.Math.Decide.{dec_lt}
use native.Mathlib.Omega.{arith}
use Rattle.std.proofs.Math.Path.{sym, ap}
use Rattle.std.proofs.Common.{◌∙◌}
use borrow.Author.Tests.{lt-ltb, le-ltb}
use Rattle.std.proofs.Math.IntN.{+ℤ_comm, -ℤ-+ℤ_cancel}
use Rattle.residue.specs.Rules.{modulus, least_residue}
use Rattle.residue.proofs.Laws.Integers.{positive, negative, equal_of_parts, parts_sum, parts_difference, parts_product}
use Rattle.residue.proofs.Laws.Modulus.{modulus_above}
use Rattle.residue.proofs.Laws.Modulus.PartnerModuli.{modulus_positive}
use Rattle.residue.proofs.Laws.Residues.{residue_of_residue, residue_shift}
use Rattle.algebra.specs.Rules.{floor_division}
use Rattle.algebra.proofs.Laws.FloorDivision.{floor_left}
use Rattle.algebra.proofs.Laws.FloorDivision.FloorBetween.{floor_unique}
use Rattle.ticket.specs.declared.setting.Setting.{Setting}
use Rattle.ticket.specs.Rules.{reach, half_range, dividend}
use Rattle.ticket.specs.Laws.Limits.{Numbers, Fitted, Within, lift, clamped}
use Rattle.ticket.proofs.Laws.Limits.{lift_made, clamped_same, half_small}
use Rattle.ticket.specs.Laws.Lifts.{Lifted}
use Rattle.ticket.proofs.Laws.Lifts.{lifted_small, lifted_sum}
use Rattle.writer.specs.Rules.{sum_for, quotient_of, remainder_of}
use Rattle.writer.specs.Laws.Claims.{lifted_of, quotient_for, remainder_for, Lifting}

module _ (G : Setting) (A B C : List ℤ) (i j : ℕ) where
  pub claim_sum : pos G.scale *ℤ quotient_of G A B C i j +ℤ remainder_of G A B C i j ≡ dividend G (sum_for G A B C i j)
  unfolding remainder_of
  claim_sum =
      let product = pos G.scale *ℤ quotient_of G A B C i j in
      let divided = dividend G (sum_for G A B C i j) in
      +ℤ_comm product (divided -ℤ product) ∙ -ℤ-+ℤ_cancel divided product

  pub remainder_left : 0 < G.scale → (r : ℕ) × (r < G.scale) × (remainder_of G A B C i j ≡ pos r)
  unfolding quotient_of
  remainder_left above =
      let h = floor_left (dividend G (sum_for G A B C i j)) G.scale above in
      let product = pos G.scale *ℤ quotient_of G A B C i j in
      let same = claim_sum ∙ sym h.2 in (
        h.0,
        h.1,
        equal_of_parts (remainder_of G A B C i j) (pos h.0)
            (omega (
              arith,
              parts_sum product (remainder_of G A B C i j),
              parts_sum product (pos h.0),
              ap positive same,
              ap negative same,
            )),
      )

-- as the code makes them

pub lifting_of : {G : Setting} {half lifting : ℕ} → Within G → half ≡ half_range (clamped G) → lifting ≡ half * (clamped G).scale + G.rounding
    → Lifting G half lifting
lifting_of within half_is lift_is =
    record {
      numbers = within.numbers;
      fitted = within.fitted;
      half_is = half_is ∙ ap half_range (clamped_same within.sizes within.numbers);
      lift_is = (lift_made within.sizes within.numbers within.fitted half_is lift_is).0;
    }

module _ {G : Setting} {half lifting x : ℕ} (ready : Lifting G half lifting) (sum : ℕ) (x-is : x ≡ (sum + lifting) % 2 ^ 32) where
  x_lifted : x ≡ lifted_of G sum
  x_lifted = x-is ∙ ap (λ n. (sum + n) % 2 ^ 32) ready.lift_is

  pub remainder_made : x % G.scale ≡ remainder_for G sum
  unfolding remainder_for
  remainder_made = ap (λ n. n % G.scale) x_lifted

  pub half_low : half ≤ 2 ^ 29
  half_low = omega (arith, half_small ready.numbers, ready.half_is)

  pub quotient_low : {p : ℕ} → p ≡ modulus → x / G.scale < half → x / G.scale + (p - half) ≡ quotient_for G sum
  unfolding quotient_for
  quotient_low p-is l = sym (rw (← x_lifted, ← ready.half_is, lt-ltb (x / G.scale) half l, p-is))

  pub quotient_high : half ≤ x / G.scale → x / G.scale - half ≡ quotient_for G sum
  unfolding quotient_for
  quotient_high l = sym (rw (← x_lifted, ← ready.half_is, le-ltb (x / G.scale) half l))

-- the claim that a small sum makes

module _ {G : Setting} (numbers : Numbers G) (fitted : Fitted G) (S : ℤ) (small : unsigned_abs S ≤ reach G) {sum : ℕ}
    (sum_is_lem : sum ≡ least_residue (2 ^ 32) S) where
  lifted : Lifted G S (lifted_of G sum)
  lifted = lifted_sum numbers fitted S small (ap (λ n. (n + lift G) % 2 ^ 32) sum_is_lem)

  abbrev shifted : ℤ
  shifted = pos (lifted_of G sum / G.scale) -ℤ pos (half_range G)

  divided : pos G.scale *ℤ shifted +ℤ pos (remainder_for G sum) ≡ dividend G S
  unfolding remainder_for
  divided =
      let x = lifted_of G sum in
      let scaled = pos G.scale *ℤ shifted in
      equal_of_parts (scaled +ℤ pos (x % G.scale)) (dividend G S)
      (omega (
        arith,
        parts_sum scaled (pos (x % G.scale)),
        parts_product (pos G.scale) shifted,
        ap (λ n. G.scale * n) (parts_difference (pos (x / G.scale)) (pos (half_range G))),
        div-add-mod x G.scale,
        parts_sum S (pos (lift G)),
        parts_sum S (pos G.rounding),
        ap positive lifted,
        ap negative lifted,
      ))

  left_small : remainder_for G sum < G.scale
  unfolding remainder_for
  left_small = mod-lt (lifted_of G sum) (omega (arith, numbers.scale))

  quotient : shifted ≡ floor_division (dividend G S) G.scale
  quotient = floor_unique (dividend G S) shifted G.scale (remainder_for G sum) left_small divided

  pub quotient_true : quotient_for G sum ≡ least_residue modulus (floor_division (dividend G S) G.scale)
  unfolding quotient_for
  quotient_true =
      let x = lifted_of G sum / G.scale in
      let half = half_range G in
      let room : half < modulus = omega (arith, half_small {G = G} numbers, modulus_above) in
      let below : x < modulus = omega (arith, lifted_small numbers fitted S small lifted, div-le_self (lifted_of G sum) G.scale) in
      let parts = parts_difference (pos x) (pos half) in
      elim (dec_lt x half) [
        | yes l ↦
            rw (lt-ltb x half l)
            (sym (residue_shift modulus modulus_positive shifted (pos (x + (modulus - half))) 1 0 (omega arith)
            ∙ residue_of_residue modulus modulus_positive (x + (modulus - half)) (omega arith)))
        | no l ↦
            let most : half ≤ x = omega arith in
            rw (le-ltb x half most)
            (sym (ap (least_residue modulus) (equal_of_parts shifted (pos (x - half)) (omega arith))
            ∙ residue_of_residue modulus modulus_positive (x - half) (omega arith)))
      ]
      ∙ ap (least_residue modulus) quotient

  pub remainder_true : remainder_for G sum ≡ least_residue modulus (dividend G S -ℤ pos G.scale *ℤ floor_division (dividend G S) G.scale)
  remainder_true =
      let scaled = pos G.scale *ℤ shifted in
      let left : pos (remainder_for G sum) ≡ dividend G S -ℤ scaled =
      equal_of_parts (pos (remainder_for G sum)) (dividend G S -ℤ scaled)
      (omega (
        arith,
        parts_difference (dividend G S) scaled,
        parts_sum scaled (pos (remainder_for G sum)),
        ap positive divided,
        ap negative divided,
      )) in
      sym (residue_of_residue modulus modulus_positive (remainder_for G sum) (omega (arith, left_small, numbers.scale, modulus_above)))
      ∙ ap (least_residue modulus) (left ∙ ap (λ z. dividend G S -ℤ pos G.scale *ℤ z) quotient)
