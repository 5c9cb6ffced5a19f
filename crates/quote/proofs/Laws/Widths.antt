-- The smallest width with which a setting fits, over the rule `smallest_width`, and a setting tried with a width.
--
--   Smallest G v        v is a width from 1 to 30 with which the setting fits, and it fits with no smaller one
--   NoneFits G          it fits with no width from 1 to 30
--   smallest_is, none_is   the smallest width is then v, or one more than the largest
--   smallest_or_none    one of the two is so
--   LimitsHold G        the limits hold, but for that of the width, which is not read
--   Tried G v c         what the number c of the setting with the width v says: which limit fails, or that the limits hold and the width
--                       fits, or does not fit
--   tried               a setting with a width from 1 to 30 has such a number
--   limit_number        a limit that fails has another number than 0, 3 and 20
--   tried_fits, tried_unfit, tried_refused   what the numbers 0, 3 and all others say
--   TriedBelow G n      all widths from 1 on below n were tried, and none fits
--   first_fitting       a width that fits is then the smallest
--   none_fitting        where the largest was tried too, none fits
use Prim.Native.Nat.{ℕ, suc, ◌-◌, ◌≤◌, ◌<◌}
use Rattle.std.proofs.Common.{arith, inl, inr, ⊎_elim, ◌∙◌}
use Rattle.std.specs.Prelude.{◌⊎◌, ◌≡◌, refl, true, false}
use Rattle.std.proofs.Math.Path.{ap, subst⁻¹}
use Rattle.std.proofs.Math.Bool.{not}
use Rattle.std.proofs.lemmas.Bool.{not-true, not-false}
use Rattle.ticket.specs.declared.setting.Setting.{Setting}
use Rattle.ticket.specs.Rules.{test, most_width, scale_and_bound_within, fits_width, setting_number}
use Rattle.ticket.proofs.Laws.First.{true_or_false, first_none, first_is, holds_or_first}
use Rattle.ticket.proofs.Laws.Limits.BiasSmall.{LimitRow, limit_in_table}
use Rattle.ticket.proofs.Laws.Limits.BiasSmall.{sizes_row, numbers_row, bias_bound_row, rounding_row}
use Rattle.ticket.specs.Laws.Tests.{AllHold}
use Rattle.ticket.proofs.Laws.Tests.{Failed, hold_or_failed, holding_number, failed_number, hold_then, failed_before, failed_last}
use Rattle.ticket.specs.Laws.Widths.{widened}
use Rattle.ticket.proofs.Laws.Widths.WidenedNumber.{widened_number}
use Rattle.quote.specs.Rules.{smallest_width, quote_limits}
pub mod TriedUnfit

pub record Smallest (G : Setting) (v : ℕ) : Type 0 where
  pub from_one : 1 ≤ v
  pub within : v ≤ most_width
  pub fitting : fits_width G v ≡ true
  pub none_smaller : (w : ℕ) → 1 ≤ w → w < v → fits_width G w ≡ false

abbrev pub NoneFits : Setting → Type 0
NoneFits G = (w : ℕ) → 1 ≤ w → w ≤ most_width → fits_width G w ≡ false

module _ (G : Setting) where
  pub smallest_is : {v : ℕ} → Smallest G v → smallest_width G ≡ v
  unfolding smallest_width
  smallest_is {v} s =
      let same : suc (v - 1) ≡ v = omega (arith, s.from_one) in
      ap suc (first_is most_width (v - 1) (λ k. not (fits_width G (suc k))) (omega (arith, s.from_one, s.within))
      (λ k l. ap not (s.none_smaller (suc k) (omega arith) (omega arith))) (rw same (ap not s.fitting)))
      ∙ same

  pub none_is : NoneFits G → smallest_width G ≡ suc most_width
  unfolding smallest_width
  none_is none = ap suc (first_none most_width (λ k. not (fits_width G (suc k))) (λ k l. ap not (none (suc k) (omega arith) (omega arith))))

  pub smallest_or_none : ((v : ℕ) × Smallest G v) ⊎ NoneFits G
  smallest_or_none =
      ⊎_elim
      (λ h. inr (λ w low high. let same : suc (w - 1) ≡ w = omega arith in rw same at (not-true (fits_width G (suc (w - 1))) (h (w - 1) (omega arith)))))
      (λ o. inl (
        suc o.0,
        record {
          from_one = omega arith;
          within = omega (arith, o.1.within);
          fitting = not-false _ o.1.fails;
          none_smaller = λ w low l. let same : suc (w - 1) ≡ w = omega arith in
              rw same at (not-true (fits_width G (suc (w - 1))) (o.1.before (w - 1) (omega arith)));
        },
      ))
      (holds_or_first most_width (λ k. not (fits_width G (suc k))))

abbrev pub LimitsHold : Setting → Type 0
LimitsHold G = AllHold (quote_limits G)

pub data Tried (G : Setting) (v : ℕ) : ℕ → Type 0 where
  refused : {c : ℕ} → Failed (quote_limits G) c → Tried G v c
  unfit : LimitsHold G → fits_width G v ≡ false → Tried G v 3
  fitting : LimitsHold G → fits_width G v ≡ true → Tried G v 0

pub tried : (G : Setting) (v : ℕ) → 1 ≤ v → v ≤ most_width → Tried G v (setting_number (widened G v))
tried G v low high =
    let number = widened_number G v low high in
    let fit = test (fits_width G v) 3 in
    ⊎_elim
    (λ h. ⊎_elim (λ e. subst⁻¹ (Tried G v) (number ∙ holding_number (hold_then fit h e)) (fitting h e))
    (λ e. subst⁻¹ (Tried G v) (number ∙ failed_number (failed_last fit h e)) (unfit h e)) (true_or_false (fits_width G v)))
    (λ f. subst⁻¹ (Tried G v) (number ∙ failed_number (failed_before fit f.1)) (refused f.1))
    (hold_or_failed (quote_limits G))

-- a limit that fails has none of the numbers of the tests behind the limits
pub limit_number : (G : Setting) {c : ℕ} → Failed (quote_limits G) c → (c ≡ 0 → ⊥) × (c ≡ 3 → ⊥) × (c ≡ 20 → ⊥)
limit_number G f = of_row (limit_in_table G (scale_and_bound_within G) f)
  where
    of_row : {c : ℕ} → LimitRow G c → (c ≡ 0 → ⊥) × (c ≡ 3 → ⊥) × (c ≡ 20 → ⊥)
    of_row sizes_row = (λ e. omega arith, λ e. omega arith, λ e. omega arith)
    of_row numbers_row = (λ e. omega arith, λ e. omega arith, λ e. omega arith)
    of_row (bias_bound_row b) = (λ e. omega arith, λ e. omega arith, λ e. omega arith)
    of_row rounding_row = (λ e. omega arith, λ e. omega arith, λ e. omega arith)

module _ {G : Setting} {v : ℕ} where
  pub tried_refused : {c : ℕ} → Tried G v c → (c ≡ 0 → ⊥) → (c ≡ 3 → ⊥) → Failed (quote_limits G) c
  tried_refused (refused f) zero three = f
  tried_refused (unfit h u) zero three = absurd (three refl)
  tried_refused (fitting h u) zero three = absurd (zero refl)

abbrev pub TriedBelow : Setting → ℕ → Type 0
TriedBelow G n = (w : ℕ) → w < n → 1 ≤ w → LimitsHold G × (fits_width G w ≡ false)

module _ (G : Setting) {v : ℕ} where
  pub first_fitting : 1 ≤ v → v ≤ most_width → TriedBelow G v → fits_width G v ≡ true → Smallest G v
  first_fitting low high before e =
      record { from_one = low; within = high; fitting = e; none_smaller = λ w one l. (before w l one).1 }

  pub none_fitting : most_width < v → TriedBelow G v → LimitsHold G × NoneFits G
  none_fitting past before = ((before 1 (omega arith) (omega arith)).0, λ w low high. (before w (omega arith) low).1)
