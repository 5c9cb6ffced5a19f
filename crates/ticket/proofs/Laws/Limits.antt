-- What a setting within its limits gives.
--
--   both                   both parts of a conjunction that holds do
--   within_both            a number within its limits is not below the low one nor above the high one
--   sizes_of, numbers_of   the first two, from their tests
--   Within G, limits_of    all three, from the tests of the setting
--   setting_numbered       the numbers of the tests
--   with_bias_lem, without_bias   bound and columns of the bias, where there is one and where there is none
--   half_small, half_double   half of the quotients' range is small, and twice that is the range
--   FitProducts G, fit_products   the products of the test of the fit, none of them large
--   range_double           twice that half times the scale, as the fit has it
--   lift_small             the lift, and the largest size of a sum, are together below p, where the setting fits
--   clamped_same           that is the setting itself, where it is within its limits
--   number_by_lem              by that half it is the setting's number
--   lift_made              the lift as the code makes it, of that half, is the setting's and below p
use Rattle.std.specs.Prelude.{◌≡◌, ℕ, suc, ◌+◌, ◌-◌, ◌*◌, ◌^◌, ◌<◌, ◌≤◌, Bool, true, false, ◌&&◌, Option, Some, None, is_some, refl}
use Rattle.std.proofs.Common.{le_trans, mul-le-mul, pow-suc, arith, sym, ap, subst, ◌∙◌, true≢false, inl, inr, ⊎_elim, pow_mono}
use Rattle.std.specs.Option.{unwrap_or}
use Rattle.std.proofs.Math.Nat.{min-eq_left, min-le_right}
use Rattle.std.proofs.Math.Bool.{and-eq-true_iff}
use borrow.Author.Tests.{leb-true, ltb-true, le-leb, lt-ltb, le-ltb}
use Rattle.residue.specs.Rules.{modulus}
use Rattle.ticket.specs.declared.setting.Setting.{Setting}
use Rattle.ticket.specs.Rules.{test, first_failed, within, most_rows, most_inner, most_columns, most_scale, most_bound, most_width, most_bias_bound, bias_within, reach, half_range, sizes_within, scale_and_bound_within, numbers_within, fits_width, fits, limit_tests, setting_tests, setting_number, has_bias, bias_bound, bias_columns}
use Rattle.ticket.proofs.Laws.First.{true_or_false}
use Rattle.ticket.specs.Laws.Tests.{AllHold}
use Rattle.ticket.proofs.Laws.Tests.{Failed, here, later, first_holds, rest_hold, Numbered, failed_split}
use Rattle.ticket.proofs.Laws.Tests.TestsHold.{tests_hold}
use Rattle.ticket.specs.Laws.Limits.{Sizes, Numbers, Fitted, Counts, Within, lift, clamped, number_by, Clamped}
pub mod ClampedSmall
pub mod BiasSmall
pub mod SettingInTable

pub both : (a b : Bool) → (a && b) ≡ true → (a ≡ true) × (b ≡ true)
both a b e = (and-eq-true_iff a b).0 e

pub within_both : {low high n : ℕ} → within low high n ≡ true → (low ≤ n) × (n ≤ high)
within_both e = let h = both _ _ e in (leb-true _ _ h.0, leb-true _ _ h.1)

-- the products of the test of the fit: none is large
pub record FitProducts (G : Setting) : Type 0 where
  pub square : G.bound * G.bound ≤ most_bound * most_bound
  pub sums : G.inner * (G.bound * G.bound) ≤ most_inner * (most_bound * most_bound)
  pub lifted : (half : ℕ) → half ≤ 2 ^ 32 → half * G.scale ≤ 2 ^ 32 * most_scale

none_bound : (b : Option ℕ) → is_some b ≡ false → unwrap_or b 0 ≡ 0
none_bound (Some _) e = absurd (true≢false e)
none_bound None e = refl

some_bound : (b : Option ℕ) → is_some b ≡ true → b ≡ Some (unwrap_or b 0)
some_bound (Some _) e = refl
some_bound None e = absurd (true≢false (sym e))

module _ (G : Setting) where
  pub with_bias_lem : has_bias G ≡ true → (G.bias ≡ Some (bias_bound G)) × (bias_columns G ≡ G.columns)
  unfolding has_bias bias_bound bias_columns
  with_bias_lem e = (some_bound G.bias e, rw e)

  pub without_bias : has_bias G ≡ false → (bias_bound G ≡ 0) × (bias_columns G ≡ 0)
  unfolding has_bias bias_bound bias_columns
  without_bias e = (none_bound G.bias e, rw e)

pub sizes_of : (G : Setting) → sizes_within G ≡ true → Sizes G
unfolding sizes_within
sizes_of G e =
    let h = both _ _ e in
    let k = both _ _ h.0 in
    let l = both _ _ k.0 in
    record { rows = within_both l.0; inner = within_both l.1; columns = within_both k.1; vectors = within_both h.1 }

pub numbers_of : (G : Setting) → numbers_within G ≡ true → Numbers G
unfolding numbers_within scale_and_bound_within
numbers_of G e =
    let h = both _ _ e in
    let k = both _ _ h.0 in
    record { scale = within_both k.0; bound = within_both k.1; width = within_both h.1 }

fitted_of : (G : Setting) → fits G ≡ true → Fitted G
unfolding fits_width
fitted_of G e = let h = both _ _ e in record { sums = leb-true _ _ h.0; claims = ltb-true _ _ h.1 }

pub limits_of : (G : Setting) → AllHold (setting_tests G) → Within G
unfolding setting_tests limit_tests
limits_of G h =
    let rest = rest_hold h in
    let last = rest_hold (rest_hold (rest_hold rest)) in
    record { sizes = sizes_of G (first_holds h); numbers = numbers_of G (first_holds rest); fitted = fitted_of G (first_holds last) }

pub setting_numbered : (G : Setting) → Numbered (setting_tests G)
unfolding setting_tests limit_tests Numbered
setting_numbered G = (
  (omega arith, inl (omega arith)),
  ((omega arith, inl (omega arith)), ((omega arith, inr (omega arith)), ((omega arith, inr (omega arith)), ((omega arith, inl (omega arith)), tt)))),
)

pub half_small : {G : Setting} → Numbers G → half_range G ≤ 2 ^ 29
half_small {G} numbers = pow_mono {j = 29} (omega arith)

pub half_double : {G : Setting} → Numbers G → 2 * half_range G ≡ 2 ^ G.width
half_double {G} numbers =
    let more : G.width ≡ suc (G.width - 1) = omega arith in
    omega (arith, pow-suc 2 (G.width - 1), ap (λ n. 2 ^ n) more)

pub fit_products : {G : Setting} → Sizes G → Numbers G → FitProducts G
fit_products sizes numbers =
    let square = mul-le-mul numbers.bound.1 numbers.bound.1 in
    record { square = square; sums = mul-le-mul sizes.inner.1 square; lifted = λ half l. mul-le-mul l numbers.scale.1 }

pub range_double : {G : Setting} → Numbers G → 2 * (half_range G * G.scale) ≡ 2 ^ G.width * G.scale
range_double {G} numbers = omega (arith, ap (λ n. n * G.scale) (half_double numbers))

pub lift_small : {G : Setting} → Numbers G → Fitted G → reach G + lift G < modulus
lift_small numbers fitted = omega (arith, range_double numbers, fitted, numbers.scale)

pub clamped_same : {G : Setting} → Sizes G → Numbers G → clamped G ≡ G
unfolding clamped
clamped_same {G} sizes numbers =
    rw (min-eq_left sizes.rows.1, min-eq_left sizes.inner.1, min-eq_left sizes.columns.1)
    (rw (min-eq_left numbers.scale.1, min-eq_left numbers.width.1))

pub number_by_lem : (G : Setting) {half : ℕ} → half ≡ half_range (clamped G) → number_by G half ≡ setting_number G
unfolding number_by setting_tests limit_tests first_failed fits_width
number_by_lem G half_is =
    ⊎_elim
    (λ sizes. ⊎_elim
    (λ numbers. let same : clamped G ≡ G = clamped_same (sizes_of G sizes) (numbers_of G numbers) in
    rw (half_is, same, range_double (numbers_of G numbers)))
    (λ e. rw e) (true_or_false (numbers_within G)))
    (λ e. rw e) (true_or_false (sizes_within G))

pub lift_made : {G : Setting} → Sizes G → Numbers G → Fitted G → {half n : ℕ} → half ≡ half_range (clamped G)
    → n ≡ half * (clamped G).scale + G.rounding → (n ≡ lift G) × (n < modulus)
lift_made {G} sizes numbers fitted {n = n} half_is made =
    let is : n ≡ lift G = made ∙ rw (half_is, clamped_same sizes numbers) in
    (is, omega (arith, is, lift_small numbers fitted))
