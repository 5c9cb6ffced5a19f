-- Settings without a bias and with one: without, every rule is that of a ticket of four parts (B3), and nothing of it reads a bound of
-- the bias; with one, the bound is tested and fits as the rules of bias tickets have it (B1). P is the public numbers, W the bound.
--
--   plain_none, bias_some      a plain setting has no bias, and the other has one
--   PlainParts P, plain_parts  the parts without a bias: the third has no records, and the others start where they do without it
--   plain_length, bias_length  how many bytes a ticket has
--   plain_tests, bias_tests    the tests of the setting, in order, with the fit
--   largest_bias_unfit         a bound of 2^30 passes test 17, and never fits
--   plain_due, bias_due        what a claim is compared with: S, or S + c
--   sum_added                  the sum with the bias is S and the bias entry
use Rattle.std.specs.Prelude.{◌≡◌, ℕ, ◌+◌, ◌-◌, ◌*◌, ◌^◌, ◌<◌, ◌≤◌, true, false, ◌&&◌, List, [], ◌∷◌, ℤ, ◌+ℤ◌, ◌≢◌, nat_le, nat_lt, refl}
use Rattle.std.proofs.Math.Decide.{dec_lt}
use Rattle.std.proofs.Common.{arith, ◌∙◌, le-leb, le-ltb}
use Rattle.std.proofs.Math.Path.{ap}
use Rattle.std.proofs.Math.Bool.{and-false}
use Rattle.std.proofs.lemmas.Bool.{lt-leb}
use Rattle.std.proofs.Math.IntN.{+ℤ_idr}
use Rattle.residue.specs.Rules.{modulus, signed_entry}
use Rattle.residue.proofs.Laws.Modulus.{modulus_below}
use Rattle.ticket.specs.declared.published.PlainSetting.{PlainSetting}
use Rattle.ticket.specs.declared.setting.Setting.{Setting}
use Rattle.ticket.specs.Rules.{test, first_failed, plain, with_bias, has_bias, bias_bound, bias_columns, bias_within, rounding_within, most_bias_bound, reach, half_range, sizes_within, numbers_within, fits_width, fits, limit_tests, setting_tests, setting_number, parts, part_size, part, start, records, holder, ticket_length, of_a, of_b, of_bias, of_quotients, of_remainders, value_in, entry_a, entry_b, exact_sum, biased_sum, due}
use Rattle.ticket.proofs.Laws.Differences.{bias_entry, no_bias_entry}
use Rattle.ticket.proofs.Laws.Layout.{parts_are, held}
use Rattle.ticket.proofs.Laws.Layout.StartOfB.{length_is}
use Rattle.ticket.specs.Laws.Limits.{Numbers}
use Rattle.ticket.proofs.Laws.Limits.{with_bias_lem, without_bias, range_double}
pub mod PlainOutside

pub plain_none : (P : PlainSetting) → has_bias (plain P) ≡ false
unfolding has_bias
plain_none P = refl

pub sum_added : (G : Setting) (A B C : ℕ → ℕ → ℤ) (i j : ℕ) → biased_sum G A B C i j ≡ exact_sum G A B i j +ℤ C i j
unfolding biased_sum
sum_added G A B C i j = refl

pub bias_some : (P : PlainSetting) (W : ℕ) → has_bias (with_bias P W) ≡ true
unfolding has_bias
bias_some P W = refl

module _ (P : PlainSetting) where
  abbrev G : Setting
  G = plain P

  none : (bias_bound G ≡ 0) × (bias_columns G ≡ 0)
  none = without_bias G (plain_none P)

  -- the parts

  pub record PlainParts : Type 0 where
    pub without : part_size (part (plain P) of_bias) ≡ 0
    pub from_a : start (plain P) of_a ≡ 0
    pub from_b : start (plain P) of_b ≡ P.rows * P.inner
    pub from_quotients : start (plain P) of_quotients ≡ P.rows * P.inner + P.inner * P.columns
    pub from_remainders : start (plain P) of_remainders ≡ P.rows * P.inner + P.inner * P.columns + P.rows * P.columns
    pub all : records (plain P) ≡ P.rows * P.inner + P.inner * P.columns + 2 * (P.rows * P.columns)

  pub plain_parts : PlainParts
  plain_parts =
      let are = parts_are G in
      let empty : P.rows * bias_columns G ≡ 0 = omega (arith, ap (λ n. P.rows * n) none.1) in
      record {
        without = omega (arith, are.size_bias);
        from_a = are.start_a;
        from_b = are.start_b;
        from_quotients = omega (arith, are.start_quotients);
        from_remainders = omega (arith, are.start_remainders);
        all = omega (arith, are.all);
      }

  pub plain_length : ticket_length (plain P) ≡ 8 * (P.rows * P.inner + P.inner * P.columns + 2 * (P.rows * P.columns))
  plain_length = omega (arith, length_is G, ap (λ n. P.rows * n) none.1)

  -- the tests of the setting

  pub plain_tests : setting_number (plain P) ≡ first_failed (
      test (sizes_within (plain P)) 1
      ∷ test (numbers_within (plain P)) 2
      ∷ test (nat_lt P.rounding P.scale) 19
      ∷ test (nat_le (P.inner * (P.bound * P.bound) + P.rounding + P.scale - 1) (2 ^ (P.width - 1) * P.scale)
      && nat_lt (2 ^ P.width * P.scale) modulus) 3
      ∷ [])
  unfolding setting_tests limit_tests bias_within rounding_within fits_width first_failed
  plain_tests =
      let sum = P.inner * (P.bound * P.bound) in
      let same : sum + bias_bound G + P.rounding + P.scale - 1 ≡ sum + P.rounding + P.scale - 1 = omega (arith, none.0) in
      rw (le-leb (bias_bound G) most_bias_bound (omega (arith, none.0)), same)

  -- what a claim is compared with

  pub plain_due : (t : List ℕ) (i j : ℕ) → due (plain P) t i j ≡ exact_sum (plain P) (entry_a (plain P) t) (entry_b (plain P) t) i j
  unfolding biased_sum
  plain_due t i j = ap (λ z. exact_sum G (entry_a G t) (entry_b G t) i j +ℤ z) (no_bias_entry G t i j (plain_none P)) ∙ +ℤ_idr _

module _ (P : PlainSetting) (W : ℕ) where
  abbrev H : Setting
  H = with_bias P W

  some : (bias_bound H ≡ W) × (bias_columns H ≡ P.columns)
  unfolding bias_bound
  some = (refl, (with_bias_lem H (bias_some P W)).1)

  pub bias_length : ticket_length (with_bias P W) ≡ 8 * (P.rows * P.inner + P.inner * P.columns + 3 * (P.rows * P.columns))
  bias_length = omega (arith, length_is H, ap (λ n. P.rows * n) some.1)

  pub bias_tests : setting_number (with_bias P W) ≡ first_failed (
      test (sizes_within (with_bias P W)) 1
      ∷ test (numbers_within (with_bias P W)) 2
      ∷ test (nat_le W (2 ^ 30)) 17
      ∷ test (nat_lt P.rounding P.scale) 19
      ∷ test (nat_le (P.inner * (P.bound * P.bound) + W + P.rounding + P.scale - 1) (2 ^ (P.width - 1) * P.scale)
      && nat_lt (2 ^ P.width * P.scale) modulus) 3
      ∷ [])
  unfolding setting_tests limit_tests bias_within rounding_within fits_width
  bias_tests = rw some.0

  pub bias_due : (t : List ℕ) (i j : ℕ)
      → due (with_bias P W) t i j
      ≡ exact_sum (with_bias P W) (entry_a (with_bias P W) t) (entry_b (with_bias P W) t) i j +ℤ signed_entry modulus (value_in (with_bias P W) t of_bias i j)
  unfolding biased_sum
  bias_due t i j = ap (λ z. exact_sum H (entry_a H t) (entry_b H t) i j +ℤ z) (bias_entry H t i j (bias_some P W))

pub largest_bias_unfit : (G : Setting) → bias_bound G ≡ most_bias_bound → Numbers G → (bias_within G ≡ true) × (fits G ≡ false)
unfolding bias_within fits_width
largest_bias_unfit G most numbers = (
  le-leb (bias_bound G) most_bias_bound (omega arith),
  elim (dec_lt (2 ^ G.width * G.scale) modulus) [
    | yes l ↦
        rw (lt-leb sum (half_range G * G.scale) (omega (arith, most, range_double numbers, numbers.scale, modulus_below)))
    | no l ↦ rw (le-ltb (2 ^ G.width * G.scale) modulus (omega arith))
        (and-false (nat_le sum (half_range G * G.scale)))
  ],
)
  where
    sum : ℕ
    sum = reach G + G.rounding + G.scale - 1
