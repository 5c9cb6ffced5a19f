-- The rounding number o: with 0 every rule is the one without it (O3), and which rules do not read it. G is a setting, with a bias or
-- without.
--
--   unrounded_tests      with 0, the tests of the setting are 1, 2, 17 and 3, with the fit that has no o
--   unrounded_dividend   what is divided for a sum is the sum
--   rounded G o          the setting G with another rounding number
--   Unread G o, rounding_unread   the parts and the length, the tests from 4 on, what the records stand for, the bias, what a claim is
--                        compared with, and how many products the sums take, do not read it
use Rattle.std.specs.Prelude.{◌≡◌, ℕ, ◌+◌, ◌-◌, ◌*◌, ◌^◌, ◌&&◌, List, [], ◌∷◌, ℤ, pos, ◌+ℤ◌, ◌-ℤ◌, ◌*ℤ◌, nat_le, nat_lt, refl}
use Rattle.std.proofs.Common.{arith, sym, ◌∙◌, lt-ltb}
use Rattle.std.proofs.Math.Path.{ap}
use Rattle.std.proofs.Math.Logic.{⊎_elim}
use Rattle.std.proofs.Math.IntN.{+ℤ_idr, +ℤ-neg_ℤ_cancel}
use Rattle.residue.specs.Rules.{modulus}
use Rattle.ticket.specs.declared.setting.Setting.{Setting}
use Rattle.ticket.specs.Rules.{test, first_failed, reach, half_range, sizes_within, numbers_within, bias_within, rounding_within, fits_width, limit_tests, setting_tests, setting_number, sum_products, parts, part, count, start, records, ticket_length, holder, part_tests, record_tests, records_reading, value_in, entry_a, entry_b, entry_bias, has_bias, bias_bound, bias_columns, quotient, remainder, claim, exact_sum, biased_sum, due, dividend}
use Rattle.ticket.proofs.Laws.First.{true_or_false}
use Rattle.ticket.specs.Laws.Limits.{renumbered}
use Rattle.ticket.proofs.Laws.Limits.{numbers_of}
pub mod UnroundedClaim

module _ (G : Setting) (none : G.rounding ≡ 0) where
  pub unrounded_tests : setting_number G ≡ first_failed (
      test (sizes_within G) 1
      ∷ test (numbers_within G) 2
      ∷ test (bias_within G) 17
      ∷ test (nat_le (reach G + G.scale - 1) (half_range G * G.scale) && nat_lt (2 ^ G.width * G.scale) modulus) 3
      ∷ [])
  unfolding setting_tests limit_tests rounding_within fits_width first_failed
  unrounded_tests =
      let same : reach G + G.rounding + G.scale - 1 ≡ reach G + G.scale - 1 = omega (arith, none) in
      ⊎_elim
      (λ numbers. rw (lt-ltb G.rounding G.scale (omega (arith, none, (numbers_of G numbers).scale)), same))
      (λ e. rw e) (true_or_false (numbers_within G))

  pub unrounded_dividend : (S : ℤ) → dividend G S ≡ S
  unrounded_dividend S = ap (λ o. S +ℤ pos o) none ∙ +ℤ_idr S

abbrev pub rounded : Setting → ℕ → Setting
rounded G o = renumbered G G.vectors G.width o

pub record Unread (G : Setting) (o : ℕ) : Type 0 where
  pub layout : part (rounded G o) ≡ part G
  pub bytes : ticket_length (rounded G o) ≡ ticket_length G
  pub reading_on : records_reading (rounded G o) ≡ records_reading G
  pub entries_a : entry_a (rounded G o) ≡ entry_a G
  pub entries_b : entry_b (rounded G o) ≡ entry_b G
  pub entries_bias : entry_bias (rounded G o) ≡ entry_bias G
  pub quotients : quotient (rounded G o) ≡ quotient G
  pub remainders : remainder (rounded G o) ≡ remainder G
  pub bias_bound_lem : bias_bound (rounded G o) ≡ bias_bound G
  pub bias_columns_lem : bias_columns (rounded G o) ≡ bias_columns G
  pub sums : biased_sum (rounded G o) ≡ biased_sum G
  pub compared : due (rounded G o) ≡ due G
  pub products : sum_products (rounded G o) ≡ sum_products G

pub rounding_unread : (G : Setting) (o : ℕ) → Unread G o
unfolding parts part count start records ticket_length holder part_tests record_tests records_reading value_in entry_a entry_b entry_bias has_bias bias_bound
    bias_columns quotient remainder exact_sum biased_sum
rounding_unread G o =
    record {
      layout = refl;
      bytes = refl;
      reading_on = refl;
      entries_a = refl;
      entries_b = refl;
      entries_bias = refl;
      quotients = refl;
      remainders = refl;
      bias_bound_lem = refl;
      bias_columns_lem = refl;
      sums = refl;
      compared = refl;
      products = refl;
    }
