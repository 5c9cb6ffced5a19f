-- A setting with another width: which rules do not read the width (Q1), and the number of the setting. G is a setting, with a bias or
-- without.
--
--   Unread G v, width_unread   the limits but for that of the width, the fit with a given width, the bytes of a ticket, the columns of the
--                        bias and how many products the sums take do not read it
--   largest_width_unfit  no setting of a scale within its limits fits with the largest width
use Rattle.std.specs.Prelude.{◌≡◌, ℕ, ◌*◌, ◌^◌, ◌≤◌, false, [], ◌∷◌, ◌++◌, refl}
use Rattle.std.proofs.Common.{arith, le-leb, le-ltb}
use Rattle.std.proofs.Math.Bool.{and-true, and-false}
use Rattle.residue.specs.Rules.{modulus}
use Rattle.residue.proofs.Laws.Modulus.{modulus_below}
use Rattle.ticket.specs.declared.setting.Setting.{Setting}
use Rattle.ticket.specs.Rules.{test, first_failed, most_width, sizes_within, scale_and_bound_within, numbers_within, bias_within, rounding_within, fits_width, limit_tests, setting_tests, setting_number, sum_products, has_bias, bias_bound, bias_columns, parts, count, records, ticket_length}
use Rattle.ticket.specs.Laws.Widths.{widened}
pub mod WidenedNumber

pub record Unread (G : Setting) (v : ℕ) : Type 0 where
  pub limits : limit_tests (widened G v) ≡ limit_tests G
  pub numbers : scale_and_bound_within (widened G v) ≡ scale_and_bound_within G
  pub fit : fits_width (widened G v) ≡ fits_width G
  pub bytes : ticket_length (widened G v) ≡ ticket_length G
  pub bias_columns_lem : bias_columns (widened G v) ≡ bias_columns G
  pub products : sum_products (widened G v) ≡ sum_products G

pub width_unread : (G : Setting) (v : ℕ) → Unread G v
unfolding sizes_within scale_and_bound_within bias_within rounding_within fits_width limit_tests
    has_bias bias_bound bias_columns parts count records ticket_length
width_unread G v = record { limits = refl; numbers = refl; fit = refl; bytes = refl; bias_columns_lem = refl; products = refl }

pub largest_width_unfit : (G : Setting) → 2 ≤ G.scale → fits_width G most_width ≡ false
unfolding fits_width
largest_width_unfit G two = rw (le-ltb (2 ^ most_width * G.scale) modulus (omega (arith, modulus_below)), and-false)
