-- What rests on Limits.
--
--   LimitRow G c, limit_in_table   c is a number of the published table for the limits of a setting, and so is that of a test that fails
--   SettingRow G c, setting_in_table   likewise for all tests of a setting
--   bias_small             and so is twice the bound of its bias
use Rattle.std.specs.Prelude.{◌≡◌, ℕ, ◌*◌, ◌<◌, Bool, true}
use Rattle.std.proofs.Common.{arith, sym, ◌∙◌, true≢false, ⊎_elim}
use borrow.Author.Tests.{le-leb}
use Rattle.residue.specs.Rules.{modulus}
use Rattle.ticket.specs.declared.setting.Setting.{Setting}
use Rattle.ticket.specs.Rules.{most_bias_bound, bias_within, limit_tests, has_bias, bias_bound}
use Rattle.ticket.proofs.Laws.First.{true_or_false}
use Rattle.ticket.proofs.Laws.Tests.{Failed, here, later}
use Rattle.ticket.specs.Laws.Limits.{Numbers, Fitted}
use Rattle.ticket.proofs.Laws.Limits.{range_double, without_bias}

-- only a setting with a bias has the number 17
pub data LimitRow (G : Setting) : ℕ → Type 0 where
  sizes_row : LimitRow G 1
  numbers_row : LimitRow G 2
  bias_bound_row : has_bias G ≡ true → LimitRow G 17
  rounding_row : LimitRow G 19

pub limit_in_table : (G : Setting) (numbers : Bool) {c : ℕ} → Failed (limit_tests G numbers) c → LimitRow G c
unfolding limit_tests bias_within
limit_in_table G numbers (here e) = sizes_row
limit_in_table G numbers (later a (here e)) = numbers_row
limit_in_table G numbers (later a (later b (here e))) =
    ⊎_elim bias_bound_row
    (λ none. absurd (true≢false (sym (le-leb (bias_bound G) most_bias_bound (omega (arith, (without_bias G none).0))) ∙ e)))
    (true_or_false (has_bias G))
limit_in_table G numbers (later a (later b (later c (here e)))) = rounding_row
limit_in_table G numbers (later a (later b (later c (later _ x20)))) = elim x20 [ ]

pub data SettingRow (G : Setting) : ℕ → Type 0 where
  limit_row : {c : ℕ} → LimitRow G c → SettingRow G c
  fit_row : SettingRow G 3

pub bias_small : {G : Setting} → Numbers G → Fitted G → 2 * bias_bound G < modulus
bias_small numbers fitted = omega (arith, range_double numbers, fitted, numbers.scale)
