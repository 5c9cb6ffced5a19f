-- What rests on Limits.
--
--   setting_holds          they all hold, where the number of the setting is 0
--   bias_there             a column of the bias is one of the claims, and there is a bias
--   bias_columns_most      the bias has at most as many columns as the claims
--   Counts G, counts       how many records the parts have at most, numbers a challenge list, and products all sums
--   Clamped G, clamped_small   the width and the scale of a clamped setting are not large, nor are products of its numbers
use Rattle.std.specs.Prelude.{◌≡◌, ℕ, ◌<◌, ◌≤◌, true}
use Rattle.std.proofs.Common.{le_trans, mul-le-mul, arith, ⊎_elim}
use Rattle.std.proofs.Math.Nat.{min-le_right}
use Rattle.ticket.specs.declared.setting.Setting.{Setting}
use Rattle.ticket.specs.Rules.{most_rows, most_inner, most_columns, most_scale, most_width, setting_tests, setting_number, has_bias, bias_columns}
use Rattle.ticket.proofs.Laws.First.{true_or_false}
use Rattle.ticket.specs.Laws.Tests.{AllHold}
use Rattle.ticket.proofs.Laws.Tests.TestsHold.{tests_hold}
use Rattle.ticket.specs.Laws.Limits.{Sizes, Counts, clamped, Clamped}
use Rattle.ticket.proofs.Laws.Limits.{setting_numbered, with_bias_lem, without_bias}

module _ (G : Setting) where
  pub bias_there : {j : ℕ} → j < bias_columns G → (has_bias G ≡ true) × (j < G.columns)
  bias_there m =
      ⊎_elim (λ e. (e, omega (arith, ((with_bias_lem G) e).1))) (λ e. absurd (omega (arith, ((without_bias G) e).1))) (true_or_false (has_bias G))

  pub bias_columns_most : bias_columns G ≤ G.columns
  bias_columns_most = ⊎_elim (λ e. omega (arith, ((with_bias_lem G) e).1)) (λ e. omega (arith, ((without_bias G) e).1)) (true_or_false (has_bias G))

pub counts : {G : Setting} → Sizes G → Counts G
counts {G} sizes =
    record {
      sizes = sizes;
      entries_a = mul-le-mul sizes.rows.1 sizes.inner.1;
      entries_b = mul-le-mul sizes.inner.1 sizes.columns.1;
      claims = mul-le-mul sizes.rows.1 sizes.columns.1;
      bias = mul-le-mul sizes.rows.1 (le_trans (bias_columns_most G) sizes.columns.1);
      challenges = mul-le-mul sizes.vectors.1 sizes.columns.1;
      products = mul-le-mul (mul-le-mul sizes.rows.1 sizes.inner.1) sizes.columns.1;
    }

pub setting_holds : (G : Setting) → setting_number G ≡ 0 → AllHold (setting_tests G)
setting_holds G e = tests_hold (setting_tests G) (setting_numbered G) e

pub clamped_small : (G : Setting) → Clamped (clamped G)
unfolding clamped
clamped_small G =
    let rows = min-le_right G.rows most_rows in
    let inner = min-le_right G.inner most_inner in
    let columns = min-le_right G.columns most_columns in
    record {
      entries_a = mul-le-mul rows inner;
      entries_b = mul-le-mul inner columns;
      claims = mul-le-mul rows columns;
      bias = mul-le-mul rows (le_trans (bias_columns_most (clamped G)) columns);
      products = mul-le-mul (mul-le-mul rows inner) columns;
      width = min-le_right G.width most_width;
      scale = min-le_right G.scale most_scale;
    }
