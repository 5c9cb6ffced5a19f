-- The challenge check without a bias and with one: the sides of a row and the products (B3). P is the public numbers, W the bound of the
-- bias.
--
--   plain_side          without a bias, the row of A times u is compared with the claims
--   plain_row, plain_accepted, plain_caught   how many products a row, an accepted ticket and a caught one take without a bias
--   bias_row, bias_accepted, bias_caught      and with one
use Rattle.std.specs.Prelude.{ℕ, ◌+◌, ◌*◌, ◌≡◌, List, ◌+ℤ◌, ◌*ℤ◌}
use Rattle.std.proofs.Common.{arith, ◌∙◌}
use Rattle.std.proofs.Math.Path.{ap}
use Rattle.std.proofs.Math.IntN.{pos, +ℤ_idr, zero-*ℤ}
use Rattle.residue.specs.Rules.{modulus, least_residue}
use Rattle.algebra.specs.Rules.{int_sum}
use Rattle.algebra.proofs.Laws.IntegerSums.{int_sum_zero}
use Rattle.ticket.specs.declared.published.PlainSetting.{PlainSetting}
use Rattle.ticket.specs.declared.setting.Setting.{Setting}
use Rattle.ticket.specs.Rules.{plain, with_bias, bias_columns, entry_a, entry_bias}
use Rattle.ticket.proofs.Laws.Differences.{no_bias_entry}
use Rattle.ticket.proofs.Laws.Kinds.{plain_none, bias_some}
use Rattle.ticket.proofs.Laws.Limits.{with_bias_lem, without_bias}
use Rattle.challenge.specs.Rules.{challenge_at, product_b, operand_side, operand_side_by, row_products, challenge_products, caught_products}

module _ (P : PlainSetting) where
  abbrev G : Setting
  G = plain P

  none : bias_columns G ≡ 0
  none = (without_bias G (plain_none P)).1

  pub plain_side : (t x : List ℕ) (τ i : ℕ)
      → operand_side (plain P) t x τ i
      ≡ least_residue modulus (int_sum P.inner (λ k. entry_a (plain P) t i k *ℤ pos (product_b (plain P) t x τ k)))
  unfolding operand_side_by
  plain_side t x τ i =
      let row = int_sum P.inner (λ k. entry_a G t i k *ℤ pos (product_b G t x τ k)) in
      let zero = int_sum_zero P.columns (λ j. entry_bias G t i j *ℤ pos (challenge_at G x τ j))
      (λ j l. rw (no_bias_entry G t i j (plain_none P)) (zero-*ℤ (pos (challenge_at G x τ j)))) in
      ap (least_residue modulus) (ap (λ z. row +ℤ z) zero ∙ +ℤ_idr row)

  pub plain_row : row_products (plain P) ≡ P.columns + P.inner
  plain_row = omega (arith, none)

  pub plain_accepted : challenge_products (plain P) ≡ P.vectors * (P.inner * P.columns + P.rows * P.columns + P.rows * P.inner)
  plain_accepted = ap (λ n. P.vectors * (P.inner * P.columns + P.rows * n)) plain_row ∙ omega arith

  pub plain_caught : (τ i : ℕ) → caught_products (plain P) τ i
      ≡ τ * (P.inner * P.columns + P.rows * P.columns + P.rows * P.inner) + P.inner * P.columns + (i + 1) * (P.columns + P.inner)
  plain_caught τ i =
      ap (λ n. τ * (P.inner * P.columns + P.rows * n) + P.inner * P.columns + (i + 1) * n) plain_row ∙ omega arith

module _ (P : PlainSetting) (W : ℕ) where
  some : bias_columns (with_bias P W) ≡ P.columns
  some = (with_bias_lem (with_bias P W) (bias_some P W)).1

  pub bias_row : row_products (with_bias P W) ≡ 2 * P.columns + P.inner
  bias_row = omega (arith, some)

  pub bias_accepted : challenge_products (with_bias P W)
      ≡ P.vectors * (P.inner * P.columns + 2 * (P.rows * P.columns) + P.rows * P.inner)
  bias_accepted = ap (λ n. P.vectors * (P.inner * P.columns + P.rows * n)) bias_row ∙ omega arith

  pub bias_caught : (τ i : ℕ) → caught_products (with_bias P W) τ i
      ≡ τ * (P.inner * P.columns + 2 * (P.rows * P.columns) + P.rows * P.inner) + P.inner * P.columns
      + (i + 1) * (2 * P.columns + P.inner)
  bias_caught τ i =
      ap (λ n. τ * (P.inner * P.columns + P.rows * n) + P.inner * P.columns + (i + 1) * n) bias_row ∙ omega arith
