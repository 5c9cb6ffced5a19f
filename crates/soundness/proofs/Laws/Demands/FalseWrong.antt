-- What rests on Demands.
--
--   difference G t i j      what the claim in row i, column j is off its sum by
--   balanced_is             a row is balanced exactly when the row of differences times the vector is 0 modulo p
--   false_wrong             a column in which the ticket is false has a difference that is not 0 modulo p
use Rattle.std.specs.Prelude.{ℕ, ◌<◌, ◌≡◌, ◌↔◌, true, List, ℤ, pos, ◌+ℤ◌, ◌-ℤ◌, ◌*ℤ◌}
use Rattle.std.proofs.Common.{sym, ap, ◌∙◌, eqb-true, eq-eqb}
use Rattle.std.proofs.Math.IntN.{+ℤ_idl, -ℤ-+ℤ_cancel}
use Rattle.residue.specs.Rules.{modulus, least_residue}
use Rattle.residue.proofs.Laws.Modulus.PartnerModuli.{modulus_positive}
use Rattle.algebra.specs.Rules.{int_sum}
use Rattle.algebra.proofs.Laws.MatrixProducts.{row_balances}
use Rattle.algebra.proofs.Laws.Soundness.{Wrong, wrong_of_small}
use Rattle.ticket.specs.declared.setting.Setting.{Setting}
use Rattle.ticket.specs.Rules.{Passes, claim, due, FalseIn}
use Rattle.ticket.proofs.Laws.Passes.{passed_of}
use Rattle.ticket.proofs.Laws.Differences.ClaimsClose.{claims_close}
use Rattle.challenge.specs.Rules.{challenge_at, claim_side, balanced, balanced_by}
use Rattle.soundness.proofs.Laws.Demands.{operand_side_lem}

abbrev pub difference : Setting → List ℕ → ℕ → ℕ → ℤ
difference G t i j = claim G t i j -ℤ due G t i j

pub balanced_is : (G : Setting) (t x : List ℕ) (τ i : ℕ) → (balanced G t x τ i ≡ true)
    ↔ (least_residue modulus (int_sum G.columns (λ j. difference G t i j *ℤ pos (challenge_at G x τ j))) ≡ 0)
unfolding balanced_by claim_side
balanced_is G t x τ i = (
  λ e. rows.0 (eqb-true _ _ e ∙ operand_side_lem G t x τ i),
  λ z. eq-eqb _ _ (rows.1 z ∙ sym (operand_side_lem G t x τ i)),
)
  where
    rows : (claim_side G t x τ i ≡ least_residue modulus (int_sum G.columns (λ j. due G t i j *ℤ pos (challenge_at G x τ j))))
        ↔ (least_residue modulus (int_sum G.columns (λ j. difference G t i j *ℤ pos (challenge_at G x τ j))) ≡ 0)
    rows = row_balances modulus modulus_positive G.columns (claim G t i) (due G t i) (challenge_at G x τ)

pub false_wrong : (G : Setting) (t : List ℕ) → Passes G t → (j : ℕ) (column : FalseIn G t j)
    → Wrong modulus G.rows G.columns (difference G t) column.1.0 j
false_wrong G t passes j column =
    let i = column.1.0 in
    let row : i < G.rows = column.1.1 in
    wrong_of_small row column.0
    (λ z. column.1.2 (sym (-ℤ-+ℤ_cancel (claim G t i j) (due G t i j)) ∙ ap (λ d. d +ℤ due G t i j) z ∙ +ℤ_idl (due G t i j)))
    (claims_close (passed_of G t passes) i j row column.0)
