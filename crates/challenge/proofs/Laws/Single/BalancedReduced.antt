-- What rests on .
--
--   balanced_reduced   and on these modulo p alone
use Rattle.std.specs.Prelude.{ℕ, ◌+◌, ◌%◌, ◌≡◌, List, eqb, ◌*ℤ◌}
use Rattle.std.proofs.Common.{◌∙◌}
use Rattle.std.proofs.Math.Path.{sym, ap}
use Rattle.std.proofs.Math.IntN.{pos}
use Rattle.residue.specs.Rules.{modulus, least_residue}
use Rattle.residue.proofs.Laws.Modulo.{mod_mul, mod_mul_left}
use Rattle.residue.proofs.Laws.Modulus.PartnerModuli.{modulus_positive}
use Rattle.residue.proofs.Laws.Residues.{residue_sum}
use Rattle.residue.proofs.Laws.Sums.{sum_mod_cong}
use Rattle.algebra.specs.Rules.{int_sum}
use Rattle.algebra.proofs.Laws.IntegerSums.ResidueDot.{residue_dot}
use Rattle.ticket.specs.declared.setting.Setting.{Setting}
use Rattle.ticket.specs.Rules.{entry_a, entry_bias}
use Rattle.challenge.specs.Rules.{challenge_at, claim_side, operand_side_by, balanced_by}

pub balanced_reduced : (G : Setting) (t x : List ℕ) (τ : ℕ) (f : ℕ → ℕ) (i : ℕ) → balanced_by G t x τ f i ≡ balanced_by G t x τ (λ k. f k % modulus) i
unfolding balanced_by operand_side_by
balanced_reduced G t x τ f i =
    ap (λ n. eqb (claim_side G t x τ i) n)
    (residue_sum modulus modulus_positive _ _
    ∙ ap (λ n. (n + least_residue modulus (int_sum G.columns (λ j. entry_bias G t i j *ℤ pos (challenge_at G x τ j)))) % modulus)
    (residue_dot modulus modulus_positive G.inner (entry_a G t i) f
    ∙ sum_mod_cong G.inner modulus _ _ (λ k l. sym (mod_mul modulus (least_residue modulus (entry_a G t i k)) (f k)) ∙ mod_mul_left modulus _ (f k % modulus))
    ∙ sym (residue_dot modulus modulus_positive G.inner (entry_a G t i) (λ k. f k % modulus)))
    ∙ sym (residue_sum modulus modulus_positive _ _))
