-- Every answer of the program is a row of the published table.
--
--   file_answer_in_table   it is, whatever the three files hold
use Rattle.std.specs.Prelude.{ℕ, ◌+◌, ◌*◌, ◌≡◌, List, length, replicate}
use Rattle.std.proofs.Math.Decide.{ℕ_discrete}
use Rattle.std.proofs.Common.{arith, sym, subst}
use Rattle.std.proofs.Math.ListN.{length-replicate}
use Rattle.ticket.specs.declared.setting.Setting.{Setting}
use Rattle.ticket.proofs.Laws.Limits.BiasSmall.{sizes_row, limit_row}
use Rattle.ticket.proofs.Laws.Refusals.{by_setting_row}
use Rattle.challenge.specs.Rules.{challenge_check}
use Rattle.soundness.proofs.Laws.Answers.{TableRow, reading_row}
use Rattle.soundness.proofs.Laws.Answers.AnswerInTable.{answer_in_table}
use Rattle.files.specs.Rules.{setting_bytes, number_bytes, setting_of, numbers_of, file_check}
use Rattle.files.proofs.Laws.Checks.{setting_file_refused, same_check, as_call}

module _ (s t c : List ℕ) where
  abbrev G : Setting
  G = setting_of s

  -- a list that is too long, for a file of another length than the setting asks for
  longer : List ℕ
  longer = replicate (G.vectors * G.columns + 1) 0

  as_longer : length s ≡ setting_bytes → (length c ≡ number_bytes * (G.vectors * G.columns) → ⊥) → challenge_check G t longer ≡ file_check s t c
  unfolding longer
  as_longer right wrong =
      same_check s t c right longer
      (λ p. (λ e. absurd (omega (arith, length-replicate {A = ℕ} (G.vectors * G.columns + 1) 0)), λ e. absurd (wrong e)))

  pub file_answer_in_table : TableRow G (file_check s t c)
  file_answer_in_table =
      elim (ℕ_discrete (length s) setting_bytes) [
        | no d ↦ subst (TableRow G) (setting_file_refused s t c d) (reading_row (by_setting_row (limit_row sizes_row)))
        | yes right ↦
            elim (ℕ_discrete (length c) (number_bytes * (G.vectors * G.columns))) [
              | yes e ↦ subst (TableRow G) (sym (as_call s t c right e)) (answer_in_table G t (numbers_of c))
              | no d ↦ subst (TableRow G) (as_longer right d) (answer_in_table G t longer)
            ]
      ]
