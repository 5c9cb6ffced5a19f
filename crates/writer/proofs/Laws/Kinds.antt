-- The writer without a bias (B3). P is the public numbers, A and B the operands, s the output's length.
--
--   plain_operands   the tests of the operands: 13 and 14
--   plain_sum        what a claim is made for: the exact sum
use Rattle.std.specs.Prelude.{◌≡◌, ℕ, List, [], ◌++◌, length, ℤ, ◌==◌}
use Rattle.std.proofs.Math.Decide.{ℕ_discrete}
use Rattle.std.proofs.Common.{arith, ◌∙◌, eq-eqb}
use Rattle.std.proofs.Math.Path.{sym}
use Rattle.std.proofs.Math.IntN.{+ℤ_idr}
use Rattle.ticket.specs.declared.published.PlainSetting.{PlainSetting}
use Rattle.ticket.specs.declared.setting.Setting.{Setting}
use Rattle.ticket.specs.Rules.{unless, refusal, after, first_refusal, plain, bias_bound, bias_columns, part, part_size, of_a, of_b, of_bias, exact_sum}
use Rattle.ticket.proofs.Laws.Kinds.{plain_parts, sum_added}
use Rattle.ticket.proofs.Laws.Scans.{refusal_none, after_passed, after_refused}
use Rattle.ticket.proofs.Laws.Answers.{scan_zero}
use Rattle.writer.specs.Rules.{beyond_number, operands_reading, entry_of, sum_for}

module _ (P : PlainSetting) (A B : List ℤ) where
  abbrev G : Setting
  G = plain P

  pub plain_operands : operands_reading (plain P) A B []
      ≡ unless (length A == part_size (part (plain P) of_a)) (refusal 13 0)
      (unless (length B == part_size (part (plain P) of_b)) (refusal 13 1)
      (first_refusal 0 (length (A ++ B)) (beyond_number P.bound 14 (A ++ B))))
  unfolding operands_reading
  plain_operands =
      let number = beyond_number P.bound 14 (A ++ B) in
      let entries = first_refusal 0 (length (A ++ B)) number in
      let added = first_refusal (length (A ++ B)) 0 (beyond_number (bias_bound G) 18 []) in
      let nothing : added ≡ refusal 0 0 = refusal_none (length (A ++ B)) 0 (beyond_number (bias_bound G) 18 []) (λ k l. absurd (omega arith)) in
      let alone : after entries added ≡ entries =
      elim (ℕ_discrete entries.number 0) [
        | yes z ↦
            after_passed entries added z ∙ nothing
            ∙ sym (refusal_none 0 (length (A ++ B)) number ((scan_zero 0 (length (A ++ B)) number).0 z))
        | no d ↦ after_refused entries added d
      ] in
      rw (eq-eqb 0 (part_size (part G of_bias)) (sym (plain_parts P).without), alone)

  pub plain_sum : (i j : ℕ) → sum_for (plain P) A B [] i j ≡ exact_sum (plain P) (entry_of P.inner A) (entry_of P.columns B) i j
  plain_sum i j =
      sum_added G (entry_of P.inner A) (entry_of P.columns B) (entry_of (bias_columns G) []) i j
      ∙ +ℤ_idr (exact_sum G (entry_of P.inner A) (entry_of P.columns B) i j)
