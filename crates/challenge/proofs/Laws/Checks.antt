-- The whole check: the tests of the ticket, then those of the list, then the rows.
--
--   ticket_passes   a ticket whose tests give the answer 0 passes
--   check_ticket    where the ticket is refused, so is the check
--   check_list      where the ticket passes and the list is refused, so is the check
--   check_rows      where both pass, the check is the verdict of the rows
--   rows_can        then the rows can be worked through
use Rattle.std.specs.Prelude.{◌≡◌, List, ℕ}
use Rattle.std.proofs.Common.{sym, ap, ◌∙◌}
use Rattle.ticket.specs.declared.setting.Setting.{Setting}
use Rattle.ticket.specs.declared.Answer.{Answer}
use Rattle.ticket.specs.Rules.{reading, refusal, after}
use Rattle.ticket.specs.Laws.Passes.{Passed}
use Rattle.ticket.proofs.Laws.Answers.{passed_zero}
use Rattle.ticket.proofs.Laws.Passes.{passed_of}
use Rattle.ticket.proofs.Laws.Scans.{after_first, after_second}
use Rattle.challenge.specs.Rules.{list_reading, verdict, challenge_check}
use Rattle.challenge.proofs.Laws.Lists.{well_formed_is}
use Rattle.challenge.specs.Laws.Vectors.{ListReady}

pub ticket_passes : {G : Setting} {t : List ℕ} → refusal 0 0 ≡ reading G t → Passed G t
ticket_passes is = passed_of _ _ (passed_zero is)

module _ (G : Setting) (t x : List ℕ) {a : Answer} (a-is : a ≡ reading G t) where
  pub check_ticket : (a.number ≡ 0 → ⊥) → a ≡ challenge_check G t x
  unfolding challenge_check
  check_ticket = after_first a-is (after (list_reading G x) (verdict G t x))

  module _ (passes : a.number ≡ 0) {b : Answer} (b-is : b ≡ list_reading G x) where
    pub check_list : (b.number ≡ 0 → ⊥) → b ≡ challenge_check G t x
    unfolding challenge_check
    check_list d = after_second a-is passes (after_first b-is (verdict G t x) d)

    module _ (formed : b.number ≡ 0) where
      pub check_rows : {c : Answer} → c ≡ verdict G t x → c ≡ challenge_check G t x
      unfolding challenge_check
      check_rows c-is = after_second a-is passes (after_second b-is formed c-is)

pub rows_can : {G : Setting} {t x : List ℕ} {b : Answer} → Passed G t → b ≡ list_reading G x → b.number ≡ 0 → ListReady G t x
rows_can {G} {x = x} passed b-is formed = record { passed = passed; list = (well_formed_is G x).0 (sym (ap (λ c. c.number) b-is) ∙ formed) }
