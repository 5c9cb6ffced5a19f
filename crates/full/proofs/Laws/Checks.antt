-- The whole check, by the answer of reading.
--
--   check_refused    where reading refuses, the check does
--   check_passed     where it does not, the ticket passes
--   check_compared   and the check's answer is the verdict
use Rattle.std.specs.Prelude.{◌≡◌, ℕ, List, ◌≢◌}
use Rattle.std.proofs.Common.{sym, ap, ◌∙◌}
use Rattle.ticket.specs.declared.setting.Setting.{Setting}
use Rattle.ticket.specs.declared.Answer.{Answer}
use Rattle.ticket.specs.Rules.{reading}
use Rattle.ticket.specs.Laws.Passes.{Passed}
use Rattle.ticket.proofs.Laws.Passes.{passed_of}
use Rattle.ticket.proofs.Laws.Scans.{after_first, after_second}
use Rattle.full.specs.Rules.{full_verdict, full_check}

module _ (G : Setting) (t : List ℕ) {a : Answer} (a-is : a ≡ reading G t) where
  pub check_refused : (a.number ≢ 0) → a ≡ full_check G t
  unfolding full_check
  check_refused other = after_first a-is (full_verdict G t) other

  pub check_passed : a.number ≡ 0 → Passed G t
  check_passed e = passed_of G t (sym (ap (λ b. b.number) a-is) ∙ e)

  pub check_compared : a.number ≡ 0 → {b : Answer} → b ≡ full_verdict G t → b ≡ full_check G t
  unfolding full_check
  check_compared e b-is = after_second a-is e b-is
