-- What rests on Starts.
use Rattle.std.specs.Prelude.{ℕ, ◌<◌, ◌≡◌, List, length, take}
use Rattle.std.proofs.Math.Decide.{ℕ_discrete}
use Rattle.std.proofs.Common.{arith, sym, ap, ◌∙◌}
use Rattle.ticket.specs.declared.setting.Setting.{Setting}
use Rattle.ticket.specs.Rules.{refusal, after, setting_number, reading}
use Rattle.ticket.specs.Laws.Layout.{longest_ticket}
use Rattle.ticket.proofs.Laws.Answers.{after_zero}
use Rattle.ticket.proofs.Laws.Scans.{after_refused}
use Rattle.files.specs.Rules.{setting_bytes, setting_of, file_check}
use Rattle.files.proofs.Laws.Prefixes.{by_start}
use Rattle.files.proofs.Laws.Checks.{setting_file_refused, after_setting}
use Rattle.files.specs.Laws.Starts.{longest_challenge}
use Rattle.files.proofs.Laws.Starts.{challenge_too_long, file_plain, long_ticket}

module _ (s t c : List ℕ) where
  abbrev G : Setting
  G = setting_of s

  pub setting_start : (i : ℕ) → setting_bytes < i → file_check (take i s) t c ≡ file_check s t c
  setting_start i h = by_start (λ l. file_check l t c) s h (λ x l. sym (setting_file_refused x t c (λ z. omega arith)))

  module _ (right : length s ≡ setting_bytes) where
    ticket_too_long : longest_ticket < length t → file_check s t c ≡ after (refusal (setting_number G) 0) (refusal 4 0)
    ticket_too_long l =
        let e = long_ticket G t (file_plain s t c) l in
        after_setting s t c right
        ∙ after_refused (reading G t) _ (λ z. omega (arith, (after_zero (refusal (setting_number G) 0) (refusal 4 0)).0 (sym (ap (λ a. a.number) e) ∙ z)))
        ∙ e

-- where the setting file has the right length, and where it has not
by_setting_file : (s t t' c c' : List ℕ) → (length s ≡ setting_bytes → file_check s t c ≡ file_check s t' c') → file_check s t c ≡ file_check s t' c'
by_setting_file s t t' c c' same =
    elim (ℕ_discrete (length s) setting_bytes) [
      | yes e ↦ same e
      | no d ↦ sym (setting_file_refused s t c d) ∙ setting_file_refused s t' c' d
    ]

pub ticket_start : (s t c : List ℕ) (j : ℕ) → longest_ticket < j → file_check s (take j t) c ≡ file_check s t c
ticket_start s t c j h = by_setting_file s (take j t) t c c (λ e. by_start (λ l. file_check s l c) t h (λ x. ticket_too_long s x c e))

pub challenge_start : (s t c : List ℕ) (k : ℕ) → longest_challenge < k → file_check s t (take k c) ≡ file_check s t c
challenge_start s t c k h = by_setting_file s t t (take k c) c (λ e. by_start (file_check s t) c h (λ x. challenge_too_long s t x e))
