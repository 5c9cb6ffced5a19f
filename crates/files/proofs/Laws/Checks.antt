-- The check of the three files, as the code makes it. s, t and c are the bytes of setting.rec, ticket.rec and challenge.rec.
--
--   setting_file_refused   a setting file of another length is refused by 1
--   after_setting     a setting file of the right length: what comes after it
--   same_check        the check is the challenge check of any list that is as long as the setting asks exactly when the file is,
--                     and is then the file's numbers
--   as_call           files of the right lengths: the check is the challenge check of what they stand for
--   list_checked      the check by the list in the file
--   none_checked      the check by an empty list, where the file holds none
use Rattle.std.specs.Prelude.{ℕ, ◌*◌, ◌≡◌, refl, List, [], eqb, length}
use Rattle.std.proofs.Math.Decide.{ℕ_discrete}
use Rattle.std.proofs.Common.{arith, ap, ◌∙◌, eq-eqb, ne_eqb, mul-le-mul}
use Rattle.std.proofs.Math.Path.{sym}
use Rattle.ticket.specs.declared.setting.Setting.{Setting}
use Rattle.ticket.specs.Rules.{unless, refusal, after, reading, Passes}
use Rattle.ticket.proofs.Laws.Passes.{passed_of}
use Rattle.ticket.proofs.Laws.Scans.{after_passed, after_refused}
use Rattle.challenge.specs.Rules.{challenge_check}
use Rattle.challenge.proofs.Laws.Checks.{check_ticket, check_list}
use Rattle.challenge.proofs.Laws.Lists.{other_length}
use Rattle.files.specs.Rules.{setting_bytes, number_bytes, setting_of, numbers_of, file_check}
use Rattle.files.specs.Laws.Numbers.{ListOf, NoList}

module _ (s t c : List ℕ) where
  abbrev G : Setting
  G = setting_of s

  pub setting_file_refused : (length s ≡ setting_bytes → ⊥) → refusal 1 0 ≡ file_check s t c
  unfolding file_check
  setting_file_refused d = sym (rw (ne_eqb (length s) setting_bytes d))

  module _ (right : length s ≡ setting_bytes) where
    pub after_setting : file_check s t c
        ≡ after (reading G t)
        (unless (eqb (length c) (number_bytes * (G.vectors * G.columns))) (refusal 10 0) (challenge_check G t (numbers_of c)))
    unfolding file_check
    after_setting = rw (eq-eqb (length s) setting_bytes right)

    pub same_check : (x : List ℕ)
        → (Passes G t
        → (length x ≡ G.vectors * G.columns → length c ≡ number_bytes * (G.vectors * G.columns))
        × (length c ≡ number_bytes * (G.vectors * G.columns) → x ≡ numbers_of c))
        → challenge_check G t x ≡ file_check s t c
    same_check x same =
        elim (ℕ_discrete (reading G t).number 0) [
          | no d ↦ sym (check_ticket G t x refl d) ∙ sym (after_setting ∙ after_refused (reading G t) _ d)
          | yes p ↦
              elim (ℕ_discrete (length c) (number_bytes * (G.vectors * G.columns))) [
                | yes e ↦
                    ap (challenge_check G t) ((same p).1 e)
                    ∙ sym (after_setting ∙ after_passed (reading G t) _ p ∙ rw (eq-eqb _ _ e))
                | no d ↦
                    sym (check_list G t x refl p (other_length G x (λ e. d ((same p).0 e))) (λ z. omega arith))
                    ∙ sym (after_setting ∙ after_passed (reading G t) _ p ∙ rw (ne_eqb _ _ d))
              ]
        ]

    pub as_call : length c ≡ number_bytes * (G.vectors * G.columns) → file_check s t c ≡ challenge_check G t (numbers_of c)
    as_call e = sym (same_check (numbers_of c) (λ p. (λ z. e, λ z. refl)))

    pub list_checked : (x : List ℕ) → ListOf c x → challenge_check G t x ≡ file_check s t c
    list_checked x read = same_check x (λ p. (λ e. read.exact ∙ ap (λ n. number_bytes * n) e, λ e. read.numbers))

    pub none_checked : NoList c → challenge_check G t [] ≡ file_check s t c
    none_checked none =
        same_check [] (λ p.
        let counts = (passed_of G t p).counts in (
          λ e. absurd (omega (arith, counts.sizes, mul-le-mul counts.sizes.vectors.0 counts.sizes.columns.0)),
          λ e. absurd (none (G.vectors * G.columns) counts.challenges e),
        ))
