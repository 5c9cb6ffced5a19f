-- The beginnings of the three files decide: a file that is longer than any setting asks for is refused, however much of it is read,
-- if that is one byte more than the longest.
--
--   long_ticket         a ticket of more bytes than any is refused
--   read_begins         so it is where the file's first bytes are put at the beginning of a buffer
use Rattle.std.specs.Prelude.{ℕ, ◌*◌, ◌<◌, min, ◌≡◌, false, List, ◌++◌, length, take, drop}
use Rattle.std.proofs.Math.Decide.{ℕ_discrete}
use Rattle.std.proofs.Common.{arith, ⊎_elim, sym, ap, ◌∙◌, ne_eqb, length-append, length-take, length-drop, take_at}
use Rattle.ticket.specs.declared.setting.Setting.{Setting}
use Rattle.ticket.specs.declared.Answer.{Answer}
use Rattle.ticket.specs.Rules.{refusal, after, setting_tests, setting_number, reading, has_bias}
use Rattle.ticket.proofs.Laws.Tests.{hold_or_failed, failed_number}
use Rattle.ticket.proofs.Laws.Limits.ClampedSmall.{counts}
use Rattle.ticket.proofs.Laws.Limits.{limits_of, without_bias}
use Rattle.ticket.specs.Laws.Layout.{longest_ticket}
use Rattle.ticket.proofs.Laws.Layout.LengthMost.{length_most}
use Rattle.ticket.proofs.Laws.Kinds.{plain_none}
use Rattle.ticket.proofs.Laws.Refusals.{by_setting, refused_number, refused_reading, wrong_length}
use Rattle.ticket.proofs.Laws.Answers.{after_zero}
use Rattle.ticket.proofs.Laws.Passes.{passed_of}
use Rattle.ticket.proofs.Laws.Scans.{after_passed, after_refused}
use Rattle.files.specs.Rules.{setting_bytes, number_bytes, setting_of, file_check}
use Rattle.files.proofs.Laws.Prefixes.{by_start}
use Rattle.files.proofs.Laws.Checks.{setting_file_refused, after_setting}
use Rattle.files.specs.Laws.Starts.{longest_challenge, Begins, BuffersRoom, AnswerFor}
pub mod ChallengeStart
pub mod StartDecides
pub mod ReadDecides

pub long_ticket : (G : Setting) (t : List ℕ) → has_bias G ≡ false → longest_ticket < length t → reading G t ≡ after (refusal (setting_number G) 0) (refusal 4 0)
long_ticket G t none l =
    ⊎_elim
    (λ h. wrong_length G t (λ e.
    omega (arith, length_most (counts (limits_of G h).sizes), ap (λ n. G.rows * n) (without_bias G none).1)))
    (λ f. let number = failed_number f.1 in
    let refused = by_setting f.1 in
    refused_reading G t refused ∙ ap (λ c. refusal c 0) (sym number)
    ∙ sym (after_refused (refusal (setting_number G) 0) _ (λ z. omega (arith, refused_number G t refused))))
    (hold_or_failed (setting_tests G))

module _ (s t c : List ℕ) where
  abbrev G : Setting
  G = setting_of s

  file_plain : has_bias G ≡ false
  unfolding setting_of
  file_plain = plain_none _

  module _ (right : length s ≡ setting_bytes) where
    challenge_too_long : longest_challenge < length c → file_check s t c ≡ after (reading G t) (refusal 10 0)
    challenge_too_long l =
        after_setting s t c right
        ∙ elim (ℕ_discrete (reading G t).number 0) [
          | yes p ↦
              after_passed (reading G t) _ p ∙ rw (ne_eqb (length c) (number_bytes * (G.vectors * G.columns)) (λ z. omega (arith, (passed_of G t p).counts)))
              (sym (after_passed (reading G t) _ p))
          | no d ↦ after_refused (reading G t) _ d ∙ sym (after_refused (reading G t) _ d)
        ]

-- the file's first bytes, put at the beginning of a buffer, over what it held
pub read_begins : (buffer file : List ℕ)
    → Begins (take (length buffer) file ++ drop (length file) buffer) (min (length buffer) (length file)) file
read_begins buffer file =
    let read : length (take (length buffer) file) ≡ min (length buffer) (length file) = length-take (length buffer) file in
    let long : length (take (length buffer) file ++ drop (length file) buffer) ≡ length buffer =
    simp (length-append, length-take, length-drop) (omega arith) in
    take_at (take (length buffer) file) (drop (length file) buffer) _ read ∙ ap (λ n. take n file) (sym long)
