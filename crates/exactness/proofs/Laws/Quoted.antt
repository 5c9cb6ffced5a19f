-- What a quote says is what the writer and the checks report (Q3). G is a setting, with a bias or without, and v any width: the quote is
-- made without a width, and kept with every one with which the setting passes its tests.
--
--   passing_given      where the setting passes with a width v, figures are given, and no larger width
--   quoted_written     a ticket that the writer writes is as long as quoted, and so is its answer's place; its products are the quoted ones
--   quoted_full        the answer of a full check that accepts has the quoted products
--   quoted_challenge   and so has that of a challenge check that accepts
use Rattle.std.specs.Prelude.{ℕ, ◌≤◌, ◌≡◌, List, ℤ, length}
use Rattle.std.proofs.Common.{sym, ap, ◌∙◌}
use Rattle.ticket.specs.declared.setting.Setting.{Setting}
use Rattle.ticket.specs.Rules.{answer, setting_tests, setting_number, sum_products, ticket_length}
use Rattle.ticket.proofs.Laws.Passes.{passed_of}
use Rattle.ticket.specs.Laws.Tests.{AllHold}
use Rattle.ticket.proofs.Laws.Tests.{holding_number}
use Rattle.ticket.specs.Laws.Widths.{widened}
use Rattle.challenge.specs.Rules.{challenge_products, challenge_check, Accepted}
use Rattle.full.specs.Rules.{full_check, FullAccepted}
use Rattle.writer.specs.Rules.{writing, ticket_of}
use Rattle.writer.proofs.Laws.Answers.{ticket_written, writing_of}
use Rattle.writer.proofs.Laws.Records.{length_ticket_of}
use Rattle.quote.specs.Rules.{figures, quote_of}
use Rattle.quote.proofs.Laws.Quotes.PassingQuoted.{passing_quoted}
use Rattle.quote.proofs.Laws.Quotes.{figures_unread, quote_unread}
use Rattle.soundness.proofs.Laws.Answers.AnswerInTable.{accepted_number, accepted_exactly}
use Rattle.exactness.proofs.Laws.Full.FullAcceptedTrue.{full_accepted_number, full_accepted_true}
use Rattle.exactness.proofs.Laws.Writer.OutputLong.{writable_of, output_long}

module _ (G : Setting) (v : ℕ) where
  pub passing_given : setting_number (widened G v) ≡ 0 → (w : ℕ) × (w ≤ v) × (quote_of G ≡ figures G w)
  passing_given e = let q = passing_quoted (widened G v) e in (q.0, q.1, sym (quote_unread G v) ∙ q.2 ∙ figures_unread G v q.0)

  -- the setting with the width v, which passes its tests, has the quoted figures
  record Given : Type 0 where
    bytes : ticket_length (widened G v) ≡ (quote_of G).length
    sums : sum_products (widened G v) ≡ (quote_of G).full
    challenges : challenge_products (widened G v) ≡ (quote_of G).challenge

  given : AllHold (setting_tests (widened G v)) → Given
  given h =
      let q : quote_of G ≡ figures (widened G v) _ = sym (quote_unread G v) ∙ (passing_quoted (widened G v) (holding_number h)).2 in
      record {
        bytes = sym (ap (λ q. q.length) q);
        sums = sym (ap (λ q. q.full) q);
        challenges = sym (ap (λ q. q.challenge) q);
      }

  pub quoted_written : (A B C : List ℤ) (size : ℕ) → (writing (widened G v) A B C size).number ≡ 0
      → (writing (widened G v) A B C size ≡ answer 0 (quote_of G).length 0 (quote_of G).full)
      × (length (ticket_of (widened G v) A B C) ≡ (quote_of G).length)
  quoted_written A B C size e =
      let w = writable_of (widened G v) A B C size e in
      let g = given w.setting in (
        writing_of (widened G v) A B C size (ticket_written w (output_long (widened G v) A B C size e)) ∙ rw (g.bytes, g.sums),
        length_ticket_of (widened G v) A B C ∙ g.bytes,
      )

  pub quoted_full : (t : List ℕ) → FullAccepted (widened G v) t → full_check (widened G v) t ≡ answer 0 0 0 (quote_of G).full
  quoted_full t e =
      full_accepted_number (widened G v) t e
      ∙ ap (answer 0 0 0) (given (passed_of (widened G v) t ((full_accepted_true (widened G v) t).0 e).0).setting).sums

  pub quoted_challenge : (t x : List ℕ) → Accepted (widened G v) t x
      → challenge_check (widened G v) t x ≡ answer 0 0 0 (quote_of G).challenge
  quoted_challenge t x e =
      let a = accepted_number (widened G v) t x e in
      a ∙ ap (answer 0 0 0) (given (passed_of (widened G v) t ((accepted_exactly (widened G v) t x).0 a).ticket).setting).challenges
