-- A setting with another number of vectors: which rules do not read it, and that it passes the tests that the setting passes. G is a setting,
-- with a bias or without.
--
--   Unread G s, vectors_unread   the tests from 4 on, what the records stand for, what a claim puts for its sum, and the columns of the bias do
--                        not read it
--   vectored_number, vectored_passes   with a number of vectors within its limits, setting and ticket pass their tests as before
use Rattle.std.specs.Prelude.{◌≡◌, ℕ, ◌≤◌, true, List, refl}
use Rattle.std.proofs.Math.Path.{ap}
use Rattle.std.proofs.Common.{◌∙◌}
use borrow.Author.Tests.{le-leb}
use Rattle.ticket.specs.declared.setting.Setting.{Setting}
use Rattle.ticket.specs.Rules.{refusal, most_rows, most_inner, most_columns, most_vectors, sizes_within, scale_and_bound_within, numbers_within, bias_within, rounding_within, fits_width, limit_tests, setting_tests, setting_number, has_bias, bias_bound, bias_columns, parts, part, count, start, records, ticket_length, holder, part_tests, record_tests, records_reading, reading, Passes, value_in, entry_a, entry_b, entry_bias, quotient, remainder, claim}
use Rattle.ticket.proofs.Laws.Answers.{after_zero}
use Rattle.ticket.proofs.Laws.Limits.ClampedSmall.{setting_holds}
use Rattle.ticket.proofs.Laws.Limits.{sizes_of}
use Rattle.ticket.specs.Laws.Tests.{AllHold, one}
use Rattle.ticket.proofs.Laws.Tests.{holding_number}
use Rattle.ticket.specs.Laws.Vectors.{vectored}

pub record Unread (G : Setting) (s : ℕ) : Type 0 where
  pub reading_on : records_reading (vectored G s) ≡ records_reading G
  pub entries_a : entry_a (vectored G s) ≡ entry_a G
  pub entries_b : entry_b (vectored G s) ≡ entry_b G
  pub entries_bias : entry_bias (vectored G s) ≡ entry_bias G
  pub claims : claim (vectored G s) ≡ claim G
  pub bias_columns_lem : bias_columns (vectored G s) ≡ bias_columns G

pub vectors_unread : (G : Setting) (s : ℕ) → Unread G s
unfolding parts part count start records ticket_length holder part_tests record_tests records_reading value_in entry_a entry_b entry_bias has_bias bias_bound
    bias_columns quotient remainder claim
vectors_unread G s =
    record { reading_on = refl; entries_a = refl; entries_b = refl; entries_bias = refl; claims = refl; bias_columns_lem = refl }

module _ (G : Setting) {s : ℕ} (some : 1 ≤ s) (few : s ≤ most_vectors) where
  sizes_vectored : sizes_within G ≡ true → sizes_within (vectored G s) ≡ true
  unfolding sizes_within
  sizes_vectored e =
      let h = sizes_of G e in
      rw (
        le-leb 1 G.rows h.rows.0,
        le-leb G.rows most_rows h.rows.1,
        le-leb 1 G.inner h.inner.0,
        le-leb G.inner most_inner h.inner.1,
        le-leb 1 G.columns h.columns.0,
        le-leb G.columns most_columns h.columns.1,
        le-leb 1 s some,
        le-leb s most_vectors few,
      )

  tests_vectored : AllHold (setting_tests G) → AllHold (setting_tests (vectored G s))
  unfolding setting_tests limit_tests numbers_within scale_and_bound_within bias_within rounding_within fits_width has_bias bias_bound
  tests_vectored (one sizes rest) = one (sizes_vectored sizes) rest

  pub vectored_number : setting_number G ≡ 0 → setting_number (vectored G s) ≡ 0
  vectored_number e = holding_number (tests_vectored (setting_holds G e))

  pub vectored_passes : (t : List ℕ) → Passes G t → Passes (vectored G s) t
  unfolding reading
  vectored_passes t passes =
      let before = (after_zero (refusal (setting_number G) 0) (records_reading G t)).0 passes in
      (after_zero (refusal (setting_number (vectored G s)) 0) (records_reading (vectored G s) t)).1
      (vectored_number before.0, ap (λ f. (f t).number) (vectors_unread G s).reading_on ∙ before.1)
