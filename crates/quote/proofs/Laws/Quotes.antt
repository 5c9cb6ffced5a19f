-- Which quote is given when (Q2), and that the width is not read (Q1). G is a setting, with a bias or without.
--
--   QuoteFor G q       the condition of the quote q, no earlier test failing
--   quote_of_lem           where that condition holds, q is the quote
--   quote_for          for some q it holds
--   QuoteRow G q, quote_in_table   every quote is a row of the published table
--   figures_unread     bytes and products do not read the width
--   quote_unread       settings that differ in their width alone have the same quote (Q1)
use Rattle.std.specs.Prelude.{ℕ, ◌≤◌, ◌↔◌, ◌≡◌, refl, leb}
use Rattle.std.proofs.Math.Decide.{dec_le}
use Rattle.std.proofs.Common.{arith, ⊎_elim, sym, ap, ◌∙◌, true≢false}
use borrow.Author.Tests.{le-leb, lt-leb, ne_eqb}
use Rattle.ticket.specs.declared.setting.Setting.{Setting}
use Rattle.ticket.specs.Rules.{Test, test, most_width, scale_and_bound_within, fits_width, setting_number}
use Rattle.ticket.proofs.Laws.Limits.BiasSmall.{LimitRow, limit_in_table}
use Rattle.ticket.proofs.Laws.Limits.{limits_of}
use Rattle.ticket.proofs.Laws.Limits.ClampedSmall.{setting_holds}
use Rattle.ticket.proofs.Laws.Tests.{Failed, hold_or_failed, holding_number, failed_number, hold_then, failed_before, failed_last}
use Rattle.ticket.specs.Laws.Widths.{widened}
use Rattle.ticket.proofs.Laws.Widths.{width_unread}
use Rattle.ticket.proofs.Laws.Widths.WidenedNumber.{widened_number}
use Rattle.quote.specs.declared.Quote.{Quote}
use Rattle.quote.specs.Rules.{smallest_width, quote_limits, quote_tests, figures, no_figures, quote_of}
use Rattle.quote.proofs.Laws.Widths.{Smallest, NoneFits, smallest_is, none_is, smallest_or_none, LimitsHold, limit_number, tried}
use Rattle.quote.proofs.Laws.Widths.TriedUnfit.{tried_fits}
pub mod PassingQuoted
pub mod ConditionOf
pub mod UnquotedExactly
pub mod QuotedPasses
pub mod QuoteInTable

pub data QuoteFor (G : Setting) : Quote → Type 0 where
  limit_fails : {c : ℕ} → Failed (quote_limits G) c → QuoteFor G (no_figures c)
  no_width : LimitsHold G → NoneFits G → QuoteFor G (no_figures 20)
  smallest_width_lem : {v : ℕ} → LimitsHold G → Smallest G v → QuoteFor G (figures G v)

pub data QuoteRow (G : Setting) : Quote → Type 0 where
  quoted_row : (v : ℕ) → 1 ≤ v → v ≤ most_width → QuoteRow G (figures G v)
  limit_row : {c : ℕ} → LimitRow G c → QuoteRow G (no_figures c)
  no_width_row : QuoteRow G (no_figures 20)

module _ (G : Setting) where
  abbrev last : Test
  last = test (leb (smallest_width G) most_width) 20

  refused : {c : ℕ} → Failed (quote_tests G) c → (c ≡ 0 → ⊥) → quote_of G ≡ no_figures c
  unfolding quote_of
  refused {c} f other = rw (failed_number f, ne_eqb c 0 other)

  pub quote_of_lem : {q : Quote} → QuoteFor G q → quote_of G ≡ q
  unfolding quote_of quote_tests
  quote_of_lem (limit_fails f) = refused (failed_before last f) (limit_number G f).0
  quote_of_lem (no_width h none) =
      refused (failed_last last h (lt-leb (smallest_width G) most_width (omega (arith, none_is G none)))) (λ e. omega arith)
  quote_of_lem (smallest_width_lem {v} h s) =
      rw (holding_number (hold_then last h (le-leb (smallest_width G) most_width (omega (arith, smallest_is G s, s.within)))), smallest_is G s)

  pub quote_for : (q : Quote) × QuoteFor G q
  quote_for =
      ⊎_elim
      (λ h. ⊎_elim (λ s. (figures G s.0, smallest_width_lem h s.1)) (λ none. (no_figures 20, no_width h none)) (smallest_or_none G))
      (λ f. (no_figures f.0, limit_fails f.1))
      (hold_or_failed (quote_limits G))

  row_of : {q : Quote} → QuoteFor G q → QuoteRow G q
  row_of (limit_fails f) = limit_row (limit_in_table G (scale_and_bound_within G) f)
  row_of (no_width h none) = no_width_row
  row_of (smallest_width_lem {v} h s) = quoted_row v s.from_one s.within

module _ (G : Setting) (v : ℕ) where
  pub figures_unread : (w : ℕ) → figures (widened G v) w ≡ figures G w
  figures_unread w = let same = width_unread G v in rw (same.bytes, same.bias_columns_lem)

  pub quote_unread : quote_of (widened G v) ≡ quote_of G
  unfolding quote_of quote_tests smallest_width
  quote_unread = let same = width_unread G v in rw (same.limits, same.numbers, same.fit, same.bytes, same.bias_columns_lem)
