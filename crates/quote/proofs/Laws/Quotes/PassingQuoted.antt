-- What rests on Quotes.
--
--   quote_exactly      the quote is q exactly when it holds
--   passing_quoted     a setting that passes its tests is given figures, and no larger width than its own
use Rattle.std.specs.Prelude.{ℕ, ◌≤◌, ◌↔◌, ◌≡◌}
use Rattle.std.proofs.Math.Decide.{dec_le}
use Rattle.std.proofs.Common.{arith, ⊎_elim, sym, ◌∙◌, true≢false}
use Rattle.ticket.specs.declared.setting.Setting.{Setting}
use Rattle.ticket.specs.Rules.{setting_number}
use Rattle.ticket.proofs.Laws.Limits.{limits_of}
use Rattle.ticket.proofs.Laws.Limits.ClampedSmall.{setting_holds}
use Rattle.quote.specs.declared.Quote.{Quote}
use Rattle.quote.specs.Rules.{figures, quote_of}
use Rattle.quote.proofs.Laws.Widths.{smallest_or_none, tried}
use Rattle.quote.proofs.Laws.Widths.TriedUnfit.{tried_fits}
use Rattle.quote.proofs.Laws.Quotes.{smallest_width_lem, QuoteFor, quote_for, quote_of_lem}

module _ (G : Setting) where
  pub quote_exactly : (q : Quote) → (quote_of G ≡ q) ↔ QuoteFor G q
  quote_exactly q = (λ e. let same : (quote_for G).0 ≡ q = sym ((quote_of_lem G) (quote_for G).1) ∙ e in rw same at (quote_for G).1, (quote_of_lem G))

  pub passing_quoted : setting_number G ≡ 0 → (v : ℕ) × (v ≤ G.width) × (quote_of G ≡ figures G v)
  passing_quoted e =
      let width = (limits_of G (setting_holds G e)).numbers.width in
      let passes = tried_fits (tried G G.width width.0 width.1) e in
      ⊎_elim
      (λ s. let v = s.0 in (
        v,
        elim (dec_le v G.width) [
          | yes l ↦ l
          | no l ↦ absurd (true≢false (sym passes.1 ∙ s.1.none_smaller G.width width.0 (omega arith)))
        ],
        (quote_of_lem G) (smallest_width_lem passes.0 s.1),
      ))
      (λ none. absurd (true≢false (sym passes.1 ∙ none G.width width.0 width.1)))
      (smallest_or_none G)
