-- What rests on UnquotedExactly.
--
--   quoted_passes      with that width the setting passes its tests
use Rattle.std.specs.Prelude.{◌≡◌}
use Rattle.std.proofs.Common.{◌∙◌}
use Rattle.ticket.specs.declared.setting.Setting.{Setting}
use Rattle.ticket.specs.Rules.{test, fits_width, setting_number}
use Rattle.ticket.proofs.Laws.Tests.{holding_number, hold_then}
use Rattle.ticket.specs.Laws.Widths.{widened}
use Rattle.ticket.proofs.Laws.Widths.WidenedNumber.{widened_number}
use Rattle.quote.specs.Rules.{quote_of}
use Rattle.quote.proofs.Laws.Quotes.UnquotedExactly.{quoted_width}

module _ (G : Setting) where
  pub quoted_passes : (quote_of G).number ≡ 0 → setting_number (widened G (quote_of G).width) ≡ 0
  quoted_passes e =
      let h = (quoted_width G) e in
      let v = (quote_of G).width in
      widened_number G v h.1.from_one h.1.within ∙ holding_number (hold_then (test (fits_width G v) 3) h.0 h.1.fitting)
