-- What rests on ConditionOf, PassingQuoted, Quotes.
--
--   quoted_width       where figures are given, the limits hold and the width is the smallest that fits
--   unquoted_exactly   the number is 20 exactly when the limits hold and no width from 1 to 30 fits
use Rattle.std.specs.Prelude.{◌↔◌, ◌≡◌, refl}
use Rattle.std.proofs.Common.{ap}
use Rattle.ticket.specs.declared.setting.Setting.{Setting}
use Rattle.quote.specs.Rules.{quote_of}
use Rattle.quote.proofs.Laws.Widths.{Smallest, NoneFits, LimitsHold}
use Rattle.quote.proofs.Laws.Quotes.{no_width, quote_of_lem}
use Rattle.quote.proofs.Laws.Quotes.ConditionOf.{condition_of}
use Rattle.quote.proofs.Laws.Quotes.PassingQuoted.{quote_exactly}

module _ (G : Setting) where
  pub quoted_width : (quote_of G).number ≡ 0 → LimitsHold G × Smallest G (quote_of G).width
  quoted_width e = ((condition_of G) (((quote_exactly G) (quote_of G)).0 refl)).0 e

  pub unquoted_exactly : ((quote_of G).number ≡ 20) ↔ (LimitsHold G × NoneFits G)
  unquoted_exactly = (
    λ e. ((condition_of G) (((quote_exactly G) (quote_of G)).0 refl)).1 e,
    λ h. ap (λ q. q.number) ((quote_of_lem G) (no_width h.0 h.1)),
  )
