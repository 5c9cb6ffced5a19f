-- What rests on Quotes.
use Rattle.std.specs.Prelude.{◌≡◌}
use Rattle.std.proofs.Common.{arith}
use Rattle.ticket.specs.declared.setting.Setting.{Setting}
use Rattle.quote.specs.declared.Quote.{Quote}
use Rattle.quote.proofs.Laws.Widths.{Smallest, NoneFits, LimitsHold, limit_number}
use Rattle.quote.proofs.Laws.Quotes.{smallest_width_lem, no_width, limit_fails, QuoteFor}

module _ (G : Setting) where
  -- what the number of a quote says of its condition
  pub condition_of : {q : Quote} → QuoteFor G q
      → (q.number ≡ 0 → LimitsHold G × Smallest G q.width) × (q.number ≡ 20 → LimitsHold G × NoneFits G)
  condition_of (limit_fails f) = (λ e. absurd ((limit_number G f).0 e), λ e. absurd ((limit_number G f).2 e))
  condition_of (no_width h none) = (λ e. absurd (omega arith), λ e. (h, none))
  condition_of (smallest_width_lem h s) = (λ e. (h, s), λ e. absurd (omega arith))
