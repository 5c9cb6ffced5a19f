-- What rests on Widths.
use Prim.Native.Nat.{ℕ}
use Rattle.std.proofs.Common.{arith}
use Rattle.std.specs.Prelude.{◌≡◌, true, false}
use Rattle.ticket.specs.declared.setting.Setting.{Setting}
use Rattle.ticket.specs.Rules.{fits_width}
use Rattle.quote.proofs.Laws.Widths.{fitting, unfit, refused, LimitsHold, Tried, limit_number}

module _ {G : Setting} {v : ℕ} where
  pub tried_fits : {c : ℕ} → Tried G v c → c ≡ 0 → LimitsHold G × (fits_width G v ≡ true)
  tried_fits (refused f) e = absurd ((limit_number G f).0 e)
  tried_fits (unfit h u) e = absurd (omega arith)
  tried_fits (fitting h u) e = (h, u)

  pub tried_unfit : {c : ℕ} → Tried G v c → c ≡ 3 → LimitsHold G × (fits_width G v ≡ false)
  tried_unfit (refused f) e = absurd ((limit_number G f).1 e)
  tried_unfit (unfit h u) e = (h, u)
  tried_unfit (fitting h u) e = absurd (omega arith)
