-- What rests on Rounding.
--
--   unrounded_claim      what a claim puts for its sum is scale times quotient plus remainder
use Rattle.std.specs.Prelude.{◌≡◌, ℕ, List, pos, ◌+ℤ◌, ◌-ℤ◌, ◌*ℤ◌}
use Rattle.std.proofs.Common.{sym, ◌∙◌}
use Rattle.std.proofs.Math.Path.{ap}
use Rattle.std.proofs.Math.IntN.{+ℤ-neg_ℤ_cancel}
use Rattle.ticket.specs.declared.setting.Setting.{Setting}
use Rattle.ticket.specs.Rules.{quotient, remainder, claim}
use Rattle.ticket.proofs.Laws.Rounding.{unrounded_dividend}

module _ (G : Setting) (none : G.rounding ≡ 0) where
  pub unrounded_claim : (t : List ℕ) (i j : ℕ) → claim G t i j ≡ pos G.scale *ℤ quotient G t i j +ℤ remainder G t i j
  unfolding claim
  unrounded_claim t i j =
      let made = pos G.scale *ℤ quotient G t i j +ℤ remainder G t i j in
      ap (λ z. z -ℤ pos G.rounding) (sym ((unrounded_dividend G none) made)) ∙ +ℤ-neg_ℤ_cancel made (pos G.rounding)
