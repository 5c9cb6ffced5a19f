-- The full check and the rounding number: with 0 a claim is tested as without it (O3).
--
--   unrounded_holds   scale times quotient plus remainder is compared with the sum
use Rattle.std.specs.Prelude.{◌≡◌, ℕ, ◌/◌, ◌%◌, List, pos, ◌+ℤ◌, ◌*ℤ◌}
use Rattle.std.proofs.Common.{ap}
use Rattle.ticket.specs.declared.setting.Setting.{Setting}
use Rattle.ticket.specs.Rules.{quotient, remainder, due}
use Rattle.ticket.proofs.Laws.Rounding.UnroundedClaim.{unrounded_claim}
use Rattle.full.specs.Rules.{same, holds}

pub unrounded_holds : (G : Setting) → G.rounding ≡ 0 → (t : List ℕ) (c : ℕ) → let i = c / G.columns in let j = c % G.columns in
    holds G t c ≡ same (pos G.scale *ℤ quotient G t i j +ℤ remainder G t i j) (due G t i j)
unfolding holds
unrounded_holds G none t c =
    let i = c / G.columns in
    let j = c % G.columns in
    ap (λ z. same z (due G t i j)) (unrounded_claim G none t i j)
