-- What rests on Modulo.
use Rattle.std.specs.Prelude.{◌≡◌, ℕ, ◌+◌, ◌-◌, ◌/◌, ◌%◌, ◌^◌, ◌<◌, ◌≤◌}
use Rattle.std.proofs.Math.Nat.{div-eq_of_lt-le, mod-eq_of_lt}
use Rattle.std.proofs.Common.{◌∙◌}
use native.Mathlib.Omega.{arith}
use Rattle.residue.specs.Laws.Modulo.{carried_sum}
use Rattle.residue.proofs.Laws.Modulo.{mod_once}

module _ (p : ℕ) (odd : p % 2 ≡ 1) (few : p < 2 ^ 31) (v s : ℕ) where
  pub carried_high : (p + 1) / 2 ≤ v → v < p → p ≤ v + s → s ≤ p → carried_sum p v s ≡ v + s - p
  unfolding carried_sum
  carried_high high below past most =
      let one : v / ((p + 1) / 2) ≡ 1 = div-eq_of_lt-le ((p + 1) / 2) (omega arith) (omega arith) in
      let word : v + s + 1 < 2 ^ 32 = omega arith in
      rw (one, mod-eq_of_lt word) (mod_once (p + 1) (v + s + 1) (omega arith) (omega arith) ∙ omega arith)
