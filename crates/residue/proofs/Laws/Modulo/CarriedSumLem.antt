-- What rests on CarriedHigh, Modulo.
--
--   carried_sum_lem        it is the sum modulo p, where that and s are in the lower half; p is odd and has at most 31 bits
use Rattle.std.specs.Prelude.{◌≡◌, ℕ, ◌+◌, ◌/◌, ◌%◌, ◌^◌, ◌<◌, ◌≤◌}
use Rattle.std.proofs.Math.Nat.{mod-eq_of_lt}
use Rattle.std.proofs.Common.{sym, ◌∙◌}
use Rattle.std.proofs.Math.Decide.{dec_lt}
use native.Mathlib.Omega.{arith}
use Rattle.residue.specs.Laws.Modulo.{carried_sum}
use Rattle.residue.proofs.Laws.Modulo.{carried_low, mod_once}
use Rattle.residue.proofs.Laws.Modulo.CarriedHigh.{carried_high}

module _ (p : ℕ) (odd : p % 2 ≡ 1) (few : p < 2 ^ 31) (v s : ℕ) where
  pub carried_sum_lem : v < p → s < (p + 1) / 2 → (v + s) % p < (p + 1) / 2 → carried_sum p v s ≡ (v + s) % p
  carried_sum_lem below most least =
      elim (dec_lt v ((p + 1) / 2)) [
        | yes low ↦
            let sum : v + s < p = omega arith in
            (carried_low p odd few v s) low (omega arith) ∙ sym (mod-eq_of_lt sum)
        | no high ↦
            let past : p ≤ v + s = elim (dec_lt (v + s) p) [
              | yes l ↦ let same : (v + s) % p ≡ v + s = mod-eq_of_lt l in absurd (omega arith)
              | no h ↦ omega arith
            ] in
            (carried_high p odd few v s) (omega arith) below past (omega arith) ∙ sym (mod_once p (v + s) past (omega arith))
      ]
