-- What rests on Signed.
--
--   lifted_fits      the sum fits, where k is from 2^31 to 2^62
--   lifted_natural   it is then not negative, and fits as an unsigned number
--   lifted_residue   its least residue is that of z, where k is a multiple of p
use Rattle.std.specs.Prelude.{◌≡◌, ℕ, ◌+◌, ◌-◌, ◌*◌, ◌^◌, ◌<◌, ◌≤◌, T, ℤ, pos, ◌+ℤ◌, FitsSigned, unsigned_abs}
use Rattle.std.proofs.Common.{arith, ap, ◌∙◌, to_z-of_z}
use Rattle.std.proofs.Math.Path.{subst⁻¹}
use Rattle.std.specs.Int.Signed.{non_neg}
use Rattle.std.specs.Int.{w32, w64}
use mir.Val.{Fits}
use Rattle.residue.specs.Rules.{least_residue}
use Rattle.residue.proofs.Laws.Integers.{positive, negative, equal_of_parts, parts_sum}
use Rattle.residue.proofs.Laws.Residues.{residue_shift}
use Rattle.residue.proofs.Laws.Signed.{lifted, parts_mag, wide_sum, widened_is}

module _ (z : ℤ) (fits : FitsSigned w32 z) where
  module _ (k : ℕ) (low : 2 ^ 31 ≤ k) (high : k ≤ 2 ^ 62) where
    sum_is : wide_sum z k ≡ pos (positive z + k - negative z)
    sum_is =
        ap (λ y. y +ℤ pos k) (widened_is w64 tt fits)
        ∙ equal_of_parts (z +ℤ pos k) (pos (positive z + k - negative z))
        (omega (arith, parts_sum z (pos k), parts_mag z, fits.sfits))

    pub lifted_fits : FitsSigned w64 (wide_sum z k)
    lifted_fits = subst⁻¹ (FitsSigned w64) sum_is (record { sfits = omega (arith, parts_mag z, fits.sfits) })

    lifted_is : lifted z k ≡ pos (positive z + k - negative z)
    lifted_is = to_z-of_z lifted_fits ∙ sum_is

    pub lifted_natural : T (non_neg (lifted z k)) × Fits w64 (unsigned_abs (lifted z k))
    lifted_natural =
        subst⁻¹ (λ y. T (non_neg y) × Fits w64 (unsigned_abs y)) lifted_is
        (tt, record { fits = omega (arith, parts_mag z, fits.sfits) })

    pub lifted_residue : (p b : ℕ) → 0 < p → k ≡ p * b → least_residue p (pos (unsigned_abs (lifted z k))) ≡ least_residue p z
    lifted_residue p b above e =
        ap (λ y. least_residue p (pos (unsigned_abs y))) lifted_is
        ∙ residue_shift p above (pos (positive z + k - negative z)) z 0 b (omega (arith, parts_mag z, fits.sfits))
