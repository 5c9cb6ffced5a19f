-- Signed machine numbers. A cast or a sum reads a number from its bits and writes it back, which leaves a number that fits as it is.
--
--   widened          a number fits a wider width, after it was written to its bits and read back
--   widened_is       read back from the wider bits, it is itself
--   wide_sum z k      the 32-bit number z, as it is read after the cast to 64 bits, and k added to it
--   lifted z k       that sum, as it is read from its bits
--   natural_is, natural_cast   a number that is not negative, read back, and cast to 32 bits without sign
--   read-back, read_fits, read_stored   a number that fits is itself where it is read at a wider width, fits, and is stored as it was
--   small_fits, small_fits_wide   a number of at most 15 bits fits 16 and 32 bits
--   narrowed_is, narrowed_fits   read back from 32 bits, it is itself, and fits 16 bits
use Rattle.std.specs.Prelude.{◌≡◌, ℕ, suc, ◌+◌, ◌-◌, ◌*◌, ◌^◌, ◌<◌, ◌≤◌, T, ℤ, pos, negsuc, ◌+ℤ◌, FitsSigned, nat_le, unsigned_abs}
use Rattle.std.proofs.Common.{arith, ap, ◌∙◌, to_z-of_z}
use Rattle.std.proofs.Math.Path.{subst⁻¹}
use Rattle.std.specs.Int.Signed.{mag, non_neg}
use Rattle.std.specs.Int.{Width, w16, w32, w64}
use mir.Val.{Fits, to_z, of_z, hbits}
use Rattle.std.proofs.Math.Facts.{sfits_widen}
use Rattle.residue.specs.Rules.{least_residue}
use Rattle.residue.proofs.Laws.Integers.{positive, negative, equal_of_parts, parts_sum}
use Rattle.residue.proofs.Laws.Residues.{residue_shift}
pub mod LiftedResidue

abbrev pub wide_sum : ℤ → ℕ → ℤ
wide_sum z k = to_z w64 (of_z w64 (to_z w32 (of_z w32 z))) +ℤ pos k

abbrev pub lifted : ℤ → ℕ → ℤ
lifted z k = to_z w64 (of_z w64 (wide_sum z k))

-- the parts of an integer, by the number that a signed range bounds
parts_mag : (z : ℤ) → (positive z ≤ mag z) × (negative z ≤ suc (mag z))
parts_mag (pos n) = omega arith
parts_mag (negsuc n) = omega arith

pub widened : {narrow wide : Width} {z : ℤ} → T (nat_le (hbits narrow) (hbits wide)) → FitsSigned narrow z → FitsSigned wide (to_z narrow (of_z narrow z))
widened {wide = wide} wider fits = subst⁻¹ (FitsSigned wide) (to_z-of_z fits) (sfits_widen wider fits)

pub widened_is : {narrow : Width} {z : ℤ} (wide : Width) → T (nat_le (hbits narrow) (hbits wide)) → FitsSigned narrow z
    → to_z wide (of_z wide (to_z narrow (of_z narrow z))) ≡ z
widened_is wide wider fits = to_z-of_z (widened {wide = wide} wider fits) ∙ to_z-of_z fits

module _ {w : Width} {y : ℤ} {n : ℕ} (fits : FitsSigned w y) (is : y ≡ pos n) where
  pub natural_is : unsigned_abs (to_z w (of_z w y)) ≡ n
  natural_is = ap unsigned_abs (to_z-of_z fits ∙ is)

  pub natural_cast : n < 2 ^ 32 → T (non_neg (to_z w (of_z w y))) × Fits w32 (unsigned_abs (to_z w (of_z w y)))
  natural_cast small = subst⁻¹ (λ z. T (non_neg z) × Fits w32 (unsigned_abs z)) (to_z-of_z fits ∙ is) (tt, record { fits = small })

module _ {narrow : Width} (wide : Width) {z : ℤ} (wider : T (nat_le (hbits narrow) (hbits wide))) (fits : FitsSigned narrow z) where
  pub read_back : to_z wide (of_z wide z) ≡ z
  read_back = to_z-of_z (sfits_widen wider fits)

  pub read_fits : FitsSigned narrow (to_z wide (of_z wide z))
  read_fits = subst⁻¹ (FitsSigned narrow) read_back fits

  pub read_stored : to_z narrow (of_z narrow (to_z wide (of_z wide z))) ≡ z
  read_stored = to_z-of_z read_fits ∙ read_back

pub small_fits : (z : ℤ) → unsigned_abs z < 2 ^ 15 → FitsSigned w16 z
small_fits (pos n) small = record { sfits = omega arith }
small_fits (negsuc n) small = record { sfits = omega arith }

pub small_fits_wide : (z : ℤ) → unsigned_abs z < 2 ^ 15 → FitsSigned w32 z
small_fits_wide z small = sfits_widen tt (small_fits z small)

pub narrowed_is : (z : ℤ) → unsigned_abs z < 2 ^ 15 → to_z w32 (of_z w32 z) ≡ z
narrowed_is z small = read_back w32 tt (small_fits z small)

pub narrowed_fits : (z : ℤ) → unsigned_abs z < 2 ^ 15 → FitsSigned w16 (to_z w32 (of_z w32 z))
narrowed_fits z small = read_fits w32 tt (small_fits z small)
