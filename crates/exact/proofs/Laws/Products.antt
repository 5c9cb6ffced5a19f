-- A sum of products, as the code reads its numbers and adds it up.
--
--   wide x            a 16-bit number, as it is read after the cast to 32 bits
--   product_fits      the product of two 16-bit numbers fits 32 bits
--   product_residue   its bits are its least residue modulo 2^32
--   summed_none       no product is added yet
--   summed_more       one more product is added
--   summed_joined     n products are added, and then more
--   summing           the first and the last of these three, with which the check finds the proofs of functions
--   summed_all        the sum of all products is the rule's
--   dot_is            the rule for two lists of n numbers f 0, f 1, .. and g 0, g 1, ..
use Rattle.std.specs.Prelude.{◌≡◌, ℕ, suc, ◌+◌, ◌-◌, ◌*◌, ◌%◌, ◌^◌, ◌<◌, ◌≤◌, min, List, length, ℤ, pos, negsuc, ◌+ℤ◌, ◌*ℤ◌, slice_index_or, unsigned_abs}
use Rattle.std.proofs.Common.{mul-le-mul, le_refl, arith, sym, ap, ◌∙◌, SFits, to_z, of_z, to_z-of_z}
use Rattle.std.proofs.Math.Nat.{min-eq_left}
use Rattle.std.proofs.Math.Path.{subst⁻¹}
use Rattle.std.proofs.Math.IntN.{+ℤ_idl, +ℤ_idr, +ℤ_assoc}
use Rattle.std.specs.Int.Signed.{mag}
use Rattle.std.specs.Int.{w16, w32}
use Rattle.residue.specs.Rules.{least_residue}
use Rattle.residue.proofs.Laws.Residues.{residue_below, residue_of_residue, residue_shift, residue_sum}
use Rattle.residue.proofs.Laws.Signed.{widened_is}
use Rattle.algebra.specs.Rules.{int_sum}
use Rattle.algebra.proofs.Laws.IntegerSums.{size_product, int_sum_none, int_sum_more, int_sum_split, int_sum_cong}
use Rattle.exact.specs.Rules.{product_sum, dot_product}
use Rattle.exact.specs.Laws.Products.{term, Summed}

abbrev pub wide : ℤ → ℤ
wide x = to_z w32 (of_z w32 (to_z w16 (of_z w16 x)))

-- the number that a signed range bounds, and the size
mag_size : (z : ℤ) → (mag z ≤ unsigned_abs z) × (unsigned_abs z ≤ suc (mag z))
mag_size (pos n) = omega arith
mag_size (negsuc n) = omega arith

above : 0 < 2 ^ 32
above = omega arith

-- the bits of a number that fits are its least residue
bits_residue : (z : ℤ) → SFits w32 z → of_z w32 z ≡ least_residue (2 ^ 32) z
bits_residue (pos n) fits = sym (residue_of_residue (2 ^ 32) above n (omega (arith, fits.sfits)))
bits_residue (negsuc n) fits =
    let below : 2 ^ 32 - suc n < 2 ^ 32 = omega (arith, fits.sfits) in
    sym (residue_of_residue (2 ^ 32) above (2 ^ 32 - suc n) below)
    ∙ residue_shift (2 ^ 32) above (pos (2 ^ 32 - suc n)) (negsuc n) 0 1 (omega (arith, fits.sfits))

module _ {x y : ℤ} (fits-x : SFits w16 x) (fits-y : SFits w16 y) where
  wide_product : wide x *ℤ wide y ≡ x *ℤ y
  wide_product = rw (widened_is w32 tt fits-x, widened_is w32 tt fits-y)

  small_product : SFits w32 (x *ℤ y)
  small_product =
      let size_x : unsigned_abs x ≤ 2 ^ 15 = omega (arith, mag_size x, fits-x.sfits) in
      let size_y : unsigned_abs y ≤ 2 ^ 15 = omega (arith, mag_size y, fits-y.sfits) in
      let size : unsigned_abs (x *ℤ y) ≤ 2 ^ 15 * 2 ^ 15 = rw (size_product x y) (mul-le-mul size_x size_y) in
      record { sfits = omega (arith, mag_size (x *ℤ y)) }

  pub product_fits : SFits w32 (wide x *ℤ wide y)
  product_fits = subst⁻¹ (SFits w32) wide_product small_product

  pub product_residue : of_z w32 (to_z w32 (of_z w32 (wide x *ℤ wide y))) ≡ least_residue (2 ^ 32) (x *ℤ y)
  product_residue = ap (of_z w32) (to_z-of_z product_fits ∙ wide_product) ∙ bits_residue (x *ℤ y) small_product

-- the least residue of a sum that has one already for its first part
residue_with : (s : ℕ) (w z : ℤ) → s ≡ least_residue (2 ^ 32) w → least_residue (2 ^ 32) (pos s +ℤ z) ≡ least_residue (2 ^ 32) (w +ℤ z)
residue_with s w z e =
    let below : s < 2 ^ 32 = rw e (residue_below (2 ^ 32) above w) in
    rw (residue_sum (2 ^ 32) above (pos s) z, residue_of_residue (2 ^ 32) above s below, e) (sym (residue_sum (2 ^ 32) above w z))

module _ {x y : List ℤ} {before start : ℕ} where
  pub summed_none : before < 2 ^ 32 → Summed x y before start 0 before
  summed_none below = record { is = sym (simp (int_sum_none, +ℤ_idr) (residue_of_residue (2 ^ 32) above before below)) }

  pub summed_more : {k s b s' : ℕ} → Summed x y before start k s
      → b ≡ least_residue (2 ^ 32) (slice_index_or x (start + k) (pos 0) *ℤ slice_index_or y (start + k) (pos 0)) → s' ≡ (s + b) % 2 ^ 32
      → Summed x y before start (k + 1) s'
  summed_more {k} summed b-is added =
      record { is = added ∙ rw (summed.is, b-is, int_sum_more k, ← +ℤ_assoc) (sym (residue_sum (2 ^ 32) above _ _)) }

  pub summed_joined : {k s middle n r total : ℕ} → Summed x y before start k s → Summed x y s middle n r
      → middle ≡ start + k → total ≡ k + n → Summed x y before start total r
  summed_joined {k} {s} {middle} {n} first second at all =
      let later : int_sum n (λ i. term x y (middle + i)) ≡ int_sum n (λ i. term x y (start + (k + i))) =
      int_sum_cong n _ _ (λ i l. let same : middle + i ≡ start + (k + i) = omega arith in rw same) in
      record { is = rw (all, int_sum_split k n, ← +ℤ_assoc, ← later) (second.is ∙ residue_with s _ _ first.is) }

pub ruleset summing = (summed_none, summed_joined)

pub summed_all : {x y : List ℤ} {r : ℕ} → Summed x y 0 0 (min (length x) (length y)) r → r ≡ dot_product x y
unfolding dot_product product_sum
summed_all {x} {y} summed =
    summed.is
    ∙ ap (least_residue (2 ^ 32)) (+ℤ_idl _ ∙ int_sum_cong _ _ _ (λ k l. let same : 0 + k ≡ k = omega arith in rw same))

pub dot_is : (n : ℕ) (x y : List ℤ) (f g : ℕ → ℤ) → length x ≡ n → length y ≡ n → ((k : ℕ) → k < n → slice_index_or x k (pos 0) ≡ f k)
    → ((k : ℕ) → k < n → slice_index_or y k (pos 0) ≡ g k) → dot_product x y ≡ least_residue (2 ^ 32) (int_sum n (λ k. f k *ℤ g k))
unfolding dot_product product_sum
dot_is n x y f g long-x long-y x-is y-is =
    ap (λ m. least_residue (2 ^ 32) (product_sum m x y)) (rw (long-x, long-y) (min-eq_left (le_refl n)))
    ∙ ap (least_residue (2 ^ 32)) (int_sum_cong n _ _ (λ k l. rw (x-is k l, y-is k l)))
