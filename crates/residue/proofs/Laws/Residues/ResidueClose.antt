-- What rests on ResidueDifference, Residues.
--
--   residue_same           two integers have the same least residue exactly when p divides their difference
--   residue_close          integers less than p apart with the same least residue are equal
use Rattle.std.specs.Prelude.{◌≡◌, ℕ, suc, ◌%◌, ◌<◌, ◌↔◌, ℤ, pos, negsuc, ◌-ℤ◌, unsigned_abs}
use Rattle.std.proofs.Common.{arith, sym, ◌∙◌}
use Rattle.std.proofs.Math.Nat.{mod-lt, mod-eq_of_lt}
use Rattle.std.proofs.Math.Path.{refl, ap}
use Rattle.residue.specs.Rules.{least_residue}
use Rattle.residue.proofs.Laws.Integers.{positive, negative, equal_of_parts, parts_difference, parts_product}
use Rattle.residue.proofs.Laws.Residues.{Divides, complement_zero, residue_shift, residue_zero}
use Rattle.residue.proofs.Laws.Residues.ResidueDifference.{residue_difference, whole}

module _ (p : ℕ) (above : 0 < p) where
  cancels : (x y : ℤ) → least_residue p x ≡ least_residue p y → least_residue p (x -ℤ y) ≡ 0
  cancels x y e = (residue_difference p above) x y ∙ rw e ((whole p above) y)

  pub residue_same : (x y : ℤ) → (least_residue p x ≡ least_residue p y) ↔ Divides p (x -ℤ y)
  residue_same x y = (
    λ e. ((residue_zero p above) (x -ℤ y)).0 (cancels x y e),
    λ d. (residue_shift p above) x y (negative d.0) (positive d.0)
        (omega (arith, parts_difference x y, parts_product (pos p) d.0, ap positive d.1, ap negative d.1)),
  )

  pub residue_close : (x y : ℤ) → unsigned_abs (x -ℤ y) < p → least_residue p x ≡ least_residue p y → x ≡ y
  unfolding least_residue
  residue_close x y h e = equal_of_parts x y (omega (arith, parts_difference x y, nothing (x -ℤ y) h (cancels x y e)))
    where
      nothing : (z : ℤ) → unsigned_abs z < p → least_residue p z ≡ 0 → (positive z ≡ 0) × (negative z ≡ 0)
      nothing (pos n) h e = (sym (mod-eq_of_lt h) ∙ e, refl)
      nothing (negsuc n) h e =
          absurd (omega (arith, complement_zero p (suc n % p) (mod-lt (suc n) above) e, mod-eq_of_lt h))
