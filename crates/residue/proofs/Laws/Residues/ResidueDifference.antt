-- What rests on Residues.
use Rattle.std.specs.Prelude.{◌≡◌, ℕ, ◌+◌, ◌-◌, ◌%◌, ◌<◌, ℤ, ◌-ℤ◌}
use Rattle.std.proofs.Common.{arith, ◌∙◌}
use Rattle.std.proofs.Math.Nat.{mod_self}
use Rattle.std.proofs.Math.Path.{ap}
use Rattle.residue.specs.Rules.{least_residue}
use Rattle.residue.proofs.Laws.Integers.{positive, negative, parts_difference}
use Rattle.residue.proofs.Laws.Residues.{quotient, residue_below, residue_by, residue_differs}

module _ (p : ℕ) (above : 0 < p) where
  pub residue_difference : (x y : ℤ) → least_residue p (x -ℤ y) ≡ (least_residue p x + (p - least_residue p y)) % p
  residue_difference x y =
      let k = (quotient p above) x in
      let l = (quotient p above) y in
      (residue_by p above) (x -ℤ y) (least_residue p x + (p - least_residue p y)) (negative k + positive l + 1) (positive k + negative l)
      (omega (arith, parts_difference x y, (residue_differs p above) x, (residue_differs p above) y, (residue_below p above) y))

  pub whole : (z : ℤ) → (least_residue p z + (p - least_residue p z)) % p ≡ 0
  whole z = ap (λ n. n % p) (omega (arith, (residue_below p above) z)) ∙ mod_self p
