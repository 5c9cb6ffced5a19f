-- What rests on IntegerSums.
--
--   residue_products     and of a row times a column
--   residue_dot          the least residue of a row times a vector of natural numbers
use Prim.Native.Nat.{ℕ, ◌*◌, ◌%◌, ◌<◌}
use Rattle.std.proofs.Common.{sym, ◌∙◌}
use Rattle.std.specs.Prelude.{◌≡◌, ℤ, pos, ◌*ℤ◌}
use Rattle.std.proofs.Math.Path.{ap}
use Rattle.residue.specs.Rules.{least_residue, sum}
use Rattle.residue.proofs.Laws.Modulo.{mod_mul_left, mod_mul}
use Rattle.residue.proofs.Laws.Residues.{residue_of_natural, residue_product}
use Rattle.residue.proofs.Laws.Sums.{sum_cong, sum_mod, sum_mod_cong}
use Rattle.algebra.specs.Rules.{int_sum}
use Rattle.algebra.proofs.Laws.IntegerSums.{residue_int_sum}

module _ (p : ℕ) (above : 0 < p) where
  pub residue_products : (n : ℕ) (f g : ℕ → ℤ)
      → least_residue p (int_sum n (λ j. f j *ℤ g j)) ≡ sum n (λ j. least_residue p (f j) * least_residue p (g j)) % p
  residue_products n f g =
      (residue_int_sum p above) n (λ j. f j *ℤ g j)
      ∙ ap (λ m. m % p) (sum_cong n _ _ (λ j l. residue_product p above (f j) (g j)))
      ∙ sum_mod n p (λ j. least_residue p (f j) * least_residue p (g j))

  pub residue_dot : (n : ℕ) (f : ℕ → ℤ) (x : ℕ → ℕ)
      → least_residue p (int_sum n (λ j. f j *ℤ pos (x j))) ≡ sum n (λ j. least_residue p (f j) * x j) % p
  residue_dot n f x = residue_products n f (λ j. pos (x j)) ∙ sum_mod_cong n p _ _ (λ j l. reduced (least_residue p (f j)) (x j))
    where
      reduced : (a m : ℕ) → (a * least_residue p (pos m)) % p ≡ (a * m) % p
      reduced a m = ap (λ k. a * k % p) (residue_of_natural p above m) ∙ sym (mod_mul_left p a (m % p)) ∙ mod_mul p a m
