-- What rests on MatrixProducts.
--
--   sum_through          with row i of C times x added, it is row i of A B + C times x
use Prim.Native.Nat.{ℕ, ◌+◌, ◌%◌, ◌<◌}
use Rattle.std.proofs.Common.{◌∙◌}
use Rattle.std.specs.Prelude.{◌≡◌, ℤ, ◌+ℤ◌, ◌*ℤ◌}
use Rattle.std.proofs.Math.Path.{sym, ap}
use Rattle.std.proofs.Math.IntN.{pos}
use Rattle.residue.specs.Rules.{least_residue}
use Rattle.residue.proofs.Laws.Residues.{residue_sum}
use Rattle.algebra.specs.Rules.{int_sum, matrix_product}
use Rattle.algebra.proofs.Laws.IntegerSums.{int_sum_total}
use Rattle.algebra.proofs.Laws.MatrixProducts.{product_through}

module _ (p : ℕ) (above : 0 < p) where
  pub sum_through : (m n : ℕ) (A B C : ℕ → ℕ → ℤ) (i : ℕ) (x : ℕ → ℕ)
      → least_residue p
      (int_sum m (λ k. A i k *ℤ pos (least_residue p (int_sum n (λ j. B k j *ℤ pos (x j))))) +ℤ int_sum n (λ j. C i j *ℤ pos (x j)))
      ≡ least_residue p (int_sum n (λ j. (matrix_product m A B i j +ℤ C i j) *ℤ pos (x j)))
  sum_through m n A B C i x =
      let bias = int_sum n (λ j. C i j *ℤ pos (x j)) in
      residue_sum p above _ bias
      ∙ ap (λ r. (r + least_residue p bias) % p) ((product_through p above) m n A B i x)
      ∙ sym (residue_sum p above _ bias)
      ∙ ap (least_residue p) (sym (int_sum_total n (matrix_product m A B i) (C i) x))
