-- Products of matrices, by the rule `matrix_product`, and such a product applied to a vector of natural numbers, modulo any p above 0
-- (Freivalds' identity).
--
--   matrix_product_is     the rule
--   matrix_product_cong   equal rows and columns have equal products
--   size_matrix_product   a row of integers of size up to a times a column of size up to b comes to m * (a * b) at most
--   product_through      row i of A times B x, reduced between, is row i of the product A B times x
--   row_balances         two rows have the same product with x exactly when the row of their differences has 0
use Prim.Native.Nat.{ℕ, ◌+◌, ◌*◌, ◌%◌, ◌≤◌, ◌<◌}
use Rattle.std.proofs.Common.{mul_comm, mul-le-mul, arith, ◌∙◌}
use Rattle.std.specs.Prelude.{◌≡◌, refl, ◌↔◌, ℤ, nat_abs, ◌+ℤ◌, ◌-ℤ◌, ◌*ℤ◌}
use Rattle.std.proofs.Math.Path.{sym, ap}
use Rattle.std.proofs.Math.IntN.{pos}
use Rattle.residue.specs.Rules.{least_residue, sum}
use Rattle.residue.proofs.Laws.Modulo.{mod_mul_left, mod_mul}
use Rattle.residue.proofs.Laws.Residues.{residue_sum, residue_zero}
use Rattle.residue.proofs.Laws.Residues.ResidueClose.{residue_same}
use Rattle.residue.proofs.Laws.Sums.{sum_cong, sum_scale, sum_swap, sum_mod_cong}
use Rattle.algebra.specs.Rules.{int_sum, matrix_product}
use Rattle.algebra.proofs.Laws.IntegerSums.{int_sum_cong, int_sum_bound, int_sum_total, int_sum_difference, size_product}
use Rattle.algebra.proofs.Laws.IntegerSums.ResidueDot.{residue_products, residue_dot}
pub mod SumThrough

pub matrix_product_is : (m : ℕ) (A B : ℕ → ℕ → ℤ) (i j : ℕ) → matrix_product m A B i j ≡ int_sum m (λ k. A i k *ℤ B k j)
unfolding matrix_product
matrix_product_is m A B i j = refl

pub matrix_product_cong : (m : ℕ) (A A' B B' : ℕ → ℕ → ℤ) (i j : ℕ)
    → ((k : ℕ) → k < m → A i k ≡ A' i k) → ((k : ℕ) → k < m → B k j ≡ B' k j) → matrix_product m A B i j ≡ matrix_product m A' B' i j
unfolding matrix_product
matrix_product_cong m A A' B B' i j row column = int_sum_cong m _ _ (λ k l. rw (row k l, column k l))

pub size_matrix_product : (m : ℕ) (A B : ℕ → ℕ → ℤ) (i j : ℕ) {a b : ℕ}
    → ((k : ℕ) → k < m → nat_abs (A i k) ≤ a) → ((k : ℕ) → k < m → nat_abs (B k j) ≤ b) → nat_abs (matrix_product m A B i j) ≤ m * (a * b)
unfolding matrix_product
size_matrix_product m A B i j {a} {b} row column =
    int_sum_bound m (a * b) _ (λ k l. rw (size_product (A i k) (B k j)) (mul-le-mul (row k l) (column k l)))

-- a factor in front of a reduced sum goes to each value
scale_mod : (p n c : ℕ) (f : ℕ → ℕ) → (c * (sum n f % p)) % p ≡ sum n (λ j. c * f j) % p
scale_mod p n c f =
    sym (mod_mul_left p c (sum n f % p)) ∙ mod_mul p c (sum n f) ∙ ap (λ m. m % p) (sym (sum_scale n c f))

module _ (p : ℕ) (above : 0 < p) where
  pub product_through : (m n : ℕ) (A B : ℕ → ℕ → ℤ) (i : ℕ) (x : ℕ → ℕ)
      → least_residue p (int_sum m (λ k. A i k *ℤ pos (least_residue p (int_sum n (λ j. B k j *ℤ pos (x j))))))
      ≡ least_residue p (int_sum n (λ j. matrix_product m A B i j *ℤ pos (x j)))
  unfolding matrix_product
  product_through m n A B i x =
      residue_dot p above m (A i) (λ k. least_residue p (int_sum n (λ j. B k j *ℤ pos (x j))))
      ∙ sum_mod_cong m p _ _ (λ k l. row k)
      ∙ ap (λ y. y % p) (sum_swap m n (λ k j. a k * (b k j * x j)))
      ∙ sym (residue_dot p above n (matrix_product m A B i) x ∙ sum_mod_cong n p _ _ (λ j l. column j))
    where
      a : ℕ → ℕ
      a k = least_residue p (A i k)

      b : ℕ → ℕ → ℕ
      b k j = least_residue p (B k j)

      row : (k : ℕ) → (a k * least_residue p (int_sum n (λ j. B k j *ℤ pos (x j)))) % p ≡ sum n (λ j. a k * (b k j * x j)) % p
      row k = ap (λ y. a k * y % p) (residue_dot p above n (B k) x) ∙ scale_mod p n (a k) (λ j. b k j * x j)

      column : (j : ℕ) → (least_residue p (matrix_product m A B i j) * x j) % p ≡ sum m (λ k. a k * (b k j * x j)) % p
      column j =
          ap (λ y. y * x j % p) (residue_products p above m (A i) (λ k. B k j))
          ∙ ap (λ y. y % p) (mul_comm (sum m (λ k. a k * b k j) % p) (x j))
          ∙ scale_mod p m (x j) (λ k. a k * b k j)
          ∙ ap (λ y. y % p) (sum_cong m _ _ (λ k l. omega arith))

  pub row_balances : (n : ℕ) (c d : ℕ → ℤ) (x : ℕ → ℕ)
      → (least_residue p (int_sum n (λ j. c j *ℤ pos (x j))) ≡ least_residue p (int_sum n (λ j. d j *ℤ pos (x j))))
      ↔ (least_residue p (int_sum n (λ j. (c j -ℤ d j) *ℤ pos (x j))) ≡ 0)
  row_balances n c d x =
      let C = int_sum n (λ j. c j *ℤ pos (x j)) in
      let D = int_sum n (λ j. d j *ℤ pos (x j)) in
      let differences = ap (least_residue p) (int_sum_difference n c d x) in (
        λ e. differences ∙ (residue_zero p above (C -ℤ D)).1 ((residue_same p above C D).0 e),
        λ z. (residue_same p above C D).1 ((residue_zero p above (C -ℤ D)).0 (sym differences ∙ z)),
      )
