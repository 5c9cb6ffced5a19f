-- Sums over the integers, by the rule `int_sum`: their size, and their least residues modulo p.
--
--   int_sum_none            no values come to 0
--   int_sum_more            one more value is added at the end
--   int_sum_split           m values, then the n after them
--   int_sum_cong            equal values have equal sums
--   int_sum_zero            values that are all 0 come to 0
--   int_sum_total           a row of totals times a vector is the one row times it and the other
--   int_sum_difference      a row of differences times a vector is the one row times it less the other
--   size_sum             a sum is at most as large as its two parts together
--   size_difference      and so is a difference
--   size_product         a product's size is the product of the sizes
--   int_sum_bound           values of size up to b come to n * b at most
--   residue_int_sum         the least residue of a sum, from the least residues of the values
use Prim.Native.Nat.{ℕ, zero, suc, ◌+◌, ◌*◌, ◌%◌, ◌≤◌, ◌<◌}
use Rattle.std.proofs.Common.{add-zero, add-suc, arith, sym, ◌∙◌}
use Rattle.std.proofs.Math.Nat.{mod-add-mod}
use Rattle.std.proofs.Math.Numerals.{add-one}
use Rattle.std.specs.Prelude.{◌≡◌, refl, ℤ, pos, negsuc, neg_ℤ, nat_abs, ◌+ℤ◌, ◌-ℤ◌, ◌*ℤ◌}
use Rattle.std.proofs.Math.Path.{ap}
use Rattle.std.proofs.Math.IntN.{+ℤ_idr, +ℤ_assoc}
use Rattle.residue.specs.Rules.{least_residue, sum}
use Rattle.residue.proofs.Laws.Modulo.{mod_mul_left, mod_mul}
use Rattle.residue.proofs.Laws.Integers.{positive, negative, equal_of_parts, parts_sum, parts_difference, parts_product}
use Rattle.residue.proofs.Laws.Residues.{residue_of_natural, residue_sum, residue_product}
use Rattle.residue.proofs.Laws.Sums.{sum_none, sum_more, sum_cong, sum_mod, sum_mod_cong}
use Rattle.algebra.specs.Rules.{int_sum}
pub mod ResidueDot

pub int_sum_none : (f : ℕ → ℤ) → int_sum 0 f ≡ pos 0
unfolding int_sum
int_sum_none f = refl

pub int_sum_more : (n : ℕ) (f : ℕ → ℤ) → int_sum (n + 1) f ≡ int_sum n f +ℤ f n
unfolding int_sum
int_sum_more n f = rw add-one

pub int_sum_split : (m n : ℕ) (f : ℕ → ℤ) → int_sum (m + n) f ≡ int_sum m f +ℤ int_sum n (λ i. f (m + i))
unfolding int_sum
int_sum_split m zero f = ap (λ k. int_sum k f) (add-zero m) ∙ sym (+ℤ_idr (int_sum m f))
int_sum_split m (suc n) f =
    ap (λ k. int_sum k f) (add-suc m n) ∙ ap (λ z. z +ℤ f (m + n)) (int_sum_split m n f)
    ∙ +ℤ_assoc (int_sum m f) (int_sum n (λ i. f (m + i))) (f (m + n))

pub int_sum_cong : (n : ℕ) (f g : ℕ → ℤ) → ((i : ℕ) → i < n → f i ≡ g i) → int_sum n f ≡ int_sum n g
unfolding int_sum
int_sum_cong zero f g h = refl
int_sum_cong (suc n) f g h = cc (int_sum_cong n f g (λ i l. h i (omega arith)), h n (omega arith))

pub int_sum_zero : (n : ℕ) (f : ℕ → ℤ) → ((i : ℕ) → i < n → f i ≡ pos 0) → int_sum n f ≡ pos 0
unfolding int_sum
int_sum_zero zero f h = refl
int_sum_zero (suc n) f h = rw (int_sum_zero n f (λ i l. h i (omega arith)), h n (omega arith))

pub int_sum_total : (n : ℕ) (f g : ℕ → ℤ) (x : ℕ → ℕ)
    → int_sum n (λ i. (f i +ℤ g i) *ℤ pos (x i)) ≡ int_sum n (λ i. f i *ℤ pos (x i)) +ℤ int_sum n (λ i. g i *ℤ pos (x i))
unfolding int_sum
int_sum_total zero f g x = refl
int_sum_total (suc n) f g x =
    ap (λ z. z +ℤ (f n +ℤ g n) *ℤ pos (x n)) (int_sum_total n f g x)
    ∙ step (int_sum n (λ i. f i *ℤ pos (x i))) (int_sum n (λ i. g i *ℤ pos (x i))) (f n) (g n) (x n)
  where
    step : (s t a b : ℤ) (k : ℕ) → s +ℤ t +ℤ (a +ℤ b) *ℤ pos k ≡ (s +ℤ a *ℤ pos k) +ℤ (t +ℤ b *ℤ pos k)
    step s t a b k =
        equal_of_parts (s +ℤ t +ℤ (a +ℤ b) *ℤ pos k) ((s +ℤ a *ℤ pos k) +ℤ (t +ℤ b *ℤ pos k))
        (omega (
          arith,
          parts_sum (s +ℤ t) ((a +ℤ b) *ℤ pos k),
          parts_sum s t,
          parts_product (a +ℤ b) (pos k),
          ap (λ m. m * k) (parts_sum a b),
          parts_sum (s +ℤ a *ℤ pos k) (t +ℤ b *ℤ pos k),
          parts_sum s (a *ℤ pos k),
          parts_sum t (b *ℤ pos k),
          parts_product a (pos k),
          parts_product b (pos k),
        ))

pub int_sum_difference : (n : ℕ) (f g : ℕ → ℤ) (x : ℕ → ℕ)
    → int_sum n (λ i. (f i -ℤ g i) *ℤ pos (x i)) ≡ int_sum n (λ i. f i *ℤ pos (x i)) -ℤ int_sum n (λ i. g i *ℤ pos (x i))
unfolding int_sum
int_sum_difference zero f g x = refl
int_sum_difference (suc n) f g x =
    ap (λ z. z +ℤ (f n -ℤ g n) *ℤ pos (x n)) (int_sum_difference n f g x)
    ∙ step (int_sum n (λ i. f i *ℤ pos (x i))) (int_sum n (λ i. g i *ℤ pos (x i))) (f n) (g n) (x n)
  where
    step : (s t a b : ℤ) (k : ℕ) → s -ℤ t +ℤ (a -ℤ b) *ℤ pos k ≡ (s +ℤ a *ℤ pos k) -ℤ (t +ℤ b *ℤ pos k)
    step s t a b k =
        equal_of_parts (s -ℤ t +ℤ (a -ℤ b) *ℤ pos k) ((s +ℤ a *ℤ pos k) -ℤ (t +ℤ b *ℤ pos k))
        (omega (
          arith,
          parts_sum (s -ℤ t) ((a -ℤ b) *ℤ pos k),
          parts_difference s t,
          parts_product (a -ℤ b) (pos k),
          ap (λ m. m * k) (parts_difference a b),
          parts_difference (s +ℤ a *ℤ pos k) (t +ℤ b *ℤ pos k),
          parts_sum s (a *ℤ pos k),
          parts_sum t (b *ℤ pos k),
          parts_product a (pos k),
          parts_product b (pos k),
        ))

-- an integer's size is what its two parts come to, and at most what any two numbers come to that it is the difference of
size_of_parts : (z : ℤ) → nat_abs z ≡ positive z + negative z
size_of_parts (pos n) = omega arith
size_of_parts (negsuc n) = omega arith

size_of_difference : (z : ℤ) (u v : ℕ) → positive z + v ≡ u + negative z → nat_abs z ≤ u + v
size_of_difference (pos n) u v e = omega arith
size_of_difference (negsuc n) u v e = omega arith

size_negation : (z : ℤ) → nat_abs (neg_ℤ z) ≡ nat_abs z
size_negation (pos zero) = refl
size_negation (pos (suc n)) = refl
size_negation (negsuc n) = refl

pub size_sum : (x y : ℤ) → nat_abs (x +ℤ y) ≤ nat_abs x + nat_abs y
size_sum x y =
    omega (arith, size_of_difference (x +ℤ y) (positive x + positive y) _ (parts_sum x y), size_of_parts x, size_of_parts y)

pub size_difference : (x y : ℤ) → nat_abs (x -ℤ y) ≤ nat_abs x + nat_abs y
size_difference x y = omega (arith, size_sum x (neg_ℤ y), size_negation y)

pub size_product : (x y : ℤ) → nat_abs (x *ℤ y) ≡ nat_abs x * nat_abs y
size_product (pos a) (pos b) = refl
size_product (pos a) (negsuc b) = size_negation (pos (a * suc b))
size_product (negsuc a) (pos b) = size_negation (pos (suc a * b))
size_product (negsuc a) (negsuc b) = refl

pub int_sum_bound : (n b : ℕ) (f : ℕ → ℤ) → ((i : ℕ) → i < n → nat_abs (f i) ≤ b) → nat_abs (int_sum n f) ≤ n * b
unfolding int_sum
int_sum_bound zero b f h = omega arith
int_sum_bound (suc n) b f h =
    omega (arith, size_sum (int_sum n f) (f n), int_sum_bound n b f (λ i l. h i (omega arith)), h n (omega arith))

module _ (p : ℕ) (above : 0 < p) where
  pub residue_int_sum : (n : ℕ) (f : ℕ → ℤ) → least_residue p (int_sum n f) ≡ sum n (λ i. least_residue p (f i)) % p
  unfolding int_sum
  residue_int_sum zero f = residue_of_natural p above 0 ∙ ap (λ m. m % p) (sym (sum_none (λ i. least_residue p (f i))))
  residue_int_sum (suc n) f =
      residue_sum p above (int_sum n f) (f n)
      ∙ ap (λ m. (m + least_residue p (f n)) % p) (residue_int_sum n f)
      ∙ mod-add-mod (sum n (λ i. least_residue p (f i))) p (least_residue p (f n))
      ∙ ap (λ m. m % p) (sym (rw add-one at (sum_more n (λ i. least_residue p (f i)))))
