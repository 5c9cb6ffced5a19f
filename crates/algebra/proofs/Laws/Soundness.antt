-- The soundness of Freivalds' check: how many lists of challenge vectors (Drawn) a wrong product passes. D is the matrix of the
-- differences between the claimed product and the true one.
--
--   Orthogonal        the vector v is orthogonal to every row of D modulo p
--   Passing           x is a list of s vectors that are
--   Wrong             D is not 0 modulo p in row i, column j
--   wrong_of_small    an entry of D that is not 0 and less than p in size is not 0 modulo p
use Rattle.std.specs.Prelude.{ℕ, suc, ◌+◌, ◌-◌, ◌*◌, ◌/◌, ◌%◌, ◌^◌, ◌≤◌, ◌<◌, ◌≡◌, refl, Bool, true, false, cond, List, [], ℤ, pos, nat_abs, ◌*ℤ◌, length, get_or, take, drop, replicate}
use Rattle.std.proofs.Common.{mod-eq_of_lt, sub-add_cancel, mul-zero, arith, sym, ap, ◌∙◌, ⊎_elim, ext_get_or}
use Rattle.std.proofs.Math.Nat.{zero-mod, div-add-mod, sub-zero}
use Rattle.std.proofs.Math.Decide.{ℕ_discrete, dec_le}
use Rattle.std.proofs.Math.IntN.{+ℤ_idr}
use Rattle.std.proofs.lemmas.List.{length-replicate, get_or-replicate}
use Rattle.residue.specs.Rules.{least_residue, sum, Prime}
use Rattle.residue.proofs.Laws.Modulo.{mod_of_multiples, multiples_of_mod}
use Rattle.residue.proofs.Laws.Residues.{residue_below, residue_of_natural}
use Rattle.residue.proofs.Laws.Residues.ResidueClose.{residue_close}
use Rattle.residue.proofs.Laws.Primes.{prime_positive, product_zero}
use Rattle.residue.proofs.Laws.Sums.{sum_zero, sum_but_one}
use Rattle.residue.proofs.Laws.Counting.{AtMost, Different, at_most_through, at_most_words, at_most_but_one}
use Rattle.residue.proofs.Laws.Counting.ExactlyButOne.{at_most_members}
use Rattle.algebra.specs.Rules.{int_sum}
use Rattle.algebra.proofs.Laws.IntegerSums.{int_sum_cong}
use Rattle.algebra.proofs.Laws.IntegerSums.ResidueDot.{residue_dot}
use Rattle.algebra.proofs.Laws.Positions.{by_rows}
use Rattle.algebra.proofs.Laws.Vectors.{without, without_apart, without_word, word_of_entries, vector_same, cut, cut_word}
use Rattle.algebra.proofs.Laws.Vectors.CutApart.{cut_apart}
use Rattle.algebra.proofs.Laws.Drawn.{DrawnVector, Drawn, drawn_any, drawn_cong, drawn_other}
pub mod OneColumn
pub mod PassingAtMost
pub mod PassingCount

abbrev pub Orthogonal : (p rows n : ℕ) → (ℕ → ℕ → ℤ) → (ℕ → ℕ) → Type 0
Orthogonal p rows n D v = (i : ℕ) → i < rows → least_residue p (int_sum n (λ k. D i k *ℤ pos (v k))) ≡ 0

pub record Passing (p rows n s : ℕ) (D : ℕ → ℕ → ℤ) (P : ℕ → Type 0) (nonzero : Bool) (x : List ℕ) : Type 0 where
  pub drawn : Drawn n s P nonzero x
  pub orthogonal : (t : ℕ) → t < s → Orthogonal p rows n D (λ k. get_or x (t * n + k) 0)

pub record Wrong (p rows n : ℕ) (D : ℕ → ℕ → ℤ) (i j : ℕ) : Type 0 where
  pub row : i < rows
  pub column : j < n
  pub not_zero : least_residue p (D i j) ≡ 0 → ⊥

pub wrong_of_small : {p rows n : ℕ} {D : ℕ → ℕ → ℤ} {i j : ℕ} → i < rows → j < n → (D i j ≡ pos 0 → ⊥) → nat_abs (D i j) < p
    → Wrong p rows n D i j
wrong_of_small {p} {D} {i} {j} row column other small =
    let above : 0 < p = omega arith in
    record {
      row = row;
      column = column;
      not_zero = λ z. other (residue_close p above (D i j) (pos 0) (rw (+ℤ_idr (D i j)) small)
          (z ∙ sym (residue_of_natural p above 0 ∙ zero-mod p)));
    }

-- a factor that is not 0 modulo a prime is cancelled
cancel_factor : (p a x y : ℕ) → Prime p → (a % p ≡ 0 → ⊥) → x < p → y < p → (a * x) % p ≡ (a * y) % p → x ≡ y
cancel_factor p a x y prime other hx hy e =
    elim (dec_le x y) [ yes l ↦ ordered x y hy l e | no l ↦ sym (ordered y x hx (omega arith) (sym e)) ]
  where
    ordered : (x y : ℕ) → y < p → x ≤ y → (a * x) % p ≡ (a * y) % p → x ≡ y
    ordered x y h l e =
        let product : (a * (y - x)) % p ≡ 0 =
        mod_of_multiples p (a * (y - x)) 0 (a * x / p) (a * y / p)
        (omega (arith, multiples_of_mod p (a * x) (a * y) e, ap (λ m. a * m) (sub-add_cancel l)))
        ∙ zero-mod p in
        let rest : (y - x) % p ≡ y - x = mod-eq_of_lt (omega arith) in
        ⊎_elim (λ z. absurd (other z)) (λ (z : (y - x) % p ≡ 0). omega arith) (product_zero p a (y - x) prime product)

-- a vector that passes
record VectorPasses (p rows n : ℕ) (D : ℕ → ℕ → ℤ) (P : ℕ → Type 0) (nonzero : Bool) (v : ℕ → ℕ) : Type 0 where
  drawn : DrawnVector n P nonzero v
  orthogonal : Orthogonal p rows n D v

-- and one as a list of n numbers
abbrev Vector : (p rows n : ℕ) → (ℕ → ℕ → ℤ) → (ℕ → Type 0) → Bool → List ℕ → Type 0
Vector p rows n D P nonzero x = (length x ≡ n) × VectorPasses p rows n D P nonzero (λ k. get_or x k 0)

module _ {p rows n : ℕ} {D : ℕ → ℕ → ℤ} {P : ℕ → Type 0} where
  passes_cong : {nonzero : Bool} {v w : ℕ → ℕ} → ((k : ℕ) → k < n → v k ≡ w k)
      → VectorPasses p rows n D P nonzero v → VectorPasses p rows n D P nonzero w
  passes_cong same a =
      record {
        drawn = drawn_cong same a.drawn;
        orthogonal = λ i l. ap (least_residue p)
            (int_sum_cong n _ _ (λ k m. ap (λ y. D i k *ℤ pos y) (sym (same k m))))
            ∙ a.orthogonal i l;
      }

  passes_any : {nonzero : Bool} {v : ℕ → ℕ} → VectorPasses p rows n D P nonzero v → VectorPasses p rows n D P false v
  passes_any a = record { drawn = drawn_any a.drawn.allowed; orthogonal = a.orthogonal }

  -- vector t of a passing list
  vector_passes : {s : ℕ} {nonzero : Bool} {x : List ℕ} → Passing p rows n s D P nonzero x
      → (t : ℕ) → t < s → VectorPasses p rows n D P nonzero (λ k. get_or x (t * n + k) 0)
  vector_passes a t l = record { drawn = a.drawn.vectors t l; orthogonal = a.orthogonal t l }

  passing_vector : {s : ℕ} {nonzero : Bool} {x : List ℕ} → Passing p rows n s D P nonzero x
      → (t : ℕ) → t < s → Vector p rows n D P nonzero (take n (drop (t * n) x))
  passing_vector {s} {x} a t l =
      let same = vector_same n s x a.drawn.size t l in (same.0, passes_cong same.1 (vector_passes a t l))
