-- What rests on Soundness.
--
--   one_column        two passing lists that agree but in the wrong column are equal
use Rattle.std.specs.Prelude.{ℕ, suc, ◌+◌, ◌-◌, ◌*◌, ◌/◌, ◌%◌, ◌^◌, ◌<◌, ◌≡◌, refl, Bool, true, false, cond, List, ℤ, get_or, replicate}
use Rattle.std.proofs.Common.{mod-eq_of_lt, mul-zero, arith, sym, ap, ◌∙◌, ext_get_or}
use Rattle.std.proofs.Math.Nat.{zero-mod, div-add-mod, sub-zero}
use Rattle.std.proofs.Math.Decide.{ℕ_discrete}
use Rattle.std.proofs.lemmas.List.{length-replicate, get_or-replicate}
use Rattle.residue.specs.Rules.{least_residue, sum, Prime}
use Rattle.residue.proofs.Laws.Modulo.{mod_of_multiples}
use Rattle.residue.proofs.Laws.Residues.{residue_below}
use Rattle.residue.proofs.Laws.Primes.{prime_positive}
use Rattle.residue.proofs.Laws.Sums.{sum_zero, sum_but_one}
use Rattle.residue.proofs.Laws.Counting.{AtMost, at_most_through, at_most_words, at_most_but_one}
use Rattle.algebra.proofs.Laws.IntegerSums.ResidueDot.{residue_dot}
use Rattle.algebra.proofs.Laws.Positions.{by_rows}
use Rattle.algebra.proofs.Laws.Vectors.{without, without_apart, without_word, word_of_entries}
use Rattle.algebra.proofs.Laws.Drawn.{drawn_any, drawn_other}
use Rattle.algebra.proofs.Laws.Soundness.{Passing, Vector, VectorPasses, Wrong, cancel_factor, passes_any, passes_cong, vector_passes}

module _ {p rows n : ℕ} {D : ℕ → ℕ → ℤ} {P : ℕ → Type 0} where
  zero_vector : 0 < p → P 0 → Vector p rows n D P false (replicate n 0)
  zero_vector above zero-allowed = (
    length-replicate n 0,
    passes_cong (λ k l. sym (get_or-replicate n k 0 0 l))
        record {
          drawn = drawn_any (λ k l. zero-allowed);
          orthogonal = λ i l. residue_dot p above n (D i) (λ k. 0)
              ∙ ap (λ m. m % p) (sum_zero n _ (λ k m. mul-zero (least_residue p (D i k)))) ∙ zero-mod p;
        },
  )

module _ {p rows n : ℕ} {D : ℕ → ℕ → ℤ} {P : ℕ → Type 0} (prime : Prime p) (residues : (a : ℕ) → P a → a < p)
    {i j : ℕ} (wrong : Wrong p rows n D i j) where
  -- the wrong column's entry is settled by the others
  entry_determined : {nonzero : Bool} {v w : ℕ → ℕ} → VectorPasses p rows n D P nonzero v → VectorPasses p rows n D P nonzero w
      → ((k : ℕ) → k < n → (k ≡ j → ⊥) → v k ≡ w k) → v j ≡ w j
  entry_determined {v} {w} a b agree =
      cancel_factor p (d j) (v j) (w j) prime (λ z. wrong.not_zero (sym (mod-eq_of_lt (residue_below p above (D i j))) ∙ z))
      (residues (v j) (a.drawn.allowed j wrong.column))
      (residues (w j) (b.drawn.allowed j wrong.column))
      (mod_of_multiples p (d j * v j) (d j * w j) (sum n (λ k. d k * w k) / p) (sum n (λ k. d k * v k) / p)
      (omega (
        arith,
        sum_but_one n j (λ k. d k * v k) (λ k. d k * w k) wrong.column (λ k l other. ap (λ y. d k * y) (agree k l other)),
        div-add-mod (sum n (λ k. d k * v k)) p,
        div-add-mod (sum n (λ k. d k * w k)) p,
        sym (residue_dot p above n (D i) v) ∙ a.orthogonal i wrong.row,
        sym (residue_dot p above n (D i) w) ∙ b.orthogonal i wrong.row,
      )))
    where
      above : 0 < p
      above = prime_positive prime

      d : ℕ → ℕ
      d k = least_residue p (D i k)

  vector_determined : {nonzero : Bool} {v w : ℕ → ℕ} → VectorPasses p rows n D P nonzero v → VectorPasses p rows n D P nonzero w
      → ((k : ℕ) → k < n → (k ≡ j → ⊥) → v k ≡ w k) → (k : ℕ) → k < n → v k ≡ w k
  vector_determined a b agree k l =
      elim (ℕ_discrete k j) [ yes e ↦ rw e (entry_determined a b agree) | no other ↦ agree k l other ]

  pub one_column : {s : ℕ} {nonzero : Bool} {x y : List ℕ}
      → Passing p rows n s D P nonzero x → Passing p rows n s D P nonzero y
      → ((t k : ℕ) → t < s → k < n → (k ≡ j → ⊥) → get_or x (t * n + k) 0 ≡ get_or y (t * n + k) 0) → x ≡ y
  one_column {s} {x} {y} a b agree =
      ext_get_or 0 x y (a.drawn.size ∙ sym b.drawn.size) (λ m l. by_rows (λ m. get_or x m 0 ≡ get_or y m 0) {rows = s} n
      (λ t k h. vector_determined (vector_passes a t h) (vector_passes b t h) (λ k. agree t k h) k) m (omega arith))

  module _ {b : ℕ} (most : AtMost P b) where
    all_vectors_at_most : AtMost (Vector p rows n D P false) (b ^ (n - 1))
    all_vectors_at_most =
        at_most_through (at_most_words most (n - 1)) (without j)
        (λ x v. without_word P (n - 1) j x (omega arith)
        (word_of_entries P (suc (n - 1)) x (omega arith) (λ k l. v.1.drawn.allowed k (omega arith))))
        (λ x y v w e. ext_get_or 0 x y (v.0 ∙ sym w.0) (λ k l. vector_determined v.1 w.1
        (λ k l. without_apart j x y (v.0 ∙ sym w.0) e k) k (omega arith)))

    pub vectors_at_most : (nonzero : Bool) → (nonzero ≡ true → P 0)
        → AtMost (Vector p rows n D P nonzero) (b ^ (n - 1) - cond nonzero 1 0)
    vectors_at_most false zero-allowed = rw (sub-zero (b ^ (n - 1))) all_vectors_at_most
    vectors_at_most true zero-allowed =
        at_most_through
        (at_most_but_one all_vectors_at_most (replicate n 0) (zero_vector (prime_positive prime) (zero-allowed refl)))
        (λ x. x)
        (λ x v. ((v.0, passes_any v.1), drawn_other v.1.drawn))
        (λ x y v w e. e)
