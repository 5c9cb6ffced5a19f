-- Lists of challenge vectors, and how many there are. P says which numbers may be entries of a vector, and nonzero whether the zero
-- vector is excluded. A list of s vectors of n entries is one list of s * n numbers: entry k of vector t is its number t * n + k.
--
--   DrawnVector n P nonzero v   the vector v has n allowed entries, and is not zero if that is excluded
--   Drawn n s P nonzero x       x is a list of s such vectors
--   drawn_any                   where the zero vector is not excluded, allowed entries make one
--   drawn_cong                  a vector of the same entries is one too
--   drawn_other                 where the zero vector is excluded, a vector is another list than n zeros
--   drawn_exactly               with exactly b allowed numbers there are exactly (b ^ n) ^ s lists; without the zero vector (b ^ n - 1) ^ s
--   drawn_with_zero             the first of these as one power; with n - 1 for n it is the bound of Soundness
--   drawn_share                 the bound of Soundness, b ^ s times, is no more than there are lists
use Rattle.std.specs.Prelude.{ℕ, zero, suc, ◌+◌, ◌-◌, ◌*◌, ◌^◌, ◌≤◌, ◌<◌, ◌≡◌, refl, Bool, true, false, cond, length, get_or, replicate}
use Rattle.std.proofs.Math.Nat.{sub-zero, pow-zero, pow-le-pow_left, one-le-pow}
use Rattle.std.proofs.Common.{pow-suc, arith, sym, ap, ◌∙◌, subst, ext_get_or}
use Rattle.std.proofs.Math.Decide.{ℕ_discrete}
use Rattle.std.proofs.lemmas.Bool.{false≢true}
use mathlib.Core.List.{List, flatten}
use Rattle.std.proofs.lemmas.List.{length-replicate, get_or-replicate}
use Rattle.residue.proofs.Laws.Modulo.{pow_pow}
use Rattle.residue.proofs.Laws.Counting.{Exactly, word_of_word}
use Rattle.residue.proofs.Laws.Counting.ExactlyButOne.{exactly_through, exactly_words, exactly_but_one}
use Rattle.algebra.proofs.Laws.Vectors.{word_of_entries, entries_of_word, vector_same, cut, cut_word, cut_vectors, cut_flatten}
use Rattle.algebra.proofs.Laws.Vectors.CutApart.{cut_apart}
pub mod DrawnNoMore

pub record DrawnVector (n : ℕ) (P : ℕ → Type 0) (nonzero : Bool) (v : ℕ → ℕ) : Type 0 where
  pub allowed : (k : ℕ) → k < n → P (v k)
  pub not_zero : nonzero ≡ true → ((k : ℕ) → k < n → v k ≡ 0) → ⊥

pub record Drawn (n s : ℕ) (P : ℕ → Type 0) (nonzero : Bool) (x : List ℕ) : Type 0 where
  pub size : length x ≡ s * n
  pub vectors : (t : ℕ) → t < s → DrawnVector n P nonzero (λ k. get_or x (t * n + k) 0)

-- a list of n numbers that is a vector
abbrev Vector : (n : ℕ) → (ℕ → Type 0) → Bool → List ℕ → Type 0
Vector n P nonzero x = (length x ≡ n) × DrawnVector n P nonzero (λ k. get_or x k 0)

module _ {n : ℕ} {P : ℕ → Type 0} where
  pub drawn_any : {v : ℕ → ℕ} → ((k : ℕ) → k < n → P (v k)) → DrawnVector n P false v
  drawn_any allowed = record { allowed = allowed; not_zero = λ e. absurd (false≢true e) }

  pub drawn_cong : {nonzero : Bool} {v w : ℕ → ℕ} → ((k : ℕ) → k < n → v k ≡ w k) → DrawnVector n P nonzero v → DrawnVector n P nonzero w
  drawn_cong same a =
      record { allowed = λ k l. subst P (same k l) (a.allowed k l); not_zero = λ e z. a.not_zero e (λ k l. same k l ∙ z k l) }

  pub drawn_other : {x : List ℕ} → DrawnVector n P true (λ k. get_or x k 0) → x ≡ replicate n 0 → ⊥
  drawn_other v e = v.not_zero refl (λ k l. ap (λ y. get_or y k 0) e ∙ get_or-replicate n k 0 0 l)

  module _ {b : ℕ} (m : Exactly P b) where
    vectors_exactly : (nonzero : Bool) → (nonzero ≡ true → P 0) → Exactly (Vector n P nonzero) (b ^ n - cond nonzero 1 0)
    vectors_exactly false zero-allowed =
        rw (sub-zero (b ^ n))
        (exactly_through (exactly_words m n) (λ x. x) (λ x. x)
        (λ x v. word_of_entries P n x v.0 v.1.allowed)
        (λ x y v w e. e)
        (λ x w. let entries = entries_of_word P n x w in
        ((entries.0, drawn_any entries.1), refl)))
    vectors_exactly true zero-allowed =
        exactly_through
        (exactly_but_one (exactly_words m n) (replicate n 0)
        (word_of_entries P n (replicate n 0) (length-replicate n 0)
        (λ k l. subst P (sym (get_or-replicate n k 0 0 l)) (zero-allowed refl))))
        (λ x. x) (λ x. x)
        (λ x v. (word_of_entries P n x v.0 v.1.allowed, drawn_other v.1))
        (λ x y v w e. e)
        (λ x w. let entries = entries_of_word P n x w.0 in
        ((entries.0, record { allowed = entries.1; not_zero = λ e z. w.1 (zeros x entries.0 z) }), refl))
      where
        zeros : (x : List ℕ) → length x ≡ n → ((k : ℕ) → k < n → get_or x k 0 ≡ 0) → x ≡ replicate n 0
        zeros x long z =
            ext_get_or 0 x (replicate n 0) (long ∙ sym (length-replicate n 0))
            (λ k l. z k (omega arith) ∙ sym (get_or-replicate n k 0 0 (omega arith)))

    pub drawn_exactly : (s : ℕ) (nonzero : Bool) → (nonzero ≡ true → P 0)
        → Exactly (Drawn n s P nonzero) ((b ^ n - cond nonzero 1 0) ^ s)
    drawn_exactly s nonzero zero-allowed =
        exactly_through (exactly_words (vectors_exactly nonzero zero-allowed) s) (cut n s) flatten
        (λ x a. cut_word (Vector n P nonzero) n s x (λ t l. let same = vector_same n s x a.size t l in (same.0, drawn_cong same.1 (a.vectors t l))))
        (λ x y a c. cut_apart n s x y a.size c.size)
        (λ ys w. let list = cut_flatten n s ys (word_of_word (λ y v. v.0) s ys w) in (
          record {
            size = list.0;
            vectors = λ t l. drawn_cong (λ k h. sym ((vector_same n s (flatten ys) list.0 t l).1 k h))
                (cut_vectors (Vector n P nonzero) n s (flatten ys) (rw list.1 w) t l).1;
          },
          list.1,
        ))

pub drawn_with_zero : (b n s : ℕ) → (b ^ n - cond false 1 0) ^ s ≡ b ^ (s * n)
drawn_with_zero b n s = ap (λ m. m ^ s) (sub-zero (b ^ n)) ∙ pow_pow b n s

-- a power of a product
product_power : (a b s : ℕ) → a ^ s * b ^ s ≡ (a * b) ^ s
product_power a b zero = rw (pow-zero a, pow-zero b, pow-zero (a * b))
product_power a b (suc s) =
    rw (pow-suc a s, pow-suc b s, pow-suc (a * b) s, ← product_power a b s) (omega arith)

pub drawn_share : (b n s : ℕ) (nonzero : Bool) → 0 < n → (b ^ (n - 1) - cond nonzero 1 0) ^ s * b ^ s ≤ (b ^ n - cond nonzero 1 0) ^ s
drawn_share b n s nonzero some =
    rw (product_power (b ^ (n - 1) - cond nonzero 1 0) b s) (pow-le-pow_left (vector nonzero) s)
  where
    whole : b ^ n ≡ b ^ (n - 1) * b
    whole = let last : n ≡ suc (n - 1) = omega arith in ap (λ m. b ^ m) last ∙ pow-suc b (n - 1)

    vector : (nonzero : Bool) → (b ^ (n - 1) - cond nonzero 1 0) * b ≤ b ^ n - cond nonzero 1 0
    vector false = rw (sub-zero (b ^ (n - 1)), sub-zero (b ^ n)) (omega (arith, whole))
    vector true = elim (ℕ_discrete b 0) [
      | yes none ↦ omega (arith, ap (λ m. (b ^ (n - 1) - 1) * m) none)
      | no other ↦
          let first : 1 ≤ b ^ (n - 1) = one-le-pow (n - 1) b (omega arith) in
          let without : b ^ (n - 1) - 1 + 1 ≡ b ^ (n - 1) = omega arith in
          omega (arith, whole, ap (λ m. m * b) without)
    ]
