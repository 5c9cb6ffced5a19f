-- What rests on OneColumn, Soundness.
--
--   passing_at_most   with b allowed numbers at most (b ^ (n - 1)) ^ s lists pass; without the zero vector (b ^ (n - 1) - 1) ^ s
use Rattle.std.specs.Prelude.{ℕ, ◌-◌, ◌^◌, ◌<◌, ◌≡◌, Bool, true, cond, ℤ}
use Rattle.residue.specs.Rules.{Prime}
use Rattle.residue.proofs.Laws.Counting.{AtMost, at_most_through, at_most_words}
use Rattle.algebra.proofs.Laws.Vectors.{cut, cut_word}
use Rattle.algebra.proofs.Laws.Vectors.CutApart.{cut_apart}
use Rattle.algebra.proofs.Laws.Soundness.{Passing, Vector, Wrong, passing_vector}
use Rattle.algebra.proofs.Laws.Soundness.OneColumn.{vectors_at_most}

module _ {p rows n : ℕ} {D : ℕ → ℕ → ℤ} {P : ℕ → Type 0} (prime : Prime p) (residues : (a : ℕ) → P a → a < p)
    {i j : ℕ} (wrong : Wrong p rows n D i j) where
  module _ {b : ℕ} (most : AtMost P b) where
    pub passing_at_most : (s : ℕ) (nonzero : Bool) → (nonzero ≡ true → P 0)
        → AtMost (Passing p rows n s D P nonzero) ((b ^ (n - 1) - cond nonzero 1 0) ^ s)
    passing_at_most s nonzero zero-allowed =
        at_most_through (at_most_words ((vectors_at_most prime residues wrong most) nonzero zero-allowed) s) (cut n s)
        (λ x a. cut_word (Vector p rows n D P nonzero) n s x (passing_vector a))
        (λ x y a c. cut_apart n s x y a.drawn.size c.drawn.size)
