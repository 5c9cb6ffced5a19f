-- What rests on PassingAtMost, Soundness.
--
--   passing_count     a list of different passing lists is at most that long
use Rattle.std.specs.Prelude.{ℕ, ◌-◌, ◌^◌, ◌≤◌, ◌<◌, ◌≡◌, Bool, true, cond, List, [], ℤ, length, get_or}
use Rattle.residue.specs.Rules.{Prime}
use Rattle.residue.proofs.Laws.Counting.{AtMost, Different}
use Rattle.residue.proofs.Laws.Counting.ExactlyButOne.{at_most_members}
use Rattle.algebra.proofs.Laws.Soundness.{Passing, Wrong}
use Rattle.algebra.proofs.Laws.Soundness.PassingAtMost.{passing_at_most}

module _ {p rows n : ℕ} {D : ℕ → ℕ → ℤ} {P : ℕ → Type 0} (prime : Prime p) (residues : (a : ℕ) → P a → a < p)
    {i j : ℕ} (wrong : Wrong p rows n D i j) where
  module _ {b : ℕ} (most : AtMost P b) where
    pub passing_count : (s : ℕ) (nonzero : Bool) → (nonzero ≡ true → P 0)
        → (xs : List (List ℕ)) → ((m : ℕ) → m < length xs → Passing p rows n s D P nonzero (get_or xs m [])) → Different [] xs
        → length xs ≤ (b ^ (n - 1) - cond nonzero 1 0) ^ s
    passing_count s nonzero zero-allowed = at_most_members ((passing_at_most prime residues wrong most) s nonzero zero-allowed) []
