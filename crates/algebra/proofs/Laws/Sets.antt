-- Sets of natural numbers, written as lists of different numbers.
--
--   contains set a      the number a is one of those of the list
--   contains_at         what stands at a place of the list is
--   range c             the numbers from 0 to c - 1
--   range_length        they are c
--   range_at            each stands at its own place
use Rattle.std.specs.Prelude.{ℕ, zero, suc, ◌<◌, ◌≡◌, refl, ◌↔◌, Bool, true, false, cond, ◌||◌, List, [], ◌∷◌, eqb, length, get_or}
use Rattle.std.proofs.Math.Decide.{ℕ_discrete, dec_lt}
use Rattle.std.proofs.Common.{arith, sym, ap, ◌∙◌, subst, eq-eqb, ne_eqb}
use Rattle.std.proofs.lemmas.Bool.{false≢true}
use Rattle.std.proofs.Math.Bool.{or-true}
use Rattle.residue.proofs.Laws.Counting.{Exactly, Different, listed, length_listed, get_or_listed}
pub mod ContainedExactly
pub mod RangeContains
pub mod RangeDifferent

abbrev pub contains : List ℕ → ℕ → Bool
contains [] a = false
contains (y ∷ set) a = eqb y a || contains set a

-- where a stands first
place : List ℕ → ℕ → ℕ
place [] a = 0
place (y ∷ set) a = cond (eqb y a) 0 (suc (place set a))

place_found : (set : List ℕ) (a : ℕ) → contains set a ≡ true → (place set a < length set) × (get_or set (place set a) 0 ≡ a)
unfolding place
place_found [] a h = absurd (false≢true h)
place_found (y ∷ set) a h = elim (ℕ_discrete y a) [
  | yes e ↦ rw (eq-eqb y a e) (omega arith, e)
  | no other ↦ let rest = place_found set a (rw (ne_eqb y a other) at h) in rw (ne_eqb y a other) (omega (arith, rest.0), rest.1)
]

pub contains_at : (set : List ℕ) (k : ℕ) → k < length set → contains set (get_or set k 0) ≡ true
contains_at [] k l = absurd (omega arith)
contains_at (y ∷ set) zero l = rw (eq-eqb y y refl)
contains_at (y ∷ set) (suc k) l = rw (contains_at set k (omega arith)) (or-true (eqb y (get_or set k 0)))

-- equal numbers of a list of different ones stand at the same place
same_place : (set : List ℕ) → Different 0 set → (i j : ℕ) → i < length set → j < length set → get_or set i 0 ≡ get_or set j 0 → i ≡ j
same_place set different i j l m e = elim (dec_lt i j) [
  | yes before ↦ absurd (different i j before m e)
  | no late ↦ elim (dec_lt j i) [ yes after ↦ absurd (different j i after l (sym e)) | no early ↦ omega arith ]
]

abbrev pub range : ℕ → List ℕ
range c = listed (λ n. n) c

pub range_length : (c : ℕ) → length (range c) ≡ c
range_length c = length_listed (λ n. n) c

pub range_at : (c n : ℕ) → n < c → get_or (range c) n 0 ≡ n
range_at c n l = get_or_listed (λ n. n) c n 0 l
