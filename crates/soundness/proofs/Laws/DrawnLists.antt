-- Lists drawn from a set of allowed numbers: which of them are accepted, and how many (N1, N2). The set is a list of b different
-- residues.
--
--   Allowed set               the numbers of the set are different, and below p
--   DrawnFrom set x           every number of the list x is in the set
--   list_count set n s         how many lists of s vectors of n numbers of the set there are, none of the vectors being of zeros
--   count_with_zero, count_without_zero   (b^n - 1)^s where 0 is in the set, b^(s·n) where it is not
--   one_drawn_accepted        of two lists that differ only in a column in which the ticket is false, not both are accepted
--   drawn_accepted_few        with a false ticket, at most as many different ones are accepted as there are of one column less (N1)
--   drawn_well_formed_at_most, drawn_well_formed_reached   so many different ones are well formed at most, and some are so many (N2)
--   Below c x                 every number of the list x is below c
--   below_residues            those of a well-formed list are below p
--   range_allowed             the numbers below c are a set, where c is at most p
--   range_drawn               the lists drawn from it are those of numbers below c
use Rattle.std.specs.Prelude.{ℕ, ◌+◌, ◌-◌, ◌*◌, ◌^◌, ◌≤◌, ◌<◌, ◌≡◌, refl, ◌↔◌, Bool, true, false, cond, List, [], length, get_or}
use Rattle.std.proofs.Common.{mul-le-mul_right, arith, sym, ap, ◌∙◌}
use Rattle.std.proofs.lemmas.Bool.{false≢true}
use Rattle.std.proofs.Math.Arith.{digits_lt}
use Rattle.residue.specs.Rules.{modulus}
use Rattle.residue.proofs.Laws.Modulus.PartnerModuli.{modulus_prime}
use Rattle.residue.proofs.Laws.Counting.{Exactly, Different}
use Rattle.residue.proofs.Laws.Counting.ExactlyButOne.{at_most_members, exactly_through, exactly_members}
use Rattle.algebra.proofs.Laws.Positions.{by_rows}
use Rattle.algebra.proofs.Laws.Sets.{contains, range, range_length, range_at}
use Rattle.algebra.proofs.Laws.Sets.ContainedExactly.{contained_below, contained_exactly}
use Rattle.algebra.proofs.Laws.Sets.RangeContains.{range_contains}
use Rattle.algebra.proofs.Laws.Sets.RangeDifferent.{range_different}
use Rattle.algebra.proofs.Laws.Drawn.{Drawn, drawn_exactly, drawn_with_zero, drawn_share}
use Rattle.algebra.proofs.Laws.Soundness.{Passing}
use Rattle.algebra.proofs.Laws.Soundness.OneColumn.{one_column}
use Rattle.algebra.proofs.Laws.Soundness.PassingCount.{passing_count}
use Rattle.ticket.specs.declared.setting.Setting.{Setting}
use Rattle.ticket.specs.Rules.{Passes, FalseIn}
use Rattle.challenge.specs.Rules.{challenge_at, WellFormed, Accepted, DifferIn}
use Rattle.challenge.specs.Laws.Lists.{ZeroVector}
use Rattle.challenge.proofs.Laws.Lists.{well_formed_is}
use Rattle.soundness.proofs.Laws.Demands.{accepted_is}
use Rattle.soundness.proofs.Laws.Demands.FalseWrong.{difference, balanced_is, false_wrong}
pub mod DrawnAcceptedShare
pub mod BelowShare

pub record Allowed (set : List ℕ) : Type 0 where
  pub different : Different 0 set
  pub below : (k : ℕ) → k < length set → get_or set k 0 < modulus

abbrev pub DrawnFrom : List ℕ → List ℕ → Type 0
DrawnFrom set x = (k : ℕ) → k < length x → contains set (get_or x k 0) ≡ true

abbrev pub list_count : List ℕ → ℕ → ℕ → ℕ
list_count set n s = (length set ^ n - cond (contains set 0) 1 0) ^ s

pub count_with_zero : (set : List ℕ) (n s : ℕ) → contains set 0 ≡ true → list_count set n s ≡ (length set ^ n - 1) ^ s
count_with_zero set n s e = rw e

pub count_without_zero : (set : List ℕ) (n s : ℕ) → contains set 0 ≡ false → list_count set n s ≡ length set ^ (s * n)
count_without_zero set n s e = rw e (drawn_with_zero (length set) n s)

-- where 0 is not in the set, no vector drawn from it is of zeros
abbrev OfSet : List ℕ → Setting → List ℕ → Type 0
OfSet set G x = Drawn G.columns G.vectors (λ a. contains set a ≡ true) (contains set 0) x

well_formed_of_set : (set : List ℕ) (G : Setting) (x : List ℕ) → DrawnFrom set x → WellFormed G x → OfSet set G x
well_formed_of_set set G x drawn w =
    let entries = (well_formed_is G x).0 w in
    record {
      size = entries.size;
      vectors = λ τ l.
          record {
            allowed = λ k m. drawn (τ * G.columns + k) (omega (arith, entries.size, digits_lt l m));
            not_zero = λ e. entries.other τ l;
          };
    }

of_set_well_formed : {set : List ℕ} → Allowed set → (G : Setting) → (contains set 0 ≡ false → 0 < G.columns)
    → (x : List ℕ) → OfSet set G x → DrawnFrom set x × WellFormed G x
of_set_well_formed {set} allowed G some x d = (
  λ k l. each k (omega (arith, d.size)),
  (well_formed_is G x).1
      record {
        size = d.size;
        below = λ k l. contained_below set modulus allowed.below (get_or x k 0) (each k l);
        other = λ τ l z. other τ l z (contains set 0) refl;
      },
)
  where
    each : (k : ℕ) → k < G.vectors * G.columns → contains set (get_or x k 0) ≡ true
    each = by_rows (λ k. contains set (get_or x k 0) ≡ true) G.columns (λ τ k l m. (d.vectors τ l).allowed k m)

    other : (τ : ℕ) → τ < G.vectors → ZeroVector G x τ → (zero : Bool) → contains set 0 ≡ zero → ⊥
    other τ l z true e = (d.vectors τ l).not_zero e z
    other τ l z false e = absurd (false≢true (sym e ∙ ap (contains set) (sym (z 0 (some e))) ∙ (d.vectors τ l).allowed 0 (some e)))

accepted_pass : (set : List ℕ) (G : Setting) (t : List ℕ) → Passes G t → (x : List ℕ) → DrawnFrom set x → Accepted G t x
    → Passing modulus G.rows G.columns G.vectors (difference G t) (λ a. contains set a ≡ true) (contains set 0) x
accepted_pass set G t passes x drawn e =
    let h = (accepted_is G t passes x).0 e in
    record { drawn = well_formed_of_set set G x drawn h.0; orthogonal = λ τ l i m. (balanced_is G t x τ i).0 (h.1 τ i l m) }

pub one_drawn_accepted : (set : List ℕ) → Allowed set → (G : Setting) (t : List ℕ) → Passes G t → (j : ℕ) → FalseIn G t j
    → (x y : List ℕ) → DrawnFrom set x → DrawnFrom set y → DifferIn G j x y → Accepted G t x → Accepted G t y → ⊥
one_drawn_accepted set allowed G t passes j column x y dx dy differ ax ay =
    differ.differs.2 (ap (λ l. challenge_at G l differ.differs.0 j) same)
  where
    same : x ≡ y
    same =
        one_column modulus_prime (contained_below set modulus allowed.below) (false_wrong G t passes j column)
        (accepted_pass set G t passes x dx ax) (accepted_pass set G t passes y dy ay) differ.elsewhere

module _ (set : List ℕ) (allowed : Allowed set) (G : Setting) (t : List ℕ) (passes : Passes G t) (j : ℕ) (column : FalseIn G t j)
    (xs : List (List ℕ)) (different : Different [] xs)
    (all : (k : ℕ) → k < length xs → DrawnFrom set (get_or xs k []) × Accepted G t (get_or xs k [])) where
  pub drawn_accepted_few : length xs ≤ list_count set (G.columns - 1) G.vectors
  drawn_accepted_few =
      passing_count modulus_prime (contained_below set modulus allowed.below) (false_wrong G t passes j column)
      (contained_exactly set allowed.different).most G.vectors (contains set 0) (λ e. e) xs
      (λ k l. accepted_pass set G t passes (get_or xs k []) (all k l).0 (all k l).1) different

of_set_exactly : (set : List ℕ) → Allowed set → (G : Setting) → Exactly (OfSet set G) (list_count set G.columns G.vectors)
of_set_exactly set allowed G = drawn_exactly (contained_exactly set allowed.different) G.vectors (contains set 0) (λ e. e)

-- a set without 0 needs a column, since a vector without numbers is one of zeros
drawn_exactly_with : (set : List ℕ) → Allowed set → (G : Setting) → (contains set 0 ≡ false → 0 < G.columns)
    → Exactly (λ x. DrawnFrom set x × WellFormed G x) (list_count set G.columns G.vectors)
drawn_exactly_with set allowed G some =
    exactly_through (of_set_exactly set allowed G) (λ x. x) (λ x. x)
    (λ x w. well_formed_of_set set G x w.0 w.1)
    (λ x y v w e. e)
    (λ x d. (of_set_well_formed allowed G some x d, refl))

pub drawn_well_formed_at_most : (set : List ℕ) → Allowed set → (G : Setting) → (xs : List (List ℕ)) → Different [] xs
    → ((k : ℕ) → k < length xs → DrawnFrom set (get_or xs k []) × WellFormed G (get_or xs k []))
    → length xs ≤ list_count set G.columns G.vectors
drawn_well_formed_at_most set allowed G xs different all =
    at_most_members (of_set_exactly set allowed G).most [] xs
    (λ k l. well_formed_of_set set G (get_or xs k []) (all k l).0 (all k l).1) different

pub drawn_well_formed_reached : (set : List ℕ) → Allowed set → (G : Setting) → 0 < G.columns
    → (xs : List (List ℕ)) × (length xs ≡ list_count set G.columns G.vectors) × Different [] xs
    × ((k : ℕ) → k < length xs → DrawnFrom set (get_or xs k []) × WellFormed G (get_or xs k []))
drawn_well_formed_reached set allowed G some = exactly_members (drawn_exactly_with set allowed G (λ e. some)) []

abbrev pub Below : ℕ → List ℕ → Type 0
Below c x = (k : ℕ) → k < length x → get_or x k 0 < c

pub below_residues : (G : Setting) (x : List ℕ) → WellFormed G x → Below modulus x
below_residues G x w k l = let entries = (well_formed_is G x).0 w in entries.below k (omega (arith, entries.size))

pub range_allowed : (c : ℕ) → c ≤ modulus → Allowed (range c)
range_allowed c small =
    record {
      different = range_different c;
      below = λ k l. let inside : k < c = omega (arith, range_length c) in omega (arith, range_at c k inside);
    }

pub range_drawn : (c : ℕ) (x : List ℕ) → DrawnFrom (range c) x ↔ Below c x
range_drawn c x = (λ d k l. (range_contains c (get_or x k 0)).0 (d k l), λ h k l. (range_contains c (get_or x k 0)).1 (h k l))
