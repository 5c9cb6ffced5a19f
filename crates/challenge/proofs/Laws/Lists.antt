-- The tests 10, 11 and 21 of a challenge list.
--
--   number_least          number k of a list passes test 11 exactly when it is a least residue
--   number_large          where it is not, the test gives 11
--   vector_other          vector τ passes test 21 exactly when it is not that
--   vector_zero           where it is, the test gives 21
--   vector_refused        where it does not pass, it is
--   line_zero, line_other   both by whether all numbers of the line are 0 in which the vector stands
--   numbers_refused, numbers_passed   the answer of test 11, by the first number that is not a least residue
--   vectors_refused       the answer of test 21, by the first vector that does not pass
--   well_formed_is        a list is well formed exactly when it is that
--   other_length          a list of another length is refused by 10
--   list_numbers, list_vectors   a list of the right length by the answers of the tests 11 and 21
--   first_large           the first number that is not a least residue is refused by 11
--   first_zero            where there is none, the first vector of zeros is refused by 21
--   none_zero             where there is none of either, the list passes
--   all_nonzero           a list of numbers from 1 to p - 1 passes
--   ListAnswer G x a, list_answered   the condition of the answer a of these tests, no earlier one failing; it holds for the answer of the list
--   list_place            its place is at most that of a number or vector past the last
use Rattle.std.specs.Prelude.{ℕ, ◌+◌, ◌-◌, ◌*◌, ◌≤◌, ◌<◌, ◌≡◌, refl, Bool, true, false, ◌↔◌, List, length, get_or}
use Rattle.std.specs.List.{AllPass, list_all}
use Rattle.std.proofs.lemmas.Bool.{false≢true}
use Rattle.std.proofs.lemmas.List.Elements.{All-get_or, All-from_get_or}
use Rattle.std.proofs.lemmas.List.Sums.{AllPass-from_list_all, list_all-from_AllPass}
use Rattle.std.proofs.Math.Decide.{ℕ_discrete, dec_le}
use native.Mathlib.Omega.{arith}
use Rattle.std.proofs.Common.{sym, subst, ◌∙◌, ⊎_elim}
use Rattle.std.proofs.Math.Path.{ap}
use borrow.Author.Tests.{eq-eqb, ne_eqb, eqb-true, lt-ltb, le-ltb}
use Rattle.std.proofs.Math.Arith.{digits_lt}
use Rattle.std.proofs.Math.Dec.{eqb}
use Rattle.residue.specs.Rules.{modulus}
use Rattle.residue.proofs.Laws.Modulus.PartnerModuli.{modulus_positive}
use Rattle.algebra.specs.Laws.Fills.{line_at}
use Rattle.algebra.proofs.Laws.Fills.{part_of, part_long}
use Rattle.algebra.proofs.Laws.Positions.{row_inside}
use Rattle.ticket.specs.declared.setting.Setting.{Setting}
use Rattle.ticket.specs.declared.Answer.{Answer}
use Rattle.ticket.specs.Rules.{after, refusal, first_refusal}
use Rattle.ticket.specs.Laws.All.{all}
use Rattle.ticket.proofs.Laws.All.{all_at}
use Rattle.ticket.proofs.Laws.Answers.{unless_zero, after_zero, scan_zero, first_past}
use Rattle.ticket.proofs.Laws.First.{first_within}
use Rattle.ticket.proofs.Laws.Limits.{within_both}
use Rattle.ticket.proofs.Laws.Scans.{refusal_none, refusal_is, zeros_or_first, after_first, after_second}
use Rattle.challenge.specs.Rules.{challenge_at, WellFormed, list_number, first_nonzero, vector_number, list_reading}
use Rattle.challenge.specs.Laws.Lists.{ZeroVector, nonzero_residue, Entries}

module _ (x : List ℕ) (k : ℕ) where
  pub number_large : modulus ≤ get_or x k 0 → list_number x k ≡ 11
  unfolding list_number
  number_large h = rw (le-ltb (get_or x k 0) modulus h)

  pub number_least : (list_number x k ≡ 0) ↔ (get_or x k 0 < modulus)
  unfolding list_number
  number_least = (
    λ e. elim (dec_le modulus (get_or x k 0)) [ yes large ↦ absurd (omega (arith, number_large large)) | no small ↦ omega arith ],
    λ h. rw (lt-ltb (get_or x k 0) modulus h),
  )

module _ (G : Setting) (x : List ℕ) (τ : ℕ) where
  -- no number of the vector is the first that is not 0 exactly when all are 0
  none_first : (first_nonzero G x τ ≡ G.columns) ↔ ZeroVector G x τ
  unfolding first_nonzero
  none_first =
      let past = first_past G.columns (λ j. eqb (challenge_at G x τ j) 0) in
      (λ e j l. eqb-true _ _ (past.0 e j l), λ z. past.1 (λ j l. eq-eqb _ _ (z j l)))

  some_first : first_nonzero G x τ ≤ G.columns
  unfolding first_nonzero
  some_first = first_within G.columns _

  pub vector_zero : ZeroVector G x τ → vector_number G x τ ≡ 21
  unfolding vector_number
  vector_zero z = rw (le-ltb (first_nonzero G x τ) G.columns (omega (arith, none_first.1 z)))

  pub vector_other : (vector_number G x τ ≡ 0) ↔ (ZeroVector G x τ → ⊥)
  unfolding vector_number
  vector_other = (
    λ e z. omega (arith, vector_zero z),
    λ d. let less : first_nonzero G x τ ≡ G.columns → ⊥ = λ e. d (none_first.0 e) in
        rw (lt-ltb (first_nonzero G x τ) G.columns (omega (arith, some_first, less))),
  )

  pub vector_refused : (vector_number G x τ ≡ 0 → ⊥) → ZeroVector G x τ
  vector_refused d =
      elim (ℕ_discrete (first_nonzero G x τ) G.columns) [
        | yes e ↦ none_first.0 e
        | no other ↦ absurd (d (vector_other.1 (λ z. other (none_first.1 z))))
      ]

  -- v is the vector as a line of the list
  module _ (size : length x ≡ G.vectors * G.columns) (l : τ < G.vectors) {v : List ℕ} (v-is : v ≡ line_at x G.columns τ)
      {r : Bool} (r-is : r ≡ list_all (λ n. eqb n 0) v) where
    long : length v ≡ G.columns
    long = rw v-is (part_long x (τ * G.columns) G.columns (omega (arith, row_inside G.columns l)))

    at : (j : ℕ) → j < G.columns → get_or v j 0 ≡ challenge_at G x τ j
    at j h = rw v-is (part_of x (τ * G.columns) G.columns j 0 h)

    pub line_zero : r ≡ true → vector_number G x τ ≡ 21
    line_zero e =
        let each : AllPass (λ n. eqb n 0) v = AllPass-from_list_all _ v (sym r-is ∙ e) in
        vector_zero (λ j h. sym (at j h) ∙ eqb-true _ _ (All-get_or (λ n. eqb n 0 ≡ true) v j 0 (omega (arith, long)) each))

    pub line_other : r ≡ false → vector_number G x τ ≡ 0
    line_other e =
        vector_other.1 (λ z. let each : AllPass (λ n. eqb n 0) v =
        All-from_get_or (λ n. eqb n 0 ≡ true) v 0 (λ j h. eq-eqb _ _ (at j (omega (arith, long)) ∙ z j (omega (arith, long)))) in
        absurd (false≢true (sym e ∙ r-is ∙ list_all-from_AllPass _ v each)))

-- the first of n numbers that is not 0 makes the answer
first_number : {n k c : ℕ} (f : ℕ → ℕ) → k < n → ((i : ℕ) → i < k → f i ≡ 0) → f k ≡ c → (c ≡ 0 → ⊥) → refusal c k ≡ first_refusal 0 n f
first_number {n} {k} {c} f l before e other =
    sym (refusal_is 0 n k f l before (λ z. other (sym e ∙ z)) ∙ rw e (ap (refusal c) (omega arith)))

module _ (x : List ℕ) (n : ℕ) where
  pub numbers_refused : {k : ℕ} → k < n → ((i : ℕ) → i < k → get_or x i 0 < modulus) → modulus ≤ get_or x k 0
      → refusal 11 k ≡ first_refusal 0 n (list_number x)
  numbers_refused {k} l before h =
      first_number (list_number x) l (λ i m. (number_least x i).1 (before i m)) (number_large x k h) (λ z. omega arith)

  pub numbers_passed : ((i : ℕ) → i < n → get_or x i 0 < modulus) → refusal 0 0 ≡ first_refusal 0 n (list_number x)
  numbers_passed each = sym (refusal_none 0 n (list_number x) (λ i l. (number_least x i).1 (each i l)))

pub vectors_refused : (G : Setting) (x : List ℕ) {τ : ℕ} → τ < G.vectors → ((σ : ℕ) → σ < τ → vector_number G x σ ≡ 0)
    → vector_number G x τ ≡ 21 → refusal 21 τ ≡ first_refusal 0 G.vectors (vector_number G x)
vectors_refused G x l before e = first_number (vector_number G x) l before e (λ z. omega arith)

module _ (G : Setting) (x : List ℕ) where
  abbrev count : ℕ
  count = G.vectors * G.columns

  abbrev numbers : Answer
  numbers = first_refusal 0 count (list_number x)

  abbrev vectors : Answer
  vectors = first_refusal 0 G.vectors (vector_number G x)

  all_tests : WellFormed G x ↔ ((eqb (length x) count ≡ true) × ((after numbers vectors).number ≡ 0))
  unfolding list_reading
  all_tests = unless_zero (eqb (length x) count) (refusal 10 0) (after numbers vectors) (λ z. omega arith)

  pub well_formed_is : WellFormed G x ↔ Entries G x
  well_formed_is = (
    λ e. let h = all_tests.0 e in
        let passed = (after_zero numbers vectors).0 h.1 in
        record {
          size = eqb-true (length x) count h.0;
          below = λ k l. (number_least x k).0 ((scan_zero 0 count (list_number x)).0 passed.0 k l);
          other = λ τ l. (vector_other G x τ).0 ((scan_zero 0 G.vectors (vector_number G x)).0 passed.1 τ l);
        },
    λ h. all_tests.1 (
      eq-eqb (length x) count h.size,
      (after_zero numbers vectors).1 (
        (scan_zero 0 count (list_number x)).1 (λ k l. (number_least x k).1 (h.below k l)),
        (scan_zero 0 G.vectors (vector_number G x)).1 (λ τ l. (vector_other G x τ).1 (h.other τ l)),
      ),
    ),
  )

  pub other_length : (length x ≡ count → ⊥) → refusal 10 0 ≡ list_reading G x
  unfolding list_reading
  other_length d = rw (ne_eqb (length x) count d)

  module _ (size : length x ≡ count) where
    sized : list_reading G x ≡ after numbers vectors
    unfolding list_reading
    sized = rw (eq-eqb (length x) count size)

    module _ {a : Answer} (a-is : a ≡ first_refusal 0 (length x) (list_number x)) where
      same : a ≡ numbers
      same = rw size at a-is

      pub list_numbers : (a.number ≡ 0 → ⊥) → a ≡ list_reading G x
      list_numbers d = after_first same vectors d ∙ sym sized

      pub list_vectors : a.number ≡ 0 → {b : Answer} → b ≡ first_refusal 0 G.vectors (vector_number G x) → b ≡ list_reading G x
      list_vectors z b-is = after_second same z b-is ∙ sym sized

    pub first_large : (k : ℕ) → k < count → ((i : ℕ) → i < k → get_or x i 0 < modulus) → modulus ≤ get_or x k 0
        → refusal 11 k ≡ list_reading G x
    first_large k l before h = list_numbers (numbers_refused x (length x) (omega arith) before h) (λ z. omega arith)

    module _ (all-least : (k : ℕ) → k < count → get_or x k 0 < modulus) where
      least : refusal 0 0 ≡ first_refusal 0 (length x) (list_number x)
      least = numbers_passed x (length x) (λ k l. all-least k (omega arith))

      pub first_zero : (τ : ℕ) → τ < G.vectors → ((σ : ℕ) → σ < τ → ZeroVector G x σ → ⊥) → ZeroVector G x τ
          → refusal 21 τ ≡ list_reading G x
      first_zero τ l before z =
          list_vectors least refl (vectors_refused G x l (λ σ m. (vector_other G x σ).1 (before σ m)) (vector_zero G x τ z))

      pub none_zero : ((τ : ℕ) → τ < G.vectors → ZeroVector G x τ → ⊥) → refusal 0 0 ≡ list_reading G x
      none_zero other =
          list_vectors least refl (sym (refusal_none 0 G.vectors (vector_number G x) (λ τ l. (vector_other G x τ).1 (other τ l))))

    pub all_nonzero : 1 ≤ G.columns → all (length x) (nonzero_residue x) ≡ true → refusal 0 0 ≡ list_reading G x
    all_nonzero some each =
        none_zero (λ k l. omega (arith, modulus_positive, nonzero k l))
        (λ τ l z. omega (arith, z 0 some, nonzero (τ * G.columns + 0) (digits_lt l some)))
      where
        nonzero : (k : ℕ) → k < count → (1 ≤ get_or x k 0) × (get_or x k 0 ≤ modulus - 1)
        nonzero k l = within_both (all_at (length x) (nonzero_residue x) each k (omega arith))

pub data ListAnswer (G : Setting) (x : List ℕ) : Answer → Type 0 where
  other_count : (length x ≡ G.vectors * G.columns → ⊥) → ListAnswer G x (refusal 10 0)
  large_number : {k : ℕ} → length x ≡ G.vectors * G.columns → k < G.vectors * G.columns → ((i : ℕ) → i < k → get_or x i 0 < modulus)
      → modulus ≤ get_or x k 0 → ListAnswer G x (refusal 11 k)
  zero_at : {τ : ℕ} → length x ≡ G.vectors * G.columns → ((k : ℕ) → k < G.vectors * G.columns → get_or x k 0 < modulus)
      → τ < G.vectors → ((σ : ℕ) → σ < τ → ZeroVector G x σ → ⊥) → ZeroVector G x τ → ListAnswer G x (refusal 21 τ)
  formed : Entries G x → ListAnswer G x (refusal 0 0)

module _ (G : Setting) (x : List ℕ) where
  -- a list of the right length, of least residues
  vectors_answered : length x ≡ G.vectors * G.columns → ((k : ℕ) → k < G.vectors * G.columns → get_or x k 0 < modulus)
      → ListAnswer G x (list_reading G x)
  vectors_answered e all =
      ⊎_elim
      (λ z. let other : (τ : ℕ) → τ < G.vectors → ZeroVector G x τ → ⊥ = λ τ l. (vector_other G x τ).0 (z τ l) in
      subst (ListAnswer G x) (none_zero G x e all other) (formed record { size = e; below = all; other = other }))
      (λ o. let τ = o.0 in
      let at = o.1 in
      let before : (σ : ℕ) → σ < τ → ZeroVector G x σ → ⊥ = λ σ l. (vector_other G x σ).0 (at.before σ l) in
      let here = vector_refused G x τ at.other in
      subst (ListAnswer G x) (first_zero G x e all τ at.within before here) (zero_at e all at.within before here))
      (zeros_or_first G.vectors (vector_number G x))

  pub list_answered : ListAnswer G x (list_reading G x)
  list_answered =
      elim (ℕ_discrete (length x) (G.vectors * G.columns)) [
        | no d ↦ subst (ListAnswer G x) (other_length G x d) (other_count d)
        | yes e ↦
            ⊎_elim
            (λ z. vectors_answered e (λ k l. (number_least x k).0 (z k l)))
            (λ o. let k = o.0 in
            let at = o.1 in
            let before : (i : ℕ) → i < k → get_or x i 0 < modulus = λ i l. (number_least x i).0 (at.before i l) in
            let large : modulus ≤ get_or x k 0 =
            elim (dec_le modulus (get_or x k 0)) [ yes m ↦ m | no m ↦ absurd (at.other ((number_least x k).1 (omega arith))) ] in
            subst (ListAnswer G x) (first_large G x e k at.within before large) (large_number e at.within before large))
            (zeros_or_first (G.vectors * G.columns) (list_number x))
      ]

  pub list_place : (list_reading G x).place ≤ G.vectors * G.columns + G.vectors
  list_place = at_most list_answered
    where
      at_most : {a : Answer} → ListAnswer G x a → a.place ≤ G.vectors * G.columns + G.vectors
      at_most (other_count d) = omega arith
      at_most (large_number e l h m) = omega arith
      at_most (zero_at e all l h z) = omega arith
      at_most (formed h) = omega arith
