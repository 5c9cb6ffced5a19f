-- Lists that a loop fills, number by number, and parts of lists.
--
--   filled_none          no element is filled yet
--   filled_more          one more is
--   filled_all           all are, by another form of their count
--   filled_same          two lists filled alike are equal
--   part_of, part_long   the elements of a part of a list, and how many they are
--   line_from            it, from where it starts
--   digits_same          two numbers by row and column are equal only where these are
--   Replaced d x a n y z   z is the list x with y in place of its n elements from a on
--   part_replaced        it is so after a call that is lent that part and leaves y there
--   filled_part          the next n elements are filled by such a call
use Rattle.std.specs.Prelude.{ℕ, ◌+◌, ◌-◌, ◌*◌, ◌/◌, ◌%◌, ◌≤◌, ◌<◌, ◌≡◌, refl, List, ◌++◌, ◌⊎◌, length, get_or, set, take, drop}
use Rattle.std.proofs.Math.Decide.{ℕ_discrete, dec_lt}
use Rattle.std.proofs.Common.{arith, sym, ap, ◌∙◌, inl, inr, ⊎_elim, length-set, length-drop, length-append, get_or-set_same, get_or-set_other, get_or-take, get_or-drop, get_or-append-add, length-take-le, ext_get_or}
use Rattle.std.proofs.Math.Arith.{digits_div, digits_mod}
use Rattle.std.proofs.Math.ListN.{get_or-append}
use Rattle.algebra.specs.Laws.Fills.{Filled, line_at}

module _ {A : Type 0} {d : A} {before : List A} {f : ℕ → A} where
  pub filled_none : Filled d before 0 f before
  filled_none = record { long = refl; each = λ k l. absurd (omega arith); rest = λ k l. refl }

  pub filled_more : {k : ℕ} {value : A} {list : List A} → k < length before → Filled d before k f list → value ≡ f k
      → Filled d before (k + 1) f (set list k value)
  filled_more {k} {value} {list} inside filled is =
      record {
        long = length-set list k value ∙ filled.long;
        each = λ i l. elim (ℕ_discrete i k) [
          | yes same ↦
              ap (λ n. get_or (set list k value) n d) same ∙ get_or-set_same list k value d (omega (arith, filled.long)) ∙ is ∙ ap f (sym same)
          | no other ↦ get_or-set_other list k i value d other ∙ filled.each i (omega arith)
        ];
        rest = λ i l. get_or-set_other list k i value d (λ same. omega arith) ∙ filled.rest i (omega arith);
      }

  module _ {count : ℕ} {list : List A} (filled : Filled d before count f list) where
    pub filled_all : {n : ℕ} → count ≤ n → n ≤ count → Filled d before n f list
    filled_all {n} least most = let all : count ≡ n = omega arith in rw all at filled

    pub filled_same : {other : List A} → Filled d before count f other → list ≡ other
    filled_same {other} again =
        ext_get_or d list other (filled.long ∙ sym again.long)
        (λ k m. elim (dec_lt k count) [
          | yes l ↦ filled.each k l ∙ sym (again.each k l)
          | no l ↦ filled.rest k (omega arith) ∙ sym (again.rest k (omega arith))
        ])

pub part_of : {A : Type 0} (x : List A) (start n i : ℕ) (d : A) → i < n
    → get_or (take (start + n - start) (drop start x)) i d ≡ get_or x (start + i) d
part_of x start n i d l = get_or-take (start + n - start) (drop start x) i d (omega arith) ∙ get_or-drop start x i d

pub part_long : {A : Type 0} (x : List A) (start n : ℕ) → start + n ≤ length x → length (take (start + n - start) (drop start x)) ≡ n
part_long x start n l = length-take-le (start + n - start) (drop start x) (omega (arith, length-drop start x)) ∙ omega arith

pub line_from : {A : Type 0} (x : List A) (n i : ℕ) {start : ℕ} → start ≡ i * n → take (start + n - start) (drop start x) ≡ line_at x n i
line_from x n i e = ap (λ s. take (s + n - s) (drop s x)) e

pub digits_same : {a b c d : ℕ} (n : ℕ) → b < n → d < n → a * n + b ≡ c * n + d → (a ≡ c) × (b ≡ d)
digits_same {a} {b} {c} {d} n l m e = (
  sym (digits_div a l) ∙ ap (λ k. k / n) e ∙ digits_div c m,
  sym (digits_mod a l) ∙ ap (λ k. k % n) e ∙ digits_mod c m,
)

pub record Replaced {A : Type 0} (d : A) (x : List A) (start n : ℕ) (part after : List A) : Type 0 where
  pub long : length after ≡ length x
  pub inside : (i : ℕ) → i < n → get_or after (start + i) d ≡ get_or part i d
  pub outside : (i : ℕ) → (i < start) ⊎ (start + n ≤ i) → get_or after i d ≡ get_or x i d

module _ {A : Type 0} (d : A) (x : List A) (start n : ℕ) (part : List A) where
  abbrev rest : List A
  rest = drop (start + n - start) (drop start x)

  pub part_replaced : length part ≡ n → start + n ≤ length x → Replaced d x start n part (take start x ++ (part ++ rest))
  part_replaced long fits =
      let front : length (take start x) ≡ start = length-take-le start x (omega arith) in
      let past : (i : ℕ) → get_or (take start x ++ (part ++ rest)) (start + i) d ≡ get_or (part ++ rest) i d =
      λ i. rw front at (get_or-append-add (take start x) (part ++ rest) i d) in
      record {
        long = length-append (take start x) (part ++ rest)
            ∙ omega (arith, length-append part rest, length-drop (start + n - start) (drop start x), length-drop start x);
        inside = λ i l. past i ∙ get_or-append part rest d i (omega arith);
        outside = λ i. ⊎_elim
            (λ l. get_or-append (take start x) (part ++ rest) d i (omega arith) ∙ get_or-take start x i d l)
            (λ l. let m = i - start - n in
            let place : i ≡ start + (n + m) = omega arith in
            let same : start + (start + n - start + m) ≡ i = omega arith in
            ap (λ k. get_or (take start x ++ (part ++ rest)) k d) place ∙ past (n + m) ∙ (rw long at (get_or-append-add part rest m d))
            ∙ get_or-drop (start + n - start) (drop start x) m d ∙ get_or-drop start x (start + n - start + m) d ∙ ap (λ k. get_or x k d) same);
      }

pub filled_part : {A : Type 0} {d : A} {before list slice part after : List A} {f g : ℕ → A} {count n : ℕ}
    → Filled d before count f list → Filled d slice n g part → Replaced d list count n part after
    → ((i : ℕ) → i < n → g i ≡ f (count + i)) → Filled d before (count + n) f after
filled_part {count = count} {n} filled next put same =
    record {
      long = put.long ∙ filled.long;
      each = λ k l. elim (dec_lt k count) [
        | yes m ↦ put.outside k (inl m) ∙ filled.each k m
        | no m ↦
            let place : count + (k - count) ≡ k = omega arith in
            let here : k - count < n = omega arith in
            rw place at (put.inside (k - count) here ∙ next.each (k - count) here ∙ same (k - count) here)
      ];
      rest = λ k l. put.outside k (inr l) ∙ filled.rest k (omega arith);
    }
