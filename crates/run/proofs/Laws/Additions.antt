-- The lists of states, and additions to them, as the code makes them (S1).
--
--   row_held, reading_held   the row and the tests of the state's list, as the code takes it
--   begun_made         the state of a run that begins
--   lengthened_made    the state with a vector at the end of its list
--   reading_passes, place_fits, vector_large, vector_zeros, vector_neither, vector_plain   the tests of the vector, as the code makes them
--   addition_list, addition_vector, addition_last   the answer of the tests of an addition: by the state's list, by the vector, by the state
--   closed, opened     the last test, by whether a vector may be added
--   Additional R v, addition_passed   what an addition that passes gives
--   addition_sizes, vectors_few, unfinished_open, lengthened_sizes   the sizes, without the vector and with it; that the run is not finished
--   held_long, vector_long, addition_fits   how long the lists are, and that there is room
use Rattle.std.specs.Prelude.{ℕ, zero, suc, ◌+◌, ◌-◌, ◌*◌, ◌≤◌, ◌<◌, ◌≡◌, refl, Bool, true, false, cond, not, leb, ltb, drop, replicate}
use Rattle.std.proofs.Math.Decide.{dec_le}
use Rattle.std.proofs.Math.Nat.{mul-le-mul}
use Rattle.std.proofs.Common.{arith, ◌∙◌, eq-eqb, ne_eqb, le-leb, ltb-true, length-append, length-take-le}
use Rattle.std.proofs.Math.Path.{sym, ap}
use Rattle.std.proofs.lemmas.Bool.{false≢true, lt-leb}
use mathlib.Core.List.{List, [], ◌++◌}
use Rattle.std.proofs.Math.ListN.{length, take}
use Rattle.ticket.specs.declared.published.PlainSetting.{PlainSetting}
use Rattle.ticket.specs.declared.setting.Setting.{Setting}
use Rattle.ticket.specs.declared.Answer.{Answer}
use Rattle.ticket.specs.Rules.{unless, refusal, after, most_columns, most_vectors, plain, setting_number}
use Rattle.ticket.proofs.Laws.Answers.{unless_zero, after_zero}
use Rattle.ticket.specs.Laws.Limits.{Sizes}
use Rattle.ticket.proofs.Laws.Limits.{both, limits_of}
use Rattle.ticket.proofs.Laws.Limits.ClampedSmall.{setting_holds}
use Rattle.ticket.proofs.Laws.Scans.{after_passed, after_first, after_second, after_together}
use Rattle.ticket.specs.Laws.Vectors.{vectored}
use Rattle.ticket.proofs.Laws.Vectors.{vectored_number}
use Rattle.challenge.specs.declared.single.RowAnswer.{RowAnswer}
use Rattle.challenge.specs.Rules.{WellFormed, list_reading, row_check}
use Rattle.challenge.specs.Laws.Lengthened.{placed_after}
use Rattle.challenge.proofs.Laws.Lengthened.{lengthened_reading}
use Rattle.challenge.proofs.Laws.Lists.{well_formed_is, list_place}
use Rattle.run.specs.declared.Run.{Run}
use Rattle.run.specs.Rules.{layer, most_numbers, held_list, is_finished, zeros, begun, one_more, lengthened, is_open, addition_reading, overwritten}
use Rattle.run.specs.Laws.Additions.{Additional}

module _ (R : Run) (long : length R.list ≡ most_numbers) {G : Setting} (G-is : G ≡ layer R) {x : List ℕ}
    (x-is : x ≡ take (cond (leb R.length (length R.list)) R.length 0) R.list) where
  held_is : x ≡ held_list R
  unfolding held_list
  held_is = x-is ∙ rw long

  pub row_held : (t : List ℕ) (τ i : ℕ) (u : List ℕ) {r : RowAnswer} → r ≡ row_check G t x τ i u → r ≡ row_check (layer R) t (held_list R) τ i u
  row_held t τ i u r-is = r-is ∙ rw (G-is, held_is)

  pub reading_held : {a : Answer} → a ≡ after (refusal (setting_number G) 0) (list_reading G x)
      → a ≡ after (refusal (setting_number (layer R)) 0) (list_reading (layer R) (held_list R))
  reading_held a-is = a-is ∙ rw (G-is, held_is)

drop_replicate : {A : Type 0} (n m : ℕ) (a : A) → drop n (replicate m a) ≡ replicate (m - n) a
drop_replicate zero m a = let all : m ≡ m - 0 = omega arith in ap (λ k. replicate k a) all
drop_replicate (suc n) zero a = let none : 0 ≡ 0 - suc n = omega arith in ap (λ k. replicate k a) none
drop_replicate (suc n) (suc m) a = let less : m - n ≡ suc m - suc n = omega arith in drop_replicate n m a ∙ ap (λ k. replicate k a) less

pub begun_made : (P : PlainSetting) (x : List ℕ) {list : List ℕ} {Z : Run} → list ≡ overwritten (replicate most_numbers 0) 0 x → Z ≡ zeros
    → ◌≡◌ {A = Run} (record {
      setting = P;
      list = list;
      length = length x;
      vector = Z.vector;
      row = Z.row;
      u = Z.u;
      caught = Z.caught;
    }) (begun P x)
begun_made P x e z =
    let start : 0 + length x ≡ length x = omega arith in
    rw (e, z, start, drop_replicate {A = ℕ} (length x) most_numbers 0)

-- the tests of an addition

pub reading_passes : (G : Setting) (x : List ℕ) {a : Answer} → a ≡ after (refusal (setting_number G) 0) (list_reading G x) → a.number ≡ 0
    → (setting_number G ≡ 0) × WellFormed G x
reading_passes G x a-is z = (after_zero (refusal (setting_number G) 0) (list_reading G x)).0 (sym (ap (λ b. b.number) a-is) ∙ z)

-- the vector as a list of one, H being the setting with one vector
module _ (G : Setting) (passes : setting_number G ≡ 0) (v : List ℕ) {H : Setting} (H-is : H ≡ vectored G 1) {a : Answer}
    (a-is : a ≡ after (refusal (setting_number H) 0) (list_reading H v)) where
  sizes : Sizes G
  sizes = (limits_of G (setting_holds G passes)).sizes

  one_is : a ≡ list_reading (vectored G 1) v
  one_is = a-is ∙ rw H-is (after_passed _ _ (vectored_number G (omega arith) (omega arith) passes))

  pub place_fits : (G.vectors * G.columns ≤ most_numbers) × (G.vectors ≤ most_vectors) × (a.place ≤ most_columns + 1)
  place_fits =
      let few = sizes in
      let most = list_place (vectored G 1) v in
      (mul-le-mul few.vectors.1 few.columns.1, few.vectors.1, omega (arith, ap (λ b. b.place) one_is))

  pub vector_large : a.number ≡ 11 → refusal 11 (G.vectors * G.columns + a.place) ≡ placed_after G (list_reading (vectored G 1) v)
  vector_large e = sym (rw (← one_is, eq-eqb a.number 11 e))

  pub vector_zeros : a.number ≡ 21 → refusal 21 (G.vectors + a.place) ≡ placed_after G (list_reading (vectored G 1) v)
  vector_zeros e = sym (rw (← one_is, ne_eqb a.number 11 (λ o. omega arith), eq-eqb a.number 21 e))

  pub vector_neither : (a.number ≡ 11 → ⊥) → (a.number ≡ 21 → ⊥) → a ≡ placed_after G (list_reading (vectored G 1) v)
  vector_neither d e = sym (rw (← one_is, ne_eqb a.number 11 d, ne_eqb a.number 21 e))

pub vector_plain : {G H : Setting} → G ≡ H → (v : List ℕ) {b : Answer} → b ≡ placed_after G (list_reading (vectored G 1) v)
    → b ≡ placed_after H (list_reading (vectored H 1) v)
vector_plain e v b-is = b-is ∙ rw e

module _ (R : Run) (v : List ℕ) {a : Answer}
    (a-is : a ≡ after (refusal (setting_number (layer R)) 0) (list_reading (layer R) (held_list R))) where
  later : Answer
  later = after (list_reading (plain (one_more R.setting)) (held_list R ++ v)) (unless (is_open R) (refusal 22 0) (refusal 0 0))

  in_two : after (after (refusal (setting_number (layer R)) 0) (list_reading (layer R) (held_list R))) later ≡ addition_reading R v
  unfolding addition_reading later
  in_two = after_together (refusal (setting_number (layer R)) 0) (list_reading (layer R) (held_list R)) later

  pub addition_list : (a.number ≡ 0 → ⊥) → a ≡ addition_reading R v
  addition_list d = after_first a-is later d ∙ in_two

  module _ (z : a.number ≡ 0) where
    formed : WellFormed (layer R) (held_list R)
    formed = (reading_passes (layer R) (held_list R) a-is z).1

    module _ {b : Answer} (b-is : b ≡ placed_after (layer R) (list_reading (vectored (layer R) 1) v)) where
      vector_is : b ≡ list_reading (plain (one_more R.setting)) (held_list R ++ v)
      vector_is = b-is ∙ lengthened_reading (layer R) (held_list R) v ((well_formed_is (layer R) (held_list R)).0 formed)

      pub addition_vector : (b.number ≡ 0 → ⊥) → b ≡ addition_reading R v
      unfolding later
      addition_vector d = after_second a-is z (after_first vector_is _ d) ∙ in_two

      pub addition_last : b.number ≡ 0 → {c : Answer} → c ≡ unless (is_open R) (refusal 22 0) (refusal 0 0) → c ≡ addition_reading R v
      unfolding later
      addition_last y c-is = after_second a-is z (after_second vector_is y c-is) ∙ in_two

-- whether a vector may be added

module _ (R : Run) where
  pub closed : is_open R ≡ false → refusal 22 0 ≡ unless (is_open R) (refusal 22 0) (refusal 0 0)
  closed e = sym (rw e)

  pub opened : is_open R ≡ true → refusal 0 0 ≡ unless (is_open R) (refusal 22 0) (refusal 0 0)
  opened e = sym (rw e)

-- what an addition that passes gives

pub addition_passed : (R : Run) (v : List ℕ) → (addition_reading R v).number ≡ 0 → Additional R v
unfolding addition_reading
addition_passed R v e =
    let G = layer R in
    let more = plain (one_more R.setting) in
    let a = (after_zero (refusal (setting_number G) 0) _).0 e in
    let b = (after_zero (list_reading G (held_list R)) _).0 a.1 in
    let c = (after_zero (list_reading more (held_list R ++ v)) (unless (is_open R) (refusal 22 0) (refusal 0 0))).0 b.1 in
    record {
      setting = a.0;
      list = (well_formed_is G (held_list R)).0 b.0;
      longer = (well_formed_is more (held_list R ++ v)).0 c.0;
      is_open_lem = ((unless_zero (is_open R) (refusal 22 0) (refusal 0 0) (λ z. omega arith)).0 c.1).0;
    }

module _ {R : Run} {v : List ℕ} (passed : Additional R v) where
  pub addition_sizes : Sizes (layer R)
  addition_sizes = (limits_of (layer R) (setting_holds (layer R) passed.setting)).sizes

  pub vectors_few : R.setting.vectors < most_vectors
  vectors_few = ltb-true R.setting.vectors most_vectors (both (not (is_finished R)) _ passed.is_open_lem).1

  pub unfinished_open : is_finished R ≡ false
  unfinished_open = not-true (is_finished R) (both (not (is_finished R)) (ltb R.setting.vectors most_vectors) passed.is_open_lem).0
    where
      not-true : (b : Bool) → not b ≡ true → b ≡ false
      not-true true e = absurd (false≢true e)
      not-true false e = refl

  pub lengthened_sizes : Sizes (layer (lengthened R v))
  lengthened_sizes =
      let h = addition_sizes in
      let few = vectors_few in
      record { rows = h.rows; inner = h.inner; columns = h.columns; vectors = (omega arith, omega arith) }

  -- the list has as many numbers as its length says
  module _ (long : length R.list ≡ most_numbers) where
    pub held_long : (R.length ≡ R.setting.vectors * R.setting.columns) × (held_list R ≡ take R.length R.list)
    unfolding held_list
    held_long =
        let sizes = addition_sizes in
        let some = mul-le-mul sizes.vectors.0 sizes.columns.0 in
        elim (dec_le R.length most_numbers) [
          | yes l ↦
              let is : held_list R ≡ take R.length R.list = rw (le-leb R.length most_numbers l) in
              (sym (length-take-le R.length R.list (omega arith)) ∙ sym (ap length is) ∙ passed.list.size, is)
          | no l ↦
              let is : held_list R ≡ [] = rw (lt-leb R.length most_numbers (omega arith)) in
              absurd (omega (arith, ap length is, passed.list.size, some))
        ]

    pub vector_long : length v ≡ R.setting.columns
    vector_long =
        omega (arith, passed.list.size, passed.longer.size, length-append (held_list R) v)

    pub addition_fits : R.length + length v ≤ most_numbers
    addition_fits =
        let few = vectors_few in
        let more : R.setting.vectors + 1 ≤ most_vectors = omega arith in
        omega (arith, held_long.0, vector_long, mul-le-mul more addition_sizes.columns.1)

pub lengthened_made : (R : Run) (v : List ℕ) {list : List ℕ}
    → list ≡ overwritten R.list R.length v
    → ◌≡◌ {A = Run} (record {
      setting = one_more R.setting;
      list = list;
      length = R.length + length v;
      vector = R.vector;
      row = R.row;
      u = R.u;
      caught = R.caught;
    }) (lengthened R v)
lengthened_made R v e = rw e
