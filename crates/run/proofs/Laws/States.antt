-- States and their answers, as the code makes them (S1).
--
--   DoneSmall P τ i, done_small   none of the products that this takes is large
--   done_none, done_some   how they are counted
--   done_accepted, done_caught   those of an accepted ticket, and of a caught one
--   unfinished, not_past   the next vector and row of a run that is not finished are there, and it is not caught
--   standing_past, standing_caught, standing_under   the answer of a state by itself
--   ready_here         its products can be counted
--   tested_refused, tested_passed   an answer after tests
--   testing_plain      the ordinary tests of a setting without a bias
--   testing_passed     where the ordinary tests pass, setting, ticket and list do
--   proceeding         the next vector and row are then there
--   proceeded_none, proceeded_caught, proceeded_within, proceeded_over   it by the four ways in which that may go
--   step_sizes, step_made   the answer of a step, by that state: it can be given, and is that of the rule
--   Worked R t R', worked_is   the state after the row is R', by the three ways in which a row ends
--   worked_same, worked_count   setting and list stay, and one row more is done
use Rattle.std.specs.Prelude.{ℕ, ◌+◌, ◌*◌, ◌≤◌, ◌<◌, ◌≡◌, Bool, ◌&&◌, ◌||◌, List, eqb, ltb}
use Rattle.std.proofs.Math.Decide.{ℕ_discrete, dec_lt}
use Rattle.std.proofs.Common.{mul-le-mul, ◌∙◌, true≢false, inl, ⊎_elim}
use native.Mathlib.Omega.{arith}
use Rattle.std.proofs.Math.Path.{refl, sym, ap}
use Rattle.std.proofs.Math.Bool.{true, false, cond, not}
use Rattle.std.proofs.lemmas.Bool.{false≢true}
use borrow.Author.Tests.{eq-eqb, ne_eqb, lt-ltb, le-ltb, leb-false}
use Rattle.ticket.specs.declared.published.PlainSetting.{PlainSetting}
use Rattle.ticket.specs.declared.setting.Setting.{Setting}
use Rattle.ticket.specs.declared.Answer.{Answer}
use Rattle.ticket.specs.Rules.{most_rows, most_inner, most_columns, most_vectors, unless, plain, reading, answer}
use Rattle.ticket.proofs.Laws.Answers.{after_zero}
use Rattle.ticket.proofs.Laws.First.{true_or_false}
use Rattle.ticket.proofs.Laws.Passes.{passed_of}
use Rattle.challenge.specs.declared.single.RowAnswer.{RowAnswer}
use Rattle.challenge.specs.Rules.{list_reading, testing, challenge_products, caught_products, accepted, caught, product_at, balanced_at, row_made, no_row, row_check}
use Rattle.ticket.specs.Laws.Limits.{Sizes}
use Rattle.challenge.proofs.Laws.Checks.{rows_can}
use Rattle.challenge.proofs.Laws.Kinds.{plain_row}
use Rattle.challenge.proofs.Laws.Single.{row_checked, row_refused, row_beyond}
use Rattle.challenge.specs.Laws.Vectors.{ListReady}
use Rattle.run.specs.declared.Run.{Run}
use Rattle.run.specs.declared.RunAnswer.{RunAnswer}
use Rattle.run.specs.Rules.{layer, held_list, is_past, is_caught, is_finished, products_done, under_way, caught_mark, complete, refused, marked, standing, tested, placed, moved, worked, stepping}
use Rattle.run.specs.Laws.States.{DoneReady, Answerable, due, proceeded}

-- products

pub record DoneSmall (P : PlainSetting) (τ i : ℕ) : Type 0 where
  pub first : P.inner * P.columns ≤ most_inner * most_columns
  pub rows : P.rows * (P.columns + P.inner) ≤ most_rows * (most_columns + most_inner)
  pub whole : τ * (P.inner * P.columns + P.rows * (P.columns + P.inner)) ≤ most_vectors * (most_inner * most_columns + most_rows * (most_columns + most_inner))
  pub row : i * (P.columns + P.inner) ≤ most_rows * (most_columns + most_inner)

pub done_small : {P : PlainSetting} {τ i : ℕ} → DoneReady P τ i → DoneSmall P τ i
done_small {P} {τ} {i} ready =
    let sizes = ready.sizes in
    let first = mul-le-mul sizes.inner.1 sizes.columns.1 in
    let width : P.columns + P.inner ≤ most_columns + most_inner = omega arith in
    let rows = mul-le-mul sizes.rows.1 width in
    let vectors : τ ≤ most_vectors = omega (arith, ready.vectors) in
    let few : i ≤ most_rows = omega (arith, ready.rows) in
    let vector : P.inner * P.columns + P.rows * (P.columns + P.inner) ≤ most_inner * most_columns + most_rows * (most_columns + most_inner) =
    omega (arith, first, rows) in
    record { first = first; rows = rows; whole = mul-le-mul vectors vector; row = mul-le-mul few width }

module _ (P : PlainSetting) (τ : ℕ) where
  done_plain : (i : ℕ) → products_done (plain P) τ i ≡ τ * (P.inner * P.columns + P.rows * (P.columns + P.inner))
      + cond (ltb 0 i) (P.inner * P.columns) 0 + i * (P.columns + P.inner)
  unfolding products_done
  done_plain i =
      ap (λ n. τ * (P.inner * P.columns + P.rows * n) + cond (ltb 0 i) (P.inner * P.columns) 0 + i * n) (plain_row P)

  pub done_none : τ * (P.inner * P.columns + P.rows * (P.columns + P.inner)) ≡ products_done (plain P) τ 0
  done_none = sym (done_plain 0 ∙ omega arith)

  pub done_some : {i : ℕ} → (i ≡ 0 → ⊥) → τ * (P.inner * P.columns + P.rows * (P.columns + P.inner)) + P.inner * P.columns
      + i * (P.columns + P.inner) ≡ products_done (plain P) τ i
  done_some {i} d = sym (done_plain i ∙ rw (lt-ltb 0 i (omega (arith, d))))

module _ (G : Setting) where
  pub done_accepted : products_done G G.vectors 0 ≡ challenge_products G
  unfolding products_done
  done_accepted = omega arith

  pub done_caught : (τ i : ℕ) → products_done G τ (i + 1) ≡ caught_products G τ i
  unfolding products_done
  done_caught τ i = rw (lt-ltb 0 (i + 1) (omega arith))

-- answers

-- neither of two tests holds
neither : (a b : Bool) → (a || b) ≡ false → (a ≡ false) × (b ≡ false)
neither true b e = absurd (false≢true (sym e))
neither false b e = (refl, e)

module _ (R : Run) where
  pub unfinished : is_finished R ≡ false → (is_past R ≡ false) × (is_caught R ≡ false)
  unfinished e = neither (is_past R) (is_caught R) e

  pub not_past : is_past R ≡ false → (R.vector < R.setting.vectors) × (R.row < R.setting.rows)
  unfolding is_past
  not_past e = let h = neither _ _ e in (leb-false _ _ h.0, leb-false _ _ h.1)

  pub standing_past : is_past R ≡ true → standing R ≡ marked R complete (accepted (layer R))
  unfolding standing
  standing_past e = rw e

  module _ (inside : is_past R ≡ false) where
    pub standing_caught : is_caught R ≡ true → standing R ≡ marked R caught_mark (caught (layer R) R.vector R.row)
    unfolding standing
    standing_caught e = rw (inside, e)

    pub standing_under : is_caught R ≡ false
        → standing R ≡ marked R under_way (answer 0 R.vector R.row (products_done (layer R) R.vector R.row))
    unfolding standing
    standing_under e = rw (inside, e)

  -- the products of a state that is not past its end can be counted, before its row and after it
  pub ready_here : Sizes (layer R) → is_past R ≡ false → DoneReady R.setting R.vector R.row × DoneReady R.setting R.vector (R.row + 1)
  ready_here sizes e =
      let there = not_past e in (
        record { sizes = sizes; vectors = omega arith; rows = omega arith },
        record { sizes = sizes; vectors = omega arith; rows = omega arith },
      )

  module _ {a A : Answer} (a-is : a ≡ A) where
    pub tested_refused : (b : RunAnswer) → (a.number ≡ 0 → ⊥) → {r : RunAnswer} → r ≡ marked R refused a → r ≡ tested R A b
    unfolding tested
    tested_refused b d r-is = r-is ∙ ap (marked R refused) a-is ∙ sym (rw (ne_eqb A.number 0 (λ e. d (ap (λ x. x.number) a-is ∙ e))))

    pub tested_passed : a.number ≡ 0 → {r b : RunAnswer} → r ≡ b → r ≡ tested R A b
    unfolding tested
    tested_passed z r-is = r-is ∙ sym (rw (eq-eqb A.number 0 (sym (ap (λ x. x.number) a-is) ∙ z)))

pub testing_plain : {P : PlainSetting} {G : Setting} → G ≡ plain P → (t x : List ℕ) {a : Answer} → a ≡ testing G t x → a ≡ testing (plain P) t x
testing_plain e t x a-is = a-is ∙ rw e

pub testing_passed : (G : Setting) (t x : List ℕ) {a : Answer} → a ≡ testing G t x → a.number ≡ 0 → ListReady G t x
testing_passed G t x a-is z =
    let both = (after_zero (reading G t) (list_reading G x)).0 (sym (ap (λ b. b.number) a-is) ∙ z) in
    rows_can (passed_of G t both.0) refl both.1

-- a step

module _ (R : Run) (a : RowAnswer) where
  pub proceeded_none : (eqb a.tested.number 0 && not (is_finished R)) ≡ false → R ≡ proceeded R a
  unfolding proceeded
  proceeded_none e = sym (rw e)

  module _ (on : (eqb a.tested.number 0 && not (is_finished R)) ≡ true) where
    -- the next vector and row are there
    pub proceeding : (R.vector < R.setting.vectors) × (R.row < R.setting.rows)
    proceeding = not_past R (unfinished R (second (eqb a.tested.number 0) (is_finished R) on)).0
      where
        second : (b f : Bool) → (b && not f) ≡ true → f ≡ false
        second true false e = refl
        second true true e = absurd (false≢true e)
        second false f e = absurd (false≢true e)

    pub proceeded_caught : a.balanced ≡ false → placed R a.u R.vector R.row 1 ≡ proceeded R a
    unfolding proceeded
    proceeded_caught e = sym (rw (on, e))

    pub proceeded_within : a.balanced ≡ true → R.row + 1 < R.setting.rows → placed R a.u R.vector (R.row + 1) R.caught ≡ proceeded R a
    unfolding proceeded moved
    proceeded_within e l = sym (rw (on, e, lt-ltb (R.row + 1) R.setting.rows l))

    pub proceeded_over : a.balanced ≡ true → R.setting.rows ≤ R.row + 1 → placed R a.u (R.vector + 1) 0 R.caught ≡ proceeded R a
    unfolding proceeded moved
    proceeded_over e l = sym (rw (on, e, le-ltb (R.row + 1) R.setting.rows l))

  proceeded_setting : (proceeded R a).setting ≡ R.setting
  unfolding proceeded moved
  proceeded_setting = by_tests (eqb a.tested.number 0 && not (is_finished R)) a.balanced (ltb (R.row + 1) R.setting.rows)
    where
      by_tests : (on b l : Bool) → (cond on (unless b (placed R a.u R.vector R.row 1)
          (cond l (placed R a.u R.vector (R.row + 1) R.caught) (placed R a.u (R.vector + 1) 0 R.caught))) R).setting ≡ R.setting
      by_tests true true true = refl
      by_tests true true false = refl
      by_tests true false l = refl
      by_tests false b l = refl

module _ (R : Run) (t : List ℕ) {a : RowAnswer} (a-is : a ≡ row_check (layer R) t (held_list R) (due R) R.row R.u) where
  abbrev tests : Answer
  tests = testing (layer R) t (held_list R)

  refused_row : (tests.number ≡ 0 → ⊥) → a ≡ no_row tests R.u
  refused_row d = a-is ∙ sym (row_refused (layer R) t (held_list R) (due R) R.row refl R.u d refl)

  finished_row : is_finished R ≡ true → a ≡ no_row tests R.u
  finished_row e =
      let past : R.setting.vectors ≤ due R = rw e (omega arith) in
      a-is ∙ sym (row_beyond (layer R) t (held_list R) (due R) R.row refl R.u (inl past) refl)

  made_row : tests.number ≡ 0 → is_finished R ≡ false → a ≡ row_made (layer R) t (held_list R) R.vector R.row R.u
  made_row z e =
      let there = not_past R (unfinished R e).0 in
      (rw e at a-is) ∙ sym (row_checked (layer R) t (held_list R) R.vector R.row refl z there.0 there.1 R.u refl)

  -- the tests pass exactly where the row says so
  row_passes : tests.number ≡ 0 → a.tested.number ≡ 0
  row_passes z =
      ⊎_elim
      (λ e. ap (λ b. b.tested.number) (finished_row e) ∙ z)
      (λ e. ap (λ b. b.tested.number) (made_row z e))
      (true_or_false (is_finished R))

  row_passed : a.tested.number ≡ 0 → tests.number ≡ 0
  row_passed y =
      elim (ℕ_discrete tests.number 0) [
        | yes z ↦ z
        | no d ↦ absurd (d (sym (ap (λ b. b.tested.number) (refused_row d)) ∙ y))
      ]

  goes_on : tests.number ≡ 0 → proceeded R a ≡ cond (is_finished R) R (worked R t)
  unfolding proceeded worked
  goes_on z =
      ⊎_elim
      (λ (e : is_finished R ≡ true). rw (eq-eqb a.tested.number 0 (row_passes z), e))
      (λ (e : is_finished R ≡ false). rw (made_row z e, e))
      (true_or_false (is_finished R))

  pub step_sizes : Answerable (proceeded R a) a.tested
  step_sizes y = rw (proceeded_setting R a) (testing_passed (layer R) t (held_list R) refl (row_passed y)).passed.counts.sizes

  pub step_made : {r : RunAnswer} → let S = proceeded R a in r ≡ tested S a.tested (standing S) → r ≡ stepping R t
  step_made r-is =
      elim (ℕ_discrete a.tested.number 0) [
        | yes y ↦
            let z = row_passed y in
            tested_passed R refl z (r-is ∙ sym (tested_passed _ refl y refl) ∙ ap standing (goes_on z))
        | no d ↦
            let stays = proceeded_none R a (rw (ne_eqb a.tested.number 0 d)) in
            let fails = λ (z : tests.number ≡ 0). d (row_passes z) in
            tested_refused R (ap (λ b. b.tested) (refused_row fails)) _ d
            (r-is ∙ sym (tested_refused _ refl _ d refl) ∙ ap (λ S. marked S refused a.tested) (sym stays))
      ]

-- the three ways in which a row ends
pub data Worked (R : Run) (t : List ℕ) : Run → Type 0 where
  stopped : balanced_at (layer R) t (held_list R) R.vector R.row R.u ≡ false
      → Worked R t (placed R (product_at (layer R) t (held_list R) R.vector R.row R.u) R.vector R.row 1)
  on_row : balanced_at (layer R) t (held_list R) R.vector R.row R.u ≡ true → R.row + 1 < R.setting.rows
      → Worked R t (placed R (product_at (layer R) t (held_list R) R.vector R.row R.u) R.vector (R.row + 1) R.caught)
  on_vector : balanced_at (layer R) t (held_list R) R.vector R.row R.u ≡ true → R.setting.rows ≤ R.row + 1
      → Worked R t (placed R (product_at (layer R) t (held_list R) R.vector R.row R.u) (R.vector + 1) 0 R.caught)

pub worked_is : (R : Run) (t : List ℕ) → Worked R t (worked R t)
unfolding worked moved
worked_is R t =
    ⊎_elim
    (λ e. rw e
    (elim (dec_lt (R.row + 1) R.setting.rows) [
      | yes l ↦ rw (lt-ltb (R.row + 1) R.setting.rows l) (on_row e l)
      | no l ↦ let m : R.setting.rows ≤ R.row + 1 = omega arith in rw (le-ltb (R.row + 1) R.setting.rows m) (on_vector e m)
    ]))
    (λ e. rw e (stopped e))
    (true_or_false (balanced_at (layer R) t (held_list R) R.vector R.row R.u))

caught_one : (R : Run) → R.caught ≡ 1 → is_caught R ≡ true
unfolding is_caught
caught_one R e = rw e

module _ {R : Run} {t : List ℕ} where
  pub worked_same : {R' : Run} → Worked R t R' → (R'.setting ≡ R.setting) × (held_list R' ≡ held_list R)
  unfolding held_list
  worked_same (stopped e) = (refl, refl)
  worked_same (on_row e l) = (refl, refl)
  worked_same (on_vector e l) = (refl, refl)

  pub worked_count : {R' : Run} → R.row < R.setting.rows → Worked R t R' → is_finished R' ≡ false
      → R'.vector * R.setting.rows + R'.row ≡ R.vector * R.setting.rows + R.row + 1
  worked_count {R'} there (stopped e) going = absurd (true≢false (sym (caught_one R' refl) ∙ (unfinished R' going).1))
  worked_count there (on_row e l) going = omega arith
  worked_count there (on_vector e l) going = omega arith
