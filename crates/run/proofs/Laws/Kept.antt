-- What holds of every state that a run hands back, the same ticket lent throughout.
--
--   Kept t R           ticket and list pass; the rows before the next one, vector by vector, are balanced; u is the product of B and the vector,
--                      once its row 0 is done; where the run is caught, its next row is the first that is not balanced
--   held_begun, held_lengthened   the list of a state that begins, and of one with a vector more
--   kept_begun         it holds of a run that begins
--   kept_worked        it holds after a row
--   kept_lengthened    and after an addition
use Rattle.std.specs.Prelude.{ℕ, ◌+◌, ◌-◌, ◌≤◌, ◌<◌, ◌≡◌, refl, true, false, ◌⊎◌, ltb, get_or, take, replicate}
use Rattle.std.proofs.Math.Decide.{dec_lt}
use Rattle.std.proofs.Common.{arith, sym, ◌∙◌, inl, inr, below_more, le-leb, length-drop, length-take-le, take_at}
use Rattle.std.proofs.Math.Path.{ap}
use Rattle.std.proofs.Math.Bool.{true≢false}
use mathlib.Core.List.{List, ◌++◌, append_assoc}
use Rattle.std.proofs.Math.ListN.{length, drop, length-append}
use Rattle.std.proofs.lemmas.List.{length-replicate}
use Rattle.std.proofs.Math.Seq.{take-append_seam}
use Rattle.ticket.specs.declared.published.PlainSetting.{PlainSetting}
use Rattle.ticket.specs.declared.setting.Setting.{Setting}
use Rattle.ticket.specs.Rules.{Passes, plain}
use Rattle.ticket.proofs.Laws.Passes.{passes_of}
use Rattle.ticket.proofs.Laws.Vectors.{vectored_passes}
use Rattle.challenge.specs.Rules.{testing, product_b, balanced, product_at, balanced_at}
use Rattle.challenge.proofs.Laws.Lengthened.{front_product, front_balanced}
use Rattle.challenge.specs.Laws.Lists.{Entries}
use Rattle.challenge.proofs.Laws.Single.{product_kept, balanced_kept}
use Rattle.run.specs.declared.Run.{Run}
use Rattle.run.specs.Rules.{layer, most_numbers, held_list, is_past, is_caught, is_finished, begun, placed, one_more, lengthened}
use Rattle.run.specs.Laws.Additions.{Additional}
use Rattle.run.proofs.Laws.Additions.{held_long, vectors_few, unfinished_open, addition_fits}
use Rattle.run.proofs.Laws.States.{unfinished, not_past, testing_passed, Worked, stopped, on_row, on_vector}

abbrev pub Place : Run → Type 0
Place R = ((R.vector < R.setting.vectors) × (R.row < R.setting.rows)) ⊎ ((R.vector ≡ R.setting.vectors) × (R.row ≡ 0))

pub record Kept (t : List ℕ) (R : Run) : Type 0 where
  pub long : length R.list ≡ most_numbers
  pub passes : Passes (layer R) t
  pub entries : Entries (layer R) (held_list R)
  pub place : Place R
  pub vectors_before : (σ j : ℕ) → σ < R.vector → j < R.setting.rows → balanced (layer R) t (held_list R) σ j ≡ true
  pub rows_before : (j : ℕ) → j < R.row → balanced (layer R) t (held_list R) R.vector j ≡ true
  pub product : 0 < R.row → (k : ℕ) → k < R.setting.inner → get_or R.u k 0 ≡ product_b (layer R) t (held_list R) R.vector k
  pub unbalanced : is_past R ≡ false → is_caught R ≡ true → balanced (layer R) t (held_list R) R.vector R.row ≡ false

-- lists

pub held_begun : (P : PlainSetting) (x : List ℕ) → length x ≤ most_numbers → held_list (begun P x) ≡ x
unfolding held_list
held_begun P x few = rw (le-leb (length x) most_numbers few) (take-append_seam x (replicate (most_numbers - length x) 0))

module _ {R : Run} {v : List ℕ} (passed : Additional R v) (long : length R.list ≡ most_numbers) where
  abbrev front : List ℕ
  front = take R.length R.list

  front_long : length front ≡ R.length
  front_long = length-take-le R.length R.list (omega (arith, addition_fits passed long))

  pub held_lengthened : held_list (lengthened R v) ≡ held_list R ++ v
  unfolding held_list
  held_lengthened =
      let rest = drop (R.length + length v) R.list in
      let both : length (front ++ v) ≡ R.length + length v = omega (arith, length-append front v, front_long) in
      rw (le-leb (R.length + length v) most_numbers (addition_fits passed long), ← append_assoc front v rest)
      (take_at (front ++ v) rest (R.length + length v) both ∙ ap (λ l. l ++ v) (sym (held_long passed long).1))

  pub lengthened_long : length (lengthened R v).list ≡ most_numbers
  lengthened_long =
      let rest = drop (R.length + length v) R.list in
      omega (
        arith,
        length-append front (v ++ rest),
        length-append v rest,
        front_long,
        length-drop (R.length + length v) R.list,
        addition_fits passed long,
      )

not_caught : (R : Run) → R.caught ≡ 0 → is_caught R ≡ false
unfolding is_caught
not_caught R e = rw e

-- begin

pub kept_begun : (P : PlainSetting) (t x : List ℕ) → (testing (plain P) t x).number ≡ 0 → Kept t (begun P x)
kept_begun P t x e =
    let ready = testing_passed (plain P) t x refl e in
    let sizes = ready.passed.counts.sizes in
    let few : length x ≤ most_numbers = omega (arith, ready.list.size, ready.passed.counts) in
    let held = held_begun P x few in
    record {
      long = omega (arith, length-append x (replicate (most_numbers - length x) 0), length-replicate {A = ℕ} (most_numbers - length x) 0);
      passes = passes_of (plain P) t ready.passed;
      entries = rw held ready.list;
      place = inl (omega arith, omega arith);
      vectors_before = λ σ j l m. absurd (omega arith);
      rows_before = λ j l. absurd (omega arith);
      product = λ l. absurd (omega arith);
      unbalanced = λ p c. absurd (true≢false (sym c ∙ not_caught (begun P x) refl));
    }

-- a row

module _ {t : List ℕ} {R : Run} (kept : Kept t R) (going : is_finished R ≡ false) where
  abbrev G : Setting
  G = layer R

  abbrev x : List ℕ
  x = held_list R

  abbrev u : List ℕ
  u = product_at G t x R.vector R.row R.u

  there : (R.vector < R.setting.vectors) × (R.row < R.setting.rows)
  there = not_past R (unfinished R going).0

  made : (k : ℕ) → k < G.inner → get_or u k 0 ≡ product_b G t x R.vector k
  made = product_kept G t x R.vector R.row R.u kept.product

  -- the same setting and list, at another place
  kept_at : (τ i c : ℕ) → Place (placed R u τ i c) → ((σ j : ℕ) → σ < τ → j < R.setting.rows → balanced G t x σ j ≡ true)
      → ((j : ℕ) → j < i → balanced G t x τ j ≡ true) → (0 < i → τ ≡ R.vector) → (ltb 0 c ≡ true → balanced G t x τ i ≡ false)
      → Kept t (placed R u τ i c)
  unfolding held_list is_caught
  kept_at τ i c place vectors rows same other =
      record {
        long = kept.long;
        passes = kept.passes;
        entries = kept.entries;
        place = place;
        vectors_before = vectors;
        rows_before = rows;
        product = λ l k m. made k m ∙ ap (λ σ. product_b G t x σ k) (sym (same l));
        unbalanced = λ p. other;
      }

  free : ltb 0 R.caught ≡ true → ⊥
  unfolding is_caught
  free e = true≢false (sym e ∙ (unfinished R going).1)

  module _ (balance : balanced G t x R.vector R.row ≡ true) where
    rows_done : (j : ℕ) → j < R.row + 1 → balanced G t x R.vector j ≡ true
    rows_done = below_more (λ j. balanced G t x R.vector j ≡ true) R.row kept.rows_before balance

    kept_next : R.row + 1 < R.setting.rows → Kept t (placed R u R.vector (R.row + 1) R.caught)
    kept_next l =
        kept_at R.vector (R.row + 1) R.caught (inl (there.0, l)) kept.vectors_before rows_done (λ m. refl) (λ e. absurd (free e))

    kept_over : R.setting.rows ≤ R.row + 1 → Kept t (placed R u (R.vector + 1) 0 R.caught)
    kept_over l =
        kept_at (R.vector + 1) 0 R.caught place
        (λ σ j m i. below_more (λ σ. balanced G t x σ j ≡ true) R.vector (λ σ h. kept.vectors_before σ j h i) (rows_done j (omega arith)) σ m)
        (λ j m. absurd (omega arith)) (λ m. absurd (omega arith)) (λ e. absurd (free e))
      where
        place : Place (placed R u (R.vector + 1) 0 R.caught)
        place =
            let some = there in
            elim (dec_lt (R.vector + 1) R.setting.vectors) [ yes m ↦ inl (m, omega arith) | no m ↦ inr (omega arith, refl) ]

  by_u : balanced_at G t x R.vector R.row R.u ≡ balanced G t x R.vector R.row
  by_u = balanced_kept G t x R.vector R.row R.u kept.product

  pub kept_worked : {R' : Run} → Worked R t R' → Kept t R'
  kept_worked (stopped e) =
      kept_at R.vector R.row 1 (inl there) kept.vectors_before kept.rows_before (λ l. refl) (λ c. sym by_u ∙ e)
  kept_worked (on_row e l) = kept_next (sym by_u ∙ e) l
  kept_worked (on_vector e l) = kept_over (sym by_u ∙ e) l

-- an addition

same_caught : (R : Run) (v : List ℕ) → is_caught (lengthened R v) ≡ is_caught R
unfolding is_caught
same_caught R v = refl

pub kept_lengthened : {t : List ℕ} {R : Run} {v : List ℕ} → Kept t R → Additional R v → Kept t (lengthened R v)
kept_lengthened {t} {R} {v} kept passed =
    let held = held_lengthened passed kept.long in
    let going = unfinished_open passed in
    let there = not_past R (unfinished R going).0 in
    let few = vectors_few passed in
    let more = R.setting.vectors + 1 in
    record {
      long = lengthened_long passed kept.long;
      passes = vectored_passes (layer R) {s = more} (omega arith) (omega arith) t kept.passes;
      entries = rw held passed.longer;
      place = inl (omega arith, there.1);
      vectors_before = λ σ j l m. rw held (front {σ = σ} (omega arith) j ∙ kept.vectors_before σ j l m);
      rows_before = λ j l. rw held (front there.0 j ∙ kept.rows_before j l);
      product = λ l k m. rw held (kept.product l k m ∙ sym (front_product (layer R) (held_list R) v kept.entries t there.0 k));
      unbalanced = λ p c. absurd (free c);
    }
  where
    front : {σ : ℕ} → σ < R.setting.vectors → (i : ℕ)
        → balanced (plain (one_more R.setting)) t (held_list R ++ v) σ i ≡ balanced (layer R) t (held_list R) σ i
    front = front_balanced (layer R) (held_list R) v kept.entries t

    free : is_caught (lengthened R v) ≡ true → ⊥
    free e = true≢false (sym e ∙ same_caught R v ∙ (unfinished R (unfinished_open passed)).1)
