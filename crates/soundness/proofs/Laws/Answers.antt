-- Every answer of the challenge check is a row of the published table, and is given exactly under its condition (C2).
--
--   TableRow G a        the answer a is a row of the table, within its bounds
--   AllBalanced G t x   every row is balanced for every vector of the list x
--   Balances G t x      the tests before pass, and so it is
--   Caught G t x τ i    the tests before pass, and row i of vector τ is the first that does not balance
--   Answered G t x a    the condition of the answer a, no earlier test failing
--   answer_of           where that condition holds, a is the answer
use Rattle.std.specs.Prelude.{ℕ, ◌*◌, ◌≤◌, ◌<◌, ◌≡◌, refl, true, false, ◌↔◌, List, eqb, length, get_or}
use Rattle.std.proofs.Common.{arith, sym, ◌∙◌, true≢false, ⊎_elim}
use Rattle.std.proofs.Math.Path.{ap}
use borrow.Author.Tests.{eq-eqb, ne_eqb, eqb-true}
use Rattle.residue.specs.Rules.{modulus}
use Rattle.ticket.specs.declared.setting.Setting.{Setting}
use Rattle.ticket.specs.declared.Answer.{Answer}
use Rattle.ticket.specs.Rules.{answer, refusal, Passes}
use Rattle.ticket.proofs.Laws.Answers.{first_past}
use Rattle.ticket.proofs.Laws.First.{first_is, FirstFailure, holds_or_first}
use Rattle.ticket.proofs.Laws.Tests.{reading_not_later}
use Rattle.ticket.proofs.Laws.Scans.{scan_none, scan_is}
use Rattle.ticket.proofs.Laws.Refusals.{Refused, passed_reading, passed_or_refused, refused_reading, refused_number, ReadingRow}
use Rattle.ticket.proofs.Laws.Refusals.RefusedInTable.{refused_in_table}
use Rattle.challenge.specs.Rules.{challenge_products, caught_products, WellFormed, balanced, first_row, accepted, caught, verdict, challenge_check, Accepted}
use Rattle.challenge.proofs.Laws.Checks.{check_ticket, check_list, check_rows}
use Rattle.challenge.specs.Laws.Lists.{ZeroVector}
use Rattle.challenge.proofs.Laws.Lists.{well_formed_is, other_length, first_large, first_zero, ListAnswer, other_count, large_number, zero_at, formed, list_answered}
pub mod AnswerInTable

pub data TableRow (G : Setting) : Answer → Type 0 where
  accepted_row : TableRow G (answer 0 0 0 (challenge_products G))
  reading_row : {a : Answer} → ReadingRow G a → TableRow G a
  list_length_row : TableRow G (answer 10 0 0 0)
  list_number_row : (k : ℕ) → k < G.vectors * G.columns → TableRow G (answer 11 k 0 0)
  zero_vector_row : (τ : ℕ) → τ < G.vectors → TableRow G (answer 21 τ 0 0)
  caught_row : (τ i : ℕ) → τ < G.vectors → i < G.rows → TableRow G (answer 12 τ i (caught_products G τ i))

abbrev pub AllBalanced : Setting → List ℕ → List ℕ → Type 0
AllBalanced G t x = (τ i : ℕ) → τ < G.vectors → i < G.rows → balanced G t x τ i ≡ true

pub record Balances (G : Setting) (t x : List ℕ) : Type 0 where
  pub ticket : Passes G t
  pub list : WellFormed G x
  pub balance : AllBalanced G t x

pub record Caught (G : Setting) (t x : List ℕ) (τ i : ℕ) : Type 0 where
  pub ticket : Passes G t
  pub list : WellFormed G x
  pub vector_within : τ < G.vectors
  pub row_within : i < G.rows
  pub vectors_before : (σ j : ℕ) → σ < τ → j < G.rows → balanced G t x σ j ≡ true
  pub rows_before : (j : ℕ) → j < i → balanced G t x τ j ≡ true
  pub unbalanced : balanced G t x τ i ≡ false

pub data Answered (G : Setting) (t x : List ℕ) : Answer → Type 0 where
  refused : {c k : ℕ} → Refused G t c k → Answered G t x (refusal c k)
  list_length : Passes G t → (length x ≡ G.vectors * G.columns → ⊥) → Answered G t x (refusal 10 0)
  list_number : {k : ℕ} → Passes G t → length x ≡ G.vectors * G.columns → k < G.vectors * G.columns
      → ((i : ℕ) → i < k → get_or x i 0 < modulus) → modulus ≤ get_or x k 0 → Answered G t x (refusal 11 k)
  zero_vector : {τ : ℕ} → Passes G t → length x ≡ G.vectors * G.columns → ((k : ℕ) → k < G.vectors * G.columns → get_or x k 0 < modulus)
      → τ < G.vectors → ((σ : ℕ) → σ < τ → ZeroVector G x σ → ⊥) → ZeroVector G x τ → Answered G t x (refusal 21 τ)
  first_unbalanced : {τ i : ℕ} → Caught G t x τ i → Answered G t x (caught G τ i)
  all_balanced : Balances G t x → Answered G t x (accepted G)

module _ (G : Setting) (t x : List ℕ) where
  -- no row of vector τ is first to be out of balance exactly when all are balanced
  rows_balanced : (τ : ℕ) → (eqb (first_row G t x τ) G.rows ≡ true) ↔ ((i : ℕ) → i < G.rows → balanced G t x τ i ≡ true)
  unfolding first_row
  rows_balanced τ = (
    λ e. (first_past G.rows (balanced G t x τ)).0 (eqb-true _ _ e),
    λ h. eq-eqb _ _ ((first_past G.rows (balanced G t x τ)).1 h),
  )

  verdict_accepted : AllBalanced G t x → verdict G t x ≡ accepted G
  unfolding verdict
  verdict_accepted b = scan_none G.vectors _ _ _ (λ τ l. (rows_balanced τ).1 (λ i. b τ i l))

  verdict_caught : {τ i : ℕ} → Caught G t x τ i → verdict G t x ≡ caught G τ i
  unfolding verdict first_row
  verdict_caught {τ} {i} c =
      let row : first_row G t x τ ≡ i = first_is G.rows i (balanced G t x τ) c.row_within c.rows_before c.unbalanced in
      scan_is G.vectors τ _ _ _ c.vector_within (λ σ l. (rows_balanced σ).1 (λ j. c.vectors_before σ j l))
      (ne_eqb (first_row G t x τ) G.rows (λ e. omega (arith, c.row_within, row)))
      ∙ ap (caught G τ) row

  pub answer_of : {a : Answer} → Answered G t x a → challenge_check G t x ≡ a
  answer_of (refused r) = sym (check_ticket G t x (sym (refused_reading G t r)) (λ z. omega (arith, refused_number G t r)))
  answer_of (list_length p d) = sym (check_list G t x refl p (other_length G x d) (λ z. omega arith))
  answer_of (list_number p e l h m) = sym (check_list G t x refl p (first_large G x e _ l h m) (λ z. omega arith))
  answer_of (zero_vector {τ} p e a l h z) = sym (check_list G t x refl p (first_zero G x e a τ l h z) (λ z. omega arith))
  answer_of (first_unbalanced c) = sym (check_rows G t x refl c.ticket refl c.list (sym (verdict_caught c)))
  answer_of (all_balanced b) = sym (check_rows G t x refl b.ticket refl b.list (sym (verdict_accepted b.balance)))

  -- a vector that has a row that does not balance has a first one
  first_row_lem : (τ : ℕ) → eqb (first_row G t x τ) G.rows ≡ false → (i : ℕ) × FirstFailure G.rows (balanced G t x τ) i
  first_row_lem τ e =
      ⊎_elim (λ h. absurd (true≢false (sym ((rows_balanced τ).1 h) ∙ e))) (λ f. f) (holds_or_first G.rows (balanced G t x τ))

  answered_vectors : Passes G t → WellFormed G x → (a : Answer) × Answered G t x a
  answered_vectors p w =
      ⊎_elim
      (λ h. (accepted G, all_balanced (record { ticket = p; list = w; balance = λ τ i l. (rows_balanced τ).0 (h τ l) i })))
      (λ v. let r = first_row_lem v.0 v.1.fails in (
        caught G v.0 r.0,
        first_unbalanced (record {
          ticket = p;
          list = w;
          vector_within = v.1.within;
          row_within = r.1.within;
          vectors_before = λ σ j l. (rows_balanced σ).0 (v.1.before σ l) j;
          rows_before = r.1.before;
          unbalanced = r.1.fails;
        }),
      ))
      (holds_or_first G.vectors (λ τ. eqb (first_row G t x τ) G.rows))

  -- by the tests of the list
  answered_list : Passes G t → {a : Answer} → ListAnswer G x a → (b : Answer) × Answered G t x b
  answered_list p (other_count d) = (refusal 10 0, list_length p d)
  answered_list p (large_number {k} e l h m) = (refusal 11 k, list_number p e l h m)
  answered_list p (zero_at {τ} e a l h z) = (refusal 21 τ, zero_vector p e a l h z)
  answered_list p (formed entries) = answered_vectors p ((well_formed_is G x).1 entries)

  -- what the number of an answer says of its condition
  condition_of : {a : Answer} → Answered G t x a → (a.number ≡ 0 → Balances G t x) × (a.number ≡ 12 → Caught G t x a.place a.row)
  condition_of (refused r) =
      let l = refused_number G t r in
      (λ e. absurd (omega arith), λ e. absurd (reading_not_later l (omega arith) (omega arith)))
  condition_of (list_length p d) = (λ e. absurd (omega arith), λ e. absurd (omega arith))
  condition_of (list_number p c l h m) = (λ e. absurd (omega arith), λ e. absurd (omega arith))
  condition_of (zero_vector p c a l h z) = (λ e. absurd (omega arith), λ e. absurd (omega arith))
  condition_of (first_unbalanced c) = (λ e. absurd (omega arith), λ e. c)
  condition_of (all_balanced b) = (λ e. b, λ e. absurd (omega arith))

  row_of : {a : Answer} → Answered G t x a → TableRow G a
  row_of (refused r) = reading_row (refused_in_table r)
  row_of (list_length p d) = list_length_row
  row_of (list_number {k} p e l h m) = list_number_row k l
  row_of (zero_vector {τ} p e a l h z) = zero_vector_row τ l
  row_of (first_unbalanced {τ} {i} c) = caught_row τ i c.vector_within c.row_within
  row_of (all_balanced b) = accepted_row
