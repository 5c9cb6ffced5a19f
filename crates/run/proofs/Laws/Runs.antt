-- Whole runs: begin, then any steps and additions in any order, the same ticket lent throughout and each state handed in as it last came back.
--
--   standing_run       the answer of a state by itself hands that state back
--   standing_ended     it is caught or complete exactly when the run is finished
--   kept_ended         it is then the answer of the challenge check with the state's list
--   Reached t P y k a  what holds of an answer after k steps, where the list is y: its state is kept, and the answer is the state's own or a refusal;
--                      the setting is P but for the number of vectors; while the run is under way, k rows are done
use Rattle.std.specs.Prelude.{ℕ, ◌+◌, ◌*◌, ◌≤◌, ◌<◌, ◌≡◌, refl, Bool, true, false, cond, ◌||◌, List, [], ◌∷◌, ◌++◌, ◌⊎◌, eqb}
use Rattle.std.proofs.Math.Decide.{ℕ_discrete}
use Rattle.std.proofs.Common.{arith, sym, ap, ◌∙◌, true≢false, append_assoc, append-nil, inl, inr}
use Rattle.std.proofs.Math.Logic.{⊎_elim}
use borrow.Author.Tests.{eq-eqb, ne_eqb, lt-leb}
use Rattle.std.proofs.Math.Arith.{digits_lt}
use Rattle.ticket.specs.declared.published.PlainSetting.{PlainSetting}
use Rattle.ticket.specs.declared.Answer.{Answer}
use Rattle.ticket.specs.Rules.{answer, unless, plain, reading}
use Rattle.ticket.proofs.Laws.Answers.{after_zero}
use Rattle.ticket.proofs.Laws.First.{true_or_false}
use Rattle.challenge.specs.Rules.{WellFormed, testing, list_reading, balanced, challenge_check, accepted, caught}
use Rattle.challenge.proofs.Laws.Lists.{well_formed_is}
use Rattle.soundness.proofs.Laws.Answers.AnswerInTable.{accepted_exactly, caught_exactly}
use Rattle.run.specs.declared.Run.{Run}
use Rattle.run.specs.declared.RunAnswer.{RunAnswer}
use Rattle.run.specs.Rules.{layer, held_list, is_past, is_caught, is_finished, products_done, under_way, caught_mark, complete, refused, marked, standing, zeros, begun, beginning, worked, stepping, with_vectors, lengthened, addition_reading, adding, Action, step, add, acting, last_answer, ran, steps, added}
use Rattle.run.proofs.Laws.Additions.{addition_passed, addition_sizes, unfinished_open}
use Rattle.run.proofs.Laws.Kept.{Kept, kept_begun, kept_worked, kept_lengthened, held_begun, held_lengthened}
use Rattle.run.proofs.Laws.States.{unfinished, not_past, standing_past, standing_caught, standing_under, tested_refused, tested_passed, worked_is, worked_same, worked_count, testing_passed}
pub mod RunStops
pub mod RunRefused
pub mod CompleteNumber

pub standing_run : (R : Run) → (standing R).run ≡ R
unfolding standing
standing_run R = by_tests (is_past R) (is_caught R) _ _ _
  where
    by_tests : (past stopped : Bool) (a b c : Answer)
        → (cond past (marked R complete a) (cond stopped (marked R caught_mark b) (marked R under_way c))).run ≡ R
    by_tests true stopped a b c = refl
    by_tests false true a b c = refl
    by_tests false false a b c = refl

-- a state by itself is not refused
standing_mark : (R : Run) → (standing R).mark ≡ refused → ⊥
unfolding standing
standing_mark R = by_tests (is_past R) (is_caught R) _ _ _
  where
    by_tests : (past stopped : Bool) (a b c : Answer)
        → (cond past (marked R complete a) (cond stopped (marked R caught_mark b) (marked R under_way c))).mark ≡ refused → ⊥
    by_tests true stopped a b c e = omega arith
    by_tests false true a b c e = omega arith
    by_tests false false a b c e = omega arith

abbrev pub Ended : RunAnswer → Type 0
Ended a = (a.mark ≡ caught_mark) ⊎ (a.mark ≡ complete)

pub standing_ended : (R : Run) → (is_finished R ≡ true) → Ended (standing R)
standing_ended R e =
    ⊎_elim
    (λ past. inr (ap (λ a. a.mark) (standing_past R past)))
    (λ inside. inl (ap (λ a. a.mark) (standing_caught R inside (sym (ap (λ b. b || is_caught R) inside) ∙ e))))
    (true_or_false (is_past R))

module _ {t : List ℕ} {R : Run} (kept : Kept t R) where
  formed : WellFormed (layer R) (held_list R)
  formed = (well_formed_is (layer R) (held_list R)).1 kept.entries

  -- a complete run has done all its vectors
  past_all : is_past R ≡ true → R.vector ≡ R.setting.vectors
  unfolding is_past
  past_all e =
      ⊎_elim
      (λ there. absurd (true≢false (sym e ∙ rw (lt-leb R.setting.vectors R.vector there.0, lt-leb R.setting.rows R.row there.1))))
      (λ end. end.0)
      kept.place

  complete_check : is_past R ≡ true → accepted (layer R) ≡ challenge_check (layer R) t (held_list R)
  complete_check past =
      let all = past_all past in
      sym ((accepted_exactly (layer R) t (held_list R)).1
      (record { ticket = kept.passes; list = formed; balance = λ τ i l m. kept.vectors_before τ i (omega (arith, all)) m }))

  caught_check : is_past R ≡ false → is_caught R ≡ true → caught (layer R) R.vector R.row ≡ challenge_check (layer R) t (held_list R)
  caught_check inside stopped =
      let there = not_past R inside in
      sym ((caught_exactly (layer R) t (held_list R) R.vector R.row).1
      (record {
        ticket = kept.passes;
        list = formed;
        vector_within = there.0;
        row_within = there.1;
        vectors_before = kept.vectors_before;
        rows_before = kept.rows_before;
        unbalanced = kept.unbalanced inside stopped;
      }))

  pub kept_ended : Ended (standing R) → (standing R).answer ≡ challenge_check (layer R) t (held_list R)
  kept_ended ended =
      ⊎_elim
      (λ past. ap (λ a. a.answer) (standing_past R past) ∙ complete_check past)
      (λ inside. ⊎_elim
      (λ stopped. ap (λ a. a.answer) (standing_caught R inside stopped) ∙ caught_check inside stopped)
      (λ free. let mark : (standing R).mark ≡ 0 = ap (λ a. a.mark) (standing_under R inside free) in
      absurd (⊎_elim (λ e. omega arith) (λ e. omega arith) ended))
      (true_or_false (is_caught R)))
      (true_or_false (is_past R))

  tests_pass : (testing (layer R) t (held_list R)).number ≡ 0
  tests_pass = (after_zero (reading (layer R) t) (list_reading (layer R) (held_list R))).1 (kept.passes, formed)

  -- the answer of a step, which is not refused
  stepped : stepping R t ≡ standing (cond (is_finished R) R (worked R t))
  stepped = sym (tested_passed R refl tests_pass refl)

pub record Reached (t : List ℕ) (P : PlainSetting) (y : List ℕ) (k : ℕ) (a : RunAnswer) : Type 0 where
  pub kept : Kept t a.run
  pub said : (a ≡ standing a.run) ⊎ (a.mark ≡ refused)
  pub setting : a.run.setting ≡ with_vectors P a.run.setting.vectors
  pub list : held_list a.run ≡ y
  pub counted : is_finished a.run ≡ false → a.run.vector * P.rows + a.run.row ≡ k

-- an answer that is that of a state
from_state : {t : List ℕ} {P : PlainSetting} {y : List ℕ} {k : ℕ} {a : RunAnswer} (R : Run) → a ≡ standing R → Kept t R
    → R.setting ≡ with_vectors P R.setting.vectors → held_list R ≡ y → (is_finished R ≡ false → R.vector * P.rows + R.row ≡ k)
    → Reached t P y k a
from_state {a = a} R a-is kept setting list counted =
    let same : a.run ≡ R = ap (λ b. b.run) a-is ∙ standing_run R in
    record {
      kept = rw same kept;
      said = inl (a-is ∙ ap standing (sym same));
      setting = rw same setting;
      list = rw same list;
      counted = rw same counted;
    }

module _ {t : List ℕ} {P : PlainSetting} {y : List ℕ} {k : ℕ} {a : RunAnswer} (reach : Reached t P y k a) where
  abbrev R : Run
  R = a.run

  rows_same : R.setting.rows ≡ P.rows
  rows_same = ap (λ Q. Q.rows) reach.setting

  -- the numbers that an addition adds
  abbrev joining : List ℕ → List ℕ
  joining v = unless (eqb (adding R v).mark refused) v []

-- a state of zeros is refused by every call
zeros_refused : (t : List ℕ) (α : Action) → (b : Answer) × (acting t zeros α ≡ marked zeros refused b)
unfolding acting
zeros_refused t step =
    let b = testing (layer zeros) t (held_list zeros) in (
      b,
      sym (tested_refused zeros refl (standing (cond (is_finished zeros) zeros (worked zeros t)))
          (λ z. let sizes = (testing_passed (layer zeros) t (held_list zeros) refl z).passed.counts.sizes in omega arith) refl),
    )
zeros_refused t (add v) =
    let b = addition_reading zeros v in (
      b,
      sym (tested_refused zeros refl (standing (lengthened zeros v))
          (λ z. let sizes = addition_sizes (addition_passed zeros v z) in omega arith) refl),
    )

mark_number : (R : Run) → (standing R).mark ≡ complete → (standing R).answer.number ≡ 0
unfolding standing
mark_number R = by_tests (is_past R) (is_caught R) _ _ _
  where
    by_tests : (past stopped : Bool) (n : ℕ) (b : Answer) (k : ℕ) →
        let a = cond past (marked R complete (answer 0 0 0 n)) (cond stopped (marked R caught_mark b) (marked R under_way (answer 0 R.vector R.row k))) in
        a.mark ≡ complete → a.answer.number ≡ 0
    by_tests true stopped n b k e = refl
    by_tests false true n b k e = absurd (omega arith)
    by_tests false false n b k e = refl

pub record Final (P : PlainSetting) (x more : List ℕ) (R : Run) : Type 0 where
  pub setting : R.setting ≡ with_vectors P R.setting.vectors
  pub list : held_list R ≡ x ++ more
  pub formed : WellFormed (layer R) (held_list R)

pub record UnderWay (t : List ℕ) (k : ℕ) (a : RunAnswer) : Type 0 where
  pub numbers : a.answer ≡ answer 0 a.run.vector a.run.row (products_done (layer a.run) a.run.vector a.run.row)
  pub rows : a.run.vector * a.run.setting.rows + a.run.row ≡ k
  pub vector_within : a.run.vector < a.run.setting.vectors
  pub row_within : a.run.row < a.run.setting.rows
  pub vectors_before : (σ j : ℕ) → σ < a.run.vector → j < a.run.setting.rows → balanced (layer a.run) t (held_list a.run) σ j ≡ true
  pub rows_before : (j : ℕ) → j < a.run.row → balanced (layer a.run) t (held_list a.run) a.run.vector j ≡ true

-- a state whose own answer is under way is not finished
going_of : (R : Run) → (standing R).mark ≡ under_way → is_finished R ≡ false
going_of R e =
    ⊎_elim
    (λ f. absurd (⊎_elim (λ g. omega arith) (λ g. omega arith) (standing_ended R f)))
    (λ f. f)
    (true_or_false (is_finished R))

under_way_lem : {t : List ℕ} {P : PlainSetting} {y : List ℕ} {k : ℕ} {a : RunAnswer} → Reached t P y k a → a ≡ standing a.run → a.mark ≡ under_way
    → UnderWay t k a
under_way_lem {P = P} {a = a} reach said e =
    let R = a.run in
    let going = going_of R (sym (ap (λ b. b.mark) said) ∙ e) in
    let free = unfinished R going in
    let there = not_past R free.0 in
    record {
      numbers = ap (λ b. b.answer) (said ∙ standing_under R free.0 free.1);
      rows = rw (ap (λ Q. Q.rows) reach.setting) (reach.counted going);
      vector_within = there.0;
      row_within = there.1;
      vectors_before = reach.kept.vectors_before;
      rows_before = reach.kept.rows_before;
    }

module _ (P : PlainSetting) (t x : List ℕ) (αs : List Action) where
  abbrev last : RunAnswer
  last = ran P t x αs

  module _ (passes : (testing (plain P) t x).number ≡ 0) where
    begins : Reached t P x 0 (beginning P t x)
    begins =
        let ready = testing_passed (plain P) t x refl passes in
        from_state (begun P x) (sym (tested_passed zeros refl passes refl)) (kept_begun P t x passes) refl
        (held_begun P x (omega (arith, ready.list.size, ready.passed.counts))) (λ going. omega arith)

  -- a beginning that is not refused
  begun_tests : (beginning P t x).mark ≡ under_way → (testing (plain P) t x).number ≡ 0
  begun_tests e =
      elim (ℕ_discrete (testing (plain P) t x).number 0) [
        | yes z ↦ z
        | no d ↦
            let mark : (beginning P t x).mark ≡ refused = sym (ap (λ a. a.mark) (tested_refused zeros refl (standing (begun P x)) d refl)) in
            absurd (omega arith)
      ]
