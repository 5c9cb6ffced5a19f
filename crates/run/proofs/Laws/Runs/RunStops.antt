-- What rests on Runs.
--
--   step_reached, add_reached, reached   it holds after a step, after an addition, and after all actions of a run
--   run_reached        it holds of every answer of a run that has begun
--   run_list           the final list is that of the beginning with the vectors that were added; it is well formed, and s is its count (S3)
--   run_under_way      while a run is under way its numbers are those of the rows done, all of which are balanced (S3)
--   run_stops          after as many steps as the rows of the final list's vectors the run is caught or complete (S4)
use Rattle.std.specs.Prelude.{ℕ, ◌+◌, ◌*◌, ◌≤◌, ◌≡◌, refl, true, List, [], ◌∷◌, ◌++◌, eqb}
use Rattle.std.proofs.Math.Decide.{ℕ_discrete}
use Rattle.std.proofs.Common.{arith, sym, ap, ◌∙◌, true≢false, append_assoc, append-nil, inr}
use Rattle.std.proofs.Math.Logic.{⊎_elim}
use borrow.Author.Tests.{eq-eqb, ne_eqb}
use Rattle.std.proofs.Math.Arith.{digits_lt}
use Rattle.ticket.specs.declared.published.PlainSetting.{PlainSetting}
use Rattle.ticket.specs.declared.Answer.{Answer}
use Rattle.ticket.specs.Rules.{unless, plain}
use Rattle.ticket.proofs.Laws.First.{true_or_false}
use Rattle.challenge.specs.Rules.{testing}
use Rattle.run.specs.declared.Run.{Run}
use Rattle.run.specs.declared.RunAnswer.{RunAnswer}
use Rattle.run.specs.Rules.{is_finished, under_way, refused, marked, standing, zeros, beginning, worked, stepping, with_vectors, lengthened, addition_reading, adding, Action, step, add, acting, last_answer, ran, steps, added}
use Rattle.run.proofs.Laws.Additions.{addition_passed, unfinished_open}
use Rattle.run.proofs.Laws.Kept.{kept_worked, kept_lengthened, held_lengthened}
use Rattle.run.proofs.Laws.States.{unfinished, not_past, tested_refused, tested_passed, worked_is, worked_same, worked_count}
use Rattle.run.proofs.Laws.Runs.{Ended, Final, Reached, UnderWay, begins, begun_tests, formed, from_state, rows_same, standing_ended, standing_mark, stepped, under_way_lem, zeros_refused}

module _ {t : List ℕ} {P : PlainSetting} {y : List ℕ} {k : ℕ} {a : RunAnswer} (reach : Reached t P y k a) where
  abbrev R : Run
  R = a.run

  -- the numbers that an addition adds
  abbrev joining : List ℕ → List ℕ
  joining v = unless (eqb (adding R v).mark refused) v []

  pub step_reached : Reached t P y (1 + k) (stepping R t)
  step_reached =
      ⊎_elim
      (λ finished. from_state R (stepped reach.kept ∙ rw finished) reach.kept reach.setting reach.list
      (λ going. absurd (true≢false (sym finished ∙ going))))
      (λ going. let W = worked_is R t in
      let same = worked_same W in
      let there = not_past R (unfinished R going).0 in
      from_state (worked R t) (stepped reach.kept ∙ rw going) (kept_worked reach.kept going W)
      (rw same.0 reach.setting) (same.1 ∙ reach.list)
      (λ on. counts (worked R t).vector (worked R t).row (worked_count there.1 W on) (reach.counted going)))
      (true_or_false (is_finished R))
    where
      counts : (τ i : ℕ) → τ * R.setting.rows + i ≡ R.vector * R.setting.rows + R.row + 1 → R.vector * P.rows + R.row ≡ k
          → τ * P.rows + i ≡ 1 + k
      counts τ i e before =
          let moved : τ * P.rows + i ≡ R.vector * P.rows + R.row + 1 = rw (rows_same reach) at e in
          omega arith

  pub add_reached : (v : List ℕ) → Reached t P (y ++ joining v) k (adding R v)
  add_reached v =
      elim (ℕ_discrete (addition_reading R v).number 0) [
        | yes z ↦
            let passed = addition_passed R v z in
            let is : adding R v ≡ standing (lengthened R v) = sym (tested_passed R refl z refl) in
            let joins : joining v ≡ v = rw (ne_eqb (adding R v).mark refused (λ e. standing_mark (lengthened R v) (sym (ap (λ b. b.mark) is) ∙ e))) in
            rw joins
            (from_state (lengthened R v) is (kept_lengthened reach.kept passed)
            (ap (λ Q. with_vectors Q (R.setting.vectors + 1)) reach.setting)
            (held_lengthened passed reach.kept.long ∙ ap (λ l. l ++ v) reach.list)
            (λ going. reach.counted (unfinished_open passed)))
        | no d ↦
            let is : adding R v ≡ marked R refused (addition_reading R v) = sym (tested_refused R refl (standing (lengthened R v)) d refl) in
            let joins : joining v ≡ [] = rw (eq-eqb (adding R v).mark refused (ap (λ b. b.mark) is)) in
            rw (joins, append-nil y, is)
            (record { kept = reach.kept; said = inr refl; setting = reach.setting; list = reach.list; counted = reach.counted })
      ]

pub reached : {t : List ℕ} {P : PlainSetting} {y : List ℕ} {k : ℕ} {a : RunAnswer} → Reached t P y k a → (αs : List Action)
    → Reached t P (y ++ added t a αs) (k + steps αs) (last_answer t a αs)
unfolding added steps last_answer acting
reached {y = y} {k} reach [] = let none : k + 0 ≡ k = omega arith in rw (append-nil y, none) reach
reached {t} {y = y} {k} {a} reach (step ∷ rest) =
    let more : k + (1 + steps rest) ≡ 1 + k + steps rest = omega arith in
    rw more (reached {k = 1 + k} (step_reached reach) rest)
reached {t} {y = y} {k} {a = a} reach (add v ∷ rest) =
    rw (← append_assoc y (joining reach v) (added t (adding a.run v) rest)) (reached {y = y ++ joining reach v} (add_reached reach v) rest)

pub zeros_ever : (t : List ℕ) (b : Answer) (αs : List Action) → (last_answer t (marked zeros refused b) αs).mark ≡ refused
unfolding last_answer
zeros_ever t b [] = refl
zeros_ever t b (α ∷ rest) = let next = zeros_refused t α in ap (λ a. (last_answer t a rest).mark) next.1 ∙ zeros_ever t next.0 rest

module _ (P : PlainSetting) (t x : List ℕ) (αs : List Action) where
  abbrev last : RunAnswer
  last = ran P t x αs

  module _ (passes : (testing (plain P) t x).number ≡ 0) where
    pub run_reached : Reached t P (x ++ added t (beginning P t x) αs) (steps αs) last
    run_reached = let none : 0 + steps αs ≡ steps αs = omega arith in rw none at (reached (begins P t x αs passes) αs)

  module _ (begins : (beginning P t x).mark ≡ under_way) where
    pub run_list : Final P x (added t (beginning P t x) αs) last.run
    run_list =
        let reach = run_reached (begun_tests P t x αs begins) in
        record { setting = reach.setting; list = reach.list; formed = formed reach.kept }

    pub run_under_way : last.mark ≡ under_way → UnderWay t (steps αs) last
    run_under_way e =
        let reach = run_reached (begun_tests P t x αs begins) in
        ⊎_elim (λ said. under_way_lem reach said e) (λ f. absurd (omega arith)) reach.said

    pub run_stops : P.rows * last.run.setting.vectors ≤ steps αs → (is_finished last.run ≡ true) × Ended (stepping last.run t)
    run_stops enough =
        let reach = run_reached (begun_tests P t x αs begins) in
        let R = last.run in
        let rows : R.setting.rows ≡ P.rows = ap (λ Q. Q.rows) reach.setting in
        let finished : is_finished R ≡ true =
        ⊎_elim (λ f. f)
        (λ going. let there = not_past R (unfinished R going).0 in
        absurd (omega (arith, reach.counted going, digits_lt there.0 (rw rows at there.1))))
        (true_or_false (is_finished R)) in
        (finished, rw (stepped reach.kept, finished) (standing_ended R finished))
