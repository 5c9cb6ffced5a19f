-- Steps one after the other up to the first that fails, the answer carried along from one to the next.
--
--   step_answer S i  the answer of step i, after such a run
--   run_none         before the first step
--   run_next         a step that holds
--   run_stopped      a step that fails
--   run_ended        after the last step
--   run_at           the same run by another count of its steps
--   run_several, run_breaks   several steps at once, tested by f: they hold, or the first of them that fails
use Rattle.std.specs.Prelude.{◌≡◌, ℕ, ◌+◌, ◌<◌, ◌≤◌, Bool, true, false, ◌≢◌}
use Rattle.std.proofs.Math.Decide.{ℕ_discrete}
use Rattle.std.proofs.Common.{arith, ⊎_elim, sym, ap, ◌∙◌}
use Rattle.ticket.specs.declared.Answer.{Answer}
use Rattle.ticket.specs.Rules.{first}
use Rattle.ticket.proofs.Laws.First.{joined, true_or_false, first_within, first_before, first_at}
use Rattle.ticket.proofs.Laws.Scans.{scan_none, scan_is}
use Rattle.ticket.specs.Laws.Runs.{Steps, steps_answer, step_answer, RunTo, RunPast}

pub run_none : {S : Steps} {a : Answer} → a ≡ S.so_far 0 → RunTo S 0 a
run_none e = record { within = omega arith; before = λ k l. absurd (omega arith); answer_is = e }

module _ {S : Steps} {i : ℕ} {a : Answer} (run : RunTo S i a) where
  module _ {b : Answer} (l : i < S.count) (b-is : b ≡ step_answer S i) where
    pub run_next : b.number ≡ 0 → RunTo S (i + 1) b
    run_next z =
        ⊎_elim
        (λ h. record {
          within = omega arith;
          before = λ k m. elim (ℕ_discrete k i) [ yes e ↦ rw e h | no d ↦ run.before k (omega arith) ];
          answer_is = b-is ∙ rw h;
        })
        (λ h. absurd (S.other i (sym (ap (λ x. x.number) (rw h at b-is)) ∙ z)))
        (true_or_false (S.holds i))

    pub run_stopped : (b.number ≢ 0) → b ≡ steps_answer S
    run_stopped d =
        ⊎_elim
        (λ h. absurd (d (ap (λ x. x.number) (rw h at b-is) ∙ S.passed (i + 1))))
        (λ h. (rw h at b-is) ∙ sym (scan_is S.count i S.holds S.failed (S.so_far S.count) l run.before h))
        (true_or_false (S.holds i))

  pub run_ended : S.count ≤ i → a ≡ steps_answer S
  run_ended l =
      let all : i ≡ S.count = omega (arith, run.within) in
      run.answer_is ∙ ap S.so_far all
      ∙ sym (scan_none S.count S.holds S.failed (S.so_far S.count) (λ k m. run.before k (omega arith)))

  pub run_at : {k : ℕ} → k ≡ i → RunTo S k a
  run_at e = rw e run

module _ {S : Steps} {i n k : ℕ} {a : Answer} (run : RunTo S i a) (inside : i + n ≤ S.count) (f : ℕ → Bool)
    (alike : (j : ℕ) → j < n → f j ≡ S.holds (i + j)) (k-is : k ≡ first n f) where
  -- the steps before the first of these that fails
  before_first : (j : ℕ) → j < i + k → S.holds j ≡ true
  before_first =
      joined (λ j. S.holds j ≡ true) run.before (λ j l. sym (alike j (omega (arith, first_within n f))) ∙ first_before n f j (omega arith))

  pub run_several : {b : Answer} → n ≤ k → b ≡ S.so_far (i + n) → RunPast S (i + n) b
  run_several l e =
      record {
        passing = λ z. record { within = inside; before = λ j m. before_first j (omega arith); answer_is = e };
        stopping = λ d. absurd (d (ap (λ x. x.number) e ∙ S.passed (i + n)));
      }

  pub run_breaks : {b : Answer} → k < n → b ≡ S.failed (i + k) → RunPast S (i + n) b
  run_breaks l e =
      let fails : f k ≡ false = rw k-is (first_at n f (omega arith)) in
      record {
        passing = λ z. absurd (S.other (i + k) (sym (ap (λ x. x.number) e) ∙ z));
        stopping = λ d. e ∙ sym (scan_is S.count (i + k) S.holds S.failed _ (omega arith) before_first (sym (alike k l) ∙ fails));
      }
