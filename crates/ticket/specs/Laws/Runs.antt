-- Steps one after the other up to the first that fails, the answer carried along from one to the next.
--
--   Steps            n steps: which hold, the answer where step k fails, and the answer while the steps before k hold
--   steps_answer S   the answer of all of them
--   RunTo S i a      the steps before i hold, and a is the answer so far
--   RunPast S i a    a is the answer of the steps before i where they hold, else that of all steps
use Rattle.std.specs.Prelude.{◌≡◌, ℕ, ◌+◌, ◌<◌, ◌≤◌, Bool, true, ◌≢◌}
use Rattle.ticket.specs.declared.Answer.{Answer}
use Rattle.ticket.specs.Rules.{unless, scan}

pub record Steps : Type 0 where
  pub count : ℕ
  pub holds : ℕ → Bool
  pub failed : ℕ → Answer
  pub so_far : ℕ → Answer
  pub other : (k : ℕ) → (failed k).number ≢ 0
  pub passed : (k : ℕ) → (so_far k).number ≡ 0

abbrev pub steps_answer : Steps → Answer
steps_answer S = scan S.count S.holds S.failed (S.so_far S.count)

abbrev pub step_answer : Steps → ℕ → Answer
step_answer S i = unless (S.holds i) (S.failed i) (S.so_far (i + 1))

pub record RunTo (S : Steps) (i : ℕ) (a : Answer) : Type 0 where
  pub within : i ≤ S.count
  pub before : (k : ℕ) → k < i → S.holds k ≡ true
  pub answer_is : a ≡ S.so_far i

pub record RunPast (S : Steps) (i : ℕ) (a : Answer) : Type 0 where
  pub passing : a.number ≡ 0 → RunTo S i a
  pub stopping : (a.number ≢ 0) → a ≡ steps_answer S
