-- What rests on Answers.
--
--   answered            for some a it holds
--   answer_exactly      the answer is a exactly when it holds
--   accepted_exactly    the answer is accepted G exactly when all tests pass and every row of every vector balances
--   accepted_number     an answer with number 0 is that one
--   caught_exactly      the answer is caught G τ i exactly when row i of vector τ is the first that does not balance
--   answer_in_table     every answer is a row of the table
use Rattle.std.specs.Prelude.{ℕ, ◌≡◌, refl, ◌↔◌, List}
use Rattle.std.proofs.Common.{sym, ◌∙◌, ⊎_elim}
use Rattle.std.proofs.Math.Path.{ap}
use Rattle.ticket.specs.declared.setting.Setting.{Setting}
use Rattle.ticket.specs.declared.Answer.{Answer}
use Rattle.ticket.specs.Rules.{refusal}
use Rattle.ticket.proofs.Laws.Refusals.{passed_reading, passed_or_refused}
use Rattle.challenge.specs.Rules.{accepted, caught, challenge_check, Accepted}
use Rattle.challenge.proofs.Laws.Lists.{list_answered}
use Rattle.soundness.proofs.Laws.Answers.{first_unbalanced, refused, all_balanced, Answered, Balances, Caught, TableRow, answer_of, answered_list, condition_of, row_of}

module _ (G : Setting) (t x : List ℕ) where
  pub answered : (a : Answer) × Answered G t x a
  answered =
      ⊎_elim (λ p. (answered_list G t x) (ap (λ a. a.number) (passed_reading G t p)) (list_answered G x)) (λ r. (refusal r.0 r.1, refused r.2))
      (passed_or_refused G t)

  pub answer_exactly : (a : Answer) → (challenge_check G t x ≡ a) ↔ Answered G t x a
  answer_exactly a = (
    λ e. let same : answered.0 ≡ a = sym ((answer_of G t x) answered.1) ∙ e in rw same at answered.1,
    (answer_of G t x),
  )

  pub accepted_exactly : (challenge_check G t x ≡ accepted G) ↔ Balances G t x
  accepted_exactly = (λ e. ((condition_of G t x) ((answer_exactly (accepted G)).0 e)).0 refl, λ b. (answer_of G t x) (all_balanced b))

  pub accepted_number : Accepted G t x → challenge_check G t x ≡ accepted G
  accepted_number e = (answer_of G t x) (all_balanced (((condition_of G t x) ((answer_exactly (challenge_check G t x)).0 refl)).0 e))

  pub caught_exactly : (τ i : ℕ) → (challenge_check G t x ≡ caught G τ i) ↔ Caught G t x τ i
  caught_exactly τ i = (λ e. ((condition_of G t x) ((answer_exactly (caught G τ i)).0 e)).1 refl, λ c. (answer_of G t x) (first_unbalanced c))

  pub answer_in_table : TableRow G (challenge_check G t x)
  answer_in_table = (row_of G t x) ((answer_exactly (challenge_check G t x)).0 refl)
