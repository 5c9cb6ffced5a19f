-- What rests on RunRefused, RunStops, Runs.
--
--   run_ends           the answer that ends a run is that of the challenge check with the final list (S3)
--   complete_number    a run that ends complete has the number 0
use Rattle.std.specs.Prelude.{ℕ, ◌≡◌, List}
use Rattle.std.proofs.Math.Decide.{ℕ_discrete}
use Rattle.std.proofs.Common.{arith, sym, ap, ◌∙◌}
use Rattle.std.proofs.Math.Logic.{⊎_elim}
use Rattle.ticket.specs.declared.published.PlainSetting.{PlainSetting}
use Rattle.ticket.specs.Rules.{plain}
use Rattle.challenge.specs.Rules.{testing, challenge_check}
use Rattle.run.specs.declared.RunAnswer.{RunAnswer}
use Rattle.run.specs.Rules.{layer, held_list, complete, refused, Action, ran}
use Rattle.run.proofs.Laws.Runs.{Ended, kept_ended, mark_number}
use Rattle.run.proofs.Laws.Runs.RunRefused.{run_refused}
use Rattle.run.proofs.Laws.Runs.RunStops.{run_reached}

module _ (P : PlainSetting) (t x : List ℕ) (αs : List Action) where
  abbrev last : RunAnswer
  last = ran P t x αs

  pub run_ends : Ended last → last.answer ≡ challenge_check (layer last.run) t (held_list last.run)
  run_ends ended =
      elim (ℕ_discrete (testing (plain P) t x).number 0) [
        | yes z ↦
            let reach = (run_reached P t x αs) z in
            ⊎_elim
            (λ e. ap (λ a. a.answer) e ∙ kept_ended reach.kept (rw e at ended))
            (λ e. absurd (not_refused e))
            reach.said
        | no d ↦ absurd (not_refused ((run_refused P t x αs) d))
      ]
    where
      not_refused : last.mark ≡ refused → ⊥
      not_refused e = ⊎_elim (λ f. omega arith) (λ f. omega arith) ended

  pub complete_number : last.mark ≡ complete → last.answer.number ≡ 0
  complete_number e =
      elim (ℕ_discrete (testing (plain P) t x).number 0) [
        | yes z ↦
            ⊎_elim
            (λ said. ap (λ a. a.answer.number) said ∙ mark_number last.run (sym (ap (λ a. a.mark) said) ∙ e))
            (λ f. absurd (omega arith))
            ((run_reached P t x αs) z).said
        | no d ↦ let mark = (run_refused P t x αs) d in absurd (omega arith)
      ]
