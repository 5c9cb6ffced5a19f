-- What rests on RunStops, Runs.
--
--   run_refused        a run that was refused at its beginning is refused ever after
use Rattle.std.specs.Prelude.{ℕ, ◌≡◌, refl, List}
use Rattle.std.proofs.Common.{sym}
use Rattle.ticket.specs.declared.published.PlainSetting.{PlainSetting}
use Rattle.ticket.specs.Rules.{plain}
use Rattle.challenge.specs.Rules.{testing}
use Rattle.run.specs.declared.RunAnswer.{RunAnswer}
use Rattle.run.specs.Rules.{refused, marked, standing, zeros, begun, beginning, Action, ran}
use Rattle.run.proofs.Laws.States.{tested_refused}
use Rattle.run.proofs.Laws.Runs.{}
use Rattle.run.proofs.Laws.Runs.RunStops.{zeros_ever}

module _ (P : PlainSetting) (t x : List ℕ) (αs : List Action) where
  abbrev last : RunAnswer
  last = ran P t x αs

  pub run_refused : ((testing (plain P) t x).number ≡ 0 → ⊥) → last.mark ≡ refused
  run_refused d =
      let is : beginning P t x ≡ marked zeros refused (testing (plain P) t x) = sym (tested_refused zeros refl (standing (begun P x)) d refl) in
      rw is (zeros_ever t (testing (plain P) t x) αs)
