-- Which final lists runs end complete with (S5, N1). All counts s are those of the final lists.
--
--   Completes P t y     some run with the ticket t ends complete, P being its setting and y its list at the end
--   completes_accepted  the challenge check accepts such a list
use Rattle.std.specs.Prelude.{ℕ, ◌-◌, ◌^◌, ◌≤◌, ◌<◌, ◌≡◌, List, [], length, get_or}
use Rattle.std.proofs.Common.{sym, ap, ◌∙◌, inr}
use Rattle.residue.specs.Rules.{modulus}
use Rattle.residue.proofs.Laws.Counting.{Different}
use Rattle.ticket.specs.declared.published.PlainSetting.{PlainSetting}
use Rattle.ticket.specs.Rules.{Passes, FalseIn, plain}
use Rattle.challenge.specs.Rules.{Accepted, DifferIn}
use Rattle.soundness.proofs.Laws.DrawnLists.{Allowed, DrawnFrom, list_count, drawn_accepted_few}
use Rattle.soundness.proofs.Laws.Demands.AcceptedExactlyWellFormed.{one_accepted, accepted_few}
use Rattle.run.specs.Rules.{held_list, complete, Action, ran}
use Rattle.run.proofs.Laws.Runs.CompleteNumber.{run_ends, complete_number}
pub mod OneComplete

pub record Completes (P : PlainSetting) (t y : List ℕ) : Type 0 where
  pub begun_with : PlainSetting
  pub first_list : List ℕ
  pub actions : List Action
  pub completed : (ran begun_with t first_list actions).mark ≡ complete
  pub setting : (ran begun_with t first_list actions).run.setting ≡ P
  pub list : held_list (ran begun_with t first_list actions).run ≡ y

pub completes_accepted : {P : PlainSetting} {t y : List ℕ} → Completes P t y → Accepted (plain P) t y
completes_accepted {t = t} run =
    rw (← run.setting, ← run.list)
    (sym (ap (λ a. a.number) (run_ends run.begun_with t run.first_list run.actions (inr run.completed)))
    ∙ complete_number run.begun_with t run.first_list run.actions run.completed)
