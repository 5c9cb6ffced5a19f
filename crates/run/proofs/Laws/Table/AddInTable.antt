-- What rests on Table.
--
--   begin_in_table, step_in_table, add_in_table   every answer of begin, of a step and of an addition is such a row
use Rattle.std.specs.Prelude.{ℕ, ◌≡◌, refl, List}
use Rattle.std.proofs.Math.Decide.{ℕ_discrete}
use Rattle.std.proofs.Common.{subst}
use Rattle.ticket.specs.declared.published.PlainSetting.{PlainSetting}
use Rattle.ticket.specs.declared.Answer.{Answer}
use Rattle.ticket.specs.Rules.{plain}
use Rattle.challenge.specs.Rules.{testing}
use Rattle.run.specs.declared.Run.{Run}
use Rattle.run.specs.Rules.{layer, held_list, standing, tested, zeros, begun, beginning, stepping, lengthened, addition_reading, adding}
use Rattle.run.proofs.Laws.States.{tested_refused, tested_passed}
use Rattle.run.proofs.Laws.Table.{refused_row, state_row, AdditionRow, CallRow, TestsRow, addition_in_table, state_in_table, tests_in_table}

call_in_table : (R S : Run) (Q : Answer → Type 0) (a : Answer) → ((a.number ≡ 0 → ⊥) → Q a) → CallRow R Q (tested R a (standing S))
call_in_table R S Q a row =
    elim (ℕ_discrete a.number 0) [
      | yes z ↦ subst (CallRow R Q) (tested_passed R refl z refl) (state_row (state_in_table S))
      | no d ↦ subst (CallRow R Q) (tested_refused R refl (standing S) d refl) (refused_row (row d))
    ]

pub begin_in_table : (P : PlainSetting) (t x : List ℕ) → CallRow zeros (TestsRow (plain P)) (beginning P t x)
begin_in_table P t x = call_in_table zeros (begun P x) _ (testing (plain P) t x) (tests_in_table (plain P) t x)

pub step_in_table : (R : Run) (t : List ℕ) → CallRow R (TestsRow (layer R)) (stepping R t)
step_in_table R t = call_in_table R _ _ (testing (layer R) t (held_list R)) (tests_in_table (layer R) t (held_list R))

pub add_in_table : (R : Run) (v : List ℕ) → CallRow R (AdditionRow R.setting) (adding R v)
add_in_table R v = call_in_table R (lengthened R v) _ (addition_reading R v) (addition_in_table R v)
