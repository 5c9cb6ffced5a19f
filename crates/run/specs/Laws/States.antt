-- States and their answers, as the code makes them (S1).
--
--   DoneReady P τ i    the products of τ vectors and i rows can be counted
--   mark_of S          the mark of a run that stands so
--   Answerable R a     where tests with the answer a pass, the sizes of the state's setting are within their limits
--   due R              the vector whose row is due, one that is not there where the run is finished
--   proceeded R a      the state after a row with the answer a, where one was due and the tests passed, with its u
use Rattle.std.specs.Prelude.{ℕ, ◌≤◌, ◌≡◌, ◌&&◌, cond, eqb, not}
use Rattle.ticket.specs.declared.published.PlainSetting.{PlainSetting}
use Rattle.ticket.specs.declared.Answer.{Answer}
use Rattle.ticket.specs.Rules.{unless, plain}
use Rattle.ticket.specs.Laws.Limits.{Sizes}
use Rattle.challenge.specs.declared.single.RowAnswer.{RowAnswer}
use Rattle.run.specs.declared.Run.{Run}
use Rattle.run.specs.declared.answers.Standing.{Standing}
use Rattle.run.specs.declared.answers.Standing.TheVariants.{UnderWay, Caught, Complete, Refused}
use Rattle.run.specs.Rules.{layer, is_finished, placed, moved, under_way, caught_mark, complete, refused}

pub record DoneReady (P : PlainSetting) (τ i : ℕ) : Type 0 where
  pub sizes : Sizes (plain P)
  pub vectors : τ ≤ P.vectors
  pub rows : i ≤ P.rows

abbrev pub mark_of : Standing → ℕ
mark_of UnderWay = under_way
mark_of Caught = caught_mark
mark_of Complete = complete
mark_of Refused = refused

abbrev pub Answerable : Run → Answer → Type 0
Answerable R a = a.number ≡ 0 → Sizes (layer R)

abbrev pub due : Run → ℕ
due R = cond (is_finished R) R.setting.vectors R.vector

unfoldable pub proceeded : Run → RowAnswer → Run
proceeded R a =
    cond (eqb a.tested.number 0 && not (is_finished R)) (unless a.balanced (placed R a.u R.vector R.row 1) (moved R a.u)) R
