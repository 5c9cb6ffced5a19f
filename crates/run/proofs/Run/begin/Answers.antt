use native.Mathlib.Omega.{arith}
use Rattle.std.proofs.Common.{refl, sym, ap, ◌∙◌}
use Rattle.ticket.proofs.Laws.Answers.{reason_numbered}
use Rattle.run.specs.Rules.{standing, zeros}
use Rattle.run.proofs.Laws.States.{tested_refused, tested_passed, testing_passed, testing_plain}
use Rattle.run.proofs.Run.begin.Goals as goal

pub begun-requires : goal.begun-requires
begun-requires c =
    let ready = testing_passed _ _ _ (testing_plain c.from.ensures _ _ c.in_default.ensures) refl in
    omega (arith, ready.list.size, ready.passed.counts)

pub answered-requires-2 : goal.answered-requires-2
answered-requires-2 c =
    λ z. rw c.begun.ensures (testing_passed _ _ _ (testing_plain c.from.ensures _ _ c.in_default.ensures) refl).passed.counts.sizes

pub returns : goal.returns
returns c =
    tested_passed zeros (testing_plain c.from.ensures _ _ c.in_default.ensures) refl
    (c.answered-2.ensures ∙ sym (tested_passed _ refl refl refl) ∙ ap standing c.begun.ensures)

pub returns-in-Err : goal.returns-in-Err
returns-in-Err c =
    let fails = reason_numbered _ in
    tested_refused zeros (testing_plain c.from.ensures _ _ c.in-Err.ensures) _ fails
    ((rw (c.zeros.ensures, c.from-in-Err.ensures) at c.answered.ensures) ∙ sym (tested_refused _ refl _ fails refl))
