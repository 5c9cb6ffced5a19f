use native.Mathlib.Omega.{arith}
use Rattle.run.proofs.Laws.States.{proceeding, proceeded_none, proceeded_caught, proceeded_within, proceeded_over}
use Rattle.run.proofs.Run.proceeded.Goals as goal

pub overflow_add-self : goal.overflow_add-self
overflow_add-self c =
    let there = proceeding c.args.self c.args.made (rw (← c.is_finished.ensures) c.if-made-is_finished.true) in
    record { fits = omega (arith, there) }

pub overflow_add-self-then-self : goal.overflow_add-self-then-self
overflow_add-self-then-self c =
    let there = proceeding c.args.self c.args.made (rw (← c.is_finished.ensures) c.if-made-is_finished.true) in
    record { fits = omega (arith, there) }

pub returns-then-self : goal.returns-then-self
returns-then-self c = proceeded_over _ _ (rw (← c.is_finished.ensures) c.if-made-is_finished.true) c.if-made.true c.if-self.true

pub returns-else-self : goal.returns-else-self
returns-else-self c = proceeded_within _ _ (rw (← c.is_finished.ensures) c.if-made-is_finished.true) c.if-made.true c.if-self.false

pub returns-else-made : goal.returns-else-made
returns-else-made c = proceeded_caught _ _ (rw (← c.is_finished.ensures) c.if-made-is_finished.true) c.if-made.false

pub returns-else-made-is_finished : goal.returns-else-made-is_finished
returns-else-made-is_finished c = proceeded_none _ _ (rw (← c.is_finished.ensures) c.if-made-is_finished.false)
