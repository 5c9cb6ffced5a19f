use Rattle.std.proofs.Common.{arith}
use Rattle.ticket.specs.declared.setting.Setting.{Setting}
use Rattle.ticket.specs.Laws.Limits.{clamped, Clamped}
use Rattle.ticket.proofs.Laws.Limits.ClampedSmall.{clamped_small}
use Rattle.ticket.proofs.Laws.Layout.{PartsAre, parts_are}
use Rattle.ticket.proofs.Laws.Layout.StartOfB.{start_past}
use Rattle.ticket.proofs.setting.Setting.start.Goals as goal

sizes : (G : Setting) → PartsAre (clamped G) × Clamped (clamped G)
sizes G = (parts_are _, clamped_small G)

pub overflow_add-bias : goal.overflow_add-bias
overflow_add-bias c = let known = sizes c.args.self in omega (arith, known)

pub overflow_add-quotients : goal.overflow_add-quotients
overflow_add-quotients c = let known = sizes c.args.self in omega (arith, known)

pub overflow_add-remainders : goal.overflow_add-remainders
overflow_add-remainders c = let known = sizes c.args.self in omega (arith, known)

pub overflow_add-result : goal.overflow_add-result
overflow_add-result c = let known = sizes c.args.self in omega (arith, known)

pub returns-in-0 : goal.returns-in-0
returns-in-0 c = let known = sizes c.args.self in rw c.in-0.is (omega (arith, known))

pub returns-in-1 : goal.returns-in-1
returns-in-1 c = let known = sizes c.args.self in rw c.in-1.is (omega (arith, known))

pub returns-in-2 : goal.returns-in-2
returns-in-2 c = let known = sizes c.args.self in rw c.in-2.is (omega (arith, known))

pub returns-in-3 : goal.returns-in-3
returns-in-3 c = let known = sizes c.args.self in rw c.in-3.is (omega (arith, known))

pub returns-in-4 : goal.returns-in-4
returns-in-4 c = let known = sizes c.args.self in rw c.in-4.is (omega (arith, known))

pub returns-in_default : goal.returns-in_default
returns-in_default c = let known = sizes c.args.self in
    omega (arith, known, start_past (clamped c.args.self) {w = c.args.which.0} (omega arith))
