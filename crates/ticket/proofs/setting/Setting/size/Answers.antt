use Rattle.std.proofs.Common.{sym, arith}
use Rattle.ticket.proofs.Laws.Layout.{parts_are, size_claims}
use Rattle.ticket.proofs.Laws.Layout.StartOfB.{size_past}
use Rattle.ticket.proofs.setting.Setting.size.Goals as goal

pub returns-in-0 : goal.returns-in-0
returns-in-0 c = rw (c.in-0.is, c.clamped-s.ensures.0) (sym (parts_are _).size_a)

pub returns-in-1 : goal.returns-in-1
returns-in-1 c = rw (c.in-1.is, c.clamped-s.ensures.0) (sym (parts_are _).size_b)

pub returns-in-2 : goal.returns-in-2
returns-in-2 c = rw (c.in-2.is, c.bias_columns.ensures, c.clamped-s.ensures.0) (sym (parts_are _).size_bias)

pub returns-in-3 : goal.returns-in-3
returns-in-3 c = rw c.clamped-s.ensures.0 (sym (size_claims _ (omega arith) (omega arith)))

pub returns-in_default : goal.returns-in_default
returns-in_default c = sym (size_past _ (omega arith))
