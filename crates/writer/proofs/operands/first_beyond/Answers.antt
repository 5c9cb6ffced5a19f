use Rattle.std.proofs.Common.{◌≡◌, get_or, pos, nat_abs, sym, arith, rules}
use Rattle.ticket.specs.Rules.{reason_number}
use Rattle.ticket.proofs.Laws.Answers.{reason_numbered}
use Rattle.writer.proofs.Laws.Operands.{size_read, beyond_none, beyond_within, beyond_at}
use Rattle.writer.proofs.operands.first_beyond.Goals as goal

pub returns-then-all_within : goal.returns-then-all_within
returns-then-all_within c =
    let of = c.args in
    sym (beyond_within of.bound (reason_number of.reason) of.operand.now of.start c.all_within.ensures c.if-all_within.true)

pub returns-then-bound-unsigned_abs : goal.returns-then-bound-unsigned_abs
returns-then-bound-unsigned_abs c =
    let of = c.args in
    let size : c.unsigned_abs.result ≡ nat_abs (get_or of.operand.now c.loop-k.k (pos 0)) =
    size_read of.operand.now c.loop-k.k (search rules) c.unsigned_abs.ensures.value in
    sym (beyond_at of.bound (reason_number of.reason) of.operand.now of.start
    (omega (arith, reason_numbered of.reason)) c.loop-k-test.true
    c.loop-k.invariant (omega (arith, size, c.if-bound-unsigned_abs.true)))

pub returns : goal.returns
returns c =
    let of = c.args in
    sym (beyond_none of.bound (reason_number of.reason) of.operand.now of.start (λ k l. c.loop-k.invariant k (omega arith)))
