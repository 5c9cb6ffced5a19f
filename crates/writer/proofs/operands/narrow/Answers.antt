use Rattle.std.proofs.Common.{◌≡◌, length, arith}
use native.Mathlib.Decide.{dec_lt}
use Rattle.algebra.proofs.Laws.Positions.{row_inside}
use Rattle.writer.proofs.operands.narrow.Goals as goal

pub returns : goal.returns
returns c =
    let loop = c.loop-at in
    let n = length c.args.list.now in
    let all : loop.k ≡ n = elim (dec_lt loop.k n) [
      | yes l ↦ absurd (omega (arith, row_inside c.args.width l, c.requires.long, c.requires.inside, c.loop-at-test.false))
      | no l ↦ omega arith
    ] in
    rw all at loop.invariant.2
