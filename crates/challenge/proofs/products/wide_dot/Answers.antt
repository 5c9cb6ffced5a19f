use Rattle.std.proofs.Common.{◌≡◌, ◌*◌, ◌^◌, ◌<◌, get_or, arith}
use Rattle.residue.proofs.Laws.Products.{holds_none}
use Rattle.challenge.specs.Laws.Products.{dot_with}
use Rattle.challenge.proofs.Laws.Products.{reduced, term_more, held_with}
use Rattle.challenge.proofs.products.wide_dot.Goals as goal

pub loop-c-init : goal.loop-c-init
unfolding dot_with
loop-c-init c = holds_none _ c.new-sum.ensures

pub loop-c-preserved : goal.loop-c-preserved
unfolding dot_with
loop-c-preserved c =
    let of = c.args in
    let term : get_or of.list.now c.loop-c.c 0 * get_or of.vector.now c.loop-c.c 0 ≡ c.from.result * get_or of.vector.now c.loop-c.c 0 = rw c.from.ensures in
    let small : c.from.result < 2 ^ 32 = omega arith in
    search (term_more, term, small)

pub returns : goal.returns
unfolding dot_with
returns c = search (reduced, held_with, arith)
