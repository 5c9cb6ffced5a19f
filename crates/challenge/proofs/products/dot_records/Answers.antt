use Prim.Native.Nat.{◌+◌, ◌*◌, ◌≤◌}
use native.Mathlib.Omega.{arith}
use mathlib.Core.Path.{◌≡◌}
use lib.ListN.{length, get_or}
use Rattle.residue.proofs.Laws.Products.{holds_none}
use Rattle.ticket.specs.Rules.{record_bytes}
use Rattle.ticket.proofs.Laws.Forms.{slice_long, last_word}
use Rattle.challenge.specs.Laws.Products.{terms, dot_of}
use Rattle.challenge.proofs.Laws.Products.{reduced, term_more, held_all}
use Rattle.challenge.proofs.products.dot_records.Goals as goal

pub loop-r-init : goal.loop-r-init
unfolding dot_of
loop-r-init c = holds_none _ c.new-sum.ensures

pub loop-r-preserved : goal.loop-r-preserved
unfolding dot_of
loop-r-preserved c =
    let inside : let of = c.args in record_bytes * (of.start + c.loop-r.r) + record_bytes ≤ length of.records.now = omega (arith, c.requires.long) in
    let term : let of = c.args in terms of.records.now of.start of.vector.now c.loop-r.r ≡ c.value-value.result.0 * get_or of.vector.now c.loop-r.r 0 =
    let of = c.args in
    let k = of.start + c.loop-r.r in
    rw (c.value-value.ensures, slice_long of.records.now k (inside), last_word of.records.now k) in
    search (term_more, arith, term)

pub returns : goal.returns
unfolding dot_of
returns c = search (reduced, held_all)
