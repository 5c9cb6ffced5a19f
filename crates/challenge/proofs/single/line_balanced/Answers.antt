use Rattle.std.proofs.Common.{◌∙◌, arith}
use Rattle.residue.proofs.Laws.Modulus.{modulus_above}
use Rattle.ticket.proofs.Laws.Limits.{lift_made}
use Rattle.challenge.proofs.Laws.Single.{bias_inside, single_sides, single_balanced}
use Rattle.challenge.proofs.single.line_balanced.Goals as goal

pub new-vector-requires : goal.new-vector-requires
new-vector-requires c = let ready = c.requires.0 in
    let passed = ready.passed in (
      ready.vector,
      c.requires.1,
      bias_inside ready,
      omega (arith, lift_made passed.counts.sizes passed.numbers passed.fitted c.half-half.ensures c.lift_of.ensures),
      omega (arith, passed.numbers.bound, modulus_above),
    )

pub check_row-requires : goal.check_row-requires
check_row-requires c = let pre = c.requires in
    single_sides pre.0 pre.1 c.decode_row.ensures c.part-bias.ensures c.new-vector.ensures
    (omega (arith, pre.0.passed.counts.sizes)) (omega (arith, pre.0.passed.counts.sizes))

pub returns : goal.returns
returns c = let pre = c.requires in
    c.is_ok.ensures.value
    ∙ single_balanced pre.0 pre.1 c.decode_row.ensures c.part-bias.ensures c.new-vector.ensures
    c.half-half.ensures c.lift_of.ensures _ c.check_row.ensures
