use Rattle.std.proofs.Common.{arith}
use Rattle.residue.proofs.Laws.Modulo.{carried_words}
use Rattle.residue.proofs.Laws.Modulus.{modulus_above, modulus_below}
use Rattle.ticket.proofs.decode.shifted.Goals as goal

pub overflow_add-wrap : goal.overflow_add-wrap
overflow_add-wrap c = omega (arith, modulus_below)

pub nonzero_div-result-2 : goal.nonzero_div-result-2
nonzero_div-result-2 c = omega (arith, modulus_above, c.modulus-wrap.ensures)

pub returns : goal.returns
returns c = rw c.modulus-wrap.ensures (carried_words _ _ _)
