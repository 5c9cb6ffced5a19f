use Rattle.std.proofs.Common.{arith}
use Rattle.residue.proofs.Laws.Modulus.PartnerModuli.{modulus_positive}
use Rattle.ticket.proofs.Laws.All.{all_none, all_next}
use Rattle.challenge.proofs.lists.nonzero_residues.Goals as goal

pub overflow_sub-most : goal.overflow_sub-most
overflow_sub-most c = omega (arith, modulus_positive, c.modulus-most.ensures)

pub loop-number-init : goal.loop-number-init
loop-number-init c = all_none _

pub loop-number-preserved : goal.loop-number-preserved
loop-number-preserved c = all_next c.loop-number.number-index _ c.loop-number.invariant (rw c.modulus-most.ensures)
