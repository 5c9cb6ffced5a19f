use Rattle.std.proofs.Common.{arith}
use Rattle.residue.proofs.Laws.Modulus.{modulus_below}
use Rattle.ticket.proofs.records.entries_form.Goals as goal

pub overflow_mul-result : goal.overflow_mul-result
overflow_mul-result c = omega (arith, modulus_below)

pub overflow_add-result : goal.overflow_add-result
overflow_add-result c = omega (arith, modulus_below)
