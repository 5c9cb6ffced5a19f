use Rattle.std.proofs.Common.{arith}
use Rattle.residue.proofs.Laws.Modulus.{modulus_below}
use Rattle.ticket.proofs.Laws.Passing.{range_by}
use Rattle.ticket.proofs.records.in_range.Goals as goal

pub returns : goal.returns
returns c = λ l. rw c.modulus.ensures (range_by _ c.requires _ _ l (omega arith) (omega (arith, l, c.requires.shift, c.requires.limit, modulus_below)))
