use native.Mathlib.Omega.{arith}
use Rattle.files.proofs.Laws.Numbers.{list_read}
use Rattle.files.proofs.bytes.list_of.Goals as goal

pub returns : goal.returns
returns c = list_read _ _ (omega arith) (λ i l. c.loop-k.invariant i (omega arith))
