use Rattle.std.proofs.Common.{arith, rules}
use Rattle.challenge.proofs.Laws.Lists.{numbers_refused, numbers_passed}
use Rattle.challenge.proofs.lists.read_numbers.Goals as goal

pub returns-then-modulus-number : goal.returns-then-modulus-number
returns-then-modulus-number c = numbers_refused _ _ (search rules) c.loop-k.invariant (omega arith)

pub returns : goal.returns
returns c = numbers_passed _ _ (λ i l. c.loop-k.invariant i (omega arith))
