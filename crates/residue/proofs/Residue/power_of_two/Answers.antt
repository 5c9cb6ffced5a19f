-- no bit is shifted out of the word
use Rattle.std.proofs.Common.{sym, arith, shl_exact}
use Rattle.residue.proofs.Laws.Powers.{power_beyond, power_within}
use Rattle.residue.proofs.Residue.power_of_two.Goals as goal

pub returns-then-k-gt-LARGEST_EXPONENT : goal.returns-then-k-gt-LARGEST_EXPONENT
returns-then-k-gt-LARGEST_EXPONENT c = sym (power_beyond _ (omega arith))

pub returns : goal.returns
returns c =
    let k = c.args.k in
    omega (arith, shl_exact {a = 1} 1 k 32 (omega arith) (omega arith), power_within k (omega arith))
