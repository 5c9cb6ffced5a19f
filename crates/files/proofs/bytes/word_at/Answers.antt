use native.Mathlib.Omega.{arith}
use Rattle.files.specs.Rules.{word_at}
use Rattle.files.proofs.bytes.word_at.Goals as goal

pub returns : goal.returns
unfolding word_at
returns c = omega arith
