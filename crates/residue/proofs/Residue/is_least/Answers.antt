use Rattle.std.proofs.Math.Path.{refl}
use Rattle.residue.specs.Rules.{modulus}
use Rattle.residue.proofs.Residue.is_least.Goals as goal

pub returns : goal.returns
unfolding modulus
returns c = refl
