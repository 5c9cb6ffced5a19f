use Rattle.std.proofs.Math.Path.{refl}
use Rattle.residue.specs.Rules.{modulus}
use Rattle.residue.proofs.Residue.modulus.Goals as goal

pub returns : goal.returns
unfolding modulus
returns c = refl
