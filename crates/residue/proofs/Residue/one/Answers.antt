use Rattle.std.proofs.Math.Path.{refl}
use Rattle.residue.specs.Rules.{modulus, least_residue}
use Rattle.residue.proofs.Residue.one.Goals as goal

pub returns : goal.returns
unfolding modulus least_residue
returns c = refl
