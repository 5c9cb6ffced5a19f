use Rattle.residue.specs.Rules.{modulus, least_residue}
use Rattle.residue.proofs.Residue.reduce.Goals as goal

pub returns : goal.returns
unfolding modulus least_residue
returns c = rw c.from.ensures
