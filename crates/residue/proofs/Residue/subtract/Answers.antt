-- The second operand is reduced, so that it is below the p that was added; p changes no least residue.
use Rattle.std.proofs.Common.{◌∙◌}
use Rattle.residue.specs.Rules.{modulus}
use Rattle.residue.proofs.Laws.Modulus.PartnerModuli.{modulus_positive}
use Rattle.residue.proofs.Laws.Residues.{residue_lifted}
use Rattle.residue.proofs.Residue.subtract.Goals as goal

pub returns : goal.returns
unfolding modulus
returns c = c.reduce.ensures ∙ rw (c.from.ensures, c.from-2.ensures, c.from-3.ensures) (residue_lifted modulus modulus_positive _ _)
