use Rattle.std.proofs.Common.{◌∙◌, arith}
use Rattle.residue.specs.Rules.{modulus, least_residue}
use Rattle.residue.proofs.Laws.Modulus.{modulus_is}
use Rattle.residue.proofs.Laws.Products.{folded}
use Rattle.residue.proofs.products.ProductSum.residue.Goals as goal

pub returns : goal.returns
unfolding least_residue
returns c = c.reduce.ensures ∙ folded modulus _ _ (omega (arith, modulus_is))
