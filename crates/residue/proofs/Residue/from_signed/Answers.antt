-- 2p is added in 64 bits, where every signed 32-bit number has room, and a multiple of p changes no least residue.
use Rattle.std.proofs.Common.{◌*◌, ◌∙◌, rules, w32, FitsSigned, lit≤}
use Rattle.std.proofs.Math.Path.{refl}
use Rattle.residue.specs.Rules.{modulus}
use Rattle.residue.proofs.Laws.Modulus.PartnerModuli.{modulus_positive}
use Rattle.residue.proofs.Laws.Signed.LiftedResidue.{lifted_residue}
use Rattle.residue.proofs.Residue.from_signed.Goals as goal

pub returns : goal.returns
unfolding modulus
returns c =
    let fits : FitsSigned w32 c.args.entry.0 = search rules in
    c.reduce.ensures
    ∙ rw (c.from.ensures, c.from-2.ensures)
    (lifted_residue c.args.entry.0 fits (2 * modulus) (lit≤ tt) (lit≤ tt) modulus 2 modulus_positive refl)
