use Rattle.std.proofs.Common.{◌≡◌, ◌^◌, ◌<◌, ℤ, pos, ◌+ℤ◌, arith, w32, to_z, of_z}
use Rattle.residue.specs.Rules.{modulus, least_residue}
use Rattle.residue.proofs.Laws.Modulus.{modulus_below}
use Rattle.residue.proofs.Laws.Modulus.PartnerModuli.{modulus_positive}
use Rattle.residue.proofs.Laws.Residues.{residue_below}
use Rattle.residue.proofs.Laws.Signed.{natural_is, natural_cast}
use Rattle.writer.proofs.Laws.Operands.{entry_fits, residue_negative, residue_fits, residue_positive}
use Rattle.writer.proofs.records.residue.Goals as goal

below : (z : ℤ) → least_residue modulus z < 2 ^ 32
below z = omega (arith, residue_below modulus modulus_positive z, modulus_below)

pub overflow_cast-least : goal.overflow_cast-least
overflow_cast-least c = omega (arith, c.modulus.ensures, modulus_below)

pub overflow_add-least : goal.overflow_add-least
overflow_add-least c = search residue_fits

pub overflow_cast-least-then-n-lt0 : goal.overflow_cast-least-then-n-lt0
overflow_cast-least-then-n-lt0 c =
    let negative : let z = c.args.entry.0 in to_z w32 (of_z w32 z) +ℤ to_z w32 c.modulus.result ≡ pos (least_residue modulus z) = search residue_negative in
    natural_cast (overflow_add-least c) (negative) (below _)

pub returns-then-n-lt0 : goal.returns-then-n-lt0
returns-then-n-lt0 c =
    let negative : let z = c.args.entry.0 in to_z w32 (of_z w32 z) +ℤ to_z w32 c.modulus.result ≡ pos (least_residue modulus z) = search residue_negative in
    natural_is (overflow_add-least c) (negative)

pub returns-else-n-lt0 : goal.returns-else-n-lt0
returns-else-n-lt0 c =
    let positive : let z = c.args.entry.0 in z ≡ pos (least_residue modulus z) = search residue_positive in
    natural_is (entry_fits _ (search)) (positive)
