-- The least residue is below 2^31, so the machine reads it as it is; above (p - 1)/2 the rule, too, takes p from it.
use Rattle.std.proofs.Common.{◌≡◌, ℕ, suc, ◌-◌, ◌%◌, pos, negsuc, ◌-ℤ◌, sym, ◌∙◌, mod-lt, arith, to_z-of_z, w32, FitsSigned, to_z}
use Rattle.std.proofs.Math.Path.{ap}
use mathlib.Core.Path.{subst⁻¹}
use mir.Facts.{to_z_pos}
use Rattle.residue.specs.Rules.{modulus, least_residue}
use Rattle.residue.proofs.Laws.Residues.{less_modulus, entry_low, entry_high}
use Rattle.residue.proofs.Laws.Modulus.PartnerModuli.{modulus_positive}
use Rattle.residue.proofs.Residue.to_signed.Goals as goal

-- the least residue as the machine's signed number, and that number less p
signed : (x : ℕ) → to_z w32 (x % modulus) ≡ pos (x % modulus)
unfolding modulus
signed x = to_z_pos w32 {n = x % modulus} (omega arith)

lowered : (x : ℕ) → to_z w32 (x % modulus) -ℤ pos modulus ≡ negsuc (modulus - suc (x % modulus))
lowered x = ap (λ y. y -ℤ pos modulus) (signed x) ∙ less_modulus modulus modulus_positive (x % modulus) (mod-lt x modulus_positive)

pub overflow_sub-negative : goal.overflow_sub-negative
unfolding modulus
overflow_sub-negative c = subst⁻¹ (FitsSigned w32) (lowered c.args.self.0) (record { sfits = omega arith })

pub returns-then-least-le-LARGEST_ENTRY : goal.returns-then-least-le-LARGEST_ENTRY
unfolding modulus least_residue
returns-then-least-le-LARGEST_ENTRY c =
    let x = c.args.self.0 in
    signed x ∙ sym (entry_low modulus modulus_positive (x % modulus) c.if-least-le-LARGEST_ENTRY.true)

pub returns-else-least-le-LARGEST_ENTRY : goal.returns-else-least-le-LARGEST_ENTRY
unfolding modulus least_residue
returns-else-least-le-LARGEST_ENTRY c =
    let x = c.args.self.0 in
    to_z-of_z (overflow_sub-negative c) ∙ lowered x
    ∙ sym (entry_high modulus modulus_positive (x % modulus) c.if-least-le-LARGEST_ENTRY.false (mod-lt x modulus_positive))
