-- The lists of a 16-bit generator: all of their numbers are below 2^16 (N1, N2, for b = 65,536).
--
--   sixteen_bit_few       at most (65,536^(n - 1) - 1)^s different ones are accepted with a false ticket
--   sixteen_bit_at_most, sixteen_bit_reached   so many different ones are well formed at most, and some are so many
use Rattle.std.specs.Prelude.{ℕ, ◌-◌, ◌*◌, ◌^◌, ◌≤◌, ◌<◌, ◌≡◌, List, [], length, get_or}
use Rattle.std.proofs.Common.{mul-le-mul_left, arith}
use Rattle.residue.specs.Rules.{modulus}
use Rattle.residue.proofs.Laws.Modulus.{modulus_above, modulus_below}
use Rattle.residue.proofs.Laws.Counting.{Different}
use Rattle.residue.proofs.Laws.Counting.ExactlyButOne.{at_most_members, exactly_members}
use Rattle.ticket.specs.declared.setting.Setting.{Setting}
use Rattle.ticket.specs.Rules.{Passes, FalseIn}
use Rattle.challenge.specs.Rules.{WellFormed, Accepted}
use Rattle.soundness.proofs.Laws.DrawnLists.{Below}
use Rattle.soundness.proofs.Laws.DrawnLists.BelowShare.{below_few, below_share, below_exactly}
pub mod SixteenBitShare
pub mod TwoShortVectors

below_p : 65_536 ≤ modulus
below_p = omega (arith, modulus_above)

module _ (G : Setting) (t : List ℕ) (passes : Passes G t) (j : ℕ) (column : FalseIn G t j) (xs : List (List ℕ)) (different : Different [] xs)
    (all : (k : ℕ) → k < length xs → Below 65_536 (get_or xs k []) × Accepted G t (get_or xs k [])) where
  pub sixteen_bit_few : length xs ≤ (65_536 ^ (G.columns - 1) - 1) ^ G.vectors
  sixteen_bit_few = below_few 65_536 (omega arith) below_p G t passes j column xs different all

pub sixteen_bit_at_most : (G : Setting) (xs : List (List ℕ)) → Different [] xs
    → ((k : ℕ) → k < length xs → Below 65_536 (get_or xs k []) × WellFormed G (get_or xs k []))
    → length xs ≤ (65_536 ^ G.columns - 1) ^ G.vectors
sixteen_bit_at_most G xs different all = at_most_members (below_exactly 65_536 (omega arith) below_p G).most [] xs all different

pub sixteen_bit_reached : (G : Setting) → (xs : List (List ℕ)) × (length xs ≡ (65_536 ^ G.columns - 1) ^ G.vectors) × Different [] xs
    × ((k : ℕ) → k < length xs → Below 65_536 (get_or xs k []) × WellFormed G (get_or xs k []))
sixteen_bit_reached G = exactly_members (below_exactly 65_536 (omega arith) below_p G) []
