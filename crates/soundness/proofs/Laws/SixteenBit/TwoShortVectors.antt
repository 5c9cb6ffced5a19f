-- What rests on SixteenBitShare.
--
--   two_short_vectors     with two vectors these, times p, are at most so many, as they are with one vector of all residues
use Rattle.std.specs.Prelude.{ℕ, ◌-◌, ◌*◌, ◌^◌, ◌≤◌, ◌<◌, ◌≡◌, List, [], length, get_or}
use Rattle.std.proofs.Common.{mul-le-mul_left, arith}
use Rattle.residue.specs.Rules.{modulus}
use Rattle.residue.proofs.Laws.Modulus.{modulus_below}
use Rattle.residue.proofs.Laws.Counting.{Different}
use Rattle.ticket.specs.declared.setting.Setting.{Setting}
use Rattle.ticket.specs.Rules.{Passes, FalseIn}
use Rattle.challenge.specs.Rules.{Accepted}
use Rattle.soundness.proofs.Laws.DrawnLists.{Below}
use Rattle.soundness.proofs.Laws.SixteenBit.SixteenBitShare.{sixteen_bit_share}

module _ (G : Setting) (t : List ℕ) (passes : Passes G t) (j : ℕ) (column : FalseIn G t j) (xs : List (List ℕ)) (different : Different [] xs)
    (all : (k : ℕ) → k < length xs → Below 65_536 (get_or xs k []) × Accepted G t (get_or xs k [])) where
  pub two_short_vectors : G.vectors ≡ 2 → length xs * modulus ≤ (65_536 ^ G.columns - 1) ^ G.vectors
  two_short_vectors two =
      let enough : modulus ≤ 65_536 ^ G.vectors = rw two (omega (arith, modulus_below)) in
      omega (arith, (sixteen_bit_share G t passes j column xs different all), mul-le-mul_left (length xs) enough)
