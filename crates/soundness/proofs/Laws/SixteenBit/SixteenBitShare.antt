-- What rests on SixteenBit.
--
--   sixteen_bit_share     these, times 65,536^s, are at most (65,536^n - 1)^s
use Rattle.std.specs.Prelude.{ℕ, ◌-◌, ◌*◌, ◌^◌, ◌≤◌, ◌<◌, List, [], length, get_or}
use Rattle.std.proofs.Common.{arith}
use Rattle.residue.proofs.Laws.Counting.{Different}
use Rattle.ticket.specs.declared.setting.Setting.{Setting}
use Rattle.ticket.specs.Rules.{Passes, FalseIn}
use Rattle.challenge.specs.Rules.{Accepted}
use Rattle.soundness.proofs.Laws.DrawnLists.{Below}
use Rattle.soundness.proofs.Laws.DrawnLists.BelowShare.{below_share}
use Rattle.soundness.proofs.Laws.SixteenBit.{below_p}

module _ (G : Setting) (t : List ℕ) (passes : Passes G t) (j : ℕ) (column : FalseIn G t j) (xs : List (List ℕ)) (different : Different [] xs)
    (all : (k : ℕ) → k < length xs → Below 65_536 (get_or xs k []) × Accepted G t (get_or xs k [])) where
  pub sixteen_bit_share : length xs * 65_536 ^ G.vectors ≤ (65_536 ^ G.columns - 1) ^ G.vectors
  sixteen_bit_share = below_share 65_536 (omega arith) below_p G t passes j column xs different all
