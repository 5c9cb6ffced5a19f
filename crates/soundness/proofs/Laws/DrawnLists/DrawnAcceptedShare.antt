-- What rests on DrawnLists.
--
--   drawn_accepted_share      these, times b^s, are at most as many as there are (N2)
use Rattle.std.specs.Prelude.{ℕ, ◌*◌, ◌^◌, ◌≤◌, ◌<◌, List, [], length, get_or}
use Rattle.std.proofs.Common.{mul-le-mul_right, arith}
use Rattle.residue.proofs.Laws.Counting.{Different}
use Rattle.algebra.proofs.Laws.Sets.{contains}
use Rattle.algebra.proofs.Laws.Drawn.{drawn_share}
use Rattle.ticket.specs.declared.setting.Setting.{Setting}
use Rattle.ticket.specs.Rules.{Passes, FalseIn}
use Rattle.challenge.specs.Rules.{Accepted}
use Rattle.soundness.proofs.Laws.DrawnLists.{Allowed, DrawnFrom, drawn_accepted_few, list_count}

module _ (set : List ℕ) (allowed : Allowed set) (G : Setting) (t : List ℕ) (passes : Passes G t) (j : ℕ) (column : FalseIn G t j)
    (xs : List (List ℕ)) (different : Different [] xs)
    (all : (k : ℕ) → k < length xs → DrawnFrom set (get_or xs k []) × Accepted G t (get_or xs k [])) where
  pub drawn_accepted_share : length xs * length set ^ G.vectors ≤ list_count set G.columns G.vectors
  drawn_accepted_share =
      let some : j < G.columns = column.0 in
      omega (
        arith,
        mul-le-mul_right (length set ^ G.vectors) (drawn_accepted_few set allowed G t passes j column xs different all),
        drawn_share (length set) G.columns G.vectors (contains set 0) (omega arith),
      )
