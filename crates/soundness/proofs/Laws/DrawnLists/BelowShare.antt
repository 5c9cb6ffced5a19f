-- What rests on DrawnAcceptedShare, DrawnLists.
--
--   below_few, below_share, below_exactly   the counts of these
use Rattle.std.specs.Prelude.{ℕ, ◌-◌, ◌*◌, ◌^◌, ◌≤◌, ◌<◌, ◌≡◌, refl, List, [], length, get_or}
use Rattle.std.proofs.Common.{sym, ap, ◌∙◌}
use Rattle.std.proofs.lemmas.Bool.{false≢true}
use Rattle.residue.specs.Rules.{modulus}
use Rattle.residue.proofs.Laws.Counting.{Exactly, Different}
use Rattle.residue.proofs.Laws.Counting.ExactlyButOne.{exactly_through}
use Rattle.algebra.proofs.Laws.Sets.{range, range_length}
use Rattle.algebra.proofs.Laws.Sets.RangeContains.{range_contains}
use Rattle.ticket.specs.declared.setting.Setting.{Setting}
use Rattle.ticket.specs.Rules.{Passes, FalseIn}
use Rattle.challenge.specs.Rules.{WellFormed, Accepted}
use Rattle.soundness.proofs.Laws.DrawnLists.{Below, count_with_zero, drawn_accepted_few, drawn_exactly_with, list_count, range_allowed, range_drawn}
use Rattle.soundness.proofs.Laws.DrawnLists.DrawnAcceptedShare.{drawn_accepted_share}

module _ (c : ℕ) (some : 0 < c) (small : c ≤ modulus) where
  range_count : (n s : ℕ) → list_count (range c) n s ≡ (c ^ n - 1) ^ s
  range_count n s = count_with_zero (range c) n s ((range_contains c 0).1 some) ∙ ap (λ b. (b ^ n - 1) ^ s) (range_length c)

  pub below_exactly : (G : Setting) → Exactly (λ x. Below c x × WellFormed G x) ((c ^ G.columns - 1) ^ G.vectors)
  below_exactly G =
      rw (← range_count G.columns G.vectors)
      (exactly_through
      (drawn_exactly_with (range c) (range_allowed c small) G (λ e. absurd (false≢true (sym e ∙ (range_contains c 0).1 some))))
      (λ x. x) (λ x. x)
      (λ x w. ((range_drawn c x).1 w.0, w.1))
      (λ x y v w e. e)
      (λ x w. (((range_drawn c x).0 w.0, w.1), refl)))

  module _ (G : Setting) (t : List ℕ) (passes : Passes G t) (j : ℕ) (column : FalseIn G t j) (xs : List (List ℕ)) (different : Different [] xs)
      (all : (k : ℕ) → k < length xs → Below c (get_or xs k []) × Accepted G t (get_or xs k [])) where
    pub below_few : length xs ≤ (c ^ (G.columns - 1) - 1) ^ G.vectors
    below_few =
        rw (range_count (G.columns - 1) G.vectors) at
        (drawn_accepted_few (range c) (range_allowed c small) G t passes j column xs different
        (λ k l. ((range_drawn c (get_or xs k [])).1 (all k l).0, (all k l).1)))

    pub below_share : length xs * c ^ G.vectors ≤ (c ^ G.columns - 1) ^ G.vectors
    below_share =
        rw (range_count G.columns G.vectors, range_length c) at
        (drawn_accepted_share (range c) (range_allowed c small) G t passes j column xs different
        (λ k l. ((range_drawn c (get_or xs k [])).1 (all k l).0, (all k l).1)))
