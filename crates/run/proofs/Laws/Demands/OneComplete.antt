-- What rests on Demands.
--
--   drawn_complete_few  with a false ticket, of the lists drawn from a set of allowed numbers, at most as many are such as may be accepted
--   complete_few        with a false ticket at most (p^(n - 1) - 1)^s different lists are such, of any one count s
--   one_complete        of two lists that differ only in a column in which the ticket is false, not both are
use Rattle.std.specs.Prelude.{ℕ, ◌-◌, ◌^◌, ◌≤◌, ◌<◌, List, [], length, get_or}
use Rattle.residue.specs.Rules.{modulus}
use Rattle.residue.proofs.Laws.Counting.{Different}
use Rattle.ticket.specs.declared.published.PlainSetting.{PlainSetting}
use Rattle.ticket.specs.Rules.{Passes, FalseIn, plain}
use Rattle.challenge.specs.Rules.{DifferIn}
use Rattle.soundness.proofs.Laws.DrawnLists.{Allowed, DrawnFrom, list_count, drawn_accepted_few}
use Rattle.soundness.proofs.Laws.Demands.AcceptedExactlyWellFormed.{one_accepted, accepted_few}
use Rattle.run.proofs.Laws.Demands.{Completes, completes_accepted}

pub drawn_complete_few : (set : List ℕ) → Allowed set → (P : PlainSetting) (t : List ℕ) → Passes (plain P) t → (j : ℕ) → FalseIn (plain P) t j
    → (ys : List (List ℕ)) → Different [] ys → ((k : ℕ) → k < length ys → DrawnFrom set (get_or ys k []) × Completes P t (get_or ys k []))
    → length ys ≤ list_count set (P.columns - 1) P.vectors
drawn_complete_few set allowed P t passes j column ys different all =
    drawn_accepted_few set allowed (plain P) t passes j column ys different (λ k l. ((all k l).0, completes_accepted (all k l).1))

pub complete_few : (P : PlainSetting) (t : List ℕ) → Passes (plain P) t → (j : ℕ) → FalseIn (plain P) t j → (ys : List (List ℕ)) → Different [] ys
    → ((k : ℕ) → k < length ys → Completes P t (get_or ys k [])) → length ys ≤ (modulus ^ (P.columns - 1) - 1) ^ P.vectors
complete_few P t passes j column ys different all =
    accepted_few (plain P) t passes j column ys different (λ k l. completes_accepted (all k l))

pub one_complete : (P : PlainSetting) (t : List ℕ) → Passes (plain P) t → (j : ℕ) → FalseIn (plain P) t j → (x y : List ℕ) → DifferIn (plain P) j x y
    → Completes P t x → Completes P t y → ⊥
one_complete P t passes j column x y differ rx ry =
    one_accepted (plain P) t passes j column x y differ (completes_accepted rx) (completes_accepted ry)
