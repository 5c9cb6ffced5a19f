-- What rests on AcceptedExactlyWellFormed.
--
--   accepted_all_or_few     with every ticket that passes, all well-formed lists are accepted or few (C7)
use Rattle.std.specs.Prelude.{ℕ, ◌-◌, ◌^◌, ◌≤◌, ◌<◌, ◌⊎◌, ◌↔◌, List, [], length, get_or}
use Rattle.std.proofs.Common.{inl, inr, ⊎_elim}
use Rattle.residue.specs.Rules.{modulus}
use Rattle.residue.proofs.Laws.Counting.{Different}
use Rattle.ticket.specs.declared.setting.Setting.{Setting}
use Rattle.ticket.specs.Rules.{Passes}
use Rattle.ticket.proofs.Laws.Differences.TicketDecided.{ticket_decided}
use Rattle.challenge.specs.Rules.{WellFormed, Accepted}
use Rattle.soundness.proofs.Laws.Demands.AcceptedExactlyWellFormed.{accepted_exactly_well_formed, accepted_few}

pub accepted_all_or_few : (G : Setting) (t : List ℕ) → Passes G t → ((y : List ℕ) → Accepted G t y ↔ WellFormed G y)
    ⊎ ((ys : List (List ℕ)) → Different [] ys → ((k : ℕ) → k < length ys → Accepted G t (get_or ys k []))
    → length ys ≤ (modulus ^ (G.columns - 1) - 1) ^ G.vectors)
accepted_all_or_few G t passes =
    ⊎_elim
    (λ none. inl (accepted_exactly_well_formed G t passes none))
    (λ column. inr (accepted_few G t passes column.0 column.1))
    (ticket_decided G t)
