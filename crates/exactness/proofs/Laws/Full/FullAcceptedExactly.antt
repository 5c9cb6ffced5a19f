-- What rests on Full, FullAcceptedClaims.
--
--   full_accepted_exactly   a ticket is accepted exactly when it passes and quotients and remainders are those of floor division
use Rattle.std.specs.Prelude.{ℕ, ◌<◌, ◌↔◌, List}
use Rattle.ticket.specs.declared.setting.Setting.{Setting}
use Rattle.ticket.specs.Rules.{Passes}
use Rattle.ticket.proofs.Laws.Passes.{passed_of}
use Rattle.ticket.proofs.Laws.Differences.TicketDecided.{small_remainder}
use Rattle.full.specs.Rules.{FullAccepted}
use Rattle.exactness.proofs.Laws.Full.{FloorClaim, claim_of_floor, floor_claim}
use Rattle.exactness.proofs.Laws.Full.FullAcceptedClaims.{full_accepted_claims}

module _ (G : Setting) (t : List ℕ) where
  pub full_accepted_exactly : FullAccepted G t ↔ (Passes G t × ((i j : ℕ) → i < G.rows → j < G.columns → FloorClaim G t i j))
  full_accepted_exactly = (
    λ e. let a = (full_accepted_claims G t).0 e in
        (a.ticket, λ i j l m. (floor_claim G t) i j (small_remainder (passed_of G t a.ticket) i j l m) (a.claims i j l m)),
    λ h. (full_accepted_claims G t).1 (record { ticket = h.0; claims = λ i j l m. (claim_of_floor G t) i j (h.1 i j l m) }),
  )
