-- What rests on FullAcceptedClaims.
--
--   full_accepted_number    an answer with number 0 is that of an accepted ticket
--   full_accepted_true      a ticket is accepted exactly when it is a true one
use Rattle.std.specs.Prelude.{ℕ, ◌≡◌, ◌↔◌, List}
use Rattle.ticket.specs.declared.setting.Setting.{Setting}
use Rattle.ticket.specs.Rules.{Passes, FalseIn}
use Rattle.ticket.proofs.Laws.Differences.ClaimsTrue.{claims_true}
use Rattle.full.specs.Rules.{full_accepted, full_check, FullAccepted}
use Rattle.exactness.proofs.Laws.Full.{all_true}
use Rattle.exactness.proofs.Laws.Full.FullAcceptedClaims.{full_accepted_claims, full_answer_of}

module _ (G : Setting) (t : List ℕ) where
  pub full_accepted_number : FullAccepted G t → full_check G t ≡ full_accepted G
  full_accepted_number e = (full_answer_of G t) (all_true ((full_accepted_claims G t).0 e))

  pub full_accepted_true : FullAccepted G t ↔ (Passes G t × ((j : ℕ) → FalseIn G t j → ⊥))
  full_accepted_true = (
    λ e. let a = (full_accepted_claims G t).0 e in (a.ticket, λ j f. f.1.2 (a.claims f.1.0 j f.1.1 f.0)),
    λ h. (full_accepted_claims G t).1 (record { ticket = h.0; claims = claims_true G t h.1 }),
  )
