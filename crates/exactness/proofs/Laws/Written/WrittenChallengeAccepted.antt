-- What rests on Written, WrittenTrue.
--
--   written_accepted         the full check accepts it (W3)
--   written_challenge_accepted   with it a list is accepted exactly when it is well formed (W3)
use Rattle.std.specs.Prelude.{ℕ, ◌≡◌, ◌↔◌, List, ℤ}
use Rattle.ticket.specs.declared.setting.Setting.{Setting}
use Rattle.challenge.specs.Rules.{Accepted, WellFormed}
use Rattle.soundness.proofs.Laws.Demands.AcceptedExactlyWellFormed.{accepted_exactly_well_formed}
use Rattle.full.specs.Rules.{full_check, full_accepted}
use Rattle.writer.specs.Rules.{writing, ticket_of}
use Rattle.exactness.proofs.Laws.Full.FullAcceptedTrue.{full_accepted_true, full_accepted_number}
use Rattle.exactness.proofs.Laws.Writer.OutputLong.{writable_of}
use Rattle.exactness.proofs.Laws.Written.{ticket_passes}
use Rattle.exactness.proofs.Laws.Written.WrittenTrue.{written_true}

pub written_accepted : (G : Setting) (A B C : List ℤ) (size : ℕ) → (writing G A B C size).number ≡ 0
    → full_check G (ticket_of G A B C) ≡ full_accepted G
written_accepted G A B C size e =
    let w = writable_of G A B C size e in
    full_accepted_number G (ticket_of G A B C) ((full_accepted_true G (ticket_of G A B C)).1 (ticket_passes w, written_true w))

pub written_challenge_accepted : (G : Setting) (A B C : List ℤ) (size : ℕ) → (writing G A B C size).number ≡ 0
    → (x : List ℕ) → Accepted G (ticket_of G A B C) x ↔ WellFormed G x
written_challenge_accepted G A B C size e =
    let w = writable_of G A B C size e in
    accepted_exactly_well_formed G (ticket_of G A B C) (ticket_passes w) (written_true w)
