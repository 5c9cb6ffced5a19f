-- What rests on WrittenTrue.
--
--   only_ticket              a ticket of the same A, B and bias that the full check accepts is equal to it, byte for byte (W4)
use Rattle.std.specs.Prelude.{ℕ, ◌<◌, ◌≡◌, List, ℤ, get_or}
use Rattle.ticket.specs.declared.setting.Setting.{Setting}
use Rattle.ticket.specs.Rules.{bias_columns, entry_a, entry_b, entry_bias}
use Rattle.ticket.proofs.Laws.Passes.{passed_of}
use Rattle.full.specs.Rules.{FullAccepted}
use Rattle.writer.specs.Rules.{entry_of, ticket_of}
use Rattle.exactness.proofs.Laws.Full.FullAcceptedTrue.{full_accepted_true}
use Rattle.exactness.proofs.Laws.Written.WrittenTrue.{same_ticket}

pub only_ticket : (G : Setting) (A B C : List ℤ) (t : List ℕ) → ((k : ℕ) → get_or t k 0 < 256) → FullAccepted G t
    → ((i k : ℕ) → i < G.rows → k < G.inner → entry_a G t i k ≡ entry_of G.inner A i k)
    → ((k j : ℕ) → k < G.inner → j < G.columns → entry_b G t k j ≡ entry_of G.columns B k j)
    → ((i j : ℕ) → i < G.rows → j < G.columns → entry_bias G t i j ≡ entry_of (bias_columns G) C i j)
    → t ≡ ticket_of G A B C
only_ticket G A B C t bytes accepted same_A same-B same-C =
    let h = (full_accepted_true G t).0 accepted in
    same_ticket G A B C t bytes (passed_of G t h.0) h.1 same_A same-B same-C
