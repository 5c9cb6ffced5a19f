-- What rests on Written.
use Rattle.std.specs.Prelude.{ℕ, ◌<◌, ◌≡◌, List, ℤ}
use Rattle.ticket.specs.declared.setting.Setting.{Setting}
use Rattle.ticket.specs.Rules.{due}
use Rattle.writer.specs.Rules.{sum_for, ticket_of}
use Rattle.writer.specs.Laws.Answers.{Writable}
use Rattle.exactness.proofs.Laws.Written.{same_sums, written_a, written_b, written_bias}

module _ {G : Setting} {A B C : List ℤ} (w : Writable G A B C) where
  module _ (i j : ℕ) (l : i < G.rows) (m : j < G.columns) where
    pub written_sum : due G (ticket_of G A B C) i j ≡ sum_for G A B C i j
    written_sum =
        same_sums G _ _ _ _ _ _ i j (λ k h. (written_a w) i k l h) (λ k h. (written_b w) k j h m) (written_bias w i j l m)
