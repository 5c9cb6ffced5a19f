-- What rests on .
--
--   output_written     else it holds the ticket, and past it what it held
use Rattle.std.specs.Prelude.{◌≡◌, ℕ, List, ◌++◌, length, drop, ℤ}
use borrow.Author.Tests.{eq-eqb}
use Rattle.ticket.specs.declared.setting.Setting.{Setting}
use Rattle.ticket.specs.Rules.{ticket_length}
use Rattle.writer.specs.Rules.{writing, ticket_of, output_after}

module _ (G : Setting) (A B C : List ℤ) where
  module _ (o : List ℕ) where
    pub output_written : (writing G A B C (length o)).number ≡ 0 → output_after G A B C o ≡ ticket_of G A B C ++ drop (ticket_length G) o
    unfolding output_after
    output_written e = rw (eq-eqb (writing G A B C (length o)).number 0 e)
