-- What rests on Writer.
--
--   writing_in_table     every answer is a row of the table
--   writable_of, output_long   where the answer's number is 0, the operands are writable and the output is long enough
use Rattle.std.specs.Prelude.{ℕ, ◌≤◌, ◌≡◌, refl, List, ℤ}
use Rattle.ticket.specs.declared.setting.Setting.{Setting}
use Rattle.ticket.specs.Rules.{ticket_length}
use Rattle.writer.specs.Rules.{writing}
use Rattle.writer.specs.Laws.Answers.{Writable}
use Rattle.exactness.proofs.Laws.Writer.{WriterRow, row_of, writing_exactly, written_of}

module _ (G : Setting) (A B C : List ℤ) where
  module _ (size : ℕ) where
    pub writing_in_table : WriterRow G (writing G A B C size)
    writing_in_table = (row_of G A B C size) (((writing_exactly G A B C size) (writing G A B C size)).0 refl)

    pub writable_of : (writing G A B C size).number ≡ 0 → Writable G A B C
    writable_of e = ((written_of G A B C size) (((writing_exactly G A B C size) (writing G A B C size)).0 refl) e).0

    pub output_long : (writing G A B C size).number ≡ 0 → ticket_length G ≤ size
    output_long e = ((written_of G A B C size) (((writing_exactly G A B C size) (writing G A B C size)).0 refl) e).1
