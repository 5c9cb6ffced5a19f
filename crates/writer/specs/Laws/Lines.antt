-- The records of rows and of whole operands, as the code writes them.
--
--   line_record κ i a x k     record k of the output, where the row x, row i of a part of kind κ, has its records from record a on
--   LineReady a x o          the output o has room for them
--   LineWrote κ i a x o o'   they are written
--   OperandReady a m n x o   the output has room for those of the operand x of m rows and n columns
--   FewReady a n x o         the same, of an operand of few entries in rows of n, however many rows these are
--   OperandOf G A B C w κ m n a x   x is what part w stands for, which has the kind κ and begins at record a
--   OperandTo κ n a x c o o'    its first c records are written, whatever ticket it is in
--   OperandWrote κ n a x o o'   all are
use Rattle.std.specs.Prelude.{◌≡◌, ℕ, ◌+◌, ◌-◌, ◌*◌, ◌<◌, ◌≤◌, List, length, ℤ, pos, slice_index_or}
use Rattle.residue.specs.Rules.{modulus, least_residue}
use Rattle.ticket.specs.declared.setting.Setting.{Setting}
use Rattle.ticket.specs.Rules.{most_inner, record_bytes, start}
use Rattle.ticket.specs.Laws.Layout.{PartIs}
use Rattle.writer.specs.Rules.{entry_of, integer_in, record_of, ticket_record}
use Rattle.writer.specs.Laws.Operands.{SmallEntries}
use Rattle.writer.specs.Laws.Writes.{Among, Wrote}

abbrev pub line_record : ℕ → ℕ → ℕ → List ℤ → ℕ → List ℕ
line_record kind row first entries k = record_of kind row (k - first) (least_residue modulus (slice_index_or entries (k - first) (pos 0)))

pub record LineReady (first : ℕ) (entries : List ℤ) (output : List ℕ) : Type 0 where
  pub entries_small : SmallEntries 30 entries
  pub wide : length entries ≤ most_inner
  pub room : record_bytes * (first + length entries) ≤ length output

abbrev pub LineWrote : ℕ → ℕ → ℕ → List ℤ → List ℕ → List ℕ → Type 0
LineWrote kind row first entries = Wrote (line_record kind row first entries) (Among first (length entries))

pub record OperandReady (start height width : ℕ) (operand : List ℤ) (output : List ℕ) : Type 0 where
  pub entries_small : SmallEntries 30 operand
  pub high : height ≤ most_inner
  pub wide : width ≤ most_inner
  pub count : length operand ≡ height * width
  pub room : record_bytes * (start + height * width) ≤ length output

pub record FewReady (start width : ℕ) (operand : List ℤ) (output : List ℕ) : Type 0 where
  pub entries_small : SmallEntries 30 operand
  pub wide : width ≤ most_inner
  pub some : 0 < length operand → 1 ≤ width
  pub few : length operand ≤ most_inner
  pub room : record_bytes * (start + length operand) ≤ length output

pub record OperandOf (G : Setting) (A B C : List ℤ) (w kind height width first : ℕ) (operand : List ℤ) : Type 0 where
  pub named : PartIs G w kind height width
  pub integers : (i j : ℕ) → integer_in G A B C w i j ≡ entry_of width operand i j
  pub first_is : first ≡ start G w
  pub count : length operand ≡ height * width

-- the first n records
abbrev pub OperandTo : ℕ → ℕ → ℕ → List ℤ → ℕ → List ℕ → List ℕ → Type 0
OperandTo kind width first operand n before after =
    (G : Setting) (A B C : List ℤ) (w height : ℕ) → OperandOf G A B C w kind height width first operand
    → Wrote (ticket_record G A B C) (Among first n) before after

pub record OperandWrote (kind width first : ℕ) (operand : List ℤ) (before after : List ℕ) : Type 0 where
  pub long : length after ≡ length before
  pub wrote : OperandTo kind width first operand (length operand) before after
