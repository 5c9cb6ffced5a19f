-- The records of rows and of whole operands, as the code writes them.
--
--   few_ready                so it is where an operand is short
--   words_named           the words of a record of a part, by its row and column
--   line_record_lem           one more record of a row is written
--   operand_none, operand_record, row_records   no record of the operand is written yet, one more, and one more row
use Rattle.std.specs.Prelude.{◌≡◌, ℕ, ◌+◌, ◌-◌, ◌*◌, ◌<◌, ◌≤◌, List, length, get_or, take, drop, ℤ, pos, slice_index_or}
use Rattle.std.proofs.Common.{arith, sym, ap, ◌∙◌}
use Rattle.residue.specs.Rules.{modulus, least_residue}
use Rattle.residue.proofs.Laws.Modulo.{factor_positive}
use Rattle.algebra.specs.Rules.{word}
use Rattle.algebra.proofs.Laws.Fills.{part_of}
use Rattle.algebra.proofs.Laws.Positions.{Position, position_of, position_within}
use Rattle.ticket.specs.declared.setting.Setting.{Setting}
use Rattle.ticket.specs.Rules.{most_inner, start}
use Rattle.ticket.specs.Laws.Layout.{PartIs}
use Rattle.writer.specs.Rules.{integer_in, ticket_record}
use Rattle.writer.specs.Laws.Records.{words_of}
use Rattle.writer.proofs.Laws.Records.{words_record, record_named}
use Rattle.writer.specs.Laws.Writes.{Among, Wrote}
use Rattle.writer.proofs.Laws.Writes.{wrote_none, wrote_as, wrote_on}
use Rattle.writer.specs.Laws.Lines.{line_record, OperandReady, FewReady, OperandTo}

pub few_ready : {start height width : ℕ} {operand : List ℤ} {output : List ℕ} → OperandReady start height width operand output
    → length operand ≤ most_inner → FewReady start width operand output
few_ready {height = height} {width} ready few =
    record {
      entries_small = ready.entries_small;
      wide = ready.wide;
      some = λ l. factor_positive height width 0 (omega (arith, ready.count));
      few = few;
      room = omega (arith, ready.room, ready.count);
    }

pub words_named : (G : Setting) (A B C : List ℤ) {w kind height width : ℕ} → PartIs G w kind height width
    → {row column first header value : ℕ} → row < height → column < width → first ≡ start G w + row * width
    → kind < 256 → row < 256 → column < 256 → header ≡ word kind 0 row column → value ≡ least_residue modulus (integer_in G A B C w row column)
    → (k : ℕ) → Among (first + column) 1 k → words_of header value ≡ ticket_record G A B C k
words_named G A B C {kind = kind} is {row} {column} {value = value} l m first_is small-kind small_row_lem small-column header_is value_is k a =
    words_record kind row column value small-kind small_row_lem small-column header_is
    ∙ record_named G A B C is l m value_is (omega (arith, a.from, a.below))

pub line_record_lem : (kind row first : ℕ) (entries : List ℤ) {column header value : ℕ} {before output after : List ℕ}
    → Wrote (line_record kind row first entries) (Among first column) before output
    → Wrote (λ k. words_of header value) (Among (first + column) 1) output after
    → kind < 256 → row < 256 → column < 256 → header ≡ word kind 0 row column → value ≡ least_residue modulus (slice_index_or entries column (pos 0))
    → Wrote (line_record kind row first entries) (Among first (column + 1)) before after
line_record_lem kind row first entries {column} {header} {value} so_far one k i j header_is value_is =
    wrote_on so_far (wrote_as one (λ n a.
    let place : n - first ≡ column = omega (arith, a.from, a.below) in
    words_record kind row column value k i j header_is ∙ rw (place, value_is)))

module _ {kind width start : ℕ} {operand : List ℤ} {before : List ℕ} where
  pub operand_none : OperandTo kind width start operand 0 before before
  operand_none G A B C w height of = wrote_none (λ k a. omega (arith, a.from, a.below))

  module _ {output after : List ℕ} where
    pub operand_record : {k row column header value : ℕ} → Position width k row column → k < length operand → kind < 256 → row < 256 → column < 256
        → header ≡ word kind 0 row column → value ≡ least_residue modulus (slice_index_or operand k (pos 0))
        → OperandTo kind width start operand k before output
        → Wrote (λ n. words_of header value) (Among (start + k) 1) output after → OperandTo kind width start operand (k + 1) before after
    operand_record {k} {row} {column} at l small-kind small_row_lem small-column header_is value_is so_far one G A B C w height of =
        let place : start + row * width + column ≡ start + k = omega (arith, at.place) in
        wrote_on (so_far G A B C w height of)
        (wrote_as one (rw place at (words_named G A B C of.named (position_within at (omega (arith, of.count))) at.inside
        (ap (λ n. n + row * width) of.first_is) small-kind small_row_lem small-column header_is
        (value_is ∙ ap (least_residue modulus) (ap (λ i. get_or operand i (pos 0)) (sym at.place) ∙ sym (of.integers row column))))))

    pub row_records : (row : ℕ) {first : ℕ} → first + width ≤ length operand → first ≡ row * width → OperandTo kind width start operand first before output
        → Wrote (line_record kind row (start + first) (take (first + width - first) (drop first operand))) (Among (start + first) width) output after
        → OperandTo kind width start operand (first + width) before after
    row_records row {first} room first_is so_far line G A B C w height of =
        wrote_on (so_far G A B C w height of) (wrote_as line (λ n a.
        let j = n - (start + first) in
        let inside : j < width = omega (arith, a.from, a.below) in
        let l : row < height = position_within (position_of row inside) (omega (arith, of.count)) in
        let entry = part_of operand first width j (pos 0) inside ∙ ap (λ i. get_or operand (i + j) (pos 0)) first_is in
        record_named G A B C of.named l inside (ap (least_residue modulus) (entry ∙ sym (of.integers row j)))
        (omega (arith, a.from, of.first_is))))
