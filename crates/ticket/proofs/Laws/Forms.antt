-- The form that the code gives the tests of a part, and that they are the rule's.
--
--   quotients_form G, remainders_form G   the forms of the quotients and of the remainders
--   record_slice b i      the bytes of record i of b, as a slice
--   slice_long, first_word, last_word   how many they are, and the words of its first four bytes and of its last
--   header_formed        the form of a record by its first four bytes as one word
--   tested_unformed, tested_formed   the number, by the tests as the code makes them: of a record without its form, and with it
--   scanned_refused      the records before i pass, and i is refused: the answer of the part
--   scanned_next         the records before i pass, and i does too
--   FormedBytes b i κ r c, formed_exactly   the form of a record, byte by byte
--   value_is             the value of a record, by its bytes
use Rattle.std.specs.Prelude.{◌≡◌, ℕ, ◌+◌, ◌-◌, ◌*◌, ◌<◌, ◌≤◌, Bool, true, false, ◌↔◌, List, length, take, drop, ◌==◌, ◌≢◌, nat_lt, slice_index, refl}
use Rattle.std.proofs.Math.Decide.{ℕ_discrete}
use Rattle.std.proofs.Common.{arith, sym, ◌∙◌, lit<}
use borrow.Author.Tests.{eq-eqb, eqb-true, ltb-true}
use Rattle.residue.specs.Rules.{modulus}
use Rattle.algebra.specs.Rules.{word}
use Rattle.algebra.proofs.Laws.Bytes.WordEqb.{word_eqb}
use Rattle.algebra.proofs.Laws.Fills.{part_of, part_long}
use Rattle.algebra.proofs.Laws.Positions.{Position, row_of, column_of}
use Rattle.ticket.specs.declared.refusals.Reason.TheVariants.{Quotient, Remainder}
use Rattle.ticket.specs.Rules.{unless, reason_number, first_failed, record_bytes, byte_at, formed, value_at, half_range, refusal, first_refusal}
use Rattle.ticket.proofs.Laws.Limits.{both}
use Rattle.ticket.proofs.Laws.Scans.{refusal_is}
use Rattle.ticket.specs.declared.setting.Setting.{Setting}
use Rattle.ticket.specs.declared.records.Form.{Form}
use Rattle.ticket.specs.Laws.Forms.{range_test, tested_at, tested}

abbrev pub quotients_form : Setting → Form
quotients_form G =
    record { kind = 3; rows = G.rows; columns = G.columns; shift = half_range G; limit = 2 * half_range G; outside = Quotient }

abbrev pub remainders_form : Setting → Form
remainders_form G = record { kind = 4; rows = G.rows; columns = G.columns; shift = 0; limit = G.scale; outside = Remainder }

abbrev pub record_slice : List ℕ → ℕ → List ℕ
record_slice b i = take (record_bytes * i + record_bytes - record_bytes * i) (drop (record_bytes * i) b)

pub slice_long : (b : List ℕ) (i : ℕ) → record_bytes * i + record_bytes ≤ length b → length (record_slice b i) ≡ record_bytes
slice_long b i l = part_long b (record_bytes * i) record_bytes l

module _ (b : List ℕ) (i : ℕ) where
  byte_of : (k : ℕ) → k < record_bytes → slice_index (record_slice b i) k ≡ byte_at b i k
  byte_of k l = part_of b (record_bytes * i) record_bytes k 0 l

  pub first_word : let r = record_slice b i in
      word (slice_index r 0) (slice_index r 1) (slice_index r 2) (slice_index r 3) ≡ word (byte_at b i 0) (byte_at b i 1) (byte_at b i 2) (byte_at b i 3)
  first_word = rw (byte_of 0 (lit< tt), byte_of 1 (lit< tt), byte_of 2 (lit< tt), byte_of 3 (lit< tt))

  pub last_word : value_at (record_slice b i) 0 ≡ value_at b i
  unfolding value_at
  last_word = rw (byte_of 4 (lit< tt), byte_of 5 (lit< tt), byte_of 6 (lit< tt), byte_of 7 (lit< tt))

pub header_formed : (bytes : List ℕ) (i : ℕ) {kind row column header expected : ℕ}
    → header ≡ word (byte_at bytes i 0) (byte_at bytes i 1) (byte_at bytes i 2) (byte_at bytes i 3)
    → expected ≡ word kind 0 row column
    → ((k : ℕ) → slice_index bytes k < 256) → kind < 256 → row < 256 → column < 256
    → (header == expected) ≡ formed bytes i kind row column
unfolding formed
header_formed bytes i h e small k r c = rw (h, e) (word_eqb (small _) (small _) (small _) (small _) k (omega arith) r c)

module _ (bytes : List ℕ) (F : Form) (i row column : ℕ) where
  pub tested_unformed : formed bytes i F.kind row column ≡ false → 5 ≡ tested_at bytes F i row column
  unfolding tested_at first_failed
  tested_unformed form = rw form

  module _ (form : formed bytes i F.kind row column ≡ true) {value : ℕ} (value_is : value ≡ value_at bytes i) where
    pub tested_large : nat_lt value modulus ≡ false → 6 ≡ tested_at bytes F i row column
    unfolding tested_at first_failed
    tested_large least = rw (form, ← value_is, least)

    module _ {ranged : Bool} (least : nat_lt value modulus ≡ true) (in_range : value < modulus → ranged ≡ range_test F value) where
      pub range_tested : unless ranged (reason_number F.outside) 0 ≡ tested_at bytes F i row column
      unfolding tested_at first_failed
      range_tested = rw (form, ← value_is, least, in_range (ltb-true _ _ least))

module _ (bytes : List ℕ) (F : Form) {i row column number : ℕ} (at : Position F.columns i row column)
    (number_is : number ≡ tested_at bytes F i row column) (before : (k : ℕ) → k < i → tested bytes F k ≡ 0) where
  number_at : number ≡ tested bytes F i
  number_at = number_is ∙ sym (rw (row_of at, column_of at))

  pub scanned_refused : (from count : ℕ) → i < count → (number ≢ 0) → refusal number (from + i) ≡ first_refusal from count (tested bytes F)
  scanned_refused from count l d = rw number_at (sym (refusal_is from count i (tested bytes F) l before (λ z. d (number_at ∙ z))))

  pub scanned_next : number ≡ 0 → (k : ℕ) → k < i + 1 → tested bytes F k ≡ 0
  scanned_next z k l = elim (ℕ_discrete k i) [ yes e ↦ rw (e, ← number_at) z | no d ↦ before k (omega arith) ]

pub record FormedBytes (bytes : List ℕ) (i kind row column : ℕ) : Type 0 where
  pub kind_byte : byte_at bytes i 0 ≡ kind
  pub zero_byte : byte_at bytes i 1 ≡ 0
  pub row_byte : byte_at bytes i 2 ≡ row
  pub column_byte : byte_at bytes i 3 ≡ column

pub formed_exactly : (bytes : List ℕ) (i kind row column : ℕ) → (formed bytes i kind row column ≡ true) ↔ FormedBytes bytes i kind row column
unfolding formed
formed_exactly bytes i kind row column = (
  λ e. let h = both _ _ e in
      let k = both _ _ h.0 in
      let l = both _ _ k.0 in
      record { kind_byte = eqb-true _ _ l.0; zero_byte = eqb-true _ _ l.1; row_byte = eqb-true _ _ k.1; column_byte = eqb-true _ _ h.1 },
  λ h. rw (eq-eqb _ _ h.kind_byte, eq-eqb _ _ h.zero_byte, eq-eqb _ _ h.row_byte, eq-eqb _ _ h.column_byte),
)

pub value_is : (bytes : List ℕ) (i : ℕ) → value_at bytes i ≡ word (byte_at bytes i 4) (byte_at bytes i 5) (byte_at bytes i 6) (byte_at bytes i 7)
unfolding value_at
value_is bytes i = refl
