-- What the records of the written ticket hold, and a record as the code writes it.
--
--   length_joined        n lists of w elements, one after the other, come to w * n
--   joined_at            element k of list i is element w * i + k of the lists joined
--   length_record_of      how many bytes a record has
--   RecordAt b i κ r c x   record i of b is record_of κ r c x
--   formed_record        the bytes of a record have the form of its kind, row and column
--   value_record         and its value, where that is below 2^32
--   record_read          bytes of that form are the record of their value
--   length_records       a ticket's length, by its records
--   length_ticket_of      how many bytes the ticket has
--   ticket_record_lem        record k of the ticket
--   record_located, ticket_record_at   the same, by its part, row and column
--   record_named         and by its part's kind and sizes
--   ticket_formed, ticket_value   its form and its value
--   value_in_ticket      the value in a row and a column of a part
--   integer_a, integer_b, integer_bias, integer_quotient, integer_remainder   the integers of each part
--   length_words         how many they are
--   words_record         the words of a record are its bytes
--   words_put            the bytes of two words, each put into its half
use Rattle.std.specs.Prelude.{◌≡◌, ℕ, zero, suc, ◌+◌, ◌-◌, ◌*◌, ◌/◌, ◌%◌, ◌^◌, ◌<◌, ◌≤◌, true, List, [], ◌++◌, length, take, drop, ℤ, slice_index}
use Rattle.std.proofs.Common.{mul-le-mul_left, arith, ap, ◌∙◌, length-append, drop_of_length-le, get_or-append-add}
use Rattle.std.proofs.Math.Decide.{ℕ_discrete}
use Rattle.std.proofs.Math.Path.{refl, sym}
use Rattle.std.proofs.Math.Arith.{digits_div, digits_mod}
use Rattle.std.proofs.Math.ListN.{get_or-append}
use borrow.Rule.Slice.PartMut.{put_mid}
use Rattle.std.specs.Int.{w32, to_le_bytes}
use Rattle.residue.specs.Rules.{modulus, least_residue}
use Rattle.residue.proofs.Laws.Modulus.PartnerModuli.{modulus_positive}
use Rattle.residue.proofs.Laws.Modulus.{modulus_below}
use Rattle.residue.proofs.Laws.Residues.{residue_below}
use Rattle.algebra.specs.Rules.{word}
use Rattle.algebra.proofs.Laws.Bytes.{bytes_of_word, word_of_bytes}
use Rattle.ticket.specs.declared.setting.Setting.{Setting}
use Rattle.ticket.specs.Rules.{record_bytes, byte_at, records, ticket_length, part, start, of_a, of_b, of_bias, bias_columns, of_quotients, of_remainders, formed, value_at, value_in}
use Rattle.ticket.proofs.Laws.Forms.{FormedBytes, formed_exactly, value_is}
use Rattle.ticket.specs.Laws.Layout.{PartIs}
use Rattle.ticket.proofs.Laws.Layout.{parts_are, Located, record_at, value_in_lem}
use Rattle.ticket.proofs.Laws.Layout.StartOfB.{length_is}
use Rattle.writer.specs.Rules.{joined, record_of, integers_of, integer_in, ticket_record, ticket_of, entry_of, quotient_of, remainder_of}
use Rattle.writer.specs.Laws.Writes.{RecordIs}
use Rattle.writer.specs.Laws.Records.{words_of}

-- lists one after the other

pub length_joined : (n w : ℕ) (f : ℕ → List ℕ) → ((i : ℕ) → length (f i) ≡ w) → length (joined n f) ≡ w * n
unfolding joined
length_joined zero w f h = omega arith
length_joined (suc n) w f h = omega (arith, length-append (joined n f) (f n), length_joined n w f h, h n)

pub joined_at : (n w : ℕ) (f : ℕ → List ℕ) → ((i : ℕ) → length (f i) ≡ w) → (i k : ℕ) → i < n → k < w
    → slice_index (joined n f) (w * i + k) ≡ slice_index (f i) k
unfolding joined
joined_at zero w f h i k l m = absurd (omega arith)
joined_at (suc n) w f h i k l m =
    let long : length (joined n f) ≡ w * n = length_joined n w f h in
    elim (ℕ_discrete i n) [
      | yes e ↦ rw (e, ← long) (get_or-append-add (joined n f) (f n) k 0)
      | no d ↦
          let next : i + 1 ≤ n = omega arith in
          get_or-append (joined n f) (f n) 0 (w * i + k) (omega (arith, mul-le-mul_left w next))
          ∙ joined_at n w f h i k (omega arith) m
    ]

-- a record, by its bytes

pub length_record_of : (kind row column value : ℕ) → length (record_of kind row column value) ≡ record_bytes
unfolding record_of
length_record_of kind row column value = refl

pub record RecordAt (bytes : List ℕ) (i kind row column value : ℕ) : Type 0 where
  pub is : RecordIs bytes i (record_of kind row column value)

module _ {bytes : List ℕ} {i kind row column value : ℕ} (r : RecordAt bytes i kind row column value) where
  byte : (k : ℕ) → k < record_bytes → byte_at bytes i k ≡ slice_index (record_of kind row column value) k
  byte = r.is.byte

  pub formed_record : formed bytes i kind row column ≡ true
  unfolding record_of
  formed_record =
      (formed_exactly bytes i kind row column).1 (record {
        kind_byte = byte 0 (omega arith);
        zero_byte = byte 1 (omega arith);
        row_byte = byte 2 (omega arith);
        column_byte = byte 3 (omega arith);
      })

  pub value_record : value < 2 ^ 32 → value_at bytes i ≡ value
  unfolding record_of
  value_record l =
      value_is bytes i ∙ rw (byte 4 (omega arith), byte 5 (omega arith), byte 6 (omega arith), byte 7 (omega arith)) (word_of_bytes value l)

pub record_read : (bytes : List ℕ) (i kind row column : ℕ) → ((k : ℕ) → slice_index bytes k < 256)
    → formed bytes i kind row column ≡ true → RecordAt bytes i kind row column (value_at bytes i)
unfolding record_of
record_read bytes i kind row column small e = record { is = record { byte = at } }
  where
    form : FormedBytes bytes i kind row column
    form = (formed_exactly bytes i kind row column).0 e

    value : let v = value_at bytes i in
        (byte_at bytes i 4 ≡ v % 256) × (byte_at bytes i 5 ≡ v / 256 % 256) × (byte_at bytes i 6 ≡ v / 65_536 % 256)
        × (byte_at bytes i 7 ≡ v / 16_777_216 % 256)
    value = rw (value_is bytes i) (bytes_of_word (small _) (small _) (small _) (small _))

    at : (k : ℕ) → k < record_bytes → byte_at bytes i k ≡ slice_index (record_of kind row column (value_at bytes i)) k
    at zero l = form.kind_byte
    at (suc zero) l = form.zero_byte
    at (suc (suc zero)) l = form.row_byte
    at (suc (suc (suc zero))) l = form.column_byte
    at (suc (suc (suc (suc zero)))) l = value.0
    at (suc (suc (suc (suc (suc zero))))) l = value.1
    at (suc (suc (suc (suc (suc (suc zero)))))) l = value.2
    at (suc (suc (suc (suc (suc (suc (suc zero))))))) l = value.3
    at (suc (suc (suc (suc (suc (suc (suc (suc n)))))))) l = absurd (omega arith)

-- the written ticket

pub length_records : (G : Setting) → ticket_length G ≡ record_bytes * records G
length_records G = omega (arith, length_is G, (parts_are G).all)

module _ (G : Setting) (A B C : List ℤ) where
  length_ticket_record : (k : ℕ) → length (ticket_record G A B C k) ≡ record_bytes
  unfolding ticket_record
  length_ticket_record k = length_record_of _ _ _ _

  pub length_ticket_of : length (ticket_of G A B C) ≡ ticket_length G
  unfolding ticket_of
  length_ticket_of = length_joined (records G) record_bytes (ticket_record G A B C) length_ticket_record ∙ sym (length_records G)

  pub ticket_record_lem : {k : ℕ} → k < records G → RecordIs (ticket_of G A B C) k (ticket_record G A B C k)
  unfolding ticket_of
  ticket_record_lem {k} l = record { byte = λ i m. joined_at (records G) record_bytes (ticket_record G A B C) length_ticket_record k i l m }

  module _ {k w row column : ℕ} (at : Located G k w row column) where
    pub record_located : ticket_record G A B C k ≡ record_of (part G w).kind row column (least_residue modulus (integer_in G A B C w row column))
    unfolding ticket_record
    record_located =
        let index : k - start G w ≡ row * (part G w).columns + column = omega (arith, at.place) in
        rw (at.in_part, index, digits_div row at.column_within, digits_mod row at.column_within)

    module _ (l : k < records G) where
      pub ticket_record_at : RecordAt (ticket_of G A B C) k (part G w).kind row column (least_residue modulus (integer_in G A B C w row column))
      ticket_record_at = record { is = rw record_located at (ticket_record_lem l) }

      pub ticket_formed : formed (ticket_of G A B C) k (part G w).kind row column ≡ true
      ticket_formed = formed_record ticket_record_at

      pub ticket_value : value_at (ticket_of G A B C) k ≡ least_residue modulus (integer_in G A B C w row column)
      ticket_value = value_record ticket_record_at (omega (arith, residue_below modulus modulus_positive (integer_in G A B C w row column), modulus_below))

  -- the record in a row and a column of a part that is known by its kind and sizes
  pub record_named : {w kind rows columns : ℕ} → PartIs G w kind rows columns → {row column value k : ℕ} → row < rows
      → column < columns → value ≡ least_residue modulus (integer_in G A B C w row column) → k ≡ start G w + (row * columns + column)
      → record_of kind row column value ≡ ticket_record G A B C k
  record_named {w} is {row} {column} l m value place =
      let at = (record_at G w row column (rw is.rows_are l) (rw is.columns_are m)).1 in
      sym (rw (is.columns_are, sym place, is.kind_is, sym value) at (record_located at))

  pub value_in_ticket : (w row column : ℕ) → row < (part G w).rows → column < (part G w).columns
      → value_in G (ticket_of G A B C) w row column ≡ least_residue modulus (integer_in G A B C w row column)
  value_in_ticket w row column l m =
      let at = record_at G w row column l m in
      value_in_lem G (ticket_of G A B C) w row column ∙ ticket_value at.1 at.0

  pub integer_a : (i j : ℕ) → integer_in G A B C of_a i j ≡ entry_of G.inner A i j
  unfolding integers_of integer_in
  integer_a i j = refl

  pub integer_b : (i j : ℕ) → integer_in G A B C of_b i j ≡ entry_of G.columns B i j
  unfolding integers_of integer_in
  integer_b i j = refl

  pub integer_bias : (i j : ℕ) → integer_in G A B C of_bias i j ≡ entry_of (bias_columns G) C i j
  unfolding integers_of integer_in
  integer_bias i j = refl

  pub integer_quotient : (i j : ℕ) → integer_in G A B C of_quotients i j ≡ quotient_of G A B C i j
  unfolding integers_of integer_in
  integer_quotient i j = refl

  pub integer_remainder : (i j : ℕ) → integer_in G A B C of_remainders i j ≡ remainder_of G A B C i j
  unfolding integers_of integer_in
  integer_remainder i j = refl

-- a record by its two words

pub words_record : (kind row column value : ℕ) {header : ℕ} → kind < 256 → row < 256 → column < 256 → header ≡ word kind 0 row column
    → words_of header value ≡ record_of kind row column value
unfolding words_of record_of
words_record kind row column value {header} k i j e =
    let bytes = bytes_of_word k (let none : 0 < 256 = omega arith in none) i j in
    ap (λ h. words_of h value) e ∙ rw (← bytes.0, ← bytes.1, ← bytes.2, ← bytes.3)

pub length_words : (header value : ℕ) → length (words_of header value) ≡ record_bytes
unfolding words_of
length_words header value = refl

-- the bytes of both words, one after the other, in place of all bytes
pub words_put : (bytes : List ℕ) → length bytes ≡ record_bytes → (header value : ℕ) → let first = to_le_bytes w32 header ++ drop 4 bytes in
    put_mid 4 (length first - 4) first (to_le_bytes w32 value) ≡ words_of header value
unfolding words_of
words_put bytes long header value =
    let first = to_le_bytes w32 header ++ drop 4 bytes in
    let none : drop (length first - 4) (drop 4 bytes) ≡ [] = drop_of_length-le (drop 4 bytes) (omega arith) in
    ap (λ rest. take 4 first ++ (to_le_bytes w32 value ++ rest)) none
