-- What rests on Written, WrittenSum.
--
--   written_true             it is false in no column
use Rattle.std.specs.Prelude.{ℕ, ◌+◌, ◌*◌, ◌/◌, ◌%◌, ◌<◌, ◌≡◌, List, ℤ, ◌-ℤ◌, ◌*ℤ◌, length, get_or}
use Rattle.std.proofs.Common.{mod-lt, arith, ◌∙◌, ext_get_or}
use Rattle.std.proofs.Math.Nat.{div-add-mod}
use Rattle.std.proofs.Math.Path.{sym, ap}
use Rattle.std.proofs.Math.IntN.{pos, +ℤ_comm, +ℤ-neg_ℤ_cancel}
use Rattle.residue.specs.Rules.{modulus, least_residue}
use Rattle.algebra.proofs.Laws.FloorDivision.FloorBetween.{floor_unique}
use Rattle.ticket.specs.declared.setting.Setting.{Setting}
use Rattle.ticket.specs.Rules.{parts, part, records, record_bytes, bias_columns, FalseIn, byte_at, value_at, value_in, entry_a, entry_b, entry_bias, quotient, remainder, dividend}
use Rattle.ticket.proofs.Laws.Differences.{claim_exactly}
use Rattle.ticket.proofs.Laws.Differences.TicketDecided.{residue_bias, small_remainder, residue_entry_a, residue_entry_b, residue_quotient, residue_remainder}
use Rattle.ticket.proofs.Laws.Layout.{located_at, value_in_lem, every_part}
use Rattle.ticket.proofs.Laws.Limits.ClampedSmall.{bias_there}
use Rattle.ticket.specs.Laws.Passes.{Passed}
use Rattle.ticket.proofs.Laws.Passes.{record_formed}
use Rattle.writer.specs.Rules.{entry_of, sum_for, quotient_of, remainder_of, integers_of, integer_in, ticket_of}
use Rattle.writer.specs.Laws.Answers.{Writable}
use Rattle.writer.proofs.Laws.Claims.{claim_sum}
use Rattle.writer.proofs.Laws.Records.{record_read, length_records, length_ticket_of, ticket_record_at}
use Rattle.exactness.proofs.Laws.Written.{same_sum, written_quotient, written_remainder}
use Rattle.exactness.proofs.Laws.Written.WrittenSum.{written_sum}

module _ {G : Setting} {A B C : List ℤ} (w : Writable G A B C) where
  pub written_true : (j : ℕ) → FalseIn G (ticket_of G A B C) j → ⊥
  written_true j f =
      let i = f.1.0 in
      let l : i < G.rows = f.1.1 in
      f.1.2
      ((claim_exactly G (ticket_of G A B C) i j _).1
      (rw ((written_quotient w) i j l f.0, (written_remainder w) i j l f.0, (written_sum w) i j l f.0) (claim_sum G A B C i j)))

module _ (G : Setting) (A B C : List ℤ) (t : List ℕ) (bytes : (k : ℕ) → get_or t k 0 < 256)
    (passed : Passed G t) (none : (j : ℕ) → FalseIn G t j → ⊥)
    (same_A : (i k : ℕ) → i < G.rows → k < G.inner → entry_a G t i k ≡ entry_of G.inner A i k)
    (same-B : (k j : ℕ) → k < G.inner → j < G.columns → entry_b G t k j ≡ entry_of G.columns B k j)
    (same-C : (i j : ℕ) → i < G.rows → j < G.columns → entry_bias G t i j ≡ entry_of (bias_columns G) C i j) where
  module _ (i j : ℕ) (l : i < G.rows) (m : j < G.columns) where
    same_quotient : quotient G t i j ≡ quotient_of G A B C i j
    unfolding quotient_of
    same_quotient =
        let h = small_remainder passed i j l m in
        floor_unique (dividend G (sum_for G A B C i j)) (quotient G t i j) G.scale h.0 h.1
        (rw h.2 at (same_sum G A B C t bytes passed none same_A same-B same-C i j l m))

    same_remainder : remainder G t i j ≡ remainder_of G A B C i j
    unfolding remainder_of
    same_remainder =
        let product = pos G.scale *ℤ quotient G t i j in
        rw (← same_quotient, ← (same_sum G A B C t bytes passed none same_A same-B same-C i j l m))
        (sym (ap (λ z. z -ℤ product) (+ℤ_comm product (remainder G t i j)) ∙ +ℤ-neg_ℤ_cancel (remainder G t i j) product))

  same_value : (n i j : ℕ) → n < length (parts G) → i < (part G n).rows → j < (part G n).columns
      → value_in G t n i j ≡ least_residue modulus (integer_in G A B C n i j)
  unfolding integers_of integer_in
  same_value =
      every_part G (λ n i j. value_in G t n i j ≡ least_residue modulus (integer_in G A B C n i j))
      (λ i j l m. sym (residue_entry_a passed i j l m) ∙ ap (least_residue modulus) (same_A i j l m))
      (λ i j l m. sym (residue_entry_b passed i j l m) ∙ ap (least_residue modulus) (same-B i j l m))
      (λ i j l m. sym (residue_bias passed i j l m) ∙ ap (least_residue modulus) (same-C i j l (bias_there G m).1))
      (λ i j l m. sym (residue_quotient passed i j l m) ∙ ap (least_residue modulus) (same_quotient i j l m))
      (λ i j l m. sym (residue_remainder passed i j l m) ∙ ap (least_residue modulus) (same_remainder i j l m))

  -- byte by byte, the two tickets have the same records
  same_byte : (k byte : ℕ) → k < records G → byte < record_bytes → byte_at t k byte ≡ byte_at (ticket_of G A B C) k byte
  same_byte k byte l m =
      let at = located_at G k l in
      let value =
      ap (value_at t) at.2.place ∙ sym (value_in_lem G t _ _ _) ∙ same_value _ _ _ at.1.within at.2.row_within at.2.column_within in
      (rw value at ((record_read t k _ _ _ bytes (record_formed passed l at.2)).is.byte byte m))
      ∙ sym ((ticket_record_at G A B C at.2 l).is.byte byte m)

  pub same_ticket : t ≡ ticket_of G A B C
  same_ticket =
      ext_get_or 0 t (ticket_of G A B C) (passed.long ∙ sym (length_ticket_of G A B C))
      (λ i l. let place : record_bytes * (i / record_bytes) + i % record_bytes ≡ i = div-add-mod i record_bytes in
      rw place at (same_byte (i / record_bytes) (i % record_bytes) (omega (arith, passed.long, length_records G)) (mod-lt i (omega arith))))
