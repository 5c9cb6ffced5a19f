-- Every answer of the writer is a row of the published table, and is given exactly under its condition (W2); the output. The
-- conditions of the answers, and what the output holds after each, are in the laws of `writer`.
--
--   WriterRow G a        the answer a is a row of the table for the writer, within its bounds
--   writing_answered     for some a the condition holds
--   writing_exactly      the answer is a exactly when the condition of a holds
use Rattle.std.specs.Prelude.{ℕ, ◌+◌, ◌*◌, ◌≤◌, ◌<◌, ◌≡◌, refl, ◌↔◌, List, ◌++◌, ℤ, pos, nat_abs, length, get_or}
use Rattle.std.proofs.Math.Decide.{ℕ_discrete, dec_le}
use Rattle.std.proofs.Common.{arith, sym, ap, ◌∙◌, ⊎_elim, length-append, length-drop}
use Rattle.ticket.specs.declared.setting.Setting.{Setting}
use Rattle.ticket.specs.declared.Answer.{Answer}
use Rattle.ticket.specs.Rules.{answer, refusal, setting_tests, part, part_size, of_a, of_b, of_bias, bias_bound, bias_columns, ticket_length}
use Rattle.ticket.proofs.Laws.Layout.{parts_are}
use Rattle.ticket.proofs.Laws.Limits.{setting_numbered}
use Rattle.ticket.proofs.Laws.Limits.BiasSmall.{SettingRow}
use Rattle.ticket.proofs.Laws.Limits.SettingInTable.{setting_in_table}
use Rattle.ticket.proofs.Laws.Scans.{zeros_or_first}
use Rattle.ticket.specs.Laws.Tests.{AllHold}
use Rattle.ticket.proofs.Laws.Tests.{hold_or_failed, failed_numbered}
use Rattle.writer.specs.Rules.{beyond_number, written, writing, output_after}
use Rattle.writer.specs.Laws.Answers.{Writable}
use Rattle.writer.proofs.Laws.Answers.{Lengths, WriterAnswered, setting_failed, length_a_wrong, length_b_wrong, length_c_wrong, operand_beyond, bias_beyond, output_short, ticket_written, writable, writing_of, output_refused}
use Rattle.writer.proofs.Laws.Answers.OutputWritten.{output_written}
use Rattle.writer.proofs.Laws.Operands.{within_of, beyond_of}
use Rattle.writer.proofs.Laws.Records.{length_ticket_of}
pub mod OutputLong
pub mod LengthOutput

pub data WriterRow (G : Setting) : Answer → Type 0 where
  written_row : WriterRow G (answer 0 (ticket_length G) 0 (G.rows * G.inner * G.columns))
  by_setting_row : {c : ℕ} → SettingRow G c → WriterRow G (answer c 0 0 0)
  operand_length_row : (k : ℕ) → k ≤ 2 → WriterRow G (answer 13 k 0 0)
  operand_row : (k : ℕ) → k < G.rows * G.inner + G.inner * G.columns → WriterRow G (answer 14 k 0 0)
  bias_row : (k : ℕ) → k < G.rows * bias_columns G → WriterRow G (answer 18 (G.rows * G.inner + G.inner * G.columns + k) 0 0)
  output_length_row : WriterRow G (answer 15 0 0 0)

module _ (G : Setting) (A B C : List ℤ) where
  module _ (size : ℕ) where
    answered_output : Writable G A B C → (a : Answer) × WriterAnswered G A B C size a
    answered_output w =
        elim (dec_le (ticket_length G) size) [
          | yes l ↦ (written G, ticket_written w l)
          | no l ↦ (refusal 15 0, output_short w (omega arith))
        ]

    answered_entries : AllHold (setting_tests G) → Lengths G A B C → (a : Answer) × WriterAnswered G A B C size a
    answered_entries s long =
        ⊎_elim
        (λ z. let within : (k : ℕ) → k < length (A ++ B) → nat_abs (get_or (A ++ B) k (pos 0)) ≤ G.bound =
        λ k l. within_of G.bound 14 (A ++ B) (omega arith) k (z k l) in
        ⊎_elim
        (λ y. answered_output (writable G A B C s long within (λ k l. within_of (bias_bound G) 18 C (omega arith) k (y k l))))
        (λ o. (
          refusal 18 (length (A ++ B) + o.0),
          bias_beyond s long within o.1.within (λ i l. within_of (bias_bound G) 18 C (omega arith) i (o.1.before i l))
              (beyond_of (bias_bound G) 18 C o.0 o.1.other),
        ))
        (zeros_or_first (length C) (beyond_number (bias_bound G) 18 C)))
        (λ o. (
          refusal 14 o.0,
          operand_beyond s long (omega (arith, length-append A B, o.1.within))
              (λ i l. within_of G.bound 14 (A ++ B) (omega arith) i (o.1.before i l)) (beyond_of G.bound 14 (A ++ B) o.0 o.1.other),
        ))
        (zeros_or_first (length (A ++ B)) (beyond_number G.bound 14 (A ++ B)))

    answered_operands : AllHold (setting_tests G) → (a : Answer) × WriterAnswered G A B C size a
    answered_operands s =
        elim (ℕ_discrete (length A) (part_size (part G of_a))) [
          | no d ↦ (refusal 13 0, length_a_wrong s d)
          | yes e ↦
              elim (ℕ_discrete (length B) (part_size (part G of_b))) [
                | no d ↦ (refusal 13 1, length_b_wrong s e d)
                | yes f ↦
                    elim (ℕ_discrete (length C) (part_size (part G of_bias))) [
                      | no d ↦ (refusal 13 2, length_c_wrong s e f d)
                      | yes g ↦ answered_entries s (record { of_a_lem = e; of_b_lem = f; of_c = g })
                    ]
              ]
        ]

    pub writing_answered : (a : Answer) × WriterAnswered G A B C size a
    writing_answered = ⊎_elim answered_operands (λ f. (refusal f.0 0, setting_failed f.1)) (hold_or_failed (setting_tests G))

    pub writing_exactly : (a : Answer) → (writing G A B C size ≡ a) ↔ WriterAnswered G A B C size a
    writing_exactly a = (
      λ e. let same : writing_answered.0 ≡ a = sym (writing_of G A B C size writing_answered.1) ∙ e in
          rw same at writing_answered.1,
      writing_of G A B C size,
    )

    row_of : {a : Answer} → WriterAnswered G A B C size a → WriterRow G a
    row_of (setting_failed f) = by_setting_row (setting_in_table G f)
    row_of (length_a_wrong s d) = operand_length_row 0 (omega arith)
    row_of (length_b_wrong s e d) = operand_length_row 1 (omega arith)
    row_of (length_c_wrong s e f d) = operand_length_row 2 (omega arith)
    row_of (operand_beyond {k} s long l h m) = operand_row k (omega (arith, long, parts_are G))
    row_of (bias_beyond {k} s long h l before m) =
        let place : length (A ++ B) ≡ G.rows * G.inner + G.inner * G.columns = omega (arith, length-append A B, long, parts_are G) in
        rw place (bias_row k (omega (arith, long, parts_are G)))
    row_of (output_short w l) = output_length_row
    row_of (ticket_written w l) = written_row

    written_of : {a : Answer} → WriterAnswered G A B C size a → a.number ≡ 0 → Writable G A B C × (ticket_length G ≤ size)
    written_of (setting_failed f) z = absurd (omega (arith, failed_numbered (setting_tests G) (setting_numbered G) f))
    written_of (length_a_wrong s d) z = absurd (omega arith)
    written_of (length_b_wrong s e d) z = absurd (omega arith)
    written_of (length_c_wrong s e f d) z = absurd (omega arith)
    written_of (operand_beyond s long l h m) z = absurd (omega arith)
    written_of (bias_beyond s long h l before m) z = absurd (omega arith)
    written_of (output_short w l) z = absurd (omega arith)
    written_of (ticket_written w l) z = (w, l)
