-- The whole ticket, as the code writes it: the operands and the claims.
--
--   ready_a, ready_b, ready_c   what writing the operands and the bias asks for, one after the other
--   ticket_wrote         the operands and the claims are the ticket
--   Wrote_as_ruled G A B C o a o'   the answer a and the output o' are those of the rules, for the output o
--   refused, all_written   so they are where the writer refuses, and where it writes the ticket
use Rattle.std.specs.Prelude.{◌≡◌, ℕ, ◌+◌, ◌*◌, ◌<◌, ◌≤◌, ◌⊎◌, List, ◌++◌, length, drop, ℤ, ◌≢◌}
use Rattle.std.proofs.Math.Decide.{dec_lt}
use Rattle.std.proofs.Common.{arith, sym, ap, ◌∙◌, inl, inr, ⊎_elim}
use Rattle.ticket.specs.declared.setting.Setting.{Setting}
use Rattle.ticket.specs.declared.Answer.{Answer}
use Rattle.ticket.specs.Rules.{start, of_a, of_b, of_bias, bias_columns, of_quotients, of_remainders, records, ticket_length}
use Rattle.ticket.proofs.Laws.Layout.{parts_are, part_a, part_b, part_bias}
use Rattle.ticket.proofs.Laws.Layout.StartOfB.{length_is}
use Rattle.ticket.proofs.Laws.Limits.ClampedSmall.{bias_columns_most}
use Rattle.writer.specs.Rules.{ticket_of, written, writing, output_after}
use Rattle.writer.specs.Laws.Answers.{Writable}
use Rattle.writer.proofs.Laws.Answers.{ticket_written, writing_of, output_refused}
use Rattle.writer.proofs.Laws.Answers.OutputWritten.{output_written}
use Rattle.writer.proofs.Laws.Entries.{limits, long_a, long_b, long_c, small_a, small_b, small_c}
use Rattle.writer.proofs.Laws.Operands.{small_more}
use Rattle.writer.specs.Laws.Lines.{OperandOf, OperandReady, OperandWrote}
use Rattle.writer.proofs.Laws.Records.{length_records, length_ticket_of, ticket_record_lem, integer_a, integer_b, integer_bias}
use Rattle.writer.specs.Laws.Rows.{ClaimsWrote}
use Rattle.writer.specs.Laws.Writes.{Among, Both}
use Rattle.writer.proofs.Laws.Writes.{wrote_more, wrote_all}

module _ {G : Setting} {A B C : List ℤ} (w : Writable G A B C) where
  -- the operands and the bias are what the first three parts stand for
  of_a_lem : OperandOf G A B C of_a 1 G.rows G.inner 0 A
  of_a_lem = record { named = part_a G; count = long_a w; integers = integer_a G A B C; first_is = omega (arith, parts_are G) }

  of_b_lem : OperandOf G A B C of_b 2 G.inner G.columns (length A) B
  of_b_lem = record { named = part_b G; count = long_b w; integers = integer_b G A B C; first_is = omega (arith, parts_are G, long_a w) }

  of_c : OperandOf G A B C of_bias 5 G.rows (bias_columns G) (length A + length B) C
  of_c =
      record { named = part_bias G; count = long_c w; integers = integer_bias G A B C; first_is = omega (arith, parts_are G, long_a w, long_b w) }

  module _ {output : List ℕ} (room : ticket_length G ≤ length output) where
    pub ready_a : OperandReady 0 G.rows G.inner A output
    ready_a =
        record {
          entries_small = small_more (omega arith) (small_a w);
          high = omega (arith, (limits w).sizes.rows);
          wide = (limits w).sizes.inner.1;
          count = long_a w;
          room = omega (arith, parts_are G, length_is G);
        }

    pub ready_b : OperandReady (length A) G.inner G.columns B output
    ready_b =
        record {
          entries_small = small_more (omega arith) (small_b w);
          high = (limits w).sizes.inner.1;
          wide = omega (arith, (limits w).sizes.columns);
          count = long_b w;
          room = omega (arith, long_a w, parts_are G, length_is G);
        }

    pub ready_c : OperandReady (length A + length B) G.rows (bias_columns G) C output
    ready_c =
        record {
          entries_small = small_c w;
          high = omega (arith, (limits w).sizes.rows);
          wide = omega (arith, (limits w).sizes.columns, bias_columns_most G);
          count = long_c w;
          room = omega (arith, long_a w, long_b w, parts_are G, length_is G);
        }

-- every record is one of the claims, of A, of B or of the bias
abbrev Named : Setting → ℕ → Type 0
Named G k =
    ((Both (start G of_quotients) (start G of_remainders) (G.rows * G.columns) k ⊎ Among (start G of_a) (G.rows * G.inner) k)
    ⊎ Among (start G of_b) (G.inner * G.columns) k)
    ⊎ Among (start G of_bias) (G.rows * bias_columns G) k

all_named : (G : Setting) (k : ℕ) → k < records G → Named G k
all_named G k l =
    let parts = parts_are G in
    elim (dec_lt k (start G of_b)) [
      | yes a ↦ inl (inl (inr (record { from = omega arith; below = omega arith })))
      | no a ↦
          elim (dec_lt k (start G of_bias)) [
            | yes b ↦ inl (inr (record { from = omega arith; below = omega arith }))
            | no b ↦
                elim (dec_lt k (start G of_quotients)) [
                  | yes c ↦ inr (record { from = omega arith; below = omega arith })
                  | no c ↦
                      inl (inl (inl (elim (dec_lt k (start G of_remainders)) [
                        | yes d ↦ inl (record { from = omega arith; below = omega arith })
                        | no d ↦ inr (record { from = omega arith; below = omega arith })
                      ])))
                ]
          ]
    ]

named_within : (G : Setting) (k : ℕ) → Named G k → k < records G
named_within G k =
    let parts = parts_are G in
    ⊎_elim
    (⊎_elim (⊎_elim (⊎_elim (λ a. omega (arith, a.below)) (λ a. omega (arith, a.below))) (λ a. omega (arith, a.below))) (λ a. omega (arith, a.below)))
    (λ a. omega (arith, a.below))

pub ticket_wrote : {G : Setting} {A B C : List ℤ} (w : Writable G A B C) {before x y z after : List ℕ} → ticket_length G ≤ length before
    → ClaimsWrote G A B C G.rows before x → OperandWrote 1 G.inner 0 A x y → OperandWrote 2 G.columns (length A) B y z
    → OperandWrote 5 (bias_columns G) (length A + length B) C z after
    → after ≡ ticket_of G A B C ++ drop (ticket_length G) before
ticket_wrote {G} {A} {B} {C} w room claims wrote-A wrote-B wrote-C =
    let part_a = rw ((of_a_lem w).first_is, long_a w) at (wrote-A.wrote G A B C of_a G.rows (of_a_lem w)) in
    let part_b = rw ((of_b_lem w).first_is, long_b w) at (wrote-B.wrote G A B C of_b G.inner (of_b_lem w)) in
    let part-C = rw ((of_c w).first_is, long_c w) at (wrote-C.wrote G A B C of_bias G.rows (of_c w)) in
    rw (length_records G)
    (wrote_all (ticket_of G A B C)
    (wrote_more (wrote_more (wrote_more claims part_a (λ k. inl) (λ k. inr) (λ k s. s)) part_b (λ k. inl) (λ k. inr) (λ k s. s))
    part-C (λ k. inl) (λ k. inr) (λ k s. s))
    (all_named G) (named_within G) (length_ticket_of G A B C ∙ length_records G) (λ k l. ticket_record_lem G A B C l) (omega (arith, length_records G)))

-- the whole call

module _ (G : Setting) (A B C : List ℤ) (before : List ℕ) where
  abbrev pub Wrote_as_ruled : Answer → List ℕ → Type 0
  Wrote_as_ruled a output = (a ≡ writing G A B C (length before)) × (output ≡ output_after G A B C before)

  pub refused : {a : Answer} → writing G A B C (length before) ≡ a → (a.number ≢ 0) → Wrote_as_ruled a before
  refused e d = (sym e, sym (output_refused G A B C before (λ z. d (sym (ap (λ b. b.number) e) ∙ z))))

  pub all_written : Writable G A B C → ticket_length G ≤ length before → {output : List ℕ} → output ≡ ticket_of G A B C ++ drop (ticket_length G) before
      → Wrote_as_ruled (written G) output
  all_written w room e =
      let answer = writing_of G A B C (length before) (ticket_written w room) in
      (sym answer, e ∙ sym (output_written G A B C before (ap (λ b. b.number) answer)))
