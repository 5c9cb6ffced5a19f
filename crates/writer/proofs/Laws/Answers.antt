-- The answers of the writer: when each is given, and what the output then holds.
--
--   WriterAnswered G A B C s a   the condition of the answer a, no earlier test failing; s is the output's length
--   Lengths G A B C, lengths_of   all have their lengths
--   writable, all_within   the entries one operand after the other: in A, then on in B
--   in_order           13, then 14, then 18
--   passed_lengths     where 13 passes, all have their lengths
--   operands_passed    operands and bias that pass their tests
--   passed_operands    and from their answer
--   setting_refused, operands_refused, output_next   the writer's answer, as the tests come out in order
--   writing_of         where the condition of the answer a holds, a is the answer
--   output_refused     a refusal leaves the output as it was
-- all have their lengths
use Rattle.std.specs.Prelude.{◌≡◌, ℕ, ◌+◌, ◌-◌, ◌<◌, ◌≤◌, Bool, true, false, List, ◌++◌, length, drop, ℤ, pos, ◌==◌, ◌≢◌, nat_eq, nat_le, slice_index_or, unsigned_abs, refl}
use Rattle.std.proofs.Math.Decide.{dec_le}
use Rattle.std.proofs.Common.{arith, ◌∙◌, get_or-append-add}
use Rattle.std.proofs.Math.Path.{sym, ap}
use borrow.Author.Tests.{le-leb, lt-leb, eq-eqb, ne_eqb, eqb-true}
use Rattle.std.proofs.Math.ListN.{length-append, get_or-append}
use Rattle.ticket.specs.declared.setting.Setting.{Setting}
use Rattle.ticket.specs.declared.Answer.{Answer}
use Rattle.ticket.specs.Rules.{unless, refusal, after, first_refusal, setting_tests, setting_number, part, part_size, of_a, of_b, of_bias, bias_bound, ticket_length}
use Rattle.ticket.proofs.Laws.Answers.{unless_zero, after_zero, scan_zero}
use Rattle.ticket.proofs.Laws.Limits.{setting_numbered}
use Rattle.ticket.proofs.Laws.Scans.{refusal_none, after_passed, after_refused}
use Rattle.ticket.specs.Laws.Tests.{AllHold}
use Rattle.ticket.proofs.Laws.Tests.{Failed, holding_number, failed_number, failed_numbered}
use Rattle.writer.specs.Rules.{beyond_number, operands_reading, written, writing, ticket_of, output_after}
use Rattle.writer.proofs.Laws.Operands.{number_within, within_of, beyond_none, beyond_at}
use Rattle.writer.specs.Laws.Answers.{Writable, length_reading, lengths_reading}
pub mod OutputWritten

pub record Lengths (G : Setting) (A B C : List ℤ) : Type 0 where
  pub of_a_lem : length A ≡ part_size (part G of_a)
  pub of_b_lem : length B ≡ part_size (part G of_b)
  pub of_c : length C ≡ part_size (part G of_bias)

-- a test that refuses, before a later answer
unless_after : (holds : Bool) (refused rest later : Answer) → (refused.number ≢ 0)
    → after (unless holds refused rest) later ≡ unless holds refused (after rest later)
unless_after true refused rest later other = refl
unless_after false refused rest later other = after_refused refused later other

pub data WriterAnswered (G : Setting) (A B C : List ℤ) (size : ℕ) : Answer → Type 0 where
  setting_failed : {c : ℕ} → Failed (setting_tests G) c → WriterAnswered G A B C size (refusal c 0)
  length_a_wrong : AllHold (setting_tests G) → (length A ≢ part_size (part G of_a)) → WriterAnswered G A B C size (refusal 13 0)
  length_b_wrong : AllHold (setting_tests G) → length A ≡ part_size (part G of_a)
      → (length B ≢ part_size (part G of_b)) → WriterAnswered G A B C size (refusal 13 1)
  length_c_wrong : AllHold (setting_tests G) → length A ≡ part_size (part G of_a) → length B ≡ part_size (part G of_b)
      → (length C ≢ part_size (part G of_bias)) → WriterAnswered G A B C size (refusal 13 2)
  operand_beyond : {k : ℕ} → AllHold (setting_tests G) → Lengths G A B C
      → k < length A + length B → ((i : ℕ) → i < k → unsigned_abs (slice_index_or (A ++ B) i (pos 0)) ≤ G.bound)
      → G.bound < unsigned_abs (slice_index_or (A ++ B) k (pos 0)) → WriterAnswered G A B C size (refusal 14 k)
  bias_beyond : {k : ℕ} → AllHold (setting_tests G) → Lengths G A B C
      → ((i : ℕ) → i < length (A ++ B) → unsigned_abs (slice_index_or (A ++ B) i (pos 0)) ≤ G.bound)
      → k < length C → ((i : ℕ) → i < k → unsigned_abs (slice_index_or C i (pos 0)) ≤ bias_bound G)
      → bias_bound G < unsigned_abs (slice_index_or C k (pos 0)) → WriterAnswered G A B C size (refusal 18 (length (A ++ B) + k))
  output_short : Writable G A B C → size < ticket_length G → WriterAnswered G A B C size (refusal 15 0)
  ticket_written : Writable G A B C → ticket_length G ≤ size → WriterAnswered G A B C size (written G)

module _ (G : Setting) (A B C : List ℤ) where
  in_a : (k : ℕ) → k < length A → slice_index_or (A ++ B) k (pos 0) ≡ slice_index_or A k (pos 0)
  in_a k l = get_or-append A B (pos 0) k l

  in_b : (k : ℕ) → slice_index_or (A ++ B) (length A + k) (pos 0) ≡ slice_index_or B k (pos 0)
  in_b k = get_or-append-add A B k (pos 0)

  pub writable : AllHold (setting_tests G) → Lengths G A B C
      → ((k : ℕ) → k < length (A ++ B) → unsigned_abs (slice_index_or (A ++ B) k (pos 0)) ≤ G.bound)
      → ((k : ℕ) → k < length C → unsigned_abs (slice_index_or C k (pos 0)) ≤ bias_bound G) → Writable G A B C
  writable setting long h bias =
      record {
        setting = setting;
        long_a = long.of_a_lem;
        long_b = long.of_b_lem;
        long_c = long.of_c;
        within_c = bias;
        within_a = λ k l. rw (in_a k l) at (h k (omega (arith, length-append A B)));
        within_b = λ k l. rw (in_b k) at (h (length A + k) (omega (arith, length-append A B)));
      }

  pub all_within : Writable G A B C → (k : ℕ) → k < length (A ++ B) → unsigned_abs (slice_index_or (A ++ B) k (pos 0)) ≤ G.bound
  all_within w k l =
      elim (dec_le (length A) k) [
        | no before ↦
            let here : k < length A = omega arith in
            rw (in_a k here) (w.within_a k here)
        | yes past ↦
            let there : length A + (k - length A) ≡ k = omega arith in
            rw (rw there at (in_b (k - length A))) (w.within_b (k - length A) (omega (arith, length-append A B)))
      ]

  pub lengths_of : Writable G A B C → Lengths G A B C
  lengths_of w = record { of_a_lem = w.long_a; of_b_lem = w.long_b; of_c = w.long_c }

  -- the entries of both operands, one after the other
  abbrev number : ℕ → ℕ
  number = beyond_number G.bound 14 (A ++ B)

  abbrev entries : Answer
  entries = first_refusal 0 (length (A ++ B)) number

  -- those of the bias
  abbrev added : Answer
  added = first_refusal (length (A ++ B)) (length C) (beyond_number (bias_bound G) 18 C)

  lengths_pass : Lengths G A B C → operands_reading G A B C ≡ after entries added
  unfolding operands_reading
  lengths_pass long =
      rw (
        eq-eqb (length A) (part_size (part G of_a)) long.of_a_lem,
        eq-eqb (length B) (part_size (part G of_b)) long.of_b_lem,
        eq-eqb (length C) (part_size (part G of_bias)) long.of_c,
      )

  pub in_order : operands_reading G A B C ≡ after (lengths_reading G A B C) (after entries added)
  unfolding operands_reading lengths_reading
  in_order =
      let long_a = nat_eq (length A) (part_size (part G of_a)) in
      let long_b = nat_eq (length B) (part_size (part G of_b)) in
      let long_c = nat_eq (length C) (part_size (part G of_bias)) in
      sym (unless_after long_a _ _ _ (λ z. omega arith)
      ∙ ap (unless long_a (refusal 13 0)) (unless_after long_b _ _ _ (λ z. omega arith)
      ∙ ap (unless long_b (refusal 13 1)) (unless_after long_c _ _ _ (λ z. omega arith)
      ∙ ap (unless long_c (refusal 13 2)) (after_passed (refusal 0 0) (after entries added) refl))))

  pub lengths_in_order : lengths_reading G A B C ≡ after (length_reading G of_a A) (after (length_reading G of_b B) (length_reading G of_bias C))
  unfolding lengths_reading length_reading
  lengths_in_order =
      let long_a = nat_eq (length A) (part_size (part G of_a)) in
      let long_b = nat_eq (length B) (part_size (part G of_b)) in
      sym (unless_after long_a _ _ _ (λ z. omega arith)
      ∙ ap (unless long_a (refusal 13 0)) (after_passed (refusal 0 0) _ refl
      ∙ unless_after long_b _ _ _ (λ z. omega arith)
      ∙ ap (unless long_b (refusal 13 1)) (after_passed (refusal 0 0) _ refl)))

  pub passed_lengths : (lengths_reading G A B C).number ≡ 0 → Lengths G A B C
  unfolding lengths_reading
  passed_lengths e =
      let third = unless (length C == part_size (part G of_bias)) (refusal 13 2) (refusal 0 0) in
      let second = unless (length B == part_size (part G of_b)) (refusal 13 1) third in
      let first-test = (unless_zero (length A == part_size (part G of_a)) (refusal 13 0) second (λ z. omega arith)).0 e in
      let second-test = (unless_zero (length B == part_size (part G of_b)) (refusal 13 1) third (λ z. omega arith)).0 first-test.1 in
      let third-test = (unless_zero (length C == part_size (part G of_bias)) (refusal 13 2) (refusal 0 0) (λ z. omega arith)).0 second-test.1 in
      record { of_a_lem = eqb-true _ _ first-test.0; of_b_lem = eqb-true _ _ second-test.0; of_c = eqb-true _ _ third-test.0 }

  pub operands_passed : Writable G A B C → operands_reading G A B C ≡ refusal 0 0
  operands_passed w =
      lengths_pass (lengths_of w)
      ∙ after_passed entries added
      (ap (λ a. a.number) (refusal_none 0 (length (A ++ B)) number (λ k l. number_within G.bound 14 (A ++ B) k (all_within w k l))))
      ∙ refusal_none (length (A ++ B)) (length C) (beyond_number (bias_bound G) 18 C) (λ k l. number_within (bias_bound G) 18 C k (w.within_c k l))

  pub passed_operands : AllHold (setting_tests G) → (operands_reading G A B C).number ≡ 0 → Writable G A B C
  passed_operands setting e =
      let tests = (after_zero (lengths_reading G A B C) (after entries added)).0 (rw in_order at e) in
      let both-pass = (after_zero entries added).0 tests.1 in
      writable setting (passed_lengths tests.0)
      (λ k l. within_of G.bound 14 (A ++ B) (omega arith) k ((scan_zero 0 (length (A ++ B)) number).0 both-pass.0 k l))
      (λ k l. within_of (bias_bound G) 18 C (omega arith) k
      ((scan_zero (length (A ++ B)) (length C) (beyond_number (bias_bound G) 18 C)).0 both-pass.1 k l))

  module _ (size : ℕ) where
    pub setting_refused : {c : ℕ} → setting_number G ≡ c → (c ≢ 0) → writing G A B C size ≡ refusal c 0
    unfolding writing
    setting_refused e d = after_refused (refusal (setting_number G) 0) _ (λ z. d (sym e ∙ z)) ∙ ap (λ c. refusal c 0) e

    pub operands_refused : AllHold (setting_tests G) → {a : Answer} → operands_reading G A B C ≡ a → (a.number ≢ 0) → writing G A B C size ≡ a
    unfolding writing
    operands_refused setting e d =
        after_passed (refusal (setting_number G) 0) _ (holding_number setting)
        ∙ after_refused (operands_reading G A B C) _ (λ z. d (sym (ap (λ a. a.number) e) ∙ z)) ∙ e

    pub output_next : Writable G A B C → writing G A B C size ≡ unless (nat_le (ticket_length G) size) (refusal 15 0) (written G)
    unfolding writing
    output_next w =
        after_passed (refusal (setting_number G) 0) _ (holding_number w.setting)
        ∙ after_passed (operands_reading G A B C) _ (ap (λ a. a.number) (operands_passed w))

    pub writing_of : {a : Answer} → WriterAnswered G A B C size a → writing G A B C size ≡ a
    unfolding operands_reading
    writing_of (setting_failed f) =
        setting_refused (failed_number f) (λ z. omega (arith, failed_numbered (setting_tests G) (setting_numbered G) f))
    writing_of (length_a_wrong s d) = operands_refused s (rw (ne_eqb (length A) (part_size (part G of_a)) d)) (λ z. omega arith)
    writing_of (length_b_wrong s e d) =
        operands_refused s
        (rw (eq-eqb (length A) (part_size (part G of_a)) e, ne_eqb (length B) (part_size (part G of_b)) d)) (λ z. omega arith)
    writing_of (length_c_wrong s e f d) =
        operands_refused s
        (rw (
          eq-eqb (length A) (part_size (part G of_a)) e,
          eq-eqb (length B) (part_size (part G of_b)) f,
          ne_eqb (length C) (part_size (part G of_bias)) d,
        ))
        (λ z. omega arith)
    writing_of (operand_beyond {k} s long l h m) =
        let first = beyond_at G.bound 14 (A ++ B) 0 (omega arith) (omega (arith, length-append A B)) h m in
        operands_refused s
        (lengths_pass long ∙ after_refused entries added (λ z. omega (arith, ap (λ a. a.number) first)) ∙ first ∙ ap (refusal 14) (omega arith))
        (λ z. omega arith)
    writing_of (bias_beyond s long h l before m) =
        let first = beyond_at (bias_bound G) 18 C (length (A ++ B)) (omega arith) l before m in
        operands_refused s
        (lengths_pass long ∙ after_passed entries added (ap (λ a. a.number) (beyond_none G.bound 14 (A ++ B) 0 h)) ∙ first)
        (λ z. omega arith)
    writing_of (output_short w l) = output_next w ∙ rw (lt-leb (ticket_length G) size l)
    writing_of (ticket_written w l) = output_next w ∙ rw (le-leb (ticket_length G) size l)

  module _ (o : List ℕ) where
    pub output_refused : ((writing G A B C (length o)).number ≢ 0) → output_after G A B C o ≡ o
    unfolding output_after
    output_refused d = rw (ne_eqb (writing G A B C (length o)).number 0 d)
