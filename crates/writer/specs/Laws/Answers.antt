-- The answers of the writer: when each is given, and what the output then holds.
--
--   Writable G A B C   the setting passes, the operands and the bias have their lengths, and their entries are within their bounds
--   JobReady G h A B C o   they are to be written to the output o, which has room for the ticket; h is half of the quotients' range
--   length_reading G w x   the answer of test 13 for the operand x, which is part w of the ticket
--   lengths_reading G A B C   that for all three; its number is 0 where all have their lengths
--   answer_of r        the answer by the result r: that of a ticket written, or of a refusal
use Rattle.std.specs.Prelude.{◌≡◌, ℕ, ◌<◌, ◌≤◌, List, length, ℤ, pos, ◌==◌, slice_index_or, unsigned_abs, Result, Ok, Err}
use Rattle.ticket.specs.declared.setting.Setting.{Setting}
use Rattle.ticket.specs.declared.Answer.{Answer}
use Rattle.ticket.specs.declared.refusals.Refusal.{Refusal}
use Rattle.ticket.specs.Rules.{unless, refusal, reason_number, setting_tests, part, part_size, of_a, of_b, of_bias, bias_bound, half_range, ticket_length}
use Rattle.ticket.specs.Laws.Limits.{clamped}
use Rattle.ticket.specs.Laws.Tests.{AllHold}

pub record Writable (G : Setting) (A B C : List ℤ) : Type 0 where
  pub setting : AllHold (setting_tests G)
  pub long_a : length A ≡ part_size (part G of_a)
  pub long_b : length B ≡ part_size (part G of_b)
  pub long_c : length C ≡ part_size (part G of_bias)
  pub within_a : (k : ℕ) → k < length A → unsigned_abs (slice_index_or A k (pos 0)) ≤ G.bound
  pub within_b : (k : ℕ) → k < length B → unsigned_abs (slice_index_or B k (pos 0)) ≤ G.bound
  pub within_c : (k : ℕ) → k < length C → unsigned_abs (slice_index_or C k (pos 0)) ≤ bias_bound G

pub record JobReady (G : Setting) (half : ℕ) (A B C : List ℤ) (output : List ℕ) : Type 0 where
  pub writable : Writable G A B C
  pub half_is : half ≡ half_range (clamped G)
  pub room : ticket_length G ≤ length output

unfoldable pub length_reading : Setting → ℕ → List ℤ → Answer
length_reading G w x = unless (length x == part_size (part G w)) (refusal 13 w) (refusal 0 0)

unfoldable pub lengths_reading : Setting → List ℤ → List ℤ → List ℤ → Answer
lengths_reading G A B C =
    unless (length A == part_size (part G of_a)) (refusal 13 0)
    (unless (length B == part_size (part G of_b)) (refusal 13 1)
    (unless (length C == part_size (part G of_bias)) (refusal 13 2) (refusal 0 0)))

abbrev pub answer_of : Result Answer Refusal → Answer
answer_of (Ok a) = a
answer_of (Err R) = refusal (reason_number R.reason) R.place
