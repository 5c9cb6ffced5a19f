-- Runs with the ticket of the marked examples, under the setting K: one table that the checker computes over the rules.
use Rattle.std.specs.Prelude.{ℕ, ◌≡◌, refl, List, [], ◌∷◌, map, set}
use Rattle.residue.specs.Rules.{modulus, least_residue, signed_entry}
use Rattle.algebra.specs.Rules.{int_sum}
use Rattle.ticket.specs.declared.published.PlainSetting.{PlainSetting}
use Rattle.ticket.specs.declared.Answer.{Answer}
use Rattle.ticket.specs.Rules.{answer, first, scan, after, first_failed, sizes_within, scale_and_bound_within, numbers_within, fits_width, limit_tests, setting_tests, is_entry, shifted_quotient, parts, part, count, start, records, ticket_length, holder, value_at, formed, part_tests, record_tests, first_refusal, records_reading, reading, value_in, entry_a, entry_b, quotient, remainder, claim, has_bias, bias_bound, bias_columns, bias_within, rounding_within, entry_bias, plain}
use Rattle.ticket.proofs.Examples.{true_ticket}
use Rattle.challenge.specs.Rules.{list_number, first_nonzero, vector_number, list_reading, product_b, claim_side, operand_side_by, balanced_by, first_row, verdict, challenge_check, listed, product_at, balanced_at}
use Rattle.run.specs.declared.Run.{Run}
use Rattle.run.specs.declared.RunAnswer.{RunAnswer}
use Rattle.run.specs.Rules.{under_way, caught_mark, complete, refused, held_list, is_past, is_caught, products_done, standing, tested, begun, beginning, moved, worked, stepping, placed, addition_reading, adding, Action, step, add, acting, last_answer, ran}

-- K with s vectors
K : ℕ → PlainSetting
K s = record { rows = 2; inner = 2; columns = 2; vectors = s; scale = 10; bound = 8; width = 5; rounding = 0 }

-- the ticket of d: the first quotient is -1 instead of -2
false_ticket : List ℕ
false_ticket = set true_ticket 68 0xFE

-- a state as somebody may have made it: begun with one vector, then put at vector τ, row i
put : List ℕ → ℕ → ℕ → ℕ → Run
put u τ i c = placed (begun (K 1) (1 ∷ 5 ∷ [])) u τ i c

-- runs: begun with s vectors x and the actions, lent the ticket t, the last mark and answer; changes: the same of a run whose tickets are those
-- lent at begin and at each step; steps_from, adds_to: of one call on a state; checks: the answer of the challenge check
data Example : Type 0 where
  runs : List ℕ → ℕ → List ℕ → List Action → ℕ → Answer → Example
  changes : List ℕ → List ℕ → List (List ℕ) → ℕ → Answer → Example
  steps_from : Run → List ℕ → ℕ → Answer → Example
  adds_to : Run → List ℕ → ℕ → Answer → Example
  checks : List ℕ → List ℕ → Answer → Example

examples : List Example
examples =
    -- case c by steps, and the complete run asked again
    runs true_ticket 1 (1 ∷ 2 ∷ []) [] under_way (answer 0 0 0 0)
    ∷ runs true_ticket 1 (1 ∷ 2 ∷ []) (step ∷ []) under_way (answer 0 0 1 8)
    ∷ runs true_ticket 1 (1 ∷ 2 ∷ []) (step ∷ step ∷ []) complete (answer 0 0 0 12)
    ∷ runs true_ticket 1 (1 ∷ 2 ∷ []) (step ∷ step ∷ step ∷ []) complete (answer 0 0 0 12)
    -- cases d and e
    ∷ runs false_ticket 1 (0 ∷ 5 ∷ []) (step ∷ step ∷ []) complete (answer 0 0 0 12)
    ∷ runs false_ticket 1 (1 ∷ 5 ∷ []) (step ∷ []) caught_mark (answer 12 0 0 8)
    ∷ runs false_ticket 1 (1 ∷ 5 ∷ []) (step ∷ step ∷ []) caught_mark (answer 12 0 0 8)
    -- a vector added before the first row, between rows, and one that catches
    ∷ runs true_ticket 1 (1 ∷ 2 ∷ []) (add (3 ∷ 4 ∷ []) ∷ []) under_way (answer 0 0 0 0)
    ∷ runs true_ticket 1 (1 ∷ 2 ∷ []) (step ∷ add (3 ∷ 4 ∷ []) ∷ []) under_way (answer 0 0 1 8)
    ∷ runs true_ticket 1 (1 ∷ 2 ∷ []) (step ∷ add (3 ∷ 4 ∷ []) ∷ step ∷ []) under_way (answer 0 1 0 12)
    ∷ runs true_ticket 1 (1 ∷ 2 ∷ []) (step ∷ add (3 ∷ 4 ∷ []) ∷ step ∷ step ∷ []) under_way (answer 0 1 1 20)
    ∷ runs true_ticket 1 (1 ∷ 2 ∷ []) (step ∷ add (3 ∷ 4 ∷ []) ∷ step ∷ step ∷ step ∷ []) complete (answer 0 0 0 24)
    ∷ runs false_ticket 1 (0 ∷ 5 ∷ []) (step ∷ add (1 ∷ 5 ∷ []) ∷ step ∷ step ∷ []) caught_mark (answer 12 1 0 20)
    -- begin refused, and refused ever after; the largest number of p, and a vector of zeros
    ∷ runs true_ticket 1 (1 ∷ 2 ∷ 3 ∷ []) [] refused (answer 10 0 0 0)
    ∷ runs true_ticket 1 (1 ∷ 2 ∷ 3 ∷ []) (step ∷ []) refused (answer 1 0 0 0)
    ∷ runs true_ticket 1 (1 ∷ modulus ∷ []) [] refused (answer 11 1 0 0)
    ∷ runs true_ticket 1 (0 ∷ 0 ∷ []) [] refused (answer 21 0 0 0)
    -- additions refused: places are those of the longer list; 22 comes last
    ∷ runs true_ticket 1 (1 ∷ 2 ∷ []) (add (3 ∷ []) ∷ []) refused (answer 10 0 0 0)
    ∷ runs true_ticket 1 (1 ∷ 2 ∷ []) (add (3 ∷ modulus ∷ []) ∷ []) refused (answer 11 3 0 0)
    ∷ runs true_ticket 1 (1 ∷ 2 ∷ []) (add (0 ∷ 0 ∷ []) ∷ []) refused (answer 21 1 0 0)
    ∷ runs true_ticket 1 (1 ∷ 2 ∷ []) (step ∷ step ∷ add (3 ∷ 4 ∷ []) ∷ []) refused (answer 22 0 0 0)
    ∷ runs true_ticket 1 (1 ∷ 2 ∷ []) (step ∷ step ∷ add (0 ∷ 0 ∷ []) ∷ []) refused (answer 21 1 0 0)
    ∷ runs false_ticket 1 (1 ∷ 5 ∷ []) (step ∷ add (3 ∷ 4 ∷ []) ∷ []) refused (answer 22 0 0 0)
    ∷ runs true_ticket 8 (1 ∷ 2 ∷ 1 ∷ 2 ∷ 1 ∷ 2 ∷ 1 ∷ 2 ∷ 1 ∷ 2 ∷ 1 ∷ 2 ∷ 1 ∷ 2 ∷ 1 ∷ 2 ∷ []) (add (3 ∷ 4 ∷ []) ∷ []) refused (answer 22 0 0 0)
    -- a refused addition leaves the run as it was
    ∷ runs true_ticket 1 (1 ∷ 2 ∷ []) (step ∷ add (3 ∷ []) ∷ step ∷ []) complete (answer 0 0 0 12)
    -- states that somebody made: t or row beyond its end is complete, also where it says caught; u of p and more is reduced
    ∷ steps_from (put [] 1 0 0) true_ticket complete (answer 0 0 0 12)
    ∷ steps_from (put [] 0 2 7) true_ticket complete (answer 0 0 0 12)
    ∷ steps_from (put [] 0 1 7) true_ticket caught_mark (answer 12 0 1 12)
    ∷ steps_from (put (29 ∷ 2_147_483_614 ∷ []) 0 1 0) true_ticket complete (answer 0 0 0 12)
    ∷ steps_from (put (2_147_483_676 ∷ 2_147_483_614 ∷ []) 0 1 0) true_ticket complete (answer 0 0 0 12)
    ∷ steps_from (put (30 ∷ 2_147_483_614 ∷ []) 0 1 0) true_ticket caught_mark (answer 12 0 1 12)
    ∷ steps_from (put [] 1 0 0) [] refused (answer 4 0 0 0)
    ∷ adds_to (put [] 0 1 0) (3 ∷ 4 ∷ []) under_way (answer 0 0 1 8)
    ∷ adds_to (put [] 1 0 0) (3 ∷ 4 ∷ []) refused (answer 22 0 0 0)
    -- a ticket that is changed in between: the run completes although the ticket of the beginning and of the end is caught, and is caught
    -- although that ticket is accepted
    ∷ checks false_ticket (1 ∷ 5 ∷ []) (answer 12 0 0 8)
    ∷ changes false_ticket (1 ∷ 5 ∷ []) (true_ticket ∷ false_ticket ∷ []) complete (answer 0 0 0 12)
    ∷ checks true_ticket (1 ∷ 5 ∷ []) (answer 0 0 0 12)
    ∷ changes true_ticket (1 ∷ 5 ∷ []) (false_ticket ∷ true_ticket ∷ []) caught_mark (answer 12 0 0 8)
    ∷ []

-- steps, each lent its ticket
lent : RunAnswer → List (List ℕ) → RunAnswer
lent a [] = a
lent a (t ∷ rest) = lent (stepping a.run t) rest

by_rules : Example → Example
by_rules (runs t s x αs _ _) = let a = ran (K s) t x αs in runs t s x αs a.mark a.answer
by_rules (changes t x ts _ _) = let a = lent (beginning (K 1) t x) ts in changes t x ts a.mark a.answer
by_rules (steps_from R t _ _) = let a = stepping R t in steps_from R t a.mark a.answer
by_rules (adds_to R v _ _) = let a = adding R v in adds_to R v a.mark a.answer
by_rules (checks t x _) = checks t x (challenge_check (plain (K 1)) t x)

examples_hold : map by_rules examples ≡ examples
unfolding modulus least_residue signed_entry int_sum first scan after first_failed sizes_within scale_and_bound_within numbers_within fits_width limit_tests
    setting_tests is_entry shifted_quotient parts part count start records ticket_length holder value_at formed part_tests record_tests first_refusal
    records_reading reading value_in entry_a entry_b quotient remainder claim has_bias bias_bound bias_columns bias_within rounding_within entry_bias
    list_number first_nonzero vector_number list_reading product_b claim_side operand_side_by balanced_by first_row verdict challenge_check listed product_at
    balanced_at held_list is_past is_caught products_done standing tested moved worked addition_reading acting last_answer true_ticket K false_ticket put
    examples lent by_rules
examples_hold = refl
