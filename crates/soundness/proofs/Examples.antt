-- All lists that can be drawn from some small sets of numbers, under the setting K: how many are well formed and how many accepted, counted by the checker
-- over the rules, beside what list_count says.
use Rattle.std.specs.Prelude.{ℕ, zero, suc, ◌+◌, ◌-◌, ◌*◌, ◌≡◌, refl, Bool, cond, eqb, set}
use mathlib.Core.List.{List, [], ◌∷◌, flatten, map}
use Rattle.residue.specs.Rules.{modulus, least_residue, signed_entry}
use Rattle.algebra.specs.Rules.{int_sum}
use Rattle.algebra.proofs.Laws.Sets.{contains}
use Rattle.ticket.specs.declared.setting.Setting.{Setting}
use Rattle.ticket.specs.Rules.{with_bias, first, scan, after, first_failed, sizes_within, scale_and_bound_within, numbers_within, fits_width, limit_tests, setting_tests, is_entry, shifted_quotient, parts, part, count, start, records, ticket_length, holder, value_at, formed, part_tests, record_tests, first_refusal, records_reading, reading, value_in, entry_a, entry_b, quotient, remainder, claim, has_bias, bias_bound, bias_columns, bias_within, rounding_within, entry_bias, plain}
use Rattle.ticket.proofs.Examples.{K, true_ticket, false_ticket, bias_ticket}
use Rattle.challenge.specs.Rules.{list_number, first_nonzero, vector_number, list_reading, product_b, claim_side, operand_side_by, balanced_by, first_row, verdict, challenge_check}
use Rattle.soundness.proofs.Laws.DrawnLists.{list_count}

-- the first quotient is one too high and the second one too low, without a bias and with one: a vector of two equal numbers hides it
both_false : List ℕ
both_false = set false_ticket 76 0x02

bias_false : List ℕ
bias_false = set (set bias_ticket 100 0xFD) 108 0x04

-- the numbers of the list, each once
once : List ℕ → List ℕ
once [] = []
once (a ∷ rest) = cond (contains rest a) (once rest) (a ∷ once rest)

-- the lists of m of these numbers
lists : List ℕ → ℕ → List (List ℕ)
lists numbers zero = [] ∷ []
lists numbers (suc m) = flatten (map (λ a. map (λ x. a ∷ x) (lists numbers m)) numbers)

-- how many pass a test
passing : (List ℕ → Bool) → List (List ℕ) → ℕ
passing test [] = 0
passing test (x ∷ rest) = cond (test x) 1 0 + passing test rest

-- a setting, a ticket and a set; of the lists drawn from the set, how many there are by list_count and how many are well formed, how many may be
-- accepted with a false ticket by list_count and how many are
record Example : Type 0 where
  setting : Setting
  ticket : List ℕ
  allowed : List ℕ
  lists : ℕ
  well_formed : ℕ
  most : ℕ
  accepted : ℕ

row : Setting → List ℕ → List ℕ → ℕ → ℕ → ℕ → ℕ → Example
row G t allowed lists well_formed most accepted =
    record { setting = G; ticket = t; allowed = allowed; lists = lists; well_formed = well_formed; most = most; accepted = accepted }

examples : List Example
examples =
    -- with 0 in the set, without it, with two vectors, and with a bias: as many are accepted as may be
    row (plain (K 1)) false_ticket (0 ∷ 5 ∷ []) 3 3 1 1
    ∷ row (plain (K 1)) both_false (0 ∷ 1 ∷ 5 ∷ []) 8 8 2 2
    ∷ row (plain (K 1)) both_false (1 ∷ 5 ∷ []) 4 4 2 2
    ∷ row (plain (K 2)) both_false (1 ∷ 5 ∷ []) 16 16 4 4
    ∷ row (plain (K 2)) both_false (5 ∷ 0 ∷ []) 9 9 1 1
    ∷ row (with_bias (K 1) 23) bias_false (1 ∷ 5 ∷ []) 4 4 2 2
    -- a true ticket is accepted with all
    ∷ row (plain (K 1)) true_ticket (0 ∷ 5 ∷ []) 3 3 1 3
    -- of a set that holds p, or that names a number twice, list_count is not the count
    ∷ row (plain (K 1)) both_false (1 ∷ modulus ∷ []) 4 1 2 1
    ∷ row (plain (K 1)) both_false (1 ∷ 1 ∷ []) 4 1 2 1
    ∷ []

by_rules : Example → Example
by_rules e =
    let G = e.setting in
    let drawn = lists (once e.allowed) (G.vectors * G.columns) in
    row G e.ticket e.allowed
    (list_count e.allowed G.columns G.vectors)
    (passing (λ x. eqb (list_reading G x).number 0) drawn)
    (list_count e.allowed (G.columns - 1) G.vectors)
    (passing (λ x. eqb (challenge_check G e.ticket x).number 0) drawn)

examples_hold : map by_rules examples ≡ examples
unfolding modulus least_residue signed_entry int_sum first scan after first_failed sizes_within scale_and_bound_within numbers_within fits_width limit_tests
    setting_tests is_entry shifted_quotient parts part count start records ticket_length holder value_at formed part_tests record_tests first_refusal
    records_reading reading value_in entry_a entry_b quotient remainder claim has_bias bias_bound bias_columns bias_within rounding_within entry_bias
    list_number first_nonzero vector_number list_reading product_b claim_side operand_side_by balanced_by first_row verdict challenge_check true_ticket
    bias_ticket K false_ticket both_false bias_false once lists passing row examples by_rules flatten
examples_hold = refl
