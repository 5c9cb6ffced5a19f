-- Files under the setting K, with the ticket of case b and the challenge of case c: one table that the checker computes over the
-- rules. Bytes of files are hexadecimal.
use Rattle.std.specs.Prelude.{ℕ, ◌≡◌, refl, List, [], ◌∷◌, ◌++◌, map, take}
use Rattle.residue.specs.Rules.{modulus, least_residue, signed_entry}
use Rattle.algebra.specs.Rules.{int_sum}
use Rattle.ticket.specs.declared.Answer.{Answer}
use Rattle.ticket.specs.Rules.{answer, first, scan, after, first_failed, sizes_within, scale_and_bound_within, numbers_within, fits_width, limit_tests, setting_tests, is_entry, shifted_quotient, parts, part, count, start, records, ticket_length, holder, value_at, formed, part_tests, record_tests, first_refusal, records_reading, reading, value_in, entry_a, entry_b, quotient, remainder, claim, has_bias, bias_bound, bias_columns, bias_within, rounding_within, entry_bias}
use Rattle.ticket.proofs.Examples.{true_ticket, rounded_ticket}
use Rattle.challenge.specs.Rules.{list_number, first_nonzero, vector_number, list_reading, product_b, claim_side, operand_side_by, balanced_by, first_row, verdict, challenge_check}
use Rattle.files.specs.Rules.{word_at, setting_of, numbers_of, file_check, digits_of, decimal, field, line_of}

-- ℓ = m = n = 2, s = 1, α = 10, T = 8, v = 5, and o, of one byte
rounded : ℕ → List ℕ
rounded o =
    0x02 ∷ 0x02 ∷ 0x02 ∷ 0x01
    ∷ 0x0A ∷ 0x00 ∷ 0x00 ∷ 0x00
    ∷ 0x08 ∷ 0x00 ∷ 0x00 ∷ 0x00
    ∷ 0x05 ∷ 0x00 ∷ 0x00 ∷ 0x00
    ∷ o ∷ 0x00 ∷ 0x00 ∷ 0x00
    ∷ []

setting : List ℕ
setting = rounded 0

-- the vector (1, 2)
challenge : List ℕ
challenge = 0x01 ∷ 0x00 ∷ 0x00 ∷ 0x00 ∷ 0x02 ∷ 0x00 ∷ 0x00 ∷ 0x00 ∷ []

-- each with what is expected last: the answer for three files; the line for them; a number in decimal
data Example : Type 0 where
  answers : List ℕ → List ℕ → List ℕ → Answer → Example
  prints : List ℕ → List ℕ → List ℕ → List ℕ → Example
  spells : ℕ → List ℕ → Example

examples : List Example
examples =
    -- c: the line 0 0 0 12
    answers setting true_ticket challenge (answer 0 0 0 12)
    ∷ prints setting true_ticket challenge (48 ∷ 32 ∷ 48 ∷ 32 ∷ 48 ∷ 32 ∷ 49 ∷ 50 ∷ 10 ∷ [])
    -- a setting file of 19 bytes and one of 21, and one as it was before there was a rounding number, of 16
    ∷ answers (take 19 setting) true_ticket challenge (answer 1 0 0 0)
    ∷ answers (setting ++ (0x00 ∷ [])) true_ticket challenge (answer 1 0 0 0)
    ∷ answers (take 16 setting) true_ticket challenge (answer 1 0 0 0)
    -- the ticket that is true with o = 5, with o = 5, with o = 0, and with o = 10; o = 1,280, whose second byte is 5
    ∷ answers (rounded 5) rounded_ticket challenge (answer 0 0 0 12)
    ∷ answers setting rounded_ticket challenge (answer 12 0 0 8)
    ∷ answers (rounded 10) rounded_ticket challenge (answer 19 0 0 0)
    ∷ answers (take 16 setting ++ (0x00 ∷ 0x05 ∷ 0x00 ∷ 0x00 ∷ [])) rounded_ticket challenge (answer 19 0 0 0)
    -- no ticket
    ∷ answers setting [] challenge (answer 4 0 0 0)
    -- a challenge file of 7 bytes and one of 9, and none
    ∷ answers setting true_ticket (take 7 challenge) (answer 10 0 0 0)
    ∷ answers setting true_ticket (challenge ++ (0x00 ∷ [])) (answer 10 0 0 0)
    ∷ answers setting true_ticket [] (answer 10 0 0 0)
    -- a vector of zeros, and one with one zero
    ∷ answers setting true_ticket (0x00 ∷ 0x00 ∷ 0x00 ∷ 0x00 ∷ 0x00 ∷ 0x00 ∷ 0x00 ∷ 0x00 ∷ []) (answer 21 0 0 0)
    ∷ answers setting true_ticket (0x00 ∷ 0x00 ∷ 0x00 ∷ 0x00 ∷ 0x02 ∷ 0x00 ∷ 0x00 ∷ 0x00 ∷ []) (answer 0 0 0 12)
    -- a ticket of another length comes before a challenge file of another length
    ∷ answers setting (take 127 true_ticket) (take 7 challenge) (answer 4 0 0 0)
    -- no file: the line 1 0 0 0
    ∷ answers [] [] [] (answer 1 0 0 0)
    ∷ prints [] [] [] (49 ∷ 32 ∷ 48 ∷ 32 ∷ 48 ∷ 32 ∷ 48 ∷ 10 ∷ [])
    ∷ spells 0 (48 ∷ [])
    ∷ spells 9 (57 ∷ [])
    ∷ spells 10 (49 ∷ 48 ∷ [])
    ∷ spells 4_294_967_295 (52 ∷ 50 ∷ 57 ∷ 52 ∷ 57 ∷ 54 ∷ 55 ∷ 50 ∷ 57 ∷ 53 ∷ [])
    ∷ []

by_rules : Example → Example
by_rules (answers s t c _) = answers s t c (file_check s t c)
by_rules (prints s t c _) = prints s t c (line_of (file_check s t c))
by_rules (spells n _) = spells n (decimal n)

examples_hold : map by_rules examples ≡ examples
unfolding modulus least_residue signed_entry int_sum first scan after first_failed sizes_within scale_and_bound_within numbers_within fits_width
    limit_tests setting_tests is_entry shifted_quotient parts part count start records ticket_length holder value_at formed part_tests
    record_tests first_refusal records_reading reading value_in entry_a entry_b quotient remainder claim has_bias bias_bound bias_columns
    bias_within rounding_within entry_bias list_number first_nonzero vector_number list_reading product_b claim_side operand_side_by balanced_by
    first_row verdict challenge_check word_at setting_of numbers_of file_check digits_of decimal field line_of rounded setting true_ticket
    rounded_ticket challenge examples by_rules
examples_hold = refl
