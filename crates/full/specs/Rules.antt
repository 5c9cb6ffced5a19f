-- The full check (the reading and range checks, and test 16): the rules. They are all that a reader has to believe beside those of the
-- crates below; nothing is proved here. G is a setting, t the bytes of a ticket. The claims are counted row by row: claim c is in row c / n,
-- column c % n.
--
--   same x y           the integers x and y are equal
--   holds G t c        claim c is true
--   untrue G c         the answer where claim c is the first untrue one
--   full_accepted G     the answer where every claim is true
--   full_verdict G t    the answer of test 16
--   full_check G t      the answer of the full check
--   FullAccepted G t   its number is 0
use Rattle.std.specs.Prelude.{◌≡◌, ℕ, ◌+◌, ◌*◌, ◌/◌, ◌%◌, Bool, false, List, ℤ, pos, negsuc, ◌==◌}
use Rattle.ticket.specs.declared.setting.Setting.{Setting}
use Rattle.ticket.specs.declared.Answer.{Answer}
use Rattle.ticket.specs.Rules.{answer, scan, after, reading, sum_products, claim, due}

unfoldable pub same : ℤ → ℤ → Bool
same (pos a) (pos b) = a == b
same (negsuc a) (negsuc b) = a == b
same (pos a) (negsuc b) = false
same (negsuc a) (pos b) = false

unfoldable pub holds : Setting → List ℕ → ℕ → Bool
holds G t c =
    let i = c / G.columns in
    let j = c % G.columns in
    same (claim G t i j) (due G t i j)

abbrev pub untrue : Setting → ℕ → Answer
untrue G c = answer 16 c 0 (G.inner * (c + 1))

abbrev pub full_accepted : Setting → Answer
full_accepted G = answer 0 0 0 (sum_products G)

unfoldable pub full_verdict : Setting → List ℕ → Answer
full_verdict G t = scan (G.rows * G.columns) (holds G t) (untrue G) (full_accepted G)

unfoldable pub full_check : Setting → List ℕ → Answer
full_check G t = after (reading G t) (full_verdict G t)

abbrev pub FullAccepted : Setting → List ℕ → Type 0
FullAccepted G t = (full_check G t).number ≡ 0
