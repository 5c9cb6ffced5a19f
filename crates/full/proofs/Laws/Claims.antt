-- The claims of a ticket, by the lists that it is decoded to.
--
--   small_space         so it is for a ticket whose operands and claims are few
--   ListsHold G t A B y   A and B hold the entries of the operands, row by row and column by column, and y the claims for the sums,
--                       lifted
--   lists_hold          so they do for a ticket that passes
--   lifting_is          the lift that is added to them is the setting's, and has 31 bits
--   sums_verdict        the answer of its sums is the verdict
use Rattle.std.specs.Prelude.{◌≡◌, ℕ, ◌+◌, ◌*◌, ◌%◌, ◌^◌, ◌<◌, ◌≤◌, List, length, get_or, ℤ, pos, ◌+ℤ◌, ◌-ℤ◌, slice_index_or, unsigned_abs}
use Rattle.std.proofs.Math.Decide.{ℕ_discrete}
use native.Mathlib.Omega.{arith}
use Rattle.std.proofs.Math.Path.{sym, ap}
use Rattle.std.proofs.Common.{◌∙◌}
use borrow.Author.Tests.{eq-eqb, ne_eqb}
use Rattle.std.proofs.Math.Arith.{digits_div, digits_mod}
use Rattle.residue.specs.Rules.{least_residue}
use Rattle.residue.proofs.Laws.Modulus.{modulus_below}
use Rattle.residue.proofs.Laws.Residues.{residue_of_residue, residue_sum}
use Rattle.algebra.specs.Rules.{matrix_product}
use Rattle.algebra.specs.Laws.Fills.{Filled}
use Rattle.algebra.proofs.Laws.Positions.{row_inside, by_rows}
use Rattle.exact.specs.Laws.Matrices.{Turned}
use Rattle.exact.proofs.Laws.Matrices.{turned_at, sums_exact}
use Rattle.ticket.specs.declared.setting.Setting.{Setting}
use Rattle.ticket.specs.Rules.{answer, scan, part, part_size, of_a, of_b, of_bias, of_quotients, of_remainders}
use Rattle.ticket.specs.Rules.{half_range, entry_a, entry_b, entry_bias, claim, due}
use Rattle.ticket.specs.Laws.Decodes.{decoded_count, claim_count, narrow_at, lifted_at, LessList}
use Rattle.ticket.proofs.Laws.Decodes.{SumClaims}
use Rattle.ticket.proofs.Laws.Decodes.ClaimsLess.{claims_lifted, claims_less, entries_a, entries_b}
use Rattle.ticket.proofs.Laws.Differences.{biased_sum_is}
use Rattle.ticket.proofs.Laws.Differences.ClaimsClose.{claims_close}
use Rattle.ticket.specs.Laws.Layout.{part_bytes}
use Rattle.ticket.proofs.Laws.Layout.{parts_are}
use Rattle.ticket.proofs.Laws.Lifts.{lifted_decides}
use Rattle.ticket.specs.Laws.Limits.{lift, clamped}
use Rattle.ticket.proofs.Laws.Limits.{lift_made, lift_small, clamped_same}
use Rattle.ticket.specs.Laws.Passes.{Passed}
use Rattle.ticket.specs.Laws.Runs.{steps_answer}
use Rattle.ticket.proofs.Laws.Scans.{scan_cong}
use Rattle.full.specs.Rules.{holds, untrue, full_verdict}
use Rattle.full.proofs.Laws.Same.{same_equal, same_other}
use Rattle.full.specs.Laws.Sums.{line_sum, sum_steps}
use Rattle.full.specs.Laws.Claims.{Space}

pub record ListsHold (G : Setting) (t : List ℕ) (A B : List ℤ) (claims : List ℕ) : Type 0 where
  pub rows_long : G.rows * G.inner ≤ length A
  pub columns_long : G.columns * G.inner ≤ length B
  pub row : (i k : ℕ) → i < G.rows → k < G.inner → slice_index_or A (i * G.inner + k) (pos 0) ≡ entry_a G t i k
  pub column : (k j : ℕ) → k < G.inner → j < G.columns → slice_index_or B (j * G.inner + k) (pos 0) ≡ entry_b G t k j
  pub claimed : SumClaims G t claims

module _ {G : Setting} {t : List ℕ} (passed : Passed G t) where
  pub small_space : {a b c n : ℕ} → a ≡ part_size (part (clamped G) of_a) → b ≡ part_size (part (clamped G) of_b)
      → c ≡ part_size (part (clamped G) of_quotients) → a ≤ n → b ≤ n → c ≤ n → Space G n n n
  small_space {n = n} a-is b-is c-is few-a few-b few-c =
      let same = clamped_same passed.counts.sizes passed.numbers in
      let are = parts_are G in
      let few : (G.rows * G.inner ≤ n) × (G.inner * G.columns ≤ n) × (G.rows * G.columns ≤ n) =
      omega (arith, rw same at a-is, rw same at b-is, rw same at c-is, are.size_a, are.size_b, are.size_quotients) in
      record { rows = (few.0, few.1); columns = few.1; claims = few.2 }

  module _ {a b q r d : List ℕ} {half : ℕ} {A A' A'' B B' : List ℤ} {y y' y'' : List ℕ}
      (space : Space G (length A'') (length B') (length y''))
      (a-is : a ≡ part_bytes (clamped G) t of_a) (b-is : b ≡ part_bytes (clamped G) t of_b)
      (q-is : q ≡ part_bytes (clamped G) t of_quotients) (r-is : r ≡ part_bytes (clamped G) t of_remainders) (d-is : d ≡ part_bytes (clamped G) t of_bias)
      (half_is : half ≡ half_range (clamped G))
      (entries-of-B : Filled (pos 0) A'' (decoded_count b (length A'')) (narrow_at b) A')
      (turned : Turned A' G.inner G.columns B' B)
      (entries-of-A : Filled (pos 0) A' (decoded_count a (length A')) (narrow_at a) A)
      (claims : Filled 0 y'' (claim_count q r (length y'')) (lifted_at q r half G.scale) y') (less : LessList d y' y) where
    pub lists_hold : ListsHold G t A B y
    lists_hold =
        let room_a : G.rows * G.inner ≤ length A' = omega (arith, space.rows, entries-of-B.long) in
        let room_b : G.inner * G.columns ≤ length A' = omega (arith, space.rows, entries-of-B.long) in
        record {
          rows_long = omega (arith, entries-of-A.long);
          columns_long = omega (arith, (turned.turned room_b space.columns).long, space.columns);
          row = entries_a passed entries-of-A a-is room_a;
          column = λ k j l m.
              turned_at turned room_b space.columns k j l m ∙ entries_b passed entries-of-B b-is space.rows.1 k j l m;
          claimed = claims_less passed d-is (claims_lifted passed q-is r-is half_is space.claims claims) less;
        }

  pub lifting_is : {half n : ℕ} → half ≡ half_range (clamped G) → n ≡ half * (clamped G).scale + G.rounding → (n ≡ lift G) × (n < 2 ^ 31)
  lifting_is half_is made =
      let is = lift_made passed.counts.sizes passed.numbers passed.fitted half_is made in (is.0, omega (arith, is.1, modulus_below))

  module _ {A B : List ℤ} {y : List ℕ} (holding : ListsHold G t A B y) where
    -- the test of a sum is that of its claim
    test_alike : (i j : ℕ) → i < G.rows → j < G.columns → (sum_steps G A B y).holds (i * G.columns + j) ≡ holds G t (i * G.columns + j)
    unfolding holds
    test_alike i j l m =
        let x = (line_sum A B G.inner i j + lift G) % 2 ^ 32 in
        let z = get_or y (i * G.columns + j) 0 in
        let C = claim G t i j in
        let S = due G t i j in
        let P = matrix_product G.inner (entry_a G t) (entry_b G t) i j in
        let c = entry_bias G t i j in
        let word : 0 < 2 ^ 32 = omega arith in
        let exact = sums_exact G.inner A B (entry_a G t) (entry_b G t) i j (omega (arith, row_inside G.inner l, holding.rows_long))
        (omega (arith, row_inside G.inner m, holding.columns_long)) (λ k h. holding.row i k l h) (λ k h. holding.column k j h m) in
        let sum : x ≡ least_residue (2 ^ 32) (P +ℤ pos (lift G)) =
        rw exact (sym (residue_sum (2 ^ 32) word P (pos (lift G))
        ∙ rw (residue_of_residue (2 ^ 32) word (lift G) (omega (arith, lift_small passed.numbers passed.fitted, modulus_below))))) in
        let due-is = biased_sum_is G (entry_a G t) (entry_b G t) (entry_bias G t) i j in
        let close : unsigned_abs (C -ℤ (P +ℤ c)) < 2 ^ 32 = omega (arith, rw due-is at (claims_close passed i j l m), modulus_below) in
        let decides = lifted_decides (2 ^ 32) word (lift G) P C c close sum (holding.claimed.each i j l m) in
        rw (digits_div i m, digits_mod i m)
        (elim (ℕ_discrete x z) [
          | yes e ↦ eq-eqb x z e ∙ sym (same_equal C S (decides.0 e ∙ sym due-is))
          | no d ↦ ne_eqb x z d ∙ sym (same_other C S (λ e. d (decides.1 (e ∙ due-is))))
        ])

    pub sums_verdict : steps_answer (sum_steps G A B y) ≡ full_verdict G t
    unfolding full_verdict
    sums_verdict =
        let S = sum_steps G A B y in
        let alike = by_rows (λ c. S.holds c ≡ holds G t c) G.columns test_alike in
        scan_cong (G.rows * G.columns) _ _ (untrue G) _ alike ∙ ap (λ n. scan (G.rows * G.columns) (holds G t) (untrue G) (answer 0 0 0 n)) (omega arith)
