-- The tests of a record as the code makes them without a branch: a value is in range where it is none of some numbers.
--
--   row_passing b F a r c  the same of the record in row r, column c, where record a is the first of the row
--   range_by              a value below p is in range exactly when, by a difference that wraps, it is none of the numbers between the
--                         two ends of the range
--   record_passing        a record's tests as the code makes them
--   rows_passing          the records up to the end of a row pass
--   passed_part           all records pass: the answer of the part
use Rattle.std.specs.Prelude.{◌≡◌, ℕ, ◌+◌, ◌-◌, ◌*◌, ◌%◌, ◌^◌, ◌<◌, Bool, true, ◌&&◌, List, nat_le, nat_lt}
use Rattle.std.proofs.Math.Decide.{dec_le}
use Rattle.std.proofs.Common.{mod-eq_of_lt, arith, sym, ◌∙◌, le-ltb}
use Rattle.std.proofs.Math.Bool.{and-false}
use Rattle.std.proofs.Math.Arith.{digits_div, digits_mod}
use Rattle.residue.specs.Rules.{modulus}
use Rattle.residue.proofs.Laws.Modulo.{mod_once}
use Rattle.residue.proofs.Laws.Modulus.{modulus_below}
use Rattle.ticket.specs.Rules.{formed, value_at, refusal}
use Rattle.ticket.specs.Laws.All.{all}
use Rattle.ticket.proofs.Laws.All.{all_at, all_cong, all_split}
use Rattle.ticket.proofs.Laws.Limits.{both}
use Rattle.ticket.specs.Laws.Forms.{range_test, tested_at, tested, part_answer, Ranged}
use Rattle.ticket.proofs.Laws.Scans.{refusal_none}
use Rattle.ticket.proofs.Laws.Tests.{holding_number, same_test}
use Rattle.ticket.specs.Laws.Tests.{none, one}
use Rattle.ticket.specs.declared.records.Form.{Form}
use Rattle.ticket.specs.Laws.Passing.{passing_at, passing, row_passing}

pub range_by : (F : Form) → Ranged F → (v difference : ℕ) → v < modulus → difference < 2 ^ 32
    → (difference + (F.limit - F.shift)) % 2 ^ 32 ≡ v
    → nat_le (modulus - F.limit) difference ≡ range_test F v
range_by F range v difference l ds e =
    let order = range.shift in
    let small = range.limit in
    let p = modulus_below in
    elim (dec_le modulus (v + F.shift)) [
      | yes h ↦ rw (mod_once modulus (v + F.shift) h (omega arith)) (same_test _ difference _ F.limit (λ g. omega arith) (λ g. omega arith))
      | no h ↦
          let below : v + F.shift < modulus = omega arith in
          rw (mod-eq_of_lt below) (same_test _ difference _ F.limit (λ g. omega arith) (λ g. omega arith))
    ]

pub record_passing : (b : List ℕ) (F : Form) (k row column : ℕ) {form least ranged : Bool} {v : ℕ}
    → form ≡ formed b k F.kind row column → v ≡ value_at b k → least ≡ nat_lt v modulus → (v < modulus → ranged ≡ range_test F v)
    → (form && least && ranged) ≡ passing_at b F k row column
unfolding passing_at
record_passing b F k row column {form} {v = v} ef ev el er =
    elim (dec_le modulus v) [
      | yes h ↦ rw (← ev, el, le-ltb v modulus h, and-false form, and-false (formed b k F.kind row column))
      | no h ↦ rw (ef, ← ev, el, er (omega arith))
    ]

pub rows_passing : (b : List ℕ) (F : Form) (row : ℕ) {start : ℕ} {before here : Bool} → start ≡ row * F.columns
    → before ≡ all start (passing b F)
    → here ≡ all F.columns (row_passing b F start row)
    → (before && here) ≡ all (start + F.columns) (passing b F)
rows_passing b F row {start} s e h =
    let n = F.columns in
    let row_is = all_cong n (row_passing b F start row) (λ k. passing b F (start + k)) (λ k l. sym (rw (s, digits_div row l, digits_mod row l))) in
    rw (e, h, row_is) (sym (all_split start n (passing b F)))

pub passed_part : (b : List ℕ) (F : Form) (start : ℕ) {passed : Bool} → passed ≡ all (F.rows * F.columns) (passing b F) → passed ≡ true
    → refusal 0 0 ≡ part_answer F start b
unfolding passing_at tested_at
passed_part b F start e t =
    sym (refusal_none start (F.rows * F.columns) (tested b F) (λ k l.
    let two = both _ _ (all_at (F.rows * F.columns) (passing b F) (sym e ∙ t) k l) in
    let first = both _ _ two.0 in
    holding_number (one first.0 (one first.1 (one two.1 none)))))
