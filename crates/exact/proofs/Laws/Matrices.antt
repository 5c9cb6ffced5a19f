-- Matrices of 16-bit numbers as lists: turned, and multiplied.
--
--   turned_none, turned_further, turned_all   no number is there yet, one more, and all
--   turned_at              row k, column j of the matrix, where it stands in the turned list
--   row_sums_ended         it is so after the last sum, or before the first column that C has not whole
--   sums_exact             the product of a row and a column, as lines of two lists, is an entry of the product of matrices, modulo 2^32
--   row_sums_exact         and so is a sum of the row with columns
use Rattle.std.specs.Prelude.{◌≡◌, ℕ, zero, suc, ◌+◌, ◌*◌, ◌/◌, ◌%◌, ◌^◌, ◌<◌, ◌≤◌, ◌⊎◌, List, length, get_or, ℤ, pos, slice_index, slice_index_or, slice_set, refl}
use Rattle.std.proofs.Common.{zero-mul, mul-le-mul_right, div-add-mod', div-lt_iff_lt-mul, mod-lt, arith, sym, ap, ◌∙◌, inl, inr, ⊎_elim, length-set, get_or-set_same, get_or-set_other}
use Rattle.std.proofs.Math.Decide.{dec_lt, ℕ_discrete}
use Rattle.std.proofs.Math.Arith.{digits_div, digits_mod, digits_lt}
use Rattle.residue.specs.Rules.{least_residue}
use Rattle.algebra.specs.Rules.{matrix_product}
use Rattle.algebra.specs.Laws.Fills.{Filled, line_at}
use Rattle.algebra.proofs.Laws.Fills.{part_of, part_long, digits_same}
use Rattle.algebra.proofs.Laws.Positions.{row_inside}
use Rattle.algebra.proofs.Laws.MatrixProducts.{matrix_product_is}
use Rattle.exact.specs.Rules.{dot_product}
use Rattle.exact.proofs.Laws.Products.{dot_is}
use Rattle.exact.specs.Laws.Matrices.{place_before, turned_number, Turned, RowSums, TurnedTo, TurnedFurther}

-- row k, column j
place_of : {height k : ℕ} (width j : ℕ) → k < height → place_before height width (j * height + k) ≡ k * width + j
place_of width j l = rw (digits_mod j l, digits_div j l)

-- a place of the turned matrix by its column and its row
within_turned : {height width i : ℕ} → i < height * width → (i / height < width) × (i % height < height)
within_turned {height = zero} {width} l = absurd (omega (arith, zero-mul width))
within_turned {height = suc h} {width} {i} l =
    let inside : i < width * suc h = omega arith in
    ((div-lt_iff_lt-mul {k = suc h} (omega arith)).1 inside, mod-lt i (omega arith))

-- only one place holds row k, column j
place_once : (height width k j i : ℕ) → j < width → i < height * width → place_before height width i ≡ k * width + j → i ≡ j * height + k
place_once height width k j i m inside same =
    let both = digits_same width (within_turned inside).0 m same in
    omega (arith, div-add-mod' i height, both.0, ap (λ n. n * height) both.1)

module _ {matrix : List ℤ} {height width : ℕ} where
  pub turned_none : {before : List ℤ} → TurnedTo matrix height width 0 before before
  turned_none = record { long = refl; each = λ i l m. absurd (omega arith); rest = λ i l. refl }

  pub turned_further : {m k j at : ℕ} {value : ℤ} {before list : List ℤ} → k < height → j < width → height * width ≤ length before
      → at ≡ j * height + k → TurnedFurther matrix height width m (k * width + j) before list
      → value ≡ slice_index_or matrix (k * width + j) (pos 0) → TurnedFurther matrix height width m (k * width + (j + 1)) before (slice_set list at value)
  turned_further {k = k} {j} {value = value} {list = list} l m room e turned is =
      let at = j * height + k in
      let inside : at < length list = omega (arith, digits_lt m l, turned.long) in
      let there : place_before height width at ≡ k * width + j = place_of width j l in
      rw e (record {
        long = length-set list at value ∙ turned.long;
        turned = λ so_far. let now = turned.turned so_far in record {
          long = length-set list at value ∙ now.long;
          each = λ i within done. elim (ℕ_discrete i at) [
            | yes same ↦ rw same (get_or-set_same list at value (pos 0) inside ∙ is ∙ ap (λ n. get_or matrix n (pos 0)) (sym there))
            | no other ↦
                let earlier : place_before height width i ≡ k * width + j → ⊥ = λ same. other (place_once height width k j i m within same) in
                get_or-set_other list at i value (pos 0) other ∙ now.each i within (omega arith)
          ];
          rest = λ i beyond.
              get_or-set_other list at i value (pos 0)
              (λ same. ⊎_elim (λ past. omega (arith, digits_lt m l)) (λ later. omega (arith, ap (place_before height width) same ∙ there)) beyond)
              ∙ now.rest i (⊎_elim inl (λ later. inr (omega arith)) beyond);
        };
      })

  pub turned_all : {n : ℕ} {before list : List ℤ} → height * width ≤ n → TurnedTo matrix height width n before list
      → Filled (pos 0) before (height * width) (turned_number matrix height width) list
  turned_all {n} most turned =
      record {
        long = turned.long;
        each = λ i l. let at = within_turned l in turned.each i l (omega (arith, digits_lt at.1 at.0));
        rest = λ i past. turned.rest i (inl past);
      }

pub turned_at : {matrix : List ℤ} {height width : ℕ} {before list : List ℤ} → Turned matrix height width before list
    → height * width ≤ length matrix → height * width ≤ length before → (k j : ℕ) → k < height → j < width
    → slice_index_or list (j * height + k) (pos 0) ≡ slice_index_or matrix (k * width + j) (pos 0)
turned_at {matrix} {height} {width} turned room-matrix room-list k j l m =
    (turned.turned room-matrix room-list).each (j * height + k) (omega (arith, digits_lt m l)) ∙ ap (λ n. get_or matrix n (pos 0)) (place_of width j l)

pub row_sums_ended : {row columns : List ℤ} {before sums : List ℕ} {j : ℕ}
    → Filled 0 before j (λ i. dot_product row (line_at columns (length row) i)) sums → j * length row ≤ length columns
    → (length before ≤ j) ⊎ (length columns < j * length row + length row) → RowSums row columns before sums
row_sums_ended {row} {columns} {before} {sums} {j} filled whole ended =
    record {
      long = filled.long;
      each = λ i l inside. elim (dec_lt i j) [
        | yes m ↦ filled.each i m
        | no m ↦
            let further : j * length row ≤ i * length row = mul-le-mul_right (length row) (omega arith) in
            absurd (⊎_elim (λ e. omega arith) (λ e. omega arith) ended)
      ];
      rest = λ i beyond. elim (dec_lt i j) [
        | yes m ↦ absurd (omega (arith, row_inside (length row) m))
        | no m ↦ filled.rest i (omega arith)
      ];
    }

-- a line of numbers, whatever list it is from
line_exact : (m : ℕ) (x Y : List ℤ) (A B : ℕ → ℕ → ℤ) (i j : ℕ) → length x ≡ m → j * m + m ≤ length Y
    → ((k : ℕ) → k < m → slice_index_or x k (pos 0) ≡ A i k) → ((k : ℕ) → k < m → slice_index_or Y (j * m + k) (pos 0) ≡ B k j)
    → dot_product x (line_at Y m j) ≡ least_residue (2 ^ 32) (matrix_product m A B i j)
line_exact m x Y A B i j long inside row column =
    dot_is m x (line_at Y m j) (A i) (λ k. B k j) long (part_long Y (j * m) m inside) row (λ k l. part_of Y (j * m) m k (pos 0) l ∙ column k l)
    ∙ ap (least_residue (2 ^ 32)) (sym (matrix_product_is m A B i j))

pub sums_exact : (m : ℕ) (X Y : List ℤ) (A B : ℕ → ℕ → ℤ) (i j : ℕ) → i * m + m ≤ length X → j * m + m ≤ length Y
    → ((k : ℕ) → k < m → slice_index_or X (i * m + k) (pos 0) ≡ A i k) → ((k : ℕ) → k < m → slice_index_or Y (j * m + k) (pos 0) ≡ B k j)
    → dot_product (line_at X m i) (line_at Y m j) ≡ least_residue (2 ^ 32) (matrix_product m A B i j)
sums_exact m X Y A B i j inside-X inside-Y row column =
    line_exact m (line_at X m i) Y A B i j (part_long X (i * m) m inside-X) inside-Y (λ k l. part_of X (i * m) m k (pos 0) l ∙ row k l) column

pub row_sums_exact : {row Y : List ℤ} {before sums : List ℕ} → RowSums row Y before sums
    → (m : ℕ) (A B : ℕ → ℕ → ℤ) (i j : ℕ) → length row ≡ m → j < length before → j * m + m ≤ length Y
    → ((k : ℕ) → k < m → slice_index_or row k (pos 0) ≡ A i k) → ((k : ℕ) → k < m → slice_index_or Y (j * m + k) (pos 0) ≡ B k j)
    → slice_index sums j ≡ least_residue (2 ^ 32) (matrix_product m A B i j)
row_sums_exact {row} {Y} all m A B i j long l inside row_is column =
    (rw long at (all.each j)) l inside ∙ line_exact m row Y A B i j long inside row_is column
