-- Products with a vector, as the code makes them from shifted factors.
--
--   dot_more          with a number added to o, it is that added modulo p
--   side_made         with the shift taken off, that is the sum of the integers that l holds shifted, times x, modulo p
--   offset_small      an offset is at most 2^62
--   Reached o f n s   s is o plus the sum of the first n values of f
--   reached_none, reached_more, reached_all   no value is added yet, one more, and all
--   reduced           the least residue of a number by another form of that
--   offset_made, offset_fits   an offset as the code makes it; it fits 64 bits
--   held_all, held_with   the sum that two words hold, when all values are added; with a last number
--   total_fits        the sum of a vector fits 64 bits
--   term_fits, term_more   so does its product with a 32-bit number, and one such product more is added in two words
--   NarrowFactors l x o  these are below 2^16, and o is small
--   dot_small, dot_none  the sum of products of records is below p, and 0 where there are none
--   narrow_fits, narrow_more   then the sum of o and the products fits 64 bits, and one product more is added
--   narrow_product, narrow_total   the same of the product and of the sum, as the code asks for it
--   records_ready     then each row can be multiplied
use Rattle.std.specs.Prelude.{ℕ, ◌+◌, ◌-◌, ◌*◌, ◌%◌, ◌≤◌, ◌<◌, ◌^◌, ◌≡◌, List, ℤ, pos, ◌+ℤ◌, ◌*ℤ◌, length, get_or}
use Rattle.std.proofs.Common.{mod-lt, mod-eq_of_lt, mul-le-mul, arith, sym, ◌∙◌}
use Rattle.std.proofs.Math.Nat.{mod-add-mod}
use Rattle.std.proofs.Math.Path.{ap}
use Rattle.residue.specs.Rules.{modulus, least_residue, sum, WithNumber}
use Rattle.residue.proofs.Laws.Modulus.{modulus_below}
use Rattle.residue.proofs.Laws.Modulus.PartnerModuli.{modulus_positive}
use Rattle.residue.proofs.Laws.Products.{product_below, HoldsSum, holds_more, holds_exact, holds_with}
use Rattle.residue.proofs.Laws.Residues.{residue_of_natural}
use Rattle.residue.proofs.Laws.Sums.{sum_none, sum_more, sum_below}
use Rattle.algebra.specs.Rules.{int_sum}
use Rattle.algebra.proofs.Laws.IntegerSums.{int_sum_cong}
use Rattle.algebra.proofs.Laws.Positions.{row_inside}
use Rattle.ticket.specs.Rules.{most_inner}
use Rattle.challenge.specs.Laws.Shifts.{taken_off}
use Rattle.challenge.proofs.Laws.Shifts.{shift_off, narrow_term}
use Rattle.challenge.specs.Laws.Products.{terms, dot_of, offset_of, dot_with, WordVector, RecordsReady, DotReady, NarrowFactors, ProductReady}

pub dot_small : (bytes : List ℕ) (start : ℕ) (x : List ℕ) → dot_of bytes start x < modulus
unfolding dot_of
dot_small bytes start x = mod-lt _ modulus_positive

pub dot_none : (bytes : List ℕ) (start : ℕ) (x : List ℕ) → length x ≡ 0 → 0 ≡ dot_of bytes start x
unfolding dot_of
dot_none bytes start x none = sym (rw none (ap (λ n. n % modulus) (sum_none (terms bytes start x)) ∙ mod-eq_of_lt modulus_positive))

pub dot_more : (offset more : ℕ) (list x : List ℕ) → dot_with (offset + more) list x ≡ (dot_with offset list x + more) % modulus
unfolding dot_with
dot_more offset more list x =
    let s = sum (length x) (λ j. get_or list j 0 * get_or x j 0) in
    ap (λ n. n % modulus) (omega arith) ∙ sym (mod-add-mod (offset + s) modulus more)

pub side_made : (s n : ℕ) (z : ℕ → ℤ) (x : ℕ → ℕ) (list v : List ℕ) → s ≤ modulus → length v ≡ n
    → ((j : ℕ) → j < n → get_or v j 0 ≡ x j) → ((j : ℕ) → j < n → pos (get_or list j 0) ≡ z j +ℤ pos s)
    → dot_with (offset_of s v) list v ≡ least_residue modulus (int_sum n (λ j. z j *ℤ pos (x j)))
unfolding dot_with
side_made s n z x list v most size same shifted =
    shift_off modulus modulus_positive s (length v) z (λ j. get_or list j 0) (λ j. get_or v j 0) (λ j l. shifted j (omega arith)) most
    ∙ ap (λ m. least_residue modulus (int_sum m (λ j. z j *ℤ pos (get_or v j 0)))) size
    ∙ ap (least_residue modulus) (int_sum_cong n _ _ (λ j l. ap (λ m. z j *ℤ pos m) (same j l)))

pub offset_small : (shift n : ℕ) (x : ℕ → ℕ) → taken_off modulus shift n x ≤ 2 ^ 62
unfolding taken_off
offset_small shift n x =
    let a : modulus - shift ≤ 2 ^ 31 = omega (arith, modulus_below) in
    let b : sum n x % modulus ≤ 2 ^ 31 = omega (arith, modulus_below, mod-lt (sum n x) modulus_positive) in
    omega (arith, mul-le-mul a b)

abbrev pub Reached : ℕ → (ℕ → ℕ) → ℕ → ℕ → Type 0
Reached offset f n s = s ≡ offset + sum n f

pub reached_none : (offset : ℕ) (f : ℕ → ℕ) → Reached offset f 0 offset
reached_none offset f = omega (arith, sum_none f)

pub reached_more : (offset : ℕ) (f : ℕ → ℕ) {n s more : ℕ} → Reached offset f n s → more ≡ f n → Reached offset f (n + 1) (s + more)
reached_more offset f {n} reached e = omega (arith, reached, sum_more n f)

pub reached_all : (offset : ℕ) (f : ℕ → ℕ) (n : ℕ) {k s : ℕ} → Reached offset f k s → k ≤ n → n ≤ k → s ≡ offset + sum n f
reached_all offset f n {k} reached l m =
    let same : k ≡ n = omega arith in
    reached ∙ ap (λ i. offset + sum i f) same

pub reduced : {r s t : ℕ} → r ≡ least_residue modulus (pos s) → s ≡ t → r ≡ t % modulus
reduced {s = s} e same = e ∙ residue_of_natural modulus modulus_positive s ∙ ap (λ n. n % modulus) same

module _ (shift n : ℕ) (x : ℕ → ℕ) {p k total r : ℕ} (p-is : p ≡ modulus) (reached : Reached 0 x k total) (l : k ≤ n) (m : n ≤ k)
    (r-is : r ≡ least_residue modulus (pos total)) where
  pub offset_made : (p - shift) * r ≡ taken_off modulus shift n x
  unfolding taken_off
  offset_made =
      ap (λ q. (q - shift) * r) p-is ∙ ap (λ q. (modulus - shift) * q) (reduced r-is (reached_all 0 x n reached l m ∙ omega arith))

  pub offset_fits : (p - shift) * r < 2 ^ 64
  offset_fits = rw offset_made (omega (arith, offset_small shift n x))

-- two words that hold all values, and with a last number added

module _ {f : ℕ → ℕ} {n k low high : ℕ} (held : HoldsSum k f low high) (l : k ≤ n) (m : n ≤ k) where
  pub held_all : low + 2 ^ 31 * high ≡ sum n f
  held_all = let all : k ≡ n = omega arith in rw all at (holds_exact held)

  pub held_with : {o low' high' : ℕ} → n ≤ most_inner → o < 2 ^ 64 → WithNumber low high o low' high' → low' + 2 ^ 31 * high' ≡ o + sum n f
  held_with few fits added =
      let all : k ≡ n = omega arith in
      omega (arith, rw all at (holds_with (omega arith) fits held added))

-- sums of products in two words, of 64 bits, and in one

module _ {x : List ℕ} (vector : WordVector x) {j : ℕ} (l : j < length x) where
  word_is : get_or x j 0 % 2 ^ 32 ≡ get_or x j 0
  word_is = mod-eq_of_lt (vector.below j l)

  pub total_fits : {s : ℕ} → Reached 0 (λ i. get_or x i 0) j s → s + get_or x j 0 < 2 ^ 64
  total_fits reached =
      omega (
        arith,
        sum_below (j + 1) (2 ^ 32) (λ i. get_or x i 0) (λ i m. omega (arith, vector.below i (omega arith))),
        sum_more j (λ i. get_or x i 0),
        vector.short,
      )

  module _ {v : ℕ} (small : v < 2 ^ 32) where
    pub term_fits : v * (get_or x j 0 % 2 ^ 32) < 2 ^ 64
    term_fits = product_below 32 small (mod-lt (get_or x j 0) (omega arith))

    pub term_more : {f : ℕ → ℕ} {low high low' high' : ℕ} → f j ≡ v * get_or x j 0 → HoldsSum j f low high
        → WithNumber low high (v * (get_or x j 0 % 2 ^ 32)) low' high' → HoldsSum (j + 1) f low' high'
    term_more term = holds_more (omega (arith, vector.short)) term_fits (term ∙ ap (λ n. v * n) (sym word_is))

module _ {list x : List ℕ} {offset : ℕ} (ready : DotReady list x) (narrow : NarrowFactors list x offset)
    {j s : ℕ} (l : j < length x) (reached : Reached offset (λ i. get_or list i 0 * get_or x i 0) j s) where
  pub narrow_fits : (get_or list j 0 * (get_or x j 0 % 2 ^ 32) ≤ 2 ^ 48) × (s + get_or list j 0 * (get_or x j 0 % 2 ^ 32) < 2 ^ 63)
  narrow_fits =
      rw (word_is ready.vector l) (
        narrow_term (narrow.small j l) (ready.vector.below j l),
        omega (
          arith,
          sum_below (j + 1) (2 ^ 48) (λ i. get_or list i 0 * get_or x i 0)
              (λ i m. narrow_term (narrow.small i (omega arith)) (ready.vector.below i (omega arith))),
          sum_more j (λ i. get_or list i 0 * get_or x i 0),
          ready.vector.short,
          narrow.offset_most,
        ),
      )

  pub narrow_product : get_or list j 0 * (get_or x j 0 % 2 ^ 32) < 2 ^ 64
  narrow_product = omega (arith, narrow_fits)

  pub narrow_total : s + get_or list j 0 * (get_or x j 0 % 2 ^ 32) < 2 ^ 64
  narrow_total = omega (arith, narrow_fits)

  pub narrow_more : Reached offset (λ i. get_or list i 0 * get_or x i 0) (j + 1) (s + get_or list j 0 * (get_or x j 0 % 2 ^ 32))
  narrow_more = reached_more offset (λ i. get_or list i 0 * get_or x i 0) reached (ap (λ n. get_or list j 0 * n) (word_is ready.vector l))

pub records_ready : {bytes x : List ℕ} {rows k : ℕ} → ProductReady bytes rows x → k < rows → RecordsReady bytes (k * length x) x
records_ready {bytes} {x} ready l =
    record { vector = ready.vector; long = omega (arith, ready.long, row_inside (length x) l) }
