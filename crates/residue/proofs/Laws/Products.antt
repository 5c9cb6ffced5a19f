-- Sums of products in two words: what a loop over `ProductSum` cites.
--
--   product_below   the product of two numbers of k bits has at most 2k bits
--   Words k f l h   the words l and h are small, and l + 2^31 · h is the sum of the first k values of f
--   HoldsSum k f l h   the same, with its numbers shut in
--   holds_none      the words 0 and 0 hold the sum of no values
--   holds_more      one more value of 64 bits is added exactly, up to 2^31 of them
--   holds_exact     the sum that the words hold
--   holds_with      the sum with a last number added
--   folded          modulo p = 2^31 - 1, two words are the sum of their low 31 bits and what stands above these
use Rattle.std.specs.Prelude.{◌≡◌, ℕ, ◌+◌, ◌-◌, ◌*◌, ◌/◌, ◌%◌, ◌^◌, ◌<◌, ◌≤◌}
use Rattle.std.proofs.Common.{le_of_lt, lt_of_le_of_lt, mul-le-mul_left, mul-lt-mul_of_pos_right, mod-eq_of_lt, arith, ap, ◌∙◌, pow_pos, pow-add}
use Rattle.residue.specs.Rules.{sum, WithNumber}
use Rattle.residue.proofs.Laws.Modulo.{mod_of_multiples}
use Rattle.residue.proofs.Laws.Sums.{sum_none, sum_more}

pub product_below : (k : ℕ) {a b : ℕ} → a < 2 ^ k → b < 2 ^ k → a * b < 2 ^ (k + k)
product_below k {a} {b} ha hb =
    rw (pow-add 2 k k) (lt_of_le_of_lt (mul-le-mul_left a (le_of_lt hb)) (mul-lt-mul_of_pos_right ha (pow_pos k)))

pub record Words (k : ℕ) (f : ℕ → ℕ) (low high : ℕ) : Type 0 where
  pub low_small : low ≤ k * (2 ^ 31 - 1)
  pub high_small : high ≤ k * (2 ^ 33 - 1)
  pub exact : low + 2 ^ 31 * high ≡ sum k f

-- a constructor around the record keeps its large numbers out of a loop's arithmetic
pub data HoldsSum : ℕ → (ℕ → ℕ) → ℕ → ℕ → Type 0 where
  holds : {k : ℕ} {f : ℕ → ℕ} {low high : ℕ} → Words k f low high → HoldsSum k f low high

pub holds_none : (f : ℕ → ℕ) {low high : ℕ} → (low ≡ 0) × (high ≡ 0) → HoldsSum 0 f low high
holds_none f {low} {high} none =
    let words : Words 0 f low high = omega (arith, sum_none f) in
    holds words

module _ {k : ℕ} {f : ℕ → ℕ} {low high n low' high' : ℕ} (few : k < 2 ^ 31) (fits : n < 2 ^ 64) where
  words_with : Words k f low high → WithNumber low high n low' high'
      → (low' ≡ low + n % 2 ^ 31) × (high' ≡ high + n / 2 ^ 31)
  words_with words added = (added.low_is ∙ mod-eq_of_lt (omega arith), added.high_is ∙ mod-eq_of_lt (omega arith))

  pub holds_more : f k ≡ n → HoldsSum k f low high → WithNumber low high n low' high' → HoldsSum (k + 1) f low' high'
  holds_more term (holds words) added =
      let new = words_with words added in
      let more : Words (k + 1) f low' high' = omega (arith, sum_more k f) in
      holds more

  pub holds_with : HoldsSum k f low high → WithNumber low high n low' high' → low' + 2 ^ 31 * high' ≡ sum k f + n
  holds_with (holds words) added =
      let new = words_with words added in
      omega (arith, words.exact)

pub holds_exact : {k : ℕ} {f : ℕ → ℕ} {low high : ℕ} → HoldsSum k f low high → low + 2 ^ 31 * high ≡ sum k f
holds_exact (holds words) = words.exact

pub folded : (p low high : ℕ) → p + 1 ≡ 2 ^ 31
    → (low % 2 ^ 31 + low / 2 ^ 31 + (high % 2 ^ 31 + high / 2 ^ 31)) % p ≡ (low + 2 ^ 31 * high) % p
folded p low high e =
    let more = low / 2 ^ 31 + high / 2 ^ 31 + high in
    mod_of_multiples p (low % 2 ^ 31 + low / 2 ^ 31 + (high % 2 ^ 31 + high / 2 ^ 31)) (low + 2 ^ 31 * high)
    more 0 (omega (arith, ap (λ n. n * more) e))
