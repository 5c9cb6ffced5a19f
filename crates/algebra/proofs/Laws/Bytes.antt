-- Numbers of four bytes, by the rule `word`.
--
--   bytes_of_word   the bytes of the number that four bytes make are the four
--   word_of_bytes   a number below 2^32 is the one that its bytes make
use Rattle.std.specs.Prelude.{ℕ, ◌+◌, ◌*◌, ◌/◌, ◌%◌, ◌^◌, ◌<◌, ◌≡◌, refl, Bool, true, false, ◌&&◌, eqb}
use Rattle.std.proofs.Common.{arith, sym, ap, ◌∙◌, eq-eqb, eqb-true}
use Rattle.std.proofs.Math.Bool.{and-eq-true_iff}
use Rattle.algebra.specs.Rules.{word}
pub mod WordEqb

module _ {a b c d : ℕ} (first : a < 256) (second : b < 256) (third : c < 256) (last : d < 256) where
  pub bytes_of_word : let n = word a b c d in
      (a ≡ n % 256) × (b ≡ n / 256 % 256) × (c ≡ n / 65_536 % 256) × (d ≡ n / 16_777_216 % 256)
  bytes_of_word =
      let n = word a b c d in
      let one : n / 256 ≡ b + 256 * c + 65_536 * d = omega arith in
      let two : n / 65_536 ≡ c + 256 * d = omega arith in
      let three : n / 16_777_216 ≡ d = omega arith in
      (omega arith, rw one (omega arith), rw two (omega arith), rw three (omega arith))

pub word_of_bytes : (n : ℕ) → n < 2 ^ 32 → word (n % 256) (n / 256 % 256) (n / 65_536 % 256) (n / 16_777_216 % 256) ≡ n
word_of_bytes n small =
    let third : n / 65_536 ≡ n / 256 / 256 = omega arith in
    let last : n / 16_777_216 ≡ n / 65_536 / 256 = omega arith in
    let top : n / 16_777_216 % 256 ≡ n / 16_777_216 = omega arith in
    omega arith

-- two tests that hold in the same cases are equal
same_tests : (x y : Bool) → (x ≡ true → y ≡ true) → (y ≡ true → x ≡ true) → x ≡ y
same_tests true y to from = sym (to refl)
same_tests false true to from = from refl
same_tests false false to from = refl
