-- What operands give that pass the tests.
--
--   limits, unclamped      the setting is within its limits
--   lift_fits              its lift is a number of 32 bits
--   long_a, long_b, long_c   how many entries the operands and the bias have
--   small_a, small_b, small_c   the entries have at most 15 bits, those of the bias at most 30
--   size_a, size_b, size_c   they are at most their bound in size, by row and column
--   no_bias, bias_inside   without a bias there are no entries of it, and with one they are in every row and column of the claims
--   size_sum_for            what a claim is made for is at most as large as it can be
use Rattle.std.specs.Prelude.{◌≡◌, ℕ, ◌+◌, ◌*◌, ◌^◌, ◌<◌, ◌≤◌, false, List, length, ℤ, pos, slice_index_or, unsigned_abs}
use Rattle.std.proofs.Common.{arith, ap, ◌∙◌, ⊎_elim}
use Rattle.std.proofs.Math.Arith.{digits_lt}
use Rattle.std.proofs.Math.ListN.{get_or-eq_default}
use Rattle.residue.proofs.Laws.Modulus.{modulus_below}
use Rattle.ticket.specs.declared.setting.Setting.{Setting}
use Rattle.ticket.specs.Rules.{reach, half_range, bias_bound, bias_columns, has_bias}
use Rattle.ticket.proofs.Laws.Differences.ClaimsTrue.{size_sum_of}
use Rattle.ticket.proofs.Laws.Layout.{parts_are}
use Rattle.ticket.specs.Laws.Limits.{Within, clamped}
use Rattle.ticket.proofs.Laws.Limits.{limits_of, with_bias_lem, without_bias, lift_made}
use Rattle.ticket.proofs.Laws.Limits.BiasSmall.{bias_small}
use Rattle.ticket.proofs.Laws.First.{true_or_false}
use Rattle.writer.specs.Rules.{entry_of, sum_for}
use Rattle.writer.specs.Laws.Answers.{Writable}
use Rattle.writer.specs.Laws.Operands.{SmallEntries}

module _ {G : Setting} {A B C : List ℤ} (w : Writable G A B C) where
  pub limits : Within G
  limits = limits_of G w.setting

  pub lift_fits : {half n : ℕ} → half ≡ half_range (clamped G) → n ≡ half * (clamped G).scale + G.rounding → n < 2 ^ 32
  lift_fits half_is made = omega (arith, lift_made limits.sizes limits.numbers limits.fitted half_is made, modulus_below)

  pub long_a : length A ≡ G.rows * G.inner
  long_a = w.long_a ∙ (parts_are G).size_a

  pub long_b : length B ≡ G.inner * G.columns
  long_b = w.long_b ∙ (parts_are G).size_b

  pub long_c : length C ≡ G.rows * bias_columns G
  long_c = w.long_c ∙ (parts_are G).size_bias

  pub small_a : SmallEntries 15 A
  small_a = record { small = λ k l. omega (arith, w.within_a k l, limits.numbers.bound) }

  pub small_b : SmallEntries 15 B
  small_b = record { small = λ k l. omega (arith, w.within_b k l, limits.numbers.bound) }

  pub small_c : SmallEntries 30 C
  small_c = record { small = λ k l. omega (arith, w.within_c k l, bias_small limits.numbers limits.fitted, modulus_below) }

  pub size_a : (i k : ℕ) → i < G.rows → k < G.inner → unsigned_abs (entry_of G.inner A i k) ≤ G.bound
  size_a i k l m = w.within_a (i * G.inner + k) (omega (arith, long_a, digits_lt l m))

  pub size_b : (k j : ℕ) → k < G.inner → j < G.columns → unsigned_abs (entry_of G.columns B k j) ≤ G.bound
  size_b k j l m = w.within_b (k * G.columns + j) (omega (arith, long_b, digits_lt l m))

  pub no_bias : has_bias G ≡ false → (i : ℕ) → slice_index_or C i (pos 0) ≡ pos 0
  no_bias e i = get_or-eq_default C (pos 0) (omega (arith, long_c, ap (λ n. G.rows * n) (without_bias G e).1))

  pub size_c : (i j : ℕ) → i < G.rows → j < G.columns → unsigned_abs (entry_of (bias_columns G) C i j) ≤ bias_bound G
  size_c i j l m =
      ⊎_elim
      (λ e. let wide = (with_bias_lem G e).1 in
      let inside : j < bias_columns G = omega arith in
      w.within_c (i * bias_columns G + j) (omega (arith, long_c, digits_lt l inside)))
      (λ e. rw (no_bias e (i * bias_columns G + j)) (omega arith))
      (true_or_false (has_bias G))

  pub size_sum_for : (i j : ℕ) → i < G.rows → j < G.columns → unsigned_abs (sum_for G A B C i j) ≤ reach G
  size_sum_for i j l m =
      size_sum_of G (entry_of G.inner A) (entry_of G.columns B) (entry_of (bias_columns G) C) i j (λ k h. size_a i k l h) (λ k h. size_b k j h m)
      (size_c i j l m)
