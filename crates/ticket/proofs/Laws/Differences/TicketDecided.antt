-- What rests on Differences.
--
--   size_entry_a, size_entry_b   an entry is at most the bound in size
--   shifted_below, size_quotient   a shifted quotient is in its range, and a quotient is at most half of it in size
--   remainder_below, small_remainder   a remainder is a natural number below the scale
--   size_bias                  it is at most its bound in size
--   residue_entry_a, residue_entry_b, residue_bias, residue_quotient, residue_remainder   a record's value is the least residue of what
--                              it stands for
--   ticket_decided             a ticket is false in no column, or in some column (C7)
use Rattle.std.specs.Prelude.{◌≡◌, ℕ, ◌+◌, ◌/◌, ◌%◌, ◌^◌, ◌<◌, ◌≤◌, true, ◌⊎◌, List, pos, unsigned_abs, refl}
use Rattle.std.proofs.Math.Nat.{div-add-mod}
use Rattle.std.proofs.Common.{◌∙◌, inl, inr}
use native.Mathlib.Omega.{arith}
use Rattle.std.proofs.Math.Logic.{⊎_elim}
use borrow.Author.Tests.{leb-true, ltb-true}
use Rattle.residue.specs.Rules.{modulus, least_residue}
use Rattle.residue.proofs.Laws.Integers.{parts_difference}
use Rattle.residue.proofs.Laws.Residues.{residue_of_entry, residue_of_residue, residue_shift}
use Rattle.residue.proofs.Laws.Modulus.PartnerModuli.{modulus_positive}
use Rattle.ticket.specs.declared.setting.Setting.{Setting}
use Rattle.ticket.specs.Rules.{half_range, is_entry, shifted_quotient, parts, part, of_a, of_b, of_bias, of_quotients, of_remainders, bias_bound, bias_columns, value_in, entry_a, entry_b, entry_bias, quotient, remainder, claim, due, Untrue, FalseIn, has_bias}
use Rattle.ticket.proofs.Laws.First.{true_or_false, all_or_first}
use Rattle.ticket.proofs.Laws.Limits.{half_double, with_bias_lem}
use Rattle.ticket.proofs.Laws.Limits.ClampedSmall.{bias_there}
use Rattle.ticket.specs.Laws.Passes.{Passed}
use Rattle.ticket.proofs.Laws.Passes.{Valid, valid}
use Rattle.ticket.proofs.Laws.Differences.{bias_entry, claim_decided, no_bias_entry, size_between}

module _ {G : Setting} {t : List ℕ} (passed : Passed G t) where
  pub size_entry_a : (i k : ℕ) → i < G.rows → k < G.inner → unsigned_abs (entry_a G t i k) ≤ G.bound
  unfolding entry_a parts part is_entry
  size_entry_a i k l m = leb-true _ _ (valid passed of_a i k l m).in_range

  pub size_entry_b : (k j : ℕ) → k < G.inner → j < G.columns → unsigned_abs (entry_b G t k j) ≤ G.bound
  unfolding entry_b parts part is_entry
  size_entry_b k j l m = leb-true _ _ (valid passed of_b k j l m).in_range

  module _ (i j : ℕ) (l : i < G.rows) (m : j < G.columns) where
    valid_bias : has_bias G ≡ true → Valid (part G of_bias) (value_in G t of_bias i j)
    unfolding parts part
    valid_bias e = valid passed of_bias i j l (rw (with_bias_lem G e).1 m)

    pub size_bias : unsigned_abs (entry_bias G t i j) ≤ bias_bound G
    unfolding parts part is_entry
    size_bias =
        ⊎_elim
        (λ e. rw (bias_entry G t i j e) (leb-true _ _ (valid_bias e).in_range))
        (λ e. rw (no_bias_entry G t i j e) (omega arith))
        (true_or_false (has_bias G))

    pub shifted_below : shifted_quotient G.width (value_in G t of_quotients i j) < 2 ^ G.width
    unfolding parts part
    shifted_below = ltb-true _ _ (valid passed of_quotients i j l m).in_range

    pub size_quotient : unsigned_abs (quotient G t i j) ≤ half_range G
    unfolding quotient
    size_quotient =
        let shifted = shifted_quotient G.width (value_in G t of_quotients i j) in
        size_between (quotient G t i j) shifted (half_range G) (half_range G)
        (omega (arith, parts_difference (pos shifted) (pos (half_range G))))
        (omega (arith, shifted_below, half_double passed.numbers)) (omega arith)

    pub remainder_below : value_in G t of_remainders i j < G.scale
    unfolding parts part
    remainder_below = ltb-true _ _ (valid passed of_remainders i j l m).in_range

    pub small_remainder : (r : ℕ) × (r < G.scale) × (remainder G t i j ≡ pos r)
    unfolding remainder
    small_remainder = (value_in G t of_remainders i j, remainder_below, refl)

    pub residue_quotient : least_residue modulus (quotient G t i j) ≡ value_in G t of_quotients i j
    unfolding quotient shifted_quotient parts part
    residue_quotient =
        let value = value_in G t of_quotients i j in
        residue_shift modulus modulus_positive (quotient G t i j) (pos value) ((value + half_range G) / modulus) 0
        (omega (arith, parts_difference (pos ((value + half_range G) % modulus)) (pos (half_range G)), div-add-mod (value + half_range G) modulus))
        ∙ residue_of_residue modulus modulus_positive value (valid passed of_quotients i j l m).below

    pub residue_remainder : least_residue modulus (remainder G t i j) ≡ value_in G t of_remainders i j
    unfolding remainder parts part
    residue_remainder = residue_of_residue modulus modulus_positive _ (valid passed of_remainders i j l m).below

  pub residue_entry_a : (i k : ℕ) → i < G.rows → k < G.inner → least_residue modulus (entry_a G t i k) ≡ value_in G t of_a i k
  unfolding entry_a parts part
  residue_entry_a i k l m = residue_of_entry modulus modulus_positive _ (valid passed of_a i k l m).below

  pub residue_bias : (i j : ℕ) → i < G.rows → j < bias_columns G → least_residue modulus (entry_bias G t i j) ≡ value_in G t of_bias i j
  residue_bias i j l m =
      let h = bias_there G m in
      rw (bias_entry G t i j h.0) (residue_of_entry modulus modulus_positive _ (valid_bias i j l h.1 h.0).below)

  pub residue_entry_b : (k j : ℕ) → k < G.inner → j < G.columns → least_residue modulus (entry_b G t k j) ≡ value_in G t of_b k j
  unfolding entry_b parts part
  residue_entry_b k j l m = residue_of_entry modulus modulus_positive _ (valid passed of_b k j l m).below

pub ticket_decided : (G : Setting) (t : List ℕ) → ((j : ℕ) → FalseIn G t j → ⊥) ⊎ ((j : ℕ) × FalseIn G t j)
ticket_decided G t =
    ⊎_elim
    (λ columns. inl (λ j false-in. false-in.1.2 (columns j false-in.0 false-in.1.0 false-in.1.1)))
    (λ o. inr (o.0, (o.1, o.3)))
    (all_or_first column_decided G.columns)
  where
    column_decided : (j : ℕ) → ((i : ℕ) → i < G.rows → claim G t i j ≡ due G t i j) ⊎ ((i : ℕ) × (i < G.rows) × Untrue G t i j)
    column_decided j = ⊎_elim inl (λ o. inr (o.0, o.1, o.3)) (all_or_first (λ i. claim_decided G t i j) G.rows)
