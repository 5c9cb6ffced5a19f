-- A challenge list x with a vector v at its end. G is the setting of x, with s vectors.
--
--   front_at, end_at     the numbers of x, and those of v, in the lengthened list
--   lengthened_reading   the answer of the tests of the lengthened list, where x passes them, by that of v
--   lengthened_entries   where v passes too, so does the lengthened list
--   balanced_unread, product_unread   the rows do not read the number of vectors
--   front_balanced, front_product   those of the vectors of x are as they were
use Rattle.std.specs.Prelude.{ℕ, ◌+◌, ◌*◌, ◌<◌, ◌≡◌, List, ◌++◌, length, get_or}
use Rattle.std.proofs.Math.Decide.{dec_lt}
use Rattle.std.proofs.Common.{arith, sym, ap, ◌∙◌, length-append, get_or-append-add}
use Rattle.std.proofs.Math.Arith.{digits_lt}
use Rattle.std.proofs.Math.ListN.{get_or-append}
use Rattle.residue.specs.Rules.{modulus}
use Rattle.ticket.specs.declared.setting.Setting.{Setting}
use Rattle.ticket.specs.declared.Answer.{Answer}
use Rattle.ticket.proofs.Laws.First.{joined}
use Rattle.ticket.specs.Laws.Vectors.{vectored}
use Rattle.ticket.proofs.Laws.Vectors.{vectors_unread}
use Rattle.challenge.specs.Rules.{challenge_at, list_reading, product_b, claim_side, operand_side_by, balanced_by, balanced}
use Rattle.challenge.specs.Laws.Lists.{ZeroVector, Entries}
use Rattle.challenge.proofs.Laws.Lists.{well_formed_is, other_length, first_large, first_zero, none_zero, ListAnswer, other_count, large_number, zero_at, formed, list_answered}
use Rattle.challenge.proofs.Laws.Single.{balanced_cong, product_same}
use Rattle.challenge.specs.Laws.Lengthened.{placed_after}

module _ (G : Setting) (s : ℕ) (t x : List ℕ) (τ : ℕ) where
  pub balanced_unread : (u : ℕ → ℕ) (i : ℕ) → balanced_by (vectored G s) t x τ u i ≡ balanced_by G t x τ u i
  unfolding balanced_by claim_side operand_side_by
  balanced_unread u i =
      let same = vectors_unread G s in
      rw (same.entries_a, same.entries_bias, same.claims)

  pub product_unread : (k : ℕ) → product_b (vectored G s) t x τ k ≡ product_b G t x τ k
  unfolding product_b
  product_unread k = rw (vectors_unread G s).entries_b

module _ (G : Setting) (x v : List ℕ) (entries : Entries G x) where
  abbrev s : ℕ
  s = G.vectors

  abbrev n : ℕ
  n = G.columns

  abbrev one : Setting
  one = vectored G 1

  abbrev more : Setting
  more = vectored G (s + 1)

  pub front_at : (k : ℕ) → k < s * n → get_or (x ++ v) k 0 ≡ get_or x k 0
  front_at k l = get_or-append x v 0 k (omega (arith, entries.size))

  pub end_at : (k : ℕ) → get_or (x ++ v) (s * n + k) 0 ≡ get_or v k 0
  end_at k = rw (← entries.size) (get_or-append-add x v k 0)

  -- a vector of x, and the one at the end
  front_other : (σ : ℕ) → σ < s → ZeroVector more (x ++ v) σ → ⊥
  front_other σ l z = entries.other σ l (λ j m. sym (front_at (σ * n + j) (digits_lt l m)) ∙ z j m)

  end_vector : (j : ℕ) → challenge_at more (x ++ v) (s + 0) j ≡ challenge_at one v 0 j
  end_vector j = ap (λ k. get_or (x ++ v) k 0) (omega arith) ∙ end_at j ∙ ap (λ k. get_or v k 0) (omega arith)

  below_all : {k : ℕ} → ((i : ℕ) → i < k → get_or v i 0 < modulus) → (i : ℕ) → i < s * n + k → get_or (x ++ v) i 0 < modulus
  below_all below =
      joined (λ i. get_or (x ++ v) i 0 < modulus) (λ i l. rw (front_at i l) (entries.below i l)) (λ i l. rw (end_at i) (below i l))

  others : (σ : ℕ) → σ < s + 0 → ZeroVector more (x ++ v) σ → ⊥
  others σ l = front_other σ (omega arith)

  size : length v ≡ 1 * n → length (x ++ v) ≡ (s + 1) * n
  size e = omega (arith, length-append x v, entries.size)

  by_vector : {a : Answer} → ListAnswer one v a → placed_after G a ≡ list_reading more (x ++ v)
  by_vector (other_count d) = other_length more (x ++ v) (λ e. d (omega (arith, length-append x v, entries.size)))
  by_vector (large_number {k} e l before m) =
      first_large more (x ++ v) (size e) (s * n + k) (omega arith) (below_all before) (rw (end_at k) m)
  by_vector (zero_at {τ} e all l before z) =
      let only : τ ≡ 0 = omega arith in
      rw only
      (first_zero more (x ++ v) (size e) (λ k m. below_all all k (omega arith)) (s + 0) (omega arith) others
      (λ j m. end_vector j ∙ (rw only at z) j m))
  by_vector (formed h) =
      none_zero more (x ++ v) (size h.size) (λ k m. below_all h.below k (omega arith))
      (λ σ l. elim (dec_lt σ s) [
        | yes m ↦ front_other σ m
        | no m ↦
            let last : σ ≡ s + 0 = omega arith in
            λ z. h.other 0 (omega arith) (λ j i. sym (end_vector j) ∙ (rw last at z) j i)
      ])

  pub lengthened_reading : placed_after G (list_reading one v) ≡ list_reading more (x ++ v)
  lengthened_reading = by_vector (list_answered one v)

  pub lengthened_entries : Entries one v → Entries more (x ++ v)
  lengthened_entries h = (well_formed_is more (x ++ v)).0 (ap (λ a. a.number) (sym (by_vector (formed h))))

  module _ (t : List ℕ) {τ : ℕ} (l : τ < s) where
    same_numbers : (j : ℕ) → j < n → challenge_at G (x ++ v) τ j ≡ challenge_at G x τ j
    same_numbers j m = front_at (τ * n + j) (digits_lt l m)

    pub front_product : (k : ℕ) → product_b more t (x ++ v) τ k ≡ product_b G t x τ k
    front_product k = product_unread G (s + 1) t (x ++ v) τ k ∙ product_same G t (x ++ v) x τ τ same_numbers k

    pub front_balanced : (i : ℕ) → balanced more t (x ++ v) τ i ≡ balanced G t x τ i
    front_balanced i =
        balanced_unread G (s + 1) t (x ++ v) τ (product_b more t (x ++ v) τ) i
        ∙ balanced_cong G t (x ++ v) x τ τ same_numbers (product_b more t (x ++ v) τ) (product_b G t x τ) (λ k m. front_product k) i
