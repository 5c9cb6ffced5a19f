-- Records written over those of an output, in any order.
--
--   wrote_none          nothing is written
--   wrote_as            the same, by another function that gives the same records
--   wrote_more          more is written, by another call
--   wrote_on, wrote_both, both_on   the records right after those of a range, records of two ranges, and those right after both
--   wrote_one           one record, as a call writes it that is lent its bytes
--   wrote_all           all records of a ticket are written, and nothing else
use Rattle.std.specs.Prelude.{◌≡◌, ℕ, ◌+◌, ◌-◌, ◌*◌, ◌/◌, ◌%◌, ◌<◌, ◌≤◌, ◌⊎◌, List, ◌++◌, length, drop, ◌≢◌, slice_index, refl}
use Rattle.std.proofs.Math.Nat.{div-add-mod}
use Rattle.std.proofs.Common.{mod-lt, arith, sym, ap, ◌∙◌, inl, inr, ⊎_elim, length-append, length-drop, ext_get_or, get_or-append-add, get_or-drop}
use Rattle.std.proofs.Math.Decide.{dec_le, dec_lt, ℕ_discrete}
use Rattle.std.proofs.Math.ListN.{get_or-append}
use Rattle.algebra.proofs.Laws.Fills.{Replaced}
use Rattle.ticket.specs.Rules.{record_bytes, byte_at}
use Rattle.writer.specs.Laws.Writes.{RecordIs, Wrote, Among, Both}

pub wrote_none : {R : ℕ → List ℕ} {P : ℕ → Type 0} {before : List ℕ} → ((k : ℕ) → P k → ⊥) → Wrote R P before before
wrote_none none = record { long = refl; each = λ k. inr (none k, record { byte = λ i l. refl }) }

pub wrote_as : {R R' : ℕ → List ℕ} {P : ℕ → Type 0} {before after : List ℕ} → Wrote R P before after
    → ((k : ℕ) → P k → R k ≡ R' k) → Wrote R' P before after
wrote_as wrote same =
    record { long = wrote.long; each = λ k. ⊎_elim (λ new. inl (new.0, rw (same k new.0) at new.1)) inr (wrote.each k) }

module _ {R : ℕ → List ℕ} {a b c : List ℕ} where
  pub wrote_more : {P Q S : ℕ → Type 0} → Wrote R P a b → Wrote R Q b c
      → ((k : ℕ) → P k → S k) → ((k : ℕ) → Q k → S k) → ((k : ℕ) → S k → P k ⊎ Q k) → Wrote R S a c
  wrote_more first second of-P of-Q of-S =
      record {
        long = second.long ∙ first.long;
        each = λ k. ⊎_elim
            (λ new. inl (of-Q k new.0, new.1))
            (λ kept. ⊎_elim
            (λ old. inl (of-P k old.0, record { byte = λ i l. kept.1.byte i l ∙ old.1.byte i l }))
            (λ still. inr (
              λ s. ⊎_elim still.0 kept.0 (of-S k s),
              record { byte = λ i l. kept.1.byte i l ∙ still.1.byte i l },
            ))
            (first.each k))
            (second.each k);
      }

-- the n records from first on, and the m after them
split : (first n m k : ℕ) → Among first (n + m) k → Among first n k ⊎ Among (first + n) m k
split first n m k s =
    elim (dec_lt k (first + n)) [
      | yes l ↦ inl (record { from = s.from; below = l })
      | no l ↦ inr (record { from = omega arith; below = omega (arith, s.below) })
    ]

old_in : (first n m k : ℕ) → Among first n k → Among first (n + m) k
old_in first n m k s = record { from = s.from; below = omega (arith, s.below) }

new_in : (first n m k : ℕ) → Among (first + n) m k → Among first (n + m) k
new_in first n m k s = record { from = omega (arith, s.from); below = omega (arith, s.below) }

module _ {R : ℕ → List ℕ} {a b c : List ℕ} where
  pub wrote_on : {first n m : ℕ} → Wrote R (Among first n) a b → Wrote R (Among (first + n) m) b c → Wrote R (Among first (n + m)) a c
  wrote_on {first} {n} {m} old new = wrote_more old new (old_in first n m) (new_in first n m) (split first n m)

  pub wrote_both : {first second n : ℕ} → Wrote R (Among first n) a b → Wrote R (Among second n) b c → Wrote R (Both first second n) a c
  wrote_both old new = wrote_more old new (λ k. inl) (λ k. inr) (λ k s. s)

  pub both_on : {first second n m : ℕ} → Wrote R (Both first second n) a b → Wrote R (Both (first + n) (second + n) m) b c
      → Wrote R (Both first second (n + m)) a c
  both_on {first} {second} {n} {m} old new =
      wrote_more old new
      (λ k. ⊎_elim (λ s. inl (old_in first n m k s)) (λ s. inr (old_in second n m k s)))
      (λ k. ⊎_elim (λ s. inl (new_in first n m k s)) (λ s. inr (new_in second n m k s)))
      (λ k. ⊎_elim
      (λ s. ⊎_elim (λ x. inl (inl x)) (λ x. inr (inl x)) (split first n m k s))
      (λ s. ⊎_elim (λ x. inl (inr x)) (λ x. inr (inr x)) (split second n m k s)))

module _ {before part after : List ℕ} {number : ℕ} (put : Replaced 0 before (record_bytes * number) record_bytes part after) where
  pub wrote_one : Wrote (λ k. part) (Among number 1) before after
  wrote_one =
      record {
        long = put.long;
        each = λ k. elim (ℕ_discrete k number) [
          | yes e ↦ inl (record { from = omega arith; below = omega arith }, record { byte = λ i l. rw e (put.inside i l) })
          | no d ↦ inr (
            λ s. d (omega (arith, s.from, s.below)),
            record { byte = λ i l. put.outside (record_bytes * k + i) (apart k i d l) },
          )
        ];
      }
    where
      apart : (k i : ℕ) → (k ≢ number) → i < record_bytes
          → (record_bytes * k + i < record_bytes * number) ⊎ (record_bytes * number + record_bytes ≤ record_bytes * k + i)
      apart k i d l = elim (dec_lt k number) [ yes m ↦ inl (omega arith) | no m ↦ inr (let m : number < k = omega arith in omega arith) ]

pub wrote_all : {R : ℕ → List ℕ} {P : ℕ → Type 0} {n : ℕ} {before after : List ℕ} (t : List ℕ) → Wrote R P before after
    → ((k : ℕ) → k < n → P k) → ((k : ℕ) → P k → k < n) → length t ≡ record_bytes * n → ((k : ℕ) → k < n → RecordIs t k (R k))
    → record_bytes * n ≤ length before → after ≡ t ++ drop (record_bytes * n) before
wrote_all {n = n} {before} {after} t wrote all only long is room =
    ext_get_or 0 after (t ++ drop (record_bytes * n) before)
    (wrote.long ∙ sym (length-append t (drop (record_bytes * n) before) ∙ omega (arith, length-drop (record_bytes * n) before)))
    (λ i l. let k = i / record_bytes in
    let place : record_bytes * k + i % record_bytes ≡ i = div-add-mod i record_bytes in
    rw place at (each k (i % record_bytes) (mod-lt i (omega arith))))
  where
    each : (k i : ℕ) → i < record_bytes → byte_at after k i ≡ byte_at (t ++ drop (record_bytes * n) before) k i
    each k i l =
        ⊎_elim
        (λ new. let inside : k < n = only k new.0 in
        new.1.byte i l ∙ sym ((is k inside).byte i l)
        ∙ sym (get_or-append t (drop (record_bytes * n) before) 0 (record_bytes * k + i) (omega arith)))
        (λ kept. let outside : n ≤ k = elim (dec_le n k) [ yes m ↦ m | no m ↦ absurd (kept.0 (all k (omega arith))) ] in
        let m = record_bytes * k + i - record_bytes * n in
        let place : length t + m ≡ record_bytes * k + i = omega arith in
        let same : record_bytes * n + m ≡ record_bytes * k + i = omega arith in
        kept.1.byte i l
        ∙ sym ((rw place at (get_or-append-add t (drop (record_bytes * n) before) m 0)) ∙ get_or-drop (record_bytes * n) before m 0
        ∙ ap (λ x. slice_index before x) same))
        (wrote.each k)
