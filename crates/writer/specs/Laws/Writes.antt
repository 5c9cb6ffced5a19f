-- Records written over those of an output, in any order.
--
--   RecordIs b k r      record k of b is r
--   Kept o o' k         record k of o' is that of o
--   Wrote R P o o'      o' is o with record R k at each k of P
--   Among a n k         record k is one of the n from a on
--   Both a b n k        it is one of the n from a on, or of the n from b on
use Rattle.std.specs.Prelude.{◌≡◌, ℕ, ◌+◌, ◌<◌, ◌≤◌, ◌⊎◌, List, length, slice_index}
use Rattle.ticket.specs.Rules.{record_bytes, byte_at}

pub record RecordIs (bytes : List ℕ) (k : ℕ) (r : List ℕ) : Type 0 where
  pub byte : (i : ℕ) → i < record_bytes → byte_at bytes k i ≡ slice_index r i

pub record Kept (before after : List ℕ) (k : ℕ) : Type 0 where
  pub byte : (i : ℕ) → i < record_bytes → byte_at after k i ≡ byte_at before k i

pub record Wrote (R : ℕ → List ℕ) (P : ℕ → Type 0) (before after : List ℕ) : Type 0 where
  pub long : length after ≡ length before
  pub each : (k : ℕ) → (P k × RecordIs after k (R k)) ⊎ ((P k → ⊥) × Kept before after k)

pub record Among (first n k : ℕ) : Type 0 where
  pub from : first ≤ k
  pub below : k < first + n

abbrev pub Both : ℕ → ℕ → ℕ → ℕ → Type 0
Both first second n k = Among first n k ⊎ Among second n k
