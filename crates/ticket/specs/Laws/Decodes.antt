-- What the records of a ticket that passes are decoded to, and what that stands for.
--
--   decoded_count b n, claim_count q r n   how many records of b, or of both q and r, are decoded to a list of n numbers
--   shifted_at b s k       the value of record k of b with s added, by a carried sum
--   narrow_shift, narrowed x, narrow_at b k   2^15; the 16-bit number of a shifted value x; that of record k of b
--   lifted_at q r h a c    the value of record c of q with h added modulo p, times a, and the value of record c of r, modulo 2^32
--   negated_word x         the negative of the entry that the value x stands for, modulo 2^32
--   less_at b l k          number k of l less the entry of record k of b, modulo 2^32
--   ShiftedList b s l l', NarrowList b l l', LiftedList q r h a l l', LessList b l l'   the list l' is l, filled with these as far
--                         as records and l go
use Rattle.std.specs.Prelude.{◌≡◌, ℕ, ◌+◌, ◌-◌, ◌*◌, ◌/◌, ◌%◌, ◌^◌, ◌<◌, ◌≤◌, min, List, length, ℤ, pos, ◌+ℤ◌, ◌-ℤ◌, slice_index}
use Rattle.residue.specs.Rules.{modulus}
use Rattle.residue.specs.Laws.Modulo.{carried_sum}
use Rattle.algebra.specs.Laws.Fills.{Filled}
use Rattle.ticket.specs.declared.setting.Setting.{Setting}
use Rattle.ticket.specs.Rules.{record_bytes, value_at, entry_a, claim}
use Rattle.ticket.specs.Laws.Lifts.{Lifted}

abbrev pub decoded_count : List ℕ → ℕ → ℕ
decoded_count bytes size = min (length bytes / record_bytes) size

abbrev pub claim_count : List ℕ → List ℕ → ℕ → ℕ
claim_count quotients remainders size = min (min (length quotients / record_bytes) (length remainders / record_bytes)) size

abbrev pub shifted_at : List ℕ → ℕ → ℕ → ℕ
shifted_at bytes shift k = carried_sum modulus (value_at bytes k) shift

abbrev pub lifted_at : List ℕ → List ℕ → ℕ → ℕ → ℕ → ℕ
lifted_at quotients remainders half scale c = (shifted_at quotients half c * scale + value_at remainders c) % 2 ^ 32

abbrev pub narrow_shift : ℕ
narrow_shift = 32_768

abbrev pub narrowed : ℕ → ℤ
narrowed shifted = pos (shifted % 65_536) -ℤ pos narrow_shift

abbrev pub narrow_at : List ℕ → ℕ → ℤ
narrow_at bytes k = narrowed (carried_sum modulus (value_at bytes k) narrow_shift)

abbrev pub ShiftedList : List ℕ → ℕ → List ℕ → List ℕ → Type 0
ShiftedList bytes shift before list = Filled 0 before (decoded_count bytes (length before)) (shifted_at bytes shift) list

abbrev pub NarrowList : List ℕ → List ℤ → List ℤ → Type 0
NarrowList bytes before list = Filled (pos 0) before (decoded_count bytes (length before)) (narrow_at bytes) list

abbrev pub LiftedList : List ℕ → List ℕ → ℕ → ℕ → List ℕ → List ℕ → Type 0
LiftedList quotients remainders half scale before list =
    Filled 0 before (claim_count quotients remainders (length before)) (lifted_at quotients remainders half scale) list

abbrev pub negated_word : ℕ → ℕ
negated_word value = (2 ^ 32 + modulus / 2 - carried_sum modulus value (modulus / 2)) % 2 ^ 32

abbrev pub less_at : List ℕ → List ℕ → ℕ → ℕ
less_at bytes list k = (slice_index list k + negated_word (value_at bytes k)) % 2 ^ 32

abbrev pub LessList : List ℕ → List ℕ → List ℕ → Type 0
LessList bytes before list = Filled 0 before (decoded_count bytes (length before)) (less_at bytes before) list

pub record ShiftedEntries (G : Setting) (t a : List ℕ) : Type 0 where
  pub long : G.rows * G.inner ≤ length a
  pub entry : (i k : ℕ) → i < G.rows → k < G.inner → pos (slice_index a (i * G.inner + k)) ≡ entry_a G t i k +ℤ pos G.bound
  pub small : (k : ℕ) → k < G.rows * G.inner → slice_index a k < 2 ^ 16

pub record ShiftedRow (G : Setting) (t : List ℕ) (i : ℕ) (a : List ℕ) : Type 0 where
  pub entry : (k : ℕ) → k < G.inner → pos (slice_index a k) ≡ entry_a G t i k +ℤ pos G.bound
  pub small : (k : ℕ) → k < G.inner → slice_index a k < 2 ^ 16

abbrev pub LiftedRow : Setting → List ℕ → ℕ → List ℕ → Type 0
LiftedRow G t i y = (j : ℕ) → j < G.columns → Lifted G (claim G t i j) (slice_index y j)

pub record LiftedClaims (G : Setting) (t y : List ℕ) : Type 0 where
  pub long : G.rows * G.columns ≤ length y
  pub each : (i j : ℕ) → i < G.rows → j < G.columns → Lifted G (claim G t i j) (slice_index y (i * G.columns + j))
  pub words : (i j : ℕ) → i < G.rows → j < G.columns → slice_index y (i * G.columns + j) < 2 ^ 32
