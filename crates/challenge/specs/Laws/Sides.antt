-- The two sides of a row by the lists that the ticket is decoded to. x is a challenge list, y a vector of it, u its product with B.
--
--   RoomFor G y u      y and u have as many numbers as a vector and its product with B
use Rattle.std.specs.Prelude.{ℕ, ◌≤◌, ◌≡◌, List, length}
use Rattle.residue.specs.Rules.{modulus}
use Rattle.ticket.specs.declared.setting.Setting.{Setting}
use Rattle.ticket.specs.Laws.Decodes.{ShiftedEntries, LiftedClaims, LiftedRow, ShiftedRow}
use Rattle.ticket.specs.Laws.Limits.{lift}

pub record RoomFor (G : Setting) (y u : List ℕ) : Type 0 where
  pub columns : length y ≡ G.columns
  pub inner : length u ≡ G.inner

pub record DecodedTo (G : Setting) (t a w : List ℕ) (shift : ℕ) : Type 0 where
  pub entries : ShiftedEntries G t a
  pub claims : LiftedClaims G t w
  pub lift_is : shift ≡ lift G
  pub lift_below : shift ≤ modulus

pub record RowDecoded (G : Setting) (t : List ℕ) (i : ℕ) (r s : List ℕ) : Type 0 where
  pub entries : ShiftedRow G t i r
  pub claims : LiftedRow G t i s
