-- One row by itself, as the code works through it. x is a challenge list; y is a vector of it, also taken as a list of one vector, and u is what
-- its rows take for its product with B.
--
--   RowReady G t x τ i   row i of vector τ can be worked through
--   DecodeRowReady G t h i m n   row i can be decoded to lists of m and n numbers, h being half of the quotients' range
use Rattle.std.specs.Prelude.{ℕ, ◌≤◌, ◌<◌, ◌≡◌, List}
use Rattle.ticket.specs.declared.setting.Setting.{Setting}
use Rattle.ticket.specs.Rules.{half_range}
use Rattle.ticket.specs.Laws.Limits.{clamped}
use Rattle.ticket.specs.Laws.Passes.{Passed}
use Rattle.challenge.specs.Laws.Products.{WordVector}
use Rattle.challenge.specs.Laws.Sides.{RoomFor}
use Rattle.challenge.specs.Laws.Vectors.{VectorThere}

pub record RowReady (G : Setting) (t x : List ℕ) (τ i : ℕ) : Type 0 where
  pub vector : VectorThere G t x τ
  pub row : i < G.rows

pub record LineReady (G : Setting) (t y u : List ℕ) (i : ℕ) : Type 0 where
  pub passed : Passed G t
  pub row : i < G.rows
  pub room : RoomFor G y u
  pub vector : WordVector y

pub record DecodeRowReady (G : Setting) (t : List ℕ) (half i m n : ℕ) : Type 0 where
  pub passed : Passed G t
  pub row : i < G.rows
  pub half_is : half ≡ half_range (clamped G)
  pub inner : G.inner ≤ m
  pub columns : G.columns ≤ n
