-- The layout of a ticket: record numbers and their part, row and column (T4). Everything is over the list of parts; a part more or
-- less changes no line here but those that name the parts.
--
--   part_bytes G t w       the bytes of part w
--   PartIs G w κ r c      part w has kind κ, r rows and c columns
use Rattle.std.specs.Prelude.{◌≡◌, ℕ, ◌+◌, ◌*◌, List, take, drop}
use Rattle.ticket.specs.declared.setting.Setting.{Setting}
use Rattle.ticket.specs.Rules.{most_rows, most_inner, most_columns, part, part_size, start, record_bytes}

abbrev pub longest_ticket : ℕ
longest_ticket = record_bytes * (most_rows * most_inner + most_inner * most_columns + 2 * (most_rows * most_columns))

unfoldable pub part_bytes : Setting → List ℕ → ℕ → List ℕ
part_bytes G t w = take (record_bytes * part_size (part G w)) (drop (record_bytes * start G w) t)

pub record PartIs (G : Setting) (w kind rows columns : ℕ) : Type 0 where
  pub kind_is : (part G w).kind ≡ kind
  pub rows_are : (part G w).rows ≡ rows
  pub columns_are : (part G w).columns ≡ columns
