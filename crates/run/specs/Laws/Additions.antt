-- The lists of states, and additions to them, as the code makes them (S1).
--
use Rattle.std.specs.Prelude.{ℕ, ◌≡◌, true}
use mathlib.Core.List.{List, ◌++◌}
use Rattle.ticket.specs.Rules.{plain, setting_number}
use Rattle.challenge.specs.Laws.Lists.{Entries}
use Rattle.run.specs.declared.Run.{Run}
use Rattle.run.specs.Rules.{layer, held_list, one_more, is_open}

pub record Additional (R : Run) (v : List ℕ) : Type 0 where
  pub setting : setting_number (layer R) ≡ 0
  pub list : Entries (layer R) (held_list R)
  pub longer : Entries (plain (one_more R.setting)) (held_list R ++ v)
  pub is_open_lem : is_open R ≡ true
