-- Tests in order: whether all hold, or which is the first that fails, over the rule `first_failed`.
--
--   AllHold l          all tests of l hold
use Rattle.std.specs.Prelude.{◌≡◌, true, List, [], ◌∷◌}
use Rattle.ticket.specs.Rules.{Test}

pub data AllHold : List Test → Type 0 where
  none : AllHold []
  one : {T : Test} {rest : List Test} → T.holds ≡ true → AllHold rest → AllHold (T ∷ rest)
