-- What rests on Tests.
--
--   tests_hold         all hold, where the number is 0 and that of no test is
use Rattle.std.specs.Prelude.{◌≡◌, List}
use Rattle.std.proofs.Common.{arith, ⊎_elim}
use Rattle.ticket.specs.Rules.{Test, first_failed}
use Rattle.ticket.specs.Laws.Tests.{AllHold}
use Rattle.ticket.proofs.Laws.Tests.{Numbered, failed_number, failed_numbered, hold_or_failed}

pub tests_hold : (l : List Test) → Numbered l → first_failed l ≡ 0 → AllHold l
tests_hold l numbered e =
    ⊎_elim (λ h. h) (λ f. absurd (omega (arith, failed_numbered l numbered f.1, failed_number f.1))) (hold_or_failed l)
