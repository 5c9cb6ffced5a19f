-- What a ticket that passes the reading and range checks gives.
--
--   passed_of        from the answer
--   passes_of        and back to it
--   Valid P x        the value x is a least residue, and in range for the part P
--   record_formed    a record of a ticket that passes has the form of its part, row and column
--   record_valid, valid   its value, and each by part, row and column, is valid for its part
use Rattle.std.specs.Prelude.{◌≡◌, ℕ, ◌<◌, true, List}
use Rattle.std.proofs.Common.{arith, ap, ⊎_elim, ltb-true}
use Rattle.residue.specs.Rules.{modulus}
use Rattle.ticket.specs.declared.setting.Setting.{Setting}
use Rattle.ticket.specs.Rules.{Passes, records, Part, part, formed, value_at, value_in}
use Rattle.ticket.specs.Laws.Tests.{AllHold}
use Rattle.ticket.proofs.Laws.Tests.{first_holds, rest_hold}
use Rattle.ticket.proofs.Laws.Limits.ClampedSmall.{counts}
use Rattle.ticket.proofs.Laws.Limits.{limits_of}
use Rattle.ticket.proofs.Laws.Layout.{Located, record_at, located_tests, tests_located}
use Rattle.ticket.proofs.Laws.Refusals.{passed_reading, refused_reading, passed_or_refused, refused_number}
use Rattle.ticket.specs.Laws.Passes.{Passed}

module _ (G : Setting) (t : List ℕ) where
  pub passed_of : Passes G t → Passed G t
  passed_of e =
      ⊎_elim
      (λ p. let limits = limits_of G p.setting in
      record { setting = p.setting; counts = counts limits.sizes; numbers = limits.numbers; fitted = limits.fitted; long = p.long; each = p.before })
      (λ x. absurd (omega (arith, e, refused_number G t x.2, ap (λ a. a.number) (refused_reading G t x.2))))
      (passed_or_refused G t)

  pub passes_of : Passed G t → Passes G t
  passes_of p = ap (λ a. a.number) (passed_reading G t (record { setting = p.setting; long = p.long; before = p.each }))

pub record Valid (P : Part) (x : ℕ) : Type 0 where
  pub below : x < modulus
  pub in_range : P.range x ≡ true

module _ {G : Setting} {t : List ℕ} (passed : Passed G t) where
  module _ {k w row column : ℕ} (l : k < records G) (at : Located G k w row column) where
    tests : AllHold (located_tests G t k w row column)
    tests = rw (tests_located t at) at (passed.each k l)

    pub record_formed : formed t k (part G w).kind row column ≡ true
    record_formed = first_holds tests

    pub record_valid : Valid (part G w) (value_at t k)
    record_valid =
        record { below = ltb-true (value_at t k) modulus (first_holds (rest_hold tests)); in_range = first_holds (rest_hold (rest_hold tests)) }

  pub valid : (w i j : ℕ) → i < (part G w).rows → j < (part G w).columns → Valid (part G w) (value_in G t w i j)
  unfolding value_in
  valid w i j l m = let at = record_at G w i j l m in record_valid at.0 at.1
