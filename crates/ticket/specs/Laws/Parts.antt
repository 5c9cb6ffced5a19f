-- The parts of a ticket as the code reads them: each by its form, one after the other, is reading the ticket.
--
--   MakesTests F P     the form F of the code makes the tests of the part P
--   ReadReady G t      setting and length pass their tests
--   form_bytes F a t    the bytes of the part of form F, the first record of which is record a
--   PartReady F a t    they are inside the ticket, and are not many
use Rattle.std.specs.Prelude.{◌≡◌, ℕ, ◌+◌, ◌-◌, ◌*◌, ◌%◌, ◌^◌, ◌<◌, ◌≤◌, List, length, take, drop, nat_lt}
use Rattle.residue.specs.Rules.{modulus}
use Rattle.ticket.specs.declared.setting.Setting.{Setting}
use Rattle.ticket.specs.declared.records.Form.{Form}
use Rattle.ticket.specs.Rules.{Part, reason_number, record_bytes, ticket_length}
use Rattle.ticket.specs.Laws.Limits.{Counts, Within}
use Rattle.ticket.specs.Laws.Forms.{Ranged}

-- the form of the code for a part, with the range tested by a shift
pub record MakesTests (F : Form) (P : Part) : Type 0 where
  pub kind : F.kind ≡ P.kind
  pub rows : F.rows ≡ P.rows
  pub columns : F.columns ≡ P.columns
  pub outside : reason_number F.outside ≡ P.outside
  pub range : (v : ℕ) → v < modulus → nat_lt ((v + F.shift) % modulus) F.limit ≡ P.range v
  pub ranged : Ranged F

-- setting and length pass
pub record ReadReady (G : Setting) (t : List ℕ) : Type 0 where
  pub counts : Counts G
  pub within : Within G
  pub long : length t ≡ ticket_length G

-- the bytes of the part of form F, the first record of which is record a
abbrev pub form_bytes : Form → ℕ → List ℕ → List ℕ
form_bytes F a t = take (record_bytes * a + record_bytes * (F.rows * F.columns) - record_bytes * a) (drop (record_bytes * a) t)

pub record PartReady (F : Form) (a : ℕ) (t : List ℕ) : Type 0 where
  pub few : F.rows * F.columns < 2 ^ 16
  pub early : a < 2 ^ 16
  pub long : record_bytes * (a + F.rows * F.columns) ≤ length t
  pub range : Ranged F
