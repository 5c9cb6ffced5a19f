-- What rests on Bytes.
--
--   word_eqb        two such numbers are equal exactly when their bytes are
use Rattle.std.specs.Prelude.{ℕ, ◌/◌, ◌%◌, ◌<◌, ◌≡◌, true, ◌&&◌, eqb}
use Rattle.std.proofs.Common.{sym, ap, ◌∙◌, eq-eqb, eqb-true}
use Rattle.std.proofs.Math.Bool.{and-eq-true_iff}
use Rattle.algebra.specs.Rules.{word}
use Rattle.algebra.proofs.Laws.Bytes.{bytes_of_word, same_tests}

pub word_eqb : {a b c d e f g h : ℕ} → a < 256 → b < 256 → c < 256 → d < 256 → e < 256 → f < 256 → g < 256 → h < 256
    → eqb (word a b c d) (word e f g h) ≡ (eqb a e && eqb b f && eqb c g && eqb d h)
word_eqb {a} {b} {c} {d} {e} {f} {g} {h} ha hb hc hd he hf hg hh = same_tests _ _ to from
  where
    to : eqb (word a b c d) (word e f g h) ≡ true → (eqb a e && eqb b f && eqb c g && eqb d h) ≡ true
    to t =
        let same : word a b c d ≡ word e f g h = eqb-true _ _ t in
        let m = bytes_of_word ha hb hc hd in
        let n = bytes_of_word he hf hg hh in
        rw (
          eq-eqb a e (m.0 ∙ ap (λ w. w % 256) same ∙ sym n.0),
          eq-eqb b f (m.1 ∙ ap (λ w. w / 256 % 256) same ∙ sym n.1),
          eq-eqb c g (m.2 ∙ ap (λ w. w / 65_536 % 256) same ∙ sym n.2),
          eq-eqb d h (m.3 ∙ ap (λ w. w / 16_777_216 % 256) same ∙ sym n.3),
        )

    from : (eqb a e && eqb b f && eqb c g && eqb d h) ≡ true → eqb (word a b c d) (word e f g h) ≡ true
    from t =
        let three = (and-eq-true_iff (eqb a e && eqb b f && eqb c g) (eqb d h)).0 t in
        let two = (and-eq-true_iff (eqb a e && eqb b f) (eqb c g)).0 three.0 in
        let one = (and-eq-true_iff (eqb a e) (eqb b f)).0 two.0 in
        eq-eqb (word a b c d) (word e f g h)
        (cc (eqb-true a e one.0, eqb-true b f one.1, eqb-true c g two.1, eqb-true d h three.1))
