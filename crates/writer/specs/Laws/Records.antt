-- What the records of the written ticket hold, and a record as the code writes it.
--
--   words_of h v          the eight bytes of two words, little-endian
use Rattle.std.specs.Prelude.{ℕ, ◌/◌, ◌%◌, List, [], ◌∷◌}

unfoldable pub words_of : ℕ → ℕ → List ℕ
words_of header value =
    header % 256
    ∷ header / 256 % 256
    ∷ header / 65_536 % 256
    ∷ header / 16_777_216 % 256
    ∷ value % 256
    ∷ value / 256 % 256
    ∷ value / 65_536 % 256
    ∷ value / 16_777_216 % 256
    ∷ []
