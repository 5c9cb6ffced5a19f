-- What the program's three files stand for, and the line that it writes: the rules. They are all that a reader has to believe
-- beside those of the crates below; nothing is proved here. b is the bytes of a file.
--
--   setting_bytes       the bytes of a setting file
--   number_bytes        the bytes of a number in a file
--   word_at b i         the number that begins at byte i of b
--   setting_of b        the setting that b stands for, without a bias: ℓ, m, n, s one byte each, then α, T, v, o four bytes each
--   numbers_of b        the 4-byte numbers of b, one after another
--   file_check s t c    the answer of the program, for the bytes of setting.rec, ticket.rec and challenge.rec
--   digit d            the byte of the digit d, in ASCII
--   space, line_feed    bytes of text
--   digits_of k n       the last digits of n, at most k
--   decimal n          the digits of n, the first one first, with no zero in front; one digit for 0
--   field n e          the number n in decimal, and the byte e after it
--   line_of a           the line of the answer a: its four numbers, a space between and a line feed after
use Rattle.std.specs.Prelude.{ℕ, zero, suc, ◌+◌, ◌*◌, ◌/◌, ◌%◌, cond, List, [], ◌∷◌, ◌++◌, ltb, eqb, length, get_or}
use Rattle.algebra.specs.Rules.{word}
use Rattle.ticket.specs.declared.setting.Setting.{Setting}
use Rattle.ticket.specs.declared.Answer.{Answer}
use Rattle.ticket.specs.Rules.{unless, refusal, after, reading, plain}
use Rattle.challenge.specs.Rules.{challenge_check}

-- the files

abbrev pub setting_bytes : ℕ
setting_bytes = 20

abbrev pub number_bytes : ℕ
number_bytes = 4

unfoldable pub word_at : List ℕ → ℕ → ℕ
word_at bytes i = word (get_or bytes i 0) (get_or bytes (i + 1) 0) (get_or bytes (i + 2) 0) (get_or bytes (i + 3) 0)

unfoldable pub setting_of : List ℕ → Setting
setting_of bytes =
    plain
    (record {
      rows = get_or bytes 0 0;
      inner = get_or bytes 1 0;
      columns = get_or bytes 2 0;
      vectors = get_or bytes 3 0;
      scale = word_at bytes 4;
      bound = word_at bytes 8;
      width = word_at bytes 12;
      rounding = word_at bytes 16;
    })

-- fewer than four bytes hold no number
unfoldable pub numbers_of : List ℕ → List ℕ
numbers_of [] = []
numbers_of (i ∷ []) = []
numbers_of (i ∷ j ∷ []) = []
numbers_of (i ∷ j ∷ k ∷ []) = []
numbers_of (i ∷ j ∷ k ∷ l ∷ rest) = word i j k l ∷ numbers_of rest

-- a setting file of another length is 1; then the reading and range checks; a challenge file of another length than 4 · s · n is 10;
-- then the challenge check
unfoldable pub file_check : List ℕ → List ℕ → List ℕ → Answer
file_check setting ticket challenge =
    let G = setting_of setting in
    unless (eqb (length setting) setting_bytes) (refusal 1 0)
    (after (reading G ticket)
    (unless (eqb (length challenge) (number_bytes * (G.vectors * G.columns))) (refusal 10 0)
    (challenge_check G ticket (numbers_of challenge))))

-- the line

abbrev pub digit : ℕ → ℕ
digit d = 48 + d

abbrev pub space : ℕ
space = 32

abbrev pub line_feed : ℕ
line_feed = 10

unfoldable pub digits_of : ℕ → ℕ → List ℕ
digits_of zero n = []
digits_of (suc k) n =
    let several = digits_of k (n / 10) ++ (digit (n % 10) ∷ []) in
    cond (ltb n 10) (digit n ∷ []) several

-- n has at most n + 1 digits
unfoldable pub decimal : ℕ → List ℕ
decimal n = digits_of (suc n) n

unfoldable pub field : ℕ → ℕ → List ℕ
field n end = decimal n ++ (end ∷ [])

unfoldable pub line_of : Answer → List ℕ
line_of a = field a.number space ++ field a.place space ++ field a.row space ++ field a.products line_feed
