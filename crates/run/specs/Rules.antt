-- A challenge check that proceeds one row at a step, its state handed in and handed back, and to which further vectors may be added (test 22):
-- the rules. They are all that a reader has to believe beside those of the crates below; nothing is proved here. P is the public numbers of a
-- setting without a bias, R a state, t the bytes of a ticket, x a challenge list, v a vector.
--
--   layer R            the setting of the state
--   most_numbers        the most numbers of a list
--   held_list R         the state's list: as many numbers as its length says, none where that is more than a list can have. No setting that passes
--                      its tests has an empty list, so either is then 10
--   is_past R           t or row is beyond its end: the run is complete
--   is_caught R         the state says that it is caught
--   is_finished R       it is complete or caught
--   products_done G τ i the products of τ whole vectors and of i rows of the one after them, whose product with B counts once row 0 is done
--   under_way, caught_mark, complete, refused   the marks
--   marked R m a       an answer: the state that comes back, the mark and the four numbers
--   standing R         the answer of a state by itself: complete, caught, or under way
--   tested R a b       the refusal a, with the former state R, where it is one, else b
--   zeros              the state of zeros
--   begun P x          the state of a run that begins
--   beginning P t x    the answer of begin
--   placed R u τ i c   the state with u, the next t, the next row and whether it is caught
--   moved R u          it on to the next row, after the last to row 0 of the next vector
--   worked R t         the state after its row: caught where that is not balanced, else moved on
--   stepping R t       the answer of a step
--   with_vectors P s, one_more P   the setting with s vectors, and with one more than it has
--   overwritten x k v  x with v for as many of its numbers, from number k on
--   lengthened R v     the state with v at the end of its list
--   is_open R           a vector may be added: the run is not finished, and has fewer vectors than the most
--   addition_reading R v   the answer of the tests of an addition: of the setting, of the state's list, of the list that v lengthens, and 22
--   adding R v         the answer of an addition
--   Action, step, add v   what is done with a run: one row more, or one vector more
--   acting t R α       the answer of that, where t is lent
--   last_answer t a αs  the last answer of a run that goes on from the answer a: the same ticket lent throughout, each state handed in as it last
--                      came back
--   ran P t x αs       the last answer of a run from its beginning
--   steps αs           how many of the actions are steps
--   added t a αs       the numbers that the additions of such a run add to its list: those of the vectors that are not refused
use Rattle.std.specs.Prelude.{ℕ, ◌+◌, ◌-◌, ◌*◌, Bool, cond, not, ◌&&◌, ◌||◌, List, [], ◌∷◌, ◌++◌, leb, ltb, eqb, length, take, drop, replicate}
use Rattle.ticket.specs.declared.published.PlainSetting.{PlainSetting}
use Rattle.ticket.specs.declared.setting.Setting.{Setting}
use Rattle.ticket.specs.declared.Answer.{Answer}
use Rattle.ticket.specs.Rules.{unless, answer, refusal, after, most_inner, most_columns, most_vectors, plain, setting_number}
use Rattle.challenge.specs.Rules.{list_reading, testing, row_products, vector_products, accepted, caught, product_at, balanced_at}
use Rattle.run.specs.declared.Run.{Run}
use Rattle.run.specs.declared.RunAnswer.{RunAnswer}

-- the state

abbrev pub layer : Run → Setting
layer R = plain R.setting

abbrev pub most_numbers : ℕ
most_numbers = most_vectors * most_columns

unfoldable pub held_list : Run → List ℕ
held_list R = take (cond (leb R.length most_numbers) R.length 0) R.list

unfoldable pub is_past : Run → Bool
is_past R = leb R.setting.vectors R.vector || leb R.setting.rows R.row

unfoldable pub is_caught : Run → Bool
is_caught R = ltb 0 R.caught

abbrev pub is_finished : Run → Bool
is_finished R = is_past R || is_caught R

-- its answer

unfoldable pub products_done : Setting → ℕ → ℕ → ℕ
products_done G τ i = τ * vector_products G + cond (ltb 0 i) (G.inner * G.columns) 0 + i * row_products G

abbrev pub under_way : ℕ
under_way = 0

abbrev pub caught_mark : ℕ
caught_mark = 1

abbrev pub complete : ℕ
complete = 2

abbrev pub refused : ℕ
refused = 3

abbrev pub marked : Run → ℕ → Answer → RunAnswer
marked R mark a = record { run = R; mark = mark; answer = a }

unfoldable pub standing : Run → RunAnswer
standing R =
    cond (is_past R) (marked R complete (accepted (layer R)))
    (cond (is_caught R) (marked R caught_mark (caught (layer R) R.vector R.row))
    (marked R under_way (answer 0 R.vector R.row (products_done (layer R) R.vector R.row))))

unfoldable pub tested : Run → Answer → RunAnswer → RunAnswer
tested R a rest = unless (eqb a.number 0) (marked R refused a) rest

-- begin

abbrev pub zeros : Run
zeros =
    record {
      setting = record { rows = 0; inner = 0; columns = 0; vectors = 0; scale = 0; bound = 0; width = 0; rounding = 0 };
      list = replicate most_numbers 0;
      length = 0;
      vector = 0;
      row = 0;
      u = replicate most_inner 0;
      caught = 0;
    }

abbrev pub begun : PlainSetting → List ℕ → Run
begun P x =
    record {
      setting = P;
      list = x ++ replicate (most_numbers - length x) 0;
      length = length x;
      vector = 0;
      row = 0;
      u = replicate most_inner 0;
      caught = 0;
    }

abbrev pub beginning : PlainSetting → List ℕ → List ℕ → RunAnswer
beginning P t x = tested zeros (testing (plain P) t x) (standing (begun P x))

-- a step

abbrev pub placed : Run → List ℕ → ℕ → ℕ → ℕ → Run
placed R u τ i c =
    record { setting = R.setting; list = R.list; length = R.length; vector = τ; row = i; u = u; caught = c }

unfoldable pub moved : Run → List ℕ → Run
moved R u =
    cond (ltb (R.row + 1) R.setting.rows) (placed R u R.vector (R.row + 1) R.caught) (placed R u (R.vector + 1) 0 R.caught)

unfoldable pub worked : Run → List ℕ → Run
worked R t =
    let u = product_at (layer R) t (held_list R) R.vector R.row R.u in
    unless (balanced_at (layer R) t (held_list R) R.vector R.row R.u) (placed R u R.vector R.row 1) (moved R u)

abbrev pub stepping : Run → List ℕ → RunAnswer
stepping R t = tested R (testing (layer R) t (held_list R)) (standing (cond (is_finished R) R (worked R t)))

-- an addition

abbrev pub with_vectors : PlainSetting → ℕ → PlainSetting
with_vectors P s =
    record {
      rows = P.rows;
      inner = P.inner;
      columns = P.columns;
      vectors = s;
      scale = P.scale;
      bound = P.bound;
      width = P.width;
      rounding = P.rounding;
    }

abbrev pub one_more : PlainSetting → PlainSetting
one_more P = with_vectors P (P.vectors + 1)

abbrev pub overwritten : List ℕ → ℕ → List ℕ → List ℕ
overwritten x k v = take k x ++ (v ++ drop (k + length v) x)

abbrev pub lengthened : Run → List ℕ → Run
lengthened R v =
    record {
      setting = one_more R.setting;
      list = overwritten R.list R.length v;
      length = R.length + length v;
      vector = R.vector;
      row = R.row;
      u = R.u;
      caught = R.caught;
    }

abbrev pub is_open : Run → Bool
is_open R = not (is_finished R) && ltb R.setting.vectors most_vectors

unfoldable pub addition_reading : Run → List ℕ → Answer
addition_reading R v =
    after (refusal (setting_number (layer R)) 0)
    (after (list_reading (layer R) (held_list R))
    (after (list_reading (plain (one_more R.setting)) (held_list R ++ v)) (unless (is_open R) (refusal 22 0) (refusal 0 0))))

abbrev pub adding : Run → List ℕ → RunAnswer
adding R v = tested R (addition_reading R v) (standing (lengthened R v))

-- whole runs

pub data Action : Type 0 where
  step : Action
  add : List ℕ → Action

unfoldable pub acting : List ℕ → Run → Action → RunAnswer
acting t R step = stepping R t
acting t R (add v) = adding R v

unfoldable pub last_answer : List ℕ → RunAnswer → List Action → RunAnswer
last_answer t a [] = a
last_answer t a (α ∷ rest) = last_answer t (acting t a.run α) rest

abbrev pub ran : PlainSetting → List ℕ → List ℕ → List Action → RunAnswer
ran P t x αs = last_answer t (beginning P t x) αs

unfoldable pub steps : List Action → ℕ
steps [] = 0
steps (step ∷ rest) = 1 + steps rest
steps (add v ∷ rest) = steps rest

unfoldable pub added : List ℕ → RunAnswer → List Action → List ℕ
added t a [] = []
added t a (step ∷ rest) = added t (stepping a.run t) rest
added t a (add v ∷ rest) =
    let b = adding a.run v in
    unless (eqb b.mark refused) v [] ++ added t b rest
