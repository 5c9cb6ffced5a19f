-- The line of an answer, field after field.
--
--   digit_room       there is room for a digit where there is for a number
--   length_longer    how long a number of several digits is, by its tenth
--   put_digit        a number of one digit
--   put_digits       a longer one: the digits of its tenth, and its last digit
--   number_short     such a number is shorter
--   put_end          a number, and the byte after it
use Rattle.std.specs.Prelude.{ℕ, ◌+◌, ◌/◌, ◌%◌, ◌^◌, ◌≤◌, ◌<◌, ◌≡◌, List, [], ◌∷◌, ◌++◌, length, take, drop, set}
use Rattle.std.proofs.Common.{add-one, arith, sym, ap, ◌∙◌, append_assoc, length-append, length-drop, take_at, drop-drop, length-take-le}
use Rattle.std.proofs.lemmas.List.{set_split}
use Rattle.std.proofs.Math.Seq.{drop-append-add}
use Rattle.ticket.specs.declared.Answer.{Answer}
use Rattle.files.specs.Rules.{digit, space, line_feed, decimal, field, line_of}
use Rattle.files.specs.Laws.Prefixes.{Leads}
use Rattle.files.proofs.Laws.Prefixes.{leads}
use Rattle.files.proofs.Laws.Decimal.{decimal_digit, decimal_longer}
use Rattle.files.proofs.Laws.Decimal.DecimalShort.{decimal_short}
use Rattle.files.specs.Laws.Lines.{Put, longest_field}
pub mod PutLine

put_long : {before after text : List ℕ} {at next : ℕ} → Put before at text next after → length after ≡ length before
put_long {before} {after} {text} {at} {next} put =
    ap length put.bytes
    ∙ simp (length-append, length-drop) (omega (arith, put, length-take-le at before (omega (arith, put))))

put_byte : (before : List ℕ) (at b : ℕ) → at < length before → Put before at (b ∷ []) (at + 1) (set before at b)
put_byte before at b l = record { place = omega arith; inside = omega arith; bytes = rw (add-one at) (set_split before at b l) }

put_more : {before middle after text text' : List ℕ} {at next next' : ℕ} → Put before at text next middle
    → Put middle next text' next' after → Put before at (text ++ text') next' after
put_more {before} {middle} {after} {text} {text'} {at} {next} {next'} first second =
    let written = take at before ++ text in
    let long : length written ≡ next =
    omega (arith, length-append (take at before) text, length-take-le at before (omega (arith, first)), first.place) in
    let split : middle ≡ written ++ drop next before = first.bytes ∙ sym (append_assoc (take at before) text (drop next before)) in
    let head : take next middle ≡ written = ap (take next) split ∙ take_at written (drop next before) next long in
    let further : next' ≡ length written + length text' = omega (arith, second.place) in
    let tail : drop next' middle ≡ drop next' before =
    ap (drop next') split
    ∙ ap (λ n. drop n (written ++ drop next before)) further
    ∙ drop-append-add written (drop next before) (length text')
    ∙ drop-drop (length text') next before
    ∙ ap (λ n. drop n before) (sym second.place) in
    record {
      place = omega (arith, first.place, second.place, length-append text text');
      inside = omega (arith, second.inside, put_long first);
      bytes = second.bytes ∙ rw (head, tail) (simp append_assoc);
    }

pub digit_room : (at n : ℕ) {size : ℕ} → n < 10 → at + length (decimal n) ≤ size → at < size
digit_room at n one room = omega (arith, ap length (decimal_digit n one))

pub length_longer : (n : ℕ) → 10 ≤ n → length (decimal n) ≡ length (decimal (n / 10)) + 1
length_longer n l = rw (decimal_longer n l) (length-append (decimal (n / 10)) (digit (n % 10) ∷ []))

pub put_digit : {before : List ℕ} {at : ℕ} (n : ℕ) → n < 10 → at < length before
    → Put before at (decimal n) (at + 1) (set before at (48 + n))
put_digit {before} {at} n one l = rw (decimal_digit n one) (put_byte before at (digit n) l)

pub put_digits : {before middle : List ℕ} {at next : ℕ} (n : ℕ) → 10 ≤ n → next < length middle
    → Put before at (decimal (n / 10)) next middle → Put before at (decimal n) (next + 1) (set middle next (48 + n % 10))
put_digits {middle = middle} {next = next} n several l put =
    rw (decimal_longer n several) (put_more put (put_byte middle next (digit (n % 10)) l))

pub number_short : (n : ℕ) → n < 2 ^ 32 → length (decimal n) < longest_field
number_short n l = omega (arith, decimal_short 9 n (omega arith))

pub put_end : {before middle : List ℕ} {at next : ℕ} (n end : ℕ) → next < length middle
    → Put before at (decimal n) next middle → Put before at (field n end) (next + 1) (set middle next end)
unfolding field
put_end {middle = middle} {next = next} n end l put = put_more put (put_byte middle next end l)
