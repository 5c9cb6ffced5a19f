-- The layout of a ticket: record numbers and their part, row and column (T4). Everything is over the list of parts; a part more or
-- less changes no line here but those that name the parts.
--
--   start_none, start_next, ends_within   where the parts start: the first at 0, each other one where the one before it ends
--   holder_at, Held G k w, held   the part that holds a record
--   PartsAre G, parts_are the sizes of the parts by name, and where each starts
--   size_claims           the size of a part of claims
--   bytes_cut             they are cut from the ticket, each end as far as the ticket goes
--   part_bytes_long       how many they are, of a ticket that is long enough
--   form_of_part, value_of_part   record i of a part is record start + i of the ticket
--   Located G k w i j     record k is in part w, in row i, column j
--   record_at             every row and column of every part is at one record number
--   located_at            every record number is at a row and a column of a part
--   located_once          and at no other part, row or column
--   located_tests G t k w i j, tests_located   the tests of record k by its part, row and column
--   value_in_lem              the value in a row and a column of a part is that of its record
--   part_a, part_b, part_bias, part_quotients, part_remainders   the parts by name
--   range_a, range_b, range_bias, range_quotients, range_remainders   which values are in range
--   each_part             what holds of each of the five parts holds of every part
--   every_part            what holds of each row and column of each of them holds of those of every part
-- any list of parts
use Rattle.std.specs.Prelude.{◌≡◌, ℕ, zero, suc, ◌+◌, ◌-◌, ◌*◌, ◌/◌, ◌%◌, ◌^◌, ◌<◌, ◌≤◌, min, List, [], ◌∷◌, length, take, drop, nat_le, nat_lt, slice_index, slice_index_or, unsigned_abs}
use Rattle.std.proofs.Math.Nat.{add-sub_cancel_left, min-eq_left, min-eq_right}
use Rattle.std.proofs.Common.{mod-lt, div-add-mod', div-lt_iff_lt-mul, add-one, sym, ◌∙◌, lt-ltb, le-ltb, lit<, drop_of_length-le, take_all}
use Rattle.std.proofs.Math.Decide.{dec_le, ℕ_discrete}
use native.Mathlib.Omega.{arith}
use Rattle.std.proofs.Math.Arith.{digits_div, digits_mod, digits_lt}
use Rattle.std.proofs.Math.Path.{refl, ap}
use Rattle.std.proofs.Math.ListN.{length-drop, get_or-eq_default}
use Rattle.std.proofs.Math.Seq.{take-nil, take-length, drop-length, get_or-drop, get_or-take, length-take-le}
use Rattle.residue.specs.Rules.{modulus, signed_entry}
use Rattle.algebra.proofs.Laws.Fills.{digits_same}
use Rattle.ticket.specs.declared.setting.Setting.{Setting}
use Rattle.ticket.specs.Rules.{half_range, is_entry, shifted_quotient, Test, test, Part, no_part, parts, part, part_size, count, start, records, record_bytes, ticket_length, holder, of_a, of_b, of_bias, of_quotients, of_remainders, bias_bound, bias_columns, byte_at, value_at, formed, part_tests, record_tests, value_in}
use Rattle.ticket.specs.Laws.Limits.{Counts}
use Rattle.ticket.specs.Laws.Layout.{longest_ticket, part_bytes, PartIs}
pub mod StartOfB
pub mod LengthMost

abbrev nth : List Part → ℕ → Part
nth l w = slice_index_or l w no_part

-- each part starts where the one before it ends, and none ends past the last
counted : (l : List Part) (w : ℕ) → (count (take (suc w) l) ≡ count (take w l) + part_size (nth l w))
    × (count (take w l) + part_size (nth l w) ≤ count l)
unfolding count
counted [] zero = (refl, omega arith)
counted [] (suc w) = (refl, omega arith)
counted (P ∷ rest) zero = (omega arith, omega arith)
counted (P ∷ rest) (suc w) = let h = counted rest w in (omega arith, omega arith)

holder_nth : (l : List Part) (w i : ℕ) → i < part_size (nth l w) → holder l (count (take w l) + i) ≡ w
unfolding count holder
holder_nth [] zero i m = absurd (omega arith)
holder_nth [] (suc w) i m = absurd (omega arith)
holder_nth (P ∷ rest) zero i m = rw (lt-ltb (0 + i) (part_size P) (omega arith))
holder_nth (P ∷ rest) (suc w) i m =
    let k = part_size P + count (take w rest) + i in
    let past : k - part_size P ≡ count (take w rest) + i = omega arith in
    rw (le-ltb k (part_size P) (omega arith), past) (ap suc (holder_nth rest w i m))

held_in : (l : List Part) (k : ℕ) → k < count l → let w = holder l k in
    (w < length l) × (count (take w l) ≤ k) × (k < count (take w l) + part_size (nth l w))
unfolding count holder
held_in [] k m = absurd (omega arith)
held_in (P ∷ rest) k m =
    elim (dec_le (part_size P) k) [
      | no a ↦
          let here : k < part_size P = omega arith in
          rw (lt-ltb k (part_size P) here) (omega arith, omega arith, omega arith)
      | yes a ↦
          let h = held_in rest (k - part_size P) (omega arith) in
          rw (le-ltb k (part_size P) a) (omega arith, omega arith, omega arith)
    ]

module _ (G : Setting) where
  pub start_none : start G 0 ≡ 0
  unfolding start count
  start_none = refl

  pub start_next : (w : ℕ) → start G (w + 1) ≡ start G w + part_size (part G w)
  unfolding start part
  start_next w = rw (add-one w) (counted (parts G) w).0

  pub ends_within : (w : ℕ) → start G w + part_size (part G w) ≤ records G
  unfolding start part records
  ends_within w = (counted (parts G) w).1

  pub holder_at : {w i : ℕ} → i < part_size (part G w) → holder (parts G) (start G w + i) ≡ w
  unfolding start part
  holder_at {w} {i} m = holder_nth (parts G) w i m

  pub record Held (k w : ℕ) : Type 0 where
    pub within : w < length (parts G)
    pub from : start G w ≤ k
    pub below : k < start G w + part_size (part G w)

  pub held : {k : ℕ} → k < records G → Held k (holder (parts G) k)
  unfolding start part records
  held {k} m = let h = held_in (parts G) k m in record { within = h.0; from = h.1; below = h.2 }

-- the parts by name
pub record PartsAre (G : Setting) : Type 0 where
  pub five : length (parts G) ≡ 5
  pub size_a : part_size (part G of_a) ≡ G.rows * G.inner
  pub size_b : part_size (part G of_b) ≡ G.inner * G.columns
  pub size_bias : part_size (part G of_bias) ≡ G.rows * bias_columns G
  pub size_quotients : part_size (part G of_quotients) ≡ G.rows * G.columns
  pub size_remainders : part_size (part G of_remainders) ≡ G.rows * G.columns
  pub start_a : start G of_a ≡ 0
  pub start_b : start G of_b ≡ G.rows * G.inner
  pub start_bias : start G of_bias ≡ G.rows * G.inner + G.inner * G.columns
  pub start_quotients : start G of_quotients ≡ G.rows * G.inner + G.inner * G.columns + G.rows * bias_columns G
  pub start_remainders : start G of_remainders
      ≡ G.rows * G.inner + G.inner * G.columns + G.rows * bias_columns G + G.rows * G.columns
  pub all : records G ≡ G.rows * G.inner + G.inner * G.columns + G.rows * bias_columns G + 2 * (G.rows * G.columns)

pub parts_are : (G : Setting) → PartsAre G
unfolding parts part start records count
parts_are G =
    record {
      five = refl;
      size_a = refl;
      size_b = refl;
      size_bias = refl;
      size_quotients = refl;
      size_remainders = refl;
      start_a = refl;
      start_b = omega arith;
      start_bias = omega arith;
      start_quotients = omega arith;
      start_remainders = omega arith;
      all = omega arith;
    }

module _ (G : Setting) {w : ℕ} where
  pub size_claims : 2 < w → w < 5 → part_size (part G w) ≡ G.rows * G.columns
  unfolding parts part
  size_claims low high = elim (ℕ_discrete w 3) [ yes three ↦ rw three | no other ↦ let four : w ≡ 4 = omega arith in rw four ]

-- a part of a list, from a place to another, as far as the list goes
cut_within : (t : List ℕ) (a n : ℕ) → let L = length t in take (min (a + n) L - min a L) (drop (min a L) t) ≡ take n (drop a t)
cut_within t a n =
    elim (dec_le (length t) a) [
      | yes past ↦ rw (min-eq_right past, drop-length t, drop_of_length-le t past) (take-nil (min (a + n) (length t) - length t) ∙ sym (take-nil n))
      | no inside ↦
          let from : min a (length t) ≡ a = min-eq_left (omega arith) in
          rw from
          (elim (dec_le (a + n) (length t)) [
            | yes fits ↦ rw (min-eq_left fits, add-sub_cancel_left)
            | no short ↦
                let end : min (a + n) (length t) ≡ length t = min-eq_right (omega arith) in
                let long : length (drop a t) ≤ n = omega (arith, length-drop a t) in
                rw (end, ← length-drop a t, take-length) (sym (take_all n (drop a t) long))
          ])
    ]

module _ (G : Setting) (t : List ℕ) (w : ℕ) where
  pub bytes_cut : let a = record_bytes * start G w in let past = a + record_bytes * part_size (part G w) in
      take (min past (length t) - min a (length t)) (drop (min a (length t)) t) ≡ part_bytes G t w
  unfolding part_bytes
  bytes_cut = cut_within t (record_bytes * start G w) (record_bytes * part_size (part G w))

  pub part_bytes_long : length t ≡ ticket_length G → length (part_bytes G t w) ≡ record_bytes * part_size (part G w)
  unfolding part_bytes ticket_length
  part_bytes_long long =
      length-take-le (record_bytes * part_size (part G w)) (drop (record_bytes * start G w) t)
      (omega (arith, ends_within G w, length-drop (record_bytes * start G w) t))

  module _ {i : ℕ} (m : i < part_size (part G w)) where
    byte_of_part : (byte : ℕ) → byte < record_bytes → byte_at (part_bytes G t w) i byte ≡ byte_at t (start G w + i) byte
    unfolding part_bytes
    byte_of_part byte l =
        get_or-take (record_bytes * part_size (part G w)) (drop (record_bytes * start G w) t) (record_bytes * i + byte) 0 (omega arith)
        ∙ get_or-drop (record_bytes * start G w) t (record_bytes * i + byte) 0 ∙ ap (λ n. slice_index t n) (omega arith)

    pub form_of_part : (kind row column : ℕ) → formed (part_bytes G t w) i kind row column ≡ formed t (start G w + i) kind row column
    unfolding formed
    form_of_part kind row column =
        rw (byte_of_part 0 (lit< tt), byte_of_part 1 (lit< tt), byte_of_part 2 (lit< tt), byte_of_part 3 (lit< tt))

    pub value_of_part : value_at (part_bytes G t w) i ≡ value_at t (start G w + i)
    unfolding value_at
    value_of_part = rw (byte_of_part 4 (lit< tt), byte_of_part 5 (lit< tt), byte_of_part 6 (lit< tt), byte_of_part 7 (lit< tt))

pub record Located (G : Setting) (k w row column : ℕ) : Type 0 where
  pub in_part : holder (parts G) k ≡ w
  pub place : k ≡ start G w + (row * (part G w).columns + column)
  pub row_within : row < (part G w).rows
  pub column_within : column < (part G w).columns

pub record_at : (G : Setting) (w row column : ℕ) → row < (part G w).rows → column < (part G w).columns
    → (start G w + (row * (part G w).columns + column) < records G)
    × Located G (start G w + (row * (part G w).columns + column)) w row column
record_at G w row column l m =
    let inside : row * (part G w).columns + column < part_size (part G w) = digits_lt l m in
    (omega (arith, ends_within G w), record { in_part = holder_at G inside; place = refl; row_within = l; column_within = m })

pub located_at : (G : Setting) (k : ℕ) → k < records G
    → (w : ℕ) × Held G k w × Located G k w ((k - start G w) / (part G w).columns) ((k - start G w) % (part G w).columns)
located_at G k l =
    let w = holder (parts G) k in
    let P = part G w in
    let i = k - start G w in
    let h = held G l in
    let inside : i < part_size P = omega (arith, h.from, h.below) in
    let some : 0 < P.columns = elim (dec_le 1 P.columns) [
      | yes le ↦ le
      | no lt ↦ let none : P.columns ≡ 0 = omega arith in absurd (omega (arith, ap (λ n. P.rows * n) none))
    ] in
    let place : k ≡ start G w + (i / P.columns * P.columns + i % P.columns) = omega (arith, div-add-mod' i P.columns, h.from) in
    (w, h, record { in_part = refl; place = place; row_within = (div-lt_iff_lt-mul some).1 inside; column_within = mod-lt i some })

pub located_once : {G : Setting} {k w w' row row' column column' : ℕ}
    → Located G k w row column → Located G k w' row' column' → (w ≡ w') × (row ≡ row') × (column ≡ column')
located_once {G} {k} {w} {w'} {row} {row'} {column} {column'} a b =
    let same : w ≡ w' = sym a.in_part ∙ b.in_part in
    let P = part G w' in
    let place : k ≡ start G w' + (row * P.columns + column) = rw same at a.place in
    let inside : column < P.columns = rw same at a.column_within in
    let index : row * P.columns + column ≡ row' * P.columns + column' = omega (arith, place, b.place) in
    let digits = digits_same P.columns inside b.column_within index in
    (same, digits.0, digits.1)

abbrev pub located_tests : Setting → List ℕ → ℕ → ℕ → ℕ → ℕ → List Test
located_tests G t k w row column =
    test (formed t k (part G w).kind row column) 5
    ∷ test (nat_lt (value_at t k) modulus) 6
    ∷ test ((part G w).range (value_at t k)) (part G w).outside
    ∷ []

pub tests_located : {G : Setting} (t : List ℕ) {k w row column : ℕ} → Located G k w row column
    → record_tests G t k ≡ located_tests G t k w row column
unfolding record_tests part_tests
tests_located {G} t {k} {w} {row} {column} at =
    let index : k - start G w ≡ row * (part G w).columns + column = omega (arith, at.place) in
    rw (at.in_part, index, digits_div row at.column_within, digits_mod row at.column_within)

pub value_in_lem : (G : Setting) (t : List ℕ) (w i j : ℕ) → value_in G t w i j ≡ value_at t (start G w + (i * (part G w).columns + j))
unfolding value_in
value_in_lem G t w i j = refl

module _ (G : Setting) where
  pub part_a : PartIs G of_a 1 G.rows G.inner
  unfolding parts part
  part_a = record { kind_is = refl; rows_are = refl; columns_are = refl }

  pub part_b : PartIs G of_b 2 G.inner G.columns
  unfolding parts part
  part_b = record { kind_is = refl; rows_are = refl; columns_are = refl }

  pub part_bias : PartIs G of_bias 5 G.rows (bias_columns G)
  unfolding parts part
  part_bias = record { kind_is = refl; rows_are = refl; columns_are = refl }

  pub part_quotients : PartIs G of_quotients 3 G.rows G.columns
  unfolding parts part
  part_quotients = record { kind_is = refl; rows_are = refl; columns_are = refl }

  pub part_remainders : PartIs G of_remainders 4 G.rows G.columns
  unfolding parts part
  part_remainders = record { kind_is = refl; rows_are = refl; columns_are = refl }

  module _ (x : ℕ) where
    pub range_a : (part G of_a).range x ≡ nat_le (unsigned_abs (signed_entry modulus x)) G.bound
    unfolding parts part is_entry
    range_a = refl

    pub range_b : (part G of_b).range x ≡ nat_le (unsigned_abs (signed_entry modulus x)) G.bound
    unfolding parts part is_entry
    range_b = refl

    pub range_bias : (part G of_bias).range x ≡ nat_le (unsigned_abs (signed_entry modulus x)) (bias_bound G)
    unfolding parts part is_entry
    range_bias = refl

    pub range_quotients : (part G of_quotients).range x ≡ nat_lt ((x + half_range G) % modulus) (2 ^ G.width)
    unfolding parts part shifted_quotient
    range_quotients = refl

    pub range_remainders : (part G of_remainders).range x ≡ nat_lt x G.scale
    unfolding parts part
    range_remainders = refl

  pub each_part : (Q : ℕ → Type 0) → Q of_a → Q of_b → Q of_bias → Q of_quotients → Q of_remainders → (w : ℕ) → w < length (parts G) → Q w
  unfolding parts
  each_part Q a b c q r zero h = a
  each_part Q a b c q r (suc zero) h = b
  each_part Q a b c q r (suc (suc zero)) h = c
  each_part Q a b c q r (suc (suc (suc zero))) h = q
  each_part Q a b c q r (suc (suc (suc (suc zero)))) h = r
  each_part Q a b c q r (suc (suc (suc (suc (suc w))))) h = absurd (omega arith)

  pub every_part : (Q : ℕ → ℕ → ℕ → Type 0) → ((i j : ℕ) → i < G.rows → j < G.inner → Q of_a i j)
      → ((i j : ℕ) → i < G.inner → j < G.columns → Q of_b i j) → ((i j : ℕ) → i < G.rows → j < bias_columns G → Q of_bias i j)
      → ((i j : ℕ) → i < G.rows → j < G.columns → Q of_quotients i j) → ((i j : ℕ) → i < G.rows → j < G.columns → Q of_remainders i j)
      → (w i j : ℕ) → w < length (parts G) → i < (part G w).rows → j < (part G w).columns → Q w i j
  unfolding parts part
  every_part Q a b c q r w i j h = each_part (λ w. (i j : ℕ) → i < (part G w).rows → j < (part G w).columns → Q w i j) a b c q r w h i j
