-- What is guessed is what a search would find.
use Rattle.std.proofs.Common.{◌≡◌, inl, inr, ℕ, zero, suc, ◌+◌, ◌-◌, ◌<◌, ◌≤◌, Bool, true, false, not, cond, ◌==◌, ◌||◌, nat_lt, nat_le, if◌then◌else◌, List, [], ◌∷◌, ◌++◌, length, map, take, drop, add-one, Some, None, slice_get, get_or, slice_set, refl, ap, sym, ◌∙◌, subst, eq-eqb, arith}
use Rattle.std.specs.List.{position_or_len}
use Rattle.std.proofs.lemmas.Bool.{cases_Bool, cases_eq, leb-true, le-leb, ltb-true, ltb-false, ne_eqb, not-true, not-false, and_parts, or_cases, and_right}
use Rattle.std.proofs.lemmas.List.{length-set, length-map, length-take-le, map_more, get_or-set_same, get_or-set_other}
use Rattle.std.proofs.lemmas.List.Sums.{position_or_len_is}
use Rattle.std.proofs.lemmas.Option.{slice_get-map, slice_get_within, slice_get-get_or, get_or_from_slice_get, same_Some}
use Rattle.memo_core.specs.declared.keys.Kind.{Kind}
use Rattle.memo_core.specs.Names.{kind_number}
use Rattle.bench_nodes.specs.declared.table.ItemRow.{ItemRow}
use Rattle.bench_nodes.specs.declared.table.Slot.{Slot}
use Rattle.bench_nodes.specs.Nodes.{item_stamp}
use Rattle.bench_nodes.specs.Slots.{is_slot, has_slot}
use Rattle.bench_nodes.specs.Places.{are_apart}
use Rattle.bench_nodes.proofs.Lookups.{or_true, slot_is}
use Rattle.bench_nodes.specs.Guesses.{left_of, item_spot, slot_spot, spot_of, are_first, are_items_guessed, are_slots_guessed, with_guess}

-- ---- guesses

-- what is guessed at the spot of an element is at most its index
pub first_below : (gs ss : List ℕ) (index i s : ℕ) → are_first gs index ss ≡ true
    → slice_get ss i ≡ Some s → get_or gs s 0 ≤ index + i
first_below gs [] index i s h at = cc
first_below gs (x ∷ ss) index zero s h at =
    let p = and_parts (nat_le (get_or gs x 0) index) (are_first gs (suc index) ss) h in
    let le = leb-true (get_or gs x 0) index p.0 in
    let e = same_Some x s at in
    subst (λ (y : ℕ). get_or gs y 0 ≤ index + 0) e (omega (arith, le))
first_below gs (x ∷ ss) index (suc i) s h at =
    let p = and_parts (nat_le (get_or gs x 0) index) (are_first gs (suc index) ss) h in
    let le = first_below gs ss (suc index) i s p.1 at in omega (arith, le)

-- one element more
first_more : (gs ss : List ℕ) (index s : ℕ) → are_first gs index ss ≡ true
    → get_or gs s 0 ≤ index + length ss → are_first gs index (ss ++ s ∷ []) ≡ true
first_more gs [] index s h le = rw (le-leb (get_or gs s 0) index (omega (arith, le))) refl
first_more gs (x ∷ ss) index s h le =
    let p = and_parts (nat_le (get_or gs x 0) index) (are_first gs (suc index) ss) h in
    rw p.0 (first_more gs ss (suc index) s p.1 (omega (arith, le)))

pub length_with : (gs : List ℕ) (spot v : ℕ) → length (with_guess gs spot v) ≡ length gs
length_with gs spot v = elim (cases_Bool (nat_lt v (get_or gs spot 0))) [
  | inl e ↦ rw e (length-set gs spot v)
  | inr f ↦ rw f refl
]

-- a guess is below those at no spot
within_gs : (gs : List ℕ) (spot v : ℕ) → v < get_or gs spot 0 → spot < length gs
within_gs [] spot v lt = absurd (omega (arith, lt))
within_gs (g ∷ gs) zero v lt = omega arith
within_gs (g ∷ gs) (suc spot) v lt = let l = within_gs gs spot v lt in omega (arith, l)

guess_put : (gs : List ℕ) (spot v : ℕ) → get_or (with_guess gs spot v) spot 0 ≤ v
guess_put gs spot v = elim (cases_Bool (nat_lt v (get_or gs spot 0))) [
  | inl e ↦ rw e (let s = get_or-set_same gs spot v 0 (within_gs gs spot v (ltb-true v (get_or gs spot 0) e)) in omega (arith, s))
  | inr f ↦ rw f (ltb-false v (get_or gs spot 0) f)
]

guess_less : (gs : List ℕ) (spot v s : ℕ) → get_or (with_guess gs spot v) s 0 ≤ get_or gs s 0
guess_less gs spot v s = elim (cases_Bool (nat_lt v (get_or gs spot 0))) [
  | inl e ↦ rw e (elim (cases_eq s spot) [
    | inl same ↦ subst (λ (x : ℕ). get_or (slice_set gs spot v) x 0 ≤ get_or gs x 0) (sym same)
        (let lt = ltb-true v (get_or gs spot 0) e in
        let k = get_or-set_same gs spot v 0 (within_gs gs spot v lt) in omega (arith, lt, k))
    | inr other ↦ (let k = get_or-set_other gs spot s v 0 other in omega (arith, k))
  ])
  | inr f ↦ rw f (omega arith)
]

first_less : (gs ss : List ℕ) (spot v index : ℕ) → are_first gs index ss ≡ true
    → are_first (with_guess gs spot v) index ss ≡ true
first_less gs [] spot v index h = refl
first_less gs (x ∷ ss) spot v index h =
    let p = and_parts (nat_le (get_or gs x 0) index) (are_first gs (suc index) ss) h in
    let le = leb-true (get_or gs x 0) index p.0 in
    let less = guess_less gs spot v x in
    rw (le-leb (get_or (with_guess gs spot v) x 0) index (omega (arith, le, less)))
    (first_less gs ss spot v (suc index) p.1)

-- the guesses with one more element
pub guessed_more : (gs ss : List ℕ) (s : ℕ) → are_first gs 0 ss ≡ true
    → are_first (with_guess gs s (length ss)) 0 (ss ++ s ∷ []) ≡ true
guessed_more gs ss s h =
    first_more (with_guess gs s (length ss)) ss 0 s (first_less gs ss s (length ss) 0 h)
    (let le = guess_put gs s (length ss) in omega (arith, le))

-- so it is of any elements with spots
pub spots_more : {X : Type 0} (f : X → ℕ) (gs : List ℕ) (xs : List X) (i : ℕ) (d : X)
    → i < length xs → are_first gs 0 (map f (take i xs)) ≡ true
    → are_first (with_guess gs (f (get_or xs i d)) i) 0 (map f (take (i + 1) xs)) ≡ true
spots_more f gs xs i d lt h =
    let many : length (map f (take i xs)) ≡ i = length-map (take i xs) f ∙ length-take-le i xs (omega (arith, lt)) in
    let more = guessed_more gs (map f (take i xs)) (f (get_or xs i d)) h in
    rw (map_more f xs i d lt) (rw many at more)

-- ---- items

pub item_within : (rows : List ItemRow) (number : ℕ)
    → position_or_len (λ i. i.number == number) rows ≤ length rows
item_within [] number = omega arith
item_within (r ∷ rows) number = by_test (r.number == number) (item_within rows number)
  where
    by_test : (b : Bool) → position_or_len (λ i. i.number == number) rows ≤ length rows
        → cond (not b) (1 + position_or_len (λ i. i.number == number) rows) 0 ≤ suc (length rows)
    by_test true later = omega arith
    by_test false later = omega (arith, later)

-- an item of that number that is guessed is the first
pub item_found : (gs : List ℕ) (rows : List ItemRow) (number at : ℕ) (r : ItemRow)
    → are_items_guessed gs rows ≡ true → at ≡ get_or gs (left_of number (length gs)) 0
    → slice_get rows at ≡ Some r → r.number ≡ number
    → at ≡ position_or_len (λ i. i.number == number) rows
item_found gs rows number at r h guess there is =
    let within = slice_get_within rows at r there in
    sym (position_or_len_is (λ i. i.number == number) rows at r (omega (arith, within))
    (λ k lt.
    let kth = slice_get-get_or rows k r (omega (arith, lt, within)) in
    ne_eqb (get_or rows k r).number number (λ same.
    let le = first_below gs (map (item_spot (length gs)) rows) 0 k (left_of number (length gs)) h
    (slice_get-map (item_spot (length gs)) rows k ∙ rw (kth, same) refl) in
    omega (arith, le, guess, lt)))
    (λ lt. eq-eqb (get_or rows at r).number number
    (ap (λ (x : ItemRow). x.number) (get_or_from_slice_get rows at r r there) ∙ is)))

-- where the guess is past all items, none is of that number
pub item_gone : (gs : List ℕ) (rows : List ItemRow) (number : ℕ) → are_items_guessed gs rows ≡ true
    → length rows ≤ get_or gs (left_of number (length gs)) 0
    → length rows ≡ position_or_len (λ i. i.number == number) rows
item_gone gs rows number h past =
    let d : ItemRow = record { number = 0; stamp = 0 } in
    sym (position_or_len_is (λ i. i.number == number) rows (length rows) d (omega arith)
    (λ k lt.
    let kth = slice_get-get_or rows k d lt in
    ne_eqb (get_or rows k d).number number (λ same.
    let le = first_below gs (map (item_spot (length gs)) rows) 0 k (left_of number (length gs)) h
    (slice_get-map (item_spot (length gs)) rows k ∙ rw (kth, same) refl) in
    omega (arith, le, past, lt)))
    (λ lt. absurd (omega (arith, lt))))

-- ---- stamps

-- the stamp of a number is that of the first row of the number
pub stamp_at : (is : List ItemRow) (n i : ℕ) (row : ItemRow)
    → position_or_len (λ x. x.number == n) is ≡ i → slice_get is i ≡ Some row
    → item_stamp is n ≡ row.stamp
stamp_at [] n i row p at = absurd (let e : None ≡ Some row = at in cc)
stamp_at (x ∷ xs) n zero row p at = by_test (x.number == n) p
  where
    by_test : (b : Bool) → cond (not b) (1 + position_or_len (λ x. x.number == n) xs) 0 ≡ 0
        → (if b then x.stamp else item_stamp xs n) ≡ row.stamp
    by_test true p =
        let e : Some x ≡ Some row = at in let same : x ≡ row = cc in ap (λ y. y.stamp) same
    by_test false p = absurd (omega (arith, p))
stamp_at (x ∷ xs) n (suc i) row p at = by_test (x.number == n) p (λ q. stamp_at xs n i row q at)
  where
    by_test : (b : Bool) → cond (not b) (1 + position_or_len (λ x. x.number == n) xs) 0 ≡ suc i
        → (position_or_len (λ x. x.number == n) xs ≡ i → item_stamp xs n ≡ row.stamp)
        → (if b then x.stamp else item_stamp xs n) ≡ row.stamp
    by_test true p later = absurd (omega (arith, p))
    by_test false p later = later (omega (arith, p))

pub stamp_past : (is : List ItemRow) (n i : ℕ) → position_or_len (λ x. x.number == n) is ≡ i
    → length is ≤ i → item_stamp is n ≡ 0
stamp_past [] n i p past = refl
stamp_past (x ∷ xs) n i p past = by_test (x.number == n) p (λ q l. stamp_past xs n (i - 1) q l)
  where
    by_test : (b : Bool) → cond (not b) (1 + position_or_len (λ x. x.number == n) xs) 0 ≡ i
        → (position_or_len (λ x. x.number == n) xs ≡ i - 1 → length xs ≤ i - 1
        → item_stamp xs n ≡ 0) → (if b then x.stamp else item_stamp xs n) ≡ 0
    by_test true p later = absurd (omega (arith, p, past))
    by_test false p later = later (omega (arith, p)) (omega (arith, p, past))

-- ---- slots

same_spot : (kind : Kind) (of count : ℕ) (s : Slot) → is_slot kind of s ≡ true
    → slot_spot count s ≡ spot_of kind of count
same_spot kind of count s h =
    let e = slot_is kind of s h in rw (e.0, e.1) refl

-- a slot that is guessed where it stands is of another kind or number than those before it
pub slot_new : (gs : List ℕ) (ss : List Slot) (index : ℕ) (s : Slot) → are_slots_guessed gs ss ≡ true
    → slice_get ss index ≡ Some s → get_or gs (slot_spot (length gs) s) 0 ≡ index
    → has_slot (take index ss) s.kind s.of ≡ false
slot_new gs ss index s h at is =
    none ss index 0 (omega arith) (λ i x there. let le = first i x there in omega (arith, le))
  where
    first : (i : ℕ) (x : Slot) → slice_get ss i ≡ Some x
        → get_or gs (slot_spot (length gs) x) 0 ≤ i
    first i x there =
        let le = first_below gs (map (slot_spot (length gs)) ss) 0 i (slot_spot (length gs) x) h
        (slice_get-map (slot_spot (length gs)) ss i ∙ rw there refl) in
        omega (arith, le)

    -- those from an index on
    none : (xs : List Slot) (n from : ℕ) → from + n ≤ index
        → ((i : ℕ) (x : Slot) → slice_get xs i ≡ Some x
        → get_or gs (slot_spot (length gs) x) 0 ≤ from + i)
        → has_slot (take n xs) s.kind s.of ≡ false
    none [] zero from le each = refl
    none [] (suc n) from le each = refl
    none (x ∷ xs) zero from le each = refl
    none (x ∷ xs) (suc n) from le each = elim (cases_Bool (is_slot s.kind s.of x)) [
      | inl e ↦ absurd (
          let here = each 0 x refl in
          let spot = ap (λ (i : ℕ). get_or gs i 0) (same_spot s.kind s.of (length gs) x e) in
          omega (arith, here, spot, is, le))
      | inr f ↦ rw f (none xs n (suc from) (omega (arith, le))
          (λ i y there. let l = each (suc i) y there in omega (arith, l)))
    ]

-- ---- slots one like another

own_slot : (s : Slot) → is_slot s.kind s.of s ≡ true
own_slot s =
    rw (eq-eqb (kind_number s.kind) (kind_number s.kind) refl, eq-eqb s.of s.of refl) refl

slot_same : (s x : Slot) → is_slot s.kind s.of x ≡ true → is_slot x.kind x.of s ≡ true
slot_same s x h = let e = slot_is s.kind s.of x h in rw (sym e.0, sym e.1) (own_slot s)

slot_other : (s x : Slot) → is_slot s.kind s.of x ≡ false → is_slot x.kind x.of s ≡ false
slot_other s x h = elim (cases_Bool (is_slot x.kind x.of s)) [
  | inl e ↦ absurd (let f = slot_same x s e in cc)
  | inr f ↦ f
]

or_none : (a b : Bool) → a || b ≡ false → (a ≡ false) × (b ≡ false)
or_none true b h = cc
or_none false b h = (refl, h)

has_none : (ss : List Slot) (s : Slot) (kind : Kind) (of : ℕ) → has_slot ss kind of ≡ false
    → is_slot kind of s ≡ false → has_slot (ss ++ s ∷ []) kind of ≡ false
has_none [] s kind of none other = rw other refl
has_none (x ∷ ss) s kind of none other =
    let p = or_none (is_slot kind of x) (has_slot ss kind of) none in
    rw p.0 (has_none ss s kind of p.1 other)

has_behind : (ss : List Slot) (s : Slot) (later : List Slot) (kind : Kind) (of : ℕ)
    → is_slot kind of s ≡ true → has_slot (ss ++ s ∷ later) kind of ≡ true
has_behind [] s later kind of h = rw h refl
has_behind (x ∷ ss) s later kind of h =
    rw (has_behind ss s later kind of h) (or_true (is_slot kind of x))

-- slots that are apart, and one more
pub apart_more : (ss : List Slot) (s : Slot) → are_apart ss ≡ true
    → has_slot ss s.kind s.of ≡ false → are_apart (ss ++ s ∷ []) ≡ true
apart_more [] s h none = refl
apart_more (x ∷ ss) s h none =
    let p = and_parts (not (has_slot ss x.kind x.of)) (are_apart ss) h in
    let q = or_none (is_slot s.kind s.of x) (has_slot ss s.kind s.of) none in
    rw (has_none ss s x.kind x.of (not-true (has_slot ss x.kind x.of) p.0) (slot_other s x q.0))
    (apart_more ss s p.1 q.1)

-- a slot like one before it is not apart
pub not_apart : (ss : List Slot) (s : Slot) (later : List Slot) → has_slot ss s.kind s.of ≡ true
    → are_apart (ss ++ s ∷ later) ≡ false
not_apart [] s later h = cc
not_apart (x ∷ ss) s later h =
    elim (or_cases (is_slot s.kind s.of x) (has_slot ss s.kind s.of) h) [
      | inl here ↦ rw (has_behind ss s later x.kind x.of (slot_same s x here)) refl
      | inr there ↦ rw (not_apart ss s later there)
          (and_right (not (has_slot (ss ++ s ∷ later) x.kind x.of)) false refl)
    ]

-- an element, with what stands before it and behind it
record IsAt {X : Type 0} (xs : List X) (i : ℕ) : Type 0 where
  here : X
  there : slice_get xs i ≡ Some here
  more : take (suc i) xs ≡ take i xs ++ here ∷ []
  whole : xs ≡ take i xs ++ here ∷ drop (suc i) xs

is_at : {X : Type 0} (xs : List X) (i : ℕ) → i < length xs → IsAt xs i
is_at [] i lt = absurd (omega (arith, lt))
is_at (x ∷ xs) zero lt = record { here = x; there = refl; more = refl; whole = refl }
is_at {X} (x ∷ xs) (suc i) lt =
    let a = is_at xs i (omega (arith, lt)) in
    record {
      here = a.here;
      there = a.there;
      more = ap (λ (l : List X). x ∷ l) a.more;
      whole = ap (λ (l : List X). x ∷ l) a.whole;
    }

-- so many slots that are apart, and one more
pub apart_next : (ss : List Slot) (i : ℕ) (b : Bool) → i < length ss
    → are_apart (take i ss) ≡ true → b ≡ true
    → ((s : Slot) → slice_get ss i ≡ Some s → b ≡ not (has_slot (take i ss) s.kind s.of))
    → are_apart (take (i + 1) ss) ≡ true
apart_next ss i b lt h is new =
    let a = is_at ss i lt in
    let none = not-true (has_slot (take i ss) a.here.kind a.here.of) (sym (new a.here a.there) ∙ is) in
    rw add-one (rw a.more (apart_more (take i ss) a.here h none))

-- a slot like one before it
pub apart_ends : (ss : List Slot) (i : ℕ) (b : Bool) → i < length ss → b ≡ false
    → ((s : Slot) → slice_get ss i ≡ Some s → b ≡ not (has_slot (take i ss) s.kind s.of))
    → false ≡ are_apart ss
apart_ends ss i b lt is new =
    let a = is_at ss i lt in
    let some = not-false (has_slot (take i ss) a.here.kind a.here.of) (sym (new a.here a.there) ∙ is) in
    sym (ap are_apart a.whole ∙ not_apart (take i ss) a.here (drop (suc i) ss) some)
