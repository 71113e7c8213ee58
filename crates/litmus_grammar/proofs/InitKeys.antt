-- The keys of the init block are those of the places that were named.
use Rattle.std.proofs.Common.{◌≡◌, ℕ, zero, suc, ◌+◌, ◌≤◌, List, [], ◌∷◌, length, Bool, true, false, Some, None, refl, sym, ap, ◌∙◌, arith}
use Rattle.std.specs.Prelude.{◌||◌, if◌then◌else◌}
use Rattle.std.specs.declared.cmp.Ordering.{Ordering}
use Rattle.std.specs.declared.cmp.Ordering.TheVariants.{Less, Equal, Greater}
use Rattle.std.specs.Ordering.{match_ordering, is_eq, nat_cmp}
use Rattle.std.specs.Cmp.Lexicographic.{slice_cmp}
use Rattle.std.specs.BTreeSet.{insert_key}
use Rattle.std.specs.Str.{bytes_eq}
use Rattle.std.proofs.lemmas.Map.Text.{is_eq-slice_cmp}
use Rattle.std.proofs.lemmas.Slice.Eq.{bytes_eq-Decides}
use Rattle.litmus_tokens.specs.declared.place.WrittenPlace.{WrittenPlace}
use Rattle.litmus_tokens.specs.declared.place.WrittenPlace.TheVariants as written
use Rattle.litmus_grammar.specs.Grammar.{LacksPlace}
use Rattle.litmus_grammar.specs.InitMachine.{Block, location_key, register_key, has_key, with_key, added}
use Rattle.std.proofs.lemmas.Bool.{false_from_ne_true, or_from}

abbrev pub key_of : WrittenPlace → List ℕ
key_of (written.Location n) = location_key n
key_of (written.Register t r) = register_key t r

abbrev pub with_keys : List (List ℕ) → List ℕ → List (List ℕ)
with_keys ks k = insert_key (slice_cmp nat_cmp) ks k

first_or : (a b : Bool) → (a || (a || b)) ≡ (a || b)
first_or true b = refl
first_or false b = refl

swapped : (a b c : Bool) → (a || (b || c)) ≡ (b || (a || c))
swapped true true c = refl
swapped true false c = refl
swapped false true c = refl
swapped false false c = refl

same_key : (k x : List ℕ) → slice_cmp nat_cmp k x ≡ Equal → k ≡ x
same_key k x e = (bytes_eq-Decides k x).0 (sym (is_eq-slice_cmp k x) ∙ ap is_eq e)

has_insert : (ks : List (List ℕ)) (k q : List ℕ)
    → has_key (with_keys ks k) q ≡ (bytes_eq q k || has_key ks q)
has_insert [] k q = ap (λ (b : Bool). b || false) (is_eq-slice_cmp q k)
has_insert (x ∷ xs) k q = by_order (slice_cmp nat_cmp k x) refl (has_insert xs k q)
  where
    by_order : (o : Ordering) → slice_cmp nat_cmp k x ≡ o
        → has_key (with_keys xs k) q ≡ (bytes_eq q k || has_key xs q)
        → has_key (match_ordering o (k ∷ x ∷ xs) (x ∷ xs) (x ∷ with_keys xs k)) q
        ≡ (bytes_eq q k || has_key (x ∷ xs) q)
    by_order Less e h = ap (λ (b : Bool). b || has_key (x ∷ xs) q) (is_eq-slice_cmp q k)
    by_order Equal e h =
        let here : is_eq (slice_cmp nat_cmp q x) ≡ bytes_eq q k = is_eq-slice_cmp q x ∙ ap (bytes_eq q) (sym (same_key k x e)) in
        ap (λ (b : Bool). b || has_key xs q) here ∙ sym (first_or (bytes_eq q k) (has_key xs q))
        ∙ ap (λ (b : Bool). bytes_eq q k || (b || has_key xs q)) (sym here)
    by_order Greater e h =
        ap (λ (b : Bool). is_eq (slice_cmp nat_cmp q x) || b) h
        ∙ swapped (is_eq (slice_cmp nat_cmp q x)) (bytes_eq q k) (has_key xs q)

tail_of : (x y : ℕ) (xs ys : List ℕ) → (x ∷ xs) ≡ (y ∷ ys) → (x ≡ y) × (xs ≡ ys)
tail_of x y xs ys e = (cc, cc)

same_place : (v w : WrittenPlace) → key_of v ≡ key_of w → v ≡ w
same_place (written.Location n) (written.Location m) e = ap written.Location (tail_of 0 0 n m e).1
same_place (written.Location n) (written.Register t r) e =
    absurd (let no_tag : zero ≡ suc zero = (tail_of 0 1 n (r ∷ t) e).0 in omega arith)
same_place (written.Register t r) (written.Location n) e =
    absurd (let no_tag : suc zero ≡ zero = (tail_of 1 0 (r ∷ t) n e).0 in omega arith)
same_place (written.Register t r) (written.Register u q) e =
    let rest : (r ∷ t) ≡ (q ∷ u) = (tail_of 1 1 (r ∷ t) (q ∷ u) e).1 in
    let parts = tail_of r q t u rest in
    ap (λ (x : List ℕ). written.Register x r) parts.1 ∙ ap (written.Register u) parts.0

-- the keys are those of these places
abbrev pub Keeps : List (List ℕ) → List WrittenPlace → Type 0
Keeps ks ws =
    (w : WrittenPlace)
    → (has_key ks (key_of w) ≡ false → LacksPlace ws w) × (LacksPlace ws w → has_key ks (key_of w) ≡ false)

pub keeps_none : Keeps [] []
keeps_none w = (λ e. tt, λ l. refl)

left_false : (a b : Bool) → (a || b) ≡ false → a ≡ false
left_false true b e = absurd cc
left_false false b e = refl

right_false : (a b : Bool) → (a || b) ≡ false → b ≡ false
right_false true b e = absurd cc
right_false false b e = e

pub keeps_more : (ks : List (List ℕ)) (ws : List WrittenPlace) (w : WrittenPlace) → Keeps ks ws
    → Keeps (with_keys ks (key_of w)) (w ∷ ws)
keeps_more ks ws w keeps v = (lacks, has_none)
  where
    split : (bytes_eq (key_of v) (key_of w) || has_key ks (key_of v))
        ≡ has_key (with_keys ks (key_of w)) (key_of v)
    split = sym (has_insert ks (key_of w) (key_of v))

    lacks : has_key (with_keys ks (key_of w)) (key_of v) ≡ false → (w ≡ v → ⊥) × LacksPlace ws v
    lacks e =
        let apart : bytes_eq (key_of v) (key_of w) ≡ false = left_false (bytes_eq (key_of v) (key_of w)) (has_key ks (key_of v)) (split ∙ e) in (
          λ same.
              let equal : bytes_eq (key_of v) (key_of w) ≡ true =
              (bytes_eq-Decides (key_of v) (key_of w)).1 (ap key_of (sym same)) in
              absurd cc,
          (keeps v).0 (right_false (bytes_eq (key_of v) (key_of w)) (has_key ks (key_of v))
              (split ∙ e)),
        )

    has_none : (w ≡ v → ⊥) × LacksPlace ws v → has_key (with_keys ks (key_of w)) (key_of v) ≡ false
    has_none l =
        sym split ∙ or_from (bytes_eq (key_of v) (key_of w)) (has_key ks (key_of v))
        (false_from_ne_true (bytes_eq (key_of v) (key_of w)) (λ e.
        l.0 (sym (same_place v w ((bytes_eq-Decides (key_of v) (key_of w)).0 e)))))
        ((keeps v).1 l.1)

-- a place that was not named is taken
pub added_new : (b : Block) (k : List ℕ) → has_key b.named k ≡ false
    → added b k ≡ Some (with_key b k)
added_new b k e = ap (λ (there : Bool). if there then None else Some (with_key b k)) e

-- ---- there is always another name

abbrev size : List WrittenPlace → ℕ
size [] = 0
size (written.Location n ∷ ws) = suc (length n) + size ws
size (written.Register t r ∷ ws) = size ws

abbrev zeros : ℕ → List ℕ
zeros zero = []
zeros (suc k) = 0 ∷ zeros k

length-zeros : (k : ℕ) → length (zeros k) ≡ k
length-zeros zero = refl
length-zeros (suc k) = ap suc (length-zeros k)

abbrev name_length : WrittenPlace → ℕ
name_length (written.Location n) = length n
name_length (written.Register t r) = 0

abbrev is_location : WrittenPlace → Bool
is_location (written.Location n) = true
is_location (written.Register t r) = false

lacks_longer : (ws : List WrittenPlace) (k : ℕ) → size ws ≤ k
    → LacksPlace ws (written.Location (zeros k))
lacks_longer [] k h = tt
lacks_longer (written.Location n ∷ ws) k h = (
  λ e.
      let same : length n ≡ length (zeros k) = ap name_length e in
      let len = length-zeros k in absurd (omega arith),
  lacks_longer ws k (omega arith),
)
lacks_longer (written.Register t r ∷ ws) k h =
    (λ e. let other : false ≡ true = ap is_location e in absurd cc, lacks_longer ws k h)

abbrev pub fresh : List WrittenPlace → List ℕ
fresh ws = zeros (size ws)

pub lacks_fresh : (ws : List WrittenPlace) → LacksPlace ws (written.Location (fresh ws))
lacks_fresh ws = lacks_longer ws (size ws) (omega arith)
