-- The pairs of indexes that loops add, and pairs of two lists.
use Rattle.std.proofs.Common.{◌≡◌, ◌↔◌, ◌⊎◌, inl, inr, ℕ, ◌+◌, ◌<◌, ◌≤◌, List, [], ◌∷◌, ◌++◌, length, map, take, get_or, Contains, All, sym, ap, subst, ◌∙◌, arith, Bool}
use Rattle.std.specs.Prelude.{Option, Some, option_map, slice_get, zip, IsTrue}
use Rattle.std.specs.List.{AllZip}
use Rattle.std.proofs.lemmas.List.{length-map, get_or-map}
use Rattle.std.proofs.lemmas.Option.{slice_get-map, slice_get_within, slice_get-get_or, same_Some}
use Rattle.std.proofs.lemmas.Slice.Zip.{all_zipped_more}
use Rattle.meaning.specs.Sets.{Relation}
use Rattle.meaning.proofs.Counting.{here, behind, head_or_tail}
use Rattle.meaning_plain.specs.Lists.{HasPairs, Grows}
use Rattle.meaning_plain.proofs.Growing.{nothing_there, pair_joined, first_of, second_of, grows_not, grows_as, grows_then}
use Rattle.plain_events.specs.declared.event.Event as code
use Rattle.plain_events.specs.Events.{event_as}
use Rattle.plain_runs.proofs.Mapping.{mapped_more}
use Rattle.plain_executions.specs.Executions.{AreRelated}

pub related_at : {X Y : Type 0} (f : X → Y) (R : Relation Y) (xs : List X) (i j : ℕ) (d e : X)
    → i < length xs → j < length xs
    → R (f (get_or xs i d)) (f (get_or xs j e)) ↔ AreRelated R (map f xs) i j
related_at {X} {Y} f R xs i j d e less lt =
    ((λ is. (f (get_or xs i d), f (get_or xs j e), at i d less, at j e lt, is)), back)
  where
    at : (k : ℕ) (x : X) → k < length xs → slice_get (map f xs) k ≡ Some (f (get_or xs k x))
    at k x below =
        slice_get-map f xs k ∙ ap (λ (o : Option X). option_map f o) (slice_get-get_or xs k x below)

    back : AreRelated R (map f xs) i j → R (f (get_or xs i d)) (f (get_or xs j e))
    back (a, b, is, are, related) =
        subst (λ (z : Y). R z (f (get_or xs j e))) (same_Some a (f (get_or xs i d)) (sym is ∙ at i d less))
        (subst (λ (z : Y). R a z) (same_Some b (f (get_or xs j e)) (sym are ∙ at j e lt)) related)

one_more : (j k : ℕ) → j < k + 1 → (j < k) ⊎ (j ≡ k)
one_more j k lt = grind arith

-- ---- the pairs from one index

module _ (S : Relation ℕ) (from : ℕ) where
  abbrev pub Row : ℕ → ℕ × ℕ → Type 0
  Row n p = (p.0 ≡ from) × (p.1 < n) × S from p.1

  pub row_begin : (ps : List (ℕ × ℕ)) → Grows (Row 0) ps ps
  row_begin ps = grows_not (Row 0) ps (λ p is. let lt : p.1 < 0 = is.1 in omega (arith, lt))

  pub row_more : (k : ℕ) (old mid new : List (ℕ × ℕ)) → Grows (Row k) old mid
      → Grows (λ p. (p ≡ (from, k)) × S from k) mid new → Grows (Row (k + 1)) old new
  row_more k old mid new before step =
      grows_as (λ p. Row k p ⊎ ((p ≡ (from, k)) × S from k)) (Row (k + 1)) old new
      (λ p. (to p, back p))
      (grows_then (Row k) (λ p. (p ≡ (from, k)) × S from k) old mid new before step)
    where
      to : (p : ℕ × ℕ) → Row k p ⊎ ((p ≡ (from, k)) × S from k) → Row (k + 1) p
      to p (inl (at, lt, is)) = (at, omega (arith, lt), is)
      to p (inr (e, is)) = (
        first_of e,
        (let h : p.1 ≡ k = second_of e in omega (arith, h)),
        subst (λ (n : ℕ). S from n) (sym (second_of e)) is,
      )

      split : (p : ℕ × ℕ) → p.0 ≡ from → S from p.1 → (p.1 < k) ⊎ (p.1 ≡ k)
          → Row k p ⊎ ((p ≡ (from, k)) × S from k)
      split p at is (inl lt) = inl (at, lt, is)
      split p at is (inr e) =
          inr (pair_joined p (from, k) at e, subst (λ (n : ℕ). S from n) e is)

      back : (p : ℕ × ℕ) → Row (k + 1) p → Row k p ⊎ ((p ≡ (from, k)) × S from k)
      back p (at, lt, is) = split p at is (one_more p.1 k lt)

  pub row_all : (n : ℕ) (old new : List (ℕ × ℕ)) → ((k : ℕ) → S from k → k < n)
      → Grows (Row n) old new → Grows (λ p. (p.0 ≡ from) × S from p.1) old new
  row_all n old new bound grows =
      grows_as (Row n) (λ p. (p.0 ≡ from) × S from p.1) old new
      (λ p. ((λ is. (is.0, is.2)), λ is. (is.0, bound p.1 is.1, is.1))) grows

-- ---- all pairs

module _ (S : Relation ℕ) where
  pub pairs_begin : (ps : List (ℕ × ℕ)) → ps ≡ [] → HasPairs (λ i j. (i < 0) × S i j) ps
  pairs_begin ps e i j = (
    (λ there. absurd (nothing_there (i, j) (subst (λ (l : List (ℕ × ℕ)). Contains l (i, j)) e there))),
    λ is. absurd (let lt : i < 0 = is.0 in omega (arith, lt)),
  )

  pub pairs_more : (k : ℕ) (old new : List (ℕ × ℕ)) → HasPairs (λ i j. (i < k) × S i j) old
      → Grows (λ p. (p.0 ≡ k) × S k p.1) old new → HasPairs (λ i j. (i < k + 1) × S i j) new
  pairs_more k old new before step i j = (to, back)
    where
      among : Contains old (i, j) ⊎ ((i ≡ k) × S k j) → (i < k + 1) × S i j
      among (inl there) =
          let is : (i < k) × S i j = (before i j).0 there in
          ((let lt : i < k = is.0 in omega (arith, lt)), is.1)
      among (inr (e, is)) = (omega (arith, e), subst (λ (n : ℕ). S n j) (sym e) is)

      to : Contains new (i, j) → (i < k + 1) × S i j
      to there = among ((step.exact (i, j)).0 there)

      split : S i j → (i < k) ⊎ (i ≡ k) → Contains new (i, j)
      split is (inl lt) = (step.exact (i, j)).1 (inl ((before i j).1 (lt, is)))
      split is (inr e) = (step.exact (i, j)).1 (inr (e, subst (λ (n : ℕ). S n j) e is))

      back : (i < k + 1) × S i j → Contains new (i, j)
      back (lt, is) = split is (one_more i k lt)

  pub pairs_all : (n : ℕ) (ps : List (ℕ × ℕ)) → ((i j : ℕ) → S i j → i < n)
      → HasPairs (λ i j. (i < n) × S i j) ps → HasPairs S ps
  pairs_all n ps bound are i j =
      ((λ there. ((are i j).0 there).1), λ is. (are i j).1 (bound i j is, is))

pub related_below : {X Y : Type 0} (f : X → Y) (R : Relation Y) (xs : List X) (n : ℕ)
    → length xs ≤ n → (i j : ℕ) → AreRelated R (map f xs) i j → (i < n) × (j < n)
related_below f R xs n le i j (a, b, at, also, is) =
    let e : length (map f xs) ≡ length xs = length-map xs f in
    let first : i < length (map f xs) = slice_get_within (map f xs) i a at in
    let second : j < length (map f xs) = slice_get_within (map f xs) j b also in
    (omega (arith, e, first, le), omega (arith, e, second, le))

-- ---- pairs of two lists

pub pair_same : {X Y : Type 0} (x z : X) (y w : Y)
    → ((x ≡ z) × (y ≡ w)) ↔ ◌≡◌ {A = X × Y} (x, y) (z, w)
pair_same {X} {Y} x z y w = (to, λ e. (ap (λ (p : X × Y). p.0) e, ap (λ (p : X × Y). p.1) e))
  where
    to : (x ≡ z) × (y ≡ w) → ◌≡◌ {A = X × Y} (x, y) (z, w)
    to (first, second) =
        ap (λ (u : X). let p : X × Y = (u, y) in p) first
        ∙ ap (λ (v : Y). let p : X × Y = (z, v) in p) second

pub there_cons : {X : Type 0} (y : X) (ys : List X) (x : X)
    → ((y ≡ x) ⊎ Contains ys x) ↔ Contains (y ∷ ys) x
there_cons {X} y ys x = (to, λ there. head_or_tail y ys x there)
  where
    to : (y ≡ x) ⊎ Contains ys x → Contains (y ∷ ys) x
    to (inl e) = subst (λ (z : X). Contains (y ∷ ys) z) e (here y ys)
    to (inr there) = behind y ys x there

pub zip_related : {X Y : Type 0} (P : X → Y → Type 0) (xs : List X) (ys : List Y) → AllZip P xs ys
    → (x : X) (y : Y) → Contains (zip ys xs) (y, x) → P x y
zip_related P [] [] are x y there = absurd (nothing_there (y, x) there)
zip_related P [] (z ∷ ys) are x y there = absurd are
zip_related P (z ∷ xs) [] are x y there = absurd are
zip_related {X} {Y} P (z ∷ xs) (w ∷ ys) (is, are) x y there =
    elim (head_or_tail (w, z) (zip ys xs) (y, x) there) [
      | inl e ↦
          subst (λ (a : X). P a y) (ap (λ (p : Y × X). p.1) e)
          (subst (λ (b : Y). P z b) (ap (λ (p : Y × X). p.0) e) is)
      | inr later ↦ zip_related P xs ys are x y later
    ]

-- a pair stands first, or later
pub pair_cases : {X Y : Type 0} (x z : X) (y w : Y) (rest : List (X × Y)) (first later b : Bool)
    → IsTrue first ↔ ((x ≡ z) × (y ≡ w)) → IsTrue later ↔ Contains rest (z, w)
    → IsTrue b ↔ (IsTrue first ⊎ IsTrue later) → IsTrue b ↔ Contains ((x, y) ∷ rest) (z, w)
pair_cases {X} {Y} x z y w rest first later b one other both = (to, back)
  where
    cases : IsTrue first ⊎ IsTrue later → (◌≡◌ {A = X × Y} (x, y) (z, w)) ⊎ Contains rest (z, w)
    cases (inl is) = inl ((pair_same x z y w).0 (one.0 is))
    cases (inr is) = inr (other.0 is)

    cases_back : (◌≡◌ {A = X × Y} (x, y) (z, w)) ⊎ Contains rest (z, w)
        → IsTrue first ⊎ IsTrue later
    cases_back (inl is) = inl (one.1 ((pair_same x z y w).1 is))
    cases_back (inr is) = inr (other.1 is)

    to : IsTrue b → Contains ((x, y) ∷ rest) (z, w)
    to is = (there_cons (x, y) rest (z, w)).0 (cases (both.0 is))

    back : Contains ((x, y) ∷ rest) (z, w) → IsTrue b
    back there = both.1 (cases_back ((there_cons (x, y) rest (z, w)).1 there))

-- the first of the stores and of the loads are these, or later ones are
pub read_behind : (froms reads loads : List code.Event) (from read store load : code.Event)
    (first later b : Bool) → loads ≡ read ∷ reads
    → IsTrue first ↔ ((event_as from ≡ event_as store) × (event_as read ≡ event_as load))
    → IsTrue later ↔ Contains (zip (map event_as froms) (map event_as reads)) (event_as store, event_as load)
    → IsTrue b ↔ (IsTrue first ⊎ IsTrue later)
    → IsTrue b
    ↔ Contains (zip (event_as from ∷ map event_as froms) (map event_as loads)) (event_as store, event_as load)
read_behind froms reads loads from read store load first later b e one other both =
    subst
    (λ (l : List code.Event). IsTrue b ↔ Contains (zip (event_as from ∷ map event_as froms) (map event_as l)) (event_as store, event_as load))
    (sym e)
    (pair_cases (event_as from) (event_as store) (event_as read) (event_as load)
    (zip (map event_as froms) (map event_as reads)) first later b one other both)

-- a loop that puts what is told of each thing
pub zipped_more : {X Y Z : Type 0} (P : Y → Z → Type 0) (f : X → Y) (xs : List X) (k : ℕ) (d : X)
    (old new : List Z) (z : Z) → k < length xs → AllZip P (take k (map f xs)) old
    → P (f (get_or xs k d)) z → new ≡ old ++ z ∷ [] → AllZip P (take (k + 1) (map f xs)) new
zipped_more {X} {Y} {Z} P f xs k d old new z lt before is e =
    subst (λ (ys : List Y). AllZip P ys new) (sym (mapped_more f xs k d lt))
    (subst (λ (zs : List Z). AllZip P (take k (map f xs) ++ f (get_or xs k d) ∷ []) zs) (sym e)
    (all_zipped_more P (take k (map f xs)) old (f (get_or xs k d)) z before is))

-- what holds of each thing of a list, at an index
pub all_at : {X Y : Type 0} (P : Y → Type 0) (f : X → Y) (xs : List X) (k : ℕ) (d : X)
    → k < length xs → All P (map f xs) → P (f (get_or xs k d))
all_at P f xs k d lt all =
    subst P (get_or-map f xs k d (f d) lt)
    (all k (f d) (let long : length (map f xs) ≡ length xs = length-map xs f in omega (arith, long, lt)))
