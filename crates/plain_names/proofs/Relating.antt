-- What stands before what in a list, and what some thing of a list has.
use Rattle.std.proofs.Common.{◌≡◌, ◌↔◌, ◌⊎◌, inl, inr, ℕ, zero, suc, ◌+◌, ◌<◌, ◌≤◌, List, [], ◌∷◌, length, map, take, get_or, Contains, Bool, refl, sym, ap, subst, ◌∙◌, arith}
use Rattle.std.specs.Prelude.{Some, slice_get, zip, IsTrue}
use Rattle.std.proofs.lemmas.List.{take_more, take_all}
use Rattle.std.proofs.lemmas.List.Elements.{Contains-get_or, Contains-push_cases}
use Rattle.std.proofs.lemmas.Option.{same_Some, slice_get_within, slice_get_read}
use Rattle.meaning.specs.Sets.{Relation}
use Rattle.meaning.specs.Names.{Name}
use Rattle.meaning.specs.Machine.{Value}
use Rattle.meaning.specs.Executions.{Event, Execution, Action, Loads, Stores, Coherence, loads_in}
use Rattle.meaning.specs.Predefined.{FromReads}
use Rattle.meaning.proofs.Counting.{here, behind, head_or_tail}
use Rattle.plain_runs.proofs.Listing.{none_there}
use Rattle.plain_events.specs.declared.event.Event as code
use Rattle.plain_events.specs.Events.{event_as}
use Rattle.plain_executions.specs.Executions.{AreRelated}
use Rattle.plain_executions.proofs.Indexing.{index_of, stands}
use Rattle.plain_names.specs.Related.{IsAccessing, AreAccessing, StandsBefore, AreOrdered, IsFromReadsAmong}

module _ (y : Event) (ys : List Event) (a b : Event) where
  stands_to : StandsBefore (y ∷ ys) a b → ((y ≡ a) × Contains ys b) ⊎ StandsBefore ys a b
  stands_to (zero, zero, lt, at, also) = absurd (omega (arith, lt))
  stands_to (zero, suc j, lt, at, also) = inl (same_Some y a at, stands ys j b also)
  stands_to (suc i, zero, lt, at, also) = absurd (omega (arith, lt))
  stands_to (suc i, suc j, lt, at, also) = inr (i, j, omega (arith, lt), at, also)

  stands_from : ((y ≡ a) × Contains ys b) ⊎ StandsBefore ys a b → StandsBefore (y ∷ ys) a b
  stands_from (inl (e, there)) =
      let at : (k : ℕ) × (slice_get ys k ≡ Some b) = index_of ys b there in
      (0, suc at.0, omega arith, ap (λ (z : Event). Some z) e, at.1)
  stands_from (inr (i, j, lt, at, also)) = (suc i, suc j, omega (arith, lt), at, also)

-- the answer for a list, from those for its first thing and for the rest
pub stands_answer : (order rest : List code.Event) (one : code.Event) (a b : Event)
    (same has begins later result : Bool) → order ≡ one ∷ rest
    → IsTrue same ↔ (event_as one ≡ a) → IsTrue has ↔ Contains (map event_as rest) b
    → IsTrue begins ↔ (IsTrue same × IsTrue has)
    → IsTrue later ↔ StandsBefore (map event_as rest) a b
    → IsTrue result ↔ (IsTrue begins ⊎ IsTrue later)
    → IsTrue result ↔ StandsBefore (map event_as order) a b
stands_answer order rest one a b same has begins later result e first second both behind either =
    subst (λ (l : List code.Event). IsTrue result ↔ StandsBefore (map event_as l) a b) (sym e) (
      (λ is. stands_from (event_as one) (map event_as rest) a b (to (either.0 is))),
      λ is. either.1 (from (stands_to (event_as one) (map event_as rest) a b is)),
    )
  where
    to : IsTrue begins ⊎ IsTrue later
        → ((event_as one ≡ a) × Contains (map event_as rest) b) ⊎ StandsBefore (map event_as rest) a b
    to (inl is) = let parts : IsTrue same × IsTrue has = both.0 is in inl (first.0 parts.0, second.0 parts.1)
    to (inr is) = inr (behind.0 is)

    from : ((event_as one ≡ a) × Contains (map event_as rest) b) ⊎ StandsBefore (map event_as rest) a b
        → IsTrue begins ⊎ IsTrue later
    from (inl is) = inl (both.1 (first.1 is.0, second.1 is.1))
    from (inr is) = inr (behind.1 is)

-- ---- what stands at two indexes

pub related_here : {X : Type 0} (R : Relation X) (xs : List X) (i j : ℕ) (x y : X)
    → i < length xs → x ≡ get_or xs i x → j < length xs → y ≡ get_or xs j y
    → R x y ↔ AreRelated R xs i j
related_here {X} R xs i j x y less at lt also = ((λ is. (x, y, first, second, is)), back)
  where
    first : slice_get xs i ≡ Some x
    first = slice_get_read xs (length xs) i x refl less at

    second : slice_get xs j ≡ Some y
    second = slice_get_read xs (length xs) j y refl lt also

    back : AreRelated R xs i j → R x y
    back (a, b, there, here_too, is) =
        subst (λ (z : X). R z y) (same_Some a x (sym there ∙ first))
        (subst (λ (z : X). R a z) (same_Some b y (sym here_too ∙ second)) is)

pub related_within : {X : Type 0} (R : Relation X) (xs : List X) (n : ℕ) → length xs ≤ n
    → (i j : ℕ) → AreRelated R xs i j → (i < n) × (j < n)
related_within R xs n le i j (a, b, at, also, is) =
    let first : i < length xs = slice_get_within xs i a at in
    let second : j < length xs = slice_get_within xs j b also in
    (omega (arith, first, le), omega (arith, second, le))

-- ---- bytes

pub accessing_as : (b : Bool) (k l : Name) → IsTrue b ↔ (k ≡ l) → (a : Action) (v : Value)
    → (a ≡ Loads k v) ⊎ (a ≡ Stores k v) → IsTrue b ↔ IsAccessing l a
accessing_as b k l same a v one = (to one, from one)
  where
    load_name : (m n : Name) (u w : Value) → Loads m u ≡ Loads n w → m ≡ n
    load_name m n u w e = cc

    store_name : (m n : Name) (u w : Value) → Stores m u ≡ Stores n w → m ≡ n
    store_name m n u w e = cc

    not_both : (m n : Name) (u w : Value) → Loads m u ≡ Stores n w → ⊥
    not_both m n u w e = cc

    to : (a ≡ Loads k v) ⊎ (a ≡ Stores k v) → IsTrue b → IsAccessing l a
    to (inl e) is = inl (v, e ∙ ap (λ (n : Name). Loads n v) (same.0 is))
    to (inr e) is = inr (v, e ∙ ap (λ (n : Name). Stores n v) (same.0 is))

    from : (a ≡ Loads k v) ⊎ (a ≡ Stores k v) → IsAccessing l a → IsTrue b
    from (inl e) (inl (w, is)) = same.1 (load_name k l v w (sym e ∙ is))
    from (inl e) (inr (w, is)) = absurd (not_both k l v w (sym e ∙ is))
    from (inr e) (inl (w, is)) = absurd (not_both l k w v (sym is ∙ e))
    from (inr e) (inr (w, is)) = same.1 (store_name k l v w (sym e ∙ is))

pub accesses_as : (b : Bool) (k : Name) (v : Value) (a c : Action)
    → (a ≡ Loads k v) ⊎ (a ≡ Stores k v) → IsTrue b ↔ IsAccessing k c
    → IsTrue b ↔ AreAccessing a c
accesses_as b k v a c one is = (to one, from one)
  where
    load_name : (m n : Name) (u w : Value) → Loads m u ≡ Loads n w → m ≡ n
    load_name m n u w e = cc

    store_name : (m n : Name) (u w : Value) → Stores m u ≡ Stores n w → m ≡ n
    store_name m n u w e = cc

    not_both : (m n : Name) (u w : Value) → Loads m u ≡ Stores n w → ⊥
    not_both m n u w e = cc

    to : (a ≡ Loads k v) ⊎ (a ≡ Stores k v) → IsTrue b → AreAccessing a c
    to (inl e) it = (k, inl (v, e), is.0 it)
    to (inr e) it = (k, inr (v, e), is.0 it)

    here : (l : Name) → k ≡ l → IsAccessing l c → IsTrue b
    here l e has = is.1 (subst (λ (n : Name). IsAccessing n c) (sym e) has)

    from : (a ≡ Loads k v) ⊎ (a ≡ Stores k v) → AreAccessing a c → IsTrue b
    from (inl e) (l, inl (w, at), has) = here l (load_name k l v w (sym e ∙ at)) has
    from (inl e) (l, inr (w, at), has) = absurd (not_both k l v w (sym e ∙ at))
    from (inr e) (l, inl (w, at), has) = absurd (not_both l k w v (sym at ∙ e))
    from (inr e) (l, inr (w, at), has) = here l (store_name k l v w (sym e ∙ at)) has

-- ---- reads

zip_first : {X Y : Type 0} (xs : List X) (ys : List Y) (x : X) (y : Y)
    → Contains (zip xs ys) (x, y) → Contains xs x
zip_first [] ys x y there = absurd (none_there (x, y) there)
zip_first (z ∷ xs) [] x y there = absurd (none_there (x, y) there)
zip_first {X} {Y} (z ∷ xs) (w ∷ ys) x y there =
    elim (head_or_tail (z, w) (zip xs ys) (x, y) there) [
      | inl e ↦ subst (λ (u : X). Contains (z ∷ xs) u) (ap (λ (p : X × Y). p.0) e) (here z xs)
      | inr later ↦ behind z xs x (zip_first xs ys x y later)
    ]

pub from_reads : (x : Execution) (result : Bool) (a b : Event) (reads_from : List Event)
    → reads_from ≡ x.reads_from → IsTrue result ↔ IsFromReadsAmong reads_from x a b
    → IsTrue result ↔ FromReads x a b
from_reads x result a b reads_from e is = (to, back)
  where
    to : IsTrue result → FromReads x a b
    to it =
        let found : IsFromReadsAmong reads_from x a b = is.0 it in
        (found.0, found.2.0, found.2.1)

    back : FromReads x a b → IsTrue result
    back (c, reads, later) =
        is.1 (
          c,
          subst (λ (l : List Event). Contains l c) (sym e) (zip_first x.reads_from (loads_in 0 x.runs) c a reads),
          (reads, later),
        )

-- ---- some thing of a list is so

module _ {X : Type 0} (P : X → Type 0) where
  abbrev pub HasOne : List X → Type 0
  HasOne xs = (x : X) × Contains xs x × P x

  pub one_there : (xs : List X) (k : ℕ) (d : X) → k < length xs → P (get_or xs k d) → HasOne xs
  one_there xs k d lt is = (get_or xs k d, Contains-get_or xs k d lt, is)

  pub none_later : (xs : List X) (k : ℕ) (d : X) → k < length xs → (P (get_or xs k d) → ⊥)
      → (HasOne (take k xs) → ⊥) → HasOne (take (k + 1) xs) → ⊥
  none_later xs k d lt other before (x, there, is) =
      elim (Contains-push_cases (take k xs) (get_or xs k d) x (subst (λ (l : List X). Contains l x) (take_more xs k d lt) there)) [
        | inl earlier ↦ before (x, earlier, is)
        | inr at ↦ other (subst P (sym at) is)
      ]

  pub none_of_all : (xs : List X) (k : ℕ) → length xs ≤ k → (HasOne (take k xs) → ⊥)
      → HasOne xs → ⊥
  none_of_all xs k le none = subst (λ (l : List X). HasOne l → ⊥) (take_all k xs le) none

pub coherent_as : (x : Execution) (a b : Event) (result : Bool)
    → IsTrue result ↔ AreOrdered x.coherence a b → IsTrue result ↔ Coherence x a b
coherent_as x a b result is = ((λ it. to (is.0 it)), λ are. is.1 (back are))
  where
    to : AreOrdered x.coherence a b → Coherence x a b
    to (es, there, (i, j, lt, at, also)) = (es, there, i, j, lt, at, also)

    back : Coherence x a b → AreOrdered x.coherence a b
    back (es, there, i, j, lt, at, also) = (es, there, (i, j, lt, at, also))
