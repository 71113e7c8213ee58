-- Possible read choices with one load more.
use Rattle.std.proofs.Common.{ℕ, ◌≡◌, ◌<◌, ◌≤◌, ◌+◌, ◌↔◌, inl, inr, Bool, true, false, cond, IsTrue, List, [], ◌∷◌, ◌++◌, map, filter, length, take, get_or, slice_get, Option, Some, option_to_list, Contains, arith, rules, sym, subst, refl, ap, ◌∙◌}
use Rattle.std.proofs.lemmas.List.{append-nil, append_assoc, map-append, take_all, length-map}
use Rattle.std.proofs.lemmas.Option.{slice_get_within, get_or_from_slice_get, slice_get_cases}
use Rattle.bit_rows.specs.Relation.{Events, IsMember}
use Rattle.store_orders.specs.Lists.{IsFiltered, none, kept, left}
use Rattle.store_orders.specs.Events.{numbers, is_load}
use Rattle.run_combinations.specs.ReadChoices.{MayReadFrom, Derived, IsPossible, nexts, accesses_in, stores_for, may_read}
use Rattle.run_combinations.specs.Rounds.{IsReadingOf, HasDerived, GainsNext}
use Rattle.store_orders.specs.declared.combination.Event.{Event}
use Rattle.run_combinations.specs.declared.reading.Reading.{Reading}
use Rattle.run_combinations.specs.declared.reading.Load.{Load}
use Rattle.run_combinations.proofs.Deriving.{possible_more, possible_no_more}
use Rattle.store_orders.proofs.Filters.{IsFiltered-append}
use Rattle.run_combinations.proofs.Numbers.{Numbered, mapped_at, contained, number_there, proper}
use Rattle.store_orders.proofs.Stores.{one_event_more}

-- the list has gained those with one of the first stores
pub record GainsSome (r : Reading) (load : Load) (index : ℕ) (reads_from : List ℕ) (i : ℕ)
    (old new : List (List ℕ)) : Type 0 where
  pub more : List (List ℕ)
  pub added : new ≡ old ++ more
  pub next : (es : List Event) (pairs : List (ℕ × ℕ)) → IsReadingOf es pairs r
      → slice_get r.loads.items index ≡ Some load → length reads_from ≡ index
      → IsPossible (accesses_in es pairs) reads_from → (e : Event)
      → slice_get (filter is_load es) index ≡ Some e
      → IsFiltered (IsPossible (accesses_in es pairs))
      (nexts (numbers (λ d. may_read e.action d.action) 0 (take i es)) reads_from) more

pub gains_none : (r : Reading) (load : Load) (index : ℕ) (reads_from : List ℕ) (old : List (List ℕ))
    → GainsSome r load index reads_from 0 old (old ++ [])
gains_none r load index reads_from old =
    record { more = []; added = refl; next = λ es pairs shows at long possible e there. none }

some_same : {X : Type 0} {u v : X} → Some u ≡ Some v → u ≡ v
some_same h = cc

-- the source of a load at an index, by its event
source_is : (es : List Event) (pairs : List (ℕ × ℕ)) (index : ℕ) (e : Event)
    → slice_get (filter is_load es) index ≡ Some e
    → get_or (accesses_in es pairs).sources index [] ≡ stores_for es e
source_is es pairs index e there =
    get_or_from_slice_get (map (stores_for es) (filter is_load es)) index (stores_for es e) []
    (mapped_at (stores_for es) (filter is_load es) (map (stores_for es) (filter is_load es)) index e
    refl there)

-- one store more: the load can read it just where it is a source that arises without the load
gains_one : (r : Reading) (load : Load) (index : ℕ) (reads_from : List ℕ) (i : ℕ) (derived : Events)
    (more : List (List ℕ)) → HasDerived r reads_from (Some index) derived
    → (es : List Event) (pairs : List (ℕ × ℕ)) → IsReadingOf es pairs r
    → slice_get r.loads.items index ≡ Some load → length reads_from ≡ index
    → IsPossible (accesses_in es pairs) reads_from → (e d : Event)
    → slice_get (filter is_load es) index ≡ Some e → i < length es → slice_get es i ≡ Some d
    → IsFiltered (IsPossible (accesses_in es pairs))
    (nexts (numbers (λ x. may_read e.action x.action) 0 (take i es)) reads_from) more → (b : Bool)
    → may_read e.action d.action ≡ b → (f : Bool)
    → IsTrue f ↔ (IsMember load.sources i × IsMember derived i)
    → IsFiltered (IsPossible (accesses_in es pairs)) (nexts (cond b (i ∷ []) []) reads_from)
    (cond f ((reads_from ++ i ∷ []) ∷ []) [])
gains_one r load index reads_from i derived more has es pairs shows at long possible e d there lt here
    before b is f test = go b is f test
  where
    from_zero : (k : ℕ) → 0 + k ≡ k
    from_zero k = omega arith

    source : MayReadFrom (accesses_in es pairs) index i ↔ IsMember load.sources i
    source = let m = (shows.sources index load at).members i in (m.1, m.0)

    within : length reads_from < length (accesses_in es pairs).loads
    within =
        subst (λ (k : ℕ). k < length (numbers is_load 0 es)) (sym long) (slice_get_within
        (numbers is_load 0 es) index load.event (mapped_at (λ (l : Load). l.event) r.loads.items
        (numbers is_load 0 es) index load shows.loads at))

    read_there : may_read e.action d.action ≡ true → IsMember load.sources i
    read_there t =
        source.0 (subst (λ (l : List ℕ). Contains l i) (sym (source_is es pairs index e there))
        (subst (λ (k : ℕ). Contains (stores_for es e) k) (from_zero i)
        (number_there (λ x. may_read e.action x.action) 0 es i d here t)))

    same_read : IsMember load.sources i → may_read e.action d.action ≡ true
    same_read m =
        let n : Numbered (λ x. may_read e.action x.action) 0 es i = contained (λ x. may_read e.action x.action) es i (subst (λ (l : List ℕ). Contains l i) (source_is es pairs index e there) (source.1 m)) in
        let k : n.index ≡ i = omega (arith, n.is) in
        let same : n.item ≡ d = some_same (sym n.there ∙ ap (λ (j : ℕ). slice_get es j) k ∙ here) in
        ap (λ (x : Event). may_read e.action x.action) (sym same) ∙ n.passes

    at_way : (s : ℕ) → MayReadFrom (accesses_in es pairs) index s
        → MayReadFrom (accesses_in es pairs) (length reads_from) s
    at_way s c = subst (λ (k : ℕ). MayReadFrom (accesses_in es pairs) k s) (sym long) c

    arises : Derived (accesses_in es pairs) reads_from (Some index) i
        → Derived (accesses_in es pairs) reads_from (Some (length reads_from)) i
    arises v = subst (λ (k : ℕ). Derived (accesses_in es pairs) reads_from (Some k) i) (sym long) v

    arises_back : Derived (accesses_in es pairs) reads_from (Some (length reads_from)) i
        → Derived (accesses_in es pairs) reads_from (Some index) i
    arises_back v = subst (λ (k : ℕ). Derived (accesses_in es pairs) reads_from (Some k) i) long v

    yes_true : IsTrue true
    yes_true = search rules

    no_false : IsTrue false → ⊥
    no_false t = search rules

    go : (b : Bool) → may_read e.action d.action ≡ b → (f : Bool)
        → IsTrue f ↔ (IsMember load.sources i × IsMember derived i)
        → IsFiltered (IsPossible (accesses_in es pairs)) (nexts (cond b (i ∷ []) []) reads_from)
        (cond f ((reads_from ++ i ∷ []) ∷ []) [])
    go true t true u =
        kept
        (possible_more (accesses_in es pairs) reads_from i within (at_way i (source.1 (u.0 yes_true).0))
        (arises ((has es pairs shows i).0 (u.0 yes_true).1)) possible) none
    go true t false u =
        left
        (λ h. possible_no_more (length es) (accesses_in es pairs) reads_from i (proper es pairs) within
        (λ v. no_false (u.1 (read_there t, (has es pairs shows i).1 (arises_back v)))) h) none
    go false t true u =
        absurd (let k : may_read e.action d.action ≡ true = same_read (u.0 yes_true).0 in cc)
    go false t false u = none

pub gains_more : (r : Reading) (load : Load) (index : ℕ) (reads_from : List ℕ) (i : ℕ) (derived : Events)
    (old mid new : List (List ℕ)) (f : Bool) → HasDerived r reads_from (Some index) derived
    → IsTrue f ↔ (IsMember load.sources i × IsMember derived i) → i < r.count
    → GainsSome r load index reads_from i old mid → new ≡ mid ++ cond f ((reads_from ++ i ∷ []) ∷ []) []
    → GainsSome r load index reads_from (i + 1) old new
gains_more r load index reads_from i derived old mid new f has test inside before turn = record {
  more = before.more ++ cond f ((reads_from ++ i ∷ []) ∷ []) [];
  added =
      turn ∙ ap (λ (l : List (List ℕ)). l ++ cond f ((reads_from ++ i ∷ []) ∷ []) []) before.added
      ∙ append_assoc old before.more (cond f ((reads_from ++ i ∷ []) ∷ []) []);
  next = next;
}
  where
    next : (es : List Event) (pairs : List (ℕ × ℕ)) → IsReadingOf es pairs r
        → slice_get r.loads.items index ≡ Some load → length reads_from ≡ index
        → IsPossible (accesses_in es pairs) reads_from → (e : Event)
        → slice_get (filter is_load es) index ≡ Some e
        → IsFiltered (IsPossible (accesses_in es pairs))
        (nexts (numbers (λ d. may_read e.action d.action) 0 (take (i + 1) es)) reads_from)
        (before.more ++ cond f ((reads_from ++ i ∷ []) ∷ []) [])
    next es pairs shows at long possible e there =
        elim (slice_get_cases es i).1 [
          | inl t ↦
              let same : numbers (λ d. may_read e.action d.action) 0 (take (i + 1) es) ≡ numbers (λ d. may_read e.action d.action) 0 (take i es) ++ cond (may_read e.action t.0.action) (i ∷ []) [] =
              one_event_more (λ d. may_read e.action d.action) es i t.0 t.1
              ∙ ap
              (λ (x : Event). numbers (λ d. may_read e.action d.action) 0 (take i es)
              ++ cond (may_read e.action x.action) (i ∷ []) []) t.3 in
              let so_far : IsFiltered (IsPossible (accesses_in es pairs)) (nexts (numbers (λ x. may_read e.action x.action) 0 (take i es)) reads_from) before.more = before.next es pairs shows at long possible e there in
              let step : IsFiltered (IsPossible (accesses_in es pairs)) (nexts (cond (may_read e.action t.0.action) (i ∷ []) []) reads_from) (cond f ((reads_from ++ i ∷ []) ∷ []) []) =
              gains_one r load index reads_from i derived before.more has es pairs shows at long possible e
              t.0 there t.1 t.2 so_far (may_read e.action t.0.action) refl f test in
              subst (λ (l : List (List ℕ)). IsFiltered (IsPossible (accesses_in es pairs)) l
              (before.more ++ cond f ((reads_from ++ i ∷ []) ∷ []) []))
              (sym (ap (λ (l : List ℕ). nexts l reads_from) same
              ∙ map-append (λ x. reads_from ++ x ∷ [])
              (numbers (λ d. may_read e.action d.action) 0 (take i es))
              (cond (may_read e.action t.0.action) (i ∷ []) [])))
              (IsFiltered-append (IsPossible (accesses_in es pairs))
              (nexts (numbers (λ d. may_read e.action d.action) 0 (take i es)) reads_from)
              before.more (nexts (cond (may_read e.action t.0.action) (i ∷ []) []) reads_from)
              (cond f ((reads_from ++ i ∷ []) ∷ []) []) so_far step)
          | inr t ↦ absurd (let c : r.count ≡ length es = shows.count in
              omega (arith, c, t.0, inside))
        ]

-- after the last store
pub gains_all : (r : Reading) (load : Load) (index : ℕ) (reads_from : List ℕ) (i : ℕ)
    (old new : List (List ℕ)) → (r.count ≤ 128 → r.count ≤ i)
    → GainsSome r load index reads_from i old new → GainsNext r load index reads_from old new
gains_all r load index reads_from i old new past h = record { more = h.more; added = h.added; next = next }
  where
    next : (es : List Event) (pairs : List (ℕ × ℕ)) → IsReadingOf es pairs r
        → slice_get r.loads.items index ≡ Some load → length reads_from ≡ index
        → IsPossible (accesses_in es pairs) reads_from
        → IsFiltered (IsPossible (accesses_in es pairs))
        (nexts (get_or (accesses_in es pairs).sources index []) reads_from) h.more
    next es pairs shows at long possible =
        let loads_at : slice_get (numbers is_load 0 es) index ≡ Some load.event = mapped_at (λ (l : Load). l.event) r.loads.items (numbers is_load 0 es) index load shows.loads at in
        let lt : index < length (numbers is_load 0 es) = slice_get_within (numbers is_load 0 es) index load.event loads_at in
        elim (slice_get_cases (filter is_load es) index).1 [
          | inl t ↦
              let whole : take i es ≡ es = take_all i es (let c : r.count ≡ length es = shows.count in let p : r.count ≤ i = past shows.few in omega (arith, c, p)) in
              subst
              (λ (l : List ℕ).
              IsFiltered (IsPossible (accesses_in es pairs)) (nexts l reads_from) h.more)
              (sym (source_is es pairs index t.0 t.2))
              (subst
              (λ (l : List Event). IsFiltered (IsPossible (accesses_in es pairs))
              (nexts (numbers (λ d. may_read t.0.action d.action) 0 l) reads_from) h.more)
              whole
              (h.next es pairs shows at long possible t.0 t.2))
          | inr t ↦ absurd (
              let p : length (accesses_in es pairs).sources
              ≡ length (accesses_in es pairs).loads = (proper es pairs).paired in
              let m : length (map (stores_for es) (filter is_load es))
              ≡ length (filter is_load es) =
              length-map (filter is_load es) (stores_for es) in
              omega (arith, p, m, lt, t.0))
        ]

-- a store found, and the one before it is added
pub pushed : (a b : List (List ℕ)) (reads_from : List ℕ) (last next : Option ℕ) (x : ℕ) (f : Bool)
    → f ≡ true → next ≡ Some x → b ≡ a ++ nexts (option_to_list last) reads_from
    → b ++ nexts (option_to_list next) reads_from
    ≡ (a ++ nexts (option_to_list last) reads_from) ++ cond f ((reads_from ++ x ∷ []) ∷ []) []
pushed a b reads_from last next x f t n e =
    ap (λ (l : List (List ℕ)). l ++ nexts (option_to_list next) reads_from) e
    ∙ ap (λ (o : Option ℕ). (a ++ nexts (option_to_list last) reads_from) ++ nexts (option_to_list o) reads_from)
    n
    ∙ sym (ap
    (λ (g : Bool). (a ++ nexts (option_to_list last) reads_from)
    ++ cond g ((reads_from ++ x ∷ []) ∷ []) []) t)

pub not_pushed : (a b : List (List ℕ)) (reads_from : List ℕ) (last next : Option ℕ) (x : ℕ) (f : Bool)
    → f ≡ false → next ≡ last → b ≡ a
    → b ++ nexts (option_to_list next) reads_from
    ≡ (a ++ nexts (option_to_list last) reads_from) ++ cond f ((reads_from ++ x ∷ []) ∷ []) []
not_pushed a b reads_from last next x f t n e =
    ap (λ (l : List (List ℕ)). l ++ nexts (option_to_list next) reads_from) e
    ∙ ap (λ (o : Option ℕ). a ++ nexts (option_to_list o) reads_from) n
    ∙ sym (append-nil (a ++ nexts (option_to_list last) reads_from))
    ∙ sym (ap
    (λ (g : Bool). (a ++ nexts (option_to_list last) reads_from)
    ++ cond g ((reads_from ++ x ∷ []) ∷ []) []) t)
