-- All read choices are found.
use Rattle.std.proofs.Common.{ℕ, ◌≡◌, ◌<◌, ◌≤◌, ◌+◌, inl, inr, Bool, true, false, IsTrue, List, [], ◌∷◌, ◌++◌, map, length, take, get_or, slice_get, Some, None, Vec, arith, rules, sym, subst, ap, ◌∙◌}
use Rattle.std.specs.List.{flat_map}
use Rattle.std.specs.declared.alloc.Global.{Global}
use Rattle.std.proofs.lemmas.List.{append-nil, take_more, take_all, length-map, length-take-le, get_or-map}
use Rattle.std.proofs.lemmas.Bool.{cases_lt}
use Rattle.std.proofs.lemmas.List.Concat.{flat_map-append}
use Rattle.std.proofs.lemmas.Option.{slice_get_within, get_or_from_slice_get}
use Rattle.bit_rows.specs.Relation.{Events, IsMember}
use Rattle.store_orders.specs.Lists.{lists_of, tuples, IsFiltered, none, kept, left}
use Rattle.store_orders.specs.Events.{numbers, is_load}
use Rattle.run_combinations.specs.ReadChoices.{Derived, IsReadChoice, IsPossible, nexts, accesses_in}
use Rattle.run_combinations.specs.Rounds.{IsReadingOf, HasDerived, TellsPossible, ArePossible, GainsNext, AreNext, AreOver, HasManyChoices, HasReadChoices, load_event}
use Rattle.run_combinations.specs.Search.{Tells}
use Rattle.store_orders.specs.declared.combination.Event.{Event}
use Rattle.run_combinations.specs.declared.reading.Reading.{Reading}
use Rattle.run_combinations.specs.declared.reading.Load.{Load}
use Rattle.store_orders.proofs.Filters.{IsFiltered-append, IsFiltered-unique}
use Rattle.run_combinations.proofs.Numbers.{Behind, behind_at, mapped_at, element_at, proper}
use Rattle.run_combinations.proofs.ReadChoiceLists.{read_choices_more, read_choices_all, no_fewer_read_choices, all_fit, Each, Each-at, Each-map}

-- all loads arise, or one does not
pub all_there : (r : Reading) (derived : Events) → HasDerived r [] None derived
    → ((k : ℕ) (x : Load) → k < length r.loads.items → slice_get r.loads.items k ≡ Some x
    → IsMember derived x.event) → TellsPossible r true
all_there r derived has every es pairs shows = (
  (λ t. record {
    few = omega arith;
    allowed = λ i lt. absurd (omega (arith, lt));
    arises = λ i lt.
        let b : Behind load_event r.loads.items i (get_or (numbers is_load 0 es) i 0) = behind_at load_event r.loads.items (numbers is_load 0 es) i (get_or (numbers is_load 0 es) i 0) shows.loads (element_at (numbers is_load 0 es) i 0 lt) in
        (has es pairs shows (get_or (numbers is_load 0 es) i 0)).0 (subst
        (λ (y : ℕ). IsMember derived y) (sym b.is) (every i b.item
        (slice_get_within r.loads.items i b.item b.there) b.there));
  }),
  (λ h. search rules),
)

pub one_missing : (r : Reading) (derived : Events) (k : ℕ) (x : Load) → HasDerived r [] None derived
    → slice_get r.loads.items k ≡ Some x → (IsMember derived x.event → ⊥) → TellsPossible r false
one_missing r derived k x has at missing es pairs shows = (
  (λ t. absurd (no_false t)),
  (λ h.
      let there : slice_get (numbers is_load 0 es) k ≡ Some x.event = mapped_at load_event r.loads.items (numbers is_load 0 es) k x shows.loads at in
      let v : Derived (accesses_in es pairs) [] None (get_or (numbers is_load 0 es) k 0) = h.arises k (slice_get_within (numbers is_load 0 es) k x.event there) in
      absurd (missing ((has es pairs shows x.event).1 (subst
      (λ (y : ℕ). Derived (accesses_in es pairs) [] None y)
      (get_or_from_slice_get (numbers is_load 0 es) k x.event 0 there) v)))),
)
  where
    no_false : IsTrue false → ⊥
    no_false t = search rules

pub there_more : (derived : Events) (xs : List Load) (i : ℕ) (x : Load) → slice_get xs i ≡ Some x
    → IsMember derived x.event
    → ((k : ℕ) (y : Load) → k < i → slice_get xs k ≡ Some y → IsMember derived y.event)
    → (k : ℕ) (y : Load) → k < i + 1 → slice_get xs k ≡ Some y → IsMember derived y.event
there_more derived xs i x at there before k y lt is = elim (cases_lt k i) [
  | inl below ↦ before k y below is
  | inr ge ↦
      let e : i ≡ k = omega (arith, ge, lt) in
      let same : x ≡ y = some_same (sym at ∙ ap (λ (j : ℕ). slice_get xs j) e ∙ is) in
      subst (λ (l : Load). IsMember derived l.event) same there
]
  where
    some_same : {X : Type 0} {u v : X} → Some u ≡ Some v → u ≡ v
    some_same h = cc

-- what is next of one read choice more
pub no_next : (r : Reading) (load : Load) (index : ℕ) (read_choices : List (List ℕ))
    (vs : List (Vec ℕ Global)) → vs ≡ [] → AreNext r load index 0 read_choices (lists_of vs)
no_next r load index read_choices vs e es pairs shows at fit = rw e none

pub next_more : (r : Reading) (load : Load) (index i : ℕ) (read_choices : List (List ℕ)) (w : List ℕ)
    (mid new : List (List ℕ)) → i < length read_choices → w ≡ get_or read_choices i w
    → AreNext r load index i read_choices mid → GainsNext r load index w mid new
    → AreNext r load index (i + 1) read_choices new
next_more r load index i read_choices w mid new lt is before gains es pairs shows at fit =
    subst (λ (l : List (List ℕ)). IsFiltered P l new) (sym whole)
    (subst (λ (l : List (List ℕ)). IsFiltered P (flat_map N (take i read_choices) ++ N w) l)
    (sym gains.added)
    (IsFiltered-append P (flat_map N (take i read_choices)) mid (N w) gains.more
    (before es pairs shows at fit) (gains.next es pairs shows at here.0 here.1)))
  where
    P : List ℕ → Type 0
    P = IsPossible (accesses_in es pairs)

    N : List ℕ → List (List ℕ)
    N = nexts (get_or (accesses_in es pairs).sources index [])

    here : (length w ≡ index) × IsPossible (accesses_in es pairs) w
    here =
        subst (λ (f : List ℕ). (length f ≡ index) × IsPossible (accesses_in es pairs) f) (sym is)
        (fit i w lt)

    whole : flat_map N (take (i + 1) read_choices) ≡ flat_map N (take i read_choices) ++ N w
    whole =
        ap (λ (l : List (List ℕ)). flat_map N l) (take_more read_choices i w lt
        ∙ ap (λ (f : List ℕ). take i read_choices ++ f ∷ []) (sym is))
        ∙ flat_map-append N (take i read_choices) (w ∷ [])
        ∙ ap (λ (l : List (List ℕ)). flat_map N (take i read_choices) ++ l) (append-nil (N w))

pub one_read_choice : (r : Reading) (b : Bool) (v : Vec ℕ Global) (vs : List (Vec ℕ Global))
    → TellsPossible r b → b ≡ true → vs ≡ v ∷ [] → v.items ≡ [] → ArePossible r 0 (lists_of vs)
one_read_choice r b v vs tells t e i es pairs shows =
    rw (e, i) (kept ((tells es pairs shows).0 (subst (λ (c : Bool). IsTrue c) (sym t) yes_true))
    none)
  where
    yes_true : IsTrue true
    yes_true = search rules

pub no_read_choice : (r : Reading) (b : Bool) (vs : List (Vec ℕ Global)) → TellsPossible r b → b ≡ false
    → vs ≡ [] → ArePossible r 0 (lists_of vs)
no_read_choice r b vs tells f e es pairs shows =
    rw e (left (λ h. no_false (subst (λ (c : Bool). IsTrue c) f ((tells es pairs shows).1 h))) none)
  where
    no_false : IsTrue false → ⊥
    no_false t = search rules

-- the read choices that fit are all of one length
fitting : (es : List Event) (pairs : List (ℕ × ℕ)) (p : ℕ) (prefixes : List (List ℕ))
    → p < length (accesses_in es pairs).sources
    → IsFiltered (IsPossible (accesses_in es pairs))
    (tuples [] (take p (accesses_in es pairs).sources)) prefixes
    → Each (λ f. (length f ≡ p) × IsPossible (accesses_in es pairs) f) prefixes
fitting es pairs p prefixes lt h =
    let l : length {A = List ℕ} (take p (accesses_in es pairs).sources) ≡ p = length-take-le p (accesses_in es pairs).sources (omega (arith, lt)) in
    Each-map
    (λ f. (length f ≡ 0 + length (take p (accesses_in es pairs).sources))
    × IsPossible (accesses_in es pairs) f)
    (λ f. (length f ≡ p) × IsPossible (accesses_in es pairs) f)
    (λ f a. (omega (arith, a.0, l), a.1)) prefixes
    (all_fit (IsPossible (accesses_in es pairs)) (take p (accesses_in es pairs).sources) []
    prefixes h)

has_source : (es : List Event) (pairs : List (ℕ × ℕ)) (r : Reading) (p : ℕ) (load : Load)
    → IsReadingOf es pairs r → slice_get r.loads.items p ≡ Some load
    → p < length (accesses_in es pairs).sources
has_source es pairs r p load shows at =
    let lt : p < length (numbers is_load 0 es) = slice_get_within (numbers is_load 0 es) p load.event (mapped_at load_event r.loads.items (numbers is_load 0 es) p load shows.loads at) in
    let e : length (accesses_in es pairs).sources ≡ length (numbers is_load 0 es) = (proper es pairs).paired in
    omega (arith, lt, e)

pub one_load_more : (r : Reading) (p : ℕ) (load : Load) (prefixes next : List (List ℕ))
    → slice_get r.loads.items p ≡ Some load → ArePossible r p prefixes
    → AreNext r load p (length prefixes) prefixes next → ArePossible r (p + 1) next
one_load_more r p load prefixes next at before step es pairs shows =
    let lt : p < length (accesses_in es pairs).sources = has_source es pairs r p load shows at in
    let fit : Each (λ f. (length f ≡ p) × IsPossible (accesses_in es pairs) f) prefixes = fitting es pairs p prefixes lt (before es pairs shows) in
    read_choices_more (accesses_in es pairs) p lt prefixes next (before es pairs shows)
    (subst
    (λ (l : List (List ℕ)). IsFiltered (IsPossible (accesses_in es pairs))
    (flat_map (nexts (get_or (accesses_in es pairs).sources p [])) l) next)
    (take_all (length prefixes) prefixes (omega arith))
    (step es pairs shows at (λ k d l. Each-at
    (λ f. (length f ≡ p) × IsPossible (accesses_in es pairs) f) prefixes k d l fit)))

pub over_at : (r : Reading) (p limit : ℕ) (load : Load) (prefixes : List (List ℕ))
    → slice_get r.loads.items p ≡ Some load → ArePossible r p prefixes → AreOver r load p prefixes limit
    → HasManyChoices r limit
over_at r p limit load prefixes at before over es pairs all shows read_choices =
    let lt : p < length (accesses_in es pairs).sources = has_source es pairs r p load shows at in
    let fit : Each (λ f. (length f ≡ p) × IsPossible (accesses_in es pairs) f) prefixes = fitting es pairs p prefixes lt (before es pairs shows) in
    let le : length over.1 ≤ length all = no_fewer_read_choices (length es) (accesses_in es pairs) (proper es pairs) p over.0 lt prefixes over.1 all (before es pairs shows) fit (over.3 es pairs shows at (λ k d l. Each-at (λ f. (length f ≡ p) × IsPossible (accesses_in es pairs) f) prefixes k d l fit)) read_choices in
    omega (arith, le, over.2)

pub all_loads : (r : Reading) (p : ℕ) (read_choices : List (List ℕ)) → length r.loads.items ≤ p
    → ArePossible r p read_choices → HasReadChoices r read_choices
all_loads r p read_choices past h es pairs shows =
    read_choices_all (length es) (accesses_in es pairs) (proper es pairs) read_choices
    (subst
    (λ (l : List (List ℕ)).
    IsFiltered (IsPossible (accesses_in es pairs)) (tuples [] l) read_choices)
    (take_all p (accesses_in es pairs).sources few)
    (h es pairs shows))
  where
    few : length (accesses_in es pairs).sources ≤ p
    few =
        let e : length (accesses_in es pairs).sources ≡ length (numbers is_load 0 es) = (proper es pairs).paired in
        let m : length (map load_event r.loads.items) ≡ length r.loads.items = length-map r.loads.items load_event in
        let n : length (map load_event r.loads.items) ≡ length (numbers is_load 0 es) = ap (λ (l : List ℕ). length l) shows.loads in
        omega (arith, e, m, n, past)

pub over_all : (r : Reading) (limit : ℕ) (read_choices : List (List ℕ)) → HasReadChoices r read_choices
    → limit < length read_choices → HasManyChoices r limit
over_all r limit read_choices h lt es pairs all shows are =
    subst (λ (l : List (List ℕ)). limit < length l)
    (IsFiltered-unique (IsReadChoice (accesses_in es pairs)) (tuples [] (accesses_in es pairs).sources)
    read_choices all (h es pairs shows) are) lt

-- what is next of all read choices, or some are over a limit
pub told_next : (r : Reading) (load : Load) (p limit : ℕ) (vs : List (Vec ℕ Global))
    (next : List (List ℕ)) (b : Bool) → b ≡ true
    → Tells b (AreNext r load p (length vs) (lists_of vs) next)
    (AreOver r load p (lists_of vs) limit)
    → AreNext r load p (length (lists_of vs)) (lists_of vs) next
told_next r load p limit vs next b t told =
    subst (λ (n : ℕ). AreNext r load p n (lists_of vs) next) (sym (length-map vs (λ v. v.items)))
    (subst
    (λ (c : Bool). Tells c (AreNext r load p (length vs) (lists_of vs) next)
    (AreOver r load p (lists_of vs) limit)) t told)

pub told_over : (r : Reading) (load : Load) (p limit : ℕ) (vs : List (Vec ℕ Global))
    (next : List (List ℕ)) (b : Bool) → b ≡ false
    → Tells b (AreNext r load p (length vs) (lists_of vs) next)
    (AreOver r load p (lists_of vs) limit) → AreOver r load p (lists_of vs) limit
told_over r load p limit vs next b f told =
    subst
    (λ (c : Bool). Tells c (AreNext r load p (length vs) (lists_of vs) next)
    (AreOver r load p (lists_of vs) limit)) f told

-- a vector that was one of the others before
pub place_is : (vs ws : List (Vec ℕ Global)) (i : ℕ) (v d : Vec ℕ Global) → v ≡ d
    → d ≡ get_or ws i d → get_or ws i d ≡ get_or vs i d → v ≡ get_or vs i v
place_is vs ws i v d e f g = e ∙ f ∙ g ∙ ap (λ (u : Vec ℕ Global). get_or vs i u) (sym e)

pub items_at : (vs : List (Vec ℕ Global)) (i : ℕ) (v : Vec ℕ Global) (w : List ℕ) → i < length vs
    → v ≡ get_or vs i v → w ≡ v.items → w ≡ get_or (lists_of vs) i w
items_at vs i v w lt is e =
    e ∙ ap (λ (u : Vec ℕ Global). u.items) is
    ∙ sym (get_or-map (λ (u : Vec ℕ Global). u.items) vs i v w lt)
