-- Marks of the items that checks and flags reach.
use Rattle.std.proofs.Common.{◌≡◌, ℕ, ◌+◌, ◌<◌, ◌≤◌, ◌≢◌, ◌⊎◌, ◌↔◌, inl, inr, List, [], ◌∷◌, ◌++◌, length, take, map, set, replicate, get_or, not, cond, Bool, true, false, true≢false, Some, None, Result, Ok, Err, IfOk, slice_get, Contains, AllPairs, All, count_by, refl, sym, ap, ◌∙◌, subst, arith, get_or-set_same, get_or-set_other, length-append}
use Rattle.std.proofs.lemmas.List.{take_more, get_or_past, length-replicate, map-append}
use Rattle.std.proofs.lemmas.List.Elements.{Contains-get_or, Contains-push, Contains-push_cases, Contains-append_left}
use Rattle.std.proofs.lemmas.List.Sums.{sum_by-set}
use Rattle.std.proofs.lemmas.List.Quantifiers.{all_pairs_push}
use Rattle.std.proofs.lemmas.Bool.{cases_order, cases_lt}
use Rattle.std.proofs.lemmas.Bool.{cases_eq}
use Rattle.std.proofs.lemmas.Option.{none-some, same_Some, slice_get_past}
use Rattle.std.proofs.lemmas.Grind.{common_steps}
use Rattle.std.specs.declared.alloc.Global.{Global}
use Rattle.std.specs.declared.alloc.AllocError.{AllocError}
use Rattle.std.specs.declared.vec.Vec.{Vec}
use Rattle.binding_kinds.specs.declared.scope.Input.{Input}
use Rattle.binding_graph.specs.declared.resolved.ResolvedItem.{ResolvedItem}
use Rattle.binding_graph.specs.Reach.{is_check, Uses, ItemUses, ReachesBy, IsCheckAt, IsReached, AreReached, IsMarked, Marks, AreSpread}

-- ---- marks

pub marks_none : (P : ℕ → Type 0) (m : List Bool) (w : List ℕ)
    → ((k : ℕ) → P k → k < length m → IsMarked m k) → Marks P m m w w
marks_none P m w all =
    record {
      count = refl;
      kept = λ k h. h;
      marked = all;
      made = λ k h. inl h;
      still = λ k h. h;
      known = λ k h. inl h;
      left = refl;
    }

pub marks_as : (P Q : ℕ → Type 0) (a b : List Bool) (u v : List ℕ) → ((k : ℕ) → P k → Q k)
    → ((k : ℕ) → Q k → P k) → Marks P a b u v → Marks Q a b u v
marks_as P Q a b u v to back m =
    record {
      count = m.count;
      kept = m.kept;
      marked = λ k q lt. m.marked k (back k q) lt;
      made = λ k h. made_as k (m.made k h);
      still = m.still;
      known = m.known;
      left = m.left;
    }
  where
    made_as : (k : ℕ) → IsMarked a k ⊎ (P k × Contains v k) → IsMarked a k ⊎ (Q k × Contains v k)
    made_as k (inl h) = inl h
    made_as k (inr h) = inr (to k h.0, h.1)

pub marks_then : (P Q : ℕ → Type 0) (a b c : List Bool) (u v w : List ℕ) → Marks P a b u v
    → Marks Q b c v w → Marks (λ k. P k ⊎ Q k) a c u w
marks_then P Q a b c u v w m n =
    record {
      count = n.count ∙ m.count;
      kept = λ k h. n.kept k (m.kept k h);
      marked = marked_then;
      made = λ k h. made_then k (n.made k h);
      still = λ k h. n.still k (m.still k h);
      known = λ k h. known_then k (n.known k h);
      left = n.left ∙ m.left;
    }
  where
    marked_then : (k : ℕ) → P k ⊎ Q k → k < length a → IsMarked c k
    marked_then k (inl p) lt = n.kept k (m.marked k p lt)
    marked_then k (inr q) lt = n.marked k q (let e = m.count in omega arith)

    made_before : (k : ℕ) → Contains w k ⊎ (Contains v k → Contains w k)
        → IsMarked a k ⊎ (P k × Contains v k) → IsMarked a k ⊎ ((P k ⊎ Q k) × Contains w k)
    made_before k s (inl h) = inl h
    made_before k s (inr h) = inr (inl h.0, n.still k h.1)

    made_then : (k : ℕ) → IsMarked b k ⊎ (Q k × Contains w k)
        → IsMarked a k ⊎ ((P k ⊎ Q k) × Contains w k)
    made_then k (inl h) = made_before k (inr (n.still k)) (m.made k h)
    made_then k (inr h) = inr (inr h.0, h.1)

    known_before : (k : ℕ) → Contains u k ⊎ IsMarked b k → Contains u k ⊎ IsMarked c k
    known_before k (inl h) = inl h
    known_before k (inr h) = inr (n.kept k h)

    known_then : (k : ℕ) → Contains v k ⊎ IsMarked c k → Contains u k ⊎ IsMarked c k
    known_then k (inl h) = known_before k (m.known k h)
    known_then k (inr h) = inr h

-- ---- one more mark

set_here : (m : List Bool) (i k : ℕ) → i < length m → i ≡ k → IsMarked (set m i true) k
set_here m i k lt e =
    subst (λ (j : ℕ). IsMarked (set m i true) j) e (get_or-set_same m i true false lt)

pub marks_new : (m : List Bool) (w : List ℕ) (i : ℕ) → i < length m → get_or m i false ≡ false
    → Marks (λ k. i ≡ k) m (set m i true) w (w ++ i ∷ [])
marks_new m w i lt off =
    record {
      count = grind (arith, common_steps);
      kept = λ k h. kept_by k h (cases_eq k i);
      marked = λ k e less. set_here m i k lt e;
      made = λ k h. made_by k h (cases_eq k i);
      still = λ k h. Contains-append_left w (i ∷ []) k h;
      known = λ k h. known_by k (Contains-push_cases w i k h);
      left = less;
    }
  where
    kept_by : (k : ℕ) → IsMarked m k → (k ≡ i) ⊎ (k ≢ i) → IsMarked (set m i true) k
    kept_by k h (inl e) = set_here m i k lt (sym e)
    kept_by k h (inr n) = get_or-set_other m i k true false n ∙ h

    made_by : (k : ℕ) → IsMarked (set m i true) k → (k ≡ i) ⊎ (k ≢ i)
        → IsMarked m k ⊎ ((i ≡ k) × Contains (w ++ i ∷ []) k)
    made_by k h (inl e) =
        inr (sym e, subst (λ (j : ℕ). Contains (w ++ i ∷ []) j) (sym e) (Contains-push w i))
    made_by k h (inr n) = inl (sym (get_or-set_other m i k true false n) ∙ h)

    known_by : (k : ℕ) → Contains w k ⊎ (i ≡ k) → Contains w k ⊎ IsMarked (set m i true) k
    known_by k (inl h) = inl h
    known_by k (inr e) = inr (set_here m i k lt e)

    one : ◌≡◌ {A = ℕ} (cond (not (get_or m i false)) 1 0) 1
    one = rw off refl

    less : count_by not (set m i true) + length (w ++ i ∷ []) ≡ count_by not m + length w
    less =
        let s = sum_by-set (λ (x : Bool). cond (not x) 1 0) m i true false lt in
        let n = length-append w (i ∷ []) in
        let o = one in
        omega arith

-- ---- one more of a list

no_element : (k : ℕ) → Contains {X = ℕ} [] k → ⊥
no_element k h = let lt = h.1 in omega arith

pub marks_more : (ns : List ℕ) (n : ℕ) (a b c : List Bool) (u v w : List ℕ)
    → Marks (Contains ns) a b u v → Marks (λ k. n ≡ k) b c v w
    → Marks (Contains (ns ++ n ∷ [])) a c u w
marks_more ns n a b c u v w m one =
    marks_as (λ k. Contains ns k ⊎ (n ≡ k)) (Contains (ns ++ n ∷ [])) a c u w to
    (λ k h. Contains-push_cases ns n k h)
    (marks_then (Contains ns) (λ k. n ≡ k) a b c u v w m one)
  where
    to : (k : ℕ) → Contains ns k ⊎ (n ≡ k) → Contains (ns ++ n ∷ []) k
    to k (inl h) = Contains-append_left ns (n ∷ []) k h
    to k (inr e) = subst (λ (j : ℕ). Contains (ns ++ n ∷ []) j) e (Contains-push ns n)

pub inputs_more : (xs : List Input) (i : ℕ) (d : Input) (a b c : List Bool) (u v w : List ℕ)
    → i < length xs → Marks (Contains (map (λ x. x.item) (take i xs))) a b u v
    → Marks (λ k. (get_or xs i d).item ≡ k) b c v w
    → Marks (Contains (map (λ x. x.item) (take (i + 1) xs))) a c u w
inputs_more xs i d a b c u v w lt m one =
    let e : map (λ (x : Input). x.item) (take (i + 1) xs) ≡ map (λ (x : Input). x.item) (take i xs) ++ (get_or xs i d).item ∷ [] = ap (λ (l : List Input). map (λ (x : Input). x.item) l) (take_more xs i d lt) ∙ map-append (λ (x : Input). x.item) (take i xs) (get_or xs i d ∷ []) in
    subst (λ (l : List ℕ). Marks (Contains l) a c u w) (sym e) (marks_more
    (map (λ (x : Input). x.item) (take i xs)) (get_or xs i d).item a b c u v w m one)

pub functions_more : (xs : List ℕ) (i d : ℕ) (a b c : List Bool) (u v w : List ℕ) → i < length xs
    → Marks (Contains (take i xs)) a b u v → Marks (λ k. get_or xs i d ≡ k) b c v w
    → Marks (Contains (take (i + 1) xs)) a c u w
functions_more xs i d a b c u v w lt m one =
    subst (λ (l : List ℕ). Marks (Contains l) a c u w) (sym (take_more xs i d lt))
    (marks_more (take i xs) (get_or xs i d) a b c u v w m one)

-- ---- what an item uses

pub marks_used : (items : List ResolvedItem) (index : ℕ) (r : ResolvedItem) (inputs : List Input)
    (functions : List ℕ) (a b c : List Bool) (u v w : List ℕ) → slice_get items index ≡ Some r
    → inputs ≡ r.inputs.items → functions ≡ r.functions.items
    → Marks (Contains (map (λ i. i.item) inputs)) a b u v → Marks (Contains functions) b c v w
    → Marks (ItemUses items index) a c u w
marks_used items index r inputs functions a b c u v w is p q m n =
    marks_as (λ k. Contains (map (λ i. i.item) inputs) k ⊎ Contains functions k)
    (ItemUses items index) a c u w to back (marks_then (Contains (map (λ i. i.item) inputs))
    (Contains functions) a b c u v w m n)
  where
    to : (k : ℕ) → Contains (map (λ i. i.item) inputs) k ⊎ Contains functions k
        → ItemUses items index k
    to k (inl h) = (r, is, inl (subst (λ (l : List Input). Contains (map (λ i. i.item) l) k) p h))
    to k (inr h) = (r, is, inr (subst (λ (l : List ℕ). Contains l k) q h))

    split : (k : ℕ) → Uses r k → Contains (map (λ i. i.item) inputs) k ⊎ Contains functions k
    split k (inl h) = inl (subst (λ (l : List Input). Contains (map (λ i. i.item) l) k) (sym p) h)
    split k (inr h) = inr (subst (λ (l : List ℕ). Contains l k) (sym q) h)

    back : (k : ℕ) → ItemUses items index k
        → Contains (map (λ i. i.item) inputs) k ⊎ Contains functions k
    back k h = split k (subst (λ (s : ResolvedItem). Uses s k) (same_Some h.0 r (sym h.1 ∙ is)) h.2)

pub marks_no_item : (items : List ResolvedItem) (index : ℕ) (m : List Bool) (w : List ℕ)
    → slice_get items index ≡ None → Marks (ItemUses items index) m m w w
marks_no_item items index m w is =
    marks_none (ItemUses items index) m w (λ k h lt. absurd (never k h))
  where
    never : (k : ℕ) → ItemUses items index k → ⊥
    never k h = none-some h.0 (sym is ∙ h.1)

-- ---- the checks, one after another

pub checks_start : (items : List ResolvedItem) (m : List Bool) (w : List ℕ)
    → Marks (λ k. (k < 0) × IsCheckAt items k) m m w w
checks_start items m w =
    marks_none (λ k. (k < 0) × IsCheckAt items k) m w
    (λ k h lt. let z = h.0 in absurd (omega arith))

last_or_before : (k i : ℕ) → k < i + 1 → (k ≡ i) ⊎ ((k < i) ⊎ (i < k)) → (k < i) ⊎ (i ≡ k)
last_or_before k i lt (inl e) = inr (sym e)
last_or_before k i lt (inr (inl less)) = inl less
last_or_before k i lt (inr (inr more)) = absurd (omega arith)

pub checks_more : (items : List ResolvedItem) (i : ℕ) (r : ResolvedItem) (a b c : List Bool)
    (u v w : List ℕ) → slice_get items i ≡ Some r → is_check r.role ≡ true
    → Marks (λ k. (k < i) × IsCheckAt items k) a b u v → Marks (λ k. i ≡ k) b c v w
    → Marks (λ k. (k < i + 1) × IsCheckAt items k) a c u w
checks_more items i r a b c u v w is check m one =
    marks_as (λ k. ((k < i) × IsCheckAt items k) ⊎ (i ≡ k)) (λ k. (k < i + 1) × IsCheckAt items k) a
    c u w to (λ k h. back k h (last_or_before k i h.0 (cases_order k i)))
    (marks_then (λ k. (k < i) × IsCheckAt items k) (λ k. i ≡ k) a b c u v w m one)
  where
    to : (k : ℕ) → ((k < i) × IsCheckAt items k) ⊎ (i ≡ k) → (k < i + 1) × IsCheckAt items k
    to k (inl h) = (let lt = h.0 in omega arith, h.1)
    to k (inr e) = (omega arith, subst (λ (j : ℕ). IsCheckAt items j) e (r, is, check))

    back : (k : ℕ) → (k < i + 1) × IsCheckAt items k → (k < i) ⊎ (i ≡ k)
        → ((k < i) × IsCheckAt items k) ⊎ (i ≡ k)
    back k h (inl lt) = inl (lt, h.1)
    back k h (inr e) = inr e

pub checks_same : (items : List ResolvedItem) (i : ℕ) (r : ResolvedItem) (a b : List Bool)
    (u v : List ℕ) → slice_get items i ≡ Some r → is_check r.role ≡ false
    → Marks (λ k. (k < i) × IsCheckAt items k) a b u v
    → Marks (λ k. (k < i + 1) × IsCheckAt items k) a b u v
checks_same items i r a b u v is no_check m =
    marks_as (λ k. (k < i) × IsCheckAt items k) (λ k. (k < i + 1) × IsCheckAt items k) a b u v
    (λ k h. (let lt = h.0 in omega arith, h.1))
    (λ k h. back k h (last_or_before k i h.0 (cases_order k i))) m
  where
    never : (s : ResolvedItem) → s ≡ r → is_check s.role ≡ true → ⊥
    never s e h = true≢false (sym h ∙ ap (λ (x : ResolvedItem). is_check x.role) e ∙ no_check)

    back : (k : ℕ) → (k < i + 1) × IsCheckAt items k → (k < i) ⊎ (i ≡ k)
        → (k < i) × IsCheckAt items k
    back k h (inl lt) = (lt, h.1)
    back k h (inr e) =
        let at_i = subst (λ (j : ℕ). IsCheckAt items j) (sym e) h.1 in
        absurd (never at_i.0 (same_Some at_i.0 r (sym at_i.1 ∙ is)) at_i.2)

pub checks_all : (items : List ResolvedItem) (i : ℕ) (a b : List Bool) (u v : List ℕ)
    → length items ≤ i → Marks (λ k. (k < i) × IsCheckAt items k) a b u v
    → Marks (IsCheckAt items) a b u v
checks_all items i a b u v all m =
    marks_as (λ k. (k < i) × IsCheckAt items k) (IsCheckAt items) a b u v (λ k h. h.1)
    (λ k h. (within k h (cases_lt k (length items)), h)) m
  where
    within : (k : ℕ) → IsCheckAt items k → (k < length items) ⊎ (length items ≤ k) → k < i
    within k h (inl lt) = omega arith
    within k h (inr le) = absurd (none-some h.0 (sym (slice_get_past items k le) ∙ h.1))

-- ---- paths

pub leads_more : (items : List ResolvedItem) (a : ℕ) (through : List ℕ) (b c : ℕ)
    → ReachesBy items a through b → ItemUses items b c → ReachesBy items a (through ++ c ∷ []) c
leads_more items a [] b c e u = (subst (λ (j : ℕ). ItemUses items j c) (sym e) u, refl)
leads_more items a (d ∷ ds) b c h u = (h.0, leads_more items d ds b c h.1 u)

reached_check : (items : List ResolvedItem) (k : ℕ) → IsCheckAt items k → IsReached items k
reached_check items k h = record { from = k; is_check = h; through = []; leads = refl }

reached_more : (items : List ResolvedItem) (b c : ℕ) → IsReached items b → ItemUses items b c
    → IsReached items c
reached_more items b c h u =
    record { from = h.from; is_check = h.is_check; through = h.through ++ c ∷ []; leads = leads_more items h.from h.through b c h.leads u }

-- ---- spreading

pub spread_start : (items : List ResolvedItem) (n : ℕ) (m : List Bool) (w : List ℕ)
    → n ≡ length items → Marks (IsCheckAt items) (replicate n false) m [] w → AreSpread items m w
spread_start items n m w e h =
    record {
      count = h.count ∙ length-replicate n false ∙ e;
      checks =
          λ k c. h.marked k c (let l = length-replicate n false in
          let lt = check_within k c (cases_lt k (length items)) in omega arith);
      sound = λ k is. reached_check items k (new k (h.made k is)).0;
      waiting = λ k c. held k (h.known k c);
      closed = λ k is. inl (new k (h.made k is)).1;
    }
  where
    off : (k : ℕ) → get_or (replicate n false) k false ≡ false
    off k = grind (arith, common_steps)

    check_within : (k : ℕ) → IsCheckAt items k → (k < length items) ⊎ (length items ≤ k)
        → k < length items
    check_within k c (inl lt) = lt
    check_within k c (inr le) = absurd (none-some c.0 (sym (slice_get_past items k le) ∙ c.1))

    new : (k : ℕ) → IsMarked (replicate n false) k ⊎ (IsCheckAt items k × Contains w k)
        → IsCheckAt items k × Contains w k
    new k (inl is) = absurd (true≢false (sym is ∙ off k))
    new k (inr h) = h

    held : (k : ℕ) → Contains [] k ⊎ IsMarked m k → IsMarked m k
    held k (inl c) = absurd (no_element k c)
    held k (inr is) = is

-- the last of the waiting items has what it uses marked
pub spread_more : (items : List ResolvedItem) (p : ℕ) (m n : List Bool) (v w : List ℕ)
    → AreSpread items m (v ++ p ∷ []) → Marks (ItemUses items p) m n v w → AreSpread items n w
spread_more items p m n v w s h =
    record {
      count = h.count ∙ s.count;
      checks = λ k c. h.kept k (s.checks k c);
      sound = λ k is. sound_by k (h.made k is);
      waiting = λ k c. waiting_by k (h.known k c);
      closed = λ k is. closed_by k (h.made k is);
    }
  where
    p_marked : IsMarked m p
    p_marked = s.waiting p (Contains-push v p)

    sound_by : (k : ℕ) → IsMarked m k ⊎ (ItemUses items p k × Contains w k) → IsReached items k
    sound_by k (inl is) = s.sound k is
    sound_by k (inr u) = reached_more items p k (s.sound p p_marked) u.0

    waiting_by : (k : ℕ) → Contains v k ⊎ IsMarked n k → IsMarked n k
    waiting_by k (inl c) = h.kept k (s.waiting k (Contains-append_left v (p ∷ []) k c))
    waiting_by k (inr is) = is

    of_waiting : (k : ℕ) → Contains v k ⊎ (p ≡ k)
        → Contains w k ⊎ ((b : ℕ) → ItemUses items k b → b < length n → IsMarked n b)
    of_waiting k (inl c) = inl (h.still k c)
    of_waiting k (inr e) =
        inr (λ b u lt. h.marked b (subst (λ (j : ℕ). ItemUses items j b) (sym e) u)
        (let l = h.count in omega arith))

    of_marked : (k : ℕ)
        → Contains (v ++ p ∷ []) k ⊎ ((b : ℕ) → ItemUses items k b → b < length m → IsMarked m b)
        → Contains w k ⊎ ((b : ℕ) → ItemUses items k b → b < length n → IsMarked n b)
    of_marked k (inl c) = of_waiting k (Contains-push_cases v p k c)
    of_marked k (inr all) = inr (λ b u lt. h.kept b (all b u (let l = h.count in omega arith)))

    closed_by : (k : ℕ) → IsMarked m k ⊎ (ItemUses items p k × Contains w k)
        → Contains w k ⊎ ((b : ℕ) → ItemUses items k b → b < length n → IsMarked n b)
    closed_by k (inl is) = of_marked k (s.closed k is)
    closed_by k (inr u) = inl u.1

-- ---- what is marked in the end

marked_within : (m : List Bool) (k : ℕ) → IsMarked m k → (k < length m) ⊎ (length m ≤ k)
    → k < length m
marked_within m k is (inl lt) = lt
marked_within m k is (inr le) = absurd (true≢false (sym is ∙ get_or_past m k false le))

uses_closed : (items : List ResolvedItem) (m : List Bool) → AreSpread items m [] → (k b : ℕ)
    → IsMarked m k → ItemUses items k b → b < length m → IsMarked m b
uses_closed items m s k b is u lt = by_closed (s.closed k is)
  where
    by_closed : Contains [] k ⊎ ((j : ℕ) → ItemUses items k j → j < length m → IsMarked m j)
        → IsMarked m b
    by_closed (inl c) = absurd (no_element k c)
    by_closed (inr all) = all b u lt

user_within : (items : List ResolvedItem) (a b : ℕ) → ItemUses items a b
    → (a < length items) ⊎ (length items ≤ a) → a < length items
user_within items a b u (inl lt) = lt
user_within items a b u (inr le) = absurd (none-some u.0 (sym (slice_get_past items a le) ∙ u.1))

leads_within : (items : List ResolvedItem) (a : ℕ) (through : List ℕ) (b : ℕ)
    → ReachesBy items a through b → b < length items → a < length items
leads_within items a [] b e lt = omega arith
leads_within items a (c ∷ cs) b h lt = user_within items a c h.0 (cases_lt a (length items))

leads_marked : (items : List ResolvedItem) (m : List Bool) → AreSpread items m []
    → (a : ℕ) (through : List ℕ) (b : ℕ) → IsMarked m a → ReachesBy items a through b → b < length items
    → IsMarked m b
leads_marked items m s a [] b is e lt = subst (λ (j : ℕ). IsMarked m j) e is
leads_marked items m s a (c ∷ cs) b is h lt =
    leads_marked items m s c cs b
    (uses_closed items m s a c is h.0 (let n = leads_within items c cs b h.1 lt in
    let l = s.count in omega arith)) h.1 lt

pub spread_end : (items : List ResolvedItem) (m : List Bool) → AreSpread items m [] → (k : ℕ)
    → IsMarked m k ↔ ((k < length items) × IsReached items k)
spread_end items m s k = (
  λ is. (
    let lt = marked_within m k is (cases_lt k (length m)) in
        let l = s.count in omega arith,
    s.sound k is,
  ),
  λ h. leads_marked items m s h.1.from h.1.through k (s.checks h.1.from h.1.is_check) h.1.leads h.0,
)

-- ---- the list of the marked indexes

pub indexes_more : (m : List Bool) (indexes : List ℕ) (i : ℕ) → IsMarked m i
    → ((k : ℕ) → Contains indexes k ↔ ((k < i) × IsMarked m k)) → (k : ℕ)
    → Contains (indexes ++ i ∷ []) k ↔ ((k < i + 1) × IsMarked m k)
indexes_more m indexes i is h k = (
  λ c. to (Contains-push_cases indexes i k c),
  λ b. back b (last_or_before k i b.0 (cases_order k i)),
)
  where
    to : Contains indexes k ⊎ (i ≡ k) → (k < i + 1) × IsMarked m k
    to (inl c) = let b = (h k).0 c in let lt = b.0 in (omega arith, b.1)
    to (inr e) = (omega arith, subst (λ (j : ℕ). IsMarked m j) e is)

    back : (k < i + 1) × IsMarked m k → (k < i) ⊎ (i ≡ k) → Contains (indexes ++ i ∷ []) k
    back b (inl lt) = Contains-append_left indexes (i ∷ []) k ((h k).1 (lt, b.1))
    back b (inr e) = subst (λ (j : ℕ). Contains (indexes ++ i ∷ []) j) e (Contains-push indexes i)

pub indexes_same : (m : List Bool) (indexes : List ℕ) (i : ℕ) → get_or m i false ≡ false
    → ((k : ℕ) → Contains indexes k ↔ ((k < i) × IsMarked m k)) → (k : ℕ)
    → Contains indexes k ↔ ((k < i + 1) × IsMarked m k)
indexes_same m indexes i off h k = (to, λ b. back b (last_or_before k i b.0 (cases_order k i)))
  where
    to : Contains indexes k → (k < i + 1) × IsMarked m k
    to c = let b = (h k).0 c in let lt = b.0 in (omega arith, b.1)

    back : (k < i + 1) × IsMarked m k → (k < i) ⊎ (i ≡ k) → Contains indexes k
    back b (inl lt) = (h k).1 (lt, b.1)
    back b (inr e) = absurd (true≢false (sym (subst (λ (j : ℕ). IsMarked m j) (sym e) b.1) ∙ off))

pub indexes_rise : (m : List Bool) (indexes : List ℕ) (i : ℕ)
    → ((k : ℕ) → Contains indexes k ↔ ((k < i) × IsMarked m k)) → AllPairs (λ a b. a < b) indexes
    → AllPairs (λ a b. a < b) (indexes ++ i ∷ [])
indexes_rise m indexes i h rising =
    all_pairs_push (λ a b. a < b) indexes i rising (λ k d lt.
    ((h (get_or indexes k d)).0 (Contains-get_or indexes k d lt)).0)

-- ---- all

pub used_spread : (items checked later : List ResolvedItem) (n : ℕ) (m0 m1 m2 : List Bool)
    (w0 w1 : List ℕ) → checked ≡ items → later ≡ items → m0 ≡ replicate n false → w0 ≡ []
    → n ≡ length items → Marks (IsCheckAt checked) m0 m1 w0 w1
    → (AreSpread later m1 w1 → AreSpread later m2 []) → AreSpread items m2 []
used_spread items checked later n m0 m1 m2 w0 w1 p q off none e marks spread =
    let of_items = subst (λ (l : List ResolvedItem). Marks (IsCheckAt l) m0 m1 w0 w1) p marks in
    let of_off = subst (λ (m : List Bool). Marks (IsCheckAt items) m m1 w0 w1) off of_items in
    let of_none = subst (λ (w : List ℕ). Marks (IsCheckAt items) (replicate n false) m1 w w1) none of_off in
    let start = spread_start items n m1 w1 e of_none in
    subst (λ (l : List ResolvedItem). AreSpread l m2 []) q (spread (subst
    (λ (l : List ResolvedItem). AreSpread l m1 w1) (sym q) start))

pub reached_list : (items : List ResolvedItem) (m : List Bool)
    (r : Result (Vec ℕ Global) AllocError) → AreSpread items m []
    → IfOk r (λ v. AllPairs (λ a b. a < b) v.items)
    → IfOk r (λ v. (k : ℕ) → Contains v.items k ↔ IsMarked m k)
    → IfOk r (λ v. AreReached items v.items)
reached_list items m (Ok v) s rising exact =
    record {
      rising = rising;
      exact =
          λ b. (
            λ c. (spread_end items m s b).0 ((exact b).0 c),
            λ h. (exact b).1 ((spread_end items m s b).1 h),
          );
    }
reached_list items m (Err e) s rising exact = tt

pub reached_within : (items : List ResolvedItem) (n : ℕ) (r : Result (Vec ℕ Global) AllocError)
    → n ≡ length items → IfOk r (λ v. AreReached items v.items)
    → IfOk r (λ v. All (λ i. i < n) v.items)
reached_within items n (Ok v) e h = λ k d lt.
    let inside = ((h.exact (get_or v.items k d)).0 (Contains-get_or v.items k d lt)).0 in
    omega arith
reached_within items n (Err f) e h = tt
