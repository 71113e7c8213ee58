-- The combinations of a layout among all choices of runs: what is left out has a load that no store
-- serves.
use Rattle.std.proofs.Common.{Vec, ℕ, suc, ◌≡◌, ◌≤◌, ◌+◌, ◌-◌, ◌⊎◌, List, [], ◌∷◌, ◌++◌, map, Some, None, slice_get, inl, inr, arith, refl, sym, ap, subst, ◌∙◌, append_assoc}
use Rattle.std.specs.List.{flat_map}
use Rattle.std.specs.declared.alloc.Global.{Global}
use Rattle.std.proofs.lemmas.Bool.{cases_eq}
use Rattle.thread_runs.specs.declared.run.Run.{Run}
use Rattle.candidates.specs.Executions.{product}
use Rattle.store_orders.specs.Events.{CannotRead}
use Rattle.run_combinations.specs.Layouts.{ArePartsOf, AreThreadsOf, AreChosen, chosen_events, HasRun, HaveParts, IsLaidOut}
use Rattle.run_combinations.specs.Parts.{IsPartOf}
use Rattle.run_combinations.specs.Search.{PrefixLists, with_run, combinations, initial_prefix, all_combinations}
use Rattle.store_orders.specs.declared.combination.Event.{Event}
use Rattle.thread_runs.specs.declared.instruction.Program.{Program}
use Rattle.run_combinations.specs.declared.layout.Layout.{Layout}
use Rattle.run_combinations.specs.declared.layout.ThreadParts.{ThreadParts}
use Rattle.run_combinations.specs.declared.part.Part.{Part}
use Rattle.run_combinations.proofs.Searching.{going_on}

-- the combination goes on from another one with parts of these runs, which stand among those of the
-- threads from this one on
abbrev pub GoesOnWith : ℕ → PrefixLists → List ThreadParts → List Run → PrefixLists → Type 0
GoesOnWith thread b [] [] c = c ≡ b
GoesOnWith thread b [] (r ∷ rs) c = ⊥
GoesOnWith thread b (t ∷ ts) [] c = ⊥
GoesOnWith thread b (t ∷ ts) (r ∷ rs) c =
    (at : ℕ) × (p : Part) × ((slice_get t.parts.items at ≡ Some p) × IsPartOf thread r p)
    × GoesOnWith (thread + 1) (with_run at p b) ts rs c

-- each choice of runs in turn is that of the next combination, or it has a load that no store
-- serves
pub data AreChoices (thread : ℕ) (b : PrefixLists) (ts : List ThreadParts)
    : List (List Run) → List PrefixLists → Type 0 where
  over : AreChoices thread b ts [] []
  next : {rs : List Run} {rss : List (List Run)} {c : PrefixLists} {cs : List PrefixLists}
      → GoesOnWith thread b ts rs c → AreChoices thread b ts rss cs
      → AreChoices thread b ts (rs ∷ rss) (c ∷ cs)
  skipped : {rs : List Run} {rss : List (List Run)} {cs : List PrefixLists}
      → CannotRead (b.combination.events ++ chosen_events thread rs) → AreChoices thread b ts rss cs
      → AreChoices thread b ts (rs ∷ rss) cs

choices_append : (thread : ℕ) (b : PrefixLists) (ts : List ThreadParts) (xs us : List (List Run))
    (cs ds : List PrefixLists) → AreChoices thread b ts xs cs → AreChoices thread b ts us ds
    → AreChoices thread b ts (xs ++ us) (cs ++ ds)
choices_append thread b ts [] us cs ds over k = k
choices_append thread b ts (x ∷ xs) us cs ds (next {cs = es} g h) k =
    next g (choices_append thread b ts xs us es ds h k)
choices_append thread b ts (x ∷ xs) us cs ds (skipped n h) k =
    skipped n (choices_append thread b ts xs us cs ds h k)

-- with a part of a run before them
events_with : (thread at : ℕ) (b : PrefixLists) (r : Run) (p : Part) (rs : List Run)
    → IsPartOf thread r p
    → (with_run at p b).combination.events ++ chosen_events (thread + 1) rs
    ≡ b.combination.events ++ chosen_events thread (r ∷ rs)
events_with thread at b r p rs is =
    append_assoc b.combination.events p.events.items (chosen_events (thread + 1) rs)
    ∙ ap (λ (es : List Event). b.combination.events ++ (es ++ chosen_events (thread + 1) rs))
    is.events

with_part : (thread at : ℕ) (b : PrefixLists) (t : ThreadParts) (ts : List ThreadParts) (r : Run)
    (p : Part) → slice_get t.parts.items at ≡ Some p → IsPartOf thread r p
    → (rss : List (List Run)) (cs : List PrefixLists)
    → AreChoices (thread + 1) (with_run at p b) ts rss cs
    → AreChoices thread b (t ∷ ts) (map (λ (rs : List Run). r ∷ rs) rss) cs
with_part thread at b t ts r p e is [] cs over = over
with_part thread at b t ts r p e is (rs ∷ rss) cs (next {cs = ds} g h) =
    next (at, p, (e, is), g) (with_part thread at b t ts r p e is rss ds h)
with_part thread at b t ts r p e is (rs ∷ rss) cs (skipped n h) =
    skipped (subst CannotRead (events_with thread at b r p rs is) n)
    (with_part thread at b t ts r p e is rss cs h)

-- all choices of a run for each of some threads
abbrev pub runs_in : List (Vec Run Global) → List (List Run)
runs_in vs = map (λ v. v.items) vs

-- each choice has its places
pub data AllChosen (vs : List (Vec Run Global)) : List (List Run) → Type 0 where
  no_more : AllChosen vs []
  one_more : {rs : List Run} {rss : List (List Run)} (ks : List ℕ) → AreChosen vs ks rs
      → AllChosen vs rss → AllChosen vs (rs ∷ rss)

chosen_append : (vs : List (Vec Run Global)) (xs us : List (List Run)) → AllChosen vs xs
    → AllChosen vs us → AllChosen vs (xs ++ us)
chosen_append vs [] us no_more k = k
chosen_append vs (x ∷ xs) us (one_more ks c h) k = one_more ks c (chosen_append vs xs us h k)

chosen_with : (v : Vec Run Global) (vs : List (Vec Run Global)) (k : ℕ) (r : Run)
    → slice_get v.items k ≡ Some r → (rss : List (List Run)) → AllChosen vs rss
    → AllChosen (v ∷ vs) (map (λ (rs : List Run). r ∷ rs) rss)
chosen_with v vs k r e [] no_more = no_more
chosen_with v vs k r e (rs ∷ rss) (one_more ks c h) =
    one_more (k ∷ ks) (e, c) (chosen_with v vs k r e rss h)

-- the runs from a place on
abbrev AreFrom : List Run → ℕ → List Run → Type 0
AreFrom all k rs = (j : ℕ) → slice_get all (k + j) ≡ slice_get rs j

from_next : (all : List Run) (k : ℕ) (r : Run) (rs : List Run) → AreFrom all k (r ∷ rs)
    → AreFrom all (k + 1) rs
from_next all k r rs h =
    λ j.
    let e : k + 1 + j ≡ k + suc j = omega arith in
    ap (λ (n : ℕ). slice_get all n) e ∙ h (suc j)

from_here : (all : List Run) (k : ℕ) (r : Run) (rs : List Run) → AreFrom all k (r ∷ rs)
    → slice_get all k ≡ Some r
from_here all k r rs h = let e : k ≡ k + 0 = omega arith in ap (λ (n : ℕ). slice_get all n) e ∙ h 0

chosen_rows : (v : Vec Run Global) (vs : List (Vec Run Global)) (rss : List (List Run))
    → AllChosen vs rss → (k : ℕ) (rs : List Run) → AreFrom v.items k rs
    → AllChosen (v ∷ vs) (flat_map (λ (r : Run). map (λ (rest : List Run). r ∷ rest) rss) rs)
chosen_rows v vs rss all k [] h = no_more
chosen_rows v vs rss all k (r ∷ rs) h =
    chosen_append (v ∷ vs) (map (λ (rest : List Run). r ∷ rest) rss) (flat_map
    (λ (r : Run). map (λ (rest : List Run). r ∷ rest) rss) rs)
    (chosen_with v vs k r (from_here v.items k r rs h) rss all) (chosen_rows v vs rss all (k + 1) rs
    (from_next v.items k r rs h))

from_start : (all : List Run) → AreFrom all 0 all
from_start all = λ j. let e : 0 + j ≡ j = omega arith in ap (λ (n : ℕ). slice_get all n) e

all_chosen : (vs : List (Vec Run Global)) → AllChosen vs (product (runs_in vs))
all_chosen [] = one_more [] tt no_more
all_chosen (v ∷ vs) =
    chosen_rows v vs (product (runs_in vs)) (all_chosen vs) 0 v.items (from_start v.items)

-- choices of which none can read
none_read_with : (thread : ℕ) (b : PrefixLists) (ts : List ThreadParts) (r : Run)
    (vs : List (Vec Run Global))
    → ((ks : List ℕ) (rs : List Run) → AreChosen vs ks rs
    → CannotRead (b.combination.events ++ chosen_events thread (r ∷ rs)))
    → (rss : List (List Run)) → AllChosen vs rss
    → AreChoices thread b ts (map (λ (rs : List Run). r ∷ rs) rss) []
none_read_with thread b ts r vs stuck [] no_more = over
none_read_with thread b ts r vs stuck (rs ∷ rss) (one_more ks c h) =
    skipped (stuck ks rs c) (none_read_with thread b ts r vs stuck rss h)

-- parts from a place on are of no run before it
not_before : (thread : ℕ) (runs : List Run) (least : ℕ) (ps : List Part) (k : ℕ)
    → ArePartsOf thread runs least ps → HasRun ps k → least ≤ k
not_before thread runs least [] k h has = absurd has
not_before thread runs least (p ∷ ps) k h (inl e) =
    let a : least ≤ p.run = h.0 in omega (arith, a, e)
not_before thread runs least (p ∷ ps) k h (inr has) =
    let a : least ≤ p.run = h.0 in
    let b : p.run + 1 ≤ k = not_before thread runs (p.run + 1) ps k h.2 has in omega (arith, a, b)

no_part_past : (thread : ℕ) (all : List Run) (k : ℕ) (ps : List Part) → AreFrom all k []
    → ArePartsOf thread all k ps → ps ≡ []
no_part_past thread all k [] h parts = refl
no_part_past thread all k (p ∷ ps) h parts =
    let a : k ≤ p.run = parts.0 in
    let e : p.run ≡ k + (p.run - k) = omega (arith, a) in
    let n : slice_get all p.run ≡ None = ap (λ (j : ℕ). slice_get all j) e ∙ h (p.run - k) in
    absurd (some_none (sym parts.1.1 ∙ n))
  where
    some_none : {r : Run} → Some r ≡ None → ⊥
    some_none e = cc

-- a combination without a part cannot read
abbrev LeavesOut : ℕ → List Event → List (Vec Run Global) → List ThreadParts → Type 0
LeavesOut thread prefix vs ts =
    (ks : List ℕ) (rs : List Run) → AreChosen vs ks rs
    → HaveParts ts ks ⊎ CannotRead (prefix ++ chosen_events thread rs)

module _ (thread : ℕ) (b : PrefixLists) (v : Vec Run Global) (vs : List (Vec Run Global))
    (t : ThreadParts) (ts : List ThreadParts)
    (each : (at k : ℕ) (r : Run) (p : Part) → slice_get v.items k ≡ Some r → IsPartOf thread r p
    → AreChoices (thread + 1) (with_run at p b) ts (product (runs_in vs))
    (combinations (with_run at p b) ts))
    (out : (k : ℕ) (ks : List ℕ) (r : Run) (rs : List Run) → slice_get v.items k ≡ Some r
    → AreChosen vs ks rs
    → (HasRun t.parts.items k × HaveParts ts ks)
    ⊎ CannotRead (b.combination.events ++ chosen_events thread (r ∷ rs))) where
  -- the choices that take a run of the thread that has no part
  none_here : (k : ℕ) (r : Run) → slice_get v.items k ≡ Some r → (HasRun t.parts.items k → ⊥)
      → AreChoices thread b (t ∷ ts) (map (λ (rs : List Run). r ∷ rs) (product (runs_in vs))) []
  none_here k r e never =
      none_read_with thread b (t ∷ ts) r vs
      (λ ks rs c. elim (out k ks r rs e c) [ inl h ↦ absurd (never h.0) | inr x ↦ x ])
      (product (runs_in vs)) (all_chosen vs)

  -- those that take one from a place on
  rows_made : (k at : ℕ) (rs : List Run) (ps : List Part) → AreFrom v.items k rs
      → ((j : ℕ) → slice_get t.parts.items (at + j) ≡ slice_get ps j)
      → ArePartsOf thread v.items k ps → ((j : ℕ) → k ≤ j → HasRun t.parts.items j → HasRun ps j)
      → AreChoices thread b (t ∷ ts)
      (flat_map (λ (r : Run). map (λ (rest : List Run). r ∷ rest) (product (runs_in vs))) rs)
      (going_on b ts at ps)
  rows_made k at [] ps from there parts left =
      subst (λ (qs : List Part). AreChoices thread b (t ∷ ts) [] (going_on b ts at qs))
      (sym (no_part_past thread v.items k ps from parts)) over
  rows_made k at (r ∷ rs) [] from there parts left =
      choices_append thread b (t ∷ ts) (map (λ (rest : List Run). r ∷ rest) (product (runs_in vs)))
      (flat_map (λ (r : Run). map (λ (rest : List Run). r ∷ rest) (product (runs_in vs))) rs) []
      []
      (none_here k r (from_here v.items k r rs from) (λ has. left k (omega arith) has))
      (rows_made (k + 1) at rs [] (from_next v.items k r rs from) there tt
      (λ j le has. left j (omega (arith, le)) has))
  rows_made k at (r ∷ rs) (p ∷ ps) from there parts left = elim (cases_eq p.run k) [
    | inl e ↦
        let same : parts.1.0 ≡ r = some_is (sym parts.1.1 ∙ ap (λ (n : ℕ). slice_get v.items n) e ∙ from_here v.items k r rs from) in
        let is : IsPartOf thread r p = subst (λ (q : Run). IsPartOf thread q p) same parts.1.2 in
        choices_append thread b (t ∷ ts)
        (map (λ (rest : List Run). r ∷ rest) (product (runs_in vs)))
        (flat_map (λ (r : Run). map (λ (rest : List Run). r ∷ rest) (product (runs_in vs))) rs)
        (combinations (with_run at p b) ts) (going_on b ts (at + 1) ps)
        (with_part thread at b t ts r p
        (let z : at ≡ at + 0 = omega arith in
        ap (λ (n : ℕ). slice_get t.parts.items n) z ∙ there 0) is
        (product (runs_in vs))
        (combinations (with_run at p b) ts)
        (each at k r p (from_here v.items k r rs from) is))
        (rows_made (k + 1) (at + 1) rs ps (from_next v.items k r rs from)
        (λ j.
        let z : at + 1 + j ≡ at + suc j = omega arith in
        ap (λ (n : ℕ). slice_get t.parts.items n) z ∙ there (suc j))
        (subst (λ (n : ℕ). ArePartsOf thread v.items (n + 1) ps) e parts.2)
        (λ j le has. elim (left j (omega (arith, le)) has)
        [ inl f ↦ absurd (omega (arith, e, f, le)) | inr h ↦ h ]))
    | inr other ↦
        let le : k ≤ p.run = parts.0 in
        let past : k + 1 ≤ p.run = omega (arith, le, other) in
        let further : ArePartsOf thread v.items (k + 1) (p ∷ ps) = (past, parts.1, parts.2) in
        choices_append thread b (t ∷ ts)
        (map (λ (rest : List Run). r ∷ rest) (product (runs_in vs)))
        (flat_map (λ (r : Run). map (λ (rest : List Run). r ∷ rest) (product (runs_in vs))) rs)
        [] (going_on b ts at (p ∷ ps))
        (none_here k r (from_here v.items k r rs from) (λ has.
        let a : k + 1 ≤ k =
        not_before thread v.items (k + 1) (p ∷ ps) k further
        (left k (omega arith) has) in
        absurd (omega (arith, a))))
        (rows_made (k + 1) at rs (p ∷ ps) (from_next v.items k r rs from) there further
        (λ j l has. left j (omega (arith, l)) has))
  ]
    where
      some_is : {x y : Run} → Some x ≡ Some y → x ≡ y
      some_is e = cc

-- so all combinations are all choices, but for those that cannot read
pub choices_made : (thread : ℕ) (vs : List (Vec Run Global)) (ts : List ThreadParts)
    (b : PrefixLists) → AreThreadsOf thread vs ts → LeavesOut thread b.combination.events vs ts
    → AreChoices thread b ts (product (runs_in vs)) (combinations b ts)
choices_made thread [] [] b h out = next refl over
choices_made thread [] (t ∷ ts) b h out = absurd h
choices_made thread (v ∷ vs) [] b h out = absurd h
choices_made thread (v ∷ vs) (t ∷ ts) b h out =
    rows_made thread b v vs t ts
    (λ at k r p e is. choices_made (thread + 1) vs ts (with_run at p b) h.1 (λ ks rs c. elim
    (out (k ∷ ks) (r ∷ rs) (e, c)) [
      | inl x ↦ inl x.1
      | inr y ↦ inr
          (subst CannotRead (sym (events_with thread at b r p rs is)) y)
    ]))
    (λ k ks r rs e c.
    elim (out (k ∷ ks) (r ∷ rs) (e, c)) [ inl x ↦ inl (x.0, x.1) | inr y ↦ inr y ])
    0 0 v.items t.parts.items (from_start v.items)
    (λ j. let z : 0 + j ≡ j = omega arith in ap (λ (n : ℕ). slice_get t.parts.items n) z) h.0
    (λ j le has. has)

pub layout_choices : (p : Program) (runs : List (Vec Run Global)) (l : Layout) → IsLaidOut p runs l
    → AreChoices 0 (initial_prefix l.initial.items) l.threads.items (product (runs_in runs))
    (all_combinations l)
layout_choices p runs l o =
    choices_made 0 runs l.threads.items (initial_prefix l.initial.items) o.threads o.left_out
