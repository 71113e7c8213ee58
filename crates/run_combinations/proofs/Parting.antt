-- Runs as parts of candidates, and those that are left out.
use Rattle.std.proofs.Common.{Vec, ℕ, zero, suc, ◌≡◌, ◌<◌, ◌≤◌, ◌+◌, ◌⊎◌, ◌↔◌, Bool, true, false, List, [], ◌∷◌, ◌++◌, take, length, get_or, Option, Some, length-append, slice_get, slice_set, inl, inr, arith, refl, sym, ap, subst, ◌∙◌}
use Rattle.std.specs.List.{items_where_true, AllZip}
use Rattle.std.specs.List.Retain.{ReturnsInTurn, IsFiltered}
use Rattle.std.specs.declared.alloc.Global.{Global}
use Rattle.std.proofs.lemmas.List.{take_more, length-take-le}
use Rattle.std.proofs.lemmas.Slice.Zip.{AllZip-long}
use Rattle.thread_runs.specs.declared.value.Value.{Value}
use Rattle.thread_runs.specs.declared.run.Run.{Run}
use Rattle.run_combinations.proofs.Pruning.{load_front, load_behind, store_split}
use Rattle.run_combinations.specs.Keys.{HasKey, AreKeysIn, AreKeys, TellsSubset, bit_of}
use Rattle.store_orders.specs.Events.{thread_events, HasLoad}
use Rattle.run_combinations.specs.Parts.{IsSketch, HasStoresOf, HasStoresOfAll, AreSketchesKept, none, kept, left, AreSome, end, kept_one, left_out, Among, IsChoice, HasLoadKey, HasStoreKey, IsSifted, IsMade, AreBelow, NamesRuns, AreThreadParts}
use Rattle.store_orders.specs.declared.combination.Action.TheVariants.{Load, Store}
use Rattle.store_orders.specs.declared.combination.Event.{Event}
use Rattle.run_combinations.specs.declared.keys.KeySet.{KeySet}
use Rattle.run_combinations.specs.declared.layout.ThreadParts.{ThreadParts}
use Rattle.run_combinations.specs.declared.part.Part.{Part}
use Rattle.run_combinations.specs.declared.part.Sketch.{Sketch}

-- sets with one event more
abbrev pub HasMore : KeySet → KeySet → Option (ℕ × ℕ) → Type 0
HasMore old new bit = (a b : ℕ) → HasKey new a b ↔ (HasKey old a b ⊎ (bit ≡ Some (a, b)))

pub read_more : (key : ℕ → Value → Option (ℕ × ℕ)) (es : List Event) (t : Option ℕ) (l : ℕ)
    (v : Value) (old new w : KeySet) → HasMore old new (key l v) → AreKeys key es old w
    → AreKeys key (es ++ record { thread = t; action = Load l v } ∷ []) new w
read_more key es t l v old new w m k = record {
  loads = λ a b h. elim ((m a b).0 h) [
    | inl o ↦
        let x : (location : ℕ) × (value : Value) × (key location value ≡ Some (a, b))
        × HasLoad location value es = k.loads a b o in
        (x.0, x.1, x.2, load_front x.0 x.1 es (record { thread = t; action = Load l v } ∷ []) x.3)
    | inr e ↦ (
      l,
      v,
      e,
      load_behind l v es (record { thread = t; action = Load l v } ∷ []) (inl refl),
    )
  ];
  stores =
      λ location value a b h e. elim
      (store_split location value es (record { thread = t; action = Load l v } ∷ []) h) [
        | inl s ↦ k.stores location value a b s e
        | inr s ↦ elim s
            [ inl q ↦ absurd (never q) | inr n ↦ absurd n ]
      ];
}
  where
    never : {location : ℕ} {value : Value} → Load l v ≡ Store location value → ⊥
    never q = cc

pub write_more : (key : ℕ → Value → Option (ℕ × ℕ)) (es : List Event) (t : Option ℕ) (l : ℕ)
    (v : Value) (r old new : KeySet) → HasMore old new (key l v) → AreKeys key es r old
    → AreKeys key (es ++ record { thread = t; action = Store l v } ∷ []) r new
write_more key es t l v r old new m k = record {
  loads =
      λ a b h.
      let x : (location : ℕ) × (value : Value) × (key location value ≡ Some (a, b))
      × HasLoad location value es = k.loads a b h in
      (x.0, x.1, x.2, load_front x.0 x.1 es (record { thread = t; action = Store l v } ∷ []) x.3);
  stores =
      λ location value a b h e.
      elim (store_split location value es (record { thread = t; action = Store l v } ∷ []) h) [
        | inl s ↦ (m a b).1 (inl (k.stores location value a b s e))
        | inr s ↦ elim s [ inl q ↦ (m a b).1 (inr (there q e)) | inr n ↦ absurd n ]
      ];
}
  where
    there : {location : ℕ} {value : Value} {a b : ℕ} → Store l v ≡ Store location value
        → key location value ≡ Some (a, b) → key l v ≡ Some (a, b)
    there q e = cc

pub fence_more : (key : ℕ → Value → Option (ℕ × ℕ)) (es : List Event) (e : Event) (r w : KeySet)
    → ((l : ℕ) (v : Value) → e.action ≡ Store l v → ⊥) → AreKeys key es r w
    → AreKeys key (es ++ e ∷ []) r w
fence_more key es e r w never k = record {
  loads =
      λ a b h.
      let x : (location : ℕ) × (value : Value) × (key location value ≡ Some (a, b))
      × HasLoad location value es = k.loads a b h in
      (x.0, x.1, x.2, load_front x.0 x.1 es (e ∷ []) x.3);
  stores =
      λ location value a b h q. elim (store_split location value es (e ∷ []) h) [
        | inl s ↦ k.stores location value a b s q
        | inr s ↦ elim s [
          | inl p ↦ absurd
              (never location value p)
          | inr n ↦ absurd n
        ]
      ];
}

-- one sketch more
get_pushed : (xs : List Sketch) (x y : Sketch) (k : ℕ) → slice_get (xs ++ x ∷ []) k ≡ Some y
    → (slice_get xs k ≡ Some y) ⊎ ((k ≡ length xs) × (x ≡ y))
get_pushed [] x y zero h = inr (refl, cc)
get_pushed [] x y (suc k) h = absurd cc
get_pushed (z ∷ xs) x y zero h = inl h
get_pushed (z ∷ xs) x y (suc k) h =
    elim (get_pushed xs x y k h) [ inl e ↦ inl e | inr e ↦ inr (ap (λ (n : ℕ). suc n) e.0, e.1) ]

-- the first sketches are those of the first runs
pub record AreFirst (values : List Value) (runs : List Run) (i : ℕ) (ss : List Sketch)
    : Type 0 where
  pub whole : length ss ≡ i
  pub each : (k : ℕ) (s : Sketch) → slice_get ss k ≡ Some s → (s.run ≡ k) × IsSketch values runs s

pub first_more : (values : List Value) (runs : List Run) (i : ℕ) (ss : List Sketch) (s : Sketch)
    (r : Run) → AreFirst values runs i ss → s.run ≡ i → slice_get runs i ≡ Some r
    → ((t : ℕ) → AreKeys (bit_of values) (thread_events t r.events.items) s.loads s.stores)
    → AreFirst values runs (i + 1) (ss ++ s ∷ [])
first_more values runs i ss s r f at there keys = record {
  whole = let e : length ss ≡ i = f.whole in simp length-append (omega (arith, e));
  each = λ k x h. elim (get_pushed ss s x k h) [
    | inl e ↦ f.each k x e
    | inr e ↦ subst (λ (y : Sketch). (y.run ≡ k) × IsSketch values runs y) e.1
        (at ∙ sym (e.0 ∙ f.whole), (r, ap (λ (n : ℕ). slice_get runs n) at ∙ there, keys))
  ];
}

-- sets with what more runs store
stores_longer : (ss : List Sketch) (s : Sketch) (old new : KeySet) → AreKeysIn old new
    → AreKeysIn s.stores new → HasStoresOf old ss → HasStoresOf new (ss ++ s ∷ [])
stores_longer [] s old new w v h = (v, tt)
stores_longer (x ∷ xs) s old new w v h =
    ((λ a b k. w a b (h.0 a b k)), stores_longer xs s old new w v h.1)

pub joined_more : (first : KeySet) (ss : List Sketch) (i : ℕ) (d : Sketch) (old new : KeySet)
    → i < length ss
    → ((a b : ℕ) → HasKey new a b ↔ (HasKey old a b ⊎ HasKey (get_or ss i d).stores a b))
    → AreKeysIn first old × HasStoresOf old (take i ss)
    → AreKeysIn first new × HasStoresOf new (take (i + 1) ss)
joined_more first ss i d old new lt j h = (
  (λ a b k. (j a b).1 (inl (h.0 a b k))),
  subst (λ (l : List Sketch). HasStoresOf new l) (sym (take_more ss i d lt))
      (stores_longer (take i ss) (get_or ss i d) old new (λ a b k. (j a b).1 (inl k))
      (λ a b k. (j a b).1 (inr k)) h.1),
)

stores_still : (ss : List Sketch) (old new : KeySet) → AreKeysIn old new → HasStoresOf old ss
    → HasStoresOf new ss
stores_still [] old new w h = tt
stores_still (s ∷ ss) old new w h = ((λ a b k. w a b (h.0 a b k)), stores_still ss old new w h.1)

all_longer : (vs : List (Vec Sketch Global)) (v : Vec Sketch Global) (old new : KeySet)
    → AreKeysIn old new → HasStoresOf new v.items → HasStoresOfAll old vs
    → HasStoresOfAll new (vs ++ v ∷ [])
all_longer [] v old new w h k = (h, tt)
all_longer (x ∷ xs) v old new w h k =
    (stores_still x.items old new w k.0, all_longer xs v old new w h k.1)

pub all_more : (first : KeySet) (vs : List (Vec Sketch Global)) (i : ℕ) (v : Vec Sketch Global)
    (old new : KeySet) → i < length vs → v ≡ get_or vs i v
    → AreKeysIn old new × HasStoresOf new v.items
    → AreKeysIn first old × HasStoresOfAll old (take i vs)
    → AreKeysIn first new × HasStoresOfAll new (take (i + 1) vs)
all_more first vs i v old new lt is j h = (
  (λ a b k. j.0 a b (h.0 a b k)),
  subst (λ (l : List (Vec Sketch Global)). HasStoresOfAll new l) (sym (take_more vs i v lt
      ∙ ap (λ (q : Vec Sketch Global). take i vs ++ q ∷ []) (sym is)))
      (all_longer (take i vs) v old new j.0 j.1 h.1),
)

-- what `retain` leaves
pub retained : {F : Type 0} (R : F → Sketch → Bool → F → Type 0) (stored : KeySet) (f : F)
    → ((s : Sketch) (b : Bool) (g : F) → R f s b g
    → (g ≡ f) × TellsSubset b (HasKey s.loads) (HasKey stored)) → (ss ts : List Sketch)
    → IsFiltered R f ss ts → AreSketchesKept stored ss ts
retained {F = F} R stored f one ss ts h =
    subst (λ (l : List Sketch). AreSketchesKept stored ss l) (sym h.4) (in_turn h.0 ss h.1 f refl h.2 h.3)
  where
    step : (b : Bool) (bs : List Bool) (x : Sketch) (xs : List Sketch)
        → TellsSubset b (HasKey x.loads) (HasKey stored)
        → AreSketchesKept stored xs (items_where_true bs xs)
        → AreSketchesKept stored (x ∷ xs) (items_where_true (b ∷ bs) (x ∷ xs))
    step true bs x xs told rest = kept rest
    step false bs x xs told rest = left told.0 told.1 told.2 told.3 rest

    in_turn : (bs : List Bool) (xs : List Sketch) (q g : F) → g ≡ f → length bs ≡ length xs
        → ReturnsInTurn R g bs xs q → AreSketchesKept stored xs (items_where_true bs xs)
    in_turn [] [] q g e l r = none
    in_turn [] (x ∷ xs) q g e l r = absurd (omega (arith, l))
    in_turn (b ∷ bs) [] q g e l r = absurd r
    in_turn (b ∷ bs) (x ∷ xs) q g e l r =
        let o : (r.0 ≡ f) × TellsSubset b (HasKey x.loads) (HasKey stored) = one x b r.0 (subst (λ (y : F). R y x b r.0) e r.1) in
        step b bs x xs o.1 (in_turn bs xs q r.0 o.0 (omega (arith, l)) r.2)

-- the runs of each thread that stay
abbrev pub AreKeptOfEach : KeySet → List (Vec Sketch Global) → List (Vec Sketch Global) → Type 0
AreKeptOfEach stored olds news = AllZip (λ v w. AreSketchesKept stored v.items w.items) olds news

pub each_append : {X Y : Type 0} (R : X → Y → Type 0) (xs : List X) (ys : List Y) (x : X) (y : Y)
    → AllZip R xs ys → R x y → AllZip R (xs ++ x ∷ []) (ys ++ y ∷ [])
each_append R [] [] x y h r = (r, tt)
each_append R [] (z ∷ ys) x y h r = absurd h
each_append R (z ∷ xs) [] x y h r = absurd h
each_append R (z ∷ xs) (w ∷ ys) x y h r = (h.0, each_append R xs ys x y h.1 r)

-- a run that does not stay reads what is not stored
abbrev pub Lacks : KeySet → List Sketch → Type 0
Lacks stored cs = (a b : ℕ) × HasLoadKey cs a b × (HasKey stored a b → ⊥)

kept_or_not : (stored : KeySet) (ss ts : List Sketch) (s : Sketch) → AreSketchesKept stored ss ts
    → Among ss s → Among ts s ⊎ ((a b : ℕ) × HasKey s.loads a b × (HasKey stored a b → ⊥))
kept_or_not stored [] ts s k m = absurd m
kept_or_not stored (x ∷ ss) ts s (kept k) (inl e) = inl (inl e)
kept_or_not stored (x ∷ ss) ts s (kept {ts = us} k) (inr m) =
    elim (kept_or_not stored ss us s k m) [ inl n ↦ inl (inr n) | inr n ↦ inr n ]
kept_or_not stored (x ∷ ss) ts s (left a b h n k) (inl e) =
    inr (a, b, subst (λ (y : Sketch). HasKey y.loads a b) e h, n)
kept_or_not stored (x ∷ ss) ts s (left a b h n k) (inr m) = kept_or_not stored ss ts s k m

choice_kept : (stored : KeySet) (olds news : List (Vec Sketch Global)) (cs : List Sketch)
    → AreKeptOfEach stored olds news → IsChoice olds cs → IsChoice news cs ⊎ Lacks stored cs
choice_kept stored [] [] [] k c = inl tt
choice_kept stored [] [] (s ∷ cs) k c = absurd c
choice_kept stored [] (w ∷ news) cs k c = absurd k
choice_kept stored (v ∷ olds) [] cs k c = absurd k
choice_kept stored (v ∷ olds) (w ∷ news) [] k c = absurd c
choice_kept stored (v ∷ olds) (w ∷ news) (s ∷ cs) k c =
    elim (kept_or_not stored v.items w.items s k.0 c.0) [
      | inr n ↦ inr (n.0, n.1, inl n.2, n.3)
      | inl here ↦ elim (choice_kept stored olds news cs k.1 c.1) [
        | inl there ↦ inl (here, there)
        | inr n ↦ inr (n.0, n.1, inr n.2, n.3)
      ]
    ]

among_written : (stored : KeySet) (ss : List Sketch) (s : Sketch) → HasStoresOf stored ss
    → Among ss s → AreKeysIn s.stores stored
among_written stored [] s h m = absurd m
among_written stored (x ∷ ss) s h (inl e) = subst (λ (y : Sketch). AreKeysIn y.stores stored) e h.0
among_written stored (x ∷ ss) s h (inr m) = among_written stored ss s h.1 m

choice_written : (stored : KeySet) (olds : List (Vec Sketch Global)) (cs : List Sketch)
    → HasStoresOfAll stored olds → IsChoice olds cs → (a b : ℕ) → HasStoreKey cs a b
    → HasKey stored a b
choice_written stored olds [] h c a b w = absurd w
choice_written stored [] (s ∷ cs) h c a b w = absurd c
choice_written stored (v ∷ olds) (s ∷ cs) h c a b (inl w) =
    among_written stored v.items s h.0 c.0 a b w
choice_written stored (v ∷ olds) (s ∷ cs) h c a b (inr w) =
    choice_written stored olds cs h.1 c.1 a b w

kept_some : (stored : KeySet) (ss ts : List Sketch) → AreSketchesKept stored ss ts → AreSome ss ts
kept_some stored [] ts none = end
kept_some stored (s ∷ ss) ts (kept {ts = us} k) = kept_one (kept_some stored ss us k)
kept_some stored (s ∷ ss) ts (left a b h n k) = left_out (kept_some stored ss ts k)

each_some : (stored : KeySet) (olds news : List (Vec Sketch Global))
    → AreKeptOfEach stored olds news → AllZip (λ v w. AreSome v.items w.items) olds news
each_some stored [] [] k = tt
each_some stored [] (w ∷ news) k = absurd k
each_some stored (v ∷ olds) [] k = absurd k
each_some stored (v ∷ olds) (w ∷ news) k =
    (kept_some stored v.items w.items k.0, each_some stored olds news k.1)

-- those of the first threads stay or not, and the others are as they were
abbrev pub KeptUpTo : KeySet → ℕ → List (Vec Sketch Global) → List (Vec Sketch Global) → Type 0
KeptUpTo stored zero olds news = olds ≡ news
KeptUpTo stored (suc i) [] news = ⊥
KeptUpTo stored (suc i) (v ∷ olds) [] = ⊥
KeptUpTo stored (suc i) (v ∷ olds) (w ∷ news) =
    AreSketchesKept stored v.items w.items × KeptUpTo stored i olds news

up_to_suc : (stored : KeySet) (i : ℕ) (olds news : List (Vec Sketch Global))
    (d y : Vec Sketch Global) → i < length news → AreSketchesKept stored (get_or news i d).items y.items
    → KeptUpTo stored i olds news → KeptUpTo stored (suc i) olds (slice_set news i y)
up_to_suc stored i olds [] d y lt k h = absurd (omega (arith, lt))
up_to_suc stored zero olds (n ∷ news) d y lt k h =
    subst (λ (l : List (Vec Sketch Global)). KeptUpTo stored 1 l (y ∷ news)) (sym h) (k, refl)
up_to_suc stored (suc i) [] (n ∷ news) d y lt k h = absurd h
up_to_suc stored (suc i) (v ∷ olds) (n ∷ news) d y lt k h =
    (h.0, up_to_suc stored i olds news d y (omega (arith, lt)) k h.1)

pub up_to_more : (stored : KeySet) (i : ℕ) (olds news : List (Vec Sketch Global))
    (d y : Vec Sketch Global) → i < length news → AreSketchesKept stored (get_or news i d).items y.items
    → KeptUpTo stored i olds news → KeptUpTo stored (i + 1) olds (slice_set news i y)
up_to_more stored i olds news d y lt k h =
    let e : suc i ≡ i + 1 = omega arith in
    subst (λ (n : ℕ). KeptUpTo stored n olds (slice_set news i y)) e
    (up_to_suc stored i olds news d y lt k h)

pub up_to_all : (stored : KeySet) (i : ℕ) (olds news : List (Vec Sketch Global)) → i ≡ length olds
    → KeptUpTo stored i olds news → AreKeptOfEach stored olds news
up_to_all stored zero [] [] e h = tt
up_to_all stored zero [] (w ∷ news) e h = absurd cc
up_to_all stored zero (v ∷ olds) news e h = absurd (omega (arith, e))
up_to_all stored (suc i) [] news e h = absurd h
up_to_all stored (suc i) (v ∷ olds) [] e h = absurd h
up_to_all stored (suc i) (v ∷ olds) (w ∷ news) e h =
    (h.0, up_to_all stored i olds news (omega (arith, e)) h.1)

pub sifted_once : (initial stored : KeySet) (olds news : List (Vec Sketch Global))
    → AreKeysIn initial stored × HasStoresOfAll stored olds → AreKeptOfEach stored olds news
    → IsSifted initial olds news
sifted_once initial stored olds news h k = record {
  some = each_some stored olds news k;
  choices = λ cs c. elim (choice_kept stored olds news cs k c) [
    | inl there ↦ inl there
    | inr n ↦ inr (
      n.0,
      n.1,
      n.2,
      (λ i. n.3 (h.0 n.0 n.1 i)),
      λ w. n.3 (choice_written stored olds cs h.1 c n.0 n.1 w),
    )
  ];
}

-- one list after another
all_some : {X : Type 0} (xs : List X) → AreSome xs xs
all_some [] = end
all_some (x ∷ xs) = kept_one (all_some xs)

some_of_some : {X : Type 0} (xs ys zs : List X) → AreSome xs ys → AreSome ys zs → AreSome xs zs
some_of_some [] ys zs end k = k
some_of_some (x ∷ xs) ys zs (left_out h) k = left_out (some_of_some xs ys zs h k)
some_of_some (x ∷ xs) ys zs (kept_one {ys = us} h) (kept_one {ys = ws} k) =
    kept_one (some_of_some xs us ws h k)
some_of_some (x ∷ xs) ys zs (kept_one {ys = us} h) (left_out k) =
    left_out (some_of_some xs us zs h k)

each_same : (vs : List (Vec Sketch Global)) → AllZip (λ v w. AreSome v.items w.items) vs vs
each_same [] = tt
each_same (v ∷ vs) = (all_some v.items, each_same vs)

each_then : (us vs ws : List (Vec Sketch Global)) → AllZip (λ v w. AreSome v.items w.items) us vs
    → AllZip (λ v w. AreSome v.items w.items) vs ws → AllZip (λ v w. AreSome v.items w.items) us ws
each_then [] [] [] h k = tt
each_then [] [] (w ∷ ws) h k = absurd k
each_then [] (v ∷ vs) ws h k = absurd h
each_then (u ∷ us) [] ws h k = absurd h
each_then (u ∷ us) (v ∷ vs) [] h k = absurd k
each_then (u ∷ us) (v ∷ vs) (w ∷ ws) h k =
    (some_of_some u.items v.items w.items h.0 k.0, each_then us vs ws h.1 k.1)

pub sifted_none : (initial : KeySet) (vs : List (Vec Sketch Global)) → IsSifted initial vs vs
sifted_none initial vs = record { some = each_same vs; choices = λ cs c. inl c }

pub sifted_more : (initial : KeySet) (us vs ws : List (Vec Sketch Global)) → IsSifted initial us vs
    → IsSifted initial vs ws → IsSifted initial us ws
sifted_more initial us vs ws h k = record {
  some = each_then us vs ws h.some k.some;
  choices = λ cs c. elim (h.choices cs c) [ inl there ↦ k.choices cs there | inr n ↦ inr n ];
}

-- the parts of more runs
pub below_at : (n : ℕ) (ss : List Sketch) (i : ℕ) (d : Sketch) → AreBelow n ss → i < length ss
    → (get_or ss i d).run < n
below_at n [] i d h lt = absurd (omega (arith, lt))
below_at n (s ∷ ss) zero d h lt = h.0
below_at n (s ∷ ss) (suc i) d h lt = below_at n ss i d h.1 (omega (arith, lt))

pub made_more : (t : ℕ) (runs : List Run) (ss : List Sketch) (i : ℕ) (d : Sketch)
    (ps qs : List Part) (p : Part) → i < length ss → qs ≡ ps ++ p ∷ []
    → IsMade t runs (get_or ss i d) p → AllZip (IsMade t runs) (take i ss) ps
    → AllZip (IsMade t runs) (take (i + 1) ss) qs
made_more t runs ss i d ps qs p lt is m h =
    subst (λ (l : List Sketch). AllZip (IsMade t runs) l qs) (sym (take_more ss i d lt))
    (subst (λ (l : List Part). AllZip (IsMade t runs) (take i ss ++ get_or ss i d ∷ []) l) (sym is)
    (each_append (IsMade t runs) (take i ss) ps (get_or ss i d) p h m))

-- the parts of each thread
pub each_length : {X Y : Type 0} (R : X → Y → Type 0) (xs : List X) (ys : List Y) → AllZip R xs ys
    → length xs ≡ length ys
each_length R xs ys h = sym (AllZip-long R xs ys h)

pub named_at : (rs : List (Vec Run Global)) (ss : List (Vec Sketch Global)) (i : ℕ)
    (r : Vec Run Global) (s : Vec Sketch Global) → AllZip NamesRuns rs ss → i < length rs
    → r ≡ get_or rs i r → s ≡ get_or ss i s → NamesRuns r s
named_at [] ss i r s h lt er es = absurd (omega (arith, lt))
named_at (x ∷ rs) [] i r s h lt er es = absurd h
named_at (x ∷ rs) (y ∷ ss) zero r s h lt er es =
    subst (λ (a : Vec Run Global). NamesRuns a s) (sym er) (subst
    (λ (b : Vec Sketch Global). NamesRuns x b) (sym es) h.0)
named_at (x ∷ rs) (y ∷ ss) (suc i) r s h lt er es =
    named_at rs ss i r s h.1 (omega (arith, lt)) er es

threads_append : (t n : ℕ) (rs : List (Vec Run Global)) (ss : List (Vec Sketch Global))
    (ts : List ThreadParts) (r : Vec Run Global) (s : Vec Sketch Global) (p : ThreadParts)
    → AreThreadParts t rs ss ts → n ≡ t + length rs → HasStoresOf p.stores s.items
    → AllZip (IsMade n r.items) s.items p.parts.items
    → AreThreadParts t (rs ++ r ∷ []) (ss ++ s ∷ []) (ts ++ p ∷ [])
threads_append t n [] [] [] r s p h e w m =
    (w, subst (λ (k : ℕ). AllZip (IsMade k r.items) s.items p.parts.items) (first e) m, tt)
  where
    first : n ≡ t + 0 → n ≡ t
    first q = omega (arith, q)
threads_append t n [] [] (x ∷ ts) r s p h e w m = absurd h
threads_append t n [] (x ∷ ss) ts r s p h e w m = absurd h
threads_append t n (x ∷ rs) [] ts r s p h e w m = absurd h
threads_append t n (x ∷ rs) (y ∷ ss) [] r s p h e w m = absurd h
threads_append t n (x ∷ rs) (y ∷ ss) (z ∷ ts) r s p h e w m =
    (h.0, h.1, threads_append (t + 1) n rs ss ts r s p h.2 (later e) w m)
  where
    later : n ≡ t + suc (length rs) → n ≡ (t + 1) + length rs
    later q = omega (arith, q)

pub threads_more : (rs : List (Vec Run Global)) (ss : List (Vec Sketch Global)) (i : ℕ)
    (ts us : List ThreadParts) (r : Vec Run Global) (s : Vec Sketch Global) (p : ThreadParts)
    → i < length rs → i < length ss → r ≡ get_or rs i r → s ≡ get_or ss i s → us ≡ ts ++ p ∷ []
    → HasStoresOf p.stores s.items → AllZip (IsMade i r.items) s.items p.parts.items
    → AreThreadParts 0 (take i rs) (take i ss) ts → AreThreadParts 0 (take (i + 1) rs) (take (i + 1) ss) us
threads_more rs ss i ts us r s p lr ls er es is w m h =
    subst (λ (l : List ThreadParts). AreThreadParts 0 (take (i + 1) rs) (take (i + 1) ss) l) (sym is)
    (subst (λ (l : List (Vec Run Global)). AreThreadParts 0 l (take (i + 1) ss) (ts ++ p ∷ []))
    (sym (take_more rs i r lr ∙ ap (λ (q : Vec Run Global). take i rs ++ q ∷ []) (sym er)))
    (subst (λ (l : List (Vec Sketch Global)). AreThreadParts 0 (take i rs ++ r ∷ []) l (ts ++ p ∷ []))
    (sym (take_more ss i s ls ∙ ap (λ (q : Vec Sketch Global). take i ss ++ q ∷ []) (sym es)))
    (threads_append 0 i (take i rs) (take i ss) ts r s p h (long (length-take-le i rs (few lr))) w
    m)))
  where
    long : length (take i rs) ≡ i → i ≡ 0 + length (take i rs)
    long e = omega (arith, e)

    few : i < length rs → i ≤ length rs
    few lt = omega (arith, lt)
