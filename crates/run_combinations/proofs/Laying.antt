-- The parts of all threads, and the combinations of runs that are left out.
use Rattle.std.proofs.Common.{Vec, ℕ, zero, suc, ◌≡◌, ◌<◌, ◌≤◌, ◌+◌, ◌⊎◌, List, [], ◌∷◌, ◌++◌, take, length, get_or, Option, Some, None, slice_get, inl, inr, arith, refl, sym, ap, subst, ◌∙◌}
use Rattle.std.specs.declared.alloc.Global.{Global}
use Rattle.std.proofs.lemmas.List.{take_more, length-take-le}
use Rattle.std.proofs.lemmas.Option.{slice_get_within}
use Rattle.thread_runs.specs.declared.value.Value.{Value}
use Rattle.thread_runs.specs.declared.run.Run.{Run}
use Rattle.run_combinations.proofs.Parting.{each_append}
use Rattle.run_combinations.proofs.Pruning.{load_front, load_behind, store_split}
use Rattle.run_combinations.specs.Keys.{HasKey, AreKeysIn, AreKeys, PartsAreKeyed, ThreadsAreKeyed, bit_of}
use Rattle.store_orders.specs.Events.{thread_events, initial_stores, HasLoad, HasStore, CannotRead}
use Rattle.run_combinations.specs.Parts.{IsSketch, AreSketches, HasStoresOf, AreSome, end, kept_one, left_out, Among, IsChoice, HasLoadKey, HasStoreKey, IsUnread, IsSifted, IsMade, AreBelow, NamesRuns, AreThreadParts}
use Rattle.std.specs.List.{AllZip}
use Rattle.run_combinations.specs.Layouts.{ArePartsOf, AreThreadsOf, AreChosen, chosen_events, HasRun, HaveParts}
use Rattle.store_orders.specs.declared.combination.Action.TheVariants.{Store}
use Rattle.store_orders.specs.declared.combination.Event.{Event}
use Rattle.run_combinations.specs.declared.keys.KeySet.{KeySet}
use Rattle.run_combinations.specs.declared.layout.ThreadParts.{ThreadParts}
use Rattle.run_combinations.specs.declared.part.Part.{Part}
use Rattle.run_combinations.specs.declared.part.Sketch.{Sketch}

-- sketches of runs in their order, from this index on
abbrev pub Facts : List Value → List Run → ℕ → List Sketch → Type 0
Facts values runs least [] = Unit {0}
Facts values runs least (s ∷ ss) =
    (least ≤ s.run) × IsSketch values runs s × Facts values runs (s.run + 1) ss

facts_from : (values : List Value) (runs : List Run) (at : ℕ) (ss : List Sketch)
    → ((k : ℕ) (s : Sketch) → slice_get ss k ≡ Some s → (s.run ≡ at + k) × IsSketch values runs s)
    → Facts values runs at ss
facts_from values runs at [] h = tt
facts_from values runs at (s ∷ ss) h =
    let e : s.run ≡ at + 0 = (h 0 s refl).0 in
    let n : at + 1 ≡ s.run + 1 = omega (arith, e) in (
      omega (arith, e),
      (h 0 s refl).1,
      subst (λ (m : ℕ). Facts values runs m ss) n (facts_from values runs (at + 1) ss
          (λ k x g.
          let d : x.run ≡ at + suc k = (h (suc k) x g).0 in
          (omega (arith, d), (h (suc k) x g).1))),
    )

facts_lower : (values : List Value) (runs : List Run) (m n : ℕ) (ss : List Sketch) → n ≤ m
    → Facts values runs m ss → Facts values runs n ss
facts_lower values runs m n [] le h = tt
facts_lower values runs m n (s ∷ ss) le h =
    let a : m ≤ s.run = h.0 in (omega (arith, a, le), h.1, h.2)

facts_some : (values : List Value) (runs : List Run) (n : ℕ) (xs ys : List Sketch) → AreSome xs ys
    → Facts values runs n xs → Facts values runs n ys
facts_some values runs n [] ys end h = tt
facts_some values runs n (s ∷ xs) ys (kept_one {ys = zs} k) h =
    (h.0, h.1, facts_some values runs (s.run + 1) xs zs k h.2)
facts_some values runs n (s ∷ xs) ys (left_out k) h =
    let a : n ≤ s.run = h.0 in
    facts_lower values runs (s.run + 1) n ys (omega (arith, a))
    (facts_some values runs (s.run + 1) xs ys k h.2)

abbrev pub AllSketches : List Value → List (Vec Run Global) → List (Vec Sketch Global) → Type 0
AllSketches values runs sks = AllZip (λ r s. AreSketches values r.items s.items) runs sks

abbrev pub AllFacts : List Value → List (Vec Run Global) → List (Vec Sketch Global) → Type 0
AllFacts values runs sks = AllZip (λ r s. Facts values r.items 0 s.items) runs sks

pub all_facts : (values : List Value) (runs : List (Vec Run Global))
    (olds news : List (Vec Sketch Global)) → AllSketches values runs olds
    → AllZip (λ v w. AreSome v.items w.items) olds news → AllFacts values runs news
all_facts values [] [] [] h k = tt
all_facts values [] [] (w ∷ news) h k = absurd k
all_facts values [] (v ∷ olds) news h k = absurd h
all_facts values (r ∷ runs) [] news h k = absurd h
all_facts values (r ∷ runs) (v ∷ olds) [] h k = absurd k
all_facts values (r ∷ runs) (v ∷ olds) (w ∷ news) h k = (
  facts_some values r.items 0 v.items w.items k.0 (facts_from values r.items 0 v.items
      (λ j s g.
      let e : s.run ≡ j = (h.0.each j s g).0 in
      (omega (arith, e), (h.0.each j s g).1))),
  all_facts values runs olds news h.1 k.1,
)

-- the sketches name runs
facts_below : (values : List Value) (runs : List Run) (n : ℕ) (ss : List Sketch)
    → Facts values runs n ss → AreBelow (length runs) ss
facts_below values runs n [] h = tt
facts_below values runs n (s ∷ ss) h =
    (slice_get_within runs s.run h.1.0 h.1.1, facts_below values runs (s.run + 1) ss h.2)

pub all_named : (values : List Value) (runs : List (Vec Run Global))
    (sks : List (Vec Sketch Global)) → AllFacts values runs sks → AllZip NamesRuns runs sks
all_named values [] [] h = tt
all_named values [] (s ∷ sks) h = absurd h
all_named values (r ∷ runs) [] h = absurd h
all_named values (r ∷ runs) (s ∷ sks) h =
    (facts_below values r.items 0 s.items h.0, all_named values runs sks h.1)

-- the parts of the runs that stay
parts_of : (values : List Value) (t : ℕ) (runs : List Run) (n : ℕ) (ss : List Sketch)
    (ps : List Part) → Facts values runs n ss → AllZip (IsMade t runs) ss ps
    → ArePartsOf t runs n ps
parts_of values t runs n [] [] f m = tt
parts_of values t runs n [] (p ∷ ps) f m = absurd m
parts_of values t runs n (s ∷ ss) [] f m = absurd m
parts_of values t runs n (s ∷ ss) (p ∷ ps) f m =
    let e : p.run ≡ s.run = m.0.0 in
    let a : n ≤ s.run = f.0 in (
      omega (arith, a, e),
      (m.0.3, ap (λ (k : ℕ). slice_get runs k) e ∙ m.0.4, m.0.5),
      subst (λ (k : ℕ). ArePartsOf t runs (k + 1) ps) (sym e)
          (parts_of values t runs (s.run + 1) ss ps f.2 m.1),
    )

pub all_threads : (values : List Value) (t : ℕ) (runs : List (Vec Run Global))
    (sks : List (Vec Sketch Global)) (ts : List ThreadParts) → AllFacts values runs sks
    → AreThreadParts t runs sks ts → AreThreadsOf t runs ts
all_threads values t [] [] [] f m = tt
all_threads values t [] [] (p ∷ ts) f m = absurd m
all_threads values t [] (s ∷ sks) ts f m = absurd f
all_threads values t (r ∷ runs) [] ts f m = absurd f
all_threads values t (r ∷ runs) (s ∷ sks) [] f m = absurd m
all_threads values t (r ∷ runs) (s ∷ sks) (p ∷ ts) f m = (
  parts_of values t r.items 0 s.items p.parts.items f.0 m.1,
  all_threads values (t + 1) runs sks ts f.1 m.2,
)

-- their sets
part_keyed : (values : List Value) (t : ℕ) (runs : List Run) (s : Sketch) (p : Part)
    → IsSketch values runs s → IsMade t runs s p
    → AreKeys (bit_of values) p.events.items p.loads p.stores
part_keyed values t runs s p f m =
    let same : m.3 ≡ f.0 = some_is (sym m.4 ∙ f.1) in
    subst (λ (es : List Event). AreKeys (bit_of values) es p.loads p.stores)
    (sym (m.5.events ∙ ap (λ (r : Run). thread_events t r.events.items) same))
    (subst (λ (k : KeySet). AreKeys (bit_of values) (thread_events t f.0.events.items) k p.stores)
    (sym m.1)
    (subst (λ (k : KeySet). AreKeys (bit_of values) (thread_events t f.0.events.items) s.loads k)
    (sym m.2) (f.2 t)))
  where
    some_is : {x y : Run} → Some x ≡ Some y → x ≡ y
    some_is e = cc

parts_keyed : (values : List Value) (t : ℕ) (runs : List Run) (n : ℕ) (all : KeySet)
    (ss : List Sketch) (ps : List Part) → Facts values runs n ss → AllZip (IsMade t runs) ss ps
    → HasStoresOf all ss → PartsAreKeyed (bit_of values) all ps
parts_keyed values t runs n all [] [] f m w = tt
parts_keyed values t runs n all [] (p ∷ ps) f m w = absurd m
parts_keyed values t runs n all (s ∷ ss) [] f m w = absurd m
parts_keyed values t runs n all (s ∷ ss) (p ∷ ps) f m w = (
  part_keyed values t runs s p f.1 m.0,
  subst (λ (k : KeySet). AreKeysIn k all) (sym m.0.2) w.0,
  parts_keyed values t runs (s.run + 1) all ss ps f.2 m.1 w.1,
)

pub all_keyed : (values : List Value) (t : ℕ) (runs : List (Vec Run Global))
    (sks : List (Vec Sketch Global)) (ts : List ThreadParts) → AllFacts values runs sks
    → AreThreadParts t runs sks ts → ThreadsAreKeyed (bit_of values) ts
all_keyed values t [] [] [] f m = tt
all_keyed values t [] [] (p ∷ ts) f m = absurd m
all_keyed values t [] (s ∷ sks) ts f m = absurd f
all_keyed values t (r ∷ runs) [] ts f m = absurd f
all_keyed values t (r ∷ runs) (s ∷ sks) [] f m = absurd m
all_keyed values t (r ∷ runs) (s ∷ sks) (p ∷ ts) f m = (
  parts_keyed values t r.items 0 p.stores s.items p.parts.items f.0 m.1 m.0,
  all_keyed values (t + 1) runs sks ts f.1 m.2,
)

-- the sketches of chosen runs
abbrev pub AreTheirs : List Value → List ℕ → List Run → List Sketch → Type 0
AreTheirs values [] [] [] = Unit {0}
AreTheirs values (k ∷ ks) (r ∷ rs) (c ∷ cs) =
    (c.run ≡ k)
    × ((t : ℕ) → AreKeys (bit_of values) (thread_events t r.events.items) c.loads c.stores)
    × AreTheirs values ks rs cs
AreTheirs values _ _ _ = ⊥

some_at : (ss : List Sketch) (k : ℕ) → k < length ss
    → (s : Sketch) × (slice_get ss k ≡ Some s) × Among ss s
some_at [] k lt = absurd (omega (arith, lt))
some_at (s ∷ ss) zero lt = (s, refl, inl refl)
some_at (s ∷ ss) (suc k) lt =
    let r : (x : Sketch) × (slice_get ss k ≡ Some x) × Among ss x =
    some_at ss k (omega (arith, lt)) in
    (r.0, r.1, inr r.2)

pub their_sketches : (values : List Value) (runs : List (Vec Run Global))
    (sks : List (Vec Sketch Global)) (ks : List ℕ) (rs : List Run) → AllSketches values runs sks
    → AreChosen runs ks rs → (cs : List Sketch) × IsChoice sks cs × AreTheirs values ks rs cs
their_sketches values [] [] [] [] h c = ([], tt, tt)
their_sketches values [] [] [] (r ∷ rs) h c = absurd c
their_sketches values [] [] (k ∷ ks) rs h c = absurd c
their_sketches values [] (s ∷ sks) ks rs h c = absurd h
their_sketches values (v ∷ runs) [] ks rs h c = absurd h
their_sketches values (v ∷ runs) (s ∷ sks) [] rs h c = absurd c
their_sketches values (v ∷ runs) (s ∷ sks) (k ∷ ks) [] h c = absurd c
their_sketches values (v ∷ runs) (s ∷ sks) (k ∷ ks) (r ∷ rs) h c =
    let lt : k < length v.items = slice_get_within v.items k r c.0 in
    let w : length s.items ≡ length v.items = h.0.whole in
    let x : (y : Sketch) × (slice_get s.items k ≡ Some y) × Among s.items y = some_at s.items k (omega (arith, lt, w)) in
    let e : (x.0.run ≡ k) × IsSketch values v.items x.0 = h.0.each k x.0 x.1 in
    let rest : (cs : List Sketch) × IsChoice sks cs × AreTheirs values ks rs cs = their_sketches values runs sks ks rs h.1 c.1 in
    let same : e.1.0 ≡ r = some_is (sym e.1.1 ∙ ap (λ (j : ℕ). slice_get v.items j) e.0 ∙ c.0) in (
      x.0 ∷ rest.0,
      (x.2, rest.1),
      (
        e.0,
        (λ t. subst
            (λ (q : Run). AreKeys (bit_of values) (thread_events t q.events.items)
            x.0.loads x.0.stores) same
            (e.1.2 t)),
        rest.2,
      ),
    )
  where
    some_is : {x y : Run} → Some x ≡ Some y → x ≡ y
    some_is e = cc

read_there : (values : List Value) (t : ℕ) (ks : List ℕ) (rs : List Run) (cs : List Sketch)
    (a b : ℕ) → AreTheirs values ks rs cs → HasLoadKey cs a b
    → (l : ℕ) × (v : Value) × (bit_of values l v ≡ Some (a, b)) × HasLoad l v (chosen_events t rs)
read_there values t [] [] [] a b h r = absurd r
read_there values t [] [] (c ∷ cs) a b h r = absurd h
read_there values t [] (x ∷ rs) cs a b h r = absurd h
read_there values t (k ∷ ks) [] cs a b h r = absurd h
read_there values t (k ∷ ks) (x ∷ rs) [] a b h r = absurd h
read_there values t (k ∷ ks) (x ∷ rs) (c ∷ cs) a b h (inl r) =
    let g : (l : ℕ) × (v : Value) × (bit_of values l v ≡ Some (a, b)) × HasLoad l v (thread_events t x.events.items) = (h.1 t).loads a b r in (
      g.0,
      g.1,
      g.2,
      load_front g.0 g.1 (thread_events t x.events.items) (chosen_events (t + 1) rs) g.3,
    )
read_there values t (k ∷ ks) (x ∷ rs) (c ∷ cs) a b h (inr r) =
    let g : (l : ℕ) × (v : Value) × (bit_of values l v ≡ Some (a, b)) × HasLoad l v (chosen_events (t + 1) rs) = read_there values (t + 1) ks rs cs a b h.2 r in (
      g.0,
      g.1,
      g.2,
      load_behind g.0 g.1 (thread_events t x.events.items) (chosen_events (t + 1) rs) g.3,
    )

written_there : (values : List Value) (t : ℕ) (ks : List ℕ) (rs : List Run) (cs : List Sketch)
    (l : ℕ) (v : Value) (a b : ℕ) → AreTheirs values ks rs cs → bit_of values l v ≡ Some (a, b)
    → HasStore l v (chosen_events t rs) → HasStoreKey cs a b
written_there values t [] [] [] l v a b h e s = absurd s
written_there values t [] [] (c ∷ cs) l v a b h e s = absurd h
written_there values t [] (x ∷ rs) cs l v a b h e s = absurd h
written_there values t (k ∷ ks) [] cs l v a b h e s = absurd h
written_there values t (k ∷ ks) (x ∷ rs) [] l v a b h e s = absurd h
written_there values t (k ∷ ks) (x ∷ rs) (c ∷ cs) l v a b h e s =
    elim (store_split l v (thread_events t x.events.items) (chosen_events (t + 1) rs) s) [
      | inl q ↦ inl ((h.1 t).stores l v a b q e)
      | inr q ↦ inr (written_there values (t + 1) ks rs cs l v a b h.2 e q)
    ]

unread_there : (values : List Value) (initial : List Event) (stores : KeySet) (ks : List ℕ)
    (rs : List Run) (cs : List Sketch)
    → ((l : ℕ) (v : Value) (a b : ℕ) → HasStore l v initial → bit_of values l v ≡ Some (a, b)
    → HasKey stores a b) → AreTheirs values ks rs cs → IsUnread stores cs
    → CannotRead (initial ++ chosen_events 0 rs)
unread_there values initial stores ks rs cs keys h u =
    let g : (l : ℕ) × (v : Value) × (bit_of values l v ≡ Some (u.0, u.1)) × HasLoad l v (chosen_events 0 rs) = read_there values 0 ks rs cs u.0 u.1 h u.2 in (
      g.0,
      g.1,
      load_behind g.0 g.1 initial (chosen_events 0 rs) g.3,
      λ s. elim (store_split g.0 g.1 initial (chosen_events 0 rs) s) [
        | inl q ↦ u.3
            (keys g.0 g.1 u.0 u.1 q g.2)
        | inr q ↦ u.4
            (written_there values 0 ks rs cs g.0 g.1 u.0 u.1 h g.2 q)
      ],
    )

among_run : (t : ℕ) (runs : List Run) (ss : List Sketch) (ps : List Part) (s : Sketch) (k : ℕ)
    → AllZip (IsMade t runs) ss ps → Among ss s → s.run ≡ k → HasRun ps k
among_run t runs [] ps s k m a e = absurd a
among_run t runs (x ∷ ss) [] s k m a e = absurd m
among_run t runs (x ∷ ss) (p ∷ ps) s k m (inl a) e = inl (m.0.0 ∙ ap (λ (y : Sketch). y.run) a ∙ e)
among_run t runs (x ∷ ss) (p ∷ ps) s k m (inr a) e = inr (among_run t runs ss ps s k m.1 a e)

all_there : (values : List Value) (t : ℕ) (runs : List (Vec Run Global))
    (sks : List (Vec Sketch Global)) (ts : List ThreadParts) (ks : List ℕ) (rs : List Run)
    (cs : List Sketch) → AreThreadParts t runs sks ts → AreChosen runs ks rs
    → AreTheirs values ks rs cs → IsChoice sks cs → HaveParts ts ks
all_there values t [] [] [] [] rs cs m c h i = tt
all_there values t [] [] [] (k ∷ ks) [] cs m c h i = absurd c
all_there values t [] [] [] (k ∷ ks) (r ∷ rs) cs m c h i = absurd c
all_there values t [] [] (p ∷ ts) ks rs cs m c h i = absurd m
all_there values t [] (s ∷ sks) ts ks rs cs m c h i = absurd m
all_there values t (v ∷ runs) [] ts ks rs cs m c h i = absurd m
all_there values t (v ∷ runs) (s ∷ sks) [] ks rs cs m c h i = absurd m
all_there values t (v ∷ runs) (s ∷ sks) (p ∷ ts) [] rs cs m c h i = absurd c
all_there values t (v ∷ runs) (s ∷ sks) (p ∷ ts) (k ∷ ks) [] cs m c h i = absurd c
all_there values t (v ∷ runs) (s ∷ sks) (p ∷ ts) (k ∷ ks) (r ∷ rs) [] m c h i = absurd h
all_there values t (v ∷ runs) (s ∷ sks) (p ∷ ts) (k ∷ ks) (r ∷ rs) (x ∷ cs) m c h i = (
  among_run t v.items s.items p.parts.items x k m.1 i.0 h.0,
  all_there values (t + 1) runs sks ts ks rs cs m.2 c.1 h.2 i.1,
)

pub left_out_there : (values : List Value) (initial : List Event) (stores : KeySet)
    (runs : List (Vec Run Global)) (olds news : List (Vec Sketch Global))
    (ts : List ThreadParts)
    → ((l : ℕ) (v : Value) (a b : ℕ) → HasStore l v initial → bit_of values l v ≡ Some (a, b)
    → HasKey stores a b) → AllSketches values runs olds → IsSifted stores olds news
    → AreThreadParts 0 runs news ts → (ks : List ℕ) (rs : List Run) → AreChosen runs ks rs
    → HaveParts ts ks ⊎ CannotRead (initial ++ chosen_events 0 rs)
left_out_there values initial stores runs olds news ts keys sketched sifted made ks rs c =
    let x : (cs : List Sketch) × IsChoice olds cs × AreTheirs values ks rs cs = their_sketches values runs olds ks rs sketched c in
    elim (sifted.choices x.0 x.1) [
      | inl there ↦ inl (all_there values 0 runs news ts ks rs x.0 made c x.2 there)
      | inr u ↦ inr (unread_there values initial stores ks rs x.0 keys x.2 u)
    ]

-- the initial stores
initial_append : (at n : ℕ) (vs : List Value) (v : Value) → n ≡ at + length vs
    → initial_stores at (vs ++ v ∷ [])
    ≡ initial_stores at vs ++ record { thread = None; action = Store n v } ∷ []
initial_append at n [] v e =
    let z : at ≡ n = omega (arith, e) in
    ap (λ (k : ℕ). record { thread = None; action = Store k v } ∷ []) z
initial_append at n (x ∷ vs) v e =
    ap (λ (l : List Event). record { thread = None; action = Store at x } ∷ l)
    (initial_append (at + 1) n vs v (omega (arith, e)))

pub initial_step : (vs : List Value) (i : ℕ) (d : Value) (old new : List Event) → i < length vs
    → new ≡ old ++ record { thread = None; action = Store i (get_or vs i d) } ∷ []
    → old ≡ initial_stores 0 (take i vs) → new ≡ initial_stores 0 (take (i + 1) vs)
initial_step vs i d old new lt is e =
    is
    ∙ ap
    (λ (l : List Event). l
    ++ record { thread = None; action = Store i (get_or vs i d) } ∷ []) e
    ∙ sym (ap (λ (l : List Value). initial_stores 0 l) (take_more vs i d lt)
    ∙ initial_append 0 i (take i vs) (get_or vs i d) (long (length-take-le i vs (few lt))))
  where
    long : length (take i vs) ≡ i → i ≡ 0 + length (take i vs)
    long q = omega (arith, q)

    few : i < length vs → i ≤ length vs
    few h = omega (arith, h)

pub keys_step : (values : List Value) (es : List Event) (i : ℕ) (d : Event) (r w s x : KeySet)
    → i < length es
    → ((xs : List Event) (t : Option ℕ) → AreKeys (bit_of values) xs r w
    → AreKeys (bit_of values)
    (xs ++ record { thread = t; action = (get_or es i d).action } ∷ []) s x)
    → AreKeys (bit_of values) (take i es) r w → AreKeys (bit_of values) (take (i + 1) es) s x
keys_step values es i d r w s x lt step k =
    subst (λ (l : List Event). AreKeys (bit_of values) l s x) (sym (take_more es i d lt))
    (step (take i es) (get_or es i d).thread k)

pub each_more : {X Y : Type 0} (R : X → Y → Type 0) (xs : List X) (i : ℕ) (x : X) (ys zs : List Y)
    (y : Y) → i < length xs → x ≡ get_or xs i x → zs ≡ ys ++ y ∷ [] → R x y
    → AllZip R (take i xs) ys → AllZip R (take (i + 1) xs) zs
each_more {X = X} {Y = Y} R xs i x ys zs y lt is e r h =
    subst (λ (l : List X). AllZip R l zs) (sym (take_more xs i x lt
    ∙ ap (λ (q : X). take i xs ++ q ∷ []) (sym is)))
    (subst (λ (l : List Y). AllZip R (take i xs ++ x ∷ []) l) (sym e)
    (each_append R (take i xs) ys x y h r))

-- what stays of a list that is as long
pub front_is : {X : Type 0} (xs ys : List X) (n : ℕ) → n ≡ length xs → take n (xs ++ ys) ≡ xs
front_is [] ys zero e = refl
front_is [] ys (suc n) e = absurd (omega (arith, e))
front_is (x ∷ xs) ys zero e = absurd (omega (arith, e))
front_is {X = X} (x ∷ xs) ys (suc n) e =
    ap (λ (l : List X). x ∷ l) (front_is xs ys n (omega (arith, e)))
