-- Loads of a location and value that no store has.
use Rattle.std.proofs.Common.{ℕ, zero, suc, ◌≡◌, ◌<◌, ◌+◌, ◌⊎◌, ◌↔◌, Bool, true, false, cond, nat_eq, List, [], ◌∷◌, ◌++◌, map, filter, take, length, get_or, Option, Some, inl, inr, arith, refl, sym, ap, subst, ◌∙◌}
use Rattle.std.specs.List.{flat_map}
use Rattle.std.proofs.lemmas.List.{take_more}
use Rattle.std.proofs.lemmas.Bool.{and_parts}
use Rattle.thread_runs.specs.declared.value.Value.{Value}
use Rattle.thread_runs.specs.declared.value.Value.TheVariants.{Number, Address, NoValue}
use Rattle.store_orders.proofs.Counting.{eq_true}
use Rattle.store_orders.specs.Lists.{tuples, IsFiltered, none}
use Rattle.store_orders.specs.Events.{numbers, is_load_action, is_load, HasLoad, HasStore}
use Rattle.run_combinations.specs.ReadChoices.{AreReadChoices, IsReadChoice, accesses_in, stores_for, may_read, same_value}
use Rattle.run_combinations.specs.Keys.{HasKey, AreKeysIn, HasStores, AreKeys, PartsAreKeyed, ThreadsAreKeyed, IsKeyed, IsLoadedKey, IsStoredKey, TellsSubset}
use Rattle.run_combinations.specs.Search.{PrefixLists, prefix_lists, with_run, initial_prefix, HasJoined}
use Rattle.store_orders.specs.declared.combination.Action.{Action}
use Rattle.store_orders.specs.declared.combination.Action.TheVariants.{Load, Store, Fence}
use Rattle.store_orders.specs.declared.combination.Event.{Event}
use Rattle.run_combinations.specs.declared.keys.KeySet.{KeySet}
use Rattle.run_combinations.specs.declared.layout.Layout.{Layout}
use Rattle.run_combinations.specs.declared.layout.ThreadParts.{ThreadParts}
use Rattle.run_combinations.specs.declared.part.Part.{Part}
use Rattle.run_combinations.specs.declared.search.Prefix.{Prefix}

-- loads and stores of lists one after another
pub load_front : (l : ℕ) (v : Value) (es fs : List Event) → HasLoad l v es → HasLoad l v (es ++ fs)
load_front l v [] fs h = absurd h
load_front l v (e ∷ es) fs (inl h) = inl h
load_front l v (e ∷ es) fs (inr h) = inr (load_front l v es fs h)

pub load_behind : (l : ℕ) (v : Value) (es fs : List Event) → HasLoad l v fs → HasLoad l v (es ++ fs)
load_behind l v [] fs h = h
load_behind l v (e ∷ es) fs h = inr (load_behind l v es fs h)

pub store_split : (l : ℕ) (v : Value) (es fs : List Event) → HasStore l v (es ++ fs)
    → HasStore l v es ⊎ HasStore l v fs
store_split l v [] fs h = inr h
store_split l v (e ∷ es) fs (inl h) = inl (inl h)
store_split l v (e ∷ es) fs (inr h) =
    elim (store_split l v es fs h) [ inl s ↦ inl (inr s) | inr s ↦ inr s ]

-- what a load may read is a store of its location and value
value_is : (w v : Value) → same_value w v ≡ true → w ≡ v
value_is (Number m) (Number n) e = ap (λ (k : ℕ). Number k) (eq_true m n e)
value_is (Number m) (Address n) e = absurd cc
value_is (Number m) NoValue e = absurd cc
value_is (Address m) (Number n) e = absurd cc
value_is (Address m) (Address n) e = ap (λ (k : ℕ). Address k) (eq_true m n e)
value_is (Address m) NoValue e = absurd cc
value_is NoValue (Number n) e = absurd cc
value_is NoValue (Address n) e = absurd cc
value_is NoValue NoValue e = refl

pub is_store_of : (l : ℕ) (v : Value) (a : Action) → may_read (Load l v) a ≡ true → a ≡ Store l v
is_store_of l v (Load location value) e = absurd cc
is_store_of l v (Fence fence) e = absurd cc
is_store_of l v (Store location written) e =
    let b : (nat_eq location l ≡ true) × (same_value written v ≡ true) = and_parts (nat_eq location l) (same_value written v) e in
    ap (λ (k : ℕ). Store k written) (eq_true location l b.0)
    ∙ ap (λ (w : Value). Store l w) (value_is written v b.1)

no_source : (l : ℕ) (v : Value) (a : Action) → a ≡ Load l v → (at : ℕ) (es : List Event)
    → (HasStore l v es → ⊥) → numbers (λ e. may_read a e.action) at es ≡ []
no_source l v a is at [] never = refl
no_source l v a is at (e ∷ es) never =
    go (may_read a e.action) refl (no_source l v a is (at + 1) es (λ h. never (inr h)))
  where
    go : (b : Bool) → may_read a e.action ≡ b → {ns : List ℕ} → ns ≡ [] → cond b (at ∷ ns) ns ≡ []
    go true is_read rest =
        absurd (never (inl (is_store_of l v e.action (subst
        (λ (x : Action). may_read x e.action ≡ true) is is_read))))
    go false is_read rest = rest

-- a list of choices without a choice
abbrev pub HasEmpty : List (List ℕ) → Type 0
HasEmpty [] = ⊥
HasEmpty (c ∷ cs) = (c ≡ []) ⊎ HasEmpty cs

empty_here : (c : List ℕ) (cs : List (List ℕ)) → c ≡ [] → HasEmpty (c ∷ cs)
empty_here c cs e = inl e

empty_there : (c : List ℕ) (cs : List (List ℕ)) → HasEmpty cs → HasEmpty (c ∷ cs)
empty_there c cs h = inr h

flat_none : (f : ℕ → List (List ℕ)) → ((x : ℕ) → f x ≡ []) → (c : List ℕ) → flat_map f c ≡ []
flat_none f each [] = refl
flat_none f each (x ∷ xs) =
    ap (λ (l : List (List ℕ)). l ++ flat_map f xs) (each x) ∙ flat_none f each xs

no_tuples : (cs : List (List ℕ)) → HasEmpty cs → (prefix : List ℕ) → tuples prefix cs ≡ []
no_tuples [] h prefix = absurd h
no_tuples (c ∷ cs) (inl e) prefix =
    ap (λ (d : List ℕ). flat_map (λ x. tuples (prefix ++ x ∷ []) cs) d) e
no_tuples (c ∷ cs) (inr h) prefix =
    flat_none (λ x. tuples (prefix ++ x ∷ []) cs) (λ x. no_tuples cs h (prefix ++ x ∷ [])) c

loads_alone : (l : ℕ) (v : Value) (all es : List Event) → (HasStore l v all → ⊥) → HasLoad l v es
    → HasEmpty (map (stores_for all) (filter is_load es))
loads_alone l v all [] never h = absurd h
loads_alone l v all (e ∷ es) never (inl is) =
    go (is_load e) (ap (λ (a : Action). is_load_action a) is) (filter is_load es)
  where
    go : (b : Bool) → b ≡ true → (rest : List Event)
        → HasEmpty (map (stores_for all) (cond b (e ∷ rest) rest))
    go true t rest =
        empty_here (stores_for all e) (map (stores_for all) rest)
        (no_source l v e.action is 0 all never)
    go false t rest = absurd cc
loads_alone l v all (e ∷ es) never (inr h) =
    go (is_load e) (filter is_load es) (loads_alone l v all es never h)
  where
    go : (b : Bool) (rest : List Event) → HasEmpty (map (stores_for all) rest)
        → HasEmpty (map (stores_for all) (cond b (e ∷ rest) rest))
    go true rest k = empty_there (stores_for all e) (map (stores_for all) rest) k
    go false rest k = k

-- a load, and no store that it may read
abbrev pub IsStuck : ℕ → Value → PrefixLists → Type 0
IsStuck l v b = HasLoad l v b.combination.events × (HasStore l v b.combination.events → ⊥)

pub no_read_choices : (l : ℕ) (v : Value) (b : PrefixLists) → IsStuck l v b
    → AreReadChoices b.combination.events b.needs []
no_read_choices l v b s =
    subst (λ (ts : List (List ℕ)).
    IsFiltered (IsReadChoice (accesses_in b.combination.events b.needs)) ts [])
    (sym (no_tuples (accesses_in b.combination.events b.needs).sources
    (loads_alone l v b.combination.events b.combination.events s.1 s.0) [])) none

pub run_stuck : (l : ℕ) (v : Value) (i : ℕ) (p : Part) (b : PrefixLists) → IsStuck l v b
    → (HasStore l v p.events.items → ⊥) → IsStuck l v (with_run i p b)
run_stuck l v i p b s never = (
  load_front l v b.combination.events p.events.items s.0,
  λ h. elim (store_split l v b.combination.events p.events.items h)
      [ inl x ↦ s.1 x | inr x ↦ never x ],
)

-- no run of the threads has a store of the location and value
abbrev pub PartsLack : ℕ → Value → List Part → Type 0
PartsLack l v [] = Unit {0}
PartsLack l v (p ∷ ps) = (HasStore l v p.events.items → ⊥) × PartsLack l v ps

abbrev pub ThreadsLack : ℕ → Value → List ThreadParts → Type 0
ThreadsLack l v [] = Unit {0}
ThreadsLack l v (t ∷ ts) = PartsLack l v t.parts.items × ThreadsLack l v ts

parts_lack : (key : ℕ → Value → Option (ℕ × ℕ)) (l : ℕ) (v : Value) (a b : ℕ)
    → key l v ≡ Some (a, b) → (all : KeySet) (ps : List Part) → PartsAreKeyed key all ps
    → (HasKey all a b → ⊥) → PartsLack l v ps
parts_lack key l v a b e all [] k never = tt
parts_lack key l v a b e all (p ∷ ps) k never =
    ((λ s. never (k.1 a b (k.0.stores l v a b s e))), parts_lack key l v a b e all ps k.2 never)

threads_lack : (key : ℕ → Value → Option (ℕ × ℕ)) (l : ℕ) (v : Value) (a b : ℕ)
    → key l v ≡ Some (a, b) → (after : KeySet) (ts : List ThreadParts) → HasStores after ts
    → ThreadsAreKeyed key ts → (HasKey after a b → ⊥) → ThreadsLack l v ts
threads_lack key l v a b e after [] w k never = tt
threads_lack key l v a b e after (t ∷ ts) w k never = (
  parts_lack key l v a b e t.stores t.parts.items k.0 (λ h. never (w.0 a b h)),
  threads_lack key l v a b e after ts w.1 k.1 never,
)

-- what does not fit is stuck, and so is all that goes on from it
pub record Stuck (b : PrefixLists) (ts : List ThreadParts) : Type 0 where
  pub location : ℕ
  pub value : Value
  pub stuck : IsStuck location value b
  pub lack : ThreadsLack location value ts

pub does_not_fit : (key : ℕ → Value → Option (ℕ × ℕ)) (f : Prefix) (p : Part) (after : KeySet)
    (ts : List ThreadParts) (i : ℕ) → AreKeys key f.runs.events.items f.loads f.stores
    → AreKeys key p.events.items p.loads p.stores → ThreadsAreKeyed key ts → HasStores after ts
    → TellsSubset false (IsLoadedKey f p) (IsStoredKey f p after) → Stuck (with_run i p (prefix_lists f)) ts
does_not_fit key f p after ts i fk pk tk w m =
    elim m.2 [
      | inl r ↦
          let g : (l : ℕ) × (v : Value) × (key l v ≡ Some (m.0, m.1)) × HasLoad l v f.runs.events.items = fk.loads m.0 m.1 r in
          go g.0 g.1 g.2 (load_front g.0 g.1 f.runs.events.items p.events.items g.3)
      | inr r ↦
          let g : (l : ℕ) × (v : Value) × (key l v ≡ Some (m.0, m.1)) × HasLoad l v p.events.items = pk.loads m.0 m.1 r in
          go g.0 g.1 g.2 (load_behind g.0 g.1 f.runs.events.items p.events.items g.3)
    ]
  where
    go : (l : ℕ) (v : Value) → key l v ≡ Some (m.0, m.1)
        → HasLoad l v (f.runs.events.items ++ p.events.items)
        → Stuck (with_run i p (prefix_lists f)) ts
    go l v e load = record {
      location = l;
      value = v;
      stuck = (
        load,
        λ h. elim (store_split l v f.runs.events.items p.events.items h) [
          | inl x ↦ m.3 (inl (inr (fk.stores l v m.0 m.1 x e)))
          | inr x ↦ m.3
              (inr (pk.stores l v m.0 m.1 x e))
        ],
      );
      lack = threads_lack key l v m.0 m.1 e after ts w tk (λ h. m.3 (inl (inl h)));
    }

-- the answer of the test
pub told : (f : Prefix) (p : Part) (after s t r : KeySet) (is : Bool)
    → ((a b : ℕ) → HasKey s a b ↔ (HasKey after a b ⊎ HasKey f.stores a b))
    → ((a b : ℕ) → HasKey t a b ↔ (HasKey s a b ⊎ HasKey p.stores a b))
    → ((a b : ℕ) → HasKey r a b ↔ (HasKey f.loads a b ⊎ HasKey p.loads a b))
    → TellsSubset is (HasKey r) (HasKey t) → TellsSubset is (IsLoadedKey f p) (IsStoredKey f p after)
told f p after s t r true js jt jr tells =
    λ a b h.
    elim ((jt a b).0 (tells a b ((jr a b).1 h))) [ inl x ↦ inl ((js a b).0 x) | inr y ↦ inr y ]
told f p after s t r false js jt jr tells = (
  tells.0,
  tells.1,
  (jr tells.0 tells.1).0 tells.2,
  λ h. tells.3 ((jt tells.0 tells.1).1 (elim h
      [ inl x ↦ inl ((js tells.0 tells.1).1 x) | inr y ↦ inr y ])),
)

pub told_false : (is : Bool) (R S : ℕ → ℕ → Type 0) → is ≡ false → TellsSubset is R S
    → TellsSubset false R S
told_false true R S e h = absurd cc
told_false false R S e h = h

-- what the later threads store
stores_append : (ts : List ThreadParts) (t : ThreadParts) (s u : KeySet) → AreKeysIn s u
    → AreKeysIn t.stores u → HasStores s ts → HasStores u (ts ++ t ∷ [])
stores_append [] t s u w v h = (v, tt)
stores_append (x ∷ xs) t s u w v h = ((λ a b k. w a b (h.0 a b k)), stores_append xs t s u w v h.1)

pub stores_more : (ts : List ThreadParts) (i : ℕ) (t : ThreadParts) (s u : KeySet) → i < length ts
    → t ≡ get_or ts i t → HasStores s (take i ts)
    → ((a b : ℕ) → HasKey u a b ↔ (HasKey s a b ⊎ HasKey t.stores a b))
    → HasStores u (take (i + 1) ts)
stores_more ts i t s u lt is h j =
    subst (λ (l : List ThreadParts). HasStores u l) (sym (take_more ts i t lt
    ∙ ap (λ (q : ThreadParts). take i ts ++ q ∷ []) (sym is)))
    (stores_append (take i ts) t s u (λ a b k. (j a b).1 (inl k)) (λ a b k. (j a b).1 (inr k)) h)

-- the sets of the prefix
pub first_keys : (key : ℕ → Value → Option (ℕ × ℕ)) (l : Layout) (f : Prefix)
    → prefix_lists f ≡ initial_prefix l.initial.items
    → ((a b : ℕ) → HasKey f.loads a b → ⊥) × (f.stores ≡ l.initial_store_keys) → IsKeyed key l
    → AreKeys key f.runs.events.items f.loads f.stores
first_keys key l f e s k = record {
  loads = λ a b h. absurd (s.0 a b h);
  stores =
      λ location v a b h is. subst (λ (w : KeySet). HasKey w a b) (sym s.1) (k.initial location v a
      b
      (subst (λ (es : List Event). HasStore location v es)
      (ap (λ (b : PrefixLists). b.combination.events) e) h) is);
}

pub longer_keys : (key : ℕ → Value → Option (ℕ × ℕ)) (f : Prefix) (p : Part) (g : Prefix) (i : ℕ)
    → prefix_lists g ≡ with_run i p (prefix_lists f) → HasJoined f p g
    → AreKeys key f.runs.events.items f.loads f.stores → AreKeys key p.events.items p.loads p.stores
    → AreKeys key g.runs.events.items g.loads g.stores
longer_keys key f p g i e j fk pk =
    subst (λ (es : List Event). AreKeys key es g.loads g.stores)
    (sym (ap (λ (b : PrefixLists). b.combination.events) e)) (record {
      loads = λ a b h. elim ((j.0 a b).0 h) [
        | inl r ↦
            let x : (l : ℕ) × (v : Value) × (key l v ≡ Some (a, b)) × HasLoad l v f.runs.events.items =
            fk.loads a b r in
            (x.0, x.1, x.2, load_front x.0 x.1 f.runs.events.items p.events.items x.3)
        | inr r ↦
            let x : (l : ℕ) × (v : Value) × (key l v ≡ Some (a, b)) × HasLoad l v p.events.items =
            pk.loads a b r in
            (x.0, x.1, x.2, load_behind x.0 x.1 f.runs.events.items p.events.items x.3)
      ];
      stores = λ l v a b h is. elim (store_split l v f.runs.events.items p.events.items h) [
        | inl x ↦ (j.1 a b).1 (inl (fk.stores l v a b x is))
        | inr x ↦ (j.1 a b).1 (inr (pk.stores l v a b x is))
      ];
    })

-- the sets of one run
pub part_keys : (key : ℕ → Value → Option (ℕ × ℕ)) (all : KeySet) (ps : List Part) (i : ℕ)
    (p : Part) → PartsAreKeyed key all ps → i < length ps → p ≡ get_or ps i p
    → AreKeys key p.events.items p.loads p.stores
part_keys key all [] i p k lt is = absurd (omega (arith, lt))
part_keys key all (q ∷ ps) zero p k lt is =
    subst (λ (x : Part). AreKeys key x.events.items x.loads x.stores) (sym is) k.0
part_keys key all (q ∷ ps) (suc i) p k lt is = part_keys key all ps i p k.2 (omega (arith, lt)) is
