-- What a space shows of the executions that its combinations list: their registers, faults and
-- dependencies.
use Rattle.std.proofs.Common.{Vec, ℕ, zero, suc, Some, ◌≡◌, ◌≤◌, ◌+◌, ◌⊎◌, ◌↔◌, true, false, List, [], ◌∷◌, ◌++◌, map, length, slice_get, refl, ap, sym, subst, ◌∙◌, inl, inr, arith, append_assoc, append-nil, Contains}
use Rattle.std.specs.List.{flat_map, AllPairs, AllZip}
use Rattle.std.specs.declared.alloc.Global.{Global}
use Rattle.std.proofs.lemmas.List.{map-append, length-map, take_all}
use Rattle.std.proofs.lemmas.List.Elements.{Contains-append_left, Contains-append_right, Contains-append_cases}
use Rattle.std.proofs.lemmas.Bool.{or_cases, or_left, or_right}
use Rattle.thread_runs.specs.declared.value.Value.{Value}
use Rattle.thread_runs.specs.declared.run.Run as made
use Rattle.thread_runs.specs.Runs.{Thread, Run}
use Rattle.thread_runs.specs.AllRuns.{ShownRun}
use Rattle.candidates.proofs.Choosing.{GoesOnWith}
use Rattle.store_orders.proofs.Counting.{some_order}
use Rattle.candidates.proofs.Elements.{member_cases, member_later, member_first, no_member, mapped, mapped_there, joined, joined_there}
use Rattle.candidates.proofs.Executing.{executed_so, orders_at, others_at, apart}
use Rattle.candidates.proofs.Facts as dependencies
use Rattle.store_orders.proofs.Filters.{IsFiltered-unique}
use Rattle.candidates.proofs.Flat.{flat, orders_flat}
use Rattle.candidates.proofs.Kept.{AreOne, zip_both}
use Rattle.candidates.proofs.Listing.{IsListed, AreListed, no_more, one_more, not_one}
use Rattle.run_combinations.specs.Candidates.{HasFaultedCandidate as HasFaultAmong}
use Rattle.store_orders.specs.Events.{initial_stores, has_store}
use Rattle.candidates.specs.Executions.{Execution, HasFaultedRun, IsDependency, product, events}
use Rattle.store_orders.specs.Lists.{tuples}
use Rattle.candidates.specs.Listed.{ShowsExecution, AreDependencyPairs}
use Rattle.candidates.proofs.RisingPairs.{pairs_rise}
use Rattle.taints.specs.Chains.{IsPairBefore}
use Rattle.store_orders.specs.Orders.{all_orders, stores_of, AreInitialStoresApart}
use Rattle.run_combinations.specs.Search.{PrefixLists, with_run, initial_prefix}
use Rattle.store_orders.specs.Combinations.{CombinationLists, combination_lists, ordered, pairs, candidates_of}
use Rattle.candidate_spaces.specs.Space.{candidates_in, end_at, registers_at, shown_of}
use Rattle.run_combinations.specs.ReadChoices.{IsReadChoice, accesses_in}
use Rattle.store_orders.specs.declared.combination.Combination.{Combination}
use Rattle.store_orders.specs.declared.combination.Event.{Event}
use Rattle.run_combinations.specs.declared.layout.ThreadParts.{ThreadParts}
use Rattle.run_combinations.specs.declared.part.Part.{Part}

-- what the registers of each thread hold at the end of its run
abbrev pub final : Run → List Value
final r = r.outcome.walk.state.registers

abbrev files : ThreadParts → List (List Value)
files t = map (λ (p : Part). p.registers) t.parts.items

abbrev items_of : Vec (List Value) Global → List (List Value)
items_of v = v.items

record Ends (ts : List ThreadParts) (rs : List Run) (before after : List ℕ) : Type 0 where
  places : List ℕ
  added : after ≡ before ++ places
  found : (vs : List (Vec (List Value) Global)) → map items_of vs ≡ map files ts
      → registers_at vs places ≡ map final rs

heads : {X : Type 0} {x y : X} {xs ys : List X} → (x ∷ xs) ≡ (y ∷ ys) → x ≡ y
heads e = cc

tails : {X : Type 0} {x y : X} {xs ys : List X} → (x ∷ xs) ≡ (y ∷ ys) → xs ≡ ys
tails e = cc

-- a part's registers are those at its index
end_there : (ps : List Part) (k : ℕ) (p : Part) → slice_get ps k ≡ Some p
    → end_at (map (λ (q : Part). q.registers) ps) k ≡ p.registers
end_there [] k p e = absurd cc
end_there (q ∷ ps) zero p e = let same : q ≡ p = cc in ap (λ (x : Part). x.registers) same
end_there (q ∷ ps) (suc k) p e = end_there ps k p e

run_ends : (V : List Value) (threads : List Thread) (thread : ℕ) (ts : List ThreadParts)
    (ms : List made.Run) (rs : List Run) (b c : PrefixLists) → AreOne V threads ms rs
    → GoesOnWith thread b ts ms c → Ends ts rs b.combination.runs c.combination.runs
run_ends V [] thread [] [] [] b c one g =
    record {
      places = [];
      added =
          ap (λ (x : PrefixLists). x.combination.runs) g ∙ sym (append-nil b.combination.runs);
      found = λ vs e. none vs e;
    }
  where
    none : (vs : List (Vec (List Value) Global)) → map items_of vs ≡ [] → registers_at vs [] ≡ []
    none [] e = refl
    none (v ∷ vs) e = refl
run_ends V [] thread (t ∷ ts) [] [] b c one g = absurd g
run_ends V [] thread ts [] (r ∷ rs) b c one g = absurd one
run_ends V [] thread ts (m ∷ ms) rs b c one g = absurd one
run_ends V (q ∷ threads) thread ts [] rs b c one g = absurd one
run_ends V (q ∷ threads) thread ts (m ∷ ms) [] b c one g = absurd one
run_ends V (q ∷ threads) thread [] (m ∷ ms) (r ∷ rs) b c one g = absurd g
run_ends V (q ∷ threads) thread (t ∷ ts) (m ∷ ms) (r ∷ rs) b c one g =
    let rest : Ends ts rs (with_run g.0 g.1 b).combination.runs c.combination.runs = run_ends V threads (thread + 1) ts ms rs (with_run g.0 g.1 b) c one.1 g.3 in
    record {
      places = g.0 ∷ rest.places;
      added = rest.added ∙ append_assoc b.combination.runs (g.0 ∷ []) rest.places;
      found = λ vs e. here vs rest e;
    }
  where
    own : g.1.registers ≡ final r
    own = g.2.1.registers ∙ ap (λ (s : ShownRun). s.registers) one.0.0.shows

    here : (vs : List (Vec (List Value) Global)) (rest : Ends ts rs
        (with_run g.0 g.1 b).combination.runs c.combination.runs)
        → map items_of vs ≡ map files (t ∷ ts)
        → registers_at vs (g.0 ∷ rest.places) ≡ map final (r ∷ rs)
    here [] rest e = absurd cc
    here (v ∷ vs) rest e =
        ap (λ (l : List (List Value)). end_at l g.0 ∷ registers_at vs rest.places) (heads e)
        ∙ ap (λ (l : List Value). l ∷ registers_at vs rest.places)
        (end_there t.parts.items g.0 g.1 g.2.0 ∙ own)
        ∙ ap (λ (l : List (List Value)). final r ∷ l) (rest.found vs (tails e))

-- whether one of the runs stopped at a fault
abbrev SomeFault : List Run → Type 0
SomeFault rs = (r : Run) × Contains rs r × (r.outcome.faulted ≡ true)

run_faults : (V : List Value) (threads : List Thread) (thread : ℕ) (ts : List ThreadParts)
    (ms : List made.Run) (rs : List Run) (b c : PrefixLists) → AreOne V threads ms rs
    → GoesOnWith thread b ts ms c → (c.faulted ≡ true) ↔ ((b.faulted ≡ true) ⊎ SomeFault rs)
run_faults V [] thread [] [] [] b c one g = (
  (λ f. inl (sym (ap (λ (x : PrefixLists). x.faulted) g) ∙ f)),
  (λ u. elim u [
    | inl f ↦ ap (λ (x : PrefixLists). x.faulted) g ∙ f
    | inr s ↦ absurd
        (no_member s.0 s.1)
  ]),
)
run_faults V [] thread (t ∷ ts) [] [] b c one g = absurd g
run_faults V [] thread ts [] (r ∷ rs) b c one g = absurd one
run_faults V [] thread ts (m ∷ ms) rs b c one g = absurd one
run_faults V (q ∷ threads) thread ts [] rs b c one g = absurd one
run_faults V (q ∷ threads) thread ts (m ∷ ms) [] b c one g = absurd one
run_faults V (q ∷ threads) thread [] (m ∷ ms) (r ∷ rs) b c one g = absurd g
run_faults V (q ∷ threads) thread (t ∷ ts) (m ∷ ms) (r ∷ rs) b c one g =
    let rest : (c.faulted ≡ true) ↔ (((with_run g.0 g.1 b).faulted ≡ true) ⊎ SomeFault rs) = run_faults V threads (thread + 1) ts ms rs (with_run g.0 g.1 b) c one.1 g.3 in
    ((λ f. to (rest.0 f)), (λ u. rest.1 (back u)))
  where
    own : g.1.is_faulted ≡ r.outcome.faulted
    own = g.2.1.faulted ∙ ap (λ (s : ShownRun). s.faulted) one.0.0.shows

    split : (b.faulted ≡ true) ⊎ (g.1.is_faulted ≡ true) → (b.faulted ≡ true) ⊎ SomeFault (r ∷ rs)
    split (inl f) = inl f
    split (inr f) = inr (r, member_first r rs, sym own ∙ f)

    to : ((with_run g.0 g.1 b).faulted ≡ true) ⊎ SomeFault rs
        → (b.faulted ≡ true) ⊎ SomeFault (r ∷ rs)
    to (inl f) = split (or_cases b.faulted g.1.is_faulted f)
    to (inr s) = inr (s.0, member_later r rs s.0 s.1, s.2)

    back : (b.faulted ≡ true) ⊎ SomeFault (r ∷ rs)
        → ((with_run g.0 g.1 b).faulted ≡ true) ⊎ SomeFault rs
    back (inl f) = inl (or_left b.faulted g.1.is_faulted f)
    back (inr s) = elim (member_cases r rs s.0 s.1) [
      | inl e ↦ inl (or_right b.faulted g.1.is_faulted
          (own ∙ ap (λ (x : Run). x.outcome.faulted) e ∙ s.2))
      | inr d ↦ inr (s.0, d, s.2)
    ]

module _ (n : ℕ) (initial : List Value) (threads : List Thread) (V : List Value)
    (ts : List ThreadParts) where
  abbrev orders_of_runs : List Run → List (List (List ℕ))
  orders_of_runs rs = product (orders_at (events initial rs) initial)

  orders_are : n ≡ length initial → (b : PrefixLists) (rs : List Run)
      → IsListed n initial threads V ts b rs
      → map flat (orders_of_runs rs) ≡ all_orders b.combination.events n
  orders_are e b rs i =
      orders_flat (events initial rs) initial
      (subst (λ (l : List Event). length l ≤ 128) i.events i.few)
      ∙ ap (λ (k : ℕ). all_orders (events initial rs) k) (sym e)
      ∙ ap (λ (l : List Event). all_orders l n) (sym i.events)

  faulted_is : (b : PrefixLists) (rs : List Run) → IsListed n initial threads V ts b rs
      → (b.faulted ≡ true) ↔ SomeFault rs
  faulted_is b rs i =
      let f : (b.faulted ≡ true) ↔ ((false ≡ true) ⊎ SomeFault rs) = run_faults V threads 0 ts i.made rs (initial_prefix (initial_stores 0 initial)) b i.one i.goes in
      ((λ h. only (f.0 h)), (λ s. f.1 (inr s)))
    where
      only : (false ≡ true) ⊎ SomeFault rs → SomeFault rs
      only (inl h) = absurd cc
      only (inr s) = s

  runs_of : (rs : List Run) (choices : List (List ℕ)) (x : Execution)
      → Contains (flat_map (λ w. map (executed_so initial rs w) (orders_of_runs rs)) choices) x
      → x.runs ≡ rs
  runs_of rs choices x c =
      let (w, there, in_row) = joined (λ w. map (executed_so initial rs w) (orders_of_runs rs)) choices x c in
      let (o, found, is) = mapped (executed_so initial rs w) (orders_of_runs rs) x in_row in
      sym (ap (λ (y : Execution). y.runs) is)

  pub fault_among : (bs : List PrefixLists) (ss : List CombinationLists) (xs : List Execution)
      → AreListed n initial threads V ts bs ss xs → (x : Execution) → Contains xs x → HasFaultedRun x
      → HasFaultAmong bs
  fault_among [] ss xs no_more x c f = absurd (no_member x c)
  fault_among (b ∷ bs) ss xs (not_one are h) x c f = inr (fault_among bs ss xs h x c f)
  fault_among (b ∷ bs) (s ∷ ss) xs (one_more {xs = ys} {reads_from = reads_from} {choices = choices} rs i are h) x c f =
      elim
      (Contains-append_cases
      (flat_map (λ w. map (executed_so initial rs w) (orders_of_runs rs)) (reads_from ∷ choices)) ys x
      c) [
        | inl own ↦ inl (
          (faulted_is b rs i).1 (subst SomeFault (runs_of rs (reads_from ∷ choices) x own) f),
          reads_from,
          choices,
          are,
        )
        | inr d ↦ inr (fault_among bs ss ys h x d f)
      ]

  some_orders : n ≡ length initial → (b : PrefixLists) (rs : List Run)
      → IsListed n initial threads V ts b rs → (o : List (List ℕ)) × Contains (orders_of_runs rs) o
  unfolding stores_of
  some_orders e b rs i = first (orders_of_runs rs) many
    where
      first : (os : List (List (List ℕ))) → 1 ≤ length os → (o : List (List ℕ)) × Contains os o
      first [] le = absurd (omega (arith, le))
      first (o ∷ os) le = (o, member_first o os)

      few : length (events initial rs) ≤ 128
      few = subst (λ (l : List Event). length l ≤ 128) i.events i.few

      are_apart : AreInitialStoresApart (events initial rs) (length initial)
      are_apart l lt =
          ap (λ (es : List Event). has_store (others_at es l) l)
          (take_all 128 (events initial rs) few) ∙ apart initial rs l lt

      many : 1 ≤ length (orders_of_runs rs)
      many =
          let p : 1 ≤ length (all_orders (events initial rs) (length initial)) = some_order (events initial rs) (length initial) are_apart in
          let q : length (map flat (orders_of_runs rs)) ≡ length (all_orders (events initial rs) (length initial)) = ap (λ (l : List (List ℕ)). length l) (orders_flat (events initial rs) initial few) in
          omega (arith, p, q, length-map (orders_of_runs rs) flat)

  pub faulted_execution : n ≡ length initial
      → (bs : List PrefixLists) (ss : List CombinationLists) (xs : List Execution)
      → AreListed n initial threads V ts bs ss xs → HasFaultAmong bs
      → (x : Execution) × Contains xs x × HasFaultedRun x
  faulted_execution e [] ss xs no_more f = absurd f
  faulted_execution e (b ∷ bs) ss xs (not_one are h) (inl f) =
      absurd (some_none (IsFiltered-unique (IsReadChoice (accesses_in b.combination.events b.needs))
      (tuples [] (accesses_in b.combination.events b.needs).sources) (f.1 ∷ f.2) [] f.3
      are))
    where
      some_none : {w : List ℕ} {ws : List (List ℕ)} → (w ∷ ws) ≡ [] → ⊥
      some_none e = cc
  faulted_execution e (b ∷ bs) ss xs (not_one are h) (inr f) = faulted_execution e bs ss xs h f
  faulted_execution e (b ∷ bs) (s ∷ ss) xs (one_more {xs = ys} {reads_from = reads_from} {choices = choices} rs i are h)
      (inl f) =
      let own : List Execution = flat_map (λ w. map (executed_so initial rs w) (orders_of_runs rs)) (reads_from ∷ choices) in
      let o : (o : List (List ℕ)) × Contains (orders_of_runs rs) o = some_orders e b rs i in
      let x : Execution = executed_so initial rs reads_from o.0 in (
        x,
        Contains-append_left own ys x (joined_there
            (λ w. map (executed_so initial rs w) (orders_of_runs rs)) (reads_from ∷ choices) reads_from x
            (member_first reads_from choices) (mapped_there (executed_so initial rs reads_from)
            (orders_of_runs rs) o.0 o.1)),
        (faulted_is b rs i).0 f.0,
      )
  faulted_execution e (b ∷ bs) (s ∷ ss) xs (one_more {xs = ys} {reads_from = reads_from} {choices = choices} rs i are h)
      (inr f) =
      let (x, there, fault) = faulted_execution e bs ss ys h f in (
        x,
        Contains-append_right
            (flat_map (λ w. map (executed_so initial rs w) (orders_of_runs rs)) (reads_from ∷ choices))
            ys x there,
        fault,
      )

-- an execution, and how it is shown
abbrev pub AreShown : List Value → List (Vec (List Value) Global) → Execution
    → Combination × (List ℕ × List ℕ) → Type 0
AreShown initial registers x c = ShowsExecution initial x (shown_of registers c)

module _ (n : ℕ) (initial : List Value) (threads : List Thread) (V : List Value)
    (ts : List ThreadParts) (registers : List (Vec (List Value) Global))
    (files_are : map items_of registers ≡ map files ts) where
  shown_pairs : (d : dependencies.Listed) (b : PrefixLists) (rs : List Run)
      → IsListed n initial threads V ts b rs → (x : Execution) → rs ≡ x.runs
      → (shown : List (ℕ × ℕ)) → shown ≡ d.all b → AreDependencyPairs d.Related initial x shown
  shown_pairs d b rs i x are shown e = record {
    rising =
        subst (λ (l : List (ℕ × ℕ)). AllPairs IsPairBefore l) (sym e) (pairs_rise d V threads ts
        i.made rs initial b i.one i.goes i.few);
    exact = λ p.
        subst (λ (qs : List Run). Contains shown p ↔ IsDependency d.Related initial qs p.0 p.1) are
        (subst (λ (l : List (ℕ × ℕ)). Contains l p ↔ IsDependency d.Related initial rs p.0 p.1)
        (sym e) (dependencies.facts d V threads ts i.made rs initial b i.one i.goes i.few
        p.0 p.1));
  }

  one_shown : (b : PrefixLists) (rs : List Run) → IsListed n initial threads V ts b rs
      → (c : Combination) (choices : List (List ℕ))
      → combination_lists c ≡ ordered n (record b.combination { reads_from = choices })
      → (reads_from : List ℕ) (coherence : List (List ℕ))
      → AreShown initial registers (executed_so initial rs reads_from coherence) (c, (reads_from, flat coherence))
  one_shown b rs i c choices eq reads_from coherence =
      let ends : Ends ts rs [] b.combination.runs = run_ends V threads 0 ts i.made rs (initial_prefix (initial_stores 0 initial)) b i.one i.goes in
      record {
        events = ap (λ (x : CombinationLists). x.events) eq ∙ i.events;
        addr =
            shown_pairs dependencies.addr b rs i (executed_so initial rs reads_from coherence) refl
            c.dependencies.addr_pairs.items (ap
            (λ (x : CombinationLists). x.dependencies.addr_pairs) eq);
        «data» =
            shown_pairs dependencies.data_listed b rs i (executed_so initial rs reads_from coherence) refl
            c.dependencies.data_pairs.items (ap
            (λ (x : CombinationLists). x.dependencies.data_pairs) eq);
        ctrl =
            shown_pairs dependencies.ctrl b rs i (executed_so initial rs reads_from coherence) refl
            c.dependencies.ctrl_pairs.items (ap
            (λ (x : CombinationLists). x.dependencies.ctrl_pairs) eq);
        ctrlisync =
            shown_pairs dependencies.ctrlisync b rs i (executed_so initial rs reads_from coherence) refl
            c.dependencies.ctrlisync_pairs.items (ap
            (λ (x : CombinationLists). x.dependencies.ctrlisync_pairs) eq);
        reads_from = refl;
        coherence = refl;
        registers =
            ap (λ (l : List ℕ). registers_at registers l)
            (ap (λ (x : CombinationLists). x.runs) eq ∙ ends.added)
            ∙ ends.found registers files_are;
      }

  -- each read choice with each order
  row_shown : (b : PrefixLists) (rs : List Run) → IsListed n initial threads V ts b rs
      → (c : Combination) (choices : List (List ℕ))
      → combination_lists c ≡ ordered n (record b.combination { reads_from = choices })
      → (reads_from : List ℕ) (os : List (List (List ℕ)))
      → AllZip (AreShown initial registers) (map (executed_so initial rs reads_from) os)
      (map (λ t. (c, t)) (map (λ y. (reads_from, y)) (map flat os)))
  row_shown b rs i c choices eq reads_from [] = tt
  row_shown b rs i c choices eq reads_from (o ∷ os) =
      (one_shown b rs i c choices eq reads_from o, row_shown b rs i c choices eq reads_from os)

  rows_shown : (b : PrefixLists) (rs : List Run) → IsListed n initial threads V ts b rs
      → (c : Combination) (choices : List (List ℕ))
      → combination_lists c ≡ ordered n (record b.combination { reads_from = choices })
      → (some : List (List ℕ)) (os : List (List (List ℕ)))
      → AllZip (AreShown initial registers) (flat_map (λ w. map (executed_so initial rs w) os) some)
      (map (λ t. (c, t)) (pairs some (map flat os)))
  rows_shown b rs i c choices eq [] os = tt
  rows_shown b rs i c choices eq (w ∷ some) os =
      subst (λ (l : List (Combination × (List ℕ × List ℕ))). AllZip (AreShown initial registers)
      (map (executed_so initial rs w) os
      ++ flat_map (λ w. map (executed_so initial rs w) os) some) l)
      (sym (map-append (λ t. (c, t)) (map (λ y. (w, y)) (map flat os)) (pairs some (map flat os))))
      (zip_both (AreShown initial registers) (map (executed_so initial rs w) os)
      (flat_map (λ w. map (executed_so initial rs w) os) some)
      (map (λ t. (c, t)) (map (λ y. (w, y)) (map flat os)))
      (map (λ t. (c, t)) (pairs some (map flat os)))
      (row_shown b rs i c choices eq w os) (rows_shown b rs i c choices eq some os))

  candidates_are : n ≡ length initial → (b : PrefixLists) (rs : List Run)
      → IsListed n initial threads V ts b rs → (c : Combination) (choices : List (List ℕ))
      → combination_lists c ≡ ordered n (record b.combination { reads_from = choices })
      → candidates_of c ≡ pairs choices (map flat (orders_of_runs n initial threads V ts rs))
  unfolding candidates_of
  candidates_are e b rs i c choices eq =
      ap (λ (l : List (List ℕ)). pairs l c.orders) (ap (λ (x : CombinationLists). x.reads_from) eq)
      ∙ ap (λ (l : List (List ℕ)). pairs choices l) (ap (λ (x : CombinationLists). x.orders) eq
      ∙ sym (orders_are n initial threads V ts e b rs i))

  pub all_shown : n ≡ length initial
      → (bs : List PrefixLists) (ss : List CombinationLists) (xs : List Execution)
      (cs : List Combination) → map combination_lists cs ≡ ss
      → AreListed n initial threads V ts bs ss xs
      → AllZip (AreShown initial registers) xs (candidates_in cs)
  all_shown e [] [] xs [] eq no_more = tt
  all_shown e [] [] xs (c ∷ cs) eq h = absurd cc
  all_shown e [] (s ∷ ss) xs cs eq h = elim h [ ]
  all_shown e (b ∷ bs) ss xs cs eq (not_one are h) = all_shown e bs ss xs cs eq h
  all_shown e (b ∷ bs) (s ∷ ss) xs [] eq (one_more rs i are h) = absurd cc
  all_shown e (b ∷ bs) (s ∷ ss) xs (c ∷ cs) eq
      (one_more {xs = ys} {reads_from = reads_from} {choices = choices} rs i are h) =
      let own : List Execution = flat_map (λ w. map (executed_so initial rs w) (orders_of_runs n initial threads V ts rs)) (reads_from ∷ choices) in
      zip_both (AreShown initial registers) own ys (map (λ t. (c, t)) (candidates_of c))
      (candidates_in cs)
      (subst
      (λ (l : List (List ℕ × List ℕ)).
      AllZip (AreShown initial registers) own (map (λ t. (c, t)) l))
      (sym (candidates_are e b rs i c (reads_from ∷ choices) (heads eq)))
      (rows_shown b rs i c (reads_from ∷ choices) (heads eq) (reads_from ∷ choices)
      (orders_of_runs n initial threads V ts rs)))
      (all_shown e bs ss ys cs (tails eq) h)
