-- The combinations that are found, with their read choices and orders, are just the executions.
use Rattle.std.proofs.Common.{ℕ, ◌≡◌, ◌≤◌, false, length, List, [], ◌∷◌, ◌++◌, map, ap, subst, ◌∙◌, inl, inr, arith, Contains}
use Rattle.std.specs.List.{flat_map, AllZip}
use Rattle.bit_rows.specs.Pairs.{Union, IsAcyclic}
use Rattle.thread_runs.specs.declared.value.Value.{Value}
use Rattle.thread_runs.specs.declared.run.Run as made
use Rattle.thread_runs.specs.Runs.{Thread, Run, IsThreadRun}
use Rattle.taints.specs.Chains.{IsNeed}
use Rattle.taints.specs.DependencyLists.{no_dependencies}
use Rattle.candidates.proofs.Choosing.{AreChoices, GoesOnWith, over, next, skipped}
use Rattle.candidates.proofs.Executing.{executed_so, executions_found, orders_at, orders_filtered}
use Rattle.candidates.proofs.Facts.{events_are}
use Rattle.candidates.proofs.Kept.{AreOne, one_run_each, same_events}
use Rattle.candidates.proofs.Needs.{needs_are}
use Rattle.store_orders.proofs.Filters.{IsFiltered-append}
use Rattle.candidates.proofs.Products.{filter_of_product}
use Rattle.run_combinations.proofs.Pruning.{no_read_choices}
use Rattle.candidates.proofs.ReadsFrom.{reads_found, acyclic_as}
use Rattle.run_combinations.specs.declared.layout.ThreadParts.{ThreadParts}
use Rattle.run_combinations.specs.Candidates.{AreSmall, AreCombinations, nothing_left, with_read_choices, without}
use Rattle.candidates.specs.Executions.{Execution, IsExecution, IsDependency, IsStoreOrder, MayRead, product, read_choices, orders, over_runs, loads, locations_from, events}
use Rattle.store_orders.specs.Lists.{IsFiltered, none, left}
use Rattle.store_orders.specs.Events.{initial_stores, ReadsFrom, CannotRead}
use Rattle.run_combinations.specs.Search.{PrefixLists, initial_prefix}
use Rattle.store_orders.specs.Combinations.{CombinationLists, ordered}
use Rattle.run_combinations.specs.ReadChoices.{AreReadChoices, accesses_in}
use Rattle.store_orders.specs.declared.combination.Event.{Event}

-- a filter that keeps nothing keeps nothing of what is less
none_of_less : {X : Type 0} (P Q : X → Type 0) → ((x : X) → Q x → P x) → (xs : List X)
    → IsFiltered P xs [] → IsFiltered Q xs []
none_of_less P Q less [] none = none
none_of_less P Q less (x ∷ xs) (left fails f) =
    left (λ q. fails (less x q)) (none_of_less P Q less xs f)

-- these events alone, and no needs
abbrev events_alone : List Event → PrefixLists
events_alone es = record {
  combination =
      record { events = es; dependencies = no_dependencies; runs = []; reads_from = []; orders = [] };
  needs = [];
  faulted = false;
}

-- a read choice that has no cycle with these needs
abbrev Reading : List Event → (ℕ → ℕ → Type 0) → List ℕ → Type 0
Reading es Need reads_from =
    AllZip (MayRead es) (loads es) reads_from × IsAcyclic (Union Need (ReadsFrom (loads es) reads_from))

no_need : (es : List Event) (a b : ℕ) → (accesses_in es []).Need a b → ⊥
no_need es a b n = let c : Contains [] (a, b) = n.0 in omega (arith, c.1)

-- runs with a load that no store serves have no execution
pub none_executed : (initial : List Value) (threads : List Thread) (V : List Value) (rs : List Run)
    → AllZip (λ t r. IsThreadRun t (Contains V) r) threads rs → CannotRead (events initial rs)
    → IsFiltered (IsExecution initial threads (Contains V)) (over_runs initial rs) []
none_executed initial threads V rs are stuck =
    filter_of_product (Reading (events initial rs) (IsDependency IsNeed initial rs))
    (AllZip (IsStoreOrder (events initial rs)) (locations_from 0 initial))
    (IsExecution initial threads (Contains V)) (executed_so initial rs)
    (λ reads_from coherence. (
      (λ x. ((x.reads, x.acyclic), x.orders)),
      (λ p. record { runs = are; reads = p.0.0; orders = p.1; acyclic = p.0.1 }),
    ))
    (read_choices (events initial rs)) [] (orders (events initial rs) initial)
    (product (orders_at (events initial rs) initial))
    (none_of_less (Reading (events initial rs) (accesses_in (events initial rs) []).Need)
    (Reading (events initial rs) (IsDependency IsNeed initial rs))
    (λ reads_from h. (
      h.0,
      acyclic_as
          (Union (accesses_in (events initial rs) []).Need
          (ReadsFrom (loads (events initial rs)) reads_from))
          (Union (IsDependency IsNeed initial rs)
          (ReadsFrom (loads (events initial rs)) reads_from))
          (λ a b u. elim u [
            | inl n ↦ absurd (no_need (events initial rs) a b n)
            | inr y ↦ inr
                y
          ]) h.1,
    ))
    (read_choices (events initial rs)) (reads_found (events initial rs) []
    (accesses_in (events initial rs) []).Need (λ a b n. n) (λ a b n. n) []
    (no_read_choices stuck.0 stuck.1 (events_alone (events initial rs)) (stuck.2, stuck.3))))
    (orders_filtered initial rs)

-- one combination of runs, with its read choices, and the executions that these make with the
-- orders of the stores
pub record IsListed (n : ℕ) (initial : List Value) (threads : List Thread) (V : List Value)
    (ts : List ThreadParts) (b : PrefixLists) (rs : List Run) : Type 0 where
  pub made : List made.Run
  pub one : AreOne V threads made rs
  pub goes : GoesOnWith 0 (initial_prefix (initial_stores 0 initial)) ts made b
  pub few : length b.combination.events ≤ 128
  pub events : b.combination.events ≡ events initial rs

-- the executions are those of these combinations, one after another: each read choice with each
-- order of the stores
pub data AreListed (n : ℕ) (initial : List Value) (threads : List Thread) (V : List Value)
    (ts : List ThreadParts)
    : List PrefixLists → List CombinationLists → List Execution → Type 0 where
  no_more : AreListed n initial threads V ts [] [] []
  one_more : {b : PrefixLists} {bs : List PrefixLists} {cs : List CombinationLists}
      {xs : List Execution} {reads_from : List ℕ} {choices : List (List ℕ)} (rs : List Run)
      → IsListed n initial threads V ts b rs → AreReadChoices b.combination.events b.needs (reads_from ∷ choices)
      → AreListed n initial threads V ts bs cs xs
      → AreListed n initial threads V ts (b ∷ bs)
      (ordered n (record b.combination { reads_from = reads_from ∷ choices }) ∷ cs) (flat_map
      (λ w. map (executed_so initial rs w)
      (product (orders_at (events initial rs) initial)))
      (reads_from ∷ choices) ++ xs)
  not_one : {b : PrefixLists} {bs : List PrefixLists} {cs : List CombinationLists}
      {xs : List Execution} → AreReadChoices b.combination.events b.needs []
      → AreListed n initial threads V ts bs cs xs → AreListed n initial threads V ts (b ∷ bs) cs xs

-- all executions
pub record Listing (n : ℕ) (initial : List Value) (threads : List Thread) (V : List Value)
    (ts : List ThreadParts) (bs : List PrefixLists) (cs : List CombinationLists)
    (rss : List (List Run)) : Type 0 where
  pub all : List Execution
  pub executions : IsFiltered (IsExecution initial threads (Contains V))
      (flat_map (over_runs initial) rss) all
  pub listed : AreListed n initial threads V ts bs cs all

module _ (n : ℕ) (initial : List Value) (threads : List Thread) (V : List Value)
    (ts : List ThreadParts) where
  one_listed : (ms : List made.Run) (rs : List Run) (b : PrefixLists) → AreOne V threads ms rs
      → GoesOnWith 0 (initial_prefix (initial_stores 0 initial)) ts ms b → length b.combination.events ≤ 128
      → IsListed n initial threads V ts b rs
  one_listed ms rs b one g few = record {
    made = ms;
    one = one;
    goes = g;
    few = few;
    events =
        events_are 0 (initial_prefix (initial_stores 0 initial)) b ts ms g
        ∙ ap (λ (l : List Event). initial_stores 0 initial ++ l)
        (same_events V threads 0 ms rs one);
  }

  executions_of : (b : PrefixLists) (rs : List Run) (choices : List (List ℕ))
      → IsListed n initial threads V ts b rs → AreReadChoices b.combination.events b.needs choices
      → IsFiltered (IsExecution initial threads (Contains V)) (over_runs initial rs)
      (flat_map
      (λ w.
      map (executed_so initial rs w) (product (orders_at (events initial rs) initial)))
      choices)
  executions_of b rs choices i are =
      executions_found initial rs threads V b.needs (one_run_each V threads i.made rs i.one)
      (λ x y. (needs_are V threads ts i.made rs initial b i.one i.goes i.few x y).0)
      (λ x y. (needs_are V threads ts i.made rs initial b i.one i.goes i.few x y).1) choices
      (subst (λ (l : List Event). AreReadChoices l b.needs choices) i.events are)

  pub all_listed : (mss : List (List made.Run)) (rss : List (List Run)) (bs : List PrefixLists)
      (cs : List CombinationLists) → AllZip (AreOne V threads) mss rss
      → AreChoices 0 (initial_prefix (initial_stores 0 initial)) ts mss bs → AreSmall bs
      → AreCombinations n bs cs → Listing n initial threads V ts bs cs rss
  all_listed [] [] bs cs same over small nothing_left =
      record { all = []; executions = none; listed = no_more }
  all_listed [] (rs ∷ rss) bs cs same h small k = absurd same
  all_listed (ms ∷ mss) [] bs cs same h small k = absurd same
  all_listed (ms ∷ mss) (rs ∷ rss) bs cs same (skipped stuck h) small k =
      let rest : Listing n initial threads V ts bs cs rss = all_listed mss rss bs cs same.1 h small k in
      record {
        all = rest.all;
        executions =
            IsFiltered-append (IsExecution initial threads (Contains V)) (over_runs initial rs) []
            (flat_map (over_runs initial) rss) rest.all
            (none_executed initial threads V rs (one_run_each V threads ms rs same.0)
            (subst (λ (es : List Event). CannotRead (initial_stores 0 initial ++ es))
            (same_events V threads 0 ms rs same.0) stuck)) rest.executions;
        listed = rest.listed;
      }
  all_listed (ms ∷ mss) (rs ∷ rss) (b ∷ bs) cs same (next g h) small
      (with_read_choices {cs = ds} {reads_from = reads_from} {read_choices = choices} are k) =
      let rest : Listing n initial threads V ts bs ds rss = all_listed mss rss bs ds same.1 h small.1 k in
      let i : IsListed n initial threads V ts b rs = one_listed ms rs b same.0 g small.0 in
      let own : List Execution = flat_map (λ w. map (executed_so initial rs w) (product (orders_at (events initial rs) initial))) (reads_from ∷ choices) in
      record {
        all = own ++ rest.all;
        executions =
            IsFiltered-append (IsExecution initial threads (Contains V)) (over_runs initial rs) own
            (flat_map (over_runs initial) rss) rest.all (executions_of b rs (reads_from ∷ choices) i are)
            rest.executions;
        listed = one_more rs i are rest.listed;
      }
  all_listed (ms ∷ mss) (rs ∷ rss) (b ∷ bs) cs same (next g h) small (without are k) =
      let rest : Listing n initial threads V ts bs cs rss = all_listed mss rss bs cs same.1 h small.1 k in
      record {
        all = rest.all;
        executions =
            IsFiltered-append (IsExecution initial threads (Contains V)) (over_runs initial rs) []
            (flat_map (over_runs initial) rss) rest.all
            (executions_of b rs [] (one_listed ms rs b same.0 g small.0) are) rest.executions;
        listed = not_one are rest.listed;
      }
