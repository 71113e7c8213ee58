-- Combinations of runs, and what is found of them.
use Rattle.std.specs.Prelude.{ℕ, ◌≡◌, ◌<◌, ◌≤◌, ◌+◌, ◌-◌, ◌*◌, ◌^◌, ◌⊎◌, ◌↔◌, min, List, [], ◌∷◌, ◌++◌, map, length, Bool, true, false, ◌||◌, if◌then◌else◌}
use Rattle.std.specs.List.{flat_map}
use Rattle.taints.specs.DependencyLists.{dependency_lists, link_lists, no_dependencies, renumbered_pairs, with_dependencies}
use Rattle.run_combinations.specs.Keys.{HasKey}
use Rattle.store_orders.specs.Orders.{all_orders, AreInitialStoresApart}
use Rattle.run_combinations.specs.ReadChoices.{AreReadChoices}
use Rattle.store_orders.specs.Combinations.{CombinationLists, combination_lists}
use Rattle.store_orders.specs.declared.combination.Event.{Event}
use Rattle.run_combinations.specs.declared.part.Part.{Part}
use Rattle.run_combinations.specs.declared.layout.Layout.{Layout}
use Rattle.run_combinations.specs.declared.layout.ThreadParts.{ThreadParts}
use Rattle.run_combinations.specs.declared.search.Prefix.{Prefix}
use Rattle.run_combinations.specs.declared.search.PrefixRuns.{PrefixRuns}
use Rattle.run_combinations.specs.declared.search.Found.{Found}

-- one run of each of the first threads: their events and dependencies, which loads the stores need,
-- and whether one of them stopped at a fault
pub record PrefixLists : Type 0 where
  pub combination : CombinationLists
  pub needs : List (ℕ × ℕ)
  pub faulted : Bool

-- the runs of the first threads as a combination without read choices and without orders
abbrev pub runs_lists : PrefixRuns → CombinationLists
runs_lists p = record {
  events = p.events.items;
  dependencies = dependency_lists p.dependencies;
  runs = p.runs.items;
  reads_from = [];
  orders = [];
}

-- the same with a run of the next thread, which has this index among its runs
abbrev pub combination_with_run : ℕ → Part → CombinationLists → CombinationLists
combination_with_run run p s = record s {
  events = s.events ++ p.events.items;
  dependencies =
      with_dependencies (length s.events) (link_lists p.links) s.dependencies;
  runs = s.runs ++ run ∷ [];
}

abbrev pub with_run : ℕ → Part → PrefixLists → PrefixLists
with_run run p b = record {
  combination = combination_with_run run p b.combination;
  needs = b.needs ++ renumbered_pairs (length b.combination.events) p.links.need_pairs.items;
  faulted = b.faulted || p.is_faulted;
}

-- the prefix as plain data
abbrev pub prefix_lists : Prefix → PrefixLists
prefix_lists f =
    record { combination = runs_lists f.runs; needs = f.needs.items; faulted = f.is_faulted }

-- the sets of the one prefix are those of the other with a run more
abbrev pub HasJoined : Prefix → Part → Prefix → Type 0
HasJoined f p g =
    ((a b : ℕ) → HasKey g.loads a b ↔ (HasKey f.loads a b ⊎ HasKey p.loads a b))
    × ((a b : ℕ) → HasKey g.stores a b ↔ (HasKey f.stores a b ⊎ HasKey p.stores a b))

-- what has been found: the combinations, with their read choices and without their orders, how many
-- candidates they have, and whether some candidate holds a run that stopped at a fault
pub record Tally : Type 0 where
  pub kept : List CombinationLists
  pub count : ℕ
  pub faulted : Bool

abbrev pub tally : Found → Tally
tally f =
    record {
      kept = map combination_lists f.combinations.items;
      count = f.count;
      faulted = f.is_faulted;
    }

-- what has been found with one combination more, where these are its read choices and it has so
-- many orders; none is kept any more once there is a fault
abbrev pub capped_tally_with : PrefixLists → List (List ℕ) → ℕ → Tally → Tally
capped_tally_with b [] orders t = t
capped_tally_with b (reads_from ∷ read_choices) orders t = record {
  kept =
      if t.faulted || b.faulted then t.kept
      else t.kept ++ record b.combination { reads_from = reads_from ∷ read_choices } ∷ [];
  count =
      min (t.count + min (length (reads_from ∷ read_choices) * orders) (2 ^ 64 - 1)) (2 ^ 64 - 1);
  faulted = t.faulted || b.faulted;
}

abbrev pub tally_with : ℕ → PrefixLists → List (List ℕ) → Tally → Tally
tally_with n b [] t = t
tally_with n b (reads_from ∷ read_choices) t = record {
  kept =
      if t.faulted || b.faulted then t.kept
      else t.kept ++ record b.combination { reads_from = reads_from ∷ read_choices } ∷ [];
  count = t.count + length (reads_from ∷ read_choices) * length (all_orders b.combination.events n);
  faulted = t.faulted || b.faulted;
}

-- there are at most 128 events, and the initial stores are no stores of threads
pub record PrefixFits (n : ℕ) (b : PrefixLists) : Type 0 where
  pub few : length b.combination.events ≤ 128
  pub apart : AreInitialStoresApart b.combination.events n

-- one combination more
abbrev pub TalliesOneMore : ℕ → PrefixLists → Tally → Tally → Type 0
TalliesOneMore n b old new =
    (read_choices : List (List ℕ)) × AreReadChoices b.combination.events b.needs read_choices
    × (new ≡ tally_with n b read_choices old)

-- with its candidates there are too many
abbrev pub ExceedsCandidates : ℕ → PrefixLists → Tally → Type 0
ExceedsCandidates n b old =
    (read_choices : List (List ℕ)) → AreReadChoices b.combination.events b.needs read_choices
    → 16384 < old.count + length read_choices * length (all_orders b.combination.events n)

-- the first fact where the answer is yes, else the second
abbrev pub Tells : Bool → Type 0 → Type 0 → Type 0
Tells true P Q = P
Tells false P Q = Q

-- each run of a thread with its index among them
abbrev pub with_indices : ℕ → List Part → List (ℕ × Part)
with_indices at [] = []
with_indices at (p ∷ ps) = (at, p) ∷ with_indices (at + 1) ps

-- the combinations that go on with a run of each of the threads, in lexicographic order
abbrev pub combinations : PrefixLists → List ThreadParts → List PrefixLists
combinations b [] = b ∷ []
combinations b (t ∷ ts) =
    flat_map (λ r. combinations (with_run r.0 r.1 b) ts) (with_indices 0 t.parts.items)

abbrev pub AllPrefixesFit : ℕ → List PrefixLists → Type 0
AllPrefixesFit n [] = Unit {0}
AllPrefixesFit n (b ∷ bs) = PrefixFits n b × AllPrefixesFit n bs

-- the combinations, one after another
pub data TalliesAll (n : ℕ) : List PrefixLists → Tally → Tally → Type 0 where
  none : {t : Tally} → TalliesAll n [] t t
  more : {b : PrefixLists} {bs : List PrefixLists} {t u v : Tally} → TalliesOneMore n b t u
      → TalliesAll n bs u v → TalliesAll n (b ∷ bs) t v

-- with one of them there are too many candidates
pub data AreTooMuch (n : ℕ) : List PrefixLists → Tally → Type 0 where
  now : {b : PrefixLists} {bs : List PrefixLists} {t : Tally} → ExceedsCandidates n b t
      → AreTooMuch n (b ∷ bs) t
  later : {b : PrefixLists} {bs : List PrefixLists} {t u : Tally} → TalliesOneMore n b t u
      → AreTooMuch n bs u → AreTooMuch n (b ∷ bs) t

-- the initial stores alone, and nothing found
abbrev pub initial_prefix : List Event → PrefixLists
initial_prefix initial = record {
  combination =
      record {
        events = initial;
        dependencies = no_dependencies;
        runs = [];
        reads_from = [];
        orders = [];
      };
  needs = [];
  faulted = false;
}

abbrev pub no_tally : Tally
no_tally = record { kept = []; count = 0; faulted = false }

-- the combinations of a layout
abbrev pub all_combinations : Layout → List PrefixLists
all_combinations l = combinations (initial_prefix l.initial.items) l.threads.items

-- how many locations have orders of stores
abbrev pub location_count : Layout → ℕ
location_count l = min (length l.initial.items) 128
