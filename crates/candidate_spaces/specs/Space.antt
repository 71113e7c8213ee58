-- The candidates of a space, as a list.
use Rattle.std.specs.Prelude.{Vec, ℕ, ◌≡◌, List, length, map, replicate, slice_index_or, slice_get, Some}
use Rattle.std.specs.List.{flat_map, zip}
use Rattle.std.specs.declared.alloc.Global.{Global}
use Rattle.thread_runs.specs.declared.value.Value.{Value}
use Rattle.thread_runs.specs.declared.value.Value.TheVariants.{NoValue}
use Rattle.taints.specs.DependencyLists.{DependencyLists, dependency_lists}
use Rattle.store_orders.specs.Combinations.{candidates_of}
use Rattle.store_orders.specs.declared.combination.Event.{Event}
use Rattle.store_orders.specs.declared.combination.Combination.{Combination}
use Rattle.candidate_spaces.specs.declared.execution.Execution.{Execution}
use Rattle.candidate_spaces.specs.declared.candidate.Space.{Space}

-- one candidate: a combination of runs, the store that each load reads, and the order of the stores
abbrev pub Candidate : Type 0
Candidate = Combination × (List ℕ × List ℕ)

-- those of combinations after one another, each with its combination
abbrev pub candidates_in : List Combination → List Candidate
candidates_in cs = flat_map (λ c. map (λ t. (c, t)) (candidates_of c)) cs

-- what the registers of each thread hold at the end of its run; no values where there is no such
-- run
abbrev pub end_at : List (List Value) → ℕ → List Value
end_at ends run = slice_index_or ends run (replicate 32 NoValue)

abbrev pub registers_at : List (Vec (List Value) Global) → List ℕ → List (List Value)
registers_at threads runs = map (λ p. end_at p.0.items p.1) (zip threads runs)

-- the execution is this candidate of the combination, where each thread has runs with these
-- registers at their ends
pub record IsCandidateOf (threads : List (Vec (List Value) Global)) (c : Combination)
    (t : List ℕ × List ℕ) (e : Execution) : Type 0 where
  pub events : e.events.items ≡ c.events.items
  pub dependencies : dependency_lists e.dependencies ≡ dependency_lists c.dependencies
  pub reads_from : e.reads_from.items ≡ t.0
  pub coherence : e.coherence.items ≡ t.1
  pub registers : e.registers.items ≡ registers_at threads c.runs.items

-- what an execution shows, as plain data
pub record Shown : Type 0 where
  pub events : List Event
  pub dependencies : DependencyLists
  pub reads_from : List ℕ
  pub coherence : List ℕ
  pub registers : List (List Value)

abbrev pub shown_by : Execution → Shown
shown_by e = record {
  events = e.events.items;
  dependencies = dependency_lists e.dependencies;
  reads_from = e.reads_from.items;
  coherence = e.coherence.items;
  registers = e.registers.items;
}

-- what a candidate shows, where each thread has runs with these registers at their ends
abbrev pub shown_of : List (Vec (List Value) Global) → Candidate → Shown
shown_of threads x = record {
  events = x.0.events.items;
  dependencies = dependency_lists x.0.dependencies;
  reads_from = x.1.0;
  coherence = x.1.1;
  registers = registers_at threads x.0.runs.items;
}

-- what the candidates of a space show, in order
abbrev pub shown_in : Space → List Shown
shown_in s = map (shown_of s.registers.items) (candidates_in s.combinations.items)

-- the execution shows what the candidate at this index does
abbrev pub IsShownAt : Space → ℕ → Execution → Type 0
IsShownAt s index e = slice_get (shown_in s) index ≡ Some (shown_by e)

-- two spaces show the same: locations of the same names, and candidates that show the same, in the
-- same order
abbrev pub ShowTheSame : Space → Space → Type 0
ShowTheSame r s = (r.locations.items ≡ s.locations.items) × (shown_in r ≡ shown_in s)

-- how many candidates the space has
abbrev pub candidate_count : Space → ℕ
candidate_count s = length (candidates_in s.combinations.items)
