-- The laws of walks: `laws` states `HasWalks` and `HasOneFirstWalk`. Read Values and Walks first,
-- and `MeansRelation` of cat_eval.
use Rattle.std.specs.Prelude.{ℕ, ◌≡◌, List, [], slice_get, Some}
use denote.Ref.{Bor}
use Rattle.binding_graph.specs.declared.resolved.Code.{Code}
use Rattle.binding_graph.specs.Trees.{RelTree, rel_code}
use Rattle.candidate_spaces.specs.declared.candidate.Space.{Space}
use Rattle.candidate_spaces.specs.Space.{candidates_in, Candidate}
use Rattle.cat_machine.specs.declared.column.Column.{Column}
use Rattle.cat_machine.specs.Executions.{events_of, EventsAt, PairsAt}
use Rattle.cat_machine.specs.Meaning.{MeansRelation}
use Rattle.cat_machine.specs.Named.{WithOwn, OwnPairs}
use Rattle.why_walks.specs.declared.run.Link.{Link}
use Rattle.why_walks.specs.declared.value.FactorValues.{FactorValues}
use Rattle.why_walks.specs.Values.{AreFactorValues, AreLinksAt}
use Rattle.why_walks.specs.Walks.{IsFirstWalk, IsWalk}

-- the pairs of an expression in the candidate of number k
abbrev pub PairsIn : List (Bor Column) → ℕ → Candidate → RelTree → ℕ → ℕ → Type 0
PairsIn inputs k one t =
    MeansRelation (events_of one) (EventsAt (events_of one) one inputs k)
    (WithOwn (PairsAt (events_of one) one inputs k) (OwnPairs (events_of one) [])) t

-- a walk through the factors from the one event to the other
abbrev pub IsWalked : ℕ → List FactorValues → ℕ → ℕ → Type 0
IsWalked k factors a b =
    (links : List Link) × (runs : List (List ℕ)) × AreLinksAt k factors links
    × IsWalk links a runs b

-- wherever an expression relates two events in a candidate there is a walk through its factors
abbrev pub HasWalks : Code → Space → List FactorValues → Type 0
HasWalks code space factors =
    (inputs : List (Bor Column)) → AreFactorValues code inputs space factors → (t : RelTree)
    → code.steps.items ≡ rel_code t []
    → (k : ℕ) (one : Candidate) → slice_get (candidates_in space.combinations.items) k ≡ Some one
    → (a b : ℕ) → PairsIn inputs k one t a b → IsWalked k factors a b

-- of the walks through the links from an event to another at most one is the first
abbrev pub HasOneFirstWalk : List Link → Type 0
HasOneFirstWalk links =
    (a b : ℕ) (runs others : List (List ℕ)) → IsFirstWalk links a runs b
    → IsFirstWalk links a others b → runs ≡ others
