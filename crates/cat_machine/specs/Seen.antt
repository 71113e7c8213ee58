-- What contracts see of the predefined names of an item in one candidate.
use Rattle.std.specs.Prelude.{ℕ, ◌≡◌, ◌⊎◌, ◌+◌, ◌++◌, zero, suc, Option, Some, None, List, [], ◌∷◌, length, map, slice_get}
use denote.Ref.{Bor}
use Rattle.bit_rows.specs.Relation.{Relation, Events, Has}
use Rattle.predefined_names.specs.declared.predefined.Predefined.{Predefined}
use Rattle.base_names.specs.Known.{EventsFound}
use Rattle.candidate_spaces.specs.Space.{Candidate}
use Rattle.cat_machine.specs.declared.column.Column.{Column}
use Rattle.cat_machine.specs.declared.column.Column.TheVariants as columns
use Rattle.cat_machine.specs.declared.seen.NamedColumn.{NamedColumn}

-- the pairs of a relation that was found, if it is one of n events
abbrev pub PairsFound : Option Relation → ℕ → ℕ → ℕ → Type 0
PairsFound None n a b = ⊥
PairsFound (Some r) n a b = (r.count ≡ n) × Has r a b

-- what a column has for a candidate: a set, a relation or nothing
abbrev pub set_of : Column → ℕ → Option Events
set_of (columns.Sets values) k = slice_get values k
set_of (columns.Relations values) k = None

abbrev pub relation_of : Column → ℕ → Option Relation
relation_of (columns.Sets values) k = None
relation_of (columns.Relations values) k = slice_get values k

-- a name, and what stands under it
pub record NamedValue : Type 0 where
  pub name : Predefined
  pub events : Option Events
  pub pairs : Option Relation

abbrev pub value_at : ℕ → NamedColumn → NamedValue
value_at k named =
    record {
      name = named.name;
      events = set_of named.column.now k;
      pairs = relation_of named.column.now k;
    }

-- the number of events, and what stands under the names
pub record NamedValues : Type 0 where
  pub count : ℕ
  pub values : List NamedValue

-- the events of the first value of this name, if it is a set of n events
abbrev pub EventsAmong : List NamedValue → Predefined → ℕ → ℕ → Type 0
EventsAmong [] name n a = ⊥
EventsAmong (x ∷ xs) name n a =
    ((x.name ≡ name) × EventsFound x.events n a) ⊎ ((x.name ≡ name → ⊥) × EventsAmong xs name n a)

-- its pairs, if it is a relation of n events
abbrev pub PairsAmong : List NamedValue → Predefined → ℕ → ℕ → ℕ → Type 0
PairsAmong [] name n a b = ⊥
PairsAmong (x ∷ xs) name n a b =
    ((x.name ≡ name) × PairsFound x.pairs n a b) ⊎ ((x.name ≡ name → ⊥) × PairsAmong xs name n a b)

abbrev pub EventsNamedBy : NamedValues → Predefined → ℕ → Type 0
EventsNamedBy known name = EventsAmong known.values name known.count

abbrev pub PairsNamedBy : NamedValues → Predefined → ℕ → ℕ → Type 0
PairsNamedBy known name = PairsAmong known.values name known.count

abbrev pub columns_of : List NamedColumn → List (Bor Column)
columns_of xs = map (λ x. x.column) xs

-- what is seen of the names in the candidate of number k, of n events
abbrev pub values_seen : List NamedColumn → ℕ → ℕ → NamedValues
values_seen xs k n = record { count = n; values = map (value_at k) xs }

-- in so many candidates of n events, the first of number k
abbrev pub seen_run : List NamedColumn → ℕ → ℕ → ℕ → List NamedValues
seen_run xs k n zero = []
seen_run xs k n (suc m) = seen_run xs k n m ++ values_seen xs (k + m) n ∷ []

-- in each of these candidates, the first of number k
abbrev pub seen_in : List NamedColumn → ℕ → List Candidate → List NamedValues
seen_in xs k [] = []
seen_in xs k (one ∷ rest) = values_seen xs k (length one.0.events.items) ∷ seen_in xs (k + 1) rest
