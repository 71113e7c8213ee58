-- What the names of a scope are bound to, as the definitions say it. Read next: Groups.
use Rattle.std.specs.Prelude.{ℕ, zero, suc, List, [], ◌∷◌, length, map, Bool, true, false, bytes_eq, Option, Some, None, slice_get}
use Rattle.text_values.specs.declared.model.Item.{Item}
use Rattle.text_values.specs.declared.model.Item.TheVariants as items
use Rattle.text_values.specs.ModelValue.{Term}
use Rattle.text_values.specs.ModelValues.{term_of}
use Rattle.meaning.specs.Sets as sets
use Rattle.meaning.specs.Names.{Name}
use Rattle.meaning.specs.Cat as cat
use Rattle.meaning.specs.Cat.{Meaning, Names, ToMeaning, ToFunction, ToNothing, meaning_of, with_arguments}
use Rattle.plain_models.specs.declared.value.Value.{Value}
use Rattle.plain_models.specs.declared.scope.Bound.{Bound}
use Rattle.plain_models.specs.declared.scope.Bound.TheVariants as bounds
use Rattle.plain_models.specs.declared.scope.Named.{Named}
use Rattle.plain_models.specs.Values.{meaning_as}

-- what the values mean
abbrev pub meanings_as : List Value → List (Meaning ℕ)
meanings_as [] = []
meanings_as (v ∷ vs) = meaning_as v ∷ meanings_as vs

-- a function with these parameters and this body, where the names before it are bound so
abbrev pub function_with : sets.Set ℕ → Names ℕ → List Name → Term → cat.Bound ℕ
function_with all names ps body =
    ToFunction (length ps) (λ ms. meaning_of all (with_arguments ps ms names) body)

-- what an item that binds a function binds it to, likewise
abbrev pub function_of : sets.Set ℕ → Names ℕ → Option Item → cat.Bound ℕ
function_of all names (Some (items.Function name parameters body)) =
    function_with all names parameters.items (term_of body)
function_of all names _ = ToNothing

-- what a name is bound to, likewise
abbrev pub bound_as : sets.Set ℕ → List Item → Names ℕ → Bound → cat.Bound ℕ
bound_as all is names (bounds.Value v) = ToMeaning (meaning_as v)
bound_as all is names (bounds.Function i) = function_of all names (slice_get is i)

-- the names with those of the list, the latest last
abbrev pub with_named : sets.Set ℕ → List Item → List Named → Names ℕ → Names ℕ
with_named all is [] names = names
with_named all is (b ∷ bs) names =
    with_named all is bs ((b.name, bound_as all is names b.bound) ∷ names)

-- what the name at the index is bound to
abbrev pub bound_at : sets.Set ℕ → List Item → Names ℕ → List Named → ℕ → cat.Bound ℕ
bound_at all is names [] i = ToNothing
bound_at all is names (b ∷ bs) zero = bound_as all is names b.bound
bound_at all is names (b ∷ bs) (suc i) =
    bound_at all is ((b.name, bound_as all is names b.bound) ∷ names) bs i

-- the names of a scope: those of earlier items, and then the parameters with their values
abbrev pub names_in : sets.Set ℕ → List Item → List Named → List Name → List Value → Names ℕ
names_in all is outer names values =
    with_arguments names (meanings_as values) (with_named all is outer [])

abbrev pub named_name : Named → Name
named_name b = b.name

-- an index, one further; without one 0, if the test is true
abbrev pub index_behind : Bool → Option ℕ → Option ℕ
index_behind is (Some i) = Some (suc i)
index_behind true None = Some 0
index_behind false None = None

-- the index of the latest name of the list that is this one
abbrev pub latest_index : Name → List Name → Option ℕ
latest_index n [] = None
latest_index n (m ∷ ms) = index_behind (bytes_eq m n) (latest_index n ms)

-- the second index, where the first is none
abbrev pub index_behind_none : Option ℕ → Option ℕ → Option ℕ
index_behind_none None found = found
index_behind_none (Some i) found = None

-- the index of the latest earlier name that is this one, where no later name is
abbrev pub applied_index_of : List Named → List Name → Name → Option ℕ
applied_index_of outer names n =
    index_behind_none (latest_index n names) (latest_index n (map named_name outer))
