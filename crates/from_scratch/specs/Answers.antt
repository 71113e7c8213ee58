-- What the items of a model give over the candidates of a space. The items are listed the latest
-- first: an item's number is the number of those behind it, and it uses names of these alone.
use Rattle.std.specs.Prelude.{◌≡◌, ℕ, ◌<◌, ◌⊎◌, List, [], ◌∷◌, ◌++◌, length, reverse, Bool, true, false, Option, Some, None, slice_get, slice_index_or}
use Rattle.std.specs.List.{AllZip, AllByRecursion}
use denote.Ref.{Bor}
use Rattle.binding_kinds.specs.declared.scope.Input.{Input}
use Rattle.bit_rows.specs.Relation.{Relation, Events, no_slot}
use Rattle.binding_graph.specs.declared.resolved.Body.{Body}
use Rattle.binding_graph.specs.declared.resolved.ResolvedItem.{ResolvedItem}
use Rattle.binding_graph.specs.declared.resolved.Role.{Role}
use Rattle.binding_graph.specs.declared.resolved.Role.TheVariants as roles
use Rattle.binding_graph.specs.Trees.{RelTree}
use Rattle.candidate_spaces.specs.declared.candidate.Space.{Space}
use Rattle.candidate_spaces.specs.Space.{candidates_in, Candidate}
use Rattle.cat_machine.specs.declared.column.Column.{Column}
use Rattle.cat_machine.specs.Columns.{ColumnsOf, HasColumnValue}
use Rattle.cat_machine.specs.Executions.{events_of, EventsAt, PairsAt}
use Rattle.cat_machine.specs.Least.{IsLeast, AreMonotone}
use Rattle.cat_machine.specs.Rising.{AreCodes}
use Rattle.cat_machine.specs.Values.{AnswersOf}
use Rattle.cat_eval.specs.Candidates.{name_count}
use Rattle.outcome_states.specs.Kept.{Flag}

-- the columns of a name of some item: those at its position among the columns of the item
abbrev pub IsNamed : (ℕ → List Column → Type 0) → Input → Bor Column → Type 0
IsNamed Values name c =
    (cs : List Column) × Values name.item cs × (slice_get cs name.position ≡ Some c.now)

-- the columns of the names that an item uses, in its order
abbrev pub AreNamed : (ℕ → List Column → Type 0) → List Input → List (Bor Column) → Type 0
AreNamed Values names inputs = AllZip (IsNamed Values) names inputs

-- The bodies of a recursive group are the steps of trees, and its names have the least values that
-- satisfy their equations, in each of the candidates.
abbrev pub AreLeast : Bool → List Body → List (Bor Column) → List Candidate → List Column → Type 0
AreLeast false bodies inputs candidates cs = Unit {0}
AreLeast true bodies inputs candidates cs =
    (trees : List RelTree) × AreCodes trees bodies
    × ((k : ℕ) (one : Candidate) → slice_get candidates k ≡ Some one
    → (values : List Relation)
    × IsLeast (events_of one) (EventsAt (events_of one) one inputs k)
    (PairsAt (events_of one) one inputs k) trees values
    × ((j : ℕ) → j < length bodies → (c : Column)
    → (s : Events)
    × HasColumnValue (slice_index_or cs j c) k s (slice_index_or values j no_slot)))

abbrev pub LeastOf : Role → List (Bor Column) → Space → List Column → Type 0
LeastOf (roles.Group recursive bodies) inputs space cs =
    AreLeast recursive bodies.items inputs (candidates_in space.combinations.items) cs
LeastOf (roles.Check check) inputs space cs = Unit {0}
LeastOf roles.Silent inputs space cs = Unit {0}

-- the columns of the names of an item, from those of the names that it uses
abbrev pub HasColumns : Space → (ℕ → List Column → Type 0) → ResolvedItem → List Column → Type 0
HasColumns space Values r cs =
    (inputs : List (Bor Column)) × AreNamed Values r.inputs.items inputs
    × ColumnsOf r.role inputs space cs × LeastOf r.role inputs space cs

-- the answers of a check or a flag, likewise
abbrev pub HasAnswers : Space → (ℕ → List Column → Type 0) → ResolvedItem → List Bool → Type 0
HasAnswers space Values r answers =
    (inputs : List (Bor Column)) × AreNamed Values r.inputs.items inputs
    × AnswersOf r.role inputs space answers

-- the columns of the names of the item of that number
abbrev pub AreItemColumns : Space → List ResolvedItem → ℕ → List Column → Type 0
AreItemColumns space [] i cs = ⊥
AreItemColumns space (r ∷ rs) i cs =
    ((i ≡ length rs) × HasColumns space (λ j ds. AreItemColumns space rs j ds) r cs)
    ⊎ AreItemColumns space rs i cs

-- what the checks and what the flags say after those before, of a check or a flag with these
-- answers
abbrev pub IsSaidAs : Option (List ℕ) → (List Bool → Type 0)
    → (List (List Bool) → List Flag → Type 0) → List (List Bool) → List Flag → Type 0
IsSaidAs None Answers Before checks flags =
    (first : List (List Bool)) × (last : List Bool) × (checks ≡ first ++ last ∷ []) × Answers last
    × Before first flags
IsSaidAs (Some name) Answers Before checks flags =
    (first : List Flag) × (last : List Bool) × (flags ≡ first ++ (name, last) ∷ []) × Answers last
    × Before checks first

-- likewise, of any item
abbrev pub IsSaidBy : Role → (List Bool → Type 0) → (List (List Bool) → List Flag → Type 0)
    → List (List Bool) → List Flag → Type 0
IsSaidBy (roles.Group recursive bodies) Answers Before checks flags = Before checks flags
IsSaidBy (roles.Check check) Answers Before checks flags =
    IsSaidAs check.flag Answers Before checks flags
IsSaidBy roles.Silent Answers Before checks flags = Before checks flags

-- the answers of the checks among the items and those of the flags, each in the order of the text
abbrev pub AreSaid : Space → List ResolvedItem → List (List Bool) → List Flag → Type 0
AreSaid space [] checks flags = (checks ≡ []) × (flags ≡ [])
AreSaid space (r ∷ rs) checks flags =
    IsSaidBy r.role (HasAnswers space (λ j ds. AreItemColumns space rs j ds) r)
    (λ cs fs. AreSaid space rs cs fs) checks flags

-- one of these items binds the name
abbrev pub IsBound : List ResolvedItem → Input → Type 0
IsBound [] name = ⊥
IsBound (r ∷ rs) name =
    ((name.item ≡ length rs) × (name.position < name_count r.role)) ⊎ IsBound rs name

-- each item uses names of earlier items alone
abbrev pub AreOrdered : List ResolvedItem → Type 0
AreOrdered [] = Unit {0}
AreOrdered (r ∷ rs) = AllByRecursion (IsBound rs) r.inputs.items × AreOrdered rs

-- the bodies of a recursive group are the steps of trees in which no name of the group stands right
-- of a difference or in a complement
abbrev pub AreRisingBodies : Bool → List Body → Type 0
AreRisingBodies false bodies = Unit {0}
AreRisingBodies true bodies = (trees : List RelTree) × AreCodes trees bodies × AreMonotone trees

abbrev pub IsRisingRole : Role → Type 0
IsRisingRole (roles.Group recursive bodies) = AreRisingBodies recursive bodies.items
IsRisingRole (roles.Check check) = Unit {0}
IsRisingRole roles.Silent = Unit {0}

-- each item uses names of earlier items alone, and the bodies of each recursive group rise
abbrev pub AreSoundItems : List ResolvedItem → Type 0
AreSoundItems items = AreOrdered (reverse items) × AllByRecursion (λ r. IsRisingRole r.role) items
