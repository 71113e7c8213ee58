-- The bodies of a recursive group without faults grow with what its names stand for.
use Rattle.std.specs.Prelude.{◌≡◌, List, [], ◌∷◌, ◌++◌, Contains, true}
use Rattle.text_values.specs.TestValue.{Content}
use Rattle.text_values.specs.ModelValue.{Term, Clause, Binding}
use Rattle.meaning.specs.Names.{Name}
use Rattle.meaning.specs.Executions.{Event, Execution, IsEvent}
use Rattle.meaning.specs.Cat.{Names, meaning_of, with_group, Choice, IsChosen}
use Rattle.meaning.specs.Faults.{faults}
use Rattle.meaning.specs.Evaluates.{outermost}
use Rattle.meaning.specs.Laws.{names_behind, Solves}
use Rattle.meaning_laws.specs.Inside.{IsInside}

-- The second choice has each pair that the first has.
abbrev pub IsChoiceInside : {E : Type 0} → Choice E → Choice E → Type 0
IsChoiceInside {E} c d = (n : Name) (a b : E) → IsChosen c n a b → IsChosen d n a b

-- the names in an execution behind items, where those of a group stand for a choice
abbrev pub names_where : Content → Execution → List Clause → List (Name × Term) → Choice Event
    → Names Event
names_where t x items group c =
    with_group (IsChosen c) group (names_behind (IsEvent t x) (outermost t x) items)

-- Where items with a recursive group behind them have no fault, its bodies mean no less where its
-- names stand for more, also through functions.
abbrev pub GroupsGrow : Type 0
GroupsGrow =
    (t : Content) (x : Execution) (items : List Clause) (group : List (Name × Term))
    → faults (items ++ Binding true group ∷ []) ≡ [] → (c d : Choice Event)
    → IsChoiceInside c d → (b : Name × Term) → Contains group b
    → IsInside (meaning_of (IsEvent t x) (names_where t x items group c) b.1)
    (meaning_of (IsEvent t x) (names_where t x items group d) b.1)

-- The least solution of such a group solves its equations, also where its names stand in arguments
-- of functions.
abbrev pub FaultlessGroupsAreSolved : Type 0
FaultlessGroupsAreSolved =
    (t : Content) (x : Execution) (items : List Clause) (group : List (Name × Term))
    → faults (items ++ Binding true group ∷ []) ≡ [] → Solves t x items group
