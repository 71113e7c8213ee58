-- What the names that an item sees stand for in a candidate: the columns have, for the candidate of
-- that number, what the definitions bind. Read next: ColumnLaws.
use Rattle.std.specs.Prelude.{ℕ, ◌≡◌, ◌<◌, List, [], ◌∷◌, length, nat_eq, if◌then◌else◌, Option, Some, None, slice_get}
use Rattle.predefined_names.specs.declared.predefined.Predefined.{Predefined}
use Rattle.predefined_names.specs.PredefinedNames.{is_set}
use Rattle.binding_kinds.specs.declared.kinds.Kind.{Kind}
use Rattle.binding_kinds.specs.declared.scope.Binder.{Binder}
use Rattle.binding_kinds.specs.declared.scope.Binder.TheVariants as binders
use Rattle.binding_kinds.specs.declared.scope.Input.{Input}
use Rattle.binding_kinds.specs.Value.{Naming}
use Rattle.binding_graph.specs.declared.resolved.ResolvedItem.{ResolvedItem}
use Rattle.candidate_spaces.specs.declared.candidate.Space.{Space}
use Rattle.candidate_spaces.specs.Space.{Candidate}
use Rattle.base_names.specs.Candidate.{SetIn, RelationIn}
use Rattle.cat_machine.specs.declared.column.Column.{Column}
use Rattle.cat_machine.specs.Executions.{events_of}
use Rattle.cat_machine.specs.Named.{ColumnEvents, ColumnPairs}
use Rattle.from_scratch.specs.Answers.{AreItemColumns}
use Rattle.meaning.specs.Cat.{Meaning, ASet, ARelation, Names, choice_of}
use Rattle.meaning_items.specs.Bound.{value_at}
use Rattle.meaning_items.specs.Alike.{IsAs}

-- the naming in a slot
abbrev pub naming_in : List Naming → ℕ → Option Naming
naming_in [] slot = None
naming_in (n ∷ ns) slot = if nat_eq slot (length ns) then Some n else naming_in ns slot

-- the values of predefined names in a candidate
abbrev pub candidate_value : Candidate → Predefined → Meaning ℕ
candidate_value one p =
    choice_of (is_set p) (ASet (SetIn one.0 (events_of one) p))
    (ARelation (RelationIn p (events_of one) one.0 one.1.0 one.1.1))

-- Each column of the name has that value for the candidate.
abbrev pub IsInputMeant : Space → List ResolvedItem → ℕ → Candidate → Kind → Meaning ℕ → Input
    → Type 0
IsInputMeant space rs k one kind m i =
    (cs : List Column) (c : Column) → AreItemColumns space rs i.item cs
    → slice_get cs i.position ≡ Some c
    → IsAs kind m (ColumnEvents c k (events_of one)) (ColumnPairs c k (events_of one))

-- What binds a name has that value for the candidate. A function has none.
abbrev pub IsSlotMeant : Space → List ResolvedItem → ℕ → Candidate → Kind → Meaning ℕ → Binder
    → Type 0
IsSlotMeant space rs k one kind m (binders.Predefined p) =
    IsAs kind m (SetIn one.0 (events_of one) p)
    (RelationIn p (events_of one) one.0 one.1.0 one.1.1)
IsSlotMeant space rs k one kind m (binders.Bound i) =
    (i.item < length rs) × IsInputMeant space rs k one kind m i
IsSlotMeant space rs k one kind m (binders.Applicable f) = Unit {0}

-- So it is for all names.
abbrev pub AreSlotsMeant : Space → List ResolvedItem → ℕ → Candidate → List Naming → Names ℕ
    → Type 0
AreSlotsMeant space rs k one names bound =
    (slot : ℕ) (n : Naming) → naming_in names slot ≡ Some n
    → IsSlotMeant space rs k one n.kind (value_at bound slot) n.binder
