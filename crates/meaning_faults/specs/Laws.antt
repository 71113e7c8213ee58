-- What the laws of this crate say: the faults of a model are those that the program answers.
use Rattle.std.specs.Prelude.{◌≡◌, ◌↔◌, List, [], ◌∷◌, map, reverse, Option, Some, None}
use Rattle.text_values.specs.declared.model.Item.{Item}
use Rattle.predefined_names.specs.declared.predefined.Predefined.{Predefined}
use Rattle.predefined_names.specs.declared.predefined.TheConstants.{PREDEFINED}
use Rattle.text_values.specs.ModelValues.{clauses_of}
use Rattle.binding_kinds.specs.declared.fault.ModelFault as program
use Rattle.binding_kinds.specs.declared.fault.ModelFault.TheVariants as program_faults
use Rattle.binding_kinds.specs.Value.{Naming, bare_item}
use Rattle.binding_kinds.specs.Outermost.{naming_of}
use Rattle.binding_kinds.specs.Faults.{FirstFault, HasNoFault}
use Rattle.meaning.specs.Faults.{ModelFault, Unbound, Kind, NotMonotone, Duplicate, SetInRec, Arity, TooLarge, faults}

-- a fault as the program has it
abbrev pub fault_of : ModelFault → program.ModelFault
fault_of Unbound = program_faults.Unbound
fault_of Kind = program_faults.Kind
fault_of NotMonotone = program_faults.NotMonotone
fault_of Duplicate = program_faults.Duplicate
fault_of SetInRec = program_faults.SetInRec
fault_of Arity = program_faults.Arity
fault_of TooLarge = program_faults.TooLarge

-- the first of faults, as the program has it
abbrev pub head_of : List ModelFault → Option program.ModelFault
head_of [] = None
head_of (k ∷ ks) = Some (fault_of k)

-- the names that the first item sees
abbrev pub outer_namings : List Predefined → List Naming
outer_namings ps = reverse (map naming_of ps)

-- The program answers a fault just where it is the first in the list of the items' faults.
abbrev pub FirstFaultIsHead : List Item → Type 0
FirstFaultIsHead items =
    (k : program.ModelFault)
    → FirstFault [] (outer_namings PREDEFINED) 0 (map bare_item items) k
    ↔ (head_of (faults (clauses_of items)) ≡ Some k)

-- The program finds no fault just where that list is empty.
abbrev pub NoFaultIsNone : List Item → Type 0
NoFaultIsNone items =
    HasNoFault [] (outer_namings PREDEFINED) 0 (map bare_item items)
    ↔ (faults (clauses_of items) ≡ [])
