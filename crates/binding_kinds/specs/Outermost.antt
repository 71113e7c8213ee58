-- The names that are seen before the first item.
use Rattle.std.specs.Prelude.{List, map, reverse, if◌then◌else◌}
use Rattle.predefined_names.specs.declared.predefined.Predefined.{Predefined}
use Rattle.predefined_names.specs.declared.predefined.TheConstants.{PREDEFINED}
use Rattle.predefined_names.specs.PredefinedNames.{spelling, is_set}
use Rattle.binding_kinds.specs.declared.kinds.Kind.{Kind}
use Rattle.binding_kinds.specs.declared.kinds.Kind.TheVariants.{OfSet, OfRelation}
use Rattle.binding_kinds.specs.declared.scope.Binder.TheVariants as binders
use Rattle.binding_kinds.specs.Value.{Naming}

abbrev pub kind_of_predefined : Predefined → Kind
kind_of_predefined p = if is_set p then OfSet else OfRelation

-- a predefined name stands for itself
abbrev pub naming_of : Predefined → Naming
naming_of p =
    record { name = spelling p; kind = kind_of_predefined p; binder = binders.Predefined p }

-- the names that the first item of a model sees
abbrev pub outermost_names : List Naming
outermost_names = reverse (map naming_of PREDEFINED)
