-- What the predefined names stand for, where the events of an execution go by their indexes.
use Rattle.std.specs.Prelude.{◌≡◌, List, true, false}
use Rattle.std.specs.List.{AllZip}
use Rattle.predefined_names.specs.declared.predefined.Predefined.{Predefined}
use Rattle.predefined_names.specs.PredefinedNames.{spelling, is_set}
use Rattle.text_values.specs.TestValue.{Content}
use Rattle.meaning.specs.Executions.{Event, Execution}
use Rattle.meaning.specs.Predefined.{PairsOf, predefined_names}
use Rattle.meaning_plain.specs.Lists.{HasMembers, HasPairs}
use Rattle.plain_models.specs.declared.value.Value as code
use Rattle.plain_models.specs.declared.value.Value.TheVariants as values
use Rattle.plain_models.specs.declared.scope.Bound.{Bound}
use Rattle.plain_models.specs.declared.scope.Bound.TheVariants as bounds
use Rattle.plain_models.specs.declared.scope.Named.{Named}
use Rattle.plain_executions.specs.Executions.{AreRelated}
use Rattle.plain_names.specs.Members.{IsMemberAt}

-- The value is what the name stands for.
abbrev pub IsValueOf : Content → Execution → List Event → Predefined → code.Value → Type 0
IsValueOf t x es p (values.Set ns) =
    (is_set p ≡ true) × HasMembers (IsMemberAt t x p es) ns.items
IsValueOf t x es p (values.Relation ps) =
    (is_set p ≡ false) × HasPairs (AreRelated (PairsOf t x p) es) ps.items
IsValueOf t x es p values.Nothing = ⊥

-- The name is bound to a value, which is what it stands for.
abbrev pub IsBoundTo : Content → Execution → List Event → Predefined → Bound → Type 0
IsBoundTo t x es p (bounds.Value v) = IsValueOf t x es p v
IsBoundTo t x es p (bounds.Function i) = ⊥

-- They are the predefined names, each bound to what it stands for.
abbrev pub ArePredefinedNames : Content → Execution → List Event → List Named → Type 0
ArePredefinedNames t x es names =
    AllZip (λ p b. (b.name ≡ spelling p) × IsBoundTo t x es p b.bound) predefined_names names
