-- What one walk over an expression finds: its kind, its size and its first fault, and what it uses
-- and applies.
use Rattle.std.specs.Prelude.{◌≡◌, ℕ, List, reverse, Bool, false, Option, Some, None, Result, Ok, Err}
use Rattle.std.specs.List.{AllZip}
use Rattle.text_values.specs.ModelValue.{Term, Terms}
use Rattle.binding_kinds.specs.declared.fault.ModelFault.{ModelFault}
use Rattle.binding_kinds.specs.declared.function.Function.{Function}
use Rattle.binding_kinds.specs.declared.judged.Judged.{Judged}
use Rattle.binding_kinds.specs.declared.judged.Arguments.{Arguments}
use Rattle.binding_kinds.specs.declared.scope.Used.{Used}
use Rattle.binding_kinds.specs.Value.{Naming, Bound}
use Rattle.binding_kinds.specs.Combinations.{kinds_number}
use Rattle.binding_kinds.specs.Senses.{Sense, IsSameSize, size_with, kind_in, kinds_in, size_in, sizes_in, term_fault, first_among}
use Rattle.binding_graph.specs.declared.resolved.Body.{Body}
use Rattle.binding_graph.specs.declared.uses.Uses.{Uses}
use Rattle.binding_graph.specs.Inputs.{IsIndexed}
use Rattle.binding_graph.specs.Usages.{IsListed}

-- what is judged of an expression, seen under a complement or not
pub record IsFinding (ss : List Sense) (names : List Naming) (from : ℕ) (under : Bool) (t : Term)
    (j : Judged) : Type 0 where
  pub kind : j.kind ≡ kind_in ss names t
  pub size : IsSameSize j.size (size_in ss names t)
  pub fault : j.fault ≡ term_fault ss names from under t

-- what is known of the arguments of a function
pub record AreJudged (ss : List Sense) (names : List Naming) (from : ℕ) (under : Bool)
    (f : Function) (s : Sense) (ts : Terms) (a : Arguments) : Type 0 where
  pub combination : a.combination ≡ kinds_number (kinds_in ss names ts)
  pub size : f.is_oversized ≡ false → IsSameSize a.size (size_with s (sizes_in ss names ts))
  pub fault : a.fault ≡ first_among ss names from under s.is_under 0 ts

-- the names that are used and the functions that are applied, the latest first, have grown so
pub record AreGrown (used : List Used → List Used) (applied : List ℕ → List ℕ) (old new : Uses)
    : Type 0 where
  pub indexed : IsIndexed old.indexes.items old.values.items
      → IsIndexed new.indexes.items new.values.items
  pub listed : IsListed old.applied.items old.functions.items
      → IsListed new.applied.items new.functions.items
  pub values : IsIndexed old.indexes.items old.values.items
      → reverse new.values.items ≡ used (reverse old.values.items)
  pub functions : IsListed old.applied.items old.functions.items
      → reverse new.functions.items ≡ applied (reverse old.functions.items)

-- the bodies have the names of the bindings, and the kinds of their expressions
abbrev pub AreNamed : List Sense → List Naming → List Bound → List Body → Type 0
AreNamed ss names bs rs =
    AllZip (λ b r. (r.name ≡ b.name) × (r.code.kind ≡ kind_in ss names b.body)) bs rs

-- the fault of what was read, if it has one
abbrev pub fault_of : {A : Type 0} → Result A ModelFault → Option ModelFault
fault_of (Ok x) = None
fault_of (Err k) = Some k
