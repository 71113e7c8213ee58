-- What a model is answered of an execution.
use Rattle.std.specs.Prelude.{ℕ, ◌≡◌, ◌↔◌, List, [], ◌∷◌, map, Contains, IsTrue}
use Rattle.text_values.specs.declared.model.Item.{Item}
use Rattle.text_values.specs.ModelValue.{Clause}
use Rattle.text_values.specs.ModelValues.{clause_of}
use Rattle.predefined_names.specs.PredefinedNames.{spelling}
use Rattle.meaning.specs.Sets as sets
use Rattle.meaning.specs.Names.{Name}
use Rattle.meaning.specs.Predefined.{predefined_names}
use Rattle.meaning.specs.Cat.{Names, IsItemMet, AreMet, IsFlagMet}
use Rattle.plain_models.specs.declared.scope.Bound.{Bound}
use Rattle.plain_models.specs.declared.scope.Bound.TheVariants as bounds
use Rattle.plain_models.specs.declared.scope.Named.{Named}
use Rattle.plain_models.specs.Items.{AreBound}
use Rattle.plain_models.specs.declared.model.Answers as code
use Rattle.plain_models.specs.declared.model.Reading.{Reading}

-- The answers say whether all checks are met, and which flags are.
pub record AreModelAnswers (all : sets.Set ℕ) (names : Names ℕ) (cs : List Clause) (a : code.Answers)
    : Type 0 where
  pub kept : IsTrue a.is_kept ↔ AreMet all names cs
  pub flags : (i : ℕ) → Contains a.flags.items i ↔ IsFlagMet all names cs i

-- The name stands for a value, and not for a function.
abbrev pub IsOfValue : Bound → Type 0
IsOfValue (bounds.Value v) = Unit {0}
IsOfValue (bounds.Function i) = ⊥

-- The names are these, in their order, and each stands for a value.
abbrev pub AreValuesOf : List Name → List Named → Type 0
AreValuesOf [] [] = Unit {0}
AreValuesOf (n ∷ ns) (b ∷ bs) = (b.name ≡ n) × IsOfValue b.bound × AreValuesOf ns bs
AreValuesOf ns bs = ⊥

-- They are the predefined names.
abbrev pub ArePredefined : List Named → Type 0
ArePredefined bs = AreValuesOf (map spelling predefined_names) bs

-- What is read of an item behind these names.
pub record IsReading (all : sets.Set ℕ) (names : Names ℕ) (item : Item) (r : Reading) : Type 0 where
  pub met : IsTrue r.is_met ↔ IsItemMet all names (clause_of item)
  pub raised : IsTrue r.is_raised ↔ IsFlagMet all names (clause_of item ∷ []) 0
  pub bound : AreBound all names item r.values.items
