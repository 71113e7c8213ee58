-- What the law of functions that are put in says. The events of an execution are the numbers below
-- n, and tests say what the predefined names stand for. Read next: Alike.
use Rattle.std.specs.Prelude.{ℕ, ◌<◌, ◌↔◌, List, [], length, map, Bool, false}
use Rattle.text_values.specs.declared.model.Item.{Item}
use Rattle.predefined_names.specs.declared.predefined.Predefined.{Predefined}
use Rattle.text_values.specs.ModelValue.{Term}
use Rattle.binding_kinds.specs.declared.fault.ModelFault.{ModelFault}
use Rattle.binding_kinds.specs.Value.{Naming, bare_item}
use Rattle.binding_kinds.specs.Faults.{IsFaultAt, HasNoFault}
use Rattle.binding_kinds.specs.Functions.{formula_in}
use Rattle.binding_kinds.specs.Outermost.{outermost_names}
use Rattle.binding_kinds.specs.Senses.{Sense}
use Rattle.meaning.specs.Cat.{Meaning, ASet, ARelation, Nothing, Names, meaning_of}
use Rattle.meaning_items.specs.Formulas.{formula_meaning}
use Rattle.meaning_items.specs.Bound.{value_at}
use Rattle.meaning_items.specs.Behind.{senses_of, namings_of, bound_of_items, tested}

-- The items have no fault.
abbrev pub AreFaultless : List Item → Type 0
AreFaultless items = HasNoFault [] outermost_names 0 (map bare_item items)

-- The expression has no fault, where it sees those functions and names.
abbrev pub IsFaultless : List Sense → List Naming → Term → Type 0
IsFaultless ss names e =
    (index : ℕ) (k : ModelFault) → IsFaultAt ss names (length names) false e index k → ⊥

-- Two meanings have the same events, or the same pairs.
abbrev pub AreAlike : Meaning ℕ → Meaning ℕ → Type 0
AreAlike (ASet S) (ASet T) = (a : ℕ) → S a ↔ T a
AreAlike (ARelation Q) (ARelation R) = (a b : ℕ) → Q a b ↔ R a b
AreAlike Nothing Nothing = Unit {0}
AreAlike _ _ = ⊥

-- An expression without fault behind items without fault means what it means with the functions
-- that it applies put in.
abbrev pub FunctionsArePutIn : Type 0
FunctionsArePutIn =
    (n : ℕ) (S : Predefined → ℕ → Bool) (R : Predefined → ℕ → ℕ → Bool) (items : List Item)
    → AreFaultless items → (e : Term) → IsFaultless (senses_of items) (namings_of items) e
    → let bound : Names ℕ = bound_of_items (λ a. a < n) (tested S R) items in
    AreAlike (meaning_of (λ a. a < n) bound e)
    (formula_meaning (λ a. a < n) (value_at bound) []
    (formula_in (senses_of items) (namings_of items) [] e))
