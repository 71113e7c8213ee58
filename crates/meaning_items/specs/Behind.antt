-- The names that are seen behind items, as the definitions and as the program have them. Read next:
-- FunctionLaws.
use Rattle.std.specs.Prelude.{ℕ, ◌+◌, List, [], ◌∷◌, map, reverse, Bool, IsTrue}
use Rattle.text_values.specs.declared.model.Item.{Item}
use Rattle.predefined_names.specs.declared.predefined.Predefined.{Predefined}
use Rattle.predefined_names.specs.PredefinedNames.{spelling, is_set}
use Rattle.text_values.specs.ModelValue.{Clause}
use Rattle.text_values.specs.ModelValues.{clauses_of}
use Rattle.binding_kinds.specs.Value.{Naming, BareItem, bare_item}
use Rattle.binding_kinds.specs.Senses.{Sense}
use Rattle.binding_kinds.specs.Faults as program
use Rattle.binding_kinds.specs.Outermost.{outermost_names}
use Rattle.meaning.specs.Sets.{Set}
use Rattle.meaning.specs.Cat.{Meaning, ASet, ARelation, ToMeaning, Names, choice_of, names_after}
use Rattle.meaning.specs.Predefined.{predefined_names}

-- the functions behind items, as the program has them
abbrev pub senses_behind : List Sense → List Naming → ℕ → List BareItem → List Sense
senses_behind ss names at [] = ss
senses_behind ss names at (c ∷ cs) =
    senses_behind (program.senses_after ss names c) (program.names_after ss names at c) (at + 1) cs

-- the names behind items, likewise
abbrev pub namings_behind : List Sense → List Naming → ℕ → List BareItem → List Naming
namings_behind ss names at [] = names
namings_behind ss names at (c ∷ cs) =
    namings_behind (program.senses_after ss names c) (program.names_after ss names at c) (at + 1) cs

-- the functions behind the items of a model
abbrev pub senses_of : List Item → List Sense
senses_of items = senses_behind [] outermost_names 0 (map bare_item items)

-- the names behind the items of a model
abbrev pub namings_of : List Item → List Naming
namings_of items = namings_behind [] outermost_names 0 (map bare_item items)

-- the names behind items, as the definitions bind them
abbrev pub bound_behind : {E : Type 0} → Set E → Names E → List Clause → Names E
bound_behind all names [] = names
bound_behind all names (c ∷ cs) = bound_behind all (names_after all names c) cs

-- the names that the first item sees, where the predefined names have these values
abbrev pub outer_bound : {E : Type 0} → (Predefined → Meaning E) → Names E
outer_bound value = reverse (map (λ p. (spelling p, ToMeaning (value p))) predefined_names)

-- the names behind the items of a model
abbrev pub bound_of_items : {E : Type 0} → Set E → (Predefined → Meaning E) → List Item → Names E
bound_of_items all value items = bound_behind all (outer_bound value) (clauses_of items)

-- the values of predefined names that tests say
abbrev pub tested : (Predefined → ℕ → Bool) → (Predefined → ℕ → ℕ → Bool) → Predefined → Meaning ℕ
tested S R p =
    choice_of (is_set p) (ASet (λ a. IsTrue (S p a))) (ARelation (λ a b. IsTrue (R p a b)))
