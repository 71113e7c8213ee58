-- What the laws of answers say: the answers of the checks and the flags of a model are those that the
-- definitions give, candidate by candidate.
use Rattle.std.specs.Prelude.{ℕ, ◌≡◌, ◌<◌, ◌↔◌, List, [], ◌∷◌, map, reverse, Bool, IsTrue, Some, slice_get}
use Rattle.text_values.specs.declared.model.Item.{Item}
use Rattle.text_values.specs.ModelValue.{Clause, Checking, Flagging}
use Rattle.text_values.specs.ModelValues.{clauses_of}
use Rattle.binding_kinds.specs.Outermost.{outermost_names}
use Rattle.binding_kinds.specs.Value.{bare_item}
use Rattle.binding_graph.specs.declared.resolved.ResolvedItem.{ResolvedItem}
use Rattle.binding_graph.specs.Resolved.{AreResolved, AreLabelledAs}
use Rattle.candidate_spaces.specs.declared.candidate.Space.{Space}
use Rattle.candidate_spaces.specs.Space.{Candidate, candidates_in}
use Rattle.cat_machine.specs.Executions.{events_of}
use Rattle.outcome_states.specs.Kept.{Flag, holds_at, is_kept}
use Rattle.from_scratch.specs.Answers.{AreSaid}
use Rattle.meaning.specs.Sets.{Set}
use Rattle.meaning.specs.Cat.{Names, names_after, IsMet, AreMet}
use Rattle.meaning_items.specs.Behind.{outer_bound}
use Rattle.meaning_items.specs.FunctionLaws.{AreFaultless}
use Rattle.meaning_items.specs.Slots.{candidate_value}

-- The answers of the checks and the flags among the items, in the order of the text, are true for
-- the candidate of that number just where the check is met.
abbrev pub AreMeant : {E : Type 0} → ℕ → Set E → Names E → List Clause → List (List Bool)
    → List Flag → Type 0
AreMeant k all names [] [] [] = Unit {0}
AreMeant k all names [] _ _ = ⊥
AreMeant k all names (Checking check label ∷ cs) [] fs = ⊥
AreMeant k all names (Checking check label ∷ cs) (a ∷ answers) fs =
    (IsTrue (holds_at k a) ↔ IsMet all names check) × AreMeant k all names cs answers fs
AreMeant k all names (Flagging check name ∷ cs) answers [] = ⊥
AreMeant k all names (Flagging check name ∷ cs) answers (f ∷ fs) =
    (f.0 ≡ name) × (IsTrue (holds_at k f.1) ↔ IsMet all names check)
    × AreMeant k all names cs answers fs
AreMeant k all names (c ∷ cs) answers fs = AreMeant k all (names_after all names c) cs answers fs

-- What the items of a model without fault answer over the candidates of a space is so meant.
abbrev pub AnswersAreMeant : Space → List Item → List ResolvedItem → Type 0
AnswersAreMeant space items resolved =
    AreFaultless items → AreResolved [] [] outermost_names 0 (map bare_item items) resolved
    → AreLabelledAs items resolved → (checks : List (List Bool)) (flags : List Flag)
    → AreSaid space (reverse resolved) checks flags → (k : ℕ) (one : Candidate)
    → slice_get (candidates_in space.combinations.items) k ≡ Some one
    → AreMeant k (λ a. a < events_of one) (outer_bound (candidate_value one)) (clauses_of items)
    checks flags

-- A candidate is kept by those answers just where all checks of the model are met.
abbrev pub KeptAreMet : Space → List Item → List ResolvedItem → Type 0
KeptAreMet space items resolved =
    AreFaultless items → AreResolved [] [] outermost_names 0 (map bare_item items) resolved
    → AreLabelledAs items resolved → (checks : List (List Bool)) (flags : List Flag)
    → AreSaid space (reverse resolved) checks flags → (k : ℕ) (one : Candidate)
    → slice_get (candidates_in space.combinations.items) k ≡ Some one
    → IsTrue (is_kept checks k)
    ↔ AreMet (λ a. a < events_of one) (outer_bound (candidate_value one)) (clauses_of items)
