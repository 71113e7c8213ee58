-- What the law of columns says. Read next: Laws.
use Rattle.std.specs.Prelude.{ℕ, ◌≡◌, ◌<◌, List, [], map, reverse, Some, slice_get}
use Rattle.text_values.specs.declared.model.Item.{Item}
use Rattle.binding_kinds.specs.Outermost.{outermost_names}
use Rattle.binding_kinds.specs.Value.{bare_item}
use Rattle.binding_graph.specs.declared.resolved.ResolvedItem.{ResolvedItem}
use Rattle.binding_graph.specs.Resolved.{AreResolved}
use Rattle.candidate_spaces.specs.declared.candidate.Space.{Space}
use Rattle.candidate_spaces.specs.Space.{Candidate, candidates_in}
use Rattle.cat_machine.specs.Executions.{events_of}
use Rattle.meaning_items.specs.Behind.{namings_of, bound_of_items}
use Rattle.meaning_items.specs.FunctionLaws.{AreFaultless}
use Rattle.meaning_items.specs.Slots.{candidate_value, AreSlotsMeant}

-- Behind the items of a model without fault each column of a name has, for the candidate of that
-- number, what the definitions bind; and so it is for the predefined names.
abbrev pub ColumnsAreMeant : Space → List Item → List ResolvedItem → Type 0
ColumnsAreMeant space items resolved =
    AreFaultless items → AreResolved [] [] outermost_names 0 (map bare_item items) resolved
    → (k : ℕ) (one : Candidate) → slice_get (candidates_in space.combinations.items) k ≡ Some one
    → AreSlotsMeant space (reverse resolved) k one (namings_of items)
    (bound_of_items (λ a. a < events_of one) (candidate_value one) items)
