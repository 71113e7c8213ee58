-- The names that the flags of an evaluation have are those that the definitions raise.
use Rattle.std.specs.Prelude.{ℕ, List, [], map, reverse, Bool}
use Rattle.text_values.specs.declared.test.Test.{Test}
use Rattle.text_values.specs.declared.model.Item.{Item}
use Rattle.text_values.specs.ModelValue.{Clause}
use Rattle.text_values.specs.ModelValues.{clauses_of}
use Rattle.text_values.specs.TestValue.{Content, content_of}
use Rattle.binding_kinds.specs.Outermost.{outermost_names}
use Rattle.binding_kinds.specs.Value.{bare_item}
use Rattle.binding_graph.specs.declared.resolved.ResolvedItem.{ResolvedItem}
use Rattle.binding_graph.specs.Resolved.{AreResolved, AreLabelledAs}
use Rattle.candidate_spaces.specs.declared.candidate.Space.{Space}
use Rattle.candidates.specs.Listed.{ListsExecutions}
use Rattle.candidate_spaces.specs.Space.{shown_in}
use Rattle.outcome_states.specs.Kept.{Flag, kept, raised_names}
use Rattle.from_scratch.specs.Answers.{AreSaid}
use Rattle.meaning.specs.Executions.{Execution}
use Rattle.meaning.specs.Evaluates.{IsKept, MeetsFlag}
use Rattle.meaning.specs.Outcome.{AreFlags}
use Rattle.meaning_items.specs.FunctionLaws.{AreFaultless}

-- The names are those of the flags that some kept execution meets.
abbrev pub AreFlagsOf : Content → List Clause → List (List ℕ) → Type 0
AreFlagsOf t items names =
    AreFlags (λ i. (y : Execution) × IsKept t items y × MeetsFlag t items i y) items names

-- So it is for what the items of a model without fault answer over the space of a test.
abbrev pub FlagsAreRaised : Type 0
FlagsAreRaised =
    (t : Test) (s : Space) → ListsExecutions t s → (items : List Item)
    (resolved : List ResolvedItem) → AreFaultless items
    → AreResolved [] [] outermost_names 0 (map bare_item items) resolved
    → AreLabelledAs items resolved → (checks : List (List Bool)) (flags : List Flag)
    → AreSaid s (reverse resolved) checks flags
    → AreFlagsOf (content_of t) (clauses_of items) (raised_names (kept checks (shown_in s)) flags)
