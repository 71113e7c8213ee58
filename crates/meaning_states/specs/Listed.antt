-- What a model keeps of the executions of a test, by number and by name.
use Rattle.std.specs.Prelude.{ℕ, ◌≡◌, ◌↔◌, List, [], map, length, reverse, Bool, IsTrue, Some, slice_get}
use Rattle.text_values.specs.declared.test.Test.{Test}
use Rattle.text_values.specs.declared.model.Item.{Item}
use Rattle.text_values.specs.ModelValues.{clauses_of}
use Rattle.text_values.specs.TestValue.{Content, content_of}
use Rattle.binding_kinds.specs.Outermost.{outermost_names}
use Rattle.binding_kinds.specs.Value.{bare_item}
use Rattle.binding_graph.specs.declared.resolved.ResolvedItem.{ResolvedItem}
use Rattle.binding_graph.specs.Resolved.{AreResolved, AreLabelledAs}
use Rattle.candidate_spaces.specs.declared.candidate.Space.{Space}
use Rattle.candidates.specs.Listed.{ListsExecutions}
use Rattle.candidate_spaces.specs.Space.{shown_in}
use Rattle.outcome_states.specs.Kept.{Flag, is_kept}
use Rattle.from_scratch.specs.Answers.{AreSaid}
use Rattle.meaning.specs.Sets.{IsListOf}
use Rattle.meaning.specs.Executions.{Execution, IsEvent, IsExecution}
use Rattle.meaning.specs.Evaluates.{outermost, IsKept}
use Rattle.meaning_items.specs.FunctionLaws.{AreFaultless}
use Rattle.meaning_items.specs.Laws.{AreMeant}

-- The executions of the test by name, each once, in the order of the candidates: the answers are
-- true of a candidate where the execution meets the check, and so it is for flags; and the candidate
-- is kept where the execution is.
pub record AreKeptByName (t : Content) (s : Space) (items : List Item) (checks : List (List Bool))
    (flags : List Flag) : Type 0 where
  pub named : List Execution
  pub as_many : length named ≡ length (shown_in s)
  pub all : IsListOf (IsExecution t) named
  pub meant : (k : ℕ) (y : Execution) → slice_get named k ≡ Some y
      → AreMeant k (IsEvent t y) (outermost t y) (clauses_of items) checks flags
  pub kept : (k : ℕ) (y : Execution) → slice_get named k ≡ Some y
      → IsTrue (is_kept checks k) ↔ IsKept t (clauses_of items) y

-- So it is for what the items of a model without fault answer over the space of a test.
abbrev pub KeptByName : Type 0
KeptByName =
    (t : Test) (s : Space) → ListsExecutions t s → (items : List Item)
    (resolved : List ResolvedItem) → AreFaultless items
    → AreResolved [] [] outermost_names 0 (map bare_item items) resolved
    → AreLabelledAs items resolved → (checks : List (List Bool)) (flags : List Flag)
    → AreSaid s (reverse resolved) checks flags
    → AreKeptByName (content_of t) s items checks flags
