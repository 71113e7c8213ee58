-- What the numbers are that a return tells. Read it after There and OutputNames.
use Rattle.std.specs.Prelude.{◌≡◌, ℕ, List, Some, slice_get}
use Rattle.std.specs.List.{AllByRecursion as Each}
use Rattle.memo_core.specs.declared.claims.Finish.TheVariants.{Stored}
use Rattle.memo_core.specs.declared.claims.StoredOutputs.{StoredOutputs}
use Rattle.memo_core.specs.Run.{Returned, Step}
use Rattle.memo_core.specs.Step.{Has, Return}
use Rattle.binding_graph.specs.Contents.{RoleContent}
use Rattle.binding_shapes.specs.Shapes.{role_shape}
use Rattle.bench_items.specs.Naming.{item_outputs}
use Rattle.bench_values.specs.Givens.{GivenContent, ForItem}
use Rattle.bench_values.specs.Makes.{output_names}
use Rattle.bench_values.specs.Values.{NodeContent}
use Rattle.bench_parts.specs.Contents.{histories}
use Rattle.bench_parts.specs.States.{given_to_node}
use Rattle.bench_instance.specs.declared.stamped_texts.StampedTexts.{StampedTexts}
use Rattle.bench_instance.specs.StampedTexts.{AreSoundTexts, stamped_state}
use Rattle.bench_instance.specs.Outputs.{output_name}
use Rattle.bench_laws.specs.Live.{live_meaning}
use Rattle.bench_laws.specs.There.{LiveState}
use Rattle.bench_laws.specs.OutputNames.{IsItemOfTexts, item_node, names_given}

-- the job was given what its node is given, and each of these numbers is one by which an output of
-- that goes
pub record AreOutputsOf (t : StampedTexts) (r : Return NodeContent GivenContent) (numbers : List ℕ)
    : Type 0 where
  pub given_is : given_to_node (stamped_state t) r.node ≡ Some r.given
  pub each : Each (Has (output_names r.given)) numbers

-- A return tells its node, and the numbers of outputs of that.
abbrev pub ReturnsTellOutputs : Type 0
ReturnsTellOutputs =
    (old new : LiveState) (r : Return NodeContent GivenContent) (told : StoredOutputs)
    → Step live_meaning old (Returned r (Stored told)) new
    → (told.node ≡ r.node) × AreOutputsOf old.texts r told.names.items

-- this number tells one of the outputs of the item that does this, and the name that it tells is
-- the one that the item gives that output
pub record TellsOutputOf (t : StampedTexts) (test item : ℕ) (does : RoleContent) (number : ℕ)
    : Type 0 where
  pub index : ℕ
  pub output_is : slice_get (item_outputs does (histories (stamped_state t) item)) index
      ≡ Some number
  pub name : List ℕ
  pub name_is : slice_get (names_given does) index ≡ Some name
  pub told_is : output_name (histories (stamped_state t)) (item_node does test item) number
      ≡ Some name

-- the job was given what the item does, kinds left out, with the numbers of its outputs, and each of
-- these numbers tells one of them, by its name
pub record TellsItem (t : StampedTexts) (r : Return NodeContent GivenContent) (test item : ℕ)
    (does : RoleContent) (numbers : List ℕ) : Type 0 where
  pub given_is : r.given ≡ ForItem (role_shape does) (item_outputs does (histories (stamped_state t) item))
  pub each : Each (TellsOutputOf t test item does) numbers

-- The numbers that a return of the node of an item tells are those of outputs of the item that the
-- texts hold, each by its name.
abbrev pub ReturnsNameOutputs : Type 0
ReturnsNameOutputs =
    (old new : LiveState) (r : Return NodeContent GivenContent) (told : StoredOutputs)
    (test item : ℕ) (does : RoleContent)
    → AreSoundTexts old.texts → IsItemOfTexts old.texts item does
    → r.node ≡ item_node does test item
    → Step live_meaning old (Returned r (Stored told)) new
    → TellsItem old.texts r test item does told.names.items
