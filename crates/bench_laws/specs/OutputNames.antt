-- The names of the outputs of items, which returns tell by numbers. Read it after StampedTexts and
-- Outputs of `bench_instance`.
use Rattle.std.specs.Prelude.{◌≡◌, ◌⊎◌, ℕ, List, [], ◌∷◌, Some, codes, map, slice_get}
use Rattle.memo_core.specs.Step.{Has}
use Rattle.memo_core.specs.declared.keys.Kind.{Kind}
use Rattle.memo_core.specs.declared.keys.Kind.TheVariants as kinds
use Rattle.memo_core.specs.declared.keys.Node.{Node}
use Rattle.binding_graph.specs.Contents.{RoleContent, Group, Check, Silent, role_content}
use Rattle.binding_graph.specs.declared.resolved.ResolvedItem.{ResolvedItem}
use Rattle.bench_items.specs.Naming.{item_outputs}
use Rattle.bench_slots.specs.Slots.{number_at}
use Rattle.bench_values.specs.Givens.{GivenContent}
use Rattle.bench_values.specs.Makes.{output_names}
use Rattle.bench_texts.specs.declared.model.NamedModel.{NamedModel}
use Rattle.bench_parts.specs.Contents.{histories}
use Rattle.bench_parts.specs.States.{given_to_node}
use Rattle.bench_edits.specs.Readings.{resolved_in}
use Rattle.bench_instance.specs.declared.stamped_texts.StampedTexts.{StampedTexts}
use Rattle.bench_instance.specs.StampedTexts.{stamped_state}
use Rattle.bench_instance.specs.Outputs.{output_name}

-- an item of a model that the texts hold, by its number: this is what it does
pub record IsItemOfTexts (t : StampedTexts) (number : ℕ) (does : RoleContent) : Type 0 where
  pub model : NamedModel
  pub held : Has t.texts.models.items model
  pub items : List ResolvedItem
  pub read : resolved_in model.reading ≡ Some items
  pub index : ℕ
  pub item : ResolvedItem
  pub found : slice_get items index ≡ Some item
  pub number_is : number ≡ number_at model.numbers.items index
  pub does_is : does ≡ role_content item.role

-- its node for a test is that of a check or a flag, or else of a group
abbrev pub content_node_kind : RoleContent → Kind
content_node_kind (Group recursive bodies) = kinds.Group
content_node_kind (Check negated word code flag) = kinds.Check
content_node_kind Silent = kinds.Group

abbrev pub item_node : RoleContent → (test item : ℕ) → Node
item_node does test item = record { kind = content_node_kind does; test = test; of = item }

-- the names of its outputs: those that a group binds, in order, and `check` for the answers of a
-- check or a flag
abbrev pub names_given : RoleContent → List (List ℕ)
names_given (Group recursive bodies) = map (λ b. b.name) bodies
names_given (Check negated word code flag) = codes "check" ∷ []
names_given Silent = []

-- Of each item of a model that the texts hold, the output that comes first has the name that comes
-- first, the second the second, and so on: the number by which it goes tells that name.
abbrev pub OutputsHaveTheirNames : StampedTexts → Type 0
OutputsHaveTheirNames t =
    (test item index number : ℕ) (does : RoleContent) → IsItemOfTexts t item does
    → slice_get (item_outputs does (histories (stamped_state t) item)) index ≡ Some number
    → output_name (histories (stamped_state t)) (item_node does test item) number
    ≡ slice_get (names_given does) index

-- The node of a space or of a verdict gives one output, which goes by 0.
abbrev pub OthersHaveOneOutput : StampedTexts → Type 0
OthersHaveOneOutput t =
    (n : Node) (g : GivenContent) → (n.kind ≡ kinds.Space) ⊎ (n.kind ≡ kinds.Verdict)
    → given_to_node (stamped_state t) n ≡ Some g → output_names g ≡ 0 ∷ []
