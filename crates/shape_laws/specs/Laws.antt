-- An item of a model without fault reads each name that it uses by the kind of that name: where the
-- kinds of its inputs are put into its shape, this is the item again. The law `items_are_read_by_kind`
-- says so. Read `Shapes` of binding_shapes first.
use Rattle.std.specs.Prelude.{◌≡◌, ℕ, List, Some, slice_get}
use Rattle.std.specs.List.{AllZip}
use Rattle.text_values.specs.declared.model.ModelText.{ModelText}
use Rattle.binding_kinds.specs.declared.kinds.Kind.{Kind}
use Rattle.binding_kinds.specs.declared.scope.Input.{Input}
use Rattle.binding_graph.specs.declared.resolved.Body.{Body}
use Rattle.binding_graph.specs.declared.resolved.ResolvedItem.{ResolvedItem}
use Rattle.binding_graph.specs.Contents.{role_content}
use Rattle.binding_graph.specs.Lowering.{known}
use Rattle.binding_laws.specs.Reread.{bodies_of}
use Rattle.binding_shapes.specs.Shapes.{role_with}
use Rattle.from_scratch.specs.FromScratch.{IsFaultless, AreItemsOf}

-- the name is one of a group among these items, and its value is of that kind
pub record HasKind (items : List ResolvedItem) (name : Input) (kind : Kind) : Type 0 where
  pub item : ResolvedItem
  pub item_at : slice_get items name.item ≡ Some item
  pub body : Body
  pub body_at : slice_get (bodies_of item.role) name.position ≡ Some body
  pub is_kind : known body.code.kind ≡ kind

-- the item does again what it does where its inputs have the kinds of the names that they are
abbrev pub IsReadByKind : List ResolvedItem → ResolvedItem → Type 0
IsReadByKind items r =
    (kinds : List Kind) → AllZip (HasKind items) r.inputs.items kinds
    → role_with kinds (role_content r.role) ≡ role_content r.role

abbrev pub AreReadByKind : ModelText → Type 0
AreReadByKind model =
    (items : List ResolvedItem) → IsFaultless model → AreItemsOf model items → (index : ℕ)
    (r : ResolvedItem) → slice_get items index ≡ Some r → IsReadByKind items r
