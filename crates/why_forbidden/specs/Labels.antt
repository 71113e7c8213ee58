-- What carries a step: `label` cites `IsStepLabel`. Read `IsInnermost` of why_labels first.
use Rattle.std.specs.Prelude.{ℕ, ◌≡◌, List, [], ◌++◌, Bool, true, false, Option, Some, None, slice_get, codes}
use Rattle.binding_kinds.specs.declared.scope.Input.{Input}
use Rattle.binding_graph.specs.declared.resolved.Body.{Body}
use Rattle.binding_graph.specs.declared.resolved.Code.{Code}
use Rattle.binding_graph.specs.declared.resolved.ResolvedItem.{ResolvedItem}
use Rattle.text_values.specs.declared.model.Item.{Item}
use Rattle.predefined_names.specs.PredefinedNames.{spelling}
use Rattle.why_labels.specs.declared.label.EventPair.{EventPair}
use Rattle.why_labels.specs.declared.label.NameValues.{NameValues}
use Rattle.why_labels.specs.declared.unions.ModelName.{ModelName}
use Rattle.why_labels.specs.declared.unions.ModelName.TheVariants as names
use Rattle.why_labels.specs.Inside.{body_at, names_inside}
use Rattle.why_labels.specs.Labels.{Relates, IsInnermost}
use Rattle.why_labels.specs.Operands.{AreOperands}

-- the items as the model writes them, and resolved; the values of the names in the candidates;
-- whether what carries a step is told one level deeper
pub record Judgement : Type 0 where
  pub text : List Item
  pub items : List ResolvedItem
  pub values : NameValues
  pub is_deep : Bool

-- how a model writes a name
abbrev pub spelled_body : Option Body → List ℕ
spelled_body None = []
spelled_body (Some body) = body.name

abbrev pub spelled_in : ℕ → Option ResolvedItem → List ℕ
spelled_in position None = []
spelled_in position (Some r) = spelled_body (body_at r.role position)

abbrev pub spelled : List ResolvedItem → ModelName → List ℕ
spelled items (names.Predefined name) = spelling name
spelled items (names.Bound input) = spelled_in input.position (slice_get items input.item)

-- the names in what a name stands for; a name of the language stands for nothing of the model
abbrev pub names_inside_name : List ResolvedItem → ModelName → List ModelName
names_inside_name items (names.Predefined name) = []
names_inside_name items (names.Bound input) = names_inside items input

abbrev pub inner_text : List ResolvedItem → Option ModelName → List ℕ
inner_text items None = []
inner_text items (Some name) = codes ":" ++ spelled items name

-- what is told behind a name: nothing, or the innermost of the names in what it stands for that
-- relates the events
pub record IsInner (items : List ResolvedItem) (values : NameValues) (pair : EventPair)
    (name : ModelName) (text : List ℕ) : Type 0 where
  pub found : Option ModelName
  pub innermost : IsInnermost items (Relates values pair) (names_inside_name items name) found
  pub told : text ≡ inner_text items found

abbrev pub IsBehind : Bool → List ResolvedItem → NameValues → EventPair → ModelName → List ℕ
    → Type 0
IsBehind false items values pair name text = text ≡ []
IsBehind true items values pair name text = IsInner items values pair name text

pub record IsNamed (j : Judgement) (pair : EventPair) (name : ModelName) (text : List ℕ)
    : Type 0 where
  pub behind : List ℕ
  pub told : IsBehind j.is_deep j.items j.values pair name behind
  pub whole : text ≡ spelled j.items name ++ behind

abbrev pub IsLabelOf : Judgement → EventPair → Option ModelName → List ℕ → Type 0
IsLabelOf j pair None text = text ≡ []
IsLabelOf j pair (Some name) text = IsNamed j pair name text

abbrev pub item_inputs_of : Option ResolvedItem → List Input
item_inputs_of None = []
item_inputs_of (Some r) = r.inputs.items

-- the innermost name of an expression of the item at an index that relates the two events; nothing
-- where none does
pub record IsStepLabel (j : Judgement) (item : ℕ) (code : Code) (pair : EventPair) (text : List ℕ)
    : Type 0 where
  pub operands : List ModelName
  pub united : AreOperands item (item_inputs_of (slice_get j.items item)) code operands
  pub found : Option ModelName
  pub innermost : IsInnermost j.items (Relates j.values pair) operands found
  pub told : IsLabelOf j pair found text
