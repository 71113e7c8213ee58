-- Which items of a model are nodes.
use Rattle.std.specs.Prelude.{Option, Some, None}
use Rattle.memo_core.specs.declared.keys.Kind.{Kind}
use Rattle.memo_core.specs.declared.keys.Kind.TheVariants as kinds
use Rattle.text_values.specs.ModelValue.{Clause, Binding, Function, Checking, Flagging, Showing, Including}

-- the kind of node that an item is by its text, if it is one
abbrev pub node_kind : Clause → Option Kind
node_kind (Binding recursive group) = Some kinds.Group
node_kind (Function name parameters body) = None
node_kind (Checking check label) = Some kinds.Check
node_kind (Flagging check label) = Some kinds.Check
node_kind (Showing hidden shown) = None
node_kind (Including path) = None
