-- Read after Marked: the users of a node.
use Rattle.std.specs.Prelude.{◌≡◌, ◌↔◌, ◌&&◌, ◌⊎◌, ⊤, not, Bool, List, [], ◌∷◌, Some, Vec, IsSome}
use Rattle.std.specs.Map.{lookup}
use Rattle.std.specs.declared.alloc.Global.{Global}
use Rattle.memo_core.specs.declared.keys.Node.{Node}
use Rattle.memo_core.specs.Names.{same_node}
use Rattle.memo_core.specs.Graph.{Net, input_nodes}
use Rattle.memo_core.specs.Step.{Has}
use Rattle.memo_core.specs.Tests.{has_node}

-- none stands twice
abbrev pub AreEachOnce : List Node → Type 0
AreEachOnce [] = ⊤
AreEachOnce (n ∷ ns) = (Has ns n → ⊥) × AreEachOnce ns

-- these are the used nodes that have an output of the node among their present inputs, each once
pub record AreUsersOf {G : Type 0} (net : Net G) (n : Node) (users : List Node) : Type 0 where
  pub exact : (u : Node)
      → Has users u ↔ (Has net.used u × Has (input_nodes (net.inputs u)) n)
  pub once : AreEachOnce users

-- the entries hold the users of each used node, so far as it is none of the rest
pub record HoldsUsers {G : Type 0} (net : Net G) (entries : List (Node × Vec Node Global))
    (rest : List Node) : Type 0 where
  pub are : (n : Node) (v : Vec Node Global) → lookup (same_node n) entries ≡ Some v
      → AreUsersOf net n v.items
  pub whole : (n : Node) → Has net.used n → IsSome (lookup (same_node n) entries) ⊎ Has rest n

-- the node is a user that is not among these
abbrev pub is_new_user : {G : Type 0} → Net G → Node → List Node → Node → Bool
is_new_user net n there u =
    has_node u net.used && (has_node n (input_nodes (net.inputs u)) && not (has_node u there))
