-- The names of outputs, which returns tell by their numbers.
use Rattle.std.specs.Prelude.{ℕ, ◌==◌, List, Option, Some, None, codes, slice_get, if◌then◌else◌}
use Rattle.memo_core.specs.declared.keys.Kind.{Kind}
use Rattle.memo_core.specs.declared.keys.Kind.TheVariants as kinds
use Rattle.memo_core.specs.declared.keys.Node.{Node}
use Rattle.bench_items.specs.Naming.{SeenName}

-- how the name of that number is spelt, counted from 0 in the order in which an item got its names
abbrev pub seen_at : (history : List SeenName) → (number : ℕ) → Option (List ℕ)
seen_at history number = slice_get history number

-- a node that has only one output: it goes by 0
abbrev pub only_name : (name : List ℕ) → (number : ℕ) → Option (List ℕ)
only_name name number = if number == 0 then Some name else None

-- by the kind of the node
abbrev pub name_by : Kind → (history : List SeenName) → (number : ℕ) → Option (List ℕ)
name_by kinds.Space history number = only_name (codes "space") number
name_by kinds.Group history number = seen_at history number
name_by kinds.Check history number = only_name (codes "check") number
name_by kinds.Verdict history number = only_name (codes "verdict") number

-- the name of the output of a node that goes by that number, where the items have these histories
abbrev pub output_name : (histories : ℕ → List SeenName) → Node → (number : ℕ) → Option (List ℕ)
output_name histories node number = name_by node.kind (histories node.of) number
