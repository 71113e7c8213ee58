-- What the calls find of a part, where it lies: cited by functions of this crate alone.
use Rattle.std.specs.Prelude.{ℕ, ◌==◌, List, [], ◌∷◌, Vec, Option, Some, None, option_map, if◌then◌else◌}
use Rattle.std.specs.Option.{option_or}
use Rattle.std.specs.declared.alloc.Global.{Global}
use Rattle.text_values.specs.declared.test.Test.{Test}
use Rattle.text_values.specs.TestValue.{formula_of, thread_steps}
use Rattle.memo_core.specs.declared.keys.Key.{Key}
use Rattle.bench_nodes.specs.declared.table.SlotKey.{SlotKey}
use Rattle.bench_nodes.specs.declared.table.SlotKey.TheVariants as slots
use Rattle.bench_nodes.specs.declared.table.TestRow.{TestRow}
use Rattle.bench_nodes.specs.Nodes.{keys_at}
use Rattle.binding_shapes.specs.Shapes.{role_shape}
use Rattle.bench_values.specs.Givens.{GivenContent, ForSpace, ForItem, ForVerdict, ForFault, asked, faulted}
use Rattle.bench_items.specs.Items.{shared_role, shared_history, shared_outputs}
use Rattle.bench_values.specs.Parts.{parts_of}
use Rattle.bench_parts.specs.declared.nodes.NodeParts.{NodeParts}
use Rattle.bench_parts.specs.declared.nodes.NodeParts.TheVariants as parts
use Rattle.bench_parts.specs.declared.nodes.FirstContent.{FirstContent}
use Rattle.bench_parts.specs.declared.nodes.FirstPart.{FirstPart}
use Rattle.bench_parts.specs.declared.content.Content.{Content}
use Rattle.bench_parts.specs.declared.content.Content.TheVariants as held
use Rattle.bench_parts.specs.declared.find.TestView.{TestView}
use Rattle.bench_parts.specs.declared.flags.FirstFlag.{FirstFlag}
use Rattle.bench_parts.specs.Contents.{PartContent, OfRole, OfFault, OfCondition, OfObserved, OfLocations, OfInit, OfThread, PartsState}
use Rattle.bench_parts.specs.States.{contents, flags_read}

abbrev pub viewed_content : Content → PartContent
viewed_content (held.Role item) = OfRole (shared_role item.now) (shared_history item.now)
viewed_content (held.Fault fault) = OfFault fault
viewed_content (held.Condition condition) =
    OfCondition condition.now.quantifier (formula_of condition.now.proposition)
viewed_content (held.Observed observed) = OfObserved observed.now
viewed_content (held.Locations locations) = OfLocations locations.now
viewed_content (held.Init init) = OfInit init.now
viewed_content (held.Thread thread) = OfThread (thread_steps thread.now)

-- ---- a test with its row and its locations

pub record FoundTest : Type 0 where
  pub row : TestRow
  pub test : Test
  pub locations : List (List ℕ)

abbrev pub test_view : TestView → FoundTest
test_view v = record { row = v.row.now; test = v.test.now; locations = v.locations.now }

-- the first test of that number
abbrev pub view_of : List TestRow → List Test → List (Vec (List ℕ) Global) → ℕ → Option FoundTest
view_of [] tests locations id = None
view_of (r ∷ rs) [] locations id = None
view_of (r ∷ rs) (t ∷ ts) [] id = None
view_of (r ∷ rs) (t ∷ ts) (l ∷ ls) id =
    if r.id == id then Some (record { row = r; test = t; locations = l.items })
    else view_of rs ts ls id

-- ---- parts among inputs

-- the first part, and the inputs behind it
pub record FoundPart : Type 0 where
  pub part : ℕ
  pub of : ℕ
  pub rest : List SlotKey

abbrev pub first_view : FirstPart → FoundPart
first_view p = record { part = p.part; of = p.of; rest = p.rest.now }

-- the part that an input of a node of that test is
abbrev pub part_before : ℕ → SlotKey → List SlotKey → Option FoundPart
part_before test (slots.Test part) rest = Some (record { part = part; of = test; rest = rest })
part_before test (slots.Item number) rest = Some (record { part = 0; of = number; rest = rest })
part_before test (slots.Fault id) rest = Some (record { part = 1; of = id; rest = rest })
part_before test (slots.Value kind of name) rest = None

abbrev pub first_part : ℕ → List SlotKey → Option FoundPart
first_part test [] = None
first_part test (k ∷ ks) = option_or (part_before test k ks) (first_part test ks)

-- what the parts hold, the first part before the others
abbrev pub contents_from : PartsState → ℕ → Option FirstContent → List (Option PartContent)
contents_from s test None = []
contents_from s test (Some f) =
    option_map viewed_content f.held ∷ contents s (keys_at test f.rest.now)

-- ---- flags among inputs

-- of one input, where it is the answers of a check or a flag
abbrev pub flag_at : PartsState → List Key → Key → List (Option (List ℕ))
flag_at s keys key = flags_read s keys (key ∷ [])

-- the first check or flag, and those behind it
abbrev pub flags_from : PartsState → ℕ → List Key → Option FirstFlag → List (Option (List ℕ))
flags_from s test keys None = []
flags_from s test keys (Some f) =
    option_map (λ n. n.now) f.name ∷ flags_read s keys (keys_at test f.rest.now)

-- ---- what a job is given

abbrev pub given_of : PartsState → ℕ → NodeParts → GivenContent
given_of s test (parts.Space init threads locations) =
    ForSpace (parts_of init.now threads.now locations.now)
given_of s test (parts.Item item) =
    ForItem (role_shape (shared_role item.now)) (shared_outputs item.now)
given_of s test (parts.Verdict condition observed keys) =
    ForVerdict (asked condition.now observed.now (flags_read s (keys_at test keys.now)
    (keys_at test keys.now)))
given_of s test (parts.Fault condition fault) = ForFault (faulted condition.now fault)
