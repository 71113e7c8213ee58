-- What nodes are given and make, and what a state owes.
use Rattle.std.specs.Prelude.{◌≡◌, ⊤, ℕ, ◌≤◌, ◌==◌, ◌&&◌, ◌||◌, Bool, true, false, is_some, List, [], ◌∷◌, ◌++◌, Option, Some, None, if◌then◌else◌}
use Rattle.std.specs.List.{zip, AllByRecursion as Each}
use Rattle.text_values.specs.declared.test.InitEntry.{InitEntry}
use Rattle.text_values.specs.declared.test.Place.{Place}
use Rattle.text_values.specs.declared.test.Quantifier.{Quantifier}
use Rattle.text_values.specs.declared.test.Step.{Step}
use Rattle.text_values.specs.TestValue.{Formula}
use Rattle.memo_core.specs.declared.keys.Kind.{Kind}
use Rattle.memo_core.specs.declared.keys.Kind.TheVariants as kinds
use Rattle.memo_core.specs.declared.keys.Key.{Key}
use Rattle.memo_core.specs.declared.keys.Key.TheVariants.{Part, Output}
use Rattle.memo_core.specs.declared.keys.Node.{Node}
use Rattle.memo_core.specs.Graph.{Net}
use Rattle.memo_core.specs.Names.{kind_number}
use Rattle.memo_core.specs.Right.{Making}
use Rattle.memo_core.specs.Step.{Has}
use Rattle.binding_shapes.specs.Shapes.{role_shape}
use Rattle.bench_values.specs.Givens.{GivenContent, ForSpace, ForItem, ForVerdict, ForFault}
use Rattle.bench_items.specs.Items.{Check}
use Rattle.bench_items.specs.Naming.{item_outputs}
use Rattle.bench_values.specs.Makes.{Makes, output_names}
use Rattle.bench_values.specs.Values.{NodeContent}
use Rattle.bench_nodes.specs.declared.table.ItemRow.{ItemRow}
use Rattle.bench_nodes.specs.declared.table.ModelRow.{ModelRow}
use Rattle.bench_nodes.specs.Nodes.{part_stamp, used, inputs, has_test_row, net_of}
use Rattle.bench_nodes.specs.Order.{IsTableOrdered}
use Rattle.bench_parts.specs.declared.parts.Parts.{Parts}
use Rattle.bench_parts.specs.Contents.{PartContent, OfRole, OfFault, OfCondition, OfObserved, OfLocations, OfInit, OfThread, PartsState, content}
use Rattle.bench_parts.specs.Equal.{same_given}

-- ---- what a job is given of the parts among its node's inputs

-- what jobs are given of the parts among some inputs, in order
abbrev pub contents : PartsState → List Key → List (Option PartContent)
contents s [] = []
contents s (Part part of ∷ ks) = content s part of ∷ contents s ks
contents s (Output n x ∷ ks) = contents s ks

-- initial values, threads, and locations at the end
abbrev pub space_given : List InitEntry → List (List Step) → List (Option PartContent)
    → Option GivenContent
space_given init threads (Some (OfThread steps) ∷ cs) = space_given init (threads ++ steps ∷ []) cs
space_given init threads (Some (OfLocations locations) ∷ cs) =
    Some (ForSpace (record { init = init; threads = threads; locations = locations }))
space_given init threads _ = None

-- the text of that item is among some inputs
abbrev pub is_read : List Key → ℕ → Bool
is_read [] item = false
is_read (Part part of ∷ ks) item = ((part == 0) && (of == item)) || is_read ks item
is_read (Output n x ∷ ks) item = is_read ks item

-- the name of a flag
abbrev pub flag_name : Option PartContent → Option (List ℕ)
flag_name (Some (OfRole (Check negated word code flag) history)) = flag
flag_name _ = None

-- that of the item of that number, whose text is among some inputs where it is a flag
abbrev pub flag_read : PartsState → List Key → ℕ → Option (List ℕ)
flag_read s keys item = if is_read keys item then flag_name (content s 0 item) else None

-- the node is that of a check or a flag
abbrev pub is_answer : Kind → Bool
is_answer kinds.Space = false
is_answer kinds.Group = false
is_answer kinds.Check = true
is_answer kinds.Verdict = false

-- for each check and flag among some inputs, in order, the name of the flag
abbrev pub flags_read : PartsState → List Key → List Key → List (Option (List ℕ))
flags_read s keys [] = []
flags_read s keys (Part part of ∷ ks) = flags_read s keys ks
flags_read s keys (Output n x ∷ ks) =
    if is_answer n.kind then flag_read s keys n.of ∷ flags_read s keys ks else flags_read s keys ks

abbrev pub asked_with : Quantifier → Formula → List Place → List (Option (List ℕ)) → GivenContent
asked_with kind proposition observed flags =
    ForVerdict (record {
      kind = kind;
      proposition = proposition;
      observed = observed;
      flags = flags;
    })

-- a condition, and then what is observed, or the fault of a model
abbrev pub verdict_given : Quantifier → Formula → List (Option PartContent) → List (Option (List ℕ))
    → Option GivenContent
verdict_given kind proposition (Some (OfObserved observed) ∷ cs) flags =
    Some (asked_with kind proposition observed flags)
verdict_given kind proposition (Some (OfFault fault) ∷ cs) flags =
    Some (ForFault (record { kind = kind; proposition = proposition; fault = fault }))
verdict_given kind proposition _ flags = None

-- a space begins with initial values, an item with what it does, given without kinds, of which the
-- history numbers the outputs, a verdict with a condition
abbrev pub given_space : List (Option PartContent) → Option GivenContent
given_space (Some (OfInit init) ∷ cs) = space_given init [] cs
given_space _ = None

abbrev pub given_item : List (Option PartContent) → Option GivenContent
given_item (Some (OfRole role history) ∷ cs) =
    Some (ForItem (role_shape role) (item_outputs role history))
given_item _ = None

abbrev pub given_verdict : List (Option PartContent) → List (Option (List ℕ)) → Option GivenContent
given_verdict (Some (OfCondition kind proposition) ∷ cs) flags =
    verdict_given kind proposition cs flags
given_verdict _ flags = None

-- by the kind of the node, of its inputs
abbrev pub given_by : PartsState → Kind → List Key → Option GivenContent
given_by s kinds.Space ks = given_space (contents s ks)
given_by s kinds.Group ks = given_item (contents s ks)
given_by s kinds.Check ks = given_item (contents s ks)
given_by s kinds.Verdict ks = given_verdict (contents s ks) (flags_read s ks ks)

-- what a job of the node is given, if the node is there
abbrev pub given_to_node : PartsState → Node → Option GivenContent
given_to_node s n = given_by s n.kind (inputs s.parts.table n)

abbrev pub is_given : Option GivenContent → GivenContent → Bool
is_given None g = false
is_given (Some h) g = same_given h g

abbrev pub net_in : PartsState → Net GivenContent
net_in s = net_of s.parts.table (λ n g. is_given (given_to_node s n) g)

-- ---- what a job makes

-- the values that it gives, each beside the number by which it goes
abbrev pub makes : Making NodeContent GivenContent
makes n g keys values outputs =
    (vs : List NodeContent) × Makes g values vs × (outputs ≡ zip (output_names g) vs)

-- ---- what a state owes

-- an output among inputs is one that its node gives
abbrev pub HasOutput : PartsState → Key → Type 0
HasOutput s (Part part of) = ⊤
HasOutput s (Output n x) = (g : GivenContent) → given_to_node s n ≡ Some g → Has (output_names g) x

pub record IsValidState (s : PartsState) : Type 0 where
  pub ordered : IsTableOrdered s.parts.table
  pub outputs : (n : Node) → Has (used s.parts.table) n
      → Each (HasOutput s) (inputs s.parts.table n)
  pub gives : (n : Node) → Has (used s.parts.table) n → is_some (given_to_node s n) ≡ true
  pub empty : (part of : ℕ) → part_stamp s.parts.table part of ≡ 0 → content s part of ≡ None
  pub low : (part of : ℕ) → part_stamp s.parts.table part of ≤ s.parts.last

-- the node is used, in a valid state
pub record IsUsedNode (s : PartsState) (n : Node) : Type 0 where
  pub valid : IsValidState s
  pub is_used : Has (used s.parts.table) n

-- ---- which nodes may keep what they hold

abbrev pub is_kind : Kind → Option Kind → Bool
is_kind kind None = false
is_kind kind (Some k) = kind_number kind == kind_number k

-- the item of that number is a node of that kind by its text
abbrev pub has_kind : List ItemRow → List (Option Kind) → Kind → ℕ → Bool
has_kind [] ks kind number = false
has_kind (i ∷ is) [] kind number = false
has_kind (i ∷ is) (k ∷ ks) kind number =
    if i.number == number then is_kind kind k else has_kind is ks kind number

abbrev pub has_model : List ModelRow → ℕ → Bool
has_model [] id = false
has_model (m ∷ ms) id = (id == m.id) || has_model ms id

-- the item or model of that number is there, for a node of that kind
abbrev pub has_own : Parts → Kind → ℕ → Bool
has_own p kinds.Space of = true
has_own p kinds.Group of = has_kind p.table.items.items p.kinds.items kinds.Group of
has_own p kinds.Check of = has_kind p.table.items.items p.kinds.items kinds.Check of
has_own p kinds.Verdict of = has_model p.table.models.items of

-- its test is there, and the item or model whose node it is, also where the model has a fault or
-- nothing uses the node
abbrev pub keeps : Parts → Node → Bool
keeps p n = has_test_row p.table.tests.items n.test && has_own p n.kind n.of

-- the item of that number is among these, as a node of the kind that it is, if it is one
abbrev pub keeps_kind : List ItemRow → List (Option Kind) → Option Kind → ℕ → Bool
keeps_kind is ks None number = true
keeps_kind is ks (Some kind) number = has_kind is ks kind number

-- so it is for each of the first items among the second
abbrev pub keep_kinds : List ItemRow → List (Option Kind) → List ItemRow → List (Option Kind) → Bool
keep_kinds [] ks js ls = true
keep_kinds (i ∷ is) [] js ls = true
keep_kinds (i ∷ is) (k ∷ ks) js ls = keeps_kind js ls k i.number && keep_kinds is ks js ls

-- each of the first models is among the second
abbrev pub keep_models : List ModelRow → List ModelRow → Bool
keep_models [] ns = true
keep_models (m ∷ ms) ns = has_model ns m.id && keep_models ms ns

-- ---- the same state, wherever it lies in memory

pub record IsSamePartsState (s t : PartsState) : Type 0 where
  pub tests : t.tests ≡ s.tests
  pub test_rows : t.parts.table.tests.items ≡ s.parts.table.tests.items
  pub locations : t.parts.locations.items ≡ s.parts.locations.items
  pub model_rows : t.parts.table.models.items ≡ s.parts.table.models.items
  pub faults : t.parts.faults.items ≡ s.parts.faults.items
  pub item_rows : t.parts.table.items.items ≡ s.parts.table.items.items
  pub roles : t.parts.roles.items ≡ s.parts.roles.items
  pub kinds : t.parts.kinds.items ≡ s.parts.kinds.items
  pub slots : t.parts.table.slots.items ≡ s.parts.table.slots.items
  pub last : t.parts.last ≡ s.parts.last
