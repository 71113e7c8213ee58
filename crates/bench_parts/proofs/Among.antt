-- Parts and flags among the inputs of a node.
use Rattle.std.proofs.Common.{ℕ, ◌≡◌, Bool, List, [], ◌∷◌, Option, Some, None, refl}
use Rattle.bench_nodes.specs.declared.table.SlotKey.{SlotKey}
use Rattle.bench_nodes.specs.declared.table.SlotKey.TheVariants as slots
use Rattle.bench_nodes.specs.Nodes.{keys_at}
use Rattle.bench_parts.specs.Contents.{PartContent, PartsState, content}
use Rattle.bench_parts.specs.States.{contents, is_read, flags_read}
use Rattle.bench_parts.specs.Views.{FoundPart, first_part}

-- ---- the first part

abbrev pub contents_at : PartsState → ℕ → Option FoundPart → List (Option PartContent)
contents_at s test None = []
contents_at s test (Some p) = content s p.part p.of ∷ contents s (keys_at test p.rest)

pub contents_are : (s : PartsState) (test : ℕ) (ks : List SlotKey)
    → contents s (keys_at test ks) ≡ contents_at s test (first_part test ks)
contents_are s test [] = refl
contents_are s test (slots.Test part ∷ ks) = refl
contents_are s test (slots.Item number ∷ ks) = refl
contents_are s test (slots.Fault id ∷ ks) = refl
contents_are s test (slots.Value kind of name ∷ ks) = contents_are s test ks

-- ---- flags

abbrev pub read_from : ℕ → List SlotKey → ℕ → Bool
read_from test ks item = is_read (keys_at test ks) item

abbrev pub flags_of : PartsState → ℕ → List SlotKey → List SlotKey → List (Option (List ℕ))
flags_of s test all ks = flags_read s (keys_at test all) (keys_at test ks)
