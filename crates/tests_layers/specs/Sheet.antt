-- What a sheet means to the memo core: its parts, nodes, inputs, and what running a node makes.
use Rattle.std.specs.Prelude.{◌≡◌, ◌⊎◌, ◌<◌, ◌≤◌, ℕ, zero, suc, ◌+◌, ◌/◌, ◌%◌, ◌^◌, length, Bool, true, false, ◌==◌, List, [], ◌∷◌, Option, Some, None, is_some, if◌then◌else◌}
use Rattle.memo_core.specs.declared.keys.Kind.{Kind}
use Rattle.memo_core.specs.declared.keys.Kind.TheVariants.{Space, Group, Check, Verdict}
use Rattle.memo_core.specs.declared.keys.Node.{Node}
use Rattle.memo_core.specs.declared.keys.Key.{Key}
use Rattle.memo_core.specs.declared.keys.Key.TheVariants.{Part, Output}
use Rattle.memo_core.specs.Names.{same_node}
use Rattle.memo_core.specs.Graph.{Net, stamp_or_zero}
use Rattle.tests_layers.specs.declared.benches.rows.Row.{Row}
use Rattle.tests_layers.specs.declared.benches.sheet.Sheet.{Sheet}
use Rattle.tests_layers.specs.declared.benches.sheet.Change.{Change}
use Rattle.tests_layers.specs.declared.benches.sheet.Change.TheVariants.{Put, Remove, SetBase}
use Rattle.tests_layers.specs.declared.benches.sheet.Prepared.{Prepared}
use Rattle.tests_layers.specs.declared.benches.sheet.SheetFault.{SheetFault}
use Rattle.tests_layers.specs.declared.benches.sheet.SheetFault.TheVariants.{Missing, Spent, OutOfMemory}
use Rattle.tests_layers.specs.Rows.{row_of, IsHere, put_row, without_row}

-- the node that keeps the tens of the base, on which every cell stands
abbrev pub tens : Node
tens = record { kind = Space; test = 0; of = 0 }

-- the cell of a row
abbrev pub cell_of : ℕ → Node
cell_of t = record { kind = Verdict; test = t; of = 0 }

abbrev pub cells_of : List Row → List Node
cells_of [] = []
cells_of (r ∷ rs) = cell_of r.name ∷ cells_of rs

abbrev pub part_in : List Row → ℕ → ℕ → ℕ → ℕ
part_in rows stamp zero t = stamp_or_zero (row_of t rows)
part_in rows stamp (suc part) t = stamp

abbrev pub holds_number : Option (ℕ × ℕ) → ℕ → Bool
holds_number None g = false
holds_number (Some r) g = g == r.1

-- the node of the tens is given the base, a cell its row's number
abbrev pub gives_in : List Row → ℕ → Kind → ℕ → ℕ → Bool
gives_in rows base Space t g = g == base
gives_in rows base Group t g = false
gives_in rows base Check t g = false
gives_in rows base Verdict t g = holds_number (row_of t rows) g

abbrev pub sheet_inputs : Kind → ℕ → List Key
sheet_inputs Space t = Part 1 0 ∷ []
sheet_inputs Group t = []
sheet_inputs Check t = []
sheet_inputs Verdict t = Part 0 t ∷ Output tens 0 ∷ []

abbrev pub sheet_net : Sheet → Net ℕ
sheet_net s =
    record {
      part = part_in s.rows.items s.base_stamp;
      inputs = λ n. sheet_inputs n.kind n.test;
      used = tens ∷ cells_of s.rows.items;
      gives = λ n g. gives_in s.rows.items s.base n.kind n.test g;
    }

abbrev pub first_of : List ℕ → ℕ
first_of [] = 0
first_of (v ∷ vs) = v

abbrev pub result_of : Kind → ℕ → List ℕ → ℕ
result_of Space g vs = g / 10
result_of Group g vs = 0
result_of Check g vs = 0
result_of Verdict g vs = (g + first_of vs) % 2 ^ 64

-- what running a node makes: the one output 0
abbrev pub sheet_makes : Node → ℕ → List Key → List ℕ → List (ℕ × ℕ) → Type 0
sheet_makes n g ks vs os = os ≡ (0, result_of n.kind g vs) ∷ []

abbrev pub is_there : Kind → ℕ → List Row → Type 0
is_there Space t rows = Unit {0}
is_there Group t rows = ⊥
is_there Check t rows = ⊥
is_there Verdict t rows = IsHere (row_of t rows)

-- on the node of the tens every cell stands, and nothing else stands on a node
abbrev pub users_of : Node → List Row → List Node
users_of n rows = if same_node n tens then cells_of rows else []

abbrev pub rank_of : Kind → ℕ
rank_of Space = 0
rank_of Group = 1
rank_of Check = 1
rank_of Verdict = 1

abbrev pub keeps_memo : Kind → ℕ → List Row → Bool
keeps_memo Space t rows = true
keeps_memo Group t rows = false
keeps_memo Check t rows = false
keeps_memo Verdict t rows = is_some (row_of t rows)

abbrev pub rows_after : Change → ℕ → List Row → List Row
rows_after (Put name value) number rows = put_row name value number rows
rows_after (Remove name) number rows = without_row name rows
rows_after (SetBase value) number rows = rows

abbrev pub base_after : Change → ℕ → ℕ
base_after (Put name value) base = base
base_after (Remove name) base = base
base_after (SetBase value) base = value

abbrev pub stamp_after : Change → ℕ → ℕ → ℕ → ℕ
stamp_after (Put name value) number base stamp = stamp
stamp_after (Remove name) number base stamp = stamp
stamp_after (SetBase value) number base stamp = if value == base then stamp else number

-- the node whose inputs or use a change touches, if it changes anything
abbrev pub touched_after : Change → ℕ → Option Node
touched_after (Put name value) base = Some (cell_of name)
touched_after (Remove name) base = Some (cell_of name)
touched_after (SetBase value) base = if value == base then None else Some tens

abbrev pub nodes_touched : Option Node → List Node
nodes_touched None = []
nodes_touched (Some n) = n ∷ []

-- whether a row goes with a change
abbrev pub is_removal : Change → Bool
is_removal (Put name value) = false
is_removal (Remove name) = true
is_removal (SetBase value) = false

-- each row's stamp is that of an edit, and no stamp is above the last edit's number
pub record IsSheetValid (s : Sheet) : Type 0 where
  pub rows : (x stamp v : ℕ) → row_of x s.rows.items ≡ Some (stamp, v)
      → (0 < stamp) × (stamp ≤ s.last)
  pub base : s.base_stamp ≤ s.last

-- the later sheet came of the earlier one: what has not the earlier one's stamp has a later one
pub record IsSheetSince (old new : Sheet) : Type 0 where
  pub valid : IsSheetValid old
  pub last : old.last ≤ new.last
  pub rows : (x stamp v : ℕ) → row_of x new.rows.items ≡ Some (stamp, v)
      → (row_of x old.rows.items ≡ Some (stamp, v)) ⊎ (old.last < stamp)
  pub base : ((new.base_stamp ≡ old.base_stamp) × (new.base ≡ old.base))
      ⊎ (old.last < new.base_stamp)

-- the sheet after a change under its number
pub record IsChanged (old : Sheet) (change : Change) (number : ℕ) (new : Sheet) : Type 0 where
  pub later : old.last < number
  pub last : new.last ≡ number
  pub rows : new.rows.items ≡ rows_after change number old.rows.items
  pub base : new.base ≡ base_after change old.base
  pub stamp : new.base_stamp ≡ stamp_after change number old.base old.base_stamp
  pub touched : new.touched ≡ touched_after change old.base

-- a change that removes a row that is not there
abbrev pub IsMissing : Sheet → Change → Type 0
IsMissing s (Put name value) = ⊥
IsMissing s (Remove name) = row_of name s.rows.items ≡ None
IsMissing s (SetBase value) = ⊥

-- a missing row is refused first, then spent numbers, then want of memory
abbrev pub IsSheetRefused : Sheet → Change → Bool → SheetFault → Type 0
IsSheetRefused s change spent Missing = IsMissing s change
IsSheetRefused s change spent Spent = (IsMissing s change → ⊥) × (spent ≡ true)
IsSheetRefused s change spent OutOfMemory = (IsMissing s change → ⊥) × (spent ≡ false)

-- a prepared change is the change itself, and the sheet has room for one more row
pub record IsSheetPrepared (old : Sheet) (change : Change) (prepared : Prepared) (new : Sheet)
    : Type 0 where
  pub rows : new.rows.items ≡ old.rows.items
  pub base : new.base ≡ old.base
  pub stamp : new.base_stamp ≡ old.base_stamp
  pub last : new.last ≡ old.last
  pub change_is : prepared.change ≡ change
  pub there : IsMissing old change → ⊥
  pub used : prepared.used ≡ length old.rows.items + 2
