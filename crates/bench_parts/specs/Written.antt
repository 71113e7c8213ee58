-- States with their models as these are written: what the stamps of parts go by (`part_content`),
-- what such a state owes (`IsWholeState`), when one came of another (`IsStateSince`), and what an
-- edit does (`IsStamped`). Read it after States and Built.
use Rattle.std.specs.Prelude.{◌≡◌, ⊤, ℕ, ◌<◌, ◌≤◌, ◌⊎◌, ◌==◌, List, [], ◌∷◌, ◌++◌, length, map, Option, Some, None, slice_get, if◌then◌else◌}
use Rattle.std.specs.Option.{option_or}
use Rattle.std.specs.List.{AllByRecursion as Each}
use Rattle.text_values.specs.declared.model.Item.{Item}
use Rattle.predefined_names.specs.declared.predefined.TheConstants.{PREDEFINED}
use Rattle.text_values.specs.ModelValues.{clause_of}
use Rattle.memo_core.specs.Step.{Has}
use Rattle.binding_graph.specs.declared.resolved.ResolvedItem.{ResolvedItem}
use Rattle.binding_laws.specs.Reread as reread
use Rattle.binding_laws.specs.Reread.{ReadModel, outer_namings}
use Rattle.bench_items.specs.Naming.{SeenName}
use Rattle.bench_nodes.specs.Nodes.{part_stamp}
use Rattle.bench_slots.specs.Tables.{ModelReading, Sound, Faulty}
use Rattle.bench_parts.specs.Built.{IsBuilt}
use Rattle.bench_parts.specs.States as states
use Rattle.bench_parts.specs.Contents.{PartContent, OfText, PartsState, content, histories}

-- ---- states

-- a model: its items with their numbers, as they are written, and how it is read
pub record WrittenModel : Type 0 where
  pub numbers : List ℕ
  pub items : List Item
  pub reading : ModelReading

-- a state, the models that it is of, and the number that the next new item is given
pub record WrittenState : Type 0 where
  pub state : PartsState
  pub models : List WrittenModel
  pub next : ℕ

-- ---- what the stamps of parts go by

-- the text of the item of that number
abbrev pub text_in : List ℕ → List Item → ℕ → Option PartContent
text_in [] items number = None
text_in (n ∷ ns) [] number = None
text_in (n ∷ ns) (x ∷ xs) number =
    if n == number then Some (OfText (clause_of x)) else text_in ns xs number

abbrev pub item_text : List WrittenModel → ℕ → Option PartContent
item_text [] number = None
item_text (m ∷ ms) number = option_or (text_in m.numbers m.items number) (item_text ms number)

-- of an item its text, whatever that is resolved to; of a model its fault; and the parts of a test
abbrev pub part_content : WrittenState → ℕ → ℕ → Option PartContent
part_content w part of = if part == 0 then item_text w.models of else content w.state part of

-- ---- items

-- the item at that index has that number
abbrev pub StandsAt : WrittenModel → ℕ → ℕ → Type 0
StandsAt m index number = slice_get m.numbers index ≡ Some number

-- an item of that number is there
pub record IsHere (w : WrittenState) (number : ℕ) : Type 0 where
  pub model : WrittenModel
  pub index : ℕ
  pub there : Has w.models model
  pub stands : StandsAt model index number

-- two items are of one model, the first before the second
pub record Precedes (w : WrittenState) (first second : ℕ) : Type 0 where
  pub model : WrittenModel
  pub from : ℕ
  pub to : ℕ
  pub there : Has w.models model
  pub first_at : StandsAt model from first
  pub second_at : StandsAt model to second
  pub before : from < to

-- ---- what such a state owes

-- the model with what its items are resolved to
abbrev pub read_model : WrittenModel → List ResolvedItem → ReadModel
read_model m items = record { numbers = m.numbers; items = m.items; resolved = items }

-- a model that is read without fault has none as it is written, and its items are those of the
-- reading
abbrev pub IsReadAs : WrittenModel → ModelReading → Type 0
IsReadAs m (Sound id numbers items used) =
    (numbers ≡ m.numbers) × reread.IsReadModel (outer_namings PREDEFINED) (read_model m items)
IsReadAs m (Faulty id fault) = ⊤

abbrev pub IsPaired : WrittenModel → Type 0
IsPaired m = length m.items ≡ length m.numbers

-- the state is that of its models, which are read as they are written; items have numbers of their
-- own, below the next; what has no stamp is not there
pub record IsWholeState (w : WrittenState) : Type 0 where
  pub built : IsBuilt w.state (map (λ m. m.reading) w.models)
  pub read : Each (λ m. IsReadAs m m.reading) w.models
  pub paired : Each IsPaired w.models
  pub apart : (m n : WrittenModel) (a b number : ℕ) → Has w.models m → Has w.models n
      → StandsAt m a number → StandsAt n b number → (m ≡ n) × (a ≡ b)
  pub low : (number : ℕ) → IsHere w number → number < w.next
  pub gone : (part of : ℕ) → part_stamp w.state.parts.table part of ≡ 0
      → part_content w part of ≡ None

-- ---- what edits do

-- Items of one model that are still there are so of one model, in one order. A new item has a
-- number that none had before. A history grows at its end alone.
pub record WrittenItemsGoOn (w v : WrittenState) : Type 0 where
  pub order : (first second : ℕ) → Precedes w first second → IsHere v first → IsHere v second
      → Precedes v first second
  pub numbers : (number : ℕ) → IsHere v number → IsHere w number ⊎ (w.next ≤ number)
  pub next : w.next ≤ v.next
  pub grown : (number : ℕ) → IsHere w number → IsHere v number
      → (more : List SeenName) × (histories v.state number ≡ histories w.state number ++ more)

-- the later state came of the earlier one: a part that has one stamp in both holds the same
pub record IsStateSince (w v : WrittenState) : Type 0 where
  pub whole : IsWholeState w
  pub still_whole : IsWholeState v
  pub later : w.state.parts.last ≤ v.state.parts.last
  pub same : (part of : ℕ)
      → part_stamp v.state.parts.table part of ≡ part_stamp w.state.parts.table part of
      → part_content v part of ≡ part_content w part of
  pub items : WrittenItemsGoOn w v

-- a part is as it was, has the edit's number, or is gone
abbrev pub IsPartAfter : WrittenState → ℕ → WrittenState → ℕ → ℕ → Type 0
IsPartAfter w number v part of =
    ((part_stamp v.state.parts.table part of ≡ part_stamp w.state.parts.table part of)
    × (part_content v part of ≡ part_content w part of))
    ⊎ (part_stamp v.state.parts.table part of ≡ number)
    ⊎ (part_stamp v.state.parts.table part of ≡ 0)

-- a part has its stamp of before
abbrev pub KeepsStamp : PartsState → PartsState → ℕ → ℕ → Type 0
KeepsStamp s t part of = part_stamp t.parts.table part of ≡ part_stamp s.parts.table part of

-- a part that holds what it held has its stamp of before
abbrev pub EqualPartsKeepStamps : WrittenState → WrittenState → ℕ → Type 0
EqualPartsKeepStamps w v part =
    (of : ℕ) (c : PartContent) → part_content w part of ≡ Some c → part_content v part of ≡ Some c
    → KeepsStamp w.state v.state part of

-- the state after an edit, as to stamps
pub record IsStamped (w : WrittenState) (number : ℕ) (v : WrittenState) : Type 0 where
  pub above : w.state.parts.last < number
  pub last : v.state.parts.last ≡ number
  pub whole : IsWholeState w → IsWholeState v
  pub parts : (part of : ℕ) → IsPartAfter w number v part of
  pub items : WrittenItemsGoOn w v

-- ---- the same state, wherever it lies in memory

pub record IsSameWritten (w v : WrittenState) : Type 0 where
  pub state : states.IsSamePartsState w.state v.state
  pub models : v.models ≡ w.models
  pub next : v.next ≡ w.next
