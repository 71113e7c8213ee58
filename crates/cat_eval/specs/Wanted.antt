-- Columns of a group of which only those of some names are wanted. `Evaluator::group_wanted` cites
-- it; read `Columns` first.
use Rattle.std.specs.Prelude.{ℕ, ◌≡◌, ◌<◌, Bool, true, false, List, length, slice_index_or}
use denote.Ref.{Bor}
use Rattle.bit_rows.specs.Relation.{Relation, Events}
use Rattle.binding_graph.specs.declared.resolved.Body.{Body}
use Rattle.binding_graph.specs.declared.resolved.Role.{Role}
use Rattle.candidate_spaces.specs.declared.candidate.Space.{Space}
use Rattle.cat_machine.specs.declared.column.Column.{Column}
use Rattle.cat_machine.specs.Columns.{ColumnsOf}
use Rattle.cat_eval.specs.OverNames.{AreColumnsOver}
use Rattle.cat_eval.specs.Runs.{IsBodyColumn}
use Rattle.cat_machine.specs.Seen.{NamedValues}
use Rattle.cat_machine.specs.Steady.{Repeats}
use Rattle.cat_machine.specs.Values.{AddsValue, column_len}

-- whether the name at that position is wanted: a name without an entry is
abbrev pub is_wanted : List Bool → ℕ → Bool
is_wanted wanted position = slice_index_or wanted position true

-- as many columns: where a name is wanted its column, and else one without a value
pub record AreWantedColumns (wanted : List Bool) (whole shown : List Column) : Type 0 where
  pub long : length shown ≡ length whole
  pub same : (j : ℕ) → j < length shown → is_wanted wanted j ≡ true → (c : Column)
      → slice_index_or shown j c ≡ slice_index_or whole j c
  pub empty : (j : ℕ) → j < length shown → is_wanted wanted j ≡ false → (c : Column)
      → column_len (slice_index_or shown j c) ≡ 0

-- the columns of an item that is a group, of the names that are wanted
abbrev pub WantedColumnsOf : List Bool → Role → List (Bor Column) → Space → List Column → Type 0
WantedColumnsOf wanted role inputs space cs =
    (whole : List Column) × ColumnsOf role inputs space whole × AreWantedColumns wanted whole cs

-- the column has what the body means for each of these candidates, if it is wanted, and else no
-- value
abbrev pub IsWantedColumn : Bool → Body → List (Bor Column) → List NamedValues → Column → Type 0
IsWantedColumn wanted body inputs bases shown =
    (whole : Column) × IsBodyColumn body inputs bases whole × (wanted ≡ true → shown ≡ whole)
    × (wanted ≡ false → column_len shown ≡ 0)

-- as `WantedColumnsOf`, over the predefined names that are held for each candidate
abbrev pub AreWantedOver : List Bool → Bool → List Body → List (Bor Column) → List NamedValues
    → List Column → Type 0
AreWantedOver wanted recursive bodies inputs bases cs =
    (whole : List Column) × AreColumnsOver recursive bodies inputs bases whole
    × AreWantedColumns wanted whole cs

-- the column gains one value, or it is the old one
abbrev pub AddsIf : Bool → Column → Column → Events → Relation → Type 0
AddsIf true old new s r = AddsValue old new s r
AddsIf false old new s r = new ≡ old

-- the new column has its last value once more, or it is the old one
abbrev pub RepeatsIf : Bool → Column → Column → Type 0
RepeatsIf true old new = Repeats old new
RepeatsIf false old new = new ≡ old
