-- What is known of a model's items on the way through them.
use Rattle.std.specs.Prelude.{◌≡◌, ℕ, suc, ◌<◌, ◌≤◌, Bool, List, [], length, map, reverse, take, Option, Some, None, Vec, vec_len, slice_get, slice_index_or, Contains}
use Rattle.std.specs.List.{filter_map}
use Rattle.std.specs.declared.alloc.Global.{Global}
use denote.Ref.{Bor}
use Rattle.binding_kinds.specs.declared.scope.Input.{Input}
use Rattle.binding_graph.specs.declared.resolved.ResolvedItem.{ResolvedItem}
use Rattle.binding_graph.specs.declared.resolved.Role.{Role}
use Rattle.binding_graph.specs.declared.resolved.Role.TheVariants as roles
use Rattle.binding_graph.specs.Reach.{IsReached}
use Rattle.candidate_spaces.specs.Space.{shown_in}
use Rattle.candidate_spaces.specs.declared.candidate.Space.{Space}
use Rattle.cat_machine.specs.declared.column.Column.{Column}
use Rattle.from_scratch.specs.declared.cell.ItemAnswers.{ItemAnswers}
use Rattle.from_scratch.specs.declared.cell.FlagAnswer.{FlagAnswer}
use Rattle.cat_machine.specs.Columns.{ColumnsOf}
use Rattle.cat_machine.specs.Values.{AnswersOf}
use Rattle.outcome_states.specs.Kept.{Flag, AreKeptBy}
use Rattle.from_scratch.specs.Answers.{IsSaidBy, AreItemColumns, AreSaid}

abbrev pub column_in : Option (Vec Column Global) → ℕ → Option Column
column_in None position = None
column_in (Some names) position = slice_get names.items position

-- the column of a name among those of all items
abbrev pub column_of : List (Vec Column Global) → Input → Option Column
column_of columns name = column_in (slice_get columns name.item) name.position

-- the columns of these names, where they are known
abbrev pub AreFound : List (Vec Column Global) → List Input → List (Bor Column) → Type 0
AreFound columns names found = map (λ c. c.now) found ≡ filter_map (column_of columns) names

abbrev pub kept_of : ItemAnswers → List Bool
kept_of a = a.kept.items

abbrev pub of_flags : List FlagAnswer → List Flag
of_flags flags = map (λ f. (f.name.now, f.holds.items)) flags

abbrev pub flags_of : ItemAnswers → List Flag
flags_of a = of_flags a.flags.items

-- the columns that are known at that index
abbrev pub ColumnsAt : ItemAnswers → ℕ → (List Column → Type 0) → Type 0
ColumnsAt a index P = (d : Vec Column Global) → P (slice_index_or a.columns.items index d).items

-- the columns of each item that checks and flags reach are known
abbrev pub HasAllColumns : Space → List ResolvedItem → ItemAnswers → Type 0
HasAllColumns space items a =
    (j : ℕ) → j < length items → IsReached items j
    → ColumnsAt a j (AreItemColumns space (reverse items) j)

-- the item gives columns
abbrev pub IsGroup : Role → Type 0
IsGroup (roles.Group recursive bodies) = Unit {0}
IsGroup (roles.Check check) = ⊥
IsGroup roles.Silent = ⊥

-- the item at that index is a group that checks and flags reach
abbrev pub IsReachedGroup : List ResolvedItem → ℕ → Type 0
IsReachedGroup items j =
    (r : ResolvedItem) × (slice_get items j ≡ Some r) × IsGroup r.role × IsReached items j

-- no other item has columns
abbrev pub HasNoOtherColumns : List ResolvedItem → ItemAnswers → Type 0
HasNoOtherColumns items a =
    (j : ℕ) → j < length items → (IsReachedGroup items j → ⊥) → ColumnsAt a j (λ cs. cs ≡ [])

-- on these candidates of a space all of these checks hold
abbrev pub AreKeptIn : Space → List (List Bool) → List Bool → Type 0
AreKeptIn space checks kept = AreKeptBy checks (length (shown_in space)) kept

-- on which candidates all checks among the items hold, and the answers of the flags among them
abbrev pub AreKeptAndFlagged : Space → List ResolvedItem → List Bool → List Flag → Type 0
AreKeptAndFlagged space rs kept flags =
    (checks : List (List Bool)) × AreSaid space rs checks flags × AreKeptIn space checks kept

-- what the item at that index gives, from what was known, is known too
pub record IsAnswered (space : Space) (index : ℕ) (r : ResolvedItem) (old new : ItemAnswers)
    : Type 0 where
  pub inputs : List (Bor Column)
  pub found : AreFound old.columns.items r.inputs.items inputs
  pub count : vec_len new.columns ≡ vec_len old.columns
  pub others : (j : ℕ) → (j ≡ index → ⊥) → (d : Vec Column Global)
      → slice_index_or new.columns.items j d ≡ slice_index_or old.columns.items j d
  pub here : index < vec_len old.columns → ColumnsAt old index (λ cs. cs ≡ [])
      → ColumnsAt new index (ColumnsOf r.role inputs space)
  pub said : (checks : List (List Bool)) → AreKeptIn space checks (kept_of old)
      → (more : List (List Bool)) × AreKeptIn space more (kept_of new)
      × IsSaidBy r.role (AnswersOf r.role inputs space)
      (λ cs fs. (cs ≡ checks) × (fs ≡ flags_of old)) more (flags_of new)

-- of the items before that number, the columns of those at these indexes are known, and the answers
-- of all
pub record AreKnown (space : Space) (items : List ResolvedItem) (indexes : List ℕ) (n : ℕ)
    (a : ItemAnswers) : Type 0 where
  pub count : vec_len a.columns ≡ length items
  pub values : (j : ℕ) → j < n → Contains indexes j
      → ColumnsAt a j (AreItemColumns space (reverse (take (suc j) items)) j)
  pub empty : (j : ℕ) → n ≤ j → j < length items → ColumnsAt a j (λ cs. cs ≡ [])
  pub said : AreKeptAndFlagged space (reverse (take n items)) (kept_of a) (flags_of a)

-- that many of the indexes are behind, which rise
pub record AreKnownTo (space : Space) (items : List ResolvedItem) (indexes : List ℕ) (p : ℕ)
    (a : ItemAnswers) : Type 0 where
  pub number : ℕ
  pub within : number ≤ length items
  pub below : (q d : ℕ) → q < p → slice_index_or indexes q d < number
  pub above : (q d : ℕ) → p ≤ q → q < length indexes → number ≤ slice_index_or indexes q d
  pub known : AreKnown space items indexes number a
