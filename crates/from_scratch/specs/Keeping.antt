-- How long the columns of names are kept.
use Rattle.std.specs.Prelude.{◌≡◌, ℕ, ◌+◌, ◌<◌, ◌≤◌, ◌⊎◌, Bool, false, List, length, Option, Some, None, option_map, option_and_then, Vec, vec_len, slice_get, slice_index_or, Contains}
use Rattle.std.specs.declared.alloc.Global.{Global}
use Rattle.binding_kinds.specs.declared.scope.Input.{Input}
use Rattle.binding_graph.specs.declared.resolved.ResolvedItem.{ResolvedItem}
use Rattle.candidate_spaces.specs.declared.candidate.Space.{Space}
use Rattle.cat_machine.specs.declared.column.Column.{Column}
use Rattle.cat_eval.specs.Wanted.{is_wanted}
use Rattle.from_scratch.specs.declared.cell.ItemAnswers.{ItemAnswers}
use Rattle.from_scratch.specs.declared.keeping.LastUsers.{LastUsers}
use Rattle.from_scratch.specs.Known.{column_of, kept_of, flags_of, IsAnswered, AreKnownTo}

-- the slot of a name: it is the slot of another name, or none, where the item has no name at the
-- position
abbrev pub slot_of : LastUsers → Input → Option ℕ
slot_of last name =
    option_map (λ first. first + name.position) (slice_get last.first_slots.items name.item)

-- the last user of the name, if it is noted
abbrev pub last_user : LastUsers → Input → Option ℕ
last_user last name = option_and_then (λ slot. slice_get last.users.items slot) (slot_of last name)

abbrev pub IsBelow : ℕ → Option ℕ → Type 0
IsBelow n None = ⊥
IsBelow n (Some user) = user < n

-- no item from that number on uses the name
abbrev pub IsGone : LastUsers → ℕ → Input → Type 0
IsGone last n name = IsBelow n (last_user last name)

-- each name has users to the end
abbrev pub KeepsAll : LastUsers → Type 0
KeepsAll last = (name : Input) → last_user last name ≡ None

-- the user is noted of these names, and of some others that share their slots
pub record Notes (user : ℕ) (P : Input → Type 0) (old new : LastUsers) : Type 0 where
  pub named : (name : Input) (l : ℕ) → P name → last_user new name ≡ Some l → l ≡ user
  pub others : (name : Input) (l : ℕ) → last_user new name ≡ Some l
      → (last_user old name ≡ Some l) ⊎ (l ≡ user)

-- the item at that index uses the name
abbrev pub HasInput : List ResolvedItem → ℕ → Input → Type 0
HasInput items k name =
    (r : ResolvedItem) × (slice_get items k ≡ Some r) × Contains r.inputs.items name

-- no item at these indexes that uses a name is behind the last user of the name
abbrev pub AreLast : List ResolvedItem → List ℕ → LastUsers → Type 0
AreLast items indexes last =
    (k : ℕ) (name : Input) (l : ℕ) → Contains indexes k → HasInput items k name
    → last_user last name ≡ Some l → k ≤ l

-- the columns of these names may be others, and all other columns stay
pub record LetsGo (P : Input → Type 0) (old new : Vec (Vec Column Global) Global) : Type 0 where
  pub count : vec_len new ≡ vec_len old
  pub long : (j : ℕ) (d : Vec Column Global)
      → length (slice_index_or new.items j d).items ≡ length (slice_index_or old.items j d).items
  pub others : (name : Input) → (P name → ⊥) → column_of new.items name ≡ column_of old.items name

-- of the names of the item at that index, no item behind it uses one that is not wanted
abbrev pub AreEnough : LastUsers → ℕ → List Bool → Type 0
AreEnough last at wanted =
    (position : ℕ) → is_wanted wanted position ≡ false
    → IsGone last (at + 1) (record { item = at; position = position })

-- the item at that index binds the name, and it is not wanted
abbrev pub IsLeftOut : List Bool → ℕ → Input → Type 0
IsLeftOut wanted at name = (name.item ≡ at) × (is_wanted wanted name.position ≡ false)

-- what the item at that index gives, from what was known, is known too, but for columns of these
-- names
abbrev pub IsAnsweredBut : (Input → Type 0) → Space → ℕ → ResolvedItem → ItemAnswers → ItemAnswers
    → Type 0
IsAnsweredBut P space at r old new =
    (whole : ItemAnswers) × IsAnswered space at r old whole × LetsGo P whole.columns new.columns
    × (kept_of new ≡ kept_of whole) × (flags_of new ≡ flags_of whole)

-- the first is what is known where nothing is let go, and the second has the same columns of names
-- that items from that number on use
pub record AreAlike (last : LastUsers) (n : ℕ) (whole a : ItemAnswers) : Type 0 where
  pub columns : LetsGo (IsGone last n) whole.columns a.columns
  pub kept : kept_of a ≡ kept_of whole
  pub flags : flags_of a ≡ flags_of whole

-- that many of the indexes are behind, and what is known where nothing is let go is known here, but
-- for columns that no later item uses
pub record AreKeptTo (space : Space) (items : List ResolvedItem) (last : LastUsers)
    (indexes : List ℕ) (p : ℕ) (a : ItemAnswers) : Type 0 where
  pub whole : ItemAnswers
  pub known : AreKnownTo space items indexes p whole
  pub number : ℕ
  pub above : (q d : ℕ) → p ≤ q → q < length indexes → number ≤ slice_index_or indexes q d
  pub alike : AreAlike last number whole a
