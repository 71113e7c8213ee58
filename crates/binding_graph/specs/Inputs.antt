-- The names of other items that expressions use, the latest first: a name's index is the number of
-- those behind it, so it stays the same as more are used.
use Rattle.std.specs.Prelude.{◌≡◌, ℕ, ◌==◌, nat_le, List, [], ◌∷◌, length, map, reverse, if◌then◌else◌, Option, Some, None, is_some, get_or}
use Rattle.binding_kinds.specs.declared.scope.Input.{Input}
use Rattle.binding_kinds.specs.declared.scope.Used.{Used}
use Rattle.binding_kinds.specs.declared.scope.Found.{Found}
use Rattle.binding_kinds.specs.declared.scope.Binder.{Binder}
use Rattle.binding_kinds.specs.declared.scope.Binder.TheVariants as binders

-- the index of the name with that slot
abbrev pub index_of : List Used → ℕ → Option ℕ
index_of [] slot = None
index_of (u ∷ us) slot = if u.slot == slot then Some (length us) else index_of us slot

-- one more name, unless it is there
abbrev pub with_used : List Used → Used → List Used
with_used us u = if is_some (index_of us u.slot) then us else u ∷ us

-- A name counts where another item binds it.
abbrev pub with_binder : List Used → ℕ → Binder → List Used
with_binder us slot (binders.Predefined p) = us
with_binder us slot (binders.Bound i) = with_used us (record { slot = slot; input = i })
with_binder us slot (binders.Applicable f) = us

-- The names of the item itself have the slot `from` and those behind it.
abbrev pub with_found : List Used → ℕ → Found → List Used
with_found us from f = if nat_le from f.slot then us else with_binder us f.slot f.binder

abbrev pub with_name : List Used → ℕ → Option Found → List Used
with_name us from None = us
with_name us from (Some f) = with_found us from f

-- what the names used are in their items, in the order of first use
abbrev pub inputs_of : List Used → List Input
inputs_of us = map (λ u. u.input) (reverse us)

-- the table has the index of each name used
abbrev pub IsIndexed : List (Option ℕ) → List Used → Type 0
IsIndexed indexes values = (slot : ℕ) → get_or indexes slot None ≡ index_of (reverse values) slot
