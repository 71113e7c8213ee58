-- What the items of a model owe to one another, and which of them checks reach by names. The law
-- `resolved_items_are_closed` says that the items of a model without fault owe it.
use Rattle.std.specs.Prelude.{◌≡◌, ℕ, ◌<◌, suc, List, [], ◌∷◌, ◌++◌, map, Some, slice_get}
use Rattle.std.specs.List.{AllByRecursion as Each}
use Rattle.memo_core.specs.Step.{Has}
use Rattle.binding_graph.specs.declared.resolved.ResolvedItem.{ResolvedItem}
use Rattle.binding_graph.specs.declared.resolved.Role.{Role}
use Rattle.binding_graph.specs.declared.resolved.Role.TheVariants as roles
use Rattle.binding_graph.specs.Reach.{IsCheckAt}
use Rattle.bench_nodes.specs.declared.table.SlotKey.{SlotKey}
use Rattle.bench_slots.specs.Slots.{number_at}
use Rattle.bench_slots.specs.Tables.{IsNameOf}

-- some name that the item uses is of the item at that index
abbrev pub NamesItem : ResolvedItem → ℕ → Type 0
NamesItem r k = Has (map (λ name. name.item) r.inputs.items) k

-- the function at that index gives no value, and the item uses names of each item whose names the
-- function uses
abbrev pub IsPassedOn : List ResolvedItem → ResolvedItem → ℕ → Type 0
IsPassedOn items r f =
    (q : ResolvedItem) × (slice_get items f ≡ Some q) × (q.role ≡ roles.Silent)
    × Each (λ name. NamesItem r name.item) q.inputs.items

-- the item at that index uses names of earlier groups alone, and those that the functions use which
-- it applies
pub record IsClosedItem (items : List ResolvedItem) (index : ℕ) (r : ResolvedItem) : Type 0 where
  pub names : Each (λ name. (name.item < index) × IsNameOf items name) r.inputs.items
  pub functions : Each (IsPassedOn items r) r.functions.items

abbrev pub AreClosed : List ResolvedItem → Type 0
AreClosed items =
    (index : ℕ) (r : ResolvedItem) → slice_get items index ≡ Some r → IsClosedItem items index r

-- ---- what checks reach by names

abbrev pub NamesAt : List ResolvedItem → ℕ → ℕ → Type 0
NamesAt items a b = (r : ResolvedItem) × (slice_get items a ≡ Some r) × NamesItem r b

-- the first item uses a name of the first of those between, each of these one of the next, and the
-- last one of the last item; where none is between, the first is the last
abbrev pub LeadsByNames : List ResolvedItem → ℕ → List ℕ → ℕ → Type 0
LeadsByNames items a [] b = a ≡ b
LeadsByNames items a (c ∷ cs) b = NamesAt items a c × LeadsByNames items c cs b

-- a check or a flag leads there by names alone
pub record IsReachedByNames (items : List ResolvedItem) (b : ℕ) : Type 0 where
  pub from : ℕ
  pub is_check : IsCheckAt items from
  pub through : List ℕ
  pub leads : LeadsByNames items from through b

-- ---- what checks and flags add to the inputs of a verdict

-- of all items, the first of which has that index
abbrev pub all_keys : (Role → ℕ → List SlotKey) → List ℕ → ℕ → List ResolvedItem → List SlotKey
all_keys f numbers index [] = []
all_keys f numbers index (r ∷ rs) =
    f r.role (number_at numbers index) ++ all_keys f numbers (suc index) rs
