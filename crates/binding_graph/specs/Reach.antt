-- Which items checks and flags reach, by what is kept with the items: the names and the functions
-- of other items that each uses.
use Rattle.std.specs.Prelude.{◌≡◌, ℕ, ◌+◌, ◌<◌, ◌⊎◌, ◌↔◌, List, [], ◌∷◌, length, map, not, Bool, true, false, Some, slice_get, slice_index_or, Contains, AllPairs, count_by}
use Rattle.binding_graph.specs.declared.resolved.ResolvedItem.{ResolvedItem}
use Rattle.binding_graph.specs.declared.resolved.Role.{Role}
use Rattle.binding_graph.specs.declared.resolved.Role.TheVariants as roles

-- a check or a flag
abbrev pub is_check : Role → Bool
is_check (roles.Group recursive bodies) = false
is_check (roles.Check c) = true
is_check roles.Silent = false

-- a name of the item of that number is among the item's inputs, or it is a function that the item
-- applies
abbrev pub Uses : ResolvedItem → ℕ → Type 0
Uses r k = Contains (map (λ i. i.item) r.inputs.items) k ⊎ Contains r.functions.items k

-- the item of the first number uses that of the second
abbrev pub ItemUses : List ResolvedItem → ℕ → ℕ → Type 0
ItemUses items a b = (r : ResolvedItem) × (slice_get items a ≡ Some r) × Uses r b

-- the first item uses the first of those between, each of these the next, and the last one the last
-- item; where none is between, the first is the last
abbrev pub ReachesBy : List ResolvedItem → ℕ → List ℕ → ℕ → Type 0
ReachesBy items a [] b = a ≡ b
ReachesBy items a (c ∷ cs) b = ItemUses items a c × ReachesBy items c cs b

abbrev pub IsCheckAt : List ResolvedItem → ℕ → Type 0
IsCheckAt items a = (r : ResolvedItem) × (slice_get items a ≡ Some r) × (is_check r.role ≡ true)

-- a check or a flag reaches it
pub record IsReached (items : List ResolvedItem) (b : ℕ) : Type 0 where
  pub from : ℕ
  pub is_check : IsCheckAt items from
  pub through : List ℕ
  pub leads : ReachesBy items from through b

-- the numbers of the items that checks and flags reach, rising
pub record AreReached (items : List ResolvedItem) (indexes : List ℕ) : Type 0 where
  pub rising : AllPairs (λ a b. a < b) indexes
  pub exact : (b : ℕ) → Contains indexes b ↔ ((b < length items) × IsReached items b)

-- ---- the marks of the items that were reached so far, of which some wait until what they use is
-- marked

abbrev pub IsMarked : List Bool → ℕ → Type 0
IsMarked marks k = slice_index_or marks k false ≡ true

-- these items are marked, and those wait that were not marked before
pub record Marks (P : ℕ → Type 0) (old new : List Bool) (waited waits : List ℕ) : Type 0 where
  pub count : length new ≡ length old
  pub kept : (k : ℕ) → IsMarked old k → IsMarked new k
  pub marked : (k : ℕ) → P k → k < length old → IsMarked new k
  pub made : (k : ℕ) → IsMarked new k → IsMarked old k ⊎ (P k × Contains waits k)
  pub still : (k : ℕ) → Contains waited k → Contains waits k
  pub known : (k : ℕ) → Contains waits k → Contains waited k ⊎ IsMarked new k
  pub left : count_by not new + length waits ≡ count_by not old + length waited

-- the checks and flags are marked, and what is marked is reached, and waits where not all that it
-- uses is marked
pub record AreSpread (items : List ResolvedItem) (marks : List Bool) (waits : List ℕ) : Type 0 where
  pub count : length marks ≡ length items
  pub checks : (k : ℕ) → IsCheckAt items k → IsMarked marks k
  pub sound : (k : ℕ) → IsMarked marks k → IsReached items k
  pub waiting : (k : ℕ) → Contains waits k → IsMarked marks k
  pub closed : (k : ℕ) → IsMarked marks k
      → Contains waits k ⊎ ((b : ℕ) → ItemUses items k b → b < length marks → IsMarked marks b)
