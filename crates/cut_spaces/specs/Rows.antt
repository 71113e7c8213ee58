-- Orders of stores that a check refuses by one of their rows. Read `Sublists` of whole_outcomes
-- and `Growth` of order_growth first. Read next: Spaces.
use Rattle.std.specs.Prelude.{ℕ, ◌≡◌, Bool, false, List, [], ◌∷◌, ◌++◌, None, Some, slice_get}
use Rattle.binding_kinds.specs.declared.kinds.Kind.TheVariants.{OfSet}
use Rattle.binding_graph.specs.declared.resolved.CheckCode.{CheckCode}
use Rattle.binding_graph.specs.declared.resolved.ResolvedItem.{ResolvedItem}
use Rattle.binding_graph.specs.declared.resolved.Role.TheVariants.{Check}
use Rattle.binding_graph.specs.Trees.{RelTree, rel_code}
use Rattle.taints.specs.DependencyLists.{dependency_lists}
use Rattle.store_orders.specs.Lists.{lists_of}
use Rattle.store_orders.specs.declared.combination.Combination.{Combination}
use Rattle.candidate_spaces.specs.declared.candidate.Space.{Space}
use Rattle.candidate_spaces.specs.Space.{candidates_in}
use Rattle.cat_machine.specs.Values.{AnswersOf}
use Rattle.whole_outcomes.specs.Sublists.{LeavesOut}
use Rattle.order_growth.specs.declared.growth.Growth.TheVariants.{Unknown}
use Rattle.order_growth.specs.Growth.{growth_of, source_growth}

-- ---- the check

-- it is no flag, is not negated, and what it checks is a relation that loses no pair
pub record RefusesMore (check : CheckCode) : Type 0 where
  pub plain : check.negated ≡ false
  pub flag : check.flag ≡ None
  pub relation : check.code.kind ≡ OfSet → ⊥
  pub known : (e : RelTree) → check.code.steps.items ≡ rel_code e []
      → growth_of (source_growth []) e ≡ Unknown → ⊥

-- the item is such a check, and uses no name of another item
pub record IsTried (r : ResolvedItem) : Type 0 where
  pub check : CheckCode
  pub role : r.role ≡ Check check
  pub inputs : r.inputs.items ≡ []
  pub refuses : RefusesMore check

-- ---- rows

-- a combination with the same events and dependencies, in which each row is an order, and no load
-- reads
pub record IsProbe (c : Combination) (rows : List (List ℕ)) (probe : Combination) : Type 0 where
  pub events : probe.events.items ≡ c.events.items
  pub dependencies : dependency_lists probe.dependencies ≡ dependency_lists c.dependencies
  pub reads : lists_of probe.reads_from.items ≡ [] ∷ []
  pub orders : probe.orders ≡ rows

abbrev pub HasProbe : Combination → List (List ℕ) → Space → Type 0
HasProbe c rows s =
    (probe : Combination) × (s.combinations.items ≡ probe ∷ []) × IsProbe c rows probe

-- the check refuses the row in such a combination
pub record IsRowRefused (r : ResolvedItem) (c : Combination) (row : List ℕ) : Type 0 where
  pub probes : Space
  pub answers : List Bool
  pub are : AnswersOf r.role [] probes answers
  pub probe : Combination
  pub events : probe.events.items ≡ c.events.items
  pub dependencies : dependency_lists probe.dependencies ≡ dependency_lists c.dependencies
  pub index : ℕ
  pub there : slice_get (candidates_in probes.combinations.items) index
      ≡ Some (probe, ([], row))
  pub refused : slice_get answers index ≡ Some false

-- the second list has the rows of the first without some that are refused
abbrev pub KeepsRows : ResolvedItem → Combination → List (List ℕ) → List (List ℕ) → Type 0
KeepsRows r c rows kept =
    LeavesOut (λ i x j y. x ≡ y) (λ i row. IsRowRefused r c row) 0 rows 0 kept

-- ---- orders

-- the check refuses a row of the order
pub record IsRefusedByRow (r : ResolvedItem) (c : Combination) (order : List ℕ) : Type 0 where
  pub before : List ℕ
  pub row : List ℕ
  pub behind : List ℕ
  pub is : order ≡ before ++ row ++ behind
  pub refused : IsRowRefused r c row

abbrev pub KeepsOrders : ResolvedItem → Combination → List (List ℕ) → List (List ℕ) → Type 0
KeepsOrders r c orders kept =
    LeavesOut (λ i x j y. x ≡ y) (λ i order. IsRefusedByRow r c order) 0 orders 0 kept
