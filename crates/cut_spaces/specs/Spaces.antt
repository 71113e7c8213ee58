-- Spaces without candidates that a check refuses by a row of their order. Read `Rows` first.
use Rattle.std.specs.Prelude.{ℕ, ◌≡◌, ◌⊎◌, Result, Ok, Err, List, Contains, min}
use Rattle.std.specs.List.{AllZip}
use Rattle.text_values.specs.declared.test.Test.{Test}
use Rattle.ppc_lowering.specs.declared.fault.EvalRefusal.{EvalRefusal}
use Rattle.binding_graph.specs.declared.resolved.ResolvedItem.{ResolvedItem}
use Rattle.taints.specs.DependencyLists.{dependency_lists}
use Rattle.store_orders.specs.Lists.{lists_of}
use Rattle.store_orders.specs.Orders.{all_orders}
use Rattle.store_orders.specs.declared.combination.Combination.{Combination}
use Rattle.candidate_spaces.specs.declared.candidate.Space.{Space}
use Rattle.candidates.specs.declared.space_parts.SpaceParts.{SpaceParts}
use Rattle.candidates.specs.Listed.{IsSpaceRefusal}
use Rattle.candidates.specs.Parts.{IsWholeOf, AreSpaceParts}
use Rattle.cut_spaces.specs.Rows.{IsTried, KeepsOrders}

-- the second combination is the first with orders that are kept, of the stores at the first locations
pub record IsCutCombination (r : ResolvedItem) (n : ℕ) (c d : Combination) : Type 0 where
  pub events : d.events.items ≡ c.events.items
  pub dependencies : dependency_lists d.dependencies ≡ dependency_lists c.dependencies
  pub runs : d.runs.items ≡ c.runs.items
  pub reads_from : lists_of d.reads_from.items ≡ lists_of c.reads_from.items
  pub orders : KeepsOrders r c (all_orders c.events.items n) d.orders

-- the space has each combination with orders that are kept
pub record IsCutOf (r : ResolvedItem) (p : SpaceParts) (s : Space) : Type 0 where
  pub locations : s.locations ≡ p.locations
  pub registers : s.registers ≡ p.registers
  pub combinations : AllZip (IsCutCombination r (min p.location_count 128)) p.combinations.items
      s.combinations.items

-- the space has all orders, or those that one of the items keeps
abbrev pub IsEvaluable : List ResolvedItem → SpaceParts → Space → Type 0
IsEvaluable items p s =
    IsWholeOf p s ⊎ ((r : ResolvedItem) × Contains items r × IsTried r × IsCutOf r p s)

-- what the candidates of a test are made of, or why it has none
abbrev pub ArePartsFor : Test → Result SpaceParts EvalRefusal → Type 0
ArePartsFor t (Ok p) = AreSpaceParts t p
ArePartsFor t (Err r) = IsSpaceRefusal t r
