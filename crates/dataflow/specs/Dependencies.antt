-- The dependencies of a run, as lists of pairs.
use Rattle.std.specs.Prelude.{◌≡◌, ℕ, ◌<◌, ◌↔◌, List, [], Contains, slice_index}
use Rattle.taints.specs.declared.lists.Links.{Links}
use Rattle.taints.specs.DependencyLists.{link_lists, no_dependencies}
use Rattle.taints.specs.Chains.{Executed, IsAddr, IsData, IsCtrl, IsCtrlIsync, IsNeed, ArePairsRising, IsPairListOf}
use Rattle.bit_rows.specs.Relation.{Bit}

-- each list has just the pairs of its dependency, in rising order
pub record AreLinks (at : Executed) (links : Links) : Type 0 where
  pub addr : IsPairListOf IsAddr at links.addr_pairs.items
  pub «data» : IsPairListOf IsData at links.data_pairs.items
  pub ctrl : IsPairListOf IsCtrl at links.ctrl_pairs.items
  pub ctrlisync : IsPairListOf IsCtrlIsync at links.ctrlisync_pairs.items
  pub need : IsPairListOf IsNeed at links.need_pairs.items

-- there are none
pub record HasNoLinks (links : Links) : Type 0 where
  pub dependencies : link_lists links ≡ no_dependencies
  pub need : links.need_pairs.items ≡ []

-- the pairs of an index whose bit a word has, and the index of the word
pub record ArePairsOfWords (words : List ℕ) (count : ℕ) (ps : List (ℕ × ℕ)) : Type 0 where
  pub rising : ArePairsRising ps
  pub exact : (p : ℕ × ℕ)
      → Contains ps p ↔ ((p.0 < count) × (p.1 < count) × Bit (slice_index words p.1) p.0)
