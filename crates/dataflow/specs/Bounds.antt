-- Where the pairs of a run lie.
use Rattle.std.specs.Prelude.{ℕ, ◌<◌, All}
use Rattle.taints.specs.declared.lists.Links.{Links}

abbrev pub IsPairBelow : ℕ → ℕ × ℕ → Type 0
IsPairBelow n p = (p.0 < n) × (p.1 < n)

-- every index is below the number
pub record HasBound (n : ℕ) (links : Links) : Type 0 where
  pub addr : All (IsPairBelow n) links.addr_pairs.items
  pub «data» : All (IsPairBelow n) links.data_pairs.items
  pub ctrl : All (IsPairBelow n) links.ctrl_pairs.items
  pub ctrlisync : All (IsPairBelow n) links.ctrlisync_pairs.items
  pub need : All (IsPairBelow n) links.need_pairs.items
