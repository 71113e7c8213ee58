-- Lists of dependencies as plain data, and those of runs one after another.
use Rattle.std.specs.Prelude.{ℕ, ◌+◌, ◌-◌, ◌^◌, min, List, [], ◌++◌, map}
use Rattle.taints.specs.declared.lists.Dependencies.{Dependencies}
use Rattle.taints.specs.declared.lists.Links.{Links}

-- each list has pairs of numbers of events
pub record DependencyLists : Type 0 where
  pub addr_pairs : List (ℕ × ℕ)
  pub data_pairs : List (ℕ × ℕ)
  pub ctrl_pairs : List (ℕ × ℕ)
  pub ctrlisync_pairs : List (ℕ × ℕ)

abbrev pub dependency_lists : Dependencies → DependencyLists
dependency_lists d = record {
  addr_pairs = d.addr_pairs.items;
  data_pairs = d.data_pairs.items;
  ctrl_pairs = d.ctrl_pairs.items;
  ctrlisync_pairs = d.ctrlisync_pairs.items;
}

-- those of a run
abbrev pub link_lists : Links → DependencyLists
link_lists l = record {
  addr_pairs = l.addr_pairs.items;
  data_pairs = l.data_pairs.items;
  ctrl_pairs = l.ctrl_pairs.items;
  ctrlisync_pairs = l.ctrlisync_pairs.items;
}

abbrev pub no_dependencies : DependencyLists
no_dependencies = record { addr_pairs = []; data_pairs = []; ctrl_pairs = []; ctrlisync_pairs = [] }

-- pairs of events of a run, by the numbers that they have where its first event has the number
-- `base`, up to the greatest number that there is
abbrev pub renumbered_pairs : ℕ → List (ℕ × ℕ) → List (ℕ × ℕ)
renumbered_pairs base ps =
    map (λ p. (min (base + p.0) (2 ^ 64 - 1), min (base + p.1) (2 ^ 64 - 1))) ps

-- with those of such a run
abbrev pub with_dependencies : ℕ → DependencyLists → DependencyLists → DependencyLists
with_dependencies base more d = record {
  addr_pairs = d.addr_pairs ++ renumbered_pairs base more.addr_pairs;
  data_pairs = d.data_pairs ++ renumbered_pairs base more.data_pairs;
  ctrl_pairs = d.ctrl_pairs ++ renumbered_pairs base more.ctrl_pairs;
  ctrlisync_pairs = d.ctrlisync_pairs ++ renumbered_pairs base more.ctrlisync_pairs;
}
