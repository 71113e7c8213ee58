-- Prefixes that are cut back to where they ended. Read `Search` first.
use Rattle.std.specs.Prelude.{◌≡◌, take, length}
use Rattle.store_orders.specs.Combinations.{CombinationLists}
use Rattle.run_combinations.specs.Search.{PrefixLists}
use Rattle.run_combinations.specs.declared.search.Prefix.{Prefix}
use Rattle.run_combinations.specs.declared.search.PrefixEnd.{PrefixEnd}

-- the prefix ends there
pub record IsEndOf (f : Prefix) (e : PrefixEnd) : Type 0 where
  pub events : e.events ≡ length f.runs.events.items
  pub addr_pairs : e.addr_pairs ≡ length f.runs.dependencies.addr_pairs.items
  pub data_pairs : e.data_pairs ≡ length f.runs.dependencies.data_pairs.items
  pub ctrl_pairs : e.ctrl_pairs ≡ length f.runs.dependencies.ctrl_pairs.items
  pub ctrlisync_pairs : e.ctrlisync_pairs ≡ length f.runs.dependencies.ctrlisync_pairs.items
  pub runs : e.runs ≡ length f.runs.runs.items
  pub needs : e.needs ≡ length f.needs.items
  pub loads : e.loads ≡ f.loads
  pub stores : e.stores ≡ f.stores
  pub faulted : e.is_faulted ≡ f.is_faulted

-- what stands before the end
abbrev pub cut_combination : PrefixEnd → CombinationLists → CombinationLists
cut_combination e s = record s {
  events = take e.events s.events;
  dependencies = record {
    addr_pairs = take e.addr_pairs s.dependencies.addr_pairs;
    data_pairs = take e.data_pairs s.dependencies.data_pairs;
    ctrl_pairs = take e.ctrl_pairs s.dependencies.ctrl_pairs;
    ctrlisync_pairs = take e.ctrlisync_pairs s.dependencies.ctrlisync_pairs;
  };
  runs = take e.runs s.runs;
}

abbrev pub cut_lists : PrefixEnd → PrefixLists → PrefixLists
cut_lists e b = record {
  combination = cut_combination e b.combination;
  needs = take e.needs b.needs;
  faulted = e.is_faulted;
}
