-- What is made for a combination stands for another with the same events and dependencies.
use Rattle.std.proofs.Common.{ℕ, ◌≡◌, ◌∙◌, List, length, ap, sym, subst}
use Rattle.predefined_names.specs.declared.predefined.Predefined.{Predefined}
use Rattle.predefined_names.specs.declared.predefined.Predefined.TheVariants as names
use Rattle.store_orders.specs.declared.combination.Combination.{Combination}
use Rattle.store_orders.specs.declared.combination.Event.{Event}
use Rattle.base_names.specs.Candidate.{IsEntered, SetIn, SharedIn}
use Rattle.taints.specs.DependencyLists.{DependencyLists, dependency_lists}
use Rattle.base_names.specs.Events.{At, ListedPairs}
use Rattle.base_names.specs.Known.{Known}
use Rattle.base_names.specs.Names.{IsIn, Fixed}

pub record HasSame (c d : Combination) : Type 0 where
  pub events : c.events.items ≡ d.events.items
  pub dependencies : dependency_lists c.dependencies ≡ dependency_lists d.dependencies

same_back : (c d : Combination) → HasSame c d → HasSame d c
same_back c d h = record {
  events = sym h.events;
  dependencies = sym h.dependencies;
}

set_same : (n : ℕ) (name : Predefined) (c d : Combination) → HasSame c d → (a : ℕ)
    → SetIn c n name a → SetIn d n name a
set_same n name c d same a h =
    (h.0, subst (λ (es : List Event). At es (IsIn name) a) same.events h.1)

fixed_same : (name : Predefined) (n : ℕ) (c d : Combination) → HasSame c d → (a b : ℕ)
    → Fixed name n c a b → Fixed name n d a b
fixed_same names.Identity n c d same a b h = h
fixed_same names.ProgramOrder n c d same a b h = rw (← same.events) h
fixed_same names.SameLocation n c d same a b h = rw (← same.events) h
fixed_same names.ProgramOrderSameLocation n c d same a b h = rw (← same.events) h
fixed_same names.Internal n c d same a b h = rw (← same.events) h
fixed_same names.External n c d same a b h = rw (← same.events) h
fixed_same names.AddressDependency n c d same a b h =
    subst (λ (x : DependencyLists). ListedPairs x.addr_pairs a b) same.dependencies h
fixed_same names.DataDependency n c d same a b h =
    subst (λ (x : DependencyLists). ListedPairs x.data_pairs a b) same.dependencies h
fixed_same names.ControlDependency n c d same a b h =
    subst (λ (x : DependencyLists). ListedPairs x.ctrl_pairs a b) same.dependencies h
fixed_same names.ControlIsyncDependency n c d same a b h =
    subst (λ (x : DependencyLists). ListedPairs x.ctrlisync_pairs a b) same.dependencies h
fixed_same names.SyncOrder n c d same a b h = rw (← same.events) h
fixed_same names.LwsyncOrder n c d same a b h = rw (← same.events) h
fixed_same names.EieioOrder n c d same a b h = rw (← same.events) h
fixed_same names.IsyncOrder n c d same a b h = rw (← same.events) h
fixed_same _ n c d same a b h = absurd h

shared_same : (n : ℕ) (name : Predefined) (c d : Combination) → HasSame c d → (a b : ℕ)
    → SharedIn c n name a b → SharedIn d n name a b
shared_same n name c d same a b h = (h.0, h.1, fixed_same name n c d same a b h.2)

pub entered_as : (base : Known) (c d : Combination) → HasSame c d → IsEntered base c
    → IsEntered base d
entered_as base c d same h = record {
  count = h.count ∙ ap (λ (es : List Event). length es) same.events;
  sets = λ name held a. (
    (λ x. set_same base.count name c d same a ((h.sets name held a).0 x)),
    (λ x. (h.sets name held a).1 (set_same base.count name d c (same_back c d same) a x)),
  );
  shared = λ name held a b. (
    (λ x. shared_same base.count name c d same a b ((h.shared name held a b).0 x)),
    (λ x. (h.shared name held a b).1 (shared_same base.count name d c (same_back c d same) a b x)),
  );
}

-- what the candidates share stays as the loads read in another way and the stores have another
-- order
pub entered_still : (old new : Known) (c : Combination) → new.count ≡ old.count
    → new.sets ≡ old.sets → new.shared ≡ old.shared → IsEntered old c → IsEntered new c
entered_still old new c count sets shared h = record {
  count = count ∙ h.count;
  sets = rw (sets, count) h.sets;
  shared = rw (shared, count) h.shared;
}
