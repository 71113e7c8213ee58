-- Prefixes that are cut back.
use Rattle.std.proofs.Common.{ℕ, ◌≡◌, ◌++◌, ◌↔◌, ◌⊎◌, Bool, List, [], ◌∷◌, take, length, refl, ap, subst, ◌∙◌}
use Rattle.std.proofs.Math.Seq.{take-append_seam}
use Rattle.taints.specs.DependencyLists.{renumbered_pairs}
use Rattle.run_combinations.specs.Keys.{HasKey, IsLoadedKey, IsStoredKey, TellsSubset}
use Rattle.run_combinations.specs.Prefixes.{IsEndOf, cut_lists}
use Rattle.run_combinations.specs.Search.{PrefixLists, HasJoined, prefix_lists, with_run}
use Rattle.run_combinations.specs.declared.keys.KeySet.{KeySet}
use Rattle.run_combinations.specs.declared.part.Part.{Part}
use Rattle.run_combinations.specs.declared.search.Prefix.{Prefix}
use Rattle.run_combinations.specs.declared.search.PrefixEnd.{PrefixEnd}

-- the second prefix is as the first
pub record IsBack (f g : Prefix) : Type 0 where
  pub lists : prefix_lists g ≡ prefix_lists f
  pub loads : g.loads ≡ f.loads
  pub stores : g.stores ≡ f.stores

piece : {A : Type 0} (xs ys : List A) (n : ℕ) → n ≡ length xs → take n (xs ++ ys) ≡ xs
piece xs ys n e = ap (λ (k : ℕ). take k (xs ++ ys)) e ∙ take-append_seam xs ys

-- a prefix with a run more, cut back to where it ended
cut_run : (f : Prefix) (e : PrefixEnd) (i : ℕ) (p : Part) → IsEndOf f e
    → cut_lists e (with_run i p (prefix_lists f)) ≡ prefix_lists f
cut_run f e i p h =
    rw (
      piece f.runs.events.items p.events.items e.events h.events,
      piece f.runs.dependencies.addr_pairs.items
          (renumbered_pairs (length f.runs.events.items) p.links.addr_pairs.items)
          e.addr_pairs h.addr_pairs,
      piece f.runs.dependencies.data_pairs.items
          (renumbered_pairs (length f.runs.events.items) p.links.data_pairs.items)
          e.data_pairs h.data_pairs,
      piece f.runs.dependencies.ctrl_pairs.items
          (renumbered_pairs (length f.runs.events.items) p.links.ctrl_pairs.items)
          e.ctrl_pairs h.ctrl_pairs,
      piece f.runs.dependencies.ctrlisync_pairs.items
          (renumbered_pairs (length f.runs.events.items) p.links.ctrlisync_pairs.items)
          e.ctrlisync_pairs h.ctrlisync_pairs,
      piece f.runs.runs.items (i ∷ []) e.runs h.runs,
      piece f.needs.items (renumbered_pairs (length f.runs.events.items) p.links.need_pairs.items)
          e.needs h.needs,
      h.faulted,
    ) refl

pub cut_back : (f g longer searched cut : Prefix) (e : PrefixEnd) (i : ℕ) (p : Part) → IsEndOf f e
    → IsBack f g → prefix_lists longer ≡ with_run i p (prefix_lists g)
    → prefix_lists searched ≡ prefix_lists longer
    → prefix_lists cut ≡ cut_lists e (prefix_lists searched)
    → (cut.loads ≡ e.loads) × (cut.stores ≡ e.stores) → IsBack f cut
cut_back f g longer searched cut e i p end back more same lists keys = record {
  lists =
      lists
      ∙ ap (λ (b : PrefixLists). cut_lists e b) (same ∙ more
      ∙ ap (λ (b : PrefixLists). with_run i p b) back.lists)
      ∙ cut_run f e i p end;
  loads = keys.0 ∙ end.loads;
  stores = keys.1 ∙ end.stores;
}

pub joined_back : (f g h : Prefix) (p : Part) → IsBack f g → HasJoined g p h → HasJoined f p h
joined_back f g h p back j = (
  (λ a b. subst (λ (s : KeySet). HasKey h.loads a b ↔ (HasKey s a b ⊎ HasKey p.loads a b))
      back.loads (j.0 a b)),
  (λ a b. subst (λ (s : KeySet). HasKey h.stores a b ↔ (HasKey s a b ⊎ HasKey p.stores a b))
      back.stores (j.1 a b)),
)

pub told_back : (f g : Prefix) (p : Part) (after : KeySet) (is : Bool) → IsBack f g
    → TellsSubset is (IsLoadedKey g p) (IsStoredKey g p after)
    → TellsSubset is (IsLoadedKey f p) (IsStoredKey f p after)
told_back f g p after is back told =
    subst
    (λ (s : KeySet).
    TellsSubset is (λ a b. HasKey s a b ⊎ HasKey p.loads a b) (IsStoredKey f p after))
    back.loads
    (subst
    (λ (s : KeySet). TellsSubset is (IsLoadedKey g p) (λ a b. (HasKey after a b ⊎ HasKey s a b)
    ⊎ HasKey p.stores a b)) back.stores told)

-- where a run goes on, the lists are those of the first prefix with a run more
pub longer_back : (f g longer : Prefix) (i : ℕ) (p : Part) → IsBack f g
    → prefix_lists longer ≡ with_run i p (prefix_lists g)
    → prefix_lists longer ≡ with_run i p (prefix_lists f)
longer_back f g longer i p back more = more ∙ ap (λ (b : PrefixLists). with_run i p b) back.lists

pub same_back : (f : Prefix) → IsBack f f
same_back f = record { lists = refl; loads = refl; stores = refl }
