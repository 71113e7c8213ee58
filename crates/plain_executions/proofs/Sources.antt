-- What loads read, as a list.
use denote.Ref.{Bor}
use Rattle.std.proofs.Common.{◌≡◌, inl, inr, ℕ, ◌<◌, List, Vec, [], length, map, get_or, Contains, All, sym, ap, subst, ◌∙◌}
use Rattle.std.specs.List.{AllZip}
use Rattle.std.specs.declared.alloc.Global.{Global}
use Rattle.std.proofs.lemmas.List.Elements.{Contains-get_or}
use Rattle.text_values.specs.TestValue.{Content}
use Rattle.meaning.specs.Sets.{IsAcyclic, IsListOf}
use Rattle.meaning.specs.Names.{Name, locations}
use Rattle.meaning.specs.Runs.{Run}
use Rattle.meaning.specs.Dependencies.{IsNeed}
use Rattle.meaning.specs.Executions.{Event, Initial, Does, Loads, Stores, MayRead, Dependency, ReadsFrom, instances_of, loads_in}
use Rattle.plain_runs.proofs.Listing.{listed_as}
use Rattle.plain_runs.specs.Locations.{names_as}
use Rattle.plain_events.specs.declared.event.Event as code
use Rattle.plain_events.specs.Events.{event_as, of_runs, IsNode}
use Rattle.plain_events.proofs.Doing.{node_of}
use Rattle.plain_executions.specs.Executions.{event_lists_as, AreAllPicked, AreSources, IsAmong, IsReadsFromOf, NeedOrReadsOf, execution_of}
use Rattle.plain_executions.specs.declared.dependent.Kind.TheVariants.{Need}
use Rattle.plain_executions.proofs.Depending.{from_within, to_within}
use Rattle.plain_executions.proofs.Ordering.{picked_listed}
use Rattle.plain_executions.proofs.Pairing.{zip_related}

module _ (t : Content) (runs : List Run) (reads_from : List Event) where
  needed : (a b : Event) → Dependency IsNeed (execution_of runs reads_from []) a b
      → IsNode (locations t) runs a × IsNode (locations t) runs b
  needed (Initial l) b is = absurd is
  needed (Does u i) (Initial l) is = absurd is
  needed (Does u i) (Does v j) (e, is) = (
    from_within Need (instances_of (of_runs runs) u) i j is,
    subst (λ (w : ℕ). j < length (instances_of (of_runs runs) w)) e
        (to_within Need (instances_of (of_runs runs) u) i j is),
  )

  read : AreSources t runs reads_from → (a b : Event)
      → ReadsFrom (execution_of runs reads_from []) a b
      → IsNode (locations t) runs a × IsNode (locations t) runs b
  read are a b there =
      let is : MayRead t (of_runs runs) b a = zip_related (MayRead t (of_runs runs)) (loads_in 0 runs) reads_from are b a there in
      (node_of t runs a (Stores is.0 is.1) is.3, node_of t runs b (Loads is.0 is.1) is.2)

  nodes_related : AreSources t runs reads_from → (a b : Event) → NeedOrReadsOf runs reads_from a b
      → IsNode (locations t) runs a × IsNode (locations t) runs b
  nodes_related are a b (inl is) = needed a b is
  nodes_related are a b (inr is) = read are a b is

  pub among_nodes : (nodes : List Event) → IsListOf (IsNode (locations t) runs) nodes
      → AreSources t runs reads_from → IsAmong nodes (NeedOrReadsOf runs reads_from)
  among_nodes nodes listed are a b is =
      let both : IsNode (locations t) runs a × IsNode (locations t) runs b = nodes_related are a b is in
      ((listed.exact a).1 both.0, (listed.exact b).1 both.1)

pub sources_listed : (t : Content) (runs : List Run) (loads same : List code.Event)
    (lists again : List (Vec code.Event Global)) (all : List (Vec code.Event Global))
    → map event_as loads ≡ loads_in 0 runs → same ≡ loads
    → AllZip (λ load es. IsListOf (MayRead t (of_runs runs) load) es) (map event_as same) (event_lists_as lists)
    → again ≡ lists → AreAllPicked (event_lists_as again) (event_lists_as all)
    → IsListOf (AreSources t runs) (event_lists_as all)
sources_listed t runs loads same lists again all are copied each also picked =
    picked_listed (MayRead t (of_runs runs)) (loads_in 0 runs) (event_lists_as lists) (event_lists_as all)
    (subst
    (λ (es : List Event). AllZip (λ load es. IsListOf (MayRead t (of_runs runs) load) es) es (event_lists_as lists))
    (ap (λ (l : List code.Event). map event_as l) copied ∙ are) each)
    (subst
    (λ (l : List (Vec code.Event Global)). AreAllPicked (event_lists_as l) (event_lists_as all))
    also picked)

pub all_among : (t : Content) (runs : List Run) (names : List (Bor (List ℕ)))
    (nodes same : List code.Event) (all again : List (Vec code.Event Global))
    → names_as names ≡ locations t → IsListOf (IsNode (names_as names) runs) (map event_as nodes)
    → same ≡ nodes → again ≡ all → IsListOf (AreSources t runs) (event_lists_as all)
    → All (λ es. IsAmong (map event_as same) (NeedOrReadsOf runs es)) (event_lists_as again)
all_among t runs names nodes same all again located listed copied also are k d lt =
    among_nodes t runs (get_or (event_lists_as again) k d) (map event_as same)
    (subst (λ (l : List code.Event). IsListOf (IsNode (locations t) runs) (map event_as l)) (sym copied)
    (subst (λ (ns : List Name). IsListOf (IsNode ns runs) (map event_as nodes)) located listed))
    ((sources.exact (get_or (event_lists_as again) k d)).0 (Contains-get_or (event_lists_as again) k d lt))
  where
    sources : IsListOf (AreSources t runs) (event_lists_as again)
    sources =
        subst (λ (l : List (Vec code.Event Global)). IsListOf (AreSources t runs) (event_lists_as l))
        (sym also) are

pub reads_listed : (t : Content) (runs : List Run) (all kept : List (List Event))
    → IsListOf (AreSources t runs) all
    → IsListOf (λ es. Contains all es × IsAcyclic (NeedOrReadsOf runs es)) kept
    → IsListOf (IsReadsFromOf t runs) kept
reads_listed t runs all kept are listed =
    listed_as (λ es. Contains all es × IsAcyclic (NeedOrReadsOf runs es)) (IsReadsFromOf t runs) kept
    (λ es. ((λ is. ((are.exact es).0 is.0, is.1)), λ is. ((are.exact es).1 is.0, is.1))) listed
