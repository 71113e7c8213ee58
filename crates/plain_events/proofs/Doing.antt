-- What the code finds that events do, and what that is in the definitions.
use Rattle.std.proofs.Common.{◌≡◌, ◌↔◌, ℕ, ◌<◌, List, [], length, map, get_or, Bool, bytes_eq, refl, sym, ap, subst, ◌∙◌}
use Rattle.std.specs.Prelude.{IsTrue, Option, Some, option_map, slice_get, unwrap_or}
use Rattle.std.proofs.lemmas.Option.{slice_get-map, slice_get_read, slice_get_within}
use Rattle.std.proofs.lemmas.Slice.Eq.{bytes_eq-Decides}
use Rattle.text_values.specs.TestValue.{Content}
use Rattle.meaning.specs.Names.{Name, locations}
use Rattle.meaning.specs.Machine.{Value}
use Rattle.meaning.specs.Runs.{Instance, Run}
use Rattle.meaning.specs.Executions.{Execution, Event, Action, Initial, Does, Stores, IsActionOf, HasAction, IsStoreOf, MayRead, instances_of}
use Rattle.plain_runs.specs.declared.run.Run as code
use Rattle.plain_runs.specs.Runs.{instance_as, run_as}
use Rattle.plain_runs.proofs.Running.{same_some}
use Rattle.plain_events.specs.declared.event.Action as found
use Rattle.plain_events.specs.Events.{of_runs, IsFound, IsNode, IsActionOfInstance, IsActionAt, IsActionOfEvent, IsStoreAction}

-- ---- what stands at an index

pub mapped_at : {X Y : Type 0} (f : X → Y) (xs : List X) (k : ℕ) (x : X) → k < length xs
    → x ≡ get_or xs k x → slice_get (map f xs) k ≡ Some (f x)
mapped_at {X} f xs k x lt at =
    slice_get-map f xs k
    ∙ ap (λ (o : Option X). option_map f o) (slice_get_read xs (length xs) k x refl lt at)

pub run_at : (rs : List code.Run) (thread : ℕ) (r : code.Run) → thread < length rs
    → r ≡ get_or rs thread r
    → instances_of (of_runs (map run_as rs)) thread ≡ map instance_as r.instances.items
run_at rs thread r lt at =
    ap (λ (o : Option Run). unwrap_or (option_map (λ q. q.instances) o) [])
    (mapped_at run_as rs thread r lt at)

pub instance_at : (instances : List Instance) (k : ℕ) (i : Instance) (o : Option found.Action)
    → slice_get instances k ≡ Some i → IsActionOfInstance i o → IsActionAt instances k o
instance_at instances k i o at does a = (to, from)
  where
    to : IsFound o a
        → (j : Instance) × (slice_get instances k ≡ Some j) × IsActionOf j a
    to is = (i, at, (does a).0 is)

    from : (j : Instance) × (slice_get instances k ≡ Some j) × IsActionOf j a
        → IsFound o a
    from (j, there, acts) =
        (does a).1 (subst (λ (h : Instance). IsActionOf h a) (same_some j i (sym there ∙ at)) acts)

pub does_at : (t : Content) (runs : List Run) (thread k : ℕ) (o : Option found.Action)
    (instances : List Instance) → instances_of (of_runs runs) thread ≡ instances
    → IsActionAt instances k o → IsActionOfEvent t runs (Does thread k) o
does_at t runs thread k o instances e at =
    subst (λ (l : List Instance). IsActionAt l k o) (sym e) at

-- ---- stores and loads

same_location : (k l : Name) (v w : Value) → Stores k v ≡ Stores l w → k ≡ l
same_location k l v w e = cc

pub store_to : (b : Bool) (k l : Name) (v : Value) (a : Action) → a ≡ Stores k v
    → b ≡ bytes_eq k l → IsTrue b ↔ IsStoreAction l a
store_to b k l v a at e = (to, from)
  where
    to : IsTrue b → IsStoreAction l a
    to is = (v, at ∙ ap (λ (n : Name). Stores n v) ((bytes_eq-Decides k l).0 (sym e ∙ is)))

    from : IsStoreAction l a → IsTrue b
    from (w, is) = e ∙ (bytes_eq-Decides k l).1 (same_location k l v w (sym at ∙ is))

-- what does something is a node
pub node_of : (t : Content) (runs : List Run) (e : Event) (a : Action)
    → HasAction t (of_runs runs) e a → IsNode (locations t) runs e
node_of t runs (Initial l) a has = has.0
node_of t runs (Does thread k) a (i, at, acts) =
    slice_get_within (instances_of (of_runs runs) thread) k i at

pub store_node : (t : Content) (runs : List Run) (l : Name) (e : Event)
    → IsStoreOf t (of_runs runs) l e → IsNode (locations t) runs e
store_node t runs l e is = node_of t runs e (Stores l is.0) is.1

pub source_node : (t : Content) (runs : List Run) (load e : Event)
    → MayRead t (of_runs runs) load e → IsNode (locations t) runs e
source_node t runs load e is = node_of t runs e (Stores is.0 is.1) is.3

-- ---- what an event does depends on the runs alone

module _ (t : Content) (x : Execution) where
  pub same_action : (e : Event) (a : Action)
      → HasAction t (of_runs x.runs) e a ↔ HasAction t x e a
  same_action (Initial l) a = ((λ is. is), λ is. is)
  same_action (Does thread k) a = ((λ is. is), λ is. is)
