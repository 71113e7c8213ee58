-- What is drawn of an execution, by the definitions of `meaning`. Read before it: Told,
-- and Drawn of `draw_graph/specs`, which says which pairs of a relation are
-- drawn. Read next: Drawings.
use Rattle.std.specs.Prelude.{ℕ, ◌≡◌, ◌<◌, ◌↔◌, ◌⊎◌, List, [], ◌++◌, length, Option, Some, None, slice_get, codes, All, AllPairs, Contains}
use Rattle.std.specs.List.{AllZip}
use Rattle.predefined_names.specs.declared.predefined.Predefined.{Predefined}
use Rattle.predefined_names.specs.PredefinedNames.{spelling}
use Rattle.text_values.specs.TestValue.{Content}
use Rattle.text_values.specs.ModelValue.{Term, Clause}
use Rattle.why_text.specs.declared.event.ToldEvent.{ToldEvent}
use Rattle.why_text.specs.declared.reason.Reason.{Reason}
use Rattle.why_text.specs.declared.reason.ToldStep.{ToldStep}
use Rattle.draw_relations.specs.declared.names.ShownName.{ShownName}
use Rattle.draw_relations.specs.Shown.{body_of, names_shown}
use Rattle.draw_graph.specs.declared.drawing.Drawing.{Drawing}
use Rattle.draw_graph.specs.declared.drawing.Cluster.{Cluster}
use Rattle.draw_graph.specs.declared.drawing.Edges.{Edges}
use Rattle.draw_graph.specs.declared.drawing.Ink.{Ink}
use Rattle.draw_graph.specs.declared.drawing.Ink.TheVariants as inks
use Rattle.draw_graph.specs.Drawn.{AreEdges, DrawnAmong}
use Rattle.why_forbidden.specs.Drawings.{box_numbers, relations, step_ends, title_text}
use Rattle.meaning.specs.Sets.{Relation}
use Rattle.meaning.specs.Executions.{Event, Initial, Does, Execution, IsEvent}
use Rattle.meaning.specs.Predefined.{PairsOf}
use Rattle.meaning.specs.Cat.{HasPair, meaning_of}
use Rattle.meaning.specs.Evaluates.{IsKept}
use Rattle.meaning_executions.specs.Events.{IsNumbered, named_events, thread_of_event}
use Rattle.meaning_answers.specs.Told.{IsOfEvent, IsPair, IsReasonSaid, names_seen}

-- ---- boxes

-- The event is drawn: one of a thread; and an initial store that a load reads, or at which a step
-- begins or ends.
abbrev pub IsEventDrawn : Execution → List ℕ → ℕ → Event → Type 0
IsEventDrawn x ends n (Does thread index) = Unit {0}
IsEventDrawn x ends n (Initial l) = Contains x.reads_from (Initial l) ⊎ Contains ends n

-- The number is that of an event that is drawn.
abbrev pub IsNumberDrawn : Content → Execution → List ℕ → ℕ → Type 0
IsNumberDrawn t x ends n =
    (e : Event) × IsNumbered (named_events t x.runs) n e × IsEventDrawn x ends n e

-- It is that of one of the thread; initial stores have none.
abbrev pub IsNumberDrawnOf : Content → Execution → List ℕ → Option ℕ → ℕ → Type 0
IsNumberDrawnOf t x ends thread n =
    (e : Event) × IsNumbered (named_events t x.runs) n e × (thread_of_event e ≡ thread)
    × IsEventDrawn x ends n e

-- The boxes are told of just these events, in their order.
pub record AreBoxesSaid (t : Content) (x : Execution) (ends : List ℕ) (thread : Option ℕ)
    (boxes : List ToldEvent) : Type 0 where
  pub rising : AllPairs (λ m n. m < n) (box_numbers boxes)
  pub each : All (IsOfEvent t x) boxes
  pub exact : (n : ℕ) → Contains (box_numbers boxes) n ↔ IsNumberDrawnOf t x ends thread n

-- The events of a thread stand together.
pub record IsClusterSaid (t : Content) (x : Execution) (ends : List ℕ) (thread : ℕ) (c : Cluster)
    : Type 0 where
  pub thread_is : c.thread ≡ thread
  pub events : AreBoxesSaid t x ends (Some thread) c.events.items

-- ---- arrows

-- The arrows of that name are pairs of the relation: those between events that are drawn, but for
-- pairs of an order with an event between them.
pub record AreArrows (t : Content) (x : Execution) (ends : List ℕ) (name : List ℕ) (ink : Ink)
    (R : Relation Event) (e : Edges) : Type 0 where
  pub name_is : e.name.items ≡ name
  pub ink_is : e.ink ≡ ink
  pub pairs : AreEdges (DrawnAmong (IsNumberDrawn t x ends) (IsPair t x R)) e.pairs.items

-- those of a predefined relation
abbrev pub AreArrowsOf : Content → Execution → List ℕ → Predefined × Ink → Edges → Type 0
AreArrowsOf t x ends r e = AreArrows t x ends (spelling r.0) r.1 (PairsOf t x r.0) e

-- what a name that the model shows stands for: its expression, behind the definitions before it
abbrev pub ShownPairs : Content → Execution → List Clause → ShownName → Relation Event
ShownPairs t x items s a b =
    (body : Term) × (body_of items s ≡ Some body)
    × HasPair (meaning_of (IsEvent t x) (names_seen t x items s.item) body) a b

-- those of a name that the model shows
abbrev pub AreArrowsShown : Content → Execution → List Clause → List ℕ → ShownName → Edges → Type 0
AreArrowsShown t x items ends s e =
    AreArrows t x ends s.name inks.Named (ShownPairs t x items s) e

-- ---- the graph

-- What comes of the execution, and the steps that are drawn: the model keeps it, or this is the
-- reason why it does not.
pub data IsFateSaid (t : Content) (items : List Clause) (x : Execution)
    : List ℕ → Option ℕ → List ToldStep → Type 0 where
  Kept : IsKept t items x → IsFateSaid t items x (codes ": kept") None []
  Forbidden : (r : Reason) → IsReasonSaid t items x r
      → IsFateSaid t items x (codes ": forbidden by " ++ r.check.items) r.first r.steps.items

-- The graph of the execution, which has that number in the title: its events, the arrows of the
-- predefined relations and of those that the model shows, and the steps.
pub record IsGraphSaid (t : Content) (items : List Clause) (x : Execution) (k : ℕ) (d : Drawing)
    : Type 0 where
  pub fate : List ℕ
  pub told : IsFateSaid t items x fate d.first d.steps.items
  pub title : d.title.items ≡ title_text t.name k fate
  pub initial : AreBoxesSaid t x (step_ends d.first d.steps.items) None d.initial.items
  pub threads : length d.clusters.items ≡ length t.threads
  pub clusters : (u : ℕ) (c : Cluster) → slice_get d.clusters.items u ≡ Some c
      → IsClusterSaid t x (step_ends d.first d.steps.items) u c
  pub known : List Edges
  pub shown : List Edges
  pub edges : d.edges.items ≡ known ++ shown
  pub of_language : AllZip (AreArrowsOf t x (step_ends d.first d.steps.items)) relations known
  pub names : List ShownName
  pub of_names : All (Contains (names_shown items)) names
  pub of_model : AllZip (AreArrowsShown t x items (step_ends d.first d.steps.items)) names shown
