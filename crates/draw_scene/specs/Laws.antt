-- What each line of a picture is. `laws` cites these.
use Rattle.std.specs.Prelude.{◌≡◌, ℕ, zero, suc, Bool, true, false, List, Option, Some, slice_get}
use Rattle.std.specs.List.{Contains}
use Rattle.draw_graph.specs.declared.drawing.Cluster.{Cluster}
use Rattle.draw_graph.specs.declared.drawing.Drawing.{Drawing}
use Rattle.draw_graph.specs.declared.drawing.Edges.{Edges}
use Rattle.draw_layout.specs.declared.picture.Position.{Position}
use Rattle.draw_scene.specs.declared.links.Link.{Link}
use Rattle.draw_scene.specs.Lines.{Seen, links_of, place_of}
use Rattle.why_text.specs.declared.event.ToldEvent.{ToldEvent}

-- it leads from the box of event a to that of event b
abbrev pub LeadsFromTo : Drawing → (a b : ℕ) → Seen → Type 0
LeadsFromTo d a b l = (place_of d a ≡ Some l.from) × (place_of d b ≡ Some l.to)

-- a pair of the relation by whose name it goes
pub record IsLineOfPair (d : Drawing) (l : Seen) : Type 0 where
  pub edges : Edges
  pub relation : Contains d.edges.items edges
  pub pair : ℕ × ℕ
  pub related : Contains edges.pairs.items pair
  pub leads : LeadsFromTo d pair.0 pair.1 l
  pub name : l.name ≡ edges.name.items

-- a step of the reason, by what carries it
pub record IsLineOfStep (d : Drawing) (l : Seen) : Type 0 where
  pub link : Link
  pub step : Contains (links_of d.first d.steps.items) link
  pub leads : LeadsFromTo d link.from link.to l
  pub name : l.name ≡ link.label

-- a thick line is a step, and any other a pair
abbrev pub IsDrawnLine : (is_thick : Bool) → Drawing → Seen → Type 0
IsDrawnLine true d l = IsLineOfStep d l
IsDrawnLine false d l = IsLineOfPair d l

-- ---- boxes

-- this event is the one of number n
abbrev pub IsEventOfNumber : ℕ → Option ToldEvent → Type 0
IsEventOfNumber n found = (e : ToldEvent) × (found ≡ Some e) × (e.number ≡ n)

-- in the top row an initial store, in the rows below it the events of the thread of the column
abbrev pub IsBoxIn : Drawing → ℕ → (column row : ℕ) → Type 0
IsBoxIn d n column zero = IsEventOfNumber n (slice_get d.initial.items column)
IsBoxIn d n column (suc r) =
    (c : Cluster) × (slice_get d.clusters.items column ≡ Some c)
    × IsEventOfNumber n (slice_get c.events.items r)
