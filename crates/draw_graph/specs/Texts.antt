-- The text of a drawing, for `dot` of Graphviz: `put_drawing` cites the last definition.
use Rattle.std.specs.Prelude.{ℕ, List, [], ◌∷◌, ◌++◌, ◌==◌, ◌||◌, true, Option, Some, None, if◌then◌else◌, decimal, codes}
use Rattle.std.specs.List.{flat_map}
use Rattle.thread_runs.specs.declared.instruction.Instruction.{Instruction}
use Rattle.why_text.specs.Events.{event_name, action_text, instruction_text}
use Rattle.why_text.specs.declared.event.ToldEvent.{ToldEvent}
use Rattle.why_text.specs.declared.reason.ToldStep.{ToldStep}
use Rattle.draw_graph.specs.declared.drawing.Ink.{Ink}
use Rattle.draw_graph.specs.declared.drawing.Ink.TheVariants as inks
use Rattle.draw_graph.specs.declared.drawing.Edges.{Edges}
use Rattle.draw_graph.specs.declared.drawing.Cluster.{Cluster}
use Rattle.draw_graph.specs.declared.drawing.Drawing.{Drawing}

-- a quote and a backslash stand behind a backslash
abbrev pub escaped_byte : ℕ → List ℕ
escaped_byte b = if b == 34 || b == 92 then 92 ∷ b ∷ [] else b ∷ []

abbrev pub dot_escaped : List ℕ → List ℕ
dot_escaped bytes = flat_map escaped_byte bytes

-- ---- events

-- the instruction on a line of its own
unfoldable pub origin_text : Option Instruction → List ℕ
origin_text None = []
origin_text (Some instruction) = codes "\\n" ++ instruction_text instruction

-- an event: its name, and what is written in its box
unfoldable pub node_line : List (List ℕ) → ℕ → ToldEvent → List ℕ
node_line locations initial e =
    event_name initial e.number ++ codes " [label=\"" ++ event_name initial e.number ++ codes ": "
    ++ action_text true locations e.event.action ++ origin_text e.instruction ++ codes "\"];\n"

-- the events of a thread, in program order
unfoldable pub cluster_front : ℕ → List ℕ
cluster_front thread = codes "subgraph cluster_" ++ decimal thread

unfoldable pub cluster_label : ℕ → List ℕ
cluster_label thread = codes " {\nlabel=\"P" ++ decimal thread ++ codes "\";\n"

unfoldable pub cluster_text : List (List ℕ) → ℕ → Cluster → List ℕ
cluster_text locations initial c =
    cluster_front c.thread ++ cluster_label c.thread
    ++ flat_map (node_line locations initial) c.events.items ++ codes "}\n"

-- ---- edges

-- how edges look: colours of the palette of Okabe and Ito, and strokes
unfoldable pub ink_text : Ink → List ℕ
ink_text inks.Order = codes "color=\"#000000\", fontcolor=\"#000000\""
ink_text inks.ReadsFrom = codes "color=\"#D55E00\", fontcolor=\"#D55E00\", constraint=false"
ink_text inks.Coherence = codes "color=\"#0072B2\", fontcolor=\"#0072B2\", constraint=false"
ink_text inks.FromReads = codes "color=\"#E69F00\", fontcolor=\"#E69F00\", constraint=false"
ink_text inks.Dependency =
    codes "color=\"#009E73\", fontcolor=\"#009E73\", style=dashed, constraint=false"
ink_text inks.Fence =
    codes "color=\"#CC79A7\", fontcolor=\"#CC79A7\", style=dotted, constraint=false"
ink_text inks.Named = codes "color=\"#56B4E9\", fontcolor=\"#56B4E9\", constraint=false"

-- from one event to another, with this name
unfoldable pub line_front : ℕ → ℕ → ℕ → List ℕ → List ℕ
line_front initial from to name =
    event_name initial from ++ codes " -> " ++ event_name initial to ++ codes " [label=\""
    ++ dot_escaped name

unfoldable pub edge_line : ℕ → List ℕ → Ink → ℕ × ℕ → List ℕ
edge_line initial name ink p =
    line_front initial p.0 p.1 name ++ codes "\", " ++ ink_text ink ++ codes "];\n"

abbrev pub edges_text : ℕ → Edges → List ℕ
edges_text initial e = flat_map (edge_line initial e.name.items e.ink) e.pairs.items

-- a step of the reason, thick
unfoldable pub thick_line : ℕ → ℕ → ℕ → List ℕ → List ℕ
thick_line initial from to name =
    line_front initial from to name
    ++ codes "\", color=\"#000000\", fontcolor=\"#000000\", penwidth=4, constraint=false];\n"

-- each step from where the one before it leads to
abbrev pub steps_text : ℕ → ℕ → List ToldStep → List ℕ
steps_text initial from [] = []
steps_text initial from (step ∷ steps) =
    thick_line initial from step.to step.label.items ++ steps_text initial step.to steps

unfoldable pub reason_steps : ℕ → Option ℕ → List ToldStep → List ℕ
reason_steps initial None steps = []
reason_steps initial (Some first) steps = steps_text initial first steps

-- ---- the whole

unfoldable pub head_text : List ℕ → List ℕ
head_text title =
    codes "digraph \"" ++ dot_escaped title ++ codes "\" {\nlabel=\"" ++ dot_escaped title
    ++ codes "\";\nnode [shape=box];\n"

-- the initial stores and the threads
unfoldable pub boxes_text : List (List ℕ) → ℕ → Drawing → List ℕ
boxes_text locations initial d =
    flat_map (node_line locations initial) d.initial.items
    ++ flat_map (cluster_text locations initial) d.clusters.items

-- the edges of the relations and the steps of the reason
unfoldable pub lines_text : ℕ → Drawing → List ℕ
lines_text initial d =
    flat_map (edges_text initial) d.edges.items ++ reason_steps initial d.first d.steps.items

unfoldable pub drawing_text : List (List ℕ) → ℕ → Drawing → List ℕ
drawing_text locations initial d =
    head_text d.title.items ++ boxes_text locations initial d ++ lines_text initial d ++ codes "}\n"
