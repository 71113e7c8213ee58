-- The lines of a picture: a line for each pair of a relation of the drawing, thick where a step of
-- the reason goes by it, and one for each other step. Read first.
use Rattle.std.specs.Prelude.{ℕ, ◌+◌, ◌==◌, ◌&&◌, ◌||◌, not, Bool, true, false, nat_lt, nat_eq, if◌then◌else◌, List, [], ◌∷◌, ◌++◌, take, drop, length, codes, Option, Some, None, option_to_list}
use Rattle.std.specs.List.{flat_map, list_any}
use Rattle.std.specs.Cmp.Lexicographic.{pointwise}
use Rattle.draw_graph.specs.declared.drawing.Cluster.{Cluster}
use Rattle.draw_graph.specs.declared.drawing.Drawing.{Drawing}
use Rattle.draw_graph.specs.declared.drawing.Edges.{Edges}
use Rattle.draw_graph.specs.declared.drawing.Ink.{Ink}
use Rattle.draw_graph.specs.declared.drawing.Ink.TheVariants as inks
use Rattle.draw_layout.specs.declared.picture.Ink as line_ink
use Rattle.draw_layout.specs.declared.picture.Ink.TheVariants as line_inks
use Rattle.draw_layout.specs.declared.picture.Line.{Line}
use Rattle.draw_layout.specs.declared.picture.Position.{Position}
use Rattle.draw_scene.specs.declared.links.Link.{Link}
use Rattle.why_text.specs.declared.event.ToldEvent.{ToldEvent}
use Rattle.why_text.specs.declared.reason.ToldStep.{ToldStep}

-- ---- where the box of an event stands

-- the index of the event of number n, where the first of these has this index
abbrev pub index_of : ℕ → ℕ → List ToldEvent → Option ℕ
index_of n index [] = None
index_of n index (e ∷ events) = if e.number == n then Some index else index_of n (index + 1) events

-- a picture has less than 255 columns, and less than 255 rows
abbrev pub position : (column row : ℕ) → Option Position
position column row =
    if nat_lt column 255 && nat_lt row 255 then Some (record { column = column; row = row }) else None

-- initial store k is in column k above the threads
abbrev pub above : Option ℕ → Option Position
above None = None
above (Some k) = position k 0

-- event r of thread t is in column t and row r + 1
abbrev pub below : ℕ → Option ℕ → Option Position
below t None = None
below t (Some r) = position t (r + 1)

abbrev pub or_else : Option Position → Option Position → Option Position
or_else None other = other
or_else (Some p) other = Some p

-- among the events of threads, where the first of these has this index
abbrev pub place_in : ℕ → ℕ → List Cluster → Option Position
place_in n t [] = None
place_in n t (c ∷ clusters) =
    or_else (below t (index_of n 0 c.events.items)) (place_in n (t + 1) clusters)

unfoldable pub place_of : Drawing → ℕ → Option Position
place_of d n = or_else (above (index_of n 0 d.initial.items)) (place_in n 0 d.clusters.items)

-- ---- lines

-- what is seen of a line
pub record Seen : Type 0 where
  pub from : Position
  pub to : Position
  pub name : List ℕ
  pub ink : line_ink.Ink
  pub is_thick : Bool

abbrev pub seen_line : Line → Seen
seen_line l =
    record { from = l.from; to = l.to; name = l.name.items; ink = l.ink; is_thick = l.is_thick }

-- a line from box to box, where both are drawn; between initial stores there is none
abbrev pub joining_lines : Option Position → Option Position → (name : List ℕ) → line_ink.Ink
    → (is_thick : Bool) → List Seen
joining_lines None to name ink thick = []
joining_lines (Some from) None name ink thick = []
joining_lines (Some from) (Some to) name ink thick =
    if (from.row == 0) && (to.row == 0) then []
    else record { from = from; to = to; name = name; ink = ink; is_thick = thick } ∷ []

-- from event a to event b
unfoldable pub line_between : Drawing → (a b : ℕ) → (name : List ℕ) → line_ink.Ink
    → (is_thick : Bool) → List Seen
line_between d a b name ink thick = joining_lines (place_of d a) (place_of d b) name ink thick

-- ---- steps

-- each step begins where the one before it leads to
abbrev pub links_from : ℕ → List ToldStep → List Link
links_from from [] = []
links_from from (s ∷ steps) =
    record { from = from; to = s.to; label = s.label.items } ∷ links_from s.to steps

abbrev pub links_of : Option ℕ → List ToldStep → List Link
links_of None steps = []
links_of (Some first) steps = links_from first steps

abbrev pub is_text : List ℕ → List ℕ → Bool
is_text bytes other = pointwise nat_eq bytes other

-- relations that have a name for their pairs within a thread, and one for those between threads
abbrev pub has_parts : Ink → Bool
has_parts inks.Order = false
has_parts inks.ReadsFrom = true
has_parts inks.Coherence = true
has_parts inks.FromReads = true
has_parts inks.Dependency = false
has_parts inks.Fence = false
has_parts inks.Named = false

-- as `rfe` is of `rf`
abbrev pub is_part_of : (label name : List ℕ) → Bool
is_part_of label name =
    is_text (take (length name) label) name
    && (is_text (drop (length name) label) (codes "e")
    || is_text (drop (length name) label) (codes "i"))

-- a step of this label goes by the relation
unfoldable pub goes_by : (label name : List ℕ) → Ink → Bool
goes_by label name ink = is_text label name || (has_parts ink && is_part_of label name)

abbrev pub is_link_by : List ℕ → Ink → ℕ × ℕ → Link → Bool
is_link_by name ink p link = (link.from == p.0) && (link.to == p.1) && goes_by link.label name ink

-- the label of the first step that goes by this pair of the relation
abbrev pub label_of : List Link → List ℕ → Ink → ℕ × ℕ → Option (List ℕ)
label_of [] name ink p = None
label_of (link ∷ links) name ink p =
    if is_link_by name ink p link then Some link.label else label_of links name ink p

-- ---- the lines of relations

abbrev pub line_ink_of : Ink → line_ink.Ink
line_ink_of inks.Order = line_inks.Order
line_ink_of inks.ReadsFrom = line_inks.ReadsFrom
line_ink_of inks.Coherence = line_inks.Coherence
line_ink_of inks.FromReads = line_inks.FromReads
line_ink_of inks.Dependency = line_inks.Dependency
line_ink_of inks.Fence = line_inks.Fence
line_ink_of inks.Named = line_inks.Shown

-- by the name of the relation; by the label of a step, thick
abbrev pub edge_by : Option (List ℕ) → Drawing → List ℕ → Ink → ℕ × ℕ → List Seen
edge_by None d name ink p = line_between d p.0 p.1 name (line_ink_of ink) false
edge_by (Some label) d name ink p = line_between d p.0 p.1 label (line_ink_of ink) true

abbrev pub edge_line : Drawing → List Link → List ℕ → Ink → ℕ × ℕ → List Seen
edge_line d links name ink p = edge_by (label_of links name ink p) d name ink p

abbrev pub edge_lines : Drawing → List Link → Edges → List Seen
edge_lines d links e = flat_map (edge_line d links e.name.items e.ink) e.pairs.items

-- ---- the lines of the other steps

-- an edge of the drawing is the line of this step
abbrev pub is_edge : Link → Edges → Bool
is_edge link e = list_any (λ p. is_link_by e.name.items e.ink p link) e.pairs.items

abbrev pub step_line : Drawing → Link → List Seen
step_line d link =
    if list_any (is_edge link) d.edges.items then []
    else line_between d link.from link.to link.label line_inks.Step true

abbrev pub lines_with : Drawing → List Link → List Seen
lines_with d links = flat_map (edge_lines d links) d.edges.items ++ flat_map (step_line d) links

abbrev pub drawing_lines : Drawing → List Seen
drawing_lines d = lines_with d (links_of d.first d.steps.items)
