-- The ends of the lines: at which side of its box each stands, in which order, and how much room
-- names and upright pieces take beside a column. Read first.
use Rattle.std.specs.Prelude.{ℕ, ◌+◌, ◌*◌, ◌-◌, max, ◌==◌, ◌&&◌, ◌||◌, Bool, true, false, not, nat_lt, if◌then◌else◌, List, [], ◌∷◌, ◌++◌, length, count_by, fold}
use Rattle.draw_layout.specs.declared.picture.Ink.{Ink}
use Rattle.draw_layout.specs.declared.picture.Ink.TheVariants as inks
use Rattle.draw_layout.specs.declared.picture.Line.{Line}
use Rattle.draw_layout.specs.declared.picture.Position.{Position}
use Rattle.draw_layout.specs.declared.ends.Side.{Side}
use Rattle.draw_layout.specs.declared.ends.Side.TheVariants.{Left, Right, Below}
use Rattle.draw_layout.specs.declared.ends.Course.{Course}
use Rattle.draw_layout.specs.declared.ends.Course.TheVariants.{Spine, Near, Beside, Far, FromStore, ToStore}
use Rattle.draw_layout.specs.declared.ends.End.{End}

-- ---- the way of a line

-- rf, co, fr and steps that do not go down go round the right side of a column
abbrev pub turns_right : Ink → (goes_down : Bool) → Bool
turns_right inks.ReadsFrom down = true
turns_right inks.Coherence down = true
turns_right inks.FromReads down = true
turns_right inks.Step down = not down
turns_right inks.Order down = false
turns_right inks.Dependency down = false
turns_right inks.Fence down = false
turns_right inks.Shown down = false

abbrev pub is_order : Ink → Bool
is_order inks.Order = true
is_order inks.ReadsFrom = false
is_order inks.Coherence = false
is_order inks.FromReads = false
is_order inks.Dependency = false
is_order inks.Fence = false
is_order inks.Shown = false
is_order inks.Step = false

-- within a column: program order to the next event goes straight down
abbrev pub course_within : Line → Course
course_within l = if is_order l.ink && (l.to.row == l.from.row + 1) then Spine else Beside

abbrev pub distance : ℕ → ℕ → ℕ
distance a b = if nat_lt a b then b - a else a - b

abbrev pub course_of : Line → Course
course_of l =
    if l.from.row == 0 then FromStore else (
    if l.to.row == 0 then ToStore else (
    if l.from.column == l.to.column then course_within l else (
    if distance l.from.column l.to.column == 1 then Near else Far)))

abbrev pub is_spine : Course → Bool
is_spine Spine = true
is_spine Near = false
is_spine Beside = false
is_spine Far = false
is_spine FromStore = false
is_spine ToStore = false

-- ---- sides

-- the side of a column at which a line between its boxes goes
abbrev pub turn_of : Line → Side
turn_of l = if turns_right l.ink (nat_lt l.from.row l.to.row) then Right else Left

-- a line ends at the side that faces the other box; from and to an initial store at its lower side
abbrev pub side_of : Position → (other : Position) → (turn : Side) → Side
side_of at other turn =
    if at.row == 0 then Below else (
    if nat_lt at.column other.column then Right else (
    if nat_lt other.column at.column then Left else (
    if other.row == 0 then Left else turn)))

abbrev pub is_same_side : Side → Side → Bool
is_same_side Left Left = true
is_same_side Left Right = false
is_same_side Left Below = false
is_same_side Right Left = false
is_same_side Right Right = true
is_same_side Right Below = false
is_same_side Below Left = false
is_same_side Below Right = false
is_same_side Below Below = true

-- the lower side, or else one of the others
abbrev pub is_side : (lower : Bool) → Side → Bool
is_side lower Left = not lower
is_side lower Right = not lower
is_side lower Below = lower

-- ---- ends

-- a name stands at the first end; of a line from an initial store at the last
abbrev pub has_name : Course → (is_first : Bool) → Bool
has_name FromStore is_first = not is_first
has_name Spine is_first = is_first
has_name Near is_first = is_first
has_name Beside is_first = is_first
has_name Far is_first = is_first
has_name ToStore is_first = is_first

-- 8 for a letter; a name of over 255 letters is in no picture that fits
abbrev pub name_room : ℕ → ℕ
name_room count = if nat_lt count 256 then count * 8 + 12 else 2060

abbrev pub room_of : Line → (is_first : Bool) → ℕ
room_of l is_first = if has_name (course_of l) is_first then name_room (length l.name.items) else 12

abbrev pub first_end : ℕ → Line → End
first_end k l = record {
  number = 2 * k;
  at = l.from;
  side = side_of l.from l.to (turn_of l);
  other_row = l.to.row;
  room = room_of l true;
  course = course_of l;
  is_first = true;
}

abbrev pub last_end : ℕ → Line → End
last_end k l = record {
  number = 2 * k + 1;
  at = l.to;
  side = side_of l.to l.from (turn_of l);
  other_row = l.from.row;
  room = room_of l false;
  course = course_of l;
  is_first = false;
}

abbrev pub end_of : ℕ → Line → Bool → End
end_of k l true = first_end k l
end_of k l false = last_end k l

-- a line that is not straight down has two ends at sides
abbrev pub ends_with : Course → ℕ → Line → List End
ends_with Spine k l = []
ends_with Near k l = first_end k l ∷ last_end k l ∷ []
ends_with Beside k l = first_end k l ∷ last_end k l ∷ []
ends_with Far k l = first_end k l ∷ last_end k l ∷ []
ends_with FromStore k l = first_end k l ∷ last_end k l ∷ []
ends_with ToStore k l = first_end k l ∷ last_end k l ∷ []

abbrev pub ends_of : ℕ → List Line → List End
ends_of k [] = []
ends_of k (l ∷ lines) = ends_with (course_of l) k l ++ ends_of (k + 1) lines

-- ---- ports: each end at a side of a box has one of its own

abbrev pub is_at : Position → Side → End → Bool
is_at at side e =
    (e.at.column == at.column) && (e.at.row == at.row) && is_same_side e.side side

-- lines to upper rows come first, then by number
abbrev pub is_before : End → End → Bool
is_before e f =
    nat_lt e.other_row f.other_row || ((e.other_row == f.other_row) && nat_lt e.number f.number)

abbrev pub port_of : List End → End → ℕ
port_of ends e = count_by (λ f. is_at e.at e.side f && is_before f e) ends

abbrev pub ports_at : List End → Position → Side → ℕ
ports_at ends at side = count_by (λ e. is_at at side e) ends

abbrev pub most_ports_of : List End → (lower : Bool) → (some : List End) → ℕ
most_ports_of ends lower some =
    fold (λ most e. if is_side lower e.side then max most (ports_at ends e.at e.side) else most)
    0 some

abbrev pub most_ports : List End → (lower : Bool) → ℕ
most_ports ends lower = most_ports_of ends lower ends

-- ---- beside a column: names, then upright pieces, each 8 from the next

abbrev pub is_beside : ℕ → Side → End → Bool
is_beside column side e = (e.at.column == column) && is_same_side e.side side

abbrev pub stub : List End → ℕ → Side → ℕ
stub ends column side =
    fold (λ most e. if is_beside column side e then max most e.room else most) 12 ends

abbrev pub has_wire_on : Course → (is_first : Bool) → Bool
has_wire_on Spine is_first = false
has_wire_on Near is_first = false
has_wire_on Beside is_first = is_first
has_wire_on Far is_first = true
has_wire_on FromStore is_first = not is_first
has_wire_on ToStore is_first = is_first

abbrev pub has_wire : End → Bool
has_wire e = has_wire_on e.course e.is_first

abbrev pub is_wire_beside : ℕ → Side → End → Bool
is_wire_beside column side e = has_wire e && is_beside column side e

abbrev pub wires : List End → ℕ → Side → ℕ
wires ends column side = count_by (λ e. is_wire_beside column side e) ends

abbrev pub wire_of : List End → End → ℕ
wire_of ends e =
    count_by (λ f. is_wire_beside e.at.column e.side f && nat_lt f.number e.number) ends

unfoldable pub reach : List End → ℕ → Side → ℕ
reach ends column side = stub ends column side + 8 * wires ends column side

-- ---- lanes: level pieces above the threads, of lines at initial stores, and below, of far lines

abbrev pub has_lane : Course → (is_above : Bool) → Bool
has_lane FromStore is_above = is_above
has_lane ToStore is_above = is_above
has_lane Far is_above = not is_above
has_lane Spine is_above = false
has_lane Near is_above = false
has_lane Beside is_above = false

abbrev pub is_lane : (is_above : Bool) → End → Bool
is_lane is_above e = e.is_first && has_lane e.course is_above

abbrev pub lanes : List End → (is_above : Bool) → ℕ
lanes ends is_above = count_by (λ e. is_lane is_above e) ends

abbrev pub lane_of : List End → (is_above : Bool) → ℕ → ℕ
lane_of ends is_above number = count_by (λ e. is_lane is_above e && nat_lt e.number number) ends
