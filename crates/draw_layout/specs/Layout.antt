-- Columns, rows, and where each line of a picture stands. All numbers are whole; `-` stops at 0.
-- `lay_out` cites the last definitions.
use Rattle.std.specs.Prelude.{ℕ, zero, suc, ◌≡◌, ◌+◌, ◌*◌, ◌-◌, ◌/◌, max, ◌==◌, ◌&&◌, Bool, true, false, not, nat_lt, nat_le, if◌then◌else◌, List, [], ◌∷◌, ◌++◌, length, fold, slice_get, Vec, Option, Some, None}
use Rattle.std.specs.List.{list_all}
use Rattle.std.specs.declared.alloc.Global.{Global}
use Rattle.draw_layout.specs.declared.picture.Label.{Label}
use Rattle.draw_layout.specs.declared.picture.Line.{Line}
use Rattle.draw_layout.specs.declared.picture.Picture.{Picture}
use Rattle.draw_layout.specs.declared.picture.Position.{Position}
use Rattle.draw_layout.specs.declared.ends.Side.{Side}
use Rattle.draw_layout.specs.declared.ends.Side.TheVariants.{Left, Right, Below}
use Rattle.draw_layout.specs.declared.ends.Course.{Course}
use Rattle.draw_layout.specs.declared.ends.Course.TheVariants.{Spine, Near, Beside, Far, FromStore, ToStore}
use Rattle.draw_layout.specs.declared.ends.End.{End}
use Rattle.draw_layout.specs.declared.frame.Frame.{Frame}
use Rattle.draw_layout.specs.declared.arrow.Arrow.{Arrow}
use Rattle.draw_layout.specs.declared.arrow.Point.{Point}
use Rattle.draw_layout.specs.declared.layout.Layout.{Layout}
use Rattle.draw_layout.specs.Ends.{course_of, is_spine, first_end, last_end, ends_of, has_wire, port_of, ports_at, most_ports, stub, wire_of, reach, lanes, lane_of}

-- ---- texts

abbrev pub label_length : Label → ℕ
label_length b = max (length b.action.items) (length b.instruction.items)

abbrev pub longest_in : ℕ → List Label → ℕ
longest_in most labels = fold (λ most b. max most (label_length b)) most labels

-- a length that counts only where the line goes straight down
abbrev pub if_spine : Course → ℕ → ℕ
if_spine Spine count = count
if_spine Near count = 0
if_spine Beside count = 0
if_spine Far count = 0
if_spine FromStore count = 0
if_spine ToStore count = 0

abbrev pub spine_length : Line → ℕ
spine_length l = if_spine (course_of l) (length l.name.items)

abbrev pub longest_spine : List Line → ℕ
longest_spine lines = fold (λ most l. max most (spine_length l)) 0 lines

abbrev pub longest_text : Picture → ℕ
longest_text p =
    fold (λ most thread. longest_in most thread.items)
    (longest_in 12 p.initial.items) p.threads.items

-- ---- boxes: 8 for a letter, 20 for a port; half a box holds the name of a line straight down

abbrev pub box_width : (longest spine : ℕ) → List End → ℕ
box_width longest spine ends =
    max (8 * max longest (2 * spine + 2) + 20) (20 * (1 + most_ports ends true))

abbrev pub box_height : List End → ℕ
box_height ends = max (20 * (1 + most_ports ends false)) 46

-- the initial stores, each 46 high, and a lane for each line at them
abbrev pub band : Bool → List End → ℕ
band has_initial ends = if has_initial then 58 + 16 * lanes ends true else 0

abbrev pub frame_of : (longest spine : ℕ) → (has_initial : Bool) → List End → Frame
frame_of longest spine has_initial ends = record {
  box_width = box_width longest spine ends;
  box_height = box_height ends;
  first_row = 34 + band has_initial ends;
}

-- ---- columns and rows

-- between two columns: what reaches out of both, and 64 for curves
abbrev pub left_of : List End → Frame → ℕ → ℕ
left_of ends f zero = 12 + reach ends 0 Left
left_of ends f (suc c) =
    left_of ends f c + f.box_width + reach ends c Right + 64 + reach ends (suc c) Left

-- the initial stores stand at 8; the rows of events are 30 apart
abbrev pub top_of : Frame → ℕ → ℕ
top_of f row = if row == 0 then 8 else f.first_row + (row - 1) * (f.box_height + 30)

-- the most events of a thread, 1 at least
abbrev pub most_rows : List (Vec Label Global) → ℕ
most_rows threads = fold (λ most thread. max most (length thread.items)) 1 threads

abbrev pub columns_of : Picture → ℕ
columns_of p = max (length p.threads.items) (length p.initial.items)

abbrev pub bottom_of : Frame → ℕ → ℕ
bottom_of f rows = top_of f rows + f.box_height

abbrev pub page_width : List End → Frame → ℕ → ℕ
page_width ends f last = left_of ends f last + f.box_width + reach ends last Right + 12

abbrev pub page_height : List End → ℕ → ℕ
page_height ends bottom = bottom + 20 + 16 * lanes ends false

-- ---- points

-- how far along a side an end stands: its ports are 20 apart, and in the middle
abbrev pub inset_of : List End → ℕ → End → ℕ
inset_of ends size e =
    (size - 20 * (ports_at ends e.at e.side - 1)) / 2 + 20 * port_of ends e

abbrev pub outward : Side → ℕ → Frame → ℕ → ℕ
outward Left left f out = left - out
outward Right left f out = left + f.box_width + out
outward Below left f out = left + out

abbrev pub at_side : List End → Frame → End → Side → Point
at_side ends f e Below = record {
  x = left_of ends f e.at.column + inset_of ends f.box_width e;
  y = top_of f e.at.row + 46;
}
at_side ends f e Left = record {
  x = left_of ends f e.at.column;
  y = top_of f e.at.row + inset_of ends f.box_height e;
}
at_side ends f e Right = record {
  x = left_of ends f e.at.column + f.box_width;
  y = top_of f e.at.row + inset_of ends f.box_height e;
}

-- where a line ends: at a point of its own on the border of the box
abbrev pub point_of : List End → Frame → End → Point
point_of ends f e = at_side ends f e e.side

-- how far from its box a line bends: behind the names, to its own upright piece; where it has none,
-- behind all upright pieces
abbrev pub bend_of : List End → End → ℕ
bend_of ends e =
    if has_wire e then stub ends e.at.column e.side + 8 * (wire_of ends e + 1)
    else reach ends e.at.column e.side

abbrev pub bend_at : List End → Frame → End → ℕ
bend_at ends f e = outward e.side (left_of ends f e.at.column) f (bend_of ends e)

abbrev pub is_above : Course → Bool
is_above FromStore = true
is_above ToStore = true
is_above Spine = false
is_above Near = false
is_above Beside = false
is_above Far = false

-- lanes are 16 apart
abbrev pub lane_at : List End → ℕ → End → ℕ
lane_at ends bottom e =
    if is_above e.course then 64 + 16 * lane_of ends true e.number
    else bottom + 30 + 16 * lane_of ends false e.number

-- ---- lines

abbrev pub is_left : Side → Bool
is_left Left = true
is_left Right = false
is_left Below = false

-- a name stands beside its box, above the line
abbrev pub name_point : Point → Side → Point
name_point point Left = record { x = point.x - 8; y = point.y - 4 }
name_point point Right = record { x = point.x + 8; y = point.y - 4 }
name_point point Below = record { x = point.x + 8; y = point.y - 4 }

-- straight down from the middle of a box to the next
unfoldable pub spine_of : List End → Frame → Line → Arrow
spine_of ends f l =
    let x = left_of ends f l.from.column + f.box_width / 2 in
    let y = top_of f l.from.row + f.box_height in
    record {
      course = Spine;
      start = record { x = x; y = y };
      first = x;
      lane = y;
      last = x;
      end = record { x = x; y = top_of f l.to.row };
      name = record { x = x + 8; y = y + 19 };
      name_ends = false;
    }

-- the end at which the name stands
abbrev pub named_end : Course → End → End → End
named_end FromStore first last = last
named_end Spine first last = first
named_end Near first last = first
named_end Beside first last = first
named_end Far first last = first
named_end ToStore first last = first

unfoldable pub sided_of : List End → Frame → ℕ → End → End → Arrow
sided_of ends f bottom first last =
    let named = named_end first.course first last in
    record {
      course = first.course;
      start = point_of ends f first;
      first = bend_at ends f first;
      lane = lane_at ends bottom first;
      last = bend_at ends f last;
      end = point_of ends f last;
      name = name_point (point_of ends f named) named.side;
      name_ends = is_left named.side;
    }

abbrev pub arrow_of : List End → Frame → ℕ → ℕ → Line → Arrow
arrow_of ends f bottom k l =
    if is_spine (course_of l) then spine_of ends f l
    else sided_of ends f bottom (first_end k l) (last_end k l)

abbrev pub arrows_of : List End → Frame → ℕ → ℕ → List Line → List Arrow
arrows_of ends f bottom k [] = []
arrows_of ends f bottom k (l ∷ lines) =
    arrow_of ends f bottom k l ∷ arrows_of ends f bottom (k + 1) lines

-- ---- which pictures fit

-- the thread has this many events at least
abbrev pub has_events : Option (Vec Label Global) → ℕ → Bool
has_events None count = false
has_events (Some thread) count = nat_le count (length thread.items)

-- this box is in the picture
abbrev pub has_box : Picture → Position → Bool
has_box p at =
    if at.row == 0 then nat_lt at.column (length p.initial.items)
    else has_events (slice_get p.threads.items at.column) at.row

-- a line joins two boxes, not two initial stores, by a name of at most 255 letters
unfoldable pub line_fits : Picture → Line → Bool
line_fits p l =
    has_box p l.from && has_box p l.to && not ((l.from.row == 0) && (l.to.row == 0))
    && nat_lt (length l.name.items) 256

-- a picture has 1 to 8 columns, at most 128 rows and 512 lines, and texts of at most 512 letters
unfoldable pub sizes_fit : Picture → Bool
sizes_fit p =
    nat_lt 0 (columns_of p) && nat_lt (columns_of p) 9 && nat_lt (most_rows p.threads.items) 129
    && nat_lt (length p.lines.items) 513 && nat_lt (longest_text p) 513
    && nat_lt (longest_spine p.lines.items) 513

abbrev pub picture_fits : Picture → Bool
picture_fits p = sizes_fit p && list_all (line_fits p) p.lines.items

-- ---- the whole

-- where the columns stand
abbrev pub lefts_of : List End → Frame → ℕ → List ℕ
lefts_of ends f zero = []
lefts_of ends f (suc n) = lefts_of ends f n ++ left_of ends f n ∷ []

-- the sizes of the boxes of a picture
unfoldable pub picture_frame : Picture → List End → Frame
picture_frame p ends =
    frame_of (longest_text p) (longest_spine p.lines.items) (nat_lt 0 (length p.initial.items)) ends

-- the lower edge of its last row
unfoldable pub picture_bottom : Picture → List End → ℕ
picture_bottom p ends = bottom_of (picture_frame p ends) (most_rows p.threads.items)

-- the layout of a picture whose lines have these ends
pub record IsLayoutWith (p : Picture) (ends : List End) (l : Layout) : Type 0 where
  pub frame : l.frame ≡ picture_frame p ends
  pub bottom : l.bottom ≡ picture_bottom p ends
  pub width : l.width ≡ page_width ends (picture_frame p ends) (columns_of p - 1)
  pub height : l.height ≡ page_height ends (picture_bottom p ends)
  pub lefts : l.lefts.items ≡ lefts_of ends (picture_frame p ends) (columns_of p)
  pub arrows :
      l.arrows.items
      ≡ arrows_of ends (picture_frame p ends) (picture_bottom p ends) 0 p.lines.items

abbrev pub IsLayout : Picture → Layout → Type 0
IsLayout p l = IsLayoutWith p (ends_of 0 p.lines.items) l
