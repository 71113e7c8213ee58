-- The bytes of the element: threads, lines, boxes, and names on top. `put_svg` cites the last one.
use Rattle.std.specs.Prelude.{ℕ, ◌+◌, ◌-◌, ◌/◌, ◌==◌, Bool, List, [], ◌∷◌, ◌++◌, length, nat_lt, if◌then◌else◌, decimal, codes, Vec}
use Rattle.std.specs.declared.alloc.Global.{Global}
use Rattle.draw_layout.specs.declared.picture.Ink.{Ink}
use Rattle.draw_layout.specs.declared.picture.Ink.TheVariants as inks
use Rattle.draw_layout.specs.declared.picture.Label.{Label}
use Rattle.draw_layout.specs.declared.picture.Line.{Line}
use Rattle.draw_layout.specs.declared.picture.Picture.{Picture}
use Rattle.draw_layout.specs.declared.arrow.Arrow.{Arrow}
use Rattle.draw_layout.specs.declared.frame.Frame.{Frame}
use Rattle.draw_layout.specs.declared.layout.Layout.{Layout}
use Rattle.draw_layout.specs.Layout.{top_of}
use Rattle.escaped_texts.specs.Escaped.{escaped}
use Rattle.draw_svg.specs.Paths.{pair, path_on, head_on}

-- ---- attributes

unfoldable pub at_point : ℕ → ℕ → List ℕ
at_point x y = codes " x=\"" ++ decimal x ++ codes "\" y=\"" ++ decimal y ++ codes "\""

unfoldable pub sizes : ℕ → ℕ → List ℕ
sizes width height =
    codes " width=\"" ++ decimal width ++ codes "\" height=\"" ++ decimal height ++ codes "\""

unfoldable pub ink_class : Ink → List ℕ
ink_class inks.Order = codes "po"
ink_class inks.ReadsFrom = codes "rf"
ink_class inks.Coherence = codes "co"
ink_class inks.FromReads = codes "fr"
ink_class inks.Dependency = codes "dep"
ink_class inks.Fence = codes "fence"
ink_class inks.Shown = codes "named"
ink_class inks.Step = codes "step"

-- a thick line looks like a step of the reason
unfoldable pub line_class : Ink → Bool → List ℕ
line_class ink is_thick = if is_thick then codes "step" else ink_class ink

-- ---- boxes

-- a text in the middle of a box
unfoldable pub text_at : List ℕ → ℕ → ℕ → List ℕ → List ℕ
text_at class x y text =
    codes "<text class=\"" ++ class ++ codes "\"" ++ at_point x y ++ codes ">" ++ escaped text
    ++ codes "</text>"

unfoldable pub rectangle : List ℕ → (x y width height : ℕ) → List ℕ
rectangle class x y width height =
    codes "<rect class=\"" ++ class ++ codes "\"" ++ at_point x y ++ sizes width height
    ++ codes " rx=\"5\"></rect>"

-- what the event does, and its instruction if it has one
unfoldable pub box_texts : ℕ → ℕ → Label → List ℕ
box_texts x middle b =
    if length b.instruction.items == 0 then text_at (codes "e") x (middle + 5) b.action.items
    else text_at (codes "e") x (middle - 3) b.action.items
    ++ text_at (codes "i") x (middle + 14) b.instruction.items

unfoldable pub box_at : (x y width height : ℕ) → Label → List ℕ
box_at x y width height b =
    rectangle (codes "b") x y width height ++ box_texts (x + width / 2) (y + height / 2) b

-- ---- columns

unfoldable pub thread_name : ℕ → ℕ → ℕ → List ℕ
thread_name x y thread =
    codes "<text class=\"tn\"" ++ at_point x y ++ codes ">P" ++ decimal thread ++ codes "</text>"

-- the ground of a thread and its name
unfoldable pub ground : Layout → ℕ → ℕ → List ℕ
ground l left thread =
    rectangle (codes "th") (left - 10) (l.frame.first_row - 26) (l.frame.box_width + 20)
    (l.bottom - l.frame.first_row + 36)
    ++ thread_name (left + l.frame.box_width / 2) (l.frame.first_row - 9) thread

-- the grounds of so many threads
abbrev pub grounds : Layout → ℕ → (lefts : List ℕ) → List (Vec Label Global) → List ℕ
grounds l thread lefts [] = []
grounds l thread [] (events ∷ threads) = []
grounds l thread (left ∷ lefts) (events ∷ threads) =
    ground l left thread ++ grounds l (thread + 1) lefts threads

abbrev pub stores : Layout → (lefts : List ℕ) → List Label → List ℕ
stores l lefts [] = []
stores l [] (b ∷ labels) = []
stores l (left ∷ lefts) (b ∷ labels) =
    box_at left 8 l.frame.box_width 46 b ++ stores l lefts labels

-- the events of a thread, from an index on
abbrev pub events_from : Frame → ℕ → ℕ → List Label → List ℕ
events_from f left index [] = []
events_from f left index (b ∷ labels) =
    box_at left (top_of f (index + 1)) f.box_width f.box_height b
    ++ events_from f left (index + 1) labels

-- a picture that fits has no thread of over 128 events
abbrev pub thread_boxes : Frame → ℕ → List Label → List ℕ
thread_boxes f left labels =
    if nat_lt (length labels) 256 then events_from f left 0 labels else []

abbrev pub threads_boxes : Layout → (lefts : List ℕ) → List (Vec Label Global) → List ℕ
threads_boxes l lefts [] = []
threads_boxes l [] (events ∷ threads) = []
threads_boxes l (left ∷ lefts) (events ∷ threads) =
    thread_boxes l.frame left events.items ++ threads_boxes l lefts threads

-- ---- lines

unfoldable pub line_path : Arrow → List ℕ
line_path a = codes "<path class=\"l\" d=\"" ++ path_on a.course a ++ codes "\"></path>"

unfoldable pub head_path : Arrow → List ℕ
head_path a =
    codes "<path class=\"h\" d=\"M" ++ pair a.end.x a.end.y ++ head_on a.course a
    ++ codes "\"></path>"

unfoldable pub svg_line : Line → Arrow → List ℕ
svg_line line a =
    codes "<g class=\"" ++ line_class line.ink line.is_thick ++ codes "\">" ++ line_path a
    ++ head_path a ++ codes "</g>"

unfoldable pub anchor : Bool → List ℕ
anchor ends = if ends then codes " text-anchor=\"end\"" else []

unfoldable pub name_front : Line → Arrow → List ℕ
name_front line a =
    codes "<text class=\"a " ++ line_class line.ink line.is_thick ++ codes "\""
    ++ at_point a.name.x a.name.y ++ anchor a.name_ends

-- the name of a line
unfoldable pub name_text : Line → Arrow → List ℕ
name_text line a = name_front line a ++ codes ">" ++ escaped line.name.items ++ codes "</text>"

abbrev pub lines_text : List Line → List Arrow → List ℕ
lines_text [] arrows = []
lines_text (line ∷ lines) [] = []
lines_text (line ∷ lines) (a ∷ arrows) = svg_line line a ++ lines_text lines arrows

abbrev pub names_text : List Line → List Arrow → List ℕ
names_text [] arrows = []
names_text (line ∷ lines) [] = []
names_text (line ∷ lines) (a ∷ arrows) = name_text line a ++ names_text lines arrows

-- ---- the whole

unfoldable pub svg_start : List ℕ
svg_start = codes "<svg xmlns=\"http://www.w3.org/2000/svg\" viewBox=\"0 0 "

unfoldable pub view_text : Layout → List ℕ
view_text l = svg_start ++ pair l.width l.height ++ codes "\"" ++ sizes l.width l.height

unfoldable pub head_text : Layout → List ℕ → List ℕ
head_text l title =
    view_text l ++ codes " role=\"img\"><title>" ++ escaped title ++ codes "</title>"

-- the boxes of the initial stores and of the threads
unfoldable pub boxes_text : Picture → Layout → List ℕ
boxes_text p l =
    stores l l.lefts.items p.initial.items ++ threads_boxes l l.lefts.items p.threads.items

-- with this style, where it is drawn alone
unfoldable pub svg_text : List ℕ → Picture → Layout → List ℕ
svg_text style p l =
    head_text l p.title.items ++ style ++ grounds l 0 l.lefts.items p.threads.items
    ++ lines_text p.lines.items l.arrows.items ++ boxes_text p l
    ++ names_text p.lines.items l.arrows.items ++ codes "</svg>\n"
