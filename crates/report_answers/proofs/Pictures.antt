-- The text of a picture closes its elements in order, and opens no script.
use Rattle.std.proofs.Common.{◌≡◌, ℕ, zero, suc, ◌+◌, ◌-◌, ◌/◌, ◌%◌, List, [], ◌∷◌, ◌++◌, Bool, true, false, length, refl, arith}
use Rattle.std.specs.Prelude.{◌==◌, not, nat_lt, codes, Vec}
use Rattle.std.specs.declared.alloc.Global.{Global}
use Rattle.std.specs.List.{list_all}
use Rattle.std.specs.Fmt.{digit_glyph, digits_onto, digits, decimal}
use Rattle.std.proofs.lemmas.Bool.{and_from, not-true, not_from_false, cond_both, cond-false, ne_eqb}
use Rattle.draw_layout.specs.declared.picture.Ink.{Ink}
use Rattle.draw_layout.specs.declared.picture.Ink.TheVariants as inks
use Rattle.draw_layout.specs.declared.picture.Label.{Label}
use Rattle.draw_layout.specs.declared.picture.Line.{Line}
use Rattle.draw_layout.specs.declared.picture.Picture.{Picture}
use Rattle.draw_layout.specs.declared.arrow.Arrow.{Arrow}
use Rattle.draw_layout.specs.declared.arrow.Point.{Point}
use Rattle.draw_layout.specs.declared.ends.Course.{Course}
use Rattle.draw_layout.specs.declared.ends.Course.TheVariants.{Spine, Near, Beside, Far, FromStore, ToStore}
use Rattle.draw_layout.specs.declared.frame.Frame.{Frame}
use Rattle.draw_layout.specs.declared.layout.Layout.{Layout}
use Rattle.draw_layout.specs.Layout.{top_of}
use Rattle.escaped_texts.specs.Balanced.{ElementNames, MarkupReader, Content, Attributes, Quoted, is_void, markup_behind}
use Rattle.draw_svg.specs.Paths.{toward, pair, start_at, level_to, upright_to, round, level_turn, upright_turn, last_piece, spine_path, curve, near_path, beside_path, from_lane, to_lane, far_path, from_store_path, to_store_path, path_on, side_head, head_on}
use Rattle.draw_svg.specs.Svg.{at_point, sizes, ink_class, line_class, text_at, rectangle, box_texts, box_at, thread_name, ground, grounds, stores, events_from, thread_boxes, threads_boxes, line_path, head_path, svg_line, anchor, name_front, name_text, lines_text, names_text, svg_start, view_text, head_text, boxes_text, svg_text}
use Rattle.report_answers.specs.Scripts.{script_count, Passes, IsPlainMarkup}
use Rattle.report_answers.proofs.Passing.{nothing, onward, stays, none_plain, beside, escaped_is_plain, decimal_is_plain}

onto : {p q r : MarkupReader} {s t : List ℕ} → Passes p q s → Passes q r t → Passes p r (s ++ t)
onto {p} {q} {r} {s} {t} first second = onward p q r s t first second

pub fixed : (p q : MarkupReader) (text : List ℕ) → markup_behind p text ≡ q → script_count p text ≡ 0
    → Passes p q text
fixed p q text goes opens = record { goes = goes; opens_none = opens }

-- ---- in the value of an attribute

abbrev is_mild : ℕ → Bool
is_mild b = not (b == 34)

-- a text that stays in the value of an attribute
abbrev IsQuiet : List ℕ → Type 0
IsQuiet text =
    (name : List ℕ) (around : ElementNames) → Passes (Quoted name around) (Quoted name around) text

quiet : (text : List ℕ) → list_all is_mild text ≡ true → IsQuiet text
quiet text all name around =
    stays (Quoted name around) is_mild
    (λ b mild. (cond-false (b == 34) (Attributes name around) (Quoted name around) (not-true (b == 34) mild), refl))
    text all

both_quiet : {s t : List ℕ} → IsQuiet s → IsQuiet t → IsQuiet (s ++ t)
both_quiet first second name around = onto (first name around) (second name around)

glyph_is_mild : (d : ℕ) → (digit_glyph false d == 34) ≡ false
glyph_is_mild d =
    cond_both (nat_lt d 10) (48 + d) (87 + d) (λ g. (g == 34) ≡ false)
    (λ _. ne_eqb (48 + d) 34 (λ e. omega (arith, e)))
    (λ _. ne_eqb (87 + d) 34 (λ e. omega (arith, e)))

digits_are_mild : (k n : ℕ) (acc : List ℕ) → list_all is_mild acc ≡ true
    → list_all is_mild (digits_onto k 10 false n acc) ≡ true
digits_are_mild zero n acc all = all
digits_are_mild (suc k) n acc all =
    let more : list_all is_mild (digit_glyph false (n % 10) ∷ acc) ≡ true = and_from _ _ (not_from_false _ (glyph_is_mild (n % 10))) all in
    cond_both (n / 10 == 0) _ _ (λ t. list_all is_mild t ≡ true) (λ _. more)
    (λ _. digits_are_mild k (n / 10) (digit_glyph false (n % 10) ∷ acc) more)

number : (n : ℕ) → IsQuiet (decimal n)
unfolding digits
number n = quiet (decimal n) (digits_are_mild 64 n [] refl)

-- ---- paths

pair_is_quiet : (x y : ℕ) → IsQuiet (pair x y)
unfolding pair
pair_is_quiet x y = both_quiet (both_quiet (number x) (quiet (codes " ") refl)) (number y)

start_is_quiet : (p : Point) → IsQuiet (start_at p)
unfolding start_at
start_is_quiet p = both_quiet (quiet (codes "M") refl) (pair_is_quiet p.x p.y)

level_is_quiet : (x : ℕ) → IsQuiet (level_to x)
unfolding level_to
level_is_quiet x = both_quiet (quiet (codes "H") refl) (number x)

upright_is_quiet : (y : ℕ) → IsQuiet (upright_to y)
unfolding upright_to
upright_is_quiet y = both_quiet (quiet (codes "V") refl) (number y)

round_is_quiet : (x y next_x next_y : ℕ) → IsQuiet (round x y next_x next_y)
unfolding round
round_is_quiet x y next_x next_y =
    both_quiet (both_quiet (both_quiet (quiet (codes "Q") refl) (pair_is_quiet x y))
    (quiet (codes " ") refl)) (pair_is_quiet next_x next_y)

level_turn_is_quiet : (x y from to : ℕ) → IsQuiet (level_turn x y from to)
unfolding level_turn
level_turn_is_quiet x y from to =
    both_quiet (level_is_quiet (toward x from 8)) (round_is_quiet x y x (toward y to 8))

upright_turn_is_quiet : (x y from to : ℕ) → IsQuiet (upright_turn x y from to)
unfolding upright_turn
upright_turn_is_quiet x y from to =
    both_quiet (upright_is_quiet (toward y from 8)) (round_is_quiet x y (toward x to 8) y)

last_is_quiet : (a : Arrow) → IsQuiet (last_piece a)
unfolding last_piece
last_is_quiet a = level_is_quiet (toward a.end.x a.last 6)

from_lane_is_quiet : (a : Arrow) (from : ℕ) → IsQuiet (from_lane a from)
unfolding from_lane
from_lane_is_quiet a from =
    both_quiet (both_quiet (level_turn_is_quiet a.last a.lane from a.end.y)
    (upright_turn_is_quiet a.last a.end.y a.lane a.end.x)) (last_is_quiet a)

to_lane_is_quiet : (a : Arrow) (to : ℕ) → IsQuiet (to_lane a to)
unfolding to_lane
to_lane_is_quiet a to =
    both_quiet (both_quiet (start_is_quiet a.start)
    (level_turn_is_quiet a.first a.start.y a.start.x a.lane))
    (upright_turn_is_quiet a.first a.lane a.start.y to)

curve_is_quiet : (a : Arrow) → IsQuiet (curve a)
unfolding curve
curve_is_quiet a =
    both_quiet (both_quiet (both_quiet (both_quiet (both_quiet (quiet (codes "C") refl)
    (pair_is_quiet (toward a.first a.last 48) a.start.y)) (quiet (codes " ") refl))
    (pair_is_quiet (toward a.last a.first 48) a.end.y)) (quiet (codes " ") refl))
    (pair_is_quiet a.last a.end.y)

path_is_quiet : (course : Course) (a : Arrow) → IsQuiet (path_on course a)
unfolding path_on spine_path near_path beside_path far_path from_store_path to_store_path
path_is_quiet Spine a = both_quiet (start_is_quiet a.start) (upright_is_quiet (a.end.y - 6))
path_is_quiet Near a =
    both_quiet (both_quiet (both_quiet (start_is_quiet a.start) (level_is_quiet a.first))
    (curve_is_quiet a)) (last_is_quiet a)
path_is_quiet Beside a =
    both_quiet (both_quiet (both_quiet (start_is_quiet a.start)
    (level_turn_is_quiet a.first a.start.y a.start.x a.end.y))
    (upright_turn_is_quiet a.first a.end.y a.start.y a.end.x))
    (level_is_quiet (toward a.end.x a.first 6))
path_is_quiet Far a = both_quiet (to_lane_is_quiet a a.last) (from_lane_is_quiet a a.first)
path_is_quiet FromStore a =
    both_quiet (both_quiet (start_is_quiet a.start)
    (upright_turn_is_quiet a.start.x a.lane a.start.y a.last)) (from_lane_is_quiet a a.start.x)
path_is_quiet ToStore a =
    both_quiet (both_quiet (to_lane_is_quiet a a.end.x)
    (level_turn_is_quiet a.end.x a.lane a.first a.end.y)) (upright_is_quiet (a.end.y + 6))

side_head_is_quiet : (from x : ℕ) → IsQuiet (side_head from x)
side_head_is_quiet from x =
    cond_both (nat_lt from x) (codes "l-9-5v10z") (codes "l9-5v10z") IsQuiet
    (λ _. quiet (codes "l-9-5v10z") refl) (λ _. quiet (codes "l9-5v10z") refl)

head_is_quiet : (course : Course) (a : Arrow) → IsQuiet (head_on course a)
head_is_quiet Spine a = quiet (codes "l-5-9h10z") refl
head_is_quiet ToStore a = quiet (codes "l-5 9h10z") refl
head_is_quiet Beside a = side_head_is_quiet a.first a.end.x
head_is_quiet Near a = side_head_is_quiet a.last a.end.x
head_is_quiet Far a = side_head_is_quiet a.last a.end.x
head_is_quiet FromStore a = side_head_is_quiet a.last a.end.x

ink_is_quiet : (ink : Ink) → IsQuiet (ink_class ink)
unfolding ink_class
ink_is_quiet inks.Order = quiet (codes "po") refl
ink_is_quiet inks.ReadsFrom = quiet (codes "rf") refl
ink_is_quiet inks.Coherence = quiet (codes "co") refl
ink_is_quiet inks.FromReads = quiet (codes "fr") refl
ink_is_quiet inks.Dependency = quiet (codes "dep") refl
ink_is_quiet inks.Fence = quiet (codes "fence") refl
ink_is_quiet inks.Shown = quiet (codes "named") refl
ink_is_quiet inks.Step = quiet (codes "step") refl

class_is_quiet : (ink : Ink) (is_thick : Bool) → IsQuiet (line_class ink is_thick)
unfolding line_class
class_is_quiet ink true = quiet (codes "step") refl
class_is_quiet ink false = ink_is_quiet ink

-- ---- attributes

point_passes : (x y : ℕ) (name : List ℕ) (around : ElementNames)
    → Passes (Attributes name around) (Attributes name around) (at_point x y)
unfolding at_point
point_passes x y name around =
    let there = Attributes name around in
    let quoted = Quoted name around in
    onto (onto (onto (onto (fixed there quoted (codes " x=\"") refl refl) (number x name around))
    (fixed quoted quoted (codes "\" y=\"") refl refl)) (number y name around))
    (fixed quoted there (codes "\"") refl refl)

sizes_pass : (width height : ℕ) (name : List ℕ) (around : ElementNames)
    → Passes (Attributes name around) (Attributes name around) (sizes width height)
unfolding sizes
sizes_pass width height name around =
    let there = Attributes name around in
    let quoted = Quoted name around in
    onto (onto (onto (onto (fixed there quoted (codes " width=\"") refl refl) (number width name around))
    (fixed quoted quoted (codes "\" height=\"") refl refl)) (number height name around))
    (fixed quoted there (codes "\"") refl refl)

-- ---- boxes

text_is_plain : (class : List ℕ) (x y : ℕ) (text : List ℕ) → IsQuiet class
    → IsPlainMarkup (text_at class x y text)
unfolding text_at is_void
text_is_plain class x y text mild around =
    let name = codes "text" in
    let there = Attributes name around in
    let quoted = Quoted name around in
    let inner = Content (name ∷ around) in
    onto (onto (onto (onto (onto (onto
    (fixed (Content around) quoted (codes "<text class=\"") refl refl) (mild name around))
    (fixed quoted there (codes "\"") refl refl)) (point_passes x y name around))
    (fixed there inner (codes ">") refl refl)) (escaped_is_plain text (name ∷ around)))
    (fixed inner (Content around) (codes "</text>") refl refl)

rectangle_is_plain : (class : List ℕ) (x y width height : ℕ) → IsQuiet class
    → IsPlainMarkup (rectangle class x y width height)
unfolding rectangle is_void
rectangle_is_plain class x y width height mild around =
    let name = codes "rect" in
    let there = Attributes name around in
    let quoted = Quoted name around in
    onto (onto (onto (onto (onto
    (fixed (Content around) quoted (codes "<rect class=\"") refl refl) (mild name around))
    (fixed quoted there (codes "\"") refl refl)) (point_passes x y name around))
    (sizes_pass width height name around))
    (fixed there (Content around) (codes " rx=\"5\"></rect>") refl refl)

box_texts_are_plain : (x middle : ℕ) (b : Label) → IsPlainMarkup (box_texts x middle b)
unfolding box_texts
box_texts_are_plain x middle b =
    cond_both (length b.instruction.items == 0) _ _ IsPlainMarkup
    (λ _. text_is_plain (codes "e") x (middle + 5) b.action.items (quiet (codes "e") refl))
    (λ _. beside (text_is_plain (codes "e") x (middle - 3) b.action.items (quiet (codes "e") refl))
    (text_is_plain (codes "i") x (middle + 14) b.instruction.items (quiet (codes "i") refl)))

box_is_plain : (x y width height : ℕ) (b : Label) → IsPlainMarkup (box_at x y width height b)
unfolding box_at
box_is_plain x y width height b =
    beside (rectangle_is_plain (codes "b") x y width height (quiet (codes "b") refl))
    (box_texts_are_plain (x + width / 2) (y + height / 2) b)

thread_name_is_plain : (x y thread : ℕ) → IsPlainMarkup (thread_name x y thread)
unfolding thread_name is_void
thread_name_is_plain x y thread around =
    let name = codes "text" in
    let there = Attributes name around in
    let inner = Content (name ∷ around) in
    onto (onto (onto (onto (fixed (Content around) there (codes "<text class=\"tn\"") refl refl)
    (point_passes x y name around)) (fixed there inner (codes ">P") refl refl))
    (decimal_is_plain thread (name ∷ around)))
    (fixed inner (Content around) (codes "</text>") refl refl)

ground_is_plain : (l : Layout) (left thread : ℕ) → IsPlainMarkup (ground l left thread)
unfolding ground
ground_is_plain l left thread =
    beside
    (rectangle_is_plain (codes "th") (left - 10) (l.frame.first_row - 26) (l.frame.box_width + 20)
    (l.bottom - l.frame.first_row + 36) (quiet (codes "th") refl))
    (thread_name_is_plain (left + l.frame.box_width / 2) (l.frame.first_row - 9) thread)

grounds_are_plain : (l : Layout) (thread : ℕ) (lefts : List ℕ) (threads : List (Vec Label Global))
    → IsPlainMarkup (grounds l thread lefts threads)
grounds_are_plain l thread lefts [] = none_plain
grounds_are_plain l thread [] (events ∷ threads) = none_plain
grounds_are_plain l thread (left ∷ lefts) (events ∷ threads) =
    beside (ground_is_plain l left thread) (grounds_are_plain l (thread + 1) lefts threads)

stores_are_plain : (l : Layout) (lefts : List ℕ) (labels : List Label)
    → IsPlainMarkup (stores l lefts labels)
stores_are_plain l lefts [] = none_plain
stores_are_plain l [] (b ∷ labels) = none_plain
stores_are_plain l (left ∷ lefts) (b ∷ labels) =
    beside (box_is_plain left 8 l.frame.box_width 46 b) (stores_are_plain l lefts labels)

events_are_plain : (f : Frame) (left index : ℕ) (labels : List Label)
    → IsPlainMarkup (events_from f left index labels)
events_are_plain f left index [] = none_plain
events_are_plain f left index (b ∷ labels) =
    beside (box_is_plain left (top_of f (index + 1)) f.box_width f.box_height b)
    (events_are_plain f left (index + 1) labels)

thread_is_plain : (f : Frame) (left : ℕ) (labels : List Label)
    → IsPlainMarkup (thread_boxes f left labels)
thread_is_plain f left labels =
    cond_both (nat_lt (length labels) 256) _ _ IsPlainMarkup (λ _. events_are_plain f left 0 labels)
    (λ _. none_plain)

threads_are_plain : (l : Layout) (lefts : List ℕ) (threads : List (Vec Label Global))
    → IsPlainMarkup (threads_boxes l lefts threads)
threads_are_plain l lefts [] = none_plain
threads_are_plain l [] (events ∷ threads) = none_plain
threads_are_plain l (left ∷ lefts) (events ∷ threads) =
    beside (thread_is_plain l.frame left events.items) (threads_are_plain l lefts threads)

-- ---- lines

line_path_is_plain : (a : Arrow) → IsPlainMarkup (line_path a)
unfolding line_path is_void
line_path_is_plain a around =
    let quoted = Quoted (codes "path") around in
    onto (onto (fixed (Content around) quoted (codes "<path class=\"l\" d=\"") refl refl)
    (path_is_quiet a.course a (codes "path") around))
    (fixed quoted (Content around) (codes "\"></path>") refl refl)

head_path_is_plain : (a : Arrow) → IsPlainMarkup (head_path a)
unfolding head_path is_void
head_path_is_plain a around =
    let quoted = Quoted (codes "path") around in
    onto (onto (onto (fixed (Content around) quoted (codes "<path class=\"h\" d=\"M") refl refl)
    (pair_is_quiet a.end.x a.end.y (codes "path") around))
    (head_is_quiet a.course a (codes "path") around))
    (fixed quoted (Content around) (codes "\"></path>") refl refl)

line_is_plain : (line : Line) (a : Arrow) → IsPlainMarkup (svg_line line a)
unfolding svg_line is_void
line_is_plain line a around =
    let name = codes "g" in
    let quoted = Quoted name around in
    let inner = Content (name ∷ around) in
    onto (onto (onto (onto (onto (fixed (Content around) quoted (codes "<g class=\"") refl refl)
    (class_is_quiet line.ink line.is_thick name around))
    (fixed quoted inner (codes "\">") refl refl)) (line_path_is_plain a (name ∷ around)))
    (head_path_is_plain a (name ∷ around)))
    (fixed inner (Content around) (codes "</g>") refl refl)

anchor_passes : (ends : Bool) (name : List ℕ) (around : ElementNames)
    → Passes (Attributes name around) (Attributes name around) (anchor ends)
unfolding anchor
anchor_passes true name around =
    fixed (Attributes name around) (Attributes name around) (codes " text-anchor=\"end\"") refl refl
anchor_passes false name around = nothing (Attributes name around)

name_is_plain : (line : Line) (a : Arrow) → IsPlainMarkup (name_text line a)
unfolding name_text name_front is_void
name_is_plain line a around =
    let name = codes "text" in
    let there = Attributes name around in
    let quoted = Quoted name around in
    let inner = Content (name ∷ around) in
    onto (onto (onto (onto (onto (onto (onto
    (fixed (Content around) quoted (codes "<text class=\"a ") refl refl)
    (class_is_quiet line.ink line.is_thick name around))
    (fixed quoted there (codes "\"") refl refl)) (point_passes a.name.x a.name.y name around))
    (anchor_passes a.name_ends name around)) (fixed there inner (codes ">") refl refl))
    (escaped_is_plain line.name.items (name ∷ around)))
    (fixed inner (Content around) (codes "</text>") refl refl)

lines_are_plain : (lines : List Line) (arrows : List Arrow) → IsPlainMarkup (lines_text lines arrows)
lines_are_plain [] arrows = none_plain
lines_are_plain (line ∷ lines) [] = none_plain
lines_are_plain (line ∷ lines) (a ∷ arrows) =
    beside (line_is_plain line a) (lines_are_plain lines arrows)

names_are_plain : (lines : List Line) (arrows : List Arrow) → IsPlainMarkup (names_text lines arrows)
names_are_plain [] arrows = none_plain
names_are_plain (line ∷ lines) [] = none_plain
names_are_plain (line ∷ lines) (a ∷ arrows) =
    beside (name_is_plain line a) (names_are_plain lines arrows)

-- ---- the whole

head_passes : (l : Layout) (title : List ℕ) (around : ElementNames)
    → Passes (Content around) (Content (codes "svg" ∷ around)) (head_text l title)
unfolding head_text view_text svg_start is_void
head_passes l title around =
    let name = codes "svg" in
    let there = Attributes name around in
    let quoted = Quoted name around in
    let titled = codes "title" ∷ name ∷ around in
    onto (onto (onto (onto (onto (onto
    (fixed (Content around) quoted (codes "<svg xmlns=\"http://www.w3.org/2000/svg\" viewBox=\"0 0 ") refl refl)
    (pair_is_quiet l.width l.height name around)) (fixed quoted there (codes "\"") refl refl))
    (sizes_pass l.width l.height name around))
    (fixed there (Content titled) (codes " role=\"img\"><title>") refl refl))
    (escaped_is_plain title titled))
    (fixed (Content titled) (Content (name ∷ around)) (codes "</title>") refl refl)

boxes_are_plain : (p : Picture) (l : Layout) → IsPlainMarkup (boxes_text p l)
unfolding boxes_text
boxes_are_plain p l =
    beside (stores_are_plain l l.lefts.items p.initial.items)
    (threads_are_plain l l.lefts.items p.threads.items)

pub picture_is_plain : (p : Picture) (l : Layout) → IsPlainMarkup (svg_text [] p l)
unfolding svg_text is_void
picture_is_plain p l around =
    let open_names = codes "svg" ∷ around in
    onto (onto (onto (onto (onto (onto (head_passes l p.title.items around)
    (nothing (Content open_names)))
    (grounds_are_plain l 0 l.lefts.items p.threads.items open_names))
    (lines_are_plain p.lines.items l.arrows.items open_names)) (boxes_are_plain p l open_names))
    (names_are_plain p.lines.items l.arrows.items open_names))
    (fixed (Content open_names) (Content around) (codes "</svg>\n") refl refl)
