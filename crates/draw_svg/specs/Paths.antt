-- The path of a line and that of its head. Corners are rounded: a path turns 8 before each corner.
use Rattle.std.specs.Prelude.{ℕ, ◌+◌, ◌-◌, nat_lt, List, ◌++◌, if◌then◌else◌, decimal, codes}
use Rattle.draw_layout.specs.declared.ends.Course.{Course}
use Rattle.draw_layout.specs.declared.ends.Course.TheVariants.{Spine, Near, Beside, Far, FromStore, ToStore}
use Rattle.draw_layout.specs.declared.arrow.Arrow.{Arrow}
use Rattle.draw_layout.specs.declared.arrow.Point.{Point}

-- `step` away from `a`, to where `b` stands
abbrev pub toward : ℕ → ℕ → ℕ → ℕ
toward a b step = if nat_lt a b then a + step else a - step

unfoldable pub pair : ℕ → ℕ → List ℕ
pair x y = decimal x ++ codes " " ++ decimal y

unfoldable pub start_at : Point → List ℕ
start_at p = codes "M" ++ pair p.x p.y

unfoldable pub level_to : ℕ → List ℕ
level_to x = codes "H" ++ decimal x

unfoldable pub upright_to : ℕ → List ℕ
upright_to y = codes "V" ++ decimal y

-- a corner at x, y: round it, to the point behind it
unfoldable pub round : ℕ → ℕ → ℕ → ℕ → List ℕ
round x y next_x next_y = codes "Q" ++ pair x y ++ codes " " ++ pair next_x next_y

-- along from `from`, then up or down to `to`
unfoldable pub level_turn : ℕ → ℕ → (from to : ℕ) → List ℕ
level_turn x y from to = level_to (toward x from 8) ++ round x y x (toward y to 8)

-- up or down from `from`, then along to `to`
unfoldable pub upright_turn : ℕ → ℕ → (from to : ℕ) → List ℕ
upright_turn x y from to = upright_to (toward y from 8) ++ round x y (toward x to 8) y

-- the last piece ends 6 before the point, where the head is
unfoldable pub last_piece : Arrow → List ℕ
last_piece a = level_to (toward a.end.x a.last 6)

unfoldable pub spine_path : Arrow → List ℕ
spine_path a = start_at a.start ++ upright_to (a.end.y - 6)

-- two points of control, 48 away from where the curve begins and ends
unfoldable pub curve : Arrow → List ℕ
curve a =
    codes "C" ++ pair (toward a.first a.last 48) a.start.y ++ codes " "
    ++ pair (toward a.last a.first 48) a.end.y ++ codes " " ++ pair a.last a.end.y

unfoldable pub near_path : Arrow → List ℕ
near_path a = start_at a.start ++ level_to a.first ++ curve a ++ last_piece a

unfoldable pub beside_path : Arrow → List ℕ
beside_path a =
    start_at a.start ++ level_turn a.first a.start.y a.start.x a.end.y
    ++ upright_turn a.first a.end.y a.start.y a.end.x ++ level_to (toward a.end.x a.first 6)

-- down or up from the lane, and to the end
unfoldable pub from_lane : Arrow → (from : ℕ) → List ℕ
from_lane a from =
    level_turn a.last a.lane from a.end.y ++ upright_turn a.last a.end.y a.lane a.end.x
    ++ last_piece a

-- from the beginning to the lane
unfoldable pub to_lane : Arrow → (to : ℕ) → List ℕ
to_lane a to =
    start_at a.start ++ level_turn a.first a.start.y a.start.x a.lane
    ++ upright_turn a.first a.lane a.start.y to

unfoldable pub far_path : Arrow → List ℕ
far_path a = to_lane a a.last ++ from_lane a a.first

unfoldable pub from_store_path : Arrow → List ℕ
from_store_path a =
    start_at a.start ++ upright_turn a.start.x a.lane a.start.y a.last ++ from_lane a a.start.x

unfoldable pub to_store_path : Arrow → List ℕ
to_store_path a =
    to_lane a a.end.x ++ level_turn a.end.x a.lane a.first a.end.y ++ upright_to (a.end.y + 6)

unfoldable pub path_on : Course → Arrow → List ℕ
path_on Spine a = spine_path a
path_on Near a = near_path a
path_on Beside a = beside_path a
path_on Far a = far_path a
path_on FromStore a = from_store_path a
path_on ToStore a = to_store_path a

-- ---- heads

abbrev pub side_head : (from x : ℕ) → List ℕ
side_head from x = if nat_lt from x then codes "l-9-5v10z" else codes "l9-5v10z"

-- down, up, or from where the line comes
abbrev pub head_on : Course → Arrow → List ℕ
head_on Spine a = codes "l-5-9h10z"
head_on ToStore a = codes "l-5 9h10z"
head_on Beside a = side_head a.first a.end.x
head_on Near a = side_head a.last a.end.x
head_on Far a = side_head a.last a.end.x
head_on FromStore a = side_head a.last a.end.x
