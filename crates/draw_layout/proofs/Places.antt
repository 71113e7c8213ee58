-- Where ports, columns and rows stand to one another.
use Rattle.std.proofs.Common.{◌≡◌, ℕ, zero, suc, ◌+◌, ◌*◌, ◌-◌, ◌/◌, ◌<◌, ◌≤◌, max, List, [], ◌∷◌, length, get_or, Bool, true, false, cond, refl, sym, ap, subst, ◌∙◌, arith, eq-eqb}
use Rattle.std.specs.Prelude.{◌==◌, ◌&&◌}
use Rattle.std.specs.List.{count_by, fold, Contains}
use Rattle.std.proofs.lemmas.Bool.{and_parts, and_from, and_right, cond-false, ne_eqb}
use Rattle.draw_layout.specs.declared.picture.Position.{Position}
use Rattle.draw_layout.specs.declared.ends.Side.{Side}
use Rattle.draw_layout.specs.declared.ends.Side.TheVariants.{Left, Right, Below}
use Rattle.draw_layout.specs.declared.ends.End.{End}
use Rattle.draw_layout.specs.declared.frame.Frame.{Frame}
use Rattle.draw_layout.specs.Ends.{is_same_side, is_at, is_before, is_side, port_of, ports_at, most_ports}
use Rattle.draw_layout.specs.Layout.{inset_of, box_height, left_of, top_of}
use Rattle.draw_layout.proofs.Counting.{count_lt}
use Rattle.draw_layout.proofs.Orders.{ports_rise, before_self}
use Rattle.draw_layout.proofs.Walks.{left_more}

same_side : (s : Side) → is_same_side s s ≡ true
same_side Left = refl
same_side Right = refl
same_side Below = refl

pub at_itself : (e : End) → is_at e.at e.side e ≡ true
at_itself e =
    and_from _ _ (and_from _ _ (eq-eqb e.at.column e.at.column refl) (eq-eqb e.at.row e.at.row refl))
    (same_side e.side)

pub at_same : (e f : End) → e.at ≡ f.at → e.side ≡ f.side → is_at f.at f.side e ≡ true
at_same e f box side =
    subst (λ (p : Position). is_at p f.side e ≡ true) box
    (subst (λ (s : Side). is_at e.at s e ≡ true) side (at_itself e))

port_there : (ends : List End) (e f : End) → e.at ≡ f.at → e.side ≡ f.side
    → port_of ends e ≡ count_by (λ g. is_at f.at f.side g && is_before g e) ends
port_there ends e f box side =
    ap (λ (p : Position). count_by (λ g. is_at p e.side g && is_before g e) ends) box
    ∙ ap (λ (s : Side). count_by (λ g. is_at f.at s g && is_before g e) ends) side

ports_there : (ends : List End) (e f : End) → e.at ≡ f.at → e.side ≡ f.side
    → ports_at ends e.at e.side ≡ ports_at ends f.at f.side
ports_there ends e f box side =
    ap (λ (p : Position). ports_at ends p e.side) box ∙ ap (λ (s : Side). ports_at ends f.at s) side

further : (size n m p q : ℕ) → n ≡ m → p < q
    → (size - 20 * (n - 1)) / 2 + 20 * p + 20 ≤ (size - 20 * (m - 1)) / 2 + 20 * q
further size n m p q same less =
    let e : (size - 20 * (n - 1)) / 2 ≡ (size - 20 * (m - 1)) / 2 = ap (λ (k : ℕ). (size - 20 * (k - 1)) / 2) same in
    omega (arith, e, less)

pub ports_apart : (ends : List End) (size : ℕ) (e f : End) → Contains ends e → e.at ≡ f.at
    → e.side ≡ f.side → is_before e f ≡ true
    → inset_of ends size e + 20 ≤ inset_of ends size f
ports_apart ends size e f inside box side less =
    further size (ports_at ends e.at e.side) (ports_at ends f.at f.side) (port_of ends e)
    (port_of ends f) (ports_there ends e f box side)
    (subst (λ (n : ℕ). n < port_of ends f) (sym (port_there ends e f box side))
    (ports_rise ends e f inside (at_same e f box side) less))

-- ---- ports are within their side

pub port_within : (ends : List End) (e : End) → Contains ends e
    → port_of ends e < ports_at ends e.at e.side
port_within ends e inside =
    let (k, lt, is) = inside in
    count_lt (is_at e.at e.side) (λ g. is_at e.at e.side g && is_before g e) ends k e lt
    (λ g both. (and_parts (is_at e.at e.side g) (is_before g e) both).0)
    (subst (λ (g : End). is_at e.at e.side g ≡ true) (sym is) (at_itself e))
    (subst (λ (g : End). (is_at e.at e.side g && is_before g e) ≡ false) (sym is)
    (and_right (is_at e.at e.side e) (is_before e e) (before_self e.other_row e.number)))

step_keeps : (b : Bool) (a m : ℕ) → a ≤ cond b (max a m) a
step_keeps true a m = omega arith
step_keeps false a m = omega arith

step_takes : (b : Bool) (a m : ℕ) → b ≡ true → m ≤ cond b (max a m) a
step_takes true a m is = omega arith
step_takes false a m is = cc

fold_keeps : (h : End → Bool) (m : End → ℕ) (xs : List End) (a : ℕ)
    → a ≤ fold (λ most e. cond (h e) (max most (m e)) most) a xs
fold_keeps h m [] a = omega arith
fold_keeps h m (x ∷ xs) a =
    let here : a ≤ cond (h x) (max a (m x)) a = step_keeps (h x) a (m x) in
    let there = fold_keeps h m xs (cond (h x) (max a (m x)) a) in
    omega (arith, here, there)

fold_takes : (h : End → Bool) (m : End → ℕ) (xs : List End) (a : ℕ) (k : ℕ) (d : End)
    → k < length xs → h (get_or xs k d) ≡ true
    → m (get_or xs k d) ≤ fold (λ most e. cond (h e) (max most (m e)) most) a xs
fold_takes h m [] a k d lt is = absurd (omega (arith, lt))
fold_takes h m (x ∷ xs) a zero d lt is =
    let here : m x ≤ cond (h x) (max a (m x)) a = step_takes (h x) a (m x) is in
    let there = fold_keeps h m xs (cond (h x) (max a (m x)) a) in
    omega (arith, here, there)
fold_takes h m (x ∷ xs) a (suc k) d lt is =
    fold_takes h m xs (cond (h x) (max a (m x)) a) k d (omega (arith, lt)) is

pub ports_at_most : (ends : List End) (lower : Bool) (e : End) → Contains ends e
    → is_side lower e.side ≡ true → ports_at ends e.at e.side ≤ most_ports ends lower
ports_at_most ends lower e inside of =
    let (k, lt, is) = inside in
    subst (λ (g : End). ports_at ends g.at g.side ≤ most_ports ends lower) is
    (fold_takes (λ g. is_side lower g.side) (λ g. ports_at ends g.at g.side) ends 0 k e lt
    (subst (λ (g : End). is_side lower g.side ≡ true) (sym is) of))

in_side : (size n most p : ℕ) → 20 * (1 + most) ≤ size → n ≤ most → p < n
    → (20 ≤ (size - 20 * (n - 1)) / 2 + 20 * p) × ((size - 20 * (n - 1)) / 2 + 20 * p + 20 ≤ size)
in_side size n most p fits less within = (omega arith, omega arith)

-- at the left and the right side
pub inset_within : (ends : List End) (e : End) → Contains ends e → is_side false e.side ≡ true
    → (20 ≤ inset_of ends (box_height ends) e)
    × (inset_of ends (box_height ends) e + 20 ≤ box_height ends)
inset_within ends e inside of =
    in_side (box_height ends) (ports_at ends e.at e.side) (most_ports ends false) (port_of ends e)
    (omega arith) (ports_at_most ends false e inside of) (port_within ends e inside)

-- ---- columns and rows

pub columns_apart : (ends : List End) (f : Frame) (c : ℕ)
    → left_of ends f c + f.box_width + 64 ≤ left_of ends f (c + 1)
columns_apart ends f c = omega (arith, left_more ends f c)

more : (k h : ℕ) → (k + 2 - 1) * (h + 30) ≡ (k + 1 - 1) * (h + 30) + (h + 30)
more k h =
    let two : k + 2 - 1 ≡ k + 1 = omega arith in
    let one : k + 1 - 1 ≡ k = omega arith in
    let left : (k + 2 - 1) * (h + 30) ≡ (k + 1) * (h + 30) = ap (λ (n : ℕ). n * (h + 30)) two in
    let right : (k + 1 - 1) * (h + 30) ≡ k * (h + 30) = ap (λ (n : ℕ). n * (h + 30)) one in
    let apart : (k + 1) * (h + 30) ≡ k * (h + 30) + (h + 30) = omega arith in
    omega (arith, left, right, apart)

row : (first h k : ℕ)
    → cond (k + 1 == 0) 8 (first + (k + 1 - 1) * (h + 30)) + h + 30
    ≡ cond (k + 2 == 0) 8 (first + (k + 2 - 1) * (h + 30))
row first h k =
    let low : (k + 1 == 0) ≡ false = ne_eqb (k + 1) 0 (λ e. omega (arith, e)) in
    let high : (k + 2 == 0) ≡ false = ne_eqb (k + 2) 0 (λ e. omega (arith, e)) in
    let here = cond-false (k + 1 == 0) 8 (first + (k + 1 - 1) * (h + 30)) low in
    let next = cond-false (k + 2 == 0) 8 (first + (k + 2 - 1) * (h + 30)) high in
    omega (arith, here, next, more k h)

pub rows_apart : (f : Frame) (r : ℕ) → top_of f (r + 1) + f.box_height + 30 ≡ top_of f (r + 2)
rows_apart f r = row f.first_row f.box_height r
