-- What is written of two lists, element by element.
use Rattle.std.proofs.Common.{◌≡◌, ℕ, zero, suc, ◌+◌, ◌<◌, List, [], ◌∷◌, ◌++◌, length, get_or, drop, refl, sym, ap, ◌∙◌, append_assoc, arith}
use Rattle.std.specs.Prelude.{Some, None, slice_get}
use Rattle.std.proofs.lemmas.List.{drop_more, drop_all}
use Rattle.std.proofs.lemmas.Option.{slice_get_within, get_or_from_slice_get}
use Rattle.std.proofs.lemmas.List.{append-nil}
use Rattle.std.specs.Prelude.{Vec}
use Rattle.std.specs.declared.alloc.Global.{Global}
use Rattle.draw_layout.specs.declared.picture.Label.{Label}
use Rattle.draw_layout.specs.declared.picture.Line.{Line}
use Rattle.draw_layout.specs.declared.arrow.Arrow.{Arrow}
use Rattle.draw_layout.specs.declared.layout.Layout.{Layout}
use Rattle.draw_svg.specs.Svg.{box_at, ground, grounds, stores, thread_boxes, threads_boxes, svg_line, name_text, lines_text, names_text}

some_next : {X : Type 0} (xs : List X) (k : ℕ) (x : X) → slice_get xs k ≡ Some x
    → drop k xs ≡ x ∷ drop (k + 1) xs
some_next xs k x at =
    drop_more xs k x (slice_get_within xs k x at)
    ∙ ap (λ y. y ∷ drop (k + 1) xs) (get_or_from_slice_get xs k x x at)

none_next : {X : Type 0} (xs : List X) (k : ℕ) → slice_get xs k ≡ None → drop k xs ≡ []
none_next [] k at = drop_all k [] (omega arith)
none_next (x ∷ xs) zero at = cc
none_next (x ∷ xs) (suc k) at = none_next xs k at

item_next : {X : Type 0} (xs : List X) (k : ℕ) (x : X) → k < length xs → x ≡ get_or xs k x
    → drop k xs ≡ x ∷ drop (k + 1) xs
item_next xs k x lt is = drop_more xs k x lt ∙ ap (λ y. y ∷ drop (k + 1) xs) (sym is)

-- one more of both
pub both_go : {X Y : Type 0} (F : ℕ → List X → List Y → List ℕ) (f : ℕ → X → Y → List ℕ)
    → (step : (k : ℕ) (x : X) (xs : List X) (y : Y) (ys : List Y)
    → F k (x ∷ xs) (y ∷ ys) ≡ f k x y ++ F (k + 1) xs ys)
    → (xs : List X) (ys : List Y) (k : ℕ) (x : X) (y : Y) (text all : List ℕ) → k < length xs
    → x ≡ get_or xs k x → slice_get ys k ≡ Some y
    → text ++ F k (drop k xs) (drop k ys) ≡ all
    → (text ++ f k x y) ++ F (k + 1) (drop (k + 1) xs) (drop (k + 1) ys) ≡ all
both_go {X} {Y} F f step xs ys k x y text all lt is at old =
    append_assoc text (f k x y) (F (k + 1) (drop (k + 1) xs) (drop (k + 1) ys))
    ∙ ap (λ (t : List ℕ). text ++ t) (sym (step k x (drop (k + 1) xs) y (drop (k + 1) ys)))
    ∙ ap (λ (zs : List Y). text ++ F k (x ∷ drop (k + 1) xs) zs) (sym (some_next ys k y at))
    ∙ ap (λ (zs : List X). text ++ F k zs (drop k ys)) (sym (item_next xs k x lt is))
    ∙ old

-- the second list has no more
pub both_stop : {X Y : Type 0} (F : ℕ → List X → List Y → List ℕ)
    → (nil : (k : ℕ) (xs : List X) → F k xs [] ≡ [])
    → (xs : List X) (ys : List Y) (k : ℕ) (text all : List ℕ) → slice_get ys k ≡ None
    → text ++ F k (drop k xs) (drop k ys) ≡ all → text ≡ all
both_stop {X} {Y} F nil xs ys k text all at old =
    sym (append-nil text)
    ∙ ap (λ (t : List ℕ). text ++ t) (sym (nil k (drop k xs)))
    ∙ ap (λ (zs : List Y). text ++ F k (drop k xs) zs) (sym (none_next ys k at))
    ∙ old

lines_nil : (lines : List Line) → lines_text lines [] ≡ []
lines_nil [] = refl
lines_nil (line ∷ lines) = refl

names_nil : (lines : List Line) → names_text lines [] ≡ []
names_nil [] = refl
names_nil (line ∷ lines) = refl

grounds_nil : (l : Layout) (k : ℕ) (threads : List (Vec Label Global)) → grounds l k [] threads ≡ []
grounds_nil l k [] = refl
grounds_nil l k (events ∷ threads) = refl

stores_nil : (l : Layout) (labels : List Label) → stores l [] labels ≡ []
stores_nil l [] = refl
stores_nil l (b ∷ labels) = refl

threads_nil : (l : Layout) (threads : List (Vec Label Global)) → threads_boxes l [] threads ≡ []
threads_nil l [] = refl
threads_nil l (events ∷ threads) = refl

pub lines_go : (lines : List Line) (arrows : List Arrow) (k : ℕ) (line : Line) (a : Arrow)
    → (text all : List ℕ) → k < length lines → line ≡ get_or lines k line
    → slice_get arrows k ≡ Some a → text ++ lines_text (drop k lines) (drop k arrows) ≡ all
    → (text ++ svg_line line a) ++ lines_text (drop (k + 1) lines) (drop (k + 1) arrows) ≡ all
lines_go =
    both_go (λ k. lines_text) (λ k. svg_line) (λ k line lines a arrows. refl)

pub lines_stop : (lines : List Line) (arrows : List Arrow) (k : ℕ) (text all : List ℕ)
    → slice_get arrows k ≡ None → text ++ lines_text (drop k lines) (drop k arrows) ≡ all
    → text ≡ all
lines_stop = both_stop (λ k. lines_text) (λ k. lines_nil)

pub names_go : (lines : List Line) (arrows : List Arrow) (k : ℕ) (line : Line) (a : Arrow)
    → (text all : List ℕ) → k < length lines → line ≡ get_or lines k line
    → slice_get arrows k ≡ Some a → text ++ names_text (drop k lines) (drop k arrows) ≡ all
    → (text ++ name_text line a) ++ names_text (drop (k + 1) lines) (drop (k + 1) arrows) ≡ all
names_go =
    both_go (λ k. names_text) (λ k. name_text) (λ k line lines a arrows. refl)

pub names_stop : (lines : List Line) (arrows : List Arrow) (k : ℕ) (text all : List ℕ)
    → slice_get arrows k ≡ None → text ++ names_text (drop k lines) (drop k arrows) ≡ all
    → text ≡ all
names_stop = both_stop (λ k. names_text) (λ k. names_nil)

pub grounds_go : (l : Layout) (threads : List (Vec Label Global)) (lefts : List ℕ) (k : ℕ)
    → (events : Vec Label Global) (left : ℕ) (text all : List ℕ) → k < length threads
    → events ≡ get_or threads k events → slice_get lefts k ≡ Some left
    → text ++ grounds l k (drop k lefts) (drop k threads) ≡ all
    → (text ++ ground l left k) ++ grounds l (k + 1) (drop (k + 1) lefts) (drop (k + 1) threads)
    ≡ all
grounds_go l =
    both_go (λ k threads lefts. grounds l k lefts threads) (λ k events left. ground l left k)
    (λ k events threads left lefts. refl)

pub grounds_stop : (l : Layout) (threads : List (Vec Label Global)) (lefts : List ℕ) (k : ℕ)
    → (text all : List ℕ) → slice_get lefts k ≡ None
    → text ++ grounds l k (drop k lefts) (drop k threads) ≡ all → text ≡ all
grounds_stop l = both_stop (λ k threads lefts. grounds l k lefts threads) (grounds_nil l)

pub stores_go : (l : Layout) (labels : List Label) (lefts : List ℕ) (k : ℕ) (b : Label)
    → (left : ℕ) (text all : List ℕ) → k < length labels → b ≡ get_or labels k b
    → slice_get lefts k ≡ Some left → text ++ stores l (drop k lefts) (drop k labels) ≡ all
    → (text ++ box_at left 8 l.frame.box_width 46 b)
    ++ stores l (drop (k + 1) lefts) (drop (k + 1) labels)
    ≡ all
stores_go l =
    both_go (λ k labels lefts. stores l lefts labels)
    (λ k b left. box_at left 8 l.frame.box_width 46 b) (λ k b labels left lefts. refl)

pub stores_stop : (l : Layout) (labels : List Label) (lefts : List ℕ) (k : ℕ) (text all : List ℕ)
    → slice_get lefts k ≡ None → text ++ stores l (drop k lefts) (drop k labels) ≡ all
    → text ≡ all
stores_stop l = both_stop (λ k labels lefts. stores l lefts labels) (λ k. stores_nil l)

pub threads_go : (l : Layout) (threads : List (Vec Label Global)) (lefts : List ℕ) (k : ℕ)
    → (events : Vec Label Global) (left : ℕ) (text all : List ℕ) → k < length threads
    → events ≡ get_or threads k events → slice_get lefts k ≡ Some left
    → text ++ threads_boxes l (drop k lefts) (drop k threads) ≡ all
    → (text ++ thread_boxes l.frame left events.items)
    ++ threads_boxes l (drop (k + 1) lefts) (drop (k + 1) threads)
    ≡ all
threads_go l =
    both_go (λ k threads lefts. threads_boxes l lefts threads)
    (λ k events left. thread_boxes l.frame left events.items)
    (λ k events threads left lefts. refl)

pub threads_stop : (l : Layout) (threads : List (Vec Label Global)) (lefts : List ℕ) (k : ℕ)
    → (text all : List ℕ) → slice_get lefts k ≡ None
    → text ++ threads_boxes l (drop k lefts) (drop k threads) ≡ all → text ≡ all
threads_stop l =
    both_stop (λ k threads lefts. threads_boxes l lefts threads) (λ k. threads_nil l)
