-- One more line, at the loops over the lines; one more column; how many ends there are.
use Rattle.std.proofs.Common.{◌≡◌, ℕ, suc, ◌+◌, ◌*◌, ◌^◌, ◌<◌, ◌≤◌, List, [], ◌∷◌, ◌++◌, length, length-append, get_or, drop, true, refl, sym, ap, subst, ◌∙◌, append_assoc, arith}
use Rattle.std.proofs.lemmas.List.{drop_more}
use Rattle.std.proofs.lemmas.Bool.{and_parts, ltb-true}
use Rattle.draw_layout.specs.declared.picture.Line.{Line}
use Rattle.draw_layout.specs.declared.ends.End.{End}
use Rattle.draw_layout.specs.declared.frame.Frame.{Frame}
use Rattle.draw_layout.specs.declared.arrow.Arrow.{Arrow}
use Rattle.draw_layout.specs.Ends.{course_of, ends_with, ends_of, reach}
use Rattle.draw_layout.specs.Layout.{arrow_of, arrows_of, left_of, sizes_fit}
use Rattle.draw_layout.specs.declared.ends.Side.TheVariants.{Left, Right}
use Rattle.draw_layout.specs.declared.ends.Course.{Course}
use Rattle.draw_layout.specs.declared.ends.Course.TheVariants.{Spine, Near, Beside, Far, FromStore, ToStore}
use Rattle.draw_layout.specs.declared.picture.Picture.{Picture}

-- the lines that are left, with the first of them apart
next : (k : ℕ) (lines : List Line) (line : Line) → k < length lines → line ≡ get_or lines k line
    → drop k lines ≡ line ∷ drop (k + 1) lines
next k lines line lt is =
    drop_more lines k line lt ∙ ap (λ (l : Line). l ∷ drop (k + 1) lines) (sym is)

pub ends_go : (k : ℕ) (lines : List Line) (line : Line) (ends all : List End) → k < length lines
    → line ≡ get_or lines k line → ends ++ ends_of k (drop k lines) ≡ all
    → (ends ++ ends_with (course_of line) k line) ++ ends_of (k + 1) (drop (k + 1) lines) ≡ all
ends_go k lines line ends all lt is old =
    append_assoc ends (ends_with (course_of line) k line) (ends_of (k + 1) (drop (k + 1) lines))
    ∙ ap (λ (rest : List Line). ends ++ ends_of k rest) (sym (next k lines line lt is)) ∙ old

pub arrows_go : (some : List End) (f : Frame) (bottom k : ℕ) (lines : List Line) (line : Line)
    → (arrows all : List Arrow) → k < length lines → line ≡ get_or lines k line
    → arrows ++ arrows_of some f bottom k (drop k lines) ≡ all
    → (arrows ++ arrow_of some f bottom k line ∷ [])
    ++ arrows_of some f bottom (k + 1) (drop (k + 1) lines) ≡ all
arrows_go some f bottom k lines line arrows all lt is old =
    append_assoc arrows (arrow_of some f bottom k line ∷ [])
    (arrows_of some f bottom (k + 1) (drop (k + 1) lines))
    ∙ ap (λ (rest : List Line). arrows ++ arrows_of some f bottom k rest)
    (sym (next k lines line lt is)) ∙ old

pub left_more : (ends : List End) (f : Frame) (c : ℕ)
    → left_of ends f (c + 1)
    ≡ left_of ends f c + f.box_width + reach ends c Right + 64 + reach ends (c + 1) Left
left_more ends f c =
    let one : suc c ≡ c + 1 = omega arith in
    subst (λ (k : ℕ). left_of ends f k
    ≡ left_of ends f c + f.box_width + reach ends c Right + 64 + reach ends k Left) one refl

-- a line has two ends at most
two_ends : (course : Course) (k : ℕ) (line : Line) → length (ends_with course k line) ≤ 2
two_ends Spine k line = omega arith
two_ends Near k line = omega arith
two_ends Beside k line = omega arith
two_ends Far k line = omega arith
two_ends FromStore k line = omega arith
two_ends ToStore k line = omega arith

ends_twice : (k : ℕ) (lines : List Line) → length (ends_of k lines) ≤ 2 * length lines
ends_twice k [] = omega arith
ends_twice k (line ∷ lines) =
    omega (
      arith,
      length-append (ends_with (course_of line) k line) (ends_of (k + 1) lines),
      two_ends (course_of line) k line,
      ends_twice (k + 1) lines,
    )

under : (n : ℕ) → n < 513 → n ≤ 512
under n lt = omega arith

lines_at_most : (p : Picture) → sizes_fit p ≡ true → length p.lines.items ≤ 512
unfolding sizes_fit
lines_at_most p fit =
    let all = and_parts _ _ fit in
    let texts = and_parts _ _ all.0 in
    let count = and_parts _ _ texts.0 in
    under (length p.lines.items) (ltb-true (length p.lines.items) 513 count.1)

pub lines_few : (p : Picture) → sizes_fit p ≡ true → length p.lines.items < 2 ^ 60
lines_few p fit = omega (arith, lines_at_most p fit)

pub ends_few : (p : Picture) → sizes_fit p ≡ true → length (ends_of 0 p.lines.items) ≤ 1024
ends_few p fit = omega (arith, lines_at_most p fit, ends_twice 0 p.lines.items)
