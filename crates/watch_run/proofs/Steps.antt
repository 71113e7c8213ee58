-- Steps of the lists of lines.
use Rattle.std.proofs.Common.{◌≡◌, ℕ, suc, zero, ◌+◌, List, [], ◌∷◌, ◌++◌, take, get_or, length, ◌<◌, refl, sym, ap, subst, ◌∙◌, append_assoc, arith}
use Rattle.std.specs.Prelude.{Vec}
use Rattle.std.specs.declared.alloc.Global.{Global}
use Rattle.watch_run.specs.Lines.{changed_line, changed_lines}
use Rattle.watch_run.specs.Boards.{lists_of}

append_none : (xs : List ℕ) → xs ++ [] ≡ xs
append_none [] = refl
append_none (x ∷ xs) = ap (λ (ys : List ℕ). x ∷ ys) (append_none xs)

-- where nothing was written before, the line is written
written_first : (now : List ℕ) → changed_line [] now ≡ now
written_first [] = refl
written_first (x ∷ xs) = refl

-- with one line more
one_more : (lasts nows : List (List ℕ)) (i : ℕ) → i < length nows
    → changed_lines lasts (take (suc i) nows)
    ≡ changed_lines lasts (take i nows) ++ changed_line (get_or lasts i []) (get_or nows i [])
one_more lasts [] i lt = absurd (omega (arith, lt))
one_more [] (now ∷ nows) zero lt = append_none now ∙ sym (written_first now)
one_more (last ∷ lasts) (now ∷ nows) zero lt = append_none (changed_line last now)
one_more [] (now ∷ nows) (suc i) lt =
    ap (λ (text : List ℕ). now ++ text) (one_more [] nows i (omega (arith, lt)))
    ∙ sym (append_assoc now (changed_lines [] (take i nows)) (changed_line [] (get_or nows i [])))
one_more (last ∷ lasts) (now ∷ nows) (suc i) lt =
    ap (λ (text : List ℕ). changed_line last now ++ text)
    (one_more lasts nows i (omega (arith, lt)))
    ∙ sym (append_assoc (changed_line last now) (changed_lines lasts (take i nows))
    (changed_line (get_or lasts i []) (get_or nows i [])))

-- the line at an index
pub line_at : (lines : List (Vec ℕ Global)) (i : ℕ) (v : Vec ℕ Global) → i < length lines
    → get_or (lists_of lines) i [] ≡ (get_or lines i v).items
line_at [] i v lt = absurd (omega (arith, lt))
line_at (x ∷ xs) zero v lt = refl
line_at (x ∷ xs) (suc i) v lt = line_at xs i v (omega (arith, lt))

as_many : (lines : List (Vec ℕ Global)) → length (lists_of lines) ≡ length lines
as_many [] = refl
as_many (x ∷ xs) = ap suc (as_many xs)

-- a text that gains the line at the index where it changed
pub line_gained : (lasts nows : List (Vec ℕ Global)) (i : ℕ) (v : Vec ℕ Global)
    (before last now middle after : List ℕ) → i < length nows
    → v ≡ get_or nows i v → last ≡ get_or (lists_of lasts) i [] → now ≡ v.items
    → middle ≡ before ++ changed_lines (lists_of lasts) (take i (lists_of nows))
    → after ≡ middle ++ changed_line last now
    → after ≡ before ++ changed_lines (lists_of lasts) (take (i + 1) (lists_of nows))
line_gained lasts nows i v before last now middle after lt v_is last_is now_is middle_is after_is =
    let olds = lists_of lasts in
    let news = lists_of nows in
    let inside : i < length news = rw (as_many nows) lt in
    let now_at : now ≡ get_or news i [] = now_is ∙ (ap (λ (w : Vec ℕ Global). w.items) v_is ∙ sym (line_at nows i v lt)) in
    let one : suc i ≡ i + 1 = omega arith in
    let more : changed_lines olds (take (i + 1) news) ≡ changed_lines olds (take i news) ++ changed_line (get_or olds i []) (get_or news i [])
    =
    subst
    (λ (n : ℕ). changed_lines olds (take n news)
    ≡ changed_lines olds (take i news)
    ++ changed_line (get_or olds i []) (get_or news i [])) one
    (one_more olds news i inside) in
    let gained : after ≡ (before ++ changed_lines olds (take i news)) ++ changed_line (get_or olds i []) (get_or news i []) = (cc) in
    gained
    ∙ (append_assoc before (changed_lines olds (take i news))
    (changed_line (get_or olds i []) (get_or news i []))
    ∙ ap (λ (text : List ℕ). before ++ text) (sym more))
