-- Templates as they grow, and the body of a function with arguments in the places of its
-- parameters.
use Rattle.std.proofs.Common.{ℕ, zero, suc, ◌≡◌, ◌<◌, ◌≤◌, ◌+◌, ◌⊎◌, inl, inr, List, [], ◌∷◌, ◌++◌, append_assoc, length, map, take, get_or, Bool, true, false, ◌||◌, Option, Some, None, Result, Ok, Err, Vec, Global, refl, sym, ap, ◌∙◌, subst, arith, length-append}
use Rattle.std.specs.Prelude.{slice_get, nat_lt, nat_eq, bytes_eq, cond, reverse, if◌then◌else◌, OnOk}
use Rattle.std.specs.List.{AllZip, count_by}
use Rattle.std.proofs.lemmas.List.{append-nil, take_more, take_all, map-append, length-reverse}
use Rattle.std.proofs.lemmas.List.Sums.{sum_by-append}
use Rattle.std.proofs.lemmas.Bool.{ltb-true}
use Rattle.text_values.specs.declared.model.Expression.{Expression}
use Rattle.text_values.specs.ModelValues.{term_of}
use Rattle.text_values.specs.ModelValue.{Term, Terms, Atom, AllEvents, EmptyRelation, EmptySet, Join, Mark, Not, On, Apply, NoTerm, OneMore, gathered}
use Rattle.binding_kinds.specs.declared.scope.Found.{Found}
use Rattle.binding_kinds.specs.declared.scope.Binder.{Binder}
use Rattle.binding_kinds.specs.declared.scope.Binder.TheVariants as binders
use Rattle.binding_kinds.specs.declared.function.Piece.{Piece}
use Rattle.binding_kinds.specs.declared.function.Piece.TheVariants as pieces
use Rattle.binding_kinds.specs.Value.{Naming}
use Rattle.binding_kinds.specs.Meanings.{parameter_of}
use Rattle.binding_kinds.specs.Applicable.{is_no_parameter, is_parameter_at}
use Rattle.binding_kinds.specs.Formula.{Formula, Value, Parameter, Everything, NoPairs, NoEvents, Joined, Marked, Complement, Identity, filled, constant_of, factor_of, HasParameters, postfix}
use Rattle.binding_kinds.specs.declared.function.Function.{Function}
use Rattle.binding_kinds.specs.Kinds.{found}
use Rattle.binding_kinds.specs.Senses.{Sense, HasSense, count_of}
use Rattle.binding_kinds.specs.Functions.{sense_seen, named_formula, bound_formula, applied_formula, formula_in, formulas_in}
use Rattle.binding_kinds.proofs.Applications.{count_arguments}
use Rattle.binding_kinds.proofs.Sizes.{some_piece}
use Rattle.binding_functions.specs.declared.template.Template.{Template}
use Rattle.binding_functions.specs.Templates.{pieces_in, HasLarge, piece_with, pieces_with, IsTemplate, IsGrown}

-- ---- growth

pub grown_as : (old new : Template) (more other : List Piece) (L M : Type 0) → more ≡ other
    → (L → M) → IsGrown old new more L → IsGrown old new other M
grown_as old new more other L M same to g = record {
  fits = λ e. let f = g.fits e in (f.0, f.1 ∙ ap (λ (l : List Piece). old.pieces.items ++ l) same);
  large = λ e. at_cause (g.large e);
}
  where
    at_cause : (old.is_oversized ≡ true) ⊎ L → (old.is_oversized ≡ true) ⊎ M
    at_cause (inl b) = inl b
    at_cause (inr l) = inr (to l)

pub grown_then : (a b c : Template) (xs ys : List Piece) (L M N : Type 0) → (L → N) → (M → N)
    → IsGrown a b xs L → IsGrown b c ys M → IsGrown a c (xs ++ ys) N
grown_then a b c xs ys L M N left right f g = record {
  fits =
      λ e.
      let s = g.fits e in
      let r = f.fits s.0 in
      (r.0, s.1 ∙ (ap (λ (l : List Piece). l ++ ys) r.1 ∙ append_assoc a.pieces.items xs ys));
  large = λ e. at_later (g.large e);
}
  where
    at_earlier : (a.is_oversized ≡ true) ⊎ L → (a.is_oversized ≡ true) ⊎ N
    at_earlier (inl e) = inl e
    at_earlier (inr l) = inr (left l)

    at_later : (b.is_oversized ≡ true) ⊎ M → (a.is_oversized ≡ true) ⊎ N
    at_later (inl e) = at_earlier (f.large e)
    at_later (inr m) = inr (right m)

-- a whole template is what it has grown by
pub whole_template : (old new : Template) (more : List Piece) (L : Type 0) → old.pieces.items ≡ []
    → old.is_oversized ≡ false → (L → 4096 < length more) → 0 < length more → IsGrown old new more L
    → IsTemplate new more
whole_template old new more L none fits large some g = record {
  some = some;
  fits = λ e. (g.fits e).1 ∙ ap (λ (l : List Piece). l ++ more) none;
  large = λ e. at_cause (g.large e);
}
  where
    at_cause : (old.is_oversized ≡ true) ⊎ L → 4096 < length more
    at_cause (inl e) = absurd (let f : true ≡ false = sym e ∙ fits in cc)
    at_cause (inr l) = large l

pub too_long : (t u : Template) (whole : List Piece) → IsTemplate t whole → u.pieces ≡ t.pieces
    → u.is_oversized ≡ true → 4096 < length t.pieces.items → IsTemplate u whole
too_long t u whole h same over long =
    record {
      some = h.some;
      fits = λ e. absurd (let f : true ≡ false = sym over ∙ e in cc);
      large = λ e. at_flag t.is_oversized refl;
    }
  where
    at_flag : (b : Bool) → t.is_oversized ≡ b → 4096 < length whole
    at_flag true e = h.large e
    at_flag false e = let l = ap length (h.fits e) in omega (arith, l, long)

-- ---- bodies

pub zip_some : (ts : List Template) (ws : List (List Piece)) (i : ℕ) (t : Template) (d : List Piece)
    → AllZip IsTemplate ts ws → slice_get ts i ≡ Some t → IsTemplate t (get_or ws i d)
zip_some [] [] i t d h e = absurd (let bad : None ≡ Some t = e in cc)
zip_some [] (w ∷ ws) i t d h e = absurd h
zip_some (x ∷ xs) [] i t d h e = absurd h
zip_some (x ∷ xs) (w ∷ ws) zero t d h e =
    let same : x ≡ t = cc in subst (λ (y : Template). IsTemplate y w) same h.0
zip_some (x ∷ xs) (w ∷ ws) (suc i) t d h e = zip_some xs ws i t d h.1 e

pub zip_none : (ts : List Template) (ws : List (List Piece)) (i : ℕ) (d : List Piece)
    → AllZip IsTemplate ts ws → slice_get ts i ≡ None → get_or ws i d ≡ d
zip_none [] [] i d h e = refl
zip_none [] (w ∷ ws) i d h e = absurd h
zip_none (x ∷ xs) [] i d h e = absurd h
zip_none (x ∷ xs) (w ∷ ws) zero d h e = absurd (let bad : Some x ≡ None = e in cc)
zip_none (x ∷ xs) (w ∷ ws) (suc i) d h e = zip_none xs ws i d h.1 e

pub zip_push : (ts : List Template) (ws : List (List Piece)) (t : Template) (w : List Piece)
    → AllZip IsTemplate ts ws → IsTemplate t w → AllZip IsTemplate (ts ++ t ∷ []) (ws ++ w ∷ [])
zip_push [] [] t w h one = (one, tt)
zip_push [] (v ∷ ws) t w h one = absurd h
zip_push (x ∷ xs) [] t w h one = absurd h
zip_push (x ∷ xs) (v ∷ ws) t w h one = (h.0, zip_push xs ws t w h.1 one)

some_argument : (ts : List Template) (ws : List (List Piece)) (i : ℕ) → AllZip IsTemplate ts ws
    → 0 < length (get_or ws i (pieces.NoPairs ∷ []))
some_argument [] [] i h = omega arith
some_argument [] (w ∷ ws) i h = absurd h
some_argument (x ∷ xs) [] i h = absurd h
some_argument (x ∷ xs) (w ∷ ws) zero h = h.0.some
some_argument (x ∷ xs) (w ∷ ws) (suc i) h = some_argument xs ws i h.1

some_part : (ts : List Template) (ws : List (List Piece)) (p : Piece) → AllZip IsTemplate ts ws
    → 0 < length (piece_with ws p)
some_part ts ws (pieces.Value f) h = omega arith
some_part ts ws (pieces.Parameter i) h = some_argument ts ws i h
some_part ts ws pieces.Everything h = omega arith
some_part ts ws pieces.NoPairs h = omega arith
some_part ts ws pieces.NoEvents h = omega arith
some_part ts ws (pieces.Joined op) h = omega arith
some_part ts ws (pieces.Marked op) h = omega arith
some_part ts ws pieces.Complement h = omega arith
some_part ts ws pieces.Identity h = omega arith

-- arguments make a body no shorter
pub no_shorter : (ts : List Template) (ws : List (List Piece)) (ps : List Piece)
    → AllZip IsTemplate ts ws → length ps ≤ length (pieces_with ws ps)
no_shorter ts ws [] h = omega arith
no_shorter ts ws (p ∷ ps) h =
    let l = no_shorter ts ws ps h in
    let s = some_part ts ws p h in
    let n = length-append (piece_with ws p) (pieces_with ws ps) in
    omega (arith, l, s, n)

pub with_append : (ws : List (List Piece)) (ps qs : List Piece)
    → pieces_with ws (ps ++ qs) ≡ pieces_with ws ps ++ pieces_with ws qs
with_append ws [] qs = refl
with_append ws (p ∷ ps) qs =
    ap (λ (l : List Piece). piece_with ws p ++ l) (with_append ws ps qs)
    ∙ sym (append_assoc (piece_with ws p) (pieces_with ws ps) (pieces_with ws qs))

with_next : (ws : List (List Piece)) (ps : List Piece) (i : ℕ) (p d : Piece) → i < length ps
    → p ≡ get_or ps i d
    → pieces_with ws (take (i + 1) ps) ≡ pieces_with ws (take i ps) ++ piece_with ws p
with_next ws ps i p d lt is =
    ap (pieces_with ws) (take_more ps i d lt)
    ∙ (with_append ws (take i ps) (get_or ps i d ∷ [])
    ∙ (ap (λ (l : List Piece). pieces_with ws (take i ps) ++ l)
    (append-nil (piece_with ws (get_or ps i d)))
    ∙ ap (λ (x : Piece). pieces_with ws (take i ps) ++ piece_with ws x) (sym is)))

prefix_shorter : (ws : List (List Piece)) (ps : List Piece) (i : ℕ)
    → length (pieces_with ws (take i ps)) ≤ length (pieces_with ws ps)
prefix_shorter ws [] zero = omega arith
prefix_shorter ws [] (suc i) = omega arith
prefix_shorter ws (p ∷ ps) zero = omega arith
prefix_shorter ws (p ∷ ps) (suc i) =
    let h = prefix_shorter ws ps i in
    let m = length-append (piece_with ws p) (pieces_with ws (take i ps)) in
    let n = length-append (piece_with ws p) (pieces_with ws ps) in
    omega (arith, h, m, n)

-- one more part of the body
pub body_more : (old now new : Template) (ws : List (List Piece)) (ps : List Piece) (i : ℕ)
    (p d : Piece) → i < length ps → p ≡ get_or ps i d
    → IsGrown old now (pieces_with ws (take i ps)) (4096 < length (pieces_with ws ps))
    → IsGrown now new (piece_with ws p) (4096 < length (piece_with ws p))
    → IsGrown old new (pieces_with ws (take (i + 1) ps)) (4096 < length (pieces_with ws ps))
body_more old now new ws ps i p d lt is inv one =
    grown_as old new (pieces_with ws (take i ps) ++ piece_with ws p)
    (pieces_with ws (take (i + 1) ps)) (4096 < length (pieces_with ws ps))
    (4096 < length (pieces_with ws ps)) (sym (with_next ws ps i p d lt is)) (λ l. l)
    (grown_then old now new (pieces_with ws (take i ps)) (piece_with ws p)
    (4096 < length (pieces_with ws ps)) (4096 < length (piece_with ws p))
    (4096 < length (pieces_with ws ps)) (λ l. l) longer inv one)
  where
    longer : 4096 < length (piece_with ws p) → 4096 < length (pieces_with ws ps)
    longer l =
        let f = prefix_shorter ws ps (i + 1) in
        let n = ap length (with_next ws ps i p d lt is) in
        let m = length-append (pieces_with ws (take i ps)) (piece_with ws p) in
        omega (arith, l, f, n, m)

-- the template is marked where it has grown too long
pub body_bounded : (old now new : Template) (ws : List (List Piece)) (ps : List Piece) (i start : ℕ)
    → start ≡ length old.pieces.items → new.pieces ≡ now.pieces
    → new.is_oversized ≡ (now.is_oversized || nat_lt (4096 + start) (length now.pieces.items))
    → IsGrown old now (pieces_with ws (take i ps)) (4096 < length (pieces_with ws ps))
    → IsGrown old new (pieces_with ws (take i ps)) (4096 < length (pieces_with ws ps))
body_bounded old now new ws ps i start start_is same flag inv =
    at_flags now.is_oversized (nat_lt (4096 + start) (length now.pieces.items)) refl refl
  where
    longer : now.is_oversized ≡ false → nat_lt (4096 + start) (length now.pieces.items) ≡ true
        → 4096 < length (pieces_with ws ps)
    longer e h =
        let l = ltb-true (4096 + start) (length now.pieces.items) h in
        let n = ap length (inv.fits e).1 in
        let m = length-append old.pieces.items (pieces_with ws (take i ps)) in
        let f = prefix_shorter ws ps i in
        omega (arith, l, n, m, f, start_is)

    at_flags : (a b : Bool) → now.is_oversized ≡ a
        → nat_lt (4096 + start) (length now.pieces.items) ≡ b
        → IsGrown old new (pieces_with ws (take i ps)) (4096 < length (pieces_with ws ps))
    at_flags true b e h =
        let over : new.is_oversized ≡ true = flag ∙ ap (λ (x : Bool). x || nat_lt (4096 + start) (length now.pieces.items)) e in
        record { fits = λ f. absurd (let bad : true ≡ false = sym over ∙ f in cc); large = λ f. inv.large e }
    at_flags false true e h =
        let over : new.is_oversized ≡ true = flag ∙ (ap (λ (x : Bool). x || nat_lt (4096 + start) (length now.pieces.items)) e ∙ h) in
        record { fits = λ f. absurd (let bad : true ≡ false = sym over ∙ f in cc); large = λ f. inr (longer e h) }
    at_flags false false e h =
        let over : new.is_oversized ≡ false = flag ∙ (ap (λ (x : Bool). x || nat_lt (4096 + start) (length now.pieces.items)) e ∙ h) in
        record { fits = λ f. let r = inv.fits e in (r.0, ap (λ (v : Vec Piece Global). v.items) same ∙ r.1); large = λ f. absurd (let bad : false ≡ true = sym over ∙ f in cc) }

-- the body is gone through, or left since something in it is too large
pub body_left : (old new : Template) (ws : List (List Piece)) (ps : List Piece) (i : ℕ)
    → new.is_oversized ≡ true
    → IsGrown old new (pieces_with ws (take i ps)) (4096 < length (pieces_with ws ps))
    → IsGrown old new (pieces_with ws ps) (4096 < length (pieces_with ws ps))
body_left old new ws ps i over inv =
    record { fits = λ e. absurd (let bad : true ≡ false = sym over ∙ e in cc); large = inv.large }

-- ---- applications

argument_postfix : (fs : List Formula) (i : ℕ)
    → get_or (map postfix fs) i (pieces.NoPairs ∷ []) ≡ postfix (get_or fs i NoPairs)
argument_postfix [] i = refl
argument_postfix (f ∷ fs) zero = refl
argument_postfix (f ∷ fs) (suc i) = argument_postfix fs i

-- with the arguments in postfix order, the body in postfix order is that of the body with the
-- arguments
pub filled_postfix : (fs : List Formula) (f : Formula)
    → pieces_with (map postfix fs) (postfix f) ≡ postfix (filled fs f)
filled_postfix fs (Value f) = refl
filled_postfix fs (Parameter i) =
    append-nil (get_or (map postfix fs) i (pieces.NoPairs ∷ [])) ∙ argument_postfix fs i
filled_postfix fs Everything = refl
filled_postfix fs NoPairs = refl
filled_postfix fs NoEvents = refl
filled_postfix fs (Joined op a b) =
    with_append (map postfix fs) (postfix a) (postfix b ++ pieces.Joined op ∷ [])
    ∙ (ap
    (λ (l : List Piece). l ++ pieces_with (map postfix fs) (postfix b ++ pieces.Joined op ∷ []))
    (filled_postfix fs a)
    ∙ ap (λ (l : List Piece). postfix (filled fs a) ++ l) (with_append (map postfix fs) (postfix b)
    (pieces.Joined op ∷ [])
    ∙ ap (λ (l : List Piece). l ++ pieces.Joined op ∷ []) (filled_postfix fs b)))
filled_postfix fs (Marked op a) =
    with_append (map postfix fs) (postfix a) (pieces.Marked op ∷ [])
    ∙ ap (λ (l : List Piece). l ++ pieces.Marked op ∷ []) (filled_postfix fs a)
filled_postfix fs (Complement a) =
    with_append (map postfix fs) (postfix a) (pieces.Complement ∷ [])
    ∙ ap (λ (l : List Piece). l ++ pieces.Complement ∷ []) (filled_postfix fs a)
filled_postfix fs (Identity a) =
    with_append (map postfix fs) (postfix a) (pieces.Identity ∷ [])
    ∙ ap (λ (l : List Piece). l ++ pieces.Identity ∷ []) (filled_postfix fs a)

abbrev pub argument_pieces : List Sense → List Naming → List (List ℕ) → List Expression
    → List (List Piece)
argument_pieces ss names ps xs = map (λ (e : Expression). pieces_in ss names ps (term_of e)) xs

listed : (ss : List Sense) (names : List Naming) (ps : List (List ℕ)) (xs : List Expression)
    → argument_pieces ss names ps xs
    ≡ map postfix (formulas_in ss names ps (gathered (map term_of xs)))
listed ss names ps [] = refl
listed ss names ps (x ∷ xs) =
    ap (λ (l : List (List Piece)). postfix (formula_in ss names ps (term_of x)) ∷ l)
    (listed ss names ps xs)

pub more_arguments : (ss : List Sense) (names : List Naming) (ps : List (List ℕ))
    (xs : List Expression) (i : ℕ) (e : Expression) (made new : List Template) (one : Template)
    → i < length xs → e ≡ get_or xs i e → new ≡ made ++ one ∷ []
    → AllZip IsTemplate made (argument_pieces ss names ps (take i xs))
    → IsTemplate one (pieces_in ss names ps (term_of e))
    → AllZip IsTemplate new (argument_pieces ss names ps (take (i + 1) xs))
more_arguments ss names ps xs i e made new one lt is new_is inv h =
    let t : argument_pieces ss names ps (take (i + 1) xs) ≡ argument_pieces ss names ps (take i xs) ++ pieces_in ss names ps (term_of e) ∷ [] =
    ap (argument_pieces ss names ps) (take_more xs i e lt)
    ∙ (map-append (λ (x : Expression). pieces_in ss names ps (term_of x)) (take i xs)
    (get_or xs i e ∷ [])
    ∙ ap
    (λ (x : Expression). argument_pieces ss names ps (take i xs)
    ++ pieces_in ss names ps (term_of x) ∷ [])
    (sym is)) in
    rw (new_is, t) (zip_push made (argument_pieces ss names ps (take i xs)) one
    (pieces_in ss names ps (term_of e)) inv h)

-- behind the last argument
pub all_arguments : (ss : List Sense) (names : List Naming) (ps : List (List ℕ))
    (xs : List Expression) (i : ℕ) (made : List Template) → length xs ≤ i
    → AllZip IsTemplate made (argument_pieces ss names ps (take i xs))
    → AllZip IsTemplate made (argument_pieces ss names ps xs)
all_arguments ss names ps xs i made past h = rw (take_all i xs past) at h

-- an application whose arguments are made
applied_pieces : (ss : List Sense) (names : List Naming) (ps : List (List ℕ)) (n : List ℕ)
    (xs : List Expression) (s : Sense) → sense_seen ss names ps (length xs) n ≡ Some s
    → pieces_with (argument_pieces ss names ps xs) (postfix s.formula)
    ≡ pieces_in ss names ps (Apply n (gathered (map term_of xs)))
applied_pieces ss names ps n xs s sense_is =
    let ts = gathered (map term_of xs) in
    let w : sense_seen ss names ps (count_of ts) n ≡ Some s = ap (λ (m : ℕ). sense_seen ss names ps m n) (count_arguments xs) ∙ sense_is in
    ap (λ (l : List (List Piece)). pieces_with l (postfix s.formula)) (listed ss names ps xs)
    ∙ (filled_postfix (formulas_in ss names ps ts) s.formula
    ∙ ap (λ (o : Option Sense). postfix (applied_formula o (formulas_in ss names ps ts))) (sym w))

pub unfit_pieces : (ss : List Sense) (names : List Naming) (ps : List (List ℕ)) (n : List ℕ)
    (xs : List Expression) → sense_seen ss names ps (length xs) n ≡ None
    → pieces.NoPairs ∷ [] ≡ pieces_in ss names ps (Apply n (gathered (map term_of xs)))
unfit_pieces ss names ps n xs sense_is =
    let ts = gathered (map term_of xs) in
    let w : sense_seen ss names ps (count_of ts) n ≡ None = ap (λ (m : ℕ). sense_seen ss names ps m n) (count_arguments xs) ∙ sense_is in
    ap (λ (o : Option Sense). postfix (applied_formula o (formulas_in ss names ps ts))) (sym w)

-- a large part makes the whole large
pub large_whole : (ss : List Sense) (names : List Naming) (ps : List (List ℕ)) (t : Term)
    → HasLarge ss names ps t → 4096 < length (pieces_in ss names ps t)
large_whole ss names ps (Atom x) h = absurd h
large_whole ss names ps AllEvents h = absurd h
large_whole ss names ps EmptyRelation h = absurd h
large_whole ss names ps EmptySet h = absurd h
large_whole ss names ps (Join op a b) h =
    let n = length-append (pieces_in ss names ps a) (pieces_in ss names ps b ++ pieces.Joined op ∷ []) in
    let m = length-append (pieces_in ss names ps b) (pieces.Joined op ∷ []) in
    elim h [
      | inl l ↦ let k = large_whole ss names ps a l in omega (arith, n, k)
      | inr r ↦ let k = large_whole ss names ps b r in omega (arith, n, m, k)
    ]
large_whole ss names ps (Mark op a) h =
    let n = length-append (pieces_in ss names ps a) (pieces.Marked op ∷ []) in
    let k = large_whole ss names ps a h in omega (arith, n, k)
large_whole ss names ps (Not a) h =
    let n = length-append (pieces_in ss names ps a) (pieces.Complement ∷ []) in
    let k = large_whole ss names ps a h in omega (arith, n, k)
large_whole ss names ps (On a) h =
    let n = length-append (pieces_in ss names ps a) (pieces.Identity ∷ []) in
    let k = large_whole ss names ps a h in omega (arith, n, k)
large_whole ss names ps (Apply x ts) h = h

pub some_pieces : (ss : List Sense) (names : List Naming) (ps : List (List ℕ)) (t : Term)
    → 0 < length (pieces_in ss names ps t)
some_pieces ss names ps t = some_piece (formula_in ss names ps t)

pub on_ok_as : {T E : Type 0} (r : Result T E) (P Q : Type 0) → (P → Q) → OnOk r P → OnOk r Q
on_ok_as (Ok x) P Q to p = to p
on_ok_as (Err e) P Q to p = tt

-- ---- functions

pub put_large : (f : Function) (s : Sense) (old new : Template) (ts : List Template)
    (ws : List (List Piece)) → HasSense f s → AllZip IsTemplate ts ws → f.is_oversized ≡ true
    → new.is_oversized ≡ true
    → IsGrown old new (pieces_with ws (postfix s.formula))
    (4096 < length (pieces_with ws (postfix s.formula)))
put_large f s old new ts ws kept all over new_over = record {
  fits = λ b. absurd (let bad : true ≡ false = sym new_over ∙ b in cc);
  large = λ b.
      let h = kept.large over in
      let n = no_shorter ts ws (postfix s.formula) all in
      inr (omega (arith, h, n));
}

pub put_whole : {T E : Type 0} (f : Function) (s : Sense) (old new : Template) (r : Result T E)
    (ws : List (List Piece)) (body : List Piece) → HasSense f s → f.is_oversized ≡ false
    → body ≡ f.template.items
    → OnOk r (IsGrown old new (pieces_with ws body) (4096 < length (pieces_with ws body)))
    → OnOk r (IsGrown old new (pieces_with ws (postfix s.formula))
    (4096 < length (pieces_with ws (postfix s.formula))))
put_whole f s old new r ws body kept fits body_is h =
    let is : body ≡ postfix s.formula = body_is ∙ kept.template fits in
    rw is at h

-- ---- what is kept

count_after : (p : Piece → Bool) (xs : List Piece) (y : Piece)
    → count_by p (xs ++ y ∷ []) ≡ count_by p xs + count_by p (y ∷ [])
count_after p xs y = sum_by-append (λ (x : Piece). cond (p x) 1 0) xs (y ∷ [])

count_three : (p : Piece → Bool) (xs ys : List Piece) (z : Piece)
    → count_by p (xs ++ (ys ++ z ∷ [])) ≡ count_by p xs + (count_by p ys + count_by p (z ∷ []))
count_three p xs ys z =
    sum_by-append (λ (x : Piece). cond (p x) 1 0) xs (ys ++ z ∷ [])
    ∙ ap (λ (n : ℕ). count_by p xs + n) (count_after p ys z)

pub constant_postfix : (f : Formula) → count_by is_no_parameter (postfix f) ≡ constant_of f
constant_postfix (Value f) = refl
constant_postfix (Parameter i) = refl
constant_postfix Everything = refl
constant_postfix NoPairs = refl
constant_postfix NoEvents = refl
constant_postfix (Joined op a b) =
    let n = count_three is_no_parameter (postfix a) (postfix b) (pieces.Joined op) in
    let l = constant_postfix a in let r = constant_postfix b in omega (arith, n, l, r)
constant_postfix (Marked op a) =
    let n = count_after is_no_parameter (postfix a) (pieces.Marked op) in
    let l = constant_postfix a in omega (arith, n, l)
constant_postfix (Complement a) =
    let n = count_after is_no_parameter (postfix a) pieces.Complement in
    let l = constant_postfix a in omega (arith, n, l)
constant_postfix (Identity a) =
    let n = count_after is_no_parameter (postfix a) pieces.Identity in
    let l = constant_postfix a in omega (arith, n, l)

one_parameter : (b : Bool) → 0 + cond b 1 0 ≡ (if b then 1 else 0)
one_parameter true = refl
one_parameter false = refl

pub factor_postfix : (index : ℕ) (f : Formula)
    → count_by (is_parameter_at index) (postfix f) ≡ factor_of f index
factor_postfix index (Value f) = refl
factor_postfix index (Parameter i) = one_parameter (nat_eq i index)
factor_postfix index Everything = refl
factor_postfix index NoPairs = refl
factor_postfix index NoEvents = refl
factor_postfix index (Joined op a b) =
    let n = count_three (is_parameter_at index) (postfix a) (postfix b) (pieces.Joined op) in
    let l = factor_postfix index a in let r = factor_postfix index b in omega (arith, n, l, r)
factor_postfix index (Marked op a) =
    let n = count_after (is_parameter_at index) (postfix a) (pieces.Marked op) in
    let l = factor_postfix index a in omega (arith, n, l)
factor_postfix index (Complement a) =
    let n = count_after (is_parameter_at index) (postfix a) pieces.Complement in
    let l = factor_postfix index a in omega (arith, n, l)
factor_postfix index (Identity a) =
    let n = count_after (is_parameter_at index) (postfix a) pieces.Identity in
    let l = factor_postfix index a in omega (arith, n, l)

-- ---- the parameters of a body

parameter_below : (ps : List (List ℕ)) (x : List ℕ) (p : ℕ) → parameter_of ps x ≡ Some p
    → p < length ps
parameter_below [] x p e = absurd (let bad : None ≡ Some p = e in cc)
parameter_below (q ∷ ps) x p e = at_test (bytes_eq q x) e (parameter_below ps x p)
  where
    at_test : (b : Bool) → (if b then Some (length ps) else parameter_of ps x) ≡ Some p
        → (parameter_of ps x ≡ Some p → p < length ps) → p < suc (length ps)
    at_test true h rest =
        let s : length ps ≡ p = let q : Some (length ps) ≡ Some p = h in cc in omega (arith, s)
    at_test false h rest = let l = rest h in omega (arith, l)

bound_within : (n : ℕ) (f : Found) (b : Binder) → HasParameters n (bound_formula f b)
bound_within n f (binders.Predefined p) = tt
bound_within n f (binders.Bound i) = tt
bound_within n f (binders.Applicable g) = tt

named_within : (n : ℕ) (p : Option ℕ) (o : Option Found) → ((i : ℕ) → p ≡ Some i → i < n)
    → HasParameters n (named_formula p o)
named_within n (Some i) o h = h i refl
named_within n None None h = tt
named_within n None (Some f) h = bound_within n f f.binder

abbrev AllWithin : ℕ → List Formula → Type 0
AllWithin n [] = Unit {0}
AllWithin n (f ∷ fs) = HasParameters n f × AllWithin n fs

argument_within : (n : ℕ) (fs : List Formula) (i : ℕ) → AllWithin n fs
    → HasParameters n (get_or fs i NoPairs)
argument_within n [] i h = tt
argument_within n (f ∷ fs) zero h = h.0
argument_within n (f ∷ fs) (suc i) h = argument_within n fs i h.1

filled_within : (n : ℕ) (fs : List Formula) (f : Formula) → AllWithin n fs
    → HasParameters n (filled fs f)
filled_within n fs (Value f) h = tt
filled_within n fs (Parameter i) h = argument_within n fs i h
filled_within n fs Everything h = tt
filled_within n fs NoPairs h = tt
filled_within n fs NoEvents h = tt
filled_within n fs (Joined op a b) h = (filled_within n fs a h, filled_within n fs b h)
filled_within n fs (Marked op a) h = filled_within n fs a h
filled_within n fs (Complement a) h = filled_within n fs a h
filled_within n fs (Identity a) h = filled_within n fs a h

applied_within : (n : ℕ) (o : Option Sense) (fs : List Formula) → AllWithin n fs
    → HasParameters n (applied_formula o fs)
applied_within n None fs h = tt
applied_within n (Some s) fs h = filled_within n fs s.formula h

mutual
  pub formula_within : (ss : List Sense) (names : List Naming) (ps : List (List ℕ)) (t : Term)
      → HasParameters (length ps) (formula_in ss names ps t)
  formula_within ss names ps (Atom x) =
      named_within (length ps) (parameter_of (reverse ps) x) (found names x) (λ i e.
      let l = parameter_below (reverse ps) x i e in
      let r = length-reverse ps in omega (arith, l, r))
  formula_within ss names ps AllEvents = tt
  formula_within ss names ps EmptyRelation = tt
  formula_within ss names ps EmptySet = tt
  formula_within ss names ps (Join op a b) =
      (formula_within ss names ps a, formula_within ss names ps b)
  formula_within ss names ps (Mark op a) = formula_within ss names ps a
  formula_within ss names ps (Not a) = formula_within ss names ps a
  formula_within ss names ps (On a) = formula_within ss names ps a
  formula_within ss names ps (Apply x ts) =
      applied_within (length ps) (sense_seen ss names ps (count_of ts) x)
      (formulas_in ss names ps ts) (formulas_within ss names ps ts)

  formulas_within : (ss : List Sense) (names : List Naming) (ps : List (List ℕ)) (ts : Terms)
      → AllWithin (length ps) (formulas_in ss names ps ts)
  formulas_within ss names ps NoTerm = tt
  formulas_within ss names ps (OneMore a others) =
      (formula_within ss names ps a, formulas_within ss names ps others)

-- an application whose arguments are all made
pub put_applied : (ss : List Sense) (names : List Naming) (ps : List (List ℕ)) (n : List ℕ)
    (xs : List Expression) (s : Sense) (old new : Template) (made : List Template)
    → sense_seen ss names ps (length xs) n ≡ Some s
    → AllZip IsTemplate made (argument_pieces ss names ps xs)
    → ((ws : List (List Piece)) → AllZip IsTemplate made ws
    → IsGrown old new (pieces_with ws (postfix s.formula))
    (4096 < length (pieces_with ws (postfix s.formula))))
    → IsGrown old new (pieces_in ss names ps (Apply n (gathered (map term_of xs))))
    (HasLarge ss names ps (Apply n (gathered (map term_of xs))))
put_applied ss names ps n xs s old new made sense_is all put =
    let are = applied_pieces ss names ps n xs s sense_is in
    grown_as old new _ _ _ _ are (λ l. rw are at l) (put (argument_pieces ss names ps xs) all)

-- where nothing is too large, a new template has the whole list
pub whole_pieces : (old new : Template) (more : List Piece) (L : Type 0) → (L → ⊥)
    → old.pieces.items ≡ [] → old.is_oversized ≡ false → IsGrown old new more L
    → new.pieces.items ≡ more
whole_pieces old new more L never none small g = at_flag new.is_oversized refl
  where
    no_cause : (old.is_oversized ≡ true) ⊎ L → ⊥
    no_cause (inl e) = let f : true ≡ false = sym e ∙ small in cc
    no_cause (inr l) = never l

    at_flag : (b : Bool) → new.is_oversized ≡ b → new.pieces.items ≡ more
    at_flag true e = absurd (no_cause (g.large e))
    at_flag false e = (g.fits e).1 ∙ ap (λ (l : List Piece). l ++ more) none
