-- What stands open, with the trees that were written.
use Rattle.std.proofs.Common.{◌≡◌, ℕ, ◌+◌, ◌<◌, ◌≤◌, Bool, true, false, List, [], ◌∷◌, ◌++◌, refl, ap, arith}
use Rattle.std.specs.Prelude.{nat_le, if◌then◌else◌}
use Rattle.std.proofs.lemmas.Bool.Decides.{nat_tests}
use Rattle.cat_tokens.specs.declared.token.Token.{Token}
use Rattle.cat_tokens.specs.declared.token.Token.TheVariants as tokens
use Rattle.text_values.specs.declared.model.Infix.{Infix}
use Rattle.text_values.specs.declared.model.Infix.TheVariants.{Union, Sequence, Difference, Intersection, Product}
use Rattle.text_values.specs.ModelValue.{Term, Join, gathered, OneMore}
use Rattle.cat_grammar.specs.Grammar.{Tree, Pair, Prefix, Trees, Last, More, infix_token, spelled, spelled_arguments, meaning, meanings, infix_level, left_level, right_level, tightness, IsGrouped, AreGrouped, depth, depths, operators, operators_of, Limits}
use Rattle.cat_grammar.specs.Machine.{TermFrame, InGroup, InSquare, InPrefix, LeftOf, InArguments, open_count, fold_to, is_outermost}

-- no bracket is open
abbrev pub IsOutermost : List TermFrame → Type 0
IsOutermost [] = Unit {0}
IsOutermost (InGroup ∷ fs) = ⊥
IsOutermost (InSquare ∷ fs) = ⊥
IsOutermost (InArguments n args ∷ fs) = ⊥
IsOutermost (InPrefix ∷ fs) = IsOutermost fs
IsOutermost (LeftOf op a ∷ fs) = IsOutermost fs

pub outermost : (fs : List TermFrame) → is_outermost fs ≡ true → IsOutermost fs
outermost [] e = tt
outermost (InGroup ∷ fs) e = absurd cc
outermost (InSquare ∷ fs) e = absurd cc
outermost (InArguments n args ∷ fs) e = absurd cc
outermost (InPrefix ∷ fs) e = outermost fs e
outermost (LeftOf op a ∷ fs) e = outermost fs e

pub is_outermost-true : (fs : List TermFrame) → IsOutermost fs → is_outermost fs ≡ true
is_outermost-true [] h = refl
is_outermost-true (InGroup ∷ fs) h = absurd h
is_outermost-true (InSquare ∷ fs) h = absurd h
is_outermost-true (InArguments n args ∷ fs) h = absurd h
is_outermost-true (InPrefix ∷ fs) h = is_outermost-true fs h
is_outermost-true (LeftOf op a ∷ fs) h = is_outermost-true fs h

pub data Branch : Type 0 where
  BGroup : Branch
  BSquare : Branch
  BPrefix : Branch
  BLeft : (op : Infix) (a : Tree) → Branch
  BArguments : (name : List ℕ) (arguments : List Tree) → Branch

abbrev pub values : List Tree → List Term
values [] = []
values (a ∷ args) = meaning a ∷ values args

-- arguments, each with the comma after it
abbrev pub before_arguments : List Tree → List Token → List Token
before_arguments [] rest = rest
before_arguments (a ∷ args) rest = spelled a (tokens.Comma ∷ before_arguments args rest)

abbrev pub sum_operators : List Tree → ℕ
sum_operators [] = 0
sum_operators (a ∷ args) = operators a + sum_operators args

abbrev pub frame : Branch → TermFrame
frame BGroup = InGroup
frame BSquare = InSquare
frame (BArguments n args) = InArguments n (values args)
frame BPrefix = InPrefix
frame (BLeft op a) = LeftOf op (meaning a)

abbrev pub frames : List Branch → List TermFrame
frames [] = []
frames (b ∷ bs) = frame b ∷ frames bs

-- the tokens to the left, and then rest
abbrev pub before : List Branch → List Token → List Token
before [] rest = rest
before (BGroup ∷ bs) rest = before bs (tokens.Open ∷ rest)
before (BSquare ∷ bs) rest = before bs (tokens.OpenSquare ∷ rest)
before (BArguments n args ∷ bs) rest =
    before bs (tokens.Name n ∷ tokens.Open ∷ before_arguments args rest)
before (BPrefix ∷ bs) rest = before bs (tokens.Tilde ∷ rest)
before (BLeft op a ∷ bs) rest = before bs (spelled a (infix_token op ∷ rest))

-- how tight an operand must be here
abbrev pub need : List Branch → ℕ
need [] = 0
need (BGroup ∷ bs) = 0
need (BSquare ∷ bs) = 0
need (BArguments n args ∷ bs) = 0
need (BPrefix ∷ bs) = 6
need (BLeft op a ∷ bs) = right_level op

abbrev pub opens : List Branch → ℕ
opens [] = 0
opens (BGroup ∷ bs) = opens bs + 1
opens (BSquare ∷ bs) = opens bs + 1
opens (BArguments n args ∷ bs) = opens bs + 1
opens (BPrefix ∷ bs) = opens bs + 1
opens (BLeft op a ∷ bs) = opens bs

abbrev pub count : List Branch → ℕ
count [] = 0
count (BGroup ∷ bs) = count bs
count (BSquare ∷ bs) = count bs
count (BArguments n args ∷ bs) = count bs + sum_operators args
count (BPrefix ∷ bs) = count bs
count (BLeft op a ∷ bs) = count bs + operators a + 1

-- arguments that stand under this many open brackets
abbrev pub ArgumentsFine : Limits → ℕ → List Tree → Type 0
ArgumentsFine most d [] = Unit {0}
ArgumentsFine most d (a ∷ args) =
    IsGrouped a × (d + depth a ≤ most.nesting) × ArgumentsFine most d args

abbrev pub Fine : Limits → List Branch → Type 0
Fine most [] = Unit {0}
Fine most (BGroup ∷ bs) = (opens bs < most.nesting) × Fine most bs
Fine most (BSquare ∷ bs) = (opens bs < most.nesting) × Fine most bs
Fine most (BArguments n args ∷ bs) =
    (opens bs < most.nesting) × ArgumentsFine most (opens bs + 1) args × Fine most bs
Fine most (BPrefix ∷ bs) = (opens bs < most.nesting) × Fine most bs
Fine most (BLeft op a ∷ bs) =
    IsGrouped a × (left_level op ≤ tightness a) × (need bs ≤ infix_level op)
    × (opens bs + depth a ≤ most.nesting) × Fine most bs

abbrev pub Stops : ℕ → List Branch → Type 0
Stops l [] = Unit {0}
Stops l (BGroup ∷ bs) = Unit {0}
Stops l (BSquare ∷ bs) = Unit {0}
Stops l (BArguments n args ∷ bs) = Unit {0}
Stops l (BPrefix ∷ bs) = ⊥
Stops l (BLeft op a ∷ bs) = infix_level op < l

pub open_count-frames : (bs : List Branch) → open_count (frames bs) ≡ opens bs
open_count-frames [] = refl
open_count-frames (BGroup ∷ bs) = ap (λ n. n + 1) (open_count-frames bs)
open_count-frames (BSquare ∷ bs) = ap (λ n. n + 1) (open_count-frames bs)
open_count-frames (BArguments n args ∷ bs) = ap (λ k. k + 1) (open_count-frames bs)
open_count-frames (BPrefix ∷ bs) = ap (λ n. n + 1) (open_count-frames bs)
open_count-frames (BLeft op a ∷ bs) = open_count-frames bs

pub right_level-le : (op : Infix) → right_level op ≤ 5
right_level-le Union = omega arith
right_level-le Sequence = omega arith
right_level-le Difference = omega arith
right_level-le Intersection = omega arith
right_level-le Product = omega arith

pub left_level-le : (op : Infix) → left_level op ≤ 6
left_level-le Union = omega arith
left_level-le Sequence = omega arith
left_level-le Difference = omega arith
left_level-le Intersection = omega arith
left_level-le Product = omega arith

pub need-le : (bs : List Branch) → need bs ≤ 6
need-le [] = omega arith
need-le (BGroup ∷ bs) = omega arith
need-le (BSquare ∷ bs) = omega arith
need-le (BArguments n args ∷ bs) = omega arith
need-le (BPrefix ∷ bs) = omega arith
need-le (BLeft op a ∷ bs) = let h = right_level-le op in omega arith

pub opens-le : (most : Limits) (bs : List Branch) → Fine most bs → opens bs ≤ most.nesting
opens-le most [] h = omega arith
opens-le most (BGroup ∷ bs) h = omega (arith, h.0)
opens-le most (BSquare ∷ bs) h = omega (arith, h.0)
opens-le most (BArguments n args ∷ bs) h = omega (arith, h.0)
opens-le most (BPrefix ∷ bs) h = omega (arith, h.0)
opens-le most (BLeft op a ∷ bs) h = omega (arith, h.3)

-- an operand on the right of a looser operator may be joined by this one
pub meets : (o p : Infix) → infix_level p < left_level o → right_level p ≤ infix_level o
meets Union Union h = omega arith
meets Union Sequence h = omega arith
meets Union Difference h = omega arith
meets Union Intersection h = omega arith
meets Union Product h = omega arith
meets Sequence Union h = omega arith
meets Sequence Sequence h = omega arith
meets Sequence Difference h = omega arith
meets Sequence Intersection h = omega arith
meets Sequence Product h = omega arith
meets Difference Union h = omega arith
meets Difference Sequence h = omega arith
meets Difference Difference h = omega arith
meets Difference Intersection h = omega arith
meets Difference Product h = omega arith
meets Intersection Union h = omega arith
meets Intersection Sequence h = omega arith
meets Intersection Difference h = omega arith
meets Intersection Intersection h = omega arith
meets Intersection Product h = omega arith
meets Product Union h = omega arith
meets Product Sequence h = omega arith
meets Product Difference h = omega arith
meets Product Intersection h = omega arith
meets Product Product h = omega arith

-- what is still open once everything that binds this tightly is joined
pub record Folded (most : Limits) (l : ℕ) (whole rest : List Token) (p : List TermFrame × Term)
    (used : ℕ) : Type 0 where
  pub bs : List Branch
  pub t : Tree
  pub is : p ≡ (frames bs, meaning t)
  pub fine : Fine most bs
  pub grouped : IsGrouped t
  pub needed : need bs ≤ tightness t
  pub tight : l ≤ tightness t
  pub shallow : opens bs + depth t ≤ most.nesting
  pub counted : count bs + operators t ≡ used
  pub whole_is : whole ≡ before bs (spelled t rest)
  pub stops : Stops l bs

test_true : (l n : ℕ) → nat_le l n ≡ true → l ≤ n
test_true l n h = grind (arith, nat_tests)

test_false : (l n : ℕ) → nat_le l n ≡ false → n < l
test_false l n h = grind (arith, nat_tests)

pub folded : (most : Limits) (l : ℕ) (whole rest : List Token) (used : ℕ) (bs : List Branch)
    (t : Tree) → l ≤ 6 → l ≤ tightness t → Fine most bs → IsGrouped t → need bs ≤ tightness t
    → opens bs + depth t ≤ most.nesting → count bs + operators t ≡ used
    → whole ≡ before bs (spelled t rest)
    → Folded most l whole rest (fold_to l (frames bs) (meaning t)) used
folded most l whole rest used [] t low tight fine grouped needed shallow counted is =
    record { bs = []; t = t; is = refl; fine = tt; grouped = grouped; needed = needed; tight = tight; shallow = shallow; counted = counted; whole_is = is; stops = tt }
folded most l whole rest used (BGroup ∷ bs) t low tight fine grouped needed shallow counted is =
    record { bs = BGroup ∷ bs; t = t; is = refl; fine = fine; grouped = grouped; needed = needed; tight = tight; shallow = shallow; counted = counted; whole_is = is; stops = tt }
folded most l whole rest used (BSquare ∷ bs) t low tight fine grouped needed shallow counted is =
    record { bs = BSquare ∷ bs; t = t; is = refl; fine = fine; grouped = grouped; needed = needed; tight = tight; shallow = shallow; counted = counted; whole_is = is; stops = tt }
folded most l whole rest used (BArguments n args ∷ bs) t low tight fine grouped needed shallow
    counted is =
    record { bs = BArguments n args ∷ bs; t = t; is = refl; fine = fine; grouped = grouped; needed = needed; tight = tight; shallow = shallow; counted = counted; whole_is = is; stops = tt }
folded most l whole rest used (BPrefix ∷ bs) t low tight fine grouped needed shallow counted is =
    folded most l whole rest used bs (Prefix t) low low fine.1 (needed, grouped) (need-le bs)
    (omega arith) (omega arith) is
folded most l whole rest used (BLeft op a ∷ bs) t low tight fine grouped needed shallow counted is =
    choose (nat_le l (infix_level op)) refl (λ le. folded most l whole rest used bs (Pair op a t) low le
    fine.4 (fine.1, needed, fine.0, grouped) fine.2 (omega (arith, fine.3)) (omega arith)
    is)
  where
    choose : (b : Bool) → nat_le l (infix_level op) ≡ b
        → (l ≤ infix_level op
        → Folded most l whole rest (fold_to l (frames bs) (Join op (meaning a) (meaning t)))
        used)
        → Folded most l whole rest
        (if b then fold_to l (frames bs) (Join op (meaning a) (meaning t))
        else (LeftOf op (meaning a) ∷ frames bs, meaning t)) used
    choose true e joined = joined (test_true l (infix_level op) e)
    choose false e joined =
        record { bs = BLeft op a ∷ bs; t = t; is = refl; fine = fine; grouped = grouped; needed = needed; tight = tight; shallow = shallow; counted = counted; whole_is = is; stops = test_false l (infix_level op) e }

-- ---- the arguments of a function, with the last one

abbrev pub arguments_of : List Tree → Tree → Trees
arguments_of [] t = Last t
arguments_of (a ∷ args) t = More a (arguments_of args t)

pub spelled-arguments_of : (args : List Tree) (t : Tree) (rest : List Token)
    → spelled_arguments (arguments_of args t) rest
    ≡ before_arguments args (spelled t (tokens.Close ∷ rest))
spelled-arguments_of [] t rest = refl
spelled-arguments_of (a ∷ args) t rest =
    ap (λ (ts : List Token). spelled a (tokens.Comma ∷ ts)) (spelled-arguments_of args t rest)

pub meanings-arguments_of : (args : List Tree) (t : Tree)
    → meanings (arguments_of args t) ≡ gathered (values args ++ meaning t ∷ [])
meanings-arguments_of [] t = refl
meanings-arguments_of (a ∷ args) t = ap (OneMore (meaning a)) (meanings-arguments_of args t)

pub grouped-arguments_of : (most : Limits) (d : ℕ) (args : List Tree) (t : Tree)
    → ArgumentsFine most d args → IsGrouped t → AreGrouped (arguments_of args t)
grouped-arguments_of most d [] t h g = g
grouped-arguments_of most d (a ∷ args) t h g = (h.0, grouped-arguments_of most d args t h.2 g)

pub depths-arguments_of : (most : Limits) (d : ℕ) (args : List Tree) (t : Tree)
    → ArgumentsFine most d args → d + depth t ≤ most.nesting
    → d + depths (arguments_of args t) ≤ most.nesting
depths-arguments_of most d [] t h g = g
depths-arguments_of most d (a ∷ args) t h g =
    let i = depths-arguments_of most d args t h.2 g in omega (arith, h.1)

pub operators-arguments_of : (args : List Tree) (t : Tree)
    → operators_of (arguments_of args t) ≡ sum_operators args + operators t
operators-arguments_of [] t = omega arith
operators-arguments_of (a ∷ args) t = let i = operators-arguments_of args t in omega arith

pub before_arguments-push : (args : List Tree) (t : Tree) (rest : List Token)
    → before_arguments (args ++ t ∷ []) rest
    ≡ before_arguments args (spelled t (tokens.Comma ∷ rest))
before_arguments-push [] t rest = refl
before_arguments-push (a ∷ args) t rest =
    ap (λ (ts : List Token). spelled a (tokens.Comma ∷ ts)) (before_arguments-push args t rest)

pub values-push : (args : List Tree) (t : Tree)
    → values (args ++ t ∷ []) ≡ values args ++ meaning t ∷ []
values-push [] t = refl
values-push (a ∷ args) t = ap (λ (vs : List Term). meaning a ∷ vs) (values-push args t)

pub sum_operators-push : (args : List Tree) (t : Tree)
    → sum_operators (args ++ t ∷ []) ≡ sum_operators args + operators t
sum_operators-push [] t = omega arith
sum_operators-push (a ∷ args) t = let i = sum_operators-push args t in omega arith

pub arguments_fine-push : (most : Limits) (d : ℕ) (args : List Tree) (t : Tree)
    → ArgumentsFine most d args → IsGrouped t → d + depth t ≤ most.nesting
    → ArgumentsFine most d (args ++ t ∷ [])
arguments_fine-push most d [] t h g s = (g, s, tt)
arguments_fine-push most d (a ∷ args) t h g s =
    (h.0, h.1, arguments_fine-push most d args t h.2 g s)
