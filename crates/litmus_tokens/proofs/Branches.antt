-- What stands open, with the trees that were written.
use Rattle.std.proofs.Common.{◌≡◌, ℕ, ◌+◌, ◌<◌, ◌≤◌, Bool, true, false, List, [], ◌∷◌, refl, ap, arith}
use Rattle.std.specs.Prelude.{nat_le, if◌then◌else◌}
use Rattle.std.proofs.lemmas.Bool.Decides.{nat_tests}
use Rattle.text_values.specs.declared.test.Connective.{Connective}
use Rattle.text_values.specs.declared.test.Connective.TheVariants as connectives
use Rattle.text_values.specs.TestValue.{Formula, Join, level}
use Rattle.litmus_tokens.specs.declared.token.Token.{Token}
use Rattle.litmus_tokens.specs.declared.token.Token.TheVariants as tokens
use Rattle.litmus_tokens.specs.declared.token.Mark.TheVariants as marks
use Rattle.litmus_tokens.specs.Conditions.{FormulaTree, Pair, Prefix, prefix_token, connective_token, spelled, tree_formula, tightness, IsGrouped, HasAtoms, depth, operators, Limits}
use Rattle.litmus_tokens.specs.ConditionMachine.{ConditionFrame, InGroup, InPrefix, LeftOf, open_count, fold_to}

pub data Branch : Type 0 where
  BGroup : Branch
  BPrefix : (tilde : Bool) → Branch
  BLeft : (op : Connective) (a : FormulaTree) → Branch

abbrev pub frame : Branch → ConditionFrame
frame BGroup = InGroup
frame (BPrefix tilde) = InPrefix
frame (BLeft op a) = LeftOf op (tree_formula a)

abbrev pub frames : List Branch → List ConditionFrame
frames [] = []
frames (b ∷ bs) = frame b ∷ frames bs

-- the tokens to the left, and then rest
abbrev pub before : List Branch → List Token → List Token
before [] rest = rest
before (BGroup ∷ bs) rest = before bs (tokens.Mark marks.Open ∷ rest)
before (BPrefix tilde ∷ bs) rest = before bs (prefix_token tilde ∷ rest)
before (BLeft op a ∷ bs) rest = before bs (spelled a (connective_token op ∷ rest))

-- how tight an operand must be here
abbrev pub need : List Branch → ℕ
need [] = 0
need (BGroup ∷ bs) = 0
need (BPrefix tilde ∷ bs) = 4
need (BLeft op a ∷ bs) = level op

abbrev pub opens : List Branch → ℕ
opens [] = 0
opens (BGroup ∷ bs) = opens bs + 1
opens (BPrefix tilde ∷ bs) = opens bs + 1
opens (BLeft op a ∷ bs) = opens bs

abbrev pub count : List Branch → ℕ
count [] = 0
count (BGroup ∷ bs) = count bs
count (BPrefix tilde ∷ bs) = count bs
count (BLeft op a ∷ bs) = count bs + operators a + 1

abbrev pub Fine : Limits → ℕ → List Branch → Type 0
Fine most threads [] = Unit {0}
Fine most threads (BGroup ∷ bs) = (opens bs < most.nesting) × Fine most threads bs
Fine most threads (BPrefix tilde ∷ bs) = (opens bs < most.nesting) × Fine most threads bs
Fine most threads (BLeft op a ∷ bs) =
    IsGrouped a × (level op + 1 ≤ tightness a) × (need bs ≤ level op)
    × (opens bs + depth a ≤ most.nesting) × HasAtoms threads a × Fine most threads bs

abbrev pub Stops : ℕ → List Branch → Type 0
Stops l [] = Unit {0}
Stops l (BGroup ∷ bs) = Unit {0}
Stops l (BPrefix tilde ∷ bs) = ⊥
Stops l (BLeft op a ∷ bs) = level op < l

pub open_count-frames : (bs : List Branch) → open_count (frames bs) ≡ opens bs
open_count-frames [] = refl
open_count-frames (BGroup ∷ bs) = ap (λ n. n + 1) (open_count-frames bs)
open_count-frames (BPrefix tilde ∷ bs) = ap (λ n. n + 1) (open_count-frames bs)
open_count-frames (BLeft op a ∷ bs) = open_count-frames bs

pub level-le : (op : Connective) → level op ≤ 3
level-le connectives.And = omega arith
level-le connectives.Or = omega arith
level-le connectives.Implies = omega arith

pub need-le : (bs : List Branch) → need bs ≤ 4
need-le [] = omega arith
need-le (BGroup ∷ bs) = omega arith
need-le (BPrefix tilde ∷ bs) = omega arith
need-le (BLeft op a ∷ bs) = let h = level-le op in omega arith

pub opens-le : (most : Limits) (threads : ℕ) (bs : List Branch) → Fine most threads bs
    → opens bs ≤ most.nesting
opens-le most threads [] h = omega arith
opens-le most threads (BGroup ∷ bs) h = omega (arith, h.0)
opens-le most threads (BPrefix tilde ∷ bs) h = omega (arith, h.0)
opens-le most threads (BLeft op a ∷ bs) h = omega (arith, h.3)

-- what is still open once everything that binds this tightly is joined
pub record Folded (most : Limits) (threads l : ℕ) (whole rest : List Token)
    (p : List ConditionFrame × Formula) (used : ℕ) : Type 0 where
  pub bs : List Branch
  pub t : FormulaTree
  pub is : p ≡ (frames bs, tree_formula t)
  pub fine : Fine most threads bs
  pub grouped : IsGrouped t
  pub atoms : HasAtoms threads t
  pub needed : need bs ≤ tightness t
  pub tight : l ≤ tightness t
  pub shallow : opens bs + depth t ≤ most.nesting
  pub counted : count bs + operators t ≡ used
  pub whole_is : whole ≡ before bs (spelled t rest)
  pub stops : Stops l bs

test_true : (l n : ℕ) → nat_le l n ≡ true → l ≤ n
test_true l n h = grind (arith, nat_tests)

test_false : (l n : ℕ) → nat_le l n ≡ false → n < l
test_false l n h = grind (arith, nat_tests)

pub folded : (most : Limits) (threads l : ℕ) (whole rest : List Token) (used : ℕ) (bs : List Branch)
    (t : FormulaTree) → l ≤ 4 → l ≤ tightness t → Fine most threads bs → IsGrouped t
    → HasAtoms threads t → need bs ≤ tightness t → opens bs + depth t ≤ most.nesting
    → count bs + operators t ≡ used → whole ≡ before bs (spelled t rest)
    → Folded most threads l whole rest (fold_to l (frames bs) (tree_formula t)) used
folded most threads l whole rest used [] t low tight fine grouped atoms needed shallow counted is =
    record { bs = []; t = t; is = refl; fine = tt; grouped = grouped; atoms = atoms; needed = needed; tight = tight; shallow = shallow; counted = counted; whole_is = is; stops = tt }
folded most threads l whole rest used (BGroup ∷ bs) t low tight fine grouped atoms needed shallow
    counted is =
    record { bs = BGroup ∷ bs; t = t; is = refl; fine = fine; grouped = grouped; atoms = atoms; needed = needed; tight = tight; shallow = shallow; counted = counted; whole_is = is; stops = tt }
folded most threads l whole rest used (BPrefix tilde ∷ bs) t low tight fine grouped atoms needed
    shallow counted is =
    folded most threads l whole rest used bs (Prefix tilde t) low low fine.1 (needed, grouped) atoms
    (need-le bs) (omega arith) (omega arith) is
folded most threads l whole rest used (BLeft op a ∷ bs) t low tight fine grouped atoms needed
    shallow counted is =
    choose (nat_le l (level op)) refl (λ le. folded most threads l whole rest used bs (Pair op a t)
    low le fine.5 (fine.1, needed, fine.0, grouped) (fine.4, atoms) fine.2
    (omega (arith, fine.3)) (omega arith) is)
  where
    choose : (b : Bool) → nat_le l (level op) ≡ b
        → (l ≤ level op
        → Folded most threads l whole rest
        (fold_to l (frames bs) (Join op (tree_formula a) (tree_formula t))) used)
        → Folded most threads l whole rest
        (if b then fold_to l (frames bs) (Join op (tree_formula a) (tree_formula t))
        else (LeftOf op (tree_formula a) ∷ frames bs, tree_formula t)) used
    choose true e joined = joined (test_true l (level op) e)
    choose false e joined =
        record { bs = BLeft op a ∷ bs; t = t; is = refl; fine = fine; grouped = grouped; atoms = atoms; needed = needed; tight = tight; shallow = shallow; counted = counted; whole_is = is; stops = test_false l (level op) e }
