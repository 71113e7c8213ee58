-- The stack of frames as a list.
use Rattle.std.proofs.Common.{◌≡◌, ℕ, ◌+◌, ◌-◌, ◌<◌, length, get_or, Bool, true, false, cond, List, [], ◌∷◌, ◌++◌, map, Result, refl, sym, ap, subst, ◌∙◌, arith}
use Rattle.std.specs.Prelude.{if◌then◌else◌, count_by, ◌&&◌, nat_le, Some, None}
use Rattle.std.specs.List.{slice_get}
use Rattle.std.proofs.lemmas.Option.{get_or_from_slice_get, slice_get-get_or}
use Rattle.std.proofs.Math.Seq.{get_or-append_seam}
use Rattle.std.specs.List.{list_all}
use Rattle.std.proofs.lemmas.List.{map-append, length-append}
use Rattle.std.proofs.lemmas.List.Sums.{sum_by-cons}
use Rattle.cat_expressions.specs.declared.frames.Frame.TheVariants as frames
use Rattle.std.proofs.Common.{Vec, Global}
use Rattle.std.proofs.Math.Bool.{and-false, and-true}
use Rattle.std.proofs.lemmas.Bool.{lt-ltb}
use Rattle.text_values.specs.declared.model.Expression.{Expression}
use Rattle.text_values.specs.declared.model.Expression.TheVariants as expressions
use Rattle.text_values.specs.declared.model.Infix.{Infix}
use Rattle.text_values.specs.declared.model.Infix.TheVariants.{Product}
use Rattle.cat_tokens.specs.declared.rule.CatRule.TheVariants.{TooDeep, Syntax}
use Rattle.cat_expressions.specs.declared.frames.ExpressionStep as code_step
use Rattle.cat_expressions.specs.declared.frames.StepError.{StepError}
use Rattle.text_values.specs.declared.model.CheckWord.{CheckWord}
use Rattle.cat_tokens.specs.declared.token.Token.{Token}
use Rattle.cat_tokens.specs.declared.token.Token.TheVariants as tokens
use Rattle.text_values.specs.ModelValue.{Term, Join, Not, On, Apply, gathered}
use Rattle.cat_expressions.specs.declared.frames.Frame as code_frame
use Rattle.cat_grammar.specs.Machine as machine
use Rattle.cat_grammar.specs.Grammar.{infix_level, model_limits}
use Rattle.text_values.specs.ModelValues.{term_of}
use Rattle.text_values.proofs.Arguments.{applied_term}
use Rattle.cat_expressions.specs.declared.terms.OpenExpression.{OpenExpression}
use Rattle.cat_expressions.specs.Reading.{frame_of, stacked, term_stack_of, is_open, is_square, is_no_bracket, takes_operand}
use Rattle.cat_expressions.specs.OpenReading.{StepsExpression}

pub stacked-push : (fs : List code_frame.Frame) (f : code_frame.Frame) (below : List machine.TermFrame)
    → stacked (fs ++ f ∷ []) below ≡ frame_of f ∷ stacked fs below
stacked-push [] f below = refl
stacked-push (g ∷ fs) f below = stacked-push fs f (frame_of g ∷ below)

pub stack_of-push : (fs : List code_frame.Frame) (f : code_frame.Frame)
    → term_stack_of (fs ++ f ∷ []) ≡ frame_of f ∷ term_stack_of fs
stack_of-push fs f = stacked-push fs f []

-- one turn of joining: the frame that was popped decides
module _ (l : ℕ) (start : List machine.TermFrame × Term) (items rest : List code_frame.Frame) (v : Term)
    (so_far : start ≡ machine.fold_to l (term_stack_of items) v) where
  popped : (f : code_frame.Frame) → items ≡ rest ++ f ∷ []
      → start ≡ machine.fold_to l (frame_of f ∷ term_stack_of rest) v
  popped f e =
      so_far
      ∙ ap (λ (fs : List machine.TermFrame). machine.fold_to l fs v)
      (ap term_stack_of e ∙ stack_of-push rest f)

  pub popped_prefix : (f : code_frame.Frame) → items ≡ rest ++ f ∷ [] → f ≡ frames.Prefix
      → (w : Expression) → term_of w ≡ v
      → start ≡ machine.fold_to l (term_stack_of rest) (Not (term_of w))
  popped_prefix f e is w same =
      popped f e
      ∙ ap (λ (g : code_frame.Frame). machine.fold_to l (frame_of g ∷ term_stack_of rest) v) is
      ∙ ap (λ (x : Term). machine.fold_to l (term_stack_of rest) (Not x)) (sym same)

  pub popped_left : (f : code_frame.Frame) → items ≡ rest ++ f ∷ []
      → (op : Infix) (a a' w : Expression) → f ≡ frames.Left op a → a' ≡ a → term_of w ≡ v
      → nat_le l (infix_level op) ≡ true
      → start ≡ machine.fold_to l (term_stack_of rest) (Join op (term_of a') (term_of w))
  popped_left f e op a a' w is left same le =
      popped f e
      ∙ ap (λ (g : code_frame.Frame). machine.fold_to l (frame_of g ∷ term_stack_of rest) v) is
      ∙ ap
      (λ (x : Bool). if x then machine.fold_to l (term_stack_of rest) (Join op (term_of a) v)
      else (machine.LeftOf op (term_of a) ∷ term_stack_of rest, v)) le
      ∙ ap (λ (x : Term). machine.fold_to l (term_stack_of rest) (Join op (term_of a) x)) (sym same)
      ∙ ap (λ (x : Expression). machine.fold_to l (term_stack_of rest) (Join op (term_of x) (term_of w)))
      (sym left)

-- what the innermost frame takes
taken_alone : (l : ℕ) (f : code_frame.Frame) (below : List machine.TermFrame)
    → takes_operand l (frame_of f ∷ below) ≡ takes_operand l (frame_of f ∷ [])
taken_alone l frames.Group below = refl
taken_alone l frames.Square below = refl
taken_alone l frames.Prefix below = refl
taken_alone l (frames.Left op a) below = refl
taken_alone l (frames.Applied n args) below = refl

split_last : (f : code_frame.Frame) (fs : List code_frame.Frame)
    → (prefix : List code_frame.Frame) × (x : code_frame.Frame) × (f ∷ fs ≡ prefix ++ x ∷ [])
split_last f [] = ([], f, refl)
split_last f (g ∷ gs) =
    let r = split_last g gs in (f ∷ r.0, r.1, ap (λ (xs : List code_frame.Frame). f ∷ xs) r.2)

taken_last : (l : ℕ) (fs prefix : List code_frame.Frame) (x f : code_frame.Frame)
    → fs ≡ prefix ++ x ∷ [] → Some f ≡ slice_get fs (length fs - 1)
    → takes_operand l (frame_of f ∷ []) ≡ takes_operand l (term_stack_of fs)
taken_last l fs prefix x f e h =
    let many : length fs - 1 ≡ length prefix = omega (arith, ap length e, length-append prefix (x ∷ [])) in
    let same : f ≡ x = sym (get_or_from_slice_get fs (length fs - 1) f f (sym h)) ∙ ap (λ (n : ℕ). get_or fs n f) many ∙ ap (λ (gs : List code_frame.Frame). get_or gs (length prefix) f) e ∙ get_or-append_seam prefix x [] f in
    ap (λ (g : code_frame.Frame). takes_operand l (frame_of g ∷ [])) same
    ∙ sym (taken_alone l x (term_stack_of prefix))
    ∙ sym (ap (λ (gs : List code_frame.Frame). takes_operand l (term_stack_of gs)) e
    ∙ ap (takes_operand l) (stack_of-push prefix x))

pub taken_by : (l : ℕ) (fs : List code_frame.Frame) (f : code_frame.Frame)
    → Some f ≡ slice_get fs (length fs - 1)
    → takes_operand l (frame_of f ∷ []) ≡ takes_operand l (term_stack_of fs)
taken_by l [] f h = absurd cc
taken_by l (g ∷ gs) f h = let r = split_last g gs in taken_last l (g ∷ gs) r.0 r.1 f r.2 h

pub taken_by_none : (l : ℕ) (fs : List code_frame.Frame) → None ≡ slice_get fs (length fs - 1)
    → false ≡ takes_operand l (term_stack_of fs)
taken_by_none l [] h = refl
taken_by_none l (g ∷ gs) h =
    let x = slice_get-get_or (g ∷ gs) (length (g ∷ gs) - 1) g (omega arith) in absurd cc

-- the frame that was popped takes the operand, as the innermost frame did
pub popped_takes : (l : ℕ) (items rest : List code_frame.Frame) (f g : code_frame.Frame)
    → takes_operand l (term_stack_of items) ≡ true → items ≡ rest ++ f ∷ [] → f ≡ g
    → takes_operand l (frame_of g ∷ []) ≡ true
popped_takes l items rest f g h e is =
    sym (ap (λ (x : code_frame.Frame). takes_operand l (frame_of x ∷ [])) is)
    ∙ sym (taken_alone l f (term_stack_of rest))
    ∙ sym (ap (λ (fs : List code_frame.Frame). takes_operand l (term_stack_of fs)) e
    ∙ ap (takes_operand l) (stack_of-push rest f)) ∙ h

-- an operand that no frame takes stays
pub fold_stays : (l : ℕ) (fs : List machine.TermFrame) (v : Term) → takes_operand l fs ≡ false
    → machine.fold_to l fs v ≡ (fs, v)
fold_stays l [] v h = refl
fold_stays l (machine.InGroup ∷ fs) v h = refl
fold_stays l (machine.InSquare ∷ fs) v h = refl
fold_stays l (machine.InPrefix ∷ fs) v h = absurd cc
fold_stays l (machine.LeftOf op a ∷ fs) v h =
    ap
    (λ (x : Bool). if x then machine.fold_to l fs (Join op a v) else (machine.LeftOf op a ∷ fs, v))
    h
fold_stays l (machine.InArguments n args ∷ fs) v h = refl

open_count-stacked : (fs : List code_frame.Frame) (below : List machine.TermFrame)
    → machine.open_count (stacked fs below) ≡ count_by is_open fs + machine.open_count below
open_count-stacked [] below = omega arith
open_count-stacked (frames.Group ∷ fs) below =
    let n = sum_by-cons (λ f. cond (is_open f) 1 0) frames.Group fs in
    let h = open_count-stacked fs (machine.InGroup ∷ below) in omega arith
open_count-stacked (frames.Square ∷ fs) below =
    let n = sum_by-cons (λ f. cond (is_open f) 1 0) frames.Square fs in
    let h = open_count-stacked fs (machine.InSquare ∷ below) in omega arith
open_count-stacked (frames.Prefix ∷ fs) below =
    let n = sum_by-cons (λ f. cond (is_open f) 1 0) frames.Prefix fs in
    let h = open_count-stacked fs (machine.InPrefix ∷ below) in omega arith
open_count-stacked (frames.Left op a ∷ fs) below =
    let n = sum_by-cons (λ f. cond (is_open f) 1 0) (frames.Left op a) fs in
    let h = open_count-stacked fs (machine.LeftOf op (term_of a) ∷ below) in omega arith
open_count-stacked (frames.Applied name args ∷ fs) below =
    let n = sum_by-cons (λ f. cond (is_open f) 1 0) (frames.Applied name args) fs in
    let h = open_count-stacked fs (machine.InArguments name (map term_of args.items) ∷ below) in
    omega arith

pub open_count-stack : (fs : List code_frame.Frame)
    → machine.open_count (term_stack_of fs) ≡ count_by is_open fs
open_count-stack fs = let h = open_count-stacked fs [] in omega arith

is_outermost-stacked : (fs : List code_frame.Frame) (below : List machine.TermFrame)
    → machine.is_outermost (stacked fs below)
    ≡ (list_all is_no_bracket fs && machine.is_outermost below)
is_outermost-stacked [] below = refl
is_outermost-stacked (frames.Group ∷ fs) below =
    is_outermost-stacked fs (machine.InGroup ∷ below) ∙ and-false (list_all is_no_bracket fs)
is_outermost-stacked (frames.Square ∷ fs) below =
    is_outermost-stacked fs (machine.InSquare ∷ below) ∙ and-false (list_all is_no_bracket fs)
is_outermost-stacked (frames.Prefix ∷ fs) below = is_outermost-stacked fs (machine.InPrefix ∷ below)
is_outermost-stacked (frames.Left op a ∷ fs) below =
    is_outermost-stacked fs (machine.LeftOf op (term_of a) ∷ below)
is_outermost-stacked (frames.Applied name args ∷ fs) below =
    is_outermost-stacked fs (machine.InArguments name (map term_of args.items) ∷ below)
    ∙ and-false (list_all is_no_bracket fs)

pub is_outermost-stack : (fs : List code_frame.Frame)
    → machine.is_outermost (term_stack_of fs) ≡ list_all is_no_bracket fs
is_outermost-stack fs = is_outermost-stacked fs [] ∙ and-true (list_all is_no_bracket fs)

-- the outermost of what is open, once everything is joined
pub popped_of : (p : List machine.TermFrame × Term) (all rest : List code_frame.Frame)
    (f : code_frame.Frame) (v : Term) → p ≡ (term_stack_of all, v) → all ≡ rest ++ f ∷ []
    → p ≡ (frame_of f ∷ term_stack_of rest, v)
popped_of p all rest f v e split =
    e ∙ ap (λ (fs : List machine.TermFrame). (fs, v)) (ap term_stack_of split ∙ stack_of-push rest f)

-- `]` closes the innermost frame if that is `[`, and is refused if it is another
pub square_refused : (used : ℕ) (f : code_frame.Frame) (fs : List machine.TermFrame) (v : Term)
    → is_square f ≡ false → machine.square_closed used (frame_of f ∷ fs, v) ≡ machine.Refuses Syntax
square_refused used frames.Group fs v e = refl
square_refused used frames.Square fs v e = absurd cc
square_refused used frames.Prefix fs v e = refl
square_refused used (frames.Left op a) fs v e = refl
square_refused used (frames.Applied n args) fs v e = refl

pub square_matched : (used : ℕ) (f : code_frame.Frame) (fs : List machine.TermFrame) (v : Term)
    → is_square f ≡ true
    → machine.square_closed used (frame_of f ∷ fs, v) ≡ machine.Goes fs used (machine.Has (On v))
square_matched used frames.Group fs v e = absurd cc
square_matched used frames.Square fs v e = refl
square_matched used frames.Prefix fs v e = absurd cc
square_matched used (frames.Left op a) fs v e = absurd cc
square_matched used (frames.Applied n args) fs v e = absurd cc

-- one more frame, where it may be opened
pub opened_below : (fs all : List code_frame.Frame) (f : code_frame.Frame) (used : ℕ)
    → all ≡ fs ++ f ∷ [] → machine.open_count (term_stack_of fs) < 64
    → machine.term_opened model_limits (term_stack_of fs) used (frame_of f)
    ≡ machine.Goes (term_stack_of all) used machine.Wants
opened_below fs all f used e lt =
    ap
    (λ (x : Bool). if x then machine.Goes (frame_of f ∷ term_stack_of fs) used machine.Wants
    else machine.Refuses TooDeep)
    (lt-ltb _ _ lt)
    ∙ ap (λ (gs : List machine.TermFrame). machine.Goes gs used machine.Wants)
    (sym (ap term_stack_of e ∙ stack_of-push fs f))

-- an operand after a star and a tilde
pub star_tilde_other : (fs gs all : List code_frame.Frame) (used : ℕ) (left : Expression)
    (t : Token) (r : Result code_step.ExpressionStep StepError) (o : OpenExpression)
    → ((w : CheckWord) → t ≡ tokens.Check w → ⊥)
    → term_stack_of gs ≡ machine.infix_at Product (term_stack_of fs) (term_of left)
    → all ≡ gs ++ frames.Prefix ∷ []
    → StepsExpression t r o (machine.operand model_limits (term_stack_of all) used t)
    → StepsExpression t r o (machine.after_star_tilde model_limits (term_stack_of fs) used (term_of left) t)
star_tilde_other fs gs all used left t r o other e pushed h =
    let same : term_stack_of all ≡ machine.InPrefix ∷ machine.infix_at Product (term_stack_of fs) (term_of left) = ap term_stack_of pushed ∙ stack_of-push gs frames.Prefix ∙ ap (λ (xs : List machine.TermFrame). machine.InPrefix ∷ xs) e in
    by_token t other (subst
    (λ (xs : List machine.TermFrame). StepsExpression t r o (machine.operand model_limits xs used t)) same h)
  where
    by_token : (u : Token) → ((w : CheckWord) → u ≡ tokens.Check w → ⊥)
        → StepsExpression t r o (machine.operand model_limits
        (machine.InPrefix ∷ machine.infix_at Product (term_stack_of fs) (term_of left)) used u)
        → StepsExpression t r o (machine.after_star_tilde model_limits (term_stack_of fs) used (term_of left) u)
    by_token (tokens.Check w) n k = absurd (n w refl)
    by_token _ n k = k

-- one more argument
map-push : (args : List Expression) (a : Expression)
    → map term_of (args ++ a ∷ []) ≡ map term_of args ++ term_of a ∷ []
map-push args a = map-append term_of args (a ∷ [])

pub applied_pushed : (n : List ℕ) (args all : Vec Expression Global) (a : Expression)
    → all.items ≡ args.items ++ a ∷ []
    → Apply n (gathered (map term_of args.items ++ term_of a ∷ []))
    ≡ term_of (expressions.Applied n all)
applied_pushed n args all a e =
    ap (λ (l : List Term). Apply n (gathered l)) (sym (ap (map term_of) e ∙ map-push args.items a))
    ∙ sym (applied_term n all)

pub comma_pushed : (fs after : List code_frame.Frame) (n : List ℕ)
    (args all : Vec Expression Global) (a : Expression) → all.items ≡ args.items ++ a ∷ []
    → after ≡ fs ++ frames.Applied n all ∷ []
    → machine.InArguments n (map term_of args.items ++ term_of a ∷ []) ∷ term_stack_of fs
    ≡ term_stack_of after
comma_pushed fs after n args all a e pushed =
    ap (λ (l : List Term). machine.InArguments n l ∷ term_stack_of fs)
    (sym (ap (map term_of) e ∙ map-push args.items a))
    ∙ sym (ap term_stack_of pushed ∙ stack_of-push fs (frames.Applied n all))

-- the machine's result in another spelling
pub steps_same : (t : Token) (r : Result code_step.ExpressionStep StepError) (o : OpenExpression)
    (a b : machine.TermStep) → a ≡ b → StepsExpression t r o b → StepsExpression t r o a
steps_same t r o a b e h = subst (λ (m : machine.TermStep). StepsExpression t r o m) (sym e) h
