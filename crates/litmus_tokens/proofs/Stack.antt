-- The stack of frames as a list.
use Rattle.std.proofs.Common.{◌≡◌, ℕ, ◌+◌, ◌<◌, ◌≤◌, Bool, false, cond, List, [], ◌∷◌, ◌++◌, refl, sym, ap, subst, ◌∙◌, arith}
use Rattle.std.specs.Prelude.{if◌then◌else◌, count_by, codes, Result}
use Rattle.std.proofs.lemmas.List.Sums.{sum_by-cons}
use Rattle.std.proofs.lemmas.Bool.{le-leb, lt-leb, lt-ltb}
use Rattle.text_values.specs.declared.test.Connective.{Connective}
use Rattle.text_values.specs.declared.test.Place.TheVariants as places
use Rattle.text_values.specs.declared.test.Proposition.{Proposition}
use Rattle.litmus_tokens.specs.declared.token.Token.{Token}
use Rattle.text_values.specs.TestValue.{Formula, Not, Join, formula_of, level}
use Rattle.litmus_tokens.specs.declared.condition.Frame as code_frame
use Rattle.litmus_tokens.specs.declared.condition.Frame.TheVariants as frames
use Rattle.litmus_tokens.specs.declared.condition.PropositionStep as code_step
use Rattle.litmus_tokens.specs.declared.step.StepError.{StepError}
use Rattle.litmus_tokens.specs.Conditions.{condition_limits}
use Rattle.litmus_tokens.specs.ConditionMachine as machine
use Rattle.litmus_tokens.specs.ConditionReading.{frame_of, stacked, condition_stack_of, is_open, StepsCondition}

stacked-push : (fs : List code_frame.Frame) (f : code_frame.Frame) (below : List machine.ConditionFrame)
    → stacked (fs ++ f ∷ []) below ≡ frame_of f ∷ stacked fs below
stacked-push [] f below = refl
stacked-push (g ∷ fs) f below = stacked-push fs f (frame_of g ∷ below)

pub stack_of-push : (fs : List code_frame.Frame) (f : code_frame.Frame)
    → condition_stack_of (fs ++ f ∷ []) ≡ frame_of f ∷ condition_stack_of fs
stack_of-push fs f = stacked-push fs f []

-- one turn of joining: the frame that was popped decides
module _ (l : ℕ) (start : List machine.ConditionFrame × Formula) (items rest : List code_frame.Frame)
    (v : Formula) (so_far : start ≡ machine.fold_to l (condition_stack_of items) v) where
  popped : (f : code_frame.Frame) → items ≡ rest ++ f ∷ []
      → start ≡ machine.fold_to l (frame_of f ∷ condition_stack_of rest) v
  popped f e =
      so_far
      ∙ ap (λ (fs : List machine.ConditionFrame). machine.fold_to l fs v)
      (ap condition_stack_of e ∙ stack_of-push rest f)

  pub popped_prefix : (f : code_frame.Frame) → items ≡ rest ++ f ∷ [] → f ≡ frames.Prefix
      → (w : Proposition) → formula_of w ≡ v
      → start ≡ machine.fold_to l (condition_stack_of rest) (Not (formula_of w))
  popped_prefix f e is w same =
      popped f e
      ∙ ap (λ (g : code_frame.Frame). machine.fold_to l (frame_of g ∷ condition_stack_of rest) v) is
      ∙ ap (λ (x : Formula). machine.fold_to l (condition_stack_of rest) (Not x)) (sym same)

  pub popped_left : (f : code_frame.Frame) → items ≡ rest ++ f ∷ []
      → (op : Connective) (a a' w : Proposition) → f ≡ frames.Left op a → a' ≡ a → formula_of w ≡ v
      → l ≤ level op
      → start ≡ machine.fold_to l (condition_stack_of rest) (Join op (formula_of a') (formula_of w))
  popped_left f e op a a' w is left same le =
      popped f e
      ∙ ap (λ (g : code_frame.Frame). machine.fold_to l (frame_of g ∷ condition_stack_of rest) v) is
      ∙ ap
      (λ (x : Bool). if x then machine.fold_to l (condition_stack_of rest) (Join op (formula_of a) v)
      else (machine.LeftOf op (formula_of a) ∷ condition_stack_of rest, v))
      (le-leb l (level op) le)
      ∙ ap (λ (x : Formula). machine.fold_to l (condition_stack_of rest) (Join op (formula_of a) x))
      (sym same)
      ∙ ap
      (λ (x : Proposition).
      machine.fold_to l (condition_stack_of rest) (Join op (formula_of x) (formula_of w)))
      (sym left)

  pub popped_stays : (f : code_frame.Frame) → items ≡ rest ++ f ∷ []
      → (op : Connective) (a : Proposition) (after : List code_frame.Frame) → f ≡ frames.Left op a
      → level op < l → after ≡ rest ++ frames.Left op a ∷ [] → start ≡ (condition_stack_of after, v)
  popped_stays f e op a after is lt pushed =
      popped f e
      ∙ ap (λ (g : code_frame.Frame). machine.fold_to l (frame_of g ∷ condition_stack_of rest) v) is
      ∙ ap
      (λ (x : Bool). if x then machine.fold_to l (condition_stack_of rest) (Join op (formula_of a) v)
      else (machine.LeftOf op (formula_of a) ∷ condition_stack_of rest, v))
      (lt-leb l (level op) lt)
      ∙ sym (ap (λ (fs : List machine.ConditionFrame). (fs, v))
      (ap condition_stack_of pushed ∙ stack_of-push rest (frames.Left op a)))

  -- a parenthesis stays
  pub popped_group : (f : code_frame.Frame) → items ≡ rest ++ f ∷ [] → f ≡ frames.Group
      → (after : List code_frame.Frame) → after ≡ rest ++ frames.Group ∷ []
      → start ≡ (condition_stack_of after, v)
  popped_group f e is after pushed =
      popped f e
      ∙ ap (λ (h : code_frame.Frame). machine.fold_to l (frame_of h ∷ condition_stack_of rest) v) is
      ∙ sym (ap (λ (fs : List machine.ConditionFrame). (fs, v))
      (ap condition_stack_of pushed ∙ stack_of-push rest frames.Group))

open_count-stacked : (fs : List code_frame.Frame) (below : List machine.ConditionFrame)
    → machine.open_count (stacked fs below) ≡ count_by is_open fs + machine.open_count below
open_count-stacked [] below = omega arith
open_count-stacked (frames.Group ∷ fs) below =
    let n = sum_by-cons (λ f. cond (is_open f) 1 0) frames.Group fs in
    let h = open_count-stacked fs (machine.InGroup ∷ below) in omega arith
open_count-stacked (frames.Prefix ∷ fs) below =
    let n = sum_by-cons (λ f. cond (is_open f) 1 0) frames.Prefix fs in
    let h = open_count-stacked fs (machine.InPrefix ∷ below) in omega arith
open_count-stacked (frames.Left op a ∷ fs) below =
    let n = sum_by-cons (λ f. cond (is_open f) 1 0) (frames.Left op a) fs in
    let h = open_count-stacked fs (machine.LeftOf op (formula_of a) ∷ below) in omega arith

pub open_count-stack : (fs : List code_frame.Frame)
    → machine.open_count (condition_stack_of fs) ≡ count_by is_open fs
open_count-stack fs = let h = open_count-stacked fs [] in omega arith

-- one more frame, where it may be opened
pub opened_below : (fs all : List code_frame.Frame) (f : code_frame.Frame) (used : ℕ)
    → all ≡ fs ++ f ∷ [] → machine.open_count (condition_stack_of fs) < 64
    → machine.condition_opened condition_limits (condition_stack_of fs)
    (machine.Goes (frame_of f ∷ condition_stack_of fs) used machine.Wants)
    ≡ machine.Goes (condition_stack_of all) used machine.Wants
opened_below fs all f used e lt =
    ap
    (λ (x : Bool). if x then machine.Goes (frame_of f ∷ condition_stack_of fs) used machine.Wants
    else machine.Refuses)
    (lt-ltb _ _ lt)
    ∙ ap (λ (gs : List machine.ConditionFrame). machine.Goes gs used machine.Wants)
    (sym (ap condition_stack_of e ∙ stack_of-push fs f))

-- an operand behind the word `not`
pub not_result : (threads : ℕ) (fs all : List code_frame.Frame) (used : ℕ) (t : Token)
    (r : Result code_step.PropositionStep StepError) → machine.is_equals t ≡ false
    → all ≡ fs ++ frames.Prefix ∷ [] → machine.open_count (condition_stack_of fs) < 64
    → StepsCondition r (machine.operand condition_limits threads (condition_stack_of all) used t)
    → StepsCondition r (machine.after_not condition_limits threads (condition_stack_of fs) used t)
not_result threads fs all used t r other e lt h =
    let here = machine.operand condition_limits threads (machine.InPrefix ∷ condition_stack_of fs) used t in
    let same : machine.after_not condition_limits threads (condition_stack_of fs) used t ≡ machine.operand condition_limits threads (condition_stack_of all) used t
    =
    ap
    (λ (x : Bool). if x then machine.Goes (condition_stack_of fs) used
    (machine.WantsValue (places.Location (codes "not")))
    else machine.condition_opened condition_limits (condition_stack_of fs) here) other
    ∙ ap (λ (x : Bool). if x then here else machine.Refuses) (lt-ltb _ _ lt)
    ∙ ap (λ (gs : List machine.ConditionFrame). machine.operand condition_limits threads gs used t)
    (sym (ap condition_stack_of e ∙ stack_of-push fs frames.Prefix)) in
    subst (StepsCondition r) (sym same) h

-- an operator with its left operand, once what binds tighter is joined
pub joins_below : (fs middle all : List code_frame.Frame) (op : Connective) (n used : ℕ)
    (v : Formula) (left : Proposition) → n ≡ level op
    → machine.fold_to (n + 1) (condition_stack_of fs) v ≡ (condition_stack_of middle, formula_of left)
    → all ≡ middle ++ frames.Left op left ∷ [] → used < 1024
    → machine.joins condition_limits (condition_stack_of fs) used v op
    ≡ machine.Goes (condition_stack_of all) (used + 1) machine.Wants
joins_below fs middle all op n used v left same folded e lt =
    ap
    (λ (x : Bool). if x then machine.Goes
    (machine.left_frames op (machine.fold_to (level op + 1) (condition_stack_of fs) v)) (used + 1)
    machine.Wants
    else machine.Refuses)
    (lt-ltb _ _ lt)
    ∙ ap
    (λ (k : ℕ). machine.Goes (machine.left_frames op (machine.fold_to (k + 1) (condition_stack_of fs) v))
    (used + 1) machine.Wants)
    (sym same)
    ∙ ap
    (λ (p : List machine.ConditionFrame × Formula).
    machine.Goes (machine.left_frames op p) (used + 1) machine.Wants) folded
    ∙ ap (λ (gs : List machine.ConditionFrame). machine.Goes gs (used + 1) machine.Wants)
    (sym (ap condition_stack_of e ∙ stack_of-push middle (frames.Left op left)))

-- the outermost of what is open, once everything is joined
pub popped_of : (p : List machine.ConditionFrame × Formula) (all rest : List code_frame.Frame)
    (f : code_frame.Frame) (v : Formula) → p ≡ (condition_stack_of all, v) → all ≡ rest ++ f ∷ []
    → p ≡ (frame_of f ∷ condition_stack_of rest, v)
popped_of p all rest f v e split =
    e ∙ ap (λ (fs : List machine.ConditionFrame). (fs, v)) (ap condition_stack_of split ∙ stack_of-push rest f)

-- a proposition does not end where something is open
pub refused_of : (p : List machine.ConditionFrame × Formula) (all rest : List code_frame.Frame)
    (f : code_frame.Frame) (v : Formula) → p ≡ (condition_stack_of all, v) → all ≡ rest ++ f ∷ []
    → machine.condition_ended p ≡ machine.Refuses
refused_of p all rest f v e split = ap machine.condition_ended (popped_of p all rest f v e split)
