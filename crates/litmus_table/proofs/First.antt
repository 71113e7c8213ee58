-- Where labels are first defined, once a step more is seen.
use Rattle.std.proofs.Common.{◌≡◌, ℕ, suc, ◌+◌, ◌<◌, Bool, true, false, cond, List, [], ◌∷◌, ◌++◌, length, drop, get_or, Option, Some, None, refl, sym, ap, ◌∙◌, arith}
use Rattle.std.specs.Prelude.{if◌then◌else◌}
use Rattle.std.specs.Option.{is_some}
use Rattle.std.specs.Str.{bytes_eq}
use Rattle.std.proofs.lemmas.Slice.Eq.{bytes_eq-Decides}
use Rattle.text_values.specs.declared.instruction.Instruction.{Instruction}
use Rattle.text_values.specs.declared.test.Step.{Step}
use Rattle.text_values.specs.declared.test.Step.TheVariants as steps
use Rattle.std.proofs.Math.Numerals.{add-one}
use Rattle.std.proofs.Math.Seq.{drop-cons}
use Rattle.text_values.specs.declared.instruction.Instruction.TheVariants as instructions
use Rattle.litmus_table.specs.Checks.{first_from, label_rule, target_rule, instruction_rule, step_rule, or_later, first_fault}

abbrev or_there : Option ℕ → Option ℕ → Option ℕ
or_there (Some k) o = Some k
or_there None o = o

or_none : (o : Option ℕ) → o ≡ or_there o None
or_none (Some k) = refl
or_none None = refl

push_label : (w v : List ℕ) (k : ℕ) (ss : List Step)
    → first_from w k (ss ++ steps.Label v ∷ [])
    ≡ or_there (first_from w k ss) (if bytes_eq v w then Some (k + length ss) else None)
push_label w v k [] =
    let z : k ≡ k + 0 = omega arith in ap (λ (j : ℕ). if bytes_eq v w then Some j else None) z
push_label w v k (steps.Label u ∷ ss) = choose (bytes_eq u w) (push_label w v (k + 1) ss)
  where
    further : (k + 1) + length ss ≡ k + length (steps.Label u ∷ ss)
    further = omega arith

    choose : (b : Bool)
        → first_from w (k + 1) (ss ++ steps.Label v ∷ [])
        ≡ or_there (first_from w (k + 1) ss)
        (if bytes_eq v w then Some ((k + 1) + length ss) else None)
        → (if b then Some k else first_from w (k + 1) (ss ++ steps.Label v ∷ []))
        ≡ or_there (if b then Some k else first_from w (k + 1) ss)
        (if bytes_eq v w then Some (k + length (steps.Label u ∷ ss)) else None)
    choose true e = refl
    choose false e =
        e
        ∙ ap (λ (j : ℕ). or_there (first_from w (k + 1) ss) (if bytes_eq v w then Some j else None))
        further
push_label w v k (steps.Instruction i ∷ ss) =
    let further : (k + 1) + length ss ≡ k + length (steps.Instruction i ∷ ss) = omega arith in
    push_label w v (k + 1) ss
    ∙ ap (λ (j : ℕ). or_there (first_from w (k + 1) ss) (if bytes_eq v w then Some j else None))
    further

pub push_instruction : (w : List ℕ) (i : Instruction) (k : ℕ) (ss : List Step)
    → first_from w k (ss ++ steps.Instruction i ∷ []) ≡ first_from w k ss
push_instruction w i k [] = refl
push_instruction w i k (steps.Label u ∷ ss) =
    ap (λ (o : Option ℕ). if bytes_eq u w then Some k else o) (push_instruction w i (k + 1) ss)
push_instruction w i k (steps.Instruction j ∷ ss) = push_instruction w i (k + 1) ss

-- a label that was defined before
pub push_known : (w v : List ℕ) (ss : List Step) → is_some (first_from v 0 ss) ≡ true
    → first_from w 0 (ss ++ steps.Label v ∷ []) ≡ first_from w 0 ss
push_known w v ss e = choose (bytes_eq v w) ((bytes_eq-Decides v w).0) (push_label w v 0 ss)
  where
    stays : (o n : Option ℕ) → is_some o ≡ true → or_there o n ≡ o
    stays None n m = absurd cc
    stays (Some k) n m = refl

    choose : (b : Bool) → (b ≡ true → v ≡ w)
        → first_from w 0 (ss ++ steps.Label v ∷ [])
        ≡ or_there (first_from w 0 ss) (if b then Some (0 + length ss) else None)
        → first_from w 0 (ss ++ steps.Label v ∷ []) ≡ first_from w 0 ss
    choose true same h =
        h
        ∙ stays (first_from w 0 ss) (Some (0 + length ss)) (ap
        (λ (x : List ℕ). is_some (first_from x 0 ss)) (sym (same refl)) ∙ e)
    choose false same h = h ∙ sym (or_none (first_from w 0 ss))

-- one that was not
pub push_new : (w v : List ℕ) (ss : List Step) → is_some (first_from v 0 ss) ≡ false
    → first_from w 0 (ss ++ steps.Label v ∷ [])
    ≡ cond (bytes_eq v w) (Some (length ss)) (first_from w 0 ss)
push_new w v ss e = choose (bytes_eq v w) ((bytes_eq-Decides v w).0) (push_label w v 0 ss)
  where
    gives : (o n : Option ℕ) → is_some o ≡ false → or_there o n ≡ n
    gives None n m = refl
    gives (Some k) n m = absurd cc

    choose : (b : Bool) → (b ≡ true → v ≡ w)
        → first_from w 0 (ss ++ steps.Label v ∷ [])
        ≡ or_there (first_from w 0 ss) (if b then Some (0 + length ss) else None)
        → first_from w 0 (ss ++ steps.Label v ∷ []) ≡ cond b (Some (length ss)) (first_from w 0 ss)
    choose true same h =
        let z : 0 + length ss ≡ length ss = omega arith in
        h
        ∙ gives (first_from w 0 ss) (Some (0 + length ss)) (ap
        (λ (x : List ℕ). is_some (first_from x 0 ss)) (sym (same refl)) ∙ e)
        ∙ ap (λ (k : ℕ). Some k) z
    choose false same h = h ∙ sym (or_none (first_from w 0 ss))

-- ---- the walk

module _ (f g : List ℕ → Option ℕ) (same : (w : List ℕ) → f w ≡ g w) (k : ℕ) where
  instruction_rule-same : (i : Instruction) → instruction_rule f i k ≡ instruction_rule g i k
  instruction_rule-same (instructions.BranchIf condition label) =
      ap (λ (o : Option ℕ). target_rule o k) (same label)
  instruction_rule-same (instructions.Branch label) =
      ap (λ (o : Option ℕ). target_rule o k) (same label)
  instruction_rule-same i = refl

  pub step_rule-same : (s : Step) → step_rule f s k ≡ step_rule g s k
  step_rule-same (steps.Label label) = ap (λ (o : Option ℕ). label_rule o k) (same label)
  step_rule-same (steps.Instruction i) = instruction_rule-same i

pub checked_here : (f : List ℕ → Option ℕ) (ss : List Step) (ps : List ℕ) (k : ℕ) (d : Step) (e : ℕ)
    → k < length ss → k < length ps
    → first_fault f k (drop k ss) (drop k ps)
    ≡ or_later (step_rule f (get_or ss k d) k) (get_or ps k e)
    (first_fault f (k + 1) (drop (k + 1) ss) (drop (k + 1) ps))
checked_here f ss ps k d e lt there =
    let more : suc k ≡ k + 1 = sym (add-one k) in
    ap (λ (l : List Step). first_fault f k l (drop k ps)) (drop-cons ss k d lt
    ∙ ap (λ (n : ℕ). get_or ss k d ∷ drop n ss) more)
    ∙ ap (λ (l : List ℕ). first_fault f k (get_or ss k d ∷ drop (k + 1) ss) l)
    (drop-cons ps k e there ∙ ap (λ (n : ℕ). get_or ps k e ∷ drop n ps) more)
