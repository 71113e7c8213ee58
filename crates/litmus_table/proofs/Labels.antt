-- The checks of a thread's steps find what the definitions find in its notes.
use Rattle.std.proofs.Common.{◌≡◌, ℕ, ◌+◌, ◌<◌, ◌≤◌, Bool, true, false, List, [], ◌∷◌, ◌++◌, length, Option, Some, None, refl, sym, ap, ◌∙◌, subst, append_assoc, arith}
use Rattle.std.specs.Prelude.{◌||◌, if◌then◌else◌}
use Rattle.std.specs.Str.{bytes_eq}
use Rattle.std.proofs.lemmas.List.{length-append}
use Rattle.std.proofs.lemmas.Slice.Eq.{bytes_eq-Decides}
use Rattle.std.proofs.lemmas.Bool.{lt-ltb, le-ltb}
use Rattle.litmus_tokens.specs.declared.rule.LitmusRule.{LitmusRule}
use Rattle.litmus_tokens.specs.declared.rule.LitmusRule.TheVariants as rules
use Rattle.litmus_tokens.specs.declared.token.Token.{Token}
use Rattle.litmus_tokens.specs.Texts as texts
use Rattle.litmus_tokens.specs.Texts.{StandsAt}
use Rattle.text_values.specs.declared.instruction.Instruction.{Instruction}
use Rattle.text_values.specs.declared.instruction.Instruction.TheVariants as instructions
use Rattle.text_values.specs.declared.test.Step.{Step}
use Rattle.text_values.specs.declared.test.Step.TheVariants as steps
use Rattle.litmus_table.specs.declared.late.LateFault.{LateFault}
use Rattle.litmus_table.specs.Checks.{first_from, label_rule, target_rule, instruction_rule, or_later, first_fault, IsFoundAt}
use Rattle.litmus_table.specs.Late.{Late, Note, Defines, Branches, is_in, defined, late_notes}
use Rattle.litmus_table.specs.Laws.{LabelMark, Defined, Branched, instruction_marks, label_marks, AreMarks}

-- the labels that steps define
abbrev labels : List Step → List (List ℕ)
labels [] = []
labels (steps.Label w ∷ ss) = w ∷ labels ss
labels (steps.Instruction i ∷ ss) = labels ss

is_same : (w : List ℕ) → bytes_eq w w ≡ true
is_same w = (bytes_eq-Decides w w).1 refl

-- ---- where a label is first defined

abbrev IsWithin : ℕ → ℕ → Option ℕ → Type 0
IsWithin low high None = ⊥
IsWithin low high (Some k) = (low ≤ k) × (k < high)

first_in : (w : List ℕ) (k : ℕ) (ss more : List Step) → is_in w (labels ss) ≡ true
    → IsWithin k (k + length ss) (first_from w k (ss ++ more))
first_in w k [] more e = absurd cc
first_in w k (steps.Label v ∷ ss) more e = choose (bytes_eq v w) e (first_in w (k + 1) ss more)
  where
    wider : (o : Option ℕ) → IsWithin (k + 1) (k + 1 + length ss) o
        → IsWithin k (k + length (steps.Label v ∷ ss)) o
    wider None h = absurd h
    wider (Some j) h = (omega (arith, h.0), omega (arith, h.1))

    choose : (b : Bool) → (b || is_in w (labels ss)) ≡ true
        → (is_in w (labels ss) ≡ true
        → IsWithin (k + 1) (k + 1 + length ss) (first_from w (k + 1) (ss ++ more)))
        → IsWithin k (k + length (steps.Label v ∷ ss))
        (if b then Some k else first_from w (k + 1) (ss ++ more))
    choose true m later = (omega arith, omega arith)
    choose false m later = wider (first_from w (k + 1) (ss ++ more)) (later m)
first_in w k (steps.Instruction i ∷ ss) more e =
    wider (first_from w (k + 1) (ss ++ more)) (first_in w (k + 1) ss more e)
  where
    wider : (o : Option ℕ) → IsWithin (k + 1) (k + 1 + length ss) o
        → IsWithin k (k + length (steps.Instruction i ∷ ss)) o
    wider None h = absurd h
    wider (Some j) h = (omega (arith, h.0), omega (arith, h.1))

first_behind : (w : List ℕ) (k : ℕ) (ss more : List Step) → is_in w (labels ss) ≡ false
    → first_from w k (ss ++ more) ≡ first_from w (k + length ss) more
first_behind w k [] more e =
    let z : k ≡ k + 0 = omega arith in ap (λ (j : ℕ). first_from w j more) z
first_behind w k (steps.Label v ∷ ss) more e =
    choose (bytes_eq v w) e (first_behind w (k + 1) ss more)
  where
    further : k + 1 + length ss ≡ k + length (steps.Label v ∷ ss)
    further = omega arith

    choose : (b : Bool) → (b || is_in w (labels ss)) ≡ false
        → (is_in w (labels ss) ≡ false
        → first_from w (k + 1) (ss ++ more) ≡ first_from w (k + 1 + length ss) more)
        → (if b then Some k else first_from w (k + 1) (ss ++ more))
        ≡ first_from w (k + length (steps.Label v ∷ ss)) more
    choose true m later = absurd cc
    choose false m later = later m ∙ ap (λ (j : ℕ). first_from w j more) further
first_behind w k (steps.Instruction i ∷ ss) more e =
    let further : k + 1 + length ss ≡ k + length (steps.Instruction i ∷ ss) = omega arith in
    first_behind w (k + 1) ss more e ∙ ap (λ (j : ℕ). first_from w j more) further

first_none : (w : List ℕ) (k : ℕ) (ss : List Step) → is_in w (labels ss) ≡ false
    → first_from w k ss ≡ None
first_none w k [] e = refl
first_none w k (steps.Label v ∷ ss) e = choose (bytes_eq v w) e (first_none w (k + 1) ss)
  where
    choose : (b : Bool) → (b || is_in w (labels ss)) ≡ false
        → (is_in w (labels ss) ≡ false → first_from w (k + 1) ss ≡ None)
        → (if b then Some k else first_from w (k + 1) ss) ≡ None
    choose true m later = absurd cc
    choose false m later = later m
first_none w k (steps.Instruction i ∷ ss) e = first_none w (k + 1) ss e

append_none : (ss : List Step) → ss ++ [] ≡ ss
append_none [] = refl
append_none (s ∷ ss) = ap (λ (l : List Step). s ∷ l) (append_none ss)

-- ---- what a step breaks, by the labels above it

above_label : (w : List ℕ) (done ss : List Step)
    → label_rule (first_from w 0 (done ++ steps.Label w ∷ ss)) (length done)
    ≡ (if is_in w (labels done) then Some rules.Label else None)
above_label w done ss = choose (is_in w (labels done)) refl
  where
    early : (o : Option ℕ) → IsWithin 0 (0 + length done) o
        → label_rule o (length done) ≡ Some rules.Label
    early None h = absurd h
    early (Some k) h =
        ap (λ (b : Bool). if b then Some rules.Label else None)
        (lt-ltb k (length done) (omega (arith, h.1)))

    here : first_from w (0 + length done) (steps.Label w ∷ ss) ≡ Some (length done)
    here =
        let z : 0 + length done ≡ length done = omega arith in
        ap
        (λ (b : Bool).
        if b then Some (0 + length done) else first_from w (0 + length done + 1) ss)
        (is_same w) ∙ ap (λ (k : ℕ). Some k) z

    choose : (b : Bool) → is_in w (labels done) ≡ b
        → label_rule (first_from w 0 (done ++ steps.Label w ∷ ss)) (length done)
        ≡ (if b then Some rules.Label else None)
    choose true e =
        early (first_from w 0 (done ++ steps.Label w ∷ ss))
        (first_in w 0 done (steps.Label w ∷ ss) e)
    choose false e =
        ap (λ (o : Option ℕ). label_rule o (length done))
        (first_behind w 0 done (steps.Label w ∷ ss) e ∙ here)
        ∙ ap (λ (b : Bool). if b then Some rules.Label else None)
        (le-ltb (length done) (length done) (omega arith))

above_target : (w : List ℕ) (done more : List Step)
    → target_rule (first_from w 0 (done ++ more)) (length done) ≡ (if is_in w (labels done) then Some
    rules.BackwardBranch
    else (if is_in w (labels more) then None else Some rules.Label))
above_target w done more = choose (is_in w (labels done)) refl
  where
    early : (o : Option ℕ) → IsWithin 0 (0 + length done) o
        → target_rule o (length done) ≡ Some rules.BackwardBranch
    early None h = absurd h
    early (Some k) h =
        ap (λ (b : Bool). if b then Some rules.BackwardBranch else None)
        (lt-ltb k (length done) (omega (arith, h.1)))

    later : (o : Option ℕ) (high : ℕ) → IsWithin (0 + length done) high o
        → target_rule o (length done) ≡ None
    later None high h = absurd h
    later (Some k) high h =
        ap (λ (b : Bool). if b then Some rules.BackwardBranch else None)
        (le-ltb k (length done) (omega (arith, h.0)))

    behind : (b : Bool) → is_in w (labels more) ≡ b
        → target_rule (first_from w (0 + length done) more) (length done)
        ≡ (if b then None else Some rules.Label)
    behind true e =
        later (first_from w (0 + length done) more) (0 + length done + length more)
        (subst
        (λ (l : List Step). IsWithin (0 + length done) (0 + length done + length more)
        (first_from w (0 + length done) l))
        (append_none more)
        (first_in w (0 + length done) more [] e))
    behind false e =
        ap (λ (o : Option ℕ). target_rule o (length done)) (first_none w (0 + length done) more e)

    choose : (b : Bool) → is_in w (labels done) ≡ b
        → target_rule (first_from w 0 (done ++ more)) (length done) ≡ (if b then Some
        rules.BackwardBranch
        else (if is_in w (labels more) then None else Some rules.Label))
    choose true e = early (first_from w 0 (done ++ more)) (first_in w 0 done more e)
    choose false e =
        ap (λ (o : Option ℕ). target_rule o (length done)) (first_behind w 0 done more e)
        ∙ behind (is_in w (labels more)) refl

-- ---- notes

abbrev mark_labels : List LabelMark → List (List ℕ)
mark_labels [] = []
mark_labels (Defined w offset ∷ ms) = w ∷ mark_labels ms
mark_labels (Branched w offset ∷ ms) = mark_labels ms

branches_define : (i : Instruction) (offset : ℕ) (ms : List LabelMark)
    → mark_labels (instruction_marks i offset ++ ms) ≡ mark_labels ms
branches_define (instructions.BranchIf condition label) offset ms = refl
branches_define (instructions.Branch label) offset ms = refl
branches_define i offset ms = refl

marks_define : (ss : List Step) (ps : List ℕ) → length ss ≡ length ps
    → mark_labels (label_marks ss ps) ≡ labels ss
marks_define [] ps e = refl
marks_define (s ∷ ss) [] e = absurd (omega arith)
marks_define (steps.Label w ∷ ss) (p ∷ ps) e =
    let less : length ss ≡ length ps = omega arith in
    ap (λ (l : List (List ℕ)). w ∷ l) (marks_define ss ps less)
marks_define (steps.Instruction i ∷ ss) (p ∷ ps) e =
    let less : length ss ≡ length ps = omega arith in
    branches_define i p (label_marks ss ps) ∙ marks_define ss ps less

module _ (text : List texts.TokenAt) where
  notes_define : (ns : List Note) (ms : List LabelMark) → AreMarks text ns ms
      → defined ns ≡ mark_labels ms
  notes_define [] [] a = refl
  notes_define (Defines w b ∷ ns) (Defined v p ∷ ms) a =
      ap (λ (x : List ℕ). x ∷ defined ns) (sym a.0)
      ∙ ap (λ (l : List (List ℕ)). v ∷ l) (notes_define ns ms a.2)
  notes_define (Branches w b ∷ ns) (Branched v p ∷ ms) a = notes_define ns ms a.2
  notes_define [] (m ∷ ms) a = absurd a
  notes_define (Defines w b ∷ ns) [] a = absurd a
  notes_define (Branches w b ∷ ns) [] a = absurd a
  notes_define (Defines w b ∷ ns) (Branched v p ∷ ms) a = absurd a
  notes_define (Branches w b ∷ ns) (Defined v p ∷ ms) a = absurd a

  -- the same labels are above, in any order
  abbrev Above : List (List ℕ) → List Step → Type 0
  Above above done = (w : List ℕ) → is_in w above ≡ is_in w (labels done)

  or_swap : (a b : Bool) → (a || b) ≡ (b || (a || false))
  or_swap true true = refl
  or_swap true false = refl
  or_swap false true = refl
  or_swap false false = refl

  or_assoc : (a b c : Bool) → ((a || b) || c) ≡ (a || (b || c))
  or_assoc true b c = refl
  or_assoc false b c = refl

  is_in-append : (w : List ℕ) (us vs : List (List ℕ))
      → is_in w (us ++ vs) ≡ (is_in w us || is_in w vs)
  is_in-append w [] vs = refl
  is_in-append w (u ∷ us) vs =
      ap (λ (b : Bool). bytes_eq u w || b) (is_in-append w us vs)
      ∙ sym (or_assoc (bytes_eq u w) (is_in w us) (is_in w vs))

  labels-append : (ss rs : List Step) → labels (ss ++ rs) ≡ labels ss ++ labels rs
  labels-append [] rs = refl
  labels-append (steps.Label w ∷ ss) rs = ap (λ (l : List (List ℕ)). w ∷ l) (labels-append ss rs)
  labels-append (steps.Instruction i ∷ ss) rs = labels-append ss rs

  above_more : (v : List ℕ) (above : List (List ℕ)) (done : List Step) → Above above done
      → Above (v ∷ above) (done ++ steps.Label v ∷ [])
  above_more v above done h w =
      ap (λ (b : Bool). bytes_eq v w || b) (h w)
      ∙ or_swap (bytes_eq v w) (is_in w (labels done))
      ∙ sym (is_in-append w (labels done) (v ∷ []))
      ∙ ap (is_in w) (sym (labels-append done (steps.Label v ∷ [])))

  above_same : (i : Instruction) (above : List (List ℕ)) (done : List Step) → Above above done
      → Above above (done ++ steps.Instruction i ∷ [])
  above_same i above done h w =
      h w
      ∙ ap (is_in w) (sym (no_more (labels done))
      ∙ sym (labels-append done (steps.Instruction i ∷ [])))
    where
      no_more : (us : List (List ℕ)) → us ++ [] ≡ us
      no_more [] = refl
      no_more (u ∷ us) = ap (λ (l : List (List ℕ)). u ∷ l) (no_more us)

  -- what is found from here on
  abbrev Finds : List Step → List Step → List ℕ → List (List ℕ) → List Note → Type 0
  Finds done ss ps above ns =
      IsFoundAt text (first_fault (λ w. first_from w 0 (done ++ ss)) (length done) ss ps)
      (late_notes above ns)

  further : (s : Step) (done ss : List Step) (ps : List ℕ) (above : List (List ℕ)) (ns : List Note)
      → Finds (done ++ s ∷ []) ss ps above ns
      → IsFoundAt text (first_fault (λ w. first_from w 0 (done ++ s ∷ ss)) (length done + 1) ss ps)
      (late_notes above ns)
  further s done ss ps above ns h =
      subst
      (λ (k : ℕ). IsFoundAt text (first_fault (λ w. first_from w 0 (done ++ s ∷ ss)) k ss ps)
      (late_notes above ns))
      (length-append done (s ∷ []))
      (subst
      (λ (l : List Step). IsFoundAt text
      (first_fault (λ w. first_from w 0 l) (length (done ++ s ∷ [])) ss ps)
      (late_notes above ns))
      (append_assoc done (s ∷ []) ss) h)

  abbrev late_at : LitmusRule → List Token → Option Late
  late_at rule b = Some (record { rule = rule; before = b })

  label_found : (v : List ℕ) (done ss : List Step) (p : ℕ) (above : List (List ℕ)) (b : List Token)
      (ns : List Note) (later : Option LateFault) → Above above done → StandsAt text b p
      → IsFoundAt text later (late_notes (v ∷ above) ns)
      → IsFoundAt text
      (or_later (label_rule (first_from v 0 (done ++ steps.Label v ∷ ss)) (length done)) p
      later)
      (late_notes above (Defines v b ∷ ns))
  label_found v done ss p above b ns later h stands next =
      subst
      (λ (c : Bool). IsFoundAt text
      (or_later (label_rule (first_from v 0 (done ++ steps.Label v ∷ ss)) (length done)) p
      later)
      (if c then late_at rules.Label b else late_notes (v ∷ above) ns))
      (sym (h v))
      (subst
      (λ (o : Option LitmusRule). IsFoundAt text (or_later o p later) (if is_in v
      (labels done) then late_at rules.Label b
      else late_notes (v ∷ above) ns))
      (sym (above_label v done ss))
      (choose (is_in v (labels done))))
    where
      choose : (c : Bool)
          → IsFoundAt text (or_later (if c then Some rules.Label else None) p later)
          (if c then late_at rules.Label b else late_notes (v ∷ above) ns)
      choose true = (refl, stands)
      choose false = next

  branch_found : (v : List ℕ) (i : Instruction) (done ss : List Step) (p : ℕ)
      (above : List (List ℕ)) (b : List Token) (ns : List Note) (later : Option LateFault)
      → Above above done → defined ns ≡ labels ss → StandsAt text b p
      → IsFoundAt text later (late_notes above ns)
      → IsFoundAt text
      (or_later (target_rule (first_from v 0 (done ++ steps.Instruction i ∷ ss)) (length done))
      p later)
      (late_notes above (Branches v b ∷ ns))
  branch_found v i done ss p above b ns later h same stands next =
      subst
      (λ (c : Bool). IsFoundAt text
      (or_later
      (target_rule (first_from v 0 (done ++ steps.Instruction i ∷ ss)) (length done)) p
      later)
      (if c then late_at rules.BackwardBranch b
      else (if is_in v (defined ns) then late_notes above ns
      else late_at rules.Label b)))
      (sym (h v))
      (subst
      (λ (l : List (List ℕ)). IsFoundAt text
      (or_later
      (target_rule (first_from v 0 (done ++ steps.Instruction i ∷ ss)) (length done)) p
      later)
      (if is_in v (labels done) then late_at rules.BackwardBranch b
      else (if is_in v l then late_notes above ns else late_at rules.Label b)))
      (sym same)
      (subst
      (λ (o : Option LitmusRule). IsFoundAt text (or_later o p later) (if is_in v
      (labels done) then late_at rules.BackwardBranch b
      else (if is_in v (labels ss) then late_notes above ns
      else late_at rules.Label b)))
      (sym (above_target v done (steps.Instruction i ∷ ss)))
      (choose (is_in v (labels done)) (is_in v (labels ss)))))
    where
      choose : (c d : Bool)
          → IsFoundAt text
          (or_later
          (if c then Some rules.BackwardBranch else (if d then None else Some rules.Label))
          p later)
          (if c then late_at rules.BackwardBranch b
          else (if d then late_notes above ns else late_at rules.Label b))
      choose true d = (refl, stands)
      choose false true = next
      choose false false = (refl, stands)

  pub late_found : (ss done : List Step) (ps : List ℕ) (above : List (List ℕ)) (ns : List Note)
      → length ss ≡ length ps → AreMarks text ns (label_marks ss ps) → Above above done
      → Finds done ss ps above ns
  late_found [] done ps above [] e a h = tt
  late_found [] done ps above (Defines w b ∷ ns) e a h = absurd a
  late_found [] done ps above (Branches w b ∷ ns) e a h = absurd a
  late_found (s ∷ ss) done [] above ns e a h = absurd (omega arith)
  late_found (steps.Label v ∷ ss) done (p ∷ ps) above [] e a h = absurd a
  late_found (steps.Label v ∷ ss) done (p ∷ ps) above (Branches w b ∷ ns) e a h = absurd a
  late_found (steps.Label v ∷ ss) done (p ∷ ps) above (Defines w b ∷ ns) e a h =
      let less : length ss ≡ length ps = omega arith in
      let s = steps.Label v in
      let later = first_fault (λ x. first_from x 0 (done ++ s ∷ ss)) (length done + 1) ss ps in
      let next = further s done ss ps (v ∷ above) ns (late_found ss (done ++ s ∷ []) ps (v ∷ above) ns less a.2 (above_more v above done h)) in
      subst
      (λ (x : List ℕ). IsFoundAt text
      (or_later (label_rule (first_from v 0 (done ++ s ∷ ss)) (length done)) p later)
      (late_notes above (Defines x b ∷ ns))) a.0
      (label_found v done ss p above b ns later h a.1 next)
  late_found (steps.Instruction i ∷ ss) done (p ∷ ps) above ns e a h =
      let less : length ss ≡ length ps = omega arith in
      by_kind i ns a
      (λ os m. late_found ss (done ++ steps.Instruction i ∷ []) ps above os less m
      (above_same i above done h))
      (λ os m. notes_define os (label_marks ss ps) m ∙ marks_define ss ps less)
    where
      branch : (j : Instruction) (v : List ℕ) (os : List Note)
          → AreMarks text os (Branched v p ∷ label_marks ss ps)
          → ((ns' : List Note) → AreMarks text ns' (label_marks ss ps)
          → Finds (done ++ steps.Instruction j ∷ []) ss ps above ns')
          → ((ns' : List Note) → AreMarks text ns' (label_marks ss ps) → defined ns' ≡ labels ss)
          → IsFoundAt text
          (or_later
          (target_rule (first_from v 0 (done ++ steps.Instruction j ∷ ss)) (length done)) p
          (first_fault (λ x. first_from x 0 (done ++ steps.Instruction j ∷ ss))
          (length done + 1) ss ps))
          (late_notes above os)
      branch j v [] m later same = absurd m
      branch j v (Defines w b ∷ os) m later same = absurd m
      branch j v (Branches w b ∷ os) m later same =
          let after = first_fault (λ x. first_from x 0 (done ++ steps.Instruction j ∷ ss)) (length done + 1) ss ps in
          subst
          (λ (x : List ℕ). IsFoundAt text
          (or_later
          (target_rule (first_from v 0 (done ++ steps.Instruction j ∷ ss))
          (length done)) p after)
          (late_notes above (Branches x b ∷ os))) m.0
          (branch_found v j done ss p above b os after h (same os m.2) m.1
          (further (steps.Instruction j) done ss ps above os (later os m.2)))

      by_kind : (j : Instruction) (os : List Note)
          → AreMarks text os (instruction_marks j p ++ label_marks ss ps)
          → ((ns' : List Note) → AreMarks text ns' (label_marks ss ps)
          → Finds (done ++ steps.Instruction j ∷ []) ss ps above ns')
          → ((ns' : List Note) → AreMarks text ns' (label_marks ss ps) → defined ns' ≡ labels ss)
          → IsFoundAt text
          (or_later
          (instruction_rule (λ x. first_from x 0 (done ++ steps.Instruction j ∷ ss)) j
          (length done)) p
          (first_fault (λ x. first_from x 0 (done ++ steps.Instruction j ∷ ss))
          (length done + 1) ss ps))
          (late_notes above os)
      by_kind (instructions.BranchIf condition v) os m later same =
          branch (instructions.BranchIf condition v) v os m later same
      by_kind (instructions.Branch v) os m later same =
          branch (instructions.Branch v) v os m later same
      by_kind j os m later same = further (steps.Instruction j) done ss ps above os (later os m)
