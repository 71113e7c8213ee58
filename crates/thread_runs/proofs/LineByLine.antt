-- A run goes over the lines of its thread one by one.
use Rattle.std.proofs.Common.{ℕ, ◌≡◌, Bool, true, false, List, [], ◌∷◌, Option, Some, None, refl, ap, sym, subst, ◌∙◌}
use Rattle.std.proofs.lemmas.Option.{same_Some}
use Rattle.thread_runs.specs.declared.value.Value.{Value}
use Rattle.thread_runs.specs.declared.value.Value.TheVariants.{NoValue}
use Rattle.thread_runs.specs.declared.instruction.Instruction.{Instruction}
use Rattle.thread_runs.specs.declared.instruction.Line.{Line}
use Rattle.thread_runs.specs.declared.instruction.Line.TheVariants.{Label, Does}
use Rattle.thread_runs.specs.LineByLine as told
use Rattle.thread_runs.specs.LineByLine.{GoesOver, GoesLineByLine, executing}
use Rattle.thread_runs.specs.Machine.{State, is_fault, is_load, takes_branch}
use Rattle.thread_runs.specs.Runs.{Walk, RunOutcome, walk_at, walk_past, after_line, after_instruction, after_load, run_from}

to_run : {xs : List Line} {w : Walk} {vs : List Value} {o : RunOutcome} → GoesOver xs w vs o
    → run_from xs w vs ≡ Some o
to_run told.ends = refl
to_run (told.looks {x = x} {xs = xs} {w = w} {vs = vs} label e h) =
    ap (λ (s : Option ℕ). after_line s x (run_from xs) w vs) e ∙ to_run h
to_run (told.passes {label = label} {xs = xs} {w = w} {vs = vs} e h) =
    ap (λ (s : Option ℕ). after_line s (Label label) (run_from xs) w vs) e ∙ to_run h
to_run (told.stops {i = i} {xs = xs} {w = w} e f) =
    ap (λ (s : Option ℕ). after_line s (Does i) (run_from xs) w []) e
    ∙ ap (λ (b : Bool). after_instruction b i (run_from xs) w []) f
to_run (told.loads {i = i} {xs = xs} {w = w} {v = v} {vs = vs} e f l h) =
    ap (λ (s : Option ℕ). after_line s (Does i) (run_from xs) w (v ∷ vs)) e
    ∙ ap (λ (b : Bool). after_instruction b i (run_from xs) w (v ∷ vs)) f
    ∙ ap (λ (b : Bool). after_load b i (takes_branch i w.state) (run_from xs) w (v ∷ vs)) l ∙ to_run h
to_run (told.executes {i = i} {xs = xs} {w = w} {vs = vs} e f l h) =
    ap (λ (s : Option ℕ). after_line s (Does i) (run_from xs) w vs) e
    ∙ ap (λ (b : Bool). after_instruction b i (run_from xs) w vs) f
    ∙ ap (λ (b : Bool). after_load b i (takes_branch i w.state) (run_from xs) w vs) l ∙ to_run h

nothing_is : {o : RunOutcome} → None ≡ Some o → ⊥
nothing_is e = cc

-- one line more, where the rest of the lines is gone over so
module _ (xs : List Line) (o : RunOutcome)
    (rest : (w : Walk) (vs : List Value) → run_from xs w vs ≡ Some o → GoesOver xs w vs o)
    (w : Walk) where
  supply : (i : Instruction) (b : Bool) (us : List Value) → is_load i ≡ b → w.seeking ≡ None
      → is_fault i w.state ≡ false → after_load b i (takes_branch i w.state) (run_from xs) w us ≡ Some o
      → GoesOver (Does i ∷ xs) w us o
  supply i true [] l e f k = absurd (nothing_is k)
  supply i true (v ∷ us) l e f k = told.loads e f l (rest (executing i v w) us k)
  supply i false us l e f k = told.executes e f l (rest (executing i NoValue w) us k)

  obey : (i : Instruction) (b : Bool) (us : List Value) → is_fault i w.state ≡ b → w.seeking ≡ None
      → after_instruction b i (run_from xs) w us ≡ Some o → GoesOver (Does i ∷ xs) w us o
  obey i true [] f e k =
      subst (λ (q : RunOutcome). GoesOver (Does i ∷ xs) w [] q) (same_Some _ _ k) (told.stops e f)
  obey i true (v ∷ us) f e k = absurd (nothing_is k)
  obey i false us f e k = supply i (is_load i) us refl e f k

  line : (y : Line) (vs : List Value) → w.seeking ≡ None → after_line None y (run_from xs) w vs ≡ Some o
      → GoesOver (y ∷ xs) w vs o
  line (Label label) vs e k = told.passes e (rest w vs k)
  line (Does i) vs e k = obey i (is_fault i w.state) vs refl e k

  sought : (x : Line) (vs : List Value) (s : Option ℕ) → w.seeking ≡ s
      → after_line w.seeking x (run_from xs) w vs ≡ Some o → GoesOver (x ∷ xs) w vs o
  sought x vs (Some label) e h =
      told.looks label e (rest (walk_past x label w) vs (sym
      (ap (λ (s : Option ℕ). after_line s x (run_from xs) w vs) e) ∙ h))
  sought x vs None e h = line x vs e (sym (ap (λ (s : Option ℕ). after_line s x (run_from xs) w vs) e) ∙ h)

to_lines : (xs : List Line) (o : RunOutcome) (w : Walk) (vs : List Value) → run_from xs w vs ≡ Some o
    → GoesOver xs w vs o
to_lines [] o w [] h = subst (λ (q : RunOutcome). GoesOver [] w [] q) (same_Some _ _ h) told.ends
to_lines [] o w (v ∷ vs) h = absurd (nothing_is h)
to_lines (x ∷ xs) o w vs h = sought xs o (to_lines xs o) w x vs w.seeking refl h

pub line_by_line : (lines : List Line) (first : State) (values : List Value)
    → GoesLineByLine lines first values
line_by_line lines first values o =
    ((λ h. to_lines lines o (walk_at first) values h), (λ h. to_run h))
