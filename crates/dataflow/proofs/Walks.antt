-- A run, and a free run that makes the same choices.
use Rattle.std.proofs.Common.{ℕ, zero, suc, ◌≡◌, ◌<◌, inl, inr, Bool, true, false, List, [], ◌∷◌, ◌++◌, length, get_or, refl, sym, ap, subst, ◌∙◌, arith, Option, Some, None, IsTrue}
use Rattle.std.specs.List.{All}
use Rattle.std.proofs.lemmas.Bool.{cases_lt, false≢true}
use Rattle.std.proofs.lemmas.List.{length-append, get_or_append_left}
use Rattle.std.proofs.lemmas.List.Elements.{All-cons}
use Rattle.std.proofs.Math.Seq.{get_or-append_seam}
use Rattle.thread_runs.specs.declared.value.Value.{Value}
use Rattle.thread_runs.specs.declared.value.Value.TheVariants.{NoValue}
use Rattle.thread_runs.specs.declared.instruction.Instruction.{Instruction}
use Rattle.thread_runs.specs.declared.instruction.Instruction.TheVariants.{Immediate, Move, AddImmediate, Operate, Load, LoadIndexed, Store, StoreIndexed, Compare, CompareImmediate, Branch, Jump, Fence}
use Rattle.thread_runs.specs.declared.instruction.Line.{Line}
use Rattle.thread_runs.specs.declared.instruction.Line.TheVariants.{Label, Does}
use Rattle.thread_runs.specs.declared.instruction.RunStep.{RunStep}
use Rattle.thread_runs.specs.declared.instruction.Event.{Event}
use Rattle.thread_runs.specs.declared.state.State.{State}
use Rattle.thread_runs.specs.Machine.{state_after, event_of, is_load, is_branch, is_fault, takes_branch}
use Rattle.thread_runs.specs.Runs.{Walk, RunOutcome, walk_at, ended, walk_after, walk_past, after_load, after_instruction, after_line, ends, run_from, free_from, after_free_instruction, after_free_line, no_step, executed, loaded_at}
use Rattle.taints.specs.Chains.{Executed}
use Rattle.taints.specs.Law.{state_at, events_before, IsWalkFrom, IsPicked}
use Rattle.thread_runs.proofs.FreeStores.{step_of}

-- only what stands before the place counts
pub state_prefix : (f g : Executed) (l m : ℕ → Value) (s : State) (n : ℕ)
    → ((k : ℕ) → k < n → f k ≡ g k) → ((k : ℕ) → k < n → l k ≡ m k)
    → state_at f l s n ≡ state_at g m s n
state_prefix f g l m s zero same loaded_same = refl
state_prefix f g l m s (suc n) same loaded_same =
    let i : f n ≡ g n = same n (omega arith) in
    let v : l n ≡ m n = loaded_same n (omega arith) in
    let t : state_at f l s n ≡ state_at g m s n = state_prefix f g l m s n (λ k lt. same k (omega arith)) (λ k lt. loaded_same k (omega arith)) in
    cc

pub events_prefix : (f g : Executed) (l m : ℕ → Value) (s : State) (n : ℕ)
    → ((k : ℕ) → k < n → f k ≡ g k) → ((k : ℕ) → k < n → l k ≡ m k)
    → events_before f l s n ≡ events_before g m s n
events_prefix f g l m s zero same loaded_same = refl
events_prefix f g l m s (suc n) same loaded_same =
    let i : f n ≡ g n = same n (omega arith) in
    let v : l n ≡ m n = loaded_same n (omega arith) in
    let t : state_at f l s n ≡ state_at g m s n = state_prefix f g l m s n (λ k lt. same k (omega arith)) (λ k lt. loaded_same k (omega arith)) in
    let e : events_before f l s n ≡ events_before g m s n = events_prefix f g l m s n (λ k lt. same k (omega arith)) (λ k lt. loaded_same k (omega arith)) in
    cc

step_kept : (xs : List RunStep) (x : RunStep) (k : ℕ) → k < length xs
    → get_or (xs ++ x ∷ []) k no_step ≡ get_or xs k no_step
step_kept xs x k lt = get_or_append_left xs (x ∷ []) no_step k lt

step_new : (xs : List RunStep) (x : RunStep) → get_or (xs ++ x ∷ []) (length xs) no_step ≡ x
step_new xs x = get_or-append_seam xs x [] no_step

length_push : (xs : List RunStep) (x : RunStep) → length (xs ++ x ∷ []) ≡ suc (length xs)
length_push xs x = omega (arith, length-append xs (x ∷ []))

-- one instruction more
state_push : (xs : List RunStep) (x : RunStep) (s : State)
    → state_at (executed (xs ++ x ∷ [])) (loaded_at (xs ++ x ∷ [])) s (length (xs ++ x ∷ []))
    ≡ state_after x.instruction x.loaded (state_at (executed xs) (loaded_at xs) s (length xs))
state_push xs x s =
    rw (length_push xs x)
    (let i = step_new xs x in
    let t = state_prefix (executed (xs ++ x ∷ [])) (executed xs) (loaded_at (xs ++ x ∷ [])) (loaded_at xs) s (length xs)
    (λ k lt. ap (λ (y : RunStep). y.instruction) (step_kept xs x k lt))
    (λ k lt. ap (λ (y : RunStep). y.loaded) (step_kept xs x k lt)) in
    cc)

events_push : (xs : List RunStep) (x : RunStep) (s : State)
    → events_before (executed (xs ++ x ∷ [])) (loaded_at (xs ++ x ∷ [])) s (length (xs ++ x ∷ []))
    ≡ events_before (executed xs) (loaded_at xs) s (length xs)
    ++ event_of x.instruction x.loaded (state_at (executed xs) (loaded_at xs) s (length xs))
events_push xs x s =
    rw (length_push xs x)
    (let i = step_new xs x in
    let t = state_prefix (executed (xs ++ x ∷ [])) (executed xs) (loaded_at (xs ++ x ∷ [])) (loaded_at xs) s (length xs)
    (λ k lt. ap (λ (y : RunStep). y.instruction) (step_kept xs x k lt))
    (λ k lt. ap (λ (y : RunStep). y.loaded) (step_kept xs x k lt)) in
    let e = events_prefix (executed (xs ++ x ∷ [])) (executed xs) (loaded_at (xs ++ x ∷ [])) (loaded_at xs) s (length xs)
    (λ k lt. ap (λ (y : RunStep). y.instruction) (step_kept xs x k lt))
    (λ k lt. ap (λ (y : RunStep). y.loaded) (step_kept xs x k lt)) in
    cc)

pub IsWalk-advanced : (s : State) (i : Instruction) (b : Bool) (v : Value) (w : Walk) → IsWalkFrom s w
    → IsWalkFrom s (walk_after i b v w)
IsWalk-advanced s i b v w x = record {
  state =
      ap (state_after i v) x.state ∙ sym (state_push w.steps (record { instruction = i; loaded = v }) s);
  events = ap (λ (e : List Event). e ++ event_of i v w.state) x.events
      ∙ ap
      (λ (t : State). events_before (executed w.steps) (loaded_at w.steps) s (length w.steps)
      ++ event_of i v t) x.state
      ∙ sym (events_push w.steps (record { instruction = i; loaded = v }) s);
}

IsWalk-passed : (s : State) (x : Line) (l : ℕ) (w : Walk) → IsWalkFrom s w → IsWalkFrom s (walk_past x l w)
IsWalk-passed s x l w y = record { state = y.state; events = y.events }

pub IsWalk-started : (s : State) → IsWalkFrom s (walk_at s)
IsWalk-started s = record { state = refl; events = refl }

-- what is picked stays so, as both go on
IsPicked-advanced : (pick : ℕ → Value) (w u : Walk) (i : Instruction) (b c : Bool) (v : Value)
    → length u.steps ≡ length w.steps → IsPicked pick w u
    → (x : Value) → (IsTrue (is_load i) → x ≡ pick (length w.steps))
    → IsPicked pick (walk_after i b v w) (walk_after i c x u)
IsPicked-advanced pick w u i b c v long p x own = record {
  long = omega (arith, length_push w.steps (step_of i v), length_push u.steps (step_of i x), long);
  same = λ n lt. elim (cases_lt n (length w.steps)) [
    | inl before ↦
        ap (λ (y : RunStep). y.instruction)
        (step_kept u.steps (step_of i x) n (omega (arith, long))) ∙ p.same n before
        ∙ sym (ap (λ (y : RunStep). y.instruction) (step_kept w.steps (step_of i v) n before))
    | inr ge ↦
        let here : n ≡ length w.steps = omega (arith, length_push w.steps (step_of i v)) in
        let there : n ≡ length u.steps = here ∙ sym long in
        ap (λ (y : RunStep). y.instruction) (subst
        (λ (k : ℕ). get_or (u.steps ++ (step_of i x) ∷ []) k no_step ≡ (step_of i x))
        (sym there) (step_new u.steps (step_of i x)))
        ∙ sym (ap (λ (y : RunStep). y.instruction) (subst
        (λ (k : ℕ). get_or (w.steps ++ (step_of i v) ∷ []) k no_step ≡ (step_of i v))
        (sym here) (step_new w.steps (step_of i v))))
  ];
  picked = λ n lt load. elim (cases_lt n (length w.steps)) [
    | inl before ↦
        ap (λ (y : RunStep). y.loaded) (step_kept u.steps (step_of i x) n (omega (arith, long)))
        ∙ p.picked n before (subst (λ (y : RunStep). IsTrue (is_load y.instruction))
        (step_kept w.steps (step_of i v) n before) load)
    | inr ge ↦
        let here : n ≡ length w.steps = omega (arith, length_push w.steps (step_of i v)) in
        let there : n ≡ length u.steps = here ∙ sym long in
        let at_end : get_or (w.steps ++ (step_of i v) ∷ []) n no_step ≡ step_of i v = subst (λ (k : ℕ). get_or (w.steps ++ (step_of i v) ∷ []) k no_step ≡ (step_of i v)) (sym here) (step_new w.steps (step_of i v)) in
        ap (λ (y : RunStep). y.loaded) (subst
        (λ (k : ℕ). get_or (u.steps ++ (step_of i x) ∷ []) k no_step ≡ (step_of i x))
        (sym there) (step_new u.steps (step_of i x)))
        ∙ own (subst (λ (y : RunStep). IsTrue (is_load y.instruction)) at_end load)
        ∙ ap pick (sym here)
  ];
}

-- and also where only the second goes on
IsPicked-longer : (pick : ℕ → Value) (w u : Walk) (i : Instruction) (c : Bool) (x : Value)
    → IsPicked pick w u → IsPicked pick w (walk_after i c x u)
IsPicked-longer pick w u i c x p = record {
  long = omega (arith, length_push u.steps (record { instruction = i; loaded = x }), p.long);
  same =
      λ n lt. ap (λ (y : RunStep). y.instruction) (step_kept u.steps
      (record { instruction = i; loaded = x }) n (omega (arith, p.long))) ∙ p.same n lt;
  picked =
      λ n lt load. ap (λ (y : RunStep). y.loaded) (step_kept u.steps
      (record { instruction = i; loaded = x }) n (omega (arith, p.long)))
      ∙ p.picked n lt load;
}

IsPicked-passed : (pick : ℕ → Value) (w u : Walk) (x : Line) (l : ℕ) → IsPicked pick w u
    → IsPicked pick w (walk_past x l u)
IsPicked-passed pick w u x l p = record { long = p.long; same = p.same; picked = p.picked }

IsPicked-both_passed : (pick : ℕ → Value) (w u : Walk) (x : Line) (l : ℕ) → IsPicked pick w u
    → IsPicked pick (walk_past x l w) (walk_past x l u)
IsPicked-both_passed pick w u x l p = record { long = p.long; same = p.same; picked = p.picked }

not_gone : (i : Instruction) (s : State) → is_branch i ≡ false → takes_branch i s ≡ false
not_gone (Immediate d n) s e = refl
not_gone (Move d a) s e = refl
not_gone (AddImmediate d a n) s e = refl
not_gone (Operate o d x y) s e = refl
not_gone (Load d a) s e = refl
not_gone (LoadIndexed d x y) s e = refl
not_gone (Store d a) s e = refl
not_gone (StoreIndexed d x y) s e = refl
not_gone (Compare x y) s e = refl
not_gone (CompareImmediate a n) s e = refl
not_gone (Branch k l) s e = absurd cc
not_gone (Jump l) s e = refl
not_gone (Fence f) s e = refl

abbrev pub Free : Type 0
Free = List Bool → List Value → Option RunOutcome

-- a free run with allowed values that begins as the walk, with picked values
pub record Followed (P : Value → Type 0) (pick : ℕ → Value) (s : State) (w : Walk) (go : Free)
    : Type 0 where
  pub choices : List Bool
  pub values : List Value
  pub allowed : All P values
  pub outcome : RunOutcome
  pub free : go choices values ≡ Some outcome
  pub walk : IsWalkFrom s outcome.walk
  pub picked : IsPicked pick w outcome.walk

module _ (P : Value → Type 0) (pick : ℕ → Value) (s : State) (allowed : (n : ℕ) → P (pick n)) where
  -- a load takes a value that is allowed
  supply_load : (i : Instruction) (c : Bool) (xs : List Line) (w u : Walk) (n : ℕ)
      → Followed P pick s w (free_from xs (walk_after i c (pick n) u))
      → Followed P pick s w (λ bs vs. after_load true i c (λ a us. free_from xs a bs us) u vs)
  supply_load i c xs w u n f = record {
    choices = f.choices;
    values = pick n ∷ f.values;
    allowed = All-cons P (pick n) f.values (allowed n) f.allowed;
    outcome = f.outcome;
    free = f.free;
    walk = f.walk;
    picked = f.picked;
  }

  -- a branch takes a choice
  choose : (br : Bool) (i : Instruction) (c : Bool) (xs : List Line) (w u : Walk)
      → (br ≡ false → c ≡ false)
      → Followed P pick s w (λ bs vs. after_load (is_load i) i c (λ a us. free_from xs a bs us) u vs)
      → Followed P pick s w (λ bs vs. after_free_instruction br i (free_from xs) u bs vs)
  choose true i c xs w u not f = record {
    choices = c ∷ f.choices;
    values = f.values;
    allowed = f.allowed;
    outcome = f.outcome;
    free = f.free;
    walk = f.walk;
    picked = f.picked;
  }
  choose false i c xs w u not f =
      subst
      (λ (b : Bool). Followed P pick s w (λ bs vs.
      after_load (is_load i) i b (λ a us. free_from xs a bs us) u vs))
      (not refl) f

  abbrev Completes : List Line → Type 0
  Completes xs =
      (w u : Walk) → IsWalkFrom s u → IsPicked pick w u → Followed P pick s w (free_from xs u)

  complete_supplied : (ld : Bool) (i : Instruction) (xs : List Line) → Completes xs → (w u : Walk)
      → IsWalkFrom s u → IsPicked pick w u
      → Followed P pick s w (λ bs vs. after_load ld i false (λ a us. free_from xs a bs us) u vs)
  complete_supplied true i xs ih w u x p =
      supply_load i false xs w u 0 (ih w (walk_after i false (pick 0) u)
      (IsWalk-advanced s i false (pick 0) u x)
      (IsPicked-longer pick w u i false (pick 0) p))
  complete_supplied false i xs ih w u x p =
      ih w (walk_after i false NoValue u) (IsWalk-advanced s i false NoValue u x)
      (IsPicked-longer pick w u i false NoValue p)

  complete_one : (sk : Option ℕ) (y : Line) (xs : List Line) → Completes xs → (w u : Walk)
      → IsWalkFrom s u → IsPicked pick w u
      → Followed P pick s w (λ bs vs. after_free_line sk y (free_from xs) u bs vs)
  complete_one (Some l) y xs ih w u x p =
      ih w (walk_past y l u) (IsWalk-passed s y l u x) (IsPicked-passed pick w u y l p)
  complete_one None (Label m) xs ih w u x p = ih w u x p
  complete_one None (Does i) xs ih w u x p =
      choose (is_branch i) i false xs w u (λ e. refl)
      (complete_supplied (is_load i) i xs ih w u x p)

  -- a free run goes on from anywhere
  complete : (xs : List Line) → Completes xs
  complete [] w u x p =
      record {
        choices = [];
        values = [];
        allowed = λ k d lt. absurd (omega arith);
        outcome = ended false u;
        free = refl;
        walk = x;
        picked = p;
      }
  complete (y ∷ ys) w u x p = complete_one u.seeking y ys (complete ys) w u x p

  abbrev Follows : List Line → Type 0
  Follows xs = (w u : Walk) (vs : List Value) (r : RunOutcome) → run_from xs w vs ≡ Some r
      → IsWalkFrom s u → u.seeking ≡ w.seeking → length u.steps ≡ length w.steps → IsPicked pick w u
      → Followed P pick s r.walk (free_from xs u)

  push_both : (w u : Walk) (i : Instruction) (b : Bool) (v x : Value)
      → length u.steps ≡ length w.steps
      → length (walk_after i b x u).steps ≡ length (walk_after i b v w).steps
  push_both w u i b v x long =
      omega (arith, length_push u.steps (step_of i x), length_push w.steps (step_of i v), long)

  follow_supplied : (ld : Bool) (i : Instruction) (b : Bool) (xs : List Line) → is_load i ≡ ld
      → Follows xs
      → (w u : Walk) (vs : List Value) (r : RunOutcome) → after_load ld i b (run_from xs) w vs ≡ Some r
      → IsWalkFrom s u → length u.steps ≡ length w.steps → IsPicked pick w u
      → Followed P pick s r.walk (λ bs us. after_load ld i b (λ a zs. free_from xs a bs zs) u us)
  follow_supplied true i b xs is ih w u [] r e x long p = absurd cc
  follow_supplied true i b xs is ih w u (v ∷ vs) r e x long p =
      supply_load i b xs r.walk u (length w.steps)
      (ih (walk_after i b v w) (walk_after i b (pick (length w.steps)) u) vs r e
      (IsWalk-advanced s i b (pick (length w.steps)) u x) refl
      (push_both w u i b v (pick (length w.steps)) long)
      (IsPicked-advanced pick w u i b b v long p (pick (length w.steps)) (λ _. refl)))
  follow_supplied false i b xs is ih w u vs r e x long p =
      ih (walk_after i b NoValue w) (walk_after i b NoValue u) vs r e
      (IsWalk-advanced s i b NoValue u x) refl (push_both w u i b NoValue NoValue long)
      (IsPicked-advanced pick w u i b b NoValue long p NoValue
      (λ load. absurd (false≢true (sym is ∙ load))))

  same_end : (f : Bool) (w : Walk) (vs : List Value) (r : RunOutcome) → ends f w vs ≡ Some r
      → w ≡ r.walk
  same_end f w [] r e = ap (λ (o : RunOutcome). o.walk) (inside e)
    where
      inside : {a b : RunOutcome} → Some a ≡ Some b → a ≡ b
      inside e = cc
  same_end f w (v ∷ vs) r e = absurd cc

  follow_obeyed : (ft : Bool) (i : Instruction) (xs : List Line) → Follows xs
      → (w u : Walk) (vs : List Value) (r : RunOutcome) → after_instruction ft i (run_from xs) w vs ≡ Some r
      → IsWalkFrom s u → length u.steps ≡ length w.steps → IsPicked pick w u
      → Followed P pick s r.walk (λ bs us. after_free_instruction (is_branch i) i (free_from xs) u bs us)
  follow_obeyed true i xs ih w u vs r e x long p =
      subst
      (λ (a : Walk).
      Followed P pick s a (λ bs us. after_free_instruction (is_branch i) i (free_from xs) u bs us))
      (same_end true w vs r e)
      (complete_one None (Does i) xs (complete xs) w u x p)
  follow_obeyed false i xs ih w u vs r e x long p =
      choose (is_branch i) i (takes_branch i w.state) xs r.walk u (not_gone i w.state)
      (follow_supplied (is_load i) i (takes_branch i w.state) xs refl ih w u vs r e x long p)

  follow_one : (sk : Option ℕ) (y : Line) (xs : List Line) → Follows xs
      → (w u : Walk) (vs : List Value) (r : RunOutcome) → after_line sk y (run_from xs) w vs ≡ Some r
      → IsWalkFrom s u → u.seeking ≡ w.seeking → length u.steps ≡ length w.steps → IsPicked pick w u
      → Followed P pick s r.walk (λ bs us. after_free_line sk y (free_from xs) u bs us)
  follow_one (Some l) y xs ih w u vs r e x seek long p =
      ih (walk_past y l w) (walk_past y l u) vs r e (IsWalk-passed s y l u x) refl long
      (IsPicked-both_passed pick w u y l p)
  follow_one None (Label m) xs ih w u vs r e x seek long p = ih w u vs r e x seek long p
  follow_one None (Does i) xs ih w u vs r e x seek long p =
      follow_obeyed (is_fault i w.state) i xs ih w u vs r e x long p

  -- a free run goes as the run goes, with other values
  pub follow : (xs : List Line) → Follows xs
  follow [] w u vs r e x seek long p =
      record {
        choices = [];
        values = [];
        allowed = λ k d lt. absurd (omega arith);
        outcome = ended false u;
        free = refl;
        walk = x;
        picked = subst (λ (a : Walk). IsPicked pick a u) (same_end false w vs r e) p;
      }
  follow (y ∷ ys) w u vs r e x seek long p =
      subst
      (λ (sk : Option ℕ).
      Followed P pick s r.walk (λ bs us. after_free_line sk y (free_from ys) u bs us))
      (sym seek)
      (follow_one w.seeking y ys (follow ys) w u vs r e x seek long p)
