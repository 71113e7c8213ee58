use Rattle.std.proofs.Common.{◌≡◌, ℕ, zero, suc, ◌+◌, ◌<◌, Bool, true, false, ◌||◌, ◌==◌, List, [], ◌∷◌, ◌++◌, drop, length, slice_set, slice_index_or, Option, Some, None, refl, ap, subst, sym, ◌∙◌, add-one, append_assoc, append-nil, arith}
use Rattle.std.specs.Prelude.{Result, Ok, Err, IfOk}
use Rattle.cells.specs.declared.stage.Stage.{Stage}
use Rattle.cells.specs.declared.stage.Stage.TheVariants.{Waiting, Ran}
use Rattle.cells.specs.Views.{Task, task_answered}
use Rattle.memo_core.specs.declared.claims.Finish.{Finish}
use Rattle.memo_core.specs.Step.{Return as Returning}
use Rattle.memo_core.specs.Run as core
use Rattle.memo_core.specs.Run.{Bench, TextsMeaning, Step}
use Rattle.cells.specs.declared.events.Event.{Event}
use Rattle.cells.specs.declared.events.Reply.{Reply}
use Rattle.cells.specs.Events.{Refusing, task_given, has_claim, IsReturned, IsEventAnswered, AreEventsAnswered}
use Rattle.cells.specs.Stages.{stage_tasks, tasks_in}

or_true : (b : Bool) → (b || false) ≡ true → b ≡ true
or_true true h = refl
or_true false h = h

or_false : (b : Bool) → (b || false) ≡ false → b ≡ false
or_false true h = h
or_false false h = refl

-- an item that is there is the same, whatever stands for one that is not
pub one_item : {X : Type 0} (xs : List X) (i : ℕ) (d e : X) → i < length xs
    → slice_index_or xs i d ≡ slice_index_or xs i e
one_item [] i d e l = absurd (omega arith)
one_item (x ∷ xs) zero d e l = refl
one_item (x ∷ xs) (suc i) d e l = one_item xs i d e (omega arith)

module _ {K T O V G E P F : Type 0} where
  -- the first task of that claim
  pub given_first : (c : ℕ) (j : Option (Stage K T O V G E P F)) (ts : List (Task V G))
      → has_claim c (stage_tasks j) ≡ true
      → (t : Task V G) × (stage_tasks j ≡ t ∷ []) × (task_given c (stage_tasks j ++ ts) ≡ Some t)
  given_first c None ts h = cc
  given_first c (Some (Waiting job)) ts h = (job, refl, rw (or_true (c == job.claim) h) refl)
  given_first c (Some (Ran done)) ts h =
      (task_answered done, refl, rw (or_true (c == done.claim) h) refl)

  given_later : (c : ℕ) (j : Option (Stage K T O V G E P F)) (ts : List (Task V G))
      → has_claim c (stage_tasks j) ≡ false → task_given c (stage_tasks j ++ ts) ≡ task_given c ts
  given_later c None ts h = refl
  given_later c (Some (Waiting job)) ts h = rw (or_false (c == job.claim) h) refl
  given_later c (Some (Ran done)) ts h = rw (or_false (c == done.claim) h) refl

  -- the search goes on behind a job of another claim
  pub given_step : (c : ℕ) (js : List (Option (Stage K T O V G E P F))) (i : ℕ)
      (d : Option (Stage K T O V G E P F)) → i < length js
      → has_claim c (stage_tasks (slice_index_or js i d)) ≡ false
      → task_given c (tasks_in (drop i js)) ≡ task_given c (tasks_in (drop (i + 1) js))
  given_step c [] i d l h = absurd (omega arith)
  given_step c (j ∷ js) zero d l h = given_later c j (tasks_in js) h
  given_step c (j ∷ js) (suc i) d l h =
      rw add-one (rw add-one at (given_step c js i d (omega arith) h))

  -- a job of the claim is the first
  pub given_here : (c : ℕ) (js : List (Option (Stage K T O V G E P F))) (i : ℕ)
      (d : Option (Stage K T O V G E P F)) → i < length js
      → has_claim c (stage_tasks (slice_index_or js i d)) ≡ true
      → (t : Task V G) × (stage_tasks (slice_index_or js i d) ≡ t ∷ [])
      × (task_given c (tasks_in (drop i js)) ≡ Some t)
  given_here c [] i d l h = absurd (omega arith)
  given_here c (j ∷ js) zero d l h = given_first c j (tasks_in js) h
  given_here c (j ∷ js) (suc i) d l h = given_here c js i d (omega arith) h

  -- the same, of jobs that are these others, with the item read twice
  pub given_there : (c : ℕ) (js ks : List (Option (Stage K T O V G E P F))) (i : ℕ)
      (d e : Option (Stage K T O V G E P F)) → js ≡ ks → i < length js
      → has_claim c (stage_tasks (slice_index_or js i d)) ≡ true
      → (t : Task V G) × (stage_tasks (slice_index_or js i e) ≡ t ∷ [])
      × (task_given c (tasks_in (drop i ks)) ≡ Some t)
  given_there c js ks i d e same l h =
      let here = given_here c js i e l (rw (one_item js i d e l) at h) in (
        here.0,
        here.1,
        subst
            (λ (xs : List (Option (Stage K T O V G E P F))). task_given c
            (tasks_in (drop i xs)) ≡ Some here.0) same here.2,
      )

  -- a stage with the same task in its place changes nothing
  pub tasks_set : (js : List (Option (Stage K T O V G E P F))) (i : ℕ)
      (d j : Option (Stage K T O V G E P F)) → i < length js
      → stage_tasks j ≡ stage_tasks (slice_index_or js i d)
      → tasks_in (slice_set js i j) ≡ tasks_in js
  tasks_set [] i d j l h = refl
  tasks_set (k ∷ js) zero d j l h = ap (λ (ts : List (Task V G)). ts ++ tasks_in js) h
  tasks_set (k ∷ js) (suc i) d j l h =
      ap (λ (ts : List (Task V G)). stage_tasks k ++ ts) (tasks_set js i d j (omega arith) h)

  -- a job that is added is the last
  pub tasks_last : (js : List (Option (Stage K T O V G E P F))) (j : Option (Stage K T O V G E P F))
      → tasks_in (js ++ j ∷ []) ≡ tasks_in js ++ stage_tasks j
  tasks_last [] None = refl
  tasks_last [] (Some (Waiting job)) = refl
  tasks_last [] (Some (Ran done)) = refl
  tasks_last (k ∷ js) j =
      ap (λ (ts : List (Task V G)). stage_tasks k ++ ts) (tasks_last js j)
      ∙ sym (append_assoc (stage_tasks k) (tasks_in js) (stage_tasks j))

some_task : {V G : Type 0} (t u : Task V G) → t ∷ [] ≡ u ∷ [] → t ≡ u
some_task t u h = cc

-- what is offered is of the task that was given
pub made_given : {V G F : Type 0} (r : Result (Returning V G) F) (ts : List (Task V G))
    (t : Task V G) (o : Option (Task V G)) → ts ≡ t ∷ [] → o ≡ Some t
    → IfOk r (λ d. ts ≡ task_answered d ∷ []) → IfOk r (λ d. o ≡ Some (task_answered d))
made_given (Ok d) ts t o one is made = is ∙ ap Some (some_task t (task_answered d) (sym one ∙ made))
made_given (Err f) ts t o one is made = tt

-- a return that is offered is one event
pub returned : {T E V G F : Type 0} (means : TextsMeaning T E V G) (refuses : Refusing T E F)
    (last : T → ℕ) (old new : Bench T V) (o : Option (Task V G)) (answer : Finish)
    (r : Returning V G) → o ≡ Some (task_answered r)
    → Step means old (core.Returned r answer) new
    → IsReturned means refuses last old o (Ok answer) new
returned means refuses last old new o answer r h step = rw h (r, refl, step)

-- one event more, with its reply
pub answered_last : {T E V G F : Type 0} (means : TextsMeaning T E V G) (refuses : Refusing T E F)
    (last : T → ℕ) (old mid new : Bench T V) (given later after : List (Task V G))
    (es : List (Event E)) (rs : List (Reply F)) (e : Event E) (r : Reply F)
    → AreEventsAnswered means refuses last old given es rs mid later
    → IsEventAnswered means refuses last mid later e r new after
    → AreEventsAnswered means refuses last old given (es ++ e ∷ []) (rs ++ r ∷ []) new after
answered_last means refuses last old mid new given later after [] [] e r h a =
    (new, after, (rw (h.0, h.1) at a), (refl, refl))
answered_last means refuses last old mid new given later after [] (x ∷ rs) e r h a = absurd h
answered_last means refuses last old mid new given later after (x ∷ es) [] e r h a = absurd h
answered_last means refuses last old mid new given later after (x ∷ es) (y ∷ rs) e r h a =
    (h.0, h.1, h.2, answered_last means refuses last h.0 mid new h.1 later after es rs e r h.3 a)

pub length_last : {X : Type 0} (xs : List X) (x : X) → length (xs ++ x ∷ []) ≡ length xs + 1
length_last [] x = refl
length_last (y ∷ xs) x = omega (arith, length_last xs x)

pub no_items : {X : Type 0} (xs : List X) → length xs ≡ 0 → xs ≡ []
no_items [] l = refl
no_items (x ∷ xs) l = absurd (omega arith)

-- one event more is taken from the rest
pub rest_step : {X : Type 0} (xs rest later : List X) (x : X) → rest ≡ x ∷ later
    → xs ++ rest ≡ (xs ++ x ∷ []) ++ later
rest_step {X} xs rest later x is =
    ap (λ (ys : List X). xs ++ ys) is ∙ sym (append_assoc xs (x ∷ []) later)

pub rest_total : {X : Type 0} (rest later : List X) (x : X) (n all : ℕ) → rest ≡ x ∷ later
    → n + length rest ≡ all → (n + 1) + length later ≡ all
rest_total {X} rest later x n all is h =
    let l : length rest ≡ suc (length later) = ap (λ (ys : List X). length ys) is in
    omega (arith, l, h)

-- at the end there is no rest
pub rest_end : {X : Type 0} (xs rest : List X) → length rest ≡ 0 → xs ++ rest ≡ xs
rest_end xs [] l = append-nil xs
rest_end xs (x ∷ rest) l = absurd (omega (arith, l))
