-- What a run stores, the text tells.
use Rattle.std.proofs.Common.{vec_len, ℕ, zero, suc, arith, ◌≡◌, ◌<◌, ◌⊎◌, ◌||◌, inl, inr, Bool, true, false, nat_eq, List, [], ◌∷◌, ◌++◌, refl, sym, ap, subst, ◌∙◌, Option, Some, None, slice_get, slice_index_or, slice_set}
use Rattle.std.specs.List.{list_any, Contains}
use Rattle.std.proofs.lemmas.Bool.Decides.{nat_tests}
use Rattle.std.proofs.lemmas.List.Elements.{Contains-push, Contains-append_left, Contains-append_right, Contains-append_cases}
use Rattle.std.proofs.lemmas.Bool.{or_right, and_from}
use Rattle.std.proofs.lemmas.Option.{same_Some}
use Rattle.thread_runs.specs.declared.value.Value.{Value}
use Rattle.thread_runs.specs.declared.value.Value.TheVariants.{Number, Address, NoValue}
use Rattle.thread_runs.specs.declared.instruction.Instruction.{Instruction}
use Rattle.thread_runs.specs.declared.instruction.Instruction.TheVariants.{Immediate, Move, AddImmediate, Operate, Load, LoadIndexed, Store, StoreIndexed, Compare, CompareImmediate, Branch, Jump, Fence}
use Rattle.thread_runs.specs.declared.instruction.Line.{Line}
use Rattle.thread_runs.specs.declared.instruction.Line.TheVariants.{Label, Does}
use Rattle.thread_runs.specs.declared.instruction.Event.{Event}
use Rattle.thread_runs.specs.declared.instruction.Event.TheVariants as run_event
use Rattle.thread_runs.specs.declared.instruction.Program.{Program}
use Rattle.thread_runs.specs.declared.state.State.{State}
use Rattle.thread_runs.specs.Machine.{state_after, event_of, is_load, is_fault, takes_branch, register, with_register, operated, sum_of}
use Rattle.thread_runs.specs.Runs.{Walk, RunOutcome, walk_at, ends, walk_after, walk_past, after_load, after_instruction, after_line, run_from}
use Rattle.thread_runs.specs.AllRuns.{thread_of}
use Rattle.thread_runs.specs.LocationValues.{MayHold, same_value, line_may_put, may_hold, line_may_store, thread_may_store}
use Rattle.thread_runs.proofs.RunsExact.{contains_one}

nat_same : (n : ℕ) → nat_eq n n ≡ true
nat_same n = grind (arith, nat_tests)

pub value_same : (v : Value) → same_value v v ≡ true
value_same (Number n) = nat_same n
value_same (Address l) = nat_same l
value_same NoValue = refl

pub true_false : {b : Bool} → b ≡ true → b ≡ false → ⊥
true_false t f = cc

no_member : {X : Type 0} (x : X) → Contains [] x → ⊥
no_member x h = let lt = h.1 in omega arith

any_there : {X : Type 0} (f : X → Bool) (xs : List X) (x : X) → Contains xs x → f x ≡ true
    → list_any f xs ≡ true
any_there f [] x c e = absurd (no_member x c)
any_there f (y ∷ xs) x c e = elim (Contains-append_cases (y ∷ []) xs x c) [
  | inl here ↦ ap (λ (b : Bool). b || list_any f xs) (ap f (contains_one y x here) ∙ e)
  | inr there ↦ or_right (f y) (list_any f xs) (any_there f xs x there e)
]

set_or : (xs : List Value) (d : ℕ) (v : Value) (r : ℕ) (z : Value)
    → (slice_index_or (slice_set xs d v) r z ≡ slice_index_or xs r z)
    ⊎ ((d ≡ r) × (slice_index_or (slice_set xs d v) r z ≡ v))
set_or [] d v r z = inl refl
set_or (x ∷ xs) zero v zero z = inr (refl, refl)
set_or (x ∷ xs) zero v (suc r) z = inl refl
set_or (x ∷ xs) (suc d) v zero z = inl refl
set_or (x ∷ xs) (suc d) v (suc r) z =
    elim (set_or xs d v r z) [ inl e ↦ inl e | inr e ↦ inr (ap (λ (n : ℕ). suc n) e.0, e.1) ]

module _ (lines : List Line) (first : State) where
  -- each register holds what the text tells
  abbrev pub Holds : State → Type 0
  Holds s = (r : ℕ) → may_hold lines first r (register s r) ≡ true

  -- and so does what is stored
  abbrev pub Told : List Event → Type 0
  Told es =
      (l : ℕ) (v : Value) → Contains es (run_event.Store (Address l) v)
      → list_any (line_may_store lines first l v) lines ≡ true

  pub first_holds : Holds first
  first_holds r =
      ap (λ (b : Bool). b || list_any (line_may_put r (register first r)) lines)
      (value_same (register first r))

  put : (x : Line) → Contains lines x → (r : ℕ) (v : Value) → line_may_put r v x ≡ true
      → may_hold lines first r v ≡ true
  put x c r v e =
      or_right (same_value (register first r) v) (list_any (line_may_put r v) lines)
      (any_there (line_may_put r v) lines x c e)

  written : (s : State) (d : ℕ) (v : Value) → Holds s → (may_hold lines first d v ≡ true)
      → Holds (with_register s d v)
  written s d v h there r = elim (set_or s.registers d v r (Number 0)) [
    | inl e ↦ ap (λ (u : Value). may_hold lines first r u) e ∙ h r
    | inr e ↦ ap (λ (u : Value). may_hold lines first r u) e.1
        ∙ ap (λ (n : ℕ). may_hold lines first n v) (sym e.0) ∙ there
  ]

  after_holds : (i : Instruction) (v : Value) (s : State) → Contains lines (Does i) → Holds s
      → Holds (state_after i v s)
  after_holds (Immediate d n) v s c h =
      written s d (Number n) h (put (Does (Immediate d n)) c d (Number n)
      (and_from (nat_eq d d) (nat_eq n n) (nat_same d) (nat_same n)))
  after_holds (Move d a) v s c h =
      written s d (register s a) h (put (Does (Move d a)) c d (register s a) (nat_same d))
  after_holds (AddImmediate d a n) v s c h =
      written s d (sum_of (register s a) (Number n)) h (put (Does (AddImmediate d a n)) c d
      (sum_of (register s a) (Number n)) (nat_same d))
  after_holds (Operate o d a b) v s c h =
      written s d (operated o a b s) h (put (Does (Operate o d a b)) c d (operated o a b s)
      (nat_same d))
  after_holds (Load d a) v s c h = written s d v h (put (Does (Load d a)) c d v (nat_same d))
  after_holds (LoadIndexed d a b) v s c h =
      written s d v h (put (Does (LoadIndexed d a b)) c d v (nat_same d))
  after_holds (Store d a) v s c h = h
  after_holds (StoreIndexed d a b) v s c h = h
  after_holds (Compare a b) v s c h = h
  after_holds (CompareImmediate a n) v s c h = h
  after_holds (Branch t l) v s c h = h
  after_holds (Jump l) v s c h = h
  after_holds (Fence f) v s c h = h

  address_is : {a b u v : Value} → run_event.Store a u ≡ run_event.Store b v → a ≡ b
  address_is e = cc

  stored_is : {a b u v : Value} → run_event.Store a u ≡ run_event.Store b v → u ≡ v
  stored_is e = cc

  event_told : (i : Instruction) (v : Value) (s : State) → Contains lines (Does i) → Holds s
      → Told (event_of i v s)
  event_told (Store d a) v s c h = λ l u e.
      let is = contains_one (run_event.Store (register s a) (register s d)) (run_event.Store (Address l) u) e in
      any_there (line_may_store lines first l u) lines (Does (Store d a)) c
      (and_from (may_hold lines first a (Address l)) (may_hold lines first d u)
      (ap (λ (w : Value). may_hold lines first a w) (sym (address_is is)) ∙ h a)
      (ap (λ (w : Value). may_hold lines first d w) (sym (stored_is is)) ∙ h d))
  event_told (StoreIndexed d a b) v s c h = λ l u e.
      let is = contains_one (run_event.Store (sum_of (register s a) (register s b)) (register s d)) (run_event.Store (Address l) u) e in
      any_there (line_may_store lines first l u) lines (Does (StoreIndexed d a b)) c
      (ap (λ (w : Value). may_hold lines first d w) (sym (stored_is is)) ∙ h d)
  event_told (Load d a) v s c h =
      λ l u e.
      absurd (let is = contains_one (run_event.Load (register s a) v) (run_event.Store (Address l) u) e in cc)
  event_told (LoadIndexed d a b) v s c h =
      λ l u e. absurd (
      let is =
      contains_one (run_event.Load (sum_of (register s a) (register s b)) v) (run_event.Store (Address l) u)
      e in
      cc)
  event_told (Fence f) v s c h =
      λ l u e. absurd (let is = contains_one (run_event.Fence f) (run_event.Store (Address l) u) e in cc)
  event_told (Immediate d n) v s c h = λ l u e. absurd (no_member (run_event.Store (Address l) u) e)
  event_told (Move d a) v s c h = λ l u e. absurd (no_member (run_event.Store (Address l) u) e)
  event_told (AddImmediate d a n) v s c h = λ l u e. absurd (no_member (run_event.Store (Address l) u) e)
  event_told (Operate o d a b) v s c h = λ l u e. absurd (no_member (run_event.Store (Address l) u) e)
  event_told (Compare a b) v s c h = λ l u e. absurd (no_member (run_event.Store (Address l) u) e)
  event_told (CompareImmediate a n) v s c h = λ l u e. absurd (no_member (run_event.Store (Address l) u) e)
  event_told (Branch t l) v s c h = λ k u e. absurd (no_member (run_event.Store (Address k) u) e)
  event_told (Jump l) v s c h = λ k u e. absurd (no_member (run_event.Store (Address k) u) e)

  told_more : (es fs : List Event) → Told es → Told fs → Told (es ++ fs)
  told_more es fs h k =
      λ l v c. elim (Contains-append_cases es fs (run_event.Store (Address l) v) c)
      [ inl a ↦ h l v a | inr b ↦ k l v b ]

  -- all that is left of the text
  abbrev Goes : List Line → Type 0
  Goes xs =
      (w : Walk) (vs : List Value) (o : RunOutcome) → Holds w.state → Told w.events
      → run_from xs w vs ≡ Some o → Told o.walk.events

  ends_told : (f : Bool) (w : Walk) (vs : List Value) (o : RunOutcome) → Told w.events
      → ends f w vs ≡ Some o → Told o.walk.events
  ends_told f w [] o t e = subst (λ (q : RunOutcome). Told q.walk.events) (same_Some _ _ e) t
  ends_told f w (v ∷ vs) o t e = absurd cc

  module _ (xs : List Line) (rest : Goes xs) where
    advanced_told : (i : Instruction) (b : Bool) (v : Value) (w : Walk) (vs : List Value)
        (o : RunOutcome) → Contains lines (Does i) → Holds w.state → Told w.events
        → run_from xs (walk_after i b v w) vs ≡ Some o → Told o.walk.events
    advanced_told i b v w vs o c h t e =
        rest (walk_after i b v w) vs o (after_holds i v w.state c h)
        (told_more w.events (event_of i v w.state) t (event_told i v w.state c h)) e

    supplied_told : (l : Bool) (i : Instruction) (b : Bool) (w : Walk) (vs : List Value)
        (o : RunOutcome) → Contains lines (Does i) → Holds w.state → Told w.events
        → after_load l i b (run_from xs) w vs ≡ Some o → Told o.walk.events
    supplied_told true i b w [] o c h t e = absurd cc
    supplied_told true i b w (v ∷ vs) o c h t e = advanced_told i b v w vs o c h t e
    supplied_told false i b w vs o c h t e = advanced_told i b NoValue w vs o c h t e

    obeyed_told : (f : Bool) (i : Instruction) (w : Walk) (vs : List Value) (o : RunOutcome)
        → Contains lines (Does i) → Holds w.state → Told w.events
        → after_instruction f i (run_from xs) w vs ≡ Some o → Told o.walk.events
    obeyed_told true i w vs o c h t e = ends_told true w vs o t e
    obeyed_told false i w vs o c h t e = supplied_told (is_load i) i (takes_branch i w.state) w vs o c h t e

    one_told : (s : Option ℕ) (x : Line) (w : Walk) (vs : List Value) (o : RunOutcome)
        → Contains lines x → Holds w.state → Told w.events → after_line s x (run_from xs) w vs ≡ Some o
        → Told o.walk.events
    one_told (Some l) x w vs o c h t e = rest (walk_past x l w) vs o h t e
    one_told None (Label m) w vs o c h t e = rest w vs o h t e
    one_told None (Does i) w vs o c h t e = obeyed_told (is_fault i w.state) i w vs o c h t e

  pub run_told : (xs : List Line) → ((x : Line) → Contains xs x → Contains lines x) → Goes xs
  run_told [] within w vs o h t e = ends_told false w vs o t e
  run_told (x ∷ xs) within w vs o h t e =
      one_told xs (run_told xs (λ y c. within y (Contains-append_right (x ∷ []) xs y c))) w.seeking
      x w vs o (within x (Contains-append_left (x ∷ []) xs x (Contains-push [] x))) h t e

-- so a location never holds what the text does not tell
pub never_held : (p : Program) (location : ℕ) (initial v : Value)
    → slice_get p.initial.items location ≡ Some initial → same_value initial v ≡ false
    → ((t : ℕ) → t < vec_len p.threads → thread_may_store p location v t ≡ false)
    → MayHold p location v → ⊥
never_held p location initial v there other none (inl e) =
    true_false (value_same v) (ap (λ (u : Value). same_value u v) (sym (some_is (sym there ∙ e)))
    ∙ other)
  where
    some_is : {x y : Value} → Some x ≡ Some y → x ≡ y
    some_is e = cc
never_held p location initial v there other none (inr s) =
    true_false
    (run_told (thread_of p s.0).lines (thread_of p s.0).first (thread_of p s.0).lines (λ x d. d)
    (walk_at (thread_of p s.0).first) s.2 s.3
    (first_holds (thread_of p s.0).lines (thread_of p s.0).first)
    (λ l u d. absurd (no_member (run_event.Store (Address l) u) d)) s.4 location v s.5)
    (none s.0 s.1)
