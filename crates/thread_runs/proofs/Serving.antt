-- The runs that are left out have a load of what its location never holds.
use Rattle.std.proofs.Common.{Vec, ℕ, ◌≡◌, Bool, true, false, List, [], ◌∷◌, ◌++◌, map, refl, sym, ap, subst, ◌∙◌, Option, Some, None, slice_get, if◌then◌else◌, inl, inr}
use Rattle.std.specs.List.{flat_map, Contains, AllPairs}
use Rattle.std.specs.declared.alloc.Global.{Global}
use Rattle.std.proofs.lemmas.List.{append-nil}
use Rattle.std.proofs.lemmas.List.Elements.{Contains-push, Contains-append_left, Contains-append_right, Contains-append_cases}
use Rattle.thread_runs.specs.declared.value.Value.{Value}
use Rattle.thread_runs.specs.declared.value.Value.TheVariants.{Number, Address, NoValue}
use Rattle.thread_runs.specs.declared.instruction.Instruction.{Instruction}
use Rattle.thread_runs.specs.declared.instruction.Instruction.TheVariants.{Immediate, Move, AddImmediate, Operate, Load, LoadIndexed, Store, StoreIndexed, Compare, CompareImmediate, Branch, Jump, Fence}
use Rattle.thread_runs.specs.declared.instruction.Line.{Line}
use Rattle.thread_runs.specs.declared.instruction.Line.TheVariants.{Label, Does}
use Rattle.thread_runs.specs.declared.instruction.Event.{Event}
use Rattle.thread_runs.specs.declared.instruction.Event.TheVariants as run_event
use Rattle.thread_runs.specs.declared.instruction.Program.{Program}
use Rattle.thread_runs.specs.declared.state.State.{State}
use Rattle.thread_runs.specs.declared.run.Run as made
use Rattle.thread_runs.specs.Machine.{address_of, event_of, is_load, is_fault}
use Rattle.thread_runs.specs.Runs.{IsLess}
use Rattle.thread_runs.specs.AllRuns.{Beginning, beginning_at, gone_over, beginning_past, over_instruction, executes, with_load, next, all_from, values_or, served, all_over, whole, run_shown, shown_run, shown_whole, thread_of}
use Rattle.thread_runs.specs.LocationValues.{MayHold, AreLeft, none, stays, goes, AreLocationValues, IsUnserved, ShowsServed}
use Rattle.thread_runs.proofs.RunsExact.{contains_one, one_contains, flat_map_contains, map_contains, map_twice, are_runs}

-- lists of which some are left out
pub all_stay : {X : Type 0} (Out : X → Type 0) (xs : List X) → AreLeft Out xs xs
all_stay Out [] = none
all_stay Out (x ∷ xs) = stays (all_stay Out xs)

pub all_go : {X : Type 0} (Out : X → Type 0) (xs : List X) → ((x : X) → Contains xs x → Out x)
    → AreLeft Out xs []
all_go Out [] each = none
all_go Out (x ∷ xs) each =
    goes (each x (Contains-append_left (x ∷ []) xs x (Contains-push [] x)))
    (all_go Out xs (λ y c. each y (Contains-append_right (x ∷ []) xs y c)))

pub left_append : {X : Type 0} (Out : X → Type 0) (xs us ys vs : List X) → AreLeft Out xs ys
    → AreLeft Out us vs → AreLeft Out (xs ++ us) (ys ++ vs)
left_append Out [] us ys vs none k = k
left_append Out (x ∷ xs) us ys vs (stays {ys = zs} h) k = stays (left_append Out xs us zs vs h k)
left_append Out (x ∷ xs) us ys vs (goes q h) k = goes q (left_append Out xs us ys vs h k)

pub one_stays : {X : Type 0} (Out : X → Type 0) (xs ys : List X) (x : X) → AreLeft Out xs ys
    → AreLeft Out (xs ++ x ∷ []) (ys ++ x ∷ [])
one_stays Out xs ys x h = left_append Out xs (x ∷ []) ys (x ∷ []) h (stays none)

pub one_goes : {X : Type 0} (Out : X → Type 0) (xs ys : List X) (x : X) → AreLeft Out xs ys → Out x
    → AreLeft Out (xs ++ x ∷ []) ys
one_goes {X} Out xs ys x h q =
    subst (λ (zs : List X). AreLeft Out (xs ++ x ∷ []) zs) (append-nil ys)
    (left_append Out xs (x ∷ []) ys [] h (goes q none))

pub left_more : {X : Type 0} (P Q : X → Type 0) → ((x : X) → P x → Q x) → (xs ys : List X)
    → AreLeft P xs ys → AreLeft Q xs ys
left_more P Q more [] ys none = none
left_more P Q more (x ∷ xs) ys (stays {ys = zs} h) = stays (left_more P Q more xs zs h)
left_more P Q more (x ∷ xs) ys (goes q h) = goes (more x q) (left_more P Q more xs ys h)

pub left_map : {X Y : Type 0} (P : X → Type 0) (Q : Y → Type 0) (f : X → Y)
    → ((x : X) → P x → Q (f x)) → (xs ys : List X) → AreLeft P xs ys
    → AreLeft Q (map f xs) (map f ys)
left_map P Q f more [] ys none = none
left_map P Q f more (x ∷ xs) ys (stays {ys = zs} h) = stays (left_map P Q f more xs zs h)
left_map P Q f more (x ∷ xs) ys (goes q h) = goes (more x q) (left_map P Q f more xs ys h)

pub left_contains : {X : Type 0} (Out : X → Type 0) (xs ys : List X) → AreLeft Out xs ys → (y : X)
    → Contains ys y → Contains xs y
left_contains Out [] ys none y c = c
left_contains {X} Out (x ∷ xs) ys (stays {ys = zs} h) y c =
    elim (Contains-append_cases (x ∷ []) zs y c) [
      | inl here ↦ Contains-append_left (x ∷ []) xs y here
      | inr there ↦ Contains-append_right (x ∷ []) xs y (left_contains Out xs zs h y there)
    ]
left_contains Out (x ∷ xs) ys (goes q h) y c =
    Contains-append_right (x ∷ []) xs y (left_contains Out xs ys h y c)

-- an event that a beginning has stays
load_event : (i : Instruction) (v : Value) (s : State) → is_load i ≡ true
    → event_of i v s ≡ run_event.Load (address_of i s) v ∷ []
load_event (Load d a) v s e = refl
load_event (LoadIndexed d a b) v s e = refl
load_event (Immediate d n) v s e = absurd cc
load_event (Move d a) v s e = absurd cc
load_event (AddImmediate d a n) v s e = absurd cc
load_event (Operate o d a b) v s e = absurd cc
load_event (Store d a) v s e = absurd cc
load_event (StoreIndexed d a b) v s e = absurd cc
load_event (Compare a b) v s e = absurd cc
load_event (CompareImmediate a n) v s e = absurd cc
load_event (Branch c l) v s e = absurd cc
load_event (Jump l) v s e = absurd cc
load_event (Fence f) v s e = absurd cc

module _ (e : Event) where
  abbrev Has : Beginning → Type 0
  Has b = Contains b.walk.events e

  over_has : (x : Line) (b : Beginning) → Has b → Has (gone_over x b)
  over_has x b h = go b.stopped
    where
      does : (i : Instruction) (f : Bool) → Has (over_instruction f i b)
      does i true = h
      does i false = Contains-append_left b.walk.events (event_of i NoValue b.walk.state) e h

      line : (o : Option ℕ) (y : Line) → Has (beginning_past o y b)
      line (Some l) y = h
      line None (Label m) = h
      line None (Does i) = does i (is_fault i b.walk.state)

      go : (s : Bool) → Has (if s then b else beginning_past b.walk.seeking x b)
      go true = h
      go false = line b.walk.seeking x

  one_has : (x : Line) (b a : Beginning) → Has b → Contains (gone_over x b ∷ []) a → Has a
  one_has x b a h c = subst Has (contains_one (gone_over x b) a c) (over_has x b h)

  next_has : (V : List Value) (x : Line) (b a : Beginning) → Has b → Contains (next V x b) a → Has a
  next_has V (Label m) b a h c = one_has (Label m) b a h c
  next_has V (Does i) b a h c = go (is_load i) (executes i b) c
    where
      go : (ld ex : Bool)
          → Contains
          (if ld then (if ex then map (with_load i b) V else gone_over (Does i) b ∷ [])
          else gone_over (Does i) b ∷ []) a → Has a
      go true true d =
          let (v, within, is) = map_contains (with_load i b) V a d in
          subst Has is (Contains-append_left b.walk.events (event_of i v b.walk.state) e h)
      go true false d = one_has (Does i) b a h d
      go false ex d = one_has (Does i) b a h d

  pub all_have : (V : List Value) (xs : List Line) (b c : Beginning) → Has b
      → Contains (all_from V xs b) c → Has c
  all_have V [] b c h d = subst Has (contains_one b c d) h
  all_have V (x ∷ xs) b c h d =
      let (a, within, found) = flat_map_contains (all_from V xs) (next V x b) c d in
      all_have V xs a c (next_has V x b a h within) found

module _ (p : Program) (V : List Value) (held : List (Vec Value Global)) (are : AreLocationValues p V held)
  where
    -- what a load of the address does not take
    abbrev IsOut : Value → Value → Type 0
    IsOut a v = (location : ℕ) × (a ≡ Address location) × (MayHold p location v → ⊥)

    served_left : (a : Value) → AreLeft (IsOut a) V (served V held a)
    served_left (Number n) = all_stay (IsOut (Number n)) V
    served_left NoValue = all_stay (IsOut NoValue) V
    served_left (Address l) = go (slice_get held l) refl
      where
        go : (o : Option (Vec Value Global)) → slice_get held l ≡ o
            → AreLeft (IsOut (Address l)) V (values_or V o)
        go None e = all_stay (IsOut (Address l)) V
        go (Some vs) e =
            left_more (λ v. MayHold p l v → ⊥) (IsOut (Address l)) (λ v never. (l, refl, never)) V
            vs.items (are l vs e)

    abbrev Unserved : Beginning → Type 0
    Unserved b =
        (location : ℕ) × (v : Value) × Contains b.walk.events (run_event.Load (Address location) v)
        × (MayHold p location v → ⊥)

    all_unserved : (xs : List Line) (b : Beginning) → Unserved b
        → AreLeft Unserved (all_from V xs b) []
    all_unserved xs b u =
        all_go Unserved (all_from V xs b) (λ c d.
        (u.0, u.1, all_have (run_event.Load (Address u.0) u.1) V xs b c u.2 d, u.3))

    loads_left : (i : Instruction) (xs : List Line) (b : Beginning) → is_load i ≡ true
        → ((a : Beginning) → AreLeft Unserved (all_from V xs a) (all_over V held xs a))
        → (us ws : List Value) → AreLeft (IsOut (address_of i b.walk.state)) us ws
        → AreLeft Unserved (flat_map (all_from V xs) (map (with_load i b) us))
        (flat_map (all_over V held xs) (map (with_load i b) ws))
    loads_left i xs b ld ih [] ws none = none
    loads_left i xs b ld ih (u ∷ us) ws (stays {ys = zs} h) =
        left_append Unserved (all_from V xs (with_load i b u))
        (flat_map (all_from V xs) (map (with_load i b) us)) (all_over V held xs (with_load i b u))
        (flat_map (all_over V held xs) (map (with_load i b) zs))
        (ih (with_load i b u)) (loads_left i xs b ld ih us zs h)
    loads_left i xs b ld ih (u ∷ us) ws (goes q h) =
        left_append Unserved (all_from V xs (with_load i b u))
        (flat_map (all_from V xs) (map (with_load i b) us)) []
        (flat_map (all_over V held xs) (map (with_load i b) ws))
        (all_unserved xs (with_load i b u) (q.0, u, read, q.2)) (loads_left i xs b ld ih us ws h)
      where
        read : Contains (with_load i b u).walk.events (run_event.Load (Address q.0) u)
        read =
            Contains-append_right b.walk.events (event_of i u b.walk.state) (run_event.Load (Address q.0) u)
            (subst (λ (es : List Event). Contains es (run_event.Load (Address q.0) u))
            (sym (load_event i u b.walk.state ld ∙ ap (λ (a : Value). run_event.Load a u ∷ []) q.1))
            (one_contains (run_event.Load (Address q.0) u) (run_event.Load (Address q.0) u) refl))

    one_left : (xs : List Line) (a : Beginning)
        → AreLeft Unserved (all_from V xs a) (all_over V held xs a)
        → AreLeft Unserved (flat_map (all_from V xs) (a ∷ []))
        (flat_map (all_over V held xs) (a ∷ []))
    one_left xs a h = left_append Unserved (all_from V xs a) [] (all_over V held xs a) [] h none

    does_left : (i : Instruction) (xs : List Line) (b : Beginning)
        → ((a : Beginning) → AreLeft Unserved (all_from V xs a) (all_over V held xs a))
        → AreLeft Unserved (all_from V (Does i ∷ xs) b) (all_over V held (Does i ∷ xs) b)
    does_left i xs b ih = go (is_load i) (executes i b) refl
      where
        over : Beginning
        over = gone_over (Does i) b

        go : (ld ex : Bool) → is_load i ≡ ld
            → AreLeft Unserved (flat_map (all_from V xs) (if ld then (if ex then map (with_load i b)
            V
            else over ∷ [])
            else over ∷ []))
            (flat_map (all_over V held xs) (if ld then (if ex then map (with_load i b)
            (served V held (address_of i b.walk.state))
            else over ∷ [])
            else over ∷ []))
        go true true e =
            loads_left i xs b e ih V (served V held (address_of i b.walk.state))
            (served_left (address_of i b.walk.state))
        go true false e = one_left xs over (ih over)
        go false ex e = one_left xs over (ih over)

    pub all_left : (xs : List Line) (b : Beginning)
        → AreLeft Unserved (all_from V xs b) (all_over V held xs b)
    all_left [] b = stays none
    all_left (Label m ∷ xs) b =
        one_left xs (gone_over (Label m) b) (all_left xs (gone_over (Label m) b))
    all_left (Does i ∷ xs) b = does_left i xs b (all_left xs)

    pub shows_served : (t : ℕ) (runs : List made.Run) → AllPairs IsLess V
        → map run_shown runs
        ≡ map shown_whole (all_over V held (thread_of p t).lines
        (beginning_at (thread_of p t).first)) → ShowsServed p t V runs
    shows_served t runs rising e = (
      map whole (all_from V (thread_of p t).lines (beginning_at (thread_of p t).first)),
      are_runs (thread_of p t) V rising,
      map whole (all_over V held (thread_of p t).lines (beginning_at (thread_of p t).first)),
      left_map Unserved (IsUnserved p) whole (λ b u. u)
          (all_from V (thread_of p t).lines (beginning_at (thread_of p t).first))
          (all_over V held (thread_of p t).lines (beginning_at (thread_of p t).first))
          (all_left (thread_of p t).lines (beginning_at (thread_of p t).first)),
      e
          ∙ sym (map_twice shown_run whole (all_over V held (thread_of p t).lines
          (beginning_at (thread_of p t).first))),
    )
