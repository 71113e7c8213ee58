-- What free runs store, line by line.
use Rattle.std.proofs.Common.{ℕ, zero, suc, ◌≡◌, ◌⊎◌, ◌<◌, ◌≤◌, ◌+◌, ◌-◌, ◌*◌, inl, inr, Bool, true, false, List, [], ◌∷◌, ◌++◌, length, get_or, drop, nat_lt, refl, sym, ap, subst, ◌∙◌, Option, Some, None, if◌then◌else◌, append_assoc, arith, rules, add-one}
use Rattle.std.specs.List.{flat_map, Contains, All}
use Rattle.std.proofs.Math.Seq.{drop-cons}
use Rattle.std.proofs.lemmas.List.{append-nil}
use Rattle.std.proofs.lemmas.Bool.{cases_lt}
use Rattle.std.proofs.lemmas.List.Elements.{Contains-append_left, Contains-append_right, Contains-append_cases, All-cons, All-head, All-tail, All-contains}
use Rattle.thread_runs.specs.declared.value.Value.{Value}
use Rattle.thread_runs.specs.declared.value.Value.TheVariants.{NoValue}
use Rattle.thread_runs.specs.declared.instruction.Instruction.{Instruction}
use Rattle.thread_runs.specs.declared.instruction.Instruction.TheVariants.{Immediate, Move, AddImmediate, Operate, Load, LoadIndexed, Store, StoreIndexed, Compare, CompareImmediate, Branch, Jump, Fence}
use Rattle.thread_runs.specs.declared.instruction.Line.{Line}
use Rattle.thread_runs.specs.declared.instruction.Line.TheVariants.{Label, Does}
use Rattle.thread_runs.specs.declared.instruction.Event.{Event}
use Rattle.thread_runs.specs.declared.instruction.Event.TheVariants as run_event
use Rattle.thread_runs.specs.declared.instruction.RunStep.{RunStep}
use Rattle.thread_runs.specs.declared.state.State.{State}
use Rattle.thread_runs.specs.declared.free.FreeWalk.{FreeWalk}
use Rattle.thread_runs.specs.Machine.{state_after, event_of, register, sum_of, is_load, is_branch, branch_target}
use Rattle.thread_runs.specs.Runs.{Walk, RunOutcome, ended, walk_after, walk_past, after_load, free_ends, after_free_instruction, after_free_line, free_from}
use Rattle.thread_runs.specs.ValueSet.{IsProperValue}
use Rattle.thread_runs.specs.FreeRuns.{FreeRun, count_one, count_free, sized}
use Rattle.thread_runs.specs.FreeWalks.{walked, walk_over, values_stored_by, stored_on, one_if, branch_walks, loaded, does_next, next_on, next_of, goes_by, is_store_instruction, is_store_line, HasNoStore, Stores, SomeStores, AreAdded}
use Rattle.thread_runs.proofs.RunList.{same_line}
use Rattle.thread_runs.proofs.RunsExact.{contains_one, one_contains, flat_map_contains, contains_flat_map, map_contains, contains_map, all_from_contains}
use Rattle.thread_runs.proofs.AllFree.{all_free, exact, counted, branch_no_load}

-- a walk with further steps and events before its own
abbrev pre : List RunStep → List Event → Walk → Walk
pre p q w =
    record { state = w.state; seeking = w.seeking; steps = p ++ w.steps; events = q ++ w.events }

abbrev pre_end : List RunStep → List Event → Option RunOutcome → Option RunOutcome
pre_end p q None = None
pre_end p q (Some f) = Some (ended f.faulted (pre p q f.walk))

abbrev so_walked : State → Option ℕ → List RunStep → List Event → Walk
so_walked s k p q = record { state = s; seeking = k; steps = p; events = q }

abbrev pub step_of : Instruction → Value → RunStep
step_of i v = record { instruction = i; loaded = v }

advanced_pre : (i : Instruction) (b : Bool) (v : Value) (p : List RunStep) (q : List Event)
    (w : Walk) → walk_after i b v (pre p q w) ≡ pre p q (walk_after i b v w)
advanced_pre i b v p q w =
    ap
    (λ (r : List RunStep).
    so_walked (state_after i v w.state) (branch_target i b) r ((q ++ w.events) ++ event_of i v w.state))
    (append_assoc p w.steps (step_of i v ∷ []))
    ∙ ap
    (λ (r : List Event).
    so_walked (state_after i v w.state) (branch_target i b) (p ++ (w.steps ++ step_of i v ∷ [])) r)
    (append_assoc q w.events (event_of i v w.state))

module _ (p : List RunStep) (q : List Event) where
  abbrev IsPrefixed : List Line → Type 0
  IsPrefixed xs =
      (w : Walk) (bs : List Bool) (vs : List Value)
      → free_from xs (pre p q w) bs vs ≡ pre_end p q (free_from xs w bs vs)

  prefixed_end : (w : Walk) (bs : List Bool) (vs : List Value)
      → free_ends (pre p q w) bs vs ≡ pre_end p q (free_ends w bs vs)
  prefixed_end w [] [] = refl
  prefixed_end w [] (v ∷ vs) = refl
  prefixed_end w (b ∷ bs) vs = refl

  prefixed_supplied : (ld : Bool) (i : Instruction) (b : Bool) (xs : List Line) → IsPrefixed xs
      → (w : Walk) (bs : List Bool) (vs : List Value)
      → after_load ld i b (λ u us. free_from xs u bs us) (pre p q w) vs
      ≡ pre_end p q (after_load ld i b (λ u us. free_from xs u bs us) w vs)
  prefixed_supplied true i b xs ih w bs [] = refl
  prefixed_supplied true i b xs ih w bs (v ∷ vs) =
      ap (λ (u : Walk). free_from xs u bs vs) (advanced_pre i b v p q w)
      ∙ ih (walk_after i b v w) bs vs
  prefixed_supplied false i b xs ih w bs vs =
      ap (λ (u : Walk). free_from xs u bs vs) (advanced_pre i b NoValue p q w)
      ∙ ih (walk_after i b NoValue w) bs vs

  prefixed_obeyed : (br : Bool) (i : Instruction) (xs : List Line) → IsPrefixed xs
      → (w : Walk) (bs : List Bool) (vs : List Value)
      → after_free_instruction br i (free_from xs) (pre p q w) bs vs
      ≡ pre_end p q (after_free_instruction br i (free_from xs) w bs vs)
  prefixed_obeyed true i xs ih w [] vs = refl
  prefixed_obeyed true i xs ih w (b ∷ bs) vs = prefixed_supplied (is_load i) i b xs ih w bs vs
  prefixed_obeyed false i xs ih w bs vs = prefixed_supplied (is_load i) i false xs ih w bs vs

  prefixed_one : (sk : Option ℕ) (x : Line) (xs : List Line) → IsPrefixed xs
      → (w : Walk) (bs : List Bool) (vs : List Value)
      → after_free_line sk x (free_from xs) (pre p q w) bs vs
      ≡ pre_end p q (after_free_line sk x (free_from xs) w bs vs)
  prefixed_one (Some l) x xs ih w bs vs = ih (walk_past x l w) bs vs
  prefixed_one None (Label m) xs ih w bs vs = ih w bs vs
  prefixed_one None (Does i) xs ih w bs vs = prefixed_obeyed (is_branch i) i xs ih w bs vs

  prefixed : (xs : List Line) → IsPrefixed xs
  prefixed [] w bs vs = prefixed_end w bs vs
  prefixed (x ∷ xs) w bs vs = prefixed_one w.seeking x xs (prefixed xs) w bs vs

-- a free run that begins with nothing done
abbrev pub fresh : FreeWalk → Walk
fresh w = record { state = w.state; seeking = w.seeking; steps = []; events = [] }

module _ (V : List Value) (xs : List Line) where
  -- some free run goes on from there, and some stores the value
  abbrev pub Goes : Walk → Type 0
  Goes w =
      (bs : List Bool) × (vs : List Value) × All (Contains V) vs × (f : RunOutcome)
      × (free_from xs w bs vs ≡ Some f)

  abbrev pub Keeps : Walk → Value → Type 0
  Keeps w v =
      (bs : List Bool) × (vs : List Value) × All (Contains V) vs × (f : RunOutcome)
      × (free_from xs w bs vs ≡ Some f) × (a : Value) × Contains f.walk.events (run_event.Store a v)

  goes_counted : (w : Walk) → Goes w → 0 < count_free (length V) xs w.seeking
  goes_counted w g =
      let (bs, vs, within, f, e) = g in
      let found = (exact V xs w bs vs f).1 (within, e) in
      let n = counted V xs w in
      let lt = found.1 in
      omega (arith, n, lt)

  counted_goes : (w : Walk) → 0 < count_free (length V) xs w.seeking → Goes w
  counted_goes w lt = first (all_free V xs w) refl
    where
      first : (rs : List FreeRun) → all_free V xs w ≡ rs → Goes w
      first [] e =
          absurd (let n = counted V xs w in
          let m : length (all_free V xs w) ≡ 0 = ap (λ (rs : List FreeRun). length rs) e in
          omega (arith, n, m))
      first (r ∷ rs) e =
          let holds = (exact V xs w r.choices r.values r.outcome).0 (subst (λ (ts : List FreeRun). Contains ts r) (sym e) (Contains-append_left (r ∷ []) rs r (one_contains r r refl))) in
          (r.choices, r.values, holds.0, r.outcome, holds.1)

-- by one instruction
stores_one : (i : Instruction) (u : Value) (s : State) (a v : Value)
    → Contains (event_of i u s) (run_event.Store a v) → Contains (values_stored_by i s) v
stores_one (Store d b) u s a v h =
    let e : run_event.Store (register s b) (register s d) ≡ run_event.Store a v = contains_one _ _ h in
    one_contains (register s d) v (cc)
stores_one (StoreIndexed d b c) u s a v h =
    let e : run_event.Store (sum_of (register s b) (register s c)) (register s d) ≡ run_event.Store a v =
    contains_one _ _ h in
    one_contains (register s d) v (cc)
stores_one (Load d b) u s a v h =
    absurd (let e : run_event.Load (register s b) u ≡ run_event.Store a v = contains_one _ _ h in cc)
stores_one (LoadIndexed d b c) u s a v h =
    absurd (
    let e : run_event.Load (sum_of (register s b) (register s c)) u ≡ run_event.Store a v = contains_one _ _ h in
    cc)
stores_one (Fence k) u s a v h = absurd (let e : run_event.Fence k ≡ run_event.Store a v = contains_one _ _ h in cc)
stores_one (Immediate d n) u s a v h = absurd (let lt = h.1 in omega arith)
stores_one (Move d b) u s a v h = absurd (let lt = h.1 in omega arith)
stores_one (AddImmediate d b n) u s a v h = absurd (let lt = h.1 in omega arith)
stores_one (Operate o d b c) u s a v h = absurd (let lt = h.1 in omega arith)
stores_one (Compare b c) u s a v h = absurd (let lt = h.1 in omega arith)
stores_one (CompareImmediate b n) u s a v h = absurd (let lt = h.1 in omega arith)
stores_one (Branch c l) u s a v h = absurd (let lt = h.1 in omega arith)
stores_one (Jump l) u s a v h = absurd (let lt = h.1 in omega arith)

one_stores : (i : Instruction) (u : Value) (s : State) (v : Value) → Contains (values_stored_by i s) v
    → (a : Value) × Contains (event_of i u s) (run_event.Store a v)
one_stores (Store d b) u s v h =
    let e : register s d ≡ v = contains_one _ _ h in (
      register s b,
      one_contains (run_event.Store (register s b) (register s d)) (run_event.Store (register s b) v) (cc),
    )
one_stores (StoreIndexed d b c) u s v h =
    let e : register s d ≡ v = contains_one _ _ h in (
      sum_of (register s b) (register s c),
      one_contains (run_event.Store (sum_of (register s b) (register s c)) (register s d))
          (run_event.Store (sum_of (register s b) (register s c)) v) (cc),
    )
one_stores (Load d b) u s v h = absurd (let lt = h.1 in omega arith)
one_stores (LoadIndexed d b c) u s v h = absurd (let lt = h.1 in omega arith)
one_stores (Fence k) u s v h = absurd (let lt = h.1 in omega arith)
one_stores (Immediate d n) u s v h = absurd (let lt = h.1 in omega arith)
one_stores (Move d b) u s v h = absurd (let lt = h.1 in omega arith)
one_stores (AddImmediate d b n) u s v h = absurd (let lt = h.1 in omega arith)
one_stores (Operate o d b c) u s v h = absurd (let lt = h.1 in omega arith)
one_stores (Compare b c) u s v h = absurd (let lt = h.1 in omega arith)
one_stores (CompareImmediate b n) u s v h = absurd (let lt = h.1 in omega arith)
one_stores (Branch c l) u s v h = absurd (let lt = h.1 in omega arith)
one_stores (Jump l) u s v h = absurd (let lt = h.1 in omega arith)

module _ (V : List Value) (xs : List Line) (i : Instruction) (b : Bool) (u : Value) (w : FreeWalk)
  where
    same_after : (bs : List Bool) (vs : List Value)
        → free_from xs (walk_after i b u (fresh w)) bs vs
        ≡ pre_end (step_of i u ∷ []) (event_of i u w.state)
        (free_from xs (fresh (walked i b u w)) bs vs)
    same_after bs vs =
        ap
        (λ (r : List Event).
        free_from xs (so_walked (state_after i u w.state) (branch_target i b) (step_of i u ∷ []) r) bs vs)
        (sym (append-nil (event_of i u w.state)))
        ∙ prefixed (step_of i u ∷ []) (event_of i u w.state) xs (fresh (walked i b u w)) bs vs

    -- its end, without what was done before
    unended : (o : Option RunOutcome) (f : RunOutcome)
        → pre_end (step_of i u ∷ []) (event_of i u w.state) o ≡ Some f
        → (g : RunOutcome) × (o ≡ Some g) × (f.walk.events ≡ event_of i u w.state ++ g.walk.events)
    unended None f e = absurd cc
    unended (Some g) f e = (g, refl, sym (ap (λ (h : RunOutcome). h.walk.events) (same e)))
      where
        same : {r t : RunOutcome} → Some r ≡ Some t → r ≡ t
        same k = cc

    goes_after : Goes V xs (walk_after i b u (fresh w)) → Goes V xs (fresh (walked i b u w))
    goes_after g =
        let (bs, vs, within, f, e) = g in
        let (h, d, _) = unended (free_from xs (fresh (walked i b u w)) bs vs) f (sym (same_after bs vs) ∙ e) in
        (bs, vs, within, h, d)

    keeps_after : (v : Value) → Keeps V xs (walk_after i b u (fresh w)) v
        → Contains (values_stored_by i w.state) v ⊎ Keeps V xs (fresh (walked i b u w)) v
    keeps_after v k =
        let (bs, vs, within, f, e, a, found) = k in
        let (h, d, q) = unended (free_from xs (fresh (walked i b u w)) bs vs) f (sym (same_after bs vs) ∙ e) in
        elim
        (Contains-append_cases (event_of i u w.state) h.walk.events (run_event.Store a v)
        (subst (λ (es : List Event). Contains es (run_event.Store a v)) q found)) [
          | inl here ↦ inl (stores_one i u w.state a v here)
          | inr later ↦ inr (bs, vs, within, h, d, a, later)
        ]

    stored_keeps : (v : Value) → Goes V xs (walk_after i b u (fresh w))
        → Contains (values_stored_by i w.state) v → Keeps V xs (walk_after i b u (fresh w)) v
    stored_keeps v g here =
        let (bs, vs, within, f, e) = g in
        let (h, d, q) = unended (free_from xs (fresh (walked i b u w)) bs vs) f (sym (same_after bs vs) ∙ e) in
        let (a, c) = one_stores i u w.state v here in (
          bs,
          vs,
          within,
          f,
          e,
          a,
          subst (λ (es : List Event). Contains es (run_event.Store a v)) (sym q)
              (Contains-append_left (event_of i u w.state) h.walk.events (run_event.Store a v) c),
        )

    later_keeps : (v : Value) → Keeps V xs (fresh (walked i b u w)) v
        → Keeps V xs (walk_after i b u (fresh w)) v
    later_keeps v k =
        let (bs, vs, within, g, d, a, later) = k in
        let e : free_from xs (walk_after i b u (fresh w)) bs vs ≡ pre_end (step_of i u ∷ []) (event_of i u w.state) (Some g) = same_after bs vs ∙ ap (λ (o : Option RunOutcome). pre_end (step_of i u ∷ []) (event_of i u w.state) o) d in (
          bs,
          vs,
          within,
          ended g.faulted (pre (step_of i u ∷ []) (event_of i u w.state) g.walk),
          e,
          a,
          Contains-append_right (event_of i u w.state) g.walk.events (run_event.Store a v) later,
        )

-- by one line: the moves that an instruction has, with its choice and the value that it loads
abbrev IsMove : Bool → Bool → List Value → Bool → Value → Type 0
IsMove true br V b u = Contains V u × (b ≡ false)
IsMove false true V b u = u ≡ NoValue
IsMove false false V b u = (u ≡ NoValue) × (b ≡ false)

abbrev free_does : Bool → Bool → Instruction → (Walk → List Bool → List Value → Option RunOutcome)
    → Walk → List Bool → List Value → Option RunOutcome
free_does ld true i go w [] vs = None
free_does ld true i go w (b ∷ bs) vs = after_load ld i b (λ u us. go u bs us) w vs
free_does ld false i go w bs vs = after_load ld i false (λ u us. go u bs us) w vs

same_does : (br : Bool) (i : Instruction) (go : Walk → List Bool → List Value → Option RunOutcome)
    (w : Walk) (bs : List Bool) (vs : List Value)
    → after_free_instruction br i go w bs vs ≡ free_does (is_load i) br i go w bs vs
same_does true i go w [] vs = refl
same_does true i go w (b ∷ bs) vs = refl
same_does false i go w bs vs = refl

module _ (V : List Value) (xs : List Line) (i : Instruction) (w : FreeWalk) where
  -- a run from the instruction on makes one of the moves, and goes on
  abbrev Onward : Bool → Bool → List Bool → List Value → RunOutcome → Type 0
  Onward ld br bs vs f =
      (b : Bool) × (u : Value) × IsMove ld br V b u × (cs : List Bool) × (us : List Value)
      × All (Contains V) us × (free_from xs (walk_after i b u (fresh w)) cs us ≡ Some f)

  moves : (ld br : Bool) (bs : List Bool) (vs : List Value) (f : RunOutcome) → (br ≡ true → ld ≡ false)
      → All (Contains V) vs → free_does ld br i (free_from xs) (fresh w) bs vs ≡ Some f
      → Onward ld br bs vs f
  moves true true bs vs f only within e = absurd (let n = only refl in cc)
  moves true false bs [] f only within e = absurd cc
  moves true false bs (v ∷ vs) f only within e = (
    false,
    v,
    (All-head (Contains V) v vs within, refl),
    bs,
    vs,
    All-tail (Contains V) v vs within,
    e,
  )
  moves false true [] vs f only within e = absurd cc
  moves false true (b ∷ bs) vs f only within e = (b, NoValue, refl, bs, vs, within, e)
  moves false false bs vs f only within e = (false, NoValue, (refl, refl), bs, vs, within, e)

  one_move : (ld br : Bool) (b : Bool) (u : Value) (cs : List Bool) (us : List Value) (f : RunOutcome)
      → (br ≡ true → ld ≡ false) → IsMove ld br V b u → All (Contains V) us
      → free_from xs (walk_after i b u (fresh w)) cs us ≡ Some f
      → (bs : List Bool) × (vs : List Value) × All (Contains V) vs
      × (free_does ld br i (free_from xs) (fresh w) bs vs ≡ Some f)
  one_move true true b u cs us f only m within e = absurd (let n = only refl in cc)
  one_move true false b u cs us f only m within e = (
    cs,
    u ∷ us,
    All-cons (Contains V) u us m.0 within,
    subst (λ (c : Bool). free_from xs (walk_after i c u (fresh w)) cs us ≡ Some f) m.1 e,
  )
  one_move false true b u cs us f only m within e = (
    b ∷ cs,
    us,
    within,
    subst (λ (v : Value). free_from xs (walk_after i b v (fresh w)) cs us ≡ Some f) m e,
  )
  one_move false false b u cs us f only m within e = (
    cs,
    us,
    within,
    subst (λ (c : Bool). free_from xs (walk_after i c NoValue (fresh w)) cs us ≡ Some f) m.1
        (subst (λ (v : Value). free_from xs (walk_after i b v (fresh w)) cs us ≡ Some f) m.0 e),
  )

  -- the moves are those of the list, where free runs go on
  listed : (ld br on there : Bool) (b : Bool) (u : Value) → IsMove ld br V b u
      → (b ≡ false → br ≡ true → on ≡ true) → (b ≡ true → there ≡ true)
      → Contains (does_next ld br V on there i w) (walked i b u w)
  listed true br on there b u m p q =
      subst (λ (c : Bool). Contains (loaded V i w) (walked i c u w)) (sym m.1)
      (contains_map (λ v. walked i false v w) V u m.0)
  listed false true on there b u m p q =
      subst (λ (v : Value). Contains (branch_walks on there i w) (walked i b v w)) (sym m) (go b p q)
    where
      go : (c : Bool) → (c ≡ false → true ≡ true → on ≡ true) → (c ≡ true → there ≡ true)
          → Contains (branch_walks on there i w) (walked i c NoValue w)
      go false p q =
          Contains-append_left (one_if on (walked i false NoValue w))
          (one_if there (walked i true NoValue w)) (walked i false NoValue w) (subst
          (λ (t : Bool).
          Contains (one_if t (walked i false NoValue w)) (walked i false NoValue w))
          (sym (p refl refl))
          (one_contains (walked i false NoValue w) (walked i false NoValue w) refl))
      go true p q =
          Contains-append_right (one_if on (walked i false NoValue w))
          (one_if there (walked i true NoValue w)) (walked i true NoValue w) (subst
          (λ (t : Bool).
          Contains (one_if t (walked i true NoValue w)) (walked i true NoValue w))
          (sym (q refl))
          (one_contains (walked i true NoValue w) (walked i true NoValue w) refl))
  listed false false on there b u m p q =
      one_contains (walked i false NoValue w) (walked i b u w) (sym (ap
      (λ (c : Bool). walked i c u w) m.1 ∙ ap (λ (v : Value). walked i false v w) m.0))

  in_one : (t : Bool) (y n : FreeWalk) → Contains (one_if t y) n → (t ≡ true) × (y ≡ n)
  in_one true y n h = (refl, contains_one y n h)
  in_one false y n h = absurd (let lt = h.1 in omega arith)

  unlisted : (ld br on there : Bool) (n : FreeWalk) → Contains (does_next ld br V on there i w) n
      → (b : Bool) × (u : Value) × IsMove ld br V b u × (walked i b u w ≡ n)
      × (br ≡ true → ld ≡ false → b ≡ false → on ≡ true) × (b ≡ true → there ≡ true)
  unlisted true br on there n h =
      let (u, within, e) = map_contains (λ v. walked i false v w) V n h in
      (false, u, (within, refl), e, (λ t g. absurd cc), (λ t. absurd cc))
  unlisted false true on there n h =
      elim
      (Contains-append_cases (one_if on (walked i false NoValue w))
      (one_if there (walked i true NoValue w)) n h) [
        | inl one ↦
            let (t, e) = in_one on (walked i false NoValue w) n one in
            (false, NoValue, refl, e, (λ _ _ _. t), (λ k. absurd cc))
        | inr one ↦
            let (t, e) = in_one there (walked i true NoValue w) n one in
            (true, NoValue, refl, e, (λ _ _ k. absurd cc), (λ _. t))
      ]
  unlisted false false on there n h = (
    false,
    NoValue,
    (refl, refl),
    contains_one (walked i false NoValue w) n h,
    (λ k. absurd cc),
    (λ k. absurd cc),
  )

counts_goes : (n : ℕ) → 0 < n → nat_lt 0 n ≡ true
counts_goes zero lt = absurd (omega arith)
counts_goes (suc n) lt = search rules

goes_counts : (n : ℕ) → nat_lt 0 n ≡ true → 0 < n
goes_counts zero e = absurd cc
goes_counts (suc n) e = omega arith

sized_goes : (size n : ℕ) → 0 < size * n → 0 < n
sized_goes size zero lt = absurd (omega arith)
sized_goes size (suc n) lt = omega arith

-- an instruction
module _ (V : List Value) (i : Instruction) (xs : List Line) (w : FreeWalk) (on there : Bool)
    (on_is : on ≡ goes_by (length V) xs false (Does i))
    (there_is : there ≡ goes_by (length V) xs true (Does i)) where
  has_next : (b : Bool) (u : Value) → IsMove (is_load i) (is_branch i) V b u
      → Goes V xs (fresh (walked i b u w))
      → Contains (does_next (is_load i) (is_branch i) V on there i w) (walked i b u w)
  has_next b u m g =
      let more : 0 < count_free (length V) xs (branch_target i b) = goes_counted V xs (fresh (walked i b u w)) g in
      listed V xs i w (is_load i) (is_branch i) on there b u m
      (λ no_taken is. on_is
      ∙ counts_goes (count_free (length V) xs (branch_target i false))
      (subst (λ (c : Bool). 0 < count_free (length V) xs (branch_target i c)) no_taken more))
      (λ is_taken. there_is
      ∙ counts_goes (count_free (length V) xs (branch_target i true))
      (subst (λ (c : Bool). 0 < count_free (length V) xs (branch_target i c)) is_taken more))

  does_keeps : (v : Value) (bs : List Bool) (vs : List Value) → All (Contains V) vs → (f : RunOutcome)
      → after_free_instruction (is_branch i) i (free_from xs) (fresh w) bs vs ≡ Some f → (a : Value)
      → Contains f.walk.events (run_event.Store a v)
      → Contains (values_stored_by i w.state) v
      ⊎ ((n : FreeWalk) × Contains (does_next (is_load i) (is_branch i) V on there i w) n
      × Keeps V xs (fresh n) v)
  does_keeps v bs vs within f e a found =
      let (b, u, m, cs, us, inside, d) = moves V xs i w (is_load i) (is_branch i) bs vs f (branch_no_load i) within (sym (same_does (is_branch i) i (free_from xs) (fresh w) bs vs) ∙ e) in
      let n = has_next b u m (goes_after V xs i b u w (cs, us, inside, f, d)) in
      elim (keeps_after V xs i b u w v (cs, us, inside, f, d, a, found))
      [ inl here ↦ inl here | inr later ↦ inr (walked i b u w, n, later) ]

  keeps_does : (v : Value) (b : Bool) (u : Value) → IsMove (is_load i) (is_branch i) V b u
      → Keeps V xs (walk_after i b u (fresh w)) v
      → (bs : List Bool) × (vs : List Value) × All (Contains V) vs × (f : RunOutcome)
      × (after_free_instruction (is_branch i) i (free_from xs) (fresh w) bs vs ≡ Some f) × (a : Value)
      × Contains f.walk.events (run_event.Store a v)
  keeps_does v b u m k =
      let (cs, us, inside, f, d, a, found) = k in
      let (bs, vs, within, e) = one_move V xs i w (is_load i) (is_branch i) b u cs us f (branch_no_load i) m inside d in
      (bs, vs, within, f, same_does (is_branch i) i (free_from xs) (fresh w) bs vs ∙ e, a, found)

  does_later : (v : Value) (n : FreeWalk)
      → Contains (does_next (is_load i) (is_branch i) V on there i w) n → Keeps V xs (fresh n) v
      → (bs : List Bool) × (vs : List Value) × All (Contains V) vs × (f : RunOutcome)
      × (after_free_instruction (is_branch i) i (free_from xs) (fresh w) bs vs ≡ Some f) × (a : Value)
      × Contains f.walk.events (run_event.Store a v)
  does_later v n h k =
      let (b, u, m, e, _, _) = unlisted V xs i w (is_load i) (is_branch i) on there n h in
      keeps_does v b u m (later_keeps V xs i b u w v
      (subst (λ (z : FreeWalk). Keeps V xs (fresh z) v) (sym e) k))

  does_here : (v : Value) (bs : List Bool) (vs : List Value) → All (Contains V) vs → (f : RunOutcome)
      → after_free_instruction (is_branch i) i (free_from xs) (fresh w) bs vs ≡ Some f
      → Contains (values_stored_by i w.state) v
      → (bs : List Bool) × (vs : List Value) × All (Contains V) vs × (f : RunOutcome)
      × (after_free_instruction (is_branch i) i (free_from xs) (fresh w) bs vs ≡ Some f) × (a : Value)
      × Contains f.walk.events (run_event.Store a v)
  does_here v bs vs within f e here =
      let (b, u, m, cs, us, inside, d) = moves V xs i w (is_load i) (is_branch i) bs vs f (branch_no_load i) within (sym (same_does (is_branch i) i (free_from xs) (fresh w) bs vs) ∙ e) in
      keeps_does v b u m (stored_keeps V xs i b u w v (cs, us, inside, f, d) here)

  -- what goes on can end
  does_goes : 0 < count_one (length V) None (Does i) (count_free (length V) xs) → (n : FreeWalk)
      → Contains (does_next (is_load i) (is_branch i) V on there i w) n
      → 0 < count_free (length V) xs n.seeking
  does_goes lt n h =
      let (b, u, m, e, p, q) = unlisted V xs i w (is_load i) (is_branch i) on there n h in
      subst (λ (z : FreeWalk). 0 < count_free (length V) xs z.seeking) e
      (go (is_branch i) (is_load i) b refl refl (λ ld nb. lt) u m p q)
    where
      go : (br ld b : Bool) → is_branch i ≡ br → is_load i ≡ ld
          → (is_load i ≡ ld → is_branch i ≡ br
          → 0 < count_one (length V) None (Does i) (count_free (length V) xs)) → (u : Value)
          → IsMove (is_load i) (is_branch i) V b u
          → (is_branch i ≡ true → is_load i ≡ false → b ≡ false → on ≡ true)
          → (b ≡ true → there ≡ true) → 0 < count_free (length V) xs (branch_target i b)
      go br ld true e f g u m p q =
          goes_counts (count_free (length V) xs (branch_target i true)) (sym there_is ∙ q refl)
      go true ld false e f g u m p q =
          goes_counts (count_free (length V) xs (branch_target i false))
          (sym on_is ∙ p e (branch_no_load i e) refl)
      go false true false e f g u m p q =
          sized_goes (length V) (count_free (length V) xs (branch_target i false)) (subst
          (λ (t : Bool). 0
          < (if t then length V * count_free (length V) xs (branch_target i false)
          else count_free (length V) xs (branch_target i false))) f
          (subst
          (λ (t : Bool). 0
          < (if t then count_free (length V) xs (branch_target i true)
          + count_free (length V) xs (branch_target i false)
          else sized (length V) i (count_free (length V) xs (branch_target i false))))
          e
          (g f e)))
      go false false false e f g u m p q =
          subst
          (λ (t : Bool). 0
          < (if t then length V * count_free (length V) xs (branch_target i false)
          else count_free (length V) xs (branch_target i false))) f
          (subst
          (λ (t : Bool). 0
          < (if t then count_free (length V) xs (branch_target i true)
          + count_free (length V) xs (branch_target i false)
          else sized (length V) i (count_free (length V) xs (branch_target i false)))) e
          (g f e))

-- a line
module _ (V : List Value) (xs : List Line) (on there : Bool) where
  pub line_keeps : (sk : Option ℕ) (x : Line) (w : FreeWalk) → w.seeking ≡ sk
      → on ≡ goes_by (length V) xs false x → there ≡ goes_by (length V) xs true x → (v : Value)
      → Keeps V (x ∷ xs) (fresh w) v
      → Contains (stored_on sk x w) v
      ⊎ ((n : FreeWalk) × Contains (next_on V on there sk x w) n × Keeps V xs (fresh n) v)
  line_keeps sk x w s p q v k =
      let (bs, vs, within, f, e, a, found) = k in
      go sk x p q bs vs within f
      (subst (λ (o : Option ℕ). after_free_line o x (free_from xs) (fresh w) bs vs ≡ Some f) s e) a
      found
    where
      go : (sk : Option ℕ) (x : Line) → on ≡ goes_by (length V) xs false x
          → there ≡ goes_by (length V) xs true x → (bs : List Bool) (vs : List Value)
          → All (Contains V) vs → (f : RunOutcome)
          → after_free_line sk x (free_from xs) (fresh w) bs vs ≡ Some f → (a : Value)
          → Contains f.walk.events (run_event.Store a v)
          → Contains (stored_on sk x w) v
          ⊎ ((n : FreeWalk) × Contains (next_on V on there sk x w) n × Keeps V xs (fresh n) v)
      go (Some l) x p q bs vs within f e a found =
          inr (
            walk_over (Some l) x w,
            one_contains (walk_over (Some l) x w) (walk_over (Some l) x w) refl,
            (bs, vs, within, f, e, a, found),
          )
      go None (Label m) p q bs vs within f e a found =
          inr (w, one_contains w w refl, (bs, vs, within, f, e, a, found))
      go None (Does i) p q bs vs within f e a found =
          does_keeps V i xs w on there p q v bs vs within f e a found

  pub line_later : (sk : Option ℕ) (x : Line) (w : FreeWalk) → w.seeking ≡ sk
      → on ≡ goes_by (length V) xs false x → there ≡ goes_by (length V) xs true x
      → (v : Value) (n : FreeWalk)
      → Contains (next_on V on there sk x w) n → Keeps V xs (fresh n) v
      → Keeps V (x ∷ xs) (fresh w) v
  line_later sk x w s p q v n h k =
      let (bs, vs, within, f, e, a, found) = go sk x p q h in (
        bs,
        vs,
        within,
        f,
        subst (λ (o : Option ℕ). after_free_line o x (free_from xs) (fresh w) bs vs ≡ Some f) (sym s)
            e,
        a,
        found,
      )
    where
      go : (sk : Option ℕ) (x : Line) → on ≡ goes_by (length V) xs false x
          → there ≡ goes_by (length V) xs true x → Contains (next_on V on there sk x w) n
          → (bs : List Bool) × (vs : List Value) × All (Contains V) vs × (f : RunOutcome)
          × (after_free_line sk x (free_from xs) (fresh w) bs vs ≡ Some f) × (a : Value)
          × Contains f.walk.events (run_event.Store a v)
      go (Some l) x p q h =
          subst (λ (z : FreeWalk). Keeps V xs (fresh z) v)
          (sym (contains_one (walk_over (Some l) x w) n h)) k
      go None (Label m) p q h =
          subst (λ (z : FreeWalk). Keeps V xs (fresh z) v) (sym (contains_one w n h)) k
      go None (Does i) p q h = does_later V i xs w on there p q v n h k

  pub line_here : (sk : Option ℕ) (x : Line) (w : FreeWalk) → w.seeking ≡ sk
      → on ≡ goes_by (length V) xs false x → there ≡ goes_by (length V) xs true x → (v : Value)
      → 0 < count_free (length V) (x ∷ xs) w.seeking → Contains (stored_on sk x w) v
      → Keeps V (x ∷ xs) (fresh w) v
  line_here sk x w s p q v lt here =
      let (bs, vs, within, f, e) = counted_goes V (x ∷ xs) (fresh w) lt in
      let (cs, us, inside, g, d, a, found) = go sk x p q bs vs within f (subst (λ (o : Option ℕ). after_free_line o x (free_from xs) (fresh w) bs vs ≡ Some f) s e) here in (
        cs,
        us,
        inside,
        g,
        subst (λ (o : Option ℕ). after_free_line o x (free_from xs) (fresh w) cs us ≡ Some g) (sym s)
            d,
        a,
        found,
      )
    where
      go : (sk : Option ℕ) (x : Line) → on ≡ goes_by (length V) xs false x
          → there ≡ goes_by (length V) xs true x → (bs : List Bool) (vs : List Value)
          → All (Contains V) vs → (f : RunOutcome)
          → after_free_line sk x (free_from xs) (fresh w) bs vs ≡ Some f → Contains (stored_on sk x w) v
          → (bs : List Bool) × (vs : List Value) × All (Contains V) vs × (f : RunOutcome)
          × (after_free_line sk x (free_from xs) (fresh w) bs vs ≡ Some f) × (a : Value)
          × Contains f.walk.events (run_event.Store a v)
      go (Some l) x p q bs vs within f e h = absurd (let no_one = h.1 in omega arith)
      go None (Label m) p q bs vs within f e h = absurd (let no_one = h.1 in omega arith)
      go None (Does i) p q bs vs within f e h = does_here V i xs w on there p q v bs vs within f e h

  pub line_goes : (sk : Option ℕ) (x : Line) (w : FreeWalk) → w.seeking ≡ sk
      → on ≡ goes_by (length V) xs false x → there ≡ goes_by (length V) xs true x → (n : FreeWalk)
      → 0 < count_free (length V) (x ∷ xs) w.seeking → Contains (next_on V on there sk x w) n
      → 0 < count_free (length V) xs n.seeking
  line_goes sk x w s p q n lt h =
      go sk x s p q
      (subst (λ (o : Option ℕ). 0 < count_one (length V) o x (count_free (length V) xs)) s lt) h
    where
      go : (sk : Option ℕ) (x : Line) → w.seeking ≡ sk → on ≡ goes_by (length V) xs false x
          → there ≡ goes_by (length V) xs true x
          → 0 < count_one (length V) sk x (count_free (length V) xs)
          → Contains (next_on V on there sk x w) n → 0 < count_free (length V) xs n.seeking
      go (Some l) x s p q lt h =
          subst (λ (z : FreeWalk). 0 < count_free (length V) xs z.seeking)
          (contains_one (walk_over (Some l) x w) n h) lt
      go None (Label m) s p q lt h =
          subst (λ (z : FreeWalk). 0 < count_free (length V) xs z.seeking) (contains_one w n h)
          (subst (λ (o : Option ℕ). 0 < count_free (length V) xs o) (sym s) lt)
      go None (Does i) s p q lt h = does_goes V i xs w on there p q lt n h

-- no line from the one before on is a store
pub no_store_more : (lines : List Line) (end : ℕ) (d : Line) → 0 < end → end ≤ length lines
    → HasNoStore lines end (length lines) → is_store_line (get_or lines (end - 1) d) ≡ false
    → HasNoStore lines (end - 1) (length lines)
no_store_more lines end d some within storeless here k e from to = elim (cases_lt k end) [
  | inl lt ↦
      let same : end - 1 ≡ k = omega arith in
      subst (λ (j : ℕ). is_store_line (get_or lines j e) ≡ false) same (ap is_store_line
      (same_line lines (end - 1) e d (omega arith)) ∙ here)
  | inr ge ↦ storeless k e ge to
]

-- the free runs on their way, and the values that are stored so far
pub record IsUnderWay (lines : List Line) (first : State) (V : List Value) (k : ℕ)
    (walks : List FreeWalk) (old stored : List Value) : Type 0 where
  pub goes : All (λ w. 0 < count_free (length V) (drop k lines) w.seeking) walks
  pub later : (w : FreeWalk) → Contains walks w → (v : Value) → Keeps V (drop k lines) (fresh w) v
      → Stores lines first V v
  pub longer : length old ≤ length stored
  pub unchanged : length old ≡ length stored → old ≡ stored
  pub kept : (v : Value) → Contains old v → Contains stored v
  pub sound : (v : Value) → Contains stored v → Contains old v ⊎ (Stores lines first V v × IsProperValue v)
  pub whole : length stored ≤ 16 → (v : Value) → Stores lines first V v → IsProperValue v
      → Contains stored v ⊎ ((w : FreeWalk) × Contains walks w × Keeps V (drop k lines) (fresh w) v)

module _ (lines : List Line) (first : State) (V : List Value) where
  abbrev begin : FreeWalk
  begin = record { state = first; seeking = None }

  pub under_way : (old : List Value) → 0 < count_free (length V) lines None
      → IsUnderWay lines first V 0 (begin ∷ []) old old
  under_way old lt = record {
    goes =
        all_from_contains (λ w. 0 < count_free (length V) lines w.seeking) (begin ∷ [])
        (λ w h. subst (λ (z : FreeWalk). 0 < count_free (length V) lines z.seeking)
        (contains_one begin w h) lt);
    later =
        λ w h v k.
        subst (λ (z : FreeWalk). Keeps V lines (fresh z) v) (sym (contains_one begin w h)) k;
    longer = omega arith;
    unchanged = λ _. refl;
    kept = λ v h. h;
    sound = λ v h. inl h;
    whole = λ few v s one. inr (begin, one_contains begin begin refl, s);
  }

  pub no_way : (old : List Value) → count_free (length V) lines None ≡ 0
      → AreAdded (Stores lines first V) old old
  no_way old e = record {
    longer = omega arith;
    unchanged = λ _. refl;
    kept = λ v h. h;
    sound = λ v h. inl h;
    whole =
        λ few v s one. absurd (let (bs, vs, within, f, d, a, found) = s in
        let lt = goes_counted V lines (fresh begin) (bs, vs, within, f, d) in
        omega (arith, lt, e));
  }

  none_kept : (w : FreeWalk) (v : Value) → Keeps V [] (fresh w) v → ⊥
  none_kept w v k = let (bs, vs, within, f, e, a, found) = k in go bs vs f e a found
    where
      go : (bs : List Bool) (vs : List Value) (f : RunOutcome) → free_ends (fresh w) bs vs ≡ Some f
          → (a : Value) → Contains f.walk.events (run_event.Store a v) → ⊥
      go [] [] f e a found =
          let d : ended false (fresh w) ≡ f = cc in
          let g = subst (λ (h : RunOutcome). Contains h.walk.events (run_event.Store a v)) (sym d) found in
          let lt = g.1 in omega arith
      go [] (u ∷ us) f e a found = absurd cc
      go (b ∷ bs) vs f e a found = absurd cc

  not_stored : (sk : Option ℕ) (x : Line) (w : FreeWalk) (v : Value) → is_store_line x ≡ false
      → Contains (stored_on sk x w) v → ⊥
  not_stored (Some l) x w v storeless h = let lt = h.1 in omega arith
  not_stored None (Label m) w v storeless h = let lt = h.1 in omega arith
  not_stored None (Does i) w v storeless h = instruction_not i storeless h
    where
      instruction_not : (i : Instruction) → is_store_instruction i ≡ false → Contains (values_stored_by i w.state) v
          → ⊥
      instruction_not (Store d b) storeless h = absurd cc
      instruction_not (StoreIndexed d b c) storeless h = absurd cc
      instruction_not (Load d b) storeless h = let lt = h.1 in omega arith
      instruction_not (LoadIndexed d b c) storeless h = let lt = h.1 in omega arith
      instruction_not (Fence k) storeless h = let lt = h.1 in omega arith
      instruction_not (Immediate d n) storeless h = let lt = h.1 in omega arith
      instruction_not (Move d b) storeless h = let lt = h.1 in omega arith
      instruction_not (AddImmediate d b n) storeless h = let lt = h.1 in omega arith
      instruction_not (Operate o d b c) storeless h = let lt = h.1 in omega arith
      instruction_not (Compare b c) storeless h = let lt = h.1 in omega arith
      instruction_not (CompareImmediate b n) storeless h = let lt = h.1 in omega arith
      instruction_not (Branch c l) storeless h = let lt = h.1 in omega arith
      instruction_not (Jump l) storeless h = let lt = h.1 in omega arith

  -- nothing is stored where no line is a store
  no_later : (xs : List Line) (k : ℕ) → HasNoStore xs k (length xs) → (w : FreeWalk) (v : Value)
      → Keeps V (drop k xs) (fresh w) v → ⊥
  no_later [] zero storeless w v h = none_kept w v h
  no_later [] (suc k) storeless w v h = none_kept w v h
  no_later (x ∷ xs) (suc k) storeless w v h =
      no_later xs k (λ j d le lt. storeless (suc j) d (omega arith) (omega arith)) w v h
  no_later (x ∷ xs) zero storeless w v h =
      elim
      (line_keeps V xs (goes_by (length V) xs false x) (goes_by (length V) xs true x) w.seeking
      x w refl refl refl v h) [
        | inl here ↦ not_stored w.seeking x w v (storeless zero x (omega arith) (omega arith)) here
        | inr there ↦ no_later xs zero
            (λ j d le lt. storeless (suc j) d (omega arith) (omega arith)) there.0 v there.2
      ]

  pub no_store : (old : List Value) → HasNoStore lines 0 (length lines)
      → AreAdded (Stores lines first V) old old
  no_store old storeless = record {
    longer = omega arith;
    unchanged = λ _. refl;
    kept = λ v h. h;
    sound = λ v h. inl h;
    whole = λ few v s one. absurd (no_later lines 0 storeless begin v s);
  }

  pub way_ends : (k : ℕ) (walks : List FreeWalk) (old stored : List Value)
      → HasNoStore lines k (length lines) → IsUnderWay lines first V k walks old stored
      → AreAdded (Stores lines first V) old stored
  way_ends k walks old stored storeless u = record {
    longer = u.longer;
    unchanged = u.unchanged;
    kept = u.kept;
    sound = u.sound;
    whole = λ few v s one. elim (u.whole few v s one) [
      | inl here ↦ here
      | inr there ↦ absurd (no_later lines k storeless there.0 v there.2)
    ];
  }

  way_step : (x : Line) (xs : List Line) (k : ℕ) (walks next : List FreeWalk)
      (old stored more : List Value) (on there : Bool) → drop k lines ≡ x ∷ xs
      → drop (k + 1) lines ≡ xs
      → on ≡ goes_by (length V) xs false x → there ≡ goes_by (length V) xs true x
      → IsUnderWay lines first V k walks old stored → AreAdded (SomeStores x walks) stored more
      → next ≡ flat_map (next_of V on there x) walks
      → IsUnderWay lines first V (k + 1) next old more
  way_step x xs k walks next old stored more on there here rest p q u added n = record {
    goes =
        subst (λ (ys : List Line). All (λ w. 0 < count_free (length V) ys w.seeking) next)
        (sym rest) (all_from_contains (λ w. 0 < count_free (length V) xs w.seeking) next (λ m h.
        let (w, within, found) = from m h in
        line_goes V xs on there w.seeking x w refl p q m (alive w within) found));
    later = λ m h v k.
        let (w, within, found) = from m h in
        u.later w within v (subst (λ (ys : List Line). Keeps V ys (fresh w) v) (sym here)
        (line_later V xs on there w.seeking x w refl p q v m found
        (subst (λ (ys : List Line). Keeps V ys (fresh m) v) rest k)));
    longer = let a = u.longer in let b = added.longer in omega arith;
    unchanged =
        λ same.
        let a = u.longer in
        let b = added.longer in u.unchanged (omega arith) ∙ added.unchanged (omega arith);
    kept = λ v h. added.kept v (u.kept v h);
    sound = λ v h. elim (added.sound v h) [
      | inl w ↦ u.sound v w
      | inr w ↦
          let (m, within, found) = w.0 in
          inr (
            u.later m within v (subst (λ (ys : List Line). Keeps V ys (fresh m) v) (sym here)
                (line_here V xs on there m.seeking x m refl p q v (alive m within) found)),
            w.1,
          )
    ];
    whole = λ few v s one. elim (u.whole (let b = added.longer in omega arith) v s one) [
      | inl w ↦ inl (added.kept v w)
      | inr w ↦
          let (m, within, k) = w in
          elim
          (line_keeps V xs on there m.seeking x m refl p q v
          (subst (λ (ys : List Line). Keeps V ys (fresh m) v) here k)) [
            | inl now ↦ inl (added.whole few v (m, within, now) one)
            | inr after_it ↦
                let (c, found, g) = after_it in
                inr (
                  c,
                  subst (λ (zs : List FreeWalk). Contains zs c) (sym n)
                      (contains_flat_map (next_of V on there x) walks m c within found),
                  subst (λ (ys : List Line). Keeps V ys (fresh c) v) (sym rest) g,
                )
          ]
    ];
  }
    where
      from : (m : FreeWalk) → Contains next m
          → (w : FreeWalk) × Contains walks w × Contains (next_of V on there x w) m
      from m h =
          flat_map_contains (next_of V on there x) walks m
          (subst (λ (zs : List FreeWalk). Contains zs m) n h)

      alive : (w : FreeWalk) → Contains walks w → 0 < count_free (length V) (x ∷ xs) w.seeking
      alive w within =
          subst (λ (ys : List Line). 0 < count_free (length V) ys w.seeking) here
          (All-contains (λ z. 0 < count_free (length V) (drop k lines) z.seeking) walks w u.goes
          within)

  pub way_on : (k : ℕ) (d : Line) (walks next : List FreeWalk) (old stored more : List Value)
      (on there : Bool) → k < length lines
      → on ≡ goes_by (length V) (drop (k + 1) lines) false (get_or lines k d)
      → there ≡ goes_by (length V) (drop (k + 1) lines) true (get_or lines k d)
      → IsUnderWay lines first V k walks old stored
      → AreAdded (SomeStores (get_or lines k d) walks) stored more
      → next ≡ flat_map (next_of V on there (get_or lines k d)) walks
      → IsUnderWay lines first V (k + 1) next old more
  way_on k d walks next old stored more on there lt p q u added n =
      way_step (get_or lines k d) (drop (k + 1) lines) k walks next old stored more on there
      (rw add-one (drop-cons lines k d lt)) refl p q u added n
