-- The domain loses no execution.
use Rattle.std.proofs.Common.{ℕ, zero, suc, ◌≡◌, ◌<◌, ◌≤◌, ◌+◌, inl, inr, true, false, eqb, List, [], ◌∷◌, length, refl, sym, ap, subst, ◌∙◌, arith, Some, IsTrue}
use Rattle.std.specs.List.{Contains, IsDistinct, AllByRecursion, list_any}
use Rattle.std.proofs.lemmas.Bool.{cases_eq, cases_lt, false≢true}
use Rattle.std.proofs.lemmas.Bool.Decides.{eqb_tells}
use Rattle.std.proofs.lemmas.Map.Steps.{length-le_from_distinct_below}
use Rattle.std.proofs.lemmas.List.{get_or_past}
use Rattle.std.proofs.lemmas.List.Elements.{Contains-push, Contains-append_left, Contains-append_right}
use Rattle.thread_runs.specs.declared.value.Value.{Value}
use Rattle.thread_runs.specs.declared.instruction.Instruction.{Instruction}
use Rattle.thread_runs.specs.declared.instruction.Instruction.TheVariants.{Immediate, Move, AddImmediate, Operate, Load, LoadIndexed, Store, StoreIndexed, Compare, CompareImmediate, Branch, Jump, Fence}
use Rattle.thread_runs.specs.declared.instruction.RunStep.{RunStep}
use Rattle.thread_runs.specs.declared.instruction.Event.{Event}
use Rattle.thread_runs.specs.declared.instruction.Event.TheVariants as run_event
use Rattle.thread_runs.specs.declared.state.State.{State}
use Rattle.thread_runs.specs.Machine.{register, event_of, is_load, sum_of}
use Rattle.thread_runs.specs.Runs.{Walk, RunOutcome, Thread, walk_at, run_of, executed, loaded_at, no_step, StoresFreely, InDomain}
use Rattle.taints.specs.Chains.{Executed, Register, IsNeed, IsStoredRegister}
use Rattle.taints.specs.Law.{state_at, events_before, IsWalkFrom, IsPicked}
use Rattle.dataflow.specs.Execution.{LoadSource, Initial, From, FreeExecution, IsFreeExecution, Node, LoadNode, StoreNode, IsEdge, EdgePath, LoadNeedsLoad, IsReadValue, loaded_value, executed_by, loaded_by}
use Rattle.taints.proofs.Agreement.{stores_the_same}
use Rattle.dataflow.proofs.Walks.{follow, IsWalk-started, state_prefix}
use Rattle.taints.proofs.Inversion.{Decision, decide_need}

-- Each element comes after as many rounds as there are elements, if it comes a round after those
-- that precede it.
module _ (n : ℕ) (R : ℕ → ℕ → Type 0) (In : ℕ → ℕ → Type 0)
    (acyclic : (l : ℕ) (through : List ℕ) → EdgePath R l through l → ⊥)
    (round : (k l : ℕ) → l < n → ((m : ℕ) → m < n → R m l → In k m) → In (suc k) l) where
  abbrev Passed : ℕ → List ℕ → Type 0
  Passed l [] = Unit {0}
  Passed l (x ∷ xs) = (x < n) × ((through : List ℕ) × EdgePath R l through x) × Passed l xs

  pass : (m l : ℕ) (xs : List ℕ) → R m l → Passed l xs → Passed m xs
  pass m l [] r p = tt
  pass m l (x ∷ xs) r p = (p.0, (l ∷ p.1.0, (r, p.1.1)), pass m l xs r p.2)

  apart : (l : ℕ) (xs : List ℕ) → Passed l xs → AllByRecursion (λ y. eqb l y ≡ false) xs
  apart l [] p = tt
  apart l (x ∷ xs) p = (
    other l x (λ same. acyclic l p.1.0 (subst (λ y. EdgePath R l p.1.0 y) (sym same) p.1.1)),
    apart l xs p.2,
  )
    where
      other : (a b : ℕ) → (a ≡ b → ⊥) → eqb a b ≡ false
      other a b ne = elim (eqb_tells a b) [ inl t ↦ absurd (ne t.1) | inr t ↦ t.0 ]

  below : (l : ℕ) (xs : List ℕ) → l < n → Passed l xs → (q : ℕ) → list_any (eqb q) (l ∷ xs) ≡ true
      → q < n
  below l xs lt p q found = elim (eqb_tells q l) [
    | inl t ↦ subst (λ y. y < n) (sym t.1) lt
    | inr t ↦ among xs p (rw t.0 at found)
  ]
    where
      among : (ys : List ℕ) → Passed l ys → list_any (eqb q) ys ≡ true → q < n
      among [] p none = absurd (false≢true none)
      among (y ∷ ys) p found = elim (eqb_tells q y) [
        | inl t ↦ subst (λ z. z < n) (sym t.1) p.0
        | inr t ↦ among ys p.2 (rw t.0 at found)
      ]

  descent : (k l : ℕ) (xs : List ℕ) → l < n → Passed l xs → IsDistinct eqb xs → length xs + k ≡ n
      → In k l
  unfolding IsDistinct
  descent zero l xs lt p distinct many =
      let all : length (l ∷ xs) ≤ n = length-le_from_distinct_below (l ∷ xs) n (apart l xs p, distinct) (below l xs lt p) in
      absurd (omega arith)
  descent (suc k) l xs lt p distinct many =
      round k l lt (λ m m_lt r. descent k m (l ∷ xs) m_lt (lt, ([], r), pass m l xs r p)
      (apart l xs p, distinct) (omega arith))

  pub all_there : (l : ℕ) → l < n → In n l
  unfolding IsDistinct
  all_there l lt = descent n l [] lt tt tt (omega arith)

-- an instruction of a kind that does something stands in the run
in_run : (steps : List RunStep) (j : ℕ) → (executed steps j ≡ Jump 0 → ⊥) → j < length steps
in_run steps j other = elim (cases_lt j (length steps)) [
  | inl lt ↦ lt
  | inr ge ↦ absurd (other (ap (λ (x : RunStep). x.instruction) (get_or_past steps j no_step ge)))
]

not_jump : (i : Instruction) (q : ℕ) → IsStoredRegister i (Register q) → i ≡ Jump 0 → ⊥
not_jump i q stored e = subst (λ (y : Instruction). IsStoredRegister y (Register q)) e stored

load_no_jump : (i : Instruction) → IsTrue (is_load i) → i ≡ Jump 0 → ⊥
load_no_jump i load e = false≢true (subst (λ (y : Instruction). IsTrue (is_load y)) e load)

-- a store writes what is in its register
stores_event : (i : Instruction) (v : Value) (s : State) (q : ℕ) → IsStoredRegister i (Register q)
    → (a : Value) × (event_of i v s ≡ run_event.Store a (register s q) ∷ [])
stores_event (Immediate d n) v s q e = absurd e
stores_event (Move d a) v s q e = absurd e
stores_event (AddImmediate d a n) v s q e = absurd e
stores_event (Operate o d a b) v s q e = absurd e
stores_event (Load d a) v s q e = absurd e
stores_event (LoadIndexed d a b) v s q e = absurd e
stores_event (Store d a) v s q e =
    (register s a, ap (λ (r : ℕ). run_event.Store (register s a) (register s r) ∷ []) (inside d q (sym e)))
  where
    inside : (d q : ℕ) → Register d ≡ Register q → d ≡ q
    inside d q e = cc
stores_event (StoreIndexed d a b) v s q e = (
  sum_of (register s a) (register s b),
  ap (λ (r : ℕ). run_event.Store (sum_of (register s a) (register s b)) (register s r) ∷ [])
      (inside d q (sym e)),
)
  where
    inside : (d q : ℕ) → Register d ≡ Register q → d ≡ q
    inside d q e = cc
stores_event (Compare a b) v s q e = absurd e
stores_event (CompareImmediate a n) v s q e = absurd e
stores_event (Branch c l) v s q e = absurd e
stores_event (Jump l) v s q e = absurd e
stores_event (Fence f) v s q e = absurd e

-- the event of a index is among the events
has_event : (f : Executed) (l : ℕ → Value) (s : State) (n j : ℕ) (e : Event) → j < n
    → Contains (event_of (f j) (l j) (state_at f l s j)) e → Contains (events_before f l s n) e
has_event f l s zero j e lt c = absurd (omega arith)
has_event f l s (suc n) j e lt c = elim (cases_eq j n) [
  | inl same ↦ Contains-append_right (events_before f l s n)
      (event_of (f n) (l n) (state_at f l s n)) e (subst
      (λ (k : ℕ). Contains (event_of (f k) (l k) (state_at f l s k)) e) same c)
  | inr ne ↦ Contains-append_left (events_before f l s n) (event_of (f n) (l n) (state_at f l s n))
      e (has_event f l s n j e (omega arith) c)
]

-- a value if it was needed, else another one
chosen : {A : Type 0} → Decision A → Value → Value → Value
chosen (inl y) v d = v
chosen (inr n) v d = d

chosen-needed : {A : Type 0} (x : Decision A) (v d : Value) → A → chosen x v d ≡ v
unfolding chosen
chosen-needed (inl y) v d a = refl
chosen-needed (inr n) v d a = absurd (n a)

chosen-allowed : {A : Type 0} (P : Value → Type 0) (x : Decision A) (v d : Value) → (A → P v) → P d
    → P (chosen x v d)
unfolding chosen
chosen-allowed P (inl y) v d a p = a y
chosen-allowed P (inr n) v d a p = p

abbrev picked_value : RunOutcome → ℕ → Value → ℕ → Value
picked_value r j d i = chosen (decide_need (executed r.walk.steps) i j) (loaded_at r.walk.steps i) d

-- what the free run stores at the index
same_store : (s : State) (r : RunOutcome) (d : Value) (j q : ℕ) (f : Walk)
    → IsPicked (picked_value r j d) r.walk f
    → IsStoredRegister (executed r.walk.steps j) (Register q)
    → register (state_at (executed f.steps) (loaded_at f.steps) s j) q
    ≡ register (state_at (executed r.walk.steps) (loaded_at r.walk.steps) s j) q
same_store s r d j q f p stored =
    let lt : j < length r.walk.steps = in_run r.walk.steps j (not_jump (executed r.walk.steps j) q stored) in
    ap (λ (t : State). register t q) (state_prefix (executed f.steps) (executed r.walk.steps)
    (loaded_at f.steps) (loaded_at f.steps) s j (λ k k_lt. p.same k (omega arith))
    (λ k k_lt. refl))
    ∙ sym (stores_the_same (executed r.walk.steps) s (loaded_at r.walk.steps) (loaded_at f.steps) j
    (λ i need.
    sym (p.picked i (in_run r.walk.steps i (load_no_jump (executed r.walk.steps i) need.0)) need.0
    ∙ chosen-needed (decide_need (executed r.walk.steps) i j) (loaded_at r.walk.steps i) d need)) q
    stored)

stored_in : (s : State) (r : RunOutcome) (d : Value) (j q : ℕ) (f : Walk) → IsWalkFrom s f
    → IsPicked (picked_value r j d) r.walk f
    → IsStoredRegister (executed r.walk.steps j) (Register q)
    → (a : Value)
    × Contains f.events (run_event.Store a (register
    (state_at (executed r.walk.steps) (loaded_at r.walk.steps) s j) q))
stored_in s r d j q f x p stored =
    let lt : j < length r.walk.steps = in_run r.walk.steps j (not_jump (executed r.walk.steps j) q stored) in
    let stored' : IsStoredRegister (executed f.steps j) (Register q) = subst (λ (i : Instruction). IsStoredRegister i (Register q)) (sym (p.same j lt)) stored in
    let (a, e) = stores_event (executed f.steps j) (loaded_at f.steps j) (state_at (executed f.steps) (loaded_at f.steps) s j) q stored' in
    let e' : event_of (executed f.steps j) (loaded_at f.steps j) (state_at (executed f.steps) (loaded_at f.steps) s j) ≡ run_event.Store a (register (state_at (executed r.walk.steps) (loaded_at r.walk.steps) s j) q) ∷ []
    = e ∙ ap (λ (v : Value). run_event.Store a v ∷ []) (same_store s r d j q f p stored) in
    let w : Event = run_event.Store a (register (state_at (executed r.walk.steps) (loaded_at r.walk.steps) s j) q) in (
      a,
      subst (λ (es : List Event). Contains es w) (sym x.events)
          (has_event (executed f.steps) (loaded_at f.steps) s (length f.steps) j w
          (omega (arith, p.long))
          (subst (λ (es : List Event). Contains es w) (sym e') (Contains-push [] w))),
    )

-- a store of a run stores its value in a free run too, in which the loads that it needs keep their
-- values and the others have an allowed one
pub stored_freely : (threads : List Thread) (t : Thread) (vs : List Value) (r : RunOutcome)
    (P : Value → Type 0) (d : Value) (j q : ℕ)
    → Contains threads t → run_of t.lines t.first vs ≡ Some r
    → IsStoredRegister (executed r.walk.steps j) (Register q) → P d
    → ((i : ℕ) → IsNeed (executed r.walk.steps) i j → P (loaded_at r.walk.steps i))
    → StoresFreely threads P (register
    (state_at (executed r.walk.steps) (loaded_at r.walk.steps) t.first j) q)
stored_freely threads t vs r P d j q there ran stored default_ok needed_ok =
    let free = follow P (picked_value r j d) t.first
    (λ i. chosen-allowed P (decide_need (executed r.walk.steps) i j) (loaded_at r.walk.steps i) d
    (needed_ok i) default_ok)
    t.lines (walk_at t.first) (walk_at t.first) vs r ran (IsWalk-started t.first) refl refl
    (record {
      long = omega arith;
      same = λ n lt. absurd (omega arith);
      picked = λ n lt load. absurd (omega arith);
    }) in
    let found = stored_in t.first r d j q free.outcome.walk free.walk free.picked stored in
    (t, there, free.choices, free.values, free.allowed, free.outcome, free.free, found.0, found.1)

-- a way by loads is a way by loads and stores
longer_way : (e : FreeExecution) (a : ℕ) (through : List ℕ) (b : ℕ) → EdgePath (LoadNeedsLoad e) a through b
    → (nodes : List Node) × EdgePath (IsEdge e) (LoadNode a) nodes (LoadNode b)
longer_way e a [] b w =
    let (j, source, need) = w in
    (StoreNode (e.load a).thread j ∷ [], ((refl, need), source))
longer_way e a (c ∷ cs) b w =
    let (j, source, need) = w.0 in
    let (nodes, rest) = longer_way e c cs b w.1 in
    (StoreNode (e.load a).thread j ∷ LoadNode c ∷ nodes, ((refl, need), (source, rest)))

in_every : (initial : List Value) (threads : List Thread) (k : ℕ) (v : Value) → Contains initial v
    → InDomain initial threads k v
in_every initial threads zero v c = c
in_every initial threads (suc k) v c = inl (in_every initial threads k v c)

module _ (initial : List Value) (threads : List Thread) (e : FreeExecution)
    (x : IsFreeExecution initial threads e) where
  from_source : (s : LoadSource) (k l : ℕ) → l < e.count → (e.load l).source ≡ s
      → IsReadValue e initial threads s (loaded_value e l)
      → ((m : ℕ) → m < e.count → LoadNeedsLoad e m l → InDomain initial threads k (loaded_value e m))
      → InDomain initial threads (suc k) (loaded_value e l)
  from_source Initial k l lt is c before = inl (in_every initial threads k (loaded_value e l) c)
  from_source (From t j) k l lt is c before =
      inr (
        subst (λ (v : Value). StoresFreely threads (InDomain initial threads k) v) (sym c.1.2)
            (stored_freely threads (e.ran t).thread (e.ran t).values (e.ran t).outcome
            (InDomain initial threads k) x.some_initial.0 j c.1.0
            c.0 (x.runs t c.0) c.1.1 (in_every initial threads k x.some_initial.0 x.some_initial.1)
            needed),
        x.proper l lt,
      )
    where
      needed : (i : ℕ) → IsNeed (executed_by e t) i j → InDomain initial threads k (loaded_by e t i)
      needed i need =
          let (m, m_lt, same_thread, same_place) = x.numbered t i need.0 in
          subst (λ (p : ℕ). InDomain initial threads k (loaded_by e t p)) same_place
          (subst (λ (u : ℕ). InDomain initial threads k (loaded_by e u (e.load m).index))
          same_thread
          (before m m_lt (
            j,
            is ∙ ap (λ (u : ℕ). From u j) (sym same_thread),
            subst (λ (u : ℕ). IsNeed (executed_by e u) (e.load m).index j) (sym same_thread)
                (subst (λ (p : ℕ). IsNeed (executed_by e t) p j) (sym same_place) need),
          )))

  pub nothing_lost : (l : ℕ) → l < e.count → InDomain initial threads e.count (loaded_value e l)
  nothing_lost = all_there e.count (LoadNeedsLoad e) (λ k l. InDomain initial threads k (loaded_value e l))
      (λ l through w.
      let (nodes, way) = longer_way e l through l w in x.acyclic (LoadNode l) nodes way)
      (λ k l lt before. from_source (e.load l).source k l lt refl (x.reads l lt) before)
