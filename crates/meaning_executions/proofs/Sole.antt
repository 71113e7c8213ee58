-- No two executions are the same as one.
use Rattle.std.proofs.Common.{ℕ, suc, ◌≡◌, ◌<◌, ◌+◌, Bool, true, false, List, [], ◌∷◌, length, Some, None, slice_get, if◌then◌else◌, refl, sym, ap, ap₂, subst, ◌∙◌, arith}
use Rattle.std.specs.List.{AllZip}
use Rattle.std.proofs.lemmas.Option.{same_Some}
use Rattle.text_values.specs.declared.test.Test.{Test}
use Rattle.text_values.specs.TestValue.{Content, content_of}
use Rattle.thread_runs.specs.declared.value.Value as numbered_value
use Rattle.thread_runs.specs.declared.instruction.Program.{Program}
use Rattle.thread_runs.specs.declared.instruction.RunStep.{RunStep}
use Rattle.thread_runs.specs.declared.instruction.Event as run_events
use Rattle.thread_runs.specs.Machine as machine
use Rattle.thread_runs.specs.Runs as by_number
use Rattle.thread_runs.specs.AllRuns.{thread_of}
use Rattle.ppc_lowering.specs.Domain.{InDomainAt, load_total}
use Rattle.ppc_lowering.specs.Lowering.{IsProgram}
use Rattle.candidates.specs.Executions as candidates
use Rattle.meaning.specs.Names.{Name, locations}
use Rattle.meaning.specs.Machine.{Value, is_load}
use Rattle.meaning.specs.Runs.{Instance, Run, IsRun, run_of, lines_of_thread, initial_state}
use Rattle.meaning.specs.Domain.{InDomain}
use Rattle.meaning.specs.Executions.{Event, Execution}
use Rattle.meaning_executions.specs.Values as values
use Rattle.meaning_executions.specs.Values.{IsSameValue, AreSameValues, AreOneToOne}
use Rattle.meaning_executions.specs.Runs as runs
use Rattle.meaning_executions.specs.Runs.{AreSameSteps, RunsAlike}
use Rattle.meaning_executions.specs.Domain.{IsNumberedRun}
use Rattle.meaning_executions.proofs.Located.{rises}
use Rattle.meaning_executions.proofs.Machines.{apart, one_to_one, loading}
use Rattle.meaning_executions.proofs.Starts.{runs_alike}
use Rattle.meaning_executions.proofs.Rounds.{values_down, run_by_name}
use Rattle.meaning_executions.proofs.Domains.{same_domain}
use Rattle.meaning_executions.specs.Events.{IsNumbered, named_events}
use Rattle.meaning_executions.specs.ThreadRuns.{IsSameThreadRun, AreSameThreadRuns}
use Rattle.meaning_executions.specs.Executions.{IsSameExecution}
use Rattle.meaning_executions.proofs.Lists.{turned, one_left}
use Rattle.meaning_executions.proofs.Taking.{loaded_values, thread_took}
use Rattle.meaning_executions.proofs.Numbering.{named_once}
use Rattle.meaning_executions.proofs.Pairing.{run_named, run_numbered}
use Rattle.meaning_executions.proofs.Threads.{same_long}

-- ---- Values

-- the values that the loads among these steps load
abbrev numbered_values : List RunStep → List numbered_value.Value
numbered_values [] = []
numbered_values (s ∷ steps) =
    if machine.is_load s.instruction then s.loaded ∷ numbered_values steps
    else numbered_values steps

one_value : (names : List Name) (b c : Bool) → b ≡ c → (v : numbered_value.Value) (w : Value)
    (vs : List numbered_value.Value) (ws : List Value) → IsSameValue names v w
    → AllZip (IsSameValue names) vs ws
    → AllZip (IsSameValue names) (if b then v ∷ vs else vs) (if c then w ∷ ws else ws)
one_value names true true same v w vs ws one rest = (one, rest)
one_value names true false same v w vs ws one rest = absurd cc
one_value names false true same v w vs ws one rest = absurd cc
one_value names false false same v w vs ws one rest = rest

values_loaded : (names labels : List Name) {steps : List RunStep} {events : List run_events.Event}
    {is : List Instance} → AreSameSteps names labels steps events is
    → AllZip (IsSameValue names) (numbered_values steps) (loaded_values is)
values_loaded names labels runs.none = tt
values_loaded names labels (runs.more {s = s} {steps = steps} {i = i} {instances = is} instruction loaded does rest) =
    one_value names (machine.is_load s.instruction) (is_load i.instruction)
    (ap machine.is_load instruction ∙ loading labels i.instruction) s.loaded i.loaded
    (numbered_values steps) (loaded_values is) loaded (values_loaded names labels rest)

pub zip_of : (names : List Name) {vs : List numbered_value.Value} {ws : List Value}
    → AreSameValues names vs ws → AllZip (IsSameValue names) vs ws
zip_of names values.none = tt
zip_of names (values.more one rest) = (one, zip_of names rest)

one_right : {X Y : Type 0} (R : X → Y → Type 0) → ((x : X) (y z : Y) → R x y → R x z → y ≡ z)
    → (xs : List X) (ys zs : List Y) → AllZip R xs ys → AllZip R xs zs → ys ≡ zs
one_right R one xs ys zs h g =
    one_left (λ y x. R x y) (λ y z x. one x y z) ys zs xs (turned R xs ys h) (turned R xs zs g)

-- ---- Runs

module _ (t : Content) (thread : ℕ) (r : by_number.Run) (q s : Run) where
  same_loads : IsSameThreadRun t thread r q → IsSameThreadRun t thread r s
      → loaded_values q.instances ≡ loaded_values s.instances
  same_loads h g =
      let names : List Name = locations t in
      let one : AreOneToOne names = one_to_one names (apart names (rises t)) in
      one_right (IsSameValue names) (λ v w x a b. one.by_name v w x a b)
      (numbered_values r.outcome.walk.steps) (loaded_values q.instances) (loaded_values s.instances)
      (values_loaded names h.labels h.same.steps) (values_loaded names g.labels g.same.steps)

  one_run_named : IsRun t (InDomain t) thread q → IsRun t (InDomain t) thread s
      → IsSameThreadRun t thread r q → IsSameThreadRun t thread r s → q ≡ s
  one_run_named (vs, all, is) (ws, others, of) h g =
      let same : vs ≡ ws =
      (thread_took t thread vs q is).values ∙ same_loads h g ∙ sym (thread_took t thread ws s of).values in
      same_Some _ _ (sym is
      ∙ ap (λ (us : List Value). run_of (lines_of_thread t thread) None (initial_state t thread) us) same
      ∙ of)

module _ (t : Test) (p : Program) (of : IsProgram t p) where
  abbrev names : List Name
  names = locations (content_of t)

  module _ (thread : ℕ) (there : thread < length t.threads.items) (q : Run) where
    -- a run by number takes the values of the run by name
    values_are : (r : by_number.Run) → IsNumberedRun p thread r
        → IsSameThreadRun (content_of t) thread r q
        → AllZip (IsSameValue names) r.values (loaded_values q.instances)
    values_are r (all, is) one =
        let alike : RunsAlike (content_of t) p thread = runs_alike t p of thread there in
        let ws : _ = values_down names (InDomainAt p (load_total p)) (InDomain (content_of t))
        (same_domain t p of).by_name r.values all in
        let own : _ = run_by_name names alike.labels (alike.runs r.values ws.0 ws.1) r.outcome is in
        let values : ws.0 ≡ loaded_values q.instances =
        (thread_took (content_of t) thread ws.0 own.0 own.1).values
        ∙ same_loads (content_of t) thread r own.0 q
        (record { labels = alike.labels; numbered = alike.numbered; same = own.2 }) one in
        subst (λ (us : List Value). AllZip (IsSameValue names) r.values us) values
        (zip_of names ws.1)

    one_run_numbered : (r s : by_number.Run) → IsNumberedRun p thread r → IsNumberedRun p thread s
        → IsSameThreadRun (content_of t) thread r q → IsSameThreadRun (content_of t) thread s q
        → r ≡ s
    one_run_numbered r s first second h g =
        let one : AreOneToOne names = one_to_one names (apart names (rises (content_of t))) in
        let same : r.values ≡ s.values =
        one_left (IsSameValue names) (λ v x w a b. one.by_number v x w a b) r.values s.values
        (loaded_values q.instances) (values_are r first h) (values_are s second g) in
        let ends : r.outcome ≡ s.outcome =
        same_Some _ _ (sym first.1
        ∙ ap (λ (vs : List numbered_value.Value). by_number.run_of (thread_of p thread).lines (thread_of p thread).first vs) same
        ∙ second.1) in
        ap₂ (λ (vs : List numbered_value.Value) (o : by_number.RunOutcome). record { values = vs; outcome = o })
        same ends

-- two lists with the same elements are one
same_elements : {X : Type 0} (xs ys : List X) → length xs ≡ length ys
    → ((k : ℕ) (x y : X) → slice_get xs k ≡ Some x → slice_get ys k ≡ Some y → x ≡ y) → xs ≡ ys
same_elements [] [] long h = refl
same_elements [] (y ∷ ys) long h = absurd (omega arith)
same_elements (x ∷ xs) [] long h = absurd (omega arith)
same_elements {X} (x ∷ xs) (y ∷ ys) long h =
    ap₂ (λ (z : X) (zs : List X). z ∷ zs) (h 0 x y refl refl)
    (same_elements xs ys (omega arith) (λ k v w. h (suc k) v w))

abbrev AreNamedRuns : Content → List Run → Type 0
AreNamedRuns t qs =
    (k : ℕ) (q : Run) → slice_get qs k ≡ Some q → IsRun t (InDomain t) k q

runs_named_once : (t : Content) (rs : List by_number.Run) (qs us : List Run)
    → AreSameThreadRuns t 0 rs qs → AreSameThreadRuns t 0 rs us → AreNamedRuns t qs
    → AreNamedRuns t us → qs ≡ us
runs_named_once t rs qs us h g first second =
    let one : _ = same_long h in
    let two : _ = same_long g in
    same_elements qs us (omega (arith, one, two)) (λ k q u at there.
    let a : _ = run_numbered t 0 h k q at in
    let b : _ = run_numbered t 0 g k u there in
    let same : b.0 ≡ a.0 = same_Some _ _ (sym b.1 ∙ a.1) in
    let zeroth : 0 + k ≡ k = omega arith in
    one_run_named t k a.0 q u (first k q at) (second k u there)
    (subst (λ (n : ℕ). IsSameThreadRun t n a.0 q) zeroth a.2)
    (subst (λ (r : by_number.Run). IsSameThreadRun t k r u) same
    (subst (λ (n : ℕ). IsSameThreadRun t n b.0 u) zeroth b.2)))

-- ---- Executions

module _ (t : Content) (x : candidates.Execution) (y z : Execution) where
  pub one_named : AreNamedRuns t y.runs → AreNamedRuns t z.runs → IsSameExecution t x y
      → IsSameExecution t x z → y ≡ z
  one_named first second h g =
      let runs_same : y.runs ≡ z.runs =
      runs_named_once t x.runs y.runs z.runs h.runs g.runs first second in
      let es : List Event = named_events t y.runs in
      let names_same : named_events t z.runs ≡ es =
      ap (λ (qs : List Run). named_events t qs) (sym runs_same) in
      let one : (n : ℕ) (a b : Event) → IsNumbered es n a → IsNumbered es n b → a ≡ b =
      λ n a b at there. same_Some _ _ (sym at ∙ there) in
      let reads : y.reads_from ≡ z.reads_from =
      one_right (IsNumbered es) one x.reads_from y.reads_from z.reads_from h.reads_from
      (subst (λ (fs : List Event). AllZip (IsNumbered fs) x.reads_from z.reads_from) names_same
      g.reads_from) in
      let orders : y.coherence ≡ z.coherence =
      one_right (AllZip (IsNumbered es))
      (λ ns ks ls at there. one_right (IsNumbered es) one ns ks ls at there) x.coherence
      y.coherence z.coherence h.coherence
      (subst (λ (fs : List Event). AllZip (AllZip (IsNumbered fs)) x.coherence z.coherence)
      names_same g.coherence) in
      ap₂
      (λ (qs : List Run) (rest : List Event × List (List Event)). record {
        runs = qs;
        reads_from = rest.0;
        coherence = rest.1;
      }) runs_same (ap₂ (λ (a : List Event) (b : List (List Event)). (a, b)) reads orders)

module _ (t : Test) (p : Program) (of : IsProgram t p) (x z : candidates.Execution)
    (y : Execution) where
  pub one_numbered : ((k : ℕ) (r : by_number.Run) → slice_get x.runs k ≡ Some r
      → (k < length t.threads.items) × IsNumberedRun p k r)
      → ((k : ℕ) (r : by_number.Run) → slice_get z.runs k ≡ Some r
      → (k < length t.threads.items) × IsNumberedRun p k r)
      → IsSameExecution (content_of t) x y → IsSameExecution (content_of t) z y → x ≡ z
  one_numbered first second h g =
      let es : List Event = named_events (content_of t) y.runs in
      let long : _ = same_long h.runs in
      let also : _ = same_long g.runs in
      let zero_is : (k : ℕ) → 0 + k ≡ k = λ k. omega arith in
      let runs_same : x.runs ≡ z.runs =
      same_elements x.runs z.runs (omega (arith, long, also)) (λ k r s at there.
      let a : _ = run_named (content_of t) 0 h.runs k r at in
      let b : _ = run_named (content_of t) 0 g.runs k s there in
      let same : b.0 ≡ a.0 = same_Some _ _ (sym b.1 ∙ a.1) in
      one_run_numbered t p of k (first k r at).0 a.0 r s (first k r at).1
      (second k s there).1
      (subst (λ (n : ℕ). IsSameThreadRun (content_of t) n r a.0) (zero_is k) a.2)
      (subst (λ (u : Run). IsSameThreadRun (content_of t) k s u) same
      (subst (λ (n : ℕ). IsSameThreadRun (content_of t) n s b.0) (zero_is k) b.2))) in
      let one : (m n : ℕ) (a : Event) → IsNumbered es m a → IsNumbered es n a → m ≡ n =
      λ m n a. named_once (content_of t) y.runs m n a in
      let reads : x.reads_from ≡ z.reads_from =
      one_left (IsNumbered es) one x.reads_from z.reads_from y.reads_from h.reads_from g.reads_from in
      let orders : x.coherence ≡ z.coherence =
      one_left (AllZip (IsNumbered es))
      (λ ms ns ks at there. one_left (IsNumbered es) one ms ns ks at there) x.coherence z.coherence
      y.coherence h.coherence g.coherence in
      ap₂
      (λ (rs : List by_number.Run) (rest : List ℕ × List (List ℕ)). record {
        runs = rs;
        reads_from = rest.0;
        coherence = rest.1;
      }) runs_same (ap₂ (λ (a : List ℕ) (b : List (List ℕ)). (a, b)) reads orders)
