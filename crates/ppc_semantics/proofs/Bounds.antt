-- The bounds of each round, and of the combinations.
use Rattle.std.proofs.Common.{Vec, ℕ, zero, suc, ◌≡◌, ◌↔◌, ◌<◌, ◌≤◌, ◌+◌, ◌-◌, ◌*◌, ◌^◌, inl, inr, List, [], ◌∷◌, ◌++◌, length, get_or, min, vec_len, cond, Result, Ok, Err, mul_assoc, mul-le-mul, refl, sym, ap, subst, ◌∙◌, arith, add-one}
use Rattle.std.specs.List.{Contains, count_by}
use Rattle.std.specs.declared.alloc.Global.{Global}
use Rattle.std.specs.Result.{IsErrAnd, IfErr}
use Rattle.std.proofs.lemmas.Bool.{cases_lt}
use Rattle.std.proofs.lemmas.List.Sums.{sum_by-le-sum_by}
use Rattle.std.proofs.lemmas.List.Elements.{Contains-get_or, Contains-push, Contains-push_cases, Contains-append_left, All-contains, All-weaker}
use Rattle.thread_runs.specs.declared.value.Value.{Value}
use Rattle.thread_runs.specs.declared.instruction.Instruction.{Instruction}
use Rattle.thread_runs.specs.declared.instruction.Instruction.TheVariants.{Immediate, Move, AddImmediate, Operate, Load, LoadIndexed, Store, StoreIndexed, Compare, CompareImmediate, Branch, Jump, Fence}
use Rattle.thread_runs.specs.declared.instruction.Line.{Line}
use Rattle.thread_runs.specs.declared.instruction.Line.TheVariants.{Label, Does}
use Rattle.thread_runs.specs.declared.instruction.Program.{Program}
use Rattle.thread_runs.specs.declared.state.State.{State}
use Rattle.ppc_lowering.specs.declared.fault.EvalRefusal.TheVariants.{TooManyEvents, TooManyValues, TooManyRuns, TooManyCandidates, AddressFault, TooManyCombinations}
use Rattle.ppc_lowering.specs.declared.fault.DomainFault.{DomainFault}
use Rattle.ppc_lowering.specs.declared.fault.DomainFault.TheVariants.{Refused, OutOfMemory}
use Rattle.thread_runs.specs.Machine.{is_load}
use Rattle.thread_runs.specs.Runs.{Thread, StoresFreely}
use Rattle.thread_runs.specs.AllRuns.{thread_of, HasRuns}
use Rattle.thread_runs.specs.FreeRuns.{HasFreeRuns}
use Rattle.thread_runs.specs.ValueSet.{IsProperValue, IsValueSet}
use Rattle.thread_runs.specs.FreeWalks.{AreAdded}
use Rattle.ppc_lowering.specs.Domain.{threads_from, threads_of, makes_event, has_event, has_load, lines_with, event_total, load_total, AreProper, InDomainAt, IsDomainAt, IsBoundedRound, HasCombinations, LacksDomain, HasFewRuns, IsRoundFault, IsCombinationFault, IsNextDomain}

module _ (p : Program) where
  threads_have : (n : ℕ) (t : Thread) → Contains (threads_from p n) t
      → (j : ℕ) × (j < n) × (thread_of p j ≡ t)
  threads_have zero t h = absurd (let lt = h.1 in omega arith)
  threads_have (suc n) t h = elim (Contains-push_cases (threads_from p n) (thread_of p n) t h) [
    | inl w ↦ let (j, lt, e) = threads_have n t w in (j, (omega arith), e)
    | inr e ↦ (n, (omega arith), e)
  ]

  has_thread : (n j : ℕ) → j < n → Contains (threads_from p n) (thread_of p j)
  has_thread zero j lt = absurd (omega arith)
  has_thread (suc n) j lt = elim (cases_lt j n) [
    | inl less ↦ Contains-append_left (threads_from p n) (thread_of p n ∷ []) (thread_of p j)
        (has_thread n j less)
    | inr le ↦
        let same : n ≡ j = omega arith in
        subst (λ (k : ℕ). Contains (threads_from p n ++ thread_of p n ∷ []) (thread_of p k)) same
        (Contains-push (threads_from p n) (thread_of p n))
  ]

  -- the rounds
  pub first_is : (V : List Value) → IsValueSet V
      → ((u : Value) → Contains V u ↔ (Contains p.initial.items u × IsProperValue u)) → AreProper p
      → IsNextDomain p 0 V
  first_is V set exact proper = record {
    set = set;
    sound = λ v h. ((exact v).0 h).0;
    whole = λ few v h. (exact v).1 (h, All-contains IsProperValue p.initial.items v proper h);
  }

  stores_as : (ts : List Thread) (P Q : Value → Type 0) → ((v : Value) → P v → Q v) → (v : Value)
      → StoresFreely ts P v → StoresFreely ts Q v
  stores_as ts P Q weaker v h =
      let (t, there, bs, vs, within, f, e, a, found) = h in
      (t, there, bs, vs, All-weaker P Q weaker vs within, f, e, a, found)

  next_suc : (V W : List Value) → IsValueSet W → AreAdded (StoresFreely (threads_of p) (Contains V)) V W
      → (k : ℕ) → IsDomainAt p k V → IsNextDomain p (suc k) W
  next_suc V W set added k r = record {
    set = set;
    sound = λ v h. elim (added.sound v h) [
      | inl w ↦ inl ((r.exact v).0 w)
      | inr w ↦ inr (
        stores_as (threads_of p) (Contains V) (InDomainAt p k) (λ u. (r.exact u).0) v w.0,
        w.1,
      )
    ];
    whole = λ few v h. elim h [
      | inl w ↦ added.kept v ((r.exact v).1 w)
      | inr w ↦ added.whole few v
          (stores_as (threads_of p) (InDomainAt p k) (Contains V) (λ u. (r.exact u).1) v w.0) w.1
    ];
  }

  pub next_is : (V W : List Value) → IsValueSet W
      → AreAdded (StoresFreely (threads_of p) (Contains V)) V W → (k : ℕ) → IsDomainAt p k V
      → IsNextDomain p (k + 1) W
  next_is V W set added k r = rw add-one (next_suc V W set added k r)

  pub is_round : (k : ℕ) (V : List Value) → IsNextDomain p k V → length V ≤ 16 → IsDomainAt p k V
  is_round k V n few = record { set = n.set; exact = λ v. (n.sound v, n.whole few v) }

  pub is_within : (k : ℕ) (V : List Value) → IsDomainAt p k V → length V ≤ 16
      → HasFewRuns p V (vec_len p.threads) → IsBoundedRound p k
  is_within k V r few runs = record {
    values = V;
    round = r;
    few = few;
    runs =
        λ t h.
        let (j, lt, e) = threads_have (vec_len p.threads) t h in
        subst (λ (s : Thread). (n : ℕ) × HasFreeRuns s V n × (n ≤ 4096)) e (runs j lt);
  }

  pub round_fault : (k : ℕ) (V : List Value) → event_total p ≤ 128 → k ≤ load_total p
      → ((j : ℕ) → j < k → IsBoundedRound p j) → IsNextDomain p k V → (e : DomainFault)
      → IsRoundFault p V e → LacksDomain p e
  round_fault k V events bound before n (Refused TooManyValues) h = (
    k,
    record {
      events = events;
      bound = bound;
      before = before;
      fails = (
        V,
        n.set,
        (λ i d lt. n.sound (get_or V i d) (Contains-get_or V i d lt)),
        h,
      );
    },
  )
  round_fault k V events bound before n (Refused TooManyRuns) h =
      let (few, j, lt, m, counted, over) = h in (
        k,
        record {
          events = events;
          bound = bound;
          before = before;
          fails =
              record {
                values = V;
                round = is_round k V n few;
                few = few;
                thread = thread_of p j;
                there = has_thread (vec_len p.threads) j lt;
                runs = m;
                counted = counted;
                many = over;
              };
        },
      )
  round_fault k V events bound before n (Refused TooManyEvents) h = absurd h
  round_fault k V events bound before n (Refused TooManyCombinations) h = absurd h
  round_fault k V events bound before n (Refused TooManyCandidates) h = absurd h
  round_fault k V events bound before n (Refused AddressFault) h = absurd h
  round_fault k V events bound before n (OutOfMemory e) h = h

  pub combination_fault : (V : List Value) → event_total p ≤ 128
      → ((k : ℕ) → k ≤ load_total p → IsBoundedRound p k) → IsDomainAt p (load_total p) V → (e : DomainFault)
      → IsCombinationFault p V e → LacksDomain p e
  combination_fault V events rounds last (Refused TooManyCombinations) h =
      let (n, counted, over) = h in
      record {
        events = events;
        rounds = rounds;
        values = V;
        last = last;
        combinations = n;
        counted = counted;
        many = over;
      }
  combination_fault V events rounds last (Refused TooManyRuns) h = absurd h
  combination_fault V events rounds last (Refused TooManyValues) h = absurd h
  combination_fault V events rounds last (Refused TooManyEvents) h = absurd h
  combination_fault V events rounds last (Refused TooManyCandidates) h = absurd h
  combination_fault V events rounds last (Refused AddressFault) h = absurd h
  combination_fault V events rounds last (OutOfMemory e) h = h

  -- where nothing is added, nothing is added later
  module _ (V : List Value) (few : length V ≤ 16)
      (f : (k : ℕ) → IsDomainAt p k V → IsNextDomain p (k + 1) V) where
    stays : (d k : ℕ) → IsDomainAt p k V → IsDomainAt p (k + d) V
    stays zero k r = let e : k ≡ k + 0 = omega arith in subst (λ (n : ℕ). IsDomainAt p n V) e r
    stays (suc d) k r =
        let e : (k + 1) + d ≡ k + suc d = omega arith in
        subst (λ (n : ℕ). IsDomainAt p n V) e (stays d (k + 1) (is_round (k + 1) V (f k r) few))

    pub stays_to : (k n : ℕ) → k ≤ n → IsDomainAt p k V → IsDomainAt p n V
    stays_to k n le r =
        let e : k + (n - k) ≡ n = omega arith in
        subst (λ (m : ℕ). IsDomainAt p m V) e (stays (n - k) k r)

    pub within_to : (k : ℕ) → HasFewRuns p V (vec_len p.threads) → IsDomainAt p k V
        → ((j : ℕ) → j ≤ k → IsBoundedRound p j) → (j : ℕ) → IsBoundedRound p j
    within_to k runs r before j = elim (cases_lt k j) [
      | inl lt ↦ is_within j V (stays_to k j (omega arith) r) few runs
      | inr le ↦ before j le
    ]

-- a load is an event
load_one : (i : Instruction) → cond (is_load i) 1 0 ≤ cond (makes_event i) 1 0
load_one (Load d a) = omega arith
load_one (LoadIndexed d a b) = omega arith
load_one (Immediate d n) = omega arith
load_one (Move d a) = omega arith
load_one (AddImmediate d a n) = omega arith
load_one (Operate o d a b) = omega arith
load_one (Store d a) = omega arith
load_one (StoreIndexed d a b) = omega arith
load_one (Compare a b) = omega arith
load_one (CompareImmediate a n) = omega arith
load_one (Branch c l) = omega arith
load_one (Jump l) = omega arith
load_one (Fence f) = omega arith

load_event : (x : Line) → cond (has_load x) 1 0 ≤ cond (has_event x) 1 0
load_event (Label m) = omega arith
load_event (Does i) = load_one i

pub few_loads : (p : Program) → load_total p ≤ event_total p
few_loads p =
    let each : (lines : Vec Line Global) → count_by has_load lines.items ≤ count_by has_event lines.items = λ lines. sum_by-le-sum_by (λ x. cond (has_load x) 1 0) (λ x. cond (has_event x) 1 0) lines.items load_event in
    let all_of : lines_with has_load p ≤ lines_with has_event p = sum_by-le-sum_by (λ (lines : Vec Line Global). count_by has_load lines.items) (λ (lines : Vec Line Global). count_by has_event lines.items) p.threads.items each in
    omega (arith, all_of)

-- the combinations
pub has_runs : (t : Thread) (V : List Value) (lines : List Line) (first : State) (n : ℕ)
    → lines ≡ t.lines → first ≡ t.first → HasRuns (record { lines = lines; first = first }) V n
    → HasRuns t V n
has_runs t V lines first n l f h =
    subst (λ (s : State). HasRuns (record { lines = t.lines; first = s }) V n) f
    (subst (λ (ls : List Line). HasRuns (record { lines = ls; first = first }) V n) l h)

combinations_push : (ts : List Thread) (t : Thread) (V : List Value) (m c : ℕ)
    → HasCombinations ts V m → HasRuns t V c → HasCombinations (ts ++ t ∷ []) V (m * c)
combinations_push [] t V m c e h = (c, 1, h, refl, ap (λ (n : ℕ). n * c) e ∙ omega arith)
combinations_push (s ∷ ts) t V m c e h =
    let (here, rest, runs, more, n) = e in (
      here,
      rest * c,
      runs,
      combinations_push ts t V rest c more h,
      ap (λ (k : ℕ). k * c) n ∙ mul_assoc here rest c,
    )

le_times : (n c : ℕ) → n ≤ n * suc c
le_times zero c = omega arith
le_times (suc n) c = let h : n ≤ n * suc c = le_times n c in omega (arith, h)

min_times : (M n c : ℕ) → min (min n M * c) M ≡ min (n * c) M
min_times M n zero = omega arith
min_times M n (suc c) = elim (cases_lt n M) [
  | inl less ↦ let e : min n M ≡ n = omega arith in ap (λ (k : ℕ). min (k * suc c) M) e
  | inr over ↦
      let e : min n M ≡ M = omega arith in
      let a : M ≤ M * suc c = le_times M c in
      let b : n ≤ n * suc c = le_times n c in
      ap (λ (k : ℕ). min (k * suc c) M) e ∙ omega (arith, a, b)
]

pub combinations_more : (p : Program) (k : ℕ) (V : List Value) (product c next : ℕ)
    → ((n : ℕ) × HasCombinations (threads_from p k) V n × (product ≡ min n (2 ^ 64 - 1)))
    → HasRuns (thread_of p k) V c → next ≡ min (product * c) (2 ^ 64 - 1)
    → (n : ℕ) × HasCombinations (threads_from p (k + 1)) V n × (next ≡ min n (2 ^ 64 - 1))
combinations_more p k V product c next had runs e =
    let (n, counted, f) = had in
    rw add-one (
      n * c,
      combinations_push (threads_from p k) (thread_of p k) V n c counted runs,
      e ∙ ap (λ (q : ℕ). min (q * c) (2 ^ 64 - 1)) f ∙ min_times (2 ^ 64 - 1) n c,
    )

bounded : (M a b c d : ℕ) → a ≤ b → min a M ≡ c → d ≡ min b M → c ≤ d
bounded M a b c d le e f = omega (arith, le, e, f)

pub combinations_within : (p : Program) (k : ℕ) (V : List Value) (product count next : ℕ)
    → ((n : ℕ) × HasCombinations (threads_from p k) V n × (min n (2 ^ 64 - 1) ≤ product))
    → ((m : ℕ) × HasRuns (thread_of p k) V m × (m ≤ count))
    → next ≡ min (product * count) (2 ^ 64 - 1)
    → (n : ℕ) × HasCombinations (threads_from p (k + 1)) V n × (min n (2 ^ 64 - 1) ≤ next)
combinations_within p k V product count next had has e =
    let (n, counted, le) = had in
    let (m, runs, few) = has in
    rw add-one (
      n * m,
      combinations_push (threads_from p k) (thread_of p k) V n m counted runs,
      bounded (2 ^ 64 - 1) (min n (2 ^ 64 - 1) * m) (product * count)
          (min (n * m) (2 ^ 64 - 1)) next (mul-le-mul le few) (min_times (2 ^ 64 - 1) n m) e,
    )

pub few_runs : (p : Program) (k : ℕ) (V : List Value) (lines : List Line) (n : ℕ)
    → lines ≡ (thread_of p k).lines
    → ((first : State) → (m : ℕ) × HasRuns (record { lines = lines; first = first }) V m × (m ≤ n))
    → (m : ℕ) × HasRuns (thread_of p k) V m × (m ≤ n)
few_runs p k V lines n same each =
    let (m, runs, le) = each (thread_of p k).first in
    (m, has_runs (thread_of p k) V lines (thread_of p k).first m same refl runs, le)

-- the free runs of one thread
pub few_more : (p : Program) (V : List Value) (k n : ℕ) → HasFewRuns p V k
    → ((m : ℕ) × HasFreeRuns (thread_of p k) V m × (n ≡ min m 4097)) → n < 4097
    → HasFewRuns p V (k + 1)
few_more p V k n had found few j lt = elim (cases_lt j k) [
  | inl less ↦ had j less
  | inr le ↦
      let (m, runs, e) = found in
      let same : k ≡ j = omega arith in
      subst (λ (i : ℕ). (q : ℕ) × HasFreeRuns (thread_of p i) V q × (q ≤ 4096)) same
      (m, runs, (omega (arith, e, few)))
]

pub many_runs : (p : Program) (V : List Value) (k n : ℕ) → length V ≤ 16 → k < vec_len p.threads
    → ((m : ℕ) × HasFreeRuns (thread_of p k) V m × (n ≡ min m 4097)) → 4097 ≤ n
    → (length V ≤ 16) × (j : ℕ) × (j < vec_len p.threads) × (m : ℕ)
    × HasFreeRuns (thread_of p j) V m × (4096 < m)
many_runs p V k n few lt found many =
    let (m, runs, e) = found in (few, k, lt, m, runs, (omega (arith, e, many)))

-- the rounds so far are within the bounds
pub record IsGoing (p : Program) (k : ℕ) (V : List Value) : Type 0 where
  pub set : IsValueSet V
  pub few : length V ≤ 16
  pub runs : HasFewRuns p V (vec_len p.threads)
  pub round : AreProper p → IsDomainAt p k V
  pub within : AreProper p → (j : ℕ) → j ≤ k → IsBoundedRound p j

module _ (p : Program) (k : ℕ) (U V : List Value) (same : U ≡ V) where
  pub going : IsValueSet V → (AreProper p → IsNextDomain p k V)
      → (AreProper p → (j : ℕ) → j < k → IsBoundedRound p j) → length U ≤ 16
      → HasFewRuns p U (vec_len p.threads) → IsGoing p k V
  going set next before few_there runs_there =
      let few : length V ≤ 16 = subst (λ (W : List Value). length W ≤ 16) same few_there in
      let runs : HasFewRuns p V (vec_len p.threads) = subst (λ (W : List Value). HasFewRuns p W (vec_len p.threads)) same runs_there in
      record {
        set = set;
        few = few;
        runs = runs;
        round = λ proper. is_round p k V (next proper) few;
        within = λ proper j le. elim (cases_lt j k) [
          | inl lt ↦ before proper j lt
          | inr ge ↦
              let e : k ≡ j = omega arith in
              subst (λ (n : ℕ). IsBoundedRound p n) e (is_within p k V (is_round p k V (next proper) few)
              few runs)
        ];
      }

  pub going_fault : event_total p ≤ 128 → k ≤ load_total p → (AreProper p → IsNextDomain p k V)
      → (AreProper p → (j : ℕ) → j < k → IsBoundedRound p j) → (e : DomainFault) → IsRoundFault p U e
      → AreProper p → LacksDomain p e
  going_fault events bound next before e h proper =
      round_fault p k V events bound (before proper) (next proper) e
      (subst (λ (W : List Value). IsRoundFault p W e) same h)

  module _ (W : List Value) (round : (n : ℕ) → IsDomainAt p n U → IsNextDomain p (n + 1) W)
      (unchanged : length U ≡ length W → U ≡ W) (as_long : length W ≡ length V) (g : IsGoing p k V)
      (proper : AreProper p) where
    on : (n : ℕ) → IsDomainAt p n V → IsNextDomain p (n + 1) V
    on n r =
        let e : U ≡ W = unchanged (ap (λ (X : List Value). length X) same ∙ sym as_long) in
        subst (λ (X : List Value). IsNextDomain p (n + 1) X) (sym e ∙ same)
        (round n (subst (λ (X : List Value). IsDomainAt p n X) (sym same) r))

    pub stopped_round : (n : ℕ) → k ≤ n → IsDomainAt p n V
    stopped_round n le = stays_to p V g.few on k n le (g.round proper)

    pub stopped_within : (j : ℕ) → IsBoundedRound p j
    stopped_within j = within_to p V g.few on k g.runs (g.round proper) (g.within proper) j

-- a fault that is passed on
pub passed_on : (T : Type 0) (p : Program) (r : Result T DomainFault) (x : DomainFault)
    → IsErrAnd r (λ e. e ≡ x) → (AreProper p → LacksDomain p x)
    → IfErr r (λ e. AreProper p → LacksDomain p e)
passed_on T p (Ok t) x h f = absurd h
passed_on T p (Err e) x h f = subst (λ (z : DomainFault). AreProper p → LacksDomain p z) (sym h) f
