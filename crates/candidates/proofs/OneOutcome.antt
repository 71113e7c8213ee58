-- A test has one outcome.
use Rattle.std.proofs.Common.{ℕ, zero, suc, ◌≡◌, ◌<◌, ◌≤◌, ◌*◌, ◌⊎◌, List, [], ◌∷◌, length, get_or, refl, ap, sym, subst, ◌∙◌, inl, inr, arith, Contains, All}
use Rattle.std.specs.List.{AllPairs}
use Rattle.std.proofs.lemmas.Bool.{cases_order}
use Rattle.std.proofs.lemmas.List.Elements.{All-contains}
use Rattle.text_values.specs.declared.test.Test.{Test}
use Rattle.thread_runs.specs.declared.value.Value.{Value}
use Rattle.thread_runs.specs.declared.instruction.Program.{Program}
use Rattle.thread_runs.specs.Runs.{Thread, Run, InDomain, IsLess}
use Rattle.thread_runs.specs.AllRuns.{HasRuns}
use Rattle.thread_runs.specs.FreeRuns.{HasFreeRuns, IsOtherFreeRun}
use Rattle.ppc_lowering.specs.Domain.{threads_of, load_total, IsDomain, IsFirstFailure, IsDomainRefusal, IsDomainAt, IsBoundedRound, InDomainAt, HasManyValues, HasManyRuns, HasCombinations}
use Rattle.candidates.proofs.Elements.{member_cases, member_first, member_later}
use Rattle.candidates.proofs.OneProgram.{Alike, programs_alike, test_executions_one}
use Rattle.candidates.proofs.Sole.{first_rises, rest_rises, same_rising, less_apart, runs_sole}
use Rattle.candidates.specs.Executions.{Execution}
use Rattle.candidates.specs.Listed.{AreTestExecutions, ListsExecutions, HasManyExecutions, HasFaultedExecution, HasNoDomain, IsSpaceRefusal}
use Rattle.candidates.specs.Laws.{HasOneDomainOrRefusal, HasOneSpaceOrRefusal}
use Rattle.candidate_spaces.specs.declared.candidate.Space.{Space}
use Rattle.ppc_lowering.specs.declared.fault.EvalRefusal.{EvalRefusal}
use Rattle.ppc_lowering.specs.declared.fault.EvalRefusal.TheVariants.{TooManyEvents, TooManyValues, TooManyRuns, TooManyCandidates, AddressFault, TooManyCombinations}

-- a list without one element
pub without : {X : Type 0} → List X → ℕ → List X
without [] k = []
without (y ∷ ys) zero = ys
without {X} (y ∷ ys) (suc k) = y ∷ without {X = X} ys k

pub one_fewer : {X : Type 0} (ys : List X) (k : ℕ) → k < length ys
    → length ys ≡ suc (length (without ys k))
unfolding without
one_fewer [] k lt = absurd (omega (arith, lt))
one_fewer (y ∷ ys) zero lt = refl
one_fewer (y ∷ ys) (suc k) lt = ap (λ (n : ℕ). suc n) (one_fewer ys k (omega (arith, lt)))

pub still_there : {X : Type 0} (ys : List X) (k : ℕ) (x z : X) → k < length ys → get_or ys k x ≡ x
    → (x ≡ z → ⊥) → Contains ys z → Contains (without ys k) z
unfolding without
still_there [] k x z lt at other c = c
still_there (y ∷ ys) zero x z lt at other c =
    elim (member_cases y ys z c) [ inl e ↦ absurd (other (sym at ∙ e)) | inr d ↦ d ]
still_there {X} (y ∷ ys) (suc k) x z lt at other c = elim (member_cases y ys z c) [
  | inl e ↦ subst (λ (w : X). Contains (w ∷ without ys k) z) (sym e) (member_first z (without ys k))
  | inr d ↦ member_later y (without ys k) z (still_there ys k x z (omega (arith, lt)) at other d)
]

-- elements that differ, all of them in the other list, are no more than those
pub no_more_of : {X : Type 0} (R : X → X → Type 0) → ((x : X) → R x x → ⊥) → (xs ys : List X)
    → AllPairs R xs → ((z : X) → Contains xs z → Contains ys z) → length xs ≤ length ys
no_more_of R apart [] ys h there = omega arith
no_more_of {X} R apart (x ∷ xs) ys h there =
    let c : Contains ys x = there x (member_first x xs) in
    let k : length xs ≤ length (without ys c.0) =
    no_more_of R apart xs (without ys c.0) (rest_rises R x xs h)
    (λ z d. still_there ys c.0 x z c.1 c.2
    (λ e. apart x (subst (λ (w : X). R x w) (sym e) (first_rises R x xs z h d)))
    (there z (member_later x xs z d))) in
    omega (arith, k, one_fewer ys c.0 c.1)

-- how many free runs a thread has
free_runs_one : (t : Thread) (V : List Value) (m n : ℕ) → HasFreeRuns t V m → HasFreeRuns t V n
    → m ≡ n
free_runs_one t V m n h k = omega (arith, h.2, k.2, fewer h k, fewer k h)
  where
    fewer : {m n : ℕ} (h : HasFreeRuns t V m) (k : HasFreeRuns t V n) → length h.0 ≤ length k.0
    fewer h k =
        no_more_of IsOtherFreeRun (λ x other. other refl refl) h.0 k.0 h.1.once
        (λ z c. (k.1.exact z).1 ((h.1.exact z).0 c))

-- rounds, and what is more than their bounds
round_one : (p : Program) (k : ℕ) (V W : List Value) → IsDomainAt p k V → IsDomainAt p k W → V ≡ W
round_one p k V W h g =
    same_rising IsLess less_apart V W h.set.rising g.set.rising
    (λ v c. (g.exact v).1 ((h.exact v).0 c)) (λ v c. (h.exact v).1 ((g.exact v).0 c))

few_values : (p : Program) (k : ℕ) (V : List Value) → IsDomainAt p k V → length V ≤ 16
    → HasManyValues p k → ⊥
few_values p k V round few many =
    let le : length many.0 ≤ length V = no_more_of IsLess (λ v less. less_apart v v less less) many.0 V many.1.rising (λ v c. (round.exact v).1 (All-contains (InDomainAt p k) many.0 v many.2 c)) in
    omega (arith, le, few, many.3)

within_values : (p : Program) (k : ℕ) → IsBoundedRound p k → HasManyValues p k → ⊥
within_values p k h many = few_values p k h.values h.round h.few many

within_runs : (p : Program) (k : ℕ) → IsBoundedRound p k → HasManyRuns p k → ⊥
within_runs p k h many =
    let few = h.runs many.thread many.there in
    let e : many.values ≡ h.values = round_one p k many.values h.values many.round h.round in
    let same : many.runs ≡ few.0 = free_runs_one many.thread h.values many.runs few.0 (subst (λ (V : List Value). HasFreeRuns many.thread V many.runs) e many.counted) few.1 in
    omega (arith, same, few.2, many.many)

values_or_runs : (p : Program) (k : ℕ) → HasManyValues p k → HasManyRuns p k → ⊥
values_or_runs p k values runs = few_values p k runs.values runs.round runs.few values

one_first : (p : Program) (F G : Program → ℕ → Type 0) → ((k : ℕ) → IsBoundedRound p k → F p k → ⊥)
    → ((k : ℕ) → IsBoundedRound p k → G p k → ⊥) → ((k : ℕ) → F p k → G p k → ⊥) → (j k : ℕ)
    → IsFirstFailure p j F → IsFirstFailure p k G → ⊥
one_first p F G within_f within_g both j k f g = elim (cases_order j k) [
  | inl e ↦ both k (subst (λ (n : ℕ). F p n) e f.fails) g.fails
  | inr (inl lt) ↦ within_f j (g.before j lt) f.fails
  | inr (inr lt) ↦ within_g k (f.before k lt) g.fails
]

all_within : (p : Program) (F : Program → ℕ → Type 0) → ((k : ℕ) → IsBoundedRound p k → F p k → ⊥)
    → ((k : ℕ) → k ≤ load_total p → IsBoundedRound p k) → (k : ℕ) → IsFirstFailure p k F → ⊥
all_within p F within rounds k f = within k (rounds k f.bound) f.fails

-- the combinations of runs
runs_counted : (t : Thread) (V : List Value) (m n : ℕ) → HasRuns t V m → HasRuns t V n → m ≡ n
runs_counted t V m n h k =
    sym h.2 ∙ ap (λ (l : List Run). length l) (runs_sole t (Contains V) h.0 k.0 h.1 k.1) ∙ k.2

combinations_counted : (ts : List Thread) (V : List Value) (m n : ℕ) → HasCombinations ts V m
    → HasCombinations ts V n → m ≡ n
combinations_counted [] V m n h k = h ∙ sym k
combinations_counted (t ∷ ts) V m n h k =
    h.4 ∙ ap (λ (i : ℕ). i * h.1) (runs_counted t V h.0 k.0 h.2 k.2)
    ∙ ap (λ (i : ℕ). k.0 * i) (combinations_counted ts V h.1 k.1 h.3 k.3) ∙ sym k.4

-- a program has a domain, or one refusal
domain_or_refused : (p : Program) (V : List Value) (r : EvalRefusal) → IsDomain p V
    → IsDomainRefusal p r → ⊥
domain_or_refused p V TooManyEvents d h = omega (arith, d.events, h)
domain_or_refused p V TooManyValues d h =
    all_within p HasManyValues (within_values p) d.rounds h.0 h.1
domain_or_refused p V TooManyRuns d h =
    all_within p HasManyRuns (within_runs p) d.rounds h.0 h.1
domain_or_refused p V TooManyCombinations d h =
    let e : h.values ≡ V = round_one p (load_total p) h.values V h.last d.last in
    let same : h.combinations ≡ d.combinations.0 = combinations_counted (threads_of p) V h.combinations d.combinations.0 (subst (λ (W : List Value). HasCombinations (threads_of p) W h.combinations) e h.counted) d.combinations.1 in
    omega (arith, same, h.many, d.combinations.2)
domain_or_refused p V TooManyCandidates d h = absurd h
domain_or_refused p V AddressFault d h = absurd h

one_refused : (p : Program) (q r : EvalRefusal) → IsDomainRefusal p q → IsDomainRefusal p r → q ≡ r
one_refused p TooManyEvents TooManyEvents h k = refl
one_refused p TooManyEvents TooManyValues h k =
    absurd (omega (arith, h, k.1.events))
one_refused p TooManyEvents TooManyRuns h k =
    absurd (omega (arith, h, k.1.events))
one_refused p TooManyEvents TooManyCombinations h k =
    absurd (omega (arith, h, k.events))
one_refused p TooManyValues TooManyEvents h k =
    absurd (omega (arith, k, h.1.events))
one_refused p TooManyValues TooManyValues h k = refl
one_refused p TooManyValues TooManyRuns h k =
    absurd (one_first p HasManyValues HasManyRuns (within_values p) (within_runs p)
    (values_or_runs p) h.0 k.0 h.1 k.1)
one_refused p TooManyValues TooManyCombinations h k =
    absurd (all_within p HasManyValues (within_values p) k.rounds h.0 h.1)
one_refused p TooManyRuns TooManyEvents h k =
    absurd (omega (arith, k, h.1.events))
one_refused p TooManyRuns TooManyValues h k =
    absurd (one_first p HasManyValues HasManyRuns (within_values p) (within_runs p)
    (values_or_runs p) k.0 h.0 k.1 h.1)
one_refused p TooManyRuns TooManyRuns h k = refl
one_refused p TooManyRuns TooManyCombinations h k =
    absurd (all_within p HasManyRuns (within_runs p) k.rounds h.0 h.1)
one_refused p TooManyCombinations TooManyEvents h k =
    absurd (omega (arith, k, h.events))
one_refused p TooManyCombinations TooManyValues h k =
    absurd (all_within p HasManyValues (within_values p) h.rounds k.0 k.1)
one_refused p TooManyCombinations TooManyRuns h k =
    absurd (all_within p HasManyRuns (within_runs p) h.rounds k.0 k.1)
one_refused p TooManyCombinations TooManyCombinations h k = refl
one_refused p TooManyEvents TooManyCandidates h k = absurd k
one_refused p TooManyEvents AddressFault h k = absurd k
one_refused p TooManyValues TooManyCandidates h k = absurd k
one_refused p TooManyValues AddressFault h k = absurd k
one_refused p TooManyRuns TooManyCandidates h k = absurd k
one_refused p TooManyRuns AddressFault h k = absurd k
one_refused p TooManyCombinations TooManyCandidates h k = absurd k
one_refused p TooManyCombinations AddressFault h k = absurd k
one_refused p TooManyCandidates r h k = absurd h
one_refused p AddressFault r h k = absurd h

-- two programs of a test are refused alike
module _ (p q : Program) (a : Alike p q) where
  in_round : (k : ℕ) (v : Value) → InDomainAt p k v → InDomainAt q k v
  in_round k v h =
      subst (λ (ts : List Thread). InDomain q.initial.items ts k v) a.threads
      (subst (λ (vs : List Value). InDomain vs (threads_of p) k v) a.initial h)

  back_round : (k : ℕ) (v : Value) → InDomainAt q k v → InDomainAt p k v
  back_round k v h =
      subst (λ (ts : List Thread). InDomain p.initial.items ts k v) (sym a.threads)
      (subst (λ (vs : List Value). InDomain vs (threads_of q) k v) (sym a.initial) h)

  round_alike : (k : ℕ) (V : List Value) → IsDomainAt p k V → IsDomainAt q k V
  round_alike k V h =
      record {
        set = h.set;
        exact =
            λ v.
            ((λ c. in_round k v ((h.exact v).0 c)), (λ r. (h.exact v).1 (back_round k v r)));
      }

  within_alike : (k : ℕ) → IsBoundedRound p k → IsBoundedRound q k
  within_alike k h = record {
    values = h.values;
    round = round_alike k h.values h.round;
    few = h.few;
    runs = λ t there. h.runs t (subst (λ (ts : List Thread). Contains ts t) (sym a.threads) there);
  }

  rounds_alike : ((k : ℕ) → k ≤ load_total p → IsBoundedRound p k) → (k : ℕ) → k ≤ load_total q
      → IsBoundedRound q k
  rounds_alike h k le = within_alike k (h k (omega (arith, le, a.loads)))

  first_alike : (F : Program → ℕ → Type 0) → ((k : ℕ) → F p k → F q k) → (k : ℕ) → IsFirstFailure p k F
      → IsFirstFailure q k F
  first_alike F to k h =
      record {
        events = omega (arith, h.events, a.events);
        bound = omega (arith, h.bound, a.loads);
        before = λ j lt. within_alike j (h.before j lt);
        fails = to k h.fails;
      }

  values_alike : (k : ℕ) → HasManyValues p k → HasManyValues q k
  values_alike k h = (h.0, h.1, all h.0 h.2, h.3)
    where
      all : (V : List Value) → All (InDomainAt p k) V → All (InDomainAt q k) V
      all V g i d lt = in_round k (get_or V i d) (g i d lt)

  runs_alike : (k : ℕ) → HasManyRuns p k → HasManyRuns q k
  runs_alike k h = record {
    values = h.values;
    round = round_alike k h.values h.round;
    few = h.few;
    thread = h.thread;
    there = subst (λ (ts : List Thread). Contains ts h.thread) a.threads h.there;
    runs = h.runs;
    counted = h.counted;
    many = h.many;
  }

  refused_alike : (r : EvalRefusal) → IsDomainRefusal p r → IsDomainRefusal q r
  refused_alike TooManyEvents h = omega (arith, h, a.events)
  refused_alike TooManyValues h = (h.0, first_alike HasManyValues values_alike h.0 h.1)
  refused_alike TooManyRuns h = (h.0, first_alike HasManyRuns runs_alike h.0 h.1)
  refused_alike TooManyCombinations h = record {
    events = omega (arith, h.events, a.events);
    rounds = rounds_alike h.rounds;
    values = h.values;
    last =
        subst (λ (k : ℕ). IsDomainAt q k h.values) a.loads
        (round_alike (load_total p) h.values h.last);
    combinations = h.combinations;
    counted =
        subst (λ (ts : List Thread). HasCombinations ts h.values h.combinations) a.threads
        h.counted;
    many = h.many;
  }
  refused_alike TooManyCandidates h = absurd h
  refused_alike AddressFault h = absurd h

-- of a test
executions_or_refused : (t : Test) (i : List Value) (xs : List Execution) (d : EvalRefusal)
    → AreTestExecutions t i xs → HasNoDomain t d → ⊥
executions_or_refused t i xs d h k =
    domain_or_refused h.program h.values d h.domain (refused_alike k.0 h.program
    (programs_alike t k.0 h.program k.1 h.of_test) d k.2)

one_no_domain : (t : Test) (q r : EvalRefusal) → HasNoDomain t q → HasNoDomain t r → q ≡ r
one_no_domain t q r h k =
    one_refused k.0 q r (refused_alike h.0 k.0 (programs_alike t h.0 k.0 h.1 k.1) q h.2) k.2

pub one_domain : (t : Test) → HasOneDomainOrRefusal t
one_domain t = record {
  one_domain = λ V W h k.
      let a : Alike h.0 k.0 = programs_alike t h.0 k.0 h.1 k.1 in
      round_one k.0 (load_total k.0) V W
      (subst (λ (n : ℕ). IsDomainAt k.0 n V) a.loads
      (round_alike h.0 k.0 a (load_total h.0) V h.2.last)) k.2.last;
  one_refusal = one_no_domain t;
  domain_or_refused = λ V r h k.
      domain_or_refused h.0 V r h.2
      (refused_alike k.0 h.0 (programs_alike t k.0 h.0 k.1 h.1) r k.2);
}

same_length : (t : Test) (i j : List Value) (xs ys : List Execution) → AreTestExecutions t i xs
    → AreTestExecutions t j ys → length xs ≡ length ys
same_length t i j xs ys h k =
    ap (λ (l : List Execution). length l) (test_executions_one t i j xs ys h k).1

many_or_faulted : (t : Test) → HasManyExecutions t → HasFaultedExecution t → ⊥
many_or_faulted t m f =
    let e : length m.all ≡ length f.all =
    same_length t m.initial f.initial m.all f.all m.executions f.executions in
    omega (arith, e, m.many, f.few)

-- which of the three kinds a refusal is of
Sort : Test → EvalRefusal → Type 0
Sort t r =
    HasNoDomain t r
    ⊎ (((r ≡ TooManyCandidates) × HasManyExecutions t)
    ⊎ ((r ≡ AddressFault) × HasFaultedExecution t))

sorted : (t : Test) (r : EvalRefusal) → IsSpaceRefusal t r → Sort t r
unfolding Sort
sorted t TooManyEvents h = inl h
sorted t TooManyValues h = inl h
sorted t TooManyRuns h = inl h
sorted t TooManyCombinations h = inl h
sorted t TooManyCandidates h = inr (inl (refl, h))
sorted t AddressFault h = inr (inr (refl, h))

sorts_one : (t : Test) (q r : EvalRefusal) → Sort t q → Sort t r → q ≡ r
unfolding Sort
sorts_one t q r (inl h) (inl k) = one_no_domain t q r h k
sorts_one t q r (inl h) (inr (inl m)) =
    absurd (executions_or_refused t m.1.initial m.1.all q m.1.executions h)
sorts_one t q r (inl h) (inr (inr f)) =
    absurd (executions_or_refused t f.1.initial f.1.all q f.1.executions h)
sorts_one t q r (inr (inl m)) (inl k) =
    absurd (executions_or_refused t m.1.initial m.1.all r m.1.executions k)
sorts_one t q r (inr (inl m)) (inr (inl n)) = m.0 ∙ sym n.0
sorts_one t q r (inr (inl m)) (inr (inr f)) = absurd (many_or_faulted t m.1 f.1)
sorts_one t q r (inr (inr f)) (inl k) =
    absurd (executions_or_refused t f.1.initial f.1.all r f.1.executions k)
sorts_one t q r (inr (inr f)) (inr (inl m)) = absurd (many_or_faulted t m.1 f.1)
sorts_one t q r (inr (inr f)) (inr (inr g)) = f.0 ∙ sym g.0

listed_or : (t : Test) (s : Space) (r : EvalRefusal) → ListsExecutions t s → Sort t r → ⊥
unfolding Sort
listed_or t s r h (inl k) = executions_or_refused t h.initial h.all r h.executions k
listed_or t s r h (inr (inl m)) =
    let e : length h.all ≡ length m.1.all =
    same_length t h.initial m.1.initial h.all m.1.all h.executions m.1.executions in
    omega (arith, e, h.few, m.1.many)
listed_or t s r h (inr (inr f)) =
    h.sound f.1.execution
    (subst (λ (l : List Execution). Contains l f.1.execution)
    (sym (test_executions_one t h.initial f.1.initial h.all f.1.all h.executions
    f.1.executions).1) f.1.there) f.1.fault

pub one_outcome : (t : Test) → HasOneSpaceOrRefusal t
one_outcome t = record {
  listed_or_refused = λ s r h k. listed_or t s r h (sorted t r k);
  one_refusal = λ q r h k. sorts_one t q r (sorted t q h) (sorted t r k);
}
