-- The rounds in which the domain is found.
use denote.Ref.{Bor}
use Rattle.std.proofs.Common.{◌≡◌, ◌⊎◌, inl, inr, ℕ, suc, ◌+◌, ◌<◌, ◌≤◌, List, [], ◌∷◌, length, map, Contains, Bool, false, sym, ap, subst, ◌∙◌, arith, Vec, add-one}
use Rattle.std.specs.Prelude.{Result, Ok, Err, IsTrue}
use Rattle.std.specs.declared.alloc.Global.{Global}
use Rattle.std.proofs.lemmas.List.{length-map}
use Rattle.std.proofs.lemmas.List.Elements.{All-weaker}
use Rattle.text_values.specs.TestValue.{Content}
use Rattle.meaning.specs.Names.{Name, locations}
use Rattle.meaning.specs.Dependencies.{is_event}
use Rattle.meaning.specs.Sets.{Set, IsOnce, IsListOf, HasOver}
use Rattle.meaning.specs.Machine as machine
use Rattle.meaning.specs.Machine.{NoValue, is_load, stored_values}
use Rattle.meaning.specs.Runs.{Instance}
use Rattle.meaning.specs.Domain.{FreeRun, IsFreeRun, InRound, IsStoredFreely, instruction_count}
use Rattle.meaning.specs.Refusals.{Refusal, TooManyEvents, TooManyValues, TooManyRuns, TooManyCandidates, AddressFault, TooManyCombinations, IsRefusedAt, IsRefusal, HasDomain, event_count}
use Rattle.meaning.proofs.Counting.{head_or_tail, here}
use Rattle.meaning_plain.specs.Lists.{Given}
use Rattle.plain_machine.specs.declared.value.Value.{Value}
use Rattle.plain_machine.specs.Values.{value_as}
use Rattle.plain_runs.specs.Runs.{ValuesOf}
use Rattle.plain_runs.proofs.Listing.{none_there, listed_as}
use Rattle.plain_runs.proofs.Counting.{has_over, has_not_over}
use Rattle.plain_domains.specs.Domains.{Adds, IsReal, IsStartOf, IsStoredBy, IsStoredIn, InNext, HasManyFreeRunsOver, IsRefusedOver, IsRoundFound, AreRounds, IsDomainFound, refusal_as}
use Rattle.plain_runs.specs.Locations.{names_as}
use Rattle.plain_runs.specs.Frees.{free_run_as}
use Rattle.plain_runs.specs.declared.free.FreeRun as frees
use Rattle.plain_domains.specs.declared.domain.Refusal as code
use Rattle.plain_domains.specs.declared.domain.Refusal.TheVariants as codes
use Rattle.plain_domains.proofs.Storing.{adds_none, adds_as, adds_then}
use Rattle.plain_runs.proofs.Mapping.{not_true}

-- ---- what an instance stores

pub stored_none : (i : Instance) (vs : List Value)
    → stored_values i.instruction i.before ≡ [] → Adds (IsStoredBy i) vs vs
stored_none i vs e =
    adds_none (IsStoredBy i) vs
    (λ v is. absurd (none_there v (subst (λ (l : List machine.Value). Contains l v) e is.0)))

alone : (i : Instance) (w : machine.Value) → stored_values i.instruction i.before ≡ w ∷ []
    → (v : machine.Value) → IsStoredBy i v → w ≡ v
alone i w e v is =
    elim (head_or_tail w [] v (subst (λ (l : List machine.Value). Contains l v) e is.0)) [
      | inl at ↦ at
      | inr later ↦ absurd (none_there v later)
    ]

pub real_none : (w : machine.Value) (vs : List Value) → w ≡ NoValue → Adds (IsReal w) vs vs
real_none w vs none = adds_none (IsReal w) vs (λ v is. absurd (is.1 (sym is.0 ∙ none)))

pub real_some : (w : machine.Value) (old new : List Value) → (w ≡ NoValue → ⊥)
    → Adds (λ v. w ≡ v) old new → Adds (IsReal w) old new
real_some w old new some adds =
    adds_as (λ v. w ≡ v) (IsReal w) old new
    (λ v. ((λ at. (at, λ none. some (at ∙ none))), λ is. is.0)) adds

pub stored_some : (i : Instance) (w : machine.Value) (old new : List Value)
    → stored_values i.instruction i.before ≡ w ∷ [] → Adds (IsReal w) old new
    → Adds (IsStoredBy i) old new
stored_some i w old new e adds =
    adds_as (IsReal w) (IsStoredBy i) old new (λ v. (to v, λ is. (alone i w e v is, is.1))) adds
  where
    to : (v : machine.Value) → IsReal w v → IsStoredBy i v
    to v (at, real) = (
      subst (λ (l : List machine.Value). Contains l v) (sym e)
          (subst (λ (x : machine.Value). Contains (w ∷ []) x) at (here w [])),
      real,
    )

-- ---- what the threads store

-- A thread of a number below k stores the value in a free run, and it is one.
abbrev pub StoredBelow : Content → Set machine.Value → ℕ → Set machine.Value
StoredBelow t V k v =
    (thread : ℕ) × (thread < k) × (f : FreeRun) × IsFreeRun t V thread f × IsStoredIn f.run v

-- No thread of a number below k has too many free runs.
abbrev pub FewBelow : Content → Set machine.Value → ℕ → Type 0
FewBelow t V k =
    (thread : ℕ) → thread < k → HasOver 4096 (λ (f : FreeRun). IsFreeRun t V thread f) → ⊥

module _ (t : Content) (V : Set machine.Value) (k : ℕ) where
  abbrev By : Set machine.Value
  By v = (f : FreeRun) × IsFreeRun t V k f × IsStoredIn f.run v

  one_more : (j : ℕ) → j < k + 1 → (j < k) ⊎ (j ≡ k)
  one_more j lt = grind arith

  pub stored_more : (old mid new : List Value) (fs : List FreeRun)
      → Adds (StoredBelow t V k) old mid → IsListOf (IsFreeRun t V k) fs
      → Adds (Given (λ f. IsStoredIn f.run) fs) mid new → Adds (StoredBelow t V (k + 1)) old new
  stored_more old mid new fs first listed second =
      adds_as (λ v. StoredBelow t V k v ⊎ By v) (StoredBelow t V (k + 1)) old new
      (λ v. (to v, back v))
      (adds_then (StoredBelow t V k) By old mid new first
      (adds_as (Given (λ f. IsStoredIn f.run) fs) By mid new (λ v. (run v, listing v)) second))
    where
      run : (v : machine.Value) → Given (λ f. IsStoredIn f.run) fs v → By v
      run v (f, there, is) = (f, (listed.exact f).0 there, is)

      listing : (v : machine.Value) → By v → Given (λ f. IsStoredIn f.run) fs v
      listing v (f, of, is) = (f, (listed.exact f).1 of, is)

      to : (v : machine.Value) → StoredBelow t V k v ⊎ By v → StoredBelow t V (k + 1) v
      to v (inl (thread, lt, f, of, is)) = (thread, omega (arith, lt), f, of, is)
      to v (inr (f, of, is)) = (k, omega arith, f, of, is)

      split : (v : machine.Value) (j : ℕ) → (j < k) ⊎ (j ≡ k)
          → (f : FreeRun) × IsFreeRun t V j f × IsStoredIn f.run v
          → StoredBelow t V k v ⊎ By v
      split v j (inl lt) (f, of, is) = inl (j, lt, f, of, is)
      split v j (inr same) is =
          inr (subst (λ (i : ℕ). (f : FreeRun) × IsFreeRun t V i f × IsStoredIn f.run v) same is)

      back : (v : machine.Value) → StoredBelow t V (k + 1) v → StoredBelow t V k v ⊎ By v
      back v (j, lt, f, of, is) = split v j (one_more j lt) (f, of, is)

  pub few_more : (fs : List FreeRun) → FewBelow t V k → IsListOf (IsFreeRun t V k) fs
      → length fs ≤ 4096 → FewBelow t V (k + 1)
  few_more fs before listed le thread lt = split thread (one_more thread lt)
    where
      split : (j : ℕ) → (j < k) ⊎ (j ≡ k)
          → HasOver 4096 (λ (f : FreeRun). IsFreeRun t V j f) → ⊥
      split j (inl less) = before j less
      split j (inr same) =
          subst (λ (i : ℕ). HasOver 4096 (λ (f : FreeRun). IsFreeRun t V i f) → ⊥) (sym same)
          (has_not_over (IsFreeRun t V k) fs 4096 listed le)

pub begin_stored : (t : Content) (V : Set machine.Value) (vs : List Value)
    → Adds (StoredBelow t V 0) vs vs
begin_stored t V vs =
    adds_none (StoredBelow t V 0) vs
    (λ v is. absurd (let lt : _ = is.1 in omega (arith, lt)))

pub begin_few : (t : Content) (V : Set machine.Value) → FewBelow t V 0
begin_few t V thread lt = absurd (omega (arith, lt))

pub many_runs : (t : Content) (V : Set machine.Value) (thread : ℕ) (fs : List FreeRun)
    → thread < length t.threads → IsListOf (IsFreeRun t V thread) fs → 4096 < length fs
    → HasManyFreeRunsOver t V
many_runs t V thread fs lt listed many =
    (thread, lt, has_over (IsFreeRun t V thread) fs 4096 listed many)

module _ (t : Content) (values : List Value) where
  abbrev W : Set machine.Value
  W = ValuesOf values

  freely : (n : ℕ) → n ≤ length t.threads → (v : machine.Value) → StoredBelow t W n v
      → IsStoredFreely t W v × (v ≡ NoValue → ⊥)
  freely n ge v (thread, lt, f, of, (i, at, (stored, is))) =
      ((thread, omega (arith, lt, ge), f, of, (i, at, stored)), is)

  pub next_listed : (next : List Value) (n : ℕ) → IsOnce (map value_as values)
      → length t.threads ≤ n → n ≤ length t.threads → FewBelow t W n
      → Adds (StoredBelow t W n) values next
      → (HasManyFreeRunsOver t W → ⊥) × IsListOf (InNext t W) (map value_as next)
  next_listed next n once le ge few adds = (
    (λ many. few many.0 (let lt : _ = many.1 in omega (arith, lt, le)) many.2),
    record { once = adds.once once; exact = λ v. (to v, back v) },
  )
    where
      to : (v : machine.Value) → ValuesOf next v → InNext t W v
      to v there = elim ((adds.exact v).0 there) [
        | inl earlier ↦ inl earlier
        | inr is ↦ inr (freely n ge v is)
      ]

      back : (v : machine.Value) → InNext t W v → ValuesOf next v
      back v (inl there) = (adds.exact v).1 (inl there)
      back v (inr ((thread, lt, f, of, (i, at, stored)), is)) =
          (adds.exact v).1 (inr (thread, omega (arith, lt, le), f, of, (i, at, (stored, is))))

-- ---- the same values

over_weaker : {X : Type 0} (n : ℕ) (S T : Set X) → ((x : X) → S x → T x) → HasOver n S
    → HasOver n T
over_weaker n S T to (xs, once, all, lt) = (xs, once, All-weaker S T to xs all, lt)

module _ (t : Content) (V W : Set machine.Value) (same : (v : machine.Value) → V v → W v) where
  free_weaker : (thread : ℕ) (f : FreeRun) → IsFreeRun t V thread f → IsFreeRun t W thread f
  free_weaker thread f (all, runs) = (All-weaker V W same f.values all, runs)

  many_weaker : HasManyFreeRunsOver t V → HasManyFreeRunsOver t W
  many_weaker (thread, lt, over) =
      (thread, lt, over_weaker 4096 (IsFreeRun t V thread) (IsFreeRun t W thread) (free_weaker thread) over)

  stored_weaker : (v : machine.Value) → IsStoredFreely t V v → IsStoredFreely t W v
  stored_weaker v (thread, lt, f, of, is) = (thread, lt, f, free_weaker thread f of, is)

module _ (t : Content) (k : ℕ) (values : List Value)
    (listed : IsListOf (InRound t k) (map value_as values)) where
  abbrev V : Set machine.Value
  V = ValuesOf values

  to : (v : machine.Value) → V v → InRound t k v
  to v = (listed.exact v).0

  back : (v : machine.Value) → InRound t k v → V v
  back v = (listed.exact v).1

  pub refused_at : (r : Refusal) → IsRefusedOver t V r → IsRefusedAt t k r
  refused_at TooManyEvents is = is
  refused_at TooManyValues is = over_weaker 16 V (InRound t k) to is
  refused_at TooManyRuns (few, many) =
      ((λ over. few (over_weaker 16 (InRound t k) V back over)), many_weaker t V (InRound t k) to many)
  refused_at TooManyCandidates is = is
  refused_at AddressFault is = is
  refused_at TooManyCombinations is = is

  pub refused_over : (r : Refusal) → IsRefusedAt t k r → IsRefusedOver t V r
  refused_over TooManyEvents is = is
  refused_over TooManyValues is = over_weaker 16 (InRound t k) V back is
  refused_over TooManyRuns (few, many) =
      ((λ over. few (over_weaker 16 V (InRound t k) to over)), many_weaker t (InRound t k) V back many)
  refused_over TooManyCandidates is = is
  refused_over AddressFault is = is
  refused_over TooManyCombinations is = is

  pub next_round : (next : List Value) → IsListOf (InNext t V) (map value_as next)
      → IsListOf (InRound t (suc k)) (map value_as next)
  next_round next following =
      listed_as (InNext t V) (InRound t (suc k)) (map value_as next) (λ v. (there v, here_from v))
      following
    where
      there : (v : machine.Value) → InNext t V v → InRound t (suc k) v
      there v (inl is) = inl (to v is)
      there v (inr (stored, is)) = inr (stored_weaker t V (InRound t k) to v stored, is)

      here_from : (v : machine.Value) → InRound t (suc k) v → InNext t V v
      here_from v (inl is) = inl (back v is)
      here_from v (inr (stored, is)) = inr (stored_weaker t (InRound t k) V back v stored, is)

-- ---- one round

same_values : (values : List Value) → IsOnce (map value_as values)
    → IsListOf (ValuesOf values) (map value_as values)
same_values values once = record {
  once = once;
  exact = λ v. ((λ there. there), λ there. there);
}

pub checked_many : (t : Content) (values : List Value) → IsOnce (map value_as values)
    → 16 < length values → HasOver 16 (ValuesOf values)
checked_many t values once lt =
    has_over (ValuesOf values) (map value_as values) 16 (same_values values once)
    (let e : _ = length-map values value_as in omega (arith, e, lt))

few_values : (values : List Value) → IsOnce (map value_as values) → length values ≤ 16
    → HasOver 16 (ValuesOf values) → ⊥
few_values values once le =
    has_not_over (ValuesOf values) (map value_as values) 16 (same_values values once)
    (let e : _ = length-map values value_as in omega (arith, e, le))

pub checked_runs : (t : Content) (values : List Value) → IsOnce (map value_as values)
    → length values ≤ 16 → HasManyFreeRunsOver t (ValuesOf values)
    → IsRefusedOver t (ValuesOf values) TooManyRuns
checked_runs t values once le many = (few_values values once le, many)

pub checked_none : (t : Content) (values : List Value) → IsOnce (map value_as values)
    → length values ≤ 16 → (HasManyFreeRunsOver t (ValuesOf values) → ⊥)
    → (r : Refusal) → IsRefusedOver t (ValuesOf values) r → ⊥
checked_none t values once le few TooManyEvents is = is
checked_none t values once le few TooManyValues is = few_values values once le is
checked_none t values once le few TooManyRuns is = few is.1
checked_none t values once le few TooManyCandidates is = is
checked_none t values once le few AddressFault is = is
checked_none t values once le few TooManyCombinations is = is

-- ---- all rounds

-- The values after the rounds of numbers below k are not refused.
abbrev pub SoundBelow : Content → ℕ → Type 0
SoundBelow t k = (j : ℕ) (q : Refusal) → j < k → IsRefusedAt t j q → ⊥

pub sound_begin : (t : Content) → SoundBelow t 0
sound_begin t j q lt = absurd (omega (arith, lt))

pub sound_more : (t : Content) (k : ℕ) (values : List Value)
    → IsListOf (InRound t k) (map value_as values)
    → ((r : Refusal) → IsRefusedOver t (ValuesOf values) r → ⊥) → SoundBelow t k
    → SoundBelow t (k + 1)
sound_more t k values listed sound before j q lt = split (below j lt)
  where
    below : (j : ℕ) → j < k + 1 → (j < k) ⊎ (j ≡ k)
    below j lt = grind arith

    split : (j < k) ⊎ (j ≡ k) → IsRefusedAt t j q → ⊥
    split (inl less) is = before j q less is
    split (inr same) is =
        sound q
        (refused_over t k values listed q (subst (λ (i : ℕ). IsRefusedAt t i q) same is))

pub listed_more : (t : Content) (k : ℕ) (values next : List Value)
    → IsListOf (InRound t k) (map value_as values)
    → IsListOf (InNext t (ValuesOf values)) (map value_as next)
    → IsListOf (InRound t (k + 1)) (map value_as next)
listed_more t k values next listed following =
    subst (λ (n : ℕ). IsListOf (InRound t n) (map value_as next)) (sym (add-one k))
    (next_round t k values listed next following)

pub rounds_refused : (t : Content) (n k : ℕ) (values : List Value) (r : code.Refusal) → k ≤ n
    → IsListOf (InRound t k) (map value_as values) → SoundBelow t k
    → IsRefusedOver t (ValuesOf values) (refusal_as r) → AreRounds t n (Err r)
rounds_refused t n k values r le listed sound is =
    (k, le, sound, refused_at t k values listed (refusal_as r) is)

pub rounds_sound : (t : Content) (n k : ℕ) (values : Vec Value Global) → k ≤ n → n ≤ k
    → IsListOf (InRound t k) (map value_as values.items) → SoundBelow t k
    → ((r : Refusal) → IsRefusedOver t (ValuesOf values.items) r → ⊥)
    → AreRounds t n (Ok values)
rounds_sound t n k values le ge listed sound last = (
  (λ j r less is. sound_more t k values.items listed last sound j r (omega (arith, less, ge)) is),
  subst (λ (m : ℕ). IsListOf (InRound t m) (map value_as values.items)) same listed,
)
  where
    same : k ≡ n
    same = omega (arith, le, ge)

-- ---- the domain

pub domain_values : (t : Content) (values : Vec Value Global) → event_count t ≤ 128
    → AreRounds t (instruction_count is_load t) (Ok values) → IsDomainFound t (Ok values)
domain_values t values few rounds = ((few, rounds.0), rounds.1)

pub domain_refused : (t : Content) (r : code.Refusal) → event_count t ≤ 128
    → AreRounds t (instruction_count is_load t) (Err r) → IsDomainFound t (Err r)
domain_refused t r few (k, le, sound, is) =
    ((λ has. has.1 k (refusal_as r) le is), refusal r is)
  where
    refusal : (r : code.Refusal) → IsRefusedAt t k (refusal_as r) → IsRefusal t (refusal_as r)
    refusal codes.TooManyEvents at = absurd at
    refusal codes.TooManyValues at = (few, (k, record { bound = le; before = sound; refused = at }))
    refusal codes.TooManyRuns at = (few, (k, record { bound = le; before = sound; refused = at }))
    refusal codes.TooManyCandidates at = absurd at
    refusal codes.AddressFault at = absurd at
    refusal codes.TooManyCombinations at = absurd at

pub domain_large : (t : Content) → 128 < event_count t
    → (HasDomain t → ⊥) × (128 < event_count t)
domain_large t many = ((λ has. let few : _ = has.0 in omega (arith, few, many)), many)

pub domain_of : (t : Content) (n : ℕ) (answer : Result (Vec Value Global) code.Refusal)
    → event_count t ≤ 128 → n ≡ instruction_count is_load t → AreRounds t n answer
    → IsDomainFound t answer
domain_of t n answer few same rounds =
    decide answer (subst (λ (m : ℕ). AreRounds t m answer) same rounds)
  where
    decide : (a : Result (Vec Value Global) code.Refusal)
        → AreRounds t (instruction_count is_load t) a → IsDomainFound t a
    decide (Ok values) are = domain_values t values few are
    decide (Err r) are = domain_refused t r few are

pub few_events : (t : Content) (ls : List (Bor (List ℕ))) (n : ℕ) → names_as ls ≡ locations t
    → n ≡ instruction_count is_event t → (128 < length ls + n → ⊥) → event_count t ≤ 128
few_events t ls n names same few = at_most (event_count t) (λ lt. few (omega (arith, lt, long, same)))
  where
    long : length ls ≡ length (locations t)
    long =
        sym (length-map ls (λ (l : Bor (List ℕ)). l.now))
        ∙ ap (λ (l : List Name). length l) names

    at_most : (m : ℕ) → (128 < m → ⊥) → m ≤ 128
    at_most m not = elim (either m) [ inl le ↦ le | inr lt ↦ absurd (not lt) ]
      where
        either : (m : ℕ) → (m ≤ 128) ⊎ (128 < m)
        either m = grind arith

pub many_events : (t : Content) (ls : List (Bor (List ℕ))) (n : ℕ) → names_as ls ≡ locations t
    → n ≡ instruction_count is_event t → 128 < length ls + n
    → (HasDomain t → ⊥) × (128 < event_count t)
many_events t ls n names same many = domain_large t (omega (arith, many, long, same))
  where
    long : length ls ≡ length (locations t)
    long =
        sym (length-map ls (λ (l : Bor (List ℕ)). l.now))
        ∙ ap (λ (l : List Name). length l) names

pub start_listed : (t : Content) (ls : List Name) (vs : List machine.Value) → ls ≡ locations t
    → IsListOf (Given (IsStartOf t) ls) vs → IsListOf (InRound t 0) vs
start_listed t ls vs names listed =
    listed_as (Given (IsStartOf t) ls) (InRound t 0) vs (λ v. (to v, back v)) listed
  where
    to : (v : machine.Value) → Given (IsStartOf t) ls v → InRound t 0 v
    to v (l, there, is) =
        (l, subst (λ (ns : List Name). Contains ns l) names there, sym is)

    back : (v : machine.Value) → InRound t 0 v → Given (IsStartOf t) ls v
    back v (l, there, is) =
        (l, subst (λ (ns : List Name). Contains ns l) (sym names) there, sym is)

pub few_runs : (fs gs : List frees.FreeRun) (b : Bool) → gs ≡ fs → (4096 < length gs → IsTrue b)
    → b ≡ false → length (map free_run_as fs) ≤ 4096
few_runs fs gs b same many other = elim (either (length (map free_run_as fs))) [
  | inl le ↦ le
  | inr lt ↦ absurd (not_true b other (many (omega (arith, lt, long))))
]
  where
    long : length gs ≡ length (map free_run_as fs)
    long =
        ap (λ (l : List frees.FreeRun). length l) same ∙ sym (length-map fs free_run_as)

    either : (m : ℕ) → (m ≤ 4096) ⊎ (4096 < m)
    either m = grind arith

pub over_runs : (fs gs : List frees.FreeRun) → gs ≡ fs → 4096 < length gs
    → 4096 < length (map free_run_as fs)
over_runs fs gs same many =
    let long : length gs ≡ length (map free_run_as fs) =
    ap (λ (l : List frees.FreeRun). length l) same ∙ sym (length-map fs free_run_as) in
    omega (arith, many, long)

-- what is checked of the same values, by the same answer
pub checked_at : (t : Content) (values lent : List Value)
    (found answer : Result (Vec Value Global) code.Refusal) → lent ≡ values → found ≡ answer
    → IsRoundFound t (ValuesOf lent) found → IsRoundFound t (ValuesOf values) answer
checked_at t values lent found answer same is checked =
    subst (λ (l : List Value). IsRoundFound t (ValuesOf l) answer) same
    (subst (λ (a : Result (Vec Value Global) code.Refusal). IsRoundFound t (ValuesOf lent) a) is checked)
