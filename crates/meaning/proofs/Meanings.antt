-- A test says one thing under a model.
use Rattle.std.proofs.Common.{◌≡◌, inl, inr, ℕ, suc, List, [], ◌∷◌, Contains, sym, ap, ap₂, subst, ◌∙◌, All}
use Rattle.std.specs.Cmp.{both_ways}
use Rattle.text_values.specs.TestValue.{Content}
use Rattle.text_values.specs.ModelValue.{Clause, Binding, Function, Checking, Flagging, Showing, Including}
use Rattle.meaning.specs.Sets.{Set, HasCount}
use Rattle.meaning.specs.Names.{Name}
use Rattle.meaning.specs.Machine.{Value}
use Rattle.meaning.specs.Executions.{Execution}
use Rattle.meaning.specs.Faults.{ModelFault, faults}
use Rattle.meaning.specs.Outcome.{CountedState, IsCounted, IsStateBefore, AreStates, EndsIn, Satisfies, AreRaised, AreFlags, each_once, Evaluation, Says, observation_of, is_met}
use Rattle.meaning.specs.Evaluates.{IsKept, MeetsFlag, Outcome, Faulty, Refused, Evaluated, Evaluates}
use Rattle.meaning.proofs.Counting.{counts_are_one, some_member, rising_are_one}
use Rattle.meaning.proofs.Finals.{ends_in_one}
use Rattle.meaning.proofs.Orders.{state_asymmetric}
use Rattle.meaning.proofs.Refusing.{not_accepted, refusals_are_one}

-- ---- States

-- what is said of a state of the list is right
counted_at : (t : Content) (Kept : Set Execution) (states : List CountedState)
    → All (IsCounted t Kept) states → (s : CountedState) → Contains states s
    → IsCounted t Kept s
counted_at t Kept states counted s (k, lt, eq) =
    subst (λ (one : CountedState). IsCounted t Kept one) eq (counted k s lt)

-- two right states in which one kept execution ends are one
states_are_one : (t : Content) (Kept : Set Execution) (s r : CountedState) → IsCounted t Kept s
    → IsCounted t Kept r → (x : Execution) → Kept x → EndsIn t x s.values → EndsIn t x r.values
    → s ≡ r
states_are_one t Kept s r first second x kept ends also =
    let values : s.values ≡ r.values = ends_in_one t x s.values r.values ends also in
    let count : s.count ≡ r.count =
    counts_are_one (λ y. Kept y × EndsIn t y s.values) s.count r.count first.count
    (subst (λ (vs : List Value). HasCount (λ y. Kept y × EndsIn t y vs) r.count)
    (sym values) second.count) in
    let here : _ = first.holds x kept ends in
    let there : _ = second.holds x kept also in
    let holds : s.holds ≡ r.holds =
    both_ways s.holds r.holds (λ h. there.1 (here.0 h)) (λ h. here.1 (there.0 h)) in
    λ i. record { values = values i; count = count i; holds = holds i }

-- a state of the one list stands in the other
state_stands : (t : Content) (Kept : Set Execution) (ss rs : List CountedState)
    → AreStates t Kept ss → AreStates t Kept rs → (s : CountedState) → Contains ss s
    → Contains rs s
state_stands t Kept ss rs first second s there =
    let counted : _ = counted_at t Kept ss first.counted s there in
    let some : (x : Execution) × (Kept x × EndsIn t x s.values) =
    some_member (λ y. Kept y × EndsIn t y s.values) s.count counted.count counted.above in
    let other : _ = second.whole some.0 some.1.0 in
    let same : other.0 ≡ s =
    states_are_one t Kept other.0 s
    (counted_at t Kept rs second.counted other.0 other.1) counted some.0 some.1.0 other.2
    some.1.1 in
    subst (λ (one : CountedState). Contains rs one) same other.1

lists_are_one : (t : Content) (Kept : Set Execution) (ss rs : List CountedState)
    → AreStates t Kept ss → AreStates t Kept rs → ss ≡ rs
lists_are_one t Kept ss rs first second =
    rising_are_one (λ s r. IsStateBefore s.values r.values)
    (λ s r. state_asymmetric s.values r.values) ss rs first.rising second.rising
    (state_stands t Kept ss rs first second) (state_stands t Kept rs ss second first)

-- ---- Flags

raised_are_one : (IsRaised : ℕ → Type 0) (i : ℕ) (cs : List Clause) (ns ms : List Name)
    → AreRaised IsRaised i cs ns → AreRaised IsRaised i cs ms → ns ≡ ms
raised_are_one IsRaised i [] ns ms first second = first ∙ sym second
raised_are_one IsRaised i (Flagging check name ∷ cs) ns ms (inl first) (inl second) =
    first.1.1
    ∙ ap (λ (rest : List Name). name ∷ rest)
    (raised_are_one IsRaised (suc i) cs first.1.0 second.1.0 first.1.2 second.1.2)
    ∙ sym second.1.1
raised_are_one IsRaised i (Flagging check name ∷ cs) ns ms (inl first) (inr second) =
    absurd (second.0 first.0)
raised_are_one IsRaised i (Flagging check name ∷ cs) ns ms (inr first) (inl second) =
    absurd (first.0 second.0)
raised_are_one IsRaised i (Flagging check name ∷ cs) ns ms (inr first) (inr second) =
    raised_are_one IsRaised (suc i) cs ns ms first.1 second.1
raised_are_one IsRaised i (Binding recursive group ∷ cs) ns ms first second =
    raised_are_one IsRaised (suc i) cs ns ms first second
raised_are_one IsRaised i (Function n ps body ∷ cs) ns ms first second =
    raised_are_one IsRaised (suc i) cs ns ms first second
raised_are_one IsRaised i (Checking check label ∷ cs) ns ms first second =
    raised_are_one IsRaised (suc i) cs ns ms first second
raised_are_one IsRaised i (Showing hidden shown ∷ cs) ns ms first second =
    raised_are_one IsRaised (suc i) cs ns ms first second
raised_are_one IsRaised i (Including path ∷ cs) ns ms first second =
    raised_are_one IsRaised (suc i) cs ns ms first second

flags_are_one : (IsRaised : ℕ → Type 0) (items : List Clause) (ns ms : List Name)
    → AreFlags IsRaised items ns → AreFlags IsRaised items ms → ns ≡ ms
flags_are_one IsRaised items ns ms first second =
    first.2
    ∙ ap each_once (raised_are_one IsRaised 0 items first.0 second.0 first.1 second.1)
    ∙ sym second.2

-- ---- Outcomes

evaluations_are_one : (t : Content) (items : List Clause) (e f : Evaluation)
    → Says t items (IsKept t items) (MeetsFlag t items) e
    → Says t items (IsKept t items) (MeetsFlag t items) f → e ≡ f
evaluations_are_one t items e f first second =
    let Kept : Set Execution = IsKept t items in
    let states : e.states ≡ f.states =
    lists_are_one t Kept e.states f.states first.states second.states in
    let positive : e.positive ≡ f.positive =
    counts_are_one (λ x. Kept x × Satisfies t x t.condition) e.positive f.positive
    first.positive second.positive in
    let negative : e.negative ≡ f.negative =
    counts_are_one (λ x. Kept x × (Satisfies t x t.condition → ⊥)) e.negative f.negative
    first.negative second.negative in
    let observation : e.observation ≡ f.observation =
    first.observation ∙ ap₂ observation_of positive negative ∙ sym second.observation in
    let ok : e.ok ≡ f.ok =
    first.ok ∙ ap₂ (is_met t.quantifier) positive negative ∙ sym second.ok in
    let flags : e.flags ≡ f.flags =
    flags_are_one (λ i. (x : Execution) × Kept x × MeetsFlag t items i x) items e.flags
    f.flags first.flags second.flags in
    λ i. record {
      states = states i;
      positive = positive i;
      negative = negative i;
      observation = observation i;
      ok = ok i;
      flags = flags i;
    }

first_or : ModelFault → List ModelFault → ModelFault
first_or d [] = d
first_or d (k ∷ ks) = k

abbrev IsNonempty : List ModelFault → Type 0
IsNonempty [] = ⊥
IsNonempty (k ∷ ks) = Unit {0}

some_fault : (ks : List ModelFault) (k : ModelFault) (rest : List ModelFault) → ks ≡ k ∷ rest
    → ks ≡ [] → ⊥
some_fault ks k rest some none = subst IsNonempty (sym some ∙ none) tt

pub meanings_are_one : (t : Content) (items : List Clause) (o p : Outcome) → Evaluates t items o
    → Evaluates t items p → o ≡ p
unfolding first_or
meanings_are_one t items (Faulty k) (Faulty l) first second =
    ap (λ (ks : List ModelFault). Faulty (first_or k ks)) (sym first.1 ∙ second.1)
meanings_are_one t items (Faulty k) (Refused q) first second =
    absurd (some_fault (faults items) k first.0 first.1 second.0)
meanings_are_one t items (Faulty k) (Evaluated f) first second =
    absurd (some_fault (faults items) k first.0 first.1 second.0)
meanings_are_one t items (Refused r) (Faulty l) first second =
    absurd (some_fault (faults items) l second.0 second.1 first.0)
meanings_are_one t items (Refused r) (Refused q) first second =
    ap Refused (refusals_are_one t r q first.1 second.1)
meanings_are_one t items (Refused r) (Evaluated f) first second =
    absurd (not_accepted t r first.1 second.1)
meanings_are_one t items (Evaluated e) (Faulty l) first second =
    absurd (some_fault (faults items) l second.0 second.1 first.0)
meanings_are_one t items (Evaluated e) (Refused q) first second =
    absurd (not_accepted t q second.1 first.1)
meanings_are_one t items (Evaluated e) (Evaluated f) first second =
    ap Evaluated (evaluations_are_one t items e f first.2 second.2)
