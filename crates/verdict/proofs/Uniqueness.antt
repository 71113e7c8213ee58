-- An outcome is the only one of what it is made from.
use Rattle.std.proofs.Common.{ℕ, ◌<◌, Bool, true, false, cond, inl, inr, ◌≡◌, List, [], ◌∷◌, length, refl, sym, ap, subst, ◌∙◌, arith}
use Rattle.std.specs.Cmp.{IsEquivalence, IsTotalOrder}
use Rattle.std.specs.List.{All, Contains, filter}
use Rattle.std.specs.List.Sorted.{IsStrictlySortedBy}
use Rattle.std.specs.Ordering.{ordering_reverse}
use Rattle.std.specs.declared.cmp.Ordering.{Ordering}
use Rattle.std.specs.declared.cmp.Ordering.TheVariants.{Less, Greater}
use Rattle.std.proofs.lemmas.Cmp.{eq_by_cmp_equiv}
use Rattle.std.proofs.lemmas.List.Elements.{All-head, All-tail, All-contains}
use Rattle.std.proofs.lemmas.Map.Keys.{Less-from_sorted}
use Rattle.std.proofs.lemmas.Map.Views.{Contains-from_any, list_any-from_Contains}
use Rattle.text_values.specs.declared.test.Place.{Place}
use Rattle.text_values.specs.declared.test.Quantifier.{Quantifier}
use Rattle.text_values.specs.TestValue.{Formula}
use Rattle.candidate_spaces.specs.Space.{Shown}
use Rattle.candidates.proofs.Elements.{member_cases, member_later}
use Rattle.candidates.proofs.Sole.{same_rising}
use Rattle.verdict.specs.Evaluated.{number_that, values_of, IsStateOf, Says, IsEvaluation, IsEvaluatedAs}
use Rattle.outcome_states.specs.Final.{final_value, final_state}
use Rattle.verdict.specs.Judgement.{observation_of, is_met}
use Rattle.outcome_states.specs.Kept.{Flag, kept}
use Rattle.verdict.specs.Laws.{HasOneConditionOutcome}
use Rattle.outcome_states.specs.Order.{observable_cmp, state_cmp, is_observable, is_state}
use Rattle.outcome_states.specs.Shown.{AreShown}
use Rattle.outcome_states.specs.Text.{state_text}
use Rattle.outcome_states.specs.declared.answer.CountedState.{CountedState}
use Rattle.outcome_states.specs.declared.answer.Evaluation.{Evaluation}
use Rattle.outcome_states.specs.declared.answer.FinalValue.{FinalValue}
use Rattle.outcome_states.specs.declared.answer.OutcomeResult.{OutcomeResult}
use Rattle.outcome_states.specs.declared.answer.OutcomeResult.TheVariants.{Refused, Evaluated}
use Rattle.outcome_states.specs.declared.observable.Observable.{Observable}
use Rattle.outcome_states.proofs.Orders.{observable_total, state_total, is_observable_same, is_state_same}

-- ---- rising lists with the same members

less_apart : (o r : Ordering) → o ≡ ordering_reverse r → o ≡ Less → r ≡ Less → ⊥
less_apart o r is e f = let g : Less ≡ Greater = sym e ∙ is ∙ ap ordering_reverse f in cc

sorted_alike : {K : Type 0} (cmp : K → K → Ordering) → IsTotalOrder cmp → (xs ys : List K)
    → IsStrictlySortedBy cmp xs → IsStrictlySortedBy cmp ys
    → ((z : K) → Contains xs z → Contains ys z) → ((z : K) → Contains ys z → Contains xs z)
    → xs ≡ ys
sorted_alike {K} cmp total xs ys h k there back =
    same_rising (λ (x y : K). cmp x y ≡ Less)
    (λ x y e f. less_apart (cmp x y) (cmp y x) (total.antisymm x y) e f) xs ys
    (λ i j d lt long. Less-from_sorted cmp xs i j d h lt long)
    (λ i j d lt long. Less-from_sorted cmp ys i j d k lt long) there back

is_observable_equiv : IsEquivalence is_observable
is_observable_equiv = eq_by_cmp_equiv observable_total

among_other : (ls : List (List ℕ)) (ps : List Place) (shown other : List Observable)
    → AreShown ls ps shown → AreShown ls ps other → (z : Observable) → Contains shown z
    → Contains other z
among_other ls ps shown other h k z c =
    Contains-from_any {eq = is_observable} is_observable_same z other (k.exact z ∙ sym (h.exact z)
    ∙ list_any-from_Contains is_observable_equiv z shown c)

-- the observables that are shown are determined
shown_alike : (ls : List (List ℕ)) (ps : List Place) (shown other : List Observable)
    → AreShown ls ps shown → AreShown ls ps other → shown ≡ other
shown_alike ls ps shown other h k =
    sorted_alike observable_cmp observable_total shown other h.ordered k.ordered
    (among_other ls ps shown other h k) (among_other ls ps other shown k h)

-- ---- where some pass a test, there is one

abbrev Passing : {X : Type 0} → (X → Bool) → List X → Type 0
Passing {X} p xs = (x : X) × Contains xs x × (p x ≡ true)

passing_at : {X : Type 0} (p : X → Bool) (x : X) (xs : List X) (b : Bool) → p x ≡ b
    → 0 < length (cond b (x ∷ filter p xs) (filter p xs))
    → (0 < length (filter p xs) → Passing p xs) → Passing p (x ∷ xs)
passing_at p x xs true is some more = (x, (0, omega arith, refl), is)
passing_at p x xs false is some more =
    let found = more some in (found.0, member_later x xs found.0 found.1, found.2)

passing : {X : Type 0} (p : X → Bool) (xs : List X) → 0 < length (filter p xs) → Passing p xs
passing p [] some = absurd (omega arith)
passing p (x ∷ xs) some = passing_at p x xs (p x) refl some (passing p xs)

-- ---- states

module _ (locations : List (List ℕ)) (proposition : Formula) (shown : List Observable)
    (candidates : List (ℕ × Shown)) where
  abbrev Counted : CountedState → Type 0
  Counted = IsStateOf locations proposition shown candidates

  abbrev end : ℕ × Shown → List FinalValue
  end x = final_state shown x.1

  -- some candidate ends in it
  ends : (s : CountedState) → Counted s
      → (x : ℕ × Shown) × Contains candidates x × (s.values ≡ end x)
  ends s c =
      let some : 0 < number_that (λ x. is_state s.values (final_state shown x)) candidates = subst (λ (n : ℕ). 0 < n) c.count c.above in
      let found = passing (λ (x : ℕ × Shown). is_state s.values (end x)) candidates some in
      (found.0, found.1, is_state_same s.values (end found.0) found.2)

  state_alike : (s t : CountedState) → s.values ≡ t.values → Counted s → Counted t → s ≡ t
  state_alike s t same c d =
      let found = ends s c in
      let text : s.text ≡ t.text = c.text ∙ ap (state_text locations shown) same ∙ sym d.text in
      let count : s.count ≡ t.count = c.count ∙ ap (λ (v : List FinalValue). number_that (λ x. is_state v (final_state shown x)) candidates) same ∙ sym d.count in
      let holds : s.holds ≡ t.holds = c.holds (final_value found.0.1) found.2 ∙ sym (d.holds (final_value found.0.1) (sym same ∙ found.2)) in
      λ i. record { values = same i; text = text i; count = count i; holds = holds i }

  states_alike : (ss ts : List CountedState) → values_of ss ≡ values_of ts → All Counted ss
      → All Counted ts → ss ≡ ts
  states_alike [] [] same c d = refl
  states_alike [] (t ∷ ts) same c d = cc
  states_alike (s ∷ ss) [] same c d = cc
  states_alike (s ∷ ss) (t ∷ ts) same c d =
      let first : s.values ≡ t.values = cc in
      let rest : values_of ss ≡ values_of ts = cc in
      ap (λ (x : CountedState). x ∷ ss) (state_alike s t first (All-head Counted s ss c)
      (All-head Counted t ts d))
      ∙ ap (λ (xs : List CountedState). t ∷ xs) (states_alike ss ts rest (All-tail Counted s ss c)
      (All-tail Counted t ts d))

  -- the values of a state of one evaluation are those of a state of another
  ended_too : (ss ts : List CountedState) → All Counted ss
      → All (λ x. Contains (values_of ts) (end x)) candidates → (z : List FinalValue)
      → Contains (values_of ss) z → Contains (values_of ts) z
  ended_too [] ts c ended z (k, lt, is) = absurd (omega arith)
  ended_too (s ∷ ss) ts c ended z here = elim (member_cases s.values (values_of ss) z here) [
    | inl e ↦
        let found = ends s (All-head Counted s ss c) in
        subst (λ (v : List FinalValue). Contains (values_of ts) v) (sym found.2 ∙ e)
        (All-contains (λ x. Contains (values_of ts) (end x)) candidates found.0 ended found.1)
    | inr later ↦ ended_too ss ts (All-tail Counted s ss c) ended z later
  ]

  module _ (kind : Quantifier) (flags : List Flag) where
    evaluation_alike : (d e : Evaluation) → Says locations kind proposition shown candidates flags d
        → Says locations kind proposition shown candidates flags e → d ≡ e
    evaluation_alike d e h k =
        let values : values_of d.states ≡ values_of e.states =
        sorted_alike state_cmp state_total (values_of d.states) (values_of e.states) h.rising
        k.rising
        (ended_too d.states e.states h.states k.ended)
        (ended_too e.states d.states k.states h.ended) in
        let states : d.states ≡ e.states = states_alike d.states e.states values h.states k.states in
        let positive : d.positive ≡ e.positive = h.positive ∙ sym k.positive in
        let negative : d.negative ≡ e.negative = h.negative ∙ sym k.negative in
        let observation : d.observation ≡ e.observation = h.judged.0 ∙ ap (λ (n : ℕ). observation_of n d.negative) positive ∙ ap (observation_of e.positive) negative ∙ sym k.judged.0 in
        let ok : d.ok ≡ e.ok = h.judged.1 ∙ ap (λ (n : ℕ). is_met kind n d.negative) positive ∙ ap (is_met kind e.positive) negative ∙ sym k.judged.1 in
        let names : d.flags ≡ e.flags = h.names ∙ sym k.names in
        λ i. record {
          states = states i;
          positive = positive i;
          negative = negative i;
          observation = observation i;
          ok = ok i;
          flags = names i;
        }

-- ---- outcomes

result_alike : (locations : List (List ℕ)) (executions : List Shown) (kind : Quantifier)
    (proposition : Formula) (observed : List Place) (checks : List (List Bool))
    (flags : List Flag) (r q : OutcomeResult)
    → IsEvaluatedAs (IsEvaluation locations executions kind proposition observed checks flags) r
    → IsEvaluatedAs (IsEvaluation locations executions kind proposition observed checks flags) q
    → r ≡ q
result_alike locations executions kind proposition observed checks flags (Refused x) q h k =
    absurd h
result_alike locations executions kind proposition observed checks flags (Evaluated d) (Refused y) h
    k = absurd k
result_alike locations executions kind proposition observed checks flags (Evaluated d) (Evaluated e)
    h k =
    ap Evaluated (evaluation_alike locations proposition h.0 (kept checks executions) kind flags d e
    h.2
    (subst
    (λ (l : List Observable).
    Says locations kind proposition l (kept checks executions) flags e)
    (sym (shown_alike _ _ h.0 k.0 h.1 k.1)) k.2))

pub one_outcome : (locations : List (List ℕ)) (executions : List Shown) (kind : Quantifier)
    (proposition : Formula) (observed : List Place) (checks : List (List Bool))
    (flags : List Flag)
    → HasOneConditionOutcome locations executions kind proposition observed checks flags
one_outcome locations executions kind proposition observed checks flags o p h k =
    let same_kind : o.kind ≡ p.kind = h.kind_is ∙ sym k.kind_is in
    let condition : o.condition ≡ p.condition = h.text ∙ sym k.text in
    let result : o.result ≡ p.result = result_alike locations executions kind proposition observed checks flags o.result p.result h.result k.result in
    λ i. record { kind = same_kind i; condition = condition i; result = result i }
