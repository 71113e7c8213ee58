-- From the counts of the states to what the kept candidates say.
use Rattle.std.proofs.Common.{ℕ, ◌+◌, ◌-◌, ◌^◌, ◌<◌, ◌≤◌, min, Bool, true, false, not, ◌&&◌, cond, ◌≡◌, List, [], ◌∷◌, ◌++◌, Vec, Global, length, get_or, map, slice_index_or, Some, refl, sym, ap, subst, ◌∙◌, arith}
use mathlib.Core.Path.{fun_ext}
use Rattle.std.specs.Cmp.{IsEquivalence}
use Rattle.std.specs.Cmp.Lexicographic.{slice_cmp}
use Rattle.std.specs.List.{All, Contains, IsDistinct, list_any, enumerate_from}
use Rattle.std.specs.List.Sorted.{IsStrictlySortedBy}
use Rattle.std.specs.Map.{keys_of, lookup}
use Rattle.std.specs.Map as maps
use Rattle.std.specs.Option.{unwrap_or}
use Rattle.std.specs.declared.cmp.Ordering.{Ordering}
use Rattle.std.proofs.lemmas.Cmp.{eq_by_cmp_equiv}
use Rattle.std.proofs.lemmas.List.Elements.{All-weaker, All-head, All-tail}
use Rattle.std.proofs.lemmas.List.Sums.{sum_by-cons}
use Rattle.std.proofs.lemmas.Map.Keys.{IsDistinct-from_sorted}
use Rattle.std.proofs.lemmas.Map.Views.{Contains-from_any}
use Rattle.text_values.specs.declared.test.Quantifier.{Quantifier}
use Rattle.text_values.specs.declared.test.Place.{Place}
use Rattle.text_values.specs.TestValue.{Formula}
use Rattle.candidate_spaces.specs.Space.{Shown}
use Rattle.outcome_states.specs.Compiled.{value_of, Shows, Compiles}
use Rattle.outcome_states.specs.Counting.{count_kept, tally, AreAbove, pairs_of, pairs_in}
use Rattle.verdict.specs.Evaluated.{number_that, is_satisfied, values_of, IsWorded, IsStateOf, Says}
use Rattle.outcome_states.specs.Final.{final_value, final_state}
use Rattle.verdict.specs.Judgement.{is_same_truth, total_of, IsJudged}
use Rattle.outcome_states.specs.Kept.{holds_at, is_kept, holds_on_some, kept, Flag, names_of_flags, raised_names}
use Rattle.outcome_states.specs.Meaning.{observables_of}
use Rattle.outcome_states.specs.Order.{state_cmp, is_state}
use Rattle.outcome_states.specs.Shown.{known_observables, is_among, AreShown}
use Rattle.outcome_states.specs.declared.answer.CountedState.{CountedState}
use Rattle.outcome_states.specs.declared.answer.Evaluation.{Evaluation}
use Rattle.outcome_states.specs.declared.answer.FinalValue.{FinalValue}
use Rattle.outcome_states.specs.declared.formula.Formula as code
use Rattle.outcome_states.specs.declared.observable.Observable.{Observable}
use Rattle.outcome_states.specs.contracts.answer.FinalValueOrd.TheImpl as value_ord
use Rattle.outcome_states.proofs.Atoms.{known_of_both}
use Rattle.verdict.proofs.KeptLists.{counted_by_indices, many_within, raised_by_indices, rising_read}
use Rattle.outcome_states.proofs.Orders.{value_orders, state_total, is_state_same}
use Rattle.verdict.proofs.Spread.{how_many, weigh, many_agree, length-filter_twice, weighed, all_keys, own_number, All-of_map}
use Rattle.outcome_states.proofs.Tallies.{Entries}
use Rattle.std.proofs.lemmas.Bool.{or_left}

abbrev State : Type 0
State = List FinalValue

-- ---- the states of a map, in its order

pub one_more_state : (states : List CountedState) (s : CountedState) (ps : List (State × ℕ))
    → pairs_of (states ++ s ∷ []) ++ ps ≡ pairs_of states ++ (s.values, s.count) ∷ ps
one_more_state [] s ps = refl
one_more_state (t ∷ ts) s ps =
    ap (λ (l : List (State × ℕ)). (t.values, t.count) ∷ l) (one_more_state ts s ps)

keys_read : (es : Entries) → map (λ k. k.items) (keys_of es) ≡ keys_of (pairs_in es)
keys_read [] = refl
keys_read (e ∷ es) = ap (λ (l : List State). e.0.items ∷ l) (keys_read es)

keys_of_pairs : (states : List CountedState) → keys_of (pairs_of states) ≡ values_of states
keys_of_pairs [] = refl
keys_of_pairs (s ∷ ss) = ap (λ (l : List State). s.values ∷ l) (keys_of_pairs ss)

abbrev ByItems : (FinalValue → FinalValue → Ordering) → Entries → Type 0
ByItems R es = IsStrictlySortedBy (λ x y. slice_cmp R x.items y.items) (keys_of es)

pub states_rise : (states : List CountedState) (es : Entries) → pairs_of states ≡ pairs_in es
    → ByItems ((value_ord.ghosts).cmp) es → IsStrictlySortedBy state_cmp (values_of states)
states_rise states es is h =
    subst (λ (l : List State). IsStrictlySortedBy state_cmp l) (keys_read es
    ∙ ap (λ (ps : List (State × ℕ)). keys_of ps) (sym is) ∙ keys_of_pairs states)
    (rising_read (λ (k : Vec FinalValue Global). k.items) state_cmp (keys_of es)
    (subst (λ (R : FinalValue → FinalValue → Ordering). ByItems R es) value_orders h))

-- ---- counts, as pairs of a state and a number

is_state_equiv : IsEquivalence is_state
is_state_equiv = eq_by_cmp_equiv state_total

abbrev at : List (State × ℕ) → State → ℕ
at ps v = unwrap_or (lookup (is_state v) ps) 0

entries_read : (v : State) (es : Entries)
    → lookup (is_state v) (pairs_in es) ≡ lookup (λ k. is_state v k.items) es
entries_read v [] = refl
entries_read v (e ∷ es) = ap (λ o. cond (is_state v e.0.items) (Some e.1) o) (entries_read v es)

at_tally : (v : State) (states : List CountedState) (es : Entries) → pairs_of states ≡ pairs_in es
    → at (pairs_of states) v ≡ tally es v
unfolding tally
at_tally v states es is =
    ap (λ (ps : List (State × ℕ)). at ps v) is ∙ ap (λ o. unwrap_or o 0) (entries_read v es)

entry_counts : (es : Entries) → maps.values_of es ≡ map (λ p. p.1) (pairs_in es)
entry_counts [] = refl
entry_counts (e ∷ es) = ap (λ (l : List ℕ). e.1 ∷ l) (entry_counts es)

state_counts : (states : List CountedState)
    → map (λ p. p.1) (pairs_of states) ≡ map (λ s. s.count) states
state_counts [] = refl
state_counts (s ∷ ss) = ap (λ (l : List ℕ). s.count ∷ l) (state_counts ss)

counts_read : (states : List CountedState) (es : Entries) → pairs_of states ≡ pairs_in es
    → maps.values_of es ≡ map (λ s. s.count) states
counts_read states es is =
    entry_counts es ∙ ap (λ (ps : List (State × ℕ)). map (λ p. p.1) ps) (sym is)
    ∙ state_counts states

apart : (states : List CountedState) → IsStrictlySortedBy state_cmp (values_of states)
    → IsDistinct is_state (keys_of (pairs_of states))
apart states h =
    subst (λ (l : List State). IsDistinct is_state l) (sym (keys_of_pairs states))
    (IsDistinct-from_sorted state_cmp (values_of states) h)

-- the sums of the counts by an answer are sums by the states
weights : (locations : List (List ℕ)) (shown : List Observable) (f : code.Formula) (b : Bool)
    (states : List CountedState) → All (IsWorded locations shown f) states
    → total_of (λ s. is_same_truth s.holds b) states
    ≡ weigh (λ v. is_same_truth (value_of v f) b) (pairs_of states)
unfolding weigh
weights ls shown f b [] h = refl
weights ls shown f b (s ∷ ss) h =
    sum_by-cons (λ (t : CountedState). cond (is_same_truth t.holds b) t.count 0) s ss
    ∙ ap (λ (x : Bool). cond (is_same_truth x b) s.count 0 + total_of (λ t. is_same_truth t.holds b) ss)
    (All-head (IsWorded ls shown f) s ss h).1
    ∙ ap (λ (n : ℕ). cond (is_same_truth (value_of s.values f) b) s.count 0 + n)
    (weights ls shown f b ss (All-tail (IsWorded ls shown f) s ss h))

same_true : (a : Bool) → is_same_truth a true ≡ a
same_true true = refl
same_true false = refl

same_false : (a : Bool) → is_same_truth a false ≡ not a
same_false true = refl
same_false false = refl

-- the observables of the proposition are among those that are shown
pub shows_all : (ls : List (List ℕ)) (ps observed : List Place) (shown : List Observable)
    → AreShown ls (ps ++ observed) shown → Shows ls shown ps
shows_all ls ps observed shown are p h =
    are.exact p ∙ known_of_both ls ps observed p
    ∙ or_left (is_among (known_observables ls ps) p) (is_among (known_observables ls observed) p) h

no_cap : (n m top : ℕ) → m ≡ min n top → n ≤ top → m ≡ n
no_cap n m top h le = omega (arith, h)

-- ---- the evaluation

module _ (locations : List (List ℕ)) (all : List Shown) (kind : Quantifier) (proposition : Formula)
    (shown : List Observable) (checks : List (List Bool)) (flags : List Flag) (keep : List Bool)
    (f : code.Formula) (e : Evaluation) (es : Entries) where
  abbrev numbered : List (ℕ × Shown)
  numbered = enumerate_from 0 all

  abbrev is_in : ℕ × Shown → Bool
  is_in x = is_kept checks x.0

  abbrev end : ℕ × Shown → State
  end x = final_state shown x.1

  module _ (fits : length all ≤ 2 ^ 64 - 1) (long : length keep ≡ length all)
      (keeps : (k : ℕ) → k < length all → slice_index_or keep k false ≡ is_kept checks k)
      (tallies : (v : State)
      → tally es v
      ≡ min (count_kept (λ x. is_state v (final_state shown x)) keep all) (2 ^ 64 - 1))
      (above : AreAbove es)
      (counts : pairs_of e.states ≡ pairs_in es)
      (rises : IsStrictlySortedBy state_cmp (values_of e.states))
      (words : All (IsWorded locations shown f) e.states)
      (means : Compiles locations shown proposition f)
      (shows : Shows locations shown (observables_of proposition)) where
    within : (p : ℕ × Shown → Bool) → how_many p numbered ≤ 2 ^ 64 - 1
    within p = omega (arith, fits, many_within p 0 all)

    number_is : (test : Shown → Bool)
        → number_that test (kept checks all) ≡ how_many (λ x. is_in x && test x.1) numbered
    number_is test = length-filter_twice is_in (λ x. test x.1) numbered

    number_at : (v : State)
        → at (pairs_of e.states) v ≡ how_many (λ x. is_in x && is_state v (end x)) numbered
    number_at v =
        at_tally v e.states es counts
        ∙ no_cap (how_many (λ x. is_in x && is_state v (end x)) numbered) (tally es v) (2 ^ 64 - 1)
        (tallies v
        ∙ ap (λ (n : ℕ). min n (2 ^ 64 - 1)) (counted_by_indices (is_kept checks)
        (λ x. is_state v (final_state shown x)) 0 keep all (λ k lt.
        let z : k ≡ 0 + k = omega arith in
        keeps k lt ∙ ap (is_kept checks) z)))
        (within (λ x. is_in x && is_state v (end x)))

    distinct : IsDistinct is_state (keys_of (pairs_of e.states))
    distinct = apart e.states rises

    ended : All (λ x. Contains (values_of e.states) (end x)) (kept checks all)
    ended =
        All-weaker (λ x. list_any (is_state (end x)) (keys_of (pairs_of e.states)) ≡ true)
        (λ x. Contains (values_of e.states) (end x))
        (λ x h. Contains-from_any {eq = is_state} is_state_same (end x) (values_of e.states)
        (subst (λ (l : List State). list_any (is_state (end x)) l ≡ true)
        (keys_of_pairs e.states) h))
        (kept checks all)
        (all_keys is_state is_state_equiv is_state_same end (pairs_of e.states) is_in numbered
        (λ v. omega (arith, number_at v)))

    summed : (b : Bool) (n : ℕ) → n ≡ min (total_of (λ s. is_same_truth s.holds b) e.states) (2 ^ 64 - 1)
        → n ≡ number_that (λ x. is_same_truth (is_satisfied locations proposition x) b) (kept checks all)
    summed b n h =
        no_cap (how_many (λ x. is_in x && is_same_truth (value_of (end x) f) b) numbered) n (2 ^ 64 - 1)
        (h
        ∙ ap (λ (m : ℕ). min m (2 ^ 64 - 1)) (weights locations shown f b e.states words
        ∙ weighed is_state is_state_equiv is_state_same end
        (λ v. is_same_truth (value_of v f) b) (pairs_of e.states) is_in numbered
        distinct number_at))
        (within (λ x. is_in x && is_same_truth (value_of (end x) f) b))
        ∙ many_agree (λ x. is_in x && is_same_truth (value_of (end x) f) b) (λ x. is_in x
        && is_same_truth (is_satisfied locations proposition x.1) b)
        (λ x. ap (λ (a : Bool). is_in x && is_same_truth a b) (means shows (final_value x.1))) numbered
        ∙ sym (number_is (λ x. is_same_truth (is_satisfied locations proposition x) b))

    raised : names_of_flags (λ g. holds_on_some keep g.1) flags ≡ raised_names (kept checks all) flags
    raised =
        ap (λ (test : Flag → Bool). names_of_flags test flags)
        (fun_ext (λ g. raised_by_indices (is_kept checks) (λ k. holds_at k g.1) 0 keep g.1 all long
        (λ k lt. let z : k ≡ 0 + k = omega arith in keeps k lt ∙ ap (is_kept checks) z)
        (λ k. let z : k ≡ 0 + k = omega arith in ap (λ (m : ℕ). holds_at m g.1) z)))

    counted : All (IsStateOf locations proposition shown (kept checks all)) e.states
    counted k d lt =
        let s : CountedState = get_or e.states k d in
        let word = words k d lt in
        let number : s.count ≡ at (pairs_of e.states) s.values =
        All-of_map (λ (p : State × ℕ). p.1 ≡ at (pairs_of e.states) p.0)
        (λ (t : CountedState). (t.values, t.count)) e.states
        (own_number is_state is_state_equiv is_state_same end (pairs_of e.states) distinct) k d
        lt in
        let some : 0 < s.count =
        All-of_map (λ (n : ℕ). 0 < n) (λ (t : CountedState). t.count) e.states
        (subst (λ (l : List ℕ). All (λ n. 0 < n) l) (counts_read e.states es counts) above) k d
        lt in
        record {
          text = word.0;
          count =
              number ∙ number_at s.values
              ∙ sym (number_is (λ x. is_state s.values (final_state shown x)));
          above = some;
          holds = λ content is. word.1 ∙ ap (λ (v : State). value_of v f) is ∙ means shows content;
        }

    pub says : e.positive ≡ min (total_of (λ s. is_same_truth s.holds true) e.states) (2 ^ 64 - 1)
        → e.negative ≡ min (total_of (λ s. is_same_truth s.holds false) e.states) (2 ^ 64 - 1)
        → e.flags ≡ names_of_flags (λ g. holds_on_some keep g.1) flags → IsJudged kind e
        → Says locations kind proposition shown (kept checks all) flags e
    says positive negative names judged = record {
      rising = rises;
      states = counted;
      ended = ended;
      positive =
          summed true e.positive positive
          ∙ ap (λ (t : Shown → Bool). number_that t (kept checks all))
          (fun_ext (λ x. same_true (is_satisfied locations proposition x)));
      negative =
          summed false e.negative negative
          ∙ ap (λ (t : Shown → Bool). number_that t (kept checks all))
          (fun_ext (λ x. same_false (is_satisfied locations proposition x)));
      names = names ∙ raised;
      judged = judged;
    }
