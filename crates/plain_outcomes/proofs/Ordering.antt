-- Where a state is put among states in order.
use Rattle.std.proofs.Common.{Vec, ◌≡◌, ◌↔◌, ◌⊎◌, inl, inr, ℕ, zero, suc, ◌+◌, ◌<◌, ◌≤◌, List, [], ◌∷◌, ◌++◌, length, take, drop, get_or, Contains, Some, IsTrue, Bool, refl, sym, ap, subst, ◌∙◌, arith}
use Rattle.std.specs.declared.alloc.Global.{Global}
use Rattle.std.specs.List.{insert}
use Rattle.std.proofs.lemmas.List.{drop_all, at_drop_more, length-map, take-append-drop}
use Rattle.std.proofs.lemmas.List.Elements.{Contains-push, Contains-push_cases, Contains-append_left}
use Rattle.std.proofs.Math.ListN.{get_or-map}
use Rattle.meaning.specs.Machine as machine
use Rattle.meaning.specs.Outcome.{IsStateBefore}
use Rattle.meaning.proofs.Counting.{here, behind, head_or_tail}
use Rattle.meanings_exist.specs.Sorted.{Compared, Rises, HasOneMore, IsInOrder, IsGood}
use Rattle.meanings_exist.proofs.Sorting.{put_at}
use Rattle.meanings_exist.proofs.Ordering.{states_transitive, states_compared}
use Rattle.plain_machine.specs.declared.value.Value.{Value}
use Rattle.plain_runs.proofs.Mapping.{there_at, mapped_more, mapped_all}
use Rattle.plain_runs.proofs.Listing.{none_there}
use Rattle.plain_ends.specs.declared.ending.End.{End}
use Rattle.plain_ends.specs.Ends.{values_as}
use Rattle.plain_outcomes.specs.States.{final_state_as, states_as, end_state, ends_as, AreGood, IsPlaceOf}

abbrev State : Type 0
State = List machine.Value

-- whether the end at an index is in a state
pub at_end : (ends : List End) (k : ℕ) (item : End) (same : List Value) (s : State) (r : Bool)
    → item ≡ get_or ends k item → same ≡ item.values.items → IsTrue r ↔ (values_as same ≡ s)
    → IsTrue r ↔ (end_state (get_or ends k item) ≡ s)
at_end ends k item same s r is copied answers =
    subst (λ (e : End). IsTrue r ↔ (end_state e ≡ s)) is
    (subst (λ (vs : List Value). IsTrue r ↔ (values_as vs ≡ s)) copied answers)

-- whether the state at an index is so
pub at_state : (Is : State → Type 0) (states : List (Vec Value Global)) (k : ℕ)
    (item : Vec Value Global) (same : List Value) (r : Bool) → item ≡ get_or states k item
    → same ≡ item.items → IsTrue r ↔ Is (values_as same) → IsTrue r ↔ Is (final_state_as (get_or states k item))
at_state Is states k item same r is copied answers =
    subst (λ (v : Vec Value Global). IsTrue r ↔ Is (final_state_as v)) is
    (subst (λ (vs : List Value). IsTrue r ↔ Is (values_as vs)) copied answers)

-- ---- rising lists

rises_behind : (ss : List State) → Rises IsStateBefore ss → (k : ℕ)
    → Rises IsStateBefore (drop k ss)
rises_behind [] rises zero = tt
rises_behind [] rises (suc k) = tt
rises_behind (s ∷ ss) rises zero = rises
rises_behind (s ∷ ss) rises (suc k) = rises_behind ss rises.1 k

module _ (states : List (Vec Value Global)) (s : State) where
  abbrev Below : ℕ → Type 0
  Below k = (r : State) → Contains (take k (states_as states)) r → IsStateBefore r s

  module _ (k : ℕ) (d : Vec Value Global) (lt : k < length states) where
    abbrev at : State
    at = final_state_as (get_or states k d)

    long : k < length (states_as states)
    long = let e : _ = length-map states final_state_as in omega (arith, e, lt)

    behind_is : drop k (states_as states) ≡ at ∷ drop (k + 1) (states_as states)
    behind_is =
        at_drop_more (λ (l : List State). l) (states_as states) k (final_state_as d) long
        ∙ ap (λ (r : State). r ∷ drop (k + 1) (states_as states)) (get_or-map final_state_as states k d)

    pub there : Contains (states_as states) at
    there = there_at final_state_as states k d at lt refl

    pub place_same : s ≡ at → Contains (states_as states) s
    place_same same = subst (λ (r : State). Contains (states_as states) r) (sym same) there

    pub place_before : Rises IsStateBefore (states_as states) → Below k → IsStateBefore s at
        → IsPlaceOf s (states_as states) (Some k)
    place_before rises below before = (below, above)
      where
        later : Rises IsStateBefore (at ∷ drop (k + 1) (states_as states))
        later =
            subst (λ (l : List State). Rises IsStateBefore l) behind_is
            (rises_behind (states_as states) rises k)

        above : (r : State) → Contains (drop k (states_as states)) r → IsStateBefore s r
        above r stands =
            elim (head_or_tail at (drop (k + 1) (states_as states)) r (subst (λ (l : List State). Contains l r) behind_is stands)) [
              | inl e ↦ subst (λ (q : State). IsStateBefore s q) e before
              | inr rest ↦ states_transitive s at r before (later.0 r rest)
            ]

    pub place_later : AreGood (s ∷ states_as states) → Below k → (s ≡ at → ⊥)
        → (IsStateBefore s at → ⊥) → Below (k + 1)
    place_later good below other not_before r stands =
        elim (Contains-push_cases (take k (states_as states)) at r (subst (λ (l : List State). Contains l r) (mapped_more final_state_as states k d lt) stands)) [
          | inl earlier ↦ below r earlier
          | inr e ↦
              subst (λ (q : State). IsStateBefore q s) e
              (which (states_compared good.count s at (good.good s (here s (states_as states))) (good.good at (behind s (states_as states) at there))))
        ]
      where
        which : Compared IsStateBefore s at → IsStateBefore at s
        which (inl before) = absurd (not_before before)
        which (inr (inl same)) = absurd (other same)
        which (inr (inr after)) = after

  pub place_last : (k : ℕ) → length states ≤ k → Below k
      → IsPlaceOf s (states_as states) (Some (length states))
  place_last k le below = (
    λ r stands. below r
        (subst (λ (l : List State). Contains l r) (mapped_all final_state_as states (length states) (omega arith) ∙ sym (mapped_all final_state_as states k le)) stands),
    λ r stands. absurd
        (none_there r
        (subst (λ (l : List State). Contains l r)
        (drop_all (length states) (states_as states) (let e : _ = length-map states final_state_as in omega (arith, e))) stands)),
  )

-- ---- one state more

pub one_more : (s : State) (ss : List State) (k : ℕ) → Rises IsStateBefore ss → AreGood (s ∷ ss)
    → IsPlaceOf s ss (Some k) → HasOneMore IsStateBefore s ss (insert ss k s)
one_more s ss k rises good place =
    put_at IsStateBefore (IsGood good.count) (states_compared good.count) states_transitive s ss k
    rises place.0 place.1

pub none_more : (s : State) (ss : List State) → Rises IsStateBefore ss → Contains ss s
    → HasOneMore IsStateBefore s ss ss
none_more s ss rises stands = record {
  rises = rises;
  exact = λ z. ((λ there. inr there), back z);
}
  where
    back : (z : State) → (s ≡ z) ⊎ Contains ss z → Contains ss z
    back z (inl e) = subst (λ (r : State). Contains ss r) e stands
    back z (inr there) = there

-- ---- a loop over ends

pub sorted_none : (ss : List State) → ss ≡ [] → IsInOrder IsStateBefore [] ss
sorted_none ss e =
    subst (λ (l : List State). IsInOrder IsStateBefore [] l) (sym e)
    (record { rises = tt; exact = λ z. ((λ there. there), λ there. there) })

module _ (ends : List End) (k : ℕ) (d : End) (lt : k < length ends) where
  pub sorted_more : (old new : List State)
      → IsInOrder IsStateBefore (take k (ends_as ends)) old
      → HasOneMore IsStateBefore (end_state (get_or ends k d)) old new
      → IsInOrder IsStateBefore (take (k + 1) (ends_as ends)) new
  sorted_more old new before more = record { rises = more.rises; exact = λ z. (to z, back z) }
    where
      all_is : take (k + 1) (ends_as ends) ≡ take k (ends_as ends) ++ end_state (get_or ends k d) ∷ []
      all_is = mapped_more end_state ends k d lt

      to : (z : State) → Contains new z → Contains (take (k + 1) (ends_as ends)) z
      to z there =
          subst (λ (l : List State). Contains l z) (sym all_is) (by ((more.exact z).0 there))
        where
          by : (end_state (get_or ends k d) ≡ z) ⊎ Contains old z
              → Contains (take k (ends_as ends) ++ end_state (get_or ends k d) ∷ []) z
          by (inl e) =
              subst (λ (r : State). Contains (take k (ends_as ends) ++ end_state (get_or ends k d) ∷ []) r) e
              (Contains-push (take k (ends_as ends)) (end_state (get_or ends k d)))
          by (inr earlier) =
              Contains-append_left (take k (ends_as ends)) (end_state (get_or ends k d) ∷ []) z
              ((before.exact z).0 earlier)

      back : (z : State) → Contains (take (k + 1) (ends_as ends)) z → Contains new z
      back z there =
          elim (Contains-push_cases (take k (ends_as ends)) (end_state (get_or ends k d)) z (subst (λ (l : List State). Contains l z) all_is there)) [
            | inl earlier ↦ (more.exact z).1 (inr ((before.exact z).1 earlier))
            | inr e ↦ (more.exact z).1 (inl e)
          ]

  -- what is to be put and what is there are good
  pub good_more : (old : List State) → AreGood (ends_as ends)
      → IsInOrder IsStateBefore (take k (ends_as ends)) old
      → AreGood (end_state (get_or ends k d) ∷ old)
  good_more old good before = record { count = good.count; good = λ s there. good.good s (among s there) }
    where
      among : (s : State) → Contains (end_state (get_or ends k d) ∷ old) s → Contains (ends_as ends) s
      among s there = elim (head_or_tail (end_state (get_or ends k d)) old s there) [
        | inl e ↦ there_at end_state ends k d s lt e
        | inr earlier ↦
            subst (λ (l : List State). Contains l s) (take-append-drop k (ends_as ends))
            (Contains-append_left (take k (ends_as ends)) (drop k (ends_as ends)) s ((before.exact s).0 earlier))
      ]

pub sorted_all : (ends : List End) (k : ℕ) (ss : List State) → length ends ≤ k
    → IsInOrder IsStateBefore (take k (ends_as ends)) ss
    → IsInOrder IsStateBefore (ends_as ends) ss
sorted_all ends k ss le sorted =
    subst (λ (l : List State). IsInOrder IsStateBefore l ss) (mapped_all end_state ends k le) sorted
