-- Candidates of a combination, counted and kept.
use Rattle.std.proofs.Common.{Vec, ℕ, ◌≡◌, ◌<◌, ◌≤◌, ◌+◌, ◌-◌, ◌*◌, ◌/◌, ◌^◌, ◌||◌, min, max, List, [], ◌∷◌, ◌++◌, length, if◌then◌else◌, arith, sym, ap, subst, ◌∙◌}
use Rattle.std.specs.declared.alloc.Global.{Global}
use Rattle.std.proofs.lemmas.List.{length-map}
use Rattle.std.proofs.Math.Nat.{div-lt_iff_lt-mul, div-mul-le_self, mul-le-mul_left, mul-le-mul_right, le-mul_of_pos_right, mul_comm}
use Rattle.store_orders.specs.Lists.{lists_of}
use Rattle.store_orders.specs.Orders.{all_orders, AreInitialStoresApart}
use Rattle.run_combinations.specs.ReadChoices.{AreReadChoices}
use Rattle.run_combinations.specs.Rounds.{IsReadingOf, HasManyChoices, HasReadChoices}
use Rattle.run_combinations.specs.Search.{PrefixLists, Tally, capped_tally_with, PrefixFits, TalliesOneMore, ExceedsCandidates}
use Rattle.store_orders.specs.declared.combination.Event.{Event}
use Rattle.run_combinations.specs.declared.reading.Reading.{Reading}
use Rattle.store_orders.proofs.Counting.{some_order}

-- what is known of the combination where its candidates are counted
pub record Known (n : ℕ) (b : PrefixLists) (r : Reading) (o l m : ℕ) : Type 0 where
  pub shows : IsReadingOf b.combination.events b.needs r
  pub orders : o ≡ max (min (length (all_orders b.combination.events n)) (2 ^ 64 - 1)) 1
  pub left : l ≡ 16384 - m
  pub few : m ≤ 16384
  pub some : 1 ≤ length (all_orders b.combination.events n)

pub known : (n : ℕ) (b : PrefixLists) (r : Reading) (es us : List Event) (pairs : List (ℕ × ℕ))
    (raw orders left count : ℕ) → es ≡ b.combination.events → us ≡ b.combination.events
    → pairs ≡ b.needs → PrefixFits n b
    → (AreInitialStoresApart es n → raw ≡ min (length (all_orders es n)) (2 ^ 64 - 1)) → orders ≡ max raw 1
    → (length us ≤ 128 → IsReadingOf us pairs r) → left ≡ 16384 - count → count ≤ 16384
    → Known n b r orders left count
known n b r es us pairs raw orders left count e u p fits counted o shown l few = record {
  shows =
      subst (λ (ps : List (ℕ × ℕ)). IsReadingOf b.combination.events ps r) p (subst
      (λ (vs : List Event). IsReadingOf vs pairs r) u (shown (subst
      (λ (vs : List Event). length vs ≤ 128) (sym u) fits.few)));
  orders =
      o
      ∙ ap (λ (k : ℕ). max k 1) (counted (subst (λ (vs : List Event). AreInitialStoresApart vs n) (sym e)
      fits.apart)
      ∙ ap (λ (vs : List Event). min (length (all_orders vs n)) (2 ^ 64 - 1)) e);
  left = l;
  few = few;
  some = some_order b.combination.events n fits.apart;
}

pub too_much : (n : ℕ) (b : PrefixLists) (t : Tally) (r : Reading) (orders left : ℕ)
    → Known n b r orders left t.count → HasManyChoices r (left / orders) → ExceedsCandidates n b t
too_much n b t r orders left k over read_choices are =
    let one : 0 < orders = omega (arith, k.orders) in
    let x : left < length read_choices * orders = (div-lt_iff_lt-mul one).0 (over b.combination.events b.needs read_choices k.shows are) in
    let fewer : orders ≤ length (all_orders b.combination.events n) = omega (arith, k.orders, k.some) in
    let y : length read_choices * orders ≤ length read_choices * length (all_orders b.combination.events n) = mul-le-mul_left (length read_choices) fewer in
    omega (arith, x, y, k.left, k.few)

-- the count of one combination more
counted : (read_choices orders left count all : ℕ) → 1 ≤ read_choices → read_choices ≤ left / orders
    → orders ≡ max (min all (2 ^ 64 - 1)) 1 → 1 ≤ all → left ≡ 16384 - count → count ≤ 16384
    → (min (count + min (read_choices * orders) (2 ^ 64 - 1)) (2 ^ 64 - 1) ≡ count + read_choices * all)
    × (count + read_choices * all ≤ 16384)
counted read_choices orders left count all some few o one l small =
    let a : read_choices * orders ≤ (left / orders) * orders = mul-le-mul_right orders few in
    let b : (left / orders) * orders ≤ left = div-mul-le_self left orders in
    let c : orders ≤ orders * read_choices = le-mul_of_pos_right orders (omega (arith, some)) in
    let d : orders * read_choices ≡ read_choices * orders = mul_comm orders read_choices in
    let same : orders ≡ all = omega (arith, o, one, a, b, c, d, l) in
    let f : read_choices * orders ≡ read_choices * all = ap (λ (k : ℕ). read_choices * k) same in
    (omega (arith, a, b, l, f, small), omega (arith, a, b, l, f, small))

pub judged : (n : ℕ) (b : PrefixLists) (old new : Tally) (r : Reading) (orders left : ℕ)
    (vs : List (Vec ℕ Global)) → Known n b r orders left old.count
    → HasReadChoices r (lists_of vs) × (length vs ≤ left / orders)
    → new ≡ capped_tally_with b (lists_of vs) orders old → TalliesOneMore n b old new × (new.count ≤ 16384)
judged n b old new r orders left vs k has e =
    go (lists_of vs) (has.0 b.combination.events b.needs k.shows)
    (let l : length (lists_of vs) ≡ length vs = length-map vs (λ v. v.items) in
    let h : length vs ≤ left / orders = has.1 in omega (arith, l, h)) e
  where
    go : (read_choices : List (List ℕ)) → AreReadChoices b.combination.events b.needs read_choices
        → length read_choices ≤ left / orders → new ≡ capped_tally_with b read_choices orders old
        → TalliesOneMore n b old new × (new.count ≤ 16384)
    go [] are few same = (
      ([], are, same),
      let c : new.count ≡ old.count = ap (λ (t : Tally). t.count) same in
          omega (arith, c, k.few),
    )
    go (reads_from ∷ read_choices) are few same =
        let c : (min (old.count + min (length (reads_from ∷ read_choices) * orders) (2 ^ 64 - 1)) (2 ^ 64 - 1) ≡ old.count + length (reads_from ∷ read_choices) * length (all_orders b.combination.events n)) × (old.count + length (reads_from ∷ read_choices) * length (all_orders b.combination.events n) ≤ 16384) = counted (length (reads_from ∷ read_choices)) orders left old.count (length (all_orders b.combination.events n)) (omega arith) few k.orders k.some k.left k.few in
        let f : ℕ → Tally = λ m. record { kept = if old.faulted || b.faulted then old.kept else old.kept ++ record b.combination { reads_from = reads_from ∷ read_choices } ∷ []; count = m; faulted = old.faulted || b.faulted } in
        let s : new ≡ f (old.count + length (reads_from ∷ read_choices) * length (all_orders b.combination.events n)) = same ∙ ap f c.0 in
        let m : new.count ≡ old.count + length (reads_from ∷ read_choices) * length (all_orders b.combination.events n) = ap (λ (t : Tally). t.count) s in
        ((reads_from ∷ read_choices, are, s), omega (arith, m, c.1))
