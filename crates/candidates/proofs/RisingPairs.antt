-- The dependencies of a combination stand in rising order.
use Rattle.std.proofs.Common.{ℕ, ◌≡◌, ◌<◌, ◌≤◌, ◌+◌, ◌-◌, ◌^◌, min, true, List, [], ◌∷◌, ◌++◌, length, get_or, ap, sym, subst, ◌∙◌, inl, inr, arith, Contains}
use Rattle.std.proofs.lemmas.List.{length-map, get_or_default}
use Rattle.std.proofs.Math.ListN.{get_or-map}
use Rattle.std.specs.List.{AllPairs}
use Rattle.std.proofs.lemmas.List.Elements.{Contains-get_or, Contains-append_cases}
use Rattle.thread_runs.proofs.RunsExact.{pairs_append}
use Rattle.thread_runs.specs.declared.value.Value.{Value}
use Rattle.thread_runs.specs.declared.instruction.RunStep.{RunStep}
use Rattle.thread_runs.specs.declared.run.Run as made
use Rattle.thread_runs.specs.Runs.{Thread, Run, executed}
use Rattle.taints.proofs.ReachLoop.{place_lt}
use Rattle.taints.specs.Chains.{IsPairBefore, IsPairListOf, is_event, event_index}
use Rattle.candidates.proofs.Choosing.{GoesOnWith}
use Rattle.candidates.proofs.Elements.{no_member, mapped}
use Rattle.candidates.proofs.Facts as facts
use Rattle.candidates.proofs.Kept.{AreOne}
use Rattle.candidates.proofs.Needs.{load_is}
use Rattle.candidates.proofs.Places.{places_are_events}
use Rattle.candidates.proofs.StepEvents.{in_run, place_few}
use Rattle.candidates.proofs.Whole.{none_left_out}
use Rattle.store_orders.specs.Events.{initial_stores}
use Rattle.taints.specs.DependencyLists.{renumbered_pairs}
use Rattle.run_combinations.specs.Search.{PrefixLists, with_run, initial_prefix}
use Rattle.run_combinations.specs.declared.layout.ThreadParts.{ThreadParts}
use Rattle.run_combinations.specs.declared.part.Part.{Part}

-- a list in rising order, all of whose pairs begin below a number
pub record Rises (ps : List (ℕ × ℕ)) (least most : ℕ) : Type 0 where
  pub rising : AllPairs IsPairBefore ps
  pub above : (p : ℕ × ℕ) → Contains ps p → least ≤ p.0
  pub below : (p : ℕ × ℕ) → Contains ps p → p.0 < most

none_rise : (n m : ℕ) → Rises [] n m
none_rise n m =
    record {
      rising = λ i j d lt l. absurd (omega (arith, l));
      above = λ p c. absurd (no_member p c);
      below = λ p c. absurd (no_member p c);
    }

joined_rise : (xs ys : List (ℕ × ℕ)) (k m n : ℕ) → Rises xs k m → Rises ys m n → k ≤ m → m ≤ n
    → Rises (xs ++ ys) k n
joined_rise xs ys k m n h g km mn = record {
  rising =
      pairs_append IsPairBefore xs ys h.rising g.rising
      (λ x y c d. inl (omega (arith, h.below x c, g.above y d)));
  above = λ p c. both (λ q. k ≤ q.0) p c h.above (λ q d. omega (arith, km, g.above q d));
  below = λ p c. both (λ q. q.0 < n) p c (λ q d. omega (arith, mn, h.below q d)) g.below;
}
  where
    both : (P : ℕ × ℕ → Type 0) (p : ℕ × ℕ) → Contains (xs ++ ys) p
        → ((q : ℕ × ℕ) → Contains xs q → P q) → ((q : ℕ × ℕ) → Contains ys q → P q) → P p
    both P p c f g = elim (Contains-append_cases xs ys p c) [ inl a ↦ f p a | inr b ↦ g p b ]

-- the pairs of a run, numbered on
module _ (d : facts.Listed) (base : ℕ) (steps : List RunStep) (ps : List (ℕ × ℕ))
    (are : IsPairListOf d.Related (executed steps) ps) (low : base ≤ 128)
    (few : event_index (executed steps) (length steps) ≤ 128) where
  abbrev most : ℕ
  most = event_index (executed steps) (length steps)

  record Lies (p : ℕ × ℕ) : Type 0 where
    from : p.0 < most
    to : p.1 ≤ most

  lies : (p : ℕ × ℕ) → Contains ps p → Lies p
  lies p c =
      let (i, j, r, e, f) = (are.exact p).0 c in
      let event : is_event (executed steps i) ≡ true = load_is (executed steps i) (d.starts (executed steps) i j r) in
      record {
        from =
            let lt : event_index (executed steps) i < most =
            place_lt (executed steps) i (length steps) event (in_run steps i event) in
            omega (arith, e, lt);
        to =
            let le : event_index (executed steps) j ≤ most = place_few steps j in
            omega (arith, f, le);
      }

  abbrev shift : ℕ × ℕ → ℕ × ℕ
  shift p = (min (base + p.0) (2 ^ 64 - 1), min (base + p.1) (2 ^ 64 - 1))

  shifted : (p q : ℕ × ℕ) → Lies p → Lies q → IsPairBefore p q → IsPairBefore (shift p) (shift q)
  shifted p q l m h =
      let a = facts.small (base + p.0) (omega (arith, l.from, low, few)) in
      let b = facts.small (base + p.1) (omega (arith, l.to, low, few)) in
      let c = facts.small (base + q.0) (omega (arith, m.from, low, few)) in
      let e = facts.small (base + q.1) (omega (arith, m.to, low, few)) in
      before h a b c e
    where
      before : IsPairBefore p q → min (base + p.0) (2 ^ 64 - 1) ≡ base + p.0
          → min (base + p.1) (2 ^ 64 - 1) ≡ base + p.1 → min (base + q.0) (2 ^ 64 - 1) ≡ base + q.0
          → min (base + q.1) (2 ^ 64 - 1) ≡ base + q.1 → IsPairBefore (shift p) (shift q)
      before (inl lt) a b c e =
          inl (subst (λ (n : ℕ). n < min (base + q.0) (2 ^ 64 - 1)) (sym a)
          (subst (λ (n : ℕ). base + p.0 < n) (sym c) (omega (arith, lt))))
      before (inr h) a b c e =
          inr (
            a ∙ ap (λ (n : ℕ). base + n) h.0 ∙ sym c,
            subst (λ (n : ℕ). n < min (base + q.1) (2 ^ 64 - 1)) (sym b)
                (subst (λ (n : ℕ). base + p.1 < n) (sym e) (omega (arith, h.1))),
          )

  moved_rises : AllPairs IsPairBefore (renumbered_pairs base ps)
  moved_rises i j d lt l =
      let n : length (renumbered_pairs base ps) ≡ length ps = length-map ps shift in
      let li : i < length ps = omega (arith, lt, l, n) in
      let lj : j < length ps = omega (arith, l, n) in
      let at_i : get_or (renumbered_pairs base ps) i d ≡ shift (get_or ps i (0, 0)) = get_or_default (renumbered_pairs base ps) i d (shift (0, 0)) (omega (arith, lt, l)) ∙ get_or-map shift ps i (0, 0) in
      let at_j : get_or (renumbered_pairs base ps) j d ≡ shift (get_or ps j (0, 0)) = get_or_default (renumbered_pairs base ps) j d (shift (0, 0)) l ∙ get_or-map shift ps j (0, 0) in
      let h : IsPairBefore (shift (get_or ps i (0, 0))) (shift (get_or ps j (0, 0))) = shifted (get_or ps i (0, 0)) (get_or ps j (0, 0)) (lies _ (Contains-get_or ps i (0, 0) li)) (lies _ (Contains-get_or ps j (0, 0) lj)) (are.rising i j lt lj) in
      subst (λ (p : ℕ × ℕ). IsPairBefore p (get_or (renumbered_pairs base ps) j d)) (sym at_i)
      (subst (λ (q : ℕ × ℕ). IsPairBefore (shift (get_or ps i (0, 0))) q) (sym at_j) h)

  numbered_on : Rises (renumbered_pairs base ps) base (base + most)
  numbered_on =
      record { rising = moved_rises; above = λ p c. (bounds p c).0; below = λ p c. (bounds p c).1 }
    where
      bounds : (p : ℕ × ℕ) → Contains (renumbered_pairs base ps) p
          → (base ≤ p.0) × (p.0 < base + most)
      bounds p c =
          let (q, there, is) = mapped shift ps p c in
          let l : Lies q = lies q there in
          let e : min (base + q.0) (2 ^ 64 - 1) ≡ base + q.0 = facts.small (base + q.0) (omega (arith, l.from, low, few)) in
          let f : base + q.0 ≡ p.0 = sym e ∙ ap (λ (r : ℕ × ℕ). r.0) is in
          (omega (arith, f), omega (arith, f, l.from))

module _ (d : facts.Listed) (V : List Value) where
  one_rises : (thread : ℕ) (b : PrefixLists) (t : Thread) (m : made.Run) (r : Run) (at : ℕ)
      (p : Part) → facts.OneMore d V thread b t m r at p
      → Rises (d.all b) 0 (length b.combination.events)
      → Rises (d.all (with_run at p b)) 0 (length (with_run at p b).combination.events)
  one_rises thread b t m r at p o h =
      let ps : List (ℕ × ℕ) = d.own p.links in
      let steps : List RunStep = r.outcome.walk.steps in
      let on : Rises (renumbered_pairs (length b.combination.events) ps) (length b.combination.events) (length b.combination.events + event_index (executed steps) (length steps)) =
      numbered_on d (length b.combination.events) steps ps (facts.links d V thread b t m r at p o)
      (facts.low d V thread b t m r at p o) (facts.run_few d V thread b t m r at p o) in
      let long : length (with_run at p b).combination.events ≡ length b.combination.events + event_index (executed steps) (length steps) =
      (let all = none_left_out thread t.lines t.first r.values r.outcome o.same.1.1 in
      let places = places_are_events t.lines t.first r.values r.outcome o.same.1.1 in
      omega (arith, facts.longer d V thread b t m r at p o, all, places)) in
      subst (λ (l : List (ℕ × ℕ)). Rises l 0 (length (with_run at p b).combination.events))
      (sym (d.grows at p b))
      (subst (λ (n : ℕ). Rises (d.all b ++ renumbered_pairs (length b.combination.events) ps) 0 n)
      (sym long) (joined_rise (d.all b) (renumbered_pairs (length b.combination.events) ps)
      0 (length b.combination.events) _ h on (omega arith) (omega arith)))

  rise_on : (threads : List Thread) (thread : ℕ) (ts : List ThreadParts) (ms : List made.Run)
      (rs : List Run) (b c : PrefixLists) → AreOne V threads ms rs → GoesOnWith thread b ts ms c
      → length c.combination.events ≤ 128 → Rises (d.all b) 0 (length b.combination.events)
      → Rises (d.all c) 0 (length c.combination.events)
  rise_on [] thread [] [] [] b c one e few h =
      subst (λ (k : PrefixLists). Rises (d.all k) 0 (length k.combination.events)) (sym e) h
  rise_on [] thread (t ∷ ts) [] [] b c one e few h = absurd e
  rise_on [] thread ts [] (r ∷ rs) b c one e few h = absurd one
  rise_on [] thread ts (m ∷ ms) rs b c one e few h = absurd one
  rise_on (q ∷ threads) thread ts [] rs b c one e few h = absurd one
  rise_on (q ∷ threads) thread ts (m ∷ ms) [] b c one e few h = absurd one
  rise_on (q ∷ threads) thread [] (m ∷ ms) (r ∷ rs) b c one e few h = absurd e
  rise_on (q ∷ threads) thread (t ∷ ts) (m ∷ ms) (r ∷ rs) b c one g few h =
      rise_on threads (thread + 1) ts ms rs (with_run g.0 g.1 b) c one.1 g.3 few
      (one_rises thread b q m r g.0 g.1
      (record {
        same = one.0;
        is = g.2.1;
        few = facts.few_on (thread + 1) ts ms (with_run g.0 g.1 b) c g.3 few;
      }) h)

  pub pairs_rise : (threads : List Thread) (ts : List ThreadParts) (ms : List made.Run)
      (rs : List Run) (initial : List Value) (c : PrefixLists) → AreOne V threads ms rs
      → GoesOnWith 0 (initial_prefix (initial_stores 0 initial)) ts ms c → length c.combination.events ≤ 128
      → AllPairs IsPairBefore (d.all c)
  pairs_rise threads ts ms rs initial c one g few =
      let s : PrefixLists = initial_prefix (initial_stores 0 initial) in
      (rise_on threads 0 ts ms rs s c one g few (subst
      (λ (l : List (ℕ × ℕ)). Rises l 0 (length s.combination.events))
      (sym (d.first (initial_stores 0 initial)))
      (none_rise 0 (length s.combination.events)))).rising
