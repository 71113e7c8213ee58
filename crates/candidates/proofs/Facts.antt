-- The dependencies of a combination are the facts of its runs.
use Rattle.std.proofs.Common.{ℕ, zero, suc, true, ◌≡◌, ◌≤◌, ◌+◌, ◌-◌, ◌^◌, ◌⊎◌, ◌↔◌, min, List, [], ◌∷◌, ◌++◌, take, length, Some, None, slice_get, refl, ap, sym, subst, ◌∙◌, inl, inr, arith, append_assoc, append-nil, Contains, lit≤}
use Rattle.std.proofs.Math.Nat.{min-eq_left}
use Rattle.std.proofs.lemmas.List.{length-append, length-take}
use Rattle.std.proofs.lemmas.List.Elements.{Contains-append_left, Contains-append_right, Contains-append_cases}
use Rattle.std.proofs.lemmas.Option.{same_Some}
use Rattle.thread_runs.specs.declared.value.Value.{Value}
use Rattle.thread_runs.specs.declared.instruction.Event as run
use Rattle.thread_runs.specs.declared.instruction.RunStep.{RunStep}
use Rattle.thread_runs.specs.declared.run.Run as made
use Rattle.thread_runs.specs.Machine.{is_load}
use Rattle.thread_runs.specs.Runs.{Thread, Run, executed}
use Rattle.thread_runs.specs.AllRuns.{ShownRun}
use Rattle.taints.specs.Chains.{Executed, IsAddr, IsData, IsCtrl, IsCtrlIsync, IsNeed, IsPairListOf, event_index}
use Rattle.dataflow.specs.Dependencies.{AreLinks}
use Rattle.taints.specs.declared.lists.Links.{Links}
use Rattle.candidates.proofs.Choosing.{GoesOnWith}
use Rattle.candidates.proofs.Elements.{no_member, mapped, mapped_there}
use Rattle.candidates.proofs.Kept.{AreOne, SameRun}
use Rattle.candidates.proofs.StepEvents.{place_few}
use Rattle.candidates.proofs.Places.{places_are_events}
use Rattle.store_orders.specs.Events.{thread_events, initial_stores}
use Rattle.candidates.specs.Executions.{IsDependency, events, events_from}
use Rattle.run_combinations.specs.Layouts.{chosen_events}
use Rattle.run_combinations.specs.Parts.{IsPartOf}
use Rattle.taints.specs.DependencyLists.{renumbered_pairs}
use Rattle.run_combinations.specs.Search.{PrefixLists, with_run, initial_prefix}
use Rattle.store_orders.specs.declared.combination.Event.{Event}
use Rattle.run_combinations.specs.declared.layout.ThreadParts.{ThreadParts}
use Rattle.run_combinations.specs.declared.part.Part.{Part}

-- the events of a combination are those of its runs
pub events_are : (thread : ℕ) (b c : PrefixLists) (ts : List ThreadParts) (ms : List made.Run)
    → GoesOnWith thread b ts ms c
    → c.combination.events ≡ b.combination.events ++ chosen_events thread ms
events_are thread b c [] [] h =
    ap (λ (x : PrefixLists). x.combination.events) h ∙ sym (append-nil b.combination.events)
events_are thread b c [] (m ∷ ms) h = absurd h
events_are thread b c (t ∷ ts) [] h = absurd h
events_are thread b c (t ∷ ts) (m ∷ ms) h =
    events_are (thread + 1) (with_run h.0 h.1 b) c ts ms h.3
    ∙ append_assoc b.combination.events h.1.events.items (chosen_events (thread + 1) ms)
    ∙ ap (λ (es : List Event). b.combination.events ++ (es ++ chosen_events (thread + 1) ms))
    h.2.1.events

pub few_on : (thread : ℕ) (ts : List ThreadParts) (ms : List made.Run) (b c : PrefixLists)
    → GoesOnWith thread b ts ms c → length c.combination.events ≤ 128
    → length b.combination.events ≤ 128
few_on thread ts ms b c h few =
    let e : length c.combination.events ≡ length (b.combination.events ++ chosen_events thread ms) = ap (λ (es : List Event). length es) (events_are thread b c ts ms h) in
    omega (arith, e, length-append b.combination.events (chosen_events thread ms), few)

-- the pairs of one run
pub record OfRun (R : Executed → ℕ → ℕ → Type 0) (base : ℕ) (steps : List RunStep) (x y : ℕ)
    : Type 0 where
  pub first : ℕ
  pub second : ℕ
  pub related : R (executed steps) first second
  pub from : x ≡ base + event_index (executed steps) first
  pub to : y ≡ base + event_index (executed steps) second

pub small : (n : ℕ) → n ≤ 256 → min n (2 ^ 64 - 1) ≡ n
small n le = let most : 256 ≤ 2 ^ 64 - 1 = lit≤ tt in min-eq_left (omega (arith, le, most))

module _ (R : Executed → ℕ → ℕ → Type 0) (base : ℕ) (steps : List RunStep) (ps : List (ℕ × ℕ))
    (are : IsPairListOf R (executed steps) ps) (low : base ≤ 128)
    (few : event_index (executed steps) (length steps) ≤ 128) where
  abbrev shift : ℕ × ℕ → ℕ × ℕ
  shift p = (min (base + p.0) (2 ^ 64 - 1), min (base + p.1) (2 ^ 64 - 1))

  place : (n : ℕ)
      → min (base + event_index (executed steps) n) (2 ^ 64 - 1)
      ≡ base + event_index (executed steps) n
  place n =
      small (base + event_index (executed steps) n) (omega (arith, place_few steps n, low, few))

  run_pairs : (x y : ℕ) → Contains (renumbered_pairs base ps) (x, y) → OfRun R base steps x y
  run_pairs x y c =
      let (p, there, is) = mapped shift ps (x, y) c in
      let (i, j, r, e, f) = (are.exact p).0 there in
      record {
        first = i;
        second = j;
        related = r;
        from =
            sym (ap (λ (q : ℕ × ℕ). q.0) is) ∙ ap (λ (k : ℕ). min (base + k) (2 ^ 64 - 1)) e
            ∙ place i;
        to =
            sym (ap (λ (q : ℕ × ℕ). q.1) is) ∙ ap (λ (k : ℕ). min (base + k) (2 ^ 64 - 1)) f
            ∙ place j;
      }

  run_listed : (x y : ℕ) → OfRun R base steps x y → Contains (renumbered_pairs base ps) (x, y)
  run_listed x y h =
      let p : ℕ × ℕ = (event_index (executed steps) h.first, event_index (executed steps) h.second) in
      let there : Contains ps p = (are.exact p).1 (h.first, h.second, h.related, refl, refl) in
      let a : min (base + event_index (executed steps) h.first) (2 ^ 64 - 1) ≡ x = place h.first ∙ sym h.from in
      let b : min (base + event_index (executed steps) h.second) (2 ^ 64 - 1) ≡ y = place h.second ∙ sym h.to in
      subst (λ (k : ℕ). Contains (renumbered_pairs base ps) (x, k)) b (subst
      (λ (k : ℕ). Contains (renumbered_pairs base ps) (
        k,
        min (base + event_index (executed steps) h.second) (2 ^ 64 - 1),
      )) a
      (mapped_there shift ps p there))

-- the pairs of the runs of threads, from this one on, where the first event of the first of them
-- has the number `base`
pub record OfRuns (R : Executed → ℕ → ℕ → Type 0) (thread base : ℕ) (rs : List Run) (x y : ℕ)
    : Type 0 where
  pub its : ℕ
  pub run : Run
  pub its_run : slice_get rs its ≡ Some run
  pub pair : OfRun R (base + length (events_from thread (take its rs))) run.outcome.walk.steps x y

later : (R : Executed → ℕ → ℕ → Type 0) (base base' : ℕ) (steps : List RunStep) (x y : ℕ)
    → base ≡ base' → OfRun R base steps x y → OfRun R base' steps x y
later R base base' steps x y e h = subst (λ (k : ℕ). OfRun R k steps x y) e h

-- a dependency, with where its pairs stand
pub record Listed : Type 1 where
  pub Related : Executed → ℕ → ℕ → Type 0
  pub own : Links → List (ℕ × ℕ)
  pub all : PrefixLists → List (ℕ × ℕ)
  pub listed : (at : Executed) (l : Links) → AreLinks at l → IsPairListOf Related at (own l)
  pub grows : (at : ℕ) (p : Part) (b : PrefixLists)
      → all (with_run at p b)
      ≡ all b ++ renumbered_pairs (length b.combination.events) (own p.links)
  pub first : (es : List Event) → all (initial_prefix es) ≡ []
  pub starts : (at : Executed) (i j : ℕ) → Related at i j → is_load (at i) ≡ true

module _ (d : Listed) (V : List Value) where
  -- of one thread more
  part_links : (t : Thread) (thread : ℕ) (m : made.Run) (r : Run) (p : Part) → SameRun V t m r
      → IsPartOf thread m p → IsPairListOf d.Related (executed r.outcome.walk.steps) (d.own p.links)
  part_links t thread m r p same is =
      let steps : m.steps.items ≡ r.outcome.walk.steps = ap (λ (s : ShownRun). s.steps) same.0.shows in
      let long : event_index (executed r.outcome.walk.steps) (length r.outcome.walk.steps) ≡ length r.outcome.walk.events = places_are_events t.lines t.first r.values r.outcome same.1.1 in
      let few : length r.outcome.walk.events ≤ 128 = run_small t m r same in
      d.listed (executed r.outcome.walk.steps) p.links
      (subst (λ (s : List RunStep). AreLinks (executed s) p.links) steps (is.links
      (subst (λ (s : List RunStep). event_index (executed s) (length s) ≤ 128)
      (sym steps) (omega (arith, long, few)))))
    where
      run_small : (t : Thread) (m : made.Run) (r : Run) → SameRun V t m r
          → length r.outcome.walk.events ≤ 128
      run_small t m r same =
          let e : take 128 r.outcome.walk.events ≡ r.outcome.walk.events = sym (ap (λ (s : ShownRun). s.events) same.0.shows) ∙ same.0.events in
          let l : length (take 128 r.outcome.walk.events) ≡ length r.outcome.walk.events = ap (λ (es : List run.Event). length es) e in
          omega (arith, l, length-take 128 r.outcome.walk.events)

  pub record OneMore (thread : ℕ) (b : PrefixLists) (t : Thread) (m : made.Run) (r : Run) (at : ℕ)
      (p : Part) : Type 0 where
    pub same : SameRun V t m r
    pub is : IsPartOf thread m p
    pub few : length (with_run at p b).combination.events ≤ 128

  module _ (thread : ℕ) (b : PrefixLists) (t : Thread) (m : made.Run) (r : Run) (at : ℕ) (p : Part)
      (o : OneMore thread b t m r at p) where
    events_of : p.events.items ≡ thread_events thread r.outcome.walk.events
    events_of = o.is.events ∙ ap (λ (es : List run.Event). thread_events thread es) o.same.0.events

    pub longer : length (with_run at p b).combination.events
        ≡ length b.combination.events + length (thread_events thread r.outcome.walk.events)
    longer =
        length-append b.combination.events p.events.items
        ∙ ap (λ (es : List Event). length b.combination.events + length es) events_of

    pub low : length b.combination.events ≤ 128
    low = omega (arith, longer, o.few)

    pub run_few : event_index (executed r.outcome.walk.steps) (length r.outcome.walk.steps) ≤ 128
    run_few =
        let long : event_index (executed r.outcome.walk.steps) (length r.outcome.walk.steps) ≡ length r.outcome.walk.events = places_are_events t.lines t.first r.values r.outcome o.same.1.1 in
        let e : take 128 r.outcome.walk.events ≡ r.outcome.walk.events = sym (ap (λ (s : ShownRun). s.events) o.same.0.shows) ∙ o.same.0.events in
        let l : length (take 128 r.outcome.walk.events) ≡ length r.outcome.walk.events = ap (λ (es : List run.Event). length es) e in
        omega (arith, long, l, length-take 128 r.outcome.walk.events)

    pub links : IsPairListOf d.Related (executed r.outcome.walk.steps) (d.own p.links)
    links = part_links t thread m r p o.same o.is

    base_at : (its : ℕ) (rs : List Run)
        → length b.combination.events + length (events_from thread (take (suc its) (r ∷ rs)))
        ≡ length (with_run at p b).combination.events
        + length (events_from (thread + 1) (take its rs))
    base_at its rs =
        let a : length (thread_events thread r.outcome.walk.events ++ events_from (thread + 1) (take its rs)) ≡ length (thread_events thread r.outcome.walk.events) + length (events_from (thread + 1) (take its rs)) = length-append (thread_events thread r.outcome.walk.events) (events_from (thread + 1) (take its rs)) in
        omega (arith, a, longer)

    one_more : (rs : List Run) (x y : ℕ) (Later : Type 0)
        → Later
        ↔ (Contains (d.all (with_run at p b)) (x, y)
        ⊎ OfRuns d.Related (thread + 1) (length (with_run at p b).combination.events) rs
        x y)
        → Later
        ↔ (Contains (d.all b) (x, y)
        ⊎ OfRuns d.Related thread (length b.combination.events) (r ∷ rs) x y)
    one_more rs x y Later rest = (to, back)
      where
        zeroth : length b.combination.events + 0 ≡ length b.combination.events
        zeroth = omega arith

        after : OfRuns d.Related (thread + 1) (length (with_run at p b).combination.events) rs x y
            → OfRuns d.Related thread (length b.combination.events) (r ∷ rs) x y
        after a = record {
          its = suc a.its;
          run = a.run;
          its_run = a.its_run;
          pair =
              later d.Related
              (length (with_run at p b).combination.events
              + length (events_from (thread + 1) (take a.its rs)))
              (length b.combination.events
              + length (events_from thread (take (suc a.its) (r ∷ rs))))
              a.run.outcome.walk.steps x y
              (sym (base_at a.its rs)) a.pair;
        }

        here : Contains (renumbered_pairs (length b.combination.events) (d.own p.links)) (x, y)
            → OfRuns d.Related thread (length b.combination.events) (r ∷ rs) x y
        here c = record {
          its = 0;
          run = r;
          its_run = refl;
          pair =
              later d.Related (length b.combination.events) (length b.combination.events + 0)
              r.outcome.walk.steps x y (sym zeroth) (run_pairs d.Related
              (length b.combination.events) r.outcome.walk.steps (d.own p.links) links low
              run_few x y c);
        }

        split : Contains (d.all b) (x, y)
            ⊎ Contains (renumbered_pairs (length b.combination.events) (d.own p.links)) (x, y)
            → Contains (d.all b) (x, y)
            ⊎ OfRuns d.Related thread (length b.combination.events) (r ∷ rs) x y
        split (inl h) = inl h
        split (inr h) = inr (here h)

        sort : Contains (d.all (with_run at p b)) (x, y)
            ⊎ OfRuns d.Related (thread + 1) (length (with_run at p b).combination.events) rs x y
            → Contains (d.all b) (x, y)
            ⊎ OfRuns d.Related thread (length b.combination.events) (r ∷ rs) x y
        sort (inl h) =
            split (Contains-append_cases (d.all b)
            (renumbered_pairs (length b.combination.events) (d.own p.links)) (x, y)
            (subst (λ (l : List (ℕ × ℕ)). Contains l (x, y)) (d.grows at p b) h))
        sort (inr a) = inr (after a)

        to : Later
            → Contains (d.all b) (x, y)
            ⊎ OfRuns d.Related thread (length b.combination.events) (r ∷ rs) x y
        to h = sort (rest.0 h)

        grown : Contains (d.all b ++ renumbered_pairs (length b.combination.events) (d.own p.links))
            (x, y) → Later
        grown h =
            rest.1 (inl (subst (λ (l : List (ℕ × ℕ)). Contains l (x, y)) (sym (d.grows at p b)) h))

        go : (its : ℕ) (q : Run) → slice_get (r ∷ rs) its ≡ Some q
            → OfRun d.Related
            (length b.combination.events + length (events_from thread (take its (r ∷ rs))))
            q.outcome.walk.steps x y → Later
        go zero q e h =
            grown (Contains-append_right (d.all b)
            (renumbered_pairs (length b.combination.events) (d.own p.links)) (x, y)
            (run_listed d.Related (length b.combination.events) r.outcome.walk.steps (d.own p.links)
            links low run_few x y
            (later d.Related (length b.combination.events + 0) (length b.combination.events)
            r.outcome.walk.steps x y zeroth (subst
            (λ (s : Run). OfRun d.Related (length b.combination.events + 0)
            s.outcome.walk.steps x y)
            (sym (same_Some _ _ e)) h))))
        go (suc k) q e h = rest.1 (inr (record {
          its = k;
          run = q;
          its_run = e;
          pair =
              later d.Related
              (length b.combination.events + length (events_from thread (take (suc k) (r ∷ rs))))
              (length (with_run at p b).combination.events
              + length (events_from (thread + 1) (take k rs))) q.outcome.walk.steps x y
              (base_at k rs) h;
        }))

        back : Contains (d.all b) (x, y)
            ⊎ OfRuns d.Related thread (length b.combination.events) (r ∷ rs) x y → Later
        back (inl h) =
            grown (Contains-append_left (d.all b)
            (renumbered_pairs (length b.combination.events) (d.own p.links)) (x, y) h)
        back (inr a) = go a.its a.run a.its_run a.pair

  none_here : (thread base : ℕ) (x y : ℕ) → OfRuns d.Related thread base [] x y → ⊥
  none_here thread base x y a = let n : None ≡ Some a.run = a.its_run in absurd (nothing n)
    where
      nothing : {r : Run} → None ≡ Some r → ⊥
      nothing e = cc

  pairs_are : (threads : List Thread) (thread : ℕ) (ts : List ThreadParts) (ms : List made.Run)
      (rs : List Run) (b c : PrefixLists) → AreOne V threads ms rs → GoesOnWith thread b ts ms c
      → length c.combination.events ≤ 128 → (x y : ℕ)
      → Contains (d.all c) (x, y)
      ↔ (Contains (d.all b) (x, y)
      ⊎ OfRuns d.Related thread (length b.combination.events) rs x y)
  pairs_are [] thread [] [] [] b c one e few x y = (
    (λ h. inl (subst (λ (k : PrefixLists). Contains (d.all k) (x, y)) e h)),
    (λ u. elim u [
      | inl h ↦ subst (λ (k : PrefixLists). Contains (d.all k) (x, y)) (sym e) h
      | inr a ↦ absurd (none_here thread (length b.combination.events) x y a)
    ]),
  )
  pairs_are [] thread (t ∷ ts) [] [] b c one e few x y = absurd e
  pairs_are [] thread ts [] (r ∷ rs) b c one e few x y = absurd one
  pairs_are [] thread ts (m ∷ ms) rs b c one e few x y = absurd one
  pairs_are (q ∷ threads) thread ts [] rs b c one e few x y = absurd one
  pairs_are (q ∷ threads) thread ts (m ∷ ms) [] b c one e few x y = absurd one
  pairs_are (q ∷ threads) thread [] (m ∷ ms) (r ∷ rs) b c one e few x y = absurd e
  pairs_are (q ∷ threads) thread (t ∷ ts) (m ∷ ms) (r ∷ rs) b c one g few x y =
      let within : length (with_run g.0 g.1 b).combination.events ≤ 128 = few_on (thread + 1) ts ms (with_run g.0 g.1 b) c g.3 few in
      one_more thread b q m r g.0 g.1 (record { same = one.0; is = g.2.1; few = within }) rs x y
      (Contains (d.all c) (x, y)) (pairs_are threads (thread + 1) ts ms rs (with_run g.0 g.1 b)
      c one.1 g.3 few x y)

  -- the pairs of a combination are the facts of its runs
  before : (initial : List Value) (rs : List Run) (its : ℕ)
      → length (events initial (take its rs))
      ≡ length (initial_stores 0 initial) + length (events_from 0 (take its rs))
  before initial rs its = length-append (initial_stores 0 initial) (events_from 0 (take its rs))

  pub facts : (threads : List Thread) (ts : List ThreadParts) (ms : List made.Run) (rs : List Run)
      (initial : List Value) (c : PrefixLists) → AreOne V threads ms rs
      → GoesOnWith 0 (initial_prefix (initial_stores 0 initial)) ts ms c → length c.combination.events ≤ 128
      → (x y : ℕ) → Contains (d.all c) (x, y) ↔ IsDependency d.Related initial rs x y
  facts threads ts ms rs initial c one g few x y = (λ h. to (are.0 h), λ h. are.1 (inr (back h)))
    where
      are : Contains (d.all c) (x, y)
          ↔ (Contains (d.all (initial_prefix (initial_stores 0 initial))) (x, y)
          ⊎ OfRuns d.Related 0 (length (initial_stores 0 initial)) rs x y)
      are = pairs_are threads 0 ts ms rs (initial_prefix (initial_stores 0 initial)) c one g few x y

      to : Contains (d.all (initial_prefix (initial_stores 0 initial))) (x, y)
          ⊎ OfRuns d.Related 0 (length (initial_stores 0 initial)) rs x y
          → IsDependency d.Related initial rs x y
      to (inl h) =
          absurd (no_member (x, y) (subst (λ (l : List (ℕ × ℕ)). Contains l (x, y))
          (d.first (initial_stores 0 initial)) h))
      to (inr a) = record {
        thread = a.its;
        run = a.run;
        its_run = a.its_run;
        first = a.pair.first;
        second = a.pair.second;
        related = a.pair.related;
        from =
            a.pair.from
            ∙ ap (λ (n : ℕ). n + event_index (executed a.run.outcome.walk.steps) a.pair.first)
            (sym (before initial rs a.its));
        to =
            a.pair.to
            ∙ ap (λ (n : ℕ). n + event_index (executed a.run.outcome.walk.steps) a.pair.second)
            (sym (before initial rs a.its));
      }

      back : IsDependency d.Related initial rs x y
          → OfRuns d.Related 0 (length (initial_stores 0 initial)) rs x y
      back h = record {
        its = h.thread;
        run = h.run;
        its_run = h.its_run;
        pair = record {
          first = h.first;
          second = h.second;
          related = h.related;
          from =
              h.from
              ∙ ap (λ (n : ℕ). n + event_index (executed h.run.outcome.walk.steps) h.first)
              (before initial rs h.thread);
          to =
              h.to
              ∙ ap (λ (n : ℕ). n + event_index (executed h.run.outcome.walk.steps) h.second)
              (before initial rs h.thread);
        };
      }

-- the five dependencies
abbrev pub addr : Listed
addr =
    record {
      Related = IsAddr;
      own = λ l. l.addr_pairs.items;
      all = λ b. b.combination.dependencies.addr_pairs;
      listed = λ at l a. a.addr;
      grows = λ at p b. refl;
      first = λ es. refl;
      starts = λ at i j r. r.0;
    }

abbrev pub data_listed : Listed
data_listed =
    record {
      Related = IsData;
      own = λ l. l.data_pairs.items;
      all = λ b. b.combination.dependencies.data_pairs;
      listed = λ at l a. a.«data»;
      grows = λ at p b. refl;
      first = λ es. refl;
      starts = λ at i j r. r.0;
    }

abbrev pub ctrl : Listed
ctrl =
    record {
      Related = IsCtrl;
      own = λ l. l.ctrl_pairs.items;
      all = λ b. b.combination.dependencies.ctrl_pairs;
      listed = λ at l a. a.ctrl;
      grows = λ at p b. refl;
      first = λ es. refl;
      starts = λ at i j r. r.1.3.0;
    }

abbrev pub ctrlisync : Listed
ctrlisync =
    record {
      Related = IsCtrlIsync;
      own = λ l. l.ctrlisync_pairs.items;
      all = λ b. b.combination.dependencies.ctrlisync_pairs;
      listed = λ at l a. a.ctrlisync;
      grows = λ at p b. refl;
      first = λ es. refl;
      starts = λ at i j r. r.1.3.1.3.0;
    }

abbrev pub need : Listed
need =
    record {
      Related = IsNeed;
      own = λ l. l.need_pairs.items;
      all = λ b. b.needs;
      listed = λ at l a. a.need;
      grows = λ at p b. refl;
      first = λ es. refl;
      starts = λ at i j r. r.0;
    }
