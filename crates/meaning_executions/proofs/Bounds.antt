-- After each round a test has as many values, and as many free runs over them, as its program.
use Rattle.std.proofs.Common.{ℕ, ◌≡◌, ◌<◌, ◌≤◌, Bool, List, length, Contains, Some, None, refl, sym, ap, ap₂, subst, ◌∙◌, arith, vec_len}
use Rattle.std.specs.List.{AllZip}
use Rattle.std.proofs.lemmas.List.{length-map}
use Rattle.std.proofs.lemmas.List.Elements.{All-weaker, All-contains}
use Rattle.std.proofs.lemmas.Option.{same_Some, slice_get_within}
use Rattle.text_values.specs.declared.test.Test.{Test}
use Rattle.text_values.specs.TestValue.{content_of, thread_steps}
use Rattle.thread_runs.specs.declared.value.Value as numbered_value
use Rattle.thread_runs.specs.declared.instruction.Program.{Program}
use Rattle.thread_runs.specs.Runs as by_number
use Rattle.thread_runs.specs.Runs.{Thread, IsLess}
use Rattle.thread_runs.specs.AllRuns.{thread_of}
use Rattle.thread_runs.specs.FreeRuns as numbered
use Rattle.ppc_lowering.specs.Domain as program
use Rattle.ppc_lowering.specs.Domain.{InDomainAt, IsDomainAt, IsBoundedRound, threads_of}
use Rattle.ppc_lowering.specs.Lowering.{IsProgram}
use Rattle.candidates.proofs.OneOutcome.{no_more_of}
use Rattle.candidates.proofs.Sole.{less_apart}
use Rattle.meaning.specs.Sets.{HasOver}
use Rattle.meaning.specs.Names.{Name, locations}
use Rattle.meaning.specs.Machine.{Value}
use Rattle.meaning.specs.Runs.{Run, lines_of_thread, initial_state}
use Rattle.meaning.specs.Domain.{FreeRun, InRound, IsFreeRun, free_run_of}
use Rattle.meaning.specs.Refusals.{Refusal, TooManyEvents, TooManyValues, TooManyRuns, TooManyCandidates, AddressFault, TooManyCombinations, HasManyValues, HasManyFreeRuns, IsRefusedAt}
use Rattle.meaning_executions.specs.Values.{IsSameValue, AreOneToOne}
use Rattle.meaning_executions.specs.Runs.{RunsAlike}
use Rattle.meaning_executions.proofs.Located.{rises}
use Rattle.meaning_executions.proofs.Machines.{apart, one_to_one}
use Rattle.meaning_executions.proofs.Starts.{runs_alike}
use Rattle.meaning_executions.proofs.Rounds.{values_down, values_up, run_by_name, run_by_number, rounds_alike}
use Rattle.meaning_executions.proofs.Lists.{at_left, at_right, left_there, as_long, chosen, turned, one_left, index_of, member, each_second, StandsOnce}
use Rattle.meaning_executions.proofs.Ordering.{all_of, once_apart}
use Rattle.meaning_executions.proofs.Sole.{zip_of}
use Rattle.meaning_executions.proofs.Threads.{thread_at, threads_long}
use Rattle.meaning_executions.specs.Refusals.{AreRoundsAlike}
use Rattle.meaning_executions.proofs.Once.{rising_once}

-- ---- Lists of which one has no member twice

module _ {X Y : Type 0} (R : X → Y → Type 0) (xs : List X) (ys : List Y) (same : AllZip R xs ys)
  where
    pub right_once : ((x z : X) (y : Y) → R x y → R z y → x ≡ z) → StandsOnce xs → StandsOnce ys
    right_once one once m n y at there =
        let first : _ = at_right R xs ys same m y at in
        let second : _ = at_right R xs ys same n y there in
        let is : second.0 ≡ first.0 = one second.0 first.0 y second.2 first.2 in
        once m n first.0 first.1 (second.1 ∙ ap (λ (x : X). Some x) is)

    pub left_once : ((x : X) (y z : Y) → R x y → R x z → y ≡ z) → StandsOnce ys → StandsOnce xs
    left_once one once m n x at there =
        let first : _ = at_left R xs ys same m x at in
        let second : _ = at_left R xs ys same n x there in
        let is : second.0 ≡ first.0 = one x second.0 first.0 second.2 first.2 in
        once m n first.0 first.1 (second.1 ∙ ap (λ (y : Y). Some y) is)

pub few_of : {X : Type 0} (xs ys : List X) → StandsOnce xs
    → ((x : X) → Contains xs x → Contains ys x) → length xs ≤ length ys
few_of xs ys once to =
    no_more_of (λ x y. x ≡ y → ⊥) (λ x other. other refl) xs ys (once_apart xs once) to

module _ (t : Test) (p : Program) (of : IsProgram t p) (k : ℕ) where
  abbrev names : List Name
  names = locations (content_of t)

  one : AreOneToOne names
  one = one_to_one names (apart names (rises (content_of t)))

  -- ---- Values

  many_values : program.HasManyValues p k → HasManyValues (content_of t) k
  many_values (vs, set, all, many) =
      let ws : _ = values_down names (InDomainAt p k) (InRound (content_of t) k)
      (rounds_alike t p of k).by_name vs all in
      let same : AllZip (IsSameValue names) vs ws.0 = zip_of names ws.1 in
      let long : length vs ≡ length ws.0 = as_long (IsSameValue names) vs ws.0 same in
      let once : StandsOnce vs = rising_once IsLess (λ v less. less_apart v v less less) vs set.rising in (
        ws.0,
        once_apart ws.0 (right_once (IsSameValue names) vs ws.0 same
            (λ v x w a b. one.by_number v x w a b) once),
        ws.2,
        omega (arith, many, long),
      )

  few_values : (V : List numbered_value.Value) → IsDomainAt p k V → length V ≤ 16
      → HasManyValues (content_of t) k → ⊥
  few_values V round few (ws, once, all, many) =
      let vs : _ = values_up names (InDomainAt p k) (InRound (content_of t) k)
      (rounds_alike t p of k).by_number ws all in
      let same : AllZip (IsSameValue names) vs.0 ws = zip_of names vs.1 in
      let long : length vs.0 ≡ length ws = as_long (IsSameValue names) vs.0 ws same in
      let fewer : length vs.0 ≤ length V =
      few_of vs.0 V
      (left_once (IsSameValue names) vs.0 ws same (λ v w x a b. one.by_name v w x a b)
      (rising_once (λ x y. x ≡ y → ⊥) (λ x other. other refl) ws once))
      (λ v there. (round.exact v).1 (All-contains (InDomainAt p k) vs.0 v vs.2 there)) in
      omega (arith, many, long, few, fewer)

  -- ---- Free runs

  module _ (V : List numbered_value.Value) (round : IsDomainAt p k V) (thread : ℕ)
      (there : thread < length t.threads.items) where
    abbrev IsOwn : numbered.FreeRun → Type 0
    IsOwn f = numbered.IsFreeRun (thread_of p thread) (Contains V) f

    abbrev IsNamed : FreeRun → Type 0
    IsNamed g = IsFreeRun (content_of t) (InRound (content_of t) k) thread g

    -- the free runs make the same choices, and their loads take the same values
    record IsSameFree (f : numbered.FreeRun) (g : FreeRun) : Type 0 where
      by_number : IsOwn f
      by_name : IsNamed g
      choices : f.choices ≡ g.choices
      values : AllZip (IsSameValue names) f.values g.values

    alike : RunsAlike (content_of t) p thread
    alike = runs_alike t p of thread there

    free_named : (f : numbered.FreeRun) → IsOwn f → (g : FreeRun) × IsSameFree f g
    free_named f own =
        let ws : _ = values_down names (InDomainAt p k) (InRound (content_of t) k)
        (rounds_alike t p of k).by_name f.values
        (All-weaker (Contains V) (InDomainAt p k) (λ v c. (round.exact v).0 c) f.values own.0) in
        let run : _ = run_by_name names alike.labels (alike.free_runs f.choices f.values ws.0 ws.1)
        f.outcome own.1 in (
          record { choices = f.choices; values = ws.0; run = run.0 },
          record {
            by_number = own;
            by_name = (ws.2, run.1);
            choices = refl;
            values = zip_of names ws.1;
          },
        )

    free_numbered : (g : FreeRun) → IsNamed g → (f : numbered.FreeRun) × IsSameFree f g
    free_numbered g own =
        let vs : _ = values_up names (InDomainAt p k) (InRound (content_of t) k)
        (rounds_alike t p of k).by_number g.values own.0 in
        let run : _ = run_by_number names alike.labels (alike.free_runs g.choices vs.0 g.values vs.1)
        g.run own.1 in (
          record { choices = g.choices; values = vs.0; outcome = run.0 },
          record {
            by_number = (
              All-weaker (InDomainAt p k) (Contains V) (λ v h. (round.exact v).1 h) vs.0 vs.2,
              run.1,
            );
            by_name = own;
            choices = refl;
            values = zip_of names vs.1;
          },
        )

    one_number : (f e : numbered.FreeRun) (g : FreeRun) → IsSameFree f g → IsSameFree e g → f ≡ e
    one_number f e g h i =
        let choices : f.choices ≡ e.choices = h.choices ∙ sym i.choices in
        let values : f.values ≡ e.values =
        one_left (IsSameValue names) (λ v x w a b. one.by_number v x w a b) f.values e.values
        g.values h.values i.values in
        let ends : f.outcome ≡ e.outcome =
        same_Some _ _ (sym h.by_number.1
        ∙ ap₂ (λ (bs : List Bool) (vs : List numbered_value.Value). by_number.free_run_of (thread_of p thread).lines (thread_of p thread).first bs vs) choices values
        ∙ i.by_number.1) in
        ap₂
        (λ (bs : List Bool) (rest : List numbered_value.Value × by_number.RunOutcome). record {
          choices = bs;
          values = rest.0;
          outcome = rest.1;
        }) choices
        (ap₂ (λ (vs : List numbered_value.Value) (o : by_number.RunOutcome). (vs, o)) values ends)

    one_name : (f : numbered.FreeRun) (g e : FreeRun) → IsSameFree f g → IsSameFree f e → g ≡ e
    one_name f g e h i =
        let choices : g.choices ≡ e.choices = sym h.choices ∙ i.choices in
        let values : g.values ≡ e.values =
        one_left (λ w v. IsSameValue names v w) (λ w x v a b. one.by_name v w x a b) g.values
        e.values f.values (turned (IsSameValue names) f.values g.values h.values)
        (turned (IsSameValue names) f.values e.values i.values) in
        let ends : g.run ≡ e.run =
        same_Some _ _ (sym h.by_name.1
        ∙ ap₂ (λ (bs : List Bool) (ws : List Value). free_run_of (lines_of_thread (content_of t) thread) None (initial_state (content_of t) thread) bs ws) choices values
        ∙ i.by_name.1) in
        ap₂
        (λ (bs : List Bool) (rest : List Value × Run). record {
          choices = bs;
          values = rest.0;
          run = rest.1;
        }) choices (ap₂ (λ (ws : List Value) (r : Run). (ws, r)) values ends)

    many_free : (n : ℕ) → numbered.HasFreeRuns (thread_of p thread) V n → 4096 < n
        → HasOver 4096 IsNamed
    many_free n (all, are, count) many =
        let own : _ = chosen IsSameFree IsOwn free_named all
        (all_of IsOwn all (λ f h. (are.exact f).0 h)) in
        let long : length all ≡ length own.0 = as_long IsSameFree all own.0 own.1 in
        let once : StandsOnce all =
        rising_once numbered.IsOtherFreeRun (λ f other. other refl refl) all are.once in (
          own.0,
          once_apart own.0 (right_once IsSameFree all own.0 own.1 one_number once),
          each_second IsSameFree IsNamed (λ f g h. h.by_name) all own.0 own.1,
          omega (arith, many, long, count),
        )

    few_free : (n : ℕ) → numbered.HasFreeRuns (thread_of p thread) V n → n ≤ 4096
        → HasOver 4096 IsNamed → ⊥
    few_free n (all, are, count) few (gs, once, named, many) =
        let own : _ = chosen (λ g f. IsSameFree f g) IsNamed free_numbered gs named in
        let same : AllZip IsSameFree own.0 gs = turned (λ g f. IsSameFree f g) gs own.0 own.1 in
        let long : length own.0 ≡ length gs = as_long IsSameFree own.0 gs same in
        let fewer : length own.0 ≤ length all =
        few_of own.0 all (left_once IsSameFree own.0 gs same one_name (rising_once (λ x y. x ≡ y → ⊥) (λ x other. other refl) gs once))
        (λ f h.
        let found : _ = left_there IsSameFree own.0 gs same f h in
        (are.exact f).1 found.2.by_number) in
        omega (arith, few, fewer, long, count, many)

  -- ---- Rounds

  thread_there : (thread : ℕ) → thread < vec_len p.threads → thread < length t.threads.items
  thread_there thread lt =
      subst (λ (n : ℕ). thread < n) (p.threads.ok.0 ∙ of.threads.each_one) lt

  thread_named : (s : Thread) → Contains (threads_of p) s
      → (thread : ℕ) × (thread < vec_len p.threads) × (thread_of p thread ≡ s)
  thread_named s h =
      let at : _ = index_of (threads_of p) s h in
      let long : length (threads_of p) ≡ vec_len p.threads = threads_long p (vec_len p.threads) in
      let within : at.0 < length (threads_of p) = slice_get_within (threads_of p) at.0 s at.1 in
      let lt : at.0 < vec_len p.threads = omega (arith, within, long) in
      (at.0, lt, same_Some _ _ (sym (thread_at p (vec_len p.threads) at.0 lt) ∙ at.1))

  many_runs : program.HasManyRuns p k → IsRefusedAt (content_of t) k TooManyRuns
  many_runs h =
      let own : _ = thread_named h.thread h.there in
      let there : own.0 < length t.threads.items = thread_there own.0 own.1 in (
        few_values h.values h.round h.few,
        (
          own.0,
          subst (λ (n : ℕ). own.0 < n) (sym (length-map t.threads.items thread_steps)) there,
          many_free h.values h.round own.0 there h.runs
              (subst (λ (s : Thread). numbered.HasFreeRuns s h.values h.runs) (sym own.2) h.counted)
              h.many,
        ),
      )

  few_runs : IsBoundedRound p k → HasManyFreeRuns (content_of t) k → ⊥
  few_runs h (thread, lt, many) =
      let there : thread < length t.threads.items =
      subst (λ (n : ℕ). thread < n) (length-map t.threads.items thread_steps) lt in
      let under : thread < vec_len p.threads =
      subst (λ (n : ℕ). thread < n) (sym (p.threads.ok.0 ∙ of.threads.each_one)) there in
      let is : Contains (threads_of p) (thread_of p thread) =
      member (threads_of p) thread (thread_of p thread) (thread_at p (vec_len p.threads) thread under) in
      let count : _ = h.runs (thread_of p thread) is in
      few_free h.values h.round thread there count.0 count.1 count.2 many

  bounded : IsBoundedRound p k → (r : Refusal) → IsRefusedAt (content_of t) k r → ⊥
  bounded h TooManyEvents is = is
  bounded h TooManyValues is = few_values h.values h.round h.few is
  bounded h TooManyRuns is = few_runs h is.1
  bounded h TooManyCandidates is = is
  bounded h AddressFault is = is
  bounded h TooManyCombinations is = is

  pub rounds_refused : AreRoundsAlike (content_of t) p k
  rounds_refused = record { values = many_values; runs = many_runs; bounded = bounded }
