-- A thread that is run again with the values that its loads read.
use Rattle.std.proofs.Common.{ℕ, zero, suc, ◌≡◌, ◌<◌, ◌+◌, ◌⊎◌, ◌∙◌, inl, inr, List, [], ◌∷◌, ◌++◌, get_or, length, map, refl, sym, ap, subst, arith}
use Rattle.std.specs.Prelude.{Option, Some, None, Vec, slice_get}
use Rattle.std.specs.List.{All, Contains}
use Rattle.std.specs.declared.alloc.Global.{Global}
use Rattle.std.proofs.lemmas.List.{get_or-map, length-append, length-map}
use Rattle.text_values.specs.declared.test.Test.{Test}
use Rattle.ppc_lowering.specs.Lowering.{ShowsTestRuns}
use Rattle.store_orders.specs.declared.combination.Event.{Event}
use Rattle.thread_runs.specs.AllRuns.{ShowsRuns, ShownRun, run_shown, shown_run, thread_of}
use Rattle.thread_runs.specs.Runs.{Thread, Run, run_of}
use Rattle.thread_runs.specs.declared.instruction.Instruction.{Instruction}
use Rattle.thread_runs.specs.declared.run.Run as code_run
use Rattle.thread_runs.specs.declared.value.Value.{Value}
use Rattle.why_text.specs.Origins.{AreMade, AreMadeBelow, AreMadeOf, AreMadeOn, AreRunsOver, HasNoRun, IsReader, OneThread, RunReads, made_by_run, made_in, values_read}

-- ---- two lists that show the same

at_index : {Y : Type 0} (ys : List Y) (k : ℕ) → k < length ys → (y : Y) × (get_or ys k y ≡ y)
at_index [] k lt = absurd (omega (arith, lt))
at_index (y ∷ ys) zero lt = (y, refl)
at_index (y ∷ ys) (suc k) lt = at_index ys k (omega (arith, lt))

length_as : {Z : Type 0} (xs ys : List Z) → xs ≡ ys → length xs ≡ length ys
length_as {Z} xs ys e = ap (λ (zs : List Z). length zs) e

get_as : {Z : Type 0} (xs ys : List Z) (k : ℕ) (d : Z) → xs ≡ ys → get_or xs k d ≡ get_or ys k d
get_as {Z} xs ys k d e = ap (λ (zs : List Z). get_or zs k d) e

matched : {X Y Z : Type 0} (f : X → Z) (g : Y → Z) (xs : List X) (ys : List Y) → map f xs ≡ map g ys
    → (x : X) → Contains xs x → (y : Y) × Contains ys y × (f x ≡ g y)
matched f g xs ys same x here =
    let (k, lt, is) = here in
    let long : length xs ≡ length ys = sym (length-map xs f) ∙ length_as (map f xs) (map g ys) same ∙ length-map ys g in
    let within : k < length ys = omega (arith, lt, long) in
    let (y, at) = at_index ys k within in (
      y,
      (k, within, at),
      ap f (sym is) ∙ sym (get_or-map f xs k x (f x) lt)
          ∙ get_as (map f xs) (map g ys) k (f x) same ∙ get_or-map g ys k y (f x) within
          ∙ ap g at,
    )

-- ---- the instructions of a thread

by_run : (t : Thread) (domain values : List Value) (run : code_run.Run) (r : Run)
    (xs : List (Option Instruction)) → run_shown run ≡ shown_run r
    → (run_of t.lines t.first r.values ≡ Some r.outcome) → RunReads values run
    → xs ≡ made_in run.steps.items → AreMade t domain values xs
by_run t domain values run r xs like goes reads is =
    let taken : r.values ≡ values = sym (ap (λ (s : ShownRun). s.values) like) ∙ reads in
    inl (
      r.outcome.walk.steps,
      (
        r.outcome,
        subst (λ (vs : List Value). run_of t.lines t.first vs ≡ Some r.outcome) taken
            goes,
        refl,
      ),
      is ∙ ap made_in (ap (λ (s : ShownRun). s.steps) like),
    )

without : (t : Thread) (domain values : List Value) (runs : List code_run.Run)
    → ShowsRuns t domain runs → All (λ run. RunReads values run → ⊥) runs → HasNoRun t domain values
without t domain values runs shows none o within goes =
    let (all, are, like) = shows in
    let r : Run = record { values = values; outcome = o } in
    let (run, there, alike) = matched shown_run run_shown all runs (sym like) r ((are.exact r).1 (within, goes)) in
    let (k, lt, is) = there in
    none k run lt (subst (λ (x : code_run.Run). RunReads values x) (sym is)
    (sym (ap (λ (s : ShownRun). s.values) alike)))

made_as : (t : Thread) (domain values : List Value) (runs : List code_run.Run)
    (found : Option code_run.Run) (xs : List (Option Instruction)) → ShowsRuns t domain runs
    → IsReader runs values found → xs ≡ made_by_run found → AreMade t domain values xs
made_as t domain values runs None xs shows none is =
    inr (without t domain values runs shows none, is)
made_as t domain values runs (Some run) xs shows reader is =
    let (all, are, like) = shows in
    let (r, there, alike) = matched run_shown shown_run runs all like run reader.0 in
    by_run t domain values run r xs alike ((are.exact r).0 there).1 reader.1 is

pub thread_made : (test : Test) (n : ℕ) (domain values : List Value) (runs : List code_run.Run)
    (xs : List (Option Instruction)) → ShowsTestRuns test n domain runs
    → AreMadeOf runs values xs → AreMadeOn test n domain values xs
thread_made test n domain values runs xs shows made =
    let (p, is, all) = shows in
    let (found, reader, same) = made in
    (p, is, made_as (thread_of p n) domain values runs found xs all reader same)

pub threads_more : (test : Test) (domain : List Value) (events : List Event) (count n : ℕ)
    (threads : List (Vec code_run.Run Global)) (runs : Vec code_run.Run Global)
    (xs ys : List (Option Instruction)) → AreRunsOver test domain count threads
    → slice_get threads n ≡ Some runs
    → AreMadeOf runs.items (values_read n events) ys → AreMadeBelow test domain events n xs
    → AreMadeBelow test domain events (n + 1) (xs ++ ys)
threads_more test domain events count n threads runs xs ys over is made before =
    OneThread n xs ys before (thread_made test n domain (values_read n events) runs.items ys
    (over.each n runs is) made)

-- ---- the runs of each thread

get_more : {X : Type 0} (xs : List X) (x y : X) (k : ℕ) → slice_get (xs ++ x ∷ []) k ≡ Some y
    → (slice_get xs k ≡ Some y) ⊎ ((k ≡ length xs) × (x ≡ y))
get_more [] x y zero e = inr (refl, cc)
get_more [] x y (suc k) e = absurd cc
get_more (z ∷ zs) x y zero e = inl e
get_more (z ∷ zs) x y (suc k) e =
    elim (get_more zs x y k e) [ inl old ↦ inl old | inr t ↦ inr (omega (arith, t.0), t.1) ]

pub no_runs : (test : Test) (domain : List Value) → AreRunsOver test domain 0 []
no_runs test domain = record { all = refl; each = λ n runs is. absurd cc }

pub runs_more : (test : Test) (domain : List Value) (n : ℕ)
    (threads : List (Vec code_run.Run Global)) (runs : Vec code_run.Run Global)
    → ShowsTestRuns test n domain runs.items → AreRunsOver test domain n threads
    → AreRunsOver test domain (n + 1) (threads ++ runs ∷ [])
runs_more test domain n threads runs shows old = record {
  all = length-append threads (runs ∷ []) ∙ ap (λ (k : ℕ). k + 1) old.all;
  each = λ m x is. elim (get_more threads runs x m is) [
    | inl sooner ↦ old.each m x sooner
    | inr last ↦ subst (λ (y : Vec code_run.Run Global). ShowsTestRuns test m domain y.items) last.1
        (subst (λ (k : ℕ). ShowsTestRuns test k domain runs.items) (sym (last.0 ∙ old.all)) shows)
  ];
}
