-- The runs of threads as they are kept are all runs, with all their events.
use Rattle.std.proofs.Common.{Vec, ℕ, zero, suc, ◌≡◌, ◌<◌, ◌≤◌, ◌+◌, List, [], ◌∷◌, ◌++◌, map, take, length, Some, slice_get, count_by, Contains, refl, ap, sym, subst, ◌∙◌, arith}
use Rattle.std.specs.List.{flat_map, AllZip, sum_by}
use Rattle.std.specs.declared.alloc.Global.{Global}
use Rattle.std.proofs.lemmas.List.{take_all}
use Rattle.std.proofs.lemmas.List.Sums.{sum_by-cons}
use Rattle.std.proofs.lemmas.List.Elements.{Contains-push, Contains-append_left, Contains-append_right}
use Rattle.thread_runs.specs.declared.value.Value.{Value}
use Rattle.thread_runs.specs.declared.instruction.Event as run
use Rattle.thread_runs.specs.declared.instruction.Line.{Line}
use Rattle.thread_runs.specs.declared.instruction.Program.{Program}
use Rattle.thread_runs.specs.declared.run.Run as made
use Rattle.thread_runs.specs.Runs.{Thread, Run, IsThreadRun, AreThreadRuns, walk_at}
use Rattle.thread_runs.specs.AllRuns.{ShownRun, run_shown, shown_run, lines_at, thread_of}
use Rattle.thread_runs.specs.LocationValues.{AreLeft, IsUnserved, ShowsServed}
use Rattle.thread_runs.proofs.Serving.{left_contains}
use Rattle.ppc_lowering.specs.Domain.{has_event, IsDomain, threads_from, threads_of}
use Rattle.candidates.proofs.Choosing.{runs_in}
use Rattle.candidates.proofs.Small.{run_few}
use Rattle.candidates.specs.Executions.{product, events_from}
use Rattle.run_combinations.specs.Layouts.{AreServedRuns, chosen_events}
use Rattle.store_orders.specs.Events.{thread_events}
use Rattle.store_orders.specs.declared.combination.Event.{Event}

-- a run as it is kept, and the run
pub record Same (m : made.Run) (r : Run) : Type 0 where
  pub shows : run_shown m ≡ shown_run r
  pub events : m.events.items ≡ r.outcome.walk.events

abbrev pub SameRun : List Value → Thread → made.Run → Run → Type 0
SameRun V t m r = Same m r × IsThreadRun t (Contains V) r

-- the runs of a thread, but for some that no store serves
abbrev pub AreServed : Program → List Value → Thread → List Run → Type 0
AreServed p V t rs = (all : List Run) × AreThreadRuns t (Contains V) all × AreLeft (IsUnserved p) all rs

-- those of each thread
abbrev pub AreKept : Program → List Value → List Thread → List (Vec made.Run Global)
    → List (List Run) → Type 0
AreKept p V [] [] [] = Unit {0}
AreKept p V (t ∷ ts) (v ∷ vs) (rs ∷ rss) =
    AreServed p V t rs × AllZip (SameRun V t) v.items rs × AreKept p V ts vs rss
AreKept p V _ _ _ = ⊥

-- one of each
abbrev pub AreOne : List Value → List Thread → List made.Run → List Run → Type 0
AreOne V [] [] [] = Unit {0}
AreOne V (t ∷ ts) (m ∷ ms) (r ∷ rs) = SameRun V t m r × AreOne V ts ms rs
AreOne V _ _ _ = ⊥

pub zip_both : {X Y : Type 0} (R : X → Y → Type 0) (xs us : List X) (ys vs : List Y)
    → AllZip R xs ys → AllZip R us vs → AllZip R (xs ++ us) (ys ++ vs)
zip_both R [] us [] vs h k = k
zip_both R [] us (y ∷ ys) vs h k = absurd h
zip_both R (x ∷ xs) us [] vs h k = absurd h
zip_both R (x ∷ xs) us (y ∷ ys) vs h k = (h.0, zip_both R xs us ys vs h.1 k)

zip_with : (V : List Value) (t : Thread) (ts : List Thread) (m : made.Run) (r : Run)
    → SameRun V t m r → (mss : List (List made.Run)) (rss : List (List Run))
    → AllZip (AreOne V ts) mss rss
    → AllZip (AreOne V (t ∷ ts)) (map (λ (ms : List made.Run). m ∷ ms) mss)
    (map (λ (rs : List Run). r ∷ rs) rss)
zip_with V t ts m r same [] [] h = tt
zip_with V t ts m r same [] (rs ∷ rss) h = absurd h
zip_with V t ts m r same (ms ∷ mss) [] h = absurd h
zip_with V t ts m r same (ms ∷ mss) (rs ∷ rss) h =
    ((same, h.0), zip_with V t ts m r same mss rss h.1)

zip_rows : (V : List Value) (t : Thread) (ts : List Thread) (mss : List (List made.Run))
    (rss : List (List Run)) → AllZip (AreOne V ts) mss rss
    → (ms : List made.Run) (rs : List Run) → AllZip (SameRun V t) ms rs
    → AllZip (AreOne V (t ∷ ts))
    (flat_map (λ (m : made.Run). map (λ (rest : List made.Run). m ∷ rest) mss) ms)
    (flat_map (λ (r : Run). map (λ (rest : List Run). r ∷ rest) rss) rs)
zip_rows V t ts mss rss each [] [] h = tt
zip_rows V t ts mss rss each [] (r ∷ rs) h = absurd h
zip_rows V t ts mss rss each (m ∷ ms) [] h = absurd h
zip_rows V t ts mss rss each (m ∷ ms) (r ∷ rs) h =
    zip_both (AreOne V (t ∷ ts)) (map (λ (rest : List made.Run). m ∷ rest) mss)
    (flat_map (λ (m : made.Run). map (λ (rest : List made.Run). m ∷ rest) mss) ms)
    (map (λ (rest : List Run). r ∷ rest) rss) (flat_map
    (λ (r : Run). map (λ (rest : List Run). r ∷ rest) rss) rs)
    (zip_with V t ts m r h.0 mss rss each) (zip_rows V t ts mss rss each ms rs h.1)

-- all choices of them
pub product_kept : (p : Program) (V : List Value) (ts : List Thread)
    (vs : List (Vec made.Run Global)) (rss : List (List Run)) → AreKept p V ts vs rss
    → AllZip (AreOne V ts) (product (runs_in vs)) (product rss)
product_kept p V [] [] [] h = (tt, tt)
product_kept p V [] [] (rs ∷ rss) h = absurd h
product_kept p V [] (v ∷ vs) rss h = absurd h
product_kept p V (t ∷ ts) [] rss h = absurd h
product_kept p V (t ∷ ts) (v ∷ vs) [] h = absurd h
product_kept p V (t ∷ ts) (v ∷ vs) (rs ∷ rss) h =
    zip_rows V t ts (product (runs_in vs)) (product rss) (product_kept p V ts vs rss h.2) v.items rs
    h.1

-- all runs of each thread
abbrev pub AllRuns : Program → List Value → List Thread → List (List Run) → Type 0
AllRuns p V ts rss =
    (alls : List (List Run)) × AllZip (λ t all. AreThreadRuns t (Contains V) all) ts alls
    × AllZip (AreLeft (IsUnserved p)) alls rss

pub runs_kept : (p : Program) (V : List Value) (ts : List Thread) (vs : List (Vec made.Run Global))
    (rss : List (List Run)) → AreKept p V ts vs rss → AllRuns p V ts rss
runs_kept p V [] [] [] h = ([], tt, tt)
runs_kept p V [] [] (rs ∷ rss) h = absurd h
runs_kept p V [] (v ∷ vs) rss h = absurd h
runs_kept p V (t ∷ ts) [] rss h = absurd h
runs_kept p V (t ∷ ts) (v ∷ vs) [] h = absurd h
runs_kept p V (t ∷ ts) (v ∷ vs) (rs ∷ rss) h =
    let rest : AllRuns p V ts rss = runs_kept p V ts vs rss h.2 in
    (h.0.0 ∷ rest.0, (h.0.1, rest.1), (h.0.2, rest.2))

-- the events of a choice
pub one_run_each : (V : List Value) (ts : List Thread) (ms : List made.Run) (rs : List Run)
    → AreOne V ts ms rs → AllZip (λ t r. IsThreadRun t (Contains V) r) ts rs
one_run_each V [] [] [] h = tt
one_run_each V [] [] (r ∷ rs) h = absurd h
one_run_each V [] (m ∷ ms) rs h = absurd h
one_run_each V (t ∷ ts) [] rs h = absurd h
one_run_each V (t ∷ ts) (m ∷ ms) [] h = absurd h
one_run_each V (t ∷ ts) (m ∷ ms) (r ∷ rs) h = (h.0.1, one_run_each V ts ms rs h.1)

pub same_events : (V : List Value) (ts : List Thread) (thread : ℕ) (ms : List made.Run)
    (rs : List Run) → AreOne V ts ms rs → chosen_events thread ms ≡ events_from thread rs
same_events V [] thread [] [] h = refl
same_events V [] thread [] (r ∷ rs) h = absurd h
same_events V [] thread (m ∷ ms) rs h = absurd h
same_events V (t ∷ ts) thread [] rs h = absurd h
same_events V (t ∷ ts) thread (m ∷ ms) [] h = absurd h
same_events V (t ∷ ts) thread (m ∷ ms) (r ∷ rs) h =
    ap (λ (es : List run.Event). thread_events thread es ++ chosen_events (thread + 1) ms)
    h.0.0.events
    ∙ ap (λ (es : List Event). thread_events thread r.outcome.walk.events ++ es)
    (same_events V ts (thread + 1) ms rs h.1)

-- what a run of a thread shows, of which there are at most 128 events
zipped : (P : Run → Type 0) (ms : List made.Run) (rs : List Run) → map run_shown ms ≡ map shown_run rs
    → ((r : Run) → Contains rs r → P r × (length r.outcome.walk.events ≤ 128))
    → AllZip (λ m r. Same m r × P r) ms rs
zipped P [] [] e each = tt
zipped P [] (r ∷ rs) e each = absurd cc
zipped P (m ∷ ms) [] e each = absurd cc
zipped P (m ∷ ms) (r ∷ rs) e each =
    let here : P r × (length r.outcome.walk.events ≤ 128) = each r (Contains-append_left (r ∷ []) rs r (Contains-push [] r)) in (
      (
        record {
          shows = heads e;
          events =
              ap (λ (x : ShownRun). x.events) (heads e)
              ∙ take_all 128 r.outcome.walk.events here.1;
        },
        here.0,
      ),
      zipped P ms rs (tails e) (λ x c. each x (Contains-append_right (r ∷ []) rs x c)),
    )
  where
    heads : {x y : ShownRun} {xs ys : List ShownRun} → (x ∷ xs) ≡ (y ∷ ys) → x ≡ y
    heads e = cc

    tails : {x y : ShownRun} {xs ys : List ShownRun} → (x ∷ xs) ≡ (y ∷ ys) → xs ≡ ys
    tails e = cc

-- no thread has more events than the text
thread_count : (ls : List (Vec Line Global)) (t : ℕ)
    → count_by has_event (lines_at (slice_get ls t))
    ≤ sum_by (λ (lines : Vec Line Global). count_by has_event lines.items) ls
thread_count [] t = omega arith
thread_count (l ∷ ls) zero =
    omega (arith, sum_by-cons (λ (lines : Vec Line Global). count_by has_event lines.items) l ls)
thread_count (l ∷ ls) (suc t) =
    let a : count_by has_event (lines_at (slice_get ls t)) ≤ sum_by (λ (lines : Vec Line Global). count_by has_event lines.items) ls = thread_count ls t in
    omega (arith, a, sum_by-cons (λ (lines : Vec Line Global). count_by has_event lines.items) l ls)

kept_push : (p : Program) (V : List Value) (ts : List Thread) (vs : List (Vec made.Run Global))
    (rss : List (List Run)) (t : Thread) (v : Vec made.Run Global) (rs : List Run)
    → AreKept p V ts vs rss → AreServed p V t rs → AllZip (SameRun V t) v.items rs
    → AreKept p V (ts ++ t ∷ []) (vs ++ v ∷ []) (rss ++ rs ∷ [])
kept_push p V [] [] [] t v rs h a z = (a, z, tt)
kept_push p V [] [] (qs ∷ rss) t v rs h a z = absurd h
kept_push p V [] (w ∷ vs) rss t v rs h a z = absurd h
kept_push p V (u ∷ ts) [] rss t v rs h a z = absurd h
kept_push p V (u ∷ ts) (w ∷ vs) [] t v rs h a z = absurd h
kept_push p V (u ∷ ts) (w ∷ vs) (qs ∷ rss) t v rs h a z =
    (h.0, h.1, kept_push p V ts vs rss t v rs h.2 a z)

there : {X : Type 0} (xs : List X) (n : ℕ) → n < length xs
    → (x : X) × (slice_get xs n ≡ Some x) × (take (suc n) xs ≡ take n xs ++ x ∷ [])
there [] n lt = absurd (omega (arith, lt))
there (x ∷ xs) zero lt = (x, refl, refl)
there {X} (x ∷ xs) (suc n) lt =
    let r : (y : X) × (slice_get xs n ≡ Some y) × (take (suc n) xs ≡ take n xs ++ y ∷ []) =
    there xs n (omega (arith, lt)) in
    (r.0, r.1, ap (λ (l : List X). x ∷ l) r.2)

module _ (p : Program) (V : List Value) (runs : List (Vec made.Run Global)) (domain : IsDomain p V)
    (are : AreServedRuns p V runs) where
  thread_kept : (t : ℕ) (v : Vec made.Run Global) (s : ShowsServed p t V v.items)
      → AllZip (SameRun V (thread_of p t)) v.items s.2
  thread_kept t v s =
      zipped (IsThreadRun (thread_of p t) (Contains V)) v.items s.2 s.4 (λ r c.
      let is : IsThreadRun (thread_of p t) (Contains V) r =
      (s.1.exact r).0 (left_contains (IsUnserved p) s.0 s.2 s.3 r c) in
      (is, few r is))
    where
      few : (r : Run) → IsThreadRun (thread_of p t) (Contains V) r → length r.outcome.walk.events ≤ 128
      few r h =
          let a : length r.outcome.walk.events ≤ 0 + count_by has_event (thread_of p t).lines = run_few (thread_of p t).lines (walk_at (thread_of p t).first) r.values r.outcome h.1 in
          omega (arith, a, thread_count p.threads.items t, domain.events)

  first_kept : (n : ℕ) → n ≤ length runs
      → (rss : List (List Run)) × AreKept p V (threads_from p n) (take n runs) rss
  first_kept zero le = ([], tt)
  first_kept (suc n) le =
      let before : (rss : List (List Run)) × AreKept p V (threads_from p n) (take n runs) rss = first_kept n (omega (arith, le)) in
      let here : (v : Vec made.Run Global) × (slice_get runs n ≡ Some v) × (take (suc n) runs ≡ take n runs ++ v ∷ []) = there runs n (omega (arith, le)) in
      let s : ShowsServed p n V here.0.items = are.each n here.0 here.1 in (
        before.0 ++ s.2 ∷ [],
        subst
            (λ (l : List (Vec made.Run Global)).
            AreKept p V (threads_from p n ++ thread_of p n ∷ []) l (before.0 ++ s.2 ∷ []))
            (sym here.2)
            (kept_push p V (threads_from p n) (take n runs) before.0 (thread_of p n) here.0
            s.2 before.1 (s.0, s.1, s.3) (thread_kept n here.0 s)),
      )

  pub all_kept : (rss : List (List Run)) × AreKept p V (threads_of p) runs rss
  all_kept =
      let a : (rss : List (List Run)) × AreKept p V (threads_from p (length runs)) (take (length runs) runs) rss = first_kept (length runs) (omega arith) in (
        a.0,
        subst (λ (n : ℕ). AreKept p V (threads_from p n) runs a.0) are.count
            (subst
            (λ (l : List (Vec made.Run Global)).
            AreKept p V (threads_from p (length runs)) l a.0)
            (take_all (length runs) runs (omega arith)) a.1),
      )
