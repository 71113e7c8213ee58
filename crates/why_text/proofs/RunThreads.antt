-- The instructions of an execution are those of its runs.
use Rattle.std.proofs.Common.{ℕ, zero, suc, ◌≡◌, ◌<◌, ◌≤◌, ◌+◌, inl, inr, List, [], ◌∷◌, ◌++◌, map, take, length, get_or, Option, Some, None, refl, ap, sym, subst, ◌∙◌, arith, append-nil}
use Rattle.std.specs.Prelude.{slice_get, vec_len}
use Rattle.std.specs.List.{All, AllZip, Contains, filter_map, flat_map}
use Rattle.std.proofs.lemmas.Bool.{cases_lt}
use Rattle.std.proofs.lemmas.List.{length-append, take_all, take_more}
use Rattle.std.proofs.lemmas.List.Concat.{flat_map-append}
use Rattle.std.proofs.lemmas.Option.{same_Some, slice_get-get_or}
use Rattle.std.proofs.lemmas.Slice.Zip.{AllZip-long}
use Rattle.text_values.specs.declared.test.Test.{Test}
use Rattle.thread_runs.specs.declared.instruction.Instruction.{Instruction}
use Rattle.thread_runs.specs.declared.instruction.Program.{Program}
use Rattle.thread_runs.specs.declared.instruction.RunStep.{RunStep}
use Rattle.thread_runs.specs.declared.value.Value.{Value}
use Rattle.thread_runs.specs.AllRuns.{thread_of}
use Rattle.thread_runs.specs.Runs.{Thread, RunOutcome, Run, IsThreadRun, run_of, walk_at}
use Rattle.ppc_lowering.specs.Domain.{threads_from, threads_of}
use Rattle.ppc_lowering.specs.Lowering.{IsProgram, IsTestDomainFault}
use Rattle.ppc_lowering.specs.declared.fault.DomainFault.TheVariants as faults
use Rattle.ppc_lowering.specs.declared.fault.EvalRefusal.{EvalRefusal}
use Rattle.store_orders.specs.Events.{thread_events, initial_stores}
use Rattle.store_orders.specs.Lists.{IsFiltered, none, kept, left}
use Rattle.store_orders.specs.declared.combination.Event.{Event}
use Rattle.candidate_spaces.specs.declared.candidate.Space.{Space}
use Rattle.ppc_lowering.specs.declared.fault.EvalRefusal.TheVariants.{TooManyEvents, TooManyValues, TooManyRuns, TooManyCandidates, AddressFault, TooManyCombinations}
use Rattle.candidates.specs.Executions.{IsExecution, events, events_from, over_runs, product}
use Rattle.candidates.specs.Listed.{ListsExecutions, ShowsExecution}
use Rattle.candidate_spaces.specs.Space.{shown_in}
use Rattle.candidates.proofs.Elements.{behind_first, in_first}
use Rattle.candidates.proofs.LoadValues as loads
use Rattle.candidates.proofs.OneOutcome.{one_outcome}
use Rattle.candidates.proofs.OneProgram.{Alike, domains_one, programs_alike}
use Rattle.candidates.proofs.Whole.{AreLocated, run_located}
use Rattle.why_text.specs.OfRuns.{AreOfRuns, ComesFrom, Goes, ShowRuns, instructions_in}
use Rattle.why_text.specs.Origins.{AreMade, AreMadeBelow, AreMadeOn, NoThread, OneThread, made_in, not_made, values_read}
use Rattle.why_text.proofs.RunEvents.{initial_comes, none_made, run_agrees, thread_values, zip_both}

-- ---- lists

pub matching : {A B : Type 0} (R : A → B → Type 0) (xs : List A) (ys : List B) (k : ℕ) (y : B)
    → AllZip R xs ys → slice_get ys k ≡ Some y → (x : A) × (slice_get xs k ≡ Some x) × R x y
matching R [] [] k y h e = absurd cc
matching R [] (z ∷ ys) k y h e = absurd h
matching R (x ∷ xs) [] k y h e = absurd h
matching {A} {B} R (x ∷ xs) (z ∷ ys) zero y h e =
    (x, refl, subst (λ (w : B). R x w) (same_Some _ _ e) h.0)
matching R (x ∷ xs) (z ∷ ys) (suc k) y h e = matching R xs ys k y h.1 e

pub matched_by : {A B : Type 0} (R : A → B → Type 0) (xs : List A) (ys : List B) (k : ℕ) (x : A)
    → AllZip R xs ys → slice_get xs k ≡ Some x → (y : B) × (slice_get ys k ≡ Some y) × R x y
matched_by R [] [] k x h e = absurd cc
matched_by R [] (z ∷ ys) k x h e = absurd h
matched_by R (w ∷ xs) [] k x h e = absurd h
matched_by {A} {B} R (w ∷ xs) (z ∷ ys) zero x h e =
    (z, refl, subst (λ (v : A). R v z) (same_Some _ _ e) h.0)
matched_by R (w ∷ xs) (z ∷ ys) (suc k) x h e = matched_by R xs ys k x h.1 e

filtered_at : {X : Type 0} (P : X → Type 0) (xs ys : List X) → IsFiltered P xs ys → (k : ℕ) (y : X)
    → slice_get ys k ≡ Some y → P y
filtered_at P [] ys none k y e = absurd cc
filtered_at {X} P (x ∷ xs) ys (kept {ys = zs} p f) zero y e = subst P (same_Some _ _ e) p
filtered_at P (x ∷ xs) ys (kept {ys = zs} p f) (suc k) y e = filtered_at P xs zs f k y e
filtered_at P (x ∷ xs) ys (left p f) k y e = filtered_at P xs ys f k y e

zip_weaker : {A B : Type 0} (R S : A → B → Type 0) → ((x : A) (y : B) → R x y → S x y)
    → (xs : List A) (ys : List B) → AllZip R xs ys → AllZip S xs ys
zip_weaker R S to [] [] h = tt
zip_weaker R S to [] (y ∷ ys) h = absurd h
zip_weaker R S to (x ∷ xs) [] h = absurd h
zip_weaker R S to (x ∷ xs) (y ∷ ys) h = (to x y h.0, zip_weaker R S to xs ys h.1)

-- ---- the threads of a program

count_from : (p : Program) (n : ℕ) → length (threads_from p n) ≡ n
count_from p zero = refl
count_from p (suc n) =
    length-append (threads_from p n) (thread_of p n ∷ []) ∙ omega (arith, count_from p n)

thread_from : (p : Program) (m n : ℕ) → n < m
    → slice_get (threads_from p m) n ≡ Some (thread_of p n)
thread_from p zero n lt = absurd (omega (arith, lt))
thread_from p (suc m) n lt = elim (cases_lt n m) [
  | inl less ↦ in_first (threads_from p m) (thread_of p m ∷ []) n (thread_of p n)
      (thread_from p m n less)
  | inr le ↦
      let same : m ≡ n = omega (arith, lt, le) in
      let at : n ≡ length (threads_from p m) + 0 = omega (arith, count_from p m, same) in
      ap (λ (k : ℕ). slice_get (threads_from p m ++ thread_of p m ∷ []) k) at
      ∙ behind_first (threads_from p m) (thread_of p m ∷ []) 0
      ∙ ap (λ (k : ℕ). Some (thread_of p k)) same
]

same_thread : (p q : Program) (n : ℕ) → threads_of p ≡ threads_of q → n < vec_len q.threads
    → thread_of p n ≡ thread_of q n
same_thread p q n same lt =
    let long : length (threads_of p) ≡ length (threads_of q) = ap (λ (ts : List Thread). length ts) same in
    let there : n < vec_len p.threads = omega (arith, long, lt, count_from p (vec_len p.threads), count_from q (vec_len q.threads)) in
    same_Some _ _ (sym (thread_from p (vec_len p.threads) n there)
    ∙ ap (λ (ts : List Thread). slice_get ts n) same
    ∙ thread_from q (vec_len q.threads) n lt)

-- ---- the runs of an execution

module _ (test : Test) (p : Program) (of_test : IsProgram test p) (V : List Value) (rs : List Run)
    (are : AllZip (λ t r. IsThreadRun t (Contains V) r) (threads_of p) rs) where
  goes_all : AllZip Goes (threads_of p) rs
  goes_all = zip_weaker (λ t r. IsThreadRun t (Contains V) r) Goes (λ t r h. h.1) (threads_of p) rs are

  many : length rs ≡ vec_len test.threads
  many =
      let a : vec_len p.threads ≡ length p.threads.items = p.threads.ok.0 in
      let b : vec_len test.threads ≡ length test.threads.items = test.threads.ok.0 in
      let c : length p.threads.items ≡ length test.threads.items = of_test.threads.each_one in
      let d : length rs ≡ length (threads_of p) = AllZip-long (λ t r. IsThreadRun t (Contains V) r) (threads_of p) rs are in
      omega (arith, a, b, c, d, count_from p (vec_len p.threads))

  run_at : (n : ℕ) → n < length rs
      → (r : Run) × (slice_get rs n ≡ Some r) × IsThreadRun (thread_of p n) (Contains V) r
  run_at n lt =
      let d : length rs ≡ length (threads_of p) = AllZip-long (λ t r. IsThreadRun t (Contains V) r) (threads_of p) rs are in
      matched_by (λ t r. IsThreadRun t (Contains V) r) (threads_of p) rs n (thread_of p n) are
      (thread_from p (vec_len p.threads) n
      (omega (arith, d, lt, count_from p (vec_len p.threads))))

  located : (k : ℕ) (r : Run) → slice_get rs k ≡ Some r → AreLocated r.outcome.walk.events
  located k r is =
      let (t, there, h) = matching (λ t r. IsThreadRun t (Contains V) r) (threads_of p) rs k r are is in
      run_located t.lines (walk_at t.first) r.values r.outcome h.1 tt

  values_of_run : (n : ℕ) (r : Run) → slice_get rs n ≡ Some r → IsThreadRun (thread_of p n) (Contains V) r
      → values_read n (events p.initial.items rs) ≡ r.values
  values_of_run n r is h =
      thread_values n p.initial.items rs r located is
      ∙ loads.values_read (thread_of p n).lines (thread_of p n).first r.values r.outcome h.1

  -- the instructions of a thread are those of its run
  made_as : (domain : List Value) → domain ≡ V
      → (t : Thread) (n : ℕ) (r : Run) (xs : List (Option Instruction)) → t ≡ thread_of p n
      → slice_get rs n ≡ Some r → IsThreadRun (thread_of p n) (Contains V) r
      → AreMade t domain (values_read n (events p.initial.items rs)) xs
      → xs ≡ made_in r.outcome.walk.steps
  made_as domain same t n r xs thread is h made =
      let values : values_read n (events p.initial.items rs) ≡ r.values = values_of_run n r is h in
      let goes : run_of t.lines t.first (values_read n (events p.initial.items rs)) ≡ Some r.outcome = subst (λ (u : Thread). run_of u.lines u.first (values_read n (events p.initial.items rs)) ≡ Some r.outcome) (sym thread)
      (subst
      (λ (vs : List Value). run_of (thread_of p n).lines (thread_of p n).first vs
      ≡ Some r.outcome)
      (sym values) h.1) in
      elim made [
        | inl ran ↦
            let (steps, (o, executes, whole), are_made) = ran in
            let one : o ≡ r.outcome = same_Some _ _ (sym executes ∙ goes) in
            are_made ∙ ap (λ (ss : List RunStep). made_in ss) whole
            ∙ ap (λ (q : RunOutcome). made_in q.walk.steps) one
        | inr unrun ↦
            let of_domain : All (Contains domain) (values_read n (events p.initial.items rs)) = subst (λ (vs : List Value). All (Contains domain) vs) (sym values) (subst (λ (W : List Value). All (Contains W) r.values) (sym same) h.0) in
            absurd (unrun.0 r.outcome of_domain goes)
      ]

  made_on : (domain : List Value) → domain ≡ V → (n : ℕ) (r : Run) (xs : List (Option Instruction))
      → n < length rs → slice_get rs n ≡ Some r → IsThreadRun (thread_of p n) (Contains V) r
      → AreMadeOn test n domain (values_read n (events p.initial.items rs)) xs
      → xs ≡ made_in r.outcome.walk.steps
  made_on domain same n r xs lt is h on =
      let (q, is_program, made) = on in
      let a : Alike q p = programs_alike test q p is_program of_test in
      let d : length rs ≡ length (threads_of p) = AllZip-long (λ t r. IsThreadRun t (Contains V) r) (threads_of p) rs are in
      made_as domain same (thread_of q n) n r xs
      (same_thread q p n a.threads (omega (arith, lt, d, count_from p (vec_len p.threads)))) is
      h made

  abbrev all_made : List Run → List (Option Instruction)
  all_made qs = flat_map (λ r. made_in r.outcome.walk.steps) qs

  made_below : (domain : List Value) → domain ≡ V → (n : ℕ) (xs : List (Option Instruction))
      → AreMadeBelow test domain (events p.initial.items rs) n xs → n ≤ length rs
      → xs ≡ all_made (take n rs)
  made_below domain same n xs NoThread le = refl
  made_below domain same m zs (OneThread n xs ys before on) le =
      let (r, is, h) = run_at n (omega (arith, le)) in
      let front : xs ≡ all_made (take n rs) = made_below domain same n xs before (omega (arith, le)) in
      let here : ys ≡ made_in r.outcome.walk.steps = made_on domain same n r ys (omega (arith, le)) is h on in
      let read : get_or rs n r ≡ r = same_Some _ _ (sym (slice_get-get_or rs n r (omega (arith, le))) ∙ is) in
      let more : take (n + 1) rs ≡ take n rs ++ r ∷ [] = take_more rs n r (omega (arith, le)) ∙ ap (λ (q : Run). take n rs ++ q ∷ []) read in
      let both : all_made (take n rs ++ r ∷ []) ≡ all_made (take n rs) ++ all_made (r ∷ []) = flat_map-append (λ q. made_in q.outcome.walk.steps) (take n rs) (r ∷ []) in
      let last : all_made (r ∷ []) ≡ made_in r.outcome.walk.steps = append-nil (made_in r.outcome.walk.steps) in
      ap (λ (l : List (Option Instruction)). l ++ ys) front
      ∙ ap (λ (l : List (Option Instruction)). all_made (take n rs) ++ l) (here ∙ sym last)
      ∙ sym both ∙ ap (λ (qs : List Run). all_made qs) (sym more)

  made_all : (domain : List Value) → domain ≡ V → (xs : List (Option Instruction))
      → AreMadeBelow test domain (events p.initial.items rs) (vec_len test.threads) xs
      → xs ≡ all_made rs
  made_all domain same xs below =
      made_below domain same (vec_len test.threads) xs below (omega (arith, many))
      ∙ ap (λ (qs : List Run). all_made qs)
      (take_all (vec_len test.threads) rs (omega (arith, many)))

runs_come : (m : ℕ) (ts : List Thread) (rs : List Run) → AllZip Goes ts rs
    → AllZip ComesFrom (flat_map (λ r. made_in r.outcome.walk.steps) rs) (events_from m rs)
runs_come m [] [] h = tt
runs_come m [] (r ∷ rs) h = absurd h
runs_come m (t ∷ ts) [] h = absurd h
runs_come m (t ∷ ts) (r ∷ rs) h =
    zip_both ComesFrom (made_in r.outcome.walk.steps)
    (flat_map (λ q. made_in q.outcome.walk.steps) rs) (thread_events m r.outcome.walk.events)
    (events_from (m + 1) rs)
    (run_agrees m t.lines t.first r.values r.outcome h.0) (runs_come (m + 1) ts rs h.1)

-- ---- the whole

not_refused : (test : Test) (space : Space) (r : EvalRefusal) → ListsExecutions test space
    → IsTestDomainFault test (faults.Refused r) → ⊥
not_refused test space TooManyEvents lists fault =
    (one_outcome test).listed_or_refused space TooManyEvents lists fault
not_refused test space TooManyValues lists fault =
    (one_outcome test).listed_or_refused space TooManyValues lists fault
not_refused test space TooManyRuns lists fault =
    (one_outcome test).listed_or_refused space TooManyRuns lists fault
not_refused test space TooManyCombinations lists fault =
    (one_outcome test).listed_or_refused space TooManyCombinations lists fault
not_refused test space TooManyCandidates lists fault = absurd fault.2
not_refused test space AddressFault lists fault = absurd fault.2

module _ (test : Test) (p : Program) (of_test : IsProgram test p) (V : List Value) (rs : List Run)
    (are : AllZip (λ t r. IsThreadRun t (Contains V) r) (threads_of p) rs) where
  of_runs : (domain : List Value) → domain ≡ V
      → (es : List Event) (xs made : List (Option Instruction)) → es ≡ events p.initial.items rs
      → AreMadeBelow test domain es (vec_len test.threads) made
      → xs ≡ filter_map not_made es ++ made → AreOfRuns test es xs
  of_runs domain same es xs made is below whole =
      let goes : AllZip Goes (threads_of p) rs = goes_all test p of_test V rs are in
      let threads : made ≡ flat_map (λ r. made_in r.outcome.walk.steps) rs = made_all test p of_test V rs are domain same made (subst (λ (fs : List Event). AreMadeBelow test domain fs (vec_len test.threads) made) is below) in
      let initial : filter_map not_made es ≡ map (λ v. None) p.initial.items = ap (λ (fs : List Event). filter_map not_made fs) is ∙ none_made p.initial.items rs in
      let all : xs ≡ instructions_in p.initial.items rs = whole ∙ ap (λ (l : List (Option Instruction)). l ++ made) initial ∙ ap (λ (l : List (Option Instruction)). map (λ v. None) p.initial.items ++ l) threads in
      let each : AllZip ComesFrom (instructions_in p.initial.items rs) (events p.initial.items rs) =
      zip_both ComesFrom (map (λ v. None) p.initial.items)
      (flat_map (λ r. made_in r.outcome.walk.steps) rs) (initial_stores 0 p.initial.items)
      (events_from 0 rs) (initial_comes 0 p.initial.items) (runs_come 0 (threads_of p) rs goes)
      in
      record {
        program = p;
        of_test = of_test;
        runs = rs;
        of_threads = goes;
        of_runs = is;
        instructions = all;
        each =
            subst (λ (ys : List (Option Instruction)). AllZip ComesFrom ys es) (sym all)
            (subst (λ (fs : List Event). AllZip ComesFrom (instructions_in p.initial.items rs) fs)
            (sym is) each);
      }

pub show_runs : (test : Test) (space : Space) → ShowRuns test space
show_runs test space lists k e xs there are =
    let (x, at, shows) = matching (ShowsExecution lists.initial) lists.all (shown_in space) k e lists.shown there in
    let h = lists.executions in
    let execution = filtered_at (IsExecution lists.initial (threads_of h.program) (Contains h.values)) (flat_map (over_runs lists.initial) (product h.executions.runs)) lists.all h.executions.executions k x at in
    let is : e.events ≡ events h.program.initial.items x.runs = shows.events ∙ ap (λ (vs : List Value). events vs x.runs) h.starts in
    elim are.of_threads [
      | inl over ↦
          let (domain, (q, is_program, is_domain), below) = over in
          let same : domain ≡ h.values = domains_one q h.program domain h.values (programs_alike test q h.program is_program h.of_test) is_domain h.domain in
          of_runs test h.program h.of_test h.values x.runs execution.runs domain same e.events xs
          are.made is below are.whole
      | inr refused ↦ absurd (not_refused test space refused.0 lists refused.1)
    ]
