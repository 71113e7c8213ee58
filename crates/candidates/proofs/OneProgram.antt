-- A test has one program and one domain, as far as its executions depend on them; so it has one
-- list of executions.
use Rattle.std.proofs.Common.{Vec, vec_len, ℕ, zero, suc, ◌≡◌, ◌<◌, ◌≤◌, Bool, List, [], ◌∷◌, ◌++◌, map, length, get_or, replicate, Some, slice_get, refl, ap, sym, subst, ◌∙◌, inl, inr, arith, Contains, All}
use Rattle.std.specs.List.{flat_map, sum_by, count_by}
use Rattle.std.specs.declared.alloc.Global.{Global}
use Rattle.std.specs.declared.cmp.Ordering.TheVariants as how
use Rattle.std.specs.Ordering.{ordering_reverse}
use Rattle.std.proofs.lemmas.Option.{slice_get_cases, slice_get_within, slice_get-get_or}
use Rattle.std.proofs.lemmas.List.Sums.{sum_by-cons}
use Rattle.std.proofs.lemmas.List.Elements.{All-contains, Contains-append_right}
use Rattle.text_values.specs.declared.test.Test.{Test}
use Rattle.text_values.specs.declared.test.Place.{Place}
use Rattle.text_values.specs.declared.test.InitEntry.{InitEntry}
use Rattle.text_values.specs.declared.test.Thread as text
use Rattle.text_values.specs.declared.test.Step.{Step}
use Rattle.thread_runs.specs.declared.value.Value.{Value}
use Rattle.thread_runs.specs.declared.value.Value.TheVariants.{Number, NoValue}
use Rattle.thread_runs.specs.declared.value.Comparison.TheVariants.{Equal}
use Rattle.thread_runs.specs.declared.instruction.Line.{Line}
use Rattle.thread_runs.specs.declared.instruction.Program.{Program}
use Rattle.thread_runs.specs.Runs.{Thread, InDomain, IsLess}
use Rattle.thread_runs.specs.AllRuns.{thread_of, lines_at, first_of}
use Rattle.ppc_lowering.specs.Domain.{IsDomain, threads_from, threads_of, has_event, has_load, event_total, load_total}
use Rattle.ppc_lowering.specs.Lowering.{IsProgram, IsNameBefore, AreNamesOf, Starts, AreInitial, AreRegisters, AreFiles, LowersTo, AreThreadLines, lowered_value, lowered_line, labels_in}
use Rattle.ppc_lowering.proofs.Sorting.{order}
use Rattle.candidates.proofs.Elements.{member_first}
use Rattle.candidates.proofs.Sole.{same_rising, less_apart, executions_sole}
use Rattle.candidates.specs.Executions.{Execution, AreExecutions}
use Rattle.candidates.specs.Listed.{AreTestExecutions}

-- names in their order are one list
names_apart : (a b : List ℕ) → IsNameBefore a b → IsNameBefore b a → ⊥
names_apart a b h k = turned (sym h ∙ order.antisymm a b ∙ ap ordering_reverse k)
  where
    turned : how.Less ≡ how.Greater → ⊥
    turned e = cc

pub names_one : (found xs ys : List (List ℕ)) → AreNamesOf found xs → AreNamesOf found ys → xs ≡ ys
names_one found xs ys h k =
    same_rising IsNameBefore names_apart xs ys h.rising k.rising
    (λ n c. (k.exact n).1 ((h.exact n).0 c)) (λ n c. (h.exact n).1 ((k.exact n).0 c))

-- lists with the same elements
pub same_elements : {X : Type 0} (d : X) (xs ys : List X) → length xs ≡ length ys
    → ((k : ℕ) → k < length xs → get_or xs k d ≡ get_or ys k d) → xs ≡ ys
same_elements d [] [] long each = refl
same_elements d [] (y ∷ ys) long each = absurd (omega (arith, long))
same_elements d (x ∷ xs) [] long each = absurd (omega (arith, long))
same_elements {X} d (x ∷ xs) (y ∷ ys) long each =
    ap (λ (z : X). z ∷ xs) (each 0 (omega arith))
    ∙ ap (λ (l : List X). y ∷ l) (same_elements d xs ys (omega (arith, long))
    (λ k lt. each (suc k) (omega (arith, lt))))

-- what a place holds at the start
heads : {X : Type 0} {x y : X} {xs ys : List X} → (x ∷ xs) ≡ (y ∷ ys) → x ≡ y
heads e = cc

tails : {X : Type 0} {x y : X} {xs ys : List X} → (x ∷ xs) ≡ (y ∷ ys) → xs ≡ ys
tails e = cc

abbrev IsOther : Place → InitEntry → Type 0
IsOther p e = e.place ≡ p → ⊥

not_behind : (p : Place) (before : List InitEntry) (e : InitEntry) (behind all : List InitEntry)
    → all ≡ before ++ e ∷ behind → e.place ≡ p → All (IsOther p) all → ⊥
not_behind p before e behind all is at others =
    All-contains (IsOther p) all e others
    (subst (λ (l : List InitEntry). Contains l e) (sym is) (Contains-append_right before
    (e ∷ behind) e (member_first e behind))) at

last_one : (p : Place) (before : List InitEntry) (e : InitEntry) (behind before' : List InitEntry)
    (f : InitEntry) (behind' : List InitEntry) → before ++ e ∷ behind ≡ before' ++ f ∷ behind'
    → e.place ≡ p → f.place ≡ p → All (IsOther p) behind → All (IsOther p) behind' → e ≡ f
last_one p [] e behind [] f behind' same at at' last last' = heads same
last_one p [] e behind (y ∷ before') f behind' same at at' last last' =
    absurd (not_behind p before' f behind' behind (tails same) at' last)
last_one p (x ∷ before) e behind [] f behind' same at at' last last' =
    absurd (not_behind p before e behind behind' (sym (tails same)) at last')
last_one p (x ∷ before) e behind (y ∷ before') f behind' same at at' last last' =
    last_one p before e behind before' f behind' (tails same) at at' last last'

starts_one : (init : List InitEntry) (p : Place) (names : List (List ℕ)) (v w : Value)
    → Starts init p names v → Starts init p names w → v ≡ w
starts_one init p names v w (inl h) (inl k) =
    let e : h.0 ≡ k.0 = last_one p h.1.before h.0 h.1.behind k.1.before k.0 k.1.behind (sym h.1.there ∙ k.1.there) h.1.place k.1.place h.1.last k.1.last in
    h.2 ∙ ap (λ (x : InitEntry). lowered_value names x.value) e ∙ sym k.2
starts_one init p names v w (inl h) (inr k) =
    absurd (not_behind p h.1.before h.0 h.1.behind init h.1.there h.1.place k.0)
starts_one init p names v w (inr h) (inl k) =
    absurd (not_behind p k.1.before k.0 k.1.behind init k.1.there k.1.place h.0)
starts_one init p names v w (inr h) (inr k) = h.1 ∙ sym k.1

initial_one : (init : List InitEntry) (names : List (List ℕ)) (vs ws : List Value)
    → AreInitial init names vs → AreInitial init names ws → vs ≡ ws
initial_one init names vs ws h k =
    same_elements NoValue vs ws (h.each_one ∙ sym k.each_one)
    (λ i lt.
    let l : i < length names = omega (arith, lt, h.each_one) in
    starts_one init _ names (get_or vs i NoValue) (get_or ws i NoValue) (h.starts i l)
    (k.starts i l))

registers_one : (init : List InitEntry) (names : List (List ℕ)) (t : ℕ) (vs ws : List Value)
    → AreRegisters init names t vs → AreRegisters init names t ws → vs ≡ ws
registers_one init names t vs ws h k =
    same_elements NoValue vs ws (h.each_one ∙ sym k.each_one)
    (λ i lt.
    let l : i < 32 = omega (arith, lt, h.each_one) in
    starts_one init _ names (get_or vs i NoValue) (get_or ws i NoValue) (h.starts i l)
    (k.starts i l))

files_one : (init : List InitEntry) (names : List (List ℕ)) (n : ℕ) (vs ws : List (List Value))
    → AreFiles init names n vs → AreFiles init names n ws → vs ≡ ws
files_one init names n vs ws h k =
    same_elements [] vs ws (h.each_one ∙ sym k.each_one)
    (λ t lt.
    let l : t < n = omega (arith, lt, h.each_one) in
    registers_one init names t (get_or vs t []) (get_or ws t []) (h.starts t l)
    (k.starts t l))

-- the lines of threads
lines_one : (steps : List Step) (xs ys : List Line) → LowersTo steps xs → LowersTo steps ys
    → xs ≡ ys
lines_one steps xs ys h k =
    h.2
    ∙ ap (λ (labels : List (List ℕ)). map (lowered_line labels) steps)
    (names_one (flat_map labels_in steps) h.0 k.0 h.1 k.1) ∙ sym k.2

abbrev items_of : Vec Line Global → List Line
items_of v = v.items

some_is : {X : Type 0} {x y : X} → Some x ≡ Some y → x ≡ y
some_is e = cc

threads_one : (threads : List text.Thread) (vs ws : List (Vec Line Global)) → AreThreadLines threads vs
    → AreThreadLines threads ws → map items_of vs ≡ map items_of ws
threads_one threads vs ws h k = go vs ws (h.each_one ∙ sym k.each_one) each
  where
    each : (i : ℕ) (v w : Vec Line Global) → slice_get vs i ≡ Some v → slice_get ws i ≡ Some w
        → v.items ≡ w.items
    each i v w a b = elim (slice_get_cases threads i).1 [
      | inl found ↦
          let (t, lt, is, at) = found in
          let va : get_or vs i v ≡ v = some_is (sym (slice_get-get_or vs i v (omega (arith, lt, h.each_one))) ∙ a) in
          let wa : get_or ws i w ≡ w = some_is (sym (slice_get-get_or ws i w (omega (arith, lt, k.each_one))) ∙ b) in
          lines_one (get_or threads i t).steps.items v.items w.items
          (subst (λ (x : Vec Line Global). LowersTo (get_or threads i t).steps.items x.items) va
          (h.each i t v lt))
          (subst (λ (x : Vec Line Global). LowersTo (get_or threads i t).steps.items x.items) wa
          (k.each i t w lt))
      | inr past ↦ absurd (outside i v a past.0)
    ]
      where
        outside : (i : ℕ) (v : Vec Line Global) → slice_get vs i ≡ Some v → length threads ≤ i → ⊥
        outside i v a le =
            let lt : i < length vs = slice_get_within vs i v a in
            absurd (omega (arith, lt, le, h.each_one))

    go : (vs ws : List (Vec Line Global)) → length vs ≡ length ws
        → ((i : ℕ) (v w : Vec Line Global) → slice_get vs i ≡ Some v → slice_get ws i ≡ Some w
        → v.items ≡ w.items) → map items_of vs ≡ map items_of ws
    go [] [] long same = refl
    go [] (w ∷ ws) long same = absurd (omega (arith, long))
    go (v ∷ vs) [] long same = absurd (omega (arith, long))
    go (v ∷ vs) (w ∷ ws) long same =
        ap (λ (l : List Line). l ∷ map items_of vs) (same 0 v w refl refl)
        ∙ ap (λ (l : List (List Line)). w.items ∷ l) (go vs ws (omega (arith, long))
        (λ i x y a b. same (suc i) x y a b))

lines_at_one : (vs ws : List (Vec Line Global)) → map items_of vs ≡ map items_of ws → (t : ℕ)
    → lines_at (slice_get vs t) ≡ lines_at (slice_get ws t)
lines_at_one [] [] e t = refl
lines_at_one [] (w ∷ ws) e t = absurd cc
lines_at_one (v ∷ vs) [] e t = absurd cc
lines_at_one (v ∷ vs) (w ∷ ws) e zero = heads e
lines_at_one (v ∷ vs) (w ∷ ws) e (suc t) = lines_at_one vs ws (tails e) t

counted_one : (test : Line → Bool) (vs ws : List (Vec Line Global))
    → map items_of vs ≡ map items_of ws
    → sum_by (λ (v : Vec Line Global). count_by test v.items) vs
    ≡ sum_by (λ (v : Vec Line Global). count_by test v.items) ws
counted_one test [] [] e = refl
counted_one test [] (w ∷ ws) e = absurd cc
counted_one test (v ∷ vs) [] e = absurd cc
counted_one test (v ∷ vs) (w ∷ ws) e =
    let a : count_by test v.items ≡ count_by test w.items = ap (λ (l : List Line). count_by test l) (heads e) in
    let b : sum_by (λ (v : Vec Line Global). count_by test v.items) vs ≡ sum_by (λ (v : Vec Line Global). count_by test v.items) ws = counted_one test vs ws (tails e) in
    omega (
      arith,
      a,
      b,
      sum_by-cons (λ (v : Vec Line Global). count_by test v.items) v vs,
      sum_by-cons (λ (v : Vec Line Global). count_by test v.items) w ws,
    )

-- two programs of a test
pub record Alike (p q : Program) : Type 0 where
  pub initial : p.initial.items ≡ q.initial.items
  pub threads : threads_of p ≡ threads_of q
  pub loads : load_total p ≡ load_total q
  pub events : event_total p ≡ event_total q

pub programs_alike : (t : Test) (p q : Program) → IsProgram t p → IsProgram t q → Alike p q
programs_alike t p q h k = record {
  initial =
      initial_one t.init.items p.locations.items p.initial.items q.initial.items h.initial
      (subst (λ (ns : List (List ℕ)). AreInitial t.init.items ns q.initial.items) (sym names)
      k.initial);
  threads = ap (λ (n : ℕ). threads_from p n) many ∙ each (vec_len q.threads);
  loads = counted_one has_load p.threads.items q.threads.items lines;
  events =
      let many : length p.locations.items ≡ length q.locations.items = ap (λ (l : List (List ℕ)). length l) names in
      omega (arith, many, counted_one has_event p.threads.items q.threads.items lines);
}
  where
    names : p.locations.items ≡ q.locations.items
    names = names_one _ p.locations.items q.locations.items h.locations k.locations

    lines : map items_of p.threads.items ≡ map items_of q.threads.items
    lines = threads_one t.threads.items p.threads.items q.threads.items h.threads k.threads

    files : p.registers.items ≡ q.registers.items
    files =
        files_one t.init.items p.locations.items (vec_len t.threads) p.registers.items
        q.registers.items h.registers (subst
        (λ (ns : List (List ℕ)). AreFiles t.init.items ns (vec_len t.threads) q.registers.items)
        (sym names) k.registers)

    many : vec_len p.threads ≡ vec_len q.threads
    many =
        let a : vec_len p.threads ≡ length p.threads.items = p.threads.ok.0 in
        let b : vec_len q.threads ≡ length q.threads.items = q.threads.ok.0 in
        omega (arith, a, b, h.threads.each_one, k.threads.each_one)

    one : (n : ℕ) → thread_of p n ≡ thread_of q n
    one n =
        ap (λ (l : List Line). record { lines = l; first = first_of p n })
        (lines_at_one p.threads.items q.threads.items lines n)
        ∙ ap
        (λ (fs : List (List Value)). record {
          lines = lines_at (slice_get q.threads.items n);
          first =
              record {
                registers = get_or fs n (replicate 32 (Number 0));
                compared = Equal;
              };
        }) files

    each : (n : ℕ) → threads_from p n ≡ threads_from q n
    each zero = refl
    each (suc n) =
        ap (λ (l : List Thread). l ++ thread_of p n ∷ []) (each n)
        ∙ ap (λ (x : Thread). threads_from q n ++ x ∷ []) (one n)

-- and their domains
pub domains_one : (p q : Program) (V W : List Value) → Alike p q → IsDomain p V → IsDomain q W
    → V ≡ W
domains_one p q V W a d e =
    same_rising IsLess less_apart V W d.last.set.rising e.last.set.rising
    (λ v c. (e.last.exact v).1 (to v ((d.last.exact v).0 c)))
    (λ v c. (d.last.exact v).1 (back v ((e.last.exact v).0 c)))
  where
    to : (v : Value) → InDomain p.initial.items (threads_of p) (load_total p) v
        → InDomain q.initial.items (threads_of q) (load_total q) v
    to v h =
        subst (λ (n : ℕ). InDomain q.initial.items (threads_of q) n v) a.loads (subst
        (λ (ts : List Thread). InDomain q.initial.items ts (load_total p) v) a.threads
        (subst (λ (vs : List Value). InDomain vs (threads_of p) (load_total p) v) a.initial h))

    back : (v : Value) → InDomain q.initial.items (threads_of q) (load_total q) v
        → InDomain p.initial.items (threads_of p) (load_total p) v
    back v h =
        subst (λ (n : ℕ). InDomain p.initial.items (threads_of p) n v) (sym a.loads)
        (subst (λ (ts : List Thread). InDomain p.initial.items ts (load_total q) v) (sym a.threads)
        (subst (λ (vs : List Value). InDomain vs (threads_of q) (load_total q) v)
        (sym a.initial) h))

-- so a test has one list of executions
pub test_executions_one : (t : Test) (i j : List Value) (xs ys : List Execution)
    → AreTestExecutions t i xs → AreTestExecutions t j ys → (i ≡ j) × (xs ≡ ys)
test_executions_one t i j xs ys h k =
    (starts, executions_sole i (threads_of h.program) h.values xs ys h.executions moved)
  where
    a : Alike h.program k.program
    a = programs_alike t h.program k.program h.of_test k.of_test

    starts : i ≡ j
    starts = h.starts ∙ a.initial ∙ sym k.starts

    moved : AreExecutions i (threads_of h.program) h.values ys
    moved =
        subst (λ (vs : List Value). AreExecutions vs (threads_of h.program) h.values ys)
        (sym starts)
        (subst (λ (ts : List Thread). AreExecutions j ts h.values ys) (sym a.threads)
        (subst (λ (V : List Value). AreExecutions j (threads_of k.program) V ys)
        (sym (domains_one h.program k.program h.values k.values a h.domain k.domain))
        k.executions))
