-- What the space of a test lists: its executions, as many as it has candidates.
use Rattle.std.proofs.Common.{Vec, ℕ, suc, ◌<◌, inl, inr, Contains, ◌≡◌, ◌≤◌, ◌+◌, ◌*◌, List, [], ◌∷◌, ◌++◌, map, length, refl, ap, sym, subst, ◌∙◌, arith}
use Rattle.std.specs.List.{flat_map, AllZip}
use Rattle.std.specs.declared.alloc.Global.{Global}
use Rattle.std.proofs.Math.Nat.{suc-mul, zero-mul}
use Rattle.std.proofs.lemmas.List.{length-append, length-map}
use Rattle.text_values.specs.declared.test.Test.{Test}
use Rattle.thread_runs.specs.declared.value.Value.{Value}
use Rattle.thread_runs.specs.declared.instruction.Program.{Program}
use Rattle.thread_runs.specs.declared.run.Run as made
use Rattle.thread_runs.specs.Runs.{Thread, Run}
use Rattle.ppc_lowering.specs.Domain.{IsDomain, threads_of}
use Rattle.candidates.proofs.Choosing.{AreChoices, runs_in, layout_choices}
use Rattle.candidates.proofs.Executing.{executed_so, orders_at}
use Rattle.candidates.proofs.Flat.{flat, orders_flat}
use Rattle.candidates.proofs.Kept.{AreKept, AllRuns, all_kept, product_kept, runs_kept}
use Rattle.candidates.proofs.Serving.{all_executions}
use Rattle.candidates.proofs.Listing.{AreListed, no_more, one_more, not_one, Listing, all_listed}
use Rattle.candidates.proofs.Small.{layout_small}
use Rattle.ppc_lowering.specs.declared.fault.EvalRefusal.TheVariants.{TooManyEvents, TooManyValues, TooManyRuns, TooManyCandidates, AddressFault, TooManyCombinations}
use Rattle.candidate_spaces.specs.declared.fault.SpaceFault.{SpaceFault}
use Rattle.candidate_spaces.specs.declared.fault.SpaceFault.TheVariants.{Refused, OutOfMemory}
use Rattle.candidates.proofs.Deciding.{combined}
use Rattle.candidates.proofs.Showing.{AreShown, all_shown, fault_among, faulted_execution}
use Rattle.run_combinations.specs.Candidates.{AreTooMany, AreFaulted, AreCombinations, AreCandidates, candidate_total}
use Rattle.candidates.specs.TestSpaces.{IsRefusedAs, IsTestRefusal, HasLayout, IsTestSpace}
use Rattle.candidates.specs.Executions.{Execution, HasFaultedRun, product, events}
use Rattle.run_combinations.specs.Layouts.{IsLaidOut}
use Rattle.candidates.specs.Listed.{AreTestExecutions, ShowsExecution, ListsExecutions, HasManyExecutions, HasFaultedExecution, IsSpaceRefusal, IsSpaceFault}
use Rattle.ppc_lowering.specs.declared.fault.EvalRefusal.{EvalRefusal}
use Rattle.ppc_lowering.specs.Lowering.{IsTestDomainFault, AreNamesOf, test_names}
use Rattle.text_values.specs.declared.name.Name.{Name}
use Rattle.ppc_lowering.specs.declared.fault.DomainFault.TheVariants as domain_faults
use Rattle.store_orders.specs.Orders.{all_orders}
use Rattle.store_orders.specs.Events.{initial_stores}
use Rattle.run_combinations.specs.Search.{PrefixLists, initial_prefix, all_combinations, location_count}
use Rattle.store_orders.specs.Combinations.{CombinationLists, combination_lists}
use Rattle.candidate_spaces.specs.Space.{Candidate, candidates_in, shown_of}
use Rattle.candidate_spaces.specs.declared.candidate.Space.{Space}
use Rattle.store_orders.specs.declared.combination.Event.{Event}
use Rattle.run_combinations.specs.declared.layout.Layout.{Layout}
use Rattle.run_combinations.specs.declared.layout.ThreadParts.{ThreadParts}

-- the executions of a test, and the combinations that list them
pub record Told (t : Test) (l : Layout) (cs : List CombinationLists) (h : HasLayout t l)
    : Type 0 where
  pub all : List Execution
  pub executions : AreTestExecutions t h.0.initial.items all
  pub listed : AreListed (location_count l) h.0.initial.items (threads_of h.0) h.1 l.threads.items
      (all_combinations l) cs all

pub layout_told : (t : Test) (l : Layout) (cs : List CombinationLists) (h : HasLayout t l)
    → AreCombinations (location_count l) (all_combinations l) cs → Told t l cs h
layout_told t l cs h found =
    let p : Program = h.0 in
    let V : List Value = h.1 in
    let runs : List (Vec made.Run Global) = h.2 in
    let o : IsLaidOut p runs l = h.6 in
    let k : (rss : List (List Run)) × AreKept p V (threads_of p) runs rss = all_kept p V runs h.4 h.5 in
    let a : AllRuns p V (threads_of p) k.0 = runs_kept p V (threads_of p) runs k.0 k.1 in
    let choices : AreChoices 0 (initial_prefix (initial_stores 0 p.initial.items)) l.threads.items (product (runs_in runs)) (all_combinations l) =
    subst
    (λ (es : List Event).
    AreChoices 0 (initial_prefix es) l.threads.items (product (runs_in runs)) (all_combinations l))
    o.initial
    (layout_choices p runs l o) in
    let all : Listing (location_count l) p.initial.items (threads_of p) V l.threads.items (all_combinations l) cs (product k.0) =
    all_listed (location_count l) p.initial.items (threads_of p) V l.threads.items
    (product (runs_in runs)) (product k.0) (all_combinations l) cs
    (product_kept p V (threads_of p) runs k.0 k.1) choices (layout_small t l h) found in
    record {
      all = all.all;
      executions =
          record {
            program = p;
            values = V;
            of_test = h.3;
            starts = refl;
            domain = h.4;
            executions =
                record {
                  runs = a.0;
                  of_threads = a.1;
                  executions = all_executions p V a.0 k.0 all.all a.2 all.executions;
                };
          };
      listed = all.listed;
    }

-- as many executions as there are candidates
length_rows : {X Y Z : Type 0} (f : X → Y → Z) (ys : List Y) (xs : List X)
    → length (flat_map (λ x. map (f x) ys) xs) ≡ length xs * length ys
length_rows f ys [] = sym (zero-mul (length ys))
length_rows {Z = Z} f ys (x ∷ xs) =
    let a : length (map (f x) ys ++ flat_map (λ x. map (f x) ys) xs) ≡ length (map (f x) ys) + length (flat_map (λ x. map (f x) ys) xs) = length-append (map (f x) ys) (flat_map (λ x. map (f x) ys) xs) in
    let m : length (map (f x) ys) ≡ length ys = length-map ys (f x) in
    let r : length (flat_map (λ x. map (f x) ys) xs) ≡ length xs * length ys = length_rows f ys xs in
    let s : suc (length xs) * length ys ≡ length xs * length ys + length ys = suc-mul (length xs) (length ys) in
    omega (arith, a, m, r, s)

pub as_many : (n : ℕ) (initial : List Value) (threads : List Thread) (V : List Value)
    (ts : List ThreadParts) (bs : List PrefixLists) (cs : List CombinationLists)
    (xs : List Execution) → n ≡ length initial → AreListed n initial threads V ts bs cs xs
    → length xs ≡ candidate_total cs
as_many n initial threads V ts [] [] xs e no_more = refl
as_many n initial threads V ts [] (c ∷ cs) xs e h = elim h [ ]
as_many n initial threads V ts (b ∷ bs) (c ∷ cs) xs e
    (one_more {xs = ys} {reads_from = reads_from} {choices = rest} rs i are h) =
    let choices : List (List ℕ) = reads_from ∷ rest in
    let os : List (List (List ℕ)) = product (orders_at (events initial rs) initial) in
    let f : length (events initial rs) ≤ 128 = subst (λ (l : List Event). length l ≤ 128) i.events i.few in
    let o : length os ≡ length (all_orders b.combination.events n) =
    sym (length-map os flat)
    ∙ ap (λ (l : List (List ℕ)). length l) (orders_flat (events initial rs) initial f)
    ∙ ap (λ (k : ℕ). length (all_orders (events initial rs) k)) (sym e)
    ∙ ap (λ (l : List Event). length (all_orders l n)) (sym i.events) in
    let a : length (flat_map (λ w. map (executed_so initial rs w) os) choices ++ ys) ≡ length (flat_map (λ w. map (executed_so initial rs w) os) choices) + length ys = length-append (flat_map (λ w. map (executed_so initial rs w) os) choices) ys in
    let r : length (flat_map (λ w. map (executed_so initial rs w) os) choices) ≡ length choices * length os = length_rows (executed_so initial rs) os choices in
    let m : length choices * length os ≡ length choices * length (all_orders b.combination.events n) = ap (λ (k : ℕ). length choices * k) o in
    let later : length ys ≡ candidate_total cs = as_many n initial threads V ts bs cs ys e h in
    a ∙ ap (λ (k : ℕ). k + length ys) (r ∙ m)
    ∙ ap (λ (k : ℕ). length choices * length (all_orders b.combination.events n) + k) later
as_many n initial threads V ts (b ∷ bs) cs xs e (not_one are h) =
    as_many n initial threads V ts bs cs xs e h

initial_long : (at : ℕ) (vs : List Value) → length (initial_stores at vs) ≡ length vs
initial_long at [] = refl
initial_long at (v ∷ vs) = ap (λ (n : ℕ). suc n) (initial_long (at + 1) vs)

-- all locations have orders
pub locations_counted : (t : Test) (l : Layout) (h : HasLayout t l)
    → location_count l ≡ length h.0.initial.items
locations_counted t l h =
    let d : IsDomain h.0 h.1 = h.4 in
    let o : IsLaidOut h.0 h.2 l = h.6 in
    let a : length l.initial.items ≡ length (initial_stores 0 h.0.initial.items) = ap (λ (es : List Event). length es) o.initial in
    let b : length h.0.initial.items ≡ length h.0.locations.items = h.3.initial.each_one in
    omega (arith, a, b, initial_long 0 h.0.initial.items, d.events)

-- what each of some candidates shows
all_shown_in : (initial : List Value) (registers : List (Vec (List Value) Global))
    (xs : List Execution) (cs : List Candidate) → AllZip (AreShown initial registers) xs cs
    → AllZip (ShowsExecution initial) xs (map (shown_of registers) cs)
all_shown_in initial registers [] [] h = tt
all_shown_in initial registers [] (c ∷ cs) h = absurd h
all_shown_in initial registers (x ∷ xs) [] h = absurd h
all_shown_in initial registers (x ∷ xs) (c ∷ cs) h = (h.0, all_shown_in initial registers xs cs h.1)

-- a space lists the executions of its test
pub space_lists : (t : Test) (s : Space) → IsTestSpace t s → ListsExecutions t s
space_lists t s h =
    let l : Layout = h.0 in
    let initial : List Value = h.1.0.initial.items in
    let are : AreCandidates (location_count l) (all_combinations l) (map combination_lists s.combinations.items) = h.2.0 in
    let told : Told t l (map combination_lists s.combinations.items) h.1 = layout_told t l (map combination_lists s.combinations.items) h.1 are.combinations in
    let n : location_count l ≡ length initial = locations_counted t l h.1 in
    let c : length told.all ≡ candidate_total (map combination_lists s.combinations.items) = as_many (location_count l) initial (threads_of h.1.0) h.1.1 l.threads.items (all_combinations l) (map combination_lists s.combinations.items) told.all n told.listed in
    let shown : AllZip (AreShown initial s.registers.items) told.all (candidates_in s.combinations.items) =
    all_shown (location_count l) initial (threads_of h.1.0) h.1.1 l.threads.items s.registers.items
    h.2.1.0 n (all_combinations l) (map combination_lists s.combinations.items) told.all
    s.combinations.items refl told.listed in
    record {
      initial = initial;
      all = told.all;
      executions = told.executions;
      few =
          let f : candidate_total (map combination_lists s.combinations.items) ≤ 16384 = are.few in
          omega (arith, c, f);
      sound =
          λ x there f. are.sound (fault_among (location_count l) initial (threads_of h.1.0) h.1.1
          l.threads.items (all_combinations l) (map combination_lists s.combinations.items)
          told.all told.listed x there f);
      shown =
          all_shown_in initial s.registers.items told.all (candidates_in s.combinations.items)
          shown;
      locations =
          subst (λ (names : Vec Name Global). AreNamesOf (test_names t) names.items)
          (sym (h.2.1.1 ∙ h.1.6.locations)) h.1.3.locations;
    }

-- a refusal is called for by the executions
many_told : (t : Test) (l : Layout) → HasLayout t l
    → AreTooMany (location_count l) (all_combinations l) → HasManyExecutions t
many_told t l h many =
    let initial : List Value = h.0.initial.items in
    let found : (cs : List CombinationLists) × AreCombinations (location_count l) (all_combinations l) cs = combined (location_count l) (all_combinations l) in
    let told : Told t l found.0 h = layout_told t l found.0 h found.1 in
    let c : length told.all ≡ candidate_total found.0 = as_many (location_count l) initial (threads_of h.0) h.1 l.threads.items (all_combinations l) found.0 told.all (locations_counted t l h) told.listed in
    let g : 16384 < candidate_total found.0 = many found.0 found.1 in
    record { initial = initial; all = told.all; executions = told.executions; many = omega (arith, c, g) }

fault_told : (t : Test) (l : Layout) → HasLayout t l
    → AreFaulted (location_count l) (all_combinations l) → HasFaultedExecution t
fault_told t l h f =
    let initial : List Value = h.0.initial.items in
    let told : Told t l f.all h = layout_told t l f.all h f.combinations in
    let n : location_count l ≡ length initial = locations_counted t l h in
    let c : length told.all ≡ candidate_total f.all = as_many (location_count l) initial (threads_of h.0) h.1 l.threads.items (all_combinations l) f.all told.all n told.listed in
    let g : candidate_total f.all ≤ 16384 = f.few in
    let x : (x : Execution) × Contains told.all x × HasFaultedRun x = faulted_execution (location_count l) initial (threads_of h.0) h.1 l.threads.items n (all_combinations l) f.all told.all told.listed f.fault in
    record { initial = initial; all = told.all; executions = told.executions; few = omega (arith, c, g); execution = x.0; there = x.1; fault = x.2 }

domain_told : (t : Test) (r : EvalRefusal) → IsTestDomainFault t (domain_faults.Refused r)
    → IsSpaceRefusal t r
domain_told t TooManyEvents h = h
domain_told t TooManyValues h = h
domain_told t TooManyRuns h = h
domain_told t TooManyCombinations h = h
domain_told t TooManyCandidates h = absurd h.2
domain_told t AddressFault h = absurd h.2

layout_told_refused : (t : Test) (l : Layout) (r : EvalRefusal) → HasLayout t l → IsRefusedAs l r
    → IsSpaceRefusal t r
layout_told_refused t l TooManyCandidates h many = many_told t l h many
layout_told_refused t l AddressFault h f = fault_told t l h f
layout_told_refused t l TooManyEvents h impossible = absurd impossible
layout_told_refused t l TooManyValues h impossible = absurd impossible
layout_told_refused t l TooManyRuns h impossible = absurd impossible
layout_told_refused t l TooManyCombinations h impossible = absurd impossible

pub refused_told : (t : Test) (f : SpaceFault) → IsTestRefusal t f → IsSpaceFault t f
refused_told t (OutOfMemory e) h = tt
refused_told t (Refused r) (inl h) = domain_told t r h
refused_told t (Refused r) (inr h) = layout_told_refused t h.0 r h.1 h.2
