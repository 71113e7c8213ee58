-- What a search through all combinations has found.
use Rattle.std.proofs.Common.{Vec, Result, Ok, Err, IfOk, ℕ, zero, suc, ◌≡◌, ◌<◌, ◌≤◌, ◌+◌, ◌*◌, ◌⊎◌, ◌||◌, ◌&&◌, cond, min, Bool, true, false, List, [], ◌∷◌, ◌++◌, map, take, length, Option, Some, None, MatchOption, is_some, append_assoc, if◌then◌else◌, inl, inr, arith, refl, sym, ap, subst, ◌∙◌}
use Rattle.thread_runs.specs.declared.value.Value.{Value}
use Rattle.store_orders.specs.Events.{numbers, has_store, is_store_to, initial_stores}
use Rattle.store_orders.specs.Orders.{all_orders, stores_of, is_thread_store}
use Rattle.std.specs.declared.alloc.AllocError.{AllocError}
use Rattle.std.specs.declared.alloc.Global.{Global}
use Rattle.std.proofs.lemmas.Bool.{or_cases, or_parts}
use Rattle.std.proofs.lemmas.List.{length-append, length-map}
use Rattle.text_values.specs.declared.test.Test.{Test}
use Rattle.ppc_lowering.specs.declared.fault.EvalRefusal.{EvalRefusal}
use Rattle.candidate_spaces.specs.declared.fault.SpaceFault.{SpaceFault}
use Rattle.candidate_spaces.specs.declared.fault.SpaceFault.TheVariants.{Refused, OutOfMemory}
use Rattle.thread_runs.specs.declared.instruction.Program.{Program}
use Rattle.thread_runs.specs.declared.run.Run.{Run}
use Rattle.ppc_lowering.specs.Domain.{IsDomain, LacksDomain}
use Rattle.ppc_lowering.specs.Lowering.{IsProgram}
use Rattle.run_combinations.specs.Keys.{IsKeyed, bit_of}
use Rattle.run_combinations.specs.Layouts.{AreServedRuns, IsLaidOut}
use Rattle.candidate_spaces.specs.declared.candidate.Space.{Space}
use Rattle.run_combinations.specs.ReadChoices.{AreReadChoices, IsReadChoice, accesses_in}
use Rattle.store_orders.specs.Lists.{lists_of, tuples}
use Rattle.run_combinations.specs.Search.{PrefixLists, Tally, PrefixFits, AllPrefixesFit, tally_with, with_run, combinations, TalliesAll, none, more, AreTooMuch, now, later, no_tally, tally, initial_prefix, all_combinations, location_count}
use Rattle.store_orders.specs.Combinations.{CombinationLists, candidates_of, combination_lists, ordered}
use Rattle.run_combinations.specs.Candidates.{AreCombinations, nothing_left, with_read_choices, without, candidate_total, HasFaultedCandidate, AreCandidates, AreTooMany, AreFaulted, AreSmall}
use Rattle.candidates.specs.declared.space_parts.SpaceParts.{SpaceParts}
use Rattle.candidates.specs.Parts.{IsWholeOf, AreCounted}
use Rattle.candidate_spaces.specs.Space.{candidates_in}
use Rattle.candidates.specs.TestSpaces.{AreLayoutParts, HasKeyedLayout, IsAnswerTo, IsLayoutFault, IsTestSpace, IsTestRefusal}
use Rattle.candidate_spaces.specs.Faults.{space_fault_of}
use Rattle.ppc_lowering.specs.declared.fault.DomainFault.{DomainFault}
use Rattle.ppc_lowering.specs.declared.fault.DomainFault.TheVariants as domain_faults
use Rattle.store_orders.specs.declared.combination.Combination.{Combination}
use Rattle.store_orders.specs.declared.combination.Event.{Event}
use Rattle.run_combinations.specs.declared.layout.Layout.{Layout}
use Rattle.run_combinations.specs.declared.layout.ThreadParts.{ThreadParts}
use Rattle.run_combinations.specs.declared.part.Part.{Part}
use Rattle.run_combinations.specs.declared.search.Found.{Found}
use Rattle.store_orders.proofs.Counting.{numbers_above}
use Rattle.store_orders.proofs.Filters.{IsFiltered-unique}
use Rattle.store_orders.proofs.Pairs.{length-candidates}
use Rattle.run_combinations.proofs.Searching.{going_on, small_front, small_rest}

-- what was found of combinations, one after another
pub record Sum (n : ℕ) (bs : List PrefixLists) (t u : Tally) : Type 0 where
  pub all : List CombinationLists
  pub are : AreCombinations n bs all
  pub count : u.count ≡ t.count + candidate_total all
  pub kept : u.faulted ≡ false
      → (map (ordered n) u.kept ≡ map (ordered n) t.kept ++ all) × (HasFaultedCandidate bs → ⊥)
      × (t.faulted ≡ false)
  pub fault : u.faulted ≡ true → (t.faulted ≡ true) ⊎ HasFaultedCandidate bs

same_read_choices : (b : PrefixLists) (xs ys : List (List ℕ)) → AreReadChoices b.combination.events b.needs xs
    → AreReadChoices b.combination.events b.needs ys → xs ≡ ys
same_read_choices b xs ys h k =
    IsFiltered-unique (IsReadChoice (accesses_in b.combination.events b.needs))
    (tuples [] (accesses_in b.combination.events b.needs).sources) xs ys h k

seens_nil : (xs : List CombinationLists) → xs ≡ xs ++ []
seens_nil [] = refl
seens_nil (x ∷ xs) = ap (λ (l : List CombinationLists). x ∷ l) (seens_nil xs)

map_pushed : (n : ℕ) (xs : List CombinationLists) (x : CombinationLists)
    → map (ordered n) (xs ++ x ∷ []) ≡ map (ordered n) xs ++ ordered n x ∷ []
map_pushed n [] x = refl
map_pushed n (y ∷ xs) x = ap (λ (l : List CombinationLists). ordered n y ∷ l) (map_pushed n xs x)

true_not_false : (b : Bool) → b ≡ true → b ≡ false → ⊥
true_not_false true t f = cc
true_not_false false t f = cc

choiceless : {x : List ℕ} {xs : List (List ℕ)} → (x ∷ xs) ≡ [] → ⊥
choiceless e = cc

pub summed : (n : ℕ) (bs : List PrefixLists) (t u : Tally) → TalliesAll n bs t u → Sum n bs t u
summed n [] t u none =
    record {
      all = [];
      are = nothing_left;
      count = omega arith;
      kept = λ f. (seens_nil (map (ordered n) t.kept), (λ h. h), f);
      fault = λ f. inl f;
    }
summed n (b ∷ bs) t v (more {u = w} j h) = step j.0 j.1 j.2 (summed n bs w v h)
  where
    step : (choices : List (List ℕ)) → AreReadChoices b.combination.events b.needs choices
        → w ≡ tally_with n b choices t → Sum n bs w v → Sum n (b ∷ bs) t v
    step [] are e s = record {
      all = s.all;
      are = without are s.are;
      count =
          let c : w.count ≡ t.count = ap (λ (x : Tally). x.count) e in
          let d : v.count ≡ w.count + candidate_total s.all = s.count in omega (arith, c, d);
      kept = λ f.
          let k : (map (ordered n) v.kept ≡ map (ordered n) w.kept ++ s.all) × (HasFaultedCandidate bs → ⊥) × (w.faulted ≡ false) = s.kept f in (
            k.0 ∙ ap (λ (x : Tally). map (ordered n) x.kept ++ s.all) e,
            (λ x. elim x [
              | inl y ↦ choiceless (same_read_choices b (y.1 ∷ y.2) [] y.3 are)
              | inr y ↦ k.1
                  y
            ]),
            sym (ap (λ (x : Tally). x.faulted) e) ∙ k.2,
          );
      fault =
          λ f. elim (s.fault f) [
            | inl y ↦ inl (sym (ap (λ (x : Tally). x.faulted) e) ∙ y)
            | inr y ↦ inr
                (inr y)
          ];
    }
    step (reads_from ∷ choices) are e s = record {
      all = ordered n (record b.combination { reads_from = reads_from ∷ choices }) ∷ s.all;
      are = with_read_choices are s.are;
      count =
          let c : w.count ≡ t.count + length (reads_from ∷ choices) * length (all_orders b.combination.events n) = ap (λ (x : Tally). x.count) e in
          let d : v.count ≡ w.count + candidate_total s.all = s.count in
          omega (arith, c, d);
      kept = λ f.
          let k : (map (ordered n) v.kept ≡ map (ordered n) w.kept ++ s.all) × (HasFaultedCandidate bs → ⊥) × (w.faulted ≡ false) = s.kept f in
          let o : (t.faulted || b.faulted) ≡ false = sym (ap (λ (x : Tally). x.faulted) e) ∙ k.2 in
          let p : (t.faulted ≡ false) × (b.faulted ≡ false) = or_parts t.faulted b.faulted o in
          let q : w.kept ≡ t.kept ++ record b.combination { reads_from = reads_from ∷ choices } ∷ [] = ap (λ (x : Tally). x.kept) e ∙ ap (λ (x : Bool). if x then t.kept else t.kept ++ record b.combination { reads_from = reads_from ∷ choices } ∷ []) o in (
            k.0 ∙ ap (λ (l : List CombinationLists). map (ordered n) l ++ s.all) q
                ∙ ap (λ (l : List CombinationLists). l ++ s.all) (map_pushed n t.kept
                (record b.combination { reads_from = reads_from ∷ choices }))
                ∙ append_assoc (map (ordered n) t.kept)
                (ordered n (record b.combination { reads_from = reads_from ∷ choices }) ∷ []) s.all,
            (λ x. elim x [ inl y ↦ true_not_false b.faulted y.0 p.1 | inr y ↦ k.1 y ]),
            p.0,
          );
      fault = λ f. elim (s.fault f) [
        | inl y ↦ elim (or_cases t.faulted b.faulted (sym (ap (λ (x : Tally). x.faulted) e) ∙ y))
            [ inl a ↦ inl a | inr a ↦ inr (inl (a, reads_from, choices, are)) ]
        | inr y ↦ inr (inr y)
      ];
    }

pub over_all : (n : ℕ) (bs : List PrefixLists) (t : Tally) → AreTooMuch n bs t
    → (cs : List CombinationLists) → AreCombinations n bs cs → 16384 < t.count + candidate_total cs
over_all n [] t h cs k = elim h [ ]
over_all n (b ∷ bs) t (now h) cs (with_read_choices {cs = ds} {reads_from = w} {read_choices = ws} are rest) =
    let g : 16384 < t.count + length (w ∷ ws) * length (all_orders b.combination.events n) = h (w ∷ ws) are in omega (arith, g)
over_all n (b ∷ bs) t (now h) cs (without are rest) =
    let g : 16384 < t.count + length (let l : List (List ℕ) = [] in l) * length (all_orders b.combination.events n) = h [] are in omega (arith, g)
over_all n (b ∷ bs) t (later {u = u} j h) cs (with_read_choices {cs = ds} {reads_from = w} {read_choices = ws} are rest) =
    let g : 16384 < u.count + candidate_total ds = over_all n bs u h ds rest in
    let e : u.count ≡ t.count + length (w ∷ ws) * length (all_orders b.combination.events n) = ap (λ (x : Tally). x.count) (j.2 ∙ ap (λ (l : List (List ℕ)). tally_with n b l t) (same_read_choices b j.0 (w ∷ ws) j.1 are)) in
    omega (arith, g, e)
over_all n (b ∷ bs) t (later {u = u} j h) cs (without are rest) =
    let g : 16384 < u.count + candidate_total cs = over_all n bs u h cs rest in
    let e : u.count ≡ t.count = ap (λ (x : Tally). x.count) (j.2 ∙ ap (λ (l : List (List ℕ)). tally_with n b l t) (same_read_choices b j.0 [] j.1 are)) in
    omega (arith, g, e)

-- nothing was found before
pub too_many : (n : ℕ) (bs : List PrefixLists) → AreTooMuch n bs no_tally → AreTooMany n bs
too_many n bs h cs k =
    let g : 16384 < 0 + candidate_total cs = over_all n bs no_tally h cs k in omega (arith, g)

pub faulted : (n : ℕ) (bs : List PrefixLists) (t : Tally) → TalliesAll n bs no_tally t
    → t.count ≤ 16384 → t.faulted ≡ true → AreFaulted n bs
faulted n bs t h few f =
    let s : Sum n bs no_tally t = summed n bs no_tally t h in
    let c : t.count ≡ 0 + candidate_total s.all = s.count in
    record { all = s.all; combinations = s.are; few = omega (arith, c, few); fault = elim (s.fault f) [ inl e ↦ absurd (never e) | inr y ↦ y ] }
  where
    never : false ≡ true → ⊥
    never e = cc

pub all_candidates : (n : ℕ) (bs : List PrefixLists) (t : Tally) (cs : List CombinationLists)
    → TalliesAll n bs no_tally t → t.count ≤ 16384 → t.faulted ≡ false → cs ≡ map (ordered n) t.kept
    → AreCandidates n bs cs
all_candidates n bs t cs h few f e =
    let s : Sum n bs no_tally t = summed n bs no_tally t h in
    let c : t.count ≡ 0 + candidate_total s.all = s.count in
    subst (λ (l : List CombinationLists). AreCandidates n bs l) (sym (e ∙ (s.kept f).0))
    (record { combinations = s.are; few = omega (arith, c, few); sound = (s.kept f).1 })

-- the initial stores are no stores of threads
abbrev pub AreInitial : List Event → Type 0
AreInitial [] = Unit {0}
AreInitial (e ∷ es) = (e.thread ≡ None) × AreInitial es

pub all_initial : (at : ℕ) (vs : List Value) → AreInitial (initial_stores at vs)
all_initial at [] = tt
all_initial at (v ∷ vs) = (refl, all_initial (at + 1) vs)

none_before : (l m at : ℕ) (init rest : List Event) (k : ℕ) → AreInitial init → k < at + length init
    → k < at + m → has_store (numbers (is_thread_store l) at (take m (init ++ rest))) k ≡ false
none_before l zero at init rest k i lt lm = refl
none_before l (suc m) at [] rest k i lt lm =
    numbers_above (is_thread_store l) at (take (suc m) rest) k (omega (arith, lt))
none_before l (suc m) at (e ∷ init) rest k i lt lm =
    ap
    (λ (t : Option ℕ). has_store
    (cond (is_some t && is_store_to l e.action)
    (at ∷ numbers (is_thread_store l) (at + 1) (take m (init ++ rest)))
    (numbers (is_thread_store l) (at + 1) (take m (init ++ rest)))) k) i.0
    ∙ none_before l m (at + 1) init rest k i.1 (omega (arith, lt)) (omega (arith, lm))

-- combinations that begin with the initial stores
abbrev pub Begins : List Event → PrefixLists → Type 0
Begins init b = (rest : List Event) × (b.combination.events ≡ init ++ rest)

begun_fits : (n : ℕ) (init : List Event) (b : PrefixLists) → AreInitial init
    → n ≡ min (length init) 128 → Begins init b → length b.combination.events ≤ 128 → PrefixFits n b
unfolding stores_of
begun_fits n init b i e s few = record {
  few = few;
  apart =
      λ location lt. subst
      (λ (es : List Event). has_store (numbers (is_thread_store location) 0 (take 128 es)) location
      ≡ false)
      (sym s.1)
      (none_before location 128 0 init s.0 location i (omega (arith, lt, e))
      (omega (arith, lt, e)));
}

fit_both : (n : ℕ) (xs ys : List PrefixLists) → AllPrefixesFit n xs → AllPrefixesFit n ys → AllPrefixesFit n (xs ++ ys)
fit_both n [] ys h k = k
fit_both n (x ∷ xs) ys h k = (h.0, fit_both n xs ys h.1 k)

runs_fit : (n : ℕ) (init : List Event) (b : PrefixLists) (ts : List ThreadParts)
    → ((c : PrefixLists) → Begins init c → AreSmall (combinations c ts)
    → AllPrefixesFit n (combinations c ts)) → Begins init b → (at : ℕ) (ps : List Part)
    → AreSmall (going_on b ts at ps) → AllPrefixesFit n (going_on b ts at ps)
runs_fit n init b ts each s at [] small = tt
runs_fit n init b ts each s at (p ∷ ps) small =
    fit_both n (combinations (with_run at p b) ts) (going_on b ts (at + 1) ps)
    (each (with_run at p b) (
      s.0 ++ p.events.items,
      ap (λ (l : List Event). l ++ p.events.items) s.1
          ∙ append_assoc init s.0 p.events.items,
    )
    (small_front (combinations (with_run at p b) ts) (going_on b ts (at + 1) ps) small))
    (runs_fit n init b ts each s (at + 1) ps (small_rest (combinations (with_run at p b) ts)
    (going_on b ts (at + 1) ps) small))

all_fit : (n : ℕ) (init : List Event) → AreInitial init → n ≡ min (length init) 128
    → (ts : List ThreadParts) (b : PrefixLists) → Begins init b → AreSmall (combinations b ts)
    → AllPrefixesFit n (combinations b ts)
all_fit n init i e [] b s small = (begun_fits n init b i e s small.0, tt)
all_fit n init i e (t ∷ ts) b s small =
    runs_fit n init b ts (λ c d k. all_fit n init i e ts c d k) s 0 t.parts.items small

events_nil : (xs : List Event) → xs ≡ xs ++ []
events_nil [] = refl
events_nil (x ∷ xs) = ap (λ (l : List Event). x ∷ l) (events_nil xs)

pub layout_fits : (init : List Event) (ts : List ThreadParts) → AreInitial init
    → AreSmall (combinations (initial_prefix init) ts)
    → AllPrefixesFit (min (length init) 128) (combinations (initial_prefix init) ts)
layout_fits init ts i small =
    all_fit (min (length init) 128) init i refl ts (initial_prefix init) ([], events_nil init) small

-- the answers
pub seen_ordered : (n : ℕ) (cs : List Combination)
    → map (λ c. ordered n (combination_lists c)) cs ≡ map (ordered n) (map combination_lists cs)
seen_ordered n [] = refl
seen_ordered n (c ∷ cs) =
    ap (λ (l : List CombinationLists). ordered n (combination_lists c) ∷ l) (seen_ordered n cs)

pub fits_layout : (l : Layout) (vs : List Value) → l.initial.items ≡ initial_stores 0 vs
    → AreSmall (all_combinations l) → AllPrefixesFit (location_count l) (all_combinations l)
fits_layout l vs e small =
    layout_fits l.initial.items l.threads.items
    (subst (λ (es : List Event). AreInitial es) (sym e) (all_initial 0 vs)) small

-- what the search says
abbrev pub IsSearched : Layout → Option Found → Type 0
IsSearched l o =
    MatchOption o (AreTooMuch (location_count l) (all_combinations l) no_tally)
    (λ f. TalliesAll (location_count l) (all_combinations l) no_tally (tally f) × (f.count ≤ 16384))

pub none_searched : (l : Layout) (o : Option Found) → o ≡ None → IsSearched l o
    → AreTooMany (location_count l) (all_combinations l)
none_searched l o e h =
    too_many (location_count l) (all_combinations l)
    (subst (λ (x : Option Found). IsSearched l x) e h)

pub some_searched : (l : Layout) (o : Option Found) (f : Found) → o ≡ Some f → IsSearched l o
    → TalliesAll (location_count l) (all_combinations l) no_tally (tally f) × (f.count ≤ 16384)
some_searched l o f e h = subst (λ (x : Option Found). IsSearched l x) e h

pub fault_searched : (l : Layout) (o : Option Found) (f : Found) → o ≡ Some f → f.is_faulted ≡ true
    → IsSearched l o → AreFaulted (location_count l) (all_combinations l)
fault_searched l o f e b h =
    let s : TalliesAll (location_count l) (all_combinations l) no_tally (tally f) × (f.count ≤ 16384) =
    some_searched l o f e h in
    faulted (location_count l) (all_combinations l) (tally f) s.0 s.1 b

pub all_searched : (l : Layout) (o : Option Found) (f : Found) (cs : List Combination) → o ≡ Some f
    → f.is_faulted ≡ false → IsSearched l o
    → map combination_lists cs
    ≡ map (λ c. ordered (location_count l) (combination_lists c)) f.combinations.items
    → AreCandidates (location_count l) (all_combinations l) (map combination_lists cs)
all_searched l o f cs e b h m =
    let s : TalliesAll (location_count l) (all_combinations l) no_tally (tally f) × (f.count ≤ 16384) = some_searched l o f e h in
    all_candidates (location_count l) (all_combinations l) (tally f) (map combination_lists cs) s.0
    s.1 b (m ∙ seen_ordered (location_count l) f.combinations.items)

-- what the test says
pub test_fault : (t : Test) (p : Program) (e : DomainFault) (f : SpaceFault) → f ≡ space_fault_of e
    → IsProgram t p → LacksDomain p e → IsLayoutFault t f
test_fault t p (domain_faults.Refused r) f is h k =
    subst (λ (x : SpaceFault). IsLayoutFault t x) (sym is) (p, h, k)
test_fault t p (domain_faults.OutOfMemory x) f is h k =
    subst (λ (x : SpaceFault). IsLayoutFault t x) (sym is) tt

pub fault_told : (t : Test) (e : SpaceFault) → IsLayoutFault t e → IsTestRefusal t e
fault_told t (Refused r) h = inl h
fault_told t (OutOfMemory x) h = tt

pub ready : (t : Test) (p : Program) (values : List Value) (l : Layout) → IsProgram t p
    → IsDomain p values
    → (runs : List (Vec Run Global)) × AreServedRuns p values runs × IsLaidOut p runs l
    × IsKeyed (bit_of values) l → HasKeyedLayout t l
ready t p values l h d r =
    ((p, values, r.0, h, d, r.1, r.2), bit_of values, p.initial.items, r.3, r.2.initial)

-- what the parts of a layout say of the test
abbrev pub Answers : Layout → Result (Result SpaceParts EvalRefusal) AllocError → Type 0
Answers l r =
    (key : ℕ → Value → Option (ℕ × ℕ)) (initial : List Value) → IsKeyed key l
    → l.initial.items ≡ initial_stores 0 initial → IfOk r (λ a. IsAnswerTo l a)

told : (t : Test) (l : Layout) (r : Result (Result SpaceParts EvalRefusal) AllocError)
    (a : Result SpaceParts EvalRefusal) → r ≡ Ok a → HasKeyedLayout t l → Answers l r
    → IsAnswerTo l a
told t l r a e h f =
    subst (λ (x : Result (Result SpaceParts EvalRefusal) AllocError). IfOk x (λ b. IsAnswerTo l b)) e
    (f h.1 h.2 h.3 h.4)

pub parts_told : (t : Test) (l : Layout) (r : Result (Result SpaceParts EvalRefusal) AllocError)
    (p : SpaceParts) → r ≡ Ok (Ok p) → HasKeyedLayout t l → Answers l r → (s : Space)
    → IsWholeOf p s → IsTestSpace t s
parts_told t l r p e h f s whole = (l, h.0, (told t l r (Ok p) e h f).0 s whole)

pub count_told : (t : Test) (l : Layout) (r : Result (Result SpaceParts EvalRefusal) AllocError)
    (p : SpaceParts) → r ≡ Ok (Ok p) → HasKeyedLayout t l → Answers l r → AreCounted p
count_told t l r p e h f = (told t l r (Ok p) e h f).1

pub refusal_told : (t : Test) (l : Layout) (r : Result (Result SpaceParts EvalRefusal) AllocError)
    (x : EvalRefusal) → r ≡ Ok (Err x) → HasKeyedLayout t l → Answers l r → IsTestRefusal t (Refused x)
refusal_told t l r x e h f = inr (l, h.0, told t l r (Err x) e h f)

-- the combinations that were found, with all orders
whole_ordered : (l : Layout) (f : Found) (p : SpaceParts) (s : Space)
    → p.combinations ≡ f.combinations → p.location_count ≡ length l.initial.items → IsWholeOf p s
    → map combination_lists s.combinations.items
    ≡ map (λ c. ordered (location_count l) (combination_lists c)) f.combinations.items
whole_ordered l f p s combinations many whole =
    whole.combinations
    ∙ ap (λ (n : ℕ). map (λ c. ordered (min n 128) (combination_lists c)) p.combinations.items) many
    ∙ ap
    (λ (cs : Vec Combination Global). map (λ c. ordered (location_count l) (combination_lists c)) cs.items)
    combinations

whole_searched : (l : Layout) (o : Option Found) (f : Found) (p : SpaceParts) → o ≡ Some f
    → f.is_faulted ≡ false → IsSearched l o → p.combinations ≡ f.combinations
    → p.locations ≡ l.locations → p.location_count ≡ length l.initial.items
    → map (λ v. v.items) p.registers.items
    ≡ map (λ t. map (λ q. q.registers) t.parts.items) l.threads.items
    → AreLayoutParts l p
whole_searched l o f p e b h combinations locations many registers s whole = (
  all_searched l o f s.combinations.items e b h (whole_ordered l f p s combinations many whole),
  (
    ap (λ (rs : Vec (Vec (List Value) Global) Global). map (λ v. v.items) rs.items) whole.registers
        ∙ registers,
    whole.locations ∙ locations,
  ),
)

-- the candidates of combinations are as many as those of their lists
candidates_counted : (cs : List Combination)
    → length (candidates_in cs) ≡ candidate_total (map combination_lists cs)
candidates_counted [] = refl
candidates_counted (c ∷ cs) =
    let own : List (Combination × (List ℕ × List ℕ)) = map (λ t. (c, t)) (candidates_of c) in
    let both : length (own ++ candidates_in cs) ≡ length own + length (candidates_in cs) = length-append own (candidates_in cs) in
    let one : length own ≡ length (candidates_of c) = length-map (candidates_of c) (λ t. (c, t)) in
    let reads : length (lists_of c.reads_from.items) ≡ length c.reads_from.items = length-map c.reads_from.items (λ v. v.items) in
    let many : length (candidates_of c) ≡ length (lists_of c.reads_from.items) * length c.orders =
    length-candidates c ∙ ap (λ (n : ℕ). n * length c.orders) (sym reads) in
    let rest : length (candidates_in cs) ≡ candidate_total (map combination_lists cs) = candidates_counted cs in
    both ∙ ap (λ (n : ℕ). n + length (candidates_in cs)) (one ∙ many)
    ∙ ap (λ (n : ℕ). length (lists_of c.reads_from.items) * length c.orders + n) rest

count_searched : (l : Layout) (o : Option Found) (f : Found) (p : SpaceParts) → o ≡ Some f
    → f.is_faulted ≡ false → IsSearched l o → p.combinations ≡ f.combinations
    → p.location_count ≡ length l.initial.items → p.count ≡ f.count → AreCounted p
count_searched l o f p e b h combinations many count s whole =
    let n = location_count l in
    let sum : Sum n (all_combinations l) no_tally (tally f) =
    summed n (all_combinations l) no_tally (tally f) (some_searched l o f e h).0 in
    let all : map combination_lists s.combinations.items ≡ sum.all =
    whole_ordered l f p s combinations many whole ∙ seen_ordered n f.combinations.items
    ∙ (sum.kept b).0 in
    let total : f.count ≡ 0 + candidate_total sum.all = sum.count in
    let found : length (candidates_in s.combinations.items) ≡ candidate_total sum.all =
    candidates_counted s.combinations.items ∙ ap (λ (cs : List CombinationLists). candidate_total cs) all in
    omega (arith, total, found, count)

-- the answer of a search that found combinations without fault
pub parts_searched : (l : Layout) (o : Option Found) (f : Found) (p : SpaceParts) → o ≡ Some f
    → f.is_faulted ≡ false → IsSearched l o → p.combinations ≡ f.combinations
    → p.locations ≡ l.locations → p.location_count ≡ length l.initial.items
    → map (λ v. v.items) p.registers.items
    ≡ map (λ t. map (λ q. q.registers) t.parts.items) l.threads.items
    → p.count ≡ f.count → IsAnswerTo l (Ok p)
parts_searched l o f p e b h combinations locations many registers count = (
  whole_searched l o f p e b h combinations locations many registers,
  count_searched l o f p e b h combinations many count,
)
