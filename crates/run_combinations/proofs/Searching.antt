-- Combinations that are searched one after another.
use Rattle.std.proofs.Common.{ℕ, zero, suc, ◌≡◌, ◌<◌, ◌≤◌, ◌+◌, ◌-◌, Bool, true, false, Option, List, [], ◌∷◌, ◌++◌, take, drop, length, get_or, arith, refl, sym, ap, subst, ◌∙◌}
use Rattle.std.specs.List.{flat_map}
use Rattle.std.proofs.lemmas.List.{take_more, length-take-le}
use Rattle.std.proofs.lemmas.List.Concat.{flat_map-append}
use Rattle.std.proofs.Math.Seq.{take-length}
use Rattle.run_combinations.specs.Search.{PrefixLists, Tally, PrefixFits, AllPrefixesFit, TalliesOneMore, ExceedsCandidates, Tells, with_run, with_indices, combinations, HasJoined, TalliesAll, none, more, AreTooMuch, now, later, prefix_lists, initial_prefix, no_tally, all_combinations, location_count}
use Rattle.thread_runs.specs.declared.value.Value.{Value}
use Rattle.run_combinations.specs.Keys.{HasKey, HasStores, AreKeys, PartsAreKeyed, ThreadsAreKeyed, IsKeyed, IsLoadedKey, IsStoredKey, TellsSubset}
use Rattle.run_combinations.proofs.Pruning.{IsStuck, Stuck, PartsLack, ThreadsLack, no_read_choices, run_stuck, first_keys, longer_keys, part_keys, does_not_fit, told_false}
use Rattle.run_combinations.specs.Candidates.{AreSmall}
use Rattle.run_combinations.specs.declared.keys.KeySet.{KeySet}
use Rattle.run_combinations.specs.declared.layout.Layout.{Layout}
use Rattle.run_combinations.specs.declared.part.Part.{Part}
use Rattle.run_combinations.specs.declared.search.Prefix.{Prefix}
use Rattle.run_combinations.specs.declared.layout.ThreadParts.{ThreadParts}

searched_append : (n : ℕ) (us vs : List PrefixLists) (t u v : Tally) → TalliesAll n us t u
    → TalliesAll n vs u v → TalliesAll n (us ++ vs) t v
searched_append n [] vs t u v none k = k
searched_append n (b ∷ us) vs t u v (more {u = w} j h) k =
    more j (searched_append n us vs w u v h k)

over_append : (n : ℕ) (us vs : List PrefixLists) (t u : Tally) → TalliesAll n us t u
    → AreTooMuch n vs u → AreTooMuch n (us ++ vs) t
over_append n [] vs t u none k = k
over_append n (b ∷ us) vs t u (more {u = w} j h) k = later j (over_append n us vs w u h k)

over_longer : (n : ℕ) (bs cs : List PrefixLists) (t : Tally) → AreTooMuch n bs t
    → AreTooMuch n (bs ++ cs) t
over_longer n [] cs t x = elim x [ ]
over_longer n (b ∷ bs) cs t (now h) = now h
over_longer n (b ∷ bs) cs t (later {u = u} j h) = later j (over_longer n bs cs u h)

-- one combination
judged_one : (n : ℕ) (b : PrefixLists) (t u : Tally) → TalliesOneMore n b t u → TalliesAll n (b ∷ []) t u
judged_one n b t u j = more j none

over_one : (n : ℕ) (b : PrefixLists) (t : Tally) → ExceedsCandidates n b t → AreTooMuch n (b ∷ []) t
over_one n b t h = now h

-- the combinations that go on with some runs of the next thread
abbrev pub going_on : PrefixLists → List ThreadParts → ℕ → List Part → List PrefixLists
going_on b ts at ps = flat_map (λ r. combinations (with_run r.0 r.1 b) ts) (with_indices at ps)

with_indices-append : (at : ℕ) (ps qs : List Part)
    → with_indices at (ps ++ qs) ≡ with_indices at ps ++ with_indices (at + length ps) qs
with_indices-append at [] qs =
    let z : at ≡ at + 0 = omega arith in ap (λ (k : ℕ). with_indices k qs) z
with_indices-append at (p ∷ ps) qs =
    let z : (at + 1) + length ps ≡ at + suc (length ps) = omega arith in
    ap (λ (l : List (ℕ × Part)). (at, p) ∷ l) (with_indices-append (at + 1) ps qs
    ∙ ap (λ (k : ℕ). with_indices (at + 1) ps ++ with_indices k qs) z)

going_on-append : (b : PrefixLists) (ts : List ThreadParts) (at : ℕ) (ps qs : List Part)
    → going_on b ts at (ps ++ qs) ≡ going_on b ts at ps ++ going_on b ts (at + length ps) qs
going_on-append b ts at ps qs =
    ap (λ (l : List (ℕ × Part)). flat_map (λ r. combinations (with_run r.0 r.1 b) ts) l)
    (with_indices-append at ps qs)
    ∙ flat_map-append (λ r. combinations (with_run r.0 r.1 b) ts) (with_indices at ps)
    (with_indices (at + length ps) qs)

append-empty : (xs : List PrefixLists) → xs ++ [] ≡ xs
append-empty [] = refl
append-empty (x ∷ xs) = ap (λ (l : List PrefixLists). x ∷ l) (append-empty xs)

-- one run more
one_run : (b : PrefixLists) (ts : List ThreadParts) (ps : List Part) (i : ℕ) (p : Part)
    → i < length ps → p ≡ get_or ps i p
    → going_on b ts 0 (take (i + 1) ps)
    ≡ going_on b ts 0 (take i ps) ++ combinations (with_run i p b) ts
one_run b ts ps i p lt is =
    ap (λ (l : List Part). going_on b ts 0 l) (take_more ps i p lt
    ∙ ap (λ (q : Part). take i ps ++ q ∷ []) (sym is))
    ∙ going_on-append b ts 0 (take i ps) (p ∷ [])
    ∙ ap (λ (l : List PrefixLists). going_on b ts 0 (take i ps) ++ l) (append-empty
    (combinations (with_run (0 + length (take i ps)) p b) ts))
    ∙ ap (λ (k : ℕ). going_on b ts 0 (take i ps) ++ combinations (with_run k p b) ts) long
  where
    long : 0 + length (take i ps) ≡ i
    long =
        let l : length (take i ps) ≡ i = length-take-le i ps (omega (arith, lt)) in omega (arith, l)

take_and_drop : (ps : List Part) (i : ℕ) → ps ≡ take i ps ++ drop i ps
take_and_drop ps zero = refl
take_and_drop [] (suc i) = refl
take_and_drop (p ∷ ps) (suc i) = ap (λ (l : List Part). p ∷ l) (take_and_drop ps i)

split_all : (b : PrefixLists) (ts : List ThreadParts) (ps : List Part) (i : ℕ) (p : Part)
    → i < length ps → p ≡ get_or ps i p
    → going_on b ts 0 ps
    ≡ (going_on b ts 0 (take i ps) ++ combinations (with_run i p b) ts)
    ++ going_on b ts (0 + length (take (i + 1) ps)) (drop (i + 1) ps)
split_all b ts ps i p lt is =
    ap (λ (l : List Part). going_on b ts 0 l) (take_and_drop ps (i + 1))
    ∙ going_on-append b ts 0 (take (i + 1) ps) (drop (i + 1) ps)
    ∙ ap
    (λ (l : List PrefixLists). l
    ++ going_on b ts (0 + length (take (i + 1) ps)) (drop (i + 1) ps))
    (one_run b ts ps i p lt is)

-- what fits in a list fits in its pieces
fit_front : (n : ℕ) (xs ys : List PrefixLists) → AllPrefixesFit n (xs ++ ys) → AllPrefixesFit n xs
fit_front n [] ys h = tt
fit_front n (x ∷ xs) ys h = (h.0, fit_front n xs ys h.1)

fit_rest : (n : ℕ) (xs ys : List PrefixLists) → AllPrefixesFit n (xs ++ ys) → AllPrefixesFit n ys
fit_rest n [] ys h = h
fit_rest n (x ∷ xs) ys h = fit_rest n xs ys h.1

pub fit_run : (n : ℕ) (b : PrefixLists) (ts : List ThreadParts) (ps : List Part) (i : ℕ) (p : Part)
    → i < length ps → p ≡ get_or ps i p → AllPrefixesFit n (going_on b ts 0 ps)
    → AllPrefixesFit n (combinations (with_run i p b) ts)
fit_run n b ts ps i p lt is h =
    fit_rest n (going_on b ts 0 (take i ps)) (combinations (with_run i p b) ts)
    (fit_front n (going_on b ts 0 (take i ps) ++ combinations (with_run i p b) ts)
    (going_on b ts (0 + length (take (i + 1) ps)) (drop (i + 1) ps))
    (subst (λ (l : List PrefixLists). AllPrefixesFit n l) (split_all b ts ps i p lt is) h))

pub small_front : (xs ys : List PrefixLists) → AreSmall (xs ++ ys) → AreSmall xs
small_front [] ys h = tt
small_front (x ∷ xs) ys h = (h.0, small_front xs ys h.1)

pub small_rest : (xs ys : List PrefixLists) → AreSmall (xs ++ ys) → AreSmall ys
small_rest [] ys h = h
small_rest (x ∷ xs) ys h = small_rest xs ys h.1

run_small : (b : PrefixLists) (ts : List ThreadParts) (ps : List Part) (i : ℕ) (p : Part)
    → i < length ps → p ≡ get_or ps i p → AreSmall (going_on b ts 0 ps)
    → AreSmall (combinations (with_run i p b) ts)
run_small b ts ps i p lt is h =
    small_rest (going_on b ts 0 (take i ps)) (combinations (with_run i p b) ts)
    (small_front (going_on b ts 0 (take i ps) ++ combinations (with_run i p b) ts)
    (going_on b ts (0 + length (take (i + 1) ps)) (drop (i + 1) ps))
    (subst (λ (l : List PrefixLists). AreSmall l) (split_all b ts ps i p lt is) h))

pub run_found : (n : ℕ) (b : PrefixLists) (ts : List ThreadParts) (ps : List Part) (i : ℕ)
    (p : Part) (t u v : Tally) → i < length ps → p ≡ get_or ps i p
    → TalliesAll n (going_on b ts 0 (take i ps)) t u
    → TalliesAll n (combinations (with_run i p b) ts) u v
    → TalliesAll n (going_on b ts 0 (take (i + 1) ps)) t v
run_found n b ts ps i p t u v lt is f g =
    subst (λ (l : List PrefixLists). TalliesAll n l t v) (sym (one_run b ts ps i p lt is))
    (searched_append n (going_on b ts 0 (take i ps)) (combinations (with_run i p b) ts) t u v f g)

pub run_over : (n : ℕ) (b : PrefixLists) (ts : List ThreadParts) (ps : List Part) (i : ℕ) (p : Part)
    (t u : Tally) → i < length ps → p ≡ get_or ps i p
    → TalliesAll n (going_on b ts 0 (take i ps)) t u
    → AreTooMuch n (combinations (with_run i p b) ts) u → AreTooMuch n (going_on b ts 0 ps) t
run_over n b ts ps i p t u lt is f g =
    subst (λ (l : List PrefixLists). AreTooMuch n l t) (sym (split_all b ts ps i p lt is))
    (over_longer n (going_on b ts 0 (take i ps) ++ combinations (with_run i p b) ts)
    (going_on b ts (0 + length (take (i + 1) ps)) (drop (i + 1) ps)) t (over_append n
    (going_on b ts 0 (take i ps)) (combinations (with_run i p b) ts) t u f g))

-- the threads behind the first
abbrev pub rest_of : List ThreadParts → List ThreadParts
rest_of ts = take (length ts - 1) (drop 1 ts)

first_and_rest : (ts : List ThreadParts) (t : ThreadParts) → 0 < length ts → t ≡ get_or ts 0 t
    → ts ≡ t ∷ rest_of ts
first_and_rest [] t lt is = absurd (omega (arith, lt))
first_and_rest (x ∷ xs) t lt is =
    let n : length (x ∷ xs) - 1 ≡ length xs = omega arith in
    let r : take (length (x ∷ xs) - 1) xs ≡ xs = ap (λ (k : ℕ). take k xs) n ∙ take-length xs in
    ap (λ (l : List ThreadParts). x ∷ l) (sym r)
    ∙ ap (λ (y : ThreadParts). y ∷ take (length (x ∷ xs) - 1) xs) (sym is)

whole_thread : (b : PrefixLists) (ts : List ThreadParts) (t : ThreadParts) (ps : List Part)
    → 0 < length ts → t ≡ get_or ts 0 t → ps ≡ t.parts.items
    → combinations b ts ≡ going_on b (rest_of ts) 0 ps
whole_thread b ts t ps lt is same =
    ap (λ (l : List ThreadParts). combinations b l) (first_and_rest ts t lt is)
    ∙ ap (λ (l : List Part). going_on b (rest_of ts) 0 l) (sym same)

-- where all combinations are small, so are those that go on with a run of the next thread
pub goes_on_small : (b : PrefixLists) (ts : List ThreadParts) (t : ThreadParts) (ps : List Part)
    (i : ℕ) (p : Part) (x : PrefixLists) → 0 < length ts → t ≡ get_or ts 0 t
    → ps ≡ t.parts.items → i < length ps → p ≡ get_or ps i p → x ≡ with_run i p b
    → AreSmall (combinations b ts) → AreSmall (combinations x (rest_of ts))
goes_on_small b ts t ps i p x some first runs lt one longer h =
    subst (λ (y : PrefixLists). AreSmall (combinations y (rest_of ts))) (sym longer)
    (run_small b (rest_of ts) ps i p lt one (subst (λ (l : List PrefixLists). AreSmall l)
    (whole_thread b ts t ps some first runs) h))

pub last_small : (b : PrefixLists) (ts : List ThreadParts) → length ts ≡ 0
    → AreSmall (combinations b ts) → length b.combination.events ≤ 128
last_small b [] e h = h.0
last_small b (t ∷ ts) e h = absurd (omega (arith, e))

pub first_small : (l : Layout) (b : PrefixLists) (ts : List ThreadParts) → b ≡ initial_prefix l.initial.items
    → ts ≡ l.threads.items → AreSmall (all_combinations l) → AreSmall (combinations b ts)
first_small l b ts made same h =
    subst (λ (x : List ThreadParts). AreSmall (combinations b x)) (sym same)
    (subst (λ (c : PrefixLists). AreSmall (combinations c l.threads.items)) (sym made) h)

-- no thread is left
pub no_thread : (n : ℕ) (b : PrefixLists) (ts : List ThreadParts) (is : Bool) (old new : Tally)
    → length ts ≡ 0
    → (PrefixFits n b → old.count ≤ 16384
    → Tells is (TalliesOneMore n b old new × (new.count ≤ 16384)) (ExceedsCandidates n b old))
    → AllPrefixesFit n (combinations b ts) → old.count ≤ 16384
    → Tells is (TalliesAll n (combinations b ts) old new × (new.count ≤ 16384))
    (AreTooMuch n (combinations b ts) old)
no_thread n b (t ∷ ts) is old new e h fit few = absurd (omega (arith, e))
no_thread n b [] true old new e h fit few =
    let j : TalliesOneMore n b old new × (new.count ≤ 16384) = h fit.0 few in
    (judged_one n b old new j.0, j.1)
no_thread n b [] false old new e h fit few = over_one n b old (h fit.0 few)

-- a run of the next thread
pub record Going (n : ℕ) (b : PrefixLists) (ts : List ThreadParts) (ps : List Part) (i : ℕ)
    (p : Part) (x : PrefixLists) : Type 0 where
  pub thread : ThreadParts
  pub some : 0 < length ts
  pub first : thread ≡ get_or ts 0 thread
  pub runs : ps ≡ thread.parts.items
  pub within : i < length ps
  pub one : p ≡ get_or ps i p
  pub longer : x ≡ with_run i p b
  pub fit : AllPrefixesFit n (combinations b ts)

-- what is known of the search that goes on with it
abbrev pub GoesOn : ℕ → Bool → PrefixLists → List ThreadParts → Tally → Tally → Type 0
GoesOn n is x ts u v =
    AllPrefixesFit n (combinations x ts) → u.count ≤ 16384
    → Tells is (TalliesAll n (combinations x ts) u v × (v.count ≤ 16384))
    (AreTooMuch n (combinations x ts) u)

going_fit : (n : ℕ) (b : PrefixLists) (ts : List ThreadParts) (ps : List Part) (i : ℕ) (p : Part)
    (x : PrefixLists) → Going n b ts ps i p x → AllPrefixesFit n (combinations x (rest_of ts))
going_fit n b ts ps i p x g =
    subst (λ (y : PrefixLists). AllPrefixesFit n (combinations y (rest_of ts))) (sym g.longer)
    (fit_run n b (rest_of ts) ps i p g.within g.one (subst (λ (l : List PrefixLists). AllPrefixesFit n l)
    (whole_thread b ts g.thread ps g.some g.first g.runs) g.fit))

pub tells_true : (is : Bool) (P Q : Type 0) → is ≡ true → Tells is P Q → P
tells_true true P Q e h = h
tells_true false P Q e h = absurd cc

pub tells_false : (is : Bool) (P Q : Type 0) → is ≡ false → Tells is P Q → Q
tells_false true P Q e h = absurd cc
tells_false false P Q e h = h

pub over_there : (n : ℕ) (b : PrefixLists) (ts : List ThreadParts) (ps : List Part) (i : ℕ)
    (p : Part) (x : PrefixLists) (is : Bool) (t u v : Tally) → Going n b ts ps i p x
    → is ≡ false → TalliesAll n (going_on b (rest_of ts) 0 (take i ps)) t u × (u.count ≤ 16384)
    → GoesOn n is x (rest_of ts) u v → AreTooMuch n (combinations b ts) t
over_there n b ts ps i p x is t u v g e f h =
    let k : AreTooMuch n (combinations x (rest_of ts)) u = tells_false is (TalliesAll n (combinations x (rest_of ts)) u v × (v.count ≤ 16384)) (AreTooMuch n (combinations x (rest_of ts)) u) e (h (going_fit n b ts ps i p x g) f.1) in
    subst (λ (l : List PrefixLists). AreTooMuch n l t)
    (sym (whole_thread b ts g.thread ps g.some g.first g.runs))
    (run_over n b (rest_of ts) ps i p t u g.within g.one f.0 (subst
    (λ (y : PrefixLists). AreTooMuch n (combinations y (rest_of ts)) u) g.longer k))

pub found_there : (n : ℕ) (b : PrefixLists) (ts : List ThreadParts) (ps : List Part) (i : ℕ)
    (p : Part) (x : PrefixLists) (is : Bool) (t u v : Tally) → Going n b ts ps i p x → is ≡ true
    → TalliesAll n (going_on b (rest_of ts) 0 (take i ps)) t u × (u.count ≤ 16384)
    → GoesOn n is x (rest_of ts) u v
    → TalliesAll n (going_on b (rest_of ts) 0 (take (i + 1) ps)) t v × (v.count ≤ 16384)
found_there n b ts ps i p x is t u v g e f h =
    let k : TalliesAll n (combinations x (rest_of ts)) u v × (v.count ≤ 16384) = tells_true is (TalliesAll n (combinations x (rest_of ts)) u v × (v.count ≤ 16384)) (AreTooMuch n (combinations x (rest_of ts)) u) e (h (going_fit n b ts ps i p x g) f.1) in (
      run_found n b (rest_of ts) ps i p t u v g.within g.one f.0 (subst
          (λ (y : PrefixLists). TalliesAll n (combinations y (rest_of ts)) u v) g.longer
          k.0),
      k.1,
    )

-- the combinations that go on with a run that does not fit
judged_none : (n : ℕ) (l : ℕ) (v : Value) (b : PrefixLists) (t : Tally) → IsStuck l v b
    → TalliesOneMore n b t t
judged_none n l v b t s = ([], no_read_choices l v b s, refl)

none_goes_on : (n l : ℕ) (v : Value) (b : PrefixLists) (ts : List ThreadParts) (t : Tally)
    → ((x : PrefixLists) → IsStuck l v x → TalliesAll n (combinations x ts) t t) → IsStuck l v b
    → (at : ℕ) (ps : List Part) → PartsLack l v ps → TalliesAll n (going_on b ts at ps) t t
none_goes_on n l v b ts t each s at [] lack = none
none_goes_on n l v b ts t each s at (p ∷ ps) lack =
    searched_append n (combinations (with_run at p b) ts) (going_on b ts (at + 1) ps) t t t
    (each (with_run at p b) (run_stuck l v at p b s lack.0))
    (none_goes_on n l v b ts t each s (at + 1) ps lack.1)

none_found : (n l : ℕ) (v : Value) (ts : List ThreadParts) (t : Tally) → ThreadsLack l v ts
    → (b : PrefixLists) → IsStuck l v b → TalliesAll n (combinations b ts) t t
none_found n l v [] t lack b s = more (judged_none n l v b t s) none
none_found n l v (th ∷ ts) t lack b s =
    none_goes_on n l v b ts t (λ x h. none_found n l v ts t lack.1 x h) s 0 th.parts.items lack.0

passed_over : (n : ℕ) (b : PrefixLists) (ts : List ThreadParts) (ps : List Part) (i : ℕ) (p : Part)
    (t u : Tally) → i < length ps → p ≡ get_or ps i p → Stuck (with_run i p b) ts
    → TalliesAll n (going_on b ts 0 (take i ps)) t u × (u.count ≤ 16384)
    → TalliesAll n (going_on b ts 0 (take (i + 1) ps)) t u × (u.count ≤ 16384)
passed_over n b ts ps i p t u lt is k f = (
  run_found n b ts ps i p t u u lt is f.0 (none_found n k.location k.value ts u k.lack
      (with_run i p b) k.stuck),
  f.1,
)

pub all_found : (n : ℕ) (b : PrefixLists) (ts : List ThreadParts) (thread : ThreadParts)
    (ps : List Part) (i : ℕ) (t u : Tally) → 0 < length ts → thread ≡ get_or ts 0 thread
    → ps ≡ thread.parts.items → i ≡ length ps
    → TalliesAll n (going_on b (rest_of ts) 0 (take i ps)) t u × (u.count ≤ 16384)
    → TalliesAll n (combinations b ts) t u × (u.count ≤ 16384)
all_found n b ts thread ps i t u lt is same whole f =
    let e : take i ps ≡ ps = ap (λ (k : ℕ). take k ps) whole ∙ take-length ps in (
      subst (λ (l : List PrefixLists). TalliesAll n l t u)
          (sym (whole_thread b ts thread ps lt is same)) (subst
          (λ (l : List Part). TalliesAll n (going_on b (rest_of ts) 0 l) t u) e f.0),
      f.1,
    )

-- the sets of the prefix and of the threads
pub threads_keys : (key : ℕ → Value → Option (ℕ × ℕ)) (ts : List ThreadParts) (t : ThreadParts)
    (ps : List Part) → 0 < length ts → t ≡ get_or ts 0 t → ps ≡ t.parts.items
    → ThreadsAreKeyed key ts → PartsAreKeyed key t.stores ps × ThreadsAreKeyed key (rest_of ts)
threads_keys key ts t ps lt is same k =
    let h : ThreadsAreKeyed key (t ∷ rest_of ts) = subst (λ (l : List ThreadParts). ThreadsAreKeyed key l) (first_and_rest ts t lt is) k in
    (subst (λ (l : List Part). PartsAreKeyed key t.stores l) (sym same) h.0, h.1)

-- where the search goes on
pub keyed : (key : ℕ → Value → Option (ℕ × ℕ)) (n : ℕ) (f g : Prefix) (ts : List ThreadParts)
    (ps : List Part) (i : ℕ) (p : Part) (is : Bool) (u v : Tally)
    → Going n (prefix_lists f) ts ps i p (prefix_lists g) → HasJoined f p g
    → AreKeys key f.runs.events.items f.loads f.stores → ThreadsAreKeyed key ts
    → ((k : ℕ → Value → Option (ℕ × ℕ)) → AreKeys k g.runs.events.items g.loads g.stores
    → ThreadsAreKeyed k (rest_of ts) → GoesOn n is (prefix_lists g) (rest_of ts) u v)
    → GoesOn n is (prefix_lists g) (rest_of ts) u v
keyed key n f g ts ps i p is u v going j fk tk h =
    let all : PartsAreKeyed key going.thread.stores ps × ThreadsAreKeyed key (rest_of ts) = threads_keys key ts going.thread ps going.some going.first going.runs tk in
    h key
    (longer_keys key f p g i going.longer j fk (part_keys key going.thread.stores ps i p all.0
    going.within going.one)) all.1

-- where it leaves out a run
pub left_out : (key : ℕ → Value → Option (ℕ × ℕ)) (n : ℕ) (f : Prefix) (ts : List ThreadParts)
    (thread : ThreadParts) (ps : List Part) (i : ℕ) (p : Part) (after : KeySet) (is : Bool)
    (t u : Tally) → 0 < length ts → thread ≡ get_or ts 0 thread → ps ≡ thread.parts.items
    → i < length ps → p ≡ get_or ps i p → AreKeys key f.runs.events.items f.loads f.stores
    → ThreadsAreKeyed key ts → HasStores after (rest_of ts) → is ≡ false
    → TellsSubset is (IsLoadedKey f p) (IsStoredKey f p after)
    → TalliesAll n (going_on (prefix_lists f) (rest_of ts) 0 (take i ps)) t u × (u.count ≤ 16384)
    → TalliesAll n (going_on (prefix_lists f) (rest_of ts) 0 (take (i + 1) ps)) t u
    × (u.count ≤ 16384)
left_out key n f ts thread ps i p after is t u some first runs lt one fk tk w e tells found =
    let all : PartsAreKeyed key thread.stores ps × ThreadsAreKeyed key (rest_of ts) = threads_keys key ts thread ps some first runs tk in
    passed_over n (prefix_lists f) (rest_of ts) ps i p t u lt one
    (does_not_fit key f p after (rest_of ts) i fk (part_keys key thread.stores ps i p all.0 lt one)
    all.1 w (told_false is (IsLoadedKey f p) (IsStoredKey f p after) e tells)) found

-- the search through a layout
pub searched_layout : (key : ℕ → Value → Option (ℕ × ℕ)) (l : Layout) (f : Prefix)
    (ts : List ThreadParts) (n : ℕ) (is : Bool) (old new : Tally)
    → prefix_lists f ≡ initial_prefix l.initial.items
    → ((a b : ℕ) → HasKey f.loads a b → ⊥) × (f.stores ≡ l.initial_store_keys) → ts ≡ l.threads.items
    → n ≡ location_count l → old ≡ no_tally → IsKeyed key l
    → AllPrefixesFit (location_count l) (all_combinations l)
    → ((k : ℕ → Value → Option (ℕ × ℕ)) → AreKeys k f.runs.events.items f.loads f.stores
    → ThreadsAreKeyed k ts → AllPrefixesFit n (combinations (prefix_lists f) ts) → old.count ≤ 16384
    → Tells is (TalliesAll n (combinations (prefix_lists f) ts) old new × (new.count ≤ 16384))
    (AreTooMuch n (combinations (prefix_lists f) ts) old))
    → Tells is (TalliesAll (location_count l) (all_combinations l) no_tally new × (new.count ≤ 16384))
    (AreTooMuch (location_count l) (all_combinations l) no_tally)
searched_layout key l f ts n is old new made keys same count empty k fit h =
    subst
    (λ (t : Tally). Tells is
    (TalliesAll (location_count l) (all_combinations l) t new × (new.count ≤ 16384))
    (AreTooMuch (location_count l) (all_combinations l) t)) empty
    (subst
    (λ (c : List PrefixLists). Tells is
    (TalliesAll (location_count l) c old new × (new.count ≤ 16384))
    (AreTooMuch (location_count l) c old)) combined
    (subst
    (λ (m : ℕ). Tells is
    (TalliesAll m (combinations (prefix_lists f) ts) old new × (new.count ≤ 16384))
    (AreTooMuch m (combinations (prefix_lists f) ts) old)) count
    (h key (first_keys key l f made keys k)
    (subst (λ (t : List ThreadParts). ThreadsAreKeyed key t) (sym same) k.threads) fits
    few)))
  where
    combined : combinations (prefix_lists f) ts ≡ all_combinations l
    combined =
        ap (λ (b : PrefixLists). combinations b ts) made
        ∙ ap (λ (t : List ThreadParts). combinations (initial_prefix l.initial.items) t) same

    fits : AllPrefixesFit n (combinations (prefix_lists f) ts)
    fits =
        subst (λ (m : ℕ). AllPrefixesFit m (combinations (prefix_lists f) ts)) (sym count)
        (subst (λ (c : List PrefixLists). AllPrefixesFit (location_count l) c) (sym combined) fit)

    few : old.count ≤ 16384
    few = let e : old.count ≡ 0 = ap (λ (t : Tally). t.count) empty in omega (arith, e)

pub found_all : (n : ℕ) (cs : List PrefixLists) (is : Bool) (new : Tally) → is ≡ true
    → Tells is (TalliesAll n cs no_tally new × (new.count ≤ 16384)) (AreTooMuch n cs no_tally)
    → TalliesAll n cs no_tally new × (new.count ≤ 16384)
found_all n cs is new e h =
    tells_true is (TalliesAll n cs no_tally new × (new.count ≤ 16384)) (AreTooMuch n cs no_tally) e h

pub found_over : (n : ℕ) (cs : List PrefixLists) (is : Bool) (new : Tally) → is ≡ false
    → Tells is (TalliesAll n cs no_tally new × (new.count ≤ 16384)) (AreTooMuch n cs no_tally)
    → AreTooMuch n cs no_tally
found_over n cs is new e h =
    tells_false is (TalliesAll n cs no_tally new × (new.count ≤ 16384)) (AreTooMuch n cs no_tally) e h
