-- A thread has no more runs than free runs, where each load has some value to take.
use Rattle.std.proofs.Common.{ℕ, ◌≡◌, ◌<◌, ◌≤◌, ◌+◌, ◌*◌, Bool, true, false, List, [], ◌∷◌, length, refl, sym, ap, subst, ◌∙◌, Option, Some, None, if◌then◌else◌, arith, length-append, mul-le-mul_right}
use Rattle.std.specs.List.{flat_map, AllPairs}
use Rattle.std.proofs.lemmas.List.Folds.{flat_map-map}
use Rattle.thread_runs.specs.declared.value.Value.{Value}
use Rattle.thread_runs.specs.declared.value.Value.TheVariants.{NoValue}
use Rattle.thread_runs.specs.declared.instruction.Instruction.{Instruction}
use Rattle.thread_runs.specs.declared.instruction.Instruction.TheVariants.{Immediate, Move, AddImmediate, Operate, Load, LoadIndexed, Store, StoreIndexed, Compare, CompareImmediate, Branch, Jump, Fence}
use Rattle.thread_runs.specs.declared.instruction.Line.{Line}
use Rattle.thread_runs.specs.declared.instruction.Line.TheVariants.{Label, Does}
use Rattle.thread_runs.specs.declared.state.State.{State}
use Rattle.thread_runs.specs.Machine.{is_load, is_branch, is_fault, takes_branch, branch_target}
use Rattle.thread_runs.specs.Runs.{IsLess, walk_after, walk_past, found_at}
use Rattle.thread_runs.specs.AllRuns.{Beginning, beginning_at, with_load, next, all_from, HasRuns}
use Rattle.thread_runs.specs.FreeRuns.{capped, count_free, count_one, sized}
use Rattle.thread_runs.proofs.RunsExact.{one_next, next_seeking, next_label, next_fault, next_plain, next_load, stopped_stays, has_runs}
use Rattle.thread_runs.proofs.AllFree.{branch_no_load}

no_branch : (i : Instruction) (s : State) → is_branch i ≡ false → takes_branch i s ≡ false
no_branch (Branch c l) s e = absurd cc
no_branch (Load d a) s e = refl
no_branch (LoadIndexed d a b) s e = refl
no_branch (Immediate d n) s e = refl
no_branch (Move d a) s e = refl
no_branch (AddImmediate d a n) s e = refl
no_branch (Operate o d a b) s e = refl
no_branch (Store d a) s e = refl
no_branch (StoreIndexed d a b) s e = refl
no_branch (Compare a b) s e = refl
no_branch (CompareImmediate a n) s e = refl
no_branch (Jump l) s e = refl
no_branch (Fence f) s e = refl

all_short : (U : List Value) (f : Value → List Beginning) (n : ℕ) → ((v : Value) → length (f v) ≤ n)
    → length (flat_map f U) ≤ length U * n
all_short [] f n each = omega arith
all_short (u ∷ us) f n each =
    let one = each u in
    let rest : length (flat_map f us) ≤ length us * n = all_short us f n each in
    let e = length-append (f u) (flat_map f us) in
    omega (arith, one, rest, e)

module _ (V : List Value) (size : ℕ) (within : length V ≤ size) (some : 0 < size) where
  sized_more : (i : Instruction) (n : ℕ) → n ≤ sized size i n
  sized_more i n = go (is_load i)
    where
      go : (ld : Bool) → n ≤ (if ld then size * n else n)
      go true =
          let h = mul-le-mul_right {m = 1} {n = size} n (omega (arith, some)) in omega (arith, h)
      go false = omega arith

  -- free runs go on from each line
  line_goes_on : (xs : List Line) → ((sk : Option ℕ) → 0 < count_free size xs sk)
      → (sk : Option ℕ) (x : Line) → 0 < count_one size sk x (count_free size xs)
  line_goes_on xs ih (Some l) x = ih (found_at x l)
  line_goes_on xs ih None (Label m) = ih None
  line_goes_on xs ih None (Does i) = go (is_branch i)
    where
      go : (br : Bool)
          → 0
          < (if br then count_free size xs (branch_target i true) + count_free size xs (branch_target i false)
          else sized size i (count_free size xs (branch_target i false)))
      go true = let h = ih (branch_target i true) in omega (arith, h)
      go false =
          let h = ih (branch_target i false) in
          let m = sized_more i (count_free size xs (branch_target i false)) in omega (arith, h, m)

  all_go_on : (xs : List Line) (sk : Option ℕ) → 0 < count_free size xs sk
  all_go_on [] sk = omega arith
  all_go_on (x ∷ xs) sk = line_goes_on xs (all_go_on xs) sk x

  -- by one instruction that is no load
  one_way : (i : Instruction) (s : State) (xs : List Line)
      → count_free size xs (branch_target i (takes_branch i s)) ≤ count_one size None (Does i) (count_free size xs)
  one_way i s xs = go (is_branch i) (takes_branch i s) refl (no_branch i s)
    where
      go : (br g : Bool) → is_branch i ≡ br → (is_branch i ≡ false → g ≡ false)
          → count_free size xs (branch_target i g)
          ≤ (if br then count_free size xs (branch_target i true) + count_free size xs (branch_target i false)
          else sized size i (count_free size xs (branch_target i false)))
      go true true e h = omega arith
      go true false e h = omega arith
      go false true e h = absurd (let n = h e in cc)
      go false false e h = sized_more i (count_free size xs (branch_target i false))

  -- by a load
  load_way : (i : Instruction) (xs : List Line) (k : ℕ) → is_load i ≡ true
      → k ≤ size * count_free size xs (branch_target i false)
      → k ≤ count_one size None (Does i) (count_free size xs)
  load_way i xs k d le = go (is_branch i) (is_load i) refl d
    where
      go : (br ld : Bool) → is_branch i ≡ br → ld ≡ true
          → k
          ≤ (if br then count_free size xs (branch_target i true) + count_free size xs (branch_target i false)
          else (if ld then size * count_free size xs (branch_target i false)
          else count_free size xs (branch_target i false)))
      go true ld e h = absurd (let n = branch_no_load i e in cc)
      go false true e h = le
      go false false e h = absurd cc

  abbrev AreFew : List Line → Type 0
  AreFew xs =
      (b : Beginning) → b.stopped ≡ false
      → length (all_from V xs b) ≤ count_free size xs b.walk.seeking

  few_one : (x : Line) (xs : List Line) (b a : Beginning) (n : ℕ) → next V x b ≡ a ∷ []
      → length (all_from V xs a) ≤ n → length (all_from V (x ∷ xs) b) ≤ n
  few_one x xs b a n e h =
      subst (λ (bs : List Beginning). length bs ≤ n) (sym (one_next V x xs b a e)) h

  few_loads : (i : Instruction) (xs : List Line) (b : Beginning) → AreFew xs → b.stopped ≡ false
      → b.walk.seeking ≡ None → is_fault i b.walk.state ≡ false → is_load i ≡ true
      → length (all_from V (Does i ∷ xs) b) ≤ size * count_free size xs (branch_target i false)
  few_loads i xs b ih awake s f d =
      let here : all_from V (Does i ∷ xs) b ≡ flat_map (λ v. all_from V xs (with_load i b v)) V = ap (flat_map (all_from V xs)) (next_load V i b awake s f d) ∙ flat_map-map (all_from V xs) (with_load i b) V in
      let le = all_short V (λ v. all_from V xs (with_load i b v)) (count_free size xs (branch_target i false)) (λ v. ih (with_load i b v) refl) in
      let more = mul-le-mul_right {m = length V} {n = size} (count_free size xs (branch_target i false)) within in
      subst (λ (bs : List Beginning). length bs ≤ size * count_free size xs (branch_target i false))
      (sym here) (omega (arith, le, more))

  few_line : (o : Option ℕ) (x : Line) (xs : List Line) (b : Beginning) → AreFew xs
      → b.stopped ≡ false → b.walk.seeking ≡ o
      → length (all_from V (x ∷ xs) b) ≤ count_one size o x (count_free size xs)
  few_line (Some l) x xs b ih awake s =
      few_one x xs b (record b { walk = walk_past x l b.walk }) (count_free size xs (found_at x l))
      (next_seeking V x b l awake s) (ih (record b { walk = walk_past x l b.walk }) awake)
  few_line None (Label m) xs b ih awake s =
      few_one (Label m) xs b b (count_free size xs None) (next_label V m b awake s)
      (subst (λ (o : Option ℕ). length (all_from V xs b) ≤ count_free size xs o) s (ih b awake))
  few_line None (Does i) xs b ih awake s = go (is_fault i b.walk.state) (is_load i) refl refl
    where
      go : (f d : Bool) → is_fault i b.walk.state ≡ f → is_load i ≡ d
          → length (all_from V (Does i ∷ xs) b) ≤ count_one size None (Does i) (count_free size xs)
      go true d f e =
          let one : length (all_from V xs (record b { stopped = true })) ≡ 1 = ap (λ (bs : List Beginning). length bs) (stopped_stays V xs (record b { stopped = true }) refl) in
          let lt = line_goes_on xs (all_go_on xs) None (Does i) in
          few_one (Does i) xs b (record b { stopped = true })
          (count_one size None (Does i) (count_free size xs)) (next_fault V i b awake s f)
          (omega (arith, one, lt))
      go false true f e =
          load_way i xs (length (all_from V (Does i ∷ xs) b)) e (few_loads i xs b ih awake s f e)
      go false false f e =
          let le = ih (record b { walk = walk_after i (takes_branch i b.walk.state) NoValue b.walk }) awake in
          let more = one_way i b.walk.state xs in
          few_one (Does i) xs b
          (record b { walk = walk_after i (takes_branch i b.walk.state) NoValue b.walk })
          (count_one size None (Does i) (count_free size xs)) (next_plain V i b awake s f e)
          (omega (arith, le, more))

  pub few : (xs : List Line) → AreFew xs
  few [] b awake = omega arith
  few (x ∷ xs) b awake = few_line b.walk.seeking x xs b (few xs) awake refl

-- the runs of a thread, as a list that is not longer than that of its free runs
pub few_runs : (lines : List Line) (first : State) (V : List Value) (size n : ℕ) → AllPairs IsLess V
    → length V ≤ size → 0 < size → n ≡ capped (count_free size lines None) → n < 4097
    → (m : ℕ) × HasRuns (record { lines = lines; first = first }) V m × (m ≤ n)
few_runs lines first V size n rising within some e lt =
    let le = few V size within some lines (beginning_at first) refl in (
      length (all_from V lines (beginning_at first)),
      has_runs (record { lines = lines; first = first }) V
          (length (all_from V lines (beginning_at first))) rising refl,
      (omega (arith, le, e, lt)),
    )
