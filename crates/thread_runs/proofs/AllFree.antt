-- The list of all free runs has just the free runs, each once, and as many as are counted.
use Rattle.std.proofs.Common.{ℕ, ◌≡◌, ◌↔◌, ◌+◌, ◌*◌, inl, inr, Bool, true, false, List, [], ◌∷◌, ◌++◌, map, length, get_or, refl, sym, ap, subst, ◌∙◌, Option, Some, None, if◌then◌else◌, arith}
use Rattle.std.specs.List.{flat_map, Contains, All, AllPairs}
use Rattle.std.proofs.lemmas.List.{length-append, length-map}
use Rattle.std.proofs.lemmas.List.Elements.{Contains-append_left, Contains-append_right, Contains-append_cases, All-nil, All-cons, All-head, All-tail}
use Rattle.thread_runs.specs.declared.value.Value.{Value}
use Rattle.thread_runs.specs.declared.value.Value.TheVariants.{Number, Address, NoValue}
use Rattle.thread_runs.specs.declared.instruction.Instruction.{Instruction}
use Rattle.thread_runs.specs.declared.instruction.Instruction.TheVariants.{Immediate, Move, AddImmediate, Operate, Load, LoadIndexed, Store, StoreIndexed, Compare, CompareImmediate, Branch, Jump, Fence}
use Rattle.thread_runs.specs.declared.instruction.Line.{Line}
use Rattle.thread_runs.specs.declared.instruction.Line.TheVariants.{Label, Does}
use Rattle.thread_runs.specs.declared.state.State.{State}
use Rattle.thread_runs.specs.Machine.{is_load, is_branch, branch_target}
use Rattle.thread_runs.specs.Runs.{Walk, RunOutcome, IsLess, walk_at, ended, walk_after, walk_past, after_load, free_ends, after_free_instruction, after_free_line, free_from}
use Rattle.thread_runs.specs.FreeRuns.{FreeRun, IsOtherFreeRun, HasFreeRuns, sized, count_one, count_free, capped}
use Rattle.thread_runs.proofs.RunsExact.{contains_one, one_contains, flat_map_contains, contains_flat_map, map_contains, contains_map, pairs_append, pairs_one, pairs_map, pairs_flat_map}

abbrev pub chose : Bool → FreeRun → FreeRun
chose b r = record r { choices = b ∷ r.choices }

abbrev pub took : Value → FreeRun → FreeRun
took v r = record r { values = v ∷ r.values }

abbrev Lists : Type 0
Lists = Walk → List FreeRun

abbrev all_supplied : List Value → Bool → Instruction → Bool → Lists → Lists
all_supplied V true i b go w = flat_map (λ v. map (took v) (go (walk_after i b v w))) V
all_supplied V false i b go w = go (walk_after i b NoValue w)

abbrev all_obeyed : List Value → Bool → Instruction → Lists → Lists
all_obeyed V true i go w =
    map (chose true) (all_supplied V (is_load i) i true go w)
    ++ map (chose false) (all_supplied V (is_load i) i false go w)
all_obeyed V false i go w = all_supplied V (is_load i) i false go w

abbrev all_one : List Value → Option ℕ → Line → Lists → Lists
all_one V (Some l) x go w = go (walk_past x l w)
all_one V None (Label m) go w = go w
all_one V None (Does i) go w = all_obeyed V (is_branch i) i go w

abbrev made : List Bool → List Value → RunOutcome → FreeRun
made bs vs o = record { choices = bs; values = vs; outcome = o }

abbrev pub all_free : List Value → List Line → Lists
all_free V [] w = made [] [] (ended false w) ∷ []
all_free V (x ∷ xs) w = all_one V w.seeking x (all_free V xs) w

-- which they are
same_made : (ds bs : List Bool) (us vs : List Value) (o p : RunOutcome) → ds ≡ bs → us ≡ vs → o ≡ p
    → made ds us o ≡ made bs vs p
same_made ds bs us vs o p e f g = cc

took_as : (v : Value) (L : List FreeRun) (bs : List Bool) (vs : List Value) (o : RunOutcome)
    → Contains (map (took v) L) (made bs vs o)
    → (us : List Value) × (vs ≡ v ∷ us) × Contains L (made bs us o)
took_as v L bs vs o h =
    let (r, within, e) = map_contains (took v) L (made bs vs o) h in (
      r.values,
      sym (ap (λ (s : FreeRun). s.values) e),
      subst (λ (s : FreeRun). Contains L s)
          (same_made r.choices bs r.values r.values r.outcome o
          (ap (λ (s : FreeRun). s.choices) e) refl (ap (λ (s : FreeRun). s.outcome) e))
          within,
    )

chose_as : (b : Bool) (L : List FreeRun) (bs : List Bool) (vs : List Value) (o : RunOutcome)
    → Contains (map (chose b) L) (made bs vs o)
    → (cs : List Bool) × (bs ≡ b ∷ cs) × Contains L (made cs vs o)
chose_as b L bs vs o h =
    let (r, within, e) = map_contains (chose b) L (made bs vs o) h in (
      r.choices,
      sym (ap (λ (s : FreeRun). s.choices) e),
      subst (λ (s : FreeRun). Contains L s)
          (same_made r.choices r.choices r.values vs r.outcome o refl
          (ap (λ (s : FreeRun). s.values) e) (ap (λ (s : FreeRun). s.outcome) e)) within,
    )

module _ (V : List Value) where
  -- what a list of free runs must have
  abbrev Holds : List Bool → List Value → RunOutcome → Option RunOutcome → Type 0
  Holds bs vs o end = All (Contains V) vs × (end ≡ Some o)

  abbrev IsExact : List Line → Type 0
  IsExact xs =
      (w : Walk) (bs : List Bool) (vs : List Value) (o : RunOutcome)
      → Contains (all_free V xs w) (made bs vs o) ↔ Holds bs vs o (free_from xs w bs vs)

  exact_end : (w : Walk) (bs : List Bool) (vs : List Value) (o : RunOutcome)
      → Contains (made [] [] (ended false w) ∷ []) (made bs vs o)
      ↔ Holds bs vs o (free_ends w bs vs)
  exact_end w [] [] o = (
    (λ h. (
      All-nil (Contains V),
      ap (λ (s : FreeRun). Some s.outcome)
          (contains_one (made [] [] (ended false w)) (made [] [] o) h),
    )),
    (λ h. one_contains (made [] [] (ended false w)) (made [] [] o) (let e = h.1 in cc)),
  )
  exact_end w [] (v ∷ vs) o = (
    (λ h.
        let e =
        ap (λ (s : FreeRun). s.values) (contains_one (made [] [] (ended false w))
        (made [] (v ∷ vs) o) h) in
        absurd cc),
    (λ h. let e = h.1 in absurd cc),
  )
  exact_end w (b ∷ bs) vs o = (
    (λ h.
        let e =
        ap (λ (s : FreeRun). s.choices) (contains_one (made [] [] (ended false w))
        (made (b ∷ bs) vs o) h) in
        absurd cc),
    (λ h. let e = h.1 in absurd cc),
  )

  exact_supplied : (ld : Bool) (i : Instruction) (b : Bool) (xs : List Line) → IsExact xs
      → (w : Walk) (bs : List Bool) (vs : List Value) (o : RunOutcome)
      → Contains (all_supplied V ld i b (all_free V xs) w) (made bs vs o)
      ↔ Holds bs vs o (after_load ld i b (λ u us. free_from xs u bs us) w vs)
  exact_supplied false i b xs ih w bs vs o = ih (walk_after i b NoValue w) bs vs o
  exact_supplied true i b xs ih w bs vs o = (forth, back vs)
    where
      Each : Value → List FreeRun
      Each v = map (took v) (all_free V xs (walk_after i b v w))

      forth : Contains (flat_map (λ v. map (took v) (all_free V xs (walk_after i b v w))) V)
          (made bs vs o) → Holds bs vs o (after_load true i b (λ u us. free_from xs u bs us) w vs)
      forth h =
          let (v, within, found) = flat_map_contains (λ v. map (took v) (all_free V xs (walk_after i b v w))) V (made bs vs o) h in
          let (us, e, there) = took_as v (all_free V xs (walk_after i b v w)) bs vs o found in
          let holds = (ih (walk_after i b v w) bs us o).0 there in
          subst
          (λ (ws : List Value).
          Holds bs ws o (after_load true i b (λ u us. free_from xs u bs us) w ws))
          (sym e)
          (All-cons (Contains V) v us within holds.0, holds.1)

      back : (ws : List Value)
          → Holds bs ws o (after_load true i b (λ u us. free_from xs u bs us) w ws)
          → Contains (flat_map (λ v. map (took v) (all_free V xs (walk_after i b v w))) V)
          (made bs ws o)
      back [] h = let e = h.1 in absurd cc
      back (v ∷ us) h =
          contains_flat_map (λ v. map (took v) (all_free V xs (walk_after i b v w))) V v
          (made bs (v ∷ us) o) (All-head (Contains V) v us h.0)
          (contains_map (took v) (all_free V xs (walk_after i b v w)) (made bs us o)
          ((ih (walk_after i b v w) bs us o).1 (All-tail (Contains V) v us h.0, h.1)))

  exact_obeyed : (br : Bool) (i : Instruction) (xs : List Line) → IsExact xs
      → (w : Walk) (bs : List Bool) (vs : List Value) (o : RunOutcome)
      → Contains (all_obeyed V br i (all_free V xs) w) (made bs vs o)
      ↔ Holds bs vs o (after_free_instruction br i (free_from xs) w bs vs)
  exact_obeyed false i xs ih w bs vs o = exact_supplied (is_load i) i false xs ih w bs vs o
  exact_obeyed true i xs ih w bs vs o = (forth, back bs)
    where
      forth : Contains (all_obeyed V true i (all_free V xs) w) (made bs vs o)
          → Holds bs vs o (after_free_instruction true i (free_from xs) w bs vs)
      forth h =
          elim
          (Contains-append_cases
          (map (chose true) (all_supplied V (is_load i) i true (all_free V xs) w))
          (map (chose false) (all_supplied V (is_load i) i false (all_free V xs) w))
          (made bs vs o) h) [
            | inl one ↦
                let (cs, e, there) = chose_as true (all_supplied V (is_load i) i true (all_free V xs) w) bs vs o one in
                subst (λ (ds : List Bool).
                Holds ds vs o (after_free_instruction true i (free_from xs) w ds vs))
                (sym e) ((exact_supplied (is_load i) i true xs ih w cs vs o).0 there)
            | inr one ↦
                let (cs, e, there) = chose_as false (all_supplied V (is_load i) i false (all_free V xs) w) bs vs o one in
                subst (λ (ds : List Bool).
                Holds ds vs o (after_free_instruction true i (free_from xs) w ds vs))
                (sym e) ((exact_supplied (is_load i) i false xs ih w cs vs o).0 there)
          ]

      back : (ds : List Bool) → Holds ds vs o (after_free_instruction true i (free_from xs) w ds vs)
          → Contains (all_obeyed V true i (all_free V xs) w) (made ds vs o)
      back [] h = let e = h.1 in absurd cc
      back (true ∷ cs) h =
          Contains-append_left
          (map (chose true) (all_supplied V (is_load i) i true (all_free V xs) w))
          (map (chose false) (all_supplied V (is_load i) i false (all_free V xs) w))
          (made (true ∷ cs) vs o)
          (contains_map (chose true) (all_supplied V (is_load i) i true (all_free V xs) w)
          (made cs vs o) ((exact_supplied (is_load i) i true xs ih w cs vs o).1 h))
      back (false ∷ cs) h =
          Contains-append_right
          (map (chose true) (all_supplied V (is_load i) i true (all_free V xs) w))
          (map (chose false) (all_supplied V (is_load i) i false (all_free V xs) w))
          (made (false ∷ cs) vs o)
          (contains_map (chose false) (all_supplied V (is_load i) i false (all_free V xs) w)
          (made cs vs o) ((exact_supplied (is_load i) i false xs ih w cs vs o).1 h))

  exact_one : (sk : Option ℕ) (x : Line) (xs : List Line) → IsExact xs
      → (w : Walk) (bs : List Bool) (vs : List Value) (o : RunOutcome)
      → Contains (all_one V sk x (all_free V xs) w) (made bs vs o)
      ↔ Holds bs vs o (after_free_line sk x (free_from xs) w bs vs)
  exact_one (Some l) x xs ih w bs vs o = ih (walk_past x l w) bs vs o
  exact_one None (Label m) xs ih w bs vs o = ih w bs vs o
  exact_one None (Does i) xs ih w bs vs o = exact_obeyed (is_branch i) i xs ih w bs vs o

  pub exact : (xs : List Line) → IsExact xs
  exact [] w bs vs o = exact_end w bs vs o
  exact (x ∷ xs) w bs vs o = exact_one w.seeking x xs (exact xs) w bs vs o

  -- each once
  module _ (apart : AllPairs (λ u v. u ≡ v → ⊥) V) where
    once_supplied : (ld : Bool) (i : Instruction) (b : Bool) (xs : List Line)
        → ((u : Walk) → AllPairs IsOtherFreeRun (all_free V xs u)) → (w : Walk)
        → AllPairs IsOtherFreeRun (all_supplied V ld i b (all_free V xs) w)
    once_supplied false i b xs ih w = ih (walk_after i b NoValue w)
    once_supplied true i b xs ih w =
        pairs_flat_map (λ u v. u ≡ v → ⊥) IsOtherFreeRun
        (λ v. map (took v) (all_free V xs (walk_after i b v w))) V apart
        (λ v. pairs_map IsOtherFreeRun (took v) (all_free V xs (walk_after i b v w))
        (λ j k d lt below e f. ih (walk_after i b v w) j k d lt below e (let t = f in cc)))
        (λ u v other r s h k e f.
        let (p, _, q) = map_contains (took u) (all_free V xs (walk_after i b u w)) r h in
        let (y, _, z) = map_contains (took v) (all_free V xs (walk_after i b v w)) s k in
        other (let a = ap (λ (t : FreeRun). t.values) q in
        let c = ap (λ (t : FreeRun). t.values) z in cc))

    once_obeyed : (br : Bool) (i : Instruction) (xs : List Line)
        → ((u : Walk) → AllPairs IsOtherFreeRun (all_free V xs u)) → (w : Walk)
        → AllPairs IsOtherFreeRun (all_obeyed V br i (all_free V xs) w)
    once_obeyed false i xs ih w = once_supplied (is_load i) i false xs ih w
    once_obeyed true i xs ih w =
        pairs_append IsOtherFreeRun
        (map (chose true) (all_supplied V (is_load i) i true (all_free V xs) w))
        (map (chose false) (all_supplied V (is_load i) i false (all_free V xs) w))
        (pairs_map IsOtherFreeRun (chose true) (all_supplied V (is_load i) i true (all_free V xs) w)
        (λ j k d lt below e f.
        once_supplied (is_load i) i true xs ih w j k d lt below (let t = e in cc) f))
        (pairs_map IsOtherFreeRun (chose false) (all_supplied V (is_load i) i false (all_free V xs) w)
        (λ j k d lt below e f.
        once_supplied (is_load i) i false xs ih w j k d lt below (let t = e in cc) f))
        (λ r s h k e f.
        let (p, _, q) = map_contains (chose true) (all_supplied V (is_load i) i true (all_free V xs) w) r h in
        let (y, _, z) = map_contains (chose false) (all_supplied V (is_load i) i false (all_free V xs) w) s k in
        let a = ap (λ (t : FreeRun). t.choices) q in let c = ap (λ (t : FreeRun). t.choices) z in absurd cc)

    once_one : (sk : Option ℕ) (x : Line) (xs : List Line)
        → ((u : Walk) → AllPairs IsOtherFreeRun (all_free V xs u)) → (w : Walk)
        → AllPairs IsOtherFreeRun (all_one V sk x (all_free V xs) w)
    once_one (Some l) x xs ih w = ih (walk_past x l w)
    once_one None (Label m) xs ih w = ih w
    once_one None (Does i) xs ih w = once_obeyed (is_branch i) i xs ih w

    pub once : (xs : List Line) (w : Walk) → AllPairs IsOtherFreeRun (all_free V xs w)
    once [] w = pairs_one IsOtherFreeRun (made [] [] (ended false w))
    once (x ∷ xs) w = once_one w.seeking x xs (once xs) w

-- how many
many : (V : List Value) (f : Value → List FreeRun) (n : ℕ) → ((v : Value) → length (f v) ≡ n)
    → length (flat_map f V) ≡ length V * n
many [] f n each = omega arith
many (v ∷ vs) f n each =
    let one = each v in
    let rest : length (flat_map f vs) ≡ length vs * n = many vs f n each in
    length-append (f v) (flat_map f vs) ∙ omega (arith, one, rest)

abbrev IsCounted : List Value → List Line → Type 0
IsCounted V xs = (w : Walk) → length (all_free V xs w) ≡ count_free (length V) xs w.seeking

counted_supplied : (V : List Value) (ld : Bool) (i : Instruction) (b : Bool) (xs : List Line)
    → IsCounted V xs → (w : Walk)
    → length (all_supplied V ld i b (all_free V xs) w) ≡ (if ld then length V
    * count_free (length V) xs (branch_target i b)
    else count_free (length V) xs (branch_target i b))
counted_supplied V true i b xs ih w =
    many V (λ v. map (took v) (all_free V xs (walk_after i b v w)))
    (count_free (length V) xs (branch_target i b))
    (λ v. length-map (all_free V xs (walk_after i b v w)) (took v) ∙ ih (walk_after i b v w))
counted_supplied V false i b xs ih w = ih (walk_after i b NoValue w)

pub branch_no_load : (i : Instruction) → is_branch i ≡ true → is_load i ≡ false
branch_no_load (Branch c l) e = refl
branch_no_load (Load d a) e = absurd cc
branch_no_load (LoadIndexed d a b) e = absurd cc
branch_no_load (Immediate d n) e = refl
branch_no_load (Move d a) e = refl
branch_no_load (AddImmediate d a n) e = refl
branch_no_load (Operate o d a b) e = refl
branch_no_load (Store d a) e = refl
branch_no_load (StoreIndexed d a b) e = refl
branch_no_load (Compare a b) e = refl
branch_no_load (CompareImmediate a n) e = refl
branch_no_load (Jump l) e = refl
branch_no_load (Fence f) e = refl

counted_obeyed : (V : List Value) (br : Bool) (i : Instruction) (xs : List Line) → is_branch i ≡ br
    → IsCounted V xs → (w : Walk)
    → length (all_obeyed V br i (all_free V xs) w) ≡ (if br then count_free (length V) xs
    (branch_target i true) + count_free (length V) xs (branch_target i false)
    else sized (length V) i (count_free (length V) xs (branch_target i false)))
counted_obeyed V true i xs is ih w =
    let yes_part = length-map (all_supplied V (is_load i) i true (all_free V xs) w) (chose true) ∙ counted_supplied V (is_load i) i true xs ih w ∙ ap (λ (b : Bool). if b then length V * count_free (length V) xs (branch_target i true) else count_free (length V) xs (branch_target i true)) (branch_no_load i is) in
    let no_part = length-map (all_supplied V (is_load i) i false (all_free V xs) w) (chose false) ∙ counted_supplied V (is_load i) i false xs ih w ∙ ap (λ (b : Bool). if b then length V * count_free (length V) xs (branch_target i false) else count_free (length V) xs (branch_target i false)) (branch_no_load i is) in
    length-append (map (chose true) (all_supplied V (is_load i) i true (all_free V xs) w))
    (map (chose false) (all_supplied V (is_load i) i false (all_free V xs) w))
    ∙ omega (arith, yes_part, no_part)
counted_obeyed V false i xs is ih w = counted_supplied V (is_load i) i false xs ih w

counted_one : (V : List Value) (sk : Option ℕ) (x : Line) (xs : List Line) → IsCounted V xs
    → (w : Walk) → w.seeking ≡ sk
    → length (all_one V sk x (all_free V xs) w)
    ≡ count_one (length V) sk x (count_free (length V) xs)
counted_one V (Some l) x xs ih w s = ih (walk_past x l w)
counted_one V None (Label m) xs ih w s = ih w ∙ ap (λ (o : Option ℕ). count_free (length V) xs o) s
counted_one V None (Does i) xs ih w s = counted_obeyed V (is_branch i) i xs refl ih w

-- the count is right, whatever the state
pub counted : (V : List Value) (xs : List Line) → IsCounted V xs
counted V [] w = omega arith
counted V (x ∷ xs) w = counted_one V w.seeking x xs (counted V xs) w refl

never_less : (v : Value) → IsLess v v → ⊥
never_less (Number n) lt = omega arith
never_less (Address l) lt = omega arith
never_less NoValue lt = lt

pub less_apart : (V : List Value) → AllPairs IsLess V → AllPairs (λ u v. u ≡ v → ⊥) V
less_apart V rising j k d lt below e =
    never_less (get_or V j d) (subst (λ (v : Value). IsLess (get_or V j d) v) (sym e)
    (rising j k d lt below))

-- the free runs of a thread, as a list
pub has_free_runs : (lines : List Line) (first : State) (V : List Value) (size n : ℕ)
    → AllPairs IsLess V → length V ≡ size → n ≡ capped (count_free size lines None)
    → (m : ℕ) × HasFreeRuns (record { lines = lines; first = first }) V m × (n ≡ capped m)
has_free_runs lines first V size n rising e f = (
  count_free (length V) lines None,
  (
    all_free V lines (walk_at first),
    record {
      once = once V (less_apart V rising) lines (walk_at first);
      exact = λ r. exact V lines (walk_at first) r.choices r.values r.outcome;
    },
    counted V lines (walk_at first),
  ),
  f ∙ ap (λ (s : ℕ). capped (count_free s lines None)) (sym e),
)
