-- The list of all runs has just the runs of the thread, in lexicographic order.
use Rattle.std.proofs.Common.{ℕ, zero, suc, ◌≡◌, ◌↔◌, ◌<◌, inl, inr, Bool, true, false, List, [], ◌∷◌, ◌++◌, map, length, get_or, refl, sym, ap, subst, ◌∙◌, Option, Some, None, if◌then◌else◌, append_assoc, arith}
use Rattle.std.specs.List.{flat_map, Contains, All, AllPairs}
use Rattle.std.proofs.lemmas.List.{append-nil, length-map}
use Rattle.std.proofs.lemmas.List.Elements.{Contains-push, Contains-push_cases, Contains-append_left, Contains-append_right, Contains-append_cases, Contains-get_or, All-nil, All-cons, All-head, All-tail, All-append, All-contains}
use Rattle.std.proofs.lemmas.List.Kept.{AllPairs-cons}
use Rattle.std.proofs.lemmas.List.Folds.{flat_map-map}
use Rattle.std.proofs.lemmas.Option.{same_Some}
use Rattle.thread_runs.specs.declared.value.Value.{Value}
use Rattle.thread_runs.specs.declared.value.Value.TheVariants.{NoValue}
use Rattle.thread_runs.specs.declared.instruction.Instruction.{Instruction}
use Rattle.thread_runs.specs.declared.instruction.Instruction.TheVariants.{Immediate, Move, AddImmediate, Operate, Load, LoadIndexed, Store, StoreIndexed, Compare, CompareImmediate, Branch, Jump, Fence}
use Rattle.thread_runs.specs.declared.instruction.Line.{Line}
use Rattle.thread_runs.specs.declared.instruction.Line.TheVariants.{Label, Does}
use Rattle.thread_runs.specs.declared.state.State.{State}
use Rattle.thread_runs.specs.Machine.{is_load, is_fault, takes_branch}
use Rattle.thread_runs.specs.Runs.{Walk, Run, RunOutcome, Thread, ended, ends, walk_after, walk_past, after_load, after_instruction, after_line, run_from, run_of, IsLexicallyBefore, IsLess, IsThreadRun, AreThreadRuns}
use Rattle.thread_runs.specs.declared.run.Run as made
use Rattle.thread_runs.specs.AllRuns.{Beginning, beginning_at, gone_over, beginning_past, over_instruction, is_executing, with_load, spread, next, all_from, whole, run_shown, shown_run, shown_whole, HasRuns, ShowsRuns}
use Rattle.thread_runs.proofs.Pairs.{pairs_head, pairs_tail, pairs_none}

-- elements
pub contains_one : {A : Type 0} (y x : A) → Contains (y ∷ []) x → y ≡ x
contains_one y x h =
    elim (Contains-push_cases [] y x h) [
      | inl none ↦ absurd (let lt = none.1 in omega arith)
      | inr e
          ↦ e
    ]

pub one_contains : {A : Type 0} (y x : A) → y ≡ x → Contains (y ∷ []) x
one_contains y x e = subst (λ (z : _). Contains (y ∷ []) z) e (Contains-push [] y)

pub flat_map_contains : {A B : Type 0} (f : A → List B) (xs : List A) (c : B)
    → Contains (flat_map f xs) c → (x : A) × Contains xs x × Contains (f x) c
flat_map_contains f [] c h = absurd (let lt = h.1 in omega arith)
flat_map_contains f (x ∷ xs) c h = elim (Contains-append_cases (f x) (flat_map f xs) c h) [
  | inl here ↦ (x, Contains-append_left (x ∷ []) xs x (Contains-push [] x), here)
  | inr there ↦
      let (y, within, found) = flat_map_contains f xs c there in
      (y, Contains-append_right (x ∷ []) xs y within, found)
]

pub contains_flat_map : {A B : Type 0} (f : A → List B) (xs : List A) (x : A) (c : B)
    → Contains xs x → Contains (f x) c → Contains (flat_map f xs) c
contains_flat_map f xs x c h found = go xs h.0 h.1 h.2
  where
    go : (ys : List _) (k : ℕ) → k < length ys → get_or ys k x ≡ x → Contains (flat_map f ys) c
    go [] k lt e = absurd (omega arith)
    go (y ∷ ys) zero lt e =
        Contains-append_left (f y) (flat_map f ys) c
        (subst (λ (z : _). Contains (f z) c) (sym e) found)
    go (y ∷ ys) (suc k) lt e =
        Contains-append_right (f y) (flat_map f ys) c (go ys k (omega arith) e)

-- one step of a beginning
load_goes : (i : Instruction) (s : State) → is_load i ≡ true → takes_branch i s ≡ false
load_goes (Load d a) s e = refl
load_goes (LoadIndexed d a b) s e = refl
load_goes (Immediate d n) s e = refl
load_goes (Move d a) s e = refl
load_goes (AddImmediate d a n) s e = refl
load_goes (Operate o d a b) s e = refl
load_goes (Store d a) s e = refl
load_goes (StoreIndexed d a b) s e = refl
load_goes (Compare a b) s e = refl
load_goes (CompareImmediate a n) s e = refl
load_goes (Branch c l) s e = absurd cc
load_goes (Jump l) s e = refl
load_goes (Fence f) s e = refl

over_stopped : (x : Line) (b : Beginning) → b.stopped ≡ true → gone_over x b ≡ b
over_stopped x b e = ap (λ (s : Bool). if s then b else beginning_past b.walk.seeking x b) e

over_awake : (x : Line) (b : Beginning) → b.stopped ≡ false
    → gone_over x b ≡ beginning_past b.walk.seeking x b
over_awake x b e = ap (λ (s : Bool). if s then b else beginning_past b.walk.seeking x b) e

-- a line that is not executed as a load
module _ (V : List Value) where
  not_spread : (i : Instruction) (b : Beginning)
      → is_executing b.stopped b.walk.seeking (is_fault i b.walk.state) ≡ false
      → next V (Does i) b ≡ gone_over (Does i) b ∷ []
  not_spread i b e = go (is_load i)
    where
      go : (ld : Bool)
          → (if ld then spread V i b else gone_over (Does i) b ∷ []) ≡ gone_over (Does i) b ∷ []
      go true = ap (λ (x : Bool). if x then map (with_load i b) V else gone_over (Does i) b ∷ []) e
      go false = refl

  next_stopped : (x : Line) (b : Beginning) → b.stopped ≡ true → next V x b ≡ b ∷ []
  next_stopped (Label m) b e = ap (λ (a : Beginning). a ∷ []) (over_stopped (Label m) b e)
  next_stopped (Does i) b e =
      not_spread i b (ap (λ (s : Bool). is_executing s b.walk.seeking (is_fault i b.walk.state)) e)
      ∙ ap (λ (a : Beginning). a ∷ []) (over_stopped (Does i) b e)

  pub next_seeking : (x : Line) (b : Beginning) (l : ℕ) → b.stopped ≡ false
      → b.walk.seeking ≡ Some l → next V x b ≡ record b { walk = walk_past x l b.walk } ∷ []
  next_seeking (Label m) b l e s =
      ap (λ (a : Beginning). a ∷ []) (over_awake (Label m) b e
      ∙ ap (λ (o : Option ℕ). beginning_past o (Label m) b) s)
  next_seeking (Does i) b l e s =
      not_spread i b (ap (λ (t : Bool). is_executing t b.walk.seeking (is_fault i b.walk.state)) e
      ∙ ap (λ (o : Option ℕ). is_executing false o (is_fault i b.walk.state)) s)
      ∙ ap (λ (a : Beginning). a ∷ []) (over_awake (Does i) b e
      ∙ ap (λ (o : Option ℕ). beginning_past o (Does i) b) s)

  pub next_label : (m : ℕ) (b : Beginning) → b.stopped ≡ false → b.walk.seeking ≡ None
      → next V (Label m) b ≡ b ∷ []
  next_label m b e s =
      ap (λ (a : Beginning). a ∷ []) (over_awake (Label m) b e
      ∙ ap (λ (o : Option ℕ). beginning_past o (Label m) b) s)

  pub next_fault : (i : Instruction) (b : Beginning) → b.stopped ≡ false → b.walk.seeking ≡ None
      → is_fault i b.walk.state ≡ true → next V (Does i) b ≡ record b { stopped = true } ∷ []
  next_fault i b e s f =
      not_spread i b (ap (λ (t : Bool). is_executing t b.walk.seeking (is_fault i b.walk.state)) e
      ∙ ap (λ (o : Option ℕ). is_executing false o (is_fault i b.walk.state)) s
      ∙ ap (λ (t : Bool). is_executing false None t) f)
      ∙ ap (λ (a : Beginning). a ∷ []) (over_awake (Does i) b e
      ∙ ap (λ (o : Option ℕ). beginning_past o (Does i) b) s
      ∙ ap (λ (t : Bool). over_instruction t i b) f)

  pub next_plain : (i : Instruction) (b : Beginning) → b.stopped ≡ false → b.walk.seeking ≡ None
      → is_fault i b.walk.state ≡ false → is_load i ≡ false
      → next V (Does i) b ≡ record b { walk = walk_after i (takes_branch i b.walk.state) NoValue b.walk } ∷ []
  next_plain i b e s f d =
      ap (λ (t : Bool). if t then spread V i b else gone_over (Does i) b ∷ []) d
      ∙ ap (λ (a : Beginning). a ∷ []) (over_awake (Does i) b e
      ∙ ap (λ (o : Option ℕ). beginning_past o (Does i) b) s
      ∙ ap (λ (t : Bool). over_instruction t i b) f)

  pub next_load : (i : Instruction) (b : Beginning) → b.stopped ≡ false → b.walk.seeking ≡ None
      → is_fault i b.walk.state ≡ false → is_load i ≡ true
      → next V (Does i) b ≡ map (with_load i b) V
  next_load i b e s f d =
      ap (λ (t : Bool). if t then spread V i b else gone_over (Does i) b ∷ []) d
      ∙ ap (λ (t : Bool). if t then map (with_load i b) V else gone_over (Does i) b ∷ [])
      (ap (λ (t : Bool). is_executing t b.walk.seeking (is_fault i b.walk.state)) e
      ∙ ap (λ (o : Option ℕ). is_executing false o (is_fault i b.walk.state)) s
      ∙ ap (λ (t : Bool). is_executing false None t) f)

  pub one_next : (x : Line) (xs : List Line) (b a : Beginning) → next V x b ≡ a ∷ []
      → all_from V (x ∷ xs) b ≡ all_from V xs a
  one_next x xs b a e = ap (flat_map (all_from V xs)) e ∙ append-nil (all_from V xs a)

  pub stopped_stays : (xs : List Line) (b : Beginning) → b.stopped ≡ true → all_from V xs b ≡ b ∷ []
  stopped_stays [] b e = refl
  stopped_stays (x ∷ xs) b e = one_next x xs b b (next_stopped x b e) ∙ stopped_stays xs b e

  -- the whole one goes on from the beginning, as a run does, with further values
  pub record Extends (xs : List Line) (b c : Beginning) : Type 0 where
    pub further : List Value
    pub allowed : All (Contains V) further
    pub values : c.values ≡ b.values ++ further
    pub run : run_from xs b.walk further ≡ Some (ended c.stopped c.walk)

  abbrev so_made : List Value → Bool → Walk → Beginning
  so_made u s w = record { values = u; stopped = s; walk = w }

  same_beginning : (b c : Beginning) → b.values ≡ c.values → b.stopped ≡ c.stopped → b.walk ≡ c.walk
      → b ≡ c
  same_beginning b c p q r = go b.values c.values b.stopped c.stopped b.walk c.walk p q r
    where
      go : (u v : List Value) (s t : Bool) (w x : Walk) → u ≡ v → s ≡ t → w ≡ x
          → so_made u s w ≡ so_made v t x
      go u v s t w x p q r = cc

  extends_end : (b c : Beginning) → b.stopped ≡ false → (b ≡ c) ↔ Extends [] b c
  extends_end b c awake = (forth, back)
    where
      forth : b ≡ c → Extends [] b c
      forth e = record {
        further = [];
        allowed = All-nil (Contains V);
        values = ap (λ (a : Beginning). a.values) (sym e) ∙ sym (append-nil b.values);
        run =
            ap (λ (s : Bool). Some (ended s b.walk)) (sym awake)
            ∙ ap (λ (a : Beginning). Some (ended a.stopped a.walk)) e;
      }

      ended_so : (vs : List Value) → c.values ≡ b.values ++ vs
          → ends false b.walk vs ≡ Some (ended c.stopped c.walk) → b ≡ c
      ended_so [] p r =
          let o = same_Some _ _ r in
          same_beginning b c (sym (p ∙ append-nil b.values))
          (awake ∙ ap (λ (z : RunOutcome). z.faulted) o) (ap (λ (z : RunOutcome). z.walk) o)
      ended_so (v ∷ vs) p r = absurd cc

      back : Extends [] b c → b ≡ c
      back x = ended_so x.further x.values x.run

  -- the same values go on to the same end
  extends_same : (xs ys : List Line) (b a c : Beginning) → b.values ≡ a.values
      → ((vs : List Value) → run_from xs b.walk vs ≡ run_from ys a.walk vs) → Extends ys a c
      → Extends xs b c
  extends_same xs ys b a c p q x = record {
    further = x.further;
    allowed = x.allowed;
    values = x.values ∙ ap (λ (vs : List Value). vs ++ x.further) (sym p);
    run = q x.further ∙ x.run;
  }

  abbrev IsExact : List Line → Type 0
  IsExact xs = (b c : Beginning) → b.stopped ≡ false → Contains (all_from V xs b) c ↔ Extends xs b c

  by_one : (x : Line) (xs : List Line) (b a c : Beginning) → IsExact xs → a.stopped ≡ false
      → next V x b ≡ a ∷ [] → b.values ≡ a.values
      → ((vs : List Value) → run_from (x ∷ xs) b.walk vs ≡ run_from xs a.walk vs)
      → Contains (all_from V (x ∷ xs) b) c ↔ Extends (x ∷ xs) b c
  by_one x xs b a c ih awake n p q = (
    (λ h. extends_same (x ∷ xs) xs b a c p q ((ih a c awake).0 (subst
        (λ (bs : List Beginning). Contains bs c) (one_next x xs b a n) h))),
    (λ h. subst (λ (bs : List Beginning). Contains bs c) (sym (one_next x xs b a n))
        ((ih a c awake).1 (extends_same xs (x ∷ xs) a b c (sym p) (λ vs. sym (q vs)) h))),
  )

  seeks : (x : Line) (xs : List Line) (w : Walk) (vs : List Value) (o : Option ℕ) → w.seeking ≡ o
      → run_from (x ∷ xs) w vs ≡ after_line o x (run_from xs) w vs
  seeks x xs w vs o s = ap (λ (p : Option ℕ). after_line p x (run_from xs) w vs) s

  by_fault : (i : Instruction) (xs : List Line) (b c : Beginning) → b.stopped ≡ false
      → b.walk.seeking ≡ None → is_fault i b.walk.state ≡ true
      → Contains (all_from V (Does i ∷ xs) b) c ↔ Extends (Does i ∷ xs) b c
  by_fault i xs b c awake s f = (
    (λ h. let e : a ≡ c =
        contains_one a c (subst (λ (bs : List Beginning). Contains bs c) here h) in record {
          further = [];
          allowed = All-nil (Contains V);
          values = ap (λ (z : Beginning). z.values) (sym e) ∙ sym (append-nil b.values);
          run = runs [] ∙ ap (λ (z : Beginning). Some (ended z.stopped z.walk)) e;
        }),
    (λ x. subst (λ (bs : List Beginning). Contains bs c) (sym here) (one_contains a c
        (ended_so x.further x.values (sym (runs x.further) ∙ x.run)))),
  )
    where
      a : Beginning
      a = record b { stopped = true }

      here : all_from V (Does i ∷ xs) b ≡ a ∷ []
      here = one_next (Does i) xs b a (next_fault i b awake s f) ∙ stopped_stays xs a refl

      runs : (vs : List Value) → run_from (Does i ∷ xs) b.walk vs ≡ ends true b.walk vs
      runs vs =
          seeks (Does i) xs b.walk vs None s
          ∙ ap (λ (t : Bool). after_instruction t i (run_from xs) b.walk vs) f

      ended_so : (vs : List Value) → c.values ≡ b.values ++ vs
          → ends true b.walk vs ≡ Some (ended c.stopped c.walk) → a ≡ c
      ended_so [] p r =
          let o = same_Some _ _ r in
          same_beginning a c (sym (p ∙ append-nil b.values)) (ap (λ (z : RunOutcome). z.faulted) o)
          (ap (λ (z : RunOutcome). z.walk) o)
      ended_so (v ∷ vs) p r = absurd cc

  by_load : (i : Instruction) (xs : List Line) (b c : Beginning) → IsExact xs → b.stopped ≡ false
      → b.walk.seeking ≡ None → is_fault i b.walk.state ≡ false → is_load i ≡ true
      → Contains (all_from V (Does i ∷ xs) b) c ↔ Extends (Does i ∷ xs) b c
  by_load i xs b c ih awake s f d = (
    (λ h. let (v, within, found) =
        flat_map_contains (λ v. all_from V xs (with_load i b v)) V c
        (subst (λ (bs : List Beginning). Contains bs c) here h) in
        longer v within ((ih (with_load i b v) c refl).0 found)),
    (λ x. subst (λ (bs : List Beginning). Contains bs c) (sym here)
        (shorter x.further x.allowed x.values x.run)),
  )
    where
      here : all_from V (Does i ∷ xs) b ≡ flat_map (λ v. all_from V xs (with_load i b v)) V
      here =
          ap (flat_map (all_from V xs)) (next_load i b awake s f d)
          ∙ flat_map-map (all_from V xs) (with_load i b) V

      runs : (vs : List Value)
          → run_from (Does i ∷ xs) b.walk vs ≡ after_load true i false (run_from xs) b.walk vs
      runs vs =
          seeks (Does i) xs b.walk vs None s
          ∙ ap (λ (t : Bool). after_instruction t i (run_from xs) b.walk vs) f
          ∙ ap (λ (t : Bool). after_load t i (takes_branch i b.walk.state) (run_from xs) b.walk vs) d
          ∙ ap (λ (t : Bool). after_load true i t (run_from xs) b.walk vs)
          (load_goes i b.walk.state d)

      longer : (v : Value) → Contains V v → Extends xs (with_load i b v) c
          → Extends (Does i ∷ xs) b c
      longer v within x = record {
        further = v ∷ x.further;
        allowed = All-cons (Contains V) v x.further within x.allowed;
        values = x.values ∙ append_assoc b.values (v ∷ []) x.further;
        run = runs (v ∷ x.further) ∙ x.run;
      }

      shorter : (vs : List Value) → All (Contains V) vs → c.values ≡ b.values ++ vs
          → run_from (Does i ∷ xs) b.walk vs ≡ Some (ended c.stopped c.walk)
          → Contains (flat_map (λ v. all_from V xs (with_load i b v)) V) c
      shorter [] within p r = let n = sym (runs []) ∙ r in absurd cc
      shorter (v ∷ vs) within p r =
          contains_flat_map (λ u. all_from V xs (with_load i b u)) V v c
          (All-head (Contains V) v vs within) ((ih (with_load i b v) c refl).1 (record {
            further = vs;
            allowed = All-tail (Contains V) v vs within;
            values = p ∙ sym (append_assoc b.values (v ∷ []) vs);
            run = sym (runs (v ∷ vs)) ∙ r;
          }))

  by_line : (o : Option ℕ) (x : Line) (xs : List Line) (b c : Beginning) → IsExact xs
      → b.stopped ≡ false → b.walk.seeking ≡ o
      → Contains (all_from V (x ∷ xs) b) c ↔ Extends (x ∷ xs) b c
  by_line (Some l) x xs b c ih awake s =
      by_one x xs b (record b { walk = walk_past x l b.walk }) c ih awake (next_seeking x b l awake s)
      refl (λ vs. seeks x xs b.walk vs (Some l) s)
  by_line None (Label m) xs b c ih awake s =
      by_one (Label m) xs b b c ih awake (next_label m b awake s) refl
      (λ vs. seeks (Label m) xs b.walk vs None s)
  by_line None (Does i) xs b c ih awake s = go (is_fault i b.walk.state) (is_load i) refl refl
    where
      go : (f d : Bool) → is_fault i b.walk.state ≡ f → is_load i ≡ d
          → Contains (all_from V (Does i ∷ xs) b) c ↔ Extends (Does i ∷ xs) b c
      go true d f e = by_fault i xs b c awake s f
      go false true f e = by_load i xs b c ih awake s f e
      go false false f e =
          by_one (Does i) xs b (record b { walk = walk_after i (takes_branch i b.walk.state) NoValue b.walk })
          c ih awake (next_plain i b awake s f e) refl
          (λ vs. seeks (Does i) xs b.walk vs None s
          ∙ ap (λ (t : Bool). after_instruction t i (run_from xs) b.walk vs) f
          ∙ ap (λ (t : Bool). after_load t i (takes_branch i b.walk.state) (run_from xs) b.walk vs) e)

  pub exact : (xs : List Line) → IsExact xs
  exact [] b c awake = (
    (λ h. (extends_end b c awake).0 (contains_one b c h)),
    (λ x. one_contains b c ((extends_end b c awake).1 x)),
  )
  exact (x ∷ xs) b c awake = by_line b.walk.seeking x xs b c (exact xs) awake refl

-- the order
prefix_before : (Lt : Value → Value → Type 0) (p : List Value) (v w : Value) (vs ws : List Value)
    → Lt v w → IsLexicallyBefore Lt (p ++ v ∷ vs) (p ++ w ∷ ws)
prefix_before Lt [] v w vs ws lt = inl lt
prefix_before Lt (x ∷ p) v w vs ws lt = inr (refl, prefix_before Lt p v w vs ws lt)

pub all_from_contains : {A : Type 0} (P : A → Type 0) (xs : List A)
    → ((x : A) → Contains xs x → P x) → All P xs
all_from_contains P xs h k d lt = h (get_or xs k d) (Contains-get_or xs k d lt)

pub pairs_one : {A : Type 0} (R : A → A → Type 0) (x : A) → AllPairs R (x ∷ [])
pairs_one R x = AllPairs-cons R x [] (All-nil (R x)) (pairs_none R)

pub pairs_append : {A : Type 0} (R : A → A → Type 0) (xs ys : List A) → AllPairs R xs
    → AllPairs R ys → ((x y : A) → Contains xs x → Contains ys y → R x y) → AllPairs R (xs ++ ys)
pairs_append R [] ys p q cross = q
pairs_append R (x ∷ xs) ys p q cross = AllPairs-cons R x (xs ++ ys)
    (All-append (R x) xs ys (pairs_head R x xs p) (all_from_contains (R x) ys
    (λ y h. cross x y (Contains-append_left (x ∷ []) xs x (Contains-push [] x)) h)))
    (pairs_append R xs ys (pairs_tail R x xs p) q (λ a b h k.
    cross a b (Contains-append_right (x ∷ []) xs a h) k))

pub pairs_flat_map : {A B : Type 0} (Q : A → A → Type 0) (R : B → B → Type 0) (f : A → List B)
    (xs : List A) → AllPairs Q xs → ((x : A) → AllPairs R (f x))
    → ((x y : A) → Q x y → (a b : B) → Contains (f x) a → Contains (f y) b → R a b)
    → AllPairs R (flat_map f xs)
pairs_flat_map Q R f [] rising each cross = pairs_none R
pairs_flat_map Q R f (x ∷ xs) rising each cross =
    pairs_append R (f x) (flat_map f xs) (each x) (pairs_flat_map Q R f xs
    (pairs_tail Q x xs rising) each cross)
    (λ a b h k.
    let (y, within, found) = flat_map_contains f xs b k in
    cross x y (All-contains (Q x) xs y (pairs_head Q x xs rising) within) a b h found)

abbrev IsEarlier : Beginning → Beginning → Type 0
IsEarlier b c = IsLexicallyBefore IsLess b.values c.values

module _ (V : List Value) (rising : AllPairs IsLess V) where
  by_one_rises : (x : Line) (xs : List Line) (b a : Beginning) → next V x b ≡ a ∷ []
      → AllPairs IsEarlier (all_from V xs a) → AllPairs IsEarlier (all_from V (x ∷ xs) b)
  by_one_rises x xs b a n h =
      subst (λ (bs : List Beginning). AllPairs IsEarlier bs) (sym (one_next V x xs b a n)) h

  by_load_rises : (i : Instruction) (xs : List Line) (b : Beginning) → b.stopped ≡ false
      → b.walk.seeking ≡ None → is_fault i b.walk.state ≡ false → is_load i ≡ true
      → ((a : Beginning) → a.stopped ≡ false → AllPairs IsEarlier (all_from V xs a))
      → AllPairs IsEarlier (all_from V (Does i ∷ xs) b)
  by_load_rises i xs b awake s f d ih =
      subst (λ (bs : List Beginning). AllPairs IsEarlier bs) (sym (ap (flat_map (all_from V xs))
      (next_load V i b awake s f d)
      ∙ flat_map-map (all_from V xs) (with_load i b) V))
      (pairs_flat_map IsLess IsEarlier (λ v. all_from V xs (with_load i b v)) V rising
      (λ v. ih (with_load i b v) refl) cross)
    where
      begins : (v : Value) (a : Beginning) → Contains (all_from V xs (with_load i b v)) a
          → (vs : List Value) × (a.values ≡ b.values ++ v ∷ vs)
      begins v a h =
          let x = (exact V xs (with_load i b v) a refl).0 h in
          (x.further, x.values ∙ append_assoc b.values (v ∷ []) x.further)

      cross : (v w : Value) → IsLess v w → (a c : Beginning)
          → Contains (all_from V xs (with_load i b v)) a
          → Contains (all_from V xs (with_load i b w)) c → IsEarlier a c
      cross v w lt a c h k =
          let (vs, p) = begins v a h in
          let (ws, q) = begins w c k in
          subst (λ (us : List Value). IsLexicallyBefore IsLess us c.values) (sym p)
          (subst (λ (us : List Value). IsLexicallyBefore IsLess (b.values ++ v ∷ vs) us) (sym q)
          (prefix_before IsLess b.values v w vs ws lt))

  by_line_rises : (o : Option ℕ) (x : Line) (xs : List Line) (b : Beginning) → b.stopped ≡ false
      → b.walk.seeking ≡ o
      → ((a : Beginning) → a.stopped ≡ false → AllPairs IsEarlier (all_from V xs a))
      → AllPairs IsEarlier (all_from V (x ∷ xs) b)
  by_line_rises (Some l) x xs b awake s ih =
      by_one_rises x xs b (record b { walk = walk_past x l b.walk }) (next_seeking V x b l awake s)
      (ih _ awake)
  by_line_rises None (Label m) xs b awake s ih =
      by_one_rises (Label m) xs b b (next_label V m b awake s) (ih b awake)
  by_line_rises None (Does i) xs b awake s ih = go (is_fault i b.walk.state) (is_load i) refl refl
    where
      go : (f d : Bool) → is_fault i b.walk.state ≡ f → is_load i ≡ d
          → AllPairs IsEarlier (all_from V (Does i ∷ xs) b)
      go true d f e =
          by_one_rises (Does i) xs b (record b { stopped = true }) (next_fault V i b awake s f)
          (subst (λ (bs : List Beginning). AllPairs IsEarlier bs)
          (sym (stopped_stays V xs (record b { stopped = true }) refl))
          (pairs_one IsEarlier (record b { stopped = true })))
      go false true f e = by_load_rises i xs b awake s f e ih
      go false false f e =
          by_one_rises (Does i) xs b
          (record b { walk = walk_after i (takes_branch i b.walk.state) NoValue b.walk })
          (next_plain V i b awake s f e) (ih _ awake)

  pub rises : (xs : List Line) (b : Beginning) → b.stopped ≡ false
      → AllPairs IsEarlier (all_from V xs b)
  rises [] b awake = pairs_one IsEarlier b
  rises (x ∷ xs) b awake = by_line_rises b.walk.seeking x xs b awake refl (rises xs)

pub map_contains : {A B : Type 0} (f : A → B) (xs : List A) (y : B) → Contains (map f xs) y
    → (x : A) × Contains xs x × (f x ≡ y)
map_contains f [] y h = absurd (let lt = h.1 in omega arith)
map_contains f (x ∷ xs) y h = elim (Contains-append_cases (f x ∷ []) (map f xs) y h) [
  | inl here ↦ (
    x,
    Contains-append_left (x ∷ []) xs x (Contains-push [] x),
    contains_one (f x) y here,
  )
  | inr there ↦
      let (z, within, e) = map_contains f xs y there in
      (z, Contains-append_right (x ∷ []) xs z within, e)
]

pub contains_map : {A B : Type 0} (f : A → B) (xs : List A) (x : A) → Contains xs x
    → Contains (map f xs) (f x)
contains_map f xs x h = go xs h.0 h.1 h.2
  where
    go : (ys : List _) (k : ℕ) → k < length ys → get_or ys k x ≡ x → Contains (map f ys) (f x)
    go [] k lt e = absurd (omega arith)
    go (y ∷ ys) zero lt e =
        Contains-append_left (f y ∷ []) (map f ys) (f x) (one_contains (f y) (f x) (ap f e))
    go (y ∷ ys) (suc k) lt e =
        Contains-append_right (f y ∷ []) (map f ys) (f x) (go ys k (omega arith) e)

pub pairs_map : {A B : Type 0} (R : B → B → Type 0) (f : A → B) (xs : List A)
    → AllPairs (λ x y. R (f x) (f y)) xs → AllPairs R (map f xs)
pairs_map R f [] h = pairs_none R
pairs_map R f (x ∷ xs) h =
    AllPairs-cons R (f x) (map f xs)
    (all_from_contains (R (f x)) (map f xs) (λ y k. let (z, within, e) = map_contains f xs y k in
    subst (λ (w : _). R (f x) w) e (All-contains (λ z. R (f x) (f z)) xs z
    (pairs_head (λ x y. R (f x) (f y)) x xs h) within)))
    (pairs_map R f xs (pairs_tail (λ x y. R (f x) (f y)) x xs h))

pub map_twice : {A B C : Type 0} (g : B → C) (f : A → B) (xs : List A)
    → map g (map f xs) ≡ map (λ x. g (f x)) xs
map_twice g f [] = refl
map_twice g f (x ∷ xs) = ap (λ (ys : List _). g (f x) ∷ ys) (map_twice g f xs)

-- all beginnings that are whole, as runs
pub are_runs : (t : Thread) (V : List Value) → AllPairs IsLess V
    → AreThreadRuns t (Contains V) (map whole (all_from V t.lines (beginning_at t.first)))
are_runs t V rising = record {
  rising =
      pairs_map (λ r s. IsLexicallyBefore IsLess r.values s.values) whole
      (all_from V t.lines (beginning_at t.first))
      (rises V rising t.lines (beginning_at t.first) refl);
  exact = λ r. (forth r, back r);
}
  where
    bs : List Beginning
    bs = all_from V t.lines (beginning_at t.first)

    forth : (r : Run) → Contains (map whole bs) r → IsThreadRun t (Contains V) r
    forth r h =
        let (b, within, e) = map_contains whole bs r h in
        let x = (exact V t.lines (beginning_at t.first) b refl).0 within in
        subst (λ (s : Run). IsThreadRun t (Contains V) s) e (
          subst (λ (vs : List Value). All (Contains V) vs) (sym x.values) x.allowed,
          subst (λ (vs : List Value). run_of t.lines t.first vs ≡ Some (ended b.stopped b.walk))
              (sym x.values) x.run,
        )

    back : (r : Run) → IsThreadRun t (Contains V) r → Contains (map whole bs) r
    back r h =
        contains_map whole bs (record {
          values = r.values;
          stopped = r.outcome.faulted;
          walk = r.outcome.walk;
        })
        ((exact V t.lines (beginning_at t.first)
        (record { values = r.values; stopped = r.outcome.faulted; walk = r.outcome.walk })
        refl).1
        (record { further = r.values; allowed = h.0; values = refl; run = h.1 }))

pub has_runs : (t : Thread) (V : List Value) (n : ℕ) → AllPairs IsLess V
    → n ≡ length (all_from V t.lines (beginning_at t.first)) → HasRuns t V n
has_runs t V n rising e = (
  map whole (all_from V t.lines (beginning_at t.first)),
  are_runs t V rising,
  length-map (all_from V t.lines (beginning_at t.first)) whole ∙ sym e,
)

pub shows_runs : (t : Thread) (V : List Value) (runs : List made.Run) → AllPairs IsLess V
    → map run_shown runs ≡ map shown_whole (all_from V t.lines (beginning_at t.first))
    → ShowsRuns t V runs
shows_runs t V runs rising e = (
  map whole (all_from V t.lines (beginning_at t.first)),
  are_runs t V rising,
  e ∙ sym (map_twice shown_run whole (all_from V t.lines (beginning_at t.first))),
)
