-- The runs that go on from a line, as lists.
use Rattle.std.proofs.Common.{◌≡◌, ℕ, ◌+◌, ◌<◌, List, [], ◌∷◌, ◌++◌, map, length, take, get_or, Contains, All, Bool, true, false, refl, sym, ap, subst, ◌∙◌}
use Rattle.std.specs.Prelude.{Option, Some, None, option_map, if◌then◌else◌}
use Rattle.std.proofs.Math.ListN.{get_or-map}
use Rattle.std.proofs.lemmas.List.{length-map}
use Rattle.std.proofs.lemmas.List.Elements.{All-cons, All-head, All-tail, All-nil}
use Rattle.text_values.specs.declared.test.Step.{Step}
use Rattle.text_values.specs.declared.test.Step.TheVariants.{Label, Instruction}
use Rattle.text_values.specs.declared.instruction.Instruction as text
use Rattle.meaning.specs.Sets.{Set, IsOnce, IsListOf}
use Rattle.meaning.specs.Names.{Name}
use Rattle.meaning.specs.Machine.{Value, NoValue, State, is_load, is_fault, is_taken_in, state_after, target}
use Rattle.meaning.specs.Runs.{Instance, Run, with_instance, end_of_run, label_after, run_of, run_from}
use Rattle.plain_machine.specs.declared.value.Value as code
use Rattle.plain_machine.specs.Values.{value_as}
use Rattle.plain_runs.specs.Runs.{IsRunFrom, IsRunWith, IsRunLoading}
use Rattle.plain_runs.proofs.Listing.{listed_as, listed_one, listed_map, over_more}

pub no_some : {X : Type 0} (x : X) → None ≡ Some x → ⊥
no_some x e = cc

pub same_some : {X : Type 0} (x y : X) → Some x ≡ Some y → x ≡ y
same_some x y e = cc

-- the run that ends at once
pub ended_run : Bool → State → Run
ended_run faulted s = record { instances = []; final = s; faulted = faulted }

-- ---- the end

abbrev pub EndsRun : Set Value → Bool → State → Run → Type 0
EndsRun V faulted s r = (vs : List Value) × All V vs × (end_of_run faulted s vs ≡ Some r)

pub ended_listed : (V : Set Value) (faulted : Bool) (s : State) (rs : List Run)
    → rs ≡ record { instances = []; final = s; faulted = faulted } ∷ []
    → IsListOf (EndsRun V faulted s) rs
ended_listed V faulted s rs e =
    subst (λ (l : List Run). IsListOf (EndsRun V faulted s) l) (sym e)
    (listed_one (EndsRun V faulted s) (record { instances = []; final = s; faulted = faulted })
    (λ r. (to r, λ is. ([], All-nil V, ap (λ (q : Run). Some q) is))))
  where
    to : (r : Run) → EndsRun V faulted s r
        → record { instances = []; final = s; faulted = faulted } ≡ r
    to r ([], all, eq) = same_some (record { instances = []; final = s; faulted = faulted }) r eq
    to r (v ∷ vs, all, eq) = absurd (no_some r eq)

-- ---- an instruction

-- a run by its parts
run_same : (q r : Run) → q.instances ≡ r.instances → q.final ≡ r.final → q.faulted ≡ r.faulted
    → q ≡ r
run_same q r instances final faulted =
    ap (λ (x : List Instance). let h : Run = record { instances = x; final = q.final; faulted = q.faulted } in h)
    instances
    ∙ ap (λ (x : State). let h : Run = record { instances = r.instances; final = x; faulted = q.faulted } in h)
    final
    ∙ ap (λ (x : Bool). let h : Run = record { instances = r.instances; final = r.final; faulted = x } in h)
    faulted

same_tail : {X : Type 0} (x y : X) (xs ys : List X) → x ∷ xs ≡ y ∷ ys → xs ≡ ys
same_tail x y xs ys e = cc

same_head : {X : Type 0} (x y : X) (xs ys : List X) → x ∷ xs ≡ y ∷ ys → x ≡ y
same_head x y xs ys e = cc

pub same_rest : (i : Instance) (q r : Run) → with_instance i q ≡ with_instance i r → q ≡ r
same_rest i q r e =
    run_same q r
    (same_tail i i q.instances r.instances (ap (λ (x : Run). x.instances) e))
    (ap (λ (x : Run). x.final) e) (ap (λ (x : Run). x.faulted) e)

pub with_listed : (V : Set Value) (lines : List Step) (i : text.Instruction) (taken : Bool)
    (s : State) (v : Value) (seeking : Option Name) (next : State) (rest rs : List Run)
    → seeking ≡ target i taken → next ≡ state_after i v s
    → IsListOf (IsRunFrom V lines seeking next) rest
    → rs ≡ map (with_instance (record { instruction = i; before = s; loaded = v })) rest
    → IsListOf (IsRunWith V lines i taken s v) rs
with_listed V lines i taken s v seeking next rest rs goes after listed e =
    subst (λ (l : List Run). IsListOf (IsRunWith V lines i taken s v) l) (sym e)
    (listed_map (with_instance (record { instruction = i; before = s; loaded = v }))
    (IsRunFrom V lines (target i taken) (state_after i v s)) rest
    (λ q r. same_rest (record { instruction = i; before = s; loaded = v }) q r)
    (subst (λ (l : Option Name). IsListOf (IsRunFrom V lines l (state_after i v s)) rest) goes
    (subst (λ (u : State). IsListOf (IsRunFrom V lines seeking u) rest) after listed)))

-- ---- loads

pub same_loaded : (i : text.Instruction) (s : State) (v w : Value) (q r : Run)
    → with_instance (record { instruction = i; before = s; loaded = v }) q
    ≡ with_instance (record { instruction = i; before = s; loaded = w }) r → v ≡ w
same_loaded i s v w q r e =
    ap (λ (x : Instance). x.loaded)
    (same_head (record { instruction = i; before = s; loaded = v })
    (record { instruction = i; before = s; loaded = w }) q.instances r.instances
    (ap (λ (x : Run). x.instances) e))

-- no run begins with loads of two values
pub one_loaded : (V : Set Value) (lines : List Step) (i : text.Instruction) (taken : Bool)
    (s : State) (v w : Value) (r : Run) → IsRunWith V lines i taken s v r
    → IsRunWith V lines i taken s w r → v ≡ w
one_loaded V lines i taken s v w r first second =
    same_loaded i s v w first.0 second.0 (first.2 ∙ sym second.2)

pub loading_more : (V : Set Value) (lines : List Step) (i : text.Instruction) (taken : Bool)
    (s : State) (values : List code.Value) (k : ℕ) (d : code.Value) (old more new : List Run)
    → k < length values → IsOnce (map value_as values)
    → IsListOf (IsRunLoading (Contains (take k (map value_as values))) V lines i taken s) old
    → IsListOf (IsRunWith V lines i taken s (value_as (get_or values k d))) more
    → new ≡ old ++ more
    → IsListOf (IsRunLoading (Contains (take (k + 1) (map value_as values))) V lines i taken s) new
loading_more V lines i taken s values k d old more new lt once before listed e =
    over_more (IsRunWith V lines i taken s) (map value_as values) k (value_as d) old more new
    (subst (λ (n : ℕ). k < n) (sym (length-map values value_as)) lt) once
    (one_loaded V lines i taken s) before
    (subst (λ (v : Value). IsListOf (IsRunWith V lines i taken s v) more)
    (sym (get_or-map value_as values k d)) listed) e

-- ---- one step of the definition

pub option_mapped : {X Y : Type 0} (f : X → Y) (o : Option X) (y : Y) → option_map f o ≡ Some y
    → (x : X) × (o ≡ Some x) × (f x ≡ y)
option_mapped f None y e = absurd (no_some y e)
option_mapped f (Some x) y e = (x, refl, same_some (f x) y e)

-- the run goes on with an instruction that is a fault or not, and a load or not
abbrev pub GoesOn : Set Value → List Step → text.Instruction → State → Bool → Bool → Set Run
GoesOn V lines i s fault load r =
    (vs : List Value) × All V vs
    × ((if fault then end_of_run true s vs
    else run_from load i (is_taken_in s i) s (λ l u us. run_of lines l u us) vs)
    ≡ Some r)

pub at_fault : (V : Set Value) (lines : List Step) (i : text.Instruction) (s : State)
    (rs : List Run) → is_fault i s ≡ true → IsListOf (EndsRun V true s) rs
    → IsListOf (IsRunFrom V (Instruction i ∷ lines) None s) rs
at_fault V lines i s rs e listed =
    subst (λ (b : Bool). IsListOf (GoesOn V lines i s b (is_load i)) rs) (sym e) listed

pub at_load : (V : Set Value) (lines : List Step) (i : text.Instruction) (s : State)
    (rs : List Run) → is_fault i s ≡ false → is_load i ≡ true
    → IsListOf (IsRunLoading V V lines i (is_taken_in s i) s) rs
    → IsListOf (IsRunFrom V (Instruction i ∷ lines) None s) rs
at_load V lines i s rs sound load listed =
    subst (λ (b : Bool). IsListOf (GoesOn V lines i s b (is_load i)) rs) (sym sound)
    (subst (λ (b : Bool). IsListOf (GoesOn V lines i s false b) rs) (sym load)
    (listed_as (IsRunLoading V V lines i (is_taken_in s i) s) (GoesOn V lines i s false true) rs
    (λ r. (to r, back r)) listed))
  where
    to : (r : Run) → IsRunLoading V V lines i (is_taken_in s i) s r
        → GoesOn V lines i s false true r
    to r (v, member, (rest, (vs, all, goes), is)) = (
      v ∷ vs,
      All-cons V v vs member all,
      ap (option_map (with_instance (record { instruction = i; before = s; loaded = v }))) goes ∙ ap (λ (q : Run). Some q) is,
    )

    back : (r : Run) → GoesOn V lines i s false true r
        → IsRunLoading V V lines i (is_taken_in s i) s r
    back r ([], all, goes) = absurd (no_some r goes)
    back r (v ∷ vs, all, goes) =
        let found : _ =
        option_mapped (with_instance (record { instruction = i; before = s; loaded = v }))
        (run_of lines (target i (is_taken_in s i)) (state_after i v s) vs) r goes in
        (v, All-head V v vs all, (found.0, (vs, All-tail V v vs all, found.1), found.2))

pub at_other : (V : Set Value) (lines : List Step) (i : text.Instruction) (s : State)
    (rs : List Run) → is_fault i s ≡ false → is_load i ≡ false
    → IsListOf (IsRunWith V lines i (is_taken_in s i) s NoValue) rs
    → IsListOf (IsRunFrom V (Instruction i ∷ lines) None s) rs
at_other V lines i s rs sound load listed =
    subst (λ (b : Bool). IsListOf (GoesOn V lines i s b (is_load i)) rs) (sym sound)
    (subst (λ (b : Bool). IsListOf (GoesOn V lines i s false b) rs) (sym load)
    (listed_as (IsRunWith V lines i (is_taken_in s i) s NoValue) (GoesOn V lines i s false false) rs
    (λ r. (to r, back r)) listed))
  where
    to : (r : Run) → IsRunWith V lines i (is_taken_in s i) s NoValue r
        → GoesOn V lines i s false false r
    to r (rest, (vs, all, goes), is) =
        (vs, all, ap (option_map (with_instance (record { instruction = i; before = s; loaded = NoValue }))) goes ∙ ap (λ (q : Run). Some q) is)

    back : (r : Run) → GoesOn V lines i s false false r
        → IsRunWith V lines i (is_taken_in s i) s NoValue r
    back r (vs, all, goes) =
        let found : _ =
        option_mapped (with_instance (record { instruction = i; before = s; loaded = NoValue }))
        (run_of lines (target i (is_taken_in s i)) (state_after i NoValue s) vs) r goes in
        (found.0, (vs, all, found.1), found.2)

-- ---- other lines

pub at_label : (V : Set Value) (lines : List Step) (line : Step) (m : Name)
    (seeking after : Option Name) (s : State) (rs : List Run) → line ≡ Label m
    → after ≡ label_after m seeking → IsListOf (IsRunFrom V lines after s) rs
    → IsListOf (IsRunFrom V (line ∷ lines) seeking s) rs
at_label V lines line m seeking after s rs is goes listed =
    subst (λ (x : Step). IsListOf (IsRunFrom V (x ∷ lines) seeking s) rs) (sym is)
    (subst (λ (l : Option Name). IsListOf (IsRunFrom V lines l s) rs) goes listed)

pub at_passed : (V : Set Value) (lines : List Step) (line : Step) (i : text.Instruction)
    (seeking : Option Name) (l : Name) (s : State) (rs : List Run) → line ≡ Instruction i
    → seeking ≡ Some l → IsListOf (IsRunFrom V lines (Some l) s) rs
    → IsListOf (IsRunFrom V (line ∷ lines) seeking s) rs
at_passed V lines line i seeking l s rs is seeks listed =
    subst (λ (x : Step). IsListOf (IsRunFrom V (x ∷ lines) seeking s) rs) (sym is)
    (subst (λ (o : Option Name). IsListOf (IsRunFrom V (Instruction i ∷ lines) o s) rs) (sym seeks)
    listed)
