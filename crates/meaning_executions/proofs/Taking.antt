-- A run takes the values of its loads, and executes no fault.
use Rattle.std.proofs.Common.{ℕ, ◌≡◌, Bool, true, false, List, [], ◌∷◌, All, Option, Some, None, option_map, if◌then◌else◌, refl, ap, subst}
use Rattle.std.proofs.lemmas.Option.{same_Some}
use Rattle.std.proofs.lemmas.List.Elements.{All-nil, All-cons}
use Rattle.text_values.specs.declared.test.Step.{Step}
use Rattle.text_values.specs.declared.test.Step.TheVariants.{Label, Instruction}
use Rattle.text_values.specs.declared.instruction.Instruction as text
use Rattle.text_values.specs.TestValue.{Content}
use Rattle.meaning.specs.Names.{Name}
use Rattle.meaning.specs.Machine.{Value, NoValue, State, is_load, is_fault, is_taken_in}
use Rattle.meaning.specs.Runs.{Instance, Run, Rest, end_of_run, run_from, run_of, with_instance, label_after, lines_of_thread, initial_state}

-- the values that the loads among these instances load
abbrev pub loaded_values : List Instance → List Value
loaded_values [] = []
loaded_values (i ∷ rest) =
    if is_load i.instruction then i.loaded ∷ loaded_values rest else loaded_values rest

-- None of these instances is a fault.
abbrev pub IsSound : Instance → Type 0
IsSound i = is_fault i.instruction i.before ≡ false

-- The instances took these values, and none is a fault.
pub record Took (vs : List Value) (is : List Instance) : Type 0 where
  pub values : vs ≡ loaded_values is
  pub sound : All IsSound is

none_is : {X : Type 0} {x : X} → None ≡ Some x → ⊥
none_is e = cc

ended : (faulted : Bool) (s : State) (vs : List Value) (q : Run)
    → end_of_run faulted s vs ≡ Some q → Took vs q.instances
ended faulted s [] q e =
    subst (λ (r : Run). Took [] r.instances) (same_Some _ _ e)
    (record { values = refl; sound = All-nil IsSound })
ended faulted s (v ∷ vs) q e = absurd (none_is e)

module _ (i : text.Instruction) (s : State) (sound : is_fault i s ≡ false) where
  one_more : (v : Value) (o : Option Run) (vs : List Value) (q : Run)
      → ((r : Run) → o ≡ Some r → Took vs r.instances)
      → option_map (with_instance (record { instruction = i; before = s; loaded = v })) o ≡ Some q
      → Took (if is_load i then v ∷ vs else vs) q.instances
  one_more v None vs q rest e = absurd (none_is e)
  one_more v (Some r) vs q rest e =
      let before : Took vs r.instances = rest r refl in
      let one : Instance = record { instruction = i; before = s; loaded = v } in
      subst (λ (p : Run). Took (if is_load i then v ∷ vs else vs) p.instances) (same_Some _ _ e)
      (record {
        values = ap (λ (us : List Value). if is_load i then v ∷ us else us) before.values;
        sound = All-cons IsSound one r.instances sound before.sound;
      })

  executed : (b : Bool) → is_load i ≡ b → (rest : Rest) (vs : List Value) (q : Run)
      → ((l : Option Name) (u : State) (us : List Value) (r : Run) → rest l u us ≡ Some r
      → Took us r.instances)
      → run_from b i (is_taken_in s i) s rest vs ≡ Some q → Took vs q.instances
  executed true is rest [] q later e = absurd (none_is e)
  executed true is rest (v ∷ vs) q later e =
      subst (λ (b : Bool). Took (if b then v ∷ vs else vs) q.instances) is
      (one_more v _ vs q (λ r. later _ _ vs r) e)
  executed false is rest vs q later e =
      subst (λ (b : Bool). Took (if b then NoValue ∷ vs else vs) q.instances) is
      (one_more NoValue _ vs q (λ r. later _ _ vs r) e)

after_line : (i : text.Instruction) (s : State) (b : Bool) → is_fault i s ≡ b → (rest : Rest)
    (vs : List Value) (q : Run)
    → ((l : Option Name) (u : State) (us : List Value) (r : Run) → rest l u us ≡ Some r
    → Took us r.instances)
    → (if b then end_of_run true s vs else run_from (is_load i) i (is_taken_in s i) s rest vs)
    ≡ Some q
    → Took vs q.instances
after_line i s true fault rest vs q later e = ended true s vs q e
after_line i s false sound rest vs q later e = executed i s sound (is_load i) refl rest vs q later e

took : (xs : List Step) (seeking : Option Name) (s : State) (vs : List Value) (q : Run)
    → run_of xs seeking s vs ≡ Some q → Took vs q.instances
took [] seeking s vs q e = ended false s vs q e
took (Label m ∷ xs) seeking s vs q e = took xs (label_after m seeking) s vs q e
took (Instruction i ∷ xs) (Some l) s vs q e = took xs (Some l) s vs q e
took (Instruction i ∷ xs) None s vs q e =
    after_line i s (is_fault i s) refl (λ l u us. run_of xs l u us) vs q (took xs) e

-- so it is for the run of a thread
pub thread_took : (t : Content) (thread : ℕ) (vs : List Value) (q : Run)
    → run_of (lines_of_thread t thread) None (initial_state t thread) vs ≡ Some q → Took vs q.instances
thread_took t thread vs q e = took (lines_of_thread t thread) None (initial_state t thread) vs q e
