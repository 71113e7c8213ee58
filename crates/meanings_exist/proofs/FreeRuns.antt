-- The free runs of a thread over a finite set of values are finite.
use Rattle.std.proofs.Common.{◌≡◌, ◌⊎◌, inl, inr, ℕ, Bool, true, false, List, [], ◌∷◌, All, Option, Some, None, refl, sym, ap, subst, ◌∙◌}
use Rattle.std.specs.Prelude.{option_map}
use Rattle.std.proofs.lemmas.List.Elements.{All-nil, All-cons, All-head, All-tail}
use Rattle.text_values.specs.declared.test.Step.{Step}
use Rattle.text_values.specs.declared.test.Step.TheVariants.{Label, Instruction}
use Rattle.text_values.specs.declared.instruction.Instruction as text
use Rattle.text_values.specs.TestValue.{Content}
use Rattle.meaning.specs.Sets.{Set}
use Rattle.meaning.specs.Names.{Name}
use Rattle.meaning.specs.Machine.{Value, NoValue, State, is_load, is_branch, state_after, target}
use Rattle.meaning.specs.Runs.{Instance, Run, with_instance, label_after, run_from, initial_state, lines_of_thread}
use Rattle.meaning.specs.Domain.{FreeRun, end_of_free_run, free_run_from, free_run_of, IsFreeRun}
use Rattle.plain_runs.proofs.Running.{no_some, same_some, option_mapped}
use Rattle.meanings_exist.proofs.Decisions.{Decided, same_bool, same_value, same_list}
use Rattle.meanings_exist.proofs.Finite.{Finite, finite_as, finite_one, finite_either, finite_over, finite_map}

free_same : (f g : FreeRun) → f.choices ≡ g.choices → f.values ≡ g.values → f.run ≡ g.run → f ≡ g
free_same f g choices values run =
    λ i. record { choices = choices i; values = values i; run = run i }

-- ---- free runs of a thread are one, or they are not

pub same_free : (t : Content) (V : Set Value) (thread : ℕ) (f g : FreeRun)
    → IsFreeRun t V thread f → IsFreeRun t V thread g → Decided (f ≡ g)
same_free t V thread f g is are =
    joined (same_list same_bool f.choices g.choices) (same_list same_value f.values g.values)
  where
    lines : List Step
    lines = lines_of_thread t thread

    one : f.choices ≡ g.choices → f.values ≡ g.values → f.run ≡ g.run
    one choices values =
        same_some f.run g.run
        (sym is.1
        ∙ ap (λ (bs : List Bool). free_run_of (lines_of_thread t thread) None (initial_state t thread) bs f.values)
        choices
        ∙ ap (λ (vs : List Value). free_run_of (lines_of_thread t thread) None (initial_state t thread) g.choices vs)
        values
        ∙ are.1)

    joined : Decided (f.choices ≡ g.choices) → Decided (f.values ≡ g.values) → Decided (f ≡ g)
    joined (inl choices) (inl values) =
        inl (free_same f g choices values (one choices values))
    joined (inl choices) (inr other) = inr (λ e. other (ap (λ (h : FreeRun). h.values) e))
    joined (inr other) values = inr (λ e. other (ap (λ (h : FreeRun). h.choices) e))

-- ---- they are finite

module _ (V : Set Value) (values : Finite V) where
  -- the free runs that go on from a line
  abbrev GoesFrom : List Step → Option Name → State → Set FreeRun
  GoesFrom lines seeking s f =
      All V f.values × (free_run_of lines seeking s f.choices f.values ≡ Some f.run)

  ends : State → FreeRun
  ends s = record {
    choices = [];
    values = [];
    run = record { instances = []; final = s; faulted = false };
  }

  ended : (seeking : Option Name) (s : State) → Finite (GoesFrom [] seeking s)
  unfolding ends
  ended seeking s = finite_as (λ f. ends s ≡ f) (GoesFrom [] seeking s) to back (finite_one (ends s))
    where
      to : (f : FreeRun) → ends s ≡ f → GoesFrom [] seeking s f
      to f e = subst (λ (g : FreeRun). GoesFrom [] seeking s g) e (All-nil V, refl)

      by : (bs : List Bool) (vs : List Value) (r : Run) → end_of_free_run s bs vs ≡ Some r
          → ends s ≡ record { choices = bs; values = vs; run = r }
      by [] [] r e =
          free_same (ends s) (record { choices = []; values = []; run = r }) refl refl
          (same_some (record { instances = []; final = s; faulted = false }) r e)
      by [] (v ∷ vs) r e = absurd (no_some r e)
      by (b ∷ bs) vs r e = absurd (no_some r e)

      back : (f : FreeRun) → GoesFrom [] seeking s f → ends s ≡ f
      back f h = by f.choices f.values f.run h.1

  module _ (lines : List Step) (i : text.Instruction) (s : State)
      (rest : (l : Option Name) (u : State) → Finite (GoesFrom lines l u)) where
    abbrev instance_with : Value → Instance
    instance_with v = record { instruction = i; before = s; loaded = v }

    -- a free run behind the instruction
    abbrev behind_no_load : FreeRun → FreeRun
    behind_no_load f = record {
      choices = f.choices;
      values = f.values;
      run = with_instance (instance_with NoValue) f.run;
    }

    abbrev behind_load : Value → FreeRun → FreeRun
    behind_load v f = record {
      choices = f.choices;
      values = v ∷ f.values;
      run = with_instance (instance_with v) f.run;
    }

    abbrev Rest : Bool → Value → Set FreeRun
    Rest taken v = GoesFrom lines (target i taken) (state_after i v s)

    abbrev Loading : Bool → Bool → Set FreeRun
    Loading load taken f =
        All V f.values
        × (run_from load i taken s (λ l u us. free_run_of lines l u f.choices us) f.values
        ≡ Some f.run)

    parted : (taken : Bool) (v : Value) (bs : List Bool) (vs : List Value) (r : Run)
        → option_map (with_instance (instance_with v))
        (free_run_of lines (target i taken) (state_after i v s) bs vs)
        ≡ Some r
        → (q : Run)
        × (free_run_of lines (target i taken) (state_after i v s) bs vs ≡ Some q)
        × (with_instance (instance_with v) q ≡ r)
    parted taken v bs vs r e =
        option_mapped (with_instance (instance_with v))
        (free_run_of lines (target i taken) (state_after i v s) bs vs) r e

    loading : (load taken : Bool) → Finite (Loading load taken)
    loading true taken =
        finite_as
        (λ f. (v : Value) × V v × ((g : FreeRun) × Rest taken v g × (behind_load v g ≡ f)))
        (Loading true taken) to back
        (finite_over V (λ v f. (g : FreeRun) × Rest taken v g × (behind_load v g ≡ f)) values
        (λ v is. finite_map (Rest taken v) (behind_load v)
        (rest (target i taken) (state_after i v s))))
      where
        to : (f : FreeRun)
            → (v : Value) × V v × ((g : FreeRun) × Rest taken v g × (behind_load v g ≡ f))
            → Loading true taken f
        to f (v, is, (g, h, e)) =
            subst (λ (k : FreeRun). Loading true taken k) e
            (All-cons V v g.values is h.0, ap (option_map (with_instance (instance_with v))) h.1)

        by : (bs : List Bool) (vs : List Value) (r : Run)
            → Loading true taken (record { choices = bs; values = vs; run = r })
            → (v : Value) × V v
            × ((g : FreeRun) × Rest taken v g
            × (behind_load v g ≡ record { choices = bs; values = vs; run = r }))
        by bs [] r h = absurd (no_some r h.1)
        by bs (v ∷ vs) r h =
            let found : _ = parted taken v bs vs r h.1 in
            let g : FreeRun = record { choices = bs; values = vs; run = found.0 } in (
              v,
              All-head V v vs h.0,
              (
                g,
                (All-tail V v vs h.0, found.1),
                free_same (behind_load v g) (record { choices = bs; values = v ∷ vs; run = r })
                    refl refl found.2,
              ),
            )

        back : (f : FreeRun) → Loading true taken f
            → (v : Value) × V v × ((g : FreeRun) × Rest taken v g × (behind_load v g ≡ f))
        back f h = by f.choices f.values f.run h
    loading false taken =
        finite_as (λ f. (g : FreeRun) × Rest taken NoValue g × (behind_no_load g ≡ f))
        (Loading false taken) to back
        (finite_map (Rest taken NoValue) behind_no_load
        (rest (target i taken) (state_after i NoValue s)))
      where
        to : (f : FreeRun) → (g : FreeRun) × Rest taken NoValue g × (behind_no_load g ≡ f)
            → Loading false taken f
        to f (g, h, e) =
            subst (λ (k : FreeRun). Loading false taken k) e
            (h.0, ap (option_map (with_instance (instance_with NoValue))) h.1)

        back : (f : FreeRun) → Loading false taken f
            → (g : FreeRun) × Rest taken NoValue g × (behind_no_load g ≡ f)
        back f h =
            let found : _ = parted taken NoValue f.choices f.values f.run h.1 in
            let g : FreeRun =
            record { choices = f.choices; values = f.values; run = found.0 } in (
              g,
              (h.0, found.1),
              free_same (behind_no_load g) f refl refl found.2,
            )

    -- a branch takes a choice
    abbrev with_choice : Bool → FreeRun → FreeRun
    with_choice b f = record { choices = b ∷ f.choices; values = f.values; run = f.run }

    abbrev Chosen : Bool → Set FreeRun
    Chosen b f = (g : FreeRun) × Loading (is_load i) b g × (with_choice b g ≡ f)

    abbrev Branching : Bool → Set FreeRun
    Branching branch f =
        All V f.values
        × (free_run_from branch i s (λ l u cs us. free_run_of lines l u cs us) f.choices f.values
        ≡ Some f.run)

    chosen : (b : Bool) → Finite (Chosen b)
    chosen b = finite_map (Loading (is_load i) b) (with_choice b) (loading (is_load i) b)

    pub branching : (branch : Bool) → Finite (Branching branch)
    branching false = loading (is_load i) false
    branching true =
        finite_as (λ f. Chosen true f ⊎ Chosen false f) (Branching true) to back
        (finite_either (Chosen true) (Chosen false) (chosen true) (chosen false))
      where
        one : (b : Bool) (f : FreeRun) → Chosen b f → Branching true f
        one b f (g, h, e) = subst (λ (k : FreeRun). Branching true k) e h

        to : (f : FreeRun) → Chosen true f ⊎ Chosen false f → Branching true f
        to f (inl h) = one true f h
        to f (inr h) = one false f h

        by : (bs : List Bool) (vs : List Value) (r : Run)
            → Branching true (record { choices = bs; values = vs; run = r })
            → Chosen true (record { choices = bs; values = vs; run = r })
            ⊎ Chosen false (record { choices = bs; values = vs; run = r })
        by [] vs r h = absurd (no_some r h.1)
        by (true ∷ bs) vs r h = inl (record { choices = bs; values = vs; run = r }, h, refl)
        by (false ∷ bs) vs r h = inr (record { choices = bs; values = vs; run = r }, h, refl)

        back : (f : FreeRun) → Branching true f → Chosen true f ⊎ Chosen false f
        back f h = by f.choices f.values f.run h

  free_from : (lines : List Step) (seeking : Option Name) (s : State)
      → Finite (GoesFrom lines seeking s)
  free_from [] seeking s = ended seeking s
  free_from (Label m ∷ lines) seeking s = free_from lines (label_after m seeking) s
  free_from (Instruction i ∷ lines) (Some l) s = free_from lines (Some l) s
  free_from (Instruction i ∷ lines) None s =
      branching lines i s (λ l u. free_from lines l u) (is_branch i)

  pub free_runs : (t : Content) (thread : ℕ) → Finite (IsFreeRun t V thread)
  free_runs t thread = free_from (lines_of_thread t thread) None (initial_state t thread)
