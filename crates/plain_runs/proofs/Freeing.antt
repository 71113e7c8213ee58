-- The free runs that go on from a line, as lists.
use Rattle.std.proofs.Common.{◌≡◌, ◌⊎◌, inl, inr, ℕ, ◌+◌, ◌<◌, List, [], ◌∷◌, ◌++◌, map, length, take, get_or, Contains, All, Bool, true, false, refl, sym, ap, subst, ◌∙◌}
use Rattle.std.specs.Prelude.{Option, Some, None, option_map, if◌then◌else◌}
use Rattle.std.proofs.Math.ListN.{get_or-map}
use Rattle.std.proofs.lemmas.List.{length-map}
use Rattle.std.proofs.lemmas.List.Elements.{All-cons, All-head, All-tail, All-nil}
use Rattle.text_values.specs.declared.test.Step.{Step}
use Rattle.text_values.specs.declared.test.Step.TheVariants.{Label, Instruction}
use Rattle.text_values.specs.declared.instruction.Instruction as text
use Rattle.text_values.specs.declared.instruction.Instruction.TheVariants as texts
use Rattle.meaning.specs.Sets.{Set, IsOnce, IsListOf}
use Rattle.meaning.specs.Names.{Name}
use Rattle.meaning.specs.Machine.{Value, NoValue, State, is_load, is_branch, state_after, target}
use Rattle.meaning.specs.Runs.{Instance, Run, with_instance, label_after, run_from}
use Rattle.meaning.specs.Domain.{FreeRun, free_run_of, free_run_from, end_of_free_run}
use Rattle.plain_machine.specs.declared.value.Value as code
use Rattle.plain_machine.specs.Values.{value_as}
use Rattle.plain_runs.proofs.Listing.{listed_as, listed_one, listed_map, listed_both, over_more}
use Rattle.plain_runs.proofs.Running.{no_some, same_some, same_rest, same_loaded, option_mapped}
use Rattle.plain_runs.specs.Frees.{IsFreeRunFrom, IsFreeRunWith, IsFreeRunLoading, with_first}

-- a run that ends at once
abbrev at_end : State → Run
at_end s = record { instances = []; final = s; faulted = false }

-- a free run by its parts
abbrev free_run : List Bool → List Value → Run → FreeRun
free_run bs vs r = record { choices = bs; values = vs; run = r }

-- ---- the end

ends : (V : Set Value) (s : State) (bs : List Bool) (vs : List Value) (r : Run)
    → end_of_free_run s bs vs ≡ Some r
    → free_run [] [] (at_end s) ≡ free_run bs vs r
ends V s [] [] r e =
    ap (λ (q : Run). free_run [] [] q) (same_some (at_end s) r e)
ends V s [] (v ∷ vs) r e = absurd (no_some r e)
ends V s (b ∷ bs) vs r e = absurd (no_some r e)

pub ended_listed : (V : Set Value) (seeking : Option Name) (s : State) (fs : List FreeRun)
    → fs ≡ record {
      choices = [];
      values = [];
      run = record { instances = []; final = s; faulted = false };
    } ∷ []
    → IsListOf (IsFreeRunFrom V [] seeking s) fs
ended_listed V seeking s fs e =
    subst (λ (l : List FreeRun). IsListOf (IsFreeRunFrom V [] seeking s) l) (sym e)
    (listed_one (IsFreeRunFrom V [] seeking s) (free_run [] [] (at_end s))
    (λ f. ((λ is. ends V s f.choices f.values f.run is.1), from f)))
  where
    from : (f : FreeRun) → free_run [] [] (at_end s) ≡ f
        → IsFreeRunFrom V [] seeking s f
    from f is =
        subst (λ (g : FreeRun). IsFreeRunFrom V [] seeking s g) is (All-nil V, refl)

-- ---- an instruction

-- as with_first, for an instruction that is a branch or not, and a load or not
abbrev first_of : Bool → Bool → Bool → Instance → FreeRun → FreeRun
first_of branch load taken i f = record {
  choices = (if branch then taken ∷ [] else []) ++ f.choices;
  values = (if load then i.loaded ∷ [] else []) ++ f.values;
  run = with_instance i f.run;
}

abbrev With : Bool → Bool → Set Value → List Step → text.Instruction → State → Bool → Value
    → Set FreeRun
With branch load V lines i s taken v f =
    (rest : FreeRun) × IsFreeRunFrom V lines (target i taken) (state_after i v s) rest
    × (first_of branch load taken (record { instruction = i; before = s; loaded = v }) rest ≡ f)

abbrev Loading : Bool → Bool → Set Value → Set Value → List Step → text.Instruction → State
    → Set FreeRun
Loading branch load Taken V lines i s f =
    (v : Value) × Taken v × With branch load V lines i s false v f

-- the free run goes on with an instruction that is a branch or not
abbrev Goes : Bool → Set Value → List Step → text.Instruction → State → Set FreeRun
Goes branch V lines i s f =
    All V f.values
    × (free_run_from branch i s (λ l u cs us. free_run_of lines l u cs us) f.choices f.values
    ≡ Some f.run)

-- the same, behind the choice of a branch, where the instruction is a load or not
abbrev GoesOn : Bool → Bool → List Bool → Set Value → List Step → text.Instruction → State
    → List Value → Run → Type 0
GoesOn load taken bs V lines i s vs r =
    All V vs
    × (run_from load i taken s (λ l u us. free_run_of lines l u bs us) vs ≡ Some r)

-- the same without a choice
abbrev GoesPlain : Bool → Set Value → List Step → text.Instruction → State → Set FreeRun
GoesPlain load V lines i s f = GoesOn load false f.choices V lines i s f.values f.run

same_behind : {X : Type 0} (b : Bool) (x : X) (xs ys : List X)
    → (if b then x ∷ [] else []) ++ xs ≡ (if b then x ∷ [] else []) ++ ys → xs ≡ ys
same_behind true x xs ys e = cc
same_behind false x xs ys e = e

free_same : (f g : FreeRun) → f.choices ≡ g.choices → f.values ≡ g.values → f.run ≡ g.run → f ≡ g
free_same f g choices values run =
    ap (λ (x : List Bool). let h : FreeRun = record { choices = x; values = f.values; run = f.run } in h)
    choices
    ∙ ap (λ (x : List Value). let h : FreeRun = record { choices = g.choices; values = x; run = f.run } in h)
    values
    ∙ ap (λ (x : Run). let h : FreeRun = record { choices = g.choices; values = g.values; run = x } in h)
    run

same_first : (taken : Bool) (i : Instance) (f g : FreeRun)
    → with_first taken i f ≡ with_first taken i g → f ≡ g
same_first taken i f g e =
    free_same f g
    (same_behind (is_branch i.instruction) taken f.choices g.choices (ap (λ (x : FreeRun). x.choices) e))
    (same_behind (is_load i.instruction) i.loaded f.values g.values (ap (λ (x : FreeRun). x.values) e))
    (same_rest i f.run g.run (ap (λ (x : FreeRun). x.run) e))

pub with_listed : (V : Set Value) (lines : List Step) (i : text.Instruction) (s : State)
    (taken : Bool) (v : Value) (seeking : Option Name) (next : State) (rest fs : List FreeRun)
    → seeking ≡ target i taken → next ≡ state_after i v s
    → IsListOf (IsFreeRunFrom V lines seeking next) rest
    → fs ≡ map (with_first taken (record { instruction = i; before = s; loaded = v })) rest
    → IsListOf (IsFreeRunWith V lines i s taken v) fs
with_listed V lines i s taken v seeking next rest fs there after listed e =
    subst (λ (l : List FreeRun). IsListOf (IsFreeRunWith V lines i s taken v) l) (sym e)
    (listed_map (with_first taken (record { instruction = i; before = s; loaded = v }))
    (IsFreeRunFrom V lines (target i taken) (state_after i v s)) rest
    (λ f g. same_first taken (record { instruction = i; before = s; loaded = v }) f g)
    (subst (λ (l : Option Name). IsListOf (IsFreeRunFrom V lines l (state_after i v s)) rest) there
    (subst (λ (u : State). IsListOf (IsFreeRunFrom V lines seeking u) rest) after listed)))

-- no free run begins with loads of two values
one_loaded : (V : Set Value) (lines : List Step) (i : text.Instruction) (s : State)
    (v w : Value) (f : FreeRun) → IsFreeRunWith V lines i s false v f
    → IsFreeRunWith V lines i s false w f → v ≡ w
one_loaded V lines i s v w f first second =
    same_loaded i s v w first.0.run second.0.run
    (ap (λ (x : FreeRun). x.run) (first.2 ∙ sym second.2))

pub loading_more : (V : Set Value) (lines : List Step) (i : text.Instruction) (s : State)
    (values : List code.Value) (k : ℕ) (d : code.Value) (old more new : List FreeRun)
    → k < length values → IsOnce (map value_as values)
    → IsListOf (IsFreeRunLoading (Contains (take k (map value_as values))) V lines i s) old
    → IsListOf (IsFreeRunWith V lines i s false (value_as (get_or values k d))) more
    → new ≡ old ++ more
    → IsListOf (IsFreeRunLoading (Contains (take (k + 1) (map value_as values))) V lines i s) new
loading_more V lines i s values k d old more new lt once before listed e =
    over_more (IsFreeRunWith V lines i s false) (map value_as values) k (value_as d) old more new
    (subst (λ (n : ℕ). k < n) (sym (length-map values value_as)) lt) once
    (one_loaded V lines i s) before
    (subst (λ (v : Value). IsListOf (IsFreeRunWith V lines i s false v) more)
    (sym (get_or-map value_as values k d)) listed) e

no_load : (i : text.Instruction) → is_branch i ≡ true → is_load i ≡ false
no_load (texts.Load d a) e = cc
no_load (texts.LoadIndexed d a b) e = cc
no_load i e = refl

pub at_load : (V : Set Value) (lines : List Step) (i : text.Instruction) (s : State)
    (fs : List FreeRun) → is_branch i ≡ false → is_load i ≡ true
    → IsListOf (IsFreeRunLoading V V lines i s) fs
    → IsListOf (IsFreeRunFrom V (Instruction i ∷ lines) None s) fs
at_load V lines i s fs plain load listed =
    subst (λ (b : Bool). IsListOf (Goes b V lines i s) fs) (sym plain)
    (subst (λ (b : Bool). IsListOf (GoesPlain b V lines i s) fs) (sym load)
    (listed_as (Loading false true V V lines i s) (GoesPlain true V lines i s) fs
    (λ f. (to f, back f.choices f.values f.run))
    (subst (λ (b : Bool). IsListOf (Loading false b V V lines i s) fs) load
    (subst (λ (b : Bool). IsListOf (Loading b (is_load i) V V lines i s) fs) plain listed))))
  where
    to : (f : FreeRun) → Loading false true V V lines i s f → GoesPlain true V lines i s f
    to f (v, member, (rest, (all, runs), is)) =
        subst (λ (g : FreeRun). GoesPlain true V lines i s g) is (
          All-cons V v rest.values member all,
          ap (option_map (with_instance (record { instruction = i; before = s; loaded = v }))) runs,
        )

    back : (bs : List Bool) (vs : List Value) (r : Run)
        → GoesPlain true V lines i s (free_run bs vs r)
        → Loading false true V V lines i s (free_run bs vs r)
    back bs [] r (all, runs) = absurd (no_some r runs)
    back bs (v ∷ vs) r (all, runs) =
        let found : (q : Run) × (free_run_of lines (target i false) (state_after i v s) bs vs ≡ Some q) × (with_instance (record { instruction = i; before = s; loaded = v }) q ≡ r) =
        option_mapped (with_instance (record { instruction = i; before = s; loaded = v }))
        (free_run_of lines (target i false) (state_after i v s) bs vs) r runs in
        (v, All-head V v vs all, (free_run bs vs found.0, (All-tail V v vs all, found.1), ap (λ (q : Run). free_run bs (v ∷ vs) q) found.2))

-- what goes on behind an instruction that is no load
module _ (V : Set Value) (lines : List Step) (i : text.Instruction) (s : State) (taken : Bool) where
  abbrev here : Instance
  here = record { instruction = i; before = s; loaded = NoValue }

  went : (rest : FreeRun) → IsFreeRunFrom V lines (target i taken) (state_after i NoValue s) rest
      → GoesOn false taken rest.choices V lines i s rest.values (with_instance here rest.run)
  went rest (all, runs) = (all, ap (option_map (with_instance here)) runs)

  behind : (bs : List Bool) (vs : List Value) (r : Run) → GoesOn false taken bs V lines i s vs r
      → (q : Run) × IsFreeRunFrom V lines (target i taken) (state_after i NoValue s) (free_run bs vs q)
      × (with_instance here q ≡ r)
  behind bs vs r (all, runs) =
      let found : (q : Run) × (free_run_of lines (target i taken) (state_after i NoValue s) bs vs ≡ Some q) × (with_instance here q ≡ r) =
      option_mapped (with_instance here)
      (free_run_of lines (target i taken) (state_after i NoValue s) bs vs) r runs in
      (found.0, (all, found.1), found.2)

pub at_other : (V : Set Value) (lines : List Step) (i : text.Instruction) (s : State)
    (fs : List FreeRun) → is_branch i ≡ false → is_load i ≡ false
    → IsListOf (IsFreeRunWith V lines i s false NoValue) fs
    → IsListOf (IsFreeRunFrom V (Instruction i ∷ lines) None s) fs
at_other V lines i s fs plain load listed =
    subst (λ (b : Bool). IsListOf (Goes b V lines i s) fs) (sym plain)
    (subst (λ (b : Bool). IsListOf (GoesPlain b V lines i s) fs) (sym load)
    (listed_as (With false false V lines i s false NoValue) (GoesPlain false V lines i s) fs
    (λ f. (to f, back f.choices f.values f.run))
    (subst (λ (b : Bool). IsListOf (With false b V lines i s false NoValue) fs) load
    (subst (λ (b : Bool). IsListOf (With b (is_load i) V lines i s false NoValue) fs) plain listed))))
  where
    to : (f : FreeRun) → With false false V lines i s false NoValue f
        → GoesPlain false V lines i s f
    to f (rest, of, is) =
        subst (λ (g : FreeRun). GoesPlain false V lines i s g) is (went V lines i s false rest of)

    back : (bs : List Bool) (vs : List Value) (r : Run)
        → GoesPlain false V lines i s (free_run bs vs r)
        → With false false V lines i s false NoValue (free_run bs vs r)
    back bs vs r is =
        let found : (q : Run) × IsFreeRunFrom V lines (target i false) (state_after i NoValue s) (free_run bs vs q) × (with_instance (record { instruction = i; before = s; loaded = NoValue }) q ≡ r) =
        behind V lines i s false bs vs r is in
        (free_run bs vs found.0, found.1, ap (λ (q : Run). free_run bs vs q) found.2)

abbrev Chosen : Set Value → List Step → text.Instruction → State → Bool → Set FreeRun
Chosen V lines i s b = With true false V lines i s b NoValue

-- no free run begins with a branch that is taken and one that is not
other_choice : (V : Set Value) (lines : List Step) (i : text.Instruction) (s : State)
    (f : FreeRun) → Chosen V lines i s false f → Chosen V lines i s true f → ⊥
other_choice V lines i s f (q, of, is) (r, also, other) =
    differ (q.choices) (r.choices) (ap (λ (x : FreeRun). x.choices) (is ∙ sym other))
  where
    differ : (bs cs : List Bool) → false ∷ bs ≡ true ∷ cs → ⊥
    differ bs cs e = cc

module _ (V : Set Value) (lines : List Step) (i : text.Instruction) (s : State)
    (branch : is_branch i ≡ true) where
  given : (b : Bool) (gs : List FreeRun) → IsListOf (IsFreeRunWith V lines i s b NoValue) gs
      → IsListOf (Chosen V lines i s b) gs
  given b gs listed =
      subst (λ (l : Bool). IsListOf (With true l V lines i s b NoValue) gs) (no_load i branch)
      (subst (λ (c : Bool). IsListOf (With c (is_load i) V lines i s b NoValue) gs) branch listed)

  goes : (b : Bool) (f : FreeRun) → Chosen V lines i s b f → Goes true V lines i s f
  goes b f (rest, of, is) =
      subst (λ (g : FreeRun). Goes true V lines i s g) is
      (subst (λ (l : Bool). GoesOn l b rest.choices V lines i s rest.values (with_instance (record { instruction = i; before = s; loaded = NoValue }) rest.run))
      (sym (no_load i branch)) (went V lines i s b rest of))

  chosen : (b : Bool) (bs : List Bool) (vs : List Value) (r : Run)
      → Goes true V lines i s (free_run (b ∷ bs) vs r)
      → Chosen V lines i s b (free_run (b ∷ bs) vs r)
  chosen b bs vs r is =
      let found : (q : Run) × IsFreeRunFrom V lines (target i b) (state_after i NoValue s) (free_run bs vs q) × (with_instance (record { instruction = i; before = s; loaded = NoValue }) q ≡ r) =
      behind V lines i s b bs vs r (subst (λ (l : Bool). GoesOn l b bs V lines i s vs r) (no_load i branch) is) in
      (free_run bs vs found.0, found.1, ap (λ (q : Run). free_run (b ∷ bs) vs q) found.2)

  back : (bs : List Bool) (vs : List Value) (r : Run) → Goes true V lines i s (free_run bs vs r)
      → Chosen V lines i s false (free_run bs vs r) ⊎ Chosen V lines i s true (free_run bs vs r)
  back [] vs r (all, runs) = absurd (no_some r runs)
  back (false ∷ bs) vs r is = inl (chosen false bs vs r is)
  back (true ∷ bs) vs r is = inr (chosen true bs vs r is)

  to : (f : FreeRun) → Chosen V lines i s false f ⊎ Chosen V lines i s true f
      → Goes true V lines i s f
  to f (inl is) = goes false f is
  to f (inr is) = goes true f is

  pub at_branch : (plain taken fs : List FreeRun)
      → IsListOf (IsFreeRunWith V lines i s false NoValue) plain
      → IsListOf (IsFreeRunWith V lines i s true NoValue) taken → fs ≡ plain ++ taken
      → IsListOf (IsFreeRunFrom V (Instruction i ∷ lines) None s) fs
  at_branch plain taken fs first second e =
      subst (λ (b : Bool). IsListOf (Goes b V lines i s) fs) (sym branch)
      (subst (λ (l : List FreeRun). IsListOf (Goes true V lines i s) l) (sym e)
      (listed_as (λ f. Chosen V lines i s false f ⊎ Chosen V lines i s true f) (Goes true V lines i s) (plain ++ taken)
      (λ f. (to f, back f.choices f.values f.run))
      (listed_both (Chosen V lines i s false) (Chosen V lines i s true) plain taken (other_choice V lines i s)
      (given false plain first) (given true taken second))))

-- ---- other lines

pub at_label : (V : Set Value) (lines : List Step) (line : Step) (m : Name)
    (seeking after : Option Name) (s : State) (fs : List FreeRun) → line ≡ Label m
    → after ≡ label_after m seeking → IsListOf (IsFreeRunFrom V lines after s) fs
    → IsListOf (IsFreeRunFrom V (line ∷ lines) seeking s) fs
at_label V lines line m seeking after s fs is there listed =
    subst (λ (x : Step). IsListOf (IsFreeRunFrom V (x ∷ lines) seeking s) fs) (sym is)
    (subst (λ (l : Option Name). IsListOf (IsFreeRunFrom V lines l s) fs) there listed)

pub at_passed : (V : Set Value) (lines : List Step) (line : Step) (i : text.Instruction)
    (seeking : Option Name) (l : Name) (s : State) (fs : List FreeRun) → line ≡ Instruction i
    → seeking ≡ Some l → IsListOf (IsFreeRunFrom V lines (Some l) s) fs
    → IsListOf (IsFreeRunFrom V (line ∷ lines) seeking s) fs
at_passed V lines line i seeking l s fs is seeks listed =
    subst (λ (x : Step). IsListOf (IsFreeRunFrom V (x ∷ lines) seeking s) fs) (sym is)
    (subst (λ (o : Option Name). IsListOf (IsFreeRunFrom V (Instruction i ∷ lines) o s) fs) (sym seeks)
    listed)
