-- Runs keep words in their registers, over words.
use Rattle.std.proofs.Common.{ℕ, zero, suc, ◌≡◌, ◌<◌, ◌⊎◌, inl, inr, Bool, true, false, List, [], ◌∷◌, map, length, All, Contains, Option, Some, None, option_map, slice_index_or, if◌then◌else◌, refl, sym, ap, subst, ◌∙◌, arith, pow_pos}
use Rattle.std.specs.List.{AllByRecursion, range_with_len}
use Rattle.std.proofs.lemmas.Option.{same_Some}
use Rattle.std.proofs.lemmas.List.Elements.{recursion_from_All}
use Rattle.text_values.specs.declared.test.Place.{Place}
use Rattle.text_values.specs.declared.test.Place.TheVariants as observables
use Rattle.text_values.specs.declared.test.InitEntry.{InitEntry}
use Rattle.text_values.specs.declared.test.Value as written
use Rattle.text_values.specs.declared.test.Value.TheVariants as texts
use Rattle.text_values.specs.declared.test.Step.{Step}
use Rattle.text_values.specs.declared.test.Step.TheVariants.{Label, Instruction}
use Rattle.text_values.specs.declared.instruction.Instruction as text
use Rattle.text_values.specs.TestValue.{Content}
use Rattle.meaning.specs.Names.{Name, is_same_observable}
use Rattle.meaning.specs.Machine.{Value, Number, NoValue, State, value_of, state_after, is_load, is_branch, is_fault, is_taken_in, target, stored_values}
use Rattle.meaning.specs.Runs.{Instance, Run, Rest, with_instance, end_of_run, run_with, run_from, label_after, run_of, value_given, initial_value, initial_registers, initial_state, lines_of_thread, IsRun}
use Rattle.meaning.specs.Domain.{FreeRest, end_of_free_run, free_run_from, free_run_of, InRound, InDomain, instruction_count, HasStored}
use Rattle.meaning_laws.specs.Words.{IsWord, IsWrittenWord, HasWordImmediate, IsStepOfWords, IsTestOfWords}
use Rattle.meaning_laws.proofs.Machines.{AreWords, written_number, after_words, stored_words}

-- a run has words in its registers, all the way
pub record HasWords (r : Run) : Type 0 where
  pub final : AreWords r.final.registers
  pub before : AllByRecursion (λ (i : Instance). AreWords i.before.registers) r.instances

-- what the lines from one on do keeps words
abbrev pub RestKeeps : Rest → Type 0
RestKeeps rest =
    (l : Option Name) (s : State) (vs : List Value) (r : Run) → AreWords s.registers → AreWords vs
    → rest l s vs ≡ Some r → HasWords r

ended : (faulted : Bool) (s : State) (vs : List Value) (r : Run) → AreWords s.registers
    → end_of_run faulted s vs ≡ Some r → HasWords r
ended faulted s [] r all e =
    subst HasWords (same_Some _ _ e) (record { final = all; before = tt })
ended faulted s (v ∷ vs) r all e = absurd (let f : None ≡ Some r = e in cc)

begun : (i : Instance) (o : Option Run) (r : Run) → AreWords i.before.registers
    → ((q : Run) → o ≡ Some q → HasWords q) → option_map (with_instance i) o ≡ Some r → HasWords r
begun i None r all rest e = absurd (let f : None ≡ Some r = e in cc)
begun i (Some q) r all rest e =
    let later : HasWords q = rest q refl in
    subst HasWords (same_Some _ _ e)
    (record { final = later.final; before = (all, later.before) })

module _ (i : text.Instruction) (taken : Bool) (s : State) (rest : Rest) (fits : HasWordImmediate i)
    (all : AreWords s.registers) (keeps : RestKeeps rest) (r : Run) where
  with_value : (v : Value) (vs : List Value) → IsWord v → AreWords vs
      → run_with i taken v s rest vs ≡ Some r → HasWords r
  with_value v vs h hs e =
      begun (record { instruction = i; before = s; loaded = v })
      (rest (target i taken) (state_after i v s) vs) r all
      (λ q at. keeps (target i taken) (state_after i v s) vs q (after_words i v s fits h all) hs at)
      e

  pub from_here : (loads : Bool) (vs : List Value) → AreWords vs
      → run_from loads i taken s rest vs ≡ Some r → HasWords r
  from_here true [] hs e = absurd (let f : None ≡ Some r = e in cc)
  from_here true (v ∷ vs) hs e = with_value v vs hs.0 hs.1 e
  from_here false vs hs e = with_value NoValue vs tt hs e

executed : (i : text.Instruction) (s : State) (rest : Rest) → HasWordImmediate i
    → AreWords s.registers → RestKeeps rest → (vs : List Value) (r : Run) → AreWords vs
    → (b : Bool)
    → (if b then end_of_run true s vs else run_from (is_load i) i (is_taken_in s i) s rest vs)
    ≡ Some r
    → HasWords r
executed i s rest fits all keeps vs r hs true e = ended true s vs r all e
executed i s rest fits all keeps vs r hs false e =
    from_here i (is_taken_in s i) s rest fits all keeps r (is_load i) vs hs e

-- ---- runs

abbrev pub AreLines : List Step → Type 0
AreLines xs = AllByRecursion IsStepOfWords xs

pub run_words : (xs : List Step) → AreLines xs → RestKeeps (run_of xs)
run_words [] lines seeking s vs r all hs e = ended false s vs r all e
run_words (Label m ∷ xs) lines seeking s vs r all hs e =
    run_words xs lines.1 (label_after m seeking) s vs r all hs e
run_words (Instruction i ∷ xs) lines (Some l) s vs r all hs e =
    run_words xs lines.1 (Some l) s vs r all hs e
run_words (Instruction i ∷ xs) lines None s vs r all hs e =
    executed i s (λ l u us. run_of xs l u us) lines.0 all
    (λ l u us q given more at. run_words xs lines.1 l u us q given more at) vs r hs (is_fault i s) e

-- ---- free runs

abbrev pub FreeKeeps : FreeRest → Type 0
FreeKeeps rest =
    (l : Option Name) (s : State) (bs : List Bool) (vs : List Value) (r : Run)
    → AreWords s.registers → AreWords vs → rest l s bs vs ≡ Some r → HasWords r

ended_free : (s : State) (bs : List Bool) (vs : List Value) (r : Run) → AreWords s.registers
    → end_of_free_run s bs vs ≡ Some r → HasWords r
ended_free s [] vs r all e = ended false s vs r all e
ended_free s (b ∷ bs) vs r all e = absurd (let f : None ≡ Some r = e in cc)

free_from : (branches : Bool) (i : text.Instruction) (s : State) (rest : FreeRest) → FreeKeeps rest
    → HasWordImmediate i → (bs : List Bool) (vs : List Value) (r : Run) → AreWords s.registers
    → AreWords vs → free_run_from branches i s rest bs vs ≡ Some r → HasWords r
free_from true i s rest keeps fits [] vs r all hs e = absurd (let f : None ≡ Some r = e in cc)
free_from true i s rest keeps fits (b ∷ bs) vs r all hs e =
    from_here i b s (λ l u us. rest l u bs us) fits all
    (λ l u us q given more at. keeps l u bs us q given more at) r (is_load i) vs hs e
free_from false i s rest keeps fits bs vs r all hs e =
    from_here i false s (λ l u us. rest l u bs us) fits all
    (λ l u us q given more at. keeps l u bs us q given more at) r (is_load i) vs hs e

pub free_words : (xs : List Step) → AreLines xs → FreeKeeps (free_run_of xs)
free_words [] lines seeking s bs vs r all hs e = ended_free s bs vs r all e
free_words (Label m ∷ xs) lines seeking s bs vs r all hs e =
    free_words xs lines.1 (label_after m seeking) s bs vs r all hs e
free_words (Instruction i ∷ xs) lines (Some l) s bs vs r all hs e =
    free_words xs lines.1 (Some l) s bs vs r all hs e
free_words (Instruction i ∷ xs) lines None s bs vs r all hs e =
    free_from (is_branch i) i s (λ l u cs us. free_run_of xs l u cs us)
    (λ l u cs us q given more at. free_words xs lines.1 l u cs us q given more at) lines.0 bs vs r
    all hs e

-- ---- the start

written_word : (v : written.Value) → IsWrittenWord v → IsWord (value_of v)
written_word (texts.Number n) h = written_number n h
written_word (texts.Address l) h = tt

given_word : (es : List InitEntry) (v : Value) (p : Place)
    → AllByRecursion (λ (e : InitEntry). IsWrittenWord e.value) es → IsWord v
    → IsWord (value_given es v p)
given_word [] v p all h = h
given_word (e ∷ es) v p all h =
    given_word es (if is_same_observable e.place p then value_of e.value else v) p all.1
    (chosen (is_same_observable e.place p))
  where
    chosen : (b : Bool) → IsWord (if b then value_of e.value else v)
    chosen true = written_word e.value all.0
    chosen false = h

module _ (t : Content) (of : IsTestOfWords t) where
  pub initial_word : (p : Place) → IsWord (initial_value t p)
  initial_word p =
      given_word t.init (Number 0) p
      (recursion_from_All (λ (e : InitEntry). IsWrittenWord e.value) t.init of.start) (pow_pos 32)

  all_initial : (thread : ℕ) (rs : List ℕ)
      → AreWords (map (λ r. initial_value t (observables.Register thread r)) rs)
  all_initial thread [] = tt
  all_initial thread (r ∷ rs) =
      (initial_word (observables.Register thread r), all_initial thread rs)

  start : (thread : ℕ) → AreWords (initial_state t thread).registers
  start thread = all_initial thread (range_with_len 0 32)

  lines_at : (xss : List (List Step)) (thread : ℕ)
      → AllByRecursion (λ (steps : List Step). All IsStepOfWords steps) xss
      → AreLines (slice_index_or xss thread [])
  lines_at [] thread all = tt
  lines_at (xs ∷ xss) zero all = recursion_from_All IsStepOfWords xs all.0
  lines_at (xs ∷ xss) (suc thread) all = lines_at xss thread all.1

  lines : (thread : ℕ) → AreLines (lines_of_thread t thread)
  lines thread =
      lines_at t.threads thread
      (recursion_from_All (λ (steps : List Step). All IsStepOfWords steps) t.threads of.lines)

  -- ---- over a set of words

  module _ (V : Value → Type 0) (words : (v : Value) → V v → IsWord v) where
    values : (vs : List Value) → AllByRecursion V vs → AreWords vs
    values [] all = tt
    values (v ∷ vs) all = (words v all.0, values vs all.1)

    pub run_has_words : (thread : ℕ) (r : Run) → IsRun t V thread r → HasWords r
    run_has_words thread r (vs, all, is) =
        run_words (lines_of_thread t thread) (lines thread) None (initial_state t thread) vs r
        (start thread) (values vs (recursion_from_All V vs all)) is

  -- ---- what is stored

  in_instances : (is : List Instance) → AllByRecursion (λ (i : Instance). AreWords i.before.registers) is
      → (i : Instance) → Contains is i → AreWords i.before.registers
  in_instances [] all i (k, lt, eq) = absurd (omega (arith, lt))
  in_instances (j ∷ is) all i (zero, lt, eq) =
      subst (λ (d : Instance). AreWords d.before.registers) eq all.0
  in_instances (j ∷ is) all i (suc k, lt, eq) = in_instances is all.1 i (k, omega (arith, lt), eq)

  pub stored_word : (r : Run) → HasWords r → (v : Value) → HasStored r v → IsWord v
  stored_word r has v (i, there, stored) =
      stored_words i.instruction i.before v (in_instances r.instances has.before i there) stored

  -- ---- the domain

  in_round : (k : ℕ) (v : Value) → InRound t k v → IsWord v
  in_round zero v (l, there, is) =
      subst IsWord (sym is) (initial_word (observables.Location l))
  in_round (suc k) v (inl before) = in_round k v before
  in_round (suc k) v (inr ((thread, lt, f, (all, is), stored), proper)) =
      stored_word f.run
      (free_words (lines_of_thread t thread) (lines thread) None (initial_state t thread) f.choices f.values
      f.run (start thread)
      (values (InRound t k) (λ w h. in_round k w h) f.values
      (recursion_from_All (InRound t k) f.values all)) is)
      v stored

  pub in_domain : (v : Value) → InDomain t v → IsWord v
  in_domain v h = in_round (instruction_count is_load t) v h
