-- A run by numbers and a run by names go over the same lines in the same way.
use Rattle.std.proofs.Common.{ℕ, ◌≡◌, Bool, true, false, List, [], ◌∷◌, ◌++◌, map, Contains, Option, Some, None, option_map, if◌then◌else◌, nat_eq, bytes_eq, refl, sym, subst, ◌∙◌, append_assoc, true≢false}
use Rattle.std.proofs.lemmas.List.{append-nil}
use Rattle.text_values.specs.declared.test.Step.{Step}
use Rattle.text_values.specs.declared.test.Step.TheVariants as lines
use Rattle.text_values.specs.declared.instruction.Instruction as text
use Rattle.thread_runs.specs.declared.value.Value as numbered_value
use Rattle.thread_runs.specs.declared.value.Value.TheVariants as numbers
use Rattle.thread_runs.specs.declared.state.State as numbered_state
use Rattle.thread_runs.specs.declared.instruction.Line.TheVariants as numbered_lines
use Rattle.thread_runs.specs.declared.instruction.RunStep.{RunStep}
use Rattle.thread_runs.specs.declared.instruction.Event as numbered_event
use Rattle.thread_runs.specs.Machine as numbered
use Rattle.thread_runs.specs.Runs as numbered_runs
use Rattle.thread_runs.specs.Runs.{Walk, RunOutcome, walk_after, walk_past, Continuation, FreeNext, after_line, after_instruction, after_load, after_free_line, after_free_instruction}
use Rattle.ppc_lowering.specs.Lowering.{lowered_instruction, lowered_line, name_index}
use Rattle.meaning.specs.Names.{Name}
use Rattle.meaning.specs.Machine.{Value, NoValue, State, state_after, is_load, is_branch, is_fault, is_taken_in, target}
use Rattle.meaning.specs.Runs.{Instance, Run, Rest, with_instance, end_of_run, run_with, run_from, label_after, run_of}
use Rattle.meaning.specs.Domain.{FreeRest, free_run_from, free_run_of}
use Rattle.meaning_executions.specs.Values.{IsSameValue, nothing, AreSameValues, none, more, IsSameState}
use Rattle.meaning_executions.specs.Instructions.{AreEventsOf, DoesSame}
use Rattle.meaning_executions.specs.Runs as told
use Rattle.meaning_executions.specs.Runs.{AreSameSteps, IsSameRun, IsSameOutcome}
use Rattle.meaning_executions.proofs.Machines.{AreApart, does_same}
use Rattle.meaning_executions.proofs.Labels.{AreLabelled, numbers_tell}

abbrev pub Events : Type 0
Events = List numbered_event.Event

-- the run by numbers, which has done these steps already, goes on as the run by names
pub record GoesOn (names labels : List Name) (steps : List RunStep) (events : Events) (o : RunOutcome)
    (r : Run) : Type 0 where
  pub later : List RunStep
  pub doing : Events
  pub steps_are : o.walk.steps ≡ steps ++ later
  pub events_are : o.walk.events ≡ events ++ doing
  pub same : AreSameSteps names labels later doing r.instances
  pub final : IsSameState names o.walk.state r.final
  pub faulted : o.faulted ≡ r.faulted

pub data Follows (names labels : List Name) (steps : List RunStep) (events : Events)
    : Option RunOutcome → Option Run → Type 0 where
  neither : Follows names labels steps events None None
  both : {o : RunOutcome} {r : Run} → GoesOn names labels steps events o r
      → Follows names labels steps events (Some o) (Some r)

module _ (names labels : List Name) (are_apart : AreApart names) where
  abbrev pub numbered_label : Option Name → Option ℕ
  numbered_label o = option_map (λ n. name_index labels n) o

  -- ---- The end

  pub ended : (w : Walk) (u : State) (f : Bool) → IsSameState names w.state u
      → {vs : List numbered_value.Value} {ws : List Value} → AreSameValues names vs ws
      → Follows names labels w.steps w.events (numbered_runs.ends f w vs) (end_of_run f u ws)
  ended w u f state none = both (record {
    later = [];
    doing = [];
    steps_are = sym (append-nil w.steps);
    events_are = sym (append-nil w.events);
    same = told.none;
    final = state;
    faulted = refl;
  })
  ended w u f state (more h hs) = neither

  -- ---- An instruction

  -- an instruction before what follows
  before : (steps : List RunStep) (events : Events) (s : RunStep) (es : Events) (i : Instance)
      → s.instruction ≡ lowered_instruction labels i.instruction
      → IsSameValue names s.loaded i.loaded → AreEventsOf names i es
      → {o : Option RunOutcome} {r : Option Run}
      → Follows names labels (steps ++ s ∷ []) (events ++ es) o r
      → Follows names labels steps events o (option_map (λ q. with_instance i q) r)
  before steps events s es i is loaded does neither = neither
  before steps events s es i is loaded does (both on) = both (record {
    later = s ∷ on.later;
    doing = es ++ on.doing;
    steps_are = on.steps_are ∙ append_assoc steps (s ∷ []) on.later;
    events_are = on.events_are ∙ append_assoc events es on.doing;
    same = told.more is loaded does on.same;
    final = on.final;
    faulted = on.faulted;
  })

  -- what comes next is the same by numbers as by names
  abbrev pub GoOnAlike : Continuation → Rest → Type 0
  GoOnAlike go rest =
      (w : Walk) (seeking : Option Name) (u : State) → w.seeking ≡ numbered_label seeking
      → IsSameState names w.state u
      → (vs : List numbered_value.Value) (ws : List Value) → AreSameValues names vs ws
      → Follows names labels w.steps w.events (go w vs) (rest seeking u ws)

  module _ (i : text.Instruction) (w : Walk) (u : State) (state : IsSameState names w.state u) where
    does : DoesSame names labels i w.state u
    does = does_same names are_apart labels w.state u state i

    module _ (go : Continuation) (rest : Rest) (on : GoOnAlike go rest) where
      loaded : (c : Bool) (v : numbered_value.Value) (z : Value) → IsSameValue names v z
          → (vs : List numbered_value.Value) (ws : List Value) → AreSameValues names vs ws
          → Follows names labels w.steps w.events
          (go (walk_after (lowered_instruction labels i) c v w) vs) (run_with i c z u rest ws)
      loaded c v z h vs ws hs =
          before w.steps w.events
          (record { instruction = lowered_instruction labels i; loaded = v })
          (numbered.event_of (lowered_instruction labels i) v w.state)
          (record { instruction = i; before = u; loaded = z }) refl h (does.events v z h)
          (on (walk_after (lowered_instruction labels i) c v w) (target i c) (state_after i z u)
          (does.goes_on c) (does.state v z h) vs ws hs)

      supplied : (b c : Bool) {vs : List numbered_value.Value} {ws : List Value}
          → AreSameValues names vs ws
          → Follows names labels w.steps w.events
          (after_load b (lowered_instruction labels i) c go w vs) (run_from b i c u rest ws)
      supplied true c none = neither
      supplied true c (more {v = v} {w = z} {vs = vs} {ws = ws} h hs) = loaded c v z h vs ws hs
      supplied false c {vs = vs} {ws = ws} hs =
          loaded c numbers.NoValue NoValue nothing vs ws hs

      takes_load : (c : Bool) (vs : List numbered_value.Value) (ws : List Value)
          → AreSameValues names vs ws
          → Follows names labels w.steps w.events
          (after_load (numbered.is_load (lowered_instruction labels i))
          (lowered_instruction labels i) c go w vs)
          (run_from (is_load i) i c u rest ws)
      takes_load c vs ws hs =
          subst
          (λ (b : Bool). Follows names labels w.steps w.events
          (after_load b (lowered_instruction labels i) c go w vs)
          (run_from (is_load i) i c u rest ws))
          (sym does.load) (supplied (is_load i) c hs)

      obeyed : (b : Bool) (vs : List numbered_value.Value) (ws : List Value)
          → AreSameValues names vs ws
          → Follows names labels w.steps w.events
          (after_instruction b (lowered_instruction labels i) go w vs)
          (if b then end_of_run true u ws
          else run_from (is_load i) i (is_taken_in u i) u rest ws)
      obeyed true vs ws hs = ended w u true state hs
      obeyed false vs ws hs =
          subst
          (λ (c : Bool). Follows names labels w.steps w.events
          (after_load (numbered.is_load (lowered_instruction labels i))
          (lowered_instruction labels i) c go w vs)
          (run_from (is_load i) i (is_taken_in u i) u rest ws))
          (sym does.taken) (takes_load (is_taken_in u i) vs ws hs)

      executed : (vs : List numbered_value.Value) (ws : List Value) → AreSameValues names vs ws
          → Follows names labels w.steps w.events
          (after_line None (numbered_lines.Does (lowered_instruction labels i)) go w vs)
          (if is_fault i u then end_of_run true u ws
          else run_from (is_load i) i (is_taken_in u i) u rest ws)
      executed vs ws hs =
          subst
          (λ (b : Bool). Follows names labels w.steps w.events
          (after_instruction b (lowered_instruction labels i) go w vs)
          (if is_fault i u then end_of_run true u ws
          else run_from (is_load i) i (is_taken_in u i) u rest ws))
          (sym does.fault) (obeyed (is_fault i u) vs ws hs)

    module _ (go : FreeNext) (rest : FreeRest)
        (on : (bs : List Bool) → GoOnAlike (λ x us. go x bs us) (λ l s us. rest l s bs us)) where
      chosen : (b : Bool) (bs : List Bool) (vs : List numbered_value.Value) (ws : List Value)
          → AreSameValues names vs ws
          → Follows names labels w.steps w.events
          (after_free_instruction b (lowered_instruction labels i) go w bs vs)
          (free_run_from b i u rest bs ws)
      chosen true [] vs ws hs = neither
      chosen true (b ∷ bs) vs ws hs =
          takes_load (λ x us. go x bs us) (λ l s us. rest l s bs us) (on bs) b vs ws hs
      chosen false bs vs ws hs =
          takes_load (λ x us. go x bs us) (λ l s us. rest l s bs us) (on bs) false vs ws hs

      executed_freely : (bs : List Bool) (vs : List numbered_value.Value) (ws : List Value)
          → AreSameValues names vs ws
          → Follows names labels w.steps w.events
          (after_free_line None (numbered_lines.Does (lowered_instruction labels i)) go w bs vs)
          (free_run_from (is_branch i) i u rest bs ws)
      executed_freely bs vs ws hs =
          subst
          (λ (b : Bool). Follows names labels w.steps w.events
          (after_free_instruction b (lowered_instruction labels i) go w bs vs)
          (free_run_from (is_branch i) i u rest bs ws))
          (sym does.branch) (chosen (is_branch i) bs vs ws hs)

  -- ---- A line

  found : (b c : Bool) (n : Name) → b ≡ c
      → (if b then None else Some (name_index labels n))
      ≡ option_map (λ m. name_index labels m) (if c then None else Some n)
  found true true n e = refl
  found false false n e = refl
  found true false n e = absurd (true≢false e)
  found false true n e = absurd (true≢false (sym e))

  found_alike : (n m : Name) → Contains labels m
      → (if nat_eq (name_index labels n) (name_index labels m) then None
      else Some (name_index labels n))
      ≡ option_map (λ k. name_index labels k) (if bytes_eq n m then None else Some n)
  found_alike n m there =
      found (nat_eq (name_index labels n) (name_index labels m)) (bytes_eq n m) n
      (numbers_tell labels n m there)

  after_line_alike : (x : Step) (xs : List Step) (w : Walk) (s : Option ℕ) → w.seeking ≡ s
      → (vs : List numbered_value.Value) (r : Option Run)
      → Follows names labels w.steps w.events
      (after_line s (lowered_line labels x)
      (numbered_runs.run_from (map (lowered_line labels) xs)) w vs) r
      → Follows names labels w.steps w.events
      (numbered_runs.run_from (map (lowered_line labels) (x ∷ xs)) w vs) r
  after_line_alike x xs w s e vs r h =
      subst
      (λ (q : Option ℕ). Follows names labels w.steps w.events
      (after_line q (lowered_line labels x)
      (numbered_runs.run_from (map (lowered_line labels) xs)) w vs) r)
      (sym e) h

  follows : (xs : List Step) → AreLabelled labels xs
      → GoOnAlike (numbered_runs.run_from (map (lowered_line labels) xs))
      (λ l s us. run_of xs l s us)
  follows [] l w seeking u seek state vs ws hs = ended w u false state hs
  follows (lines.Label m ∷ xs) l w None u seek state vs ws hs =
      after_line_alike (lines.Label m) xs w None seek vs (run_of xs None u ws)
      (follows xs l.1 w None u seek state vs ws hs)
  follows (lines.Label m ∷ xs) l w (Some n) u seek state vs ws hs =
      after_line_alike (lines.Label m) xs w (Some (name_index labels n)) seek vs
      (run_of xs (label_after m (Some n)) u ws)
      (follows xs l.1
      (walk_past (numbered_lines.Label (name_index labels m)) (name_index labels n) w)
      (label_after m (Some n)) u (found_alike n m l.0) state vs ws hs)
  follows (lines.Instruction i ∷ xs) l w (Some n) u seek state vs ws hs =
      after_line_alike (lines.Instruction i) xs w (Some (name_index labels n)) seek vs
      (run_of xs (Some n) u ws)
      (follows xs l
      (walk_past (numbered_lines.Does (lowered_instruction labels i)) (name_index labels n) w)
      (Some n) u refl state vs ws hs)
  follows (lines.Instruction i ∷ xs) l w None u seek state vs ws hs =
      after_line_alike (lines.Instruction i) xs w None seek vs
      (run_of (lines.Instruction i ∷ xs) None u ws)
      (executed i w u state (numbered_runs.run_from (map (lowered_line labels) xs))
      (λ l s us. run_of xs l s us) (follows xs l) vs ws hs)

  -- ---- A line of a free run

  after_free_line_alike : (x : Step) (xs : List Step) (w : Walk) (s : Option ℕ) → w.seeking ≡ s
      → (bs : List Bool) (vs : List numbered_value.Value) (r : Option Run)
      → Follows names labels w.steps w.events
      (after_free_line s (lowered_line labels x)
      (numbered_runs.free_from (map (lowered_line labels) xs)) w bs vs) r
      → Follows names labels w.steps w.events
      (numbered_runs.free_from (map (lowered_line labels) (x ∷ xs)) w bs vs) r
  after_free_line_alike x xs w s e bs vs r h =
      subst
      (λ (q : Option ℕ). Follows names labels w.steps w.events
      (after_free_line q (lowered_line labels x)
      (numbered_runs.free_from (map (lowered_line labels) xs)) w bs vs) r)
      (sym e) h

  follows_freely : (xs : List Step) → AreLabelled labels xs → (bs : List Bool)
      → GoOnAlike (λ w us. numbered_runs.free_from (map (lowered_line labels) xs) w bs us)
      (λ l s us. free_run_of xs l s bs us)
  follows_freely [] l [] w seeking u seek state vs ws hs = ended w u false state hs
  follows_freely [] l (b ∷ bs) w seeking u seek state vs ws hs = neither
  follows_freely (lines.Label m ∷ xs) l bs w None u seek state vs ws hs =
      after_free_line_alike (lines.Label m) xs w None seek bs vs (free_run_of xs None u bs ws)
      (follows_freely xs l.1 bs w None u seek state vs ws hs)
  follows_freely (lines.Label m ∷ xs) l bs w (Some n) u seek state vs ws hs =
      after_free_line_alike (lines.Label m) xs w (Some (name_index labels n)) seek bs vs
      (free_run_of xs (label_after m (Some n)) u bs ws)
      (follows_freely xs l.1 bs
      (walk_past (numbered_lines.Label (name_index labels m)) (name_index labels n) w)
      (label_after m (Some n)) u (found_alike n m l.0) state vs ws hs)
  follows_freely (lines.Instruction i ∷ xs) l bs w (Some n) u seek state vs ws hs =
      after_free_line_alike (lines.Instruction i) xs w (Some (name_index labels n)) seek bs vs
      (free_run_of xs (Some n) u bs ws)
      (follows_freely xs l bs
      (walk_past (numbered_lines.Does (lowered_instruction labels i)) (name_index labels n) w)
      (Some n) u refl state vs ws hs)
  follows_freely (lines.Instruction i ∷ xs) l bs w None u seek state vs ws hs =
      after_free_line_alike (lines.Instruction i) xs w None seek bs vs
      (free_run_of (lines.Instruction i ∷ xs) None u bs ws)
      (executed_freely i w u state (numbered_runs.free_from (map (lowered_line labels) xs))
      (λ l s cs us. free_run_of xs l s cs us) (follows_freely xs l) bs vs ws hs)

  -- ---- The whole run

  whole : {o : Option RunOutcome} {r : Option Run} → Follows names labels [] [] o r
      → IsSameOutcome names labels o r
  whole neither = told.neither
  whole (both {o = o} {r = r} on) = told.both (record {
    steps = subst (λ (steps : List RunStep). AreSameSteps names labels steps o.walk.events r.instances)
        (sym on.steps_are)
        (subst (λ (events : Events). AreSameSteps names labels on.later events r.instances)
        (sym on.events_are) on.same);
    final = on.final;
    faulted = on.faulted;
  })

  pub same_outcome : (xs : List Step) → AreLabelled labels xs
      → (s : numbered_state.State) (u : State) → IsSameState names s u
      → (vs : List numbered_value.Value) (ws : List Value) → AreSameValues names vs ws
      → IsSameOutcome names labels (numbered_runs.run_of (map (lowered_line labels) xs) s vs)
      (run_of xs None u ws)
  same_outcome xs l s u state vs ws hs =
      whole (follows xs l (numbered_runs.walk_at s) None u refl state vs ws hs)

  pub same_free_outcome : (xs : List Step) → AreLabelled labels xs
      → (s : numbered_state.State) (u : State) → IsSameState names s u → (bs : List Bool)
      → (vs : List numbered_value.Value) (ws : List Value) → AreSameValues names vs ws
      → IsSameOutcome names labels
      (numbered_runs.free_run_of (map (lowered_line labels) xs) s bs vs)
      (free_run_of xs None u bs ws)
  same_free_outcome xs l s u state bs vs ws hs =
      whole (follows_freely xs l bs (numbered_runs.walk_at s) None u refl state vs ws hs)
