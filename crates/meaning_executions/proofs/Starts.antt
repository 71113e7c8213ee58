-- What a thread executes, and where it starts.
use Rattle.std.proofs.Common.{ℕ, suc, ◌≡◌, ◌<◌, inl, inr, Bool, true, false, List, [], ◌∷◌, ◌++◌, All, Contains, Option, None, flat_map, length, get_or, replicate, if◌then◌else◌, refl, sym, ap, subst, ◌∙◌, arith, Vec, vec_len}
use Rattle.std.specs.declared.alloc.Global.{Global}
use Rattle.std.proofs.lemmas.List.{get_or_default, get_or-map}
use Rattle.std.proofs.lemmas.List.FromFn.{get_or-map-range_with_len, length-map-range_with_len}
use Rattle.std.proofs.lemmas.List.Concat.{flat_map-cons}
use Rattle.std.proofs.lemmas.List.Elements.{All-head, All-tail, Contains-append_left, Contains-append_right}
use Rattle.std.proofs.lemmas.Option.{slice_get-get_or}
use Rattle.text_values.specs.declared.test.Test.{Test}
use Rattle.text_values.specs.declared.test.Thread.{Thread}
use Rattle.text_values.specs.declared.test.Place.{Place}
use Rattle.text_values.specs.declared.test.Place.TheVariants as places
use Rattle.text_values.specs.declared.test.Value as written
use Rattle.text_values.specs.declared.test.Value.TheVariants as texts
use Rattle.text_values.specs.declared.test.InitEntry.{InitEntry}
use Rattle.text_values.specs.declared.test.Step.{Step}
use Rattle.text_values.specs.TestValue.{Content, content_of, thread_steps}
use Rattle.thread_runs.specs.declared.value.Value as numbered_value
use Rattle.thread_runs.specs.declared.value.Value.TheVariants as numbers
use Rattle.thread_runs.specs.declared.instruction.Line.{Line}
use Rattle.thread_runs.specs.declared.instruction.Program.{Program}
use Rattle.thread_runs.specs.Runs as numbered
use Rattle.thread_runs.specs.AllRuns.{thread_of, lines_at}
use Rattle.ppc_lowering.specs.Lowering.{AreRegisters, IsProgram, LowersTo, Starts, lowered_value, name_index, value_names, place_names}
use Rattle.meaning.specs.Names.{Name, is_same_observable, locations, locations_of_entry, locations_of_formula, locations_of_observable}
use Rattle.meaning.specs.Machine.{Value, Number, Address, NoValue, value_of}
use Rattle.meaning.specs.Runs.{value_given, initial_value, initial_registers, initial_state, lines_of_thread, run_of}
use Rattle.meaning.proofs.Counting.{here}
use Rattle.meaning.proofs.Entries.{same_is, itself, in_order_too}
use Rattle.meaning.specs.Domain.{free_run_of}
use Rattle.meaning_executions.specs.Values.{IsSameValue, number, address, AreSameValues, none, more, IsSameState}
use Rattle.meaning_executions.specs.Runs.{RunsAlike, IsSameOutcome}
use Rattle.meaning_executions.proofs.Located.{named, rises, numbered_are}
use Rattle.meaning_executions.proofs.Labels.{AreLabelled, within, names_back, labelled}
use Rattle.meaning_executions.proofs.Machines.{apart}
use Rattle.meaning_executions.proofs.Following.{same_outcome, same_free_outcome}

-- ---- Entries

abbrev HasNone : Place → List InitEntry → Type 0
HasNone p es = All (λ e. e.place ≡ p → ⊥) es

other : (e : InitEntry) (v : Value) (p : Place) → (e.place ≡ p → ⊥) → (b : Bool)
    → is_same_observable e.place p ≡ b → (if b then value_of e.value else v) ≡ v
other e v p absent true h = absurd (absent (same_is e.place p h))
other e v p absent false h = refl

none_given : (es : List InitEntry) (v : Value) (p : Place) → HasNone p es
    → value_given es v p ≡ v
none_given [] v p h = refl
none_given (e ∷ es) v p h =
    ap (λ (w : Value). value_given es w p)
    (other e v p (All-head (λ e. e.place ≡ p → ⊥) e es h) (is_same_observable e.place p) refl)
    ∙ none_given es v p (All-tail (λ e. e.place ≡ p → ⊥) e es h)

last_given : (before behind : List InitEntry) (e : InitEntry) (v : Value) (p : Place)
    → e.place ≡ p → HasNone p behind
    → value_given (before ++ e ∷ behind) v p ≡ value_of e.value
last_given [] behind e v p at absent =
    ap (λ (b : Bool). value_given behind (if b then value_of e.value else v) p)
    (subst (λ (q : Place). is_same_observable e.place q ≡ true) at (itself e.place))
    ∙ none_given behind (value_of e.value) p absent
last_given (d ∷ before) behind e v p at absent =
    last_given before behind e (if is_same_observable d.place p then value_of d.value else v) p at absent

same_written : (names : List Name) (w : written.Value)
    → ((n : Name) → Contains (value_names w) n → Contains names n)
    → IsSameValue names (lowered_value names w) (value_of w)
same_written names (texts.Number n) inside = number _
same_written names (texts.Address l) inside =
    let lt : name_index names l < length names = within names l (inside l (here l [])) in
    subst (λ (m : Name). IsSameValue names (numbers.Address (name_index names l)) (Address m))
    (names_back names l lt) (address (name_index names l) lt)

in_entries : (before behind : List InitEntry) (e : InitEntry) (n : Name)
    → Contains (locations_of_entry e) n
    → Contains (flat_map locations_of_entry (before ++ e ∷ behind)) n
in_entries [] behind e n h =
    subst (λ (l : List Name). Contains l n) (sym (flat_map-cons locations_of_entry e behind))
    (Contains-append_left (locations_of_entry e) (flat_map locations_of_entry behind) n h)
in_entries (d ∷ before) behind e n h =
    subst (λ (l : List Name). Contains l n)
    (sym (flat_map-cons locations_of_entry d (before ++ e ∷ behind)))
    (Contains-append_right (locations_of_entry d)
    (flat_map locations_of_entry (before ++ e ∷ behind)) n (in_entries before behind e n h))

is_location : (t : Content) (before behind : List InitEntry) (e : InitEntry)
    → t.init ≡ before ++ e ∷ behind → (n : Name) → Contains (value_names e.value) n
    → Contains (locations t) n
is_location t before behind e is n h =
    in_order_too (named t) n
    (Contains-append_left (flat_map locations_of_entry t.init ++ locations_of_formula t.condition)
    (flat_map locations_of_observable t.observed) n
    (Contains-append_left (flat_map locations_of_entry t.init) (locations_of_formula t.condition) n
    (subst (λ (es : List InitEntry). Contains (flat_map locations_of_entry es) n) (sym is)
    (in_entries before behind e n
    (Contains-append_right (place_names e.place) (value_names e.value) n h)))))

-- an observable holds the same at the start
pub starts_alike : (t : Content) (p : Place) (v : numbered_value.Value)
    → Starts t.init p (locations t) v → IsSameValue (locations t) v (initial_value t p)
starts_alike t p v (inl (e, last, is)) =
    let given : value_given t.init (Number 0) p ≡ value_of e.value =
    ap (λ (es : List InitEntry). value_given es (Number 0) p) last.there
    ∙ last_given last.before last.behind e (Number 0) p last.place last.last in
    subst (λ (w : Value). IsSameValue (locations t) v w) (sym given)
    (subst (λ (u : numbered_value.Value). IsSameValue (locations t) u (value_of e.value)) (sym is)
    (same_written (locations t) e.value
    (is_location t last.before last.behind e last.there)))
starts_alike t p v (inr (absent, is)) =
    subst (λ (w : Value). IsSameValue (locations t) v w) (sym (none_given t.init (Number 0) p absent))
    (subst (λ (u : numbered_value.Value). IsSameValue (locations t) u (Number 0)) (sym is) (number 0))

-- ---- Registers

pointwise : (names : List Name) (vs : List numbered_value.Value) (ws : List Value)
    → length vs ≡ length ws
    → ((k : ℕ) → k < length vs
    → IsSameValue names (get_or vs k numbers.NoValue) (get_or ws k NoValue))
    → AreSameValues names vs ws
pointwise names [] [] e h = none
pointwise names [] (w ∷ ws) e h = absurd (omega arith)
pointwise names (v ∷ vs) [] e h = absurd (omega arith)
pointwise names (v ∷ vs) (w ∷ ws) e h =
    more (h 0 (omega arith))
    (pointwise names vs ws (omega arith) (λ k lt. h (suc k) (omega arith)))

registers_alike : (t : Content) (thread : ℕ) (file : List numbered_value.Value)
    → AreRegisters t.init (locations t) thread file
    → AreSameValues (locations t) file (initial_registers t thread)
registers_alike t thread file are =
    pointwise (locations t) file (initial_registers t thread)
    (are.each_one
    ∙ sym (length-map-range_with_len (λ r. initial_value t (places.Register thread r)) 0 32))
    (λ r lt.
    let under : r < 32 = subst (λ (n : ℕ). r < n) are.each_one lt in
    subst (λ (w : Value). IsSameValue (locations t) (get_or file r numbers.NoValue) w)
    (sym (get_or-map-range_with_len (λ r. initial_value t (places.Register thread r)) 0 32 r r
    NoValue under (omega arith)))
    (starts_alike t (places.Register thread r) (get_or file r numbers.NoValue)
    (are.starts r under)))

-- ---- Threads

any : {X : Type 0} (xs : List X) (k : ℕ) → k < length xs → X
any [] k lt = absurd (omega arith)
any (x ∷ xs) k lt = x

module _ (t : Test) (p : Program) (of : IsProgram t p) (thread : ℕ)
    (there : thread < length t.threads.items) where
  abbrev names : List Name
  names = locations (content_of t)

  locations_are : p.locations.items ≡ names
  locations_are = numbered_are t p.locations.items of.locations

  counted : thread < vec_len t.threads
  counted = subst (λ (n : ℕ). thread < n) (sym t.threads.ok.0) there

  first_alike : IsSameState names (thread_of p thread).first (initial_state (content_of t) thread)
  first_alike = record {
    registers =
        let are : _ = subst (λ (ns : List Name). AreRegisters t.init.items ns thread (get_or p.registers.items thread [])) locations_are (of.registers.starts thread counted) in
        subst (λ (file : List numbered_value.Value). AreSameValues names file (initial_registers (content_of t) thread))
        (get_or_default p.registers.items thread [] (replicate 32 (numbers.Number 0))
        (subst (λ (n : ℕ). thread < n) (sym of.registers.each_one) counted))
        (registers_alike (content_of t) thread (get_or p.registers.items thread []) are);
    compared = refl;
  }

  made_there : thread < length p.threads.items
  made_there = subst (λ (n : ℕ). thread < n) (sym of.threads.each_one) there

  abbrev some_thread : Thread
  some_thread = any t.threads.items thread there

  abbrev some_lines : Vec Line Global
  some_lines = any p.threads.items thread made_there

  lines_are : (get_or t.threads.items thread some_thread).steps.items ≡ lines_of_thread (content_of t) thread
  lines_are = sym (get_or-map thread_steps t.threads.items thread some_thread [] there)

  lowered : LowersTo (lines_of_thread (content_of t) thread) (thread_of p thread).lines
  lowered =
      subst (λ (xs : List Line). LowersTo (lines_of_thread (content_of t) thread) xs)
      (sym (ap (λ (o : Option (Vec Line Global)). lines_at o)
      (slice_get-get_or p.threads.items thread some_lines made_there)))
      (subst
      (λ (xs : List Step). LowersTo xs (get_or p.threads.items thread some_lines).items) lines_are
      (of.threads.each thread some_thread some_lines there))

  are_labelled : AreLabelled lowered.0 (lines_of_thread (content_of t) thread)
  are_labelled =
      labelled lowered.0 (lines_of_thread (content_of t) thread) (λ n h. (lowered.1.exact n).1 h)

  pub runs_alike : RunsAlike (content_of t) p thread
  runs_alike = record {
    labels = lowered.0;
    numbered = lowered.1;
    runs = λ vs ws hs.
        subst
        (λ (xs : List Line). IsSameOutcome names lowered.0
        (numbered.run_of xs (thread_of p thread).first vs)
        (run_of (lines_of_thread (content_of t) thread) None (initial_state (content_of t) thread) ws))
        (sym lowered.2)
        (same_outcome names lowered.0 (apart names (rises (content_of t)))
        (lines_of_thread (content_of t) thread) are_labelled (thread_of p thread).first
        (initial_state (content_of t) thread) first_alike vs ws hs);
    free_runs = λ bs vs ws hs.
        subst
        (λ (xs : List Line). IsSameOutcome names lowered.0
        (numbered.free_run_of xs (thread_of p thread).first bs vs)
        (free_run_of (lines_of_thread (content_of t) thread) None (initial_state (content_of t) thread) bs
        ws))
        (sym lowered.2)
        (same_free_outcome names lowered.0 (apart names (rises (content_of t)))
        (lines_of_thread (content_of t) thread) are_labelled (thread_of p thread).first
        (initial_state (content_of t) thread) first_alike bs vs ws hs);
  }
