-- An execution ends in one state.
use Rattle.std.proofs.Common.{◌≡◌, zero, suc, List, [], ◌∷◌, Contains, Some, slice_get, unwrap_or, refl, sym, ap, ap₂, subst, ◌∙◌, arith}
use Rattle.std.specs.List.{AllZip}
use Rattle.std.specs.Prelude.{Option}
use Rattle.text_values.specs.declared.test.Place.{Place}
use Rattle.text_values.specs.declared.test.Place.TheVariants.{Location, Register}
use Rattle.text_values.specs.declared.instruction.Instruction.{Instruction}
use Rattle.text_values.specs.declared.instruction.Instruction.TheVariants.{Store, StoreIndexed}
use Rattle.text_values.specs.TestValue.{Content}
use Rattle.meaning.specs.Names.{Name}
use Rattle.meaning.specs.Machine.{Value, NoValue, State, stored_values}
use Rattle.meaning.specs.Runs.{Instance}
use Rattle.meaning.specs.Executions.{Event, Initial, Does, Execution, Action, Loads, Stores, Fences, HasAction, instances_of}
use Rattle.meaning.specs.Outcome.{EndsWith, EndsIn, IsFinalValue, observables}
use Rattle.meaning.proofs.Counting.{lasts_are_one}
use Rattle.meaning.proofs.Orders.{beside_location}

-- what is stored, of an action
stored_by : Action → Value
stored_by (Stores l v) = v
stored_by (Loads l v) = NoValue
stored_by (Fences f) = NoValue

only_one : (w v u : Value) → Contains (w ∷ []) v → Contains (w ∷ []) u → v ≡ u
only_one w v u (zero, lt, eq) (zero, lt', eq') = sym eq ∙ eq'
only_one w v u (zero, lt, eq) (suc k, lt', eq') = absurd (omega arith)
only_one w v u (suc k, lt, eq) h = absurd (omega arith)

none_stored : (v : Value) → Contains [] v → ⊥
none_stored v (k, lt, eq) = absurd (omega arith)

stores_one : (i : Instruction) (s : State) (v u : Value) → Contains (stored_values i s) v
    → Contains (stored_values i s) u → v ≡ u
stores_one (Store d a) s v u first second = only_one _ v u first second
stores_one (StoreIndexed d a b) s v u first second = only_one _ v u first second
stores_one _ s v u first second = absurd (none_stored v first)

same_instance : (i j : Instance) (o : Option Instance) → o ≡ Some i → o ≡ Some j → i ≡ j
same_instance i j o first second = ap (λ (x : Option Instance). unwrap_or x i) (sym first ∙ second)

value_stored : (t : Content) (x : Execution) (e : Event) (l : Name) (v u : Value)
    → HasAction t x e (Stores l v) → HasAction t x e (Stores l u) → v ≡ u
unfolding stored_by
value_stored t x (Initial m) l v u first second =
    ap stored_by first.1 ∙ sym (ap stored_by second.1)
value_stored t x (Does thread index) l v u (i, at, acts) (j, also, does) =
    let same : i ≡ j = same_instance i j (slice_get (instances_of x thread) index) at also in
    stores_one i.instruction i.before v u acts.1
    (subst (λ (one : Instance). Contains (stored_values one.instruction one.before) u) (sym same)
    does.1)

final_value_is_one : (t : Content) (x : Execution) (l : Name) (v u : Value)
    → IsFinalValue t x l v → IsFinalValue t x l u → v ≡ u
final_value_is_one t x l v u (order, before, last, there, is, stores)
    (other, front, end, also, are, store) =
    let same : order ≡ other = beside_location t x.coherence l order other there also in
    let one : last ≡ end = lasts_are_one before front last end (sym is ∙ same ∙ are) in
    value_stored t x end l v u (subst (λ e. HasAction t x e (Stores l v)) one stores) store

ends_with_one : (t : Content) (x : Execution) (p : Place) (v u : Value) → EndsWith t x p v
    → EndsWith t x p u → v ≡ u
ends_with_one t x (Register thread r) v u first second = first ∙ sym second
ends_with_one t x (Location l) v u first second = final_value_is_one t x l v u first second

all_ends : (t : Content) (x : Execution) (ps : List Place) (s r : List Value)
    → AllZip (EndsWith t x) ps s → AllZip (EndsWith t x) ps r → s ≡ r
all_ends t x [] [] [] first second = refl
all_ends t x [] [] (u ∷ r) first second = absurd second
all_ends t x [] (v ∷ s) r first second = absurd first
all_ends t x (p ∷ ps) [] r first second = absurd first
all_ends t x (p ∷ ps) (v ∷ s) [] first second = absurd second
all_ends t x (p ∷ ps) (v ∷ s) (u ∷ r) first second =
    ap₂ (λ h rest. h ∷ rest) (ends_with_one t x p v u first.0 second.0)
    (all_ends t x ps s r first.1 second.1)

-- an execution ends in one state
pub ends_in_one : (t : Content) (x : Execution) (s r : List Value) → EndsIn t x s → EndsIn t x r
    → s ≡ r
ends_in_one t x s r first second = all_ends t x (observables t) s r first second
