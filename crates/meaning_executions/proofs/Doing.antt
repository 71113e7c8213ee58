-- What an event does is one action, which its instruction decides.
use Rattle.std.proofs.Common.{◌≡◌, zero, suc, Bool, true, false, not, ◌||◌, List, [], ◌∷◌, Contains, refl, sym, ap, ap₂, subst, ◌∙◌, arith, true≢false}
use Rattle.std.proofs.lemmas.Option.{same_Some}
use Rattle.text_values.specs.declared.instruction.Fence as kinds
use Rattle.text_values.specs.declared.instruction.Instruction as text
use Rattle.text_values.specs.declared.instruction.Instruction.TheVariants as does
use Rattle.text_values.specs.TestValue.{Content}
use Rattle.meaning.specs.Names.{Name}
use Rattle.meaning.specs.Machine.{Value, Number, Address, NoValue, State, register, address_of, stored_values, is_address, is_fault, is_load, is_store, is_fence, sum_of}
use Rattle.meaning.specs.Runs.{Instance}
use Rattle.meaning.specs.Dependencies.{is_event}
use Rattle.meaning.specs.Executions.{Event, Initial, Does, Execution, Action, Loads, Stores, Fences, IsActionOf, HasAction}

nothing_in : {X : Type 0} (x : X) → Contains [] x → ⊥
nothing_in x (k, lt, eq) = omega arith

-- an instruction stores nothing, or one value where it is a store
data IsStoring (i : text.Instruction) (s : State) : Type 0 where
  none : is_store i ≡ false → stored_values i s ≡ [] → IsStoring i s
  one : is_store i ≡ true → is_load i ≡ false → (w : Value) → stored_values i s ≡ w ∷ []
      → IsStoring i s

storing : (i : text.Instruction) (s : State) → IsStoring i s
storing (does.LoadImmediate d n) s = none refl refl
storing (does.Move d a) s = none refl refl
storing (does.AddImmediate d a n) s = none refl refl
storing (does.Compute o d a b) s = none refl refl
storing (does.Load d a) s = none refl refl
storing (does.LoadIndexed d a b) s = none refl refl
storing (does.Store d a) s = one refl refl (register s d) refl
storing (does.StoreIndexed d a b) s = one refl refl (register s d) refl
storing (does.Compare a b) s = none refl refl
storing (does.CompareImmediate a n) s = none refl refl
storing (does.BranchIf c l) s = none refl refl
storing (does.Branch l) s = none refl refl
storing (does.Fence f) s = none refl refl

only_one : {X : Type 0} (w v : X) → Contains (w ∷ []) v → w ≡ v
only_one w v (zero, lt, eq) = eq
only_one w v (suc k, lt, eq) = absurd (omega arith)

-- a store is no load, and stores one value
stored : (i : text.Instruction) (s : State) (v : Value) → Contains (stored_values i s) v
    → (is_store i ≡ true) × (is_load i ≡ false) × (stored_values i s ≡ v ∷ [])
stored i s v h = go (storing i s)
  where
    go : IsStoring i s → (is_store i ≡ true) × (is_load i ≡ false) × (stored_values i s ≡ v ∷ [])
    go (none is empty) =
        absurd (nothing_in v (subst (λ (vs : List Value). Contains vs v) empty h))
    go (one is other w all) =
        let same : w ≡ v = only_one w v (subst (λ (vs : List Value). Contains vs v) all h) in
        (is, other, all ∙ ap (λ (u : Value). u ∷ []) same)

one_stored : {v w : Value} → v ∷ [] ≡ w ∷ [] → v ≡ w
one_stored e = cc

one_address : {l m : Name} → Address l ≡ Address m → l ≡ m
one_address e = cc

one_fence : {f g : kinds.Fence} → does.Fence f ≡ does.Fence g → f ≡ g
one_fence e = cc

module _ (i : Instance) where
  load_or_store : (l m : Name) (v w : Value) → IsActionOf i (Loads l v)
      → IsActionOf i (Stores m w) → ⊥
  load_or_store l m v w load store =
      true≢false (sym load.0 ∙ (stored i.instruction i.before w store.1).1)

  load_or_fence : (l : Name) (v : Value) (f : kinds.Fence) → IsActionOf i (Loads l v)
      → IsActionOf i (Fences f) → ⊥
  load_or_fence l v f load fence = true≢false (sym load.0 ∙ ap is_load fence)

  store_or_fence : (l : Name) (v : Value) (f : kinds.Fence) → IsActionOf i (Stores l v)
      → IsActionOf i (Fences f) → ⊥
  store_or_fence l v f store fence =
      true≢false (sym (stored i.instruction i.before v store.1).0 ∙ ap is_store fence)

  one_action : (a b : Action) → IsActionOf i a → IsActionOf i b → a ≡ b
  one_action (Loads l v) (Loads m w) h g =
      ap₂ (λ (n : Name) (u : Value). Loads n u) (one_address (sym h.1 ∙ g.1)) (h.2 ∙ sym g.2)
  one_action (Loads l v) (Stores m w) h g = absurd (load_or_store l m v w h g)
  one_action (Loads l v) (Fences f) h g = absurd (load_or_fence l v f h g)
  one_action (Stores l v) (Loads m w) h g = absurd (load_or_store m l w v g h)
  one_action (Stores l v) (Stores m w) h g =
      ap₂ (λ (n : Name) (u : Value). Stores n u) (one_address (sym h.0 ∙ g.0))
      (one_stored (sym (stored i.instruction i.before v h.1).2
      ∙ (stored i.instruction i.before w g.1).2))
  one_action (Stores l v) (Fences f) h g = absurd (store_or_fence l v f h g)
  one_action (Fences f) (Loads l v) h g = absurd (load_or_fence l v f g h)
  one_action (Fences f) (Stores l v) h g = absurd (store_or_fence l v f g h)
  one_action (Fences f) (Fences g) h k =
      ap (λ (e : kinds.Fence). Fences e) (one_fence (sym h ∙ k))

  -- what does something is a load, a store or a fence
  pub action_of_event : (a : Action) → IsActionOf i a → is_event i.instruction ≡ true
  action_of_event (Loads l v) h =
      ap (λ (b : Bool). b || (is_store i.instruction || is_fence i.instruction)) h.0
  action_of_event (Stores l v) h =
      let is : _ = stored i.instruction i.before v h.1 in
      ap₂ (λ (b c : Bool). b || (c || is_fence i.instruction)) is.1 is.0
  action_of_event (Fences f) h = ap is_event h

-- an event does one thing
pub one_does : (t : Content) (x : Execution) (e : Event) (a b : Action) → HasAction t x e a
    → HasAction t x e b → a ≡ b
one_does t x (Initial l) a b h g = h.1 ∙ sym g.1
one_does t x (Does thread index) a b (i, at, h) (j, there, g) =
    let same : i ≡ j = same_Some _ _ (sym at ∙ there) in
    one_action i a b h (subst (λ (k : Instance). IsActionOf k b) (sym same) g)

-- a load or a store that is no fault has an address
address_is : (v : Value) → not (is_address v) ≡ false → (l : Name) × (v ≡ Address l)
address_is (Number n) h = absurd (true≢false h)
address_is (Address l) h = (l, refl)
address_is NoValue h = absurd (true≢false h)

pub has_address : (i : text.Instruction) (s : State) → is_fault i s ≡ false
    → (is_load i || is_store i) ≡ true → (l : Name) × (address_of i s ≡ Address l)
has_address (does.LoadImmediate d n) s sound access = absurd (true≢false (sym access))
has_address (does.Move d a) s sound access = absurd (true≢false (sym access))
has_address (does.AddImmediate d a n) s sound access = absurd (true≢false (sym access))
has_address (does.Compute o d a b) s sound access = absurd (true≢false (sym access))
has_address (does.Load d a) s sound access = address_is (register s a) sound
has_address (does.LoadIndexed d a b) s sound access =
    address_is (sum_of (register s a) (register s b)) sound
has_address (does.Store d a) s sound access = address_is (register s a) sound
has_address (does.StoreIndexed d a b) s sound access =
    address_is (sum_of (register s a) (register s b)) sound
has_address (does.Compare a b) s sound access = absurd (true≢false (sym access))
has_address (does.CompareImmediate a n) s sound access = absurd (true≢false (sym access))
has_address (does.BranchIf c l) s sound access = absurd (true≢false (sym access))
has_address (does.Branch l) s sound access = absurd (true≢false (sym access))
has_address (does.Fence f) s sound access = absurd (true≢false (sym access))

-- a store is an access, and an event
pub store_is : (i : text.Instruction) (s : State) (w : Value) → stored_values i s ≡ w ∷ []
    → (is_store i ≡ true) × (is_load i ≡ false)
store_is i s w h =
    let is : _ = stored i s w (subst (λ (vs : List Value). Contains vs w) (sym h) (0, omega arith, refl)) in
    (is.0, is.1)
