-- Statements that are decided: values, names, events and lists of them are the same or not.
use Rattle.std.proofs.Common.{◌≡◌, ◌⊎◌, inl, inr, ℕ, zero, suc, ◌<◌, Bool, true, false, IsTrue, bytes_eq, List, [], ◌∷◌, refl, sym, ap, ap₂, ◌∙◌, arith, true≢false}
use Rattle.std.proofs.lemmas.Bool.{cases_eq, cases_lt, cases_Bool}
use Rattle.std.proofs.lemmas.Slice.Eq.{bytes_eq-Decides}
use Rattle.text_values.specs.declared.instruction.Fence as kinds
use Rattle.text_values.specs.declared.instruction.Fence.TheVariants.{Sync, LightweightSync, Eieio, Isync}
use Rattle.meaning.specs.Names.{Name}
use Rattle.meaning.specs.Machine.{Value, Number, Address, NoValue}
use Rattle.meaning.specs.Executions.{Event, Initial, Does, Action, Loads, Stores, Fences}

abbrev pub Decided : Type 0 → Type 0
Decided P = P ⊎ (P → ⊥)

pub decided_as : {P Q : Type 0} → (P → Q) → (Q → P) → Decided P → Decided Q
decided_as to back (inl p) = inl (to p)
decided_as to back (inr n) = inr (λ q. n (back q))

pub not_decided : {P : Type 0} → Decided P → Decided (P → ⊥)
not_decided (inl p) = inr (λ n. n p)
not_decided (inr n) = inl n

pub both_decided : {P Q : Type 0} → Decided P → Decided Q → Decided (P × Q)
both_decided (inl p) (inl q) = inl (p, q)
both_decided (inl p) (inr m) = inr (λ h. m h.1)
both_decided (inr n) q = inr (λ h. n h.0)

pub either_decided : {P Q : Type 0} → Decided P → Decided Q → Decided (P ⊎ Q)
either_decided (inl p) q = inl (inl p)
either_decided (inr n) (inl q) = inl (inr q)
either_decided {P} {Q} (inr n) (inr m) = inr neither
  where
    neither : P ⊎ Q → ⊥
    neither (inl p) = n p
    neither (inr q) = m q

pub implied_decided : {P Q : Type 0} → Decided P → Decided Q → Decided (P → Q)
implied_decided p (inl q) = inl (λ h. q)
implied_decided (inl p) (inr m) = inr (λ f. m (f p))
implied_decided (inr n) (inr m) = inl (λ p. absurd (n p))

pub none_decided : Decided ⊥
none_decided = inr (λ h. h)

pub test_decided : (b : Bool) → Decided (IsTrue b)
test_decided true = inl refl
test_decided false = inr (λ e. true≢false (sym e))

pub below_decided : (m n : ℕ) → Decided (m < n)
below_decided m n = elim (cases_lt m n) [
  | inl lt ↦ inl lt
  | inr ge ↦ inr (λ lt. absurd (omega (arith, ge, lt)))
]

-- a truth value for a statement that is decided
pub answer : {P : Type 0} → Decided P → Bool
answer (inl p) = true
answer (inr n) = false

pub answer_is : {P : Type 0} (d : Decided P) → IsTrue (answer d) → P
unfolding answer
answer_is (inl p) e = p
answer_is (inr n) e = absurd (true≢false (sym e))

pub answer_from : {P : Type 0} (d : Decided P) → P → IsTrue (answer d)
unfolding answer
answer_from (inl p) q = refl
answer_from (inr n) q = absurd (n q)

-- ---- the same or not

pub same_number : (m n : ℕ) → Decided (m ≡ n)
same_number m n = cases_eq m n

pub same_name : (k l : Name) → Decided (k ≡ l)
same_name k l = elim (cases_Bool (bytes_eq k l)) [
  | inl e ↦ inl ((bytes_eq-Decides k l).0 e)
  | inr e ↦ inr (λ same. true≢false (sym ((bytes_eq-Decides k l).1 same) ∙ e))
]

number_of : Value → ℕ
number_of (Number n) = n
number_of _ = 0

location_of : Value → Name
location_of (Address l) = l
location_of _ = []

pub same_value : (v w : Value) → Decided (v ≡ w)
unfolding number_of location_of
same_value (Number m) (Number n) =
    decided_as (λ e. ap (λ (k : ℕ). Number k) e) (λ e. ap number_of e) (same_number m n)
same_value (Number m) (Address l) = inr (λ e. let wrong : ⊥ = cc in wrong)
same_value (Number m) NoValue = inr (λ e. let wrong : ⊥ = cc in wrong)
same_value (Address k) (Number n) = inr (λ e. let wrong : ⊥ = cc in wrong)
same_value (Address k) (Address l) =
    decided_as (λ e. ap (λ (n : Name). Address n) e) (λ e. ap location_of e) (same_name k l)
same_value (Address k) NoValue = inr (λ e. let wrong : ⊥ = cc in wrong)
same_value NoValue (Number n) = inr (λ e. let wrong : ⊥ = cc in wrong)
same_value NoValue (Address l) = inr (λ e. let wrong : ⊥ = cc in wrong)
same_value NoValue NoValue = inl refl

pub same_bool : (b c : Bool) → Decided (b ≡ c)
same_bool true true = inl refl
same_bool true false = inr (λ e. true≢false e)
same_bool false true = inr (λ e. true≢false (sym e))
same_bool false false = inl refl

head_of : {X : Type 0} → X → List X → X
head_of d [] = d
head_of d (x ∷ xs) = x

tail_of : {X : Type 0} → List X → List X
tail_of [] = []
tail_of (x ∷ xs) = xs

pub same_head : {X : Type 0} (x y : X) (xs ys : List X) → x ∷ xs ≡ y ∷ ys → x ≡ y
unfolding head_of
same_head x y xs ys e = ap (head_of x) e

pub same_tail : {X : Type 0} (x y : X) (xs ys : List X) → x ∷ xs ≡ y ∷ ys → xs ≡ ys
unfolding tail_of
same_tail x y xs ys e = ap tail_of e

pub same_list : {X : Type 0} → ((x y : X) → Decided (x ≡ y)) → (xs ys : List X)
    → Decided (xs ≡ ys)
same_list same [] [] = inl refl
same_list same [] (y ∷ ys) = inr (λ e. let wrong : ⊥ = cc in wrong)
same_list same (x ∷ xs) [] = inr (λ e. let wrong : ⊥ = cc in wrong)
same_list {X} same (x ∷ xs) (y ∷ ys) = joined (same x y) (same_list same xs ys)
  where
    joined : Decided (x ≡ y) → Decided (xs ≡ ys) → Decided (x ∷ xs ≡ y ∷ ys)
    joined (inl head) (inl tail) = inl (ap₂ (λ (h : X) (t : List X). h ∷ t) head tail)
    joined (inl head) (inr other) = inr (λ e. other (same_tail x y xs ys e))
    joined (inr other) rest = inr (λ e. other (same_head x y xs ys e))

pub same_pair : {X Y : Type 0} → ((x y : X) → Decided (x ≡ y)) → ((x y : Y) → Decided (x ≡ y))
    → (p q : X × Y) → Decided (p ≡ q)
same_pair {X} {Y} first second p q = joined (first p.0 q.0) (second p.1 q.1)
  where
    joined : Decided (p.0 ≡ q.0) → Decided (p.1 ≡ q.1) → Decided (p ≡ q)
    joined (inl left) (inl right) = inl (λ i. (left i, right i))
    joined (inl left) (inr other) = inr (λ e. other (ap (λ (r : X × Y). r.1) e))
    joined (inr other) right = inr (λ e. other (ap (λ (r : X × Y). r.0) e))

location_in : Event → Name
location_in (Initial l) = l
location_in (Does u i) = []

thread_in : Event → ℕ
thread_in (Initial l) = 0
thread_in (Does u i) = u

index_in : Event → ℕ
index_in (Initial l) = 0
index_in (Does u i) = i

pub same_event : (a b : Event) → Decided (a ≡ b)
unfolding location_in thread_in index_in
same_event (Initial k) (Initial l) =
    decided_as (λ e. ap (λ (n : Name). Initial n) e) (λ e. ap location_in e) (same_name k l)
same_event (Initial k) (Does v j) = inr (λ e. let wrong : ⊥ = cc in wrong)
same_event (Does u i) (Initial l) = inr (λ e. let wrong : ⊥ = cc in wrong)
same_event (Does u i) (Does v j) = joined (same_number u v) (same_number i j)
  where
    joined : Decided (u ≡ v) → Decided (i ≡ j) → Decided (Does u i ≡ Does v j)
    joined (inl thread) (inl index) = inl (ap₂ (λ (t k : ℕ). Does t k) thread index)
    joined (inl thread) (inr other) = inr (λ e. other (ap index_in e))
    joined (inr other) rest = inr (λ e. other (ap thread_in e))

fence_number : kinds.Fence → ℕ
fence_number Sync = 0
fence_number LightweightSync = 1
fence_number Eieio = 2
fence_number Isync = 3

fence_of_number : ℕ → kinds.Fence
fence_of_number zero = Sync
fence_of_number (suc zero) = LightweightSync
fence_of_number (suc (suc zero)) = Eieio
fence_of_number (suc (suc (suc n))) = Isync

numbered : (f : kinds.Fence) → fence_of_number (fence_number f) ≡ f
unfolding fence_number fence_of_number
numbered Sync = refl
numbered LightweightSync = refl
numbered Eieio = refl
numbered Isync = refl

pub same_fence : (f g : kinds.Fence) → Decided (f ≡ g)
same_fence f g =
    decided_as (λ e. sym (numbered f) ∙ ap fence_of_number e ∙ numbered g)
    (λ e. ap fence_number e) (same_number (fence_number f) (fence_number g))

location_told : Action → Name
location_told (Loads l v) = l
location_told (Stores l v) = l
location_told (Fences f) = []

value_told : Action → Value
value_told (Loads l v) = v
value_told (Stores l v) = v
value_told (Fences f) = NoValue

fence_told : Action → kinds.Fence
fence_told (Fences f) = f
fence_told _ = Sync

pub same_action : (a b : Action) → Decided (a ≡ b)
unfolding location_told value_told fence_told
same_action (Loads k v) (Loads l w) = joined (same_name k l) (same_value v w)
  where
    joined : Decided (k ≡ l) → Decided (v ≡ w) → Decided (Loads k v ≡ Loads l w)
    joined (inl at) (inl of) = inl (ap₂ (λ (n : Name) (u : Value). Loads n u) at of)
    joined (inl at) (inr other) = inr (λ e. other (ap value_told e))
    joined (inr other) rest = inr (λ e. other (ap location_told e))
same_action (Loads k v) (Stores l w) = inr (λ e. let wrong : ⊥ = cc in wrong)
same_action (Loads k v) (Fences g) = inr (λ e. let wrong : ⊥ = cc in wrong)
same_action (Stores k v) (Loads l w) = inr (λ e. let wrong : ⊥ = cc in wrong)
same_action (Stores k v) (Stores l w) = joined (same_name k l) (same_value v w)
  where
    joined : Decided (k ≡ l) → Decided (v ≡ w) → Decided (Stores k v ≡ Stores l w)
    joined (inl at) (inl of) = inl (ap₂ (λ (n : Name) (u : Value). Stores n u) at of)
    joined (inl at) (inr other) = inr (λ e. other (ap value_told e))
    joined (inr other) rest = inr (λ e. other (ap location_told e))
same_action (Stores k v) (Fences g) = inr (λ e. let wrong : ⊥ = cc in wrong)
same_action (Fences f) (Loads l w) = inr (λ e. let wrong : ⊥ = cc in wrong)
same_action (Fences f) (Stores l w) = inr (λ e. let wrong : ⊥ = cc in wrong)
same_action (Fences f) (Fences g) =
    decided_as (λ e. ap (λ (h : kinds.Fence). Fences h) e) (λ e. ap fence_told e)
    (same_fence f g)
