-- A test has one list of executions.
use Rattle.std.proofs.Common.{zero, suc, ◌≡◌, ◌<◌, List, [], ◌∷◌, length, arith, refl, ap, sym, subst, ◌∙◌, inl, inr, Contains}
use Rattle.std.specs.List.{flat_map, AllZip, AllPairs}
use Rattle.thread_runs.specs.declared.value.Value.{Value}
use Rattle.thread_runs.specs.declared.value.Value.TheVariants.{Number, Address, NoValue}
use Rattle.thread_runs.specs.Runs.{Thread, Run, AreThreadRuns, IsLexicallyBefore, IsLess}
use Rattle.candidates.proofs.Elements.{member_cases, member_later}
use Rattle.store_orders.proofs.Filters.{IsFiltered-unique}
use Rattle.store_orders.specs.Lists.{IsFiltered}
use Rattle.candidates.specs.Executions.{Execution, AreExecutions, IsExecution, over_runs, product}

pub first_rises : {X : Type 0} (R : X → X → Type 0) (x : X) (xs : List X) (z : X)
    → AllPairs R (x ∷ xs) → Contains xs z → R x z
first_rises {X} R x xs z h c =
    let lt : c.0 < length xs = c.1 in
    subst (λ (y : X). R x y) c.2 (h zero (suc c.0) z (omega arith) (omega (arith, lt)))

pub rest_rises : {X : Type 0} (R : X → X → Type 0) (x : X) (xs : List X) → AllPairs R (x ∷ xs)
    → AllPairs R xs
rest_rises R x xs h = λ i j d lt l. h (suc i) (suc j) d (omega (arith, lt)) (omega (arith, l))

-- two rising lists with the same members are one
pub same_rising : {X : Type 0} (R : X → X → Type 0) → ((x y : X) → R x y → R y x → ⊥)
    → (xs ys : List X) → AllPairs R xs → AllPairs R ys → ((z : X) → Contains xs z → Contains ys z)
    → ((z : X) → Contains ys z → Contains xs z) → xs ≡ ys
same_rising R apart [] [] h k there back = refl
same_rising R apart [] (y ∷ ys) h k there back =
    let c : Contains [] y = back y (0, omega arith, refl) in
    let lt : c.0 < 0 = c.1 in absurd (omega (arith, lt))
same_rising R apart (x ∷ xs) [] h k there back =
    let c : Contains [] x = there x (0, omega arith, refl) in
    let lt : c.0 < 0 = c.1 in absurd (omega (arith, lt))
same_rising {X} R apart (x ∷ xs) (y ∷ ys) h k there back =
    ap (λ (z : X). z ∷ xs) same
    ∙ ap (λ (l : List X). y ∷ l) (same_rising R apart xs ys (rest_rises R x xs h)
    (rest_rises R y ys k) rest_there rest_back)
  where
    same : x ≡ y
    same = elim (member_cases y ys x (there x (0, omega arith, refl))) [
      | inl e ↦ sym e
      | inr a ↦ elim (member_cases x xs y (back y (0, omega arith, refl))) [
        | inl e ↦ e
        | inr b ↦ absurd (apart x y (first_rises R x xs y h b) (first_rises R y ys x k a))
      ]
    ]

    rest_there : (z : X) → Contains xs z → Contains ys z
    rest_there z c = elim (member_cases y ys z (there z (member_later x xs z c))) [
      | inl e ↦
          let r : R x z = first_rises R x xs z h c in
          let f : R x x = subst (λ (w : X). R x w) (sym (same ∙ e)) r in absurd (apart x x f f)
      | inr d ↦ d
    ]

    rest_back : (z : X) → Contains ys z → Contains xs z
    rest_back z c = elim (member_cases x xs z (back z (member_later y ys z c))) [
      | inl e ↦
          let r : R y z = first_rises R y ys z k c in
          let f : R y y = subst (λ (w : X). R y w) (sym (sym same ∙ e)) r in absurd (apart y y f f)
      | inr d ↦ d
    ]

-- runs come before one another in one way
pub less_apart : (v w : Value) → IsLess v w → IsLess w v → ⊥
less_apart (Number m) (Number n) h k = omega (arith, h, k)
less_apart (Number m) (Address l) h k = k
less_apart (Number m) NoValue h k = h
less_apart (Address k) (Number n) h g = h
less_apart (Address k) (Address l) h g = omega (arith, h, g)
less_apart (Address k) NoValue h g = h
less_apart NoValue (Number n) h g = h
less_apart NoValue (Address l) h g = h
less_apart NoValue NoValue h g = h

before_apart : (xs ys : List Value) → IsLexicallyBefore IsLess xs ys → IsLexicallyBefore IsLess ys xs → ⊥
before_apart [] [] h k = h
before_apart (x ∷ xs) [] h k = h
before_apart [] (y ∷ ys) h k = k
before_apart (x ∷ xs) (y ∷ ys) (inl a) (inl b) = less_apart x y a b
before_apart (x ∷ xs) (y ∷ ys) (inl a) (inr b) =
    let c : IsLess x x = subst (λ (v : Value). IsLess x v) b.0 a in less_apart x x c c
before_apart (x ∷ xs) (y ∷ ys) (inr a) (inl b) =
    let c : IsLess y y = subst (λ (v : Value). IsLess y v) a.0 b in less_apart y y c c
before_apart (x ∷ xs) (y ∷ ys) (inr a) (inr b) = before_apart xs ys a.1 b.1

pub runs_sole : (t : Thread) (P : Value → Type 0) (rs ss : List Run) → AreThreadRuns t P rs
    → AreThreadRuns t P ss → rs ≡ ss
runs_sole t P rs ss h k =
    same_rising (λ (r s : Run). IsLexicallyBefore IsLess r.values s.values)
    (λ r s. before_apart r.values s.values) rs ss h.rising k.rising
    (λ r c. (k.exact r).1 ((h.exact r).0 c)) (λ r c. (h.exact r).1 ((k.exact r).0 c))

all_runs_sole : (P : Value → Type 0) (threads : List Thread) (cs bs : List (List Run))
    → AllZip (λ t rs. AreThreadRuns t P rs) threads cs → AllZip (λ t rs. AreThreadRuns t P rs) threads bs
    → cs ≡ bs
all_runs_sole P [] [] [] h k = refl
all_runs_sole P [] [] (b ∷ bs) h k = absurd k
all_runs_sole P [] (a ∷ cs) bs h k = absurd h
all_runs_sole P (t ∷ threads) [] bs h k = absurd h
all_runs_sole P (t ∷ threads) (a ∷ cs) [] h k = absurd k
all_runs_sole P (t ∷ threads) (a ∷ cs) (b ∷ bs) h k =
    ap (λ (r : List Run). r ∷ cs) (runs_sole t P a b h.0 k.0)
    ∙ ap (λ (l : List (List Run)). b ∷ l) (all_runs_sole P threads cs bs h.1 k.1)

pub executions_sole : (initial : List Value) (threads : List Thread) (V : List Value)
    (xs ys : List Execution) → AreExecutions initial threads V xs
    → AreExecutions initial threads V ys → xs ≡ ys
executions_sole initial threads V xs ys h k =
    IsFiltered-unique (IsExecution initial threads (Contains V))
    (flat_map (over_runs initial) (product h.runs)) xs ys h.executions
    (subst
    (λ (l : List (List Run)). IsFiltered (IsExecution initial threads (Contains V))
    (flat_map (over_runs initial) (product l)) ys)
    (sym (all_runs_sole (Contains V) threads h.runs k.runs h.of_threads k.of_threads))
    k.executions)
