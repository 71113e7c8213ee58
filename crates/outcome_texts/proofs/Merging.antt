-- The states of two lists as one.
use Rattle.std.proofs.Common.{◌≡◌, ◌-◌, ◌<◌, List, [], ◌∷◌, length, get_or, take, drop, map, refl, sym, ap, ◌∙◌, arith}
use Rattle.std.proofs.lemmas.List.{take_all}
use Rattle.std.specs.Cmp.Lexicographic.{slice_cmp}
use Rattle.std.specs.declared.cmp.Ordering.{Ordering}
use Rattle.std.specs.declared.cmp.Ordering.TheVariants.{Less, Equal, Greater}
use Rattle.outcome_states.proofs.Orders.{value_orders}
use Rattle.outcome_states.specs.Order.{state_cmp}
use Rattle.outcome_states.specs.contracts.answer.FinalValueOrd.TheImpl as value_ord
use Rattle.outcome_states.specs.declared.answer.CountedState.{CountedState}
use Rattle.outcome_states.specs.declared.answer.FinalValue.{FinalValue}
use Rattle.outcome_texts.specs.Differences.{SharedState, of_first, of_second, of_both, by_order, merged}

-- what is behind the first of a list
abbrev pub rest_of : List CountedState → List CountedState
rest_of a = take (length a - 1) (drop 1 a)

split : (a : List CountedState) (s : CountedState) → 0 < length a → s ≡ get_or a 0 s
    → a ≡ s ∷ rest_of a
split [] s some e = absurd (omega arith)
split (x ∷ xs) s some e =
    let all : take (length (x ∷ xs) - 1) xs ≡ xs = take_all (length (x ∷ xs) - 1) xs (omega arith) in
    ap (λ (y : CountedState). y ∷ xs) (sym e) ∙ ap (λ (l : List CountedState). s ∷ l) (sym all)

pub order_is : (x y : List FinalValue) (o : Ordering) → o ≡ slice_cmp ((value_ord.ghosts).cmp) x y
    → o ≡ state_cmp x y
order_is x y o e = e ∙ ap (λ R. slice_cmp R x y) value_orders

both_split : (a b xs ys : List CountedState) (s t : CountedState) → a ≡ s ∷ xs → b ≡ t ∷ ys
    → merged a b
    ≡ by_order (state_cmp s.values t.values) s t (merged xs b) (merged xs ys) (merged a ys)
both_split a b xs ys s t p q =
    ap (λ (l : List CountedState). merged l b) p
    ∙ ap (λ (l : List CountedState). merged (s ∷ xs) l) q
    ∙ ap
    (λ (l : List CountedState). by_order (state_cmp s.values t.values) s t (merged xs l)
    (merged xs ys) (merged (s ∷ xs) ys))
    (sym q)
    ∙ ap
    (λ (l : List CountedState).
    by_order (state_cmp s.values t.values) s t (merged xs b) (merged xs ys) (merged l ys))
    (sym p)

in_order : (a b : List CountedState) (s t : CountedState) (o : Ordering) → 0 < length a
    → 0 < length b → s ≡ get_or a 0 s → t ≡ get_or b 0 t → o ≡ state_cmp s.values t.values
    → merged a b
    ≡ by_order o s t (merged (rest_of a) b) (merged (rest_of a) (rest_of b))
    (merged a (rest_of b))
in_order a b s t o some more p q e =
    both_split a b (rest_of a) (rest_of b) s t (split a s some p) (split b t more q)
    ∙ ap
    (λ (c : Ordering). by_order c s t (merged (rest_of a) b) (merged (rest_of a) (rest_of b))
    (merged a (rest_of b)))
    (sym e)

pub first_is_less : (a b : List CountedState) (s t : CountedState) (o : Ordering) (r : SharedState)
    → 0 < length a → 0 < length b → s ≡ get_or a 0 s → t ≡ get_or b 0 t
    → o ≡ state_cmp s.values t.values → o ≡ Less → r ≡ of_first s
    → merged a b ≡ r ∷ merged (rest_of a) b
first_is_less a b s t o r some more p q e is found =
    in_order a b s t o some more p q e
    ∙ ap
    (λ (c : Ordering). by_order c s t (merged (rest_of a) b)
    (merged (rest_of a) (rest_of b)) (merged a (rest_of b))) is
    ∙ ap (λ (x : SharedState). x ∷ merged (rest_of a) b) (sym found)

pub states_are_equal : (a b : List CountedState) (s t : CountedState) (o : Ordering)
    (r : SharedState) → 0 < length a → 0 < length b → s ≡ get_or a 0 s → t ≡ get_or b 0 t
    → o ≡ state_cmp s.values t.values → o ≡ Equal → r ≡ of_both s t
    → merged a b ≡ r ∷ merged (rest_of a) (rest_of b)
states_are_equal a b s t o r some more p q e is found =
    in_order a b s t o some more p q e
    ∙ ap
    (λ (c : Ordering). by_order c s t (merged (rest_of a) b)
    (merged (rest_of a) (rest_of b)) (merged a (rest_of b))) is
    ∙ ap (λ (x : SharedState). x ∷ merged (rest_of a) (rest_of b)) (sym found)

pub second_is_less : (a b : List CountedState) (s t : CountedState) (o : Ordering) (r : SharedState)
    → 0 < length a → 0 < length b → s ≡ get_or a 0 s → t ≡ get_or b 0 t
    → o ≡ state_cmp s.values t.values → o ≡ Greater → r ≡ of_second t
    → merged a b ≡ r ∷ merged a (rest_of b)
second_is_less a b s t o r some more p q e is found =
    in_order a b s t o some more p q e
    ∙ ap
    (λ (c : Ordering). by_order c s t (merged (rest_of a) b)
    (merged (rest_of a) (rest_of b)) (merged a (rest_of b))) is
    ∙ ap (λ (x : SharedState). x ∷ merged a (rest_of b)) (sym found)

empty : (a : List CountedState) → length a ≡ 0 → a ≡ []
empty [] e = refl
empty (x ∷ xs) e = absurd (omega arith)

pub none_left : (a b : List CountedState) → length a ≡ 0 → length b ≡ 0 → merged a b ≡ []
none_left [] [] p q = refl
none_left [] (y ∷ ys) p q = absurd (omega arith)
none_left (x ∷ xs) b p q = absurd (omega arith)

no_second : (a : List CountedState) → merged a [] ≡ map of_first a
no_second [] = refl
no_second (x ∷ xs) = refl

pub only_first : (a b : List CountedState) (s : CountedState) (r : SharedState) → length b ≡ 0
    → 0 < length a → s ≡ get_or a 0 s → r ≡ of_first s → merged a b ≡ r ∷ merged (rest_of a) b
only_first a b s r none some p found =
    let e = empty b none in
    let whole = split a s some p in
    ap (λ (l : List CountedState). merged a l) e ∙ no_second a
    ∙ ap (λ (l : List CountedState). map of_first l) whole
    ∙ ap (λ (l : List SharedState). of_first s ∷ l) (sym (no_second (rest_of a)))
    ∙ ap (λ (l : List CountedState). of_first s ∷ merged (rest_of a) l) (sym e)
    ∙ ap (λ (x : SharedState). x ∷ merged (rest_of a) b) (sym found)

pub only_second : (a b : List CountedState) (t : CountedState) (r : SharedState) → length a ≡ 0
    → 0 < length b → t ≡ get_or b 0 t → r ≡ of_second t → merged a b ≡ r ∷ merged a (rest_of b)
only_second [] b t r none some q found =
    ap (λ (l : List CountedState). map of_second l) (split b t some q)
    ∙ ap (λ (x : SharedState). x ∷ map of_second (rest_of b)) (sym found)
only_second (x ∷ xs) b t r none some q found = absurd (omega arith)
