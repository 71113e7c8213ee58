-- A state in its place among states that are lent.
use Rattle.std.proofs.Common.{◌≡◌, ℕ, ◌+◌, ◌<◌, List, ◌∷◌, ◌++◌, length, get_or, take, drop, map, sym, ap, ◌∙◌}
use Rattle.std.specs.List.{insert}
use Rattle.std.specs.declared.cmp.Ordering.{Ordering}
use Rattle.std.specs.declared.cmp.Ordering.TheVariants.{Less, Equal}
use Rattle.std.proofs.lemmas.List.{drop_more, take-append-drop, take-map, drop-map, map-append}
use Rattle.outcome_states.specs.declared.answer.CountedState.{CountedState}
use Rattle.outcome_states.specs.Order.{state_cmp}
use Rattle.report_details.specs.States.{placed, with_state}

-- the rest of a list, from an index on
rest_from : {X : Type 0} (g : X → CountedState) (xs : List X) (i : ℕ) (x : X) → i < length xs
    → x ≡ get_or xs i x → map g (drop i xs) ≡ g x ∷ map g (drop (i + 1) xs)
rest_from g xs i x inside is =
    ap (λ l. map g l) (drop_more xs i x inside ∙ ap (λ y. y ∷ drop (i + 1) xs) (sym is))

-- a state goes before the next one, behind it, or is it
placed_there : {X : Type 0} (g : X → CountedState) (xs : List X) (s : CountedState) (i : ℕ) (x : X)
    → (o : Ordering) → i < length xs → x ≡ get_or xs i x → o ≡ state_cmp s.values (g x).values
    → with_state (map g (drop i xs)) s
    ≡ placed o s (g x) (map g (drop (i + 1) xs)) (with_state (map g (drop (i + 1) xs)) s)
placed_there g xs s i x o inside is order =
    let rest = map g (drop (i + 1) xs) in
    ap (λ l. with_state l s) (rest_from g xs i x inside is)
    ∙ ap (λ (c : Ordering). placed c s (g x) rest (with_state rest s)) (sym order)

pub mapped_insert : {X : Type 0} (g : X → CountedState) (xs : List X) (i : ℕ) (x : X)
    → map g (insert xs i x) ≡ insert (map g xs) i (g x)
mapped_insert g xs i x =
    map-append g (take i xs) (x ∷ drop i xs)
    ∙ ap (λ l. l ++ g x ∷ map g (drop i xs)) (sym (take-map g i xs))
    ∙ ap (λ l. take i (map g xs) ++ g x ∷ l) (sym (drop-map g i xs))

pub goes_before : {X : Type 0} (g : X → CountedState) (xs : List X) (s : CountedState) (i : ℕ) (x : X)
    → (o : Ordering) → i < length xs → x ≡ get_or xs i x → o ≡ state_cmp s.values (g x).values
    → o ≡ Less
    → with_state (map g xs) s ≡ map g (take i xs) ++ with_state (map g (drop i xs)) s
    → with_state (map g xs) s ≡ insert (map g xs) i s
goes_before g xs s i x o inside is order less so =
    let rest = map g (drop (i + 1) xs) in
    so
    ∙ ap (λ l. map g (take i xs) ++ l) (placed_there g xs s i x o inside is order
    ∙ ap (λ (c : Ordering). placed c s (g x) rest (with_state rest s)) less
    ∙ ap (λ l. s ∷ l) (sym (rest_from g xs i x inside is)))
    ∙ ap (λ l. l ++ s ∷ map g (drop i xs)) (sym (take-map g i xs))
    ∙ ap (λ l. take i (map g xs) ++ s ∷ l) (sym (drop-map g i xs))

pub is_there : {X : Type 0} (g : X → CountedState) (xs : List X) (s : CountedState) (i : ℕ) (x : X)
    → (o : Ordering) → i < length xs → x ≡ get_or xs i x → o ≡ state_cmp s.values (g x).values
    → o ≡ Equal
    → with_state (map g xs) s ≡ map g (take i xs) ++ with_state (map g (drop i xs)) s
    → with_state (map g xs) s ≡ map g xs
is_there g xs s i x o inside is order equal so =
    let rest = map g (drop (i + 1) xs) in
    so
    ∙ ap (λ l. map g (take i xs) ++ l) (placed_there g xs s i x o inside is order
    ∙ ap (λ (c : Ordering). placed c s (g x) rest (with_state rest s)) equal
    ∙ sym (rest_from g xs i x inside is))
    ∙ sym (map-append g (take i xs) (drop i xs)) ∙ ap (λ l. map g l) (take-append-drop i xs)
