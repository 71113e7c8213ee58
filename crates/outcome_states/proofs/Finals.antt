-- Laws of what locations hold at the end.
use Rattle.std.proofs.Common.{ℕ, ◌+◌, ◌-◌, ◌<◌, ◌≤◌, ◌≡◌, List, [], ◌∷◌, ◌++◌, Option, Some, None, length, get_or, take, refl, ap, ◌∙◌, arith}
use Rattle.std.specs.Option.{unwrap_or}
use Rattle.std.specs.List.{filter_map, cons_option}
use Rattle.std.proofs.lemmas.List.{take_more, append-nil}
use Rattle.std.proofs.lemmas.List.Elements.{filter_map-append}
use Rattle.store_orders.specs.declared.combination.Combination.{Combination}
use Rattle.thread_runs.specs.declared.value.Value.{Value}
use Rattle.thread_runs.specs.declared.value.Value.TheVariants.{NoValue}
use Rattle.outcome_states.specs.Ends.{final_word}
use Rattle.outcome_states.specs.Final.{value_stored_at, last_or}

last_push : (d : Value) (xs : List Value) (x : Value) → last_or d (xs ++ x ∷ []) ≡ x
last_push d [] x = refl
last_push d (y ∷ ys) x = last_push y ys x

last_maybe : (d : Value) (xs : List Value) (o : Option Value)
    → last_or d (xs ++ cons_option o []) ≡ unwrap_or o (last_or d xs)
last_maybe d xs None = ap (last_or d) (append-nil xs)
last_maybe d xs (Some x) = last_push d xs x

-- one store more
word_more : (c : Combination) (coherence : List ℕ) (i location : ℕ) → i < length coherence
    → final_word c (take (i + 1) coherence) location
    ≡ unwrap_or (value_stored_at c.events.items location (get_or coherence i 0)) (final_word c (take i coherence) location)
word_more c coherence i location lt =
    ap (λ (l : List ℕ). last_or NoValue (filter_map (value_stored_at c.events.items location) l))
    (take_more coherence i 0 lt)
    ∙ ap (last_or NoValue) (filter_map-append (value_stored_at c.events.items location) (take i coherence)
    (get_or coherence i 0 ∷ []))
    ∙ last_maybe NoValue (filter_map (value_stored_at c.events.items location) (take i coherence))
    (value_stored_at c.events.items location (get_or coherence i 0))

-- one store less
pub word_less : (c : Combination) (coherence : List ℕ) (i location : ℕ) → 0 < i → i ≤ length coherence
    → final_word c (take i coherence) location
    ≡ unwrap_or (value_stored_at c.events.items location (get_or coherence (i - 1) 0))
    (final_word c (take (i - 1) coherence) location)
word_less c coherence i location some within =
    let before : i ≡ (i - 1) + 1 = omega (arith, some) in
    ap (λ (n : ℕ). final_word c (take n coherence) location) before
    ∙ word_more c coherence (i - 1) location (omega (arith, some, within))
