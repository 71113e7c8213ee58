-- What a location holds after one store more.
use Rattle.std.proofs.Common.{ℕ, ◌+◌, ◌<◌, ◌≡◌, List, [], ◌∷◌, ◌++◌, Option, Some, None, length, get_or, take, refl, ap, ◌∙◌}
use Rattle.std.specs.Option.{unwrap_or}
use Rattle.std.specs.List.{filter_map, cons_option}
use Rattle.std.proofs.lemmas.List.{take_more, append-nil}
use Rattle.std.proofs.lemmas.List.Elements.{filter_map-append}
use Rattle.thread_runs.specs.declared.value.Value.{Value}
use Rattle.outcome_states.specs.Final.{last_or}

last_push : (d : Value) (xs : List Value) (x : Value) → last_or d (xs ++ x ∷ []) ≡ x
last_push d [] x = refl
last_push d (y ∷ ys) x = last_push y ys x

last_maybe : (d : Value) (xs : List Value) (o : Option Value)
    → last_or d (xs ++ cons_option o []) ≡ unwrap_or o (last_or d xs)
last_maybe d xs None = ap (last_or d) (append-nil xs)
last_maybe d xs (Some x) = last_push d xs x

pub word_more : (stored : ℕ → Option Value) (none : Value) (coherence : List ℕ) (i : ℕ)
    → i < length coherence
    → last_or none (filter_map stored (take (i + 1) coherence))
    ≡ unwrap_or (stored (get_or coherence i 0)) (last_or none (filter_map stored (take i coherence)))
word_more stored none coherence i lt =
    ap (λ (l : List ℕ). last_or none (filter_map stored l)) (take_more coherence i 0 lt)
    ∙ ap (last_or none) (filter_map-append stored (take i coherence) (get_or coherence i 0 ∷ []))
    ∙ last_maybe none (filter_map stored (take i coherence)) (stored (get_or coherence i 0))
