-- One candidate after another is visited.
use Rattle.std.proofs.Common.{ℕ, ◌≡◌, ◌<◌, ◌+◌, ◌-◌, ◌++◌, List, [], ◌∷◌, length, length-append, sym, ap, subst, refl, arith}
use Rattle.std.specs.Prelude.{Some}
use Rattle.cat_machine.specs.declared.seen.NamedColumn.{NamedColumn}
use Rattle.cat_eval.specs.declared.visit.Place.{Place}
use Rattle.cat_eval.specs.Places.{IsAt}
use Rattle.cat_machine.specs.Seen.{NamedValues, columns_of, values_seen}
use Rattle.cat_machine.specs.Steady.{HaveSameInputs, IsSteady, HasAsLast}
use Rattle.cat_machine.proofs.Seeing.{seen_same}

-- where the next candidate has as many events as the last one, and the names stand for the same,
-- the same is seen
pub seen_again : (xs : List NamedColumn) (place : Place) (bases : List NamedValues) (n : ℕ)
    → IsAt xs place bases → place.before ≡ Some n → place.candidate < place.steady
    → HasAsLast bases (values_seen xs (length bases) n)
seen_again xs place bases n at before lt =
    let ends = at.last n before in
    let same : HaveSameInputs (columns_of xs) (place.candidate - 1) place.candidate = at.steady place.candidate (omega arith) lt in
    subst (λ (k : ℕ). HasAsLast bases (values_seen xs k n)) at.number (subst
    (λ (known : NamedValues). HasAsLast bases known)
    (seen_same xs (place.candidate - 1) place.candidate n same) ends)

pub at_more : (xs : List NamedColumn) (bases : List NamedValues) (place new : Place) (n : ℕ)
    → IsAt xs place bases → new.candidate ≡ place.candidate + 1 → new.before ≡ Some n
    → IsSteady (columns_of xs) (place.candidate + 1) new.steady
    → IsAt xs new (bases ++ values_seen xs (length bases) n ∷ [])
at_more xs bases place new n at next before steady = record {
  number = omega (arith, next, at.number, length-append bases (values_seen xs (length bases) n ∷ []));
  steady = subst (λ (k : ℕ). IsSteady (columns_of xs) k new.steady) (sym next) steady;
  last = λ m is. (bases, ap (λ (known : NamedValues). bases ++ known ∷ []) (is_last m is));
}
  where
    is_last : (m : ℕ) → new.before ≡ Some m
        → values_seen xs (length bases) n ≡ values_seen xs (new.candidate - 1) m
    is_last m is =
        let same : n ≡ m = cc in
        let here : length bases ≡ new.candidate - 1 = omega (arith, next, at.number) in
        rw (same, here) refl
