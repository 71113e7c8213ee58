-- The texts of the observables of a state.
use Rattle.std.proofs.Common.{◌≡◌, ℕ, ◌+◌, ◌<◌, ◌≤◌, List, [], ◌∷◌, ◌++◌, length, get_or, map, drop, refl, sym, ap, ◌∙◌, arith, append_assoc}
use Rattle.std.specs.List.{zip}
use Rattle.std.proofs.lemmas.List.{at_drop_more, at_drop_all}
use Rattle.text_values.specs.Joined.{separation}
use Rattle.text_values.proofs.Separated.{from}
use Rattle.outcome_states.specs.Text.{held_text}
use Rattle.outcome_states.specs.declared.answer.FinalValue.{FinalValue}
use Rattle.outcome_states.specs.declared.observable.Observable.{Observable}

-- what each observable holds
abbrev pub texts : List (List ℕ) → List Observable → List FinalValue → List (List ℕ)
texts locations ps vs = map (λ x. held_text locations x.0 x.1) (zip ps vs)

none_left : (locations : List (List ℕ)) (ps : List Observable) → texts locations ps [] ≡ []
none_left locations [] = refl
none_left locations (p ∷ ps) = refl

-- one observable more is printed
pub one_printed : (locations : List (List ℕ)) (sign : List ℕ) (ps : List Observable)
    (vs : List FinalValue) (i : ℕ) (p : Observable) (v : FinalValue) (old new whole : List ℕ)
    → i < length ps → i < length vs → v ≡ get_or vs i v
    → new ≡ old ++ (separation sign i ++ held_text locations (get_or ps i p) v)
    → old ++ from sign i (texts locations (drop i ps) (drop i vs)) ≡ whole
    → new ++ from sign (i + 1) (texts locations (drop (i + 1) ps) (drop (i + 1) vs)) ≡ whole
one_printed locations sign ps vs i p v old new whole lt lt' is put e =
    ap (λ (l : List ℕ). l ++ rest) put ∙ regrouped
    ∙ ap
    (λ (x : FinalValue). old
    ++ (separation sign i ++ (held_text locations (get_or ps i p) x ++ rest))) is
    ∙ ap (λ (l : List ℕ). old ++ l) (sym begins) ∙ e
  where
    rest : List ℕ
    rest = from sign (i + 1) (texts locations (drop (i + 1) ps) (drop (i + 1) vs))

    regrouped : (old ++ (separation sign i ++ held_text locations (get_or ps i p) v)) ++ rest
        ≡ old ++ (separation sign i ++ (held_text locations (get_or ps i p) v ++ rest))
    regrouped = simp append_assoc

    begins : from sign i (texts locations (drop i ps) (drop i vs))
        ≡ separation sign i ++ (held_text locations (get_or ps i p) (get_or vs i v) ++ rest)
    begins =
        at_drop_more (λ (l : List Observable). from sign i (texts locations l (drop i vs))) ps i p
        lt
        ∙ at_drop_more
        (λ (l : List FinalValue).
        from sign i (texts locations (get_or ps i p ∷ drop (i + 1) ps) l)) vs i v lt'

-- an observable without a value is not printed
pub none_printed : (locations : List (List ℕ)) (sign : List ℕ) (ps : List Observable)
    (vs : List FinalValue) (i : ℕ) (old new whole : List ℕ) → length vs ≤ i → new ≡ old
    → old ++ from sign i (texts locations (drop i ps) (drop i vs)) ≡ whole
    → new ++ from sign (i + 1) (texts locations (drop (i + 1) ps) (drop (i + 1) vs)) ≡ whole
none_printed locations sign ps vs i old new whole past same e =
    ap
    (λ (l : List ℕ). l
    ++ from sign (i + 1) (texts locations (drop (i + 1) ps) (drop (i + 1) vs))) same
    ∙ ap (λ (l : List ℕ). old ++ l) (after ∙ sym before) ∙ e
  where
    before : from sign i (texts locations (drop i ps) (drop i vs)) ≡ []
    before =
        at_drop_all (λ (l : List FinalValue). from sign i (texts locations (drop i ps) l)) vs i past
        ∙ ap (from sign i) (none_left locations (drop i ps))

    after : from sign (i + 1) (texts locations (drop (i + 1) ps) (drop (i + 1) vs)) ≡ []
    after =
        at_drop_all
        (λ (l : List FinalValue). from sign (i + 1) (texts locations (drop (i + 1) ps) l)) vs
        (i + 1) (omega arith) ∙ ap (from sign (i + 1)) (none_left locations (drop (i + 1) ps))
