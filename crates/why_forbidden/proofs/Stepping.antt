-- Steps one after another.
use Rattle.std.proofs.Common.{ℕ, zero, suc, ◌≡◌, ◌<◌, ◌≤◌, ◌+◌, ◌-◌, ◌∙◌, List, [], ◌∷◌, ◌++◌, length, get_or, map, drop, refl, ap, sym, append_assoc, arith}
use Rattle.std.proofs.Math.Numerals.{add-one}
use Rattle.std.proofs.Math.Seq.{drop-cons, drop-nil}
use Rattle.std.proofs.lemmas.List.{drop_all}
use Rattle.why_walks.specs.declared.value.FactorValues.{FactorValues}
use Rattle.why_forbidden.specs.declared.telling.Start.{Start}
use Rattle.why_forbidden.specs.Steps.{StepStart, starts_at, starts_through, with_events}
use Rattle.why_forbidden.specs.Told.{numbers_from}
use Rattle.why_forbidden.specs.Views.{start_of}

-- what is left from an index on begins with the element there
pub drop_at : {X : Type 0} (xs : List X) (i : ℕ) (x : X) → i < length xs → x ≡ get_or xs i x
    → drop i xs ≡ x ∷ drop (i + 1) xs
drop_at {X} xs i x lt is =
    drop-cons xs i x lt ∙ ap (λ (y : X). y ∷ drop (suc i) xs) (sym is)
    ∙ ap (λ (n : ℕ). x ∷ drop n xs) (sym (add-one i))

-- a walk without a run of the next factor has no further steps
pub through_none : (factors : List FactorValues) → starts_through factors [] ≡ []
through_none [] = refl
through_none (f ∷ fs) = refl

-- the steps of the factor at an index, and of those behind it
pub through_at : (factors : List FactorValues) (runs : List (List ℕ)) (i : ℕ) (f : FactorValues)
    → i < length factors → f ≡ get_or factors i f
    → starts_through (drop i factors) (drop i runs)
    ≡ starts_at f.code (get_or runs i [])
    ++ starts_through (drop (suc i) factors) (drop (suc i) runs)
through_at [] runs i f lt is = absurd (omega (arith, lt))
through_at (g ∷ gs) [] zero f lt is = sym (through_none gs)
through_at (g ∷ gs) (run ∷ runs) zero f lt is =
    ap (λ (h : FactorValues). starts_at h.code run ++ starts_through gs runs) (sym is)
through_at (g ∷ gs) [] (suc i) f lt is =
    ap (λ (r : List (List ℕ)). starts_through (drop i gs) r) (sym (drop-nil {A = List ℕ} i))
    ∙ through_at gs [] i f (omega (arith, lt)) is
    ∙ ap
    (λ (r : List (List ℕ)). starts_at f.code (get_or [] i [])
    ++ starts_through (drop (suc i) gs) r)
    (drop-nil {A = List ℕ} (suc i))
through_at (g ∷ gs) (run ∷ runs) (suc i) f lt is = through_at gs runs i f (omega (arith, lt)) is

pub through_more : (factors : List FactorValues) (runs : List (List ℕ)) (i : ℕ) (f : FactorValues)
    (before here after whole : List StepStart) → i < length factors → f ≡ get_or factors i f
    → here ≡ starts_at f.code (get_or runs i []) → after ≡ before ++ here
    → before ++ starts_through (drop i factors) (drop i runs) ≡ whole
    → after ++ starts_through (drop (i + 1) factors) (drop (i + 1) runs) ≡ whole
through_more factors runs i f before here after whole lt is at more known =
    let rest : ℕ → List StepStart = λ n. starts_through (drop n factors) (drop n runs) in
    ap (λ (n : ℕ). after ++ rest n) (add-one i)
    ∙ ap (λ (l : List StepStart). l ++ rest (suc i))
    (more ∙ ap (λ (h : List StepStart). before ++ h) at)
    ∙ append_assoc before (starts_at f.code (get_or runs i [])) (rest (suc i))
    ∙ ap (λ (l : List StepStart). before ++ l) (sym (through_at factors runs i f lt is))
    ∙ known

pub with_all : (starts : List Start) (i : ℕ) (old whole : List ℕ) → length starts ≤ i
    → with_events old (map start_of (drop i starts)) ≡ whole → old ≡ whole
with_all starts i old whole le before =
    sym (ap (λ (ss : List Start). with_events old (map start_of ss)) (drop_all i starts le))
    ∙ before

-- one number more
pub numbers_more : (numbers whole : List ℕ) (n end : ℕ) → n < end
    → numbers ++ numbers_from n (end - n) ≡ whole
    → (numbers ++ n ∷ []) ++ numbers_from (n + 1) (end - (n + 1)) ≡ whole
numbers_more numbers whole n end lt before =
    let less : end - n ≡ suc (end - (n + 1)) = omega arith in
    append_assoc numbers (n ∷ []) (numbers_from (n + 1) (end - (n + 1)))
    ∙ sym (ap (λ (k : ℕ). numbers ++ numbers_from n k) less)
    ∙ before
