-- Drawings one behind another.
use Rattle.std.proofs.Common.{◌≡◌, ◌+◌, ◌<◌, ◌≤◌, ℕ, Bool, List, [], ◌∷◌, ◌++◌, length, get_or, take, nat_lt, refl, sym, ap, ◌∙◌, subst, arith}
use Rattle.std.proofs.lemmas.List.{take_more, take_all}
use Rattle.std.specs.List.{AllZip}
use Rattle.text_values.specs.declared.test.Test.{Test}
use Rattle.outcome_states.specs.declared.answer.Outcome.{Outcome}
use Rattle.from_scratch.specs.FromScratch.{IsFromScratch}
use Rattle.report_answers.specs.declared.drawings.DrawingBudget.{DrawingBudget}
use Rattle.report_answers.specs.declared.models.KnownModel.{KnownModel}
use Rattle.report_answers.specs.Drawn.{IsNextDrawing, AreTestDrawings, NoDrawing, NextDrawing, AreDrawingsIf}

pub none_drawn : (test : Test) (b : DrawingBudget) (ds : List (List ℕ)) → ds ≡ []
    → AreTestDrawings test b [] [] ds b
none_drawn test b ds e =
    subst (λ (l : List (List ℕ)). AreTestDrawings test b [] [] l b) (sym e) NoDrawing

pub one_drawn : (test : Test) (start b behind : DrawingBudget) (ms : List KnownModel)
    (os : List Outcome) (i : ℕ) (m : KnownModel) (o : Outcome) (ds all : List (List ℕ))
    (d : List ℕ) → i < length ms → i < length os → m ≡ get_or ms i m → o ≡ get_or os i o
    → all ≡ ds ++ d ∷ [] → AreTestDrawings test start (take i ms) (take i os) ds b
    → IsNextDrawing (nat_lt 0 b.left) test m.model o.result ds b d behind
    → AreTestDrawings test start (take (i + 1) ms) (take (i + 1) os) all behind
one_drawn test start b behind ms os i m o ds all d inside below at_m at_o e before next =
    let ms_cut : take (i + 1) ms ≡ take i ms ++ m ∷ [] = take_more ms i m inside ∙ ap (λ (x : KnownModel). take i ms ++ x ∷ []) (sym at_m) in
    let os_cut : take (i + 1) os ≡ take i os ++ o ∷ [] = take_more os i o below ∙ ap (λ (x : Outcome). take i os ++ x ∷ []) (sym at_o) in
    subst (λ (l : List KnownModel). AreTestDrawings test start l (take (i + 1) os) all behind)
    (sym ms_cut)
    (subst (λ (l : List Outcome). AreTestDrawings test start (take i ms ++ m ∷ []) l all behind)
    (sym os_cut)
    (subst (λ (l : List (List ℕ)). AreTestDrawings test start (take i ms ++ m ∷ []) (take i os ++ o ∷ []) l behind)
    (sym e) (NextDrawing (take i ms) (take i os) ds b m o d behind before next)))

pub as_many : (test : Test) (ms : List KnownModel) (os : List Outcome)
    → AllZip (λ m o. IsFromScratch test m.model o) ms os → length ms ≡ length os
as_many test [] [] h = refl
as_many test [] (o ∷ os) h = absurd h
as_many test (m ∷ ms) [] h = absurd h
as_many test (m ∷ ms) (o ∷ os) h =
    let rest : length ms ≡ length os = as_many test ms os h.1 in
    omega (arith, rest)

pub drawn_if : (b c : Bool) (test : Test) (ms : List KnownModel) (os : List Outcome)
    (old new : DrawingBudget) (ds : List (List ℕ)) → c ≡ b
    → AreDrawingsIf b test ms os old ds new → AreDrawingsIf c test ms os old ds new
drawn_if b c test ms os old new ds e h =
    subst (λ (x : Bool). AreDrawingsIf x test ms os old ds new) (sym e) h

pub all_drawn : (test : Test) (start b : DrawingBudget) (ms : List KnownModel) (os : List Outcome)
    (i : ℕ) (ds : List (List ℕ)) → length ms ≤ i → length os ≤ i
    → AreTestDrawings test start (take i ms) (take i os) ds b → AreTestDrawings test start ms os ds b
all_drawn test start b ms os i ds p q h =
    subst (λ (l : List Outcome). AreTestDrawings test start ms l ds b) (take_all i os q)
    (subst (λ (l : List KnownModel). AreTestDrawings test start l (take i os) ds b) (take_all i ms p) h)
