-- The drawings of a page close their elements in order, and open no script.
use Rattle.std.proofs.Common.{ℕ, Bool, true, false, List, [], ◌∷◌, ◌++◌, refl, sym, subst}
use Rattle.std.specs.Prelude.{nat_lt, ◌||◌}
use Rattle.std.specs.List.{All, AllZip}
use Rattle.std.proofs.lemmas.List.Elements.{All-nil, All-push, All-same}
use Rattle.text_values.specs.declared.test.Test.{Test}
use Rattle.text_values.specs.declared.model.ModelText.{ModelText}
use Rattle.outcome_states.specs.declared.answer.Outcome.{Outcome}
use Rattle.outcome_states.specs.declared.answer.OutcomeResult.{OutcomeResult}
use Rattle.outcome_states.specs.declared.answer.OutcomeResult.TheVariants as results
use Rattle.from_scratch.specs.FromScratch.{IsFromScratch, IsResultOf}
use Rattle.command_answers.specs.declared.file.TextFile.{TextFile}
use Rattle.report_details.specs.Reported.{ReportedTest}
use Rattle.report_details.specs.Groups.{are_told_apart}
use Rattle.report_answers.specs.Scripts.{IsPlainMarkup}
use Rattle.report_answers.specs.Whole.{HasPlainDrawings}
use Rattle.report_answers.proofs.Passing.{none_plain}
use Rattle.report_answers.proofs.Figures.{figure_is_plain}
use Rattle.report_answers.specs.declared.drawings.DrawingBudget.{DrawingBudget}
use Rattle.report_answers.specs.declared.models.KnownModel.{KnownModel}
use Rattle.report_answers.specs.Drawn.{request_of, IsDrawingOf, IsNextDrawing, AreTestDrawings, NoDrawing, NextDrawing, AreDrawingsIf}
use Rattle.report_answers.specs.Known.{IsReportedTest, PageContent, AddsKnownTest, IsKnownTest, IsUnknownTest, AreKnownTests, NoTestKnown, OneTestKnown}

-- ---- lists of two kinds, one item longer

no_item : {A B : Type 0} (R : A → B → Type 0) (ys : List B) (y : B)
    → AllZip R [] (ys ++ y ∷ []) → ⊥
no_item R [] y h = h
no_item R (z ∷ ys) y h = h

no_other : {A B : Type 0} (R : A → B → Type 0) (xs : List A) (x : A)
    → AllZip R (xs ++ x ∷ []) [] → ⊥
no_other R [] x h = h
no_other R (w ∷ xs) x h = h

last_apart : {A B : Type 0} (R : A → B → Type 0) (xs : List A) (ys : List B) (x : A) (y : B)
    → AllZip R (xs ++ x ∷ []) (ys ++ y ∷ []) → AllZip R xs ys × R x y
last_apart R [] [] x y h = (tt, h.0)
last_apart R [] (z ∷ ys) x y h = absurd (no_item R ys y h.1)
last_apart R (w ∷ xs) [] x y h = absurd (no_other R xs x h.1)
last_apart R (w ∷ xs) (z ∷ ys) x y h =
    let rest = last_apart R xs ys x y h.1 in
    ((h.0, rest.0), rest.1)

-- ---- the drawings of a test

drawing_is_plain : (test : Test) (model : ModelText) (result : OutcomeResult) (d : List ℕ)
    → IsResultOf test model result → IsDrawingOf test model result d → IsPlainMarkup d
drawing_is_plain test model (results.Refused r) d said e = subst IsPlainMarkup (sym e) none_plain
drawing_is_plain test model (results.Evaluated e) d said drawn =
    figure_is_plain (request_of e.positive) test model e d refl said drawn

next_is_plain : (may : Bool) (test : Test) (m : KnownModel) (o : Outcome) (before : List (List ℕ))
    (b : DrawingBudget) (d : List ℕ) (behind : DrawingBudget) → IsFromScratch test m.model o
    → IsNextDrawing may test m.model o.result before b d behind → IsPlainMarkup d
next_is_plain true test m o before b d behind said next =
    drawing_is_plain test m.model o.result d said.result next.0
next_is_plain false test m o before b d behind said next =
    subst IsPlainMarkup (sym next.0) none_plain

drawings_are_plain : (test : Test) (start : DrawingBudget) (ms : List KnownModel)
    (os : List Outcome) (ds : List (List ℕ)) (b : DrawingBudget)
    → AreTestDrawings test start ms os ds b → AllZip (λ m o. IsFromScratch test m.model o) ms os
    → All IsPlainMarkup ds
drawings_are_plain test start ms os ds b NoDrawing said = All-nil IsPlainMarkup
drawings_are_plain test start ms os ds b (NextDrawing ms0 os0 ds0 b0 m o d behind before next) said =
    let apart = last_apart (λ m o. IsFromScratch test m.model o) ms0 os0 m o said in
    All-push IsPlainMarkup ds0 d
    (drawings_are_plain test start ms0 os0 ds0 b0 before apart.0)
    (next_is_plain (nat_lt 0 b0.left) test m o ds0 b0 d behind apart.1 next)

plain_if : (drawn : Bool) (test : Test) (ms : List KnownModel) (os : List Outcome)
    (b : DrawingBudget) (ds : List (List ℕ)) (behind : DrawingBudget)
    → AreDrawingsIf drawn test ms os b ds behind
    → AllZip (λ m o. IsFromScratch test m.model o) ms os → All IsPlainMarkup ds
plain_if true test ms os b ds behind are said =
    drawings_are_plain test b ms os ds behind are said
plain_if false test ms os b ds behind are said =
    All-same IsPlainMarkup ds [] are.0 (All-nil IsPlainMarkup)

-- ---- the tests of files

test_is_plain : (is_all : Bool) (models : List KnownModel) (file : TextFile) (b : DrawingBudget)
    (t : ReportedTest) (behind : DrawingBudget) → IsReportedTest is_all models file b t behind
    → HasPlainDrawings t
test_is_plain is_all models file b t behind r =
    plain_if (is_all || are_told_apart t.outcomes) r.known models t.outcomes b t.drawings behind
    r.drawings r.outcomes

with_file : (is_all : Bool) (models : List KnownModel) (file : TextFile) (old new : PageContent)
    → AddsKnownTest is_all models file old new → All HasPlainDrawings old.tests
    → All HasPlainDrawings new.tests
with_file is_all models file old new (IsKnownTest t is more lines) plain =
    All-same HasPlainDrawings new.tests (old.tests ++ t ∷ []) more
    (All-push HasPlainDrawings old.tests t plain
    (test_is_plain is_all models file old.budget t new.budget is))
with_file is_all models file old new (IsUnknownTest rule offset refused same b lines) plain =
    All-same HasPlainDrawings new.tests old.tests same plain

pub tests_are_plain : (is_all : Bool) (models : List KnownModel) (start : PageContent)
    (files : List TextFile) (found : PageContent) → AreKnownTests is_all models start files found
    → All HasPlainDrawings start.tests → All HasPlainDrawings found.tests
tests_are_plain is_all models start files found NoTestKnown plain = plain
tests_are_plain is_all models start files found (OneTestKnown before file mid new was adds) plain =
    with_file is_all models file mid new adds
    (tests_are_plain is_all models start before mid was plain)
