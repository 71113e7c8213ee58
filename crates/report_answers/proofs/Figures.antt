-- A figure of a test that is evaluated closes its elements in order, and opens no script.
use Rattle.std.proofs.Common.{◌≡◌, ℕ, List, [], ◌++◌, length, refl, sym, subst}
use Rattle.std.specs.Prelude.{drop, codes}
use Rattle.text_values.specs.declared.test.Test.{Test}
use Rattle.text_values.specs.declared.model.ModelText.{ModelText}
use Rattle.escaped_texts.specs.Balanced.{Content, is_void}
use Rattle.outcome_states.specs.declared.answer.Evaluation.{Evaluation}
use Rattle.outcome_states.specs.declared.answer.OutcomeResult.TheVariants as results
use Rattle.candidates.proofs.OneOutcome.{one_outcome}
use Rattle.from_scratch.specs.FromScratch.{IsResultOf}
use Rattle.draw_graph.specs.declared.drawing.Drawing.{Drawing}
use Rattle.draw_layout.specs.declared.picture.Picture.{Picture}
use Rattle.draw_scene.specs.declared.drawn.Format.{Format}
use Rattle.draw_scene.specs.declared.drawn.Format.TheVariants as formats
use Rattle.draw_scene.specs.declared.drawn.TheConstants.{TOO_LARGE}
use Rattle.draw_scene.specs.Drawn.{AddsFigure, AddsSvg, AreTexts, Fits, FitsNot, NoText, OneText, caption, reason_words}
use Rattle.why_forbidden.specs.declared.drawing.DrawRequest.{DrawRequest}
use Rattle.why_forbidden.specs.Drawings.{HasFault, HasGraphs, HasNoSpace, IsDrawn}
use Rattle.report_answers.specs.Scripts.{IsPlainMarkup}
use Rattle.report_answers.proofs.Passing.{none_plain, beside, escaped_is_plain}
use Rattle.report_answers.proofs.Elements.{element_is_plain}
use Rattle.report_answers.proofs.Pictures.{fixed, picture_is_plain}

caption_is_plain : (initial : ℕ) (d : Drawing) → IsPlainMarkup (caption initial d)
unfolding caption
caption_is_plain initial d =
    element_is_plain (codes "figcaption") [] refl refl refl refl
    (escaped_is_plain (d.title.items ++ reason_words initial d.first d.steps.items))

too_large_is_plain : IsPlainMarkup TOO_LARGE.now
unfolding is_void
too_large_is_plain around = fixed (Content around) (Content around) TOO_LARGE.now refl refl

with_picture : (p : Picture) (old new : List ℕ) → AddsSvg [] p old new → IsPlainMarkup old
    → IsPlainMarkup new
with_picture p old new (Fits l is e) plain =
    subst IsPlainMarkup (sym e) (beside plain (picture_is_plain p l))
with_picture p old new (FitsNot unfit e) plain =
    subst IsPlainMarkup (sym e) (beside plain too_large_is_plain)

with_figure : (locations : List (List ℕ)) (initial : ℕ) (d : Drawing) (old new : List ℕ)
    → AddsFigure locations initial d old new → IsPlainMarkup old → IsPlainMarkup new
with_figure locations initial d old new adds plain =
    with_picture adds.0 (old ++ caption initial d) new adds.2
    (beside plain (caption_is_plain initial d))

figures_are_plain : (locations : List (List ℕ)) (initial : ℕ) (ds : List Drawing) (text : List ℕ)
    → AreTexts formats.Figure locations initial ds text → IsPlainMarkup text
figures_are_plain locations initial ds all NoText = none_plain
figures_are_plain locations initial ds all (OneText before d text more texts adds) =
    with_figure locations initial d text more adds
    (figures_are_plain locations initial before text texts)

pub figure_is_plain : (request : DrawRequest) (test : Test) (model : ModelText) (e : Evaluation)
    (text : List ℕ) → request.format ≡ formats.Figure
    → IsResultOf test model (results.Evaluated e) → IsDrawn request test model text
    → IsPlainMarkup text
figure_is_plain request test model e text figure said (HasFault fault is t) =
    absurd (said.0 is.item is.index fault is.there)
figure_is_plain request test model e text figure said (HasNoSpace faultless refusal refused t) =
    absurd ((one_outcome test).listed_or_refused said.1.2 refusal said.1.3 refused)
figure_is_plain request test model e text figure said (HasGraphs faultless drawn) =
    let space = drawn.space in
    let locations = space.locations.items in
    let ds = drop request.skipped drawn.drawn.0 in
    figures_are_plain locations (length locations) ds text
    (subst (λ (f : Format). AreTexts f locations (length locations) ds text) figure drawn.drawn.2)
