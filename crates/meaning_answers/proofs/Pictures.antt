-- What `draw` writes is so by the definitions.
use Rattle.std.proofs.Common.{ℕ, ◌≡◌, List, [], length, drop, refl, sym, subst}
use Rattle.text_values.specs.declared.model.ModelText.{ModelText}
use Rattle.text_values.specs.declared.test.Test.{Test}
use Rattle.text_values.specs.ModelValue.{Clause}
use Rattle.text_values.specs.ModelValues.{clauses_of}
use Rattle.text_values.specs.TestValue.{Content, content_of}
use Rattle.outcome_states.specs.declared.answer.OutcomeResult.TheVariants as results
use Rattle.outcome_states.specs.declared.answer.Refusal.TheVariants as reasons
use Rattle.from_scratch.specs.FromScratch.{IsFaultless}
use Rattle.draw_graph.specs.declared.drawing.Drawing.{Drawing}
use Rattle.draw_scene.specs.Drawn.{AreTexts}
use Rattle.draw_relations.specs.Shown.{names_shown}
use Rattle.why_forbidden.specs.declared.drawing.DrawRequest.{DrawRequest}
use Rattle.why_forbidden.specs.Drawings as program
use Rattle.why_forbidden.specs.Drawings.{IsDrawn, AreDrawn, judgement}
use Rattle.why_forbidden.proofs.Sound.{sound_items}
use Rattle.meaning.specs.Names.{Name, locations}
use Rattle.meaning_executions.proofs.Located.{numbered_are}
use Rattle.meaning_faults.proofs.Models.{no_fault_is_none}
use Rattle.meaning_executions.proofs.Finishing.{is_accepted}
use Rattle.meaning_laws.specs.Words.{IsTestOfWords}
use Rattle.meaning_answers.proofs.WhyLaws.{result_said}
use Rattle.meaning_answers.specs.DrawingAnswers.{DrawingsAreSaid}
use Rattle.meaning_answers.specs.Drawings.{AreDrawingsSaid, IsPictureSaid, DrawsFault, DrawsRefusal, DrawsGraphs}
use Rattle.meaning_answers.proofs.Drawings.{drawings_said}
use Rattle.meaning_answers.proofs.Values.{all_named}

module _ (request : DrawRequest) (test : Test) (words : IsTestOfWords (content_of test))
    (model : ModelText) where
  abbrev content : Content
  content = content_of test

  abbrev clauses : List Clause
  clauses = clauses_of model.items.items

  graphs_said : IsFaultless model → (text : List ℕ) → AreDrawn request test model text
      → IsPictureSaid request content clauses text
  graphs_said none text h =
      let ds : List Drawing = h.drawn.0 in
      let said : AreDrawingsSaid request.wanted request.most content clauses ds =
      drawings_said test words h.space h.lists model.items.items h.resolved none h.resolves.0
      h.resolves.1 h.checked.answers h.checked.valued (sound_items model h.resolved none h.resolves).0
      (judgement model h.resolved h.values) refl refl h.checked.bound h.checked.each_name h.checks h.checked.each h.checked.all h.shown
      (all_named h.space clauses (names_shown clauses) (length (names_shown clauses)) h.shown
      h.all_shown) request.wanted request.most ds h.drawn.1 in
      DrawsGraphs ((no_fault_is_none model.items.items).0 none) (is_accepted test h.space h.lists) ds
      said
      (subst
      (λ (names : List Name). AreTexts request.format names (length names) (drop request.skipped ds) text)
      (numbered_are test h.space.locations.items h.lists.locations) h.drawn.2)

  picture_said : (text : List ℕ) → IsDrawn request test model text
      → IsPictureSaid request content clauses text
  picture_said text (program.HasFault fault h is) =
      DrawsFault fault (result_said test words model (results.Refused (reasons.Model fault)) h) is
  picture_said text (program.HasNoSpace none refusal h is) =
      DrawsRefusal refusal
      (result_said test words model (results.Refused (reasons.Space refusal)) (none, h)) is
  picture_said text (program.HasGraphs none h) = graphs_said none text h

pub drawings_are_said : DrawingsAreSaid
drawings_are_said request test words model text h = picture_said request test words model text h
