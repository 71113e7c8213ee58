-- What is at hand when executions are drawn. The contracts of drawing.rt and lines.rt cite it;
-- Drawings says what comes of it.
use Rattle.std.specs.Prelude.{ℕ, ◌≡◌, ◌<◌, Bool, true, false, List, Option, length}
use Rattle.std.specs.List.{All, AllZip}
use Rattle.cat_machine.specs.Executions.{events_of}
use Rattle.predefined_names.specs.declared.predefined.Predefined.{Predefined}
use Rattle.candidate_spaces.specs.declared.candidate.Space.{Space}
use Rattle.candidate_spaces.specs.Space.{Candidate}
use Rattle.draw_graph.specs.declared.drawing.Drawing.{Drawing}
use Rattle.draw_graph.specs.declared.drawing.Edges.{Edges}
use Rattle.draw_graph.specs.declared.drawing.Ink.{Ink}
use Rattle.draw_relations.specs.Values.{IsSized}
use Rattle.draw_scene.specs.declared.drawn.Format.{Format}
use Rattle.draw_scene.specs.Drawn.{AddsUnless}
use Rattle.why_forbidden.specs.declared.checks.FirstRefusal.{FirstRefusal}
use Rattle.why_forbidden.specs.declared.drawing.Scene.{Scene}
use Rattle.why_forbidden.specs.declared.drawing.DrawRequest.{DrawRequest}
use Rattle.why_forbidden.specs.declared.lines.DrawnRelation.{DrawnRelation}
use Rattle.why_forbidden.specs.Drawings.{AreAllLines, AreLines, IsCandidateAt, IsAskedOrNot, IsGraph, Subject, relations}
use Rattle.why_forbidden.specs.Language.{IsOfLanguage}
use Rattle.why_forbidden.specs.Views.{judgement_of}

-- the values of a relation that is drawn
pub record AreValuesOf (space : Space) (relation : Predefined × Ink) (r : DrawnRelation)
    : Type 0 where
  pub name : r.value.name ≡ relation.0
  pub ink : r.ink ≡ relation.1
  pub values : IsOfLanguage space r.value

abbrev pub subject_of : Scene → Subject
subject_of scene =
    let model = judgement_of scene.judged false in
    record { test = scene.test.now; space = scene.space.now; model = model; checks = scene.judged.checks.now; shown = scene.shown.now }

-- the checks are among the items of the model's text, the values are those of the relations, and
-- those that are shown are of the events
pub record AreReady (s : Subject) (values : List DrawnRelation) : Type 0 where
  pub named : All (λ c. c.item < length s.model.text) s.checks
  pub all : AllZip (AreValuesOf s.space) relations values
  pub sized : All (λ v. IsSized s.space v.values) s.shown

-- the graph of the candidate of that number
abbrev pub IsGraphAt : Subject → ℕ → Option FirstRefusal → Drawing → Type 0
IsGraphAt s k found d = (one : Candidate) → IsCandidateAt s.space k one → IsGraph s k one found d

-- the candidate of that number has so many events
abbrev pub HasCount : Space → ℕ → ℕ → Type 0
HasCount space k n = (one : Candidate) × IsCandidateAt space k one × (n ≡ events_of one)

-- over the locations of a space
abbrev pub AddsUnlessOf : (skipped : Bool) → Format → Space → Drawing → (old new : List ℕ) → Type 0
AddsUnlessOf skipped format space d old new =
    AddsUnless skipped format space.locations.items (length space.locations.items) d old new

-- the text of one drawing more, where the candidate of number k is asked for
abbrev pub AddsDrawing : DrawRequest → (skipped : Bool) → Subject → ℕ → (old new : List ℕ) → Bool
    → Type 0
AddsDrawing request skipped s k old new true =
    (one : Candidate) × (found : Option FirstRefusal) × (d : Drawing)
    × IsAskedOrNot request.wanted s k one found true × IsGraph s k one found d
    × AddsUnlessOf skipped request.format s.space d old new
AddsDrawing request skipped s k old new false =
    (one : Candidate) × (found : Option FirstRefusal)
    × IsAskedOrNot request.wanted s k one found false × (new ≡ old)

-- the edges of a relation among these events, in the candidate of number k
abbrev pub AreLinesAt : Space → ℕ → (ℕ → Type 0) → Predefined × Ink → Edges → Type 0
AreLinesAt space k IsDrawn relation e =
    (one : Candidate) → IsCandidateAt space k one → AreLines one IsDrawn relation e

-- the same of all relations
abbrev pub AreAllLinesAt : Space → ℕ → (ℕ → Type 0) → List Edges → Type 0
AreAllLinesAt space k IsDrawn es =
    (one : Candidate) → IsCandidateAt space k one → AllZip (AreLines one IsDrawn) relations es

-- and of those that the model shows
abbrev pub AreEdgesAt : Subject → ℕ → (ℕ → Type 0) → List Edges → Type 0
AreEdgesAt s k IsDrawn es =
    (one : Candidate) → IsCandidateAt s.space k one → AreAllLines s k one IsDrawn es
