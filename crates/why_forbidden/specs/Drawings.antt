-- Which executions of a test are drawn under a model, and how: `draw` cites `IsDrawn`. Read first
-- specs/Checked and Told, and Drawn and Texts of draw_graph.
use Rattle.std.specs.Prelude.{ℕ, ◌≡◌, ◌<◌, ◌≤◌, ◌+◌, ◌↔◌, Option, Some, None, MatchOption, vec_len}
use Rattle.std.specs.Prelude.{Bool, true, false, ◌&&◌, not}
use Rattle.std.specs.Prelude.{List, [], ◌∷◌, ◌++◌, map, drop, length, slice_get, slice_index_or, codes, decimal}
use Rattle.std.specs.Option.{is_none}
use Rattle.std.specs.List.{All, AllPairs, AllZip, Contains}
use Rattle.binding_graph.specs.declared.resolved.ResolvedItem.{ResolvedItem}
use Rattle.binding_graph.specs.declared.resolved.Source.TheVariants as sources
use Rattle.binding_kinds.specs.declared.fault.ModelFault.{ModelFault}
use Rattle.binding_kinds.specs.Numbers as model_faults
use Rattle.candidate_spaces.specs.declared.candidate.Space.{Space}
use Rattle.ppc_lowering.specs.declared.fault.EvalRefusal.{EvalRefusal}
use Rattle.candidates.specs.Listed.{ListsExecutions, IsSpaceRefusal}
use Rattle.ppc_lowering.specs.Numbers as refusals
use Rattle.candidate_spaces.specs.Space.{Candidate, candidate_count, candidates_in, shown_of}
use Rattle.cat_machine.specs.Executions.{events_of, PairsAt}
use Rattle.cat_printing.specs.Printing.{printed_item}
use Rattle.text_values.specs.declared.model.Item.{Item}
use Rattle.text_values.specs.declared.model.ModelText.{ModelText}
use Rattle.predefined_names.specs.declared.predefined.Predefined.{Predefined}
use Rattle.predefined_names.specs.declared.predefined.Predefined.TheVariants as names
use Rattle.predefined_names.specs.declared.predefined.TheConstants.{PREDEFINED}
use Rattle.predefined_names.specs.PredefinedNames.{spelling}
use Rattle.text_values.specs.ModelValues.{clause_of}
use Rattle.why_text.specs.Origins.{AreInstructions}
use Rattle.why_witness.specs.Pairs.{HasPair}
use Rattle.draw_graph.specs.declared.drawing.Cluster.{Cluster}
use Rattle.draw_graph.specs.declared.drawing.Drawing.{Drawing}
use Rattle.draw_graph.specs.declared.drawing.Edges.{Edges}
use Rattle.draw_graph.specs.declared.drawing.Ink.{Ink}
use Rattle.draw_graph.specs.declared.drawing.Ink.TheVariants as inks
use Rattle.draw_graph.specs.Drawn.{AreEdges, DrawnAmong, IsDrawnEvent}
use Rattle.draw_scene.specs.declared.drawn.Format.{Format}
use Rattle.draw_scene.specs.declared.drawn.Format.TheVariants as formats
use Rattle.draw_scene.specs.Drawn.{AreTexts}
use Rattle.text_values.specs.declared.test.Test.{Test}
use Rattle.text_values.specs.TestValue.{formula_of}
use Rattle.from_scratch.specs.declared.cell.ItemAnswers.{ItemAnswers}
use Rattle.from_scratch.specs.FromScratch.{AreItemsOf, IsFaultOf, IsFaultless}
use Rattle.from_scratch.specs.Known.{HasAllColumns}
use Rattle.why_text.specs.declared.event.ToldEvent.{ToldEvent}
use Rattle.why_text.specs.declared.reason.Reason.{Reason}
use Rattle.why_text.specs.declared.reason.ToldStep.{ToldStep}
use Rattle.store_orders.specs.declared.combination.Event.{Event}
use Rattle.draw_relations.specs.declared.values.ShownValues.{ShownValues}
use Rattle.draw_relations.specs.Values.{AreAllShown}
use Rattle.why_labels.specs.declared.label.NameValues.{NameValues}
use Rattle.verdict.specs.Evaluated.{is_satisfied}
use Rattle.why_forbidden.specs.declared.checks.CheckValues.{CheckValues}
use Rattle.why_forbidden.specs.declared.checks.FirstRefusal.{FirstRefusal}
use Rattle.why_forbidden.specs.declared.drawing.DrawRequest.{DrawRequest}
use Rattle.why_forbidden.specs.declared.drawing.Wanted.{Wanted}
use Rattle.why_forbidden.specs.declared.drawing.Wanted.TheVariants as wanteds
use Rattle.why_forbidden.specs.Checked.{AcceptBelow, IsChecked, IsFirstRefusal, check_indexes, checked_items}
use Rattle.why_forbidden.specs.Labels.{Judgement}
use Rattle.why_forbidden.specs.Language.{IsOfLanguage, valued_names, relation_names}
use Rattle.why_forbidden.specs.Outcomes.{IsReasonFor}
use Rattle.why_forbidden.specs.Told.{Scene}

-- a test, its space, and a model over it, with its checks and the relations that it shows
pub record Subject : Type 0 where
  pub test : Test
  pub space : Space
  pub model : Judgement
  pub checks : List CheckValues
  pub shown : List ShownValues

-- what carries a step is not told deeper
abbrev pub judgement : ModelText → List ResolvedItem → NameValues → Judgement
judgement model resolved values =
    record { text = model.items.items; items = resolved; values = values; is_deep = false }

abbrev pub subject : Test → Space → Judgement → List CheckValues → List ShownValues → Subject
subject test space model checks shown =
    record { test = test; space = space; model = model; checks = checks; shown = shown }

-- ---- the boxes of a graph: events

abbrev pub HasThread : List Event → Option ℕ → ℕ → Type 0
HasThread events thread n = (e : Event) × (slice_get events n ≡ Some e) × (e.thread ≡ thread)

-- a drawn event of this thread; without a thread, a drawn initial store
abbrev pub IsBoxed : List Event → (ℕ → Type 0) → Option ℕ → ℕ → Type 0
IsBoxed events IsDrawn thread n = HasThread events thread n × IsDrawn n

-- the event of its number, with the instruction that it comes from
pub record IsBox (scene : Scene) (box : ToldEvent) : Type 0 where
  pub event : slice_get scene.events box.number ≡ Some box.event
  pub instruction : box.instruction ≡ slice_index_or scene.instructions box.number None

abbrev pub box_numbers : List ToldEvent → List ℕ
box_numbers boxes = map (λ b. b.number) boxes

-- the boxes are just those of these events, in their order
pub record AreBoxes (scene : Scene) (P : ℕ → Type 0) (boxes : List ToldEvent) : Type 0 where
  pub rising : AllPairs (λ m n. m < n) (box_numbers boxes)
  pub each : All (IsBox scene) boxes
  pub exact : (n : ℕ) → Contains (box_numbers boxes) n ↔ P n

abbrev pub AreBoxesOf : Scene → (ℕ → Type 0) → Option ℕ → List ToldEvent → Type 0
AreBoxesOf scene IsDrawn thread boxes = AreBoxes scene (IsBoxed scene.events IsDrawn thread) boxes

-- the drawn events of a thread, in program order
pub record IsCluster (scene : Scene) (IsDrawn : ℕ → Type 0) (thread : ℕ) (c : Cluster)
    : Type 0 where
  pub number : c.thread ≡ thread
  pub boxes : AreBoxesOf scene IsDrawn (Some thread) c.events.items

-- one for each of so many threads
pub record AreClusters (scene : Scene) (IsDrawn : ℕ → Type 0) (threads : ℕ)
    (clusters : List Cluster) : Type 0 where
  pub count : length clusters ≡ threads
  pub each : (t : ℕ) (c : Cluster) → slice_get clusters t ≡ Some c → IsCluster scene IsDrawn t c

-- ---- the lines of a graph: pairs of relations

-- the relations that are drawn, and how
abbrev pub relations : List (Predefined × Ink)
relations =
    (names.ProgramOrder, inks.Order)
    ∷ (names.ReadsFrom, inks.ReadsFrom) ∷ (names.Coherence, inks.Coherence)
    ∷ (names.FromReads, inks.FromReads)
    ∷ (names.AddressDependency, inks.Dependency) ∷ (names.DataDependency, inks.Dependency)
    ∷ (names.ControlDependency, inks.Dependency)
    ∷ (names.SyncOrder, inks.Fence) ∷ (names.LwsyncOrder, inks.Fence)
    ∷ (names.EieioOrder, inks.Fence) ∷ (names.IsyncOrder, inks.Fence)
    ∷ []

-- the candidate of that number
abbrev pub IsCandidateAt : Space → ℕ → Candidate → Type 0
IsCandidateAt space k one = slice_get (candidates_in space.combinations.items) k ≡ Some one

-- the pairs of a name of the language in a candidate
abbrev pub PairsOfName : Candidate → Predefined → ℕ → ℕ → Type 0
PairsOfName one name = PairsAt (events_of one) one [] 0 (sources.Predefined name)

-- the edges of one of them between the drawn events
pub record AreLines (one : Candidate) (IsDrawn : ℕ → Type 0) (relation : Predefined × Ink)
    (e : Edges) : Type 0 where
  pub name : e.name.items ≡ spelling relation.0
  pub ink : e.ink ≡ relation.1
  pub pairs : AreEdges (DrawnAmong IsDrawn (PairsOfName one relation.0)) e.pairs.items

-- the edges of a relation that the model shows, in the candidate of number k
pub record AreShownLines (k : ℕ) (IsDrawn : ℕ → Type 0) (v : ShownValues) (e : Edges) : Type 0 where
  pub name : e.name.items ≡ v.name
  pub ink : e.ink ≡ inks.Named
  pub pairs : AreEdges (DrawnAmong IsDrawn (HasPair v.values k)) e.pairs.items

-- those of the language, and then those that the model shows
pub record AreAllLines (s : Subject) (k : ℕ) (one : Candidate) (IsDrawn : ℕ → Type 0)
    (es : List Edges) : Type 0 where
  pub known : List Edges
  pub shown : List Edges
  pub both : es ≡ known ++ shown
  pub of_language : AllZip (AreLines one IsDrawn) relations known
  pub of_model : AllZip (AreShownLines k IsDrawn) s.shown shown

-- ---- the title

-- no check refuses the candidate, or this is the first that does
abbrev pub IsFirstRefusalIfAny : List CheckValues → ℕ → Option FirstRefusal → Type 0
IsFirstRefusalIfAny checks k found =
    MatchOption found (AcceptBelow checks k (length checks)) (IsFirstRefusal checks k)

-- the check that refuses, as it is printed
abbrev pub IsCheckText : List CheckValues → List Item → FirstRefusal → List ℕ → Type 0
IsCheckText checks items first text =
    (c : CheckValues) × (slice_get checks first.index ≡ Some c)
    × (item : Item) × (slice_get items c.item ≡ Some item) × (text ≡ printed_item (clause_of item))

-- what comes of the candidate
abbrev pub IsFate : List CheckValues → List Item → Option FirstRefusal → List ℕ → Type 0
IsFate checks items None fate = fate ≡ codes ": kept"
IsFate checks items (Some first) fate =
    (check : List ℕ) × IsCheckText checks items first check
    × (fate ≡ codes ": forbidden by " ++ check)

-- the name of the test and the number of the candidate before it
unfoldable pub title_text : List ℕ → ℕ → List ℕ → List ℕ
title_text name k fate = name ++ codes ", execution " ++ decimal k ++ fate

-- ---- the graph of an execution

-- the steps of the reason why the check refuses the candidate, and where they begin; a kept
-- execution has none
abbrev pub AreSteps : Judgement → List CheckValues → Scene → Option FirstRefusal → Option ℕ
    → List ToldStep → Type 0
AreSteps model checks scene None first steps = (first ≡ None) × (steps ≡ [])
AreSteps model checks scene (Some refusal) first steps =
    (r : Reason) × IsReasonFor model checks scene refusal r × (first ≡ r.first)
    × (steps ≡ r.steps.items)

-- the candidate of number k: its events, and the instructions that they come from
pub record IsSceneOf (test : Test) (k : ℕ) (one : Candidate) (scene : Scene) : Type 0 where
  pub number : scene.candidate ≡ k
  pub events : scene.events ≡ one.0.events.items
  pub instructions : AreInstructions test scene.events scene.instructions

-- the events at which the steps begin and end
abbrev pub step_ends : (first : Option ℕ) → List ToldStep → List ℕ
step_ends None steps = []
step_ends (Some first) steps = first ∷ map (λ s. s.to) steps

-- the events of the threads are drawn, and the initial stores that loads read or that are ends of
-- steps
abbrev pub IsDrawnIn : Candidate → (ends : List ℕ) → ℕ → Type 0
IsDrawnIn one ends = IsDrawnEvent one.0.events.items (one.1.0 ++ ends)

-- the candidate of number k, with its events and its pairs, and the steps of the reason
pub record IsGraph (s : Subject) (k : ℕ) (one : Candidate) (found : Option FirstRefusal)
    (d : Drawing) : Type 0 where
  pub scene : Scene
  pub stands : IsSceneOf s.test k one scene
  pub fate : List ℕ
  pub told : IsFate s.checks s.model.text found fate
  pub title : d.title.items ≡ title_text s.test.name k fate
  pub initial : AreBoxesOf scene (IsDrawnIn one (step_ends d.first d.steps.items)) None
      d.initial.items
  pub clusters : AreClusters scene (IsDrawnIn one (step_ends d.first d.steps.items))
      (vec_len s.test.threads) d.clusters.items
  pub edges : AreAllLines s k one (IsDrawnIn one (step_ends d.first d.steps.items)) d.edges.items
  pub steps : AreSteps s.model s.checks scene found d.first d.steps.items

-- ---- which executions

-- by whether it has what the test asks for, and whether the model keeps it
abbrev pub is_execution_wanted : Wanted → Bool → Bool → Bool
is_execution_wanted wanteds.Shown satisfied kept = satisfied && kept
is_execution_wanted wanteds.Forbidden satisfied kept = satisfied && not kept
is_execution_wanted wanteds.All satisfied kept = true

abbrev pub has_asked : Subject → Candidate → Bool
has_asked s one =
    is_satisfied s.space.locations.items (formula_of s.test.condition.proposition)
    (shown_of s.space.registers.items one)

-- the candidate of number k, what comes of it, and whether it is asked for
pub record IsAskedOrNot (wanted : Wanted) (s : Subject) (k : ℕ) (one : Candidate)
    (found : Option FirstRefusal) (answer : Bool) : Type 0 where
  pub is : IsCandidateAt s.space k one
  pub judged : IsFirstRefusalIfAny s.checks k found
  pub asked : is_execution_wanted wanted (has_asked s one) (is_none found) ≡ answer

-- of the candidates before a number, the drawings of those that are asked for, until there are so
-- many
pub data AreDrawings (wanted : Wanted) (most : ℕ) (s : Subject) : ℕ → List Drawing → Type 0 where
  NoDrawing : AreDrawings wanted most s 0 []
  OneDrawn : (k : ℕ) (ds : List Drawing) (one : Candidate) (found : Option FirstRefusal)
      (d : Drawing)
      → AreDrawings wanted most s k ds → length ds < most → IsAskedOrNot wanted s k one found true
      → IsGraph s k one found d
      → AreDrawings wanted most s (k + 1) (ds ++ d ∷ [])
  OneLeft : (k : ℕ) (ds : List Drawing) (one : Candidate) (found : Option FirstRefusal)
      → AreDrawings wanted most s k ds → IsAskedOrNot wanted s k one found false
      → AreDrawings wanted most s (k + 1) ds
  OneTooMany : (k : ℕ) (ds : List Drawing)
      → AreDrawings wanted most s k ds → most ≤ length ds → AreDrawings wanted most s (k + 1) ds

-- ---- the whole

-- the texts of drawings over the locations of a space
abbrev pub AreTextsOf : Format → Space → List Drawing → List ℕ → Type 0
AreTextsOf format space ds text =
    AreTexts format space.locations.items (length space.locations.items) ds text

-- the text of the drawings of the candidates before a number, but for those that are passed over
abbrev pub AreDrawingsOf : DrawRequest → Subject → ℕ → List ℕ → Type 0
AreDrawingsOf request s n text =
    (ds : List Drawing) × AreDrawings request.wanted request.most s n ds
    × AreTextsOf request.format s.space (drop request.skipped ds) text

-- these are the checks of the resolved items, with the values of their expressions in the
-- candidates of the space, and the values of all names
pub record AreChecks (s : Subject) : Type 0 where
  pub answers : ItemAnswers
  pub valued : HasAllColumns s.space s.model.items answers
  pub each : All (IsChecked s.space answers.columns.items s.model.items) s.checks
  pub all : checked_items s.checks ≡ check_indexes 0 s.model.items
  pub bound : s.model.values.bound.now ≡ answers.columns.items
  pub each_name : All (IsOfLanguage s.space) s.model.values.predefined.now
  pub all_names : valued_names s.model.values.predefined.now ≡ relation_names PREDEFINED

-- the drawings of a test over its space, of all candidates, by the checks of a model without fault
pub record AreDrawn (request : DrawRequest) (test : Test) (model : ModelText) (text : List ℕ)
    : Type 0 where
  pub resolved : List ResolvedItem
  pub resolves : AreItemsOf model resolved
  pub space : Space
  pub lists : ListsExecutions test space
  pub values : NameValues
  pub checks : List CheckValues
  pub shown : List ShownValues
  pub all_shown : AreAllShown space model shown
  pub checked : AreChecks (subject test space (judgement model resolved values) checks shown)
  pub drawn : AreDrawingsOf request
      (subject test space (judgement model resolved values) checks shown) (candidate_count space)
      text

-- a comment of `dot`, or of `svg`
unfoldable pub comment_front : Format → List ℕ
comment_front formats.Dot = codes "// Refused "
comment_front formats.Svg = codes "<!-- Refused "
comment_front formats.Figure = codes "<!-- Refused "

unfoldable pub comment_end : Format → List ℕ
comment_end formats.Dot = codes "\n"
comment_end formats.Svg = codes " -->\n"
comment_end formats.Figure = codes " -->\n"

unfoldable pub refused_comment : Format → List ℕ → ℕ → List ℕ
refused_comment format letter number =
    comment_front format ++ letter ++ decimal number ++ comment_end format

-- what is drawn of a test under a model: of a model with a fault, and of a test that is refused, a
-- comment tells its number
pub data IsDrawn (request : DrawRequest) (test : Test) (model : ModelText) (text : List ℕ)
    : Type 0 where
  HasFault : (fault : ModelFault) → IsFaultOf model fault
      → text ≡ refused_comment request.format (codes "M") (model_faults.number fault)
      → IsDrawn request test model text
  HasNoSpace : IsFaultless model → (refusal : EvalRefusal) → IsSpaceRefusal test refusal
      → text ≡ refused_comment request.format (codes "E") (refusals.number refusal)
      → IsDrawn request test model text
  HasGraphs : IsFaultless model → AreDrawn request test model text
      → IsDrawn request test model text
