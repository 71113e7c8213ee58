-- The graph of an execution, and the drawings one after another.
use Rattle.std.proofs.Common.{ℕ, ◌≡◌, ◌<◌, ◌≤◌, ◌+◌, ◌↔◌, ◌∙◌, List, [], ◌∷◌, ◌++◌, Bool, true, false, length, get_or, sym, ap, subst, arith}
use Rattle.std.specs.Prelude.{drop, nat_lt, not, Option, Some, option_map}
use Rattle.std.specs.List.{All}
use Rattle.std.specs.Option.{is_none, is_some}
use Rattle.std.proofs.lemmas.List.{length-append, length-map}
use Rattle.std.proofs.lemmas.Option.{same_Some, slice_get-map, slice_get_within}
use Rattle.std.proofs.lemmas.Slice.Zip.{AllZip-long}
use Rattle.bit_rows.specs.Relation.{Events, IsEvents, IsMember}
use Rattle.binding_graph.specs.declared.resolved.ResolvedItem.{ResolvedItem}
use Rattle.candidate_spaces.specs.declared.candidate.Space.{Space}
use Rattle.candidate_spaces.specs.declared.execution.Execution.{Execution}
use Rattle.candidates.specs.Listed.{ListsExecutions, ShowsExecution}
use Rattle.candidate_spaces.specs.Space.{Candidate, IsShownAt, Shown, candidate_count, candidates_in, shown_by, shown_in, shown_of}
use Rattle.text_values.specs.declared.model.ModelText.{ModelText}
use Rattle.predefined_names.specs.declared.predefined.TheConstants.{PREDEFINED}
use Rattle.draw_graph.specs.declared.drawing.Cluster.{Cluster}
use Rattle.draw_graph.specs.declared.drawing.Drawing.{Drawing}
use Rattle.draw_graph.specs.Drawn.{IsDrawnEvent}
use Rattle.draw_scene.proofs.Texts.{texts_on}
use Rattle.text_values.specs.declared.test.Test.{Test}
use Rattle.text_values.specs.TestValue.{formula_of}
use Rattle.from_scratch.specs.Answers.{AreSoundItems}
use Rattle.from_scratch.specs.FromScratch.{AreItemsOf, IsFaultless, bare_items}
use Rattle.binding_kinds.specs.Outermost.{outermost_names}
use Rattle.from_scratch.proofs.Knowing.{item_at}
use Rattle.from_scratch.proofs.Ordered.{resolved_ordered}
use Rattle.from_scratch.proofs.Rising.{resolved_rising}
use Rattle.why_text.specs.declared.event.ToldEvent.{ToldEvent}
use Rattle.store_orders.specs.declared.combination.Event.{Event}
use Rattle.verdict.specs.Evaluated.{is_satisfied}
use Rattle.why_forbidden.specs.declared.checks.CheckValues.{CheckValues}
use Rattle.why_forbidden.specs.declared.checks.FirstRefusal.{FirstRefusal}
use Rattle.why_forbidden.specs.declared.drawing.DrawRequest.{DrawRequest}
use Rattle.why_forbidden.specs.declared.drawing.Wanted.{Wanted}
use Rattle.why_forbidden.specs.Checked.{IsChecked}
use Rattle.why_forbidden.specs.Drawable.{AddsDrawing}
use Rattle.why_forbidden.specs.Drawings.{AreBoxesOf, AreClusters, AreDrawings, AreTextsOf, IsCandidateAt, OneDrawn, OneLeft, OneTooMany, Subject, has_asked, is_execution_wanted}
use Rattle.why_forbidden.specs.Told.{Scene}

-- ---- one execution

-- an execution shows what the candidate of its number does
pub shown_at : (space : Space) (k : ℕ) (e : Execution) (one : Candidate) → IsShownAt space k e
    → IsCandidateAt space k one → shown_by e ≡ shown_of space.registers.items one
shown_at space k e one shown is =
    let f = shown_of space.registers.items in
    let cs = candidates_in space.combinations.items in
    same_Some (shown_by e) (f one) (sym shown ∙ slice_get-map f cs k ∙ ap (option_map f) is)

-- there is such a candidate, of so many events
pub shown_there : (space : Space) (k : ℕ) (e : Execution) → IsShownAt space k e
    → (one : Candidate) × IsCandidateAt space k one
shown_there space k e shown =
    let cs = candidates_in space.combinations.items in
    let inside : k < length (shown_in space) = slice_get_within (shown_in space) k (shown_by e) shown in
    let same : length (shown_in space) ≡ length cs = length-map cs (shown_of space.registers.items) in
    item_at cs k (omega (arith, inside, same))

pub events_shown : (space : Space) (k : ℕ) (e : Execution) (one : Candidate) → IsShownAt space k e
    → IsCandidateAt space k one → e.events.items ≡ one.0.events.items
events_shown space k e one shown is = ap (λ (s : Shown). s.events) (shown_at space k e one shown is)

pub sources_shown : (space : Space) (k : ℕ) (e : Execution) (one : Candidate) → IsShownAt space k e
    → IsCandidateAt space k one → e.reads_from.items ≡ one.1.0
sources_shown space k e one shown is =
    ap (λ (s : Shown). s.reads_from) (shown_at space k e one shown is)

-- whether the candidate has what the test asks for
pub asked_is : (s : Subject) (k : ℕ) (e : Execution) (one : Candidate) (locations : List (List ℕ))
    (satisfied : Bool) → IsShownAt s.space k e → IsCandidateAt s.space k one
    → locations ≡ s.space.locations.items
    → satisfied ≡ is_satisfied locations (formula_of s.test.condition.proposition) (shown_by e)
    → satisfied ≡ has_asked s one
asked_is s k e one locations satisfied shown is same said =
    let p = formula_of s.test.condition.proposition in
    said ∙ ap (λ (l : List (List ℕ)). is_satisfied l p (shown_by e)) same
    ∙ ap (λ (x : Shown). is_satisfied s.space.locations.items p x)
    (shown_at s.space k e one shown is)

-- and whether it is wanted
pub wanted_is : (wanted : Wanted) (s : Subject) (one : Candidate) (found : Option FirstRefusal)
    (satisfied kept answer : Bool) → satisfied ≡ has_asked s one → kept ≡ is_none found
    → answer ≡ is_execution_wanted wanted satisfied kept
    → is_execution_wanted wanted (has_asked s one) (is_none found) ≡ answer
wanted_is wanted s one found satisfied kept answer here none all =
    sym (all ∙ ap (λ (b : Bool). is_execution_wanted wanted b kept) here
    ∙ ap (λ (b : Bool). is_execution_wanted wanted (has_asked s one) b) none)

pub none_is : (b : Bool) (found : Option FirstRefusal) → is_some found ≡ not b → b ≡ is_none found
none_is true found e = sym (ap not e)
none_is false found e = sym (ap not e)

-- the boxes are those of the same events
pub boxed_as : (scene : Scene) (S T : ℕ → Type 0) (thread : Option ℕ) → ((a : ℕ) → S a ↔ T a)
    → (boxes : List ToldEvent) → AreBoxesOf scene S thread boxes → AreBoxesOf scene T thread boxes
boxed_as scene S T thread same boxes old = record {
  rising = old.rising;
  each = old.each;
  exact =
      λ n. (
        (λ x. let (own, s) = (old.exact n).0 x in (own, (same n).0 s)),
        (λ x. let (own, t) = x in (old.exact n).1 (own, (same n).1 t)),
      );
}

pub clusters_as : (scene : Scene) (S T : ℕ → Type 0) (threads : ℕ) → ((a : ℕ) → S a ↔ T a)
    → (clusters : List Cluster) → AreClusters scene S threads clusters
    → AreClusters scene T threads clusters
clusters_as scene S T threads same clusters old = record {
  count = old.count;
  each =
      λ t c is.
      let one = old.each t c is in
      record {
        number = one.number;
        boxes = boxed_as scene S T (Some t) same c.events.items one.boxes;
      };
}

-- the members of the set are the events that are drawn of the candidate
pub drawn_in : (events : List Event) (reads_from ends : List ℕ) (one : Candidate) (drawn : Events)
    → events ≡ one.0.events.items → reads_from ≡ one.1.0
    → IsEvents drawn (length events) (IsDrawnEvent events (reads_from ++ ends)) → (a : ℕ)
    → IsMember drawn a ↔ IsDrawnEvent one.0.events.items (one.1.0 ++ ends) a
drawn_in events reads_from ends one drawn es ss are a =
    subst (λ (xs : List ℕ). IsMember drawn a ↔ IsDrawnEvent one.0.events.items (xs ++ ends) a) ss
    (subst (λ (xs : List Event). IsMember drawn a ↔ IsDrawnEvent xs (reads_from ++ ends) a) es
    (are.members a))

-- ---- one drawing after another

-- so many drawings, and their text
abbrev pub AreDrawnBefore : DrawRequest → Subject → ℕ → ℕ → List ℕ → Type 0
AreDrawnBefore request s k count text =
    (ds : List Drawing) × AreDrawings request.wanted request.most s k ds × (count ≡ length ds)
    × AreTextsOf request.format s.space (drop request.skipped ds) text

pub more_drawn : (request : DrawRequest) (s : Subject) (k count : ℕ) (old new : List ℕ)
    → count < request.most
    → AddsDrawing request (nat_lt count request.skipped) s k old new true
    → AreDrawnBefore request s k count old → AreDrawnBefore request s (k + 1) (count + 1) new
more_drawn request s k count old new lt adds before =
    let (ds, are, number, texts) = before in
    let (one, found, d, wants, graph, more) = adds in
    let lower : length ds < request.most = omega (arith, lt, number) in
    let long : length (ds ++ d ∷ []) ≡ count + 1 = length-append ds (d ∷ []) ∙ ap (λ (n : ℕ). n + 1) (sym number) in
    let passes : nat_lt (length ds) request.skipped ≡ nat_lt count request.skipped = ap (λ (n : ℕ). nat_lt n request.skipped) (sym number) in (
      ds ++ d ∷ [],
      OneDrawn k ds one found d are lower wants graph,
      sym long,
      texts_on request.format s.space.locations.items (length s.space.locations.items)
          request.skipped ds d old new (nat_lt count request.skipped) passes texts more,
    )

pub not_drawn : (request : DrawRequest) (skipped : Bool) (s : Subject) (k count : ℕ)
    (old new : List ℕ) → AddsDrawing request skipped s k old new false
    → AreDrawnBefore request s k count old → AreDrawnBefore request s (k + 1) count new
not_drawn request skipped s k count old new adds before =
    let (ds, are, number, texts) = before in
    let (one, found, wants, same) = adds in
    let still = subst (λ (t : List ℕ). AreTextsOf request.format s.space (drop request.skipped ds) t) (sym same) texts in
    (ds, OneLeft k ds one found are wants, number, still)

pub too_many : (request : DrawRequest) (s : Subject) (k count : ℕ) (text : List ℕ)
    → request.most ≤ count → AreDrawnBefore request s k count text
    → AreDrawnBefore request s (k + 1) count text
too_many request s k count text full before =
    let (ds, are, number, same) = before in
    (ds, OneTooMany k ds are (omega (arith, full, number)), number, same)

-- ---- the model and the test

pub resolved_sound : (model : ModelText) (resolved : List ResolvedItem) → IsFaultless model
    → AreItemsOf model resolved → AreSoundItems resolved
resolved_sound model resolved faultless items = (
  resolved_ordered PREDEFINED (bare_items model) resolved items.0,
  resolved_rising outermost_names 0 (bare_items model) resolved faultless items.0,
)

-- the checks stand in the model's text
pub checks_within : (space : Space) (columns : _) (model : ModelText) (resolved : List ResolvedItem)
    (checks : List CheckValues) → AreItemsOf model resolved
    → All (IsChecked space columns resolved) checks
    → All (λ c. c.item < length model.items.items) checks
checks_within space columns model resolved checks items each k d lt =
    let one = each k d lt in
    let inside : (get_or checks k d).item < length resolved = slice_get_within resolved (get_or checks k d).item one.item one.stands in
    let long : length resolved ≡ length model.items.items = AllZip-long _ model.items.items resolved items.1 in
    omega (arith, inside, long)

-- the candidates of a test are few
pub few_candidates : (test : Test) (space : Space) → ListsExecutions test space
    → candidate_count space ≤ 16384
few_candidates test space lists =
    let long : length (shown_in space) ≡ length lists.all = AllZip-long (ShowsExecution lists.initial) lists.all (shown_in space) lists.shown in
    let same : length (shown_in space) ≡ candidate_count space = length-map (candidates_in space.combinations.items) (shown_of space.registers.items) in
    let few : length lists.all ≤ 16384 = lists.few in
    omega (arith, long, same, few)
