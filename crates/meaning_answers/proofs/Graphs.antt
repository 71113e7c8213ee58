-- The graph of a candidate is that of its execution.
use Rattle.std.proofs.Common.{ℕ, ◌≡◌, ◌<◌, ◌↔◌, List, [], ◌∷◌, ◌++◌, length, map, reverse, All, Contains, Option, Some, None, refl, sym, ap, subst, ◌∙◌}
use Rattle.std.specs.Prelude.{slice_get, codes, vec_len}
use Rattle.std.specs.List.{AllZip}
use Rattle.std.proofs.lemmas.List.{length-map}
use Rattle.std.proofs.lemmas.Option.{same_Some}
use Rattle.text_values.specs.declared.model.Item.{Item}
use Rattle.predefined_names.specs.declared.predefined.Predefined.{Predefined}
use Rattle.text_values.specs.declared.test.Test.{Test}
use Rattle.text_values.specs.ModelValue.{Clause}
use Rattle.text_values.specs.ModelValues.{clause_of, clauses_of}
use Rattle.text_values.specs.TestValue.{Content, content_of, thread_steps}
use Rattle.cat_printing.specs.Printing.{printed_item}
use Rattle.binding_kinds.specs.Outermost.{outermost_names}
use Rattle.binding_kinds.specs.Value.{bare_item}
use Rattle.binding_graph.specs.declared.resolved.ResolvedItem.{ResolvedItem}
use Rattle.binding_graph.specs.Resolved.{AreResolved, AreLabelledAs}
use Rattle.candidate_spaces.specs.declared.candidate.Space.{Space}
use Rattle.candidates.specs.Listed.{ListsExecutions}
use Rattle.candidate_spaces.specs.Space.{Candidate}
use Rattle.from_scratch.specs.declared.cell.ItemAnswers.{ItemAnswers}
use Rattle.from_scratch.specs.Answers.{AreOrdered}
use Rattle.from_scratch.specs.Known.{HasAllColumns}
use Rattle.from_scratch.proofs.Knowing.{item_at}
use Rattle.why_text.specs.declared.reason.Reason.{Reason}
use Rattle.why_text.specs.declared.reason.ToldStep.{ToldStep}
use Rattle.why_forbidden.specs.declared.checks.CheckValues.{CheckValues}
use Rattle.why_forbidden.specs.declared.checks.FirstRefusal.{FirstRefusal}
use Rattle.why_forbidden.specs.Checked.{AcceptBelow, IsChecked, IsFirstRefusal, check_indexes, checked_items}
use Rattle.why_forbidden.specs.Drawings.{Subject, AreLines, AreShownLines, AreSteps, IsFate, IsFirstRefusalIfAny, IsDrawnIn, IsGraph, relations, step_ends, title_text}
use Rattle.why_forbidden.specs.Labels.{Judgement}
use Rattle.why_forbidden.specs.Language.{IsOfLanguage}
use Rattle.why_forbidden.specs.Told.{Scene, written}
use Rattle.draw_graph.specs.declared.drawing.Drawing.{Drawing}
use Rattle.draw_graph.specs.declared.drawing.Edges.{Edges}
use Rattle.draw_graph.specs.declared.drawing.Ink.{Ink}
use Rattle.draw_relations.specs.declared.names.ShownName.{ShownName}
use Rattle.draw_relations.specs.declared.values.ShownValues.{ShownValues}
use Rattle.draw_relations.specs.Shown.{names_shown}
use Rattle.draw_relations.specs.Values.{IsShownValue}
use Rattle.meaning.specs.Executions.{Execution, IsEvent}
use Rattle.meaning.specs.Evaluates.{outermost, IsKept}
use Rattle.meaning_items.specs.FunctionLaws.{AreFaultless}
use Rattle.meaning_states.proofs.Listing.{IsPair, all_named, pair_at, names_of_pair}
use Rattle.meaning_answers.specs.Told.{IsReasonSaid}
use Rattle.meaning_answers.proofs.Meeting.{one_met}
use Rattle.meaning_answers.proofs.Reasons.{kept_by_name, first_unmet, reason_said}
use Rattle.meaning_answers.specs.Graphs.{AreArrowsOf, AreArrowsShown, IsFateSaid, Kept, Forbidden, IsGraphSaid}
use Rattle.meaning_answers.proofs.Arrows.{edges_same}
use Rattle.meaning_answers.proofs.Boxes.{drawn_alike, boxes_said, cluster_said, language_alike}
use Rattle.meaning_answers.proofs.Values.{AreNamed, shown_alike}

-- three lists side by side
zipped : {X Y Z : Type 0} (P : X → Y → Type 0) (Q : Y → Z → Type 0) (R : X → Z → Type 0)
    → ((x : X) (y : Y) (z : Z) → P x y → Q y z → R x z) → (xs : List X) (ys : List Y) (zs : List Z)
    → AllZip P xs ys → AllZip Q ys zs → AllZip R xs zs
zipped P Q R to [] [] [] h g = tt
zipped P Q R to [] [] (z ∷ zs) h g = absurd g
zipped P Q R to [] (y ∷ ys) zs h g = absurd h
zipped P Q R to (x ∷ xs) [] zs h g = absurd h
zipped P Q R to (x ∷ xs) (y ∷ ys) [] h g = absurd g
zipped P Q R to (x ∷ xs) (y ∷ ys) (z ∷ zs) h g =
    (to x y z h.0 g.0, zipped P Q R to xs ys zs h.1 g.1)

each_second : {X Y : Type 0} (P Q : X → Y → Type 0) → ((x : X) (y : Y) → P x y → Q x y)
    → (xs : List X) (ys : List Y) → AllZip P xs ys → AllZip Q xs ys
each_second P Q to [] [] h = tt
each_second P Q to [] (y ∷ ys) h = absurd h
each_second P Q to (x ∷ xs) [] h = absurd h
each_second P Q to (x ∷ xs) (y ∷ ys) h = (to x y h.0, each_second P Q to xs ys h.1)

module _ (t : Test) (s : Space) (lists : ListsExecutions t s) (is : List Item)
    (resolved : List ResolvedItem) (faultless : AreFaultless is)
    (made : AreResolved [] [] outermost_names 0 (map bare_item is) resolved)
    (labelled : AreLabelledAs is resolved) (answers : ItemAnswers)
    (known : HasAllColumns s resolved answers) (ordered : AreOrdered (reverse resolved))
    (j : Judgement) (text_is : j.text ≡ is) (items_are : j.items ≡ resolved)
    (bound_are : j.values.bound.now ≡ answers.columns.items)
    (language : All (IsOfLanguage s) j.values.predefined.now) (cvs : List CheckValues)
    (each : All (IsChecked s answers.columns.items resolved) cvs)
    (all : checked_items cvs ≡ check_indexes 0 resolved) (values : List ShownValues)
    (names : AreNamed s (clauses_of is) (names_shown (clauses_of is)) values) (k : ℕ)
    (y : Execution) (stands : slice_get (all_named t s lists).named k ≡ Some y) where
  abbrev content : Content
  content = content_of t

  abbrev clauses : List Clause
  clauses = clauses_of is

  abbrev pair : IsPair t s lists k y
  pair = pair_at t s lists k y stands

  abbrev one : Candidate
  one = pair.one

  -- a candidate that is accepted is kept, and one that is refused is not
  pub kept_in : AcceptBelow cvs k (length cvs) → IsKept content clauses y
  kept_in accept =
      kept_by_name t s lists is resolved faultless made labelled answers known ordered k y stands cvs
      each all accept

  pub refused_out : (refusal : FirstRefusal) → IsFirstRefusal cvs k refusal
      → IsKept content clauses y → ⊥
  refused_out refusal h keeps =
      let first = item_at cvs refusal.index h.within in
      let unmet = first_unmet t s lists is resolved faultless made labelled answers known ordered k y stands cvs each all refusal h first.0 first.1 in
      unmet.unmet
      (one_met (IsEvent content y) (outermost content y) clauses keeps.1 first.0.item _ unmet.stands)

  -- ---- what comes of it

  module _ (scene : Scene) (number : scene.candidate ≡ k)
      (of : scene.events ≡ one.0.events.items) where
    fate_said : (found : Option FirstRefusal) → IsFirstRefusalIfAny cvs k found
        → (fate : List ℕ) → IsFate cvs j.text found fate → (first : Option ℕ) (steps : List ToldStep)
        → AreSteps j cvs scene found first steps → IsFateSaid content clauses y fate first steps
    fate_said None judged fate told first steps h =
        subst (λ (f : List ℕ). IsFateSaid content clauses y f first steps) (sym told)
        (subst (λ (o : Option ℕ). IsFateSaid content clauses y (codes ": kept") o steps) (sym h.0)
        (subst (λ (ss : List ToldStep). IsFateSaid content clauses y (codes ": kept") None ss) (sym h.1)
        (Kept
        (kept_by_name t s lists is resolved faultless made labelled answers known ordered k y stands
        cvs each all judged))))
    fate_said (Some refusal) judged fate told first steps h =
        let r : Reason = h.0 in
        let of_reason = h.1 in
        let said : IsReasonSaid content clauses y r =
        reason_said t s lists is resolved faultless made labelled answers known ordered k y stands cvs
        each all refusal judged of_reason.check of_reason.here j text_is items_are bound_are language scene number of r
        of_reason.told in
        let same : told.1.0 ≡ of_reason.check = same_Some _ _ (sym told.1.1 ∙ of_reason.here) in
        let printed : told.0 ≡ r.check.items =
        told.1.4
        ∙ sym
        (of_reason.told.named
        ∙ ap (λ (o : Option Item). written o)
        (ap (λ (c : CheckValues). slice_get j.text c.item) (sym same) ∙ told.1.3)) in
        subst (λ (f : List ℕ). IsFateSaid content clauses y f first steps)
        (sym (told.2 ∙ ap (λ (xs : List ℕ). codes ": forbidden by " ++ xs) printed))
        (subst
        (λ (o : Option ℕ). IsFateSaid content clauses y (codes ": forbidden by " ++ r.check.items) o steps)
        (sym h.2)
        (subst
        (λ (ss : List ToldStep). IsFateSaid content clauses y (codes ": forbidden by " ++ r.check.items) r.first ss)
        (sym h.3) (Forbidden r said)))

  -- ---- arrows

  lines_said : (ends : List ℕ) (relation : Predefined × Ink) (e : Edges)
      → AreLines one (IsDrawnIn one ends) relation e → AreArrowsOf content y ends relation e
  lines_said ends relation e h = record {
    name_is = h.name;
    ink_is = h.ink;
    pairs =
        edges_same _ _ _ _ (drawn_alike t s lists k y pair ends)
        (language_alike t s lists k y pair relation.0) e.pairs.items h.pairs;
  }

  shown_said : (ends : List ℕ) (x : ShownName) (v : ShownValues) (e : Edges)
      → IsShownValue clauses s x v → AreShownLines k (IsDrawnIn one ends) v e
      → AreArrowsShown content y clauses ends x e
  shown_said ends x v e value h = record {
    name_is = h.name ∙ value.name;
    ink_is = h.ink;
    pairs =
        edges_same _ _ _ _ (drawn_alike t s lists k y pair ends)
        (shown_alike content s k y one pair.at (names_of_pair t s lists k y pair) clauses x v value)
        e.pairs.items h.pairs;
  }

  -- ---- the graph

  module _ (subject : Subject) (test_is : subject.test ≡ t) (model_is : subject.model ≡ j)
      (checks_are : subject.checks ≡ cvs) (shown_are : subject.shown ≡ values) where
    pub graph_said : (found : Option FirstRefusal) → IsFirstRefusalIfAny cvs k found → (d : Drawing)
        → IsGraph subject k one found d → IsGraphSaid content clauses y k d
    graph_said found judged d h =
        let ends : List ℕ = step_ends d.first d.steps.items in
        let of : h.scene.events ≡ one.0.events.items = (h.stands).events in
        let number : h.scene.candidate ≡ k = (h.stands).number in
        let told : IsFate cvs j.text found h.fate =
        subst (λ (xs : List CheckValues). IsFate xs j.text found h.fate) checks_are
        (subst (λ (m : Judgement). IsFate subject.checks m.text found h.fate) model_is h.told) in
        let steps : AreSteps j cvs h.scene found d.first d.steps.items =
        subst (λ (xs : List CheckValues). AreSteps j xs h.scene found d.first d.steps.items) checks_are
        (subst (λ (m : Judgement). AreSteps m subject.checks h.scene found d.first d.steps.items)
        model_is h.steps) in
        record {
          fate = h.fate;
          told = fate_said h.scene number of found judged h.fate told d.first d.steps.items steps;
          title = h.title ∙ ap (λ (u : Test). title_text u.name k h.fate) test_is;
          initial = boxes_said t s lists k y pair ends h.scene of None d.initial.items h.initial;
          threads =
              h.clusters.count
              ∙ (ap (λ (u : Test). vec_len u.threads) test_is ∙ as_many);
          clusters = λ u c e. cluster_said t s lists k y pair ends h.scene of u c
              (h.clusters.each u c e);
          known = h.edges.known;
          shown = h.edges.shown;
          edges = h.edges.both;
          of_language =
              each_second (AreLines one (IsDrawnIn one ends)) (AreArrowsOf content y ends)
              (lines_said ends) relations h.edges.known h.edges.of_language;
          names = names.names;
          of_names = names.among;
          of_model =
              zipped (IsShownValue clauses s) (AreShownLines k (IsDrawnIn one ends))
              (AreArrowsShown content y clauses ends) (shown_said ends) names.names values
              h.edges.shown names.values
              (subst (λ (vs : List ShownValues). AllZip (AreShownLines k (IsDrawnIn one ends)) vs h.edges.shown)
              shown_are h.edges.of_model);
        }
      where
        as_many : vec_len t.threads ≡ length (map thread_steps t.threads.items)
        as_many = t.threads.ok.0 ∙ sym (length-map t.threads.items thread_steps)
