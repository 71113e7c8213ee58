-- The reason why a candidate is refused tells why the model does not keep its execution.
use Rattle.std.proofs.Common.{ℕ, ◌≡◌, ◌<◌, List, [], length, map, reverse, take, Bool, true, false, IsTrue, All, Option, Some, None, option_map, refl, sym, ap, subst, ◌∙◌, true≢false}
use Rattle.std.specs.Prelude.{slice_get}
use Rattle.std.proofs.lemmas.Option.{slice_get_within}
use Rattle.text_values.specs.declared.model.Check as code_check
use Rattle.text_values.specs.declared.model.CheckWord.{CheckWord}
use Rattle.text_values.specs.declared.model.CheckWord.TheVariants as words
use Rattle.text_values.specs.declared.model.Item.{Item}
use Rattle.text_values.specs.declared.model.Item.TheVariants as items
use Rattle.text_values.specs.declared.test.Test.{Test}
use Rattle.text_values.specs.ModelValue.{Clause, Checked}
use Rattle.text_values.specs.ModelValues.{term_of, check_of, clause_of, clauses_of}
use Rattle.text_values.specs.TestValue.{Content, content_of}
use Rattle.cat_printing.specs.Printing.{printed_item}
use Rattle.binding_kinds.specs.declared.kinds.Kind.{Kind}
use Rattle.binding_kinds.specs.declared.kinds.Kind.TheVariants as kinds
use Rattle.binding_kinds.specs.Fits.{IsKnown}
use Rattle.binding_kinds.specs.Kinds.{takes_body}
use Rattle.binding_kinds.specs.Outermost.{outermost_names}
use Rattle.binding_kinds.specs.Value.{bare_item}
use Rattle.binding_graph.specs.declared.resolved.ResolvedItem.{ResolvedItem}
use Rattle.binding_graph.specs.Meaning.{steps_of}
use Rattle.binding_graph.specs.Resolved.{AreResolved, AreLabelledAs}
use Rattle.binding_graph.specs.Trees.{SetTree, RelTree, rel_code}
use Rattle.candidate_spaces.specs.declared.candidate.Space.{Space}
use Rattle.candidates.specs.Listed.{ListsExecutions}
use Rattle.candidate_spaces.specs.Space.{Candidate}
use Rattle.cat_machine.specs.Executions.{events_of, EventsAt, PairsAt}
use Rattle.from_scratch.specs.declared.cell.ItemAnswers.{ItemAnswers}
use Rattle.from_scratch.specs.Answers.{AreOrdered}
use Rattle.from_scratch.specs.Known.{HasAllColumns}
use Rattle.why_witness.specs.declared.witness.Witness.{Witness}
use Rattle.why_witness.specs.declared.witness.Witness.TheVariants as shown
use Rattle.why_witness.specs.Refusals.{IsWitness}
use Rattle.why_witness.specs.Witnesses.{IsMetWitness}
use Rattle.why_walks.specs.Values.{IsOn}
use Rattle.why_walks.proofs.Meant.{factors_on}
use Rattle.why_text.specs.declared.reason.Reason.{Reason}
use Rattle.why_forbidden.specs.declared.checks.CheckValues.{CheckValues}
use Rattle.why_forbidden.specs.declared.checks.FirstRefusal.{FirstRefusal}
use Rattle.why_forbidden.specs.Checked.{IsChecked, AcceptBelow, IsFirstRefusal, check_indexes, checked_items}
use Rattle.why_forbidden.specs.Labels.{Judgement}
use Rattle.why_forbidden.specs.Language.{IsOfLanguage}
use Rattle.why_forbidden.specs.Outcomes.{IsReasonFor}
use Rattle.why_forbidden.specs.Steps.{StepStart, AreStepStarts, AreToldSteps, ends_of, numbers_of}
use Rattle.why_forbidden.specs.Told.{Scene, IsReason, told_events, written}
use Rattle.meaning.specs.Executions.{Execution, IsEvent}
use Rattle.meaning.specs.Cat.{Meaning, ASet, HasPair, HasProperty, meaning_of, IsMet, AreMet}
use Rattle.meaning.specs.Evaluates.{outermost, IsKept}
use Rattle.meaning_items.specs.FunctionLaws.{AreFaultless}
use Rattle.meaning_executions.specs.Names.{AreNamesMeant}
use Rattle.meaning_states.proofs.Listing.{IsPair, all_named, pair_at, names_of_pair}
use Rattle.meaning_answers.specs.Told.{IsOfEvent, names_seen, IsFirstUnmet, IsShownBy, IsShown, IsReasonSaid}
use Rattle.meaning_answers.proofs.Carried.{term_same, check_same, checks_same}
use Rattle.meaning_answers.proofs.Checks as checks
use Rattle.meaning_answers.proofs.Checks.{IsCheckMeant, written_check, check_meant, check_refused, reached, all_accepted, first_refused, refused_witness, map_at, each_at}
use Rattle.meaning_answers.proofs.Coded.{IsMeantBy, pair_below, member_below, is_shown, is_asked}
use Rattle.meaning_answers.proofs.Events.{all_told}
use Rattle.meaning_answers.proofs.Labels.{label_said}
use Rattle.meaning_answers.proofs.Shown.{shown_said}
use Rattle.meaning_answers.proofs.Steps.{LabelsAreSaid}

-- an expression of which `irreflexive` is asked has a relation's steps
relation_steps : (K : Kind) (S : SetTree) (R : RelTree) → IsKnown K
    → IsTrue (takes_body words.Irreflexive K) → steps_of K S R ≡ rel_code R []
relation_steps kinds.OfSet S R known takes = absurd (true≢false (sym takes))
relation_steps kinds.OfRelation S R known takes = refl
relation_steps kinds.OfAny S R known takes = absurd known

module _ (t : Test) (s : Space) (lists : ListsExecutions t s) (is : List Item)
    (resolved : List ResolvedItem) (faultless : AreFaultless is)
    (made : AreResolved [] [] outermost_names 0 (map bare_item is) resolved)
    (labelled : AreLabelledAs is resolved) (answers : ItemAnswers)
    (known : HasAllColumns s resolved answers) (ordered : AreOrdered (reverse resolved)) (k : ℕ)
    (y : Execution) (stands : slice_get (all_named t s lists).named k ≡ Some y) where
  abbrev content : Content
  content = content_of t

  abbrev clauses : List Clause
  clauses = clauses_of is

  abbrev pub pair : IsPair t s lists k y
  pair = pair_at t s lists k y stands

  abbrev one : Candidate
  one = pair.one

  abbrev n : ℕ
  n = events_of one

  pub named : AreNamesMeant content y one
  named = names_of_pair t s lists k y pair

  module _ (cvs : List CheckValues)
      (each : All (IsChecked s answers.columns.items resolved) cvs)
      (all : checked_items cvs ≡ check_indexes 0 resolved) where
    -- a candidate that no check refuses is kept
    pub kept_by_name : AcceptBelow cvs k (length cvs) → IsKept content clauses y
    kept_by_name accept = (
      pair.is,
      (checks_same content y one named clauses).0
          (all_accepted s is resolved faultless made labelled answers known ordered k one pair.at cvs
          each all accept),
    )

    module _ (first : FirstRefusal) (refuses : IsFirstRefusal cvs k first) (cv : CheckValues)
        (here : slice_get cvs first.index ≡ Some cv) where
      h : IsChecked s answers.columns.items resolved cv
      h = each_at (IsChecked s answers.columns.items resolved) cvs each first.index cv here

      pub written_as : (c : code_check.Check) × (label : Option (List ℕ))
          × (slice_get is cv.item ≡ Some (items.Check c label))
      written_as =
          written_check s is resolved faultless made labelled answers known ordered k one pair.at cv h

      abbrev pub c : code_check.Check
      c = written_as.0

      abbrev pub label : Option (List ℕ)
      label = written_as.1

      pub item_there : slice_get is cv.item ≡ Some (items.Check c label)
      item_there = written_as.2

      m : IsCheckMeant s is resolved faultless made labelled answers known ordered k one pair.at cv h c
      m =
          check_meant s is resolved faultless made labelled answers known ordered k one pair.at cv h c
          label item_there

      w : IsWitness cv.check.now cv.values k (Some first.witness)
      w =
          refused_witness s is resolved faultless made labelled answers known ordered k one pair.at
          cvs each all first refuses cv here

      -- the check is the first that is not met
      pub first_unmet : IsFirstUnmet content clauses y cv.item (check_of c) label
      first_unmet = record {
        stands = map_at clause_of is cv.item (items.Check c label) item_there;
        before =
            (checks_same content y one named (take cv.item clauses)).0
            (first_refused s is resolved faultless made labelled answers known ordered k one pair.at
            cvs each all first refuses cv here);
        unmet = λ met.
            check_refused s is resolved faultless made labelled answers known ordered k one pair.at cv
            h c m first.witness w
            ((check_same content y one named clauses cv.item (check_of c)).1 met);
      }

      module _ (j : Judgement) (text_is : j.text ≡ is) (items_are : j.items ≡ resolved)
          (bound_are : j.values.bound.now ≡ answers.columns.items)
          (language : All (IsOfLanguage s) j.values.predefined.now) (scene : Scene)
          (number : scene.candidate ≡ k) (of : scene.events ≡ one.0.events.items) (r : Reason)
          (told : IsReason j scene cv first.witness r) where
        begins : AreStepStarts cv k n first.witness told.starts
        begins =
            subst (λ (i : ℕ). AreStepStarts cv i n first.witness told.starts) number
            (subst (λ (i : ℕ). AreStepStarts cv scene.candidate i first.witness told.starts)
            (ap length of) told.begins)

        steps : AreToldSteps j cv.item k (ends_of first.witness) told.starts r.steps.items
        steps =
            subst
            (λ (i : ℕ). AreToldSteps j cv.item i (ends_of first.witness) told.starts r.steps.items)
            number told.steps

        labels : LabelsAreSaid content y one named clauses j cv.item k
        labels =
            label_said content s is resolved faultless made labelled answers known k y one pair.at named
            j items_are bound_are language cv.item h.item h.stands
            (reached s is resolved faultless made labelled answers known ordered k one pair.at cv h)

        -- of a check that is not negated
        plain_shown : c.negated ≡ false
            → IsShownBy content y clauses c.word
            (meaning_of (IsEvent content y) (names_seen content y clauses cv.item) (term_of c.body)) r
        plain_shown plain =
            let value = h.values.values k one pair.at in
            subst
            (λ (word : CheckWord). IsShownBy content y clauses word
            (meaning_of (IsEvent content y) (names_seen content y clauses cv.item) (term_of c.body)) r)
            m.word
            (shown_said content y one named clauses j k cv labels cv.check.now.word
            (meaning_of (λ a. a < n) (checks.names_at s is resolved faultless made labelled answers known ordered k one pair.at cv.item) (term_of c.body))
            (meaning_of (IsEvent content y) (names_seen content y clauses cv.item) (term_of c.body))
            (term_same content y one named clauses cv.item (term_of c.body))
            (λ a b p.
            pair_below n (EventsAt n one h.inputs k) (PairsAt n one h.inputs k) m.set m.relation
            cv.check.now.code.kind cv.check.now.code.steps.items _ m.meant value.0 value.1 value.3 a
            b p)
            (λ S same a p.
            member_below n (EventsAt n one h.inputs k) (PairsAt n one h.inputs k) m.set m.relation
            cv.check.now.code.kind cv.check.now.code.steps.items S
            (subst
            (λ (e : Meaning ℕ). IsMeantBy n (EventsAt n one h.inputs k) (PairsAt n one h.inputs k)
            m.set m.relation cv.check.now.code.kind cv.check.now.code.steps.items e)
            same m.meant) value.0 value.1 value.3 a p)
            (λ asked.
            factors_on cv.check.now.code h.inputs s cv.factors.items (h.factors asked) m.relation
            (m.meant.made
            ∙ relation_steps cv.check.now.code.kind m.set m.relation m.meant.known
            (subst (λ (v : CheckWord). IsTrue (takes_body v cv.check.now.code.kind)) asked m.takes))
            k one pair.at)
            first.witness
            (is_shown n (EventsAt n one h.inputs k) (PairsAt n one h.inputs k) m.set m.relation
            cv.check.now cv.check.now.code.kind _ m.meant m.takes first.witness (m.negated ∙ plain)
            (w s h.inputs one h.values pair.at))
            r told.starts begins told.first steps)

        -- of one that is negated
        none_told : (v : Witness) → IsMetWitness v
            → r.first ≡ option_map (λ ends. ends.0) (ends_of v)
            → AreToldSteps j cv.item k (ends_of v) told.starts r.steps.items
            → (r.first ≡ None) × (r.steps.items ≡ [])
        none_told shown.Met met first_is steps_are = (first_is, steps_are)
        none_told (shown.Cycle events) met first_is steps_are = absurd met
        none_told (shown.Reflexive a) met first_is steps_are = absurd met
        none_told (shown.Pair a b) met first_is steps_are = absurd met
        none_told (shown.Member a) met first_is steps_are = absurd met

        abbrev asked_check : Checked
        asked_check = record (check_of c) { negated = false }

        negated_shown : c.negated ≡ true
            → HasProperty c.word
            (meaning_of (IsEvent content y) (names_seen content y clauses cv.item) (term_of c.body))
            × (r.first ≡ None) × (r.steps.items ≡ [])
        negated_shown negated =
            let asked = is_asked n (EventsAt n one h.inputs k) (PairsAt n one h.inputs k) m.set m.relation cv.check.now cv.check.now.code.kind _ m.meant m.takes first.witness (m.negated ∙ negated) (w s h.inputs one h.values pair.at) in
            let holds : IsMet (λ a. a < n) (checks.names_at s is resolved faultless made labelled answers known ordered k one pair.at cv.item) asked_check =
            subst
            (λ (v : CheckWord). HasProperty v
            (meaning_of (λ a. a < n) (checks.names_at s is resolved faultless made labelled answers known ordered k one pair.at cv.item) (term_of c.body)))
            m.word asked.0 in
            let none = none_told first.witness asked.1 told.first steps in
            ((check_same content y one named clauses cv.item asked_check).0 holds, none.0, none.1)

        is_shown_by_name : (b : Bool) → c.negated ≡ b
            → IsShown content y clauses b c.word
            (meaning_of (IsEvent content y) (names_seen content y clauses cv.item) (term_of c.body)) r
        is_shown_by_name false e = plain_shown e
        is_shown_by_name true e = negated_shown e

        pub reason_said : IsReasonSaid content clauses y r
        reason_said = record {
          index = cv.item;
          check = check_of c;
          label = label;
          first = first_unmet;
          printed =
              told.named
              ∙ ap (λ (xs : List Item). written (slice_get xs cv.item)) text_is
              ∙ ap (λ (o : Option Item). written o) item_there;
          events =
              subst (λ (es : List _). All (IsOfEvent content y) es) (sym told.events)
              (all_told t s lists k y pair scene of (numbers_of (ends_of first.witness) told.starts));
          shown = is_shown_by_name c.negated refl;
        }
