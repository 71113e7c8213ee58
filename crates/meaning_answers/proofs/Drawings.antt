-- The drawings of candidates are those of the executions that are asked for.
use Rattle.std.proofs.Common.{ℕ, zero, suc, ◌≡◌, ◌<◌, ◌≤◌, ◌+◌, ◌↔◌, ◌⊎◌, inl, inr, List, [], ◌∷◌, ◌++◌, length, map, reverse, Bool, true, false, not, ◌&&◌, IsTrue, All, Contains, Option, Some, None, refl, sym, ap, subst, ◌∙◌, arith, true≢false}
use Rattle.std.specs.Prelude.{slice_get}
use Rattle.std.specs.List.{AllZip}
use Rattle.std.specs.Option.{is_none}
use Rattle.std.proofs.lemmas.Bool.{cases_lt}
use Rattle.std.proofs.lemmas.List.{length-append}
use Rattle.std.proofs.lemmas.List.Elements.{All-nil, All-cons}
use Rattle.std.proofs.lemmas.Option.{same_Some}
use Rattle.text_values.specs.declared.model.Item.{Item}
use Rattle.text_values.specs.declared.test.Test.{Test}
use Rattle.text_values.specs.ModelValue.{Clause}
use Rattle.text_values.specs.ModelValues.{clauses_of}
use Rattle.text_values.specs.TestValue.{Content, content_of}
use Rattle.binding_kinds.specs.Outermost.{outermost_names}
use Rattle.binding_kinds.specs.Value.{bare_item}
use Rattle.binding_graph.specs.declared.resolved.ResolvedItem.{ResolvedItem}
use Rattle.binding_graph.specs.Resolved.{AreResolved, AreLabelledAs}
use Rattle.binding_graph.proofs.Labels.{zip_push}
use Rattle.candidate_spaces.specs.declared.candidate.Space.{Space}
use Rattle.candidates.specs.Listed.{ListsExecutions}
use Rattle.candidate_spaces.specs.Space.{Candidate, candidates_in, candidate_count, shown_in, shown_of}
use Rattle.from_scratch.specs.declared.cell.ItemAnswers.{ItemAnswers}
use Rattle.from_scratch.specs.Answers.{AreOrdered}
use Rattle.from_scratch.specs.Known.{HasAllColumns}
use Rattle.why_forbidden.specs.declared.checks.CheckValues.{CheckValues}
use Rattle.why_forbidden.specs.declared.checks.FirstRefusal.{FirstRefusal}
use Rattle.why_forbidden.specs.declared.drawing.Wanted.{Wanted}
use Rattle.why_forbidden.specs.declared.drawing.Wanted.TheVariants as wanteds
use Rattle.why_forbidden.specs.Checked.{IsChecked, check_indexes, checked_items}
use Rattle.why_forbidden.specs.Drawings.{Subject, IsAskedOrNot, IsGraph, IsFirstRefusalIfAny, is_execution_wanted, has_asked, AreDrawings, NoDrawing, OneDrawn, OneLeft, OneTooMany}
use Rattle.why_forbidden.specs.Labels.{Judgement}
use Rattle.why_forbidden.specs.Language.{IsOfLanguage}
use Rattle.draw_graph.specs.declared.drawing.Drawing.{Drawing}
use Rattle.draw_relations.specs.declared.values.ShownValues.{ShownValues}
use Rattle.draw_relations.specs.Shown.{names_shown}
use Rattle.meaning.specs.Executions.{Execution, IsExecution, IsEvent}
use Rattle.meaning.specs.Evaluates.{outermost, IsKept}
use Rattle.meaning.specs.Outcome.{Satisfies}
use Rattle.meaning.proofs.Counting.{here, behind}
use Rattle.meaning_executions.proofs.Lists.{member}
use Rattle.meaning_executions.proofs.Ordering.{once_apart}
use Rattle.meaning_items.specs.FunctionLaws.{AreFaultless}
use Rattle.meaning_states.proofs.Listing.{IsPair, all_named, pair_at}
use Rattle.meaning_laws.specs.Words.{IsTestOfWords}
use Rattle.meaning_answers.proofs.Checks.{map_at}
use Rattle.meaning_answers.proofs.Found.{AreChosen, none_chosen, one_left, one_more, all_chosen, executions, long, twice, listed, found_at, condition_alike}
use Rattle.meaning_answers.specs.Graphs.{IsFateSaid, IsGraphSaid}
use Rattle.meaning_answers.specs.Drawings.{IsWanted, IsGraphOf, AreDrawingsSaid}
use Rattle.meaning_answers.proofs.Graphs.{graph_said, refused_out, kept_in}
use Rattle.meaning_answers.proofs.Values.{AreNamed}

both_true : (a b : Bool) (P Q : Type 0) → IsTrue a ↔ P → IsTrue b ↔ Q → IsTrue (a && b) ↔ (P × Q)
both_true true true P Q h g = (λ e. (h.0 refl, g.0 refl), λ p. refl)
both_true true false P Q h g =
    (λ e. absurd (true≢false (sym e)), λ p. absurd (true≢false (sym (g.1 p.1))))
both_true false b P Q h g =
    (λ e. absurd (true≢false (sym e)), λ p. absurd (true≢false (sym (h.1 p.0))))

all_contained : {X : Type 0} (xs : List X) (P : X → Type 0) → ((x : X) → Contains xs x → P x)
    → All P xs
all_contained [] P h = All-nil P
all_contained (x ∷ xs) P h =
    All-cons P x xs (h x (here x xs)) (all_contained xs P (λ z c. h z (behind x xs z c)))

not_true : (b : Bool) (P : Type 0) → IsTrue b ↔ P → IsTrue (not b) ↔ (P → ⊥)
not_true true P h = (λ e. absurd (true≢false (sym e)), λ never. absurd (never (h.0 refl)))
not_true false P h = (λ e p. true≢false (sym (h.1 p)), λ never. refl)

module _ (t : Test) (words : IsTestOfWords (content_of t)) (s : Space) (lists : ListsExecutions t s)
    (is : List Item) (resolved : List ResolvedItem) (faultless : AreFaultless is)
    (made : AreResolved [] [] outermost_names 0 (map bare_item is) resolved)
    (labelled : AreLabelledAs is resolved) (answers : ItemAnswers)
    (known : HasAllColumns s resolved answers) (ordered : AreOrdered (reverse resolved))
    (j : Judgement) (text_is : j.text ≡ is) (items_are : j.items ≡ resolved)
    (bound_are : j.values.bound.now ≡ answers.columns.items)
    (language : All (IsOfLanguage s) j.values.predefined.now) (cvs : List CheckValues)
    (each : All (IsChecked s answers.columns.items resolved) cvs)
    (all : checked_items cvs ≡ check_indexes 0 resolved) (values : List ShownValues)
    (names : AreNamed s (clauses_of is) (names_shown (clauses_of is)) values) where
  abbrev content : Content
  content = content_of t

  abbrev clauses : List Clause
  clauses = clauses_of is

  abbrev ys : List Execution
  ys = executions t words s lists

  abbrev subject : Subject
  subject = record { test = t; space = s; model = j; checks = cvs; shown = values }

  -- ---- one candidate

  module _ (wanted : Wanted) (k : ℕ) (one : Candidate) (found : Option FirstRefusal)
      (answer : Bool) (h : IsAskedOrNot wanted subject k one found answer) where
    shown_there : slice_get (shown_in s) k ≡ Some (shown_of s.registers.items one)
    shown_there = map_at (shown_of s.registers.items) (candidates_in s.combinations.items) k one h.is

    pub y : Execution
    y = (found_at t words s lists k (shown_of s.registers.items one) shown_there).execution

    pub there : slice_get ys k ≡ Some y
    unfolding y
    there = (found_at t words s lists k (shown_of s.registers.items one) shown_there).there

    is_one : one ≡ (pair_at t s lists k y there).one
    is_one = same_Some _ _ (sym h.is ∙ (pair_at t s lists k y there).at)

    satisfied : IsTrue (has_asked subject one) ↔ Satisfies content y content.condition
    satisfied =
        condition_alike t words s lists k (shown_of s.registers.items one) shown_there y there

    kept : (o : Option FirstRefusal) → IsFirstRefusalIfAny cvs k o
        → IsTrue (is_none o) ↔ IsKept content clauses y
    kept None judged =
        (λ e. kept_in t s lists is resolved faultless made labelled answers known ordered j text_is items_are bound_are language cvs each all values names k y there judged, λ keeps. refl)
    kept (Some refusal) judged = (
      λ e. absurd (true≢false (sym e)),
      λ keeps. absurd
          (refused_out t s lists is resolved faultless made labelled answers known ordered j text_is
          items_are bound_are language cvs each all values names k y there refusal judged keeps),
    )

    is_execution : IsExecution content y
    is_execution = ((all_named t s lists).all.exact y).0 (member ys k y there)

    wanted_alike : (w : Wanted)
        → IsTrue (is_execution_wanted w (has_asked subject one) (is_none found))
        ↔ IsWanted w content clauses y
    wanted_alike wanteds.Shown =
        let both = both_true (has_asked subject one) (is_none found) _ _ satisfied (kept found h.judged) in
        (λ e. let p = both.0 e in (p.1, p.0), λ p. both.1 (p.1, p.0))
    wanted_alike wanteds.Forbidden =
        let both = both_true (has_asked subject one) (not (is_none found)) _ _ satisfied
        (not_true (is_none found) _ (kept found h.judged)) in
        (λ e. let p = both.0 e in (is_execution, p.0, p.1), λ p. both.1 (p.1, p.2))
    wanted_alike wanteds.All = (λ e. is_execution, λ p. refl)

    pub is_wanted : answer ≡ true → IsWanted wanted content clauses y
    is_wanted e = (wanted_alike wanted).0 (h.asked ∙ e)

    pub is_unwanted : answer ≡ false → IsWanted wanted content clauses y → ⊥
    is_unwanted e p = true≢false (sym ((wanted_alike wanted).1 p) ∙ (h.asked ∙ e))

    pub graph_there : (d : Drawing) → IsGraph subject k one found d → IsGraphOf content clauses y d
    graph_there d g = (
      k,
      graph_said t s lists is resolved faultless made labelled answers known ordered j text_is items_are bound_are language cvs each
          all values names k y there subject refl refl refl refl found h.judged d
          (subst (λ (c : Candidate). IsGraph subject k c found d) is_one g),
    )

  -- ---- the candidates before an index

  module _ (wanted : Wanted) (most : ℕ) where
    abbrev Asked : Execution → Type 0
    Asked = IsWanted wanted content clauses

    pub record AreSoFar (k : ℕ) (ds : List Drawing) : Type 0 where
      pub executions : List Execution
      pub end : ℕ
      pub chosen : AreChosen Asked ys (twice t words s lists) end executions
      pub at_end : length ds < most → end ≡ k
      pub drawn : AllZip (IsGraphOf content clauses) executions ds
      pub few : length ds ≤ most

    one_drawn : (k : ℕ) (ds : List Drawing) (one : Candidate) (found : Option FirstRefusal)
        (d : Drawing) → AreSoFar k ds → length ds < most
        → IsAskedOrNot wanted subject k one found true → IsGraph subject k one found d
        → AreSoFar (k + 1) (ds ++ d ∷ [])
    one_drawn k ds one found d before less h g =
        let z : Execution = y wanted k one found true h in
        let at : slice_get ys k ≡ Some z = there wanted k one found true h in
        let longer : length (ds ++ d ∷ []) ≡ length ds + 1 = length-append ds (d ∷ []) in
        let chosen : AreChosen Asked ys (twice t words s lists) k before.executions =
        subst (λ (i : ℕ). AreChosen Asked ys (twice t words s lists) i before.executions)
        (before.at_end less) before.chosen in
        record {
          executions = before.executions ++ z ∷ [];
          end = k + 1;
          chosen =
              one_more Asked ys (twice t words s lists) k before.executions chosen z at
              (is_wanted wanted k one found true h refl);
          at_end = λ lt. refl;
          drawn =
              zip_push (IsGraphOf content clauses) before.executions ds z d before.drawn
              (graph_there wanted k one found true h d g);
          few = omega (arith, less, longer);
        }

    left_out : (k : ℕ) (ds : List Drawing) (one : Candidate) (found : Option FirstRefusal)
        → AreSoFar k ds → IsAskedOrNot wanted subject k one found false → AreSoFar (k + 1) ds
    left_out k ds one found before h = by (cases_lt (length ds) most)
      where
        by : (length ds < most) ⊎ (most ≤ length ds) → AreSoFar (k + 1) ds
        by (inl less) =
            let z : Execution = y wanted k one found false h in
            let at : slice_get ys k ≡ Some z = there wanted k one found false h in
            let chosen : AreChosen Asked ys (twice t words s lists) k before.executions =
            subst (λ (i : ℕ). AreChosen Asked ys (twice t words s lists) i before.executions)
            (before.at_end less) before.chosen in
            record {
              executions = before.executions;
              end = k + 1;
              chosen =
                  one_left Asked ys (twice t words s lists) k before.executions chosen z at
                  (is_unwanted wanted k one found false h refl);
              at_end = λ lt. refl;
              drawn = before.drawn;
              few = before.few;
            }
        by (inr past) = record {
          executions = before.executions;
          end = before.end;
          chosen = before.chosen;
          at_end = λ lt. absurd (omega (arith, lt, past));
          drawn = before.drawn;
          few = before.few;
        }

    so_far : (k : ℕ) (ds : List Drawing) → AreDrawings wanted most subject k ds → AreSoFar k ds
    so_far k ds NoDrawing = record {
      executions = [];
      end = 0;
      chosen = none_chosen Asked ys (twice t words s lists);
      at_end = λ lt. refl;
      drawn = tt;
      few = omega arith;
    }
    so_far k ds (OneDrawn i before one found d h less asked graph) =
        one_drawn i before one found d (so_far i before h) less asked graph
    so_far k ds (OneLeft i before one found h asked) =
        left_out i before one found (so_far i before h) asked
    so_far k ds (OneTooMany i before h past) =
        let old : AreSoFar i before = so_far i before h in
        record {
          executions = old.executions;
          end = old.end;
          chosen = old.chosen;
          at_end = λ lt. absurd (omega (arith, lt, past));
          drawn = old.drawn;
          few = old.few;
        }

    asked_is : (w : Wanted) (z : Execution) → IsWanted w content clauses z → IsExecution content z
    asked_is wanteds.Shown z h = h.0.0
    asked_is wanteds.Forbidden z h = h.0
    asked_is wanteds.All z h = h

    pub drawings_said : (ds : List Drawing)
        → AreDrawings wanted most subject (candidate_count s) ds
        → AreDrawingsSaid wanted most content clauses ds
    drawings_said ds h =
        let all_of : AreSoFar (candidate_count s) ds = so_far (candidate_count s) ds h in
        record {
          executions = all_of.executions;
          once = once_apart all_of.executions all_of.chosen.once;
          asked =
              all_contained all_of.executions Asked (λ z c. ((all_of.chosen.exact z).0 c).3);
          drawn = all_of.drawn;
          few = all_of.few;
          whole = λ less z wanted_one.
              ((all_chosen Asked ys (twice t words s lists) all_of.end all_of.executions all_of.chosen
              (long t words s lists ∙ sym (all_of.at_end less))
              (λ x p. listed t words s lists x (asked_is wanted x p))).exact z).1 wanted_one;
        }
