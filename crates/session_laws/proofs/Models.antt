-- Models that say the same give a test the same outcomes.
use Rattle.std.proofs.Common.{◌≡◌, ℕ, List, [], ◌∷◌, map, Some, None, refl, sym, ap, ◌∙◌, subst}
use Rattle.std.proofs.lemmas.Simd.{map-map}
use Rattle.std.specs.List.{AllZip}
use Rattle.text_values.specs.declared.test.Test.{Test}
use Rattle.text_values.specs.TestValue.{Content, content_of}
use Rattle.text_values.specs.declared.model.Item as code_item
use Rattle.text_values.specs.declared.model.Item.TheVariants as items
use Rattle.text_values.specs.declared.model.ModelText.{ModelText}
use Rattle.text_values.specs.ModelValue as said
use Rattle.text_values.specs.ModelValue.{Term}
use Rattle.text_values.specs.ModelValues as values
use Rattle.binding_kinds.specs.Value.{Bound, BareItem, Group, Check, Mute, Defined, bare_item}
use Rattle.binding_kinds.specs.Faults.{HasNoFault, FirstFault}
use Rattle.binding_graph.specs.declared.resolved.ResolvedItem.{ResolvedItem}
use Rattle.binding_graph.specs.Resolved.{AreResolved, IsLabelled, IsLabelledAs, AreLabelledAs}
use Rattle.outcome_states.specs.declared.answer.Outcome.{Outcome}
use Rattle.outcome_states.specs.declared.answer.OutcomeResult.{OutcomeResult}
use Rattle.outcome_states.specs.declared.answer.OutcomeResult.TheVariants.{Refused, Evaluated}
use Rattle.outcome_states.specs.declared.answer.Refusal.TheVariants as refusals
use Rattle.from_scratch.specs.FromScratch.{IsResultOf, IsFromScratch}
use Rattle.binding_kinds.specs.Outermost.{outermost_names}
use Rattle.bench_texts.specs.BenchTexts.{PlainModel}
use Rattle.evaluation_laws.proofs.Saying.{one_outcome}
use Rattle.evaluation_laws.proofs.Tests.{equal_tests}
use Rattle.session_laws.specs.Laws.{HasOnePlainOutcome}

-- ---- what an item binds and checks, from what it says

abbrev bound_by : List ℕ × Term → Bound
bound_by b = record { name = b.0; body = b.1 }

abbrev clause_by : said.Clause → BareItem
clause_by (said.Binding recursive group) = Group recursive (map bound_by group)
clause_by (said.Function name parameters body) = Defined name parameters body
clause_by (said.Checking check label) = Check check.word check.body
clause_by (said.Flagging check label) = Check check.word check.body
clause_by (said.Showing hidden shown) = Mute
clause_by (said.Including path) = Mute

one_clause : (i : code_item.Item) → clause_by (values.clause_of i) ≡ bare_item i
one_clause (items.Let r g) = ap (Group r) (map-map bound_by values.binding_of g.items)
one_clause (items.Function n ps b) = refl
one_clause (items.Check c l) = refl
one_clause (items.Flag c l) = refl
one_clause (items.Show h s) = refl
one_clause (items.Include n) = refl

all_clauses : (is : List code_item.Item) → map clause_by (values.clauses_of is) ≡ map bare_item is
all_clauses [] = refl
all_clauses (i ∷ is) = let a = one_clause i in let b = all_clauses is in λ k. a k ∷ b k

-- items that say the same bind and check the same
pub equal_clauses : (items others : List code_item.Item)
    → values.clauses_of items ≡ values.clauses_of others
    → map bare_item items ≡ map bare_item others
equal_clauses items others same =
    sym (all_clauses items) ∙ (ap (map clause_by) same ∙ all_clauses others)

-- ---- labels

-- what an item is resolved to has the labels of what the item says
abbrev IsNamed : said.Clause → ResolvedItem → Type 0
IsNamed (said.Binding recursive group) x = Unit {0}
IsNamed (said.Function name parameters body) x = Unit {0}
IsNamed (said.Checking check label) x = IsLabelled check.negated None x.role
IsNamed (said.Flagging check label) x = IsLabelled check.negated (Some label) x.role
IsNamed (said.Showing hidden shown) x = Unit {0}
IsNamed (said.Including path) x = Unit {0}

named_of : (i : code_item.Item) (x : ResolvedItem) → IsLabelledAs i x
    → IsNamed (values.clause_of i) x
named_of (items.Let r g) x h = tt
named_of (items.Function n ps b) x h = tt
named_of (items.Check c l) x h = h
named_of (items.Flag c l) x h = h
named_of (items.Show s t) x h = tt
named_of (items.Include n) x h = tt

labelled_of : (i : code_item.Item) (x : ResolvedItem) → IsNamed (values.clause_of i) x
    → IsLabelledAs i x
labelled_of (items.Let r g) x h = tt
labelled_of (items.Function n ps b) x h = tt
labelled_of (items.Check c l) x h = h
labelled_of (items.Flag c l) x h = h
labelled_of (items.Show s t) x h = tt
labelled_of (items.Include n) x h = tt

all_named : (is : List code_item.Item) (rs : List ResolvedItem) → AreLabelledAs is rs
    → AllZip IsNamed (values.clauses_of is) rs
all_named [] [] h = tt
all_named [] (r ∷ rs) h = h
all_named (i ∷ is) [] h = h
all_named (i ∷ is) (r ∷ rs) h = (named_of i r h.0, all_named is rs h.1)

all_labelled : (is : List code_item.Item) (rs : List ResolvedItem)
    → AllZip IsNamed (values.clauses_of is) rs → AreLabelledAs is rs
all_labelled [] [] h = tt
all_labelled [] (r ∷ rs) h = h
all_labelled (i ∷ is) [] h = h
all_labelled (i ∷ is) (r ∷ rs) h = (labelled_of i r h.0, all_labelled is rs h.1)

-- ---- models

module _ (model other : ModelText)
    (same : values.clauses_of model.items.items ≡ values.clauses_of other.items.items) where
  clauses : map bare_item model.items.items ≡ map bare_item other.items.items
  clauses = equal_clauses model.items.items other.items.items same

  labels : (rs : List ResolvedItem) → AreLabelledAs model.items.items rs
      → AreLabelledAs other.items.items rs
  labels rs h =
      all_labelled other.items.items rs (subst (λ (cs : List said.Clause). AllZip IsNamed cs rs)
      same (all_named model.items.items rs h))

  moved : (test : Test) (r : OutcomeResult) → IsResultOf test model r → IsResultOf test other r
  moved test (Refused (refusals.Model k)) h =
      subst (λ (cs : List BareItem). FirstFault [] outermost_names 0 cs k) clauses h
  moved test (Refused (refusals.Space r)) h =
      (subst (λ (cs : List BareItem). HasNoFault [] outermost_names 0 cs) clauses h.0, h.1)
  moved test (Evaluated e) h = (
    subst (λ (cs : List BareItem). HasNoFault [] outermost_names 0 cs) clauses h.0,
    (
      h.1.0,
      (
        subst (λ (cs : List BareItem). AreResolved [] [] outermost_names 0 cs h.1.0) clauses h.1.1.0,
        labels h.1.0 h.1.1.1,
      ),
      h.1.2,
      h.1.3,
      h.1.4,
    ),
  )

  pub equal_models : (test : Test) (o : Outcome) → IsFromScratch test model o
      → IsFromScratch test other o
  equal_models test o h =
      record { kind = h.kind; condition = h.condition; result = moved test o.result h.result }

-- a test and a model have the outcomes of a test and a model that say the same
pub one_outcome_alike : (test other : Test) (model under : ModelText)
    → content_of test ≡ content_of other
    → values.clauses_of model.items.items ≡ values.clauses_of under.items.items
    → (o p : Outcome) → IsFromScratch test model o → IsFromScratch other under p → o ≡ p
one_outcome_alike test other model under same alike o p h g =
    let there = equal_tests test other model same o h in
    let here = equal_models model under alike other o there in
    one_outcome other under o p here g

pub one_outcome_said : (test : Content) (model : PlainModel) → HasOnePlainOutcome test model
one_outcome_said test model o p h g =
    one_outcome_alike h.test g.test h.model g.model (h.test_is ∙ sym g.test_is)
    (h.model_is ∙ sym g.model_is) o p h.said g.said
