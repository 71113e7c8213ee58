-- What is told of an execution, by the definitions of `meaning`: its events, and why a model does
-- not keep it. Read before it: `Evaluates` of `meaning/specs`, and `Events` of
-- `meaning_executions/specs`, which numbers the events. Read next: Findings.
use Rattle.std.specs.Prelude.{ℕ, ◌≡◌, ◌<◌, ◌++◌, List, [], ◌∷◌, length, take, Bool, true, false, Option, Some, None, slice_get, codes, All, Contains}
use Rattle.text_values.specs.declared.model.CheckWord.{CheckWord}
use Rattle.text_values.specs.declared.model.CheckWord.TheVariants as words
use Rattle.predefined_names.specs.declared.predefined.Predefined.{Predefined}
use Rattle.predefined_names.specs.PredefinedNames.{spelling}
use Rattle.text_values.specs.TestValue.{Content}
use Rattle.text_values.specs.ModelValue.{Term, Checked, Clause, Binding, Checking}
use Rattle.cat_printing.specs.Printing.{printed_item}
use Rattle.why_text.specs.declared.event.ToldEvent.{ToldEvent}
use Rattle.why_text.specs.declared.reason.Reason.{Reason}
use Rattle.why_text.specs.declared.reason.ToldStep.{ToldStep}
use Rattle.meaning.specs.Sets.{Set, Relation}
use Rattle.meaning.specs.Names.{Name}
use Rattle.meaning.specs.Executions.{Event, Execution, IsEvent}
use Rattle.meaning.specs.Predefined.{PairsOf}
use Rattle.meaning.specs.Cat.{Meaning, ASet, ARelation, Names, HasPair, HasProperty, Least, meaning_of, IsMet, AreMet}
use Rattle.meaning.specs.Evaluates.{outermost}
use Rattle.meaning_items.specs.Behind.{bound_behind}
use Rattle.meaning_executions.specs.Events.{IsNumbered, IsSameEvent, named_events}

-- ---- events

-- What is told of an event: its number among the events, its thread, and what it does.
pub record IsEventTold (t : Content) (x : Execution) (e : Event) (told : ToldEvent) : Type 0 where
  pub number : IsNumbered (named_events t x.runs) told.number e
  pub same : IsSameEvent t x told.event e

-- It is told of some event of the execution.
abbrev pub IsOfEvent : Content → Execution → ToldEvent → Type 0
IsOfEvent t x told = (e : Event) × IsEventTold t x e told

-- The numbers are those of two events that the relation relates.
abbrev pub IsPair : Content → Execution → Relation Event → ℕ → ℕ → Type 0
IsPair t x R m n =
    (a : Event) × (b : Event) × IsNumbered (named_events t x.runs) m a
    × IsNumbered (named_events t x.runs) n b × R a b

-- ---- the check

-- the names that the item at an index sees
abbrev pub names_seen : Content → Execution → List Clause → ℕ → Names Event
names_seen t x items i = bound_behind (IsEvent t x) (outermost t x) (take i items)

-- The item at that index is this check, and the first that the execution does not meet.
pub record IsFirstUnmet (t : Content) (items : List Clause) (x : Execution) (i : ℕ)
    (check : Checked) (label : Option Name) : Type 0 where
  pub stands : slice_get items i ≡ Some (Checking check label)
  pub before : AreMet (IsEvent t x) (outermost t x) (take i items)
  pub unmet : IsMet (IsEvent t x) (names_seen t x items i) check → ⊥

-- ---- what carries a step

-- The item binds the name to a relation that relates the two: what a body means, or the least
-- solution.
abbrev pub BindsPair : {E : Type 0} → Set E → Names E → Clause → Name → Relation E
BindsPair all names (Binding true group) n a b =
    (body : Term) × Contains group (n, body) × Least all names group n a b
BindsPair all names (Binding false group) n a b =
    (body : Term) × Contains group (n, body) × HasPair (meaning_of all names body) a b
BindsPair all names _ n a b = ⊥

-- The name relates the two events: it is predefined, or an item of the model binds it so.
pub data NameRelates (t : Content) (x : Execution) (items : List Clause) (n : Name) (a b : Event)
    : Type 0 where
  ByLanguage : (p : Predefined) → n ≡ spelling p → PairsOf t x p a b → NameRelates t x items n a b
  ByItem : (i : ℕ) (c : Clause) → slice_get items i ≡ Some c
      → BindsPair (IsEvent t x) (names_seen t x items i) c n a b → NameRelates t x items n a b

-- The label of a step between the two events: nothing, a name that relates them, or two, of which
-- the second tells the first one level deeper.
pub data IsLabel (t : Content) (x : Execution) (items : List Clause) (a b : Event)
    : List ℕ → Type 0 where
  NoName : IsLabel t x items a b []
  OneName : (n : Name) → NameRelates t x items n a b → IsLabel t x items a b n
  TwoNames : (n inner : Name) → NameRelates t x items n a b → NameRelates t x items inner a b
      → IsLabel t x items a b (n ++ (codes ":" ++ inner))

-- The steps lead from the event of the one number to that of the other. Each relates two events,
-- and its label is one of these.
abbrev pub AreStepsOver : Content → Execution → List Clause → Relation Event → ℕ → List ToldStep → ℕ
    → Type 0
AreStepsOver t x items R from [] end = from ≡ end
AreStepsOver t x items R from (s ∷ ss) end =
    IsPair t x (λ a b. R a b × IsLabel t x items a b s.label.items) from s.to
    × AreStepsOver t x items R s.to ss end

-- any two events
abbrev pub AnyTwo : Relation Event
AnyTwo a b = Unit {0}

-- ---- the reason

-- What is told shows that what is meant has not the property: a cycle of the relation, an event that
-- it relates to itself and steps that lead back to it, a pair, or a member of the set.
abbrev pub IsShownBy : Content → Execution → List Clause → CheckWord → Meaning Event → Reason
    → Type 0
IsShownBy t x items words.Acyclic (ARelation R) r =
    (n : ℕ) × (r.first ≡ Some n) × (0 < length r.steps.items)
    × AreStepsOver t x items R n r.steps.items n
IsShownBy t x items words.Irreflexive (ARelation R) r =
    (n : ℕ) × (r.first ≡ Some n) × (0 < length r.steps.items) × IsPair t x R n n
    × AreStepsOver t x items AnyTwo n r.steps.items n
IsShownBy t x items words.Empty (ARelation R) r =
    (m : ℕ) × (n : ℕ) × (r.first ≡ Some m) × (length r.steps.items ≡ 1)
    × AreStepsOver t x items R m r.steps.items n
IsShownBy t x items words.Empty (ASet S) r =
    (n : ℕ) × (r.first ≡ Some n) × (r.steps.items ≡ [])
    × ((e : Event) × IsNumbered (named_events t x.runs) n e × S e)
IsShownBy t x items word m r = ⊥

-- So it is told of a check; of one that is negated, nothing: what it asks for holds.
abbrev pub IsShown : Content → Execution → List Clause → Bool → CheckWord → Meaning Event → Reason
    → Type 0
IsShown t x items false word m r = IsShownBy t x items word m r
IsShown t x items true word m r =
    HasProperty word m × (r.first ≡ None) × (r.steps.items ≡ [])

-- The reason why the model does not keep the execution: the first check that is not met, as it is
-- printed, events of the execution, and what shows it.
pub record IsReasonSaid (t : Content) (items : List Clause) (x : Execution) (r : Reason)
    : Type 0 where
  pub index : ℕ
  pub check : Checked
  pub label : Option Name
  pub first : IsFirstUnmet t items x index check label
  pub printed : r.check.items ≡ printed_item (Checking check label)
  pub events : All (IsOfEvent t x) r.events.items
  pub shown : IsShown t x items check.negated check.word
      (meaning_of (IsEvent t x) (names_seen t x items index) check.body) r
