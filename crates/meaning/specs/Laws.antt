-- What the laws of src/laws.rt say. Read it after Evaluates.
use Rattle.std.specs.Prelude.{◌≡◌, ◌↔◌, List, [], ◌∷◌, ◌++◌, Contains, Bool, true, false, IsTrue, map, bytes_eq, if◌then◌else◌}
use Rattle.text_values.specs.declared.model.Infix.TheVariants.{Difference}
use Rattle.predefined_names.specs.declared.predefined.Predefined.{Predefined}
use Rattle.predefined_names.specs.declared.predefined.Predefined.TheVariants as names
use Rattle.text_values.specs.declared.test.InitEntry.{InitEntry}
use Rattle.text_values.specs.declared.test.Place.{Place}
use Rattle.text_values.specs.declared.test.Quantifier.TheVariants.{Exists, NotExists, Forall}
use Rattle.predefined_names.specs.PredefinedNames.{spelling}
use Rattle.text_values.specs.TestValue.{Content}
use Rattle.text_values.specs.ModelValue.{Term, Terms, Atom, AllEvents, EmptyRelation, EmptySet, Join, Mark, Not, On, Apply, NoTerm, OneMore, Clause, Binding, Function, Checking, Flagging, Showing, Including}
use Rattle.meaning.specs.Sets.{Set, Relation}
use Rattle.meaning.specs.Names.{Name, is_same_observable, locations}
use Rattle.meaning.specs.Runs.{initial_value}
use Rattle.meaning.specs.Executions.{Event, Execution, IsEvent, IsExecution}
use Rattle.meaning.specs.Cat.{Names, meaning_of, HasPair, with_group, Choice, IsChosen, Least, names_after}
use Rattle.meaning.specs.Faults.{ModelFault}
use Rattle.meaning.specs.Outcome.{Evaluation, Never, Always, Sometimes, Satisfies}
use Rattle.meaning.specs.Evaluates.{outermost, IsKept, Outcome, Evaluates, Faulty, Evaluated}

-- ---- Items that are added

-- The item is a check.
abbrev pub IsCheck : Clause → Type 0
IsCheck (Checking check label) = Unit {0}
IsCheck _ = ⊥

-- All items are checks.
abbrev pub AreChecks : List Clause → Type 0
AreChecks [] = Unit {0}
AreChecks (c ∷ cs) = IsCheck c × AreChecks cs

-- The item is a flag, a `show`, an `unshow` or an include: it binds no name, and is no check.
abbrev pub IsAside : Clause → Type 0
IsAside (Flagging check name) = Unit {0}
IsAside (Showing hidden shown) = Unit {0}
IsAside (Including path) = Unit {0}
IsAside _ = ⊥

-- Each execution that the one model keeps, the other keeps too.
abbrev pub KeepsNoOther : Content → List Clause → List Clause → Type 0
KeepsNoOther t items others = (x : Execution) → IsKept t items x → IsKept t others x

-- A check that is put anywhere into a model makes it keep no other execution.
abbrev pub ACheckKeepsNoOther : Type 0
ACheckKeepsNoOther =
    (t : Content) (before behind : List Clause) (c : Clause) → IsCheck c
    → KeepsNoOther t (before ++ c ∷ behind) (before ++ behind)

-- Items at the end of a model make it keep no other execution.
abbrev pub MoreItemsKeepNoOther : Type 0
MoreItemsKeepNoOther =
    (t : Content) (items more : List Clause) → KeepsNoOther t (items ++ more) items

-- Of two models with the same definitions, one keeps no other execution than the other if each
-- check of the other is one of its own.
abbrev pub MoreChecksKeepNoOther : Type 0
MoreChecksKeepNoOther =
    (t : Content) (definitions many few : List Clause) → AreChecks many → AreChecks few
    → ((c : Clause) → Contains few c → Contains many c)
    → KeepsNoOther t (definitions ++ many) (definitions ++ few)

-- A flag, a `show`, an `unshow` or an include changes nothing of what is kept.
abbrev pub AsidesKeepAll : Type 0
AsidesKeepAll =
    (t : Content) (before behind : List Clause) (c : Clause) → IsAside c → (x : Execution)
    → IsKept t (before ++ c ∷ behind) x ↔ IsKept t (before ++ behind) x

-- A model without items keeps each execution.
abbrev pub NoItemsKeepAll : Type 0
NoItemsKeepAll = (t : Content) (x : Execution) → IsKept t [] x ↔ IsExecution t x

-- The first fault of a model stays, whatever items follow.
abbrev pub AFaultStays : Type 0
AFaultStays =
    (t : Content) (items more : List Clause) (k : ModelFault) → Evaluates t items (Faulty k)
    → Evaluates t (items ++ more) (Faulty k)

-- ---- What an evaluation says

-- Some kept execution satisfies the proposition.
abbrev pub IsSatisfied : Content → List Clause → Type 0
IsSatisfied t items = (x : Execution) × IsKept t items x × Satisfies t x t.condition

-- Some kept execution does not.
abbrev pub IsViolated : Content → List Clause → Type 0
IsViolated t items = (x : Execution) × IsKept t items x × (Satisfies t x t.condition → ⊥)

-- What the evaluation says in words is so of the kept executions.
pub record SaysInWords (t : Content) (items : List Clause) (e : Evaluation) : Type 0 where
  pub never : e.observation ≡ Never ↔ (IsSatisfied t items → ⊥)
  pub always : e.observation ≡ Always ↔ (IsSatisfied t items × (IsViolated t items → ⊥))
  pub sometimes : e.observation ≡ Sometimes ↔ (IsSatisfied t items × IsViolated t items)
  pub exists : t.quantifier ≡ Exists → IsTrue e.ok ↔ IsSatisfied t items
  pub not_exists : t.quantifier ≡ NotExists → IsTrue e.ok ↔ (IsSatisfied t items → ⊥)
  pub forall : t.quantifier ≡ Forall → IsTrue e.ok ↔ (IsViolated t items → ⊥)

-- `Never`, `Always`, `Sometimes` and `Ok` say what they say in the field.
abbrev pub WordsAreRight : Type 0
WordsAreRight =
    (t : Content) (items : List Clause) (e : Evaluation) → Evaluates t items (Evaluated e)
    → SaysInWords t items e

-- ---- The names in a text

abbrev mutual
  -- Each name in the expression is one of these.
  pub HasNames : (Name → Type 0) → Term → Type 0
  HasNames P (Atom n) = P n
  HasNames P (Join op a b) = HasNames P a × HasNames P b
  HasNames P (Mark op a) = HasNames P a
  HasNames P (Not a) = HasNames P a
  HasNames P (On a) = HasNames P a
  HasNames P (Apply n ts) = P n × HaveArgumentsNames P ts
  HasNames P _ = Unit {0}

  -- each name in the arguments
  pub HaveArgumentsNames : (Name → Type 0) → Terms → Type 0
  HaveArgumentsNames P NoTerm = Unit {0}
  HaveArgumentsNames P (OneMore a ts) = HasNames P a × HaveArgumentsNames P ts

-- each name in the bodies of a group
abbrev pub HaveBodiesNames : (Name → Type 0) → List (Name × Term) → Type 0
HaveBodiesNames P [] = Unit {0}
HaveBodiesNames P (b ∷ bs) = HasNames P b.1 × HaveBodiesNames P bs

-- each name in an item that binds or checks
abbrev pub HasItemNames : (Name → Type 0) → Clause → Type 0
HasItemNames P (Binding recursive group) = HaveBodiesNames P group
HasItemNames P (Function n ps body) = HasNames P body
HasItemNames P (Checking check label) = HasNames P check.body
HasItemNames P _ = Unit {0}

-- each name in such items
abbrev pub HaveNames : (Name → Type 0) → List Clause → Type 0
HaveNames P [] = Unit {0}
HaveNames P (c ∷ cs) = HasItemNames P c × HaveNames P cs

-- ---- Models that speak of no communication

-- The predefined name depends on what loads read, or on how stores are ordered.
abbrev pub is_communication : Predefined → Bool
is_communication names.ReadsFrom = true
is_communication names.Coherence = true
is_communication names.FromReads = true
is_communication names.ReadsFromExternal = true
is_communication names.ReadsFromInternal = true
is_communication names.CoherenceExternal = true
is_communication names.CoherenceInternal = true
is_communication names.FromReadsExternal = true
is_communication names.FromReadsInternal = true
is_communication names.Communication = true
is_communication _ = false

-- The name is spelled as none of these.
abbrev pub IsFree : Name → Type 0
IsFree n = (p : Predefined) → is_communication p ≡ true → spelling p ≡ n → ⊥

-- A model without `rf`, `co` and `fr`, and without what is made of them, keeps all executions of
-- the same runs or none.
abbrev pub RunsAloneDecide : Type 0
RunsAloneDecide =
    (t : Content) (items : List Clause) → HaveNames IsFree items → (x y : Execution)
    → x.runs ≡ y.runs → IsExecution t y → IsKept t items x → IsKept t items y

-- ---- Recursive groups

-- the names that are seen behind items, from those that are seen before them
abbrev pub names_behind : Set Event → Names Event → List Clause → Names Event
names_behind all names [] = names
names_behind all names (c ∷ cs) = names_behind all (names_after all names c) cs

-- The name is none of the group.
abbrev pub IsOutside : List (Name × Term) → Name → Type 0
IsOutside group n = (b : Name × Term) → Contains group b → b.0 ≡ n → ⊥

-- No name of the group stands under `~`, right of `\`, or in an application.
abbrev pub IsRising : List (Name × Term) → Term → Type 0
IsRising group (Join Difference a b) = IsRising group a × HasNames (IsOutside group) b
IsRising group (Join op a b) = IsRising group a × IsRising group b
IsRising group (Mark op a) = IsRising group a
IsRising group (Not a) = HasNames (IsOutside group) a
IsRising group (On a) = IsRising group a
IsRising group (Apply n ts) = HasNames (IsOutside group) (Apply n ts)
IsRising group _ = Unit {0}

-- the least solution of a group behind items of a model, in an execution
abbrev pub LeastBehind : Content → Execution → List Clause → List (Name × Term) → Name
    → Relation Event
LeastBehind t x items group =
    Least (IsEvent t x) (names_behind (IsEvent t x) (outermost t x) items) group

-- what a body gives there, where the names of the group stand for these relations
abbrev pub GivenByBody : Content → Execution → List Clause → List (Name × Term) → (Name → Relation Event)
    → Term → Relation Event
GivenByBody t x items group R body =
    let names : Names Event = names_behind (IsEvent t x) (outermost t x) items in
    HasPair (meaning_of (IsEvent t x) (with_group R group names) body)

-- The least solution has each pair that its bodies give, and no other pair where a choice decides
-- what they give, as it can in an execution.
pub record Solves (t : Content) (x : Execution) (items : List Clause) (group : List (Name × Term))
    : Type 0 where
  pub closed : (b : Name × Term) → Contains group b → (a c : Event)
      → GivenByBody t x items group (LeastBehind t x items group) b.1 a c
      → LeastBehind t x items group b.0 a c
  pub exact : (choice : Choice Event) → ((b : Name × Term) → Contains group b → (a c : Event)
      → IsChosen choice b.0 a c
      ↔ GivenByBody t x items group (LeastBehind t x items group) b.1 a c)
      → (b : Name × Term) → Contains group b → (a c : Event)
      → LeastBehind t x items group b.0 a c
      → GivenByBody t x items group (LeastBehind t x items group) b.1 a c

-- `let rec` solves its equations where its bodies rise.
abbrev pub LetRecSolves : Type 0
LetRecSolves =
    (t : Content) (x : Execution) (items : List Clause) (group : List (Name × Term))
    → ((b : Name × Term) → Contains group b → IsRising group b.1) → Solves t x items group

-- ---- The name of a binding

-- the name `m` in the place of `n`; another name stays
abbrev pub renamed : Name → Name → Name → Name
renamed n m q = if bytes_eq n q then m else q

abbrev mutual
  -- the expression with its names renamed
  pub renamed_term : Name → Name → Term → Term
  renamed_term n m (Atom q) = Atom (renamed n m q)
  renamed_term n m (Join op a b) = Join op (renamed_term n m a) (renamed_term n m b)
  renamed_term n m (Mark op a) = Mark op (renamed_term n m a)
  renamed_term n m (Not a) = Not (renamed_term n m a)
  renamed_term n m (On a) = On (renamed_term n m a)
  renamed_term n m (Apply q ts) = Apply (renamed n m q) (renamed_terms n m ts)
  renamed_term n m AllEvents = AllEvents
  renamed_term n m EmptyRelation = EmptyRelation
  renamed_term n m EmptySet = EmptySet

  -- the arguments, likewise
  pub renamed_terms : Name → Name → Terms → Terms
  renamed_terms n m NoTerm = NoTerm
  renamed_terms n m (OneMore a ts) = OneMore (renamed_term n m a) (renamed_terms n m ts)

-- a binding with its body renamed
abbrev pub renamed_body : Name → Name → Name × Term → Name × Term
renamed_body n m b = (b.0, renamed_term n m b.1)

-- an item with its expressions renamed; what is shown and included stays
abbrev pub renamed_item : Name → Name → Clause → Clause
renamed_item n m (Binding recursive group) = Binding recursive (map (renamed_body n m) group)
renamed_item n m (Function f ps body) = Function f ps (renamed_term n m body)
renamed_item n m (Checking check label) =
    Checking (record check { body = renamed_term n m check.body }) label
renamed_item n m (Flagging check name) =
    Flagging (record check { body = renamed_term n m check.body }) name
renamed_item n m c = c

-- The name is neither of the two.
abbrev pub IsOther : Name → Name → Name → Type 0
IsOther n m q = (q ≡ n → ⊥) × (q ≡ m → ⊥)

-- The item binds neither of the two, and its parameters are neither.
abbrev pub BindsOthers : Name → Name → Clause → Type 0
BindsOthers n m (Binding recursive group) =
    (b : Name × Term) → Contains group b → IsOther n m b.0
BindsOthers n m (Function f ps body) = (p : Name) → Contains (f ∷ ps) p → IsOther n m p
BindsOthers n m _ = Unit {0}

-- so it is for all items
abbrev pub BindOthers : Name → Name → List Clause → Type 0
BindOthers n m [] = Unit {0}
BindOthers n m (c ∷ cs) = BindsOthers n m c × BindOthers n m cs

-- `let n = e`
abbrev pub let_one : Name → Term → Clause
let_one n e = Binding false ((n, e) ∷ [])

-- A binding may have another name, if no item behind it speaks of the new name, and none binds the
-- old name or the new one.
abbrev pub RenamingKeepsAll : Type 0
RenamingKeepsAll =
    (t : Content) (before behind : List Clause) (n m : Name) (e : Term)
    → HaveNames (λ q. m ≡ q → ⊥) behind → BindOthers n m behind → (x : Execution)
    → IsKept t (before ++ let_one n e ∷ behind) x
    ↔ IsKept t (before ++ let_one m e ∷ map (renamed_item n m) behind) x

-- ---- The order of entries

-- the test with these entries in its init block
abbrev pub with_entries : Content → List InitEntry → Content
with_entries t es = record t { init = es }

-- Two tests have the same locations, and each observable holds the same at the start. No other
-- definition looks into an init block.
abbrev pub IsStartAlike : Content → Content → Type 0
IsStartAlike t u =
    (locations t ≡ locations u) × ((p : Place) → initial_value t p ≡ initial_value u p)

-- Two entries next to each other may change places, if they are for different observables.
abbrev pub EntriesMaySwap : Type 0
EntriesMaySwap =
    (t : Content) (before behind : List InitEntry) (e f : InitEntry)
    → is_same_observable e.place f.place ≡ false
    → IsStartAlike (with_entries t (before ++ e ∷ f ∷ behind))
    (with_entries t (before ++ f ∷ e ∷ behind))

-- ---- One meaning

-- A test says no two things under a model.
abbrev pub MeaningsAreOne : Type 0
MeaningsAreOne =
    (t : Content) (items : List Clause) (o p : Outcome) → Evaluates t items o
    → Evaluates t items p → o ≡ p
