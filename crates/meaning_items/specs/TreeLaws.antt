-- What the laws of trees say. The events of an execution are the numbers below n, and tests say what
-- the predefined names stand for. Read next: Slots.
use Rattle.std.specs.Prelude.{ℕ, ◌≡◌, ◌<◌, ◌↔◌, List, [], ◌∷◌, length, map, Bool, true, IsTrue}
use Rattle.text_values.specs.declared.model.Binding as code_binding
use Rattle.text_values.specs.declared.model.Item.{Item}
use Rattle.predefined_names.specs.declared.predefined.Predefined.{Predefined}
use Rattle.text_values.specs.ModelValue.{Term, Terms, Apply, Function}
use Rattle.text_values.specs.ModelValues.{binding_of, clause_of}
use Rattle.bit_rows.specs.Relation.{Relation}
use Rattle.binding_kinds.specs.declared.fault.ModelFault.{ModelFault}
use Rattle.binding_kinds.specs.declared.scope.Used.{Used}
use Rattle.binding_kinds.specs.Value.{Naming, Group, bare_item, bound_value_of}
use Rattle.binding_kinds.specs.Faults.{with_own, names_after, senses_after, IsFaultOfItem}
use Rattle.binding_kinds.specs.Fits.{kind_of, IsTyped}
use Rattle.binding_kinds.specs.Formula.{Formula}
use Rattle.binding_kinds.specs.Functions.{formula_in}
use Rattle.binding_kinds.specs.Senses.{Sense, kind_in}
use Rattle.binding_graph.specs.declared.resolved.Source.{Source}
use Rattle.binding_graph.specs.Meaning.{set_tree, rel_tree}
use Rattle.binding_graph.specs.Trees.{RelTree}
use Rattle.cat_machine.specs.Least.{IsLeast, body}
use Rattle.cat_machine.specs.Meaning.{MeansSet, MeansRelation}
use Rattle.cat_machine.specs.Named.{OwnPairs}
use Rattle.meaning.specs.Cat as cat
use Rattle.meaning.specs.Cat.{Meaning, ASet, ARelation, Names, choice_of, meaning_of, meanings_of, with_arguments, Least}
use Rattle.meaning.specs.Names.{Name}
use Rattle.meaning_items.specs.Formulas.{formula_meaning}
use Rattle.meaning_items.specs.Bound.{value_at}
use Rattle.meaning_items.specs.Alike.{IsAs, HasSources, HasOuterSources}
use Rattle.meaning_items.specs.Groups.{name_at, term_at}
use Rattle.meaning_items.specs.FunctionLaws.{AreFaultless, IsFaultless}
use Rattle.meaning_items.specs.Behind.{senses_of, namings_of, bound_of_items, tested}

-- a test of events for each source
abbrev pub SetTests : Type 0
SetTests = Source → ℕ → Bool

-- a test of pairs for each source
abbrev pub PairTests : Type 0
PairTests = Source → ℕ → ℕ → Bool

-- the events that pass
abbrev pub Passing : SetTests → Source → ℕ → Type 0
Passing sets source a = IsTrue (sets source a)

-- the pairs that pass
abbrev pub PairsPassing : PairTests → Source → ℕ → ℕ → Type 0
PairsPassing rels source a b = IsTrue (rels source a b)

-- the values of slots that tests say
abbrev pub slot_tested : (ℕ → Bool) → (ℕ → ℕ → Bool) → (ℕ → ℕ → ℕ → Bool) → ℕ → Meaning ℕ
slot_tested is_set S R slot =
    choice_of (is_set slot) (ASet (λ a. IsTrue (S slot a)))
    (ARelation (λ a b. IsTrue (R slot a b)))

-- Operators mean the same to the definitions and in the trees of an expression that is typed.
abbrev pub OperatorsMeanTheSame : Type 0
OperatorsMeanTheSame =
    (n : ℕ) (is_set : ℕ → Bool) (S : ℕ → ℕ → Bool) (R : ℕ → ℕ → ℕ → Bool) (f : Formula)
    → IsTyped [] f → (sets : SetTests) (rels : PairTests) (us : List Used) (from : ℕ)
    → HasSources (slot_tested is_set S R) (Passing sets) (PairsPassing rels) us from f
    → IsAs (kind_of [] f) (formula_meaning (λ a. a < n) (slot_tested is_set S R) [] f)
    (MeansSet n (Passing sets) (set_tree us from f))
    (MeansRelation n (Passing sets) (PairsPassing rels) (rel_tree us from f))

-- The item has no fault behind those items, whatever its number.
abbrev pub IsFaultlessBehind : List Item → ℕ → Item → Type 0
IsFaultlessBehind items at item =
    (index : ℕ) (k : ModelFault)
    → IsFaultOfItem (senses_of items) (namings_of items) at (bare_item item) index k → ⊥

-- What is meant is what the trees of the expression mean, wherever its names have their sources.
abbrev pub IsMeantByTrees : ℕ → List Sense → List Naming → Names ℕ → Term → Meaning ℕ → Type 0
IsMeantByTrees n ss names bound e m =
    (sets : SetTests) (rels : PairTests) (us : List Used) (from : ℕ)
    → HasSources (value_at bound) (Passing sets) (PairsPassing rels) us from (formula_in ss names [] e)
    → IsAs (kind_in ss names e) m
    (MeansSet n (Passing sets) (set_tree us from (formula_in ss names [] e)))
    (MeansRelation n (Passing sets) (PairsPassing rels) (rel_tree us from (formula_in ss names [] e)))

-- An expression without fault behind items without fault means what its trees mean.
abbrev pub TermsMeanTheSame : Type 0
TermsMeanTheSame =
    (n : ℕ) (S : Predefined → ℕ → Bool) (R : Predefined → ℕ → ℕ → Bool) (items : List Item)
    → AreFaultless items → (e : Term) → IsFaultless (senses_of items) (namings_of items) e
    → IsMeantByTrees n (senses_of items) (namings_of items)
    (bound_of_items (λ a. a < n) (tested S R) items) e
    (meaning_of (λ a. a < n) (bound_of_items (λ a. a < n) (tested S R) items) e)

-- The trees of an application of the latest function mean what the body means where the parameters
-- are bound to the meanings of the arguments.
abbrev pub ApplyingBinds : Type 0
ApplyingBinds =
    (n : ℕ) (S : Predefined → ℕ → Bool) (R : Predefined → ℕ → ℕ → Bool) (items : List Item)
    → AreFaultless items → (at : ℕ) (item : Item) → IsFaultlessBehind items at item → (f : Name)
    (ps : List Name) (body : Term) → clause_of item ≡ Function f ps body → (ts : Terms)
    → let ss = senses_after (senses_of items) (namings_of items) (bare_item item) in
    let names = names_after (senses_of items) (namings_of items) at (bare_item item) in
    let outer : Names ℕ = bound_of_items (λ a. a < n) (tested S R) items in
    let bound : Names ℕ = cat.names_after (λ a. a < n) outer (Function f ps body) in
    IsFaultless ss names (Apply f ts)
    → IsMeantByTrees n ss names bound (Apply f ts)
    (meaning_of (λ a. a < n)
    (with_arguments ps (meanings_of (λ a. a < n) bound ts) outer) body)

-- The trees are those of the bodies of a group, each with its own list of used names.
pub record AreTrees (ss : List Sense) (own : List Naming) (from : ℕ) (us : ℕ → List Used)
    (bs : List code_binding.Binding) (trees : List RelTree) : Type 0 where
  pub as_many : length trees ≡ length bs
  pub each : (j : ℕ) → j < length bs
      → body trees j ≡ rel_tree (us j) from (formula_in ss own [] (term_at (map binding_of bs) j))

-- The least values that satisfy the equations of a recursive group are its least solution.
abbrev pub LetRecIsLeast : Type 0
LetRecIsLeast =
    (n : ℕ) (S : Predefined → ℕ → Bool) (R : Predefined → ℕ → ℕ → Bool) (items : List Item)
    → AreFaultless items → (at : ℕ) (bs : List code_binding.Binding)
    → ((index : ℕ) (k : ModelFault) → IsFaultOfItem (senses_of items) (namings_of items) at
    (Group true (map bound_value_of bs)) index k → ⊥)
    → let from = length (namings_of items) in
    let own = with_own (namings_of items) at 0 (map bound_value_of bs) in
    let bound : Names ℕ = bound_of_items (λ a. a < n) (tested S R) items in
    (sets : SetTests) (outer : PairTests) (us : ℕ → List Used) (trees : List RelTree)
    → AreTrees (senses_of items) own from us bs trees
    → ((j : ℕ) → j < length bs → HasOuterSources (value_at bound) (Passing sets)
    (PairsPassing outer) (us j) from
    (formula_in (senses_of items) own [] (term_at (map binding_of bs) j)))
    → (values : List Relation) → IsLeast n (Passing sets) (PairsPassing outer) trees values
    → (j : ℕ) → j < length bs → (a b : ℕ)
    → Least (λ a. a < n) bound (map binding_of bs) (name_at (map binding_of bs) j) a b
    ↔ OwnPairs n values j a b
