-- Why a check refuses a candidate. Read first: `Meaning` and `Checks` of cat_machine, `Cycles`
-- of relation_cycles.
use Rattle.std.specs.Prelude.{ℕ, ◌≡◌, ◌<◌, List, [], Bool, true, false, Option, Some, None}
use Rattle.relation_cycles.specs.Cycles.{IsShortestCycle, IsFirstReflexive, IsLeastPair}
use Rattle.text_values.specs.declared.model.CheckWord.{CheckWord}
use Rattle.text_values.specs.declared.model.CheckWord.TheVariants as words
use Rattle.binding_kinds.specs.declared.kinds.Kind.{Kind}
use Rattle.binding_kinds.specs.declared.kinds.Kind.TheVariants as kinds
use Rattle.binding_graph.specs.declared.resolved.CheckCode.{CheckCode}
use Rattle.binding_graph.specs.declared.resolved.Source.{Source}
use Rattle.binding_graph.specs.declared.resolved.Step.{Step}
use Rattle.binding_graph.specs.Trees.{SetTree, RelTree, set_code, rel_code}
use Rattle.cat_machine.specs.Checks.{Holds, IsEmptySet}
use Rattle.cat_machine.specs.Meaning.{MeansSet, MeansRelation}
use Rattle.cat_machine.specs.Named.{WithOwn, OwnPairs}
use Rattle.why_witness.specs.declared.witness.Witness.{Witness}
use Rattle.why_witness.specs.declared.witness.Witness.TheVariants as shown

-- the least event of a set
pub record IsFirstMember (S : ℕ → Type 0) (a : ℕ) : Type 0 where
  pub member : S a
  pub least : (b : ℕ) → b < a → S b → ⊥

-- what shows that a relation does not meet the word: the first of the shortest cycles, the least
-- event related to itself, the least pair
abbrev pub Breaks : CheckWord → (ℕ → ℕ → Type 0) → Witness → Type 0
Breaks words.Acyclic R (shown.Cycle events) = IsShortestCycle R events.items
Breaks words.Irreflexive R (shown.Reflexive a) = IsFirstReflexive R a
Breaks words.Empty R (shown.Pair a b) = IsLeastPair R a b
Breaks word R witness = ⊥

-- what shows that a set is not empty: its least event
abbrev pub BreaksSet : (ℕ → Type 0) → Witness → Type 0
BreaksSet S (shown.Member a) = IsFirstMember S a
BreaksSet S witness = ⊥

-- of a negated check: what is asked holds, which the check forbids
abbrev pub IsMetWitness : Witness → Type 0
IsMetWitness shown.Met = Unit {0}
IsMetWitness witness = ⊥

-- The check asks for this, or, where it is negated, that it does not hold. There is no witness just
-- where the check holds; and a witness shows that it does not.
abbrev pub IsExplanation : Bool → Type 0 → (Witness → Type 0) → Option Witness → Type 0
IsExplanation false Asked Broken None = Asked
IsExplanation false Asked Broken (Some w) = Broken w
IsExplanation true Asked Broken None = Asked → ⊥
IsExplanation true Asked Broken (Some w) = Asked × IsMetWitness w

-- likewise of a check's expression, where the names have these events and pairs among n events
abbrev pub IsExplained : CheckCode → ℕ → (Source → ℕ → Type 0) → (Source → ℕ → ℕ → Type 0) → Kind
    → Option Witness → Type 0
IsExplained check n sets outer kinds.OfSet found =
    (t : SetTree) → check.code.steps.items ≡ set_code t [] → let S =
    MeansSet n sets t in IsExplanation check.negated (IsEmptySet S) (BreaksSet S) found
IsExplained check n sets outer kinds.OfRelation found =
    (t : RelTree) → check.code.steps.items ≡ rel_code t [] → let R =
    MeansRelation n sets (WithOwn outer (OwnPairs n [])) t in IsExplanation check.negated
    (Holds check.word R) (Breaks check.word R) found
IsExplained check n sets outer kinds.OfAny found =
    (t : RelTree) → check.code.steps.items ≡ rel_code t [] → let R =
    MeansRelation n sets (WithOwn outer (OwnPairs n [])) t in IsExplanation check.negated
    (Holds check.word R) (Breaks check.word R) found

-- ---- that there is one explanation

-- the witnesses show the same
abbrev pub IsSame : Witness → Witness → Type 0
IsSame (shown.Cycle xs) (shown.Cycle ys) = xs.items ≡ ys.items
IsSame (shown.Reflexive a) (shown.Reflexive b) = a ≡ b
IsSame (shown.Pair a b) (shown.Pair x y) = (a ≡ x) × (b ≡ y)
IsSame (shown.Member a) (shown.Member b) = a ≡ b
IsSame shown.Met shown.Met = Unit {0}
IsSame v w = ⊥

-- both accept, or both refuse by the same
abbrev pub AreSameWitnesses : Option Witness → Option Witness → Type 0
AreSameWitnesses None None = Unit {0}
AreSameWitnesses (Some v) (Some w) = IsSame v w
AreSameWitnesses f g = ⊥

-- the steps are those of an expression of this kind
abbrev pub IsExpression : Kind → List Step → Type 0
IsExpression kinds.OfSet steps = (t : SetTree) × (steps ≡ set_code t [])
IsExpression kinds.OfRelation steps = (t : RelTree) × (steps ≡ rel_code t [])
IsExpression kinds.OfAny steps = (t : RelTree) × (steps ≡ rel_code t [])
