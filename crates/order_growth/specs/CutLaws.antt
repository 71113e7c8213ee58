-- What a check refuses where there are more pairs. Read `Growths` first.
use Rattle.std.specs.Prelude.{ℕ, ◌≡◌, Bool, false, List, [], Some, slice_get}
use Rattle.binding_kinds.specs.declared.kinds.Kind.TheVariants.{OfSet}
use Rattle.binding_graph.specs.declared.resolved.CheckCode.{CheckCode}
use Rattle.binding_graph.specs.declared.resolved.ResolvedItem.{ResolvedItem}
use Rattle.binding_graph.specs.declared.resolved.Role.TheVariants.{Check}
use Rattle.binding_graph.specs.Trees.{RelTree, rel_code}
use Rattle.candidate_spaces.specs.declared.candidate.Space.{Space}
use Rattle.candidate_spaces.specs.Space.{Candidate, candidates_in}
use Rattle.from_scratch.specs.Answers.{AreItemColumns, HasAnswers}
use Rattle.order_growth.specs.declared.growth.Growth.{Growth}
use Rattle.order_growth.specs.declared.growth.Growth.TheVariants.{Unknown}
use Rattle.order_growth.specs.Growth.{growth_of, source_growth}
use Rattle.order_growth.specs.Within.{IsWithin}
use Rattle.order_growth.specs.Growths.{input_growths, AreAllGrowths, HaveExpressions}

-- The check is of a relation, is not negated, and what it checks loses no pair.
pub record Refuses (gs : List (List Growth)) (r : ResolvedItem) (check : CheckCode) : Type 0 where
  pub role : r.role ≡ Check check
  pub plain : check.negated ≡ false
  pub relation : check.code.kind ≡ OfSet → ⊥
  pub known : (e : RelTree) → check.code.steps.items ≡ rel_code e []
      → growth_of (source_growth (input_growths gs r.inputs.items)) e ≡ Unknown → ⊥

-- What such a check behind these items refuses in a candidate of a space, it refuses in each
-- candidate of any space that this lies within.
abbrev pub RefusalsAreKept : Type 0
RefusalsAreKept =
    (gs : List (List Growth)) (rs : List ResolvedItem) (r : ResolvedItem) (check : CheckCode)
    (e : RelTree) (probes space : Space) (k l : ℕ) (one more : Candidate)
    (answers after : List Bool) → AreAllGrowths gs rs → HaveExpressions rs → Refuses gs r check
    → check.code.steps.items ≡ rel_code e []
    → HasAnswers probes (λ j cs. AreItemColumns probes rs j cs) r answers
    → HasAnswers space (λ j cs. AreItemColumns space rs j cs) r after
    → slice_get (candidates_in probes.combinations.items) k ≡ Some one
    → slice_get (candidates_in space.combinations.items) l ≡ Some more → IsWithin one more
    → slice_get answers k ≡ Some false → slice_get after l ≡ Some false
