-- The steps of a tree, run from empty stacks, leave its value alone.
use Rattle.std.proofs.Common.{ℕ, ◌≡◌, List, [], ◌∷◌}
use Rattle.bit_rows.specs.Relation.{Relation, IsRelation, Events, IsEvents}
use Rattle.binding_graph.specs.declared.resolved.Source.{Source}
use Rattle.binding_graph.specs.declared.resolved.Step.{Step}
use Rattle.binding_graph.specs.Trees.{SetTree, RelTree, set_code, rel_code}
use Rattle.cat_machine.specs.Meaning.{MeansSet, MeansRelation}
use Rattle.cat_machine.specs.Running.{BuildsTrees, AreSets, AreRels}
use Rattle.cat_machine.proofs.Codes.{code_leads, set_code_leads}
use Rattle.cat_machine.proofs.Stacks.{rels_last, sets_last}

module _ (n : ℕ) (sets : Source → ℕ → Type 0) (rels : Source → ℕ → ℕ → Type 0) (xs : List Step)
    (us : List Events) (vs : List Relation)
    (run : (ss : List SetTree) (es : List RelTree) → BuildsTrees xs [] [] ss es
    → AreSets n sets ss us × AreRels n sets rels es vs) where
  pub relation_left : (t : RelTree) → xs ≡ rel_code t []
      → (v : Relation) × (vs ≡ v ∷ []) × IsRelation v n (MeansRelation n sets rels t)
  relation_left t is = rels_last n sets rels t vs ((run [] (t ∷ []) (rw is (code_leads t))).1)

  pub set_left : (t : SetTree) → xs ≡ set_code t []
      → (v : Events) × (us ≡ v ∷ []) × IsEvents v n (MeansSet n sets t)
  set_left t is = sets_last n sets rels t us ((run (t ∷ []) [] (rw is (set_code_leads t))).0)
