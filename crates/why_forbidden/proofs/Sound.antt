-- What the items of a model and the space of a test are known to be.
use Rattle.std.proofs.Common.{◌≡◌, ◌≤◌, List, length, arith}
use Rattle.std.proofs.lemmas.List.{length-map}
use Rattle.std.proofs.lemmas.Slice.Zip.{AllZip-long}
use Rattle.text_values.specs.declared.test.Test.{Test}
use Rattle.text_values.specs.declared.model.ModelText.{ModelText}
use Rattle.predefined_names.specs.declared.predefined.TheConstants.{PREDEFINED}
use Rattle.binding_graph.specs.declared.resolved.ResolvedItem.{ResolvedItem}
use Rattle.candidate_spaces.specs.declared.candidate.Space.{Space}
use Rattle.candidates.specs.Listed.{ListsExecutions, ShowsExecution}
use Rattle.candidate_spaces.specs.Space.{candidate_count, candidates_in, shown_in, shown_of}
use Rattle.from_scratch.specs.Answers.{AreSoundItems}
use Rattle.from_scratch.specs.FromScratch.{AreItemsOf, IsFaultless, bare_items}
use Rattle.binding_kinds.specs.Outermost.{outermost_names}
use Rattle.from_scratch.proofs.Ordered.{resolved_ordered}
use Rattle.from_scratch.proofs.Rising.{resolved_rising}

-- each item uses names of earlier items alone, and the bodies of each recursive group rise
pub sound_items : (model : ModelText) (items : List ResolvedItem) → IsFaultless model
    → AreItemsOf model items → AreSoundItems items
sound_items model items none resolved = (
  resolved_ordered PREDEFINED (bare_items model) items resolved.0,
  resolved_rising outermost_names 0 (bare_items model) items none resolved.0,
)

pub few_candidates : (test : Test) (space : Space) → ListsExecutions test space
    → candidate_count space ≤ 16384
few_candidates test space lists =
    let as_many : length (shown_in space) ≡ length lists.all = AllZip-long (ShowsExecution lists.initial) lists.all (shown_in space) lists.shown in
    let long : length (shown_in space) ≡ candidate_count space = length-map (candidates_in space.combinations.items) (shown_of space.registers.items) in
    omega (arith, lists.few, as_many, long)
