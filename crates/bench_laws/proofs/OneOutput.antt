-- The node of a space or of a verdict gives one output.
use Rattle.std.proofs.Common.{◌≡◌, ℕ, inl, inr, List, [], ◌∷◌, ◌++◌, Option, Some, None, sym, ap, ◌∙◌}
use Rattle.std.proofs.lemmas.Option.{none-some}
use Rattle.text_values.specs.declared.test.InitEntry.{InitEntry}
use Rattle.text_values.specs.declared.test.Quantifier.{Quantifier}
use Rattle.text_values.specs.declared.test.Step.{Step}
use Rattle.text_values.specs.TestValue.{Formula}
use Rattle.memo_core.specs.declared.keys.Kind.{Kind}
use Rattle.memo_core.specs.declared.keys.Key.{Key}
use Rattle.bench_values.specs.Givens.{GivenContent}
use Rattle.bench_values.specs.Makes.{output_names}
use Rattle.bench_nodes.specs.Nodes.{inputs}
use Rattle.bench_parts.specs.Contents.{PartContent, OfText, OfRole, OfFault, OfCondition, OfObserved, OfLocations, OfInit, OfThread, PartsState}
use Rattle.bench_parts.specs.States.{contents, flags_read, space_given, verdict_given, given_space, given_verdict, given_by}
use Rattle.bench_instance.specs.declared.stamped_texts.StampedTexts.{StampedTexts}
use Rattle.bench_instance.specs.StampedTexts.{stamped_state}
use Rattle.bench_laws.specs.OutputNames.{OthersHaveOneOutput}

-- what is given has the outputs of what it is
given_outputs : {a b : GivenContent} → Some a ≡ Some b → output_names b ≡ output_names a
given_outputs e = cc

parts_one : (init : List InitEntry) (threads : List (List Step)) (cs : List (Option PartContent))
    (g : GivenContent) → space_given init threads cs ≡ Some g → output_names g ≡ 0 ∷ []
parts_one init threads [] g e = absurd (none-some g e)
parts_one init threads (None ∷ cs) g e = absurd (none-some g e)
parts_one init threads (Some (OfText clause) ∷ cs) g e = absurd (none-some g e)
parts_one init threads (Some (OfRole role history) ∷ cs) g e = absurd (none-some g e)
parts_one init threads (Some (OfFault fault) ∷ cs) g e = absurd (none-some g e)
parts_one init threads (Some (OfCondition quantifier condition) ∷ cs) g e = absurd (none-some g e)
parts_one init threads (Some (OfObserved observed) ∷ cs) g e = absurd (none-some g e)
parts_one init threads (Some (OfLocations locations) ∷ cs) g e = given_outputs e
parts_one init threads (Some (OfInit entries) ∷ cs) g e = absurd (none-some g e)
parts_one init threads (Some (OfThread steps) ∷ cs) g e =
    parts_one init (threads ++ steps ∷ []) cs g e

space_one : (cs : List (Option PartContent)) (g : GivenContent) → given_space cs ≡ Some g
    → output_names g ≡ 0 ∷ []
space_one [] g e = absurd (none-some g e)
space_one (None ∷ cs) g e = absurd (none-some g e)
space_one (Some (OfText clause) ∷ cs) g e = absurd (none-some g e)
space_one (Some (OfRole role history) ∷ cs) g e = absurd (none-some g e)
space_one (Some (OfFault fault) ∷ cs) g e = absurd (none-some g e)
space_one (Some (OfCondition quantifier condition) ∷ cs) g e = absurd (none-some g e)
space_one (Some (OfObserved observed) ∷ cs) g e = absurd (none-some g e)
space_one (Some (OfLocations locations) ∷ cs) g e = absurd (none-some g e)
space_one (Some (OfInit init) ∷ cs) g e = parts_one init [] cs g e
space_one (Some (OfThread steps) ∷ cs) g e = absurd (none-some g e)

asked_one : (kind : Quantifier) (proposition : Formula) (flags : List (Option (List ℕ)))
    (cs : List (Option PartContent)) (g : GivenContent)
    → verdict_given kind proposition cs flags ≡ Some g → output_names g ≡ 0 ∷ []
asked_one kind proposition flags [] g e = absurd (none-some g e)
asked_one kind proposition flags (None ∷ cs) g e = absurd (none-some g e)
asked_one kind proposition flags (Some (OfText clause) ∷ cs) g e = absurd (none-some g e)
asked_one kind proposition flags (Some (OfRole role history) ∷ cs) g e = absurd (none-some g e)
asked_one kind proposition flags (Some (OfFault fault) ∷ cs) g e = given_outputs e
asked_one kind proposition flags (Some (OfCondition quantifier condition) ∷ cs) g e =
    absurd (none-some g e)
asked_one kind proposition flags (Some (OfObserved observed) ∷ cs) g e = given_outputs e
asked_one kind proposition flags (Some (OfLocations locations) ∷ cs) g e = absurd (none-some g e)
asked_one kind proposition flags (Some (OfInit init) ∷ cs) g e = absurd (none-some g e)
asked_one kind proposition flags (Some (OfThread steps) ∷ cs) g e = absurd (none-some g e)

verdict_one : (flags : List (Option (List ℕ))) (cs : List (Option PartContent)) (g : GivenContent)
    → given_verdict cs flags ≡ Some g → output_names g ≡ 0 ∷ []
verdict_one flags [] g e = absurd (none-some g e)
verdict_one flags (None ∷ cs) g e = absurd (none-some g e)
verdict_one flags (Some (OfText clause) ∷ cs) g e = absurd (none-some g e)
verdict_one flags (Some (OfRole role history) ∷ cs) g e = absurd (none-some g e)
verdict_one flags (Some (OfFault fault) ∷ cs) g e = absurd (none-some g e)
verdict_one flags (Some (OfCondition kind proposition) ∷ cs) g e =
    asked_one kind proposition flags cs g e
verdict_one flags (Some (OfObserved observed) ∷ cs) g e = absurd (none-some g e)
verdict_one flags (Some (OfLocations locations) ∷ cs) g e = absurd (none-some g e)
verdict_one flags (Some (OfInit init) ∷ cs) g e = absurd (none-some g e)
verdict_one flags (Some (OfThread steps) ∷ cs) g e = absurd (none-some g e)

pub others_have_one_output : (t : StampedTexts) → OthersHaveOneOutput t
others_have_one_output t n g (inl space) e =
    let s : PartsState = stamped_state t in
    let keys : List Key = inputs t.parts.table n in
    space_one (contents s keys) g (sym (ap (λ (k : Kind). given_by s k keys) space) ∙ e)
others_have_one_output t n g (inr verdict) e =
    let s : PartsState = stamped_state t in
    let keys : List Key = inputs t.parts.table n in
    verdict_one (flags_read s keys keys) (contents s keys) g
    (sym (ap (λ (k : Kind). given_by s k keys) verdict) ∙ e)
