-- Two models without fault that give a test one slice give it the same evaluations.
use Rattle.std.proofs.Common.{◌≡◌, List, [], ◌∷◌, ◌++◌, map, reverse, refl, sym, ap, ◌∙◌, subst}
use Rattle.std.specs.Arc.{arc_value}
use Rattle.std.specs.List.{AllByRecursion as Each}
use Rattle.std.proofs.lemmas.List.{append-nil, reverse-append, map-append}
use Rattle.text_values.specs.declared.test.Test.{Test}
use Rattle.text_values.specs.TestValue.{content_of}
use Rattle.binding_kinds.specs.Value.{bare_item}
use Rattle.binding_graph.specs.declared.resolved.ResolvedItem.{ResolvedItem}
use Rattle.order_growth.specs.Items.{ItemContent, item_content}
use Rattle.outcome_states.specs.declared.answer.Evaluation.{Evaluation}
use Rattle.bench_texts.specs.declared.model.NamedModel.{NamedModel}
use Rattle.bench_texts.specs.declared.reading.Reading.{Reading}
use Rattle.bench_texts.specs.declared.reading.Reading.TheVariants as readings
use Rattle.bench_texts.specs.Readings.{AreResolvedItems, IsModelReading}
use Rattle.binding_kinds.specs.Outermost.{outermost_names}
use Rattle.bench_slices.specs.Slices.{slice_by}
use Rattle.from_scratch.specs.Answers.{IsRisingRole}
use Rattle.from_scratch.specs.FromScratch.{AreItemsOf, IsFaultless, IsEvaluationOf}
use Rattle.from_scratch.proofs.Ordered.{all_reverse}
use Rattle.from_scratch.proofs.Rising.{resolved_rising}
use Rattle.from_scratch.proofs.Sole.{fault_or_none}
use Rattle.evaluation_laws.proofs.Resolving.{one_resolution}
use Rattle.evaluation_laws.specs.Alignment.{AreAligned}
use Rattle.evaluation_laws.proofs.ReadModels.{models_walked}
use Rattle.evaluation_laws.proofs.Slices.{clauses_same}
use Rattle.evaluation_laws.specs.SliceLaws.{ItemsDecide}
use Rattle.evaluation_laws.proofs.SayingAlike.{said_same, said_aligned}

map_reverse : {X Y : Type 0} (f : X → Y) (xs : List X) → map f (reverse xs) ≡ reverse (map f xs)
map_reverse f [] = refl
map_reverse f (x ∷ xs) =
    ap (λ (l : List _). map f l) (reverse-append (x ∷ []) xs)
    ∙ (map-append f (reverse xs) (x ∷ [])
    ∙ (ap (λ (l : List _). l ++ f x ∷ []) (map_reverse f xs)
    ∙ sym (reverse-append (f x ∷ []) (map f xs))))

rising_back : (m : NamedModel) (rs : List ResolvedItem) → AreResolvedItems m.text.items.items rs
    → Each (λ r. IsRisingRole r.role) (reverse rs)
rising_back m rs a =
    all_reverse (λ r. IsRisingRole r.role) rs (resolved_rising outermost_names 0
    (map bare_item m.text.items.items) rs a.no_fault a.as_resolved)

same_evaluation : (test : Test) (m n : NamedModel) (e : Evaluation) (r q : Reading)
    → IsModelReading m.text.items.items r → IsModelReading n.text.items.items q → IsFaultless m.text
    → IsFaultless n.text
    → slice_by (content_of test) m r ≡ slice_by (content_of test) n q → IsEvaluationOf test m.text e
    → IsEvaluationOf test n.text e
same_evaluation test m n e (readings.Faulty f) q a b none free same h =
    absurd (fault_or_none _ _ _ _ f a none)
same_evaluation test m n e (readings.Sound resolved used) (readings.Faulty g) a b none free same h =
    absurd (fault_or_none _ _ _ _ g b free)
same_evaluation test m n e (readings.Sound resolved used) (readings.Sound others reached) a b none
    free same h =
    let rs : List ResolvedItem = (arc_value resolved).items.items in
    let qs : List ResolvedItem = (arc_value others).items.items in
    let of_model : AreItemsOf m.text rs = (a.0.as_resolved, a.0.labelled) in
    let of_under : AreItemsOf n.text qs = (b.0.as_resolved, b.0.labelled) in
    let contents : map item_content h.0 ≡ map item_content rs = one_resolution m.text h.0 rs h.1 of_model in
    let turned : map item_content (reverse h.0) ≡ map item_content (reverse rs) = map_reverse item_content h.0 ∙ (ap (λ (l : List ItemContent). reverse l) contents ∙ sym (map_reverse item_content rs)) in
    let walked = models_walked m.text.items.items n.text.items.items rs qs used.items reached.items a.0 b.0 a.1 b.1 (clauses_same _ _ _ _ _ _ _ _ same) in
    let aligned : AreAligned walked.moves (reverse rs) (reverse qs) =
    subst (λ (l : List ResolvedItem). AreAligned walked.moves l (reverse qs))
    (append-nil (reverse rs))
    (subst (λ (l : List ResolvedItem). AreAligned walked.moves (reverse rs ++ []) l)
    (append-nil (reverse qs)) walked.aligned) in
    let own = said_same h.2 (reverse h.0) (reverse rs) turned (rising_back m rs a.0) h.4.0 h.4.1 h.4.2 in
    let said = said_aligned h.2 walked.moves (reverse rs) (reverse qs) aligned (rising_back n qs b.0) h.4.0 h.4.1 own in
    (qs, of_under, h.2, h.3, (h.4.0, h.4.1, said, h.4.3))

pub decide : ItemsDecide
decide test m n e read reads none free same h =
    same_evaluation test m n e m.reading n.reading read reads none free same h
