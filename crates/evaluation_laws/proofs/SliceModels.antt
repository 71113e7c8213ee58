-- The slice of a cell decides, if it does so for evaluations under two models without fault.
use Rattle.std.proofs.Common.{◌≡◌, ℕ, List, Option, sym, ap, ◌∙◌, subst}
use Rattle.text_values.specs.declared.test.Quantifier.{Quantifier}
use Rattle.text_values.specs.declared.test.Test.{Test}
use Rattle.text_values.specs.TestValue.{Content, Formula, content_of}
use Rattle.litmus_printing.specs.Printing.{condition_text}
use Rattle.text_values.specs.ModelValue.{Clause}
use Rattle.text_values.specs.declared.model.ModelText.{ModelText}
use Rattle.binding_kinds.specs.declared.fault.ModelFault.{ModelFault}
use Rattle.outcome_states.specs.declared.answer.Outcome.{Outcome}
use Rattle.outcome_states.specs.declared.answer.OutcomeResult.{OutcomeResult}
use Rattle.outcome_states.specs.declared.answer.OutcomeResult.TheVariants.{Refused, Evaluated}
use Rattle.outcome_states.specs.declared.answer.Refusal.TheVariants as refusals
use Rattle.bench_texts.specs.declared.model.NamedModel.{NamedModel}
use Rattle.bench_texts.specs.declared.reading.Reading.{Reading}
use Rattle.bench_texts.specs.declared.reading.Reading.TheVariants as readings
use Rattle.bench_texts.specs.Held.{IsModelRead}
use Rattle.bench_texts.specs.Readings.{IsModelReading}
use Rattle.bench_slices.specs.Slices.{Uses, OfFault, OfItems, slice, slice_by}
use Rattle.from_scratch.specs.FromScratch.{IsFaultOf, IsFaultless, IsResultOf, IsFromScratch}
use Rattle.from_scratch.proofs.Sole.{one_fault, fault_or_none}
use Rattle.evaluation_laws.specs.SliceLaws.{ItemsDecide, SlicesDecide}
use Rattle.evaluation_laws.proofs.Tests.{equal_tests}

-- ---- models with a fault

same_fault : (test other : Test) (model under : ModelText) (f g : ModelFault) (r : OutcomeResult)
    → f ≡ g → IsFaultOf model f → IsFaultOf under g → IsResultOf test model r
    → IsResultOf other under r
same_fault test other model under f g (Refused (refusals.Model k)) e a b h =
    subst (λ (l : ModelFault). IsFaultOf under l) (sym e ∙ one_fault _ _ _ _ f k a h) b
same_fault test other model under f g (Refused (refusals.Space x)) e a b h =
    absurd (fault_or_none _ _ _ _ f a h.0)
same_fault test other model under f g (Evaluated v) e a b h = absurd (fault_or_none _ _ _ _ f a h.0)

faulty : (test other : Test) (model under : ModelText) (o : Outcome) (f g : ModelFault)
    → IsFaultOf model f → IsFaultOf under g
    → OfFault f (content_of test).quantifier (content_of test).condition
    ≡ OfFault g (content_of other).quantifier (content_of other).condition
    → IsFromScratch test model o → IsFromScratch other under o
faulty test other model under o f g a b same h =
    let fault : f ≡ g = (cc) in
    let kind : (content_of test).quantifier ≡ (content_of other).quantifier = (cc) in
    let condition : (content_of test).condition ≡ (content_of other).condition = (cc) in
    record {
      kind = h.kind ∙ kind;
      condition =
          h.condition
          ∙ (ap (λ (q : Quantifier). condition_text q (content_of test).condition) kind
          ∙ ap (λ (c : Formula). condition_text (content_of other).quantifier c) condition);
      result = same_fault test other model under f g o.result fault a b h.result;
    }

-- ---- models without fault

sound_result : ItemsDecide → (test : Test) (model under : NamedModel) (r : OutcomeResult)
    → IsModelRead model → IsModelRead under → IsFaultless model.text → IsFaultless under.text
    → slice (content_of test) model ≡ slice (content_of test) under
    → IsResultOf test model.text r → IsResultOf test under.text r
sound_result decide test model under (Refused (refusals.Model k)) read reads none free same h =
    absurd (fault_or_none _ _ _ _ k h none)
sound_result decide test model under (Refused (refusals.Space x)) read reads none free same h =
    (free, h.1)
sound_result decide test model under (Evaluated e) read reads none free same h =
    (free, decide test model under e read reads none free same h.1)

sound : ItemsDecide → (test other : Test) (model under : NamedModel) (o : Outcome) → IsModelRead model
    → IsModelRead under → IsFaultless model.text → IsFaultless under.text
    → slice (content_of test) model ≡ slice (content_of other) under
    → content_of test ≡ content_of other → IsFromScratch test model.text o
    → IsFromScratch other under.text o
sound decide test other model under o read reads none free same content h =
    let one : slice (content_of test) model ≡ slice (content_of test) under = subst (λ (c : Content). slice (content_of test) model ≡ slice c under) (sym content) same in
    equal_tests test other under.text content o (record {
      kind = h.kind;
      condition = h.condition;
      result =
          sound_result decide test model under o.result read reads none free one
          h.result;
    })

-- ---- all models

content_same : (c d : Content) (ns ms : List (Option ℕ)) (cs ds : List (Option Clause))
    (us vs : List (Option Uses)) → OfItems c ns cs us ≡ OfItems d ms ds vs → c ≡ d
content_same c d ns ms cs ds us vs e = cc

by_readings : ItemsDecide
    → (test other : Test) (model under : NamedModel) (o : Outcome) (r q : Reading) → IsModelRead model
    → IsModelRead under → IsModelReading model.text.items.items r → IsModelReading under.text.items.items q
    → slice (content_of test) model ≡ slice (content_of other) under
    → slice_by (content_of test) model r ≡ slice_by (content_of other) under q
    → IsFromScratch test model.text o → IsFromScratch other under.text o
by_readings decide test other model under o (readings.Faulty f) (readings.Faulty g) read reads a b
    same e h = faulty test other model.text under.text o f g a b e h
by_readings decide test other model under o (readings.Faulty f) (readings.Sound resolved used) read
    reads a b same e h = cc
by_readings decide test other model under o (readings.Sound resolved used) (readings.Faulty g) read
    reads a b same e h = cc
by_readings decide test other model under o (readings.Sound resolved used)
    (readings.Sound others reached) read reads a b same e h =
    sound decide test other model under o read reads a.0.no_fault b.0.no_fault same
    (content_same _ _ _ _ _ _ _ _ e) h

pub items_suffice : ItemsDecide → SlicesDecide
items_suffice decide test other model under o read reads same h =
    by_readings decide test other model under o model.reading under.reading read reads read reads
    same same h
