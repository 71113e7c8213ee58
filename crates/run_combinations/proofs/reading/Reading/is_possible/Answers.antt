use Rattle.std.proofs.Common.{List, IsTrue, slice_get, length, ap, arith, rules, refl, sym, ◌∙◌}
use Rattle.std.proofs.lemmas.Option.{slice_get_read}
use Rattle.run_combinations.specs.declared.reading.Load.{Load}
use Rattle.run_combinations.proofs.Finding.{all_there, one_missing, there_more}
use Rattle.run_combinations.proofs.reading.Reading.is_possible.Goals as goal

pub returns-then-not-has : goal.returns-then-not-has
returns-then-not-has c =
    one_missing c.args.self.now c.derived-derived.result c.loop-load.load-index c.load-item.result
    c.derived-derived.ensures
    (ap (λ (l : List Load). slice_get l c.loop-load.load-index)
    (sym c.deref-load-items.ensures.value)
    ∙ slice_get_read c.deref-load-items.result.now (length c.deref-load-items.result.now)
    c.loop-load.load-index c.load-item.result refl (omega arith) c.load-item.is)
    (λ there. let t : IsTrue c.has.result = c.has.ensures.1 there in search rules)

pub loop-load-preserved : goal.loop-load-preserved
loop-load-preserved c =
    there_more c.derived-derived.result c.args.self.now.loads.items c.loop-load.load-index
    c.load-item.result
    (ap (λ (l : List Load). slice_get l c.loop-load.load-index)
    (sym c.deref-load-items.ensures.value)
    ∙ slice_get_read c.deref-load-items.result.now (length c.deref-load-items.result.now)
    c.loop-load.load-index c.load-item.result refl (omega arith) c.load-item.is)
    (c.if-not-has.ensures.0 (search rules)) c.loop-load.invariant

pub returns : goal.returns
returns c =
    all_there c.args.self.now c.derived-derived.result c.derived-derived.ensures
    (λ k x lt is. c.loop-load.invariant k x
    (let e = ap (λ (l : List Load). length l) c.deref-load-items.ensures.value in
    omega (arith, lt, e)) is)
