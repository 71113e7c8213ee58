use Rattle.std.proofs.Common.{◌≡◌, ℕ, ◌<◌, List, ◌∙◌, ap, reverse, map, arith, length}
use Rattle.binding_kinds.specs.Value.{entry_of}
use Rattle.binding_kinds.specs.Kinds.{found}
use Rattle.binding_kinds.specs.Senses.{sense_of, under_of}
use Rattle.fault_texts.specs.Search.{signed_fault}
use Rattle.fault_texts.proofs.Spread.{size_is, application, next_argument, all_arguments}
use Rattle.fault_texts.proofs.expression.+expression_fault.Goals as goal

pub loop-index-init : goal.loop-index-init
loop-index-init t c = λ ss kept.
    let names = reverse (map entry_of c.args.entries.now) in
    let e = c.args.term.now in
    let n = c.in-Applied.name in
    let args = c.in-Applied.arguments in
    let own = c.application_fault-own.result in
    application ss names e n args c.in-Applied.is c.args.from c.args.under
    c.deref-argument-items.result.now c.deref-in-Applied.result.now own _
    c.deref-argument-items.ensures.value c.deref-in-Applied.ensures.value
    (c.application_fault-own.ensures ss kept (size_is ss names e n args c.in-Applied.is
    c.judge-judged-in-Applied.result.size c.deref-in-Applied.result.now
    c.deref-in-Applied.ensures.value
    (c.judge-judged-in-Applied.ensures.size_in ss kept)))
    (c.signed_fault-all.ensures
    ∙ ap (λ (b : List ℕ). signed_fault own b) c.as_bytes-in-Applied.ensures)

pub loop-index-preserved : goal.loop-index-preserved
loop-index-preserved t c = λ ss kept.
    let names = reverse (map entry_of c.args.entries.now) in
    let xs = c.deref-argument-items.result.now in
    let n = c.in-Applied.name in
    let i = c.loop-index.index in
    let lt : i < length xs = omega (arith, c.loop-index-test.true) in
    let count : c.len-count.result ≡ length xs = let k = c.in-Applied.arguments.ok in let m = c.len-count.ensures in let v = ap length c.deref-argument-items.ensures.value in omega (arith, k, m, v) in
    next_argument ss names c.args.from c.args.under
    (under_of (sense_of ss (length xs) (found names n))) xs i c.argument-item.result _ _ _
    c.is_under-is_complemented.result c.either-inner.result _ lt c.argument-item.is
    (c.is_under-is_complemented.ensures ss kept (omega (arith, lt, count))
    ∙ ap (λ (m : ℕ). under_of (sense_of ss m (found names n)) i) count)
    c.either-inner.ensures
    (c.expression_fault-one.ensures ss kept) c.or_later-all.ensures
    (c.loop-index.invariant ss kept)

pub returns-after-loop-index : goal.returns-after-loop-index
returns-after-loop-index t c = λ ss kept.
    let names = reverse (map entry_of c.args.entries.now) in
    let xs = c.deref-argument-items.result.now in
    all_arguments ss names c.args.from c.args.under
    (under_of (sense_of ss (length xs) (found names c.in-Applied.name))) xs c.loop-index.index _
    _ (omega (arith, c.loop-index-test.false)) (c.loop-index.invariant ss kept)
