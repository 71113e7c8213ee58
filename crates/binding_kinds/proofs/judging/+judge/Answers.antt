use Rattle.std.proofs.Common.{◌≡◌, sym, ◌∙◌, ap, reverse, map, min, ℕ, arith, refl, length, ◌<◌, ◌||◌}
use Rattle.binding_kinds.specs.Value.{entry_of}
use Rattle.binding_kinds.specs.Kinds.{found}
use Rattle.binding_kinds.specs.Formula.{factor_of}
use Rattle.binding_kinds.specs.Senses.{sense_of}
use Rattle.binding_kinds.proofs.Applications.{unfit, next_combination, next_size, next_fault, finished}
use Rattle.binding_kinds.proofs.judging.+judge.Goals as goal

pub returns-in-Err-clause-kind_in : goal.returns-in-Err-clause-kind_in
returns-in-Err-clause-kind_in t c = λ ss kept.
    c.judged_faulty.ensures.kind
    ∙ (unfit ss (reverse (map entry_of c.args.entries.now)) c.args.from c.args.under
    c.args.term.now c.in-Applied.name c.in-Applied.arguments c.in-Err.fault c.in-Applied.is
    (ap
    (λ (n : ℕ). sense_of ss n (found (reverse (map entry_of c.args.entries.now))
    c.in-Applied.name))
    (let k = c.in-Applied.arguments.ok in let m = c.len.ensures in omega (arith, k, m))
    ∙ c.in-Err.ensures ss kept)).0

pub returns-in-Err-clause-size_in : goal.returns-in-Err-clause-size_in
returns-in-Err-clause-size_in t c = λ ss kept.
    ap (λ (n : ℕ). min n 4097) (c.judged_faulty.ensures.size
    ∙ (unfit ss (reverse (map entry_of c.args.entries.now)) c.args.from c.args.under
    c.args.term.now c.in-Applied.name c.in-Applied.arguments c.in-Err.fault c.in-Applied.is
    (ap
    (λ (n : ℕ). sense_of ss n (found (reverse (map entry_of c.args.entries.now))
    c.in-Applied.name))
    (let k = c.in-Applied.arguments.ok in let m = c.len.ensures in omega (arith, k, m))
    ∙ c.in-Err.ensures ss kept)).1)

pub returns-in-Err-clause-first_within : goal.returns-in-Err-clause-first_within
returns-in-Err-clause-first_within t c = λ ss kept.
    c.judged_faulty.ensures.fault
    ∙ (unfit ss (reverse (map entry_of c.args.entries.now)) c.args.from c.args.under
    c.args.term.now c.in-Applied.name c.in-Applied.arguments c.in-Err.fault c.in-Applied.is
    (ap
    (λ (n : ℕ). sense_of ss n (found (reverse (map entry_of c.args.entries.now))
    c.in-Applied.name))
    (let k = c.in-Applied.arguments.ok in let m = c.len.ensures in omega (arith, k, m))
    ∙ c.in-Err.ensures ss kept)).2

pub loop-index-init : goal.loop-index-init
loop-index-init t c = λ ss s kept one long. record {
  combination = let e = c.of-all.ensures.combination in omega (arith, e);
  size = λ small. let e = c.of-all.ensures.size ∙ one.constant small in omega (arith, e);
  fault = rw c.of-all.ensures.fault refl;
}

pub loop-index-preserved : goal.loop-index-preserved
loop-index-preserved t c = λ ss s kept one long.
    let i = c.loop-index.invariant ss s kept one long in
    let names = reverse (map entry_of c.args.entries.now) in
    let xs = c.deref-argument-items.result.now in
    let p = c.loop-index.index in
    let lt : p < length xs = omega (arith, c.loop-index-test.true) in
    let below : p < s.arity = omega (arith, lt, long) in record {
      combination =
          next_combination ss names xs p c.argument-item.result c.loop-index.all.combination
          c.with-all.result.combination c.judge-one.result.kind s.arity (sym long) one.few lt
          c.argument-item.is (c.judge-one.ensures.kind_in ss kept) c.with-all.ensures.combination
          i.combination;
      size =
          λ small. next_size ss names (factor_of s.formula) xs p c.argument-item.result
          c.loop-index.all.size c.with-all.result.size _ c.judge-one.result.size _ lt
          c.argument-item.is (one.factor small p below) (c.judge-one.ensures.size_in ss kept)
          c.with-all.ensures.size (i.size small);
      fault =
          next_fault ss names c.args.from c.args.under s.is_under xs p c.argument-item.result
          c.loop-index.all.fault c.with-all.result.fault c.judge-one.result.fault
          c.either-inner.result _ lt c.argument-item.is
          (c.either-inner.ensures
          ∙ ap (λ b. c.args.under || b) (c.is_under.ensures ∙ one.under p below))
          (c.judge-one.ensures.first_within ss kept) c.with-all.ensures.fault i.fault;
    }

pub returns-after-loop-index-clause-kind_in : goal.returns-after-loop-index-clause-kind_in
returns-after-loop-index-clause-kind_in t c = λ ss kept.
    let h = c.in-Ok.ensures ss kept in
    let v = c.deref-argument-items.ensures.value in
    let inv = λ (long : length c.in-Applied.arguments.items ≡ h.0.arity). c.loop-index.invariant ss h.0 kept h.2 (ap length v ∙ long) in
    (finished c.args.functions.now ss (reverse (map entry_of c.args.entries.now)) c.args.from
    c.args.under c.args.term.now c.in-Applied.name c.in-Applied.arguments c.in-Ok.function.now
    h.0 c.len.result c.loop-index.index c.loop-index.all.combination c.loop-index.all.size
    c.loop-index.all.fault c.applied.result.kind c.applied.result.size c.applied.result.fault
    kept c.in-Applied.is
    (let k = c.in-Applied.arguments.ok in let m = c.len.ensures in omega (arith, k, m)) h.1 h.2
    (let q = ap length v in omega (arith, q, c.loop-index-test.false))
    (λ long. rw (sym v) (inv long).combination) (λ long. rw (sym v) (inv long).size)
    (λ long. rw (sym v) (inv long).fault)
    c.applied.ensures.oversized c.applied.ensures.large c.applied.ensures.small).0

pub returns-after-loop-index-clause-size_in : goal.returns-after-loop-index-clause-size_in
returns-after-loop-index-clause-size_in t c = λ ss kept.
    let h = c.in-Ok.ensures ss kept in
    let v = c.deref-argument-items.ensures.value in
    let inv = λ (long : length c.in-Applied.arguments.items ≡ h.0.arity). c.loop-index.invariant ss h.0 kept h.2 (ap length v ∙ long) in
    (finished c.args.functions.now ss (reverse (map entry_of c.args.entries.now)) c.args.from
    c.args.under c.args.term.now c.in-Applied.name c.in-Applied.arguments c.in-Ok.function.now
    h.0 c.len.result c.loop-index.index c.loop-index.all.combination c.loop-index.all.size
    c.loop-index.all.fault c.applied.result.kind c.applied.result.size c.applied.result.fault
    kept c.in-Applied.is
    (let k = c.in-Applied.arguments.ok in let m = c.len.ensures in omega (arith, k, m)) h.1 h.2
    (let q = ap length v in omega (arith, q, c.loop-index-test.false))
    (λ long. rw (sym v) (inv long).combination) (λ long. rw (sym v) (inv long).size)
    (λ long. rw (sym v) (inv long).fault)
    c.applied.ensures.oversized c.applied.ensures.large c.applied.ensures.small).1

pub returns-after-loop-index-clause-first_within : goal.returns-after-loop-index-clause-first_within
returns-after-loop-index-clause-first_within t c = λ ss kept.
    let h = c.in-Ok.ensures ss kept in
    let v = c.deref-argument-items.ensures.value in
    let inv = λ (long : length c.in-Applied.arguments.items ≡ h.0.arity). c.loop-index.invariant ss h.0 kept h.2 (ap length v ∙ long) in
    (finished c.args.functions.now ss (reverse (map entry_of c.args.entries.now)) c.args.from
    c.args.under c.args.term.now c.in-Applied.name c.in-Applied.arguments c.in-Ok.function.now
    h.0 c.len.result c.loop-index.index c.loop-index.all.combination c.loop-index.all.size
    c.loop-index.all.fault c.applied.result.kind c.applied.result.size c.applied.result.fault
    kept c.in-Applied.is
    (let k = c.in-Applied.arguments.ok in let m = c.len.ensures in omega (arith, k, m)) h.1 h.2
    (let q = ap length v in omega (arith, q, c.loop-index-test.false))
    (λ long. rw (sym v) (inv long).combination) (λ long. rw (sym v) (inv long).size)
    (λ long. rw (sym v) (inv long).fault)
    c.applied.ensures.oversized c.applied.ensures.large c.applied.ensures.small).2
