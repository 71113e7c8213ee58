use Rattle.std.proofs.Common.{◌≡◌, ◌<◌, ◌≤◌, length, Some, ap, sym, ◌∙◌, arith}
use Rattle.bench_parts.specs.Contents.{parts_state}
use Rattle.bench_parts.specs.Views.{test_view, view_of}
use Rattle.bench_parts.proofs.SpaceParts.{no_space, space_is, threads_lack}
use Rattle.bench_parts.proofs.nodes.space_parts.Goals as goal

found_in : (c : goal.Else-count-len)
    → view_of c.args.parts.now.table.tests.items c.args.tests.now c.args.parts.now.locations.items
    c.args.test ≡ Some (test_view c.in-Some.found)
found_in c =
    let parts = c.args.parts.now in
    let tests = c.args.tests.now in
    sym (c.in-Some.ensures
    ∙ ap (λ l. view_of l tests c.deref-2.result.now c.args.test) c.deref.ensures.value
    ∙ ap (λ l. view_of parts.table.tests.items tests l c.args.test) c.deref-2.ensures.value)

pub returns-then-count-len : goal.returns-then-count-len
returns-then-count-len c =
    let parts = c.args.parts.now in
    let tests = c.args.tests.now in
    let found = sym (c.in-Some.ensures ∙ ap (λ l. view_of l tests c.deref-2.result.now c.args.test) c.deref.ensures.value ∙ ap (λ l. view_of parts.table.tests.items tests l c.args.test) c.deref-2.ensures.value) in
    let v = test_view c.in-Some.found in
    let h : length v.row.threads.items ≤ length v.test.threads.items = omega (arith, c.if-count-len.true, c.len-count.ensures, c.len.ensures) in
    let space = space_is (parts_state parts tests) c.args.test v found h in
    cc

pub returns-else-count-len : goal.returns-else-count-len
returns-else-count-len c =
    let v = test_view c.in-Some.found in
    let h : length v.test.threads.items < length v.row.threads.items = omega (arith, c.if-count-len.false, c.len-count.ensures, c.len.ensures) in
    sym (threads_lack (parts_state c.args.parts.now c.args.tests.now) c.args.test v (found_in c) h)

pub returns-in-None : goal.returns-in-None
returns-in-None c =
    let parts = c.args.parts.now in
    let tests = c.args.tests.now in
    let lost = sym (c.in-None.ensures ∙ ap (λ l. view_of l tests c.deref-2.result.now c.args.test) c.deref.ensures.value ∙ ap (λ l. view_of parts.table.tests.items tests l c.args.test) c.deref-2.ensures.value) in
    sym (no_space (parts_state parts tests) c.args.test lost)
