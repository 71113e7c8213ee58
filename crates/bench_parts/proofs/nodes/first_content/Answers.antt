use Rattle.std.proofs.Common.{ap, sym, ◌∙◌}
use Rattle.bench_parts.specs.Contents.{parts_state}
use Rattle.bench_parts.proofs.Among.{contents_at, contents_are}
use Rattle.bench_parts.proofs.nodes.first_content.Goals as goal

pub returns-in-Some : goal.returns-in-Some
returns-in-Some c =
    let s = parts_state c.args.parts.now c.args.tests.now in
    let first = ap (contents_at s c.args.test) c.in-Some.ensures in
    let all = contents_are s c.args.test c.args.keys.now in
    cc

pub returns-in-None : goal.returns-in-None
returns-in-None c =
    let s = parts_state c.args.parts.now c.args.tests.now in
    ap (contents_at s c.args.test) c.in-None.ensures
    ∙ sym (contents_are s c.args.test c.args.keys.now)
