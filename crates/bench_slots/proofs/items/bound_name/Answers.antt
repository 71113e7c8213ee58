use Rattle.std.proofs.Common.{get_or, ap, sym, ◌∙◌, arith}
use Rattle.binding_graph.specs.declared.resolved.Role.{Role}
use Rattle.bench_items.specs.Items.{role_content}
use Rattle.bench_items.specs.Naming.{seen_names_in}
use Rattle.bench_slots.specs.Slots.{no_name}
use Rattle.bench_slots.proofs.Finding.{body_name_at}
use Rattle.bench_slots.proofs.items.bound_name.Goals as goal

pub returns-then-position-len : goal.returns-then-position-len
returns-then-position-len c =
    let bodies = c.in-Group.bodies in
    c.as_bytes.ensures
    ∙ body_name_at bodies.items c.args.position c.index-body.result.now
    (omega (arith, c.if-position-len.true, c.len.ensures, bodies.ok.0)) c.index-body.ensures
    ∙ ap (λ (r : Role). get_or (seen_names_in (role_content r)) c.args.position no_name)
    (sym c.in-Group.is)
