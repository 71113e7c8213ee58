use Rattle.std.proofs.Common.{length, refl}
use Rattle.std.proofs.lemmas.Option.{slice_get_read}
use Rattle.bench_nodes.proofs.Lookups.{placed_at}
use Rattle.bench_nodes.proofs.find.placed_index.Goals as goal

pub returns-then-row-id : goal.returns-then-row-id
returns-then-row-id c =
    let got = slice_get_read c.args.tests.now (length c.args.tests.now) c.place_of-at.result c.in_ok-row.row.now refl c.in_ok-row.ensures.lookup.3.0 c.in_ok-row.ensures.lookup.1 in
    placed_at c.args.tests.now c.args.id c.place_of-at.result c.in_ok-row.row.now c.requires got
    c.if-row-id.true
