use Rattle.std.proofs.Common.{◌∙◌, ℕ, ap, sym, length, slice_get, refl}
use Rattle.std.proofs.lemmas.Option.{slice_get_read, slice_get_past}
use Rattle.bench_nodes.proofs.Lookups.{row_at}
use Rattle.bench_nodes.proofs.find.row_of.Goals as goal

pub returns-in-Some : goal.returns-in-Some
returns-in-Some c =
    let tests = c.args.table.now.tests.items in
    let got = slice_get_read c.deref.result.now (length c.deref.result.now) c.test_index.result c.in-Some.row.now refl c.in-Some.ensures.lookup.3.0 c.in-Some.ensures.lookup.1 in
    sym (rw c.deref.ensures.value at got) ∙ ap (λ (i : ℕ). slice_get tests i) c.test_index.ensures
    ∙ row_at tests c.args.id

pub returns-in-None : goal.returns-in-None
returns-in-None c =
    let tests = c.args.table.now.tests.items in
    let past = slice_get_past c.deref.result.now c.test_index.result c.in-None.ensures.lookup.3 in
    sym (rw c.deref.ensures.value at past) ∙ ap (λ (i : ℕ). slice_get tests i) c.test_index.ensures
    ∙ row_at tests c.args.id
