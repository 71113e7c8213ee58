use Rattle.std.proofs.Common.{◌≡◌, ◌∙◌, sym, length, refl, true}
use Rattle.std.proofs.lemmas.Option.{slice_get_read}
use Rattle.bench_nodes.specs.Places.{are_apart}
use Rattle.bench_nodes.proofs.Lookups.{keys_placed}
use Rattle.bench_nodes.proofs.find.slot_keys.Goals as goal

pub returns-in-Some-get : goal.returns-in-Some-get
returns-in-Some-get c =
    let slots = c.args.table.now.slots.items in
    let apart : are_apart slots ≡ true = rw c.if-table.true at c.args.table.now.apart in
    let got = slice_get_read c.deref-in-Some.result.now (length c.deref-in-Some.result.now) c.in-Some.at c.in-Some-get.slot.now refl c.in-Some-get.ensures.lookup.3.0 c.in-Some-get.ensures.lookup.1 in
    c.deref-in-Some-get.ensures.value
    ∙ keys_placed slots c.args.kind c.args.of c.in-Some.at c.in-Some-get.slot.now apart
    (rw c.deref-then-table.ensures.value at c.in-Some.ensures)
    (sym (rw c.deref-in-Some.ensures.value at got))
