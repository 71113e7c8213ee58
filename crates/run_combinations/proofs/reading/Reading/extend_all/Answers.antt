use Rattle.std.proofs.Common.{◌≡◌, ◌<◌, ◌+◌, length, get_or, arith, refl, rules, tests}
use Rattle.std.proofs.lemmas.List.{length-map}
use Rattle.store_orders.specs.Lists.{lists_of}
use Rattle.run_combinations.specs.Rounds.{AreNext}
use Rattle.run_combinations.proofs.Finding.{no_next, next_more, items_at, place_is}
use Rattle.run_combinations.proofs.reading.Reading.extend_all.Goals as goal

pub loop-place-init : goal.loop-place-init
loop-place-init c = record {
  next =
      no_next c.args.self.now c.args.load.now c.args.index (lists_of c.args.prefixes.now.items)
      c.clear.new.self.items c.clear.ensures.items;
  many = refl;
  rest = λ k d le. refl;
}

pub loop-place-preserved : goal.loop-place-preserved
loop-place-preserved c =
    let lt : c.loop-place.place < length c.args.prefixes.now.items = omega (arith, c.loop-place-test.true, c.len-place-end.ensures, c.args.prefixes.now.ok.0) in
    let here : c.replace-reads_from.result ≡ get_or c.args.prefixes.now.items c.loop-place.place c.replace-reads_from.result =
    place_is c.args.prefixes.now.items c.loop-place.prefixes.items c.loop-place.place
    c.replace-reads_from.result c.index_mut.result.now c.replace-reads_from.ensures.value
    c.index_mut.ensures.value
    (c.loop-place.invariant.rest c.loop-place.place c.index_mut.result.now (omega arith)) in
    let next : AreNext c.args.self.now c.args.load.now c.args.index (c.loop-place.place + 1) (lists_of c.args.prefixes.now.items) (lists_of c.extend.new.longer.items) =
    next_more c.args.self.now c.args.load.now c.args.index c.loop-place.place
    (lists_of c.args.prefixes.now.items) c.replace-reads_from.result.items
    (lists_of c.loop-place.longer.items) (lists_of c.extend.new.longer.items)
    (omega (arith, lt, length-map c.args.prefixes.now.items (λ v. v.items)))
    (items_at c.args.prefixes.now.items c.loop-place.place c.replace-reads_from.result
    c.replace-reads_from.result.items lt here refl) c.loop-place.invariant.next
    c.in_ok-extend.ensures in
    record { next = next; many = search (rules, tests); rest = search (rules, tests) }

pub returns-then-len-limit : goal.returns-then-len-limit
returns-then-len-limit c =
    let lt : c.loop-place.place < length c.args.prefixes.now.items = omega (arith, c.loop-place-test.true, c.len-place-end.ensures, c.args.prefixes.now.ok.0) in
    let here : c.replace-reads_from.result ≡ get_or c.args.prefixes.now.items c.loop-place.place c.replace-reads_from.result =
    place_is c.args.prefixes.now.items c.loop-place.prefixes.items c.loop-place.place
    c.replace-reads_from.result c.index_mut.result.now c.replace-reads_from.ensures.value
    c.index_mut.ensures.value
    (c.loop-place.invariant.rest c.loop-place.place c.index_mut.result.now (omega arith)) in
    let next : AreNext c.args.self.now c.args.load.now c.args.index (c.loop-place.place + 1) (lists_of c.args.prefixes.now.items) (lists_of c.extend.new.longer.items) =
    next_more c.args.self.now c.args.load.now c.args.index c.loop-place.place
    (lists_of c.args.prefixes.now.items) c.replace-reads_from.result.items
    (lists_of c.loop-place.longer.items) (lists_of c.extend.new.longer.items)
    (omega (arith, lt, length-map c.args.prefixes.now.items (λ v. v.items)))
    (items_at c.args.prefixes.now.items c.loop-place.place c.replace-reads_from.result
    c.replace-reads_from.result.items lt here refl) c.loop-place.invariant.next
    c.in_ok-extend.ensures in (
      c.loop-place.place + 1,
      lists_of c.extend.new.longer.items,
      omega (
        arith,
        c.if-len-limit.true,
        c.len.ensures,
        c.extend.new.longer.ok.0,
        length-map c.extend.new.longer.items (λ v. v.items),
      ),
      next,
    )
