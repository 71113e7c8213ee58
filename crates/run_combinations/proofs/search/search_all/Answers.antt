use Rattle.std.proofs.Common.{ℕ, ◌≡◌, min, length, ap, rules}
use Rattle.run_combinations.specs.Search.{prefix_lists, tally}
use Rattle.run_combinations.proofs.Searching.{first_small, searched_layout}
use Rattle.run_combinations.proofs.search.search_all.Goals as goal

pub returns : goal.returns
returns c = λ key k fit empty.
    searched_layout key c.args.layout.now c.in_ok-prefix.prefix c.deref.result.now
    (min c.len-locations.result 128) c.in_ok-is_few.is_few (tally c.args.found.now)
    (tally c.search_from.new.found) c.in_ok-prefix.ensures.made c.in_ok-prefix.ensures.keys
    c.deref.ensures.value
    (let e : c.len-locations.result ≡ length c.args.layout.now.initial.items = search rules in
    ap (λ (n : ℕ). min n 128) e) empty k fit c.in_ok-is_few.ensures.found

pub search_from-requires : goal.search_from-requires
search_from-requires c =
    first_small c.args.layout.now (prefix_lists c.in_ok-prefix.prefix) c.deref.result.now
    c.in_ok-prefix.ensures.made c.deref.ensures.value c.requires
