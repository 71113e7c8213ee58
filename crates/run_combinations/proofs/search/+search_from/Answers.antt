use Rattle.std.proofs.Common.{◌<◌, min, length, arith, rules, tests}
use Rattle.run_combinations.specs.Candidates.{AreSmall}
use Rattle.run_combinations.specs.Search.{combinations, prefix_lists, tally, none}
use Rattle.run_combinations.proofs.Cutting.{same_back, cut_back, longer_back, joined_back, told_back}
use Rattle.run_combinations.proofs.Searching.{rest_of, last_small, goes_on_small, no_thread, over_there, found_there, keyed, left_out, all_found}
use Rattle.run_combinations.proofs.search.+search_from.Goals as goal
use Rattle.run_combinations.proofs.search.+search_from.Goals.{then-fits+in_ok-push+in_ok-search_from+else-not-branch, else-fits}

pub returns-then-is_empty-clause-found : goal.returns-then-is_empty-clause-found
returns-then-is_empty-clause-found t c =
    λ key fk tk fit few. no_thread (min c.args.locations 128) (prefix_lists c.args.prefix.now)
    c.args.threads.now c.in_ok-is_few.is_few (tally c.args.found.now) (tally c.judge.new.self)
    (search (rules, tests)) c.in_ok-is_few.ensures fit few

pub loop-run-init : goal.loop-run-init
loop-run-init t c =
    record { found = λ key fk tk fit few. (none, few); back = same_back c.args.prefix.now }

pub returns-then-not-branch-clause-found : goal.returns-then-not-branch-clause-found
returns-then-not-branch-clause-found t c = λ key fk tk fit few.
    over_there (min c.args.locations 128) (prefix_lists c.args.prefix.now) c.args.threads.now
    c.deref-part-items.result.now c.loop-run.run c.part-item.result
    (prefix_lists c.push.new.self) c.in_ok-search_from.field-0 (tally c.args.found.now)
    (tally c.loop-run.found) (tally c.search_from.new.found)
    (record {
      thread = c.index-threads-0.result;
      some = (let s : 0 < length c.args.threads.now = search (rules, tests) in s);
      first = c.index-threads-0.is;
      runs = c.deref-part-items.ensures.value;
      within = omega arith;
      one = c.part-item.is;
      longer =
          longer_back c.args.prefix.now c.loop-run.prefix c.push.new.self c.loop-run.run
          c.part-item.result c.loop-run.invariant.back c.in_ok-push.ensures.lists;
      fit = fit;
    })
    c.if-not-branch.true (c.loop-run.invariant.found key fk tk fit few) (keyed key
    (min c.args.locations 128) c.args.prefix.now c.push.new.self c.args.threads.now
    c.deref-part-items.result.now c.loop-run.run c.part-item.result
    c.in_ok-search_from.field-0 (tally c.loop-run.found) (tally c.search_from.new.found)
    (record {
      thread = c.index-threads-0.result;
      some = (let s : 0 < length c.args.threads.now = search (rules, tests) in s);
      first = c.index-threads-0.is;
      runs = c.deref-part-items.ensures.value;
      within = omega arith;
      one = c.part-item.is;
      longer =
          longer_back c.args.prefix.now c.loop-run.prefix c.push.new.self
          c.loop-run.run c.part-item.result c.loop-run.invariant.back
          c.in_ok-push.ensures.lists;
      fit = fit;
    })
    (joined_back c.args.prefix.now c.loop-run.prefix c.push.new.self c.part-item.result
    c.loop-run.invariant.back c.in_ok-push.ensures.keys) fk tk
    c.in_ok-search_from.ensures.found)

pub loop-run-preserved : goal.loop-run-preserved
loop-run-preserved t c =
    elim c.if-fits.branch [
      | then-fits+in_ok-push+in_ok-search_from+else-not-branch w ↦ rw (w.found-is, w.prefix-is)
          (record {
            found = λ key fk tk fit few.
                found_there (min c.args.locations 128) (prefix_lists c.args.prefix.now)
                c.args.threads.now c.deref-part-items.result.now c.loop-run.run c.part-item.result
                (prefix_lists w.push.new.self) w.in_ok-search_from.field-0 (tally c.args.found.now)
                (tally c.loop-run.found) (tally w.search_from.new.found)
                (record {
                  thread = c.index-threads-0.result;
                  some = (let s : 0 < length c.args.threads.now = search (rules, tests) in s);
                  first = c.index-threads-0.is;
                  runs = c.deref-part-items.ensures.value;
                  within = omega arith;
                  one = c.part-item.is;
                  longer =
                      longer_back c.args.prefix.now c.loop-run.prefix w.push.new.self
                      c.loop-run.run c.part-item.result c.loop-run.invariant.back
                      w.in_ok-push.ensures.lists;
                  fit = fit;
                })
                w.if-not-branch.false (c.loop-run.invariant.found key fk tk fit few)
                (keyed key (min c.args.locations 128) c.args.prefix.now w.push.new.self
                c.args.threads.now c.deref-part-items.result.now c.loop-run.run
                c.part-item.result w.in_ok-search_from.field-0 (tally c.loop-run.found)
                (tally w.search_from.new.found)
                (record {
                  thread = c.index-threads-0.result;
                  some =
                      (let s : 0 < length c.args.threads.now = search (rules, tests) in
                      s);
                  first = c.index-threads-0.is;
                  runs = c.deref-part-items.ensures.value;
                  within = omega arith;
                  one = c.part-item.is;
                  longer =
                      longer_back c.args.prefix.now c.loop-run.prefix w.push.new.self
                      c.loop-run.run c.part-item.result c.loop-run.invariant.back
                      w.in_ok-push.ensures.lists;
                  fit = fit;
                })
                (joined_back c.args.prefix.now c.loop-run.prefix w.push.new.self
                c.part-item.result c.loop-run.invariant.back w.in_ok-push.ensures.keys) fk
                tk w.in_ok-search_from.ensures.found);
            back =
                cut_back c.args.prefix.now c.loop-run.prefix w.push.new.self
                w.search_from.new.prefix
                w.cut.new.self c.end-end.result c.loop-run.run c.part-item.result c.end-end.ensures
                c.loop-run.invariant.back w.in_ok-push.ensures.lists
                (w.in_ok-search_from.ensures.prefix (search (rules, tests))) w.cut.ensures.lists
                w.cut.ensures.keys;
          })
      | else-fits w ↦ rw (w.found-is, w.prefix-is) (record {
        found = λ key fk tk fit few.
            left_out key (min c.args.locations 128) c.args.prefix.now c.args.threads.now
            c.index-threads-0.result c.deref-part-items.result.now c.loop-run.run
            c.part-item.result c.stores_of-later.result c.fits.result (tally c.args.found.now)
            (tally c.loop-run.found)
            (let s : 0 < length c.args.threads.now = search (rules, tests) in s)
            c.index-threads-0.is c.deref-part-items.ensures.value (omega arith) c.part-item.is
            fk tk c.stores_of-later.ensures w.if-fits.false
            (told_back c.args.prefix.now c.loop-run.prefix c.part-item.result
            c.stores_of-later.result c.fits.result c.loop-run.invariant.back c.fits.ensures)
            (c.loop-run.invariant.found key fk tk fit few);
        back = c.loop-run.invariant.back;
      })
    ]

pub returns-clause-found : goal.returns-clause-found
returns-clause-found t c = λ key fk tk fit few.
    all_found (min c.args.locations 128) (prefix_lists c.args.prefix.now) c.args.threads.now
    c.index-threads-0.result c.deref-part-items.result.now c.loop-run.run
    (tally c.args.found.now) (tally c.loop-run.found)
    (let s : 0 < length c.args.threads.now = search (rules, tests) in s) c.index-threads-0.is
    c.deref-part-items.ensures.value (omega arith)
    (c.loop-run.invariant.found key fk tk fit few)

pub returns-clause-prefix : goal.returns-clause-prefix
returns-clause-prefix t c = λ is. c.loop-run.invariant.back.lists

pub judge-requires : goal.judge-requires
judge-requires t c =
    last_small (prefix_lists c.args.prefix.now) c.args.threads.now (search (rules, tests))
    c.requires

pub search_from-requires : goal.search_from-requires
search_from-requires t c =
    let some : 0 < length c.args.threads.now = search (rules, tests) in
    let small : AreSmall (combinations (prefix_lists c.push.new.self) (rest_of c.args.threads.now)) = goes_on_small (prefix_lists c.args.prefix.now) c.args.threads.now c.index-threads-0.result c.deref-part-items.result.now c.loop-run.run c.part-item.result (prefix_lists c.push.new.self) some c.index-threads-0.is c.deref-part-items.ensures.value (omega arith) c.part-item.is (longer_back c.args.prefix.now c.loop-run.prefix c.push.new.self c.loop-run.run c.part-item.result c.loop-run.invariant.back c.in_ok-push.ensures.lists) c.requires in
    search rules
