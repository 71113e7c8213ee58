use Rattle.std.proofs.Common.{◌<◌, ℕ, List, Vec, length, map, ap, sym, subst, ◌∙◌}
use Rattle.std.specs.declared.alloc.Global.{Global}
use Rattle.std.proofs.lemmas.Bool.{iff_false}
use Rattle.text_values.specs.TestValue.{content_of}
use Rattle.plain_runs.specs.declared.run.Run as code
use Rattle.plain_events.specs.Choices.{pick, lists_as}
use Rattle.plain_events.specs.Combinations.{run_lists_as}
use Rattle.plain_events.proofs.Combining.{too_many, few, all_combined}
use Rattle.plain_events.proofs.combination.combinations.Goals as goal

pub returns-then-has_many : goal.returns-then-has_many
returns-then-has_many c =
    too_many (content_of c.args.test.now) c.in_ok-lists.lists.items c.deref.result.now
    c.in_ok-counts.counts.items c.deref-2.result.now c.in_ok-all.all.items c.in_ok-lists.ensures
    c.deref.ensures.value c.in_ok-counts.ensures c.deref-2.ensures.value c.in_ok-all.ensures
    (subst (λ (l : List (Vec ℕ Global)). 1048576 < length l) c.deref-3.ensures.value
    (c.has_many.ensures.0 c.if-has_many.true))

pub returns : goal.returns
returns c =
    let t = content_of c.args.test.now in
    let lists = c.in_ok-lists.lists.items in
    let all = c.in_ok-all.all.items in (
      few t lists c.deref.result.now c.in_ok-counts.counts.items c.deref-2.result.now all
          c.in_ok-lists.ensures c.deref.ensures.value c.in_ok-counts.ensures c.deref-2.ensures.value
          c.in_ok-all.ensures
          (λ many. iff_false c.has_many.ensures c.if-has_many.false
          (subst (λ (l : List (Vec ℕ Global)). 1048576 < length l) (sym c.deref-3.ensures.value) many)),
      all_combined t lists c.deref.result.now c.in_ok-counts.counts.items c.deref-2.result.now all
          c.in_ok-lists.ensures c.deref.ensures.value c.in_ok-counts.ensures c.deref-2.ensures.value
          c.in_ok-all.ensures (run_lists_as c.in_ok-combinations.combinations.items)
          (c.in_ok-combinations.ensures
          ∙ ap (λ (l : List (Vec code.Run Global)). map (pick (run_lists_as l)) (lists_as c.deref-5.result.now)) c.deref-4.ensures.value
          ∙ ap (λ (l : List (Vec ℕ Global)). map (pick (run_lists_as lists)) (lists_as l)) c.deref-5.ensures.value),
    )
