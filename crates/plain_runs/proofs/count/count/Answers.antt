use Rattle.std.proofs.Common.{ℕ, List, ◌+◌, map, take, count_by, sum_by, arith, ap, sym, ◌∙◌}
use Rattle.std.proofs.Math.ListN.{get_or-map}
use Rattle.std.proofs.lemmas.List.{length-map}
use Rattle.std.proofs.lemmas.List.Sums.{sum_by_more}
use Rattle.text_values.specs.declared.test.Step.{Step}
use Rattle.text_values.specs.declared.test.Thread.{Thread}
use Rattle.text_values.specs.TestValue.{thread_steps}
use Rattle.plain_runs.specs.Counts.{is_line_counted}
use Rattle.plain_runs.proofs.Mapping.{mapped_all}
use Rattle.plain_runs.proofs.count.count.Goals as goal

pub returns : goal.returns
returns c =
    c.loop-thread.invariant
    ∙ ap (λ (ls : List (List Step)). sum_by (λ lines. count_by (is_line_counted c.args.counted) lines) ls)
    (mapped_all thread_steps c.args.threads.now c.loop-thread.thread-index c.loop-thread-test.false)

pub loop-thread-preserved : goal.loop-thread-preserved
loop-thread-preserved c =
    let ts = c.args.threads.now in
    let k = c.loop-thread.thread-index in
    let of : List Step → ℕ = λ lines. count_by (is_line_counted c.args.counted) lines in
    let long = length-map ts thread_steps in
    c.in_ok-total.ensures.1
    ∙ ap (λ (n : ℕ). n + c.count_in-more.result) c.loop-thread.invariant
    ∙ ap (λ (n : ℕ). sum_by of (take k (map thread_steps ts)) + n) (c.count_in-more.ensures ∙ ap of c.deref.ensures.value ∙ ap (λ (t : Thread). of t.steps.items) c.thread-item.is ∙ ap of (sym (get_or-map thread_steps ts k c.thread-item.result)))
    ∙ sym (sum_by_more of (map thread_steps ts) k (thread_steps c.thread-item.result) (omega (arith, long, c.loop-thread-test.true)))
