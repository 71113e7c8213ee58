use Rattle.std.proofs.Common.{◌≡◌, ◌+◌, List, ℕ, length, sym, ap, ◌∙◌, eqb, lit<, arith}
use Rattle.std.proofs.lemmas.List.{length_push}
use Rattle.std.proofs.lemmas.List.Splits.{length-slice_split}
use Rattle.std.proofs.lemmas.List.Sums.{count_by-le-length}
use Rattle.std.proofs.lemmas.Iterator.Consumers.{YieldsList-at, YieldsList-turn, YieldsList-end}
use Rattle.std.proofs.lemmas.Iterator.Splits.{YieldsList-from_str_split}
use Rattle.path_lists.specs.Lists.{paths_from}
use Rattle.path_lists.proofs.Paths.{turned}
use Rattle.path_lists.proofs.entry.list_entries.Goals as goal

pub loop-text-preserved : goal.loop-text-preserved
loop-text-preserved c =
    let t = YieldsList-turn (YieldsList-at c.into_iter-text-iterator.ensures.into_iter_gives (YieldsList-from_str_split 10 c.args.text.now (lit< tt) c.split-text-items.ensures.text c.split-text-items.ensures.has_more c.split-text-items.ensures.pattern)) c.loop-text.yielded _ c.loop-text.yielded_by _ _ c.in-Some.text c.in-Some.is c.next.ensures.steps in
    let parts = length-slice_split (λ b. eqb b 10) c.args.text.now in
    let ends = count_by-le-length (λ b. eqb b 10) c.args.text.now in
    let line : c.saturating_add-line.result ≡ length c.loop-text.yielded + 1 = omega (arith, t.0, parts, ends, c.loop-text.invariant.1, c.saturating_add-line.ensures) in (
      turned c.args.list.now c.saturating_add-line.result c.loop-text.yielded c.in-Some.text
          c.trim.result.now _ _ c.in_ok-push_word.ensures c.loop-text.invariant.0 c.trim.ensures.trim
          line,
      line ∙ sym (length_push c.loop-text.yielded c.in-Some.text),
    )

pub returns : goal.returns
returns c =
    let t = YieldsList-end (YieldsList-at c.into_iter-text-iterator.ensures.into_iter_gives (YieldsList-from_str_split 10 c.args.text.now (lit< tt) c.split-text-items.ensures.text c.split-text-items.ensures.has_more c.split-text-items.ensures.pattern)) c.loop-text.yielded _ c.loop-text.yielded_by _ _ c.in-None.is c.next.ensures.steps in
    c.loop-text.invariant.0 ∙ ap (λ (l : List (List ℕ)). paths_from c.args.list.now 1 l) t.0
