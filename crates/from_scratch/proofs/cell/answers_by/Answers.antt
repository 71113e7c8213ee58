use Rattle.std.proofs.Common.{rules, ℕ, ◌≡◌, ◌+◌, ◌<◌, List, length, vec_len, get_or, refl, sym, ap, ◌∙◌, subst, arith}
use Rattle.std.proofs.lemmas.Option.{slice_get_read}
use Rattle.binding_graph.specs.Reach.{IsReached, AreReached}
use Rattle.binding_graph.specs.declared.resolved.ResolvedItem.{ResolvedItem}
use Rattle.from_scratch.specs.Keeping.{AreLast, IsGone}
use Rattle.from_scratch.proofs.Knowing.{same_at, known_start, answered_long}
use Rattle.from_scratch.proofs.Letting.{kept_start, kept_next, kept_end, kept_columns, no_others_next}
use Rattle.from_scratch.proofs.cell.answers_by.Goals as goal

pub loop-at-init : goal.loop-at-init
loop-at-init c =
    let items = c.args.resolved.now.items.items in
    let a = c.in_ok-answers.ensures in
    let count : vec_len c.in_ok-answers.answers.columns ≡ length items = a.count ∙ search rules in
    record {
      known = λ ordered.
          let indexes = c.deref-at-items.result.now in
          kept_start c.args.space.now items c.in_ok-last.last indexes c.in_ok-answers.answers
          (known_start c.args.space.now items indexes _ c.in_ok-answers.answers (search rules)
          a.count a.empty (rw a.kept c.in_ok-all_kept.ensures) a.flags);
      over = c.prepare.ensures;
      long = rw a.kept c.in_ok-all_kept.ensures.long;
      count = count;
      no_others = λ j lt other d. a.empty j (omega (arith, lt, count, a.count)) d;
    }

pub loop-at-preserved : goal.loop-at-preserved
loop-at-preserved c =
    let items = c.args.resolved.now.items.items in
    let indexes = c.deref-at-items.result.now in
    let last = c.in_ok-last.last in
    let all = subst (λ (xs : List ℕ). AreReached items xs) (sym c.deref-at-items.ensures.value) c.in_ok-indexes.ensures.reached in
    let users = subst (λ (rs : List ResolvedItem). AreLast rs indexes last) c.deref.ensures.value (subst (λ (xs : List ℕ). AreLast c.deref.result.now xs last) (c.deref-2.ensures.value ∙ sym c.deref-at-items.ensures.value) c.in_ok-last.ensures.last) in
    let index = get_or indexes c.loop-at.at-index 0 in
    let r = c.index-item.result.now in
    let reached : index < length items × IsReached items index = (all.exact index).0 (c.loop-at.at-index, omega arith, same_at indexes c.loop-at.at-index index 0 (omega arith)) in
    let is : r ≡ get_or items index r = c.index-item.ensures in
    let (whole, one, gone, kept, flags) = c.in_ok-answer_next.ensures.answered in
    record {
      known = λ ordered.
          let h = c.loop-at.invariant.known ordered in
          kept_next c.args.space.now items last indexes c.loop-at.at-index index r c.loop-at.answers
          whole _ all users ordered (omega arith)
          (λ d. same_at indexes c.loop-at.at-index 0 d (omega arith))
          (slice_get_read items (length items) index r refl reached.0 is) h one gone kept flags;
      over = c.answer_next.ensures.over;
      long =
          ap length kept
          ∙ answered_long c.args.space.now index r c.loop-at.answers whole one
          c.loop-at.invariant.long;
      count = gone.count ∙ one.count ∙ c.loop-at.invariant.count;
      no_others =
          no_others_next (IsGone last (index + 1)) c.args.space.now items index r c.loop-at.answers
          whole c.answer_next.new.answers reached.1 reached.0
          (slice_get_read items (length items) index r refl reached.0 is) c.loop-at.invariant.count
          c.loop-at.invariant.no_others one gone;
    }

pub returns-clause-said : goal.returns-clause-said
returns-clause-said c = λ ordered.
    let items = c.args.resolved.now.items.items in
    let all = subst (λ (xs : List ℕ). AreReached items xs) (sym c.deref-at-items.ensures.value) c.in_ok-indexes.ensures.reached in
    kept_end c.args.space.now items c.in_ok-last.last c.deref-at-items.result.now c.loop-at.at-index
    c.loop-at.answers all (omega arith) (c.loop-at.invariant.known ordered)

pub returns-clause-columns : goal.returns-clause-columns
returns-clause-columns c = λ keeping ordered.
    let items = c.args.resolved.now.items.items in
    let all = subst (λ (xs : List ℕ). AreReached items xs) (sym c.deref-at-items.ensures.value) c.in_ok-indexes.ensures.reached in
    kept_columns c.args.space.now items c.in_ok-last.last c.deref-at-items.result.now
    c.loop-at.at-index c.loop-at.answers all (omega arith) (c.in_ok-last.ensures.all keeping)
    (c.loop-at.invariant.known ordered)
