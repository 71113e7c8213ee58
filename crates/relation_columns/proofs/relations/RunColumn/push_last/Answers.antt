use Rattle.std.proofs.Common.{◌≡◌, ◌<◌, ◌-◌, ◌∙◌, ap, arith, get_or, length, sym}
use Rattle.std.proofs.lemmas.List.{with_items_is}
use Rattle.bit_rows.specs.Relation.{no_slot}
use Rattle.relation_columns.specs.Storage.{run_ends}
use Rattle.relation_columns.proofs.Expanding.{as_many_ends, last_end_is, last_told, longer, some_there}
use Rattle.relation_columns.proofs.relations.RunColumn.push_last.Goals as goal

pub invariant_of-self : goal.invariant_of-self
invariant_of-self c =
    let long : c.len-count.result ≡ length (run_ends c.self.inside.runs.items) = c.len-count.ensures ∙ c.self.inside.runs.ok.0 ∙ sym (as_many_ends c.self.inside.runs.items) in
    let some : 0 < c.len-count.result = omega (arith, c.if-count-eq0.false) in
    let end : c.end_at.result ≡ length c.args.self.now = last_end_is _ _ _ _ _ c.self.invariant.0 c.self.view_is long some (c.end_at.ensures ∙ ap (λ rs. get_or (run_ends rs) (c.len-count.result - 1) 0) c.deref.ensures.value) in
    let back = with_items_is c.self.inside.runs c.set_end.new.runs (c.set_end.ensures.long ∙ ap length c.deref_mut.ensures.value ∙ sym c.self.inside.runs.ok.0) in
    rw (back, c.set_end.ensures.ends, c.set_end.ensures.values, c.deref_mut.ensures.value) (
      (longer _ _ _ _ _ c.self.invariant.0 c.self.view_is long some
          (omega (arith, end, c.in-Some.ensures.1))),
      c.self.invariant.1,
    )

pub returns-in-Some-clause-added : goal.returns-in-Some-clause-added
returns-in-Some-clause-added c = λ there.
    let long : c.len-count.result ≡ length (run_ends c.self.inside.runs.items) = c.len-count.ensures ∙ c.self.inside.runs.ok.0 ∙ sym (as_many_ends c.self.inside.runs.items) in
    let some : 0 < c.len-count.result = omega (arith, c.if-count-eq0.false) in
    let end : c.end_at.result ≡ length c.args.self.now = last_end_is _ _ _ _ _ c.self.invariant.0 c.self.view_is long some (c.end_at.ensures ∙ ap (λ rs. get_or (run_ends rs) (c.len-count.result - 1) 0) c.deref.ensures.value) in
    let back = with_items_is c.self.inside.runs c.set_end.new.runs (c.set_end.ensures.long ∙ ap length c.deref_mut.ensures.value ∙ sym c.self.inside.runs.ok.0) in
    rw (back, c.set_end.ensures.ends, c.set_end.ensures.values, c.deref_mut.ensures.value)
    (last_told no_slot _ _ _ _ _ c.self.invariant.0 c.self.view_is long some
    (omega (arith, end, c.in-Some.ensures.1)))

pub returns-in-Some-clause-none : goal.returns-in-Some-clause-none
returns-in-Some-clause-none c = λ none.
    let long : c.len-count.result ≡ length (run_ends c.self.inside.runs.items) = c.len-count.ensures ∙ c.self.inside.runs.ok.0 ∙ sym (as_many_ends c.self.inside.runs.items) in
    let some : 0 < c.len-count.result = omega (arith, c.if-count-eq0.false) in
    let there : 0 < length c.args.self.now = some_there _ _ _ _ c.self.invariant.0 c.self.view_is long some in
    absurd (omega (arith, there, ap length none))
