use Rattle.std.proofs.Common.{◌≡◌, ◌∙◌, ap, length, refl, sym}
use Rattle.std.proofs.lemmas.List.{with_items_is}
use Rattle.bit_rows.specs.Relation.{no_slot}
use Rattle.relation_columns.specs.Storage.{run_ends}
use Rattle.relation_columns.proofs.Expanding.{added, added_told, as_many_ends, ends_more, longer, longer_told}
use Rattle.relation_columns.proofs.Keeping.{pushed}
use Rattle.relation_columns.proofs.relations.RunColumn.push_run.Goals as goal

pub invariant_of-self : goal.invariant_of-self
invariant_of-self c =
    let long : c.len-count.result ≡ length (run_ends c.self.inside.runs.items) = c.len-count.ensures ∙ c.self.inside.runs.ok.0 ∙ sym (as_many_ends c.self.inside.runs.items) in
    let back = with_items_is c.self.inside.runs c.set_end.new.runs (c.set_end.ensures.long ∙ ap length c.deref_mut.ensures.value ∙ sym c.self.inside.runs.ok.0) in
    rw (back, c.set_end.ensures.ends, c.set_end.ensures.values, c.deref_mut.ensures.value) (
      (longer _ _ _ _ _ c.self.invariant.0 c.self.view_is long c.if-count-gt0.true c.requires),
      c.self.invariant.1,
    )

pub invariant_of-self-else-count-gt0 : goal.invariant_of-self-else-count-gt0
invariant_of-self-else-count-gt0 c =
    let more = pushed _ _ _ _ _ _ _ c.self.invariant.1 c.next_span.ensures.regular (c.in_ok-span.ensures.start ∙ ap length c.deref-else-count-gt0.ensures.value) c.in_ok-span.ensures.count c.reserve.ensures.items c.push_reserved.ensures.items c.in_ok-append_to.ensures.added in (
      added _ _ _ _ _ _ _ _ c.self.invariant.0 c.self.view_is c.requires
          (ap (λ rs. run_ends rs) c.reserve.ensures.items)
          (ends_more _ _ _ c.push_reserved.ensures.items) more.1,
      more.0,
    )

pub returns-then-is_value-clause-added : goal.returns-then-is_value-clause-added
returns-then-is_value-clause-added c =
    let long : c.len-count.result ≡ length (run_ends c.self.inside.runs.items) = c.len-count.ensures ∙ c.self.inside.runs.ok.0 ∙ sym (as_many_ends c.self.inside.runs.items) in
    let back = with_items_is c.self.inside.runs c.set_end.new.runs (c.set_end.ensures.long ∙ ap length c.deref_mut.ensures.value ∙ sym c.self.inside.runs.ok.0) in
    rw (back, c.set_end.ensures.ends, c.set_end.ensures.values, c.deref_mut.ensures.value)
    (longer_told no_slot _ _ _ _ _ _ c.self.invariant.0 c.self.view_is long c.if-count-gt0.true
    c.requires (rw (c.deref.ensures.value, c.deref-then-count-gt0.ensures.value) at
    (c.if-is_value.ensures.0 refl)))

pub returns-in_ok-append_to-clause-added : goal.returns-in_ok-append_to-clause-added
returns-in_ok-append_to-clause-added c =
    let more = pushed _ _ _ _ _ _ _ c.self.invariant.1 c.next_span.ensures.regular (c.in_ok-span.ensures.start ∙ ap length c.deref-else-count-gt0.ensures.value) c.in_ok-span.ensures.count c.reserve.ensures.items c.push_reserved.ensures.items c.in_ok-append_to.ensures.added in
    added_told _ _ _ _ _ _ _ _ c.self.invariant.0 c.self.view_is
    (ap (λ rs. run_ends rs) c.reserve.ensures.items)
    (ends_more _ _ _ c.push_reserved.ensures.items) more.1
