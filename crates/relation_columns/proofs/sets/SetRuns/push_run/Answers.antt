use Rattle.std.proofs.Common.{◌≡◌, ◌∙◌, ◌++◌, ◌∷◌, [], ap, length, refl, sym}
use Rattle.std.proofs.lemmas.List.{with_items_is}
use Rattle.relation_columns.specs.Runs.{no_set}
use Rattle.relation_columns.specs.Storage.{run_ends, run_values}
use Rattle.relation_columns.proofs.Expanding.{added, added_told, as_many_ends, ends_more, longer, longer_told, values_more}
use Rattle.relation_columns.proofs.sets.SetRuns.push_run.Goals as goal

pub invariant_of-self : goal.invariant_of-self
invariant_of-self c =
    let long : c.len-count.result ≡ length (run_ends c.self.inside.runs.items) = c.len-count.ensures ∙ c.self.inside.runs.ok.0 ∙ sym (as_many_ends c.self.inside.runs.items) in
    let back = with_items_is c.self.inside.runs c.set_end.new.runs (c.set_end.ensures.long ∙ ap length c.deref_mut.ensures.value ∙ sym c.self.inside.runs.ok.0) in
    rw (back, c.set_end.ensures.ends, c.set_end.ensures.values, c.deref_mut.ensures.value)
    (longer _ _ _ _ _ c.self.invariant c.self.view_is long c.if-count-gt0.true c.requires)

pub invariant_of-self-else-count-gt0 : goal.invariant_of-self-else-count-gt0
invariant_of-self-else-count-gt0 c =
    added _ _ _ _ _ _ _ _ c.self.invariant c.self.view_is c.requires
    (ap (λ rs. run_ends rs) c.reserve.ensures.items)
    (ends_more _ _ _ c.push_reserved.ensures.items) (values_more _ _ _
    c.push_reserved.ensures.items
    ∙ ap (λ rs. run_values rs ++ c.args.value.now ∷ []) c.reserve.ensures.items)

pub returns-then-is_at-clause-added : goal.returns-then-is_at-clause-added
returns-then-is_at-clause-added c =
    let long : c.len-count.result ≡ length (run_ends c.self.inside.runs.items) = c.len-count.ensures ∙ c.self.inside.runs.ok.0 ∙ sym (as_many_ends c.self.inside.runs.items) in
    let back = with_items_is c.self.inside.runs c.set_end.new.runs (c.set_end.ensures.long ∙ ap length c.deref_mut.ensures.value ∙ sym c.self.inside.runs.ok.0) in
    rw (back, c.set_end.ensures.ends, c.set_end.ensures.values, c.deref_mut.ensures.value)
    (longer_told no_set _ _ _ _ _ _ c.self.invariant c.self.view_is long c.if-count-gt0.true
    c.requires (rw c.deref.ensures.value at (c.if-is_at.ensures.0 refl)))

pub returns-in_ok-reserve-clause-added : goal.returns-in_ok-reserve-clause-added
returns-in_ok-reserve-clause-added c =
    added_told _ _ _ _ _ _ _ _ c.self.invariant c.self.view_is
    (ap (λ rs. run_ends rs) c.reserve.ensures.items)
    (ends_more _ _ _ c.push_reserved.ensures.items) (values_more _ _ _
    c.push_reserved.ensures.items
    ∙ ap (λ rs. run_values rs ++ c.args.value.now ∷ []) c.reserve.ensures.items)
