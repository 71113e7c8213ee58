use Rattle.std.proofs.Common.{◌≡◌, ◌∙◌, List, sym, subst}
use Rattle.base_names.specs.declared.names.Shared.{Shared}
use Rattle.base_names.specs.Candidate.{IsEntered, HasReadsFrom, HasCoherence, HoldsName, shared_for}
use Rattle.base_names.specs.Known.{shared_names}
use Rattle.base_env.specs.Environment.{IsEnvironment}
use Rattle.base_env.proofs.Facts.{HasSame, entered_as, entered_still}
use Rattle.base_env.proofs.env.base.Goals as goal

pub returns : goal.returns
returns c = λ threads k t is.
    let facts = c.in_ok-combination.ensures in
    let mine = c.in_ok-combination.combination in
    let first = c.in_ok-base.base in
    let read = c.read_from.new.self in
    let last = c.order.new.self in
    let same : HasSame mine k = record {
      events = facts.events ∙ is.events;
      dependencies = facts.dependencies ∙ is.dependencies;
    } in
    let count : last.count ≡ first.count = c.order.ensures.count ∙ c.read_from.ensures.count in
    let sets : last.sets ≡ first.sets = c.order.ensures.sets ∙ c.read_from.ensures.sets in
    let shared : last.shared ≡ first.shared = c.order.ensures.shared ∙ c.read_from.ensures.shared in
    let entered : IsEntered last k = entered_as last mine k same (entered_still first last mine count sets shared c.in_ok-base.ensures.entered) in
    let reading : HasReadsFrom last k t.0 = rw (c.order.ensures.reads_from, c.order.ensures.count, ← same.events, ← is.reads_from) (rw c.deref.ensures.value at c.read_from.ensures.reading) in
    let ordered : HasCoherence last k t.1 = rw (← same.events, ← is.coherence) (rw c.deref-2.ensures.value at c.order.ensures.ordered) in
    let made : IsEnvironment c.env_of.result last.count k t.0 t.1 = c.env_of.ensures k t.0 t.1 entered reading ordered (λ name set. rw sets (c.in_ok-base.ensures.sets name set)) (λ name relation. subst (λ (xs : List Shared). HoldsName (shared_names xs) (shared_for name)) (sym shared) (c.in_ok-base.ensures.relations name relation)) in
    rw (← entered.count) made
