use Rattle.std.proofs.Common.{ℕ, ◌≡◌, ◌+◌, ◌∙◌, List, [], ◌∷◌, ◌++◌, take, refl, ap, sym, subst, arith}
use Rattle.std.proofs.lemmas.List.{take_more, map-append}
use Rattle.bit_rows.specs.Relation.{Relation, Has}
use Rattle.why_walks.specs.declared.run.Link.{Link}
use Rattle.why_walks.specs.Walks.{IsRunInto, IsWalk, runs_of}
use Rattle.why_walks.proofs.Walking.{StillFirst, first_begins, first_ends, first_more, run_of_first, leads_first, leads_nowhere, leads_on, walk_on}
use Rattle.why_walks.proofs.run.walk.Goals as goal

pub loop-index-init : goal.loop-index-init
loop-index-init c =
    rw c.new-runs.ensures.items (
      refl,
      leads_first c.args.count c.args.links.now c.args.from c.args.to,
      first_begins c.args.count c.args.links.now c.args.from c.args.to,
    )

pub returns-in_default-clause-none : goal.returns-in_default-clause-none
returns-in_default-clause-none c = λ all begins same runs w.
    let l : Link = c.index-links-index.result in
    let rest : Relation = c.index-rest.result.now in
    let none = rw c.in_default.is at c.in_ok-run.ensures in
    leads_nowhere c.args.count c.args.links.now c.in_ok-rests.rests.items c.loop-index.index l rest
    (omega arith) c.index-links-index.is c.in_ok-rests.ensures.length c.index-rest.ensures
    c.args.from c.args.to c.loop-index.at c.in_ok-rests.ensures.rests c.loop-index.invariant.1 none
    all begins runs w

pub returns-then-at-to-clause-first : goal.returns-then-at-to-clause-first
returns-then-at-to-clause-first c = λ all begins.
    first_ends c.args.count c.args.links.now c.args.from c.args.to c.loop-index.index
    (runs_of c.loop-index.runs.items) (omega arith)
    (subst
    (λ (b : ℕ). StillFirst c.args.count c.args.links.now c.args.from c.args.to c.loop-index.index b
    (runs_of c.loop-index.runs.items))
    c.if-at-to.true c.loop-index.invariant.2) all begins

pub loop-index-preserved : goal.loop-index-preserved
loop-index-preserved c =
    let l : Link = c.index-links-index.result in
    let rest : Relation = c.index-rest.result.now in
    let front : List Link = take c.loop-index.index c.args.links.now in
    let next : ℕ = c.in-Some.next in
    let into : IsRunInto l rest c.loop-index.at c.in-Some.run'.items next c.args.to = rw c.in-Some.is at c.in_ok-run.ensures in
    let on = walk_on front l c.args.from (runs_of c.loop-index.runs.items) c.loop-index.at c.in-Some.run'.items next c.loop-index.invariant.0 (run_of_first l.repeats (Has l.relation) c.loop-index.at c.in-Some.run'.items next into.run) in
    let links : take (c.loop-index.index + 1) c.args.links.now ≡ front ++ l ∷ [] = take_more c.args.links.now c.loop-index.index l (omega arith) ∙ ap (λ (x : Link). front ++ x ∷ []) (sym c.index-links-index.is) in
    let runs : runs_of c.push.new.self.items ≡ runs_of c.loop-index.runs.items ++ c.in-Some.run'.items ∷ [] = ap runs_of c.in_ok-push.ensures.items ∙ map-append (λ v. v.items) c.loop-index.runs.items (c.in-Some.run' ∷ []) in (
      subst
          (λ (rs : List (List ℕ)).
          IsWalk (take (c.loop-index.index + 1) c.args.links.now) c.args.from rs next)
          (sym runs)
          (subst
          (λ (ls : List Link). IsWalk ls c.args.from
          (runs_of c.loop-index.runs.items ++ c.in-Some.run'.items ∷ []) next)
          (sym links) on),
      leads_on c.args.count c.args.links.now c.in_ok-rests.rests.items c.loop-index.index l rest
          (omega arith) c.index-links-index.is c.in_ok-rests.ensures.length c.index-rest.ensures
          c.args.from c.args.to next c.in_ok-rests.ensures.rests into.on,
      subst
          (λ (rs : List (List ℕ)). StillFirst c.args.count c.args.links.now c.args.from c.args.to
          (c.loop-index.index + 1) next rs)
          (sym runs)
          (first_more c.args.count c.args.links.now c.in_ok-rests.rests.items c.loop-index.index l
          rest (omega arith) c.index-links-index.is c.in_ok-rests.ensures.length
          c.index-rest.ensures c.args.from c.args.to c.loop-index.at next
          (runs_of c.loop-index.runs.items) c.in-Some.run'.items c.in_ok-rests.ensures.rests
          c.loop-index.invariant.2 into),
    )
