use Rattle.std.proofs.Common.{◌≡◌, ℕ, List, Vec, ap, sym, subst, ◌∙◌, arith}
use Rattle.std.specs.declared.alloc.Global.{Global}
use Rattle.std.proofs.lemmas.List.{map-append}
use Rattle.meaning.specs.Sets.{IsListOf}
use Rattle.plain_events.specs.Choices.{lists_as, BeginsBelow}
use Rattle.plain_events.proofs.Choosing.{begin_below, begin_more}
use Rattle.plain_events.proofs.choice.with_index.Goals as goal

pub loop-index-init : goal.loop-index-init
loop-index-init c =
    subst (λ (l : List (Vec ℕ Global)). IsListOf (BeginsBelow 0 (lists_as c.args.rests.now)) (lists_as l))
    (sym c.new-all.ensures.items) (begin_below (lists_as c.args.rests.now))

pub loop-index-preserved : goal.loop-index-preserved
loop-index-preserved c =
    begin_more (lists_as c.args.rests.now) c.loop-index.index (lists_as c.loop-index.all.items)
    (lists_as c.in_ok-more.more.items) (lists_as c.append.new.self.items) c.requires
    c.loop-index.invariant c.in_ok-more.ensures
    (ap (λ (l : List (Vec ℕ Global)). lists_as l) c.in_ok-append.ensures.items
    ∙ map-append (λ (v : Vec ℕ Global). v.items) c.loop-index.all.items c.in_ok-more.more.items)

pub returns : goal.returns
returns c =
    let same : c.loop-index.index ≡ c.args.count = omega (arith, c.loop-index-test.false, c.loop-index.auto.index-end) in
    subst (λ (n : ℕ). IsListOf (BeginsBelow n (lists_as c.args.rests.now)) (lists_as c.loop-index.all.items))
    same c.loop-index.invariant
