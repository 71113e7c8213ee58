use Rattle.std.proofs.Common.{ℕ, List, Vec, subst, sym}
use Rattle.std.specs.declared.alloc.Global.{Global}
use Rattle.meaning.specs.Sets.{IsOnce, IsListOf}
use Rattle.plain_events.specs.Choices.{lists_as, BeginsBelow}
use Rattle.plain_events.proofs.Choosing.{chosen_more}
use Rattle.plain_events.proofs.choice.+choices.Goals as goal

pub choices_behind-with_index-requires : goal.choices_behind-with_index-requires
choices_behind-with_index-requires t c =
    subst (λ (l : List (Vec ℕ Global)). IsOnce (lists_as l)) (sym c.deref.ensures.value)
    c.in_ok-rests.ensures.once

pub choices_behind-returns : goal.choices_behind-returns
choices_behind-returns t c =
    chosen_more c.args.count c.args.rest.now (lists_as c.in_ok-rests.rests.items)
    (lists_as c.in_ok-all.all.items) c.in_ok-rests.ensures
    (subst (λ (l : List (Vec ℕ Global)). IsListOf (BeginsBelow c.args.count (lists_as l)) (lists_as c.in_ok-all.all.items))
    c.deref.ensures.value c.in_ok-all.ensures)
