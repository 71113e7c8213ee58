use Rattle.std.proofs.Common.{◌≡◌, ◌∙◌, ◌-◌, ◌∷◌, ap, take, reverse}
use Rattle.std.specs.Vec.{with_items}
use Rattle.std.proofs.lemmas.List.{with_items_is}
use Rattle.cat_machine.proofs.Slots.{two_are, merged}
use Rattle.cat_machine.proofs.stack.Stack.compose.Goals as goal

pub returns-then-self-ge2 : goal.returns-then-self-ge2
returns-then-self-ge2 c = λ s r rest e same.
    let slots = c.self.inside.slots in
    let live = c.self.inside.live in
    let t = two_are slots.items live s r rest c.if-self-ge2.true c.self.invariant (rw (← c.self.view_is) at e) in
    let made = rw c.deref_mut.ensures.value at c.compose_top.ensures in
    let written = c.compose_top.new.slots in
    let whole : (with_items slots written).items ≡ written = with_items_is slots written (c.compose_top.auto.slots ∙ c.deref_mut.ensures.len) in (
      made.0,
      ap (λ xs. reverse (take (live - 1) xs)) (whole ∙ made.1)
          ∙ merged slots.items live made.0 c.if-self-ge2.true c.self.invariant
          ∙ ap (λ xs. made.0 ∷ xs) t.2,
      rw (t.0, t.1) at (made.2 (rw (t.0, t.1) same)),
    )
