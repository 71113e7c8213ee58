use Rattle.std.proofs.Common.{◌≡◌, ◌∙◌, ◌++◌, ◌∷◌, [], ◌+◌, List, suc, take, ap, sym, add-one}
use Rattle.std.proofs.Math.Seq.{take-suc}
use Rattle.bench_nodes.specs.declared.table.Slot.{Slot}
use Rattle.bench_nodes.specs.Places.{slot_name, user_lists, with_user}
use Rattle.bench_nodes.proofs.UserLists.{lists_more}
use Rattle.bench_nodes.proofs.places.guessed_lists.Goals as goal

pub loop-slot-preserved : goal.loop-slot-preserved
loop-slot-preserved c =
    let slots = c.args.slots.now in
    let i = c.loop-slot.slot-index in
    let u = c.slot-item.result in
    let more : take i slots ++ u ∷ [] ≡ take (suc i) slots = sym (take-suc slots i u c.loop-slot-test.true ∙ ap (λ (s : Slot). take i slots ++ s ∷ []) (sym c.slot-item.is)) in
    let next : take i slots ++ u ∷ [] ≡ take (i + 1) slots = rw add-one more in
    c.in_ok-put_user.ensures c.if-not-branch.false
    ∙ ap (with_user (slot_name u) u.inputs.items slots) c.loop-slot.invariant
    ∙ lists_more (take i slots) slots u ∙ ap (λ (us : List Slot). user_lists us slots) next
