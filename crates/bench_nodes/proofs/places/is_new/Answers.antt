use Rattle.std.proofs.Common.{◌≡◌, ◌∙◌, ℕ, not, take, get_or, length, sym, ap}
use Rattle.std.proofs.lemmas.Option.{get_or_from_slice_get}
use Rattle.bench_nodes.specs.declared.table.Slot.{Slot}
use Rattle.bench_nodes.specs.Slots.{has_slot}
use Rattle.bench_nodes.specs.Guesses.{slot_spot}
use Rattle.bench_nodes.proofs.Guessing.{slot_new}
use Rattle.bench_nodes.proofs.places.is_new.Goals as goal

pub returns-then-guesses-spot : goal.returns-then-guesses-spot
returns-then-guesses-spot c = λ s there.
    let gs = c.args.guesses.now in let slots = c.args.slots.now in
    let slot = c.index-slots-index.result in
    let is = c.index-slots-index.is ∙ get_or_from_slice_get slots c.args.index s slot there in
    let spot = c.spot_of-spot.ensures ∙ ap (λ (x : Slot). slot_spot (length gs) x) is in
    sym (ap not (slot_new gs slots c.args.index s c.requires.guessed there
    (ap (λ (k : ℕ). get_or gs k 0) (sym spot) ∙ c.if-guesses-spot.true)))

pub returns : goal.returns
returns c = λ s there.
    let slots = c.args.slots.now in let slot = c.index-slots-index.result in
    let is = c.index-slots-index.is ∙ get_or_from_slice_get slots c.args.index s slot there in
    ap not (c.has_slot_among.ensures
    ∙ ap (λ (x : Slot). has_slot (take c.args.index slots) x.kind x.of) is)
