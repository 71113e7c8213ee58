use Rattle.std.proofs.Common.{ℕ, List, ◌++◌, length, ap, ◌∙◌, refl}
use Rattle.std.proofs.lemmas.Option.{slice_get_read}
use Rattle.text_values.specs.ModelValues.{clause_of}
use Rattle.fault_texts.specs.Told.{fault_told, IsFaulty}
use Rattle.fault_texts.proofs.Below.{place_below}
use Rattle.fault_texts.proofs.lines.lines_of.Goals as goal

pub returns : goal.returns
returns c =
    let xs = c.args.items.now in
    let place = c.args.place.now in
    let item = c.index-items-place.result in
    let told : ℕ → List ℕ = λ n. fault_told c.args.name.now n place.fault place.sign.now (clause_of item) in
    IsFaulty place c.requires item (slice_get_read xs (length xs) place.item item refl
    (place_below xs place c.requires) c.index-items-place.is)
    (c.in_ok-put_fault.ensures
    ∙ (ap (λ (l : List ℕ). l ++ told c.item_number-number.result) c.new-lines.ensures.items
    ∙ ap told c.item_number-number.ensures))
