use Rattle.std.proofs.Common.{◌++◌, ◌∷◌, [], ap, ◌∙◌}
use Rattle.run_combinations.proofs.Finding.{one_read_choice, no_read_choice}
use Rattle.run_combinations.proofs.reading.Reading.first_read_choices.Goals as goal
use Rattle.run_combinations.proofs.reading.Reading.first_read_choices.Goals.{then-is_possible+in_ok-with_capacity+in_ok-push, else-is_possible}

pub returns : goal.returns
returns c =
    elim c.if-is_possible.branch [
      | then-is_possible+in_ok-with_capacity+in_ok-push w ↦
          one_read_choice c.args.self.now c.is_possible.result w.in_ok-with_capacity.field-0
          c.if-is_possible.read_choices.items c.is_possible.ensures w.if-is_possible.true
          (ap (λ v. v.items) w.read_choices-is ∙ w.in_ok-push.ensures.items
          ∙ ap (λ l. l ++ w.in_ok-with_capacity.field-0 ∷ []) c.new-read_choices.ensures.items)
          w.in_ok-with_capacity.ensures.items
      | else-is_possible w ↦ no_read_choice c.args.self.now c.is_possible.result c.if-is_possible.read_choices.items
          c.is_possible.ensures w.if-is_possible.false
          (ap (λ v. v.items) w.read_choices-is ∙ c.new-read_choices.ensures.items)
    ]
