use Rattle.std.proofs.Common.{arith}
use Rattle.std.proofs.lemmas.List.{length-map}
use Rattle.store_orders.specs.Lists.{lists_of}
use Rattle.run_combinations.specs.Rounds.{HasManyChoices, HasReadChoices}
use Rattle.run_combinations.proofs.Searching.{tells_true, tells_false}
use Rattle.run_combinations.proofs.Finding.{over_all}
use Rattle.run_combinations.proofs.reading.Reading.read_choices.Goals as goal

pub returns-then-not-branch : goal.returns-then-not-branch
returns-then-not-branch c =
    tells_false c.in_ok-extend_read_choices.field-0
    (HasReadChoices c.args.self.now (lists_of c.extend_read_choices.new.read_choices.items))
    (HasManyChoices c.args.self.now c.args.limit) c.if-not-branch.true
    (c.in_ok-extend_read_choices.ensures c.in_ok-read_choices.ensures)

pub returns-then-len-limit : goal.returns-then-len-limit
returns-then-len-limit c =
    over_all c.args.self.now c.args.limit (lists_of c.extend_read_choices.new.read_choices.items)
    (tells_true c.in_ok-extend_read_choices.field-0
    (HasReadChoices c.args.self.now (lists_of c.extend_read_choices.new.read_choices.items))
    (HasManyChoices c.args.self.now c.args.limit) c.if-not-branch.false
    (c.in_ok-extend_read_choices.ensures c.in_ok-read_choices.ensures))
    (omega (
      arith,
      c.if-len-limit.true,
      c.len.ensures,
      c.extend_read_choices.new.read_choices.ok.0,
      length-map c.extend_read_choices.new.read_choices.items (λ v. v.items),
    ))

pub returns : goal.returns
returns c = (
  tells_true c.in_ok-extend_read_choices.field-0
      (HasReadChoices c.args.self.now (lists_of c.extend_read_choices.new.read_choices.items))
      (HasManyChoices c.args.self.now c.args.limit) c.if-not-branch.false
      (c.in_ok-extend_read_choices.ensures c.in_ok-read_choices.ensures),
  omega (arith, c.if-len-limit.false, c.len.ensures, c.extend_read_choices.new.read_choices.ok.0),
)
