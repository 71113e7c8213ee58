use Rattle.std.proofs.Common.{List, ap}
use Rattle.cat_grammar.specs.ItemMachine.{ItemState, Part}
use Rattle.text_values.specs.ModelValue.{Clause}
use Rattle.text_values.specs.ModelValues.{clauses_of}
use Rattle.cat_syntax.proofs.Restarted.{part_restarted}
use Rattle.cat_syntax.proofs.items.Parser.go_to.Goals as goal

abbrev state_at : List Clause → Part → ItemState
state_at is p = record { items = is; part = p }

pub returns-clause-state : goal.returns-clause-state
returns-clause-state c =
    ap (state_at (clauses_of c.args.self.now.items.items)) (part_restarted c.restart.new.self
    c.args.next c.restart.ensures)
