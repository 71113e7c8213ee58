-- A parser as a state of the machine.
use Rattle.std.specs.Prelude.{◌≡◌, Result, Ok, Err}
use Rattle.cat_expressions.specs.declared.frames.StepError.{StepError}
use Rattle.cat_expressions.specs.declared.terms.OpenExpression.{OpenExpression}
use Rattle.cat_syntax.specs.declared.items.Parser.{Parser}
use Rattle.cat_syntax.specs.declared.parts.Head.{Head}
use Rattle.cat_syntax.specs.declared.parts.Part as code_part
use Rattle.cat_syntax.specs.declared.parts.Part.TheVariants as parts
use Rattle.cat_grammar.specs.ItemMachine as machine
use Rattle.cat_grammar.specs.ItemMachine.{ItemState, Fault}
use Rattle.text_values.specs.ModelValues.{clauses_of}
use Rattle.cat_expressions.specs.Reading.{term_stack_of, term_expectation_of}
use Rattle.cat_syntax.specs.ReadingItems.{head_of, part_of, Fails}

-- the part with the expression that is read in it
abbrev pub part_with : OpenExpression → code_part.Part → machine.Part
part_with o (parts.Body h) =
    machine.Body (head_of h) (term_stack_of o.frames.items) o.operators (term_expectation_of o.expected)
part_with o p = part_of p

abbrev pub state_of : Parser → ItemState
state_of p = record { items = clauses_of p.items.items; part = part_with p.expression p.part }

abbrev pub IsItemStep : Result (Unit {0}) StepError → Parser → Result ItemState Fault → Type 0
IsItemStep (Ok _) p made = made ≡ Ok (state_of p)
IsItemStep (Err e) p made = Fails e made

-- the part is in an expression, of an item with this head
abbrev pub IsBody : Head → code_part.Part → Type 0
IsBody h p = p ≡ parts.Body h
