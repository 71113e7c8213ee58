-- What the types of the code stand for.
use Rattle.std.specs.Prelude.{ℕ, List, Option, map}
use Rattle.text_values.specs.declared.model.Expression.{Expression, Row_of-Expression, end_of-Expression, more_of-Expression}
use Rattle.text_values.specs.declared.model.Expression.TheVariants.{Named, Everything, NoPairs, NoEvents, Joined', Marked', Complement', Identity', Applied'}
use Rattle.text_values.specs.declared.model.Binding as code_binding
use Rattle.text_values.specs.declared.model.ShownExpression.{ShownExpression}
use Rattle.text_values.specs.declared.model.Check as code_check
use Rattle.text_values.specs.declared.model.Item.{Item}
use Rattle.text_values.specs.declared.model.Item.TheVariants as items
use Rattle.text_values.specs.ModelValue.{Term, Terms, Atom, AllEvents, EmptyRelation, EmptySet, Join, Mark, Not, On, Apply, NoTerm, OneMore, Clause, Checked, Binding, Function, Checking, Flagging, Showing, Including}

abbrev mutual
  -- an expression without where it lies in memory
  pub term_of : Expression → Term
  term_of (Named n) = Atom n
  term_of Everything = AllEvents
  term_of NoPairs = EmptyRelation
  term_of NoEvents = EmptySet
  term_of (Joined' op p a q b) = Join op (term_of a) (term_of b)
  term_of (Marked' op p a) = Mark op (term_of a)
  term_of (Complement' p a) = Not (term_of a)
  term_of (Identity' p a) = On (term_of a)
  term_of (Applied' n shape row) = Apply n (terms_of row)

  pub terms_of : {m : _} → Row_of-Expression m → Terms
  terms_of end_of-Expression = NoTerm
  terms_of (more_of-Expression a others) = OneMore (term_of a) (terms_of others)

abbrev pub binding_of : code_binding.Binding → List ℕ × Term
binding_of b = (b.name, term_of b.body)

abbrev pub shown_term : ShownExpression → Term × Option (List ℕ)
shown_term s = (term_of s.body, s.label)

abbrev pub check_of : code_check.Check → Checked
check_of c = record { negated = c.negated; word = c.word; body = term_of c.body }

abbrev pub clause_of : Item → Clause
clause_of (items.Let recursive group) = Binding recursive (map binding_of group.items)
clause_of (items.Function name parameters body) = Function name parameters.items (term_of body)
clause_of (items.Check check label) = Checking (check_of check) label
clause_of (items.Flag check label) = Flagging (check_of check) label
clause_of (items.Show hidden shown) = Showing hidden (map shown_term shown.items)
clause_of (items.Include path) = Including path

abbrev pub clauses_of : List Item → List Clause
clauses_of is = map clause_of is
