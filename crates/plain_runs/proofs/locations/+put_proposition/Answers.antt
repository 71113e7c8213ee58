use Rattle.std.proofs.Common.{List, bytes_eq, ap, sym, ◌∙◌}
use Rattle.text_values.specs.declared.test.Proposition.{Proposition}
use Rattle.text_values.specs.TestValue.{formula_of}
use Rattle.meaning.specs.Names.{Name, is_name_before, locations_of_formula}
use Rattle.plain_runs.specs.Locations.{names_as, with_all}
use Rattle.plain_runs.proofs.Placing.{each_append}
use Rattle.plain_runs.proofs.locations.+put_proposition.Goals as goal

abbrev put : Proposition → List Name → List Name
put p ns = with_all (locations_of_formula (formula_of p)) ns

pub returns-in_ok-put_proposition-in-Joined-2 : goal.returns-in_ok-put_proposition-in-Joined-2
returns-in_ok-put_proposition-in-Joined-2 t c =
    let old = names_as c.args.names.now.items in
    let mid = names_as c.put_proposition-in-Joined.new.names.items in
    let left = c.in-Joined.left.value in
    let right = c.in-Joined.right.value in
    c.in_ok-put_proposition-in-Joined-2.ensures
    ∙ ap (λ (p : Proposition). put p mid) c.deref-in-Joined-2.ensures
    ∙ ap (λ (ns : List Name). put left ns) (c.in_ok-put_proposition-in-Joined.ensures ∙ ap (λ (p : Proposition). put p old) c.deref-in-Joined.ensures)
    ∙ sym (each_append bytes_eq is_name_before (locations_of_formula (formula_of left)) (locations_of_formula (formula_of right)) old)
    ∙ ap (λ (p : Proposition). put p old) (sym c.in-Joined.is)
