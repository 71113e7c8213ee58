use Rattle.std.proofs.Common.{◌≡◌, false, List, Vec, Global, subst}
use Rattle.std.proofs.lemmas.Result.{IfOk-weaker}
use Rattle.binding_graph.specs.declared.resolved.Body.{Body}
use Rattle.candidate_spaces.specs.Space.{candidates_in}
use Rattle.cat_machine.specs.declared.column.Column.{Column}
use Rattle.cat_eval.specs.Needed.{ListsNeeded, bodies_names}
use Rattle.cat_machine.specs.Seen.{seen_in}
use Rattle.cat_eval.specs.Tables.{column_names}
use Rattle.cat_eval.specs.Wanted.{AreWantedOver}
use Rattle.cat_eval.proofs.Wanting.{shown_exact}
use Rattle.cat_eval.proofs.evaluator.Evaluator.group_wanted.Goals as goal

pub returns-then-keeps_steps-clause-values : goal.returns-then-keeps_steps-clause-values
returns-then-keeps_steps-clause-values c =
    let bodies = c.in-Group.bodies.items in
    let inputs = c.args.inputs.now in
    let wanted = c.args.wanted.now in
    let candidates = candidates_in c.args.space.now.combinations.items in
    let named = c.list.new.named in
    let plain : c.in-Group.recursive ≡ false = c.keeps_steps.ensures c.if-keeps_steps.true in
    let needed : ListsNeeded c.need_names.new.self.needs.names.items (bodies_names bodies) = rw c.in-Group.is at c.in_ok-need_names-in-Group.ensures.names in
    let listed : ListsNeeded (column_names named) (bodies_names bodies) = λ name inside. c.in_ok-list-in-Group.ensures.all name (rw c.deref.ensures.value (needed name inside)) (c.in_ok-need_names-in-Group.ensures.there name (needed name inside)) in
    let right = c.in_ok-list-in-Group.ensures.columns candidates c.need_names.ensures.over in
    rw (c.in-Group.is, plain)
    (IfOk-weaker c.plain_columns.result _ _
    (λ (v : Vec Column Global) (over : AreWantedOver wanted false
    c.deref-then-keeps_steps.result.now inputs
    (seen_in c.as_slice-named.result.now 0 candidates) v.items).
    shown_exact wanted false bodies inputs named candidates v.items right listed
    (subst
    (λ (bs : List Body).
    AreWantedOver wanted false bs inputs (seen_in named 0 candidates) v.items)
    c.deref-then-keeps_steps.ensures.value
    (rw c.as_slice-named.ensures at over)))
    c.plain_columns.ensures)

pub returns-else-keeps_steps-clause-values : goal.returns-else-keeps_steps-clause-values
returns-else-keeps_steps-clause-values c =
    let recursive = c.in-Group.recursive in
    let bodies = c.in-Group.bodies.items in
    let inputs = c.args.inputs.now in
    let wanted = c.args.wanted.now in
    let candidates = candidates_in c.args.space.now.combinations.items in
    let named = c.list.new.named in
    let needed : ListsNeeded c.need_names.new.self.needs.names.items (bodies_names bodies) = rw c.in-Group.is at c.in_ok-need_names-in-Group.ensures.names in
    let listed : ListsNeeded (column_names named) (bodies_names bodies) = λ name inside. c.in_ok-list-in-Group.ensures.all name (rw c.deref.ensures.value (needed name inside)) (c.in_ok-need_names-in-Group.ensures.there name (needed name inside)) in
    let right = c.in_ok-list-in-Group.ensures.columns candidates c.need_names.ensures.over in
    rw c.in-Group.is
    (IfOk-weaker c.visited_columns.result _ _
    (λ (v : Vec Column Global) (over : AreWantedOver wanted recursive c.deref-in-Group.result.now
    inputs (seen_in c.as_slice-named.result.now 0 candidates) v.items).
    shown_exact wanted recursive bodies inputs named candidates v.items right listed
    (subst
    (λ (bs : List Body).
    AreWantedOver wanted recursive bs inputs (seen_in named 0 candidates) v.items)
    c.deref-in-Group.ensures.value
    (rw c.as_slice-named.ensures at over)))
    c.visited_columns.ensures)
