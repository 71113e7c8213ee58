use Rattle.std.proofs.Common.{Bool, Vec, Global}
use Rattle.std.proofs.lemmas.Result.{IfOk-weaker}
use Rattle.candidate_spaces.specs.Space.{candidates_in}
use Rattle.cat_eval.specs.Kept.{AreAskedOver}
use Rattle.cat_eval.specs.Needed.{ListsNeeded, predefined_names_in}
use Rattle.cat_machine.specs.Seen.{seen_in}
use Rattle.cat_eval.specs.Tables.{column_names}
use Rattle.cat_eval.proofs.Exact.{answers_exact}
use Rattle.cat_eval.proofs.evaluator.Evaluator.ask.Goals as goal

pub returns-clause-answers : goal.returns-clause-answers
returns-clause-answers c = λ role.
    let check = c.args.check.now in
    let inputs = c.args.inputs.now in
    let candidates = candidates_in c.args.space.now.combinations.items in
    let named = c.list.new.named in
    let needed : ListsNeeded c.need_names.new.self.needs.names.items (predefined_names_in check.code.steps.items) = rw role at c.in_ok-need_names.ensures.names in
    let listed : ListsNeeded (column_names named) (predefined_names_in check.code.steps.items) = λ name inside. c.in_ok-list.ensures.all name (rw c.deref.ensures.value (needed name inside)) (c.in_ok-need_names.ensures.there name (needed name inside)) in
    let right = c.in_ok-list.ensures.columns candidates c.need_names.ensures.over in
    IfOk-weaker c.answers_over.result _ _
    (λ (v : Vec Bool Global) (asked : AreAskedOver check inputs c.args.kept
    (seen_in c.as_slice.result.now 0 candidates) v.items).
    let (all, are, where_asked) = rw c.as_slice.ensures at asked in
    (all, answers_exact check inputs named candidates all right listed are, where_asked))
    c.answers_over.ensures
