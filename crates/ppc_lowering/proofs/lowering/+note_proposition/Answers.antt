use Rattle.std.proofs.Common.{OnOk, sym, subst, List, ℕ}
use Rattle.std.proofs.lemmas.Result.{on_ok_weaker}
use Rattle.text_values.specs.declared.test.Proposition.{Proposition}
use Rattle.text_values.specs.TestValue.{formula_of}
use Rattle.ppc_lowering.specs.Lowering.{Gains, formula_names}
use Rattle.ppc_lowering.proofs.Sorting.{adds_after}
use Rattle.ppc_lowering.proofs.lowering.+note_proposition.Goals as goal

pub returns-in-Holds-clause-noted : goal.returns-in-Holds-clause-noted
returns-in-Holds-clause-noted t c =
    subst
    (λ (p : Proposition). OnOk c.note_both.result (Gains (formula_names (formula_of p))
    c.args.names.now.items c.note_both.new.names.items))
    (sym c.in-Holds.is) c.note_both.ensures.noted

pub returns-in-Not-clause-noted : goal.returns-in-Not-clause-noted
returns-in-Not-clause-noted t c =
    subst
    (λ (p : Proposition). OnOk c.note_proposition.result (Gains (formula_names (formula_of p))
    c.args.names.now.items c.note_proposition.new.names.items))
    (sym c.in-Not.is)
    (subst
    (λ (p : Proposition). OnOk c.note_proposition.result (Gains (formula_names (formula_of p))
    c.args.names.now.items c.note_proposition.new.names.items)) c.deref.ensures
    c.note_proposition.ensures.noted)

pub returns-in_ok-note_proposition-in-Joined-clause-noted : goal.returns-in_ok-note_proposition-in-Joined-clause-noted
returns-in_ok-note_proposition-in-Joined-clause-noted t c =
    let left : List (List ℕ) = formula_names (formula_of c.in-Joined.left.value) in
    let right : List (List ℕ) = formula_names (formula_of c.in-Joined.right.value) in
    let old : List (List ℕ) = c.args.names.now.items in
    let between : List (List ℕ) = c.note_proposition-in-Joined.new.names.items in
    let new : List (List ℕ) = c.note_proposition-in-Joined-2.new.names.items in
    let first : Gains left old between = subst (λ (p : Proposition). Gains (formula_names (formula_of p)) old between) c.deref-in-Joined.ensures c.in_ok-note_proposition-in-Joined.ensures.noted in
    let then : OnOk c.note_proposition-in-Joined-2.result (Gains right between new) = subst (λ (p : Proposition). OnOk c.note_proposition-in-Joined-2.result (Gains (formula_names (formula_of p)) between new)) c.deref-in-Joined-2.ensures c.note_proposition-in-Joined-2.ensures.noted in
    subst
    (λ (p : Proposition). OnOk c.note_proposition-in-Joined-2.result
    (Gains (formula_names (formula_of p)) old new))
    (sym c.in-Joined.is)
    (on_ok_weaker c.note_proposition-in-Joined-2.result
    (λ h. adds_after left right old between new first h) then)
