use Rattle.std.proofs.Common.{◌≡◌, ◌∙◌, ◌+◌, ◌++◌, ◌∷◌, [], List, take, get_or, ap, sym, arith}
use Rattle.std.proofs.lemmas.List.{map-append, take_more, take_all}
use Rattle.predefined_names.specs.declared.predefined.Predefined.{Predefined}
use Rattle.predefined_names.specs.declared.predefined.Predefined.TheVariants as names
use Rattle.cat_eval.specs.declared.table.Entry.{Entry}
use Rattle.cat_eval.specs.Tables.{AreFilled, entry_names}
use Rattle.cat_eval.proofs.Filling.{filled_none, filled_with}
use Rattle.cat_eval.proofs.table.entries_of.Goals as goal

pub loop-name-preserved : goal.loop-name-preserved
loop-name-preserved c =
    let index = c.loop-name.name-index in
    let xs = c.args.names.now in
    let old = c.loop-name.entries.items in
    let name : Predefined = get_or xs index names.Loads in
    let one : Entry = record { name = name; column = c.column_for.result } in
    let before = c.loop-name.invariant in
    let named : entry_names (old ++ one ∷ []) ≡ take (index + 1) xs =
    map-append (λ (x : Entry). x.name) old (one ∷ [])
    ∙ ap (λ (ns : List Predefined). ns ++ name ∷ []) before.0
    ∙ sym (take_more xs index names.Loads c.loop-name-test.true) in
    let filled : AreFilled (old ++ one ∷ []) [] = filled_with old one [] before.1 (filled_none one c.column_for.ensures.kind c.column_for.ensures.empty) in
    rw c.in_ok-push.ensures.items (named, filled)

pub returns-clause-names : goal.returns-clause-names
returns-clause-names c =
    c.loop-name.invariant.0
    ∙ take_all c.loop-name.name-index c.args.names.now (omega (arith, c.loop-name-test.false))
