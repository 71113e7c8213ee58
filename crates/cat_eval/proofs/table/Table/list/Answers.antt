use Rattle.std.proofs.Common.{◌≡◌, ◌+◌, ◌++◌, ◌∷◌, [], take, get_or, refl, arith}
use Rattle.std.proofs.lemmas.List.{map-append, take_more, take_all}
use Rattle.std.proofs.lemmas.List.Elements.{Contains-append_left, Contains-append_right}
use Rattle.predefined_names.specs.declared.predefined.Predefined.{Predefined}
use Rattle.predefined_names.specs.declared.predefined.Predefined.TheVariants as names
use Rattle.cat_machine.specs.declared.seen.NamedColumn.{NamedColumn}
use Rattle.cat_eval.specs.Tables.{HasName, column_names}
use Rattle.cat_eval.proofs.Blocks.{found_more, columns_with}
use Rattle.cat_eval.proofs.table.Table.list.Goals as goal
use Rattle.cat_eval.proofs.table.Table.list.Goals.{in-Some+in_ok-push, in_default}

pub loop-name-preserved : goal.loop-name-preserved
loop-name-preserved c =
    let xs = c.args.names.now in
    let index = c.loop-name.name-index in
    let name : Predefined = get_or xs index names.Loads in
    let blocks = c.args.self.now.blocks.items in
    let old = c.loop-name.named in
    let before = c.loop-name.invariant in
    let more : take (index + 1) xs ≡ take index xs ++ name ∷ [] = take_more xs index names.Loads c.loop-name-test.true in
    rw more (elim c.match-column.branch [
      | in-Some+in_ok-push w ↦
          let one : NamedColumn = record { name = name; column = w.in-Some.column } in
          let grown : column_names (old ++ one ∷ []) ≡ column_names old ++ name ∷ [] = map-append (λ (x : NamedColumn). x.name) old (one ∷ []) in
          rw (w.named-is, w.in_ok-push.ensures.added) (
            (λ candidates right. columns_with old one candidates (before.0 candidates right)
                (w.in-Some.ensures.1 candidates right)),
            found_more (λ x. HasName blocks x) (column_names old) (column_names (old ++ one ∷ []))
                (take index xs) name
                (λ x inside.
                rw grown (Contains-append_left (column_names old) (name ∷ []) x inside))
                (λ has. rw grown (Contains-append_right (column_names old) (name ∷ []) name
                (0, omega arith, refl)))
                before.1,
          )
      | in_default w ↦ rw w.named-is (
        before.0,
        found_more (λ x. HasName blocks x) (column_names old) (column_names old) (take index xs)
            name (λ x inside. inside) (λ has. absurd (w.in_default.ensures has)) before.1,
      )
    ])

pub returns-clause-all : goal.returns-clause-all
returns-clause-all c = λ name inside has.
    let whole : take c.loop-name.name-index c.args.names.now ≡ c.args.names.now = take_all c.loop-name.name-index c.args.names.now (omega (arith, c.loop-name-test.false)) in
    c.loop-name.invariant.1 name (rw whole inside) has
