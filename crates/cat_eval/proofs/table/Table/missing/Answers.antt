use Rattle.std.proofs.Common.{◌≡◌, ◌+◌, ◌++◌, ◌∷◌, [], inl, inr, take, get_or, refl, arith}
use Rattle.std.proofs.lemmas.List.{take_more, take_all}
use Rattle.std.proofs.lemmas.List.Elements.{Contains-append_left, Contains-append_right}
use Rattle.predefined_names.specs.declared.predefined.Predefined.{Predefined}
use Rattle.predefined_names.specs.declared.predefined.Predefined.TheVariants as names
use Rattle.cat_eval.specs.Needs.{is_changing_name}
use Rattle.cat_eval.specs.Tables.{HasName}
use Rattle.cat_eval.proofs.Blocks.{missing_more, nothing_in}
use Rattle.cat_eval.proofs.table.Table.missing.Goals as goal
use Rattle.cat_eval.proofs.table.Table.missing.Goals.{then-lacks+in_ok-add, else-lacks}

pub loop-name-init : goal.loop-name-init
loop-name-init c =
    (c.none-missing.ensures.suited, (λ name inside same. absurd (nothing_in name inside)))

pub loop-name-preserved : goal.loop-name-preserved
loop-name-preserved c =
    let xs = c.args.names.now in
    let index = c.loop-name.name-index in
    let name : Predefined = get_or xs index names.Loads in
    let blocks = c.args.self.now.blocks.items in
    let old = c.loop-name.missing.names.items in
    let before = c.loop-name.invariant in
    let more : take (index + 1) xs ≡ take index xs ++ name ∷ [] = take_more xs index names.Loads c.loop-name-test.true in
    rw more (elim c.if-lacks.branch [
      | then-lacks+in_ok-add w ↦ rw w.missing-is (
        w.in_ok-add.ensures.suited before.0,
        missing_more (λ x. is_changing_name x ≡ c.args.is_changing) (λ x. HasName blocks x) old _
            (take index xs) name
            (λ x inside.
            w.in_ok-add.ensures.names x (Contains-append_left old (name ∷ []) x inside))
            (λ same. inr (w.in_ok-add.ensures.names name (Contains-append_right old (name ∷ []) name
            (0, omega arith, refl))))
            before.1,
      )
      | else-lacks w ↦ rw w.missing-is (
        before.0,
        missing_more (λ x. is_changing_name x ≡ c.args.is_changing) (λ x. HasName blocks x) old old
            (take index xs) name
            (λ x inside. inside)
            (λ same. inl (c.lacks.ensures w.if-lacks.false same))
            before.1,
      )
    ])

pub returns-clause-all : goal.returns-clause-all
returns-clause-all c = λ name inside same.
    let whole : take c.loop-name.name-index c.args.names.now ≡ c.args.names.now = take_all c.loop-name.name-index c.args.names.now (omega (arith, c.loop-name-test.false)) in
    c.loop-name.invariant.1 name (rw whole inside) same
