use Rattle.std.proofs.Common.{◌≡◌, ◌+◌, ◌++◌, ◌∷◌, [], inl, inr, take, get_or, subst, arith}
use Rattle.std.proofs.lemmas.List.{take_more, take_all}
use Rattle.std.proofs.lemmas.List.Elements.{Contains-append_cases}
use Rattle.predefined_names.specs.declared.predefined.Predefined.{Predefined}
use Rattle.predefined_names.specs.declared.predefined.Predefined.TheVariants as names
use Rattle.cat_eval.specs.Tables.{HasName}
use Rattle.cat_eval.proofs.Listed.{single}
use Rattle.cat_eval.proofs.table.Table.has_all.Goals as goal

pub loop-name-preserved : goal.loop-name-preserved
loop-name-preserved c = λ x inside.
    let xs = c.args.names.now in
    let index = c.loop-name.name-index in
    let name : Predefined = get_or xs index names.Loads in
    let more : take (index + 1) xs ≡ take index xs ++ name ∷ [] = take_more xs index names.Loads c.loop-name-test.true in
    elim (Contains-append_cases (take index xs) (name ∷ []) x (rw more at inside)) [
      | inl before ↦ c.loop-name.invariant x before
      | inr last ↦ subst (λ (y : Predefined). HasName c.args.self.now.blocks.items y)
          (single name x last) (c.has.ensures c.if-not-has.false)
    ]

pub returns : goal.returns
returns c = λ all name inside.
    let whole : take c.loop-name.name-index c.args.names.now ≡ c.args.names.now = take_all c.loop-name.name-index c.args.names.now (omega (arith, c.loop-name-test.false)) in
    c.loop-name.invariant name (rw whole inside)
