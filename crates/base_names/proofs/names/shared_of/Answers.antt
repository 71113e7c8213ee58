use Rattle.std.proofs.Common.{◌≡◌, take, get_or, List, [], ◌∷◌, ◌++◌, ◌+◌, sym, ◌∙◌}
use Rattle.std.proofs.lemmas.Bool.{true≢false}
use Rattle.std.proofs.lemmas.List.{take_more, take_all}
use Rattle.predefined_names.specs.declared.predefined.Predefined.{Predefined}
use Rattle.predefined_names.specs.declared.predefined.Predefined.TheVariants.{Loads}
use Rattle.base_names.proofs.Covering.{covered_more}
use Rattle.base_names.proofs.names.shared_of.Goals as goal
use Rattle.base_names.proofs.names.shared_of.Goals.{then-not-is_set+in-Some+in_ok-make_room-in-Some, then-not-is_set+in-None, else-not-is_set}

pub loop-name-preserved : goal.loop-name-preserved
loop-name-preserved c =
    let ns : List Predefined = take c.loop-name.name-index c.args.names.now in
    let n : Predefined = get_or c.args.names.now c.loop-name.name-index Loads in
    let more : take (c.loop-name.name-index + 1) c.args.names.now ≡ ns ++ n ∷ [] = take_more c.args.names.now c.loop-name.name-index Loads c.loop-name-test.true in
    rw more (elim c.if-not-is_set.branch [
      | then-not-is_set+in-Some+in_ok-make_room-in-Some w ↦ rw w.shared-is (covered_more _ _ ns n
          c.loop-name.invariant w.in_ok-make_room-in-Some.ensures.kept (λ relation. rw
          (← w.shared_for.ensures, w.in-Some.is) w.in_ok-make_room-in-Some.ensures.there))
      | then-not-is_set+in-None w ↦ rw w.shared-is (covered_more _ _ ns n c.loop-name.invariant
          (λ other h. h) (λ relation. rw (← w.shared_for.ensures, w.in-None.is) tt))
      | else-not-is_set w ↦ rw w.shared-is (covered_more _ _ ns n c.loop-name.invariant
          (λ other h. h) (λ relation.
          absurd (true≢false (sym w.if-not-is_set.false ∙ c.is_set.ensures ∙ relation))))
    ])

pub returns : goal.returns
returns c name inside relation =
    let whole : take c.loop-name.name-index c.args.names.now ≡ c.args.names.now = take_all c.loop-name.name-index c.args.names.now c.loop-name-test.false in
    c.loop-name.invariant name (rw whole inside) relation
