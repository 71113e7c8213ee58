use Rattle.std.proofs.Common.{List, [], ◌∷◌, ◌++◌, min, sym, subst}
use Rattle.std.specs.List.{AllZip}
use Rattle.std.proofs.lemmas.Slice.Zip.{all_zipped_more}
use Rattle.store_orders.specs.declared.combination.Combination.{Combination}
use Rattle.cut_spaces.specs.Spaces.{IsCutCombination}
use Rattle.cut_spaces.proofs.cut.all_cut.Goals as goal

pub loop-combination-preserved : goal.loop-combination-preserved
loop-combination-preserved c =
    let (cut, e, is) = c.in_ok-add_cut.ensures in
    subst
    (λ (l : List Combination). AllZip (IsCutCombination c.args.item.now (min c.args.locations 128))
    (c.loop-combination.yielded ++ c.in-Some.combination ∷ []) l) (sym e)
    (all_zipped_more (IsCutCombination c.args.item.now (min c.args.locations 128))
    c.loop-combination.yielded c.loop-combination.made.items c.in-Some.combination cut
    c.loop-combination.invariant is)
