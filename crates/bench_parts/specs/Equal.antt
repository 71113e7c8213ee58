-- When two values of nodes, and two things that nodes are given, are equal: where their codes are,
-- which are trees of numbers.
use Rattle.std.specs.Prelude.{◌==◌, ◌&&◌, Bool, true, false}
use base.Stored.{Gv, gnil, gnum, gcons, Coded}
use Rattle.bench_values.specs.contracts.given.Given as given
use Rattle.bench_values.specs.contracts.value.NodeValue as value
use Rattle.bench_values.specs.Givens.{GivenContent}
use Rattle.bench_values.specs.Values.{NodeContent}

abbrev pub same_tree : Gv → Gv → Bool
same_tree gnil gnil = true
same_tree gnil (gnum n) = false
same_tree gnil (gcons a b) = false
same_tree (gnum m) gnil = false
same_tree (gnum m) (gnum n) = m == n
same_tree (gnum m) (gcons a b) = false
same_tree (gcons a b) gnil = false
same_tree (gcons a b) (gnum n) = false
same_tree (gcons a b) (gcons c d) = same_tree a c && same_tree b d

abbrev pub same_by : {X : Type 0} → Coded X → X → X → Bool
same_by coded x y = same_tree (coded.code x) (coded.code y)

abbrev pub same_content : NodeContent → NodeContent → Bool
same_content a b = same_by value.the_row.coded a b

abbrev pub same_given : GivenContent → GivenContent → Bool
same_given a b = same_by given.the_row.coded a b
