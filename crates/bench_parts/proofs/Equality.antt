-- The tests of specs/Equal are exact.
use Rattle.std.proofs.Common.{◌≡◌, ◌↔◌, ◌&&◌, Bool, true, false, Option, Some, None, Result, Ok, Err, IfOk, refl, ap, sym, ◌∙◌, eqb-true, eq-eqb}
use base.Stored.{Gv, gnil, gnum, gcons, Coded}
use Rattle.bench_values.specs.contracts.given.Given as given
use Rattle.bench_values.specs.contracts.value.NodeValue as value
use Rattle.bench_values.specs.Givens.{GivenContent}
use Rattle.bench_values.specs.Values.{NodeContent}
use Rattle.bench_parts.specs.Equal.{same_tree, same_by, same_content, same_given}
use Rattle.bench_parts.specs.States.{is_given}

pub first_of : (a b : Bool) → a && b ≡ true → a ≡ true
first_of true b h = refl
first_of false b h = h

pub second_of : (a b : Bool) → a && b ≡ true → b ≡ true
second_of true b h = h
second_of false b h = cc

tree_is : (a b : Gv) → same_tree a b ≡ true → a ≡ b
tree_is gnil gnil h = refl
tree_is gnil (gnum n) h = cc
tree_is gnil (gcons a b) h = cc
tree_is (gnum m) gnil h = cc
tree_is (gnum m) (gnum n) h = ap gnum (eqb-true m n h)
tree_is (gnum m) (gcons a b) h = cc
tree_is (gcons a b) gnil h = cc
tree_is (gcons a b) (gnum n) h = cc
tree_is (gcons a b) (gcons c d) h =
    ap (λ (g : Gv). gcons g b) (tree_is a c (first_of (same_tree a c) (same_tree b d) h))
    ∙ ap (λ (g : Gv). gcons c g) (tree_is b d (second_of (same_tree a c) (same_tree b d) h))

tree_same : (a : Gv) → same_tree a a ≡ true
tree_same gnil = refl
tree_same (gnum n) = eq-eqb n n refl
tree_same (gcons a b) = rw (tree_same a) (tree_same b)

by_exact : {X : Type 0} (coded : Coded X) (x y : X) → (same_by coded x y ≡ true) ↔ (x ≡ y)
by_exact coded x y = (
  (λ h. coded.inj x y (tree_is (coded.code x) (coded.code y) h)),
  (λ e. ap (λ z. same_by coded x z) (sym e) ∙ tree_same (coded.code x)),
)

pub value_exact : (a b : NodeContent) → (same_content a b ≡ true) ↔ (a ≡ b)
value_exact a b = by_exact value.the_row.coded a b

pub given_exact : (a b : GivenContent) → (same_given a b ≡ true) ↔ (a ≡ b)
given_exact a b = by_exact given.the_row.coded a b

pub given_is : (o : Option GivenContent) (g : GivenContent) → is_given o g ≡ true → o ≡ Some g
given_is None g h = cc
given_is (Some f) g h = ap Some ((given_exact f g).0 h)

pub is_given_some : (o : Option GivenContent) (g : GivenContent) → o ≡ Some g → is_given o g ≡ true
is_given_some o g e = ap (λ (p : Option GivenContent). is_given p g) e ∙ (given_exact g g).1 refl

-- what is made of what is given now is given
pub gives : {E : Type 0} (r : Result GivenContent E) (x : GivenContent) (o : Option GivenContent)
    → Some x ≡ o → IfOk r (λ g. g ≡ x) → IfOk r (λ g. is_given o g ≡ true)
gives (Ok g) x o e h = is_given_some o g (sym e ∙ ap Some (sym h))
gives (Err f) x o e h = tt
