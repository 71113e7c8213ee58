-- The locations of a test are the names that the program numbers.
use Rattle.std.proofs.Common.{◌≡◌, ◌↔◌, List, ◌++◌, flat_map, Contains, AllPairs, refl, sym, ap, subst, true, true≢false, Ordering, Less, Equal, Greater, is_lt}
use Rattle.text_values.specs.declared.test.Test.{Test}
use Rattle.text_values.specs.TestValue.{Content, content_of}
use Rattle.meaning.specs.Names.{Name, locations_of_entry, locations_of_formula, locations_of_observable, locations}
use Rattle.meaning.proofs.Counting.{rising_are_one}
use Rattle.meaning.proofs.Orders.{name_asymmetric, order_rises}
use Rattle.meaning.proofs.Entries.{IsBefore, in_order_too, in_list_too, pairs}
use Rattle.ppc_lowering.specs.Lowering.{AreNamesOf, IsNameBefore, test_names}

less_is : (r : Ordering) → is_lt r ≡ true → r ≡ Less
less_is Less h = refl
less_is Equal h = absurd (true≢false (sym h))
less_is Greater h = absurd (true≢false (sym h))

-- the names of a test, each as often as it stands there
abbrev pub named : Content → List Name
named t =
    flat_map locations_of_entry t.init ++ locations_of_formula t.condition
    ++ flat_map locations_of_observable t.observed

same_names : (t : Test) → test_names t ≡ named (content_of t)
same_names t = refl

pub numbered_are : (t : Test) (names : List Name) → AreNamesOf (test_names t) names
    → names ≡ locations (content_of t)
numbered_are t names of =
    rising_are_one IsBefore name_asymmetric names (locations (content_of t))
    (λ i j d before lt. ap is_lt (of.rising i j d before lt))
    (pairs (locations (content_of t)) (order_rises (named (content_of t))))
    (λ n h. in_order_too (named (content_of t)) n
    (subst (λ (l : List Name). Contains l n) (same_names t) ((of.exact n).0 h)))
    (λ n h. (of.exact n).1
    (subst (λ (l : List Name). Contains l n) (sym (same_names t)) (in_list_too (named (content_of t)) n h)))

pub rises : (t : Content) → AllPairs IsNameBefore (locations t)
rises t i j d before lt =
    less_is _ (pairs (locations t) (order_rises (named t)) i j d before lt)

are_named : (t : Test) → AreNamesOf (test_names t) (locations (content_of t))
are_named t = record {
  rising = rises (content_of t);
  exact = λ n. (
    (λ h. subst (λ (l : List Name). Contains l n) (sym (same_names t)) (in_list_too (named (content_of t)) n h)),
    (λ h. in_order_too (named (content_of t)) n (subst (λ (l : List Name). Contains l n) (same_names t) h)),
  );
}

pub numbered : (t : Test) (names : List Name)
    → AreNamesOf (test_names t) names ↔ (names ≡ locations (content_of t))
numbered t names = (
  numbered_are t names,
  λ e. subst (λ (ns : List Name). AreNamesOf (test_names t) ns) (sym e) (are_named t),
)
