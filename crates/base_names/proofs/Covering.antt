-- The names of relations that are made room for.
use Rattle.std.proofs.Common.{ℕ, zero, suc, ◌≡◌, ◌<◌, false, List, [], ◌∷◌, ◌++◌, Option, Some, None, Contains, subst, length, get_or, refl, arith, inl, inr}
use Rattle.std.proofs.lemmas.List.{map-append}
use Rattle.std.proofs.lemmas.List.Elements.{Contains-push_cases, Contains-append_left, Contains-append_right}
use Rattle.predefined_names.specs.declared.predefined.Predefined.{Predefined}
use Rattle.predefined_names.specs.PredefinedNames.{is_set}
use Rattle.base_names.specs.declared.names.Shared.{Shared}
use Rattle.base_names.specs.Known.{shared_names}
use Rattle.base_names.specs.Candidate.{HoldsName, AreCovered, shared_for}

-- what is there stays there
pub there_still : (names more : List Predefined) (needed : Option Predefined)
    → ((other : Predefined) → Contains names other → Contains more other) → HoldsName names needed
    → HoldsName more needed
there_still names more None kept there = there
there_still names more (Some name) kept there = kept name there

-- one name more is covered
pub covered_more : (names more : List Predefined) (ns : List Predefined) (n : Predefined)
    → AreCovered names ns → ((other : Predefined) → Contains names other → Contains more other)
    → (is_set n ≡ false → HoldsName more (shared_for n)) → AreCovered more (ns ++ n ∷ [])
covered_more names more ns n covered kept there name inside relation =
    elim (Contains-push_cases ns n name inside) [
      | inl h ↦ there_still names more (shared_for name) kept (covered name h relation)
      | inr e ↦ subst (λ (m : Predefined). is_set m ≡ false → HoldsName more (shared_for m)) e there
          relation
    ]

-- the name at an index is among the names
pub named_at : (xs : List Shared) (k : ℕ) (d : Shared) → k < length xs
    → Contains (shared_names xs) (get_or xs k d).name
named_at [] k d inside = absurd (omega (arith, inside))
named_at (x ∷ xs) zero d inside = (0, omega arith, refl)
named_at (x ∷ xs) (suc k) d inside =
    Contains-append_right (x.name ∷ []) (shared_names xs) (get_or xs k d).name
    (named_at xs k d (omega (arith, inside)))

-- a name is still among the names where one is added
pub kept_with_one : (xs ys : List Shared) (x : Shared) → ys ≡ xs ++ x ∷ [] → (other : Predefined)
    → Contains (shared_names xs) other → Contains (shared_names ys) other
kept_with_one xs ys x same other inside =
    rw (same, map-append) (Contains-append_left (shared_names xs) (x.name ∷ []) other inside)
