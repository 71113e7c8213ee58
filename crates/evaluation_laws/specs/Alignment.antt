-- When the items of two models do the same, except for items that neither a check nor a flag
-- reaches.
use Rattle.std.specs.Prelude.{◌≡◌, ℕ, List, [], ◌∷◌, length, false, Contains}
use Rattle.std.specs.List.{AllZip}
use Rattle.binding_kinds.specs.declared.scope.Input.{Input}
use Rattle.binding_graph.specs.declared.resolved.ResolvedItem.{ResolvedItem}
use Rattle.binding_graph.specs.Contents.{role_content}
use Rattle.binding_graph.specs.Reach.{is_check}

-- the latest item of the first list or of the second stands for none of the other list, or they
-- stand for each other
pub data Move : Type 0 where
  First : Move
  Second : Move
  Both : Move

-- the numbers of the items that stand for each other; the latest item is the first of a list, and
-- an item's number is that of those behind it
abbrev pub pairs_of : List Move → List ResolvedItem → List ResolvedItem → List (ℕ × ℕ)
pairs_of [] rs qs = []
pairs_of (First ∷ ms) [] qs = []
pairs_of (First ∷ ms) (r ∷ rs) qs = pairs_of ms rs qs
pairs_of (Second ∷ ms) rs [] = []
pairs_of (Second ∷ ms) rs (q ∷ qs) = pairs_of ms rs qs
pairs_of (Both ∷ ms) [] qs = []
pairs_of (Both ∷ ms) (r ∷ rs) [] = []
pairs_of (Both ∷ ms) (r ∷ rs) (q ∷ qs) = (length rs, length qs) ∷ pairs_of ms rs qs

-- names at one position of items that stand for each other
abbrev pub IsPaired : List (ℕ × ℕ) → Input → Input → Type 0
IsPaired pairs i j = Contains pairs (i.item, j.item) × (i.position ≡ j.position)

-- Items that stand for each other do the same, with names of items that stand for each other in
-- turn. The other items are no checks and no flags.
abbrev pub AreAligned : List Move → List ResolvedItem → List ResolvedItem → Type 0
AreAligned [] [] [] = Unit {0}
AreAligned [] [] (q ∷ qs) = ⊥
AreAligned [] (r ∷ rs) qs = ⊥
AreAligned (First ∷ ms) [] qs = ⊥
AreAligned (First ∷ ms) (r ∷ rs) qs = (is_check r.role ≡ false) × AreAligned ms rs qs
AreAligned (Second ∷ ms) rs [] = ⊥
AreAligned (Second ∷ ms) rs (q ∷ qs) = (is_check q.role ≡ false) × AreAligned ms rs qs
AreAligned (Both ∷ ms) [] qs = ⊥
AreAligned (Both ∷ ms) (r ∷ rs) [] = ⊥
AreAligned (Both ∷ ms) (r ∷ rs) (q ∷ qs) =
    (role_content r.role ≡ role_content q.role)
    × AllZip (IsPaired (pairs_of ms rs qs)) r.inputs.items q.inputs.items × AreAligned ms rs qs
