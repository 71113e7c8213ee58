-- The least solution of a group whose bodies grow is tame: of all closed choices those count alone
-- that choose among the pairs of a list, and of these there are finitely many.
use Rattle.std.proofs.Common.{◌≡◌, ◌⊎◌, inl, inr, Bool, true, false, IsTrue, List, [], ◌∷◌, ◌++◌, map, Contains, if◌then◌else◌, refl, sym, ap, subst, ◌∙◌, true≢false}
use Rattle.std.proofs.lemmas.List.Elements.{Contains-append_left, Contains-append_right}
use Rattle.text_values.specs.ModelValue.{Term}
use Rattle.meaning.specs.Sets.{Relation}
use Rattle.meaning.specs.Names.{Name}
use Rattle.meaning.specs.Cat.{Meaning, Names, meaning_of, HasPair, with_group, Choice, IsChosen, IsClosed, Least}
use Rattle.meaning.proofs.Counting.{here, behind, head_or_tail}
use Rattle.plain_runs.proofs.Listing.{none_there, there_mapped}
use Rattle.meaning_laws.specs.Inside.{IsInside}
use Rattle.meaning_laws.specs.RisingLaws.{IsChoiceInside}
use Rattle.meaning_laws.proofs.Inside.{pair_inside}
use Rattle.meanings_exist.proofs.Decisions.{Decided, decided_as, both_decided, implied_decided, test_decided, same_name, same_pair, answer, answer_is, answer_from}
use Rattle.meanings_exist.proofs.Finite.{Finite, finite_list, finite_over, finite_map, each_decided, member_or_not}
use Rattle.meanings_exist.proofs.Tame.{IsTameRelation, Frame}
use Rattle.meanings_exist.proofs.Operators.{IsTame, pair_or_not, pair_from, pair_into}
use Rattle.meanings_exist.proofs.Expressions.{TameNames, meaning_tame, group_tame}

-- ---- parts of a list

-- the things of a list that pass a test
kept : {X : Type 0} → (X → Bool) → List X → List X
kept p [] = []
kept p (x ∷ xs) = if p x then x ∷ kept p xs else kept p xs

-- all that a test may leave of a list
parts : {X : Type 0} → List X → List (List X)
parts [] = [] ∷ []
parts (x ∷ xs) = map (λ ys. x ∷ ys) (parts xs) ++ parts xs

kept_is_part : {X : Type 0} (p : X → Bool) (xs : List X) → Contains (parts xs) (kept p xs)
unfolding kept parts
kept_is_part p [] = here [] []
kept_is_part {X} p (x ∷ xs) = by (p x) (kept_is_part p xs)
  where
    by : (b : Bool) → Contains (parts xs) (kept p xs)
        → Contains (map (λ ys. x ∷ ys) (parts xs) ++ parts xs)
        (if b then x ∷ kept p xs else kept p xs)
    by true rest =
        Contains-append_left (map (λ ys. x ∷ ys) (parts xs)) (parts xs) (x ∷ kept p xs)
        (there_mapped (λ (ys : List X). x ∷ ys) (parts xs) (kept p xs) rest)
    by false rest =
        Contains-append_right (map (λ ys. x ∷ ys) (parts xs)) (parts xs) (kept p xs) rest

kept_passes : {X : Type 0} (p : X → Bool) (xs : List X) (z : X) → Contains (kept p xs) z
    → IsTrue (p z)
unfolding kept
kept_passes p [] z there = absurd (none_there z there)
kept_passes {X} p (x ∷ xs) z there = by (p x) refl (kept_passes p xs z) there
  where
    by : (b : Bool) → p x ≡ b → (Contains (kept p xs) z → IsTrue (p z))
        → Contains (if b then x ∷ kept p xs else kept p xs) z → IsTrue (p z)
    by true e rest h = elim (head_or_tail x (kept p xs) z h) [
      | inl at ↦ subst (λ (w : X). IsTrue (p w)) at e
      | inr later ↦ rest later
    ]
    by false e rest h = rest h

kept_has : {X : Type 0} (p : X → Bool) (xs : List X) (z : X) → Contains xs z → IsTrue (p z)
    → Contains (kept p xs) z
unfolding kept
kept_has p [] z there passes = absurd (none_there z there)
kept_has {X} p (x ∷ xs) z there passes =
    by (p x) refl (λ later. kept_has p xs z later passes) (head_or_tail x xs z there)
  where
    by : (b : Bool) → p x ≡ b → (Contains xs z → Contains (kept p xs) z)
        → (x ≡ z) ⊎ Contains xs z → Contains (if b then x ∷ kept p xs else kept p xs) z
    by true e rest (inl at) =
        subst (λ (w : X). Contains (x ∷ kept p xs) w) at (here x (kept p xs))
    by true e rest (inr later) = behind x (kept p xs) z (rest later)
    by false e rest (inl at) =
        absurd (true≢false (sym (subst (λ (w : X). IsTrue (p w)) (sym at) passes) ∙ e))
    by false e rest (inr later) = rest later

-- ---- choices among cells

abbrev Cell : Type 0 → Type 0
Cell E = Name × (E × E)

module _ {E : Type 0} (F : Frame E) (N : Names E) (names : TameNames F.things N)
    (group : List (Name × Term))
    (grows : (c d : Choice E) → IsChoiceInside c d → (b : Name × Term) → Contains group b
    → IsInside (meaning_of F.all (with_group (IsChosen c) group N) b.1)
    (meaning_of F.all (with_group (IsChosen d) group N) b.1)) where
  -- a name of the group and a pair of things
  abbrev IsCell : Cell E → Type 0
  IsCell p =
      (b : Name × Term) × Contains group b
      × ((x : E) × Contains F.things x
      × ((y : E) × Contains F.things y × ((b.0, (x, y)) ≡ p)))

  all_cells : Finite IsCell
  all_cells =
      finite_over (λ b. Contains group b)
      (λ b p. (x : E) × Contains F.things x
      × ((y : E) × Contains F.things y × ((b.0, (x, y)) ≡ p)))
      (finite_list group)
      (λ b in_group. finite_over (λ x. Contains F.things x)
      (λ x p. (y : E) × Contains F.things y × ((b.0, (x, y)) ≡ p)) (finite_list F.things)
      (λ x there. finite_map (λ y. Contains F.things y) (λ y. (b.0, (x, y)))
      (finite_list F.things)))

  cells : List (Cell E)
  cells = all_cells.things

  in_cells : (b : Name × Term) → Contains group b → (x y : E) → Contains F.things x
      → Contains F.things y → Contains cells (b.0, (x, y))
  unfolding cells
  in_cells b in_group x y first second =
      (all_cells.exact (b.0, (x, y))).1 (b, in_group, (x, first, (y, second, refl)))

  cell_of : (n : Name) (x y : E) → Contains cells (n, (x, y)) → IsCell (n, (x, y))
  unfolding cells
  cell_of n x y there = (all_cells.exact (n, (x, y))).0 there

  cell_from : (n : Name) (x y : E) → Contains cells (n, (x, y)) → Contains F.things x
  cell_from n x y there =
      let cell : IsCell (n, (x, y)) = cell_of n x y there in
      subst (λ (z : E). Contains F.things z)
      (ap (λ (p : Cell E). p.1.0) cell.2.2.2) cell.2.1

  cell_into : (n : Name) (x y : E) → Contains cells (n, (x, y)) → Contains F.things y
  cell_into n x y there =
      let cell : IsCell (n, (x, y)) = cell_of n x y there in
      subst (λ (z : E). Contains F.things z)
      (ap (λ (p : Cell E). p.1.1) cell.2.2.2) cell.2.2.1

  in_or_not : (ps : List (Cell E)) (p : Cell E) → Decided (Contains ps p)
  in_or_not ps p =
      member_or_not (λ q. Contains ps q) (same_pair same_name (same_pair F.same F.same))
      (finite_list ps) p

  -- the choice of the cells that stand in a list
  chosen_or_not : (ps : List (Cell E)) (p : Cell E) → Decided (Contains ps p × Contains cells p)
  chosen_or_not ps p = both_decided (in_or_not ps p) (in_or_not cells p)

  chosen_by : List (Cell E) → Choice E
  chosen_by ps n x y = answer (chosen_or_not ps (n, (x, y)))

  chosen_is : (ps : List (Cell E)) (n : Name) (x y : E) → IsChosen (chosen_by ps) n x y
      → Contains ps (n, (x, y)) × Contains cells (n, (x, y))
  unfolding chosen_by
  chosen_is ps n x y e = answer_is (chosen_or_not ps (n, (x, y))) e

  chosen_from : (ps : List (Cell E)) (n : Name) (x y : E) → Contains ps (n, (x, y))
      → Contains cells (n, (x, y)) → IsChosen (chosen_by ps) n x y
  unfolding chosen_by
  chosen_from ps n x y there cell = answer_from (chosen_or_not ps (n, (x, y))) (there, cell)

  choice_tame : (ps : List (Cell E)) (n : Name)
      → IsTameRelation F.things (IsChosen (chosen_by ps) n)
  choice_tame ps n = record {
    from = λ x y e. cell_from n x y (chosen_is ps n x y e).1;
    into = λ x y e. cell_into n x y (chosen_is ps n x y e).1;
    decided = λ x y. test_decided (chosen_by ps n x y);
  }

  -- what a body means where the names of the group stand for a choice
  abbrev Meant : Choice E → Name × Term → Meaning E
  Meant c b = meaning_of F.all (with_group (IsChosen c) group N) b.1

  meant_tame : (ps : List (Cell E)) (b : Name × Term) → IsTame F.things (Meant (chosen_by ps) b)
  meant_tame ps b =
      meaning_tame F (with_group (IsChosen (chosen_by ps)) group N)
      (group_tame F.things (IsChosen (chosen_by ps)) (choice_tame ps) group N names) b.1

  -- each pair that a body gives is a cell
  given_cell : (ps : List (Cell E)) (b : Name × Term) → Contains group b → (x y : E)
      → HasPair (Meant (chosen_by ps) b) x y → Contains cells (b.0, (x, y))
  given_cell ps b in_group x y pair =
      in_cells b in_group x y
      (pair_from F.things (Meant (chosen_by ps) b) (meant_tame ps b) x y pair)
      (pair_into F.things (Meant (chosen_by ps) b) (meant_tame ps b) x y pair)

  -- ---- closed choices

  abbrev Closed : List (Cell E) → Type 0
  Closed ps = IsClosed F.all N group (chosen_by ps)

  closed_or_not : (ps : List (Cell E)) → Decided (Closed ps)
  closed_or_not ps =
      decided_as
      (λ h b in_group x y pair. h b in_group x
      (pair_from F.things (Meant (chosen_by ps) b) (meant_tame ps b) x y pair) y
      (pair_into F.things (Meant (chosen_by ps) b) (meant_tame ps b) x y pair) pair)
      (λ h b in_group x first y second pair. h b in_group x y pair)
      (each_decided (λ b. Contains group b)
      (λ b. (x : E) → Contains F.things x → (y : E) → Contains F.things y
      → HasPair (Meant (chosen_by ps) b) x y → IsChosen (chosen_by ps) b.0 x y)
      (finite_list group)
      (λ b in_group. each_decided (λ x. Contains F.things x)
      (λ x. (y : E) → Contains F.things y → HasPair (Meant (chosen_by ps) b) x y
      → IsChosen (chosen_by ps) b.0 x y)
      (finite_list F.things)
      (λ x first. each_decided (λ y. Contains F.things y)
      (λ y. HasPair (Meant (chosen_by ps) b) x y → IsChosen (chosen_by ps) b.0 x y)
      (finite_list F.things)
      (λ y second. implied_decided
      (pair_or_not F.things (Meant (chosen_by ps) b) (meant_tame ps b) x y)
      (test_decided (chosen_by ps b.0 x y))))))

  -- what a choice chooses of the cells
  test_by : Choice E → Cell E → Bool
  test_by c p = c p.0 p.1.0 p.1.1

  within : Choice E → List (Cell E)
  within c = kept (test_by c) cells

  within_inside : (c : Choice E) → IsChoiceInside (chosen_by (within c)) c
  unfolding test_by within
  within_inside c n x y e =
      kept_passes (test_by c) cells (n, (x, y)) (chosen_is (within c) n x y e).0

  within_closed : (c : Choice E) → IsClosed F.all N group c → Closed (within c)
  unfolding test_by within
  within_closed c closed b in_group x y pair =
      let cell : Contains cells (b.0, (x, y)) = given_cell (within c) b in_group x y pair in
      let more : HasPair (Meant c b) x y =
      pair_inside (Meant (chosen_by (within c)) b) (Meant c b)
      (grows (chosen_by (within c)) c (within_inside c) b in_group) x y pair in
      chosen_from (within c) b.0 x y
      (kept_has (test_by c) cells (b.0, (x, y)) cell (closed b in_group x y more)) cell

  -- ---- the least solution

  abbrev InAll : Name → Relation E
  InAll n x y =
      (ps : List (Cell E)) → Contains (parts cells) ps
      → Closed ps → IsChosen (chosen_by ps) n x y

  least_from : (n : Name) (x y : E) → InAll n x y → Least F.all N group n x y
  unfolding within
  least_from n x y h c closed =
      within_inside c n x y
      (h (within c) (kept_is_part (test_by c) cells) (within_closed c closed))

  least_or_not : (n : Name) (x y : E) → Decided (Least F.all N group n x y)
  least_or_not n x y =
      decided_as (least_from n x y) (λ h ps part closed. h (chosen_by ps) closed)
      (each_decided (λ ps. Contains (parts cells) ps)
      (λ ps. Closed ps → IsChosen (chosen_by ps) n x y) (finite_list (parts cells))
      (λ ps part. implied_decided (closed_or_not ps) (test_decided (chosen_by ps n x y))))

  all_closed : Closed cells
  all_closed b in_group x y pair =
      let cell : Contains cells (b.0, (x, y)) = given_cell cells b in_group x y pair in
      chosen_from cells b.0 x y cell cell

  least_cell : (n : Name) (x y : E) → Least F.all N group n x y → Contains cells (n, (x, y))
  least_cell n x y h = (chosen_is cells n x y (h (chosen_by cells) all_closed)).1

  pub least_tame : (n : Name) → IsTameRelation F.things (Least F.all N group n)
  least_tame n = record {
    from = λ x y h. cell_from n x y (least_cell n x y h);
    into = λ x y h. cell_into n x y (least_cell n x y h);
    decided = least_or_not n;
  }
