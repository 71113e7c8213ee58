-- Which slots, names and functions of two models stand for each other, as an item of both uses
-- them.
use Rattle.std.proofs.Common.{ℕ, ◌≡◌, ◌<◌, ◌≤◌, ◌+◌, ◌-◌, ◌⊎◌, ◌↔◌, zero, suc, List, [], ◌∷◌, ◌++◌, length, map, true, false, Contains, sym, ap, ◌∙◌, subst, inl, inr, arith}
use Rattle.std.specs.Prelude.{nat_le}
use Rattle.std.specs.List.{AllByRecursion as Each}
use Rattle.std.proofs.lemmas.Bool.{cases_Bool, false≢true, leb-true, leb-false}
use Rattle.std.proofs.lemmas.Bool.Decides.{nat_tests}
use Rattle.predefined_names.specs.declared.predefined.Predefined.{Predefined}
use Rattle.binding_kinds.specs.declared.scope.Input.{Input}
use Rattle.binding_kinds.specs.Value.{Naming}
use Rattle.binding_laws.specs.ItemLaws.{IsPairing, Matching, first_scope}
use Rattle.binding_laws.specs.Reread.{ReadModel, outer_namings, IsReadModel, seen_input}
use Rattle.binding_laws.proofs.Lists.{contains_here, contains_later, contains_one_of, contains_none, contains_left, contains_right, contains_either, contains_map, contains_mapped, IsSamePair, pairs_of, ArePartners, partners_are}
use Rattle.binding_laws.proofs.Told.{told_below}
use Rattle.binding_laws.proofs.Placed.{sees, start, slot_of, under_at, IsNameOfGroup, input_told, one_input}
use Rattle.binding_laws.proofs.Seen.{input_apart}
use Rattle.binding_laws.proofs.Both.{same_seen}

-- ---- slots of predefined names

abbrev outer_slots : ℕ → List (ℕ × ℕ)
outer_slots zero = []
outer_slots (suc n) = (n, n) ∷ outer_slots n

outer_has : (n a : ℕ) → a < n → Contains (outer_slots n) (a, a)
outer_has zero a lt = absurd (omega (arith, lt))
outer_has (suc n) a lt = elim (cases_Bool (nat_le n a)) [
  | inl t ↦ (let le = leb-true n a t in
      let same : n ≡ a = omega (arith, le, lt) in
      subst (λ (k : ℕ). Contains ((n, n) ∷ outer_slots n) (k, k)) same
      (contains_here (n, n) (outer_slots n)))
  | inr f ↦ contains_later (n, n) (outer_slots n) (a, a) (outer_has n a (leb-false n a f))
]

pub record IsOuterPair (n a b : ℕ) : Type 0 where
  pub same : a ≡ b
  pub below : a < n

outer_is : (n a b : ℕ) → Contains (outer_slots n) (a, b) → IsOuterPair n a b
outer_is zero a b h = absurd (contains_none (a, b) h)
outer_is (suc n) a b h =
    at_one (λ g. outer_is n a b g) (contains_one_of (n, n) (outer_slots n) (a, b) h)
  where
    at_one : (Contains (outer_slots n) (a, b) → IsOuterPair n a b)
        → IsSamePair (n, n) (a, b) ⊎ Contains (outer_slots n) (a, b) → IsOuterPair (suc n) a b
    at_one rest (inl e) =
        let left : n ≡ a = ap (λ (z : ℕ × ℕ). z.0) e in
        let right : n ≡ b = ap (λ (z : ℕ × ℕ). z.1) e in
        record { same = sym left ∙ right; below = omega (arith, left) }
    at_one rest (inr g) =
        let r = rest g in record { same = r.same; below = (let lt = r.below in omega (arith, lt)) }

-- ---- names of the item itself

abbrev own_slots : ℕ → ℕ → ℕ → List (ℕ × ℕ)
own_slots from other zero = []
own_slots from other (suc n) = (from + n, other + n) ∷ own_slots from other n

abbrev own_inputs : ℕ → ℕ → ℕ → List (Input × Input)
own_inputs k l zero = []
own_inputs k l (suc n) =
    (record { item = k; position = n }, record { item = l; position = n }) ∷ own_inputs k l n

own_slots_has : (from other n d : ℕ) → d < n
    → Contains (own_slots from other n) (from + d, other + d)
own_slots_has from other zero d lt = absurd (omega (arith, lt))
own_slots_has from other (suc n) d lt = elim (cases_Bool (nat_le n d)) [
  | inl t ↦ (
      let le = leb-true n d t in
      let same : n ≡ d = omega (arith, le, lt) in
      subst (λ (k : ℕ). Contains (own_slots from other (suc n)) (from + k, other + k)) same
      (contains_here (from + n, other + n) (own_slots from other n))
      )
  | inr f ↦ contains_later (from + n, other + n) (own_slots from other n) (from + d, other + d)
      (own_slots_has from other n d (leb-false n d f))
]

abbrev own_pair : ℕ → ℕ → ℕ → Input × Input
own_pair k l d = (record { item = k; position = d }, record { item = l; position = d })

own_inputs_has : (k l n d : ℕ) → d < n
    → Contains (own_inputs k l n) (
      record { item = k; position = d },
      record { item = l; position = d },
    )
own_inputs_has k l zero d lt = absurd (omega (arith, lt))
own_inputs_has k l (suc n) d lt = elim (cases_Bool (nat_le n d)) [
  | inl t ↦ (let le = leb-true n d t in
      let same : n ≡ d = omega (arith, le, lt) in
      subst (λ (p : ℕ). Contains (own_inputs k l (suc n)) (own_pair k l p)) same
      (contains_here (own_pair k l n) (own_inputs k l n)))
  | inr f ↦ contains_later (own_pair k l n) (own_inputs k l n) (own_pair k l d)
      (own_inputs_has k l n d (leb-false n d f))
]

pub record IsOwnPair (from other a b : ℕ) : Type 0 where
  pub position : ℕ
  pub left : a ≡ from + position
  pub right : b ≡ other + position

own_is : (from other n a b : ℕ) → Contains (own_slots from other n) (a, b)
    → IsOwnPair from other a b
own_is from other zero a b h = absurd (contains_none (a, b) h)
own_is from other (suc n) a b h =
    at_one (λ g. own_is from other n a b g) (contains_one_of (from + n, other + n)
    (own_slots from other n) (a, b) h)
  where
    at_one : (Contains (own_slots from other n) (a, b) → IsOwnPair from other a b)
        → IsSamePair (from + n, other + n) (a, b) ⊎ Contains (own_slots from other n) (a, b)
        → IsOwnPair from other a b
    at_one rest (inl e) =
        record {
          position = n;
          left = sym (ap (λ (z : ℕ × ℕ). z.0) e);
          right = sym (ap (λ (z : ℕ × ℕ). z.1) e);
        }
    at_one rest (inr g) = rest g

-- ---- all of them

module _ (ps : List Predefined) (m w : ReadModel) (k l : ℕ) (rs qs : List Input) (fs gs : List ℕ)
    (count : ℕ) where
  abbrev names : List Naming
  names = outer_namings ps

  abbrev slots_both : Input × Input → ℕ × ℕ
  slots_both p = (slot_of names m.items p.0, slot_of names w.items p.1)

  abbrev own_part : List (ℕ × ℕ)
  own_part = own_slots (start names m.items k) (start names w.items l) count

  abbrev used_part : List (ℕ × ℕ)
  used_part = map slots_both (pairs_of rs qs)

  abbrev pub matching : Matching
  matching = record {
    pairing =
        record {
          slots = outer_slots (length names) ++ (used_part ++ own_part);
          inputs = pairs_of rs qs ++ own_inputs k l count;
          kinds = false;
        };
    functions = pairs_of fs gs;
  }

  pub matches_outer : (a : ℕ) → a < length names → Contains matching.pairing.slots (a, a)
  matches_outer a lt =
      contains_left (outer_slots (length names)) (used_part ++ own_part) (a, a)
      (outer_has (length names) a lt)

  pub matches_used : (i j : Input) → Contains (pairs_of rs qs) (i, j)
      → Contains matching.pairing.slots (slot_of names m.items i, slot_of names w.items j)
      × Contains matching.pairing.inputs (i, j)
  matches_used i j h = (
    contains_right (outer_slots (length names)) (used_part ++ own_part) (slots_both (i, j))
        (contains_left used_part own_part (slots_both (i, j))
        (contains_map slots_both (pairs_of rs qs) (i, j) h)),
    contains_left (pairs_of rs qs) (own_inputs k l count) (i, j) h,
  )

  pub matches_own : (d : ℕ) → d < count
      → Contains matching.pairing.slots (start names m.items k + d, start names w.items l + d)
      × Contains matching.pairing.inputs (
        record { item = k; position = d },
        record { item = l; position = d },
      )
  matches_own d lt =
      let pair : ℕ × ℕ = (start names m.items k + d, start names w.items l + d) in (
        contains_right (outer_slots (length names)) (used_part ++ own_part) pair
            (contains_right used_part own_part pair (own_slots_has (start names m.items k)
            (start names w.items l) count d lt)),
        contains_right (pairs_of rs qs) (own_inputs k l count)
            (record { item = k; position = d }, record { item = l; position = d })
            (own_inputs_has k l count d lt),
      )

  module _ (well : IsReadModel (outer_namings ps) m) (other : IsReadModel (outer_namings ps) w)
      (same : map (seen_input m) rs ≡ map (seen_input w) qs)
      (left : Each (IsNameOfGroup (outer_namings ps) m.items k) rs)
      (right : Each (IsNameOfGroup (outer_namings ps) w.items l) qs) where
    pub record IsUsedPair (a b : ℕ) : Type 0 where
      pub i : Input
      pub j : Input
      pub is_left : a ≡ slot_of (outer_namings ps) m.items i
      pub is_right : b ≡ slot_of (outer_namings ps) w.items j
      pub partners : ArePartners (seen_input m) (seen_input w)
          (IsNameOfGroup (outer_namings ps) m.items k) (IsNameOfGroup (outer_namings ps) w.items l) i j

    used_is : (a b : ℕ) → Contains used_part (a, b) → IsUsedPair a b
    used_is a b h =
        let is = contains_mapped slots_both (pairs_of rs qs) (a, b) h in
        record {
          i = is.0.0;
          j = is.0.1;
          is_left = sym (ap (λ (z : ℕ × ℕ). z.0) is.2);
          is_right = sym (ap (λ (z : ℕ × ℕ). z.1) is.2);
          partners =
              partners_are (seen_input m) (seen_input w) (IsNameOfGroup (outer_namings ps) m.items k)
              (IsNameOfGroup (outer_namings ps) w.items l) rs qs same left right is.0.0 is.0.1 is.1;
        }

    abbrev IsMatchedPair : ℕ → ℕ → Type 0
    IsMatchedPair a b =
        IsOuterPair (length names) a b
        ⊎ (IsUsedPair a b ⊎ IsOwnPair (start names m.items k) (start names w.items l) a b)

    pair_is : (a b : ℕ) → Contains matching.pairing.slots (a, b) → IsMatchedPair a b
    pair_is a b h =
        elim (contains_either (outer_slots (length names)) (used_part ++ own_part) (a, b) h) [
          | inl x ↦ inl (outer_is (length names) a b x)
          | inr y ↦ inr (elim (contains_either used_part own_part (a, b) y) [
            | inl u ↦ inl (used_is a b u)
            | inr o ↦ inr (own_is (start names m.items k) (start names w.items l) count a b o)
          ])
        ]

    -- a slot of a name of an item before that one
    between : (v : ReadModel) (index : ℕ) (i : Input) → IsNameOfGroup (outer_namings ps) v.items index i
        → (length names ≤ slot_of names v.items i)
        × (slot_of names v.items i < start names v.items index)
    between v index i h =
        let low = (under_at (first_scope names) 0 v.items i.item).shorter in
        let there = told_below (sees names v.items index).names (slot_of names v.items i) _ (input_told names v.items i h.name h.kind h.input index h.before) in
        (omega (arith, low), there)

    long_left : length names ≤ start names m.items k
    long_left = (under_at (first_scope names) 0 m.items k).shorter

    long_right : length names ≤ start names w.items l
    long_right = (under_at (first_scope names) 0 w.items l).shorter

    -- an input is told by what is seen of it
    told_left : (i j : Input) → IsNameOfGroup (outer_namings ps) m.items k i
        → IsNameOfGroup (outer_namings ps) m.items k j → seen_input m i ≡ seen_input m j → i ≡ j
    told_left i j h g e =
        let is = same_seen ps m m well well i j h.name h.kind e h.input g.name g.kind g.input in
        input_apart ps m well i j h.name h.kind g.kind h.input is.input
        (well.apart i.item j.item is.number is.left is.right)

    told_right : (i j : Input) → IsNameOfGroup (outer_namings ps) w.items l i
        → IsNameOfGroup (outer_namings ps) w.items l j → seen_input w i ≡ seen_input w j → i ≡ j
    told_right i j h g e =
        let is = same_seen ps w w other other i j h.name h.kind e h.input g.name g.kind g.input in
        input_apart ps w other i j h.name h.kind g.kind h.input is.input
        (other.apart i.item j.item is.number is.left is.right)

    used_one : (a b c d : ℕ) → IsUsedPair a b → IsUsedPair c d → (a ≡ c) ↔ (b ≡ d)
    used_one a b c d h g = (
      (λ e. (
          let x = h.partners.left in
          let y = g.partners.left in
          let inputs : h.i ≡ g.i = one_input names m.items h.i g.i x.name y.name x.kind y.kind x.input y.input (sym h.is_left ∙ (e ∙ g.is_left)) in
          let others : h.j ≡ g.j = told_right h.j g.j h.partners.right g.partners.right (sym h.partners.same ∙ (ap (seen_input m) inputs ∙ g.partners.same)) in
          h.is_right ∙ (ap (slot_of names w.items) others ∙ sym g.is_right)
          )),
      (λ e. (
          let x = h.partners.right in
          let y = g.partners.right in
          let others : h.j ≡ g.j = one_input names w.items h.j g.j x.name y.name x.kind y.kind x.input y.input (sym h.is_right ∙ (e ∙ g.is_right)) in
          let inputs : h.i ≡ g.i = told_left h.i g.i h.partners.left g.partners.left (h.partners.same ∙ (ap (seen_input w) others ∙ sym g.partners.same)) in
          h.is_left ∙ (ap (slot_of names m.items) inputs ∙ sym g.is_left)
          )),
    )

    -- pairs of two sorts have other slots on both sides
    unlike : (a b c d : ℕ) → a < c → b < d → (a ≡ c) ↔ (b ≡ d)
    unlike a b c d x y = ((λ e. absurd (omega (arith, x, e))), (λ e. absurd (omega (arith, y, e))))

    unlike_turned : (a b c d : ℕ) → c < a → d < b → (a ≡ c) ↔ (b ≡ d)
    unlike_turned a b c d x y =
        ((λ e. absurd (omega (arith, x, e))), (λ e. absurd (omega (arith, y, e))))

    outer_low : (a b : ℕ) → IsOuterPair (length names) a b → (a < length names) × (b < length names)
    outer_low a b h = (h.below, (let lt = h.below in let e = h.same in omega (arith, lt, e)))

    used_left : (a b : ℕ) → IsUsedPair a b → (length names ≤ a) × (a < start names m.items k)
    used_left a b h =
        let both = between m k h.i h.partners.left in
        let e = h.is_left in (omega (arith, e, both.0), omega (arith, e, both.1))

    used_right : (a b : ℕ) → IsUsedPair a b → (length names ≤ b) × (b < start names w.items l)
    used_right a b h =
        let both = between w l h.j h.partners.right in
        let e = h.is_right in (omega (arith, e, both.0), omega (arith, e, both.1))

    own_high : (a b : ℕ) → IsOwnPair (start names m.items k) (start names w.items l) a b
        → (start names m.items k ≤ a) × (start names w.items l ≤ b)
    own_high a b h = let x = h.left in let y = h.right in (omega (arith, x), omega (arith, y))

    one_of : (a b c d : ℕ) → IsMatchedPair a b → IsMatchedPair c d → (a ≡ c) ↔ (b ≡ d)
    one_of a b c d (inl h) (inl g) =
        let x = h.same in
        let y = g.same in ((λ e. omega (arith, x, y, e)), (λ e. omega (arith, x, y, e)))
    one_of a b c d (inl h) (inr (inl g)) =
        let x = outer_low a b h in
        let y = used_left c d g in
        let z = used_right c d g in
        unlike a b c d (omega (arith, x.0, y.0)) (omega (arith, x.1, z.0))
    one_of a b c d (inl h) (inr (inr g)) =
        let x = outer_low a b h in
        let y = own_high c d g in
        unlike a b c d (omega (arith, x.0, y.0, long_left)) (omega (arith, x.1, y.1, long_right))
    one_of a b c d (inr (inl h)) (inl g) =
        let x = outer_low c d g in
        let y = used_left a b h in
        let z = used_right a b h in
        unlike_turned a b c d (omega (arith, x.0, y.0)) (omega (arith, x.1, z.0))
    one_of a b c d (inr (inl h)) (inr (inl g)) = used_one a b c d h g
    one_of a b c d (inr (inl h)) (inr (inr g)) =
        let y = used_left a b h in
        let z = used_right a b h in
        let x = own_high c d g in
        unlike a b c d (omega (arith, x.0, y.1)) (omega (arith, x.1, z.1))
    one_of a b c d (inr (inr h)) (inl g) =
        let x = outer_low c d g in
        let y = own_high a b h in
        unlike_turned a b c d (omega (arith, x.0, y.0, long_left))
        (omega (arith, x.1, y.1, long_right))
    one_of a b c d (inr (inr h)) (inr (inl g)) =
        let y = used_left c d g in
        let z = used_right c d g in
        let x = own_high a b h in
        unlike_turned a b c d (omega (arith, x.0, y.1)) (omega (arith, x.1, z.1))
    one_of a b c d (inr (inr h)) (inr (inr g)) =
        let x = h.left in
        let y = h.right in
        let z = g.left in
        let u = g.right in
        ((λ e. omega (arith, x, y, z, u, e)), (λ e. omega (arith, x, y, z, u, e)))

    below_own : (n a : ℕ) → a < n → nat_le n a ≡ false
    below_own n a h = grind (arith, nat_tests, h)

    from_own : (n a : ℕ) → n ≤ a → nat_le n a ≡ true
    from_own n a h = grind (arith, nat_tests, h)

    own_alike : (a b : ℕ) → IsMatchedPair a b
        → nat_le (start names m.items k) a ≡ nat_le (start names w.items l) b
    own_alike a b (inl h) =
        let x = outer_low a b h in
        below_own (start names m.items k) a (omega (arith, x.0, long_left))
        ∙ sym (below_own (start names w.items l) b (omega (arith, x.1, long_right)))
    own_alike a b (inr (inl h)) =
        below_own (start names m.items k) a (used_left a b h).1
        ∙ sym (below_own (start names w.items l) b (used_right a b h).1)
    own_alike a b (inr (inr h)) =
        let x = own_high a b h in
        from_own (start names m.items k) a x.0 ∙ sym (from_own (start names w.items l) b x.1)

    own_position : (a b : ℕ) → nat_le (start names m.items k) a ≡ true → IsMatchedPair a b
        → a - start names m.items k ≡ b - start names w.items l
    own_position a b t (inl h) =
        let x = outer_low a b h in
        absurd (false≢true (sym (below_own (start names m.items k) a
        (omega (arith, x.0, long_left))) ∙ t))
    own_position a b t (inr (inl h)) =
        absurd (false≢true (sym (below_own (start names m.items k) a (used_left a b h).1) ∙ t))
    own_position a b t (inr (inr h)) = let x = h.left in let y = h.right in omega (arith, x, y)

    pub is_pairing : IsPairing matching.pairing (start names m.items k) (start names w.items l)
    is_pairing = record {
      one = λ a b c d h g. one_of a b c d (pair_is a b h) (pair_is c d g);
      own = λ a b h. own_alike a b (pair_is a b h);
      position = λ a b h t. own_position a b t (pair_is a b h);
    }
