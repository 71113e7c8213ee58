-- The names that an item adds to those that it sees.
use Rattle.std.proofs.Common.{ℕ, ◌≡◌, ◌<◌, ◌≤◌, ◌+◌, zero, suc, List, [], ◌∷◌, length, Bool, true, false, Some, refl, sym, ap, ◌∙◌, subst, inl, inr, eqb-true, arith}
use Rattle.std.specs.Prelude.{◌==◌, slice_get}
use Rattle.std.proofs.lemmas.Bool.{cases_Bool, eqb-false}
use Rattle.std.proofs.lemmas.Option.{none-some, same_Some}
use Rattle.binding_kinds.specs.declared.kinds.Kind.{Kind}
use Rattle.binding_kinds.specs.declared.kinds.Kind.TheVariants.{OfRelation, OfAny}
use Rattle.binding_kinds.specs.declared.scope.Binder.TheVariants as binders
use Rattle.binding_kinds.specs.Value.{Naming, Bound, BareItem, Group, Check, Mute, Defined}
use Rattle.binding_kinds.specs.Senses.{Sense, kind_in}
use Rattle.binding_kinds.specs.Faults.{naming_at, with_own, with_all, names_after}
use Rattle.binding_laws.proofs.Told.{told, told_here, told_below, IsUnder, under_self, under_one, under_both, under_told}

-- ---- the names of a group

abbrev pub with_kinds : (Bound → Kind) → List Naming → ℕ → ℕ → List Bound → List Naming
with_kinds K names item at [] = names
with_kinds K names item at (b ∷ bs) =
    with_kinds K (naming_at item at b (K b) ∷ names) item (suc at) bs

pub own_kinds : (names : List Naming) (item at : ℕ) (bs : List Bound)
    → with_kinds (λ b. OfRelation) names item at bs ≡ with_own names item at bs
own_kinds names item at [] = refl
own_kinds names item at (b ∷ bs) =
    own_kinds (naming_at item at b OfRelation ∷ names) item (suc at) bs

pub all_kinds : (ss : List Sense) (outer names : List Naming) (item at : ℕ) (bs : List Bound)
    → with_kinds (λ b. kind_in ss outer b.body) names item at bs
    ≡ with_all ss outer names item at bs
all_kinds ss outer names item at [] = refl
all_kinds ss outer names item at (b ∷ bs) =
    all_kinds ss outer (naming_at item at b (kind_in ss outer b.body) ∷ names) item (suc at) bs

-- the kind that later items see
abbrev pub kind_seen : List Sense → List Naming → Bool → Bound → Kind
kind_seen ss names true b = OfRelation
kind_seen ss names false b = kind_in ss names b.body

pub group_names : (ss : List Sense) (names : List Naming) (at : ℕ) (recursive : Bool)
    (bs : List Bound)
    → with_kinds (kind_seen ss names recursive) names at 0 bs
    ≡ names_after ss names at (Group recursive bs)
group_names ss names at true bs = own_kinds names at 0 bs
group_names ss names at false bs = all_kinds ss names names at 0 bs

module _ (K : Bound → Kind) (item : ℕ) where
  kinds_under : (bs : List Bound) (names : List Naming) (at : ℕ)
      → IsUnder names (with_kinds K names item at bs)
  kinds_under [] names at = under_self names
  kinds_under (b ∷ bs) names at =
      let n = naming_at item at b (K b) in
      under_both names (n ∷ names) (with_kinds K (n ∷ names) item (suc at) bs) (under_one n names)
      (kinds_under bs (n ∷ names) (suc at))

  kinds_told : (bs : List Bound) (names : List Naming) (at p slot : ℕ) (b : Bound)
      → slice_get bs p ≡ Some b → slot ≡ length names + p
      → told (with_kinds K names item at bs) slot ≡ Some (naming_at item (at + p) b (K b))
  kinds_told [] names at p slot b h e = absurd (none-some b h)
  kinds_told (c ∷ bs) names at zero slot b h e =
      let n = naming_at item at c (K c) in
      let here : slot ≡ length names = omega (arith, e) in
      let first : told (with_kinds K (n ∷ names) item (suc at) bs) slot ≡ Some n =
      under_told (n ∷ names) (with_kinds K (n ∷ names) item (suc at) bs)
      (kinds_under bs (n ∷ names) (suc at)) slot n
      (ap (told (n ∷ names)) here ∙ told_here n names) in
      let same : c ≡ b = same_Some c b h in
      let none : at ≡ at + 0 = omega arith in
      first ∙ (λ i. Some (naming_at item (none i) (same i) (K (same i))))
  kinds_told (c ∷ bs) names at (suc p) slot b h e =
      let n = naming_at item at c (K c) in
      let moved : suc at + p ≡ at + suc p = omega arith in
      kinds_told bs (n ∷ names) (suc at) p slot b h (omega (arith, e))
      ∙ (λ i. Some (naming_at item (moved i) b (K b)))

  -- the name at that position of the group
  pub record IsAt (bs : List Bound) (names : List Naming) (at slot : ℕ) (n : Naming) : Type 0 where
    pub position : ℕ
    pub bound : Bound
    pub there : slice_get bs position ≡ Some bound
    pub place : slot ≡ length names + position
    pub naming : n ≡ naming_at item (at + position) bound (K bound)

  kinds_new : (bs : List Bound) (names : List Naming) (at slot : ℕ) (n : Naming)
      → told (with_kinds K names item at bs) slot ≡ Some n → length names ≤ slot
      → IsAt bs names at slot n
  kinds_new [] names at slot n h le =
      absurd (let lt = told_below names slot n h in omega (arith, lt, le))
  kinds_new (b ∷ bs) names at slot n h le = elim (cases_Bool (length names == slot)) [
    | inl e ↦ at_first (eqb-true (length names) slot e)
    | inr f ↦ at_later (let apart = eqb-false (length names) slot f in
        kinds_new bs (naming_at item at b (K b) ∷ names) (suc at) slot n h
        (omega (arith, apart, le)))
  ]
    where
      m : Naming
      m = naming_at item at b (K b)

      at_first : length names ≡ slot → IsAt (b ∷ bs) names at slot n
      at_first e =
          let here : told (m ∷ names) slot ≡ Some m = ap (told (m ∷ names)) (sym e) ∙ told_here m names in
          let same : m ≡ n = same_Some m n (sym (under_told (m ∷ names) (with_kinds K (m ∷ names) item (suc at) bs) (kinds_under bs (m ∷ names) (suc at)) slot m here) ∙ h) in
          let none : at ≡ at + 0 = omega arith in
          record { position = 0; bound = b; there = refl; place = omega (arith, e); naming = sym same ∙ (λ i. naming_at item (none i) b (K b)) }

      at_later : IsAt bs (m ∷ names) (suc at) slot n → IsAt (b ∷ bs) names at slot n
      at_later h =
          let moved : suc at + h.position ≡ at + suc h.position = omega arith in
          record { position = suc h.position; bound = h.bound; there = h.there; place = omega (arith, h.place); naming = h.naming ∙ (λ i. naming_at item (moved i) h.bound (K h.bound)) }

-- ---- the names of an item

pub extended_under : (ss : List Sense) (names : List Naming) (at : ℕ) (c : BareItem)
    → IsUnder names (names_after ss names at c)
extended_under ss names at (Group recursive bs) =
    subst (IsUnder names) (group_names ss names at recursive bs)
    (kinds_under (kind_seen ss names recursive) at bs names 0)
extended_under ss names at (Check w e) = under_self names
extended_under ss names at Mute = under_self names
extended_under ss names at (Defined n ps b) =
    under_one (record { name = n; kind = OfAny; binder = binders.Applicable (length ss) }) names

abbrev pub IsAdded : List Sense → List Naming → ℕ → BareItem → ℕ → Naming → Type 0
IsAdded ss names at (Group recursive bs) slot n =
    IsAt (kind_seen ss names recursive) at bs names 0 slot n
IsAdded ss names at (Check w e) slot n = ⊥
IsAdded ss names at Mute slot n = ⊥
IsAdded ss names at (Defined x ps b) slot n =
    (slot ≡ length names)
    × (n ≡ record { name = x; kind = OfAny; binder = binders.Applicable (length ss) })

pub new_name_is_added : (ss : List Sense) (names : List Naming) (at : ℕ) (c : BareItem) (slot : ℕ)
    (n : Naming) → told (names_after ss names at c) slot ≡ Some n → length names ≤ slot
    → IsAdded ss names at c slot n
new_name_is_added ss names at (Group recursive bs) slot n h le =
    kinds_new (kind_seen ss names recursive) at bs names 0 slot n
    (ap (λ (ns : List Naming). told ns slot) (group_names ss names at recursive bs) ∙ h) le
new_name_is_added ss names at (Check w e) slot n h le =
    absurd (let lt = told_below names slot n h in omega (arith, lt, le))
new_name_is_added ss names at Mute slot n h le =
    absurd (let lt = told_below names slot n h in omega (arith, lt, le))
new_name_is_added ss names at (Defined x ps b) slot n h le =
    let m : Naming = record { name = x; kind = OfAny; binder = binders.Applicable (length ss) } in
    let lt : slot < suc (length names) = told_below (m ∷ names) slot n h in
    let here : slot ≡ length names = omega (arith, lt, le) in
    (here, sym (same_Some m n (sym (ap (told (m ∷ names)) here ∙ told_here m names) ∙ h)))

-- the name at a position of a group is seen later
pub told_added : (ss : List Sense) (names : List Naming) (at : ℕ) (recursive : Bool)
    (bs : List Bound) (p : ℕ) (b : Bound) → slice_get bs p ≡ Some b
    → told (names_after ss names at (Group recursive bs)) (length names + p)
    ≡ Some (naming_at at p b (kind_seen ss names recursive b))
told_added ss names at recursive bs p b h =
    let none : 0 + p ≡ p = omega arith in
    ap (λ (ns : List Naming). told ns (length names + p))
    (sym (group_names ss names at recursive bs))
    ∙ (kinds_told (kind_seen ss names recursive) at bs names 0 p (length names + p) b h refl
    ∙ (λ i. Some (naming_at at (none i) b (kind_seen ss names recursive b))))
