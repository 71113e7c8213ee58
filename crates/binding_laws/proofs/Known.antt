-- The kinds and names of groups without fault: each name is that of a set or a relation, those of a
-- recursive group are relations, and no two names of a group are the same.
use Rattle.std.proofs.Common.{ℕ, ◌≡◌, ◌+◌, zero, suc, List, [], ◌∷◌, length, map, reverse, Bool, true, false, Option, Some, None, refl, sym, ap, ◌∙◌, subst, inl, inr}
use Rattle.std.specs.Prelude.{◌++◌, slice_get, if◌then◌else◌}
use Rattle.std.proofs.lemmas.List.{reverse-append}
use Rattle.std.proofs.lemmas.Option.{none-some, same_Some}
use Rattle.text_values.specs.declared.model.Item.{Item}
use Rattle.predefined_names.specs.declared.predefined.Predefined.{Predefined}
use Rattle.predefined_names.specs.PredefinedNames.{is_set}
use Rattle.binding_kinds.specs.declared.fault.ModelFault.{ModelFault}
use Rattle.binding_kinds.specs.declared.fault.ModelFault.TheVariants as faults
use Rattle.binding_kinds.specs.declared.kinds.Kind.{Kind}
use Rattle.binding_kinds.specs.declared.kinds.Kind.TheVariants.{OfSet, OfRelation, OfAny}
use Rattle.binding_kinds.specs.Value.{Naming, Bound, BareItem, Group, bare_item}
use Rattle.binding_kinds.specs.Senses.{Sense, kind_in}
use Rattle.binding_kinds.specs.Faults.{width, IsAmong, IsFaultIn, IsFaultOfItem, HasNoFault, names_after, with_own}
use Rattle.binding_kinds.specs.Fits.{IsKnown, AreSoundSenses, AreKnown, AreFit}
use Rattle.binding_kinds.specs.First.{first_of_item}
use Rattle.binding_kinds.specs.Outermost.{naming_of, kind_of_predefined}
use Rattle.binding_kinds.proofs.First.{Judges}
use Rattle.binding_kinds.proofs.FirstItem.{judged_item}
use Rattle.binding_kinds.proofs.Fitted.{fit_known, fit_in, known_own, known_item, sound_item}
use Rattle.binding_laws.specs.ItemLaws.{Scope, scope_after, scope_at}

-- ---- the names of a group

later_fresh : (ss : List Sense) (names : List Naming) (from : ℕ) (recursive : Bool)
    (earlier : List (List ℕ)) (bs : List Bound) (q : ℕ) (c : Bound)
    → ((i : ℕ) (k : ModelFault) → IsFaultIn ss names from recursive earlier bs i k → ⊥)
    → slice_get bs q ≡ Some c → IsAmong earlier c.name → ⊥
later_fresh ss names from recursive earlier [] q c none h among = none-some c h
later_fresh ss names from recursive earlier (b ∷ bs) zero c none h among =
    let same : c ≡ b = sym (same_Some b c h) in
    none 0 faults.Duplicate (inl (
      refl,
      inl (subst (λ (d : Bound). IsAmong earlier d.name) same among, refl),
    ))
later_fresh ss names from recursive earlier (b ∷ bs) (suc q) c none h among =
    later_fresh ss names from recursive (b.name ∷ earlier) bs q c
    (λ i k f. none (1 + width b.body + i) k (inr (inr (i, refl, f)))) h (inr among)

pub group_apart : (ss : List Sense) (names : List Naming) (from : ℕ) (recursive : Bool)
    (earlier : List (List ℕ)) (bs : List Bound) (p q : ℕ) (b c : Bound)
    → ((i : ℕ) (k : ModelFault) → IsFaultIn ss names from recursive earlier bs i k → ⊥)
    → slice_get bs p ≡ Some b → slice_get bs q ≡ Some c → b.name ≡ c.name → p ≡ q
group_apart ss names from recursive earlier [] p q b c none h g e = absurd (none-some b h)
group_apart ss names from recursive earlier (a ∷ bs) zero zero b c none h g e = refl
group_apart ss names from recursive earlier (a ∷ bs) zero (suc q) b c none h g e =
    let same : a ≡ b = same_Some a b h in
    absurd (later_fresh ss names from recursive (a.name ∷ earlier) bs q c
    (λ i k f. none (1 + width a.body + i) k (inr (inr (i, refl, f)))) g
    (inl (ap (λ (d : Bound). d.name) same ∙ e)))
group_apart ss names from recursive earlier (a ∷ bs) (suc p) zero b c none h g e =
    let same : a ≡ c = same_Some a c g in
    absurd (later_fresh ss names from recursive (a.name ∷ earlier) bs p b
    (λ i k f. none (1 + width a.body + i) k (inr (inr (i, refl, f)))) h
    (inl (ap (λ (d : Bound). d.name) same ∙ sym e)))
group_apart ss names from recursive earlier (a ∷ bs) (suc p) (suc q) b c none h g e =
    ap suc (group_apart ss names from recursive (a.name ∷ earlier) bs p q b c
    (λ i k f. none (1 + width a.body + i) k (inr (inr (i, refl, f)))) h g e)

-- ---- kinds

no_first : (F : ℕ → ModelFault → Type 0) (o : Option ModelFault) → Judges F o
    → ((i : ℕ) (k : ModelFault) → F i k → ⊥) → o ≡ None
no_first F None j none = refl
no_first F (Some k) j none = absurd (none j.index k j.there)

pub no_first_of : (ss : List Sense) (names : List Naming) (item : ℕ) (c : BareItem)
    → ((i : ℕ) (k : ModelFault) → IsFaultOfItem ss names item c i k → ⊥)
    → first_of_item ss names item c ≡ None
no_first_of ss names item c none =
    no_first (IsFaultOfItem ss names item c) (first_of_item ss names item c)
    (judged_item ss names item c) none

-- the functions are sound, and the names have known kinds
pub record IsKnownScope (s : Scope) : Type 0 where
  pub sound : AreSoundSenses s.senses
  pub known : AreKnown s.names

pub known_at : (s : Scope) (at : ℕ) (xs : List Item) (k : ℕ) → IsKnownScope s
    → HasNoFault s.senses s.names at (map bare_item xs) → IsKnownScope (scope_at s at xs k)
known_at s at [] k h none = h
known_at s at (x ∷ xs) zero h none = h
known_at s at (x ∷ xs) (suc k) h none =
    let first = no_first_of s.senses s.names at (bare_item x) (λ i l f. none 0 i l (inl (refl, f))) in
    let next : IsKnownScope (scope_after s at x) = record { sound = sound_item s.senses s.names at (bare_item x) h.sound h.known first; known = known_item s.senses s.names at (bare_item x) h.sound h.known first } in
    known_at (scope_after s at x) (at + 1) xs k next
    (λ j i l f. none (1 + j) i l (inr (j, refl, f)))

known_relation : (k : Kind) → IsKnown k → (k ≡ OfSet → ⊥) → k ≡ OfRelation
known_relation OfSet h none = absurd (none refl)
known_relation OfRelation h none = refl
known_relation OfAny h none = absurd h

relations_in : (ss : List Sense) (names : List Naming) (from : ℕ) (earlier : List (List ℕ))
    (bs : List Bound) (p : ℕ) (b : Bound) → AreSoundSenses ss → AreFit ss names bs
    → ((i : ℕ) (k : ModelFault) → IsFaultIn ss names from true earlier bs i k → ⊥)
    → slice_get bs p ≡ Some b → kind_in ss names b.body ≡ OfRelation
relations_in ss names from earlier [] p b sound fit none h = absurd (none-some b h)
relations_in ss names from earlier (a ∷ bs) zero b sound fit none h =
    let same : a ≡ b = same_Some a b h in
    let here : kind_in ss names a.body ≡ OfRelation = known_relation (kind_in ss names a.body) (fit_known ss names a.body sound fit.0) (λ e. none 0 faults.SetInRec (inl (refl, inr (refl, e, refl)))) in
    ap (λ (d : Bound). kind_in ss names d.body) (sym same) ∙ here
relations_in ss names from earlier (a ∷ bs) (suc p) b sound fit none h =
    relations_in ss names from (a.name ∷ earlier) bs p b sound fit.1
    (λ i k f. none (1 + width a.body + i) k (inr (inr (i, refl, f)))) h

-- the bodies of a recursive group are relations
pub recursive_kind : (s : Scope) (at : ℕ) (bs : List Bound) (p : ℕ) (b : Bound) → IsKnownScope s
    → ((i : ℕ) (k : ModelFault) → IsFaultOfItem s.senses s.names at (Group true bs) i k → ⊥)
    → slice_get bs p ≡ Some b
    → kind_in s.senses (names_after s.senses s.names at (Group true bs)) b.body ≡ OfRelation
recursive_kind s at bs p b h none there =
    let first = no_first_of s.senses s.names at (Group true bs) none in
    let own = with_own s.names at 0 bs in
    relations_in s.senses own (length s.names) [] bs p b h.sound
    (fit_in s.senses own (length s.names) true [] bs (known_own s.names at 0 bs h.known) first)
    none there

-- ---- the predefined names

known_append : (names more : List Naming) → AreKnown names → AreKnown more
    → AreKnown (names ++ more)
known_append [] more h g = g
known_append (n ∷ names) more h g = (h.0, known_append names more h.1 g)

known_kind : (p : Predefined) → IsKnown (kind_of_predefined p)
known_kind p = at_test (is_set p)
  where
    at_test : (b : Bool) → IsKnown (if b then OfSet else OfRelation)
    at_test true = tt
    at_test false = tt

pub known_outermost : (ps : List Predefined) → AreKnown (reverse (map naming_of ps))
known_outermost [] = tt
known_outermost (p ∷ ps) =
    rw (reverse-append (naming_of p ∷ []) (map naming_of ps)) (known_append
    (reverse (map naming_of ps)) (naming_of p ∷ []) (known_outermost ps) (known_kind p, tt))
