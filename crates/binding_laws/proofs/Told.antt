-- The names that are seen, by their slots.
use Rattle.std.proofs.Common.{ℕ, ◌≡◌, ◌<◌, ◌≤◌, suc, List, [], ◌∷◌, length, Bool, true, false, Option, Some, None, refl, sym, ap, ◌∙◌, subst, inl, inr, eq-eqb, eqb-true, ne_eqb, arith}
use Rattle.std.specs.Prelude.{◌==◌, bytes_eq, if◌then◌else◌}
use Rattle.std.proofs.lemmas.Bool.{cases_Bool, false≢true}
use Rattle.std.proofs.lemmas.Option.{none-some, same_Some}
use Rattle.std.proofs.lemmas.Slice.Eq.{bytes_eq-Decides}
use Rattle.binding_kinds.specs.declared.scope.Found.{Found}
use Rattle.binding_kinds.specs.Value.{Naming}
use Rattle.binding_kinds.specs.Kinds.{found}

-- the naming that has the slot
abbrev pub told : List Naming → ℕ → Option Naming
told [] slot = None
told (n ∷ ns) slot = if length ns == slot then Some n else told ns slot

pub told_here : (n : Naming) (names : List Naming) → told (n ∷ names) (length names) ≡ Some n
told_here n names = rw (eq-eqb (length names) (length names) refl) refl

pub told_more : (n : Naming) (names : List Naming) (slot : ℕ) → slot < length names
    → told (n ∷ names) slot ≡ told names slot
told_more n names slot lt =
    let unlike : length names ≡ slot → ⊥ = λ e. omega (arith, e, lt) in
    rw (ne_eqb (length names) slot unlike) refl

pub told_below : (names : List Naming) (slot : ℕ) (m : Naming) → told names slot ≡ Some m
    → slot < length names
told_below [] slot m h = absurd (none-some m h)
told_below (n ∷ ns) slot m h = elim (cases_Bool (length ns == slot)) [
  | inl e ↦ (let same = eqb-true (length ns) slot e in omega (arith, same))
  | inr f ↦ (let below = told_below ns slot m (rw f at h) in omega (arith, below))
]

abbrev pub naming_found : List ℕ → Found → Naming
naming_found x f = record { name = x; kind = f.kind; binder = f.binder }

abbrev pub found_here : List Naming → Naming → Found
found_here names n = record { slot = length names; kind = n.kind; binder = n.binder }

-- a name that is found is told by its slot
pub told_found : (names : List Naming) (x : List ℕ) (f : Found) → found names x ≡ Some f
    → told names f.slot ≡ Some (naming_found x f)
told_found [] x f h = absurd (none-some f h)
told_found (n ∷ ns) x f h = at_test (λ e. told_found ns x f e) (bytes_eq n.name x) refl h
  where
    at_test : (found ns x ≡ Some f → told ns f.slot ≡ Some (naming_found x f)) → (t : Bool)
        → bytes_eq n.name x ≡ t → (if t then Some (found_here ns n) else found ns x) ≡ Some f
        → told (n ∷ ns) f.slot ≡ Some (naming_found x f)
    at_test rest true t e =
        let name : n.name ≡ x = (bytes_eq-Decides n.name x).0 t in
        let here : told (n ∷ ns) (length ns) ≡ Some (naming_found x (found_here ns n)) = told_here n ns ∙ (λ i. Some (record { name = name i; kind = n.kind; binder = n.binder })) in
        subst (λ (g : Found). told (n ∷ ns) g.slot ≡ Some (naming_found x g))
        (same_Some (found_here ns n) f e) here
    at_test rest false t e =
        let later = rest e in
        told_more n ns f.slot (told_below ns f.slot (naming_found x f) later) ∙ later

-- the latest of a spelling is found
pub found_last : (names : List Naming) (x : List ℕ) (slot : ℕ) (m : Naming)
    → told names slot ≡ Some m → m.name ≡ x
    → (f : Found) × (found names x ≡ Some f) × (slot ≤ f.slot)
found_last [] x slot m h e = absurd (none-some m h)
found_last (n ∷ ns) x slot m h e =
    at_test (λ g. found_last ns x slot m g e) (bytes_eq n.name x) refl
  where
    low : slot < suc (length ns)
    low = told_below (n ∷ ns) slot m h

    at_test : (told ns slot ≡ Some m → (f : Found) × (found ns x ≡ Some f) × (slot ≤ f.slot))
        → (t : Bool) → bytes_eq n.name x ≡ t
        → (f : Found) × ((if t then Some (found_here ns n) else found ns x) ≡ Some f)
        × (slot ≤ f.slot)
    at_test rest true t = (found_here ns n, refl, omega (arith, low))
    at_test rest false t = elim (cases_Bool (length ns == slot)) [
      | inl s ↦ (
          let same : n ≡ m = same_Some n m (rw s at h) in
          let name : n.name ≡ x = ap (λ (k : Naming). k.name) same ∙ e in
          absurd (false≢true (sym t ∙ (bytes_eq-Decides n.name x).1 name))
          )
      | inr f ↦ rest (rw f at h)
    ]

-- ---- names under more names

pub record IsUnder (few many : List Naming) : Type 0 where
  pub shorter : length few ≤ length many
  pub same : (slot : ℕ) → slot < length few → told many slot ≡ told few slot

pub under_self : (names : List Naming) → IsUnder names names
under_self names = record { shorter = omega arith; same = λ slot lt. refl }

pub under_one : (n : Naming) (names : List Naming) → IsUnder names (n ∷ names)
under_one n names = record { shorter = omega arith; same = told_more n names }

pub under_both : (a b c : List Naming) → IsUnder a b → IsUnder b c → IsUnder a c
under_both a b c h k =
    record {
      shorter = omega (arith, h.shorter, k.shorter);
      same = λ slot lt. k.same slot (omega (arith, lt, h.shorter)) ∙ h.same slot lt;
    }

pub under_told : (few many : List Naming) → IsUnder few many → (slot : ℕ) (n : Naming)
    → told few slot ≡ Some n → told many slot ≡ Some n
under_told few many h slot n e = h.same slot (told_below few slot n e) ∙ e
