-- One more name of a group.
use Rattle.std.proofs.Common.{ℕ, zero, suc, ◌≡◌, ◌<◌, ◌≤◌, ◌+◌, List, [], ◌∷◌, ◌++◌, length, map, reverse, drop, get_or, refl, ap, add-one, arith}
use Rattle.std.specs.List.{AllZip}
use Rattle.std.proofs.lemmas.List.{drop_all}
use Rattle.std.proofs.Math.Seq.{drop-cons}
use Rattle.text_values.specs.declared.model.Binding.{Binding}
use Rattle.text_values.specs.ModelValue.{AllEvents}
use Rattle.binding_kinds.specs.declared.scope.Entry.{Entry}
use Rattle.binding_kinds.specs.declared.scope.Binder.TheVariants as binders
use Rattle.binding_kinds.specs.declared.kinds.Kind.TheVariants.{OfRelation}
use Rattle.binding_kinds.specs.Value.{Naming, Bound, entry_of, bound_value_of}
use Rattle.binding_kinds.specs.Senses.{Sense, kind_in}
use Rattle.binding_kinds.specs.Faults.{with_own, with_all}
use Rattle.binding_kinds.proofs.Scopes.{rev_push}
use Rattle.binding_graph.specs.declared.resolved.Body.{Body}
use Rattle.binding_graph.specs.Readings.{AreNamed}

-- one more recursive name
pub own_more : (g : List Binding) (i item : ℕ) (d : Binding) (s : List Entry) (e : Entry)
    → i < length g → e.name ≡ (get_or g i d).name → e.kind ≡ OfRelation
    → e.binder ≡ binders.Bound (record { item = item; position = i })
    → with_own (reverse (map entry_of s)) item i (map bound_value_of (drop i g))
    ≡ with_own (reverse (map entry_of (s ++ e ∷ []))) item (i + 1)
    (map bound_value_of (drop (i + 1) g))
own_more g i item d s e lt name k b =
    rw (drop-cons g i d lt, rev_push entry_of s e, name, k, b, add-one i) refl

-- one more name whose body sees the outer names
pub all_more : (ss : List Sense) (outer : List Naming) (bs : List Bound) (rs : List Body)
    (i item : ℕ) (d : Body) (s : List Entry) (e : Entry) → i < length rs
    → AreNamed ss outer bs rs → e.name ≡ (get_or rs i d).name → e.kind ≡ (get_or rs i d).code.kind
    → e.binder ≡ binders.Bound (record { item = item; position = i })
    → with_all ss outer (reverse (map entry_of s)) item i (drop i bs)
    ≡ with_all ss outer (reverse (map entry_of (s ++ e ∷ []))) item (i + 1) (drop (i + 1) bs)
all_more ss outer bs rs i item d s e lt are name k b =
    let at = zip_at (λ (x : Bound) (r : Body). (r.name ≡ x.name) × (r.code.kind ≡ kind_in ss outer x.body)) bs rs i (record { name = []; body = AllEvents }) d are lt in
    rw (
      drop-cons bs i (record { name = []; body = AllEvents }) at.0,
      rev_push entry_of s e,
      name,
      k,
      b,
      at.1.0,
      at.1.1,
      add-one i,
    ) refl
  where
    zip_at : {A B : Type 0} (R : A → B → Type 0) (xs : List A) (ys : List B) (i : ℕ) (c : A) (d : B)
        → AllZip R xs ys → i < length ys → (i < length xs) × R (get_or xs i c) (get_or ys i d)
    zip_at R [] [] i c d h lt = absurd (omega (arith, lt))
    zip_at R [] (y ∷ ys) i c d h lt = absurd h
    zip_at R (x ∷ xs) [] i c d h lt = absurd h
    zip_at R (x ∷ xs) (y ∷ ys) zero c d h lt = (omega arith, h.0)
    zip_at R (x ∷ xs) (y ∷ ys) (suc i) c d h lt =
        let rest = zip_at R xs ys i c d h.1 (omega (arith, lt)) in
        (let l = rest.0 in omega (arith, l), rest.1)

-- behind the last one
pub all_grown : (ss : List Sense) (outer now : List Naming) (bs : List Bound) (rs : List Body)
    (i item : ℕ) → AreNamed ss outer bs rs → length rs ≤ i
    → with_all ss outer now item i (drop i bs) ≡ now
all_grown ss outer now bs rs i item are past =
    rw (drop_all i bs (let e = zip_long bs rs are in omega (arith, e, past))) refl
  where
    zip_long : (xs : List Bound) (ys : List Body) → AreNamed ss outer xs ys → length xs ≡ length ys
    zip_long [] [] h = refl
    zip_long [] (y ∷ ys) h = absurd h
    zip_long (x ∷ xs) [] h = absurd h
    zip_long (x ∷ xs) (y ∷ ys) h = ap suc (zip_long xs ys h.1)
