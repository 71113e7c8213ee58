-- Lists of values in which none stands twice.
use Rattle.std.proofs.Common.{◌≡◌, ◌↔◌, ◌⊎◌, inl, inr, List, [], ◌∷◌, ◌++◌, map, Contains, sym, ap, subst, ◌∙◌}
use Rattle.std.proofs.lemmas.List.{map-append}
use Rattle.std.proofs.lemmas.List.Elements.{Contains-push, Contains-push_cases, Contains-append_left}
use Rattle.meaning.specs.Sets.{Set, IsOnce, IsListOf}
use Rattle.meaning.specs.Machine as machine
use Rattle.meaning.proofs.Counting.{head_or_tail}
use Rattle.meaning_plain.specs.Lists.{Given}
use Rattle.plain_machine.specs.declared.value.Value.{Value}
use Rattle.plain_machine.specs.Values.{value_as}
use Rattle.plain_runs.specs.Runs.{ValuesOf}
use Rattle.plain_runs.proofs.Listing.{none_there, once_none, once_cons, once_append}
use Rattle.plain_domains.specs.Domains.{Adds}

-- ---- adding

pub adds_none : (New : Set machine.Value) (vs : List Value)
    → ((v : machine.Value) → New v → ValuesOf vs v) → Adds New vs vs
adds_none New vs inside = record {
  once = λ once. once;
  exact = λ v. ((λ there. inl there), from v);
}
  where
    from : (v : machine.Value) → ValuesOf vs v ⊎ New v → ValuesOf vs v
    from v (inl there) = there
    from v (inr new) = inside v new

pub adds_as : (N M : Set machine.Value) (old new : List Value)
    → ((v : machine.Value) → N v ↔ M v) → Adds N old new → Adds M old new
adds_as N M old new same adds = record {
  once = adds.once;
  exact = λ v. (to v, from v);
}
  where
    to : (v : machine.Value) → ValuesOf new v → ValuesOf old v ⊎ M v
    to v there = elim ((adds.exact v).0 there) [
      | inl earlier ↦ inl earlier
      | inr is ↦ inr ((same v).0 is)
    ]

    from : (v : machine.Value) → ValuesOf old v ⊎ M v → ValuesOf new v
    from v (inl earlier) = (adds.exact v).1 (inl earlier)
    from v (inr is) = (adds.exact v).1 (inr ((same v).1 is))

pub adds_then : (N M : Set machine.Value) (old mid new : List Value) → Adds N old mid
    → Adds M mid new → Adds (λ v. N v ⊎ M v) old new
adds_then N M old mid new first second = record {
  once = λ once. second.once (first.once once);
  exact = λ v. (to v, from v);
}
  where
    to : (v : machine.Value) → ValuesOf new v → ValuesOf old v ⊎ (N v ⊎ M v)
    to v there = elim ((second.exact v).0 there) [
      | inl middle ↦ elim ((first.exact v).0 middle) [
        | inl earlier ↦ inl earlier
        | inr is ↦ inr (inl is)
      ]
      | inr is ↦ inr (inr is)
    ]

    from : (v : machine.Value) → ValuesOf old v ⊎ (N v ⊎ M v) → ValuesOf new v
    from v (inl earlier) = (second.exact v).1 (inl ((first.exact v).1 (inl earlier)))
    from v (inr (inl is)) = (second.exact v).1 (inl ((first.exact v).1 (inr is)))
    from v (inr (inr is)) = (second.exact v).1 (inr is)

pub adds_one : (w : machine.Value) (old new : List Value) (x : Value) → value_as x ≡ w
    → (ValuesOf old w → ⊥) → new ≡ old ++ x ∷ [] → Adds (λ v. w ≡ v) old new
adds_one w old new x is other e =
    subst (λ (l : List Value). Adds (λ v. w ≡ v) old l) (sym e) (record {
      once = λ once. subst (λ (l : List machine.Value). IsOnce l) (sym mapped) (once_append (map value_as old) (w ∷ []) once (once_cons w [] (none_there w) once_none) apart);
      exact = λ v. (to v, from v);
    })
  where
    mapped : map value_as (old ++ x ∷ []) ≡ map value_as old ++ w ∷ []
    mapped =
        map-append value_as old (x ∷ [])
        ∙ ap (λ (y : machine.Value). map value_as old ++ y ∷ []) is

    apart : (z : machine.Value) → ValuesOf old z → Contains (w ∷ []) z → ⊥
    apart z earlier there = elim (head_or_tail w [] z there) [
      | inl at ↦ other (subst (λ (y : machine.Value). ValuesOf old y) (sym at) earlier)
      | inr later ↦ none_there z later
    ]

    to : (v : machine.Value) → ValuesOf (old ++ x ∷ []) v → ValuesOf old v ⊎ (w ≡ v)
    to v there =
        Contains-push_cases (map value_as old) w v
        (subst (λ (l : List machine.Value). Contains l v) mapped there)

    from : (v : machine.Value) → ValuesOf old v ⊎ (w ≡ v) → ValuesOf (old ++ x ∷ []) v
    from v (inl earlier) =
        subst (λ (l : List machine.Value). Contains l v) (sym mapped)
        (Contains-append_left (map value_as old) (w ∷ []) v earlier)
    from v (inr at) =
        subst (λ (y : machine.Value). ValuesOf (old ++ x ∷ []) y) at
        (subst (λ (l : List machine.Value). Contains l w) (sym mapped)
        (Contains-push (map value_as old) w))

-- ---- what each thing of a list gives

module _ {X : Type 0} (G : X → Set machine.Value) where
  pub given_none : (v : machine.Value) → Given G [] v → ⊥
  given_none v (x, there, is) = none_there x there

  pub given_push : (xs : List X) (x : X) (v : machine.Value)
      → (Given G xs v ⊎ G x v) ↔ Given G (xs ++ x ∷ []) v
  given_push xs x v = (to, from)
    where
      to : Given G xs v ⊎ G x v → Given G (xs ++ x ∷ []) v
      to (inl (y, there, is)) = (y, Contains-append_left xs (x ∷ []) y there, is)
      to (inr is) = (x, Contains-push xs x, is)

      from : Given G (xs ++ x ∷ []) v → Given G xs v ⊎ G x v
      from (y, there, is) = elim (Contains-push_cases xs x y there) [
        | inl earlier ↦ inl (y, earlier, is)
        | inr at ↦ inr (subst (λ (z : X). G z v) (sym at) is)
      ]

  pub adds_begin : (vs : List Value) → Adds (Given G []) vs vs
  adds_begin vs = adds_none (Given G []) vs (λ v is. absurd (given_none v is))

  pub adds_more : (xs : List X) (longer : List X) (x : X) (old mid new : List Value)
      → longer ≡ xs ++ x ∷ [] → Adds (Given G xs) old mid → Adds (G x) mid new
      → Adds (Given G longer) old new
  adds_more xs longer x old mid new e first second =
      subst (λ (l : List X). Adds (Given G l) old new) (sym e)
      (adds_as (λ v. Given G xs v ⊎ G x v) (Given G (xs ++ x ∷ [])) old new (given_push xs x)
      (adds_then (Given G xs) (G x) old mid new first second))

pub adds_listed : (N : Set machine.Value) (vs : List Value) → Adds N [] vs
    → IsListOf N (map value_as vs)
adds_listed N vs adds = record {
  once = adds.once once_none;
  exact = λ v. (to v, λ is. (adds.exact v).1 (inr is));
}
  where
    to : (v : machine.Value) → ValuesOf vs v → N v
    to v there = elim ((adds.exact v).0 there) [
      | inl earlier ↦ absurd (none_there v earlier)
      | inr is ↦ is
    ]
