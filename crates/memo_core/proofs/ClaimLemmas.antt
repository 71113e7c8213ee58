use Rattle.std.proofs.Common.{◌≡◌, ℕ, ◌+◌, ◌<◌, inl, inr, Bool, true, false, ◌==◌, ◌++◌, List, [], ◌∷◌, Option, Some, None, option_map, is_some, if◌then◌else◌, refl, ap, sym, ◌∙◌, eqb-true, arith}
use Rattle.std.specs.Prelude.{nat_lt}
use Rattle.std.specs.Ordering.{nat_cmp, is_eq}
use Rattle.std.specs.declared.cmp.Ordering.TheVariants.{Less, Equal, Greater}
use Rattle.std.specs.Cmp.{nat_cmp_is}
use Rattle.std.specs.BTreeMap.{is_at, insert_entry}
use Rattle.std.specs.Map.{lookup, remove_entry}
use Rattle.std.proofs.lemmas.Bool.{cases_Bool}
use Rattle.memo_core.specs.declared.claims.Claim.{Claim}
use Rattle.memo_core.specs.Step.{OpenClaim, open_claim, open_claims, state, claim_of, without_claim, Loses, AreClaimsNumbered}
use Rattle.memo_core.specs.Graph.{Net}
use Rattle.memo_core.specs.Views.{MemoEntry}

at_is : (n k : ℕ) → is_at (nat_cmp n) k ≡ (n == k)
at_is n k = elim (cases_Bool (n == k)) [
  | inl t ↦ rw (sym (nat_cmp_is n k Equal (eqb-true n k t))) (sym t)
  | inr f ↦ rw f (other (nat_lt n k))
]
  where
    other : (b : Bool) → is_eq (if b then Less else Greater) ≡ false
    other true = refl
    other false = refl

pub closed : (n : ℕ) (cs : List (ℕ × Claim))
    → open_claims (remove_entry (is_at (nat_cmp n)) cs) ≡ without_claim n (open_claims cs)
closed n [] = refl
closed n (c ∷ cs) = rw (at_is n c.0) (elim (cases_Bool (n == c.0)) [
  | inl t ↦ rw t refl
  | inr f ↦ rw f (ap (λ (os : List OpenClaim). open_claim c ∷ os) (closed n cs))
])

pub found : (n : ℕ) (cs : List (ℕ × Claim))
    → option_map (λ c. open_claim (n, c)) (lookup (is_at (nat_cmp n)) cs)
    ≡ claim_of n (open_claims cs)
found n [] = refl
found n (c ∷ cs) = rw (at_is n c.0) (elim (cases_Bool (n == c.0)) [
  | inl t ↦ rw t (ap (λ (k : ℕ). let o : Option OpenClaim = Some (open_claim (k, c.1)) in o)
      (eqb-true n c.0 t))
  | inr f ↦ rw f (found n cs)
])

none_closed : (n : ℕ) (cs : List OpenClaim) → claim_of n cs ≡ None → without_claim n cs ≡ cs
none_closed n [] h = refl
none_closed n (c ∷ cs) h = elim (cases_Bool (n == c.number)) [
  | inl t ↦ absurd (clash (rw t at h))
  | inr f ↦ rw f (ap (λ (os : List OpenClaim). c ∷ os) (none_closed n cs (rw f at h)))
]
  where
    clash : Some c ≡ None → ⊥
    clash e = cc

pub losing : {V G : Type 0} (net : Net G) (memos : List (MemoEntry V)) (cs left : List (ℕ × Claim))
    (taken n : ℕ) (o : Option Claim) → o ≡ lookup (is_at (nat_cmp n)) cs
    → left ≡ remove_entry (is_at (nat_cmp n)) cs
    → Loses (state net memos cs taken) n (is_some o) (state net memos left taken)
losing net memos cs left taken n None is e =
    let none : claim_of n (open_claims cs) ≡ None = sym (found n cs) ∙ ap (option_map (λ k. open_claim (n, k))) (sym is) in
    (none, rw (e, closed n cs, none_closed n (open_claims cs) none) refl)
losing net memos cs left taken n (Some k) is e = (
  open_claim (n, k),
  sym (found n cs) ∙ ap (option_map (λ k. open_claim (n, k))) (sym is),
  rw (e, closed n cs) refl,
)

-- a claim of a new number comes last
pub opened : (taken : ℕ) (k : Claim) (cs : List (ℕ × Claim)) → AreClaimsNumbered taken (open_claims cs)
    → open_claims (insert_entry nat_cmp cs (taken + 1) k)
    ≡ open_claims cs ++ open_claim (taken + 1, k) ∷ []
opened taken k [] a = refl
opened taken k (d ∷ cs) a =
    let below : d.0 < taken + 1 = omega (arith, a.0) in
    rw (sym (nat_cmp_is (taken + 1) d.0 Greater below)) (ap
    (λ (os : List OpenClaim). open_claim d ∷ os) (opened taken k cs a.1))

pub numbered_later : (taken : ℕ) (cs : List OpenClaim) → AreClaimsNumbered taken cs
    → AreClaimsNumbered (taken + 1) cs
numbered_later taken [] a = tt
numbered_later taken (c ∷ cs) a = (omega (arith, a.0), numbered_later taken cs a.1)

pub numbered_closed : (taken n : ℕ) (cs : List OpenClaim) → AreClaimsNumbered taken cs
    → AreClaimsNumbered taken (without_claim n cs)
numbered_closed taken n [] a = tt
numbered_closed taken n (c ∷ cs) a = elim (cases_Bool (n == c.number)) [
  | inl t ↦ rw t a.1
  | inr f ↦ rw f (a.0, numbered_closed taken n cs a.1)
]

pub numbered_opened : (taken : ℕ) (c : OpenClaim) (cs : List OpenClaim) → c.number ≡ taken + 1
    → AreClaimsNumbered taken cs → AreClaimsNumbered (taken + 1) (cs ++ c ∷ [])
numbered_opened taken c [] e a = (omega (arith, e), tt)
numbered_opened taken c (d ∷ cs) e a = (omega (arith, a.0), numbered_opened taken c cs e a.1)
