-- What cannot but be untouched is untouched: equality of keys and stamps is decided.
use Rattle.std.proofs.Common.{ℕ, ◌≡◌, zero, suc, inl, inr, Bool, true, false, List, [], ◌∷◌, refl, sym, ◌∙◌, subst}
use Rattle.std.specs.List.{AllByRecursion as Each}
use Rattle.std.proofs.lemmas.Bool.Decides.{eqb_tells}
use Rattle.std.proofs.lemmas.Bool.{cases_Bool}
use Rattle.memo_core.specs.declared.keys.Key.{Key}
use Rattle.memo_core.specs.declared.keys.Key.TheVariants.{Part, Output}
use Rattle.memo_core.specs.declared.keys.Node.{Node}
use Rattle.memo_core.specs.Graph.{Net, input_nodes}
use Rattle.memo_core.specs.Names.{same_key}
use Rattle.memo_core.specs.Right.{IsSamePart, IsUntouchedBy}
use Rattle.memo_core.proofs.Inputs.{same_key_exact, same_key_refl}

-- the opposite cannot hold
abbrev pub IsCertain : Type 0 → Type 0
IsCertain P = (P → ⊥) → ⊥

pub nat_stable : (a b : ℕ) → IsCertain (a ≡ b) → a ≡ b
nat_stable a b h = elim (eqb_tells a b) [
  | inl same ↦ same.1
  | inr other ↦ absurd (h other.1)
]

bool_stable : (b : Bool) → IsCertain (b ≡ true) → b ≡ true
bool_stable true h = refl
bool_stable false h = absurd (h (λ e. let f : false ≡ true = e in cc))

key_stable : (a b : Key) → IsCertain (a ≡ b) → a ≡ b
key_stable a b h = elim (cases_Bool (same_key a b)) [
  | inl t ↦ same_key_exact a b t
  | inr f ↦ absurd (h (λ e. differ a b f e))
]
  where
    differ : (a b : Key) → same_key a b ≡ false → a ≡ b → ⊥
    differ a b f e =
        let t : same_key a b ≡ true =
        subst (λ (k : Key). same_key a k ≡ true) e (same_key_refl a) in
        let g : true ≡ false = sym t ∙ f in cc

keys_stable : (ks ls : List Key) → IsCertain (ks ≡ ls) → ks ≡ ls
keys_stable [] [] h = refl
keys_stable [] (l ∷ ls) h = absurd (h (λ e. let f : [] ≡ l ∷ ls = e in cc))
keys_stable (k ∷ ks) [] h = absurd (h (λ e. let f : k ∷ ks ≡ [] = e in cc))
keys_stable (k ∷ ks) (l ∷ ls) h =
    let first : k ≡ l = key_stable k l (λ no. h (λ e. no (let f : k ∷ ks ≡ l ∷ ls = e in cc))) in
    let rest : ks ≡ ls = keys_stable ks ls (λ no. h (λ e. no (let f : k ∷ ks ≡ l ∷ ls = e in cc))) in cc

each_stable : {X : Type 0} (P : X → Type 0) → ((x : X) → IsCertain (P x) → P x) → (xs : List X)
    → IsCertain (Each P xs) → Each P xs
each_stable P stable [] h = tt
each_stable P stable (x ∷ xs) h =
    (stable x (λ no. h (λ e. no e.0)), each_stable P stable xs (λ no. h (λ e. no e.1)))

part_stable : {G : Type 0} (old new : Net G) (k : Key) → IsCertain (IsSamePart old new k)
    → IsSamePart old new k
part_stable old new (Part p q) h = nat_stable (new.part p q) (old.part p q) h
part_stable old new (Output n x) h = tt

pub untouched_stable : {G : Type 0} (d : ℕ) (keep : Node → Bool) (old new : Net G) (n : Node)
    → IsCertain (IsUntouchedBy d keep old new n) → IsUntouchedBy d keep old new n
untouched_stable zero keep old new n h = tt
untouched_stable (suc d) keep old new n h = (
  keys_stable (new.inputs n) (old.inputs n) (λ no. h (λ u. no u.0)),
  bool_stable (keep n) (λ no. h (λ u. no u.1)),
  each_stable (IsSamePart old new) (part_stable old new) (old.inputs n) (λ no. h (λ u. no u.2)),
  each_stable (IsUntouchedBy d keep old new) (untouched_stable d keep old new)
      (input_nodes (old.inputs n)) (λ no. h (λ u. no u.3)),
)
