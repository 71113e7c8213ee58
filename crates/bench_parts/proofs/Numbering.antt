-- Outputs by their numbers.
use Rattle.std.proofs.Common.{ℕ, ◌<◌, ◌≤◌, ◌≡◌, ◌==◌, true, false, min, inl, inr, List, [], ◌∷◌, ◌++◌, length, get_or, Some, refl, ap, sym, ◌∙◌, eq-eqb, arith}
use Rattle.std.specs.List.{zip}
use Rattle.std.proofs.lemmas.Bool.{cases_Bool, cases_lt}
use Rattle.std.proofs.lemmas.List.{length-append}
use Rattle.memo_core.specs.declared.keys.Output.{Output as Made}
use Rattle.memo_core.specs.Graph.{named_values, lookup}
use Rattle.memo_core.specs.Step.{Has}
use Rattle.bench_values.specs.Values.{NodeContent}

abbrev Pair : Type 0
Pair = ℕ × NodeContent

pub named_push : (os : List (Made NodeContent)) (o : Made NodeContent)
    → named_values (os ++ o ∷ []) ≡ named_values os ++ (o.name, o.value) ∷ []
named_push [] o = refl
named_push (x ∷ xs) o = ap (λ (l : List Pair). (x.name, x.value) ∷ l) (named_push xs o)

zip_none : (ns : List ℕ) → zip ns (let none : List NodeContent = [] in none) ≡ []
zip_none [] = refl
zip_none (n ∷ ns) = refl

zip_push : (ns : List ℕ) (vs : List NodeContent) (v : NodeContent) → length vs < length ns
    → zip ns (vs ++ v ∷ []) ≡ zip ns vs ++ (get_or ns (length vs) 0, v) ∷ []
zip_push [] vs v lt = absurd (omega (arith, lt))
zip_push (n ∷ ns) [] v lt = ap (λ (l : List Pair). (n, v) ∷ l) (zip_none ns)
zip_push (n ∷ ns) (x ∷ xs) v lt =
    ap (λ (l : List Pair). (n, x) ∷ l) (zip_push ns xs v (omega (arith, lt)))

zip_past : (ns : List ℕ) (vs : List NodeContent) (v : NodeContent) → length ns ≤ length vs
    → zip ns (vs ++ v ∷ []) ≡ zip ns vs
zip_past [] vs v le = refl
zip_past (n ∷ ns) [] v le = absurd (omega (arith, le))
zip_past (n ∷ ns) (x ∷ xs) v le =
    ap (λ (l : List Pair). (n, x) ∷ l) (zip_past ns xs v (omega (arith, le)))

module _ (ns : List ℕ) (os : List (Made NodeContent)) (vs : List NodeContent) where
  -- so many outputs are made of these values
  abbrev pub AreMade : Type 0
  AreMade = (named_values os ≡ zip ns vs) × (length os ≡ min (length vs) (length ns))

pub none_made : (ns : List ℕ) (os : List (Made NodeContent)) → os ≡ [] → AreMade ns os []
none_made ns os e = (
  ap named_values e ∙ sym (zip_none ns),
  (let none : length os ≡ 0 = ap length e in omega (arith, none)),
)

named_long : (os : List (Made NodeContent)) → length (named_values os) ≡ length os
named_long [] = refl
named_long (o ∷ os) = (let long = named_long os in omega (arith, long))

-- one value more
pub one_more : (ns : List ℕ) (os : List (Made NodeContent)) (vs : List NodeContent)
    (after : List (Made NodeContent)) (v : NodeContent)
    → (length os < length ns
    → named_values after ≡ named_values os ++ (get_or ns (length os) 0, v) ∷ [])
    → (length ns ≤ length os → after ≡ os) → AreMade ns os vs → AreMade ns after (vs ++ v ∷ [])
one_more ns os vs after v named past made = elim (cases_lt (length os) (length ns)) [
  | inl lt ↦ (
      let many = made.1 in
      let same : length os ≡ length vs = omega (arith, lt, many) in
      let below : length vs < length ns = omega (arith, lt, same) in
      let longer = length-append (named_values os) ((get_or ns (length os) 0, v) ∷ []) in
      let more = length-append vs (v ∷ []) in
      let long : length (named_values after) ≡ length (named_values os ++ (get_or ns (length os) 0, v) ∷ []) = ap length (named lt) in
      let so_many = named_long os in
      let now_many = named_long after in (
        named lt ∙ ap (λ (l : List Pair). l ++ (get_or ns (length os) 0, v) ∷ []) made.0
            ∙ ap (λ (k : ℕ). zip ns vs ++ (get_or ns k 0, v) ∷ []) same
            ∙ sym (zip_push ns vs v below),
        omega (arith, long, longer, more, same, below, so_many, now_many),
      ))
  | inr le ↦ (
      let many = made.1 in
      let beyond : length ns ≤ length vs = omega (arith, le, many) in
      let more = length-append vs (v ∷ []) in
      let long : length after ≡ length os = ap length (past le) in (
        ap named_values (past le) ∙ made.0 ∙ sym (zip_past ns vs v beyond),
        omega (arith, long, more, many, beyond, le),
      ))
]

-- ---- each number has its value

pub value_there : (ns : List ℕ) (vs : List NodeContent) (x : ℕ) → length vs ≡ length ns → Has ns x
    → (v : NodeContent) × (lookup x (zip ns vs) ≡ Some v)
value_there [] vs x many h = absurd h
value_there (n ∷ ns) [] x many h = absurd (omega (arith, many))
value_there (n ∷ ns) (v ∷ vs) x many h = elim (cases_Bool (x == n)) [
  | inl e ↦ (v, rw e refl)
  | inr f ↦ (
      let next = value_there ns vs x (omega (arith, many)) (later h f) in
      (next.0, rw f next.1))
]
  where
    later : Has (n ∷ ns) x → (x == n) ≡ false → Has ns x
    later (inl e) f = absurd (let no : true ≡ false = sym (eq-eqb x n (sym e)) ∙ f in cc)
    later (inr h) f = h
