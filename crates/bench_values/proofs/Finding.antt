-- What is found among the values of inputs, one by one.
use Rattle.std.proofs.Common.{ℕ, zero, suc, Bool, min, ◌≤◌, ◌+◌, ◌<◌, ◌≡◌, List, [], ◌∷◌, ◌++◌, Option, Some, None, Bor, inl, inr, length, get_or, map, take, drop, refl, sym, ap, subst, ◌∙◌, arith, add-one}
use Rattle.std.specs.List.{filter_map, cons_option}
use Rattle.std.proofs.lemmas.Bool.{cases_lt}
use Rattle.std.proofs.lemmas.List.{take_more, append-nil, map-append, drop_all}
use Rattle.std.proofs.lemmas.List.Elements.{filter_map-append}
use Rattle.std.proofs.Math.Seq.{drop-cons}
use Rattle.outcome_states.specs.Kept.{Flag}
use Rattle.bench_values.specs.Makes.{checks_among, flags_among}
use Rattle.bench_values.specs.declared.value.NodeValue.{NodeValue}

found_more : {Y : Type 0} (f : NodeValue → Option Y) (vs : List (Bor NodeValue)) (i : ℕ)
    (v : Bor NodeValue) → i < length vs → v ≡ get_or vs i v
    → filter_map f (map (λ w. w.now) (take (i + 1) vs))
    ≡ filter_map f (map (λ w. w.now) (take i vs)) ++ cons_option (f v.now) []
found_more f vs i v lt is =
    ap (λ (l : List (Bor NodeValue)). filter_map f (map (λ w. w.now) l))
    (take_more vs i v lt ∙ ap (λ (w : Bor NodeValue). take i vs ++ w ∷ []) (sym is))
    ∙ ap (filter_map f) (map-append (λ (w : Bor NodeValue). w.now) (take i vs) (v ∷ []))
    ∙ filter_map-append f (map (λ w. w.now) (take i vs)) (v.now ∷ [])

-- one more that holds such
pub found_some : {Y : Type 0} (f : NodeValue → Option Y) (vs : List (Bor NodeValue)) (i : ℕ)
    (v : Bor NodeValue) (found new : List (Bor Y)) (c : Bor Y) → i < length vs
    → v ≡ get_or vs i v → map (λ b. b.now) found ≡ filter_map f (map (λ w. w.now) (take i vs))
    → Some c.now ≡ f v.now → new ≡ found ++ c ∷ []
    → map (λ b. b.now) new ≡ filter_map f (map (λ w. w.now) (take (i + 1) vs))
found_some {Y} f vs i v found new c lt is so_far holds pushed =
    ap (λ (l : List (Bor Y)). map (λ b. b.now) l) pushed
    ∙ map-append (λ (b : Bor Y). b.now) found (c ∷ [])
    ∙ ap (λ (l : List Y). l ++ c.now ∷ []) so_far
    ∙ ap (λ (o : Option Y). filter_map f (map (λ w. w.now) (take i vs)) ++ cons_option o []) holds
    ∙ sym (found_more f vs i v lt is)

-- one more that holds none
pub found_none : {Y : Type 0} (f : NodeValue → Option Y) (vs : List (Bor NodeValue)) (i : ℕ)
    (v : Bor NodeValue) (found new : List (Bor Y)) → i < length vs → v ≡ get_or vs i v
    → map (λ b. b.now) found ≡ filter_map f (map (λ w. w.now) (take i vs)) → None ≡ f v.now
    → new ≡ found → map (λ b. b.now) new ≡ filter_map f (map (λ w. w.now) (take (i + 1) vs))
found_none {Y} f vs i v found new lt is so_far holds same =
    ap (λ (l : List (Bor Y)). map (λ b. b.now) l) same
    ∙ so_far
    ∙ sym (append-nil (filter_map f (map (λ w. w.now) (take i vs))))
    ∙ ap (λ (o : Option Y). filter_map f (map (λ w. w.now) (take i vs)) ++ cons_option o []) holds
    ∙ sym (found_more f vs i v lt is)

-- ---- two lists side by side

-- what is at an index, and what is behind it
pub rest_here : {X : Type 0} (xs : List X) (i : ℕ) (x : X) → i < length xs → x ≡ get_or xs i x
    → drop i xs ≡ x ∷ drop (i + 1) xs
rest_here {X} xs i x lt is =
    rw add-one (drop-cons xs i x lt ∙ ap (λ (z : X). z ∷ drop (suc i) xs) (sym is))

-- there is such, where the list is longer
pub rest_there : {X : Type 0} (xs : List X) (i : ℕ) → i < length xs
    → (x : X) × (drop i xs ≡ x ∷ drop (i + 1) xs)
rest_there [] i lt = absurd (omega (arith, lt))
rest_there (x ∷ xs) zero lt = (x, refl)
rest_there {X} (x ∷ xs) (suc i) lt =
    let next = rest_there xs i (omega (arith, lt)) in
    let moved : suc (i + 1) ≡ suc i + 1 = omega arith in
    (next.0, subst (λ (n : ℕ). drop (suc i) (x ∷ xs) ≡ next.0 ∷ drop n (x ∷ xs)) moved next.1)

checks-nil : (names : List (Option (List ℕ))) (answers : List (List Bool)) → answers ≡ []
    → checks_among names answers ≡ []
checks-nil [] answers e = refl
checks-nil (n ∷ ns) answers e = ap (checks_among (n ∷ ns)) e

flags-nil : (names : List (Option (List ℕ))) (answers : List (List Bool)) → answers ≡ []
    → flags_among names answers ≡ []
flags-nil [] answers e = refl
flags-nil (n ∷ ns) answers e = ap (flags_among (n ∷ ns)) e

module _ (names : List (Option (List ℕ))) (answers : List (Bor (List Bool))) where
  abbrev pub checks_from : ℕ → List (List Bool)
  checks_from i = checks_among (drop i names) (map (λ a. a.now) (drop i answers))

  abbrev pub flags_from : ℕ → List Flag
  flags_from i = flags_among (drop i names) (map (λ a. a.now) (drop i answers))

  -- none are left where a list is at its end
  past_names : (i : ℕ) → length names ≤ i → (checks_from i ≡ []) × (flags_from i ≡ [])
  past_names i past =
      let none : drop i names ≡ [] = drop_all i names past in (
        ap (λ (l : List (Option (List ℕ))). checks_among l (map (λ a. a.now) (drop i answers)))
            none,
        ap (λ (l : List (Option (List ℕ))). flags_among l (map (λ a. a.now) (drop i answers))) none,
      )

  past_answers : (i : ℕ) → length answers ≤ i → (checks_from i ≡ []) × (flags_from i ≡ [])
  past_answers i past =
      let none : map (λ a. a.now) (drop i answers) ≡ [] = ap (λ (l : List (Bor (List Bool))). map (λ a. a.now) l) (drop_all i answers past) in (
        checks-nil (drop i names) (map (λ a. a.now) (drop i answers)) none,
        flags-nil (drop i names) (map (λ a. a.now) (drop i answers)) none,
      )

  pub among_end : (i : ℕ) → min (length names) (length answers) ≤ i
      → (checks_from i ≡ []) × (flags_from i ≡ [])
  among_end i past = elim (cases_lt i (length names)) [
    | inr short ↦ past_names i short
    | inl long ↦ past_answers i (omega (arith, past, long))
  ]

  module _ (i : ℕ) (n : Option (List ℕ)) (a : Bor (List Bool)) (lt : i < length names)
      (is : n ≡ get_or names i n) (next : drop i answers ≡ a ∷ drop (i + 1) answers) where
    pub checks_here : checks_from i
        ≡ checks_among (n ∷ drop (i + 1) names) (a.now ∷ map (λ b. b.now) (drop (i + 1) answers))
    checks_here =
        ap (λ (l : List (Option (List ℕ))). checks_among l (map (λ b. b.now) (drop i answers)))
        (rest_here names i n lt is)
        ∙ ap
        (λ (l : List (Bor (List Bool))).
        checks_among (n ∷ drop (i + 1) names) (map (λ b. b.now) l)) next

    pub flags_here : flags_from i
        ≡ flags_among (n ∷ drop (i + 1) names) (a.now ∷ map (λ b. b.now) (drop (i + 1) answers))
    flags_here =
        ap (λ (l : List (Option (List ℕ))). flags_among l (map (λ b. b.now) (drop i answers)))
        (rest_here names i n lt is)
        ∙ ap
        (λ (l : List (Bor (List Bool))).
        flags_among (n ∷ drop (i + 1) names) (map (λ b. b.now) l)) next
