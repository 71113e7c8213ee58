-- Names in their order.
use Rattle.std.proofs.Common.{ℕ, zero, suc, ◌≡◌, ◌<◌, ◌≤◌, ◌+◌, inl, inr, Bool, true, false, List, [], ◌∷◌, ◌++◌, length, get_or, take, refl, sym, ap, subst, ◌∙◌, if◌then◌else◌, arith, add-one}
use Rattle.std.specs.List.{Contains, AllPairs, HoldsAt, insert, flat_map}
use Rattle.std.specs.List.Sorted.{IsNonDecreasingBy, IsPartitionPoint}
use Rattle.std.specs.Ordering.{is_eq, ordering_index, ordering_reverse}
use Rattle.std.specs.Cmp.{IsTotalOrder}
use Rattle.std.specs.FinMap.{nat_cmp-IsAntisymmetric, slice_cmp-IsAntisymmetric}
use Rattle.std.specs.declared.cmp.Ordering.{Ordering}
use Rattle.std.specs.declared.cmp.Ordering.TheVariants.{Less, Equal, Greater}
use Rattle.std.proofs.Math.Seq.{take-suc}
use Rattle.std.proofs.lemmas.List.{append-nil, take_all}
use Rattle.std.proofs.lemmas.Bool.{cases_eq, cases_lt}
use Rattle.std.proofs.lemmas.Cmp.{nat_list_cmp_total}
use Rattle.std.proofs.lemmas.Grind.{flat_map-append}
use Rattle.std.proofs.lemmas.List.Elements.{Contains-append_left, Contains-append_right, Contains-append_cases}
use Rattle.ppc_lowering.specs.Lowering.{name_cmp, IsNameBefore, Gains, name_index, AreNamesOf}
use Rattle.thread_runs.proofs.Pairs.{inserted_rises, contains_inserted, contains_here, contains_cases, pairs_tail}

pub order : IsTotalOrder name_cmp
order = nat_list_cmp_total

pub same_name : (a b : List ℕ) → name_cmp a b ≡ Equal → a ≡ b
same_name a b e = slice_cmp-IsAntisymmetric nat_cmp-IsAntisymmetric a b e

index_within : (o : Ordering) → ordering_index o ≤ 2
index_within Less = omega arith
index_within Equal = omega arith
index_within Greater = omega arith

before_index : (a b n : List ℕ) → IsNameBefore a b
    → ordering_index (name_cmp a n) ≤ ordering_index (name_cmp b n)
before_index a b n lt = go (name_cmp b n) refl
  where
    go : (o : Ordering) → name_cmp b n ≡ o
        → ordering_index (name_cmp a n) ≤ ordering_index (name_cmp b n)
    go Less e =
        let f : ordering_index (name_cmp a n) ≡ 0 = ap ordering_index (order.trans a b n lt e) in
        omega arith
    go Equal e =
        let f : ordering_index (name_cmp a n) ≡ 0 =
        ap ordering_index (subst (λ (m : List ℕ). name_cmp a m ≡ Less) (same_name b n e) lt) in
        omega arith
    go Greater e =
        let f : ordering_index (name_cmp b n) ≡ 2 = ap ordering_index e in
        let g = index_within (name_cmp a n) in omega arith

pub rising_for : (xs : List (List ℕ)) (name : List ℕ) → AllPairs IsNameBefore xs
    → IsNonDecreasingBy (λ y. ordering_index (name_cmp y name)) xs
rising_for xs name rising i j d le lt = elim (cases_eq i j) [
  | inl same ↦
      let e : ordering_index (name_cmp (get_or xs i d) name)
      ≡ ordering_index (name_cmp (get_or xs j d) name) =
      ap (λ (k : ℕ). ordering_index (name_cmp (get_or xs k d) name)) same in
      omega arith
  | inr other ↦ before_index (get_or xs i d) (get_or xs j d) name
      (rising i j d (omega (arith, other)) lt)
]

turned : (a b : List ℕ) → name_cmp a b ≡ Greater → IsNameBefore b a
turned a b e =
    let f : name_cmp b a ≡ ordering_reverse (name_cmp a b) = order.antisymm b a in
    f ∙ ap ordering_reverse e

-- a name more
pub found_noted : (xs : List (List ℕ)) (name : List ℕ) (i : ℕ) → i < length xs
    → HoldsAt (λ y. name_cmp y name ≡ Equal) xs i → Gains (name ∷ []) xs xs
found_noted xs name i lt h = record {
  exact = λ n. (
    (λ w. inl w),
    (λ w. elim w [
      | inl there ↦ there
      | inr one ↦ elim (contains_cases name [] n one) [
        | inl e ↦ (
          i,
          lt,
          same_name (get_or xs i n) n (subst
              (λ (m : List ℕ). name_cmp (get_or xs i n) m ≡ Equal) (sym e) (h n)),
        )
        | inr none ↦ absurd (let below = none.1 in omega arith)
      ]
    ]),
  );
}

pub added_rises : (xs ys zs : List (List ℕ)) (name : List ℕ) (i : ℕ) → AllPairs IsNameBefore xs
    → ys ≡ xs → i ≤ length ys
    → (IsNonDecreasingBy (λ y. ordering_index (name_cmp y name)) ys
    → IsPartitionPoint (λ y. name_cmp y name ≡ Less) (λ y. name_cmp y name ≡ Greater) ys i)
    → zs ≡ insert xs i name → AllPairs IsNameBefore zs
added_rises xs ys zs name i rising same le part new =
    let p : IsPartitionPoint (λ y. name_cmp y name ≡ Less) (λ y. name_cmp y name ≡ Greater) xs i = subst (λ (ws : List (List ℕ)). IsPartitionPoint (λ y. name_cmp y name ≡ Less) (λ y. name_cmp y name ≡ Greater) ws i) same (part (rising_for ys name (subst (λ (ws : List (List ℕ)). AllPairs IsNameBefore ws) (sym same) rising))) in
    let bound : i ≤ length xs = subst (λ (ws : List (List ℕ)). i ≤ length ws) same le in
    subst (λ (ws : List (List ℕ)). AllPairs IsNameBefore ws) (sym new)
    (inserted_rises IsNameBefore order.trans xs i name name bound rising
    (λ k lt. p.0 k name (omega arith) lt) (λ lt.
    turned (get_or xs i name) name (p.1 i name (omega arith) lt)))

pub added_noted : (xs zs : List (List ℕ)) (name : List ℕ) (i : ℕ) → zs ≡ insert xs i name
    → Gains (name ∷ []) xs zs
added_noted xs zs name i new =
    subst (λ (ws : List (List ℕ)). Gains (name ∷ []) xs ws) (sym new) (record {
      exact = λ n.
          let h = contains_inserted xs i name n in (
            (λ w. elim (h.0 w) [
              | inl u ↦ inl u
              | inr e ↦ inr (subst
                  (λ (m : List ℕ). Contains (name ∷ []) m) (sym e)
                  (contains_here name []))
            ]),
            (λ w. elim w [
              | inl u ↦ h.1 (inl u)
              | inr one ↦ elim (contains_cases name [] n one) [
                | inl e ↦ h.1 (inr e)
                | inr none ↦ absurd
                    (let below = none.1 in omega arith)
              ]
            ]),
          );
    })

pub adds_after : (a b x y z : List (List ℕ)) → Gains a x y → Gains b y z → Gains (a ++ b) x z
adds_after a b x y z p q = record {
  exact = λ n. (
    (λ h. elim ((q.exact n).0 h) [
      | inl w ↦ elim ((p.exact n).0 w) [
        | inl u ↦ inl u
        | inr u ↦ inr
            (Contains-append_left a b n u)
      ]
      | inr w ↦ inr (Contains-append_right a b n w)
    ]),
    (λ h. elim h [
      | inl w ↦ (q.exact n).1 (inl ((p.exact n).1 (inl w)))
      | inr w ↦ elim (Contains-append_cases a b n w) [
        | inl u ↦ (q.exact n).1
            (inl ((p.exact n).1 (inr u)))
        | inr u ↦ (q.exact n).1 (inr u)
      ]
    ]),
  );
}

-- the names of one element more
pub adds_more : {A : Type 0} (f : A → List (List ℕ)) (xs : List A) (k : ℕ) (d : A)
    (x y z : List (List ℕ)) → k < length xs → Gains (flat_map f (take k xs)) x y
    → Gains (f (get_or xs k d)) y z → Gains (flat_map f (take (k + 1) xs)) x z
adds_more f xs k d x y z lt p q = rw (add-one, take-suc xs k d lt)
    (subst (λ (names : List (List ℕ)). Gains names x z)
    (ap (λ (names : List (List ℕ)). flat_map f (take k xs) ++ names)
    (sym (append-nil (f (get_or xs k d))))
    ∙ sym (flat_map-append f (take k xs) (get_or xs k d ∷ [])))
    (adds_after (flat_map f (take k xs)) (f (get_or xs k d)) x y z p q))

pub adds_all : {A : Type 0} (f : A → List (List ℕ)) (xs : List A) (k : ℕ) (x y : List (List ℕ))
    → length xs ≤ k → Gains (flat_map f (take k xs)) x y → Gains (flat_map f xs) x y
adds_all {A = A} f xs k x y le h =
    subst (λ (ys : List A). Gains (flat_map f ys) x y) (take_all k xs le) h

pub are_names : (found names : List (List ℕ)) → AllPairs IsNameBefore names → Gains found [] names
    → AreNamesOf found names
are_names found names rising added = record {
  rising = rising;
  exact =
      λ n. (
        (λ h. elim ((added.exact n).0 h) [
          | inl none ↦ absurd (let below = none.1 in omega arith)
          | inr w ↦ w
        ]),
        (λ h. (added.exact n).1 (inr h)),
      );
}

-- its number
equal_test : (o : Ordering) → o ≡ Equal → is_eq o ≡ true
equal_test o e = ap is_eq e

pub number_found : (xs : List (List ℕ)) (name : List ℕ) (k : ℕ) → AllPairs IsNameBefore xs
    → k < length xs → HoldsAt (λ y. name_cmp y name ≡ Equal) xs k → k ≡ name_index xs name
number_found [] name k rising lt h = absurd (omega arith)
number_found (x ∷ xs) name zero rising lt h =
    sym (ap (λ (t : Bool). if t then zero else suc (name_index xs name))
    (equal_test (name_cmp x name) (h name)))
number_found (x ∷ xs) name (suc k) rising lt h =
    let e : get_or xs k name ≡ name = same_name (get_or xs k name) name (h name) in
    let less : name_cmp x name ≡ Less = subst (λ (m : List ℕ). name_cmp x m ≡ Less) e (rising zero (suc k) name (omega arith) lt) in
    ap suc (number_found xs name k (pairs_tail IsNameBefore x xs rising) (omega arith) (λ d. h d))
    ∙ sym (ap (λ (t : Bool). if t then zero else suc (name_index xs name)) (ap is_eq less))

number_missing : (xs : List (List ℕ)) (name : List ℕ)
    → ((k : ℕ) (d : List ℕ) → k < length xs → is_eq (name_cmp (get_or xs k d) name) ≡ false)
    → length xs ≡ name_index xs name
number_missing [] name none = refl
number_missing (x ∷ xs) name none =
    ap suc (number_missing xs name (λ k d lt. none (suc k) d (omega arith)))
    ∙ sym (ap (λ (t : Bool). if t then zero else suc (name_index xs name))
    (none zero x (omega arith)))

pub number_none : (xs : List (List ℕ)) (name : List ℕ) (i n : ℕ) → AllPairs IsNameBefore xs
    → n ≡ length xs
    → (IsNonDecreasingBy (λ y. ordering_index (name_cmp y name)) xs
    → IsPartitionPoint (λ y. name_cmp y name ≡ Less) (λ y. name_cmp y name ≡ Greater) xs
    i) → n ≡ name_index xs name
number_none xs name i n rising e part =
    let p = part (rising_for xs name rising) in
    e ∙ number_missing xs name (λ k d lt. elim (cases_lt k i) [
      | inl less ↦ ap is_eq (p.0 k d (omega arith) less)
      | inr le ↦ ap is_eq (p.1 k d le lt)
    ])
