-- Names by their numbers.
use Rattle.std.proofs.Common.{ℕ, zero, suc, ◌≡◌, ◌<◌, inl, inr, Bool, true, false, List, [], ◌∷◌, length, get_or, Contains, flat_map, if◌then◌else◌, nat_eq, bytes_eq, refl, sym, ap, subst, ◌∙◌, arith, true≢false, eqb-true, eq-eqb, Ordering, Less, Equal, Greater}
use Rattle.std.specs.Ordering.{is_eq, is_lt, ordering_reverse}
use Rattle.std.proofs.lemmas.Slice.Eq.{bytes_eq-Decides}
use Rattle.std.proofs.lemmas.List.Concat.{flat_map-cons}
use Rattle.text_values.specs.declared.test.Step.{Step}
use Rattle.text_values.specs.declared.test.Step.TheVariants.{Label, Instruction}
use Rattle.ppc_lowering.specs.Lowering.{name_cmp, name_index, labels_in}
use Rattle.ppc_lowering.proofs.Sorting.{order, same_name}
use Rattle.meaning.specs.Names.{Name}
use Rattle.meaning.proofs.Counting.{head_or_tail, here}
use Rattle.std.proofs.lemmas.List.Elements.{Contains-append_left, Contains-append_right}
use Rattle.meaning_executions.proofs.Machines.{agree}

equal_is : (r : Ordering) → is_eq r ≡ true → r ≡ Equal
equal_is Less h = absurd (true≢false (sym h))
equal_is Equal h = refl
equal_is Greater h = absurd (true≢false (sym h))

own_reverse : (r : Ordering) → r ≡ ordering_reverse r → r ≡ Equal
own_reverse Less h = absurd (true≢false (ap is_lt h))
own_reverse Equal h = refl
own_reverse Greater h = absurd (true≢false (sym (ap is_lt h)))

as_itself : (n : Name) → name_cmp n n ≡ Equal
as_itself n = own_reverse (name_cmp n n) (order.antisymm n n)

-- the number of a name that stands there is one of the list
within_if : (x : Name) (xs : List Name) (n : Name) (b : Bool) → is_eq (name_cmp x n) ≡ b
    → (Contains xs n → name_index xs n < length xs) → Contains (x ∷ xs) n
    → (if b then zero else suc (name_index xs n)) < length (x ∷ xs)
within_if x xs n true is rest h = omega arith
within_if x xs n false is rest h = elim (head_or_tail x xs n h) [
  | inl eq ↦ absurd (true≢false
      (sym (ap is_eq (subst (λ (m : Name). name_cmp x m ≡ Equal) eq (as_itself x))) ∙ is))
  | inr there ↦ let lt : _ = rest there in omega arith
]

pub within : (names : List Name) (n : Name) → Contains names n
    → name_index names n < length names
within [] n (k, lt, eq) = absurd (omega arith)
within (x ∷ xs) n h = within_if x xs n (is_eq (name_cmp x n)) refl (within xs n) h

-- the name with that number is the name
names_if : (x : Name) (xs : List Name) (n : Name) (b : Bool) → is_eq (name_cmp x n) ≡ b
    → (name_index xs n < length xs → get_or xs (name_index xs n) [] ≡ n)
    → (if b then zero else suc (name_index xs n)) < length (x ∷ xs)
    → get_or (x ∷ xs) (if b then zero else suc (name_index xs n)) [] ≡ n
names_if x xs n true is rest lt = same_name x n (equal_is (name_cmp x n) is)
names_if x xs n false is rest lt = rest (omega arith)

pub names_back : (names : List Name) (n : Name) → name_index names n < length names
    → get_or names (name_index names n) [] ≡ n
names_back [] n lt = absurd (omega arith)
names_back (x ∷ xs) n lt = names_if x xs n (is_eq (name_cmp x n)) refl (names_back xs n) lt

-- two names of which one stands there have one number if they are one
pub numbers_tell : (names : List Name) (l m : Name) → Contains names m
    → nat_eq (name_index names l) (name_index names m) ≡ bytes_eq l m
numbers_tell names l m there =
    agree (nat_eq (name_index names l) (name_index names m)) (bytes_eq l m)
    (λ h. (bytes_eq-Decides l m).1 (same (eqb-true (name_index names l) (name_index names m) h)))
    (λ h. eq-eqb (name_index names l) (name_index names m)
    (ap (λ (n : Name). name_index names n) ((bytes_eq-Decides l m).0 h)))
  where
    same : name_index names l ≡ name_index names m → l ≡ m
    same e =
        let lt : name_index names m < length names = within names m there in
        sym (names_back names l (subst (λ (k : ℕ). k < length names) (sym e) lt))
        ∙ ap (λ (k : ℕ). get_or names k []) e ∙ names_back names m lt

-- the labels of the lines are among these
abbrev pub AreLabelled : List Name → List Step → Type 0
AreLabelled labels [] = Unit {0}
AreLabelled labels (Label m ∷ xs) = Contains labels m × AreLabelled labels xs
AreLabelled labels (Instruction i ∷ xs) = AreLabelled labels xs

in_first : (x : Step) (xs : List Step) (n : Name) → Contains (labels_in x) n
    → Contains (flat_map labels_in (x ∷ xs)) n
in_first x xs n h =
    subst (λ (l : List Name). Contains l n) (sym (flat_map-cons labels_in x xs))
    (Contains-append_left (labels_in x) (flat_map labels_in xs) n h)

in_later : (x : Step) (xs : List Step) (n : Name) → Contains (flat_map labels_in xs) n
    → Contains (flat_map labels_in (x ∷ xs)) n
in_later x xs n h =
    subst (λ (l : List Name). Contains l n) (sym (flat_map-cons labels_in x xs))
    (Contains-append_right (labels_in x) (flat_map labels_in xs) n h)

pub labelled : (labels : List Name) (xs : List Step)
    → ((n : Name) → Contains (flat_map labels_in xs) n → Contains labels n) → AreLabelled labels xs
labelled labels [] inside = tt
labelled labels (Label m ∷ xs) inside = (
  inside m (in_first (Label m) xs m (here m [])),
  labelled labels xs (λ n h. inside n (in_later (Label m) xs n h)),
)
labelled labels (Instruction i ∷ xs) inside =
    labelled labels xs (λ n h. inside n (in_later (Instruction i) xs n h))
