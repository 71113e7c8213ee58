-- Names that are listed.
use Rattle.std.proofs.Common.{ℕ, ◌≡◌, ◌<◌, ◌+◌, ◌∙◌, ◌||◌, Bool, true, false, IsTrue, List, [], ◌∷◌, ◌++◌, length, take, get_or, Contains, zero, suc, inl, inr, ap, sym, subst, refl, arith}
use Rattle.std.specs.List.{list_any}
use Rattle.std.proofs.lemmas.Bool.{false≢true}
use Rattle.std.proofs.lemmas.List.Folds.{list_any_more}
use Rattle.std.proofs.lemmas.List.Elements.{Contains-append_left, Contains-append_right, Contains-append_cases}
use Rattle.predefined_names.specs.declared.predefined.Predefined.{Predefined}
use Rattle.cat_eval.specs.Needed.{ListsNeeded, changes_with_reads, changes_with_orders}
use Rattle.cat_eval.specs.Needs.{AreSuited}
use Rattle.std.proofs.Math.Bool.{or_assoc}

-- what was listed stays so, and more is
pub listed_more : (old now new prefix back : List Predefined) → ListsNeeded now (old ++ prefix)
    → ListsNeeded new (now ++ back) → ListsNeeded new (old ++ (prefix ++ back))
listed_more old now new prefix back before step name inside =
    elim (Contains-append_cases old (prefix ++ back) name inside) [
      | inl h ↦ step name (Contains-append_left now back name
          (before name (Contains-append_left old prefix name h)))
      | inr h ↦ elim (Contains-append_cases prefix back name h) [
        | inl f ↦ step name (Contains-append_left now back name
            (before name (Contains-append_right old prefix name f)))
        | inr b ↦ step name (Contains-append_right now back name b)
      ]
    ]

-- one more element, and whether it passes
pub any_more : {X : Type 0} (test : X → Bool) (xs : List X) (i : ℕ) (x : X) (old now new : Bool)
    → i < length xs → x ≡ get_or xs i x → now ≡ (old || list_any test (take i xs))
    → new ≡ (now || test x) → new ≡ (old || list_any test (take (i + 1) xs))
any_more test xs i x old now new lt is before step =
    let grown : list_any test (take (i + 1) xs) ≡ (list_any test (take i xs) || test x) = list_any_more test xs i x lt ∙ ap (λ y. list_any test (take i xs) || test y) (sym is) in
    step ∙ ap (λ b. b || test x) before ∙ or_assoc old (list_any test (take i xs)) (test x)
    ∙ ap (λ b. old || b) (sym grown)

pub single : (n x : Predefined) → Contains (n ∷ []) x → n ≡ x
single n x (zero, lt, is) = is
single n x (suc k, lt, is) = absurd (omega (arith, lt))

-- what is listed stays so with a name that is listed
pub listed_with : (list : List Predefined) (n : Predefined) → Contains list n
    → ListsNeeded list (list ++ n ∷ [])
listed_with list n there x inside = elim (Contains-append_cases list (n ∷ []) x inside) [
  | inl h ↦ h
  | inr last ↦ subst (λ (y : Predefined). Contains list y) (single n x last) there
]

either_left : (a b : Bool) → IsTrue a → IsTrue (a || b)
either_left true b h = refl
either_left false b h = absurd (false≢true h)

either_right : (a b : Bool) → IsTrue b → IsTrue (a || b)
either_right true b h = refl
either_right false b h = h

-- one name more, and what it changes with
pub suited_more : (old new : List Predefined) (n : Predefined)
    (reads orders more_reads more_orders : Bool) → ListsNeeded (old ++ n ∷ []) new
    → more_reads ≡ (reads || changes_with_reads n) → more_orders ≡ (orders || changes_with_orders n)
    → AreSuited old reads orders → AreSuited new more_reads more_orders
suited_more old new n reads orders more_reads more_orders within is_read is_ordered h = record {
  read =
      λ x inside changes.
      rw is_read (elim (Contains-append_cases old (n ∷ []) x (within x inside)) [
        | inl was ↦ either_left reads (changes_with_reads n) (h.read x was changes)
        | inr last ↦ either_right reads (changes_with_reads n) (subst
            (λ (y : Predefined). IsTrue (changes_with_reads y)) (sym (single n x last)) changes)
      ]);
  ordered =
      λ x inside changes.
      rw is_ordered (elim (Contains-append_cases old (n ∷ []) x (within x inside)) [
        | inl was ↦ either_left orders (changes_with_orders n) (h.ordered x was changes)
        | inr last ↦ either_right orders (changes_with_orders n) (subst
            (λ (y : Predefined). IsTrue (changes_with_orders y)) (sym (single n x last)) changes)
      ]);
}
