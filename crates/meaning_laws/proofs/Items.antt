-- The same checks and flags of a model are met along functions there and back between two kinds of
-- things, where the names that its items see are the same.
use Rattle.std.proofs.Common.{ℕ, zero, suc, ◌≡◌, ◌↔◌, Bool, true, false, List, [], ◌∷◌, length, IsTrue, sym, subst}
use Rattle.text_values.specs.declared.model.CheckWord.{CheckWord}
use Rattle.text_values.specs.declared.model.CheckWord.TheVariants.{Acyclic, Irreflexive, Empty}
use Rattle.text_values.specs.ModelValue.{Term, Checked, Clause, Binding, Function, Checking, Flagging, Showing, Including}
use Rattle.meaning.specs.Sets.{Set, Relation, Transitive, IsIrreflexive, IsEmpty}
use Rattle.meaning.specs.Names.{Name}
use Rattle.meaning.specs.Cat.{Meaning, ToMeaning, Names, meaning_of, HasPair, with_arguments, with_group, with_bodies, Choice, IsChosen, IsClosed, Least, names_after, HasProperty, NegatedIf, IsMet, IsItemMet, AreMet, IsFlagMet}
use Rattle.meaning_laws.specs.CarriedLaws.{chosen_names, renumbered, NumbersDoNotMatter}
use Rattle.meaning_laws.proofs.Operators.{Same, sets, relations, nothing, pair_same, paths_same}
use Rattle.meaning_laws.proofs.Expressions.{meanings, functions, SameNames, no_name, one_more, arguments_same, group_same, meaning_same}

negated_same : (b : Bool) (P Q : Type 0) → P ↔ Q → NegatedIf b P ↔ NegatedIf b Q
negated_same true P Q h = (λ no q. no (h.1 q), λ no p. no (h.0 p))
negated_same false P Q h = h

module _ {X Y : Type 0} (f : X → Y) (g : Y → X) (there : (x : X) → g (f x) ≡ x)
    (back : (y : Y) → f (g y) ≡ y) where
  -- ---- checks

  irreflexive_same : (R : Relation X) (Q : Relation Y) → ((x z : X) → R x z ↔ Q (f x) (f z))
      → IsIrreflexive R ↔ IsIrreflexive Q
  irreflexive_same R Q h = (
    λ never y q. never (g y)
        ((h (g y) (g y)).1 (subst (λ (w : Y). Q w w) (sym (back y)) q)),
    λ never x r. never (f x) ((h x x).0 r),
  )

  empty_same : (R : Relation X) (Q : Relation Y) → ((x z : X) → R x z ↔ Q (f x) (f z))
      → IsEmpty R ↔ IsEmpty Q
  empty_same R Q h = (
    λ never y w q. never (g y) (g w)
        ((h (g y) (g w)).1
        (subst (λ (u : Y). Q u (f (g w))) (sym (back y))
        (subst (λ (u : Y). Q y u) (sym (back w)) q))),
    λ never x z r. never (f x) (f z) ((h x z).0 r),
  )

  no_member : (S : Set X) (T : Set Y) → ((x : X) → S x ↔ T (f x))
      → ((x : X) → S x → ⊥) ↔ ((y : Y) → T y → ⊥)
  no_member S T h = (
    λ never y q. never (g y) ((h (g y)).1 (subst (λ (w : Y). T w) (sym (back y)) q)),
    λ never x s. never (f x) ((h x).0 s),
  )

  property_same : (word : CheckWord) (m : Meaning X) (k : Meaning Y) → Same f m k
      → HasProperty word m ↔ HasProperty word k
  property_same Acyclic m k (relations R Q h) =
      irreflexive_same (Transitive R) (Transitive Q) (paths_same f g there back R Q h)
  property_same Irreflexive m k (relations R Q h) = irreflexive_same R Q h
  property_same Empty m k (relations R Q h) = empty_same R Q h
  property_same Empty m k (sets S T h) = no_member S T h
  property_same Acyclic m k (sets S T h) = (λ p. p, λ p. p)
  property_same Irreflexive m k (sets S T h) = (λ p. p, λ p. p)
  property_same Acyclic m k nothing = (λ p. p, λ p. p)
  property_same Irreflexive m k nothing = (λ p. p, λ p. p)
  property_same Empty m k nothing = (λ p. p, λ p. p)

  module _ (all : Set X) (every : Set Y) (whole : (x : X) → all x ↔ every (f x)) where
    -- ---- recursive groups

    body_pairs : (group : List (Name × Term)) (bs : Names X) (cs : Names Y) → SameNames f bs cs
        → (R : Name → Relation X) (Q : Name → Relation Y)
        → ((n : Name) (x z : X) → R n x z ↔ Q n (f x) (f z)) → (t : Term) (x z : X)
        → HasPair (meaning_of all (with_group R group bs) t) x z
        ↔ HasPair (meaning_of every (with_group Q group cs) t) (f x) (f z)
    body_pairs group bs cs h R Q same t x z =
        pair_same f g there back (meaning_of all (with_group R group bs) t)
        (meaning_of every (with_group Q group cs) t)
        (meaning_same f g there back all every whole (with_group R group bs)
        (with_group Q group cs) (group_same f R Q same group bs cs h) t) x z

    module _ (group : List (Name × Term)) (bs : Names X) (cs : Names Y) (h : SameNames f bs cs)
      where
        least_there : (n : Name) (x z : X) → Least all bs group n x z
            → Least every cs group n (f x) (f z)
        least_there n x z least choice closed =
            least (λ m a b. choice m (f a) (f b))
            (λ b stands a c pair. closed b stands (f a) (f c)
            ((body_pairs group bs cs h (IsChosen (λ m v w. choice m (f v) (f w))) (IsChosen choice)
            (λ m v w. (λ p. p, λ p. p)) b.1 a c).0 pair))

        chosen_back : (choice : Choice X) (n : Name) (x z : X)
            → IsChosen choice n x z ↔ IsTrue (choice n (g (f x)) (g (f z)))
        chosen_back choice n x z = (
          λ p. subst (λ (v : X). IsTrue (choice n v (g (f z)))) (sym (there x))
              (subst (λ (v : X). IsTrue (choice n x v)) (sym (there z)) p),
          λ p. subst (λ (v : X). IsTrue (choice n x v)) (there z)
              (subst (λ (v : X). IsTrue (choice n v (g (f z)))) (there x) p),
        )

        closed_back : (choice : Choice X) → IsClosed all bs group choice
            → IsClosed every cs group (λ m a b. choice m (g a) (g b))
        closed_back choice closed b stands y w pair =
            closed b stands (g y) (g w)
            ((body_pairs group bs cs h (IsChosen choice)
            (IsChosen (λ m a c. choice m (g a) (g c))) (chosen_back choice) b.1 (g y) (g w)).1
            (subst
            (λ (u : Y). HasPair (meaning_of every
            (with_group (IsChosen (λ m a c. choice m (g a) (g c))) group cs) b.1) u (f (g w)))
            (sym (back y))
            (subst
            (λ (u : Y). HasPair (meaning_of every
            (with_group (IsChosen (λ m a c. choice m (g a) (g c))) group cs) b.1) y u)
            (sym (back w)) pair)))

        least_same : (n : Name) (x z : X)
            → Least all bs group n x z ↔ Least every cs group n (f x) (f z)
        least_same n x z = (
          least_there n x z,
          λ least choice closed. (chosen_back choice n x z).1
              (least (λ m a b. choice m (g a) (g b)) (closed_back choice closed)),
        )

    -- ---- items

    bodies_same : (outer : Names X) (beyond : Names Y) → SameNames f outer beyond
        → (group : List (Name × Term)) (bs : Names X) (cs : Names Y) → SameNames f bs cs
        → SameNames f (with_bodies all outer group bs) (with_bodies every beyond group cs)
    bodies_same outer beyond same [] bs cs h = h
    bodies_same outer beyond same (b ∷ group) bs cs h =
        bodies_same outer beyond same group ((b.0, ToMeaning (meaning_of all outer b.1)) ∷ bs)
        ((b.0, ToMeaning (meaning_of every beyond b.1)) ∷ cs)
        (one_more b.0 (ToMeaning (meaning_of all outer b.1))
        (ToMeaning (meaning_of every beyond b.1)) bs cs
        (meanings (meaning_of all outer b.1) (meaning_of every beyond b.1)
        (meaning_same f g there back all every whole outer beyond same b.1)) h)

    pub after_same : (c : Clause) (bs : Names X) (cs : Names Y) → SameNames f bs cs
        → SameNames f (names_after all bs c) (names_after every cs c)
    after_same (Binding true group) bs cs h =
        group_same f (Least all bs group) (Least every cs group) (least_same group bs cs h) group
        bs cs h
    after_same (Binding false group) bs cs h = bodies_same bs cs h group bs cs h
    after_same (Function n ps body) bs cs h =
        one_more n _ _ bs cs
        (functions (length ps) (λ ms. meaning_of all (with_arguments ps ms bs) body)
        (λ ks. meaning_of every (with_arguments ps ks cs) body)
        (λ ms ks are. meaning_same f g there back all every whole (with_arguments ps ms bs)
        (with_arguments ps ks cs) (arguments_same f ps ms ks are bs cs h) body)) h
    after_same (Checking check label) bs cs h = h
    after_same (Flagging check label) bs cs h = h
    after_same (Showing hidden shown) bs cs h = h
    after_same (Including path) bs cs h = h

    pub met_same : (check : Checked) (bs : Names X) (cs : Names Y) → SameNames f bs cs
        → IsMet all bs check ↔ IsMet every cs check
    met_same check bs cs h =
        negated_same check.negated (HasProperty check.word (meaning_of all bs check.body))
        (HasProperty check.word (meaning_of every cs check.body))
        (property_same check.word (meaning_of all bs check.body) (meaning_of every cs check.body)
        (meaning_same f g there back all every whole bs cs h check.body))

    item_same : (c : Clause) (bs : Names X) (cs : Names Y) → SameNames f bs cs
        → IsItemMet all bs c ↔ IsItemMet every cs c
    item_same (Binding recursive group) bs cs h = (λ p. p, λ p. p)
    item_same (Function n ps body) bs cs h = (λ p. p, λ p. p)
    item_same (Checking check label) bs cs h = met_same check bs cs h
    item_same (Flagging check label) bs cs h = (λ p. p, λ p. p)
    item_same (Showing hidden shown) bs cs h = (λ p. p, λ p. p)
    item_same (Including path) bs cs h = (λ p. p, λ p. p)

    pub all_met_same : (items : List Clause) (bs : Names X) (cs : Names Y) → SameNames f bs cs
        → AreMet all bs items ↔ AreMet every cs items
    all_met_same [] bs cs h = (λ p. p, λ p. p)
    all_met_same (c ∷ items) bs cs h =
        let one : _ = item_same c bs cs h in
        let rest : _ = all_met_same items (names_after all bs c) (names_after every cs c)
        (after_same c bs cs h) in
        (λ p. (one.0 p.0, rest.0 p.1), λ p. (one.1 p.0, rest.1 p.1))

    flag_here : (c : Clause) (items : List Clause) (bs : Names X) (cs : Names Y)
        → SameNames f bs cs
        → IsFlagMet all bs (c ∷ items) 0 ↔ IsFlagMet every cs (c ∷ items) 0
    flag_here (Binding recursive group) items bs cs h = (λ p. p, λ p. p)
    flag_here (Function n ps body) items bs cs h = (λ p. p, λ p. p)
    flag_here (Checking check label) items bs cs h = (λ p. p, λ p. p)
    flag_here (Flagging check label) items bs cs h = met_same check bs cs h
    flag_here (Showing hidden shown) items bs cs h = (λ p. p, λ p. p)
    flag_here (Including path) items bs cs h = (λ p. p, λ p. p)

    pub flags_same : (items : List Clause) (index : ℕ) (bs : Names X) (cs : Names Y)
        → SameNames f bs cs → IsFlagMet all bs items index ↔ IsFlagMet every cs items index
    flags_same [] index bs cs h = (λ p. p, λ p. p)
    flags_same (c ∷ items) zero bs cs h = flag_here c items bs cs h
    flags_same (c ∷ items) (suc index) bs cs h =
        flags_same items index (names_after all bs c) (names_after every cs c)
        (after_same c bs cs h)

chosen_same : (to : ℕ → ℕ) (choice : Choice ℕ) (names : List Name)
    → SameNames to (chosen_names (renumbered to choice) names) (chosen_names choice names)
chosen_same to choice [] = no_name
chosen_same to choice (n ∷ names) =
    one_more n _ _ _ _
    (meanings _ _
    (relations (IsChosen (renumbered to choice) n) (IsChosen choice n) (λ a b. (λ p. p, λ p. p))))
    (chosen_same to choice names)

pub numbers_alike : NumbersDoNotMatter
numbers_alike to from are all choice names items = (
  all_met_same to from are.there are.back (λ n. IsTrue (all (to n))) (λ n. IsTrue (all n))
      (λ n. (λ p. p, λ p. p)) items _ _ (chosen_same to choice names),
  λ index. flags_same to from are.there are.back (λ n. IsTrue (all (to n)))
      (λ n. IsTrue (all n)) (λ n. (λ p. p, λ p. p)) items index _ _
      (chosen_same to choice names),
)
