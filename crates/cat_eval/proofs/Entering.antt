-- What of a base stays as the candidates go on, and lists of bases for lists of candidates.
use Rattle.std.proofs.Common.{ℕ, ◌≡◌, ◌∙◌, ◌++◌, ◌+◌, ◌<◌, List, [], ◌∷◌, length, take, get_or, refl, sym, ap, cond, true, false, filter, IsTrue, Contains, zero, suc, add-one, arith}
use Rattle.std.specs.Prelude.{Bool, Vec, map}
use Rattle.std.specs.List.{flat_map}
use Rattle.std.specs.declared.alloc.Global.{Global}
use Rattle.std.proofs.lemmas.List.{map-append, append-nil}
use Rattle.std.proofs.lemmas.Grind.{flat_map-append}
use Rattle.std.proofs.lemmas.List.Elements.{Contains-append_right}
use Rattle.std.proofs.Math.Seq.{take-suc}
use Rattle.store_orders.specs.declared.combination.Combination.{Combination}
use Rattle.base_names.specs.Known.{Known, set_names}
use Rattle.base_names.specs.Candidate.{SuppliesName}
use Rattle.store_orders.specs.Lists.{lists_of}
use Rattle.store_orders.specs.Combinations.{pairs, candidates_of}
use Rattle.candidate_spaces.specs.Space.{candidates_in, Candidate}
use Rattle.cat_eval.specs.Candidates.{reading_so, reading_in, of_combinations}
use Rattle.predefined_names.specs.declared.predefined.Predefined.{Predefined}
use Rattle.predefined_names.specs.PredefinedNames.{is_set}
use Rattle.cat_eval.specs.Worlds.{AreNamesHeld, AreWorlds}

-- what holds all sets among the names, and what the relations among them need, holds the names
pub held_of : (base : Known) (names : List Predefined) → set_names base.sets ≡ filter is_set names
    → ((name : Predefined) → Contains names name → is_set name ≡ false → SuppliesName base name)
    → AreNamesHeld names base
held_of base names sets relations = record {
  sets = λ name inside set. rw sets (filter_keeps is_set names name inside set);
  relations = relations;
}
  where
    filter_keeps : (test : Predefined → Bool) (xs : List Predefined) (x : Predefined)
        → Contains xs x → IsTrue (test x) → Contains (filter test xs) x
    filter_keeps test [] x inside set = absurd (omega (arith, inside.1))
    filter_keeps test (y ∷ ys) x (zero, lt, is) set =
        let passes : test y ≡ true = rw is set in
        rw passes (0, omega arith, is)
    filter_keeps test (y ∷ ys) x (suc k, lt, is) set =
        later (test y) (filter_keeps test ys x (k, omega (arith, lt), is) set)
      where
        later : (passes : Bool) → Contains (filter test ys) x
            → Contains (cond passes (y ∷ filter test ys) (filter test ys)) x
        later true h = Contains-append_right (y ∷ []) (filter test ys) x h
        later false h = h

pub worlds_more : (names : List Predefined) (reads orders : Bool) (bases more : List Known)
    (some others : List Candidate) → AreWorlds names reads orders bases some
    → AreWorlds names reads orders more others
    → AreWorlds names reads orders (bases ++ more) (some ++ others)
worlds_more names reads orders [] more [] others h k = k
worlds_more names reads orders [] more (c ∷ cs) others h k = absurd h
worlds_more names reads orders (b ∷ bs) more [] others h k = absurd h
worlds_more names reads orders (b ∷ bs) more (c ∷ cs) others h k =
    (h.0, worlds_more names reads orders bs more cs others h.1 k)

-- one item of a list further
pub map_step : {X Y : Type 0} (f : X → Y) (xs : List X) (i : ℕ) (x d : X) → i < length xs
    → x ≡ get_or xs i d → map f (take (i + 1) xs) ≡ map f (take i xs) ++ f x ∷ []
map_step f xs i x d lt is =
    let grown : take (i + 1) xs ≡ take i xs ++ x ∷ [] = rw (add-one i) (take-suc xs i d lt ∙ ap (λ y. take i xs ++ y ∷ []) (sym is)) in
    ap (map f) grown ∙ map-append f (take i xs) (x ∷ [])

pub flat_step : {X Y : Type 0} (f : X → List Y) (xs : List X) (i : ℕ) (x : X) → i < length xs
    → x ≡ get_or xs i x → flat_map f (take (i + 1) xs) ≡ flat_map f (take i xs) ++ f x
flat_step f xs i x lt is =
    let grown : take (i + 1) xs ≡ take i xs ++ x ∷ [] = rw (add-one i) (take-suc xs i x lt ∙ ap (λ y. take i xs ++ y ∷ []) (sym is)) in
    ap (flat_map f) grown ∙ flat_map-append f (take i xs) (x ∷ [])
    ∙ ap (λ ys. flat_map f (take i xs) ++ ys) (one f x)
  where
    one : {X Y : Type 0} (f : X → List Y) (x : X) → flat_map f (x ∷ []) ≡ f x
    one f x = append-nil (f x)

-- the candidates in the order of the loops are those of the space
so_listed : (c : Combination) (reads_from : List ℕ) (orders : List (List ℕ))
    → reading_so c reads_from orders ≡ map (λ t. (c, t)) (map (λ y. (reads_from, y)) orders)
so_listed c reads_from [] = refl
so_listed c reads_from (o ∷ os) =
    ap (λ (rest : List Candidate). (c, (reads_from, o)) ∷ rest) (so_listed c reads_from os)

read_choices_listed : (c : Combination) (read_choices : List (Vec ℕ Global)) (orders : List (List ℕ))
    → flat_map (λ s. reading_so c s.items orders) read_choices
    ≡ map (λ t. (c, t)) (pairs (lists_of read_choices) orders)
read_choices_listed c [] orders = refl
read_choices_listed c (w ∷ ws) orders =
    ap (λ (prefix : List Candidate). prefix ++ flat_map (λ s. reading_so c s.items orders) ws)
    (so_listed c w.items orders)
    ∙ ap (λ (back : List Candidate). map (λ t. (c, t)) (map (λ y. (w.items, y)) orders) ++ back)
    (read_choices_listed c ws orders)
    ∙ sym (map-append (λ t. (c, t)) (map (λ y. (w.items, y)) orders) (pairs (lists_of ws) orders))

in_listed : (c : Combination) → reading_in c c.reads_from.items ≡ map (λ t. (c, t)) (candidates_of c)
unfolding candidates_of
in_listed c = read_choices_listed c c.reads_from.items c.orders

pub listed : (cs : List Combination) → of_combinations cs ≡ candidates_in cs
listed [] = refl
listed (c ∷ cs) =
    ap (λ (prefix : List Candidate). prefix ++ of_combinations cs) (in_listed c)
    ∙ ap (λ (back : List Candidate). map (λ t. (c, t)) (candidates_of c) ++ back) (listed cs)
