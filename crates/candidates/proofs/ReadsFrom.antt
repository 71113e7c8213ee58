-- Reads-from of the executions of a choice of runs: the read choices that are found.
use Rattle.std.proofs.Common.{ℕ, suc, ◌≡◌, ◌+◌, ◌↔◌, ◌&&◌, Bool, true, false, cond, nat_eq, List, [], ◌∷◌, ◌++◌, map, filter, Some, slice_get, refl, ap, sym, subst, ◌∙◌, inl, inr, arith, append_assoc, append-nil, eq-eqb}
use Rattle.std.specs.List.{flat_map, AllZip}
use Rattle.std.proofs.lemmas.List.{map-append}
use Rattle.std.proofs.lemmas.Option.{same_Some}
use Rattle.bit_rows.specs.Pairs.{Union, Path, IsAcyclic}
use Rattle.thread_runs.specs.declared.value.Value.{Value}
use Rattle.thread_runs.specs.declared.value.Value.TheVariants.{Number, Address, NoValue}
use Rattle.run_combinations.proofs.Pruning.{is_store_of}
use Rattle.candidates.proofs.Products.{FilteredEach, filter_of_products, filter_twice, filter_as}
use Rattle.candidates.specs.Executions.{MayRead, product, read_choices, loads, stores}
use Rattle.store_orders.specs.Lists.{tuples, IsFiltered, none, kept, left}
use Rattle.store_orders.specs.Events.{numbers, ReadsFrom, is_load_action, is_store_action, is_load, is_store}
use Rattle.run_combinations.specs.ReadChoices.{AreReadChoices, IsReadChoice, accesses_in, stores_for, may_read, same_value}
use Rattle.store_orders.specs.declared.combination.Action.{Action}
use Rattle.store_orders.specs.declared.combination.Action.TheVariants.{Load, Store, Fence}
use Rattle.store_orders.specs.declared.combination.Event.{Event}

true_false : true ≡ false → ⊥
true_false h = cc

-- the numbers of the events that pass the second test are those of the first for which a fact holds
numbers_filtered : (p q : Event → Bool) (P : ℕ → Type 0) → ((e : Event) → q e ≡ true → p e ≡ true)
    → (at : ℕ) (es : List Event)
    → ((j : ℕ) (e : Event) → slice_get es j ≡ Some e → P (at + j) ↔ (q e ≡ true))
    → IsFiltered P (numbers p at es) (numbers q at es)
numbers_filtered p q P more at [] same = none
numbers_filtered p q P more at (e ∷ es) same =
    go (p e) (q e) refl refl (numbers p (at + 1) es) (numbers q (at + 1) es) (numbers_filtered p q P
    more (at + 1) es (λ j x g.
    let s : P (at + suc j) ↔ (q x ≡ true) = same (suc j) x g in
    let n : at + suc j ≡ at + 1 + j = omega arith in
    subst (λ (k : ℕ). P k ↔ (q x ≡ true)) n s))
  where
    here : P at ↔ (q e ≡ true)
    here =
        let n : at + 0 ≡ at = omega arith in subst (λ (k : ℕ). P k ↔ (q e ≡ true)) n (same 0 e refl)

    go : (b c : Bool) → p e ≡ b → q e ≡ c → (ns ms : List ℕ) → IsFiltered P ns ms
        → IsFiltered P (cond b (at ∷ ns) ns) (cond c (at ∷ ms) ms)
    go true true f g ns ms rest = kept (here.1 g) rest
    go true false f g ns ms rest = left (λ x. true_false (sym (here.0 x) ∙ g)) rest
    go false true f g ns ms rest = absurd (true_false (sym (more e g) ∙ f))
    go false false f g ns ms rest = rest

same_number : (n : ℕ) → nat_eq n n ≡ true
same_number n = eq-eqb n n refl

same_itself : (v : Value) → same_value v v ≡ true
same_itself (Number n) = same_number n
same_itself (Address n) = same_number n
same_itself NoValue = refl

reads_itself : (l : ℕ) (v : Value) → may_read (Load l v) (Store l v) ≡ true
reads_itself l v = ap (λ (b : Bool). b && same_value v v) (same_number l) ∙ same_itself v

read_is : (a : Action) → is_load_action a ≡ true → (l : ℕ) × (v : Value) × (a ≡ Load l v)
read_is (Load l v) e = (l, v, refl)
read_is (Store l v) e = absurd cc
read_is (Fence f) e = absurd cc

store_is : (a b : Action) → may_read a b ≡ true → is_store_action b ≡ true
store_is (Load l v) (Store k w) e = refl
store_is (Load l v) (Load k w) e = absurd cc
store_is (Load l v) (Fence f) e = absurd cc
store_is (Store l v) b e = absurd cc
store_is (Fence f) b e = absurd cc

-- the stores that one load may read
one_load : (es : List Event) (n : ℕ) (e : Event) → slice_get es n ≡ Some e → is_load e ≡ true
    → IsFiltered (MayRead es n) (stores es) (stores_for es e)
one_load es n e there load =
    numbers_filtered is_store (λ s. may_read e.action s.action) (MayRead es n)
    (λ s h. store_is e.action s.action h) 0 es (λ j s g. (to j s g, back j s g))
  where
    to : (j : ℕ) (s : Event) → slice_get es j ≡ Some s → MayRead es n (0 + j)
        → may_read e.action s.action ≡ true
    to j s g m =
        let a : e.action ≡ Load m.0 m.1 = ap (λ (x : Event). x.action) (same_Some _ _ (sym there ∙ m.2.1)) ∙ m.2.2 in
        let z : 0 + j ≡ j = omega arith in
        let b : s.action ≡ Store m.0 m.1 = ap (λ (x : Event). x.action) (same_Some _ _ (sym g ∙ sym (ap (λ (k : ℕ). slice_get es k) z) ∙ m.3.1)) ∙ m.3.2 in
        ap (λ (x : Action). may_read x s.action) a
        ∙ ap (λ (x : Action). may_read (Load m.0 m.1) x) b ∙ reads_itself m.0 m.1

    back : (j : ℕ) (s : Event) → slice_get es j ≡ Some s → may_read e.action s.action ≡ true
        → MayRead es n (0 + j)
    back j s g h =
        let r : (l : ℕ) × (v : Value) × (e.action ≡ Load l v) = read_is e.action load in
        let z : 0 + j ≡ j = omega arith in
        let w : s.action ≡ Store r.0 r.1 = is_store_of r.0 r.1 s.action (sym (ap (λ (x : Action). may_read x s.action) r.2) ∙ h) in
        (r.0, r.1, (e, there, r.2), (s, ap (λ (k : ℕ). slice_get es k) z ∙ g, w))

-- and those of each load
each_load : (es : List Event) (at : ℕ) (fs : List Event)
    → ((j : ℕ) → slice_get es (at + j) ≡ slice_get fs j)
    → FilteredEach (MayRead es) (numbers is_load at fs)
    (map (λ load. stores es) (numbers is_load at fs)) (map (stores_for es) (filter is_load fs))
each_load es at [] from = tt
each_load es at (e ∷ fs) from =
    go (is_load e) refl (numbers is_load (at + 1) fs) (filter is_load fs) (each_load es (at + 1) fs
    (λ j.
    let n : at + 1 + j ≡ at + suc j = omega arith in
    ap (λ (k : ℕ). slice_get es k) n ∙ from (suc j)))
  where
    here : slice_get es at ≡ Some e
    here = let n : at ≡ at + 0 = omega arith in ap (λ (k : ℕ). slice_get es k) n ∙ from 0

    go : (b : Bool) → is_load e ≡ b → (ns : List ℕ) (rest : List Event)
        → FilteredEach (MayRead es) ns (map (λ load. stores es) ns) (map (stores_for es) rest)
        → FilteredEach (MayRead es) (cond b (at ∷ ns) ns)
        (map (λ load. stores es) (cond b (at ∷ ns) ns))
        (map (stores_for es) (cond b (e ∷ rest) rest))
    go true load ns rest h = (one_load es at e here load, h)
    go false load ns rest h = h

-- tuples of choices are their product
joined : (f : List ℕ → List ℕ) (c : List ℕ) (rs : List (List ℕ))
    → map f (flat_map (λ (x : ℕ). map (λ (rest : List ℕ). x ∷ rest) rs) c)
    ≡ flat_map (λ (x : ℕ). map f (map (λ (rest : List ℕ). x ∷ rest) rs)) c
joined f [] rs = refl
joined f (x ∷ c) rs =
    map-append f (map (λ (rest : List ℕ). x ∷ rest) rs) (flat_map
    (λ (x : ℕ). map (λ (rest : List ℕ). x ∷ rest) rs) c)
    ∙ ap (λ (l : List (List ℕ)). map f (map (λ (rest : List ℕ). x ∷ rest) rs) ++ l) (joined f c rs)

behind : (prefix : List ℕ) (x : ℕ) (rs : List (List ℕ))
    → map (λ (rest : List ℕ). (prefix ++ x ∷ []) ++ rest) rs
    ≡ map (λ (rest : List ℕ). prefix ++ rest) (map (λ (rest : List ℕ). x ∷ rest) rs)
behind prefix x [] = refl
behind prefix x (r ∷ rs) =
    ap (λ (l : List ℕ). l ∷ map (λ (rest : List ℕ). (prefix ++ x ∷ []) ++ rest) rs)
    (append_assoc prefix (x ∷ []) r)
    ∙ ap (λ (l : List (List ℕ)). (prefix ++ x ∷ r) ∷ l) (behind prefix x rs)

flat_same : (f g : ℕ → List (List ℕ)) → ((x : ℕ) → f x ≡ g x) → (c : List ℕ)
    → flat_map f c ≡ flat_map g c
flat_same f g same [] = refl
flat_same f g same (x ∷ c) =
    ap (λ (l : List (List ℕ)). l ++ flat_map f c) (same x)
    ∙ ap (λ (l : List (List ℕ)). g x ++ l) (flat_same f g same c)

prefixed : (cs : List (List ℕ)) (prefix : List ℕ)
    → tuples prefix cs ≡ map (λ (rest : List ℕ). prefix ++ rest) (product cs)
prefixed [] prefix = ap (λ (l : List ℕ). l ∷ []) (sym (append-nil prefix))
prefixed (c ∷ cs) prefix =
    flat_same (λ (x : ℕ). tuples (prefix ++ x ∷ []) cs)
    (λ (x : ℕ).
    map (λ (rest : List ℕ). prefix ++ rest) (map (λ (rest : List ℕ). x ∷ rest) (product cs)))
    (λ x. prefixed cs (prefix ++ x ∷ []) ∙ behind prefix x (product cs)) c
    ∙ sym (joined (λ (rest : List ℕ). prefix ++ rest) c (product cs))

map_itself : (xs : List (List ℕ)) → map (λ (rest : List ℕ). [] ++ rest) xs ≡ xs
map_itself [] = refl
map_itself (x ∷ xs) = ap (λ (l : List (List ℕ)). x ∷ l) (map_itself xs)

pub tuples_are : (cs : List (List ℕ)) → tuples [] cs ≡ product cs
tuples_are cs = prefixed cs [] ∙ map_itself (product cs)

-- cycles of equal relations
path_as : (R S : ℕ → ℕ → Type 0) → ((a b : ℕ) → R a b → S a b) → (through : List ℕ) (a b : ℕ)
    → Path R a through b → Path S a through b
path_as R S same [] a b h = same a b h
path_as R S same (c ∷ cs) a b h = (same a c h.0, path_as R S same cs c b h.1)

pub acyclic_as : (R S : ℕ → ℕ → Type 0) → ((a b : ℕ) → R a b → S a b) → IsAcyclic S → IsAcyclic R
acyclic_as R S same never a p = never a (p.0, path_as R S same p.0 a a p.1)

-- the read choices are just the choices of a store for each load, of its location and value,
-- without a cycle of reads-from and these needs
pub reads_found : (es : List Event) (pairs : List (ℕ × ℕ)) (Need : ℕ → ℕ → Type 0)
    → ((a b : ℕ) → Need a b → (accesses_in es pairs).Need a b)
    → ((a b : ℕ) → (accesses_in es pairs).Need a b → Need a b) → (choices : List (List ℕ))
    → AreReadChoices es pairs choices
    → IsFiltered
    (λ reads_from. AllZip (MayRead es) (loads es) reads_from
    × IsAcyclic (Union Need (ReadsFrom (loads es) reads_from)))
    (read_choices es) choices
reads_found es pairs Need there back choices are =
    filter_twice (AllZip (MayRead es) (loads es))
    (λ reads_from. IsAcyclic (Union Need (ReadsFrom (loads es) reads_from))) (read_choices es)
    (product (map (stores_for es) (filter is_load es))) choices
    (filter_of_products (MayRead es) (loads es) (map (λ load. stores es) (loads es))
    (map (stores_for es) (filter is_load es)) (each_load es 0 es
    (λ j. let z : 0 + j ≡ j = omega arith in ap (λ (k : ℕ). slice_get es k) z)))
    (filter_as (IsReadChoice (accesses_in es pairs))
    (λ reads_from. IsAcyclic (Union Need (ReadsFrom (loads es) reads_from))) (λ reads_from. (to reads_from, from reads_from))
    (product (map (stores_for es) (filter is_load es))) choices
    (subst (λ (l : List (List ℕ)). IsFiltered (IsReadChoice (accesses_in es pairs)) l choices)
    (tuples_are (map (stores_for es) (filter is_load es))) are))
  where
    to : (reads_from : List ℕ) → IsReadChoice (accesses_in es pairs) reads_from
        → IsAcyclic (Union Need (ReadsFrom (loads es) reads_from))
    to reads_from h =
        acyclic_as (Union Need (ReadsFrom (loads es) reads_from))
        (Union (accesses_in es pairs).Need (ReadsFrom (loads es) reads_from))
        (λ a b u. elim u [ inl x ↦ inl (there a b x) | inr y ↦ inr y ]) h

    from : (reads_from : List ℕ) → IsAcyclic (Union Need (ReadsFrom (loads es) reads_from))
        → IsReadChoice (accesses_in es pairs) reads_from
    from reads_from h =
        acyclic_as (Union (accesses_in es pairs).Need (ReadsFrom (loads es) reads_from))
        (Union Need (ReadsFrom (loads es) reads_from))
        (λ a b u. elim u [ inl x ↦ inl (back a b x) | inr y ↦ inr y ]) h
