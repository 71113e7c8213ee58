-- The items of a resolved model use names of earlier items alone.
use Rattle.std.proofs.Common.{ℕ, ◌≡◌, ◌+◌, ◌<◌, ◌≤◌, inl, inr, zero, suc, List, [], ◌∷◌, ◌++◌, length, map, reverse, Bool, true, false, Option, Some, None, refl, sym, ap, ◌∙◌, subst, append_assoc, leb-false, arith}
use Rattle.std.specs.Prelude.{if◌then◌else◌, bytes_eq, nat_le, is_some, slice_get, Result, Ok, Err}
use Rattle.std.specs.List.{AllByRecursion}
use Rattle.std.proofs.lemmas.List.{reverse-append, append-nil}
use Rattle.std.proofs.lemmas.Option.{none-some}
use Rattle.predefined_names.specs.declared.predefined.Predefined.{Predefined}
use Rattle.binding_kinds.specs.declared.scope.Binder.{Binder}
use Rattle.binding_kinds.specs.declared.scope.Binder.TheVariants as binders
use Rattle.binding_kinds.specs.declared.scope.Found.{Found}
use Rattle.binding_kinds.specs.declared.scope.Input.{Input}
use Rattle.binding_kinds.specs.declared.scope.Used.{Used}
use Rattle.text_values.specs.ModelValue.{Term, Terms, Atom, AllEvents, EmptyRelation, EmptySet, Join, Mark, Not, On, Apply, NoTerm, OneMore}
use Rattle.binding_kinds.specs.Value.{Naming, Bound, BareItem, Group, Check, Mute, Defined}
use Rattle.binding_kinds.specs.Kinds.{found}
use Rattle.binding_kinds.specs.declared.fault.ModelFault.{ModelFault}
use Rattle.binding_kinds.specs.Meanings.{parameter_of}
use Rattle.binding_kinds.specs.Applicable.{applied_of}
use Rattle.binding_kinds.specs.Senses.{Sense, kind_in, count_of}
use Rattle.binding_kinds.specs.Faults.{with_own, with_all, names_after, senses_after}
use Rattle.binding_kinds.specs.Outermost.{naming_of}
use Rattle.binding_graph.specs.declared.resolved.Body.{Body}
use Rattle.binding_graph.specs.declared.resolved.Role.{Role}
use Rattle.binding_graph.specs.declared.resolved.Role.TheVariants as roles
use Rattle.binding_graph.specs.declared.resolved.ResolvedItem.{ResolvedItem}
use Rattle.binding_graph.specs.Inputs.{index_of, with_used, with_binder, with_name, inputs_of}
use Rattle.binding_graph.specs.Usages.{Usage, with_all_used, values_of, usage_at, usage_seen, with_meaning, with_values, with_values_among, with_all_values, usage_of_function, usages_after}
use Rattle.binding_graph.specs.Resolved.{AreBodies, IsGroupRole, IsResolvedIn, AreResolved}
use Rattle.cat_eval.specs.Candidates.{name_count}
use Rattle.from_scratch.specs.Answers.{IsBound, AreOrdered}

-- ---- names that these items bind

OfBinder : List ResolvedItem → Binder → Type 0
OfBinder rs (binders.Predefined p) = Unit {0}
OfBinder rs (binders.Bound i) = IsBound rs i
OfBinder rs (binders.Applicable f) = Unit {0}

abbrev AreAllBound : List ResolvedItem → List Naming → Type 0
AreAllBound rs names = AllByRecursion (λ n. OfBinder rs n.binder) names

-- those with a slot below `from`
abbrev AreBound : List ResolvedItem → ℕ → List Naming → Type 0
AreBound rs from [] = Unit {0}
AreBound rs from (n ∷ ns) = (length ns < from → OfBinder rs n.binder) × AreBound rs from ns

below_all : (rs : List ResolvedItem) (from : ℕ) (names : List Naming) → AreAllBound rs names
    → AreBound rs from names
below_all rs from [] h = tt
below_all rs from (n ∷ ns) h = (λ lt. h.0, below_all rs from ns h.1)

found_bound : (rs : List ResolvedItem) (from : ℕ) (names : List Naming) (x : List ℕ) (f : Found)
    → AreBound rs from names → found names x ≡ Some f → f.slot < from → OfBinder rs f.binder
found_bound rs from [] x f h e lt = absurd (none-some f e)
found_bound rs from (n ∷ ns) x f h e lt =
    at_test (bytes_eq n.name x) (λ g. found_bound rs from ns x f h.1 g lt) e
  where
    at_test : (b : Bool) → (found ns x ≡ Some f → OfBinder rs f.binder)
        → (if b then Some (record { slot = length ns; kind = n.kind; binder = n.binder })
        else found ns x) ≡ Some f → OfBinder rs f.binder
    at_test true rest e =
        let g : Found = record { slot = length ns; kind = n.kind; binder = n.binder } in
        let s : g ≡ f = let same : Some g ≡ Some f = e in cc in
        subst (λ (k : Found). OfBinder rs k.binder) s
        (h.0 (subst (λ (k : Found). k.slot < from) (sym s) lt))
    at_test false rest e = rest e

-- ---- names that are used

abbrev AllBound : List ResolvedItem → List Used → Type 0
AllBound rs us = AllByRecursion (λ u. IsBound rs u.input) us

noted_by : (rs : List ResolvedItem) (us : List Used) (u : Used) (t : Bool) → AllBound rs us
    → IsBound rs u.input → AllBound rs (if t then us else u ∷ us)
noted_by rs us u true h b = h
noted_by rs us u false h b = (b, h)

with_binder_bound : (rs : List ResolvedItem) (us : List Used) (slot : ℕ) (b : Binder)
    → OfBinder rs b → AllBound rs us → AllBound rs (with_binder us slot b)
unfolding OfBinder
with_binder_bound rs us slot (binders.Predefined p) o h = h
with_binder_bound rs us slot (binders.Bound i) o h =
    noted_by rs us (record { slot = slot; input = i }) (is_some (index_of us slot)) h o
with_binder_bound rs us slot (binders.Applicable f) o h = h

with_found_by : (rs : List ResolvedItem) (us : List Used) (from : ℕ) (f : Found) (t : Bool)
    → (t ≡ false → OfBinder rs f.binder) → AllBound rs us
    → AllBound rs (if t then us else with_binder us f.slot f.binder)
with_found_by rs us from f true b h = h
with_found_by rs us from f false b h = with_binder_bound rs us f.slot f.binder (b refl) h

with_name_bound : (rs : List ResolvedItem) (names : List Naming) (from : ℕ) (x : List ℕ)
    (us : List Used) (o : Option Found) → AreBound rs from names → AllBound rs us
    → found names x ≡ o → AllBound rs (with_name us from o)
with_name_bound rs names from x us None b h e = h
with_name_bound rs names from x us (Some f) b h e =
    with_found_by rs us from f (nat_le from f.slot)
    (λ off. found_bound rs from names x f b e (leb-false from f.slot off)) h

with_meaning_bound : (rs : List ResolvedItem) (names : List Naming) (from : ℕ) (x : List ℕ)
    (vs : List Used) (o : Option ℕ) → AreBound rs from names → AllBound rs vs
    → AllBound rs (with_meaning vs from o (found names x))
with_meaning_bound rs names from x vs (Some p) b h = h
with_meaning_bound rs names from x vs None b h =
    with_name_bound rs names from x vs (found names x) b h refl

all_noted_bound : (rs : List ResolvedItem) (vs us : List Used) → AllBound rs vs → AllBound rs us
    → AllBound rs (with_all_used vs us)
all_noted_bound rs vs [] h all = h
all_noted_bound rs vs (u ∷ us) h all =
    all_noted_bound rs (with_used vs u) us (noted_by rs vs u (is_some (index_of vs u.slot)) h all.0)
    all.1

-- what functions use
abbrev AreClosed : List ResolvedItem → List Usage → Type 0
AreClosed rs us = AllByRecursion (λ u. AllBound rs u.values) us

index_bound : (rs : List ResolvedItem) (us : List Usage) (i : ℕ) → AreClosed rs us
    → AllBound rs (values_of (slice_get us i))
index_bound rs [] i h = tt
index_bound rs (u ∷ us) zero h = h.0
index_bound rs (u ∷ us) (suc i) h = index_bound rs us i h.1

usage_bound : (rs : List ResolvedItem) (us : List Usage) (r : Result ℕ ModelFault) → AreClosed rs us
    → AllBound rs (values_of (usage_at us r))
usage_bound rs us (Ok i) h = index_bound rs us i h
usage_bound rs us (Err k) h = tt

module _ (rs : List ResolvedItem) (us : List Usage) (names : List Naming) (ps : List (List ℕ))
    (from : ℕ) (closed : AreClosed rs us) (b : AreBound rs from names) where
  seen_bound : (n : ℕ) (x : List ℕ) → AllBound rs (values_of (usage_seen us names ps n x))
  seen_bound n x =
      usage_bound rs us
      (applied_of (λ f. slice_get (map (λ (u : Usage). u.arity) us) f) n
      (parameter_of (reverse ps) x) (found names x)) closed

  mutual
    uses_bound : (t : Term) (vs : List Used) → AllBound rs vs
        → AllBound rs (with_values us names ps from t vs)
    uses_bound (Atom x) vs h =
        with_meaning_bound rs names from x vs (parameter_of (reverse ps) x) b h
    uses_bound AllEvents vs h = h
    uses_bound EmptyRelation vs h = h
    uses_bound EmptySet vs h = h
    uses_bound (Join op s t) vs h =
        uses_bound t (with_values us names ps from s vs) (uses_bound s vs h)
    uses_bound (Mark op a) vs h = uses_bound a vs h
    uses_bound (Not a) vs h = uses_bound a vs h
    uses_bound (On a) vs h = uses_bound a vs h
    uses_bound (Apply x ts) vs h =
        uses_among ts (with_all_used vs (values_of (usage_seen us names ps (count_of ts) x)))
        (all_noted_bound rs vs (values_of (usage_seen us names ps (count_of ts) x)) h
        (seen_bound (count_of ts) x))

    uses_among : (ts : Terms) (vs : List Used) → AllBound rs vs
        → AllBound rs (with_values_among us names ps from ts vs)
    uses_among NoTerm vs h = h
    uses_among (OneMore a others) vs h =
        uses_among others (with_values us names ps from a vs) (uses_bound a vs h)

all_uses_bound : (rs : List ResolvedItem) (us : List Usage) (names : List Naming) (from : ℕ)
    (bs : List Bound) (vs : List Used) → AreClosed rs us → AreBound rs from names
    → AllBound rs vs → AllBound rs (with_all_values us names from bs vs)
all_uses_bound rs us names from [] vs closed b h = h
all_uses_bound rs us names from (x ∷ xs) vs closed b h =
    all_uses_bound rs us names from xs (with_values us names [] from x.body vs) closed b
    (uses_bound rs us names [] from closed b x.body vs h)

all_push : {X : Type 0} (P : X → Type 0) (xs : List X) (x : X) → AllByRecursion P xs → P x
    → AllByRecursion P (xs ++ x ∷ [])
all_push P [] x h p = (p, tt)
all_push P (y ∷ ys) x h p = (h.0, all_push P ys x h.1 p)

pub all_reverse : {X : Type 0} (P : X → Type 0) (xs : List X) → AllByRecursion P xs
    → AllByRecursion P (reverse xs)
all_reverse P [] h = tt
all_reverse {X} P (x ∷ xs) h =
    subst (λ (ys : List X). AllByRecursion P ys) (sym (reverse-append (x ∷ []) xs))
    (all_push P (reverse xs) x (all_reverse P xs h.1) h.0)

all_inputs : (rs : List ResolvedItem) (us : List Used) → AllBound rs us
    → AllByRecursion (IsBound rs) (map (λ u. u.input) us)
all_inputs rs [] h = tt
all_inputs rs (u ∷ us) h = (h.0, all_inputs rs us h.1)

inputs_bound : (rs : List ResolvedItem) (us : List Used) (inputs : List Input)
    → inputs ≡ inputs_of us → AllBound rs us → AllByRecursion (IsBound rs) inputs
inputs_bound rs us inputs e h =
    subst (λ (is : List Input). AllByRecursion (IsBound rs) is) (sym e)
    (all_inputs rs (reverse us) (all_reverse (λ u. IsBound rs u.input) us h))

-- ---- names that an item adds

own_bound : (rs : List ResolvedItem) (from : ℕ) (names : List Naming) (item at : ℕ)
    (bs : List Bound) → from ≤ length names → AreBound rs from names
    → AreBound rs from (with_own names item at bs)
own_bound rs from names item at [] le h = h
own_bound rs from names item at (b ∷ bs) le h =
    own_bound rs from _ item (suc at) bs (omega arith) (λ lt. absurd (omega arith), h)

own_all : (rs : List ResolvedItem) (names : List Naming) (item at : ℕ) (bs : List Bound)
    → ((p : ℕ) → at ≤ p → p < at + length bs → IsBound rs (record { item = item; position = p }))
    → AreAllBound rs names → AreAllBound rs (with_own names item at bs)
unfolding OfBinder
own_all rs names item at [] new h = h
own_all rs names item at (b ∷ bs) new h =
    own_all rs _ item (suc at) bs (λ p from to. new p (omega arith) (omega arith))
    (new at (omega arith) (omega arith), h)

outer_all : (ss : List Sense) (rs : List ResolvedItem) (outer names : List Naming) (item at : ℕ)
    (bs : List Bound)
    → ((p : ℕ) → at ≤ p → p < at + length bs → IsBound rs (record { item = item; position = p }))
    → AreAllBound rs names → AreAllBound rs (with_all ss outer names item at bs)
unfolding OfBinder
outer_all ss rs outer names item at [] new h = h
outer_all ss rs outer names item at (b ∷ bs) new h =
    outer_all ss rs outer
    (record {
      name = b.name;
      kind = kind_in ss outer b.body;
      binder = binders.Bound (record { item = item; position = at });
    } ∷ names) item
    (suc at) bs
    (λ p from to. new p (omega arith) (omega arith))
    (new at (omega arith) (omega arith), h)

binder_later : (rs : List ResolvedItem) (r : ResolvedItem) (b : Binder) → OfBinder rs b
    → OfBinder (r ∷ rs) b
unfolding OfBinder
binder_later rs r (binders.Predefined p) h = tt
binder_later rs r (binders.Bound i) h = inr h
binder_later rs r (binders.Applicable f) h = tt

all_later : (rs : List ResolvedItem) (r : ResolvedItem) (names : List Naming) → AreAllBound rs names
    → AreAllBound (r ∷ rs) names
all_later rs r [] h = tt
all_later rs r (n ∷ ns) h = (binder_later rs r n.binder h.0, all_later rs r ns h.1)

bodies_count : (ss : List Sense) (us : List Usage) (names : List Naming) (from : ℕ) (vs : List Used)
    (bs : List Bound) (rs : List Body) → AreBodies ss us names from vs bs rs
    → length rs ≡ length bs
bodies_count ss us names from vs [] [] h = refl
bodies_count ss us names from vs [] (r ∷ rs) h = absurd h
bodies_count ss us names from vs (b ∷ bs) [] h = absurd h
bodies_count ss us names from vs (b ∷ bs) (r ∷ rs) h =
    omega (arith, bodies_count ss us names from (with_values us names [] from b.body vs) bs rs h.2)

role_count : (ss : List Sense) (us : List Usage) (names : List Naming) (from : ℕ) (recursive : Bool)
    (bs : List Bound) (role : Role) → IsGroupRole ss us names from recursive bs role
    → name_count role ≡ length bs
role_count ss us names from recursive bs (roles.Group r bodies) h =
    bodies_count ss us names from [] bs bodies.items h.1
role_count ss us names from recursive bs (roles.Check c) h = absurd h
role_count ss us names from recursive bs roles.Silent h = absurd h

used_later : (rs : List ResolvedItem) (r : ResolvedItem) (vs : List Used) → AllBound rs vs
    → AllBound (r ∷ rs) vs
used_later rs r [] h = tt
used_later rs r (v ∷ vs) h = (inr h.0, used_later rs r vs h.1)

closed_later : (rs : List ResolvedItem) (r : ResolvedItem) (us : List Usage) → AreClosed rs us
    → AreClosed (r ∷ rs) us
closed_later rs r [] h = tt
closed_later rs r (u ∷ us) h = (used_later rs r u.values h.0, closed_later rs r us h.1)

-- ---- item by item

none_used : (rs : List ResolvedItem) (inputs : List Input) → inputs ≡ []
    → AllByRecursion (IsBound rs) inputs
none_used rs inputs e = subst (λ (is : List Input). AllByRecursion (IsBound rs) is) (sym e) tt

item_inputs : (ss : List Sense) (us : List Usage) (rs : List ResolvedItem) (names : List Naming)
    (at : ℕ) (c : BareItem) (r : ResolvedItem) → AreClosed rs us → AreAllBound rs names
    → IsResolvedIn ss us names (names_after ss names at c) (length names) c r
    → AllByRecursion (IsBound rs) r.inputs.items
item_inputs ss us rs names at (Group true bs) r closed all h =
    let own = with_own names at 0 bs in
    inputs_bound rs (with_all_values us own (length names) bs []) r.inputs.items h.1.inputs
    (all_uses_bound rs us own (length names) bs [] closed
    (own_bound rs (length names) names at 0 bs (omega arith)
    (below_all rs (length names) names all)) tt)
item_inputs ss us rs names at (Group false bs) r closed all h =
    inputs_bound rs (with_all_values us names (length names) bs []) r.inputs.items h.1.inputs
    (all_uses_bound rs us names (length names) bs [] closed
    (below_all rs (length names) names all) tt)
item_inputs ss us rs names at (Check w e) r closed all h =
    inputs_bound rs (with_values us names [] (length names) e []) r.inputs.items h.1.inputs
    (uses_bound rs us names [] (length names) closed (below_all rs (length names) names all) e
    [] tt)
item_inputs ss us rs names at Mute r closed all h = none_used rs r.inputs.items h.1.inputs
item_inputs ss us rs names at (Defined n ps b) r closed all h =
    inputs_bound rs (with_values us names ps (length names) b []) r.inputs.items h.1.inputs
    (uses_bound rs us names ps (length names) closed (below_all rs (length names) names all) b
    [] tt)

item_names : (ss : List Sense) (us : List Usage) (rs : List ResolvedItem) (names : List Naming)
    (at : ℕ) (c : BareItem) (r : ResolvedItem) → length rs ≡ at → AreAllBound rs names
    → IsResolvedIn ss us names (names_after ss names at c) (length names) c r
    → AreAllBound (r ∷ rs) (names_after ss names at c)
unfolding OfBinder
item_names ss us rs names at (Group true bs) r long all h =
    let many = role_count ss us (with_own names at 0 bs) (length names) true bs r.role h.0 in
    own_all (r ∷ rs) names at 0 bs (λ p from to. inl (sym long, omega (arith, many)))
    (all_later rs r names all)
item_names ss us rs names at (Group false bs) r long all h =
    let many = role_count ss us names (length names) false bs r.role h.0 in
    outer_all ss (r ∷ rs) names names at 0 bs (λ p from to. inl (sym long, omega (arith, many)))
    (all_later rs r names all)
item_names ss us rs names at (Check w e) r long all h = all_later rs r names all
item_names ss us rs names at Mute r long all h = all_later rs r names all
item_names ss us rs names at (Defined n ps b) r long all h = (tt, all_later rs r names all)

-- what the functions use after the item
item_functions : (rs : List ResolvedItem) (us : List Usage) (names : List Naming) (at : ℕ)
    (c : BareItem) (r : ResolvedItem) → AreClosed rs us → AreAllBound rs names
    → AreClosed (r ∷ rs) (usages_after us names at c)
item_functions rs us names at (Group recursive bs) r closed all = closed_later rs r us closed
item_functions rs us names at (Check w e) r closed all = closed_later rs r us closed
item_functions rs us names at Mute r closed all = closed_later rs r us closed
item_functions rs us names at (Defined n ps b) r closed all =
    let vs = with_values us names ps (length names) b [] in
    let used : AllBound rs vs = uses_bound rs us names ps (length names) closed (below_all rs (length names) names all) b [] tt in
    all_push (λ (u : Usage). AllBound (r ∷ rs) u.values) us (usage_of_function us names at ps b)
    (closed_later rs r us closed) (used_later rs r (reverse vs)
    (all_reverse (λ u. IsBound rs u.input) vs used))

ordered : (ss : List Sense) (us : List Usage) (names : List Naming) (at : ℕ) (clauses : List BareItem)
    (items rs : List ResolvedItem) → length rs ≡ at → AreClosed rs us → AreAllBound rs names
    → AreOrdered rs → AreResolved ss us names at clauses items → AreOrdered (reverse items ++ rs)
ordered ss us names at [] [] rs long closed all before h = before
ordered ss us names at [] (r ∷ items) rs long closed all before h = absurd h
ordered ss us names at (c ∷ cs) [] rs long closed all before h = absurd h
ordered ss us names at (c ∷ cs) (r ∷ items) rs long closed all before h =
    let rest : AreOrdered (reverse items ++ r ∷ rs) = ordered (senses_after ss names c) (usages_after us names at c) (names_after ss names at c) (at + 1) cs items (r ∷ rs) (omega (arith, long)) (item_functions rs us names at c r closed all) (item_names ss us rs names at c r long all h.0) (item_inputs ss us rs names at c r closed all h.0, before) h.1 in
    subst (λ (xs : List ResolvedItem). AreOrdered xs)
    (sym (ap (λ (ys : List ResolvedItem). ys ++ rs) (reverse-append (r ∷ []) items)
    ∙ append_assoc (reverse items) (r ∷ []) rs)) rest

predefined_bound : (ps : List Predefined) → AreAllBound [] (map naming_of ps)
unfolding OfBinder
predefined_bound [] = tt
predefined_bound (p ∷ ps) = (tt, predefined_bound ps)

pub resolved_ordered : (ps : List Predefined) (clauses : List BareItem) (items : List ResolvedItem)
    → AreResolved [] [] (reverse (map naming_of ps)) 0 clauses items → AreOrdered (reverse items)
resolved_ordered ps clauses items h =
    rw append-nil at (ordered [] [] (reverse (map naming_of ps)) 0 clauses items [] refl tt
    (all_reverse (λ (n : Naming). OfBinder [] n.binder) (map naming_of ps)
    (predefined_bound ps)) tt h)
