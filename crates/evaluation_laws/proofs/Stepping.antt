-- One item that both models have: it does the same in both, and what is seen after it stands for
-- the same.
use Rattle.std.proofs.Common.{ℕ, ◌≡◌, ◌+◌, ◌⊎◌, suc, List, [], ◌∷◌, length, true, false, Some, Contains, refl, sym, ap, ◌∙◌, subst, inl, inr, arith}
use Rattle.std.specs.Prelude.{slice_get}
use Rattle.std.specs.List.{AllByRecursion as Each}
use Rattle.text_values.specs.ModelValue.{Term}
use Rattle.memo_core.specs.Step.{Has}
use Rattle.binding_kinds.specs.declared.kinds.Kind.{Kind}
use Rattle.binding_kinds.specs.declared.kinds.Kind.TheVariants.{OfRelation, OfAny}
use Rattle.binding_kinds.specs.declared.scope.Binder.TheVariants as binders
use Rattle.binding_kinds.specs.declared.scope.Found.{Found}
use Rattle.binding_kinds.specs.declared.scope.Input.{Input}
use Rattle.binding_kinds.specs.Value.{Naming, Bound, BareItem, Group, Check, Mute, Defined}
use Rattle.binding_kinds.specs.Senses.{Sense, kind_in}
use Rattle.binding_kinds.specs.Functions.{sense_of_function}
use Rattle.binding_kinds.specs.Faults.{naming_at, with_own, with_all, names_after, senses_after}
use Rattle.binding_graph.specs.Usages.{usage_of_function, usages_after}
use Rattle.binding_laws.specs.ItemLaws.{Scope, IsPairing, HasSameNames, HasSameNamesIn, scope_with_names}
use Rattle.binding_laws.proofs.Alike.{kind_same}
use Rattle.binding_laws.proofs.Applied.{alike_sense, alike_usage}
use Rattle.binding_laws.proofs.Before.{get_last}
use Rattle.evaluation_laws.proofs.Kept.{Reach, HasKeptNames}
use Rattle.binding_laws.proofs.Added.{with_kinds, own_kinds, all_kinds}
use Rattle.binding_laws.proofs.Told.{found_here}
use Rattle.binding_laws.proofs.Lists.{contains_here, contains_one_of, IsSamePair}
use Rattle.evaluation_laws.proofs.Common.{Shared, Looks, look_past, look_one, slots_of, inputs_of, pairing_of, AreShared, front_append, sense_within, used_within, all_within, within_one, falling_below, IsPlaced, placed_pairing, term_same}
use Rattle.evaluation_laws.proofs.ReadItems.{HasKeptNamesIn}

-- ---- names that are not used

module _ (u : Reach) (side : Shared → Found) (cs : List Shared) (item : ℕ)
    (unused : Has u.items item → ⊥) where
  kinds_past : (K : Bound → Kind) (bs : List Bound) (names : List Naming) (at : ℕ)
      → Looks u names side cs → Looks u (with_kinds K names item at bs) side cs
  kinds_past K [] names at h = h
  kinds_past K (b ∷ bs) names at h =
      kinds_past K bs (naming_at item at b (K b) ∷ names) (suc at) (look_past u side names cs
      (naming_at item at b (K b)) unused h)

  -- what a function's name stands for
  abbrev pub HasFunction : ℕ → BareItem → Type 0
  HasFunction n (Group r bs) = Unit {0}
  HasFunction n (Check w e) = Unit {0}
  HasFunction n Mute = Unit {0}
  HasFunction n (Defined x ps b) = slice_get u.functions n ≡ Some item

  number : {a b : ℕ} → Some a ≡ Some b → a ≡ b
  number e = cc

  pub item_past : (ss : List Sense) (names : List Naming) (c : BareItem) → HasFunction (length ss) c
      → Looks u names side cs → Looks u (names_after ss names item c) side cs
  item_past ss names (Group true bs) f h =
      subst (λ (ns : List Naming). Looks u ns side cs) (own_kinds names item 0 bs)
      (kinds_past (λ b. OfRelation) bs names 0 h)
  item_past ss names (Group false bs) f h =
      subst (λ (ns : List Naming). Looks u ns side cs) (all_kinds ss names names item 0 bs)
      (kinds_past (λ b. kind_in ss names b.body) bs names 0 h)
  item_past ss names (Check w e) f h = h
  item_past ss names Mute f h = h
  item_past ss names (Defined n ps b) f h =
      look_past u side names cs
      (record { name = n; kind = OfAny; binder = binders.Applicable (length ss) })
      (λ k. unused (subst (Has u.items) (number (sym k.1 ∙ f)) k.2)) h

-- ---- names that are

-- names of the items themselves, at one position
abbrev pub IsOwnPair : ℕ → ℕ → Input → Input → Type 0
IsOwnPair at bt i j = (i.item ≡ at) × (j.item ≡ bt) × (i.position ≡ j.position)

abbrev pub AreFrom : (Input → Input → Type 0) → List Shared → Type 0
AreFrom P cs = (i j : Input) → Contains (inputs_of cs) (i, j) → P i j

abbrev shared_one : Bound → List Naming → List Naming → Naming → Naming → Shared
shared_one b names others n m =
    record { name = b.name; left = found_here names n; right = found_here others m }

abbrev grown : (K L : Bound → Kind) (at bt position : ℕ) → List Bound → (names others : List Naming)
    → List Shared → List Shared
grown K L at bt p [] names others cs = cs
grown K L at bt p (b ∷ bs) names others cs =
    grown K L at bt (suc p) bs (naming_at at p b (K b) ∷ names) (naming_at bt p b (L b) ∷ others)
    (shared_one b names others (naming_at at p b (K b)) (naming_at bt p b (L b)) ∷ cs)

module _ (u v : Reach) (at bt : ℕ) where
  one_shared : (s o : Scope) (cs : List Shared) (p : ℕ) (b : Bound) (k l : Kind) → k ≡ l
      → AreShared u v s o cs
      → AreShared u v (scope_with_names s (naming_at at p b k ∷ s.names))
      (scope_with_names o (naming_at bt p b l ∷ o.names)) (shared_one b s.names o.names
      (naming_at at p b k) (naming_at bt p b l) ∷ cs)
  one_shared s o cs p b k l e h =
      let n = naming_at at p b k in
      let m = naming_at bt p b l in
      let c = shared_one b s.names o.names n m in
      record {
        left = look_one u (λ d. d.left) s.names cs n c refl refl h.left;
        right = look_one v (λ d. d.right) o.names cs m c refl refl h.right;
        falling = (omega arith, omega arith, h.falling);
        common = (
          record { slots = contains_here (length s.names, length o.names) (slots_of cs); kinds = e; matched = contains_here (record { item = at; position = p }, record { item = bt; position = p }) (inputs_of cs) },
          all_within (pairing_of cs) (pairing_of (c ∷ cs)) (within_one c cs) s o
              (scope_with_names s (n ∷ s.names)) (scope_with_names o (m ∷ o.names)) (λ i x g. g) (λ i x g. g)
              (λ i x g. g) (λ i x g. g) cs h.common,
        );
      }

  pub grown_shared : (K L : Bound → Kind) (bs : List Bound) (p : ℕ) (s o : Scope) (cs : List Shared)
      → Each (λ b. K b ≡ L b) bs → AreShared u v s o cs
      → AreShared u v (scope_with_names s (with_kinds K s.names at p bs))
      (scope_with_names o (with_kinds L o.names bt p bs)) (grown K L at bt p bs s.names o.names cs)
  grown_shared K L [] p s o cs e h = h
  grown_shared K L (b ∷ bs) p s o cs e h =
      grown_shared K L bs (suc p) (scope_with_names s (naming_at at p b (K b) ∷ s.names))
      (scope_with_names o (naming_at bt p b (L b) ∷ o.names))
      (shared_one b s.names o.names (naming_at at p b (K b)) (naming_at bt p b (L b)) ∷ cs) e.1
      (one_shared s o cs p b (K b) (L b) e.0 h)

  grown_from : (P : Input → Input → Type 0)
      → ((p : ℕ) → P (record { item = at; position = p }) (record { item = bt; position = p }))
      → (K L : Bound → Kind) (bs : List Bound) (p : ℕ) (names others : List Naming)
      (cs : List Shared) → AreFrom P cs → AreFrom P (grown K L at bt p bs names others cs)
  grown_from P own K L [] p names others cs h = h
  grown_from P own K L (b ∷ bs) p names others cs h =
      grown_from P own K L bs (suc p) (naming_at at p b (K b) ∷ names)
      (naming_at bt p b (L b) ∷ others)
      (shared_one b names others (naming_at at p b (K b)) (naming_at bt p b (L b)) ∷ cs) from
    where
      from : AreFrom P (shared_one b names others (naming_at at p b (K b)) (naming_at bt p b (L b))
          ∷ cs)
      from i j c =
          at_one (contains_one_of
          (record { item = at; position = p }, record { item = bt; position = p })
          (inputs_of cs) (i, j) c)
        where
          at_one : IsSamePair {X = Input}
              (record { item = at; position = p }, record { item = bt; position = p })
              (i, j) ⊎ Contains (inputs_of cs) (i, j) → P i j
          at_one (inl e) = subst (λ (x : Input × Input). P x.0 x.1) e (own p)
          at_one (inr g) = h i j g

  grown_placed : (n m : ℕ) (K L : Bound → Kind) (bs : List Bound) (p d : ℕ)
      (names others : List Naming) (cs : List Shared) → length names ≡ n + d
      → length others ≡ m + d → ((a b : ℕ) → Contains (slots_of cs) (a, b) → IsPlaced n m a b)
      → (a b : ℕ) → Contains (slots_of (grown K L at bt p bs names others cs)) (a, b)
      → IsPlaced n m a b
  grown_placed n m K L [] p d names others cs x y h = h
  grown_placed n m K L (b ∷ bs) p d names others cs x y h =
      grown_placed n m K L bs (suc p) (suc d) (naming_at at p b (K b) ∷ names)
      (naming_at bt p b (L b) ∷ others)
      (shared_one b names others (naming_at at p b (K b)) (naming_at bt p b (L b)) ∷ cs)
      (omega (arith, x)) (omega (arith, y)) placed
    where
      placed : (i j : ℕ)
          → Contains
          (slots_of (shared_one b names others (naming_at at p b (K b)) (naming_at bt p b (L b))
          ∷ cs))
          (i, j) → IsPlaced n m i j
      placed i j c = at_one (contains_one_of (length names, length others) (slots_of cs) (i, j) c)
        where
          at_one : IsSamePair (length names, length others) (i, j) ⊎ Contains (slots_of cs) (i, j)
              → IsPlaced n m i j
          at_one (inl e) =
              inr (d, sym (ap (λ (z : ℕ × ℕ). z.0) e) ∙ x, sym (ap (λ (z : ℕ × ℕ). z.1) e) ∙ y)
          at_one (inr g) = h i j g

-- ---- an item

abbrev pub scope_behind : Scope → ℕ → BareItem → Scope
scope_behind s at c =
    record {
      senses = senses_after s.senses s.names c;
      usages = usages_after s.usages s.names at c;
      names = names_after s.senses s.names at c;
    }

-- the names of the item stand for the same in both, and so does what is seen behind it
pub record IsStep (u v : Reach) (s o : Scope) (at bt : ℕ) (c : BareItem) (P : Input → Input → Type 0)
    : Type 0 where
  pub during : List Shared
  pub pairing : IsPairing (pairing_of during) (length s.names) (length o.names)
  pub names : HasSameNamesIn (pairing_of during) s o (names_after s.senses s.names at c)
      (names_after o.senses o.names bt c) c
  pub during_from : AreFrom (λ i j. P i j ⊎ IsOwnPair at bt i j) during
  pub behind : List Shared
  pub shared : AreShared u v (scope_behind s at c) (scope_behind o bt c) behind
  pub behind_from : AreFrom (λ i j. P i j ⊎ IsOwnPair at bt i j) behind

module _ (u v : Reach) (s o : Scope) (at bt : ℕ) (cs : List Shared) (shared : AreShared u v s o cs)
    (P : Input → Input → Type 0) (from : AreFrom P cs) where
  low_pairing : IsPairing (pairing_of cs) (length s.names) (length o.names)
  low_pairing =
      placed_pairing cs (length s.names) (length o.names) (length s.names) (length o.names)
      shared.falling (λ a b h.
      inl (falling_below cs (length s.names) (length o.names) a b shared.falling h))

  from_more : AreFrom (λ i j. P i j ⊎ IsOwnPair at bt i j) cs
  from_more i j h = inl (from i j h)

  bodies_same : (t r : Scope) (ds : List Shared) → AreShared u v t r ds → (bs : List Bound)
      → Each (λ b. HasKeptNames u t [] b.body) bs → Each (λ b. HasKeptNames v r [] b.body) bs
      → Each (λ b. HasSameNames (pairing_of ds) t r [] b.body) bs
  bodies_same t r ds h [] l k = tt
  bodies_same t r ds h (b ∷ bs) l k =
      (term_same u v t r ds h [] b.body l.0 k.0, bodies_same t r ds h bs l.1 k.1)

  kinds_same : (bs : List Bound) → Each (λ b. HasSameNames (pairing_of cs) s o [] b.body) bs
      → Each (λ b. kind_in s.senses s.names b.body ≡ kind_in o.senses o.names b.body) bs
  kinds_same [] h = tt
  kinds_same (b ∷ bs) h = (kind_same (pairing_of cs) refl s o b.body h.0, kinds_same bs h.1)

  same_relations : (bs : List Bound) → Each (λ b. OfRelation ≡ OfRelation) bs
  same_relations [] = tt
  same_relations (b ∷ bs) = (refl, same_relations bs)

  function_step : (n : List ℕ) (ps : List (List ℕ)) (b : Term) → length s.usages ≡ length s.senses
      → length o.usages ≡ length o.senses → HasKeptNames u s ps b → HasKeptNames v o ps b
      → IsStep u v s o at bt (Defined n ps b) P
  function_step n ps b many more l r =
      let names = term_same u v s o cs shared ps b l r in
      let x : Naming = record { name = n; kind = OfAny; binder = binders.Applicable (length s.senses) } in
      let y : Naming = record { name = n; kind = OfAny; binder = binders.Applicable (length o.senses) } in
      let c : Shared = record { name = n; left = found_here s.names x; right = found_here o.names y } in
      let t = scope_behind s at (Defined n ps b) in
      let q = scope_behind o bt (Defined n ps b) in
      let within = within_one c cs in
      let sense = sense_of_function s.senses s.names ps b in
      let other = sense_of_function o.senses o.names ps b in
      let usage = usage_of_function s.usages s.names at ps b in
      let else_usage = usage_of_function o.usages o.names bt ps b in
      record {
        during = cs;
        pairing = low_pairing;
        names = names;
        during_from = from_more;
        behind = c ∷ cs;
        shared = record {
          left = look_one u (λ d. d.left) s.names cs x c refl refl shared.left;
          right = look_one v (λ d. d.right) o.names cs y c refl refl shared.right;
          falling = (omega arith, omega arith, shared.falling);
          common = (
            record {
              slots = contains_here (length s.names, length o.names) (slots_of cs);
              kinds = refl;
              matched = record {
                sense = sense;
                other = other;
                has_sense = get_last s.senses sense;
                has_other = get_last o.senses other;
                same =
                    sense_within (pairing_of cs) (pairing_of (c ∷ cs)) within sense other
                    (alike_sense (pairing_of cs) s o ps b names);
                usage = usage;
                more = else_usage;
                has_usage =
                    subst (λ (k : ℕ). slice_get t.usages k ≡ Some usage) many
                    (get_last s.usages usage);
                has_more =
                    subst (λ (k : ℕ). slice_get q.usages k ≡ Some else_usage) more
                    (get_last o.usages else_usage);
                used =
                    used_within (pairing_of cs) (pairing_of (c ∷ cs)) within usage.values
                    else_usage.values (alike_usage (pairing_of cs) low_pairing.one s o ps b at bt
                    names);
              };
            },
            all_within (pairing_of cs) (pairing_of (c ∷ cs)) within s o t q
                (front_append s.senses (sense ∷ [])) (front_append o.senses (other ∷ []))
                (front_append s.usages (usage ∷ [])) (front_append o.usages (else_usage ∷ [])) cs
                shared.common,
          );
        };
        behind_from = from_more;
      }

  pub item_step : (c : BareItem) → length s.usages ≡ length s.senses
      → length o.usages ≡ length o.senses → HasKeptNamesIn u s (names_after s.senses s.names at c) c
      → HasKeptNamesIn v o (names_after o.senses o.names bt c) c → IsStep u v s o at bt c P
  item_step (Group true bs) many more l r =
      let K : Bound → Kind = λ b. OfRelation in
      let ds = grown K K at bt 0 bs s.names o.names cs in
      let raw = grown_shared u v at bt K K bs 0 s o cs (same_relations bs) shared in
      let half : AreShared u v (scope_with_names s (with_own s.names at 0 bs)) (scope_with_names o (with_kinds K o.names bt 0 bs)) ds = subst (λ (ns : List Naming). AreShared u v (scope_with_names s ns) (scope_with_names o (with_kinds K o.names bt 0 bs)) ds) (own_kinds s.names at 0 bs) raw in
      let all : AreShared u v (scope_with_names s (with_own s.names at 0 bs)) (scope_with_names o (with_own o.names bt 0 bs)) ds = subst (λ (ns : List Naming). AreShared u v (scope_with_names s (with_own s.names at 0 bs)) (scope_with_names o ns) ds) (own_kinds o.names bt 0 bs) half in
      let placed = grown_placed u v at bt (length s.names) (length o.names) K K bs 0 0 s.names o.names cs (omega arith) (omega arith) (λ a b h. inl (falling_below cs (length s.names) (length o.names) a b shared.falling h)) in
      let origin = grown_from u v at bt (λ i j. P i j ⊎ IsOwnPair at bt i j) (λ p. inr (refl, refl, refl)) K K bs 0 s.names o.names cs from_more in
      record {
        during = ds;
        pairing = placed_pairing ds (length s.names) (length o.names) _ _ all.falling placed;
        names =
            bodies_same (scope_with_names s (with_own s.names at 0 bs))
            (scope_with_names o (with_own o.names bt 0 bs)) ds all bs l r;
        during_from = origin;
        behind = ds;
        shared = all;
        behind_from = origin;
      }
  item_step (Group false bs) many more l r =
      let names = bodies_same s o cs shared bs l r in
      let K : Bound → Kind = λ b. kind_in s.senses s.names b.body in
      let L : Bound → Kind = λ b. kind_in o.senses o.names b.body in
      let ds = grown K L at bt 0 bs s.names o.names cs in
      let raw = grown_shared u v at bt K L bs 0 s o cs (kinds_same bs names) shared in
      let half : AreShared u v (scope_with_names s (with_all s.senses s.names s.names at 0 bs)) (scope_with_names o (with_kinds L o.names bt 0 bs)) ds = subst (λ (ns : List Naming). AreShared u v (scope_with_names s ns) (scope_with_names o (with_kinds L o.names bt 0 bs)) ds) (all_kinds s.senses s.names s.names at 0 bs) raw in
      let all : AreShared u v (scope_with_names s (with_all s.senses s.names s.names at 0 bs)) (scope_with_names o (with_all o.senses o.names o.names bt 0 bs)) ds = subst (λ (ns : List Naming). AreShared u v (scope_with_names s (with_all s.senses s.names s.names at 0 bs)) (scope_with_names o ns) ds) (all_kinds o.senses o.names o.names bt 0 bs) half in
      record {
        during = cs;
        pairing = low_pairing;
        names = names;
        during_from = from_more;
        behind = ds;
        shared = all;
        behind_from =
            grown_from u v at bt (λ i j. P i j ⊎ IsOwnPair at bt i j) (λ p. inr (refl, refl, refl))
            K L bs 0 s.names o.names cs from_more;
      }
  item_step (Check w e) many more l r =
      record {
        during = cs;
        pairing = low_pairing;
        names = term_same u v s o cs shared [] e l r;
        during_from = from_more;
        behind = cs;
        shared = shared;
        behind_from = from_more;
      }
  item_step Mute many more l r =
      record {
        during = cs;
        pairing = low_pairing;
        names = tt;
        during_from = from_more;
        behind = cs;
        shared = shared;
        behind_from = from_more;
      }
  item_step (Defined n ps b) many more l r = function_step n ps b many more l r
