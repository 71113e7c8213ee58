-- Of which model and item each slot is, and what its inputs are.
use Rattle.std.proofs.Common.{ℕ, ◌≡◌, ◌<◌, inl, inr, zero, suc, true, List, [], ◌∷◌, length, map, get_or, Option, Some, None, slice_get, AllPairs, refl, sym, ap, ◌∙◌, subst, eq-eqb, arith}
use Rattle.std.specs.List.{AllByRecursion as Each, flat_map}
use Rattle.std.specs.Prelude.{slice_index_or}
use Rattle.std.proofs.lemmas.Bool.{cases_order}
use Rattle.std.proofs.lemmas.Option.{same_Some}
use Rattle.memo_core.specs.declared.keys.Kind.{Kind}
use Rattle.memo_core.specs.declared.keys.Kind.TheVariants as kinds
use Rattle.memo_core.specs.Step.{Has}
use Rattle.binding_graph.specs.declared.resolved.ResolvedItem.{ResolvedItem}
use Rattle.binding_graph.specs.declared.resolved.Role.{Role}
use Rattle.binding_graph.specs.declared.resolved.Role.TheVariants as roles
use Rattle.bench_nodes.specs.declared.table.Slot.{Slot}
use Rattle.bench_nodes.specs.declared.table.SlotKey.{SlotKey}
use Rattle.bench_nodes.specs.declared.table.SlotKey.TheVariants as slots
use Rattle.bench_nodes.specs.Nodes.{has_slot, slot_keys}
use Rattle.bench_items.specs.Naming.{SeenName}
use Rattle.bench_slots.specs.Slots.{PlainSlot, plain, number_at, item_keys, slots_of, item_slots, used_slots, verdict_keys}
use Rattle.bench_slots.specs.Tables.{ModelReading, Sound, Faulty, space_slots, slots_in, all_slots}
use Rattle.bench_slots.proofs.Lists.{each_append, has_contains, each_has}
use Rattle.bench_slots.proofs.Ordered.{has_plain, has_slot_plain, has_left, has_right}
use Rattle.bench_parts.proofs.BuiltSlots.{slot_inputs}
use Rattle.bench_edits.specs.Kept.{IsReadingOfText, id_in, AreOther}

-- a group or a check has a node of its kind
abbrev pub HasKind : Role → Kind → Type 0
HasKind (roles.Group recursive bodies) kind = kind ≡ kinds.Group
HasKind (roles.Check check) kind = kind ≡ kinds.Check
HasKind roles.Silent kind = ⊥

abbrev pub verdict_inputs : ModelReading → List SlotKey
verdict_inputs (Sound id numbers items used) = verdict_keys numbers items used
verdict_inputs (Faulty id fault) = slots.Test 2 ∷ slots.Fault id ∷ []

-- ---- what holds of the space, of items and of verdicts holds of each slot

module _ (histories : ℕ → List SeenName) (P : Kind → ℕ → List SlotKey → Type 0)
    (models : List ModelReading)
    (space : (id : ℕ) (numbers : List ℕ) (items : List ResolvedItem) (used : List ℕ)
    → Has models (Sound id numbers items used) → P kinds.Space 0 [])
    (item : (id : ℕ) (numbers : List ℕ) (items : List ResolvedItem) (used : List ℕ)
    → Has models (Sound id numbers items used) → (i : ℕ) (r : ResolvedItem) (kind : Kind)
    → Has used i → slice_get items i ≡ Some r → HasKind r.role kind
    → P kind (number_at numbers i)
    (item_keys histories numbers items (number_at numbers i) r))
    (verdict : (m : ModelReading) → Has models m → P kinds.Verdict (id_in m) (verdict_inputs m))
  where
    abbrev All : List PlainSlot → Type 0
    All ss = Each (λ p. P p.kind p.of p.inputs) ss

    role_slots : (role : Role) (own : ℕ) (keys : List SlotKey)
        → ((kind : Kind) → HasKind role kind → P kind own keys) → All (slots_of role own keys)
    role_slots (roles.Group recursive bodies) own keys h = (h kinds.Group refl, tt)
    role_slots (roles.Check check) own keys h = (h kinds.Check refl, tt)
    role_slots roles.Silent own keys h = tt

    module _ (id : ℕ) (numbers : List ℕ) (items : List ResolvedItem) (used : List ℕ)
        (there : Has models (Sound id numbers items used)) where
      one_item : (i : ℕ) → Has used i → (o : Option ResolvedItem) → slice_get items i ≡ o
          → All (item_slots histories numbers items (number_at numbers i) o)
      one_item i inside None e = tt
      one_item i inside (Some r) e =
          role_slots r.role (number_at numbers i)
          (item_keys histories numbers items (number_at numbers i) r) (λ kind k.
          item id numbers items used there i r kind inside e k)

      items_slots : (is : List ℕ) → ((i : ℕ) → Has is i → Has used i)
          → All (used_slots histories numbers items is)
      items_slots [] inside = tt
      items_slots (i ∷ is) inside =
          each_append (λ p. P p.kind p.of p.inputs)
          (item_slots histories numbers items (number_at numbers i) (slice_get items i))
          (used_slots histories numbers items is)
          (one_item i (inside i (inl refl)) (slice_get items i) refl)
          (items_slots is (λ k h. inside k (inr h)))

    model_slots : (m : ModelReading) → Has models m → All (slots_in histories m)
    model_slots (Sound id numbers items used) there =
        let v : PlainSlot = record { kind = kinds.Verdict; of = id; inputs = verdict_keys numbers items used } in
        each_append (λ p. P p.kind p.of p.inputs) (used_slots histories numbers items used) (v ∷ [])
        (items_slots id numbers items used there used (λ i h. h))
        (verdict (Sound id numbers items used) there, tt)
    model_slots (Faulty id fault) there = (verdict (Faulty id fault) there, tt)

    models_slots : (ms : List ModelReading) → ((m : ModelReading) → Has ms m → Has models m)
        → All (flat_map (slots_in histories) ms)
    models_slots [] inside = tt
    models_slots (m ∷ ms) inside =
        each_append (λ p. P p.kind p.of p.inputs) (slots_in histories m)
        (flat_map (slots_in histories) ms) (model_slots m (inside m (inl refl)))
        (models_slots ms (λ n h. inside n (inr h)))

    spaces : (ms : List ModelReading) → ((m : ModelReading) → Has ms m → Has models m)
        → All (space_slots ms)
    spaces [] inside = tt
    spaces (Sound id numbers items used ∷ ms) inside =
        (space id numbers items used (inside (Sound id numbers items used) (inl refl)), tt)
    spaces (Faulty id fault ∷ ms) inside = spaces ms (λ n h. inside n (inr h))

    pub slots_by : All (all_slots histories models)
    slots_by =
        each_append (λ p. P p.kind p.of p.inputs) (space_slots models)
        (flat_map (slots_in histories) models) (spaces models (λ m h. h))
        (models_slots models (λ m h. h))

-- ---- numbers

other_turned : (m n : ModelReading) → AreOther m n → AreOther n m
other_turned m n o = record { ids = λ e. o.ids (sym e); numbers = λ k h g. o.numbers k g h }

pub pairs_tail : {X : Type 0} (R : X → X → Type 0) (x : X) (xs : List X) → AllPairs R (x ∷ xs)
    → AllPairs R xs
pairs_tail R x xs h = λ i j d lt le. h (suc i) (suc j) d (omega (arith, lt)) (omega (arith, le))

pub pairs_head : {X : Type 0} (R : X → X → Type 0) (x : X) (xs : List X) → AllPairs R (x ∷ xs)
    → (y : X) → Has xs y → R x y
pairs_head R x [] h y there = absurd there
pairs_head R x (z ∷ zs) h y (inl e) = subst (R x) e (h 0 1 z (omega arith) (omega arith))
pairs_head R x (z ∷ zs) h y (inr there) =
    pairs_head R x zs (λ i j d lt le. without i j d lt le) y there
  where
    without : (i j : ℕ) (d : _) → i < j → j < length (x ∷ zs)
        → R (slice_index_or (x ∷ zs) i d) (slice_index_or (x ∷ zs) j d)
    without zero zero d lt le = absurd (omega (arith, lt))
    without zero (suc j) d lt le = h 0 (suc (suc j)) d (omega arith) (omega (arith, le))
    without (suc i) zero d lt le = absurd (omega (arith, lt))
    without (suc i) (suc j) d lt le =
        h (suc (suc i)) (suc (suc j)) d (omega (arith, lt)) (omega (arith, le))

-- two models of a list that are not apart are one
pub same_model : (ms : List ModelReading) (m n : ModelReading) → AllPairs AreOther ms → Has ms m
    → Has ms n → (AreOther m n → ⊥) → m ≡ n
same_model [] m n h there also differ = absurd there
same_model (x ∷ xs) m n h (inl e) (inl f) differ = sym e ∙ f
same_model (x ∷ xs) m n h (inl e) (inr also) differ =
    absurd (differ (subst (λ (y : ModelReading). AreOther y n) e
    (pairs_head AreOther x xs h n also)))
same_model (x ∷ xs) m n h (inr there) (inl f) differ =
    absurd (differ (other_turned n m (subst (λ (y : ModelReading). AreOther y m) f
    (pairs_head AreOther x xs h m there))))
same_model (x ∷ xs) m n h (inr there) (inr also) differ =
    same_model xs m n (pairs_tail AreOther x xs h) there also differ

-- an element that two indexes have is at one index
pub one_index : (xs : List ℕ) (i j : ℕ) → AllPairs (λ a b. a ≡ b → ⊥) xs → i < length xs
    → j < length xs → get_or xs i 0 ≡ get_or xs j 0 → i ≡ j
one_index xs i j apart li lj e = elim (cases_order i j) [
  | inl same ↦ same
  | inr (inl lt) ↦ absurd (apart i j 0 lt lj e)
  | inr (inr lt) ↦ absurd (apart j i 0 lt li (sym e))
]

pub number_there : (numbers : List ℕ) (i : ℕ) → i < length numbers
    → Has numbers (number_at numbers i)
number_there [] i lt = absurd (omega (arith, lt))
number_there (x ∷ xs) zero lt = inl refl
number_there (x ∷ xs) (suc i) lt = inr (number_there xs i (omega (arith, lt)))

-- ---- the first slot of a kind and number

module _ (models : List ModelReading) (apart : AllPairs AreOther models) (read : Each IsReadingOfText models)
  where
    read_from : (id : ℕ) (numbers : List ℕ) (items : List ResolvedItem) (used : List ℕ)
        → Has models (Sound id numbers items used) → IsReadingOfText (Sound id numbers items used)
    read_from id numbers items used there =
        each_has IsReadingOfText models read (Sound id numbers items used) there

    -- a used index is one of an item, and of a number
    pub index_within : (id : ℕ) (numbers : List ℕ) (items : List ResolvedItem) (used : List ℕ)
        → Has models (Sound id numbers items used) → (i : ℕ) → Has used i → i < length numbers
    index_within id numbers items used there i inside =
        let is = (read_from id numbers items used there).1 in
        let lt = ((is.reached.exact i).0 (has_contains used i inside)).0 in
        let many = is.numbered in
        omega (arith, lt, many)

    -- the inputs of the item of that number
    abbrev OfItem : (ℕ → List SeenName) → ℕ → List SlotKey → Type 0
    OfItem histories of keys =
        (id : ℕ) (numbers : List ℕ) (items : List ResolvedItem) (used : List ℕ)
        → Has models (Sound id numbers items used) → (i : ℕ) (r : ResolvedItem) → Has used i
        → slice_get items i ≡ Some r → number_at numbers i ≡ of
        → keys ≡ item_keys histories numbers items of r

    abbrev IsOwn : (ℕ → List SeenName) → Kind → ℕ → List SlotKey → Type 0
    IsOwn histories kinds.Space of keys = Unit {0}
    IsOwn histories kinds.Group of keys = OfItem histories of keys
    IsOwn histories kinds.Check of keys = OfItem histories of keys
    IsOwn histories kinds.Verdict of keys =
        (m : ModelReading) → Has models m → id_in m ≡ of → keys ≡ verdict_inputs m

    same_numbers : (a b : ℕ) (c d : List ℕ) (e f : List ResolvedItem) (g h : List ℕ)
        → Sound a c e g ≡ Sound b d f h → c ≡ d
    same_numbers a b c d e f g h p = cc

    same_items : (a b : ℕ) (c d : List ℕ) (e f : List ResolvedItem) (g h : List ℕ)
        → Sound a c e g ≡ Sound b d f h → e ≡ f
    same_items a b c d e f g h p = cc

    same_used : (a b : ℕ) (c d : List ℕ) (e f : List ResolvedItem) (g h : List ℕ)
        → Sound a c e g ≡ Sound b d f h → g ≡ h
    same_used a b c d e f g h p = cc

    of_item : (histories : ℕ → List SeenName) (id : ℕ) (numbers : List ℕ)
        (items : List ResolvedItem)
        (used : List ℕ) → Has models (Sound id numbers items used) → (i : ℕ) (r : ResolvedItem)
        → Has used i → slice_get items i ≡ Some r
        → OfItem histories (number_at numbers i)
        (item_keys histories numbers items (number_at numbers i) r)
    of_item histories id numbers items used there i r inside found jd ms js us also j q within at e
        =
        let same = same_model models (Sound jd ms js us) (Sound id numbers items used) apart also there
        (λ o. o.numbers (number_at numbers i)
        (subst (Has ms) e (number_there ms j (index_within jd ms js us also j within)))
        (number_there numbers i (index_within id numbers items used there i inside))) in
        let n : ms ≡ numbers = same_numbers jd id ms numbers js items us used same in
        let t : js ≡ items = same_items jd id ms numbers js items us used same in
        let u : us ≡ used = same_used jd id ms numbers js items us used same in
        let index : j ≡ i = one_index numbers j i (read_from id numbers items used there).1.apart
        (index_within id numbers items used there j (subst (λ (l : List ℕ). Has l j) u within))
        (index_within id numbers items used there i inside)
        (ap (λ (l : List ℕ). get_or l j 0) (sym n) ∙ e) in
        let one : r ≡ q = same_Some _ _ (sym found ∙ ap (slice_get items) (sym index) ∙ ap (λ (l : List ResolvedItem). slice_get l j) (sym t) ∙ at) in
        ap (item_keys histories numbers items (number_at numbers i)) one
        ∙ ap (λ (l : List ℕ). item_keys histories l items (number_at numbers i) q) (sym n)
        ∙ ap (λ (l : List ResolvedItem). item_keys histories ms l (number_at numbers i) q) (sym t)

    own_item : (histories : ℕ → List SeenName) (id : ℕ) (numbers : List ℕ)
        (items : List ResolvedItem)
        (used : List ℕ) → Has models (Sound id numbers items used)
        → (i : ℕ) (r : ResolvedItem) (kind : Kind) → Has used i → slice_get items i ≡ Some r
        → HasKind r.role kind
        → IsOwn histories kind (number_at numbers i)
        (item_keys histories numbers items (number_at numbers i) r)
    own_item histories id numbers items used there i r kind inside found has = by_role r.role has
      where
        of : OfItem histories (number_at numbers i)
            (item_keys histories numbers items (number_at numbers i) r)
        of = of_item histories id numbers items used there i r inside found

        by_role : (role : Role) → HasKind role kind
            → IsOwn histories kind (number_at numbers i)
            (item_keys histories numbers items (number_at numbers i) r)
        by_role (roles.Group recursive bodies) e =
            subst
            (λ (k : Kind). IsOwn histories k (number_at numbers i)
            (item_keys histories numbers items (number_at numbers i) r))
            (sym e) of
        by_role (roles.Check check) e =
            subst
            (λ (k : Kind). IsOwn histories k (number_at numbers i)
            (item_keys histories numbers items (number_at numbers i) r))
            (sym e) of
        by_role roles.Silent e = absurd e

    own_verdict : (histories : ℕ → List SeenName) (m : ModelReading) → Has models m
        → IsOwn histories kinds.Verdict (id_in m) (verdict_inputs m)
    own_verdict histories m there n also e =
        ap verdict_inputs (sym (same_model models n m apart also there (λ o. o.ids e)))

    -- ---- of which model and item a slot is

    pub record IsOfItem (kind : Kind) (of : ℕ) : Type 0 where
      pub id : ℕ
      pub numbers : List ℕ
      pub items : List ResolvedItem
      pub used : List ℕ
      pub there : Has models (Sound id numbers items used)
      pub index : ℕ
      pub item : ResolvedItem
      pub inside : Has used index
      pub found : slice_get items index ≡ Some item
      pub has_kind : HasKind item.role kind
      pub number : number_at numbers index ≡ of

    pub record IsOfSpace (of : ℕ) : Type 0 where
      pub id : ℕ
      pub numbers : List ℕ
      pub items : List ResolvedItem
      pub used : List ℕ
      pub there : Has models (Sound id numbers items used)
      pub none : of ≡ 0

    pub record IsOfVerdict (of : ℕ) : Type 0 where
      pub model : ModelReading
      pub there : Has models model
      pub number : id_in model ≡ of

    abbrev pub Origin : Kind → ℕ → Type 0
    Origin kinds.Space of = IsOfSpace of
    Origin kinds.Group of = IsOfItem kinds.Group of
    Origin kinds.Check of = IsOfItem kinds.Check of
    Origin kinds.Verdict of = IsOfVerdict of

    item_origin : (id : ℕ) (numbers : List ℕ) (items : List ResolvedItem) (used : List ℕ)
        → Has models (Sound id numbers items used) → (i : ℕ) (r : ResolvedItem) (kind : Kind)
        → Has used i → slice_get items i ≡ Some r → HasKind r.role kind
        → Origin kind (number_at numbers i)
    item_origin id numbers items used there i r kind inside found has = by_role r.role has
      where
        of_kind : (k : Kind) → HasKind r.role k → IsOfItem k (number_at numbers i)
        of_kind k h =
            record {
              id = id;
              numbers = numbers;
              items = items;
              used = used;
              there = there;
              index = i;
              item = r;
              inside = inside;
              found = found;
              has_kind = h;
              number = refl;
            }

        by_role : (role : Role) → HasKind role kind → Origin kind (number_at numbers i)
        by_role (roles.Group recursive bodies) e =
            subst (λ (k : Kind). Origin k (number_at numbers i)) (sym e)
            (of_kind kinds.Group (subst (HasKind r.role) e has))
        by_role (roles.Check check) e =
            subst (λ (k : Kind). Origin k (number_at numbers i)) (sym e)
            (of_kind kinds.Check (subst (HasKind r.role) e has))
        by_role roles.Silent e = absurd e

    module _ (histories : ℕ → List SeenName) (ss : List Slot)
        (are : map plain ss ≡ all_slots histories models) where
      pub origin : (kind : Kind) (of : ℕ) → has_slot ss kind of ≡ true → Origin kind of
      origin kind of has = slot_inputs (λ k n keys. Origin k n) ss kind of
          (subst (Each (λ p. Origin p.kind p.of)) (sym are) (slots_by histories
          (λ k n keys. Origin k n) models
          (λ id numbers items used there. record {
            id = id;
            numbers = numbers;
            items = items;
            used = used;
            there = there;
            none = refl;
          })
          item_origin (λ m there. record { model = m; there = there; number = refl }))) has

      own : (kind : Kind) (of : ℕ) → has_slot ss kind of ≡ true
          → IsOwn histories kind of (slot_keys ss kind of)
      own kind of has =
          slot_inputs (IsOwn histories) ss kind of
          (subst (Each (λ p. IsOwn histories p.kind p.of p.inputs)) (sym are)
          (slots_by histories (IsOwn histories) models (λ id numbers items used there. tt)
          (own_item histories) (own_verdict histories))) has

      -- ---- each slot is there

      has_all : (kind : Kind) (of : ℕ) → has_plain (all_slots histories models) kind of ≡ true
          → has_slot ss kind of ≡ true
      has_all kind of h =
          has_slot_plain ss kind of ∙ ap (λ (ps : List PlainSlot). has_plain ps kind of) are ∙ h

      model_there : (ms : List ModelReading) (m : ModelReading) (kind : Kind) (of : ℕ) → Has ms m
          → has_plain (slots_in histories m) kind of ≡ true
          → has_plain (flat_map (slots_in histories) ms) kind of ≡ true
      model_there [] m kind of there h = absurd there
      model_there (n ∷ ms) m kind of (inl e) h =
          has_left (slots_in histories n) (flat_map (slots_in histories) ms) kind of
          (ap (λ (x : ModelReading). has_plain (slots_in histories x) kind of) e ∙ h)
      model_there (n ∷ ms) m kind of (inr there) h =
          has_right (slots_in histories n) (flat_map (slots_in histories) ms) kind of
          (model_there ms m kind of there h)

      slot_there : (m : ModelReading) (kind : Kind) (of : ℕ) → Has models m
          → has_plain (slots_in histories m) kind of ≡ true → has_slot ss kind of ≡ true
      slot_there m kind of there h =
          has_all kind of (has_right (space_slots models) (flat_map (slots_in histories) models)
          kind
          of (model_there models m kind of there h))

      space_first : (ms : List ModelReading) (id : ℕ) (numbers : List ℕ) (items : List ResolvedItem)
          (used : List ℕ) → Has ms (Sound id numbers items used)
          → has_plain (space_slots ms) kinds.Space 0 ≡ true
      space_first [] id numbers items used there = absurd there
      space_first (Sound jd ns is us ∷ ms) id numbers items used there = refl
      space_first (Faulty jd fault ∷ ms) id numbers items used (inl e) = cc
      space_first (Faulty jd fault ∷ ms) id numbers items used (inr there) =
          space_first ms id numbers items used there

      pub space_there : (id : ℕ) (numbers : List ℕ) (items : List ResolvedItem) (used : List ℕ)
          → Has models (Sound id numbers items used) → has_slot ss kinds.Space 0 ≡ true
      space_there id numbers items used there =
          has_all kinds.Space 0 (has_left (space_slots models)
          (flat_map (slots_in histories) models)
          kinds.Space 0 (space_first models id numbers items used there))

      role_there : (role : Role) (own : ℕ) (keys : List SlotKey) (kind : Kind) → HasKind role kind
          → has_plain (slots_of role own keys) kind own ≡ true
      role_there (roles.Group recursive bodies) own keys kind e =
          rw e (rw (eq-eqb own own refl) refl)
      role_there (roles.Check check) own keys kind e = rw e (rw (eq-eqb own own refl) refl)
      role_there roles.Silent own keys kind e = absurd e

      used_there : (numbers : List ℕ) (items : List ResolvedItem) (is : List ℕ) (i : ℕ)
          (r : ResolvedItem) (kind : Kind) → Has is i → slice_get items i ≡ Some r
          → HasKind r.role kind
          → has_plain (used_slots histories numbers items is) kind (number_at numbers i) ≡ true
      used_there numbers items [] i r kind inside found k = absurd inside
      used_there numbers items (j ∷ is) i r kind (inl e) found k =
          has_left (item_slots histories numbers items (number_at numbers j) (slice_get items j))
          (used_slots histories numbers items is) kind (number_at numbers i)
          (subst
          (λ (n : ℕ). has_plain
          (item_slots histories numbers items (number_at numbers n) (slice_get items n))
          kind (number_at numbers i) ≡ true)
          (sym e)
          (ap
          (λ (o : Option ResolvedItem). has_plain
          (item_slots histories numbers items (number_at numbers i) o) kind
          (number_at numbers i)) found
          ∙ role_there r.role (number_at numbers i)
          (item_keys histories numbers items (number_at numbers i) r) kind k))
      used_there numbers items (j ∷ is) i r kind (inr inside) found k =
          has_right (item_slots histories numbers items (number_at numbers j) (slice_get items j))
          (used_slots histories numbers items is) kind (number_at numbers i)
          (used_there numbers items is i r kind inside found k)

      pub item_there : (id : ℕ) (numbers : List ℕ) (items : List ResolvedItem) (used : List ℕ)
          → Has models (Sound id numbers items used) → (i : ℕ) (r : ResolvedItem) (kind : Kind)
          → Has used i → slice_get items i ≡ Some r → HasKind r.role kind
          → has_slot ss kind (number_at numbers i) ≡ true
      item_there id numbers items used there i r kind inside found k =
          let v : PlainSlot = record { kind = kinds.Verdict; of = id; inputs = verdict_keys numbers items used } in
          slot_there (Sound id numbers items used) kind (number_at numbers i) there
          (has_left (used_slots histories numbers items used) (v ∷ []) kind (number_at numbers i)
          (used_there numbers items used i r kind inside found k))

      own_slot : (m : ModelReading)
          → has_plain (slots_in histories m) kinds.Verdict (id_in m) ≡ true
      own_slot (Sound id numbers items used) =
          let v : PlainSlot = record { kind = kinds.Verdict; of = id; inputs = verdict_keys numbers items used } in
          has_right (used_slots histories numbers items used) (v ∷ []) kinds.Verdict id
          (rw (eq-eqb id id refl) refl)
      own_slot (Faulty id fault) = rw (eq-eqb id id refl) refl

      pub verdict_there : (m : ModelReading) → Has models m
          → has_slot ss kinds.Verdict (id_in m) ≡ true
      verdict_there m there = slot_there m kinds.Verdict (id_in m) there (own_slot m)

      -- ---- the inputs

      pub verdict_keys_are : (m : ModelReading) → Has models m
          → slot_keys ss kinds.Verdict (id_in m) ≡ verdict_inputs m
      verdict_keys_are m there = own kinds.Verdict (id_in m) (verdict_there m there) m there refl

      pub item_keys_are : (id : ℕ) (numbers : List ℕ) (items : List ResolvedItem) (used : List ℕ)
          → Has models (Sound id numbers items used) → (i : ℕ) (r : ResolvedItem) (kind : Kind)
          → Has used i → slice_get items i ≡ Some r → HasKind r.role kind
          → slot_keys ss kind (number_at numbers i)
          ≡ item_keys histories numbers items (number_at numbers i) r
      item_keys_are id numbers items used there i r kind inside found k =
          by_role r.role k (item_there id numbers items used there i r kind inside found k)
        where
          by_role : (role : Role) → HasKind role kind
              → has_slot ss kind (number_at numbers i) ≡ true
              → slot_keys ss kind (number_at numbers i)
              ≡ item_keys histories numbers items (number_at numbers i) r
          by_role (roles.Group recursive bodies) e has =
              ap (λ (x : Kind). slot_keys ss x (number_at numbers i)) e
              ∙ own kinds.Group (number_at numbers i)
              (subst (λ (x : Kind). has_slot ss x (number_at numbers i) ≡ true) e has) id numbers
              items used there i r inside found refl
          by_role (roles.Check check) e has =
              ap (λ (x : Kind). slot_keys ss x (number_at numbers i)) e
              ∙ own kinds.Check (number_at numbers i)
              (subst (λ (x : Kind). has_slot ss x (number_at numbers i) ≡ true) e has) id numbers
              items used there i r inside found refl
          by_role roles.Silent e has = absurd e
