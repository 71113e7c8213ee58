-- An item that says what it said, and uses what it used, does what it did.
use Rattle.std.proofs.Common.{ℕ, ◌≡◌, ◌≤◌, ◌+◌, ◌⊎◌, suc, List, [], ◌∷◌, length, map, true, false, Option, Some, Contains, refl, sym, ap, ◌∙◌, subst, inl, inr, arith}
use Rattle.std.specs.Prelude.{nat_le, slice_get, option_map}
use Rattle.std.specs.List.{AllByRecursion as Each}
use Rattle.std.proofs.lemmas.Bool.{cases_Bool, leb-true, leb-false}
use Rattle.std.proofs.lemmas.Bool.Decides.{nat_tests}
use Rattle.std.proofs.lemmas.Option.{same_Some}
use Rattle.text_values.specs.declared.model.Item.{Item}
use Rattle.predefined_names.specs.declared.predefined.Predefined.{Predefined}
use Rattle.text_values.specs.ModelValue.{Term}
use Rattle.binding_kinds.specs.declared.scope.Binder.{Binder}
use Rattle.binding_kinds.specs.declared.scope.Binder.TheVariants as binders
use Rattle.binding_kinds.specs.declared.scope.Found.{Found}
use Rattle.binding_kinds.specs.declared.scope.Input.{Input}
use Rattle.binding_kinds.specs.Value.{Naming, Bound, BareItem, Group, Check, Mute, Defined, bare_item}
use Rattle.binding_kinds.specs.Kinds.{found}
use Rattle.binding_kinds.specs.Fits.{IsValue}
use Rattle.binding_kinds.specs.Faults.{names_after, with_own}
use Rattle.binding_graph.specs.declared.resolved.ResolvedItem.{ResolvedItem}
use Rattle.binding_graph.specs.Resolved.{IsResolvedIn}
use Rattle.binding_graph.specs.Usages.{Usage}
use Rattle.binding_laws.specs.ItemLaws.{Scope, scope_with_names, Sight, Matching, IsSameFound, SayTheSame, first_scope, own_at, functions_before, IsFunctionAlike, IsNamedAlike, IsNamedAlikeIn, IsNamedAlikeAt, HasAlikeFunctions, IsItemAt, IsResolvedAlike, sight_at, seeing}
use Rattle.binding_laws.specs.Reread.{ReadModel, HasNumber, outer_namings, IsReadModel, AreInOneOrder, IsItemOf, seen_input, seen_function, UseTheSame, ItemsAreReadAgain}
use Rattle.binding_laws.proofs.AlikeModels.{are_items}
use Rattle.binding_laws.proofs.AlikeShapes.{IsFitItem, AreFitBoth, fit_item, alike_shapes}
use Rattle.binding_laws.proofs.Known.{IsKnownScope, known_at, known_outermost, no_first_of}
use Rattle.binding_laws.proofs.AlikeTexts.{alike_names}
use Rattle.binding_laws.proofs.Lists.{partners, partners_are}
use Rattle.binding_laws.proofs.Named.{HasNames}
use Rattle.binding_laws.proofs.Told.{told_below, told_found, naming_found}
use Rattle.binding_laws.proofs.Placed.{sees, start, own_names, IsNameOfGroup, no_function}
use Rattle.binding_laws.proofs.Used.{IsKeptBinder, AreKept}
use Rattle.binding_laws.proofs.Whole.{is_usage, IsKeptFunction}
use Rattle.binding_laws.proofs.Uses.{IsKeptItem, item_inputs, item_kept, item_functions}
use Rattle.binding_laws.proofs.Seen.{beside, outer_names, HasNamesIn, faultless, names_expected, own_is, resolved_at}
use Rattle.binding_laws.proofs.Visible.{each_unit}
use Rattle.binding_laws.proofs.Both.{HasSameInput, HasSameFunction, function_both, value_same}
use Rattle.binding_laws.proofs.Terms.{AreSameValues, AreSameFunctions, term_alike}
use Rattle.binding_laws.proofs.Own.{own_found, IsOwn, IsOuterName, own_or_outer}
use Rattle.binding_laws.proofs.Matched.{matching, matches_outer, matches_used, matches_own, is_pairing}

-- ---- orders

order_turned : (names : List Naming) (m w : ReadModel) → IsReadModel names w → AreInOneOrder m w
    → AreInOneOrder w m
order_turned names m w well order a b c d first second ha hb hc hd lt =
    elim (cases_Bool (nat_le d c)) [
      | inl t ↦ absurd (at_least (leb-true d c t))
      | inr f ↦ leb-false d c f
    ]
  where
    at_least : d ≤ c → ⊥
    at_least le = elim (cases_Bool (nat_le c d)) [
      | inl t ↦ (
          let back = leb-true c d t in
          let same : c ≡ d = omega (arith, le, back) in
          let number : first ≡ second = same_Some first second (sym hc ∙ (ap (slice_get m.numbers) same ∙ hd)) in
          let one : a ≡ b = well.apart a b second (ha ∙ ap (λ (n : ℕ). Some n) number) hb in
          omega (arith, lt, one)
          )
      | inr f ↦ (let less = order d c b a second first hd hc hb ha (leb-false c d f) in
          omega (arith, lt, less))
    ]

-- ---- what stands for the same

found_low : (names : List Naming) (x : List ℕ) (f : Found) → found names x ≡ Some f
    → nat_le (length names) f.slot ≡ false
found_low names x f h =
    let lt = told_below names f.slot (naming_found x f) (told_found names x f h) in
    grind (arith, nat_tests, lt)

-- how many names the item itself has
abbrev own_count : BareItem → ℕ
own_count (Group r bs) = length bs
own_count (Check w e) = 0
own_count Mute = 0
own_count (Defined n ps b) = 0

module _ (ps : List Predefined) (m w : ReadModel) (well : IsReadModel (outer_namings ps) m)
    (other : IsReadModel (outer_namings ps) w) (order : AreInOneOrder m w) (back : AreInOneOrder w m)
    (k l : ℕ) (rs qs : List Input) (fs gs : List ℕ) (count : ℕ) where
  abbrev names : List Naming
  names = outer_namings ps

  abbrev M : Matching
  M = matching ps m w k l rs qs fs gs count

  abbrev in_m : ℕ → Scope
  in_m i = sees (outer_namings ps) m.items i

  abbrev in_w : ℕ → Scope
  in_w j = sees (outer_namings ps) w.items j

  -- inputs and functions of both
  abbrev P : Input → Type 0
  P = HasSameInput ps m w l rs qs

  abbrev R : Input → Type 0
  R = HasSameInput ps w m k qs rs

  abbrev Q : ℕ → Type 0
  Q = HasSameFunction m w fs gs

  abbrev T : ℕ → Type 0
  T = HasSameFunction w m gs fs

  abbrev sight_m : ℕ → Sight
  sight_m i = sight_at (outer_namings ps) m.items i

  abbrev sight_w : ℕ → Sight
  sight_w j = sight_at (outer_namings ps) w.items j

  -- items of one number, of which the expression is a part
  module _ (i j number : ℕ) (at_left : HasNumber m i number) (at_right : HasNumber w j number) where
    values_same : (x : List ℕ) (f g : Found) → found (in_m i).names x ≡ Some f
        → found (in_w j).names x ≡ Some g → IsValue f.binder → IsValue g.binder
        → ((a : Input) → f.binder ≡ binders.Bound a → P a)
        → ((b : Input) → g.binder ≡ binders.Bound b → R b) → IsSameFound M.pairing f g
    values_same =
        value_same ps m w well other order back i j number at_left at_right k l rs qs M.pairing
        (matches_outer ps m w k l rs qs fs gs count) (matches_used ps m w k l rs qs fs gs count) refl

    functions_same : (x : List ℕ) (f g : Found) (a b : ℕ) (u v : Usage)
        → found (in_m i).names x ≡ Some f → found (in_w j).names x ≡ Some g
        → f.binder ≡ binders.Applicable a → g.binder ≡ binders.Applicable b
        → slice_get (in_m i).usages a ≡ Some u → slice_get (in_w j).usages b ≡ Some v → Q u.item
        → T v.item → IsFunctionAlike M (sight_m i) (sight_w j) f.binder g.binder
    functions_same x f g a b u v h e fa gb ua vb q t =
        let left = is_usage names m.items (outer_names ps) i a u ua in
        let right = is_usage names w.items (outer_names ps) j b v vb in
        let is_left : u.item ≡ left.index = ap (λ (z : Usage). z.item) left.usage in
        let is_right : v.item ≡ right.index = ap (λ (z : Usage). z.item) right.usage in
        let both = function_both ps m w well other order back i j number at_left at_right fs gs x f g a b left.index right.index h e fa gb left.number right.number (subst Q is_left q) (subst T is_right t) in
        subst (λ (y : Binder). IsFunctionAlike M (sight_m i) (sight_w j) y g.binder) (sym fa)
        (subst (λ (y : Binder). IsFunctionAlike M (sight_m i) (sight_w j) (binders.Applicable a) y)
        (sym gb) (left.index, right.index, left.number, right.number, both))

    -- an expression that sees names before its item alone
    term_same : (vs : List (List ℕ)) (t : Term) → HasNames (in_m i) vs t → HasNames (in_w j) vs t
        → AreKept P Q (in_m i).usages (in_m i).names vs (start names m.items i) t
        → AreKept R T (in_w j).usages (in_w j).names vs (start names w.items j) t
        → IsNamedAlike M (sight_m i) (sight_w j) vs t
    term_same vs t h g kept more =
        term_alike M (functions_before 0 m.items i) (functions_before 0 w.items j) (in_m i) (in_w j)
        P R Q T vs (start names m.items i) (start names w.items j) values functions t h g kept more
      where
        values : AreSameValues M (functions_before 0 m.items i) (functions_before 0 w.items j)
            (in_m i) (in_w j) P R Q T vs (start names m.items i) (start names w.items j)
        values x f g h e vf vg a b =
            values_same x f g h e vf vg (λ c is. a c is (found_low (in_m i).names x f h))
            (λ c is. b c is (found_low (in_w j).names x g e))

        functions : AreSameFunctions M (functions_before 0 m.items i) (functions_before 0 w.items j)
            (in_m i) (in_w j) P R Q T vs (start names m.items i) (start names w.items j)
        functions n x a b q t =
            functions_same x a.now b.now a.at b.at a.usage b.usage a.there b.there a.binder b.binder
            a.has_usage b.has_usage q t

  -- ---- a recursive group

  module _ (number : ℕ) (at_left : HasNumber m k number) (at_right : HasNumber w l number)
      (bs : List Bound) (few : length bs ≤ count) where
    abbrev own_m : List Naming
    own_m = with_own (in_m k).names k 0 bs

    abbrev own_w : List Naming
    own_w = with_own (in_w l).names l 0 bs

    own_values : (x : List ℕ) (f g : Found) → found own_m x ≡ Some f → found own_w x ≡ Some g
        → IsValue f.binder → IsValue g.binder
        → IsKeptBinder P Q (in_m k).usages own_m [] (start names m.items k) f f.binder
        → IsKeptBinder R T (in_w l).usages own_w [] (start names w.items l) g g.binder
        → IsSameFound M.pairing f g
    own_values x f g h e vf vg kept more =
        at_name (own_or_outer (in_m k).names (in_w l).names k l 0 bs x)
      where
        at_name : IsOwn (in_m k).names (in_w l).names k l 0 (length bs) bs x
            ⊎ IsOuterName (in_m k).names (in_w l).names k l 0 bs x → IsSameFound M.pairing f g
        at_name (inl o) =
            let low = o.below in
            let inside = matches_own ps m w k l rs qs fs gs count o.position (omega (arith, low, few)) in
            let left : own_found (start names m.items k) k 0 o.position ≡ f = same_Some _ f (sym o.left ∙ h) in
            let right : own_found (start names w.items l) l 0 o.position ≡ g = same_Some _ g (sym o.right ∙ e) in
            let none : o.position ≡ 0 + o.position = omega arith in
            let inputs : Contains M.pairing.inputs (record { item = k; position = 0 + o.position }, record { item = l; position = 0 + o.position }) =
            subst
            (λ (d : ℕ). Contains M.pairing.inputs (
              record { item = k; position = d },
              record { item = l; position = d },
            )) none inside.1 in
            subst (λ (y : Found). IsSameFound M.pairing y g) left (subst
            (λ (y : Found).
            IsSameFound M.pairing (own_found (start names m.items k) k 0 o.position) y)
            right
            (inside.0, tt, inputs))
        at_name (inr o) =
            let left : found (in_m k).names x ≡ Some f = sym o.left ∙ h in
            let right : found (in_w l).names x ≡ Some g = sym o.right ∙ e in
            values_same k l number at_left at_right x f g left right vf vg
            (λ c is. kept c is (found_low (in_m k).names x f left))
            (λ c is. more c is (found_low (in_w l).names x g right))

    -- a function is no name of the group
    applied_outer : (x : List ℕ) (f g : Found) (a b : ℕ) → found own_m x ≡ Some f
        → found own_w x ≡ Some g → f.binder ≡ binders.Applicable a → g.binder ≡ binders.Applicable b
        → (found (in_m k).names x ≡ Some f) × (found (in_w l).names x ≡ Some g)
    applied_outer x f g a b h e fa gb =
        at_name (own_or_outer (in_m k).names (in_w l).names k l 0 bs x)
      where
        at_name : IsOwn (in_m k).names (in_w l).names k l 0 (length bs) bs x
            ⊎ IsOuterName (in_m k).names (in_w l).names k l 0 bs x
            → (found (in_m k).names x ≡ Some f) × (found (in_w l).names x ≡ Some g)
        at_name (inl o) =
            let left : own_found (start names m.items k) k 0 o.position ≡ f = same_Some _ f (sym o.left ∙ h) in
            absurd (no_function a _ (sym fa ∙ sym (ap (λ (y : Found). y.binder) left)))
        at_name (inr o) = (sym o.left ∙ h, sym o.right ∙ e)

    own_same : (t : Term) → HasNames (scope_with_names (in_m k) own_m) [] t
        → HasNames (scope_with_names (in_w l) own_w) [] t
        → AreKept P Q (in_m k).usages own_m [] (start names m.items k) t
        → AreKept R T (in_w l).usages own_w [] (start names w.items l) t
        → IsNamedAlike M (seeing (sight_m k) own_m) (seeing (sight_w l) own_w) [] t
    own_same t h g kept more =
        term_alike M (functions_before 0 m.items k) (functions_before 0 w.items l)
        (scope_with_names (in_m k) own_m) (scope_with_names (in_w l) own_w) P R Q T []
        (start names m.items k) (start names w.items l) own_values functions t h g kept more
      where
        functions : AreSameFunctions M (functions_before 0 m.items k) (functions_before 0 w.items l)
            (scope_with_names (in_m k) own_m) (scope_with_names (in_w l) own_w) P R Q T []
            (start names m.items k) (start names w.items l)
        functions n x a b q t =
            let outer = applied_outer x a.now b.now a.at b.at a.there b.there a.binder b.binder in
            functions_same k l number at_left at_right x a.now b.now a.at b.at a.usage b.usage
            outer.0 outer.1 a.binder b.binder a.has_usage b.has_usage q t

  -- ---- functions that stand for each other

  module _ (same : map (seen_function m) fs ≡ map (seen_function w) gs)
      (left : Each (IsKeptFunction (outer_namings ps) m.items (outer_names ps) P Q) fs)
      (right : Each (IsKeptFunction (outer_namings ps) w.items (outer_names ps) R T) gs) where
    one_clause : (o q : Option Item) (a b : Item) → option_map bare_item o ≡ option_map bare_item q
        → o ≡ Some a → q ≡ Some b → bare_item a ≡ bare_item b
    one_clause o q a b e h g =
        same_Some (bare_item a) (bare_item b) (sym (ap (option_map bare_item) h)
        ∙ (e ∙ ap (option_map bare_item) g))

    -- functions of one clause
    function_alike : (i j number : ℕ) → HasNumber m i number → HasNumber w j number → (a b : Item)
        → slice_get m.items i ≡ Some a → slice_get w.items j ≡ Some b
        → (n v : List ℕ) (vs us : List (List ℕ)) (t u : Term)
        → bare_item a ≡ Defined n vs t → bare_item b ≡ Defined v us u
        → Defined n vs t ≡ Defined v us u
        → AreKept P Q (in_m i).usages (in_m i).names vs (start names m.items i) t
        → AreKept R T (in_w j).usages (in_w j).names us (start names w.items j) u
        → IsNamedAlike M (sight_m i) (sight_w j) vs t
    function_alike i j number at_left at_right a b is_a is_b n v vs us t u ca cb e kept more =
        let names_left : HasNames (in_m i) vs t = subst (HasNamesIn (in_m i) (in_m (suc i)).names) ca (names_expected ps m well i a is_a) in
        let names_right : HasNames (in_w j) vs t = subst (HasNamesIn (in_w j) (in_w (suc j)).names) (cb ∙ sym e) (names_expected ps w other j b is_b) in
        let turned : IsKeptItem R T (in_w j) (in_w j).names (start names w.items j) (Defined n vs t) = subst (IsKeptItem R T (in_w j) (in_w j).names (start names w.items j)) (sym e) more in
        term_same i j number at_left at_right vs t names_left names_right kept turned

    alike_functions : HasAlikeFunctions M names names m.items w.items
    alike_functions i j a b both is_a is_b =
        let pair = partners_are (seen_function m) (seen_function w) (IsKeptFunction (outer_namings ps) m.items (outer_names ps) P Q) (IsKeptFunction (outer_namings ps) w.items (outer_names ps) R T) fs gs same left right i j both in
        let texts : option_map bare_item (slice_get m.items i) ≡ option_map bare_item (slice_get w.items j) = ap (λ (p : Option ℕ × Option BareItem). p.1) pair.same in
        let clause = one_clause (slice_get m.items i) (slice_get w.items j) a b texts is_a is_b in
        let number = beside m.items m.numbers i a well.numbered is_a in
        let at_right : HasNumber w j number.0 = sym (ap (λ (p : Option ℕ × Option BareItem). p.0) pair.same) ∙ number.1 in
        let h = pair.left in
        let g = pair.right in
        let ca : bare_item a ≡ Defined h.name h.parameters h.body = ap bare_item (same_Some a h.item (sym is_a ∙ h.there)) ∙ h.clause in
        let cb : bare_item b ≡ Defined g.name g.parameters g.body = ap bare_item (same_Some b g.item (sym is_b ∙ g.there)) ∙ g.clause in
        let alike = function_alike i j number.0 number.1 at_right a b is_a is_b h.name g.name h.parameters g.parameters h.body g.body ca cb (sym ca ∙ (clause ∙ cb)) h.kept g.kept in
        (clause, subst (IsNamedAlikeAt M names names m.items w.items i j) (sym ca) alike)

  -- ---- the item

  module _ (number : ℕ) (at_left : HasNumber m k number) (at_right : HasNumber w l number) where
    bodies_same : (bs : List Bound) → Each (λ b. HasNames (in_m k) [] b.body) bs
        → Each (λ b. HasNames (in_w l) [] b.body) bs
        → Each (λ b. AreKept P Q (in_m k).usages (in_m k).names [] (start names m.items k) b.body)
        bs
        → Each
        (λ b. AreKept R T (in_w l).usages (in_w l).names [] (start names w.items l) b.body)
        bs
        → Each (λ b. IsNamedAlike M (sight_m k) (sight_w l) [] b.body) bs
    bodies_same [] h g a b = tt
    bodies_same (c ∷ bs) h g a b = (
      term_same k l number at_left at_right [] c.body h.0 g.0 a.0 b.0,
      bodies_same bs h.1 g.1 a.1 b.1,
    )

    -- of all bodies of the group, these
    own_bodies : (all : List Bound) (few : length all ≤ count) (bs : List Bound)
        → Each (λ b. HasNames (scope_with_names (in_m k) (with_own (in_m k).names k 0 all)) [] b.body) bs
        → Each (λ b. HasNames (scope_with_names (in_w l) (with_own (in_w l).names l 0 all)) [] b.body) bs
        → Each
        (λ b. AreKept P Q (in_m k).usages (with_own (in_m k).names k 0 all) []
        (start names m.items k) b.body) bs
        → Each
        (λ b. AreKept R T (in_w l).usages (with_own (in_w l).names l 0 all) []
        (start names w.items l) b.body) bs
        → Each
        (λ b. IsNamedAlike M (seeing (sight_m k) (with_own (in_m k).names k 0 all))
        (seeing (sight_w l) (with_own (in_w l).names l 0 all)) [] b.body) bs
    own_bodies all few [] h g a b = tt
    own_bodies all few (c ∷ bs) h g a b = (
      own_same number at_left at_right all few c.body h.0 g.0 a.0 b.0,
      own_bodies all few bs h.1 g.1 a.1 b.1,
    )

    item_alike : (c : BareItem) → own_count c ≤ count
        → HasNamesIn (in_m k) (names_after (in_m k).senses (in_m k).names k c) c
        → HasNamesIn (in_w l) (names_after (in_w l).senses (in_w l).names l c) c
        → IsKeptItem P Q (in_m k) (names_after (in_m k).senses (in_m k).names k c)
        (start names m.items k) c
        → IsKeptItem R T (in_w l) (names_after (in_w l).senses (in_w l).names l c)
        (start names w.items l) c
        → IsNamedAlikeIn M (sight_m k) (sight_w l) (names_after (in_m k).senses (in_m k).names k c)
        (names_after (in_w l).senses (in_w l).names l c) c
    item_alike (Group true bs) few h g a b = own_bodies bs few bs h g a b
    item_alike (Group false bs) few h g a b = bodies_same bs h g a b
    item_alike (Check o e) few h g a b = term_same k l number at_left at_right [] e h g a b
    item_alike Mute few h g a b = tt
    item_alike (Defined n vs t) few h g a b = term_same k l number at_left at_right vs t h g a b

-- ---- the law

module _ (ps : List Predefined) (m w : ReadModel) (well : IsReadModel (outer_namings ps) m)
    (other : IsReadModel (outer_namings ps) w) (order : AreInOneOrder m w) (back : AreInOneOrder w m)
    (number k l : ℕ) (x y : Item) (r q : ResolvedItem) (left : IsItemOf m number k x r)
    (right : IsItemOf w number l y q) (say : SayTheSame x y) (alike : UseTheSame m w r q) where
  abbrev in_left : Scope
  in_left = sees (outer_namings ps) m.items k

  abbrev in_right : Scope
  in_right = sees (outer_namings ps) w.items l

  abbrev own_left : List Naming
  own_left = (sees (outer_namings ps) m.items (suc k)).names

  abbrev own_right : List Naming
  own_right = (sees (outer_namings ps) w.items (suc l)).names

  abbrev rs : List Input
  rs = r.inputs.items

  abbrev qs : List Input
  qs = q.inputs.items

  abbrev fs : List ℕ
  fs = r.functions.items

  abbrev gs : List ℕ
  gs = q.functions.items

  abbrev left_inputs : Input → Type 0
  left_inputs = HasSameInput ps m w l rs qs

  abbrev right_inputs : Input → Type 0
  right_inputs = HasSameInput ps w m k qs rs

  abbrev left_functions : ℕ → Type 0
  left_functions = HasSameFunction m w fs gs

  abbrev right_functions : ℕ → Type 0
  right_functions = HasSameFunction w m gs fs

  abbrev both : Matching
  both = matching ps m w k l rs qs fs gs (own_count (bare_item x))

  left_resolved : IsResolvedIn in_left.senses in_left.usages in_left.names own_left
      (length in_left.names) (bare_item x) r
  left_resolved = resolved_at ps m well k x r left.text left.item

  right_resolved : IsResolvedIn in_right.senses in_right.usages in_right.names own_right
      (length in_right.names) (bare_item x) q
  right_resolved =
      subst
      (λ (c : BareItem). IsResolvedIn in_right.senses in_right.usages in_right.names own_right
      (length in_right.names) c q)
      (sym say.0)
      (resolved_at ps w other l y q right.text right.item)

  left_names : Each (IsNameOfGroup (outer_namings ps) m.items k) rs
  left_names = item_inputs (outer_namings ps) m.items (outer_names ps) k (bare_item x) r left_resolved

  right_names : Each (IsNameOfGroup (outer_namings ps) w.items l) qs
  right_names = item_inputs (outer_namings ps) w.items (outer_names ps) l (bare_item x) q right_resolved

  left_kept : IsKeptItem left_inputs left_functions in_left own_left (length in_left.names)
      (bare_item x)
  left_kept =
      item_kept (outer_namings ps) m.items (outer_names ps) k left_inputs left_functions (bare_item x) r
      left_resolved
      (partners (seen_input m) (seen_input w) (IsNameOfGroup (outer_namings ps) w.items l) rs qs
      alike.inputs right_names)
      (partners (seen_function m) (seen_function w) (λ g. Unit {0}) fs gs alike.functions
      (each_unit gs))

  right_kept : IsKeptItem right_inputs right_functions in_right own_right (length in_right.names)
      (bare_item x)
  right_kept =
      item_kept (outer_namings ps) w.items (outer_names ps) l right_inputs right_functions (bare_item x)
      q right_resolved
      (partners (seen_input w) (seen_input m) (IsNameOfGroup (outer_namings ps) m.items k) qs rs
      (sym alike.inputs) left_names)
      (partners (seen_function w) (seen_function m) (λ f. Unit {0}) gs fs (sym alike.functions)
      (each_unit fs))

  left_closed : Each
      (IsKeptFunction (outer_namings ps) m.items (outer_names ps) left_inputs left_functions) fs
  left_closed =
      item_functions (outer_namings ps) m.items (outer_names ps) k left_inputs left_functions
      (bare_item x) r left_resolved left_kept

  right_closed : Each
      (IsKeptFunction (outer_namings ps) w.items (outer_names ps) right_inputs right_functions) gs
  right_closed =
      item_functions (outer_namings ps) w.items (outer_names ps) l right_inputs right_functions
      (bare_item x) q right_resolved right_kept

  resolved_alike : IsResolvedAlike both (outer_namings ps) (outer_namings ps) m.items w.items k l x
  resolved_alike =
      let own_m = own_is ps m well k x left.text in
      let own_w = ap (names_after in_right.senses in_right.names l) say.0 ∙ own_is ps w other l y right.text in
      let count = own_count (bare_item x) in
      let names_right = subst (HasNamesIn in_right own_right) (sym say.0) (names_expected ps w other l y right.text) in
      let same_names = item_alike ps m w well other order back k l rs qs fs gs count number left.has_number right.has_number (bare_item x) (omega arith)
      (subst (λ (own : List Naming). HasNamesIn in_left own (bare_item x)) (sym own_m)
      (names_expected ps m well k x left.text))
      (subst (λ (own : List Naming). HasNamesIn in_right own (bare_item x)) (sym own_w) names_right)
      (subst
      (λ (own : List Naming). IsKeptItem left_inputs left_functions in_left own
      (length in_left.names) (bare_item x))
      (sym own_m) left_kept)
      (subst
      (λ (own : List Naming). IsKeptItem right_inputs right_functions in_right own
      (length in_right.names) (bare_item x))
      (sym own_w) right_kept) in
      let sight_m = sight_at (outer_namings ps) m.items k in
      let sight_w = sight_at (outer_namings ps) w.items l in
      let first = own_m ∙ sym (own_names (first_scope (outer_namings ps)) 0 m.items k x left.text) in
      let second = own_w ∙ sym (own_names (first_scope (outer_namings ps)) 0 w.items l y right.text) in
      record {
        pairing =
            is_pairing ps m w k l rs qs fs gs count well other alike.inputs left_names right_names;
        functions =
            alike_functions ps m w well other order back k l rs qs fs gs count alike.functions
            left_closed right_closed;
        item =
            subst
            (λ (own : List Naming). IsNamedAlikeIn both sight_m sight_w own
            (own_at (first_scope (outer_namings ps)) 0 w.items l) (bare_item x)) first
            (subst
            (λ (own : List Naming). IsNamedAlikeIn both sight_m sight_w
            (names_after in_left.senses in_left.names k (bare_item x)) own (bare_item x))
            second same_names);
      }

-- the item of that index fits what it sees
pub fits_at : (ps : List Predefined) (m : ReadModel) (well : IsReadModel (outer_namings ps) m) (k : ℕ)
    (x : Item) → slice_get m.items k ≡ Some x
    → IsKnownScope (sees (outer_namings ps) m.items k)
    × IsFitItem (sees (outer_namings ps) m.items k) (sees (outer_namings ps) m.items (suc k)).names
    (bare_item x)
fits_at ps m well k x there =
    let s = sees (outer_namings ps) m.items k in
    let known = known_at (first_scope (outer_namings ps)) 0 m.items k (record { sound = tt; known = known_outermost ps }) well.no_fault in
    let none = no_first_of s.senses s.names k (bare_item x) (faultless ps m well k x there) in (
      known,
      subst (λ (names : List Naming). IsFitItem s names (bare_item x)) (own_is ps m well k x there)
          (fit_item s k (bare_item x) known none),
    )

pub items_again : ItemsAreReadAgain
items_again ps m w number k l x y r q well other order left right say alike =
    let back = order_turned (outer_namings ps) m w other order in
    let resolved = resolved_alike ps m w well other order back number k l x y r q left right say alike in
    let at_left : IsItemAt (outer_namings ps) m.items m.resolved k x r = record { all = well.as_resolved; labels = well.labelled; text = left.text; item = left.item } in
    let at_right : IsItemAt (outer_namings ps) w.items w.resolved l y q = record { all = other.as_resolved; labels = other.labelled; text = right.text; item = right.item } in
    let p = (both ps m w well other order back number k l x y r q left right say alike).pairing in
    let same = alike_names m.items w.items (both ps m w well other order back number k l x y r q left right say alike) (outer_namings ps) (outer_namings ps) k l x resolved in
    let items = are_items m.items w.items (outer_namings ps) (outer_namings ps) m.resolved w.resolved k l x y r q at_left at_right say in
    let s = sees (outer_namings ps) m.items k in
    let o = sees (outer_namings ps) w.items l in
    let own = own_at (first_scope (outer_namings ps)) 0 m.items k in
    let owned = own_at (first_scope (outer_namings ps)) 0 w.items l in
    let first = fits_at ps m well k x left.text in
    let second = fits_at ps w other l y right.text in
    let own_first = own_names (first_scope (outer_namings ps)) 0 m.items k x left.text in
    let own_second = own_names (first_scope (outer_namings ps)) 0 w.items l y right.text in
    let fits : AreFitBoth s o own owned x = record {
      sound = first.0.sound;
      still = second.0.sound;
      fits = subst (λ (names : List Naming). IsFitItem s names (bare_item x)) (sym own_first) first.1;
      also = subst (λ (names : List Naming). IsFitItem o names (bare_item x)) (sym own_second)
          (subst (IsFitItem o (sees (outer_namings ps) w.items (suc l)).names) (sym say.0) second.1);
    } in
    alike_shapes x p s o own owned (length s.names) (length o.names) r q same.pairing same.same fits
    items.left items.right
