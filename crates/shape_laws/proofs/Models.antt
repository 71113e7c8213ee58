-- The items of a model without fault are read by the kinds of their names.
use Rattle.std.proofs.Common.{ℕ, zero, suc, ◌≡◌, ◌≤◌, ◌+◌, List, [], ◌∷◌, length, Bool, true, false, Some, refl, sym, ap, ◌∙◌, subst, arith, inl, inr}
use Rattle.std.specs.Prelude.{◌==◌, slice_get}
use Rattle.std.proofs.lemmas.Bool.{cases_Bool}
use Rattle.std.proofs.lemmas.Option.{none-some, same_Some}
use Rattle.text_values.specs.declared.model.Item.{Item}
use Rattle.text_values.specs.declared.model.ModelText.{ModelText}
use Rattle.predefined_names.specs.declared.predefined.Predefined.{Predefined}
use Rattle.predefined_names.specs.declared.predefined.TheConstants.{PREDEFINED}
use Rattle.binding_kinds.specs.declared.kinds.Kind.{Kind}
use Rattle.binding_kinds.specs.declared.kinds.Kind.TheVariants.{OfRelation}
use Rattle.binding_kinds.specs.declared.scope.Binder.{Binder}
use Rattle.binding_kinds.specs.declared.scope.Binder.TheVariants as binders
use Rattle.binding_kinds.specs.declared.scope.Input.{Input}
use Rattle.binding_kinds.specs.declared.scope.Used.{Used}
use Rattle.binding_kinds.specs.Faults.{IsFaultOfItem, naming_at, with_own, names_after}
use Rattle.binding_kinds.specs.Outermost.{kind_of_predefined}
use Rattle.binding_kinds.specs.Senses.{Sense, kind_in}
use Rattle.binding_kinds.specs.Value.{Naming, Bound, BareItem, Group, Check, Mute, Defined, bare_item}
use Rattle.binding_graph.specs.declared.resolved.Body.{Body}
use Rattle.binding_graph.specs.declared.resolved.ResolvedItem.{ResolvedItem}
use Rattle.binding_graph.specs.declared.resolved.Role.{Role}
use Rattle.binding_graph.specs.declared.resolved.Role.TheVariants as roles
use Rattle.binding_graph.specs.Contents.{role_content}
use Rattle.binding_graph.specs.Lowering.{known}
use Rattle.binding_graph.specs.Resolved.{AreBodies, IsGroupRole, IsResolvedIn, AreLabelledAs}
use Rattle.binding_graph.specs.Usages.{Usage, with_values}
use Rattle.binding_shapes.specs.Shapes.{role_with}
use Rattle.meaning_items.specs.Slots.{naming_in}
use Rattle.meaning_items.proofs.Growing.{Grows, senses_grown, usages_grown}
use Rattle.meaning_items.proofs.Naming.{naming_below}
use Rattle.binding_laws.specs.ItemLaws.{Scope, first_scope}
use Rattle.binding_laws.specs.Reread.{ReadModel, outer_namings, IsReadModel, bodies_of}
use Rattle.binding_laws.proofs.Again.{fits_at}
use Rattle.binding_laws.proofs.AlikeShapes.{IsFitItem}
use Rattle.binding_laws.proofs.Both.{same_predefined}
use Rattle.binding_laws.proofs.Added.{kind_seen, extended_under}
use Rattle.binding_laws.proofs.Known.{recursive_kind}
use Rattle.binding_laws.proofs.Placed.{sees, under_at, IsInput, told_input, told_outer}
use Rattle.binding_laws.proofs.Seen.{beside, outer_names, faultless, own_is, resolved_at}
use Rattle.binding_laws.proofs.Told.{told}
use Rattle.binding_laws.proofs.Whole.{bound_high}
use Rattle.shape_laws.specs.Laws.{HasKind, IsReadByKind, AreReadByKind}
use Rattle.shape_laws.proofs.Bodies.{IsKnownSight, group_read, check_read}
use Rattle.shape_laws.proofs.Leaves.{IsKindOf}
use Rattle.shape_laws.proofs.Scopes.{IsNamedScope, named_at}
use Rattle.shape_laws.proofs.Told.{naming_told, under_grows}

-- ---- numbers that count the items

abbrev count_from : {X : Type 0} → ℕ → List X → List ℕ
count_from {X} n [] = []
count_from {X} n (x ∷ xs) = n ∷ count_from (suc n) xs

counted_many : {X : Type 0} (n : ℕ) (xs : List X) → length (count_from n xs) ≡ length xs
counted_many n [] = refl
counted_many n (x ∷ xs) = ap suc (counted_many (suc n) xs)

counted_at : {X : Type 0} (n : ℕ) (xs : List X) (k number : ℕ)
    → slice_get (count_from n xs) k ≡ Some number → number ≡ n + k
counted_at n [] k number e = absurd (none-some number e)
counted_at n (x ∷ xs) zero number e =
    let same : n ≡ number = same_Some n number e in omega (arith, same)
counted_at n (x ∷ xs) (suc k) number e =
    let rest = counted_at (suc n) xs k number e in omega (arith, rest)

-- ---- the kinds of bodies

bodies_kind : (ss : List Sense) (us : List Usage) (names : List Naming) (from : ℕ) (bs : List Bound)
    (rs : List Body) (vs : List Used) (p : ℕ) (b : Bound) (r : Body)
    → AreBodies ss us names from vs bs rs → slice_get bs p ≡ Some b → slice_get rs p ≡ Some r
    → r.code.kind ≡ kind_in ss names b.body
bodies_kind ss us names from [] rs vs p b r h e g = absurd (none-some b e)
bodies_kind ss us names from (c ∷ bs) [] vs p b r h e g = absurd h
bodies_kind ss us names from (c ∷ bs) (q ∷ rs) vs zero b r h e g =
    let body : q ≡ r = same_Some q r g in
    let bound : c ≡ b = same_Some c b e in
    ap (λ (x : Body). x.code.kind) (sym body)
    ∙ (h.1.0 ∙ ap (λ (x : Bound). kind_in ss names x.body) bound)
bodies_kind ss us names from (c ∷ bs) (q ∷ rs) vs (suc p) b r h e g =
    bodies_kind ss us names from bs rs (with_values us names [] from c.body vs) p b r h.2 e g

role_kind : (ss : List Sense) (us : List Usage) (names : List Naming) (from : ℕ) (recursive : Bool)
    (bs : List Bound) (role : Role) (p : ℕ) (b : Bound) (r : Body)
    → IsGroupRole ss us names from recursive bs role → slice_get bs p ≡ Some b
    → slice_get (bodies_of role) p ≡ Some r → r.code.kind ≡ kind_in ss names b.body
role_kind ss us names from recursive bs (roles.Group a bodies) p b r h e g =
    bodies_kind ss us names from bs bodies.items [] p b r h.1 e g
role_kind ss us names from recursive bs (roles.Check c) p b r h e g = absurd h
role_kind ss us names from recursive bs roles.Silent p b r h e g = absurd h

-- ---- the names of a recursive group

own_relations : (names : List Naming) (item at : ℕ) (bs : List Bound) (slot : ℕ) (n : Naming)
    → ((k : ℕ) (m : Naming) → naming_in names k ≡ Some m → slot ≤ k → m.kind ≡ OfRelation)
    → naming_in (with_own names item at bs) slot ≡ Some n → n.kind ≡ OfRelation
own_relations names item at [] slot n late e = late slot n e (omega arith)
own_relations names item at (b ∷ bs) slot n late e =
    own_relations (naming_at item at b OfRelation ∷ names) item (suc at) bs slot n later e
  where
    later : (k : ℕ) (m : Naming)
        → naming_in (naming_at item at b OfRelation ∷ names) k ≡ Some m → slot ≤ k
        → m.kind ≡ OfRelation
    later k m f le = at_told (sym (naming_told (naming_at item at b OfRelation ∷ names) k) ∙ f)
      where
        at_told : told (naming_at item at b OfRelation ∷ names) k ≡ Some m → m.kind ≡ OfRelation
        at_told g = elim (cases_Bool (length names == k)) [
          | inl t ↦ (
              let same : naming_at item at b OfRelation ≡ m = same_Some _ m (rw t at g) in
              sym (ap (λ (x : Naming). x.kind) same))
          | inr t ↦ late k m (naming_told names k ∙ rw t at g) le
        ]

-- ---- a model

module _ (m : ReadModel) (well : IsReadModel (outer_namings PREDEFINED) m) where
  abbrev names : List Naming
  names = outer_namings PREDEFINED

  abbrev seen : ℕ → Scope
  seen k = sees (outer_namings PREDEFINED) m.items k

  -- the body that is an input has the kind by which its name is seen
  body_kind : (i : Input) (x : List ℕ) (kind other : Kind) → IsInput names m.items i x kind
      → HasKind m.resolved i other → other ≡ known kind
  body_kind i x kind other h g =
      let s = seen i.item in
      let is = resolved_at PREDEFINED m well i.item h.item g.item h.there g.item_at in
      let own : (seen (suc i.item)).names ≡ names_after s.senses s.names i.item (Group h.recursive h.bounds) = sym (own_is PREDEFINED m well i.item h.item h.there) ∙ ap (names_after s.senses s.names i.item) h.clause in
      let group : IsResolvedIn s.senses s.usages s.names (names_after s.senses s.names i.item (Group h.recursive h.bounds)) (length s.names) (Group h.recursive h.bounds) g.item =
      subst
      (λ (ns : List Naming). IsResolvedIn s.senses s.usages s.names ns (length s.names)
      (Group h.recursive h.bounds) g.item) own
      (subst
      (λ (c : BareItem). IsResolvedIn s.senses s.usages s.names (seen (suc i.item)).names
      (length s.names) c g.item) h.clause is) in
      sym g.is_kind
      ∙ ap known (by_group h.recursive h.bounds h.bound h.has_bound (clause_fault h) group g.body_at
      ∙ h.is_kind)
    where
      clause_fault : (e : IsInput names m.items i x kind) → (j : ℕ) (l : _)
          → IsFaultOfItem (seen i.item).senses (seen i.item).names i.item (Group e.recursive e.bounds) j l
          → ⊥
      clause_fault e j l f =
          faultless PREDEFINED m well i.item e.item e.there j l
          (subst (λ (c : BareItem). IsFaultOfItem (seen i.item).senses (seen i.item).names i.item c j l)
          (sym e.clause) f)

      by_group : (recursive : Bool) (bs : List Bound) (b : Bound) → slice_get bs i.position ≡ Some b
          → ((j : ℕ) (l : _)
          → IsFaultOfItem (seen i.item).senses (seen i.item).names i.item (Group recursive bs) j l → ⊥)
          → IsResolvedIn (seen i.item).senses (seen i.item).usages (seen i.item).names
          (names_after (seen i.item).senses (seen i.item).names i.item (Group recursive bs))
          (length (seen i.item).names) (Group recursive bs) g.item
          → slice_get (bodies_of g.item.role) i.position ≡ Some g.body
          → g.body.code.kind ≡ kind_seen (seen i.item).senses (seen i.item).names recursive b
      by_group true bs b at none group there =
          role_kind (seen i.item).senses (seen i.item).usages
          (with_own (seen i.item).names i.item 0 bs) (length (seen i.item).names) true bs
          g.item.role i.position b g.body group.0 at there
          ∙ recursive_kind (seen i.item) i.item bs i.position b
          (fits_at PREDEFINED m well i.item h.item h.there).0 none at
      by_group false bs b at none group there =
          role_kind (seen i.item).senses (seen i.item).usages (seen i.item).names
          (length (seen i.item).names) false bs g.item.role i.position b g.body group.0 at there

  -- a name that the item of that index sees has its kind by what it stands for
  naming_kind : (k slot : ℕ) (n : Naming) → naming_in (seen k).names slot ≡ Some n
      → IsKindOf m.resolved n.kind n.binder
  naming_kind k slot n e = by_binder n.binder refl
    where
      here : told (seen k).names slot ≡ Some n
      here = sym (naming_told (seen k).names slot) ∙ e

      by_binder : (b : Binder) → n.binder ≡ b → IsKindOf m.resolved n.kind b
      by_binder (binders.Predefined p) is =
          let lt = told_outer names m.items k slot n p here is in
          let outer : told names slot ≡ Some n = sym ((under_at (first_scope names) 0 m.items k).same slot lt) ∙ here in
          let one = outer_names PREDEFINED slot n outer in
          let same : one.predefined ≡ p = same_predefined one.predefined p (sym (ap (λ (x : Naming). x.binder) one.is) ∙ is) in
          ap kind_of_predefined (sym same) ∙ sym (ap (λ (x : Naming). x.kind) one.is)
      by_binder (binders.Bound i) is = λ other has.
          let high = bound_high names m.items (outer_names PREDEFINED) k slot n i here is in
          let at = told_input names m.items k slot n i here high is in
          body_kind i n.name n.kind other at.input has
      by_binder (binders.Applicable f) is = tt

  known_scope : (k : ℕ) → IsNamedScope (seen k)
  known_scope k =
      named_at (first_scope names) 0 m.items k (record {
        senses = λ f s e. absurd (none-some s e);
        covers = λ f s e. absurd (none-some s e);
        named = λ f u e. absurd (none-some u e);
        as_many = refl;
      })

  -- what the bodies of an item that is not recursive see
  plain_sight : (k : ℕ) (x : Item) → slice_get m.items k ≡ Some x
      → IsKnownSight m.resolved (seen k).senses (seen k).usages (seen k).names (length (seen k).names)
  plain_sight k x there =
      let scope = known_scope k in
      record {
        sound = (fits_at PREDEFINED m well k x there).0.sound;
        senses = scope.senses;
        covers = scope.covers;
        named = scope.named;
        of_kinds =
            record {
              outer = λ slot n e lt. naming_kind k slot n e;
              own = λ slot n e le. absurd (
                  let lt = naming_below (seen k).names slot n e in omega (arith, lt, le));
            };
      }

  -- what those of a recursive group see
  own_sight : (k : ℕ) (x : Item) (bs : List Bound) → slice_get m.items k ≡ Some x
      → IsKnownSight m.resolved (seen k).senses (seen k).usages (with_own (seen k).names k 0 bs)
      (length (seen k).names)
  own_sight k x bs there =
      let scope = known_scope k in
      let own = with_own (seen k).names k 0 bs in
      let under = extended_under (seen k).senses (seen k).names k (Group true bs) in
      let grow : Grows (seen k).names own = under_grows (seen k).names own under in
      record {
        sound = (fits_at PREDEFINED m well k x there).0.sound;
        senses = senses_grown (seen k).names own grow (seen k).senses scope.senses;
        covers = scope.covers;
        named = usages_grown (seen k).names own grow (seen k).usages scope.named;
        of_kinds =
            record {
              outer = λ slot n e lt. naming_kind k slot n
                  (naming_told (seen k).names slot
                  ∙ (sym (under.same slot lt) ∙ (sym (naming_told own slot) ∙ e)));
              own = λ slot n e le. own_relations (seen k).names k 0 bs slot n
                  (λ j q f low. absurd (
                  let lt = naming_below (seen k).names j q f in omega (arith, lt, le, low))) e;
            };
      }

  -- the item of that index
  item_read : (k : ℕ) (x : Item) (r : ResolvedItem) → slice_get m.items k ≡ Some x
      → slice_get m.resolved k ≡ Some r → IsReadByKind m.resolved r
  item_read k x r there at =
      let s = seen k in
      let own = sym (own_is PREDEFINED m well k x there) in
      let fits = subst (λ (ns : List Naming). IsFitItem s ns (bare_item x)) own (fits_at PREDEFINED m well k x there).1 in
      let is = subst (λ (ns : List Naming). IsResolvedIn s.senses s.usages s.names ns (length s.names) (bare_item x) r) own (resolved_at PREDEFINED m well k x r there at) in
      by_clause (bare_item x) fits is
    where
      silent : r.role ≡ roles.Silent → IsReadByKind m.resolved r
      silent e kinds given =
          subst (λ (role : Role). role_with kinds (role_content role) ≡ role_content role) (sym e)
          refl

      by_clause : (c : BareItem)
          → IsFitItem (seen k) (names_after (seen k).senses (seen k).names k c) c
          → IsResolvedIn (seen k).senses (seen k).usages (seen k).names
          (names_after (seen k).senses (seen k).names k c) (length (seen k).names) c r
          → IsReadByKind m.resolved r
      by_clause (Group true bs) fits is =
          group_read m.resolved (seen k).senses (seen k).usages (with_own (seen k).names k 0 bs)
          (length (seen k).names) (own_sight k x bs there) true bs r fits is
      by_clause (Group false bs) fits is =
          group_read m.resolved (seen k).senses (seen k).usages (seen k).names
          (length (seen k).names) (plain_sight k x there) false bs r fits is
      by_clause (Check w e) fits is =
          check_read m.resolved (seen k).senses (seen k).usages (seen k).names
          (length (seen k).names) (plain_sight k x there) w e r fits is
      by_clause Mute fits is = silent is.0
      by_clause (Defined n ps b) fits is = silent is.0

as_many : (xs : List Item) (rs : List ResolvedItem) → AreLabelledAs xs rs
    → length rs ≡ length xs
as_many [] [] h = refl
as_many [] (r ∷ rs) h = absurd h
as_many (x ∷ xs) [] h = absurd h
as_many (x ∷ xs) (r ∷ rs) h = ap suc (as_many xs rs h.1)

pub read_by_kind : (model : ModelText) → AreReadByKind model
read_by_kind model items none are k r at =
    let xs = model.items.items in
    let m : ReadModel = record { numbers = count_from 0 xs; items = xs; resolved = items } in
    let long = as_many xs items are.1 in
    let well : IsReadModel (outer_namings PREDEFINED) m = record {
      numbered = counted_many 0 xs;
      apart = λ a b number h g. (
          let left = counted_at 0 xs a number h in
          let right = counted_at 0 xs b number g in omega (arith, left, right));
      whole = long;
      no_fault = none;
      as_resolved = are.0;
      labelled = are.1;
    } in
    let x = beside items xs k r (sym long) at in
    item_read m well k x.0 r x.1 at
