-- What others see of the names of a model that is read well.
use Rattle.std.proofs.Common.{ℕ, ◌≡◌, ◌+◌, zero, suc, List, [], ◌∷◌, length, map, Bool, true, false, Option, Some, refl, sym, ap, ◌∙◌, subst, inr, arith}
use Rattle.std.specs.Prelude.{◌==◌, slice_get, option_map, if◌then◌else◌}
use Rattle.std.specs.List.{AllByRecursion as Each}
use Rattle.std.proofs.lemmas.Option.{none-some, same_Some}
use Rattle.text_values.specs.declared.model.Item.{Item}
use Rattle.predefined_names.specs.declared.predefined.Predefined.{Predefined}
use Rattle.binding_kinds.specs.declared.fault.ModelFault.{ModelFault}
use Rattle.binding_kinds.specs.declared.kinds.Kind.{Kind}
use Rattle.binding_kinds.specs.declared.scope.Input.{Input}
use Rattle.binding_kinds.specs.declared.scope.Used.{Used}
use Rattle.binding_kinds.specs.Value.{Naming, Bound, BareItem, Group, Check, Mute, Defined, bare_item}
use Rattle.binding_kinds.specs.Outermost.{naming_of}
use Rattle.binding_kinds.specs.Senses.{Sense}
use Rattle.binding_kinds.specs.Faults.{IsFaultOfItem, names_after}
use Rattle.binding_graph.specs.declared.resolved.Body.{Body}
use Rattle.binding_graph.specs.declared.resolved.ResolvedItem.{ResolvedItem}
use Rattle.binding_graph.specs.declared.resolved.Role.{Role}
use Rattle.binding_graph.specs.declared.resolved.Role.TheVariants as roles
use Rattle.binding_graph.specs.Resolved.{AreBodies, IsGroupRole, IsResolvedIn}
use Rattle.binding_graph.specs.Usages.{Usage, with_values}
use Rattle.binding_laws.specs.ItemLaws.{Scope, scope_with_names, first_scope}
use Rattle.binding_laws.specs.Reread.{ReadModel, HasNumber, outer_namings, IsReadModel, bodies_of, seen_at}
use Rattle.binding_laws.proofs.AlikeModels.{item_at}
use Rattle.binding_laws.proofs.Lists.{each_reverse}
use Rattle.binding_laws.proofs.Told.{told}
use Rattle.binding_laws.proofs.Placed.{sees, next_names, own_names, IsInput}
use Rattle.binding_laws.proofs.Named.{HasNames}
use Rattle.binding_laws.proofs.Sound.{sound_term, sound_group, sound_body}
use Rattle.binding_laws.proofs.Whole.{IsOuter, HasCounts, counts_at, no_fault_at}
use Rattle.binding_laws.proofs.Known.{group_apart}

-- ---- lists of one length

pub beside : {X Y : Type 0} (xs : List X) (ys : List Y) (k : ℕ) (x : X) → length ys ≡ length xs
    → slice_get xs k ≡ Some x → (y : Y) × (slice_get ys k ≡ Some y)
beside [] ys k x e h = absurd (none-some x h)
beside (z ∷ xs) [] k x e h = absurd (omega (arith, e))
beside (z ∷ xs) (y ∷ ys) zero x e h = (y, refl)
beside (z ∷ xs) (y ∷ ys) (suc k) x e h = beside xs ys k x (omega (arith, e)) h

-- ---- the names that the first item sees

told_each : (P : Naming → Type 0) (names : List Naming) (slot : ℕ) (n : Naming) → Each P names
    → told names slot ≡ Some n → P n
told_each P [] slot n h e = absurd (none-some n e)
told_each P (m ∷ ms) slot n h e = at_test (λ f. told_each P ms slot n h.1 f) (length ms == slot) e
  where
    at_test : (told ms slot ≡ Some n → P n) → (b : Bool)
        → (if b then Some m else told ms slot) ≡ Some n → P n
    at_test rest true f = subst P (same_Some m n f) h.0
    at_test rest false f = rest f

each_outer : (ps : List Predefined) → Each IsOuter (map naming_of ps)
each_outer [] = tt
each_outer (p ∷ ps) = (record { predefined = p; is = refl }, each_outer ps)

pub outer_names : (ps : List Predefined) (slot : ℕ) (n : Naming) → told (outer_namings ps) slot ≡ Some n
    → IsOuter n
outer_names ps slot n h =
    told_each IsOuter (outer_namings ps) slot n
    (each_reverse IsOuter (map naming_of ps) (each_outer ps)) h

-- ---- the bodies of a group

module _ (ss : List Sense) (us : List Usage) (names : List Naming) (from : ℕ) where
  bodies_seen : (bs : List Bound) (rs : List Body) (vs : List Used) (p : ℕ) (b : Bound)
      → AreBodies ss us names from vs bs rs → slice_get bs p ≡ Some b
      → option_map (λ r. r.name) (slice_get rs p) ≡ Some b.name
  bodies_seen [] rs vs p b h e = absurd (none-some b e)
  bodies_seen (c ∷ bs) [] vs p b h e = absurd h
  bodies_seen (c ∷ bs) (r ∷ rs) vs zero b h e =
      let same : c ≡ b = same_Some c b e in
      let name : r.name ≡ c.name = h.0 in
      ap (λ (s : List ℕ). Some s) (name ∙ ap (λ (d : Bound). d.name) same)
  bodies_seen (c ∷ bs) (r ∷ rs) vs (suc p) b h e =
      bodies_seen bs rs (with_values us names [] from c.body vs) p b h.2 e

  role_seen : (recursive : Bool) (bs : List Bound) (role : Role) (p : ℕ) (b : Bound)
      → IsGroupRole ss us names from recursive bs role → slice_get bs p ≡ Some b
      → option_map (λ r. r.name) (slice_get (bodies_of role) p) ≡ Some b.name
  role_seen recursive bs (roles.Group r bodies) p b h e = bodies_seen bs bodies.items [] p b h.1 e
  role_seen recursive bs (roles.Check c) p b h e = absurd h
  role_seen recursive bs roles.Silent p b h e = absurd h

abbrev bounds_of : BareItem → List Bound
bounds_of (Group r bs) = bs
bounds_of (Check w e) = []
bounds_of Mute = []
bounds_of (Defined n ps b) = []

-- ---- names that are expected

-- each name of an item stands for something of its sort: the bodies of a recursive group see its
-- own names too
abbrev pub HasNamesIn : Scope → List Naming → BareItem → Type 0
HasNamesIn s own (Group true bs) = Each (λ b. HasNames (scope_with_names s own) [] b.body) bs
HasNamesIn s own (Group false bs) = Each (λ b. HasNames s [] b.body) bs
HasNamesIn s own (Check w e) = HasNames s [] e
HasNamesIn s own Mute = Unit {0}
HasNamesIn s own (Defined n ps b) = HasNames s ps b

sound_item : (s : Scope) (at : ℕ) (c : BareItem) → HasCounts s
    → ((i : ℕ) (k : ModelFault) → IsFaultOfItem s.senses s.names at c i k → ⊥)
    → HasNamesIn s (names_after s.senses s.names at c) c
sound_item s at (Group true bs) counts none =
    sound_group (scope_with_names s (names_after s.senses s.names at (Group true bs))) counts
    (length s.names) true [] bs none
sound_item s at (Group false bs) counts none =
    sound_group s counts (length s.names) false [] bs none
sound_item s at (Check w e) counts none =
    sound_term s counts (length s.names) false e (λ i k f. none (1 + i) k (inr (i, refl, f)))
sound_item s at Mute counts none = tt
sound_item s at (Defined n ps b) counts none =
    sound_body s counts ps b (λ i k f. none (length ps + i) k (inr (i, refl, f)))

-- ---- models

module _ (ps : List Predefined) (m : ReadModel) (well : IsReadModel (outer_namings ps) m) where
  abbrev pub seen_by : ℕ → Scope
  seen_by k = sees (outer_namings ps) m.items k

  pub faultless : (k : ℕ) (x : Item) → slice_get m.items k ≡ Some x → (i : ℕ) (l : ModelFault)
      → IsFaultOfItem (seen_by k).senses (seen_by k).names k (bare_item x) i l → ⊥
  faultless k x h i l f =
      let left : k ≡ 0 + k = omega arith in
      no_fault_at (first_scope (outer_namings ps)) 0 m.items k x well.no_fault h i l
      (subst (λ (n : ℕ). IsFaultOfItem (seen_by k).senses (seen_by k).names n (bare_item x) i l)
      left f)

  pub own_is : (k : ℕ) (x : Item) → slice_get m.items k ≡ Some x
      → names_after (seen_by k).senses (seen_by k).names k (bare_item x) ≡ (seen_by (suc k)).names
  own_is k x h =
      let left : k ≡ 0 + k = omega arith in
      ap (λ (n : ℕ). names_after (seen_by k).senses (seen_by k).names n (bare_item x)) left
      ∙ sym (next_names (first_scope (outer_namings ps)) 0 m.items k x h)

  -- the names of an item stand for something
  pub names_expected : (k : ℕ) (x : Item) → slice_get m.items k ≡ Some x
      → HasNamesIn (seen_by k) (seen_by (suc k)).names (bare_item x)
  names_expected k x h =
      subst (λ (own : List Naming). HasNamesIn (seen_by k) own (bare_item x)) (own_is k x h)
      (sound_item (seen_by k) k (bare_item x)
      (counts_at (first_scope (outer_namings ps)) 0 m.items k refl) (faultless k x h))

  pub resolved_at : (k : ℕ) (x : Item) (r : ResolvedItem) → slice_get m.items k ≡ Some x
      → slice_get m.resolved k ≡ Some r
      → IsResolvedIn (seen_by k).senses (seen_by k).usages (seen_by k).names (seen_by (suc k)).names
      (length (seen_by k).names) (bare_item x) r
  resolved_at k x r h g =
      let s = seen_by k in
      subst
      (λ (own : List Naming).
      IsResolvedIn s.senses s.usages s.names own (length s.names) (bare_item x) r)
      (own_names (first_scope (outer_namings ps)) 0 m.items k x h)
      (item_at (first_scope (outer_namings ps)) 0 m.items m.resolved k x r well.as_resolved
      well.labelled h g).0

  -- ---- inputs

  -- what others see of the input
  pub record IsSeenAs (i : Input) (x : List ℕ) : Type 0 where
    pub number : ℕ
    pub has_number : HasNumber m i.item number
    pub seen : seen_at (slice_get m.resolved i.item) i.position ≡ Some x

  group_seen : (k : ℕ) (recursive : Bool) (bs : List Bound) (r : ResolvedItem) (p : ℕ) (b : Bound)
      → (own : List Naming)
      → IsResolvedIn (seen_by k).senses (seen_by k).usages (seen_by k).names own
      (length (seen_by k).names) (Group recursive bs) r → slice_get bs p ≡ Some b
      → option_map (λ c. c.name) (slice_get (bodies_of r.role) p) ≡ Some b.name
  group_seen k true bs r p b own h e =
      let s = seen_by k in
      role_seen s.senses s.usages own (length s.names) true bs r.role p b h.0 e
  group_seen k false bs r p b own h e =
      let s = seen_by k in
      role_seen s.senses s.usages s.names (length s.names) false bs r.role p b h.0 e

  pub input_seen : (i : Input) (x : List ℕ) (kind : Kind) → IsInput (outer_namings ps) m.items i x kind
      → IsSeenAs i x
  input_seen i x kind h =
      let s = seen_by i.item in
      let number = beside m.items m.numbers i.item h.item well.numbered h.there in
      let resolved = beside m.items m.resolved i.item h.item well.whole h.there in
      let is = resolved_at i.item h.item resolved.0 h.there resolved.1 in
      let group : IsResolvedIn s.senses s.usages s.names (seen_by (suc i.item)).names (length s.names) (Group h.recursive h.bounds) resolved.0 =
      subst
      (λ (c : BareItem). IsResolvedIn s.senses s.usages s.names (seen_by (suc i.item)).names
      (length s.names) c resolved.0) h.clause is in
      let seen = group_seen i.item h.recursive h.bounds resolved.0 i.position h.bound (seen_by (suc i.item)).names group h.has_bound in
      record {
        number = number.0;
        has_number = number.1;
        seen =
            ap (λ (o : Option ResolvedItem). seen_at o i.position) resolved.1
            ∙ (seen ∙ (λ d. Some (h.name d)));
      }

  -- two names of an item that are spelt alike are one
  pub input_apart : (i j : Input) (x : List ℕ) (kind other : Kind)
      → IsInput (outer_namings ps) m.items i x kind → IsInput (outer_namings ps) m.items j x other
      → i.item ≡ j.item → i ≡ j
  input_apart i j x kind other h g e =
      let s = seen_by i.item in
      let item : h.item ≡ g.item = same_Some h.item g.item (sym h.there ∙ (ap (slice_get m.items) e ∙ g.there)) in
      let clause : Group g.recursive g.bounds ≡ Group h.recursive h.bounds = sym g.clause ∙ (ap bare_item (sym item) ∙ h.clause) in
      let bounds : g.bounds ≡ h.bounds = ap bounds_of clause in
      let none : (k : ℕ) (l : ModelFault) → IsFaultOfItem s.senses s.names i.item (Group h.recursive h.bounds) k l → ⊥ =
      λ k l f. faultless i.item h.item h.there k l
      (subst (λ (c : BareItem). IsFaultOfItem s.senses s.names i.item c k l) (sym h.clause) f) in
      let position : i.position ≡ j.position = positions h.recursive none h.has_bound (ap (λ (bs : List Bound). slice_get bs j.position) (sym bounds) ∙ g.has_bound) (h.name ∙ sym g.name) in
      λ d. record { item = e d; position = position d }
    where
      positions : (recursive : Bool)
          → ((k : ℕ) (l : ModelFault)
          → IsFaultOfItem (seen_by i.item).senses (seen_by i.item).names i.item
          (Group recursive h.bounds) k l → ⊥)
          → slice_get h.bounds i.position ≡ Some h.bound
          → slice_get h.bounds j.position ≡ Some g.bound → h.bound.name ≡ g.bound.name
          → i.position ≡ j.position
      positions true none a b same =
          group_apart (seen_by i.item).senses
          (names_after (seen_by i.item).senses (seen_by i.item).names i.item (Group true h.bounds))
          (length (seen_by i.item).names) true [] h.bounds i.position j.position h.bound g.bound
          none a b same
      positions false none a b same =
          group_apart (seen_by i.item).senses (seen_by i.item).names (length (seen_by i.item).names)
          false [] h.bounds i.position j.position h.bound g.bound none a b same
