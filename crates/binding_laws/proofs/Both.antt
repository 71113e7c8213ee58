-- What a name stands for in two models: names of items and functions that stand for each other.
use Rattle.std.proofs.Common.{ℕ, ◌≡◌, ◌<◌, ◌≤◌, List, length, Bool, false, Option, Some, None, Contains, refl, sym, ap, ◌∙◌, subst, inl, inr, arith}
use Rattle.std.specs.Prelude.{nat_le, slice_get, option_map}
use Rattle.std.proofs.lemmas.Bool.{cases_Bool, leb-true, leb-false}
use Rattle.std.proofs.lemmas.Option.{none-some, same_Some}
use Rattle.text_values.specs.declared.model.Item.{Item}
use Rattle.predefined_names.specs.declared.predefined.Predefined.{Predefined}
use Rattle.binding_kinds.specs.declared.kinds.Kind.{Kind}
use Rattle.binding_kinds.specs.declared.scope.Binder.{Binder}
use Rattle.binding_kinds.specs.declared.scope.Binder.TheVariants as binders
use Rattle.binding_kinds.specs.declared.scope.Found.{Found}
use Rattle.binding_kinds.specs.declared.scope.Input.{Input}
use Rattle.binding_kinds.specs.Value.{Naming, BareItem, Defined, bare_item}
use Rattle.binding_kinds.specs.Kinds.{found}
use Rattle.binding_kinds.specs.Fits.{IsValue}
use Rattle.binding_laws.specs.ItemLaws.{Pairing, IsSameBinder, IsSameKind, IsSameFound, first_scope, functions_before}
use Rattle.binding_laws.specs.Reread.{ReadModel, HasNumber, outer_namings, IsReadModel, AreInOneOrder, seen_input, seen_function}
use Rattle.binding_laws.proofs.Lists.{pairs_of, HasPartner}
use Rattle.binding_laws.proofs.Told.{told, told_found, found_last, naming_found}
use Rattle.binding_laws.proofs.Placed.{sees, start, slot_of, under_at, IsInput, IsNameOfGroup, input_told, told_input, IsInputAt, input_order, IsFunction, function_told, IsFunctionSeen, told_function, function_order, told_outer}
use Rattle.binding_laws.proofs.Whole.{bound_high, function_high}
use Rattle.binding_laws.proofs.Seen.{beside, outer_names, input_seen, input_apart}

-- the input at the same position is seen as the same, and is a name before that item
abbrev pub HasSameInput : List Predefined → ReadModel → ReadModel → ℕ → List Input → List Input
    → Input → Type 0
HasSameInput ps m w l rs qs i =
    HasPartner (seen_input m) (seen_input w) rs qs (IsNameOfGroup (outer_namings ps) w.items l) i

abbrev pub HasSameFunction : ReadModel → ReadModel → List ℕ → List ℕ → ℕ → Type 0
HasSameFunction m w fs gs f = HasPartner (seen_function m) (seen_function w) fs gs (λ g. Unit {0}) f

-- ---- from one model to the other

module _ (ps : List Predefined) (m w : ReadModel) (well : IsReadModel (outer_namings ps) m)
    (other : IsReadModel (outer_namings ps) w) where
  abbrev in_m : ℕ → List Naming
  in_m k = (sees (outer_namings ps) m.items k).names

  abbrev in_w : ℕ → List Naming
  in_w l = (sees (outer_namings ps) w.items l).names

  -- the inputs are of items of one number, and are spelt alike
  pub record IsSameInput (i j : Input) (x : List ℕ) (kind : Kind) : Type 0 where
    pub number : ℕ
    pub left : HasNumber m i.item number
    pub right : HasNumber w j.item number
    pub input : IsInput (outer_namings ps) w.items j x kind

  pub same_seen : (i j : Input) (x : List ℕ) (kind : Kind) → seen_input m i ≡ seen_input w j
      → IsInput (outer_namings ps) m.items i x kind → (y : List ℕ) (more : Kind)
      → IsInput (outer_namings ps) w.items j y more → IsSameInput i j x more
  same_seen i j x kind e h y more g =
      let a = input_seen ps m well i x kind h in
      let b = input_seen ps w other j y more g in
      let numbers : slice_get m.numbers i.item ≡ slice_get w.numbers j.item = ap (λ (p : Option ℕ × Option (List ℕ)). p.0) e in
      let seen : x ≡ y = same_Some _ _ (sym a.seen ∙ (ap (λ (p : Option ℕ × Option (List ℕ)). p.1) e ∙ b.seen)) in
      record {
        number = a.number;
        left = a.has_number;
        right = sym numbers ∙ a.has_number;
        input = subst (λ (n : List ℕ). IsInput (outer_namings ps) w.items j n more) (sym seen) g;
      }

  -- the functions are items of one number, and have one name
  pub record IsSameFunctionItem (i j : ℕ) (x : List ℕ) : Type 0 where
    pub number : ℕ
    pub left : HasNumber m i number
    pub right : HasNumber w j number
    pub function : IsFunction (outer_namings ps) w.items j x

  clause_there : (o : Option Item) (c : BareItem) → Some c ≡ option_map bare_item o
      → (y : Item) × (o ≡ Some y) × (bare_item y ≡ c)
  clause_there None c e = absurd (none-some c (sym e))
  clause_there (Some y) c e = (y, refl, sym (same_Some c (bare_item y) e))

  pub function_seen : (i j : ℕ) (x : List ℕ) → seen_function m i ≡ seen_function w j
      → IsFunction (outer_namings ps) m.items i x → IsSameFunctionItem i j x
  function_seen i j x e h =
      let number = beside m.items m.numbers i h.item well.numbered h.there in
      let numbers : slice_get m.numbers i ≡ slice_get w.numbers j = ap (λ (p : Option ℕ × Option BareItem). p.0) e in
      let texts : option_map bare_item (slice_get m.items i) ≡ option_map bare_item (slice_get w.items j) = ap (λ (p : Option ℕ × Option BareItem). p.1) e in
      let here : Some (Defined x h.parameters h.body) ≡ option_map bare_item (slice_get m.items i) = (λ d. Some (sym h.clause d)) ∙ ap (option_map bare_item) (sym h.there) in
      let there = clause_there (slice_get w.items j) (Defined x h.parameters h.body) (here ∙ texts) in
      record {
        number = number.0;
        left = number.1;
        right = sym numbers ∙ number.1;
        function =
            record {
              item = there.0;
              there = there.1;
              parameters = h.parameters;
              body = h.body;
              clause = there.2;
            };
      }

  module _ (order : AreInOneOrder m w) (k l number : ℕ) (at_left : HasNumber m k number)
      (at_right : HasNumber w l number) where
    -- what is found in the other model stands no earlier
    pub reach_input : (i j : Input) (x : List ℕ) (kind : Kind) (g : Found) → IsSameInput i j x kind
        → i.item < k → found (in_w l) x ≡ Some g → slot_of (outer_namings ps) w.items j ≤ g.slot
    reach_input i j x kind g h lt e =
        let before = order i.item k j.item l h.number number h.left at_left h.right at_right lt in
        let last = found_last (in_w l) x (slot_of (outer_namings ps) w.items j) _ (input_told (outer_namings ps) w.items j x kind h.input l before) refl in
        let same : last.0 ≡ g = same_Some last.0 g (sym last.1 ∙ e) in
        let slot : last.0.slot ≡ g.slot = ap (λ (f : Found). f.slot) same in
        let low = last.2 in
        omega (arith, low, slot)

    pub reach_function : (i j : ℕ) (x : List ℕ) (g : Found) → IsSameFunctionItem i j x → i < k
        → found (in_w l) x ≡ Some g → start (outer_namings ps) w.items j ≤ g.slot
    reach_function i j x g h lt e =
        let before = order i k j l h.number number h.left at_left h.right at_right lt in
        let last = found_last (in_w l) x (start (outer_namings ps) w.items j) _ (function_told (outer_namings ps) w.items j x h.function l before) refl in
        let same : last.0 ≡ g = same_Some last.0 g (sym last.1 ∙ e) in
        let slot : last.0.slot ≡ g.slot = ap (λ (f : Found). f.slot) same in
        let low = last.2 in
        omega (arith, low, slot)

  -- items of which neither stands before what stands for the other
  pub one_place : AreInOneOrder m w → (i j one two a b : ℕ) → HasNumber m i a → HasNumber w one a
      → HasNumber w j b → HasNumber m two b → one ≤ j → two ≤ i → one ≡ j
  one_place order i j one two a b hi ho hj ht lo lt = elim (cases_Bool (nat_le i two)) [
    | inl t ↦ (
        let le = leb-true i two t in
        let same : two ≡ i = omega (arith, le, lt) in
        let number : a ≡ b = same_Some a b (sym hi ∙ (ap (slice_get m.numbers) (sym same) ∙ ht)) in
        other.apart one j b (ho ∙ ap (λ (n : ℕ). Some n) number) hj
        )
    | inr f ↦ (let less = order two i j one b a ht hi hj ho (leb-false i two f) in
        absurd (omega (arith, less, lo)))
  ]

-- ---- what a name stands for

abbrev predefined_in : Predefined → Binder → Predefined
predefined_in c (binders.Predefined d) = d
predefined_in c (binders.Bound i) = c
predefined_in c (binders.Applicable g) = c

pub same_predefined : (c d : Predefined) → binders.Predefined c ≡ binders.Predefined d → c ≡ d
same_predefined c d e = ap (predefined_in c) e

-- a name that is predefined in both
outer_same : (ps : List Predefined) (m w : ReadModel) (k l : ℕ) (x : List ℕ) (f g : Found)
    → found (sees (outer_namings ps) m.items k).names x ≡ Some f
    → found (sees (outer_namings ps) w.items l).names x ≡ Some g → f.slot < length (outer_namings ps)
    → g.slot < length (outer_namings ps) → f ≡ g
outer_same ps m w k l x f g h e low under =
    let names = outer_namings ps in
    let left : told names f.slot ≡ Some (naming_found x f) = sym ((under_at (first_scope names) 0 m.items k).same f.slot low) ∙ told_found (sees names m.items k).names x f h in
    let right : told names g.slot ≡ Some (naming_found x g) = sym ((under_at (first_scope names) 0 w.items l).same g.slot under) ∙ told_found (sees names w.items l).names x g e in
    let there = found_last (sees names w.items l).names x f.slot (naming_found x f) ((under_at (first_scope names) 0 w.items l).same f.slot low ∙ left) refl in
    let here = found_last (sees names m.items k).names x g.slot (naming_found x g) ((under_at (first_scope names) 0 m.items k).same g.slot under ∙ right) refl in
    let one : there.0.slot ≡ g.slot = ap (λ (d : Found). d.slot) (same_Some there.0 g (sym there.1 ∙ e)) in
    let two : here.0.slot ≡ f.slot = ap (λ (d : Found). d.slot) (same_Some here.0 f (sym here.1 ∙ h)) in
    let up = there.2 in
    let down = here.2 in
    let slot : f.slot ≡ g.slot = omega (arith, one, two, up, down) in
    let naming : naming_found x f ≡ naming_found x g = same_Some _ _ (sym left ∙ (ap (told names) slot ∙ right)) in
    λ d. record {
      slot = slot d;
      kind = (ap (λ (n : Naming). n.kind) naming) d;
      binder = (ap (λ (n : Naming). n.binder) naming) d;
    }

module _ (ps : List Predefined) (m w : ReadModel) (well : IsReadModel (outer_namings ps) m)
    (other : IsReadModel (outer_namings ps) w) (order : AreInOneOrder m w) (back : AreInOneOrder w m)
    (k l number : ℕ) (at_left : HasNumber m k number) (at_right : HasNumber w l number) where
  abbrev names : List Naming
  names = outer_namings ps

  abbrev left_names : List Naming
  left_names = (sees (outer_namings ps) m.items k).names

  abbrev right_names : List Naming
  right_names = (sees (outer_namings ps) w.items l).names

  -- ---- values

  module _ (K L : ℕ) (rs qs : List Input) where
    abbrev IsLeftInput : Input → Type 0
    IsLeftInput = HasSameInput ps m w L rs qs

    abbrev IsRightInput : Input → Type 0
    IsRightInput = HasSameInput ps w m K qs rs

    left_input : (x : List ℕ) (f : Found) (i : Input) → found left_names x ≡ Some f
        → f.binder ≡ binders.Bound i → IsInputAt names m.items k f.slot (naming_found x f) i
    left_input x f i h e =
        let there = told_found left_names x f h in
        told_input names m.items k f.slot (naming_found x f) i there
        (bound_high names m.items (outer_names ps) k f.slot (naming_found x f) i there e) e

    right_input : (x : List ℕ) (g : Found) (j : Input) → found right_names x ≡ Some g
        → g.binder ≡ binders.Bound j → IsInputAt names w.items l g.slot (naming_found x g) j
    right_input x g j h e =
        let there = told_found right_names x g h in
        told_input names w.items l g.slot (naming_found x g) j there
        (bound_high names w.items (outer_names ps) l g.slot (naming_found x g) j there e) e

    -- what the name is in both
    pub record IsBothInput (f g : Found) (i j : Input) : Type 0 where
      pub both : Contains (pairs_of rs qs) (i, j)
      pub left_slot : f.slot ≡ slot_of (outer_namings ps) m.items i
      pub right_slot : g.slot ≡ slot_of (outer_namings ps) w.items j

    input_both : (x : List ℕ) (f g : Found) (i j : Input) → found left_names x ≡ Some f
        → found right_names x ≡ Some g → f.binder ≡ binders.Bound i → g.binder ≡ binders.Bound j
        → IsLeftInput i → IsRightInput j → IsBothInput f g i j
    input_both x f g i j h e fi gj p q =
        let a = left_input x f i h fi in
        let b = right_input x g j e gj in
        let one = same_seen ps m w well other i p.other x f.kind p.same a.input p.holds.name p.holds.kind p.holds.input in
        let two = same_seen ps w m other well j q.other x g.kind q.same b.input q.holds.name q.holds.kind q.holds.input in
        let high = reach_input ps m w well other order k l number at_left at_right i p.other x p.holds.kind g one a.before e in
        let low = reach_input ps w m other well back l k number at_right at_left j q.other x q.holds.kind f two b.before h in
        let up = input_order names w.items p.other j x g.kind b.input (subst (λ (n : ℕ). slot_of names w.items p.other ≤ n) b.place high) in
        let down = input_order names m.items q.other i x f.kind a.input (subst (λ (n : ℕ). slot_of names m.items q.other ≤ n) a.place low) in
        let item = one_place ps m w well other order i.item j.item p.other.item q.other.item one.number two.number one.left one.right two.left two.right up down in
        let same : p.other ≡ j = input_apart ps w other p.other j x p.holds.kind g.kind one.input b.input item in
        record {
          both = subst (λ (d : Input). Contains (pairs_of rs qs) (i, d)) same p.both;
          left_slot = a.place;
          right_slot = b.place;
        }

    -- a predefined name is of no item
    outer_low : (x : List ℕ) (f g : Found) (i : Input) (p : Predefined)
        → found left_names x ≡ Some f → found right_names x ≡ Some g → f.binder ≡ binders.Bound i
        → g.binder ≡ binders.Predefined p → IsLeftInput i → ⊥
    outer_low x f g i p h e fi gp q =
        let a = left_input x f i h fi in
        let one = same_seen ps m w well other i q.other x f.kind q.same a.input q.holds.name q.holds.kind q.holds.input in
        let high = reach_input ps m w well other order k l number at_left at_right i q.other x q.holds.kind g one a.before e in
        let low = told_outer names w.items l g.slot (naming_found x g) p (told_found right_names x g e) gp in
        let under = (under_at (first_scope names) 0 w.items q.other.item).shorter in
        omega (arith, high, low, under)

  -- ---- functions

  module _ (fs gs : List ℕ) where
    abbrev IsLeftFunction : ℕ → Type 0
    IsLeftFunction = HasSameFunction m w fs gs

    abbrev IsRightFunction : ℕ → Type 0
    IsRightFunction = HasSameFunction w m gs fs

    left_function : (x : List ℕ) (f : Found) (a : ℕ) → found left_names x ≡ Some f
        → f.binder ≡ binders.Applicable a
        → IsFunctionSeen names m.items k f.slot (naming_found x f) a
    left_function x f a h e =
        let there = told_found left_names x f h in
        told_function names m.items k f.slot (naming_found x f) a there
        (function_high names m.items (outer_names ps) k f.slot (naming_found x f) a there e) e

    right_function : (x : List ℕ) (g : Found) (b : ℕ) → found right_names x ≡ Some g
        → g.binder ≡ binders.Applicable b
        → IsFunctionSeen names w.items l g.slot (naming_found x g) b
    right_function x g b h e =
        let there = told_found right_names x g h in
        told_function names w.items l g.slot (naming_found x g) b there
        (function_high names w.items (outer_names ps) l g.slot (naming_found x g) b there e) e

    -- the function that the name is in both
    pub function_both : (x : List ℕ) (f g : Found) (a b i j : ℕ) → found left_names x ≡ Some f
        → found right_names x ≡ Some g → f.binder ≡ binders.Applicable a
        → g.binder ≡ binders.Applicable b
        → slice_get (functions_before 0 m.items k) a ≡ Some i
        → slice_get (functions_before 0 w.items l) b ≡ Some j → IsLeftFunction i
        → IsRightFunction j → Contains (pairs_of fs gs) (i, j)
    function_both x f g a b i j h e fa gb ai bj p q =
        let s = left_function x f a h fa in
        let o = right_function x g b e gb in
        let is_i : s.index ≡ i = same_Some s.index i (sym s.number ∙ ai) in
        let is_j : o.index ≡ j = same_Some o.index j (sym o.number ∙ bj) in
        let one = function_seen ps m w well other i p.other x p.same (subst (λ (n : ℕ). IsFunction names m.items n x) is_i s.function) in
        let two = function_seen ps w m other well j q.other x q.same (subst (λ (n : ℕ). IsFunction names w.items n x) is_j o.function) in
        let before_k : i < k = let lt = s.before in omega (arith, is_i, lt) in
        let before_l : j < l = let lt = o.before in omega (arith, is_j, lt) in
        let high = reach_function ps m w well other order k l number at_left at_right i p.other x g one before_k e in
        let low = reach_function ps w m other well back l k number at_right at_left j q.other x f two before_l h in
        let place_g : g.slot ≡ start names w.items j = o.place ∙ ap (start names w.items) is_j in
        let place_f : f.slot ≡ start names m.items i = s.place ∙ ap (start names m.items) is_i in
        let up = function_order names w.items p.other j x (subst (λ (n : ℕ). IsFunction names w.items n x) is_j o.function) (subst (λ (n : ℕ). start names w.items p.other ≤ n) place_g high) in
        let down = function_order names m.items q.other i x (subst (λ (n : ℕ). IsFunction names m.items n x) is_i s.function) (subst (λ (n : ℕ). start names m.items q.other ≤ n) place_f low) in
        let same = one_place ps m w well other order i j p.other q.other one.number two.number one.left one.right two.left two.right up down in
        subst (λ (d : ℕ). Contains (pairs_of fs gs) (i, d)) same p.both

-- ---- values stand for the same

module _ (ps : List Predefined) (m w : ReadModel) (well : IsReadModel (outer_namings ps) m)
    (other : IsReadModel (outer_namings ps) w) (order : AreInOneOrder m w) (back : AreInOneOrder w m)
    (k l number : ℕ) (at_left : HasNumber m k number) (at_right : HasNumber w l number) (K L : ℕ)
    (rs qs : List Input) (p : Pairing)
    (outer_in : (a : ℕ) → a < length (outer_namings ps) → Contains p.slots (a, a))
    (both_in : (i j : Input) → Contains (pairs_of rs qs) (i, j)
    → Contains p.slots (slot_of (outer_namings ps) m.items i, slot_of (outer_namings ps) w.items j)
    × Contains p.inputs (i, j))
    (free : p.kinds ≡ false) where
  any_kind : (f g : Found) → IsSameKind p.kinds f.kind g.kind
  any_kind f g = subst (λ (b : Bool). IsSameKind b f.kind g.kind) (sym free) tt

  pub value_same : (x : List ℕ) (f g : Found)
      → found (sees (outer_namings ps) m.items k).names x ≡ Some f
      → found (sees (outer_namings ps) w.items l).names x ≡ Some g → IsValue f.binder → IsValue g.binder
      → ((i : Input) → f.binder ≡ binders.Bound i → HasSameInput ps m w L rs qs i)
      → ((j : Input) → g.binder ≡ binders.Bound j → HasSameInput ps w m K qs rs j)
      → IsSameFound p f g
  value_same x f g h e vf vg kept more = by_both f.binder g.binder refl refl vf vg
    where
      by_both : (a b : Binder) → f.binder ≡ a → g.binder ≡ b → IsValue a → IsValue b
          → IsSameFound p f g
      by_both (binders.Predefined c) (binders.Predefined d) fa gb va vb =
          let low = told_outer (outer_namings ps) m.items k f.slot (naming_found x f) c (told_found (sees (outer_namings ps) m.items k).names x f h) fa in
          let under = told_outer (outer_namings ps) w.items l g.slot (naming_found x g) d (told_found (sees (outer_namings ps) w.items l).names x g e) gb in
          let same = outer_same ps m w k l x f g h e low under in
          let binder : c ≡ d = same_predefined c d (sym fa ∙ (ap (λ (n : Found). n.binder) same ∙ gb)) in (
            subst (λ (s : ℕ). Contains p.slots (f.slot, s)) (ap (λ (n : Found). n.slot) same)
                (outer_in f.slot low),
            any_kind f g,
            subst (λ (y : Binder). IsSameBinder p y g.binder) (sym fa)
                (subst (λ (y : Binder). IsSameBinder p (binders.Predefined c) y) (sym gb) binder),
          )
      by_both (binders.Predefined c) (binders.Bound j) fa gb va vb =
          absurd (outer_low ps w m other well back order l k number at_right at_left L K qs rs x g f
          j c e h gb fa (more j gb))
      by_both (binders.Bound i) (binders.Predefined d) fa gb va vb =
          absurd (outer_low ps m w well other order back k l number at_left at_right K L rs qs x f g
          i d h e fa gb (kept i fa))
      by_both (binders.Bound i) (binders.Bound j) fa gb va vb =
          let both = input_both ps m w well other order back k l number at_left at_right K L rs qs x f g i j h e fa gb (kept i fa) (more j gb) in
          let inside = both_in i j both.both in (
            subst (λ (s : ℕ). Contains p.slots (f.slot, s)) (sym both.right_slot)
                (subst (λ (s : ℕ). Contains p.slots (s, slot_of (outer_namings ps) w.items j))
                (sym both.left_slot) inside.0),
            any_kind f g,
            subst (λ (y : Binder). IsSameBinder p y g.binder) (sym fa)
                (subst (λ (y : Binder). IsSameBinder p (binders.Bound i) y) (sym gb) inside.1),
          )
      by_both (binders.Applicable c) b fa gb va vb = absurd va
      by_both (binders.Predefined c) (binders.Applicable d) fa gb va vb = absurd vb
      by_both (binders.Bound i) (binders.Applicable d) fa gb va vb = absurd vb
