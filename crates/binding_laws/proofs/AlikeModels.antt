-- Items of one text at any indices of two models do the same.
use Rattle.std.proofs.Common.{ℕ, ◌≡◌, ◌+◌, zero, suc, List, [], ◌∷◌, length, map, Bool, Option, Some, None, sym, ap, subst}
use Rattle.std.specs.Prelude.{slice_get, unwrap_or}
use Rattle.text_values.specs.declared.model.Item.{Item}
use Rattle.text_values.specs.declared.model.Item.TheVariants as items
use Rattle.text_values.specs.declared.model.ModelText.{ModelText}
use Rattle.binding_kinds.specs.Value.{Naming, BareItem, bare_item}
use Rattle.binding_graph.specs.declared.resolved.ResolvedItem.{ResolvedItem}
use Rattle.binding_graph.specs.Resolved.{IsResolvedIn, AreResolved, IsLabelled, IsLabelledAs, AreLabelledAs}
use Rattle.binding_laws.specs.ItemLaws.{Scope, Pairing, IsItem, IsItemAt, HasSameNamesAt, DoTheSame, label_of, SayTheSame, scope_after, scope_at, own_at, first_scope, HaveAlikeItems}
use Rattle.binding_laws.proofs.AlikeItems.{alike_items}

-- ---- items of one text

abbrev IsLabelledBy : Option (Bool × Option (List ℕ)) → ResolvedItem → Type 0
IsLabelledBy None r = Unit {0}
IsLabelledBy (Some l) r = IsLabelled l.0 l.1 r.role

label_read : (x : Item) (r : ResolvedItem) → IsLabelledAs x r → IsLabelledBy (label_of x) r
label_read (items.Let a g) r h = tt
label_read (items.Function n ps b) r h = tt
label_read (items.Check c l) r h = h
label_read (items.Flag c l) r h = h
label_read (items.Show f s) r h = tt
label_read (items.Include n) r h = tt

label_given : (x : Item) (r : ResolvedItem) → IsLabelledBy (label_of x) r → IsLabelledAs x r
label_given (items.Let a g) r h = tt
label_given (items.Function n ps b) r h = tt
label_given (items.Check c l) r h = h
label_given (items.Flag c l) r h = h
label_given (items.Show f s) r h = tt
label_given (items.Include n) r h = tt

item_moved : (s : Scope) (own : List Naming) (from : ℕ) (x y : Item) (r : ResolvedItem)
    → SayTheSame x y → IsItem s own from y r → IsItem s own from x r
item_moved s own from x y r e h = (
  subst (λ (c : BareItem). IsResolvedIn s.senses s.usages s.names own from c r) (sym e.0) h.0,
  label_given x r (subst (λ (l : Option (Bool × Option (List ℕ))). IsLabelledBy l r) (sym e.1)
      (label_read y r h.1)),
)

-- ---- the item of an index

pub item_at : (s : Scope) (at : ℕ) (xs : List Item) (rs : List ResolvedItem) (k : ℕ) (x : Item)
    (r : ResolvedItem) → AreResolved s.senses s.usages s.names at (map bare_item xs) rs
    → AreLabelledAs xs rs → slice_get xs k ≡ Some x → slice_get rs k ≡ Some r
    → IsItem (scope_at s at xs k) (own_at s at xs k) (length (scope_at s at xs k).names) x r
item_at s at [] rs k x r h l is_x is_r = absurd (let n : None ≡ Some x = is_x in cc)
item_at s at (y ∷ ys) [] k x r h l is_x is_r = absurd h
item_at s at (y ∷ ys) (q ∷ qs) zero x r h l is_x is_r =
    let text : y ≡ x = ap (λ (o : Option Item). unwrap_or o y) is_x in
    let item : q ≡ r = ap (λ (o : Option ResolvedItem). unwrap_or o q) is_r in
    let own = own_at s at (y ∷ ys) zero in
    let here : IsItem s own (length s.names) y q = (h.0, l.0) in
    let same_item : IsItem s own (length s.names) x q = subst (λ (z : Item). IsItem s own (length s.names) z q) text here in
    subst (λ (p : ResolvedItem). IsItem s own (length s.names) x p) item same_item
item_at s at (y ∷ ys) (q ∷ qs) (suc k) x r h l is_x is_r =
    item_at (scope_after s at y) (at + 1) ys qs k x r h.1 l.1 is_x is_r

-- the items of these indices, which say the same, as items of the first text
pub record AreItems (names more : List Naming) (model other : List Item) (k l : ℕ) (x : Item)
    (r q : ResolvedItem) : Type 0 where
  pub left : IsItem (scope_at (first_scope names) 0 model k)
      (own_at (first_scope names) 0 model k)
      (length (scope_at (first_scope names) 0 model k).names) x r
  pub right : IsItem (scope_at (first_scope more) 0 other l) (own_at (first_scope more) 0 other l)
      (length (scope_at (first_scope more) 0 other l).names) x q

pub are_items : (model other : List Item) (names more : List Naming)
    (resolved others : List ResolvedItem) (k l : ℕ) (x y : Item) (r q : ResolvedItem)
    → IsItemAt names model resolved k x r → IsItemAt more other others l y q → SayTheSame x y
    → AreItems names more model other k l x r q
are_items model other names more resolved others k l x y r q h g e = record {
  left = item_at (first_scope names) 0 model resolved k x r h.all h.labels h.text h.item;
  right =
      item_moved (scope_at (first_scope more) 0 other l) (own_at (first_scope more) 0 other l)
      (length (scope_at (first_scope more) 0 other l).names) x y q e
      (item_at (first_scope more) 0 other others l y q g.all g.labels g.text g.item);
}

pub alike_at : (model other : List Item) (p : Pairing) (names more : List Naming)
    (resolved others : List ResolvedItem) (k l : ℕ) (x y : Item) (r q : ResolvedItem)
    → IsItemAt names model resolved k x r → IsItemAt more other others l y q → SayTheSame x y
    → HasSameNamesAt p names more model other k l x → DoTheSame p r q
alike_at model other p names more resolved others k l x y r q h g e same =
    let s = scope_at (first_scope names) 0 model k in
    let o = scope_at (first_scope more) 0 other l in
    let own = own_at (first_scope names) 0 model k in
    let owned = own_at (first_scope more) 0 other l in
    let both = are_items model other names more resolved others k l x y r q h g e in
    alike_items x p s o own owned (length s.names) (length o.names) r q same.pairing same.same
    both.left both.right

pub alike_in_models : (model other : ModelText) → HaveAlikeItems model other
alike_in_models model other = alike_at model.items.items other.items.items
