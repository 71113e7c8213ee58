-- Items that are written alike say the same, and the text of an item is that of its number.
use Rattle.std.proofs.Common.{ℕ, zero, suc, ◌≡◌, Bool, inl, inr, List, [], ◌∷◌, map, Option, Some, None, slice_get, refl, sym, ap, ◌∙◌}
use Rattle.std.specs.Option.{option_or}
use Rattle.std.proofs.lemmas.Bool.Decides.{eqb_tells}
use Rattle.std.proofs.lemmas.Option.{none-some, same_Some}
use Rattle.text_values.specs.declared.model.Binding as code_binding
use Rattle.text_values.specs.declared.model.Item.{Item}
use Rattle.text_values.specs.declared.model.Item.TheVariants as items
use Rattle.text_values.specs.ModelValue as texts
use Rattle.text_values.specs.ModelValue.{Term, Binding, Function, Checking, Flagging, Showing, Including}
use Rattle.text_values.specs.ModelValues.{binding_of, clause_of}
use Rattle.binding_kinds.specs.Value as outlines
use Rattle.binding_kinds.specs.Value.{Bound, Group, Check, Mute, Defined, bound_value_of, bare_item as outline_of}
use Rattle.memo_core.specs.Step.{Has}
use Rattle.binding_laws.specs.ItemLaws.{label_of, SayTheSame}
use Rattle.bench_parts.specs.Contents.{PartContent, OfText}
use Rattle.bench_parts.specs.Written.{WrittenModel, WrittenState, StandsAt, IsWholeState, text_in, item_text}

-- ---- what a clause tells

abbrev bound_by : List ℕ × Term → Bound
bound_by b = record { name = b.0; body = b.1 }

abbrev outline_by : texts.Clause → outlines.BareItem
outline_by (Binding recursive group) = Group recursive (map bound_by group)
outline_by (Function name parameters body) = Defined name parameters body
outline_by (Checking check label) = Check check.word check.body
outline_by (Flagging check label) = Check check.word check.body
outline_by (Showing hidden shown) = Mute
outline_by (Including path) = Mute

bounds_are : (bs : List code_binding.Binding) → map bound_by (map binding_of bs) ≡ map bound_value_of bs
bounds_are [] = refl
bounds_are (b ∷ bs) = ap (λ (l : List Bound). bound_value_of b ∷ l) (bounds_are bs)

outline_is : (x : Item) → outline_by (clause_of x) ≡ outline_of x
outline_is (items.Let recursive group) = ap (Group recursive) (bounds_are group.items)
outline_is (items.Function name parameters body) = refl
outline_is (items.Check check label) = refl
outline_is (items.Flag check label) = refl
outline_is (items.Show hidden shown) = refl
outline_is (items.Include path) = refl

abbrev label_by : texts.Clause → Option (Bool × Option (List ℕ))
label_by (Binding recursive group) = None
label_by (Function name parameters body) = None
label_by (Checking check label) = Some (check.negated, None)
label_by (Flagging check label) = Some (check.negated, Some label)
label_by (Showing hidden shown) = None
label_by (Including path) = None

label_is : (x : Item) → label_by (clause_of x) ≡ label_of x
label_is (items.Let recursive group) = refl
label_is (items.Function name parameters body) = refl
label_is (items.Check check label) = refl
label_is (items.Flag check label) = refl
label_is (items.Show hidden shown) = refl
label_is (items.Include path) = refl

pub say_same : (x y : Item) → clause_of x ≡ clause_of y → SayTheSame x y
say_same x y e = (
  sym (outline_is x) ∙ ap outline_by e ∙ outline_is y,
  sym (label_is x) ∙ ap label_by e ∙ label_is y,
)

-- ---- the text of a number

record IsTextAt (ns : List ℕ) (xs : List Item) (number : ℕ) (p : PartContent) : Type 0 where
  pub index : ℕ
  pub item : Item
  pub stands : slice_get ns index ≡ Some number
  pub text : slice_get xs index ≡ Some item
  pub is : p ≡ OfText (clause_of item)

text_found : (ns : List ℕ) (xs : List Item) (number : ℕ) (p : PartContent)
    → text_in ns xs number ≡ Some p → IsTextAt ns xs number p
text_found [] xs number p e = absurd (none-some p e)
text_found (n ∷ ns) [] number p e = absurd (none-some p e)
text_found (n ∷ ns) (x ∷ xs) number p e = elim (eqb_tells n number) [
  | inl same ↦ record {
    index = 0;
    item = x;
    stands = ap (λ (k : ℕ). Some k) same.1;
    text = refl;
    is = sym (same_Some _ _ (rw same.0 at e));
  }
  | inr other ↦ (
      let later = text_found ns xs number p (rw other.0 at e) in
      record { index = suc later.index; item = later.item; stands = later.stands; text = later.text; is = later.is })
]

text_there : (ns : List ℕ) (xs : List Item) (number index : ℕ) (x : Item)
    → slice_get ns index ≡ Some number → slice_get xs index ≡ Some x
    → (p : PartContent) × (text_in ns xs number ≡ Some p)
text_there [] xs number index x at text = absurd (none-some number at)
text_there (n ∷ ns) [] number index x at text = absurd (none-some x text)
text_there (n ∷ ns) (y ∷ ys) number index x at text = elim (eqb_tells n number) [
  | inl same ↦ (OfText (clause_of y), rw same.0 refl)
  | inr other ↦ (let later = past index at text other.1 (λ k. text_there ns ys number k x) in
      (later.0, rw other.0 later.1))
]
  where
    past : (index : ℕ) → slice_get (n ∷ ns) index ≡ Some number → slice_get (y ∷ ys) index ≡ Some x
        → (n ≡ number → ⊥)
        → ((k : ℕ) → slice_get ns k ≡ Some number → slice_get ys k ≡ Some x
        → (p : PartContent) × (text_in ns ys number ≡ Some p))
        → (p : PartContent) × (text_in ns ys number ≡ Some p)
    past zero at text unlike later = absurd (unlike (same_Some _ _ at))
    past (suc k) at text unlike later = later k at text

record IsItemText (ms : List WrittenModel) (number : ℕ) (p : PartContent) : Type 0 where
  pub model : WrittenModel
  pub there : Has ms model
  pub text : text_in model.numbers model.items number ≡ Some p

item_found : (ms : List WrittenModel) (number : ℕ) (p : PartContent) → item_text ms number ≡ Some p
    → IsItemText ms number p
item_found [] number p e = absurd (none-some p e)
item_found (m ∷ ms) number p e =
    by_text (text_in m.numbers m.items number) refl e (item_found ms number p)
  where
    by_text : (o : Option PartContent) → text_in m.numbers m.items number ≡ o
        → option_or o (item_text ms number) ≡ Some p
        → (item_text ms number ≡ Some p → IsItemText ms number p) → IsItemText (m ∷ ms) number p
    by_text (Some q) is e more = record { model = m; there = inl refl; text = is ∙ e }
    by_text None is e more =
        let later = more e in
        record { model = later.model; there = inr later.there; text = later.text }

item_there : (ms : List WrittenModel) (m : WrittenModel) (number : ℕ) (p : PartContent) → Has ms m
    → text_in m.numbers m.items number ≡ Some p → (q : PartContent) × (item_text ms number ≡ Some q)
item_there [] m number p h e = absurd h
item_there (n ∷ ms) m number p h e =
    by_text (text_in n.numbers n.items number) refl h (λ later. item_there ms m number p later e)
  where
    by_text : (o : Option PartContent) → text_in n.numbers n.items number ≡ o → Has (n ∷ ms) m
        → (Has ms m → (q : PartContent) × (item_text ms number ≡ Some q))
        → (q : PartContent) × (option_or o (item_text ms number) ≡ Some q)
    by_text (Some q) is h more = (q, refl)
    by_text None is (inl same) more =
        absurd (none-some p (sym is
        ∙ ap (λ (k : WrittenModel). text_in k.numbers k.items number) same ∙ e))
    by_text None is (inr later) more = more later

-- the part of an item that is there holds its text
pub text_known : (w : WrittenState) (whole : IsWholeState w) (m : WrittenModel) (index number : ℕ)
    (x : Item) → Has w.models m → StandsAt m index number → slice_get m.items index ≡ Some x
    → item_text w.models number ≡ Some (OfText (clause_of x))
text_known w whole m index number x there at text =
    let own = text_there m.numbers m.items number index x at text in
    let all = item_there w.models m number own.0 there own.1 in
    let found = item_found w.models number all.0 all.1 in
    let stands = text_found found.model.numbers found.model.items number all.0 found.text in
    let one = whole.apart found.model m stands.index index number found.there there stands.stands at in
    let here : slice_get m.items index ≡ Some stands.item = sym (ap (λ (k : WrittenModel). slice_get k.items index) one.0) ∙ sym (ap (λ (i : ℕ). slice_get found.model.items i) one.1) ∙ stands.text in
    let same : stands.item ≡ x = same_Some _ _ (sym here ∙ text) in
    all.1
    ∙ ap (λ (p : PartContent). Some p)
    (stands.is ∙ ap (λ (y : Item). OfText (clause_of y)) same)
