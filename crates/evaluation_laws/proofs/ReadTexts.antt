-- Items with one text.
use Rattle.std.proofs.Common.{ℕ, ◌≡◌, List, [], ◌∷◌, map, Bool, Option, Some, None, refl, sym, ap, ◌∙◌, subst}
use Rattle.text_values.specs.declared.model.Binding.{Binding}
use Rattle.text_values.specs.declared.model.Item.{Item}
use Rattle.text_values.specs.declared.model.Item.TheVariants as items
use Rattle.text_values.specs.ModelValue.{Term}
use Rattle.text_values.specs.ModelValue as value
use Rattle.text_values.specs.ModelValues as values
use Rattle.binding_kinds.specs.Value.{Bound, BareItem, Group, Check, Mute, Defined, bound_value_of, bare_item}
use Rattle.binding_graph.specs.declared.resolved.ResolvedItem.{ResolvedItem}
use Rattle.binding_graph.specs.Resolved.{IsLabelled, IsLabelledAs}
use Rattle.binding_laws.specs.ItemLaws.{label_of, SayTheSame}

abbrev to_bound : List ℕ × Term → Bound
to_bound b = record { name = b.0; body = b.1 }

abbrev to_clause : value.Clause → BareItem
to_clause (value.Binding r g) = Group r (map to_bound g)
to_clause (value.Function n ps b) = Defined n ps b
to_clause (value.Checking c l) = Check c.word c.body
to_clause (value.Flagging c l) = Check c.word c.body
to_clause (value.Showing h s) = Mute
to_clause (value.Including p) = Mute

abbrev to_label : value.Clause → Option (Bool × Option (List ℕ))
to_label (value.Binding r g) = None
to_label (value.Function n ps b) = None
to_label (value.Checking c l) = Some (c.negated, None)
to_label (value.Flagging c l) = Some (c.negated, Some l)
to_label (value.Showing h s) = None
to_label (value.Including p) = None

bounds_read : (bs : List Binding) → map to_bound (map values.binding_of bs) ≡ map bound_value_of bs
bounds_read [] = refl
bounds_read (b ∷ bs) = λ i. bound_value_of b ∷ bounds_read bs i

clause_read : (x : Item) → to_clause (values.clause_of x) ≡ bare_item x
clause_read (items.Let r g) = ap (λ (bs : List Bound). Group r bs) (bounds_read g.items)
clause_read (items.Function n ps b) = refl
clause_read (items.Check c l) = refl
clause_read (items.Flag c l) = refl
clause_read (items.Show h s) = refl
clause_read (items.Include p) = refl

label_read : (x : Item) → to_label (values.clause_of x) ≡ label_of x
label_read (items.Let r g) = refl
label_read (items.Function n ps b) = refl
label_read (items.Check c l) = refl
label_read (items.Flag c l) = refl
label_read (items.Show h s) = refl
label_read (items.Include p) = refl

-- items with equal texts say the same
pub same_text : (x y : Item) → values.clause_of x ≡ values.clause_of y → SayTheSame x y
same_text x y e = (
  sym (clause_read x) ∙ (ap to_clause e ∙ clause_read y),
  sym (label_read x) ∙ (ap to_label e ∙ label_read y),
)

abbrev IsLabelledBy : Option (Bool × Option (List ℕ)) → ResolvedItem → Type 0
IsLabelledBy None r = Unit {0}
IsLabelledBy (Some l) r = IsLabelled l.0 l.1 r.role

label_taken : (x : Item) (r : ResolvedItem) → IsLabelledAs x r → IsLabelledBy (label_of x) r
label_taken (items.Let a g) r h = tt
label_taken (items.Function n ps b) r h = tt
label_taken (items.Check c l) r h = h
label_taken (items.Flag c l) r h = h
label_taken (items.Show f s) r h = tt
label_taken (items.Include n) r h = tt

label_given : (x : Item) (r : ResolvedItem) → IsLabelledBy (label_of x) r → IsLabelledAs x r
label_given (items.Let a g) r h = tt
label_given (items.Function n ps b) r h = tt
label_given (items.Check c l) r h = h
label_given (items.Flag c l) r h = h
label_given (items.Show f s) r h = tt
label_given (items.Include n) r h = tt

pub label_moved : (x y : Item) (r : ResolvedItem) → label_of x ≡ label_of y → IsLabelledAs y r
    → IsLabelledAs x r
label_moved x y r e h =
    label_given x r (subst (λ (l : Option (Bool × Option (List ℕ))). IsLabelledBy l r) (sym e)
    (label_taken y r h))
