-- One more name of a group, and one more function.
use Rattle.std.proofs.Common.{ℕ, ◌≡◌, ◌<◌, ◌+◌, List, [], ◌∷◌, ◌++◌, length, map, reverse, drop, get_or, refl, add-one}
use Rattle.std.proofs.Math.Seq.{drop-cons}
use Rattle.text_values.specs.declared.model.Binding.{Binding}
use Rattle.binding_kinds.specs.declared.scope.Entry.{Entry}
use Rattle.binding_kinds.specs.declared.scope.Binder.TheVariants as binders
use Rattle.std.specs.Prelude.{Option, Some, None, is_some, true, false}
use Rattle.binding_kinds.specs.declared.fault.ModelFault.{ModelFault}
use Rattle.binding_kinds.specs.declared.function.Function.{Function}
use Rattle.binding_kinds.specs.declared.kinds.Kind.TheVariants.{OfAny}
use Rattle.text_values.specs.ModelValues.{term_of}
use Rattle.binding_kinds.specs.Value.{Naming, entry_of, bound_value_of}
use Rattle.binding_kinds.specs.Senses.{Sense, HasSense, HaveSenses, kind_in}
use Rattle.binding_kinds.specs.Verdict.{or_else, of_parameter, of_parameters}
use Rattle.binding_kinds.proofs.Applications.{kept_long, kept_more}
use Rattle.fault_texts.specs.Search.{signed_fault, or_later, first_fault_in_parameters}
use Rattle.binding_kinds.specs.Faults.{with_all}
use Rattle.binding_kinds.proofs.Scopes.{rev_push}

-- one more name whose body sees the outer names
pub all_more : (ss : List Sense) (outer : List Naming) (g : List Binding) (i item : ℕ) (d : Binding)
    (s : List Entry) (e : Entry) → i < length g → e.name ≡ (get_or g i d).name
    → e.kind ≡ kind_in ss outer (term_of (get_or g i d).body)
    → e.binder ≡ binders.Bound (record { item = item; position = i })
    → with_all ss outer (reverse (map entry_of s)) item i (map bound_value_of (drop i g))
    ≡ with_all ss outer (reverse (map entry_of (s ++ e ∷ []))) item (i + 1)
    (map bound_value_of (drop (i + 1) g))
all_more ss outer g i item d s e lt name k b =
    rw (drop-cons g i d lt, rev_push entry_of s e, name, k, b, add-one i) refl

pub named_more : (es new : List Entry) (e : Entry) (fs : List Function) (ss : List Sense) (n : ℕ)
    → HaveSenses fs ss → n ≡ length fs → new ≡ es ++ e ∷ [] → e.kind ≡ OfAny
    → e.binder ≡ binders.Applicable n
    → (
    let m : Naming =
    record { name = e.name; kind = OfAny; binder = binders.Applicable (length ss) } in
    reverse (map entry_of new) ≡ m ∷ reverse (map entry_of es))
named_more es new e fs ss n kept count is kind binder =
    rw (is, rev_push entry_of es e, kind, binder, count, kept_long fs ss kept) refl

pub functions_more : (fs new : List Function) (ss : List Sense) (f : Function) (s : Sense)
    → HaveSenses fs ss → new ≡ fs ++ f ∷ [] → HasSense f s → HaveSenses new (ss ++ s ∷ [])
functions_more fs new ss f s kept is one = rw is (kept_more fs ss f s kept one)

-- no fault, where none is found
pub none_of : {A : Type 0} (o : Option A) → is_some o ≡ false → o ≡ None
none_of None e = refl
none_of (Some k) e = absurd (let f : true ≡ false = e in cc)

-- parameters of which none is at fault are at most eight
pub no_parameter : (earlier ps : List (List ℕ)) → first_fault_in_parameters earlier ps ≡ None
    → of_parameters earlier ps ≡ None
no_parameter earlier [] e = refl
no_parameter earlier (p ∷ ps) e =
    at_fault (of_parameter earlier p) (no_parameter (p ∷ earlier) ps) e
  where
    at_fault : (o : Option ModelFault)
        → (first_fault_in_parameters (p ∷ earlier) ps ≡ None
        → of_parameters (p ∷ earlier) ps ≡ None)
        → or_later (signed_fault o p) (first_fault_in_parameters (p ∷ earlier) ps) ≡ None
        → or_else o (of_parameters (p ∷ earlier) ps) ≡ None
    at_fault None rest h = rest h
    at_fault (Some k) rest h = absurd cc
