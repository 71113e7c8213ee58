-- Items of one model stay together over edits.
use Rattle.std.proofs.Common.{ℕ, zero, suc, ◌+◌, ◌≡◌, inl, inr, Bool, List, [], ◌∷◌, refl, sym, subst}
use Rattle.std.specs.List.{flat_map, insert, remove}
use Rattle.memo_core.specs.Step.{Has}
use Rattle.bench_texts.specs.BenchTexts.{BenchTexts, PlainModel, test_index, model_index, put_at, changed_at, with_init, with_thread, with_condition, with_observed, with_items, with_tests, with_models, numbered_items}
use Rattle.bench_texts.specs.Edits.{Edit, PutTest, DropTest, SetInit, SetThread, SetCond, SetLocations, PutModel, DropModel, SetItem, InsertItem, RemoveItem, index_in, index_before, EditMakes, Applies}
use Rattle.bench_text_laws.specs.Orderly.{AreApart, numbers_of, IsOrderly}
use Rattle.bench_text_laws.specs.Order.{AreTogether}
use Rattle.bench_text_laws.proofs.Lists.{has_append, apart_right, apart_cross}
use Rattle.bench_text_laws.proofs.Splices.{has_among}

-- ---- lists of which one element is another

module _ {A : Type 0} (f : A → List ℕ) where
  -- an element of the list has both numbers
  abbrev HasBoth : List A → ℕ → ℕ → Type 0
  HasBoth xs a b = (x : A) × Has xs x × Has (f x) a × Has (f x) b

  -- numbers of one earlier element that the later elements still have are those of one of them
  abbrev StayTogether : List A → List A → Type 0
  StayTogether before after =
      (x : A) (a b : ℕ) → Has before x → Has (f x) a → Has (f x) b → Has (flat_map f after) a
      → Has (flat_map f after) b → HasBoth after a b

  together_same : (xs : List A) → StayTogether xs xs
  together_same xs x a b there ha hb la lb = (x, there, ha, hb)

  -- a number of the first element is none of the others
  not_later : (x y : A) (xs : List A) (n : ℕ) → AreApart (flat_map f (x ∷ xs)) → x ≡ y → Has (f y) n
      → Has (flat_map f xs) n → ⊥
  not_later x y xs n apart e h l =
      apart_cross (f x) (flat_map f xs) n apart (subst (λ z. Has (f z) n) (sym e) h) l

  -- the number is one of the first element, or of the others
  among : (x : A) (xs : List A) (n : ℕ) → (Has (flat_map f xs) n → ⊥) → Has (flat_map f (x ∷ xs)) n
      → Has (f x) n
  among x xs n none h =
      elim (has_append (f x) (flat_map f xs) n h) [ inl m ↦ m | inr m ↦ absurd (none m) ]

  together_first : (x y : A) (xs : List A) → AreApart (flat_map f (x ∷ xs))
      → StayTogether (x ∷ xs) (y ∷ xs)
  together_first x y xs apart z a b there ha hb la lb = elim there [
    | inl e ↦ (
      y,
      inl refl,
      among y xs a (not_later x z xs a apart e ha) la,
      among y xs b (not_later x z xs b apart e hb) lb,
    )
    | inr m ↦ (z, inr m, ha, hb)
  ]

  together_without : (x : A) (xs : List A) → AreApart (flat_map f (x ∷ xs))
      → StayTogether (x ∷ xs) xs
  together_without x xs apart z a b there ha hb la lb = elim there [
    | inl e ↦ absurd (not_later x z xs a apart e ha la)
    | inr m ↦ (z, m, ha, hb)
  ]

  -- a number of a later element is none of the first
  others : (x z : A) (before after : List A) (n : ℕ) → AreApart (flat_map f (x ∷ before))
      → Has before z → Has (f z) n → Has (flat_map f (x ∷ after)) n → Has (flat_map f after) n
  others x z before after n apart there h l = elim (has_append (f x) (flat_map f after) n l) [
    | inl m ↦ absurd (apart_cross (f x) (flat_map f before) n apart m
        (has_among f before z n there h))
    | inr m ↦ m
  ]

  together_later : (x : A) (before after : List A) → AreApart (flat_map f (x ∷ before))
      → StayTogether before after → StayTogether (x ∷ before) (x ∷ after)
  together_later x before after apart stay z a b there ha hb la lb = elim there [
    | inl e ↦ (z, inl e, ha, hb)
    | inr m ↦ (
        let w = stay z a b m ha hb (others x z before after a apart m ha la) (others x z before after b apart m hb lb) in
        (w.0, inr w.1, w.2, w.3))
  ]

  -- ---- an element changed, put or removed

  pub together_changed : (g : A → A) (i : ℕ) (xs : List A) → AreApart (flat_map f xs)
      → StayTogether xs (changed_at i g xs)
  together_changed g i [] apart = together_same []
  together_changed g zero (x ∷ xs) apart = together_first x (g x) xs apart
  together_changed g (suc i) (x ∷ xs) apart =
      together_later x xs (changed_at i g xs) apart (together_changed g i xs
      (apart_right (f x) (flat_map f xs) apart))

  pub together_put : (i : ℕ) (y : A) (xs : List A) → AreApart (flat_map f xs)
      → StayTogether xs (put_at i y xs)
  together_put i y [] apart = λ z a b there. absurd there
  together_put zero y (x ∷ xs) apart = together_first x y xs apart
  together_put (suc i) y (x ∷ xs) apart =
      together_later x xs (put_at i y xs) apart (together_put i y xs
      (apart_right (f x) (flat_map f xs) apart))

  pub together_removed : (xs : List A) (i : ℕ) → AreApart (flat_map f xs)
      → StayTogether xs (remove xs i)
  together_removed [] i apart = λ z a b there. absurd there
  together_removed (x ∷ xs) zero apart = together_without x xs apart
  together_removed (x ∷ xs) (suc i) apart =
      together_later x xs (remove xs i) apart (together_removed xs i
      (apart_right (f x) (flat_map f xs) apart))

-- ---- edits

-- the models stay what they are
same_models : (t u : BenchTexts) → u.models ≡ t.models → AreTogether t u
same_models t u e m a b there ha hb la lb =
    (m, subst (λ (ms : List PlainModel). Has ms m) (sym e) there, ha, hb)

changed_model : (t : BenchTexts) (i next : ℕ) (g : PlainModel → PlainModel) → IsOrderly t
    → AreTogether t (with_models (changed_at i g) next t)
changed_model t i next g o = together_changed numbers_of g i t.models o.items

made_together : (t u : BenchTexts) (e : Edit) → IsOrderly t → EditMakes t e u → AreTogether t u
made_together t u (PutTest text) o m =
    subst (AreTogether t) (sym m.2) (same_models t
    (with_tests (put_at (test_index m.0.name t.tests) m.0) t) refl)
made_together t u (DropTest test) o m =
    subst (AreTogether t) (sym m) (same_models t
    (with_tests (λ ts. remove ts (test_index test t.tests)) t) refl)
made_together t u (SetInit test text) o m =
    subst (AreTogether t) (sym m.2) (same_models t
    (with_tests (changed_at (test_index test t.tests) (with_init m.0)) t) refl)
made_together t u (SetThread test thread text) o m =
    subst (AreTogether t) (sym m.2) (same_models t
    (with_tests (changed_at (test_index test t.tests) (with_thread thread m.0)) t) refl)
made_together t u (SetCond test text) o m =
    subst (AreTogether t) (sym m.2) (same_models t
    (with_tests (changed_at (test_index test t.tests) (with_condition m.0)) t) refl)
made_together t u (SetLocations test text) o m =
    subst (AreTogether t) (sym m.2) (same_models t
    (with_tests (changed_at (test_index test t.tests) (with_observed m.0)) t) refl)
made_together t u (PutModel model text) o m =
    subst (AreTogether t) (sym m.2) (together_put numbers_of (model_index model t.models)
    (record { name = model; items = numbered_items t.next m.0 }) t.models o.items)
made_together t u (DropModel model) o m =
    subst (AreTogether t) (sym m) (together_removed numbers_of t.models (model_index model t.models)
    o.items)
made_together t u (SetItem model item text) o m =
    subst (AreTogether t) (sym m.2) (changed_model t (model_index model t.models) t.next
    (with_items (put_at (index_in t model item) (record { number = item; clause = m.0 }))) o)
made_together t u (InsertItem model before text) o m =
    subst (AreTogether t) (sym m.3) (changed_model t (model_index model t.models) (t.next + 1)
    (with_items (λ is.
    insert is (index_before t model before) (record { number = t.next; clause = m.0 })))
    o)
made_together t u (RemoveItem model item) o m =
    subst (AreTogether t) (sym m) (changed_model t (model_index model t.models) t.next
    (with_items (λ is. remove is (index_in t model item))) o)

pub applied_together : (t u : BenchTexts) (spent : Bool) (e : Edit) → IsOrderly t
    → Applies t spent e u → AreTogether t u
applied_together t u spent e o a = made_together t u e o a.makes
