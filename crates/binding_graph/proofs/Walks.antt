-- What is found of an expression from what is found of its parts.
use Rattle.std.proofs.Common.{ℕ, ◌≡◌, ◌<◌, ◌≤◌, ◌+◌, ◌*◌, ◌^◌, List, [], ◌∷◌, length, reverse, drop, get_or, min, Bool, ◌||◌, false, true, Option, Some, None, Vec, Global, Ok, Err, inl, inr, refl, sym, ap, ◌∙◌, subst, arith}
use Rattle.std.specs.Prelude.{not}
use Rattle.std.proofs.lemmas.List.{drop_all}
use Rattle.text_values.specs.declared.model.Expression.{Expression}
use Rattle.text_values.specs.declared.model.Infix.{Infix}
use Rattle.text_values.specs.declared.model.Postfix.{Postfix}
use Rattle.text_values.specs.ModelValues.{term_of}
use Rattle.text_values.specs.ModelValue.{Term, Join, Mark, Not, On, Apply}
use Rattle.binding_kinds.specs.declared.fault.ModelFault.{ModelFault}
use Rattle.binding_kinds.specs.declared.fault.ModelFault.TheVariants as faults
use Rattle.binding_kinds.specs.declared.function.Function.{Function}
use Rattle.binding_kinds.specs.declared.judged.Judged.{Judged}
use Rattle.binding_kinds.specs.declared.judged.Arguments.{Arguments}
use Rattle.binding_kinds.specs.declared.function.Piece.TheVariants as pieces
use Rattle.binding_kinds.specs.declared.kinds.Kind.TheVariants.{OfAny}
use Rattle.binding_kinds.specs.declared.scope.Found.{Found}
use Rattle.binding_kinds.specs.declared.scope.Used.{Used}
use Rattle.binding_kinds.specs.Value.{Naming}
use Rattle.binding_kinds.specs.Kinds.{found, joined_kind, takes, marked, narrowed, is_set_kind, is_relation, is_turned}
use Rattle.binding_kinds.specs.Combinations.{digit, kinds_number, unknown}
use Rattle.binding_kinds.specs.Formula.{factor_of}
use Rattle.binding_kinds.specs.Verdict.{or_else, unless}
use Rattle.binding_kinds.specs.Senses.{Sense, HasSense, HaveSenses, IsSameSize, sense_of, count_of, size_with, size_of_arguments, kinds_in, sizes_in, first_among}
use Rattle.binding_kinds.proofs.Applications.{next, next_combination, next_size, next_fault, or_none, is_judged, fit_term, unfit_term, long_sizes, long_kinds, sizes_positive, count_arguments}
use Rattle.binding_functions.specs.declared.template.Template.{Template}
use Rattle.binding_functions.specs.Templates.{pieces_in, HasLarge, IsGrown}
use Rattle.binding_functions.proofs.Applied.{terms_in}
use Rattle.binding_functions.proofs.Filling.{grown_then}
use Rattle.binding_graph.specs.declared.uses.Uses.{Uses}
use Rattle.binding_graph.specs.Inputs.{IsIndexed, with_name}
use Rattle.binding_graph.specs.Usages.{Usage, usage_of, usage_seen, values_of, functions_of, with_all_used, with_items, with_values, with_values_among, with_functions, with_functions_among}
use Rattle.binding_graph.specs.Readings.{IsFinding, AreJudged, AreGrown}

-- ---- what is judged

pub verdict_infix : (ss : List Sense) (names : List Naming) (from : ℕ) (under : Bool) (op : Infix)
    (a b : Term) (x y z : Judged) → IsFinding ss names from under a x
    → IsFinding ss names from (is_turned op under) b y
    → IsSameSize z.size (x.size + y.size + 1) → z.kind ≡ joined_kind op x.kind y.kind
    → z.fault ≡ or_else x.fault (or_else (unless (takes op x.kind y.kind) faults.Kind) y.fault)
    → IsFinding ss names from under (Join op a b) z
verdict_infix ss names from under op a b x y z left right size kind fault = record {
  kind = rw (← left.kind, ← right.kind) kind;
  size = let l = left.size in let r = right.size in omega (arith, l, r, size);
  fault = rw (← left.kind, ← right.kind, ← left.fault, ← right.fault) fault;
}

pub verdict_postfix : (ss : List Sense) (names : List Naming) (from : ℕ) (under : Bool)
    (op : Postfix) (a : Term) (x z : Judged) → IsFinding ss names from under a x
    → IsSameSize z.size (x.size + 1) → z.kind ≡ marked x.kind
    → z.fault ≡ or_else x.fault (unless (is_relation x.kind) faults.Kind)
    → IsFinding ss names from under (Mark op a) z
verdict_postfix ss names from under op a x z inner size kind fault = record {
  kind = rw (← inner.kind) kind;
  size = let l = inner.size in omega (arith, l, size);
  fault = rw (← inner.kind, ← inner.fault) fault;
}

pub verdict_complement : (ss : List Sense) (names : List Naming) (from : ℕ) (under : Bool)
    (a : Term) (x z : Judged) → IsFinding ss names from true a x → IsSameSize z.size (x.size + 1)
    → z.kind ≡ x.kind → z.fault ≡ x.fault → IsFinding ss names from under (Not a) z
verdict_complement ss names from under a x z inner size kind fault = record {
  kind = kind ∙ inner.kind;
  size = let l = inner.size in omega (arith, l, size);
  fault = fault ∙ inner.fault;
}

pub verdict_identity : (ss : List Sense) (names : List Naming) (from : ℕ) (under : Bool) (a : Term)
    (x z : Judged) → IsFinding ss names from under a x
    → IsSameSize z.size (x.size + 1) → z.kind ≡ narrowed x.kind
    → z.fault ≡ or_else (unless (is_set_kind x.kind) faults.Kind) x.fault
    → IsFinding ss names from under (On a) z
verdict_identity ss names from under a x z inner size kind fault = record {
  kind = rw (← inner.kind) kind;
  size = let l = inner.size in omega (arith, l, size);
  fault = rw (← inner.kind, ← inner.fault) fault;
}

-- before the argument at that index: what is known now and what the others add is what is known of
-- all
pub record AreJudgedTo (ss : List Sense) (names : List Naming) (from : ℕ) (under : Bool)
    (f : Function) (s : Sense) (xs : List Expression) (i : ℕ) (a : Arguments) : Type 0 where
  pub combination : a.combination + 3 ^ i * kinds_number (kinds_in ss names (terms_in (drop i xs)))
      ≡ kinds_number (kinds_in ss names (terms_in xs))
  pub size : f.is_oversized ≡ false
      → IsSameSize
      (a.size
      + size_of_arguments (factor_of s.formula) i
      (sizes_in ss names (terms_in (drop i xs))))
      (size_with s (sizes_in ss names (terms_in xs)))
  pub fault : or_else a.fault (first_among ss names from under s.is_under i (terms_in (drop i xs)))
      ≡ first_among ss names from under s.is_under 0 (terms_in xs)

pub judged_none : (ss : List Sense) (names : List Naming) (from : ℕ) (under : Bool) (f : Function)
    (s : Sense) (xs : List Expression) (a : Arguments) → HasSense f s → a.combination ≡ 0
    → a.size ≡ f.constant → a.fault ≡ None → AreJudgedTo ss names from under f s xs 0 a
judged_none ss names from under f s xs a kept combination size fault = record {
  combination = omega (arith, combination);
  size = λ small. let e = size ∙ kept.constant small in omega (arith, e);
  fault = rw fault refl;
}

pub judged_more : (ss : List Sense) (names : List Naming) (from : ℕ) (under : Bool) (f : Function)
    (s : Sense) (xs : List Expression) (i : ℕ) (e : Expression) (a b : Arguments) (j : Judged)
    (inner : Bool) → HasSense f s → length xs ≡ s.arity → i < length xs → e ≡ get_or xs i e
    → inner ≡ (under || get_or f.under i false) → IsFinding ss names from inner (term_of e) j
    → (i < 8 → a.combination < 6561 → b.combination ≡ a.combination + digit j.kind * 3 ^ i)
    → IsSameSize b.size (a.size + get_or f.factors i 0 * j.size)
    → b.fault ≡ or_else a.fault j.fault
    → AreJudgedTo ss names from under f s xs i a → AreJudgedTo ss names from under f s xs (i + 1) b
judged_more ss names from under f s xs i e a b j inner kept long lt is inner_is one combination size
    fault inv =
    let below : i < s.arity = omega (arith, lt, long) in record {
      combination =
          next_combination ss names xs i e a.combination b.combination j.kind s.arity (sym long)
          kept.few lt is one.kind combination inv.combination;
      size =
          λ small. next_size ss names (factor_of s.formula) xs i e a.size b.size _ j.size _ lt is
          (kept.factor small i below) one.size size (inv.size small);
      fault =
          next_fault ss names from under s.is_under xs i e a.fault b.fault j.fault inner _ lt is
          (inner_is ∙ ap (λ (x : Bool). under || x) (kept.under i below)) one.fault fault inv.fault;
    }

-- behind the last argument
pub judged_all : (ss : List Sense) (names : List Naming) (from : ℕ) (under : Bool) (f : Function)
    (s : Sense) (xs : List Expression) (i : ℕ) (a : Arguments) → length xs ≤ i
    → AreJudgedTo ss names from under f s xs i a → AreJudged ss names from under f s (terms_in xs) a
judged_all ss names from under f s xs i a past inv =
    let none = drop_all i xs past in record {
      combination =
          let h =
          sym (ap
          (λ (l : List Expression). a.combination + 3 ^ i
          * kinds_number (kinds_in ss names (terms_in l))) none) ∙ inv.combination in
          omega (arith, h);
      size =
          λ small.
          let h =
          sym (ap
          (λ (l : List Expression). min
          (a.size
          + size_of_arguments (factor_of s.formula) i
          (sizes_in ss names (terms_in l))) 4097) none) ∙ inv.size small in
          omega (arith, h);
      fault =
          sym (or_none a.fault)
          ∙ (sym (ap
          (λ (l : List Expression). or_else a.fault
          (first_among ss names from under s.is_under i (terms_in l))) none)
          ∙ inv.fault);
    }

pub verdict_applied : (fs : List Function) (ss : List Sense) (names : List Naming) (from : ℕ)
    (under : Bool) (n : List ℕ) (xs : List Expression) (f : Function) (s : Sense)
    (a : Arguments) (j : Judged) → HaveSenses fs ss → HasSense f s
    → sense_of ss (length xs) (found names n) ≡ Ok s → length xs ≡ s.arity
    → AreJudged ss names from under f s (terms_in xs) a
    → (f.is_oversized ≡ true
    → (j.kind ≡ OfAny) × (j.fault ≡ Some faults.TooLarge) × (4096 < j.size))
    → (4096 < a.size → (j.kind ≡ OfAny) × (j.fault ≡ Some faults.TooLarge) × (4096 < j.size))
    → (f.is_oversized ≡ false → a.size ≤ 4096
    → (j.kind ≡ (get_or f.signatures.items a.combination unknown).kind)
    × (j.fault
    ≡ or_else
    (unless (not (get_or f.signatures.items a.combination unknown).clashes)
    faults.Kind) a.fault) × (j.size ≡ a.size))
    → IsFinding ss names from under (Apply n (terms_in xs)) j
verdict_applied fs ss names from under n xs f s a j kept one there long known over large small =
    let ts = terms_in xs in
    let all = fit_term ss names from under n ts s j.kind j.size j.fault (ap (λ (m : ℕ). sense_of ss m (found names n)) (count_arguments xs) ∙ there)
    (is_judged f s (sizes_in ss names ts) (kinds_in ss names ts)
    (first_among ss names from under s.is_under 0 ts) j.kind j.size a.size a.combination j.fault
    a.fault one
    (long_sizes ss names ts ∙ count_arguments xs ∙ long)
    (long_kinds ss names ts ∙ count_arguments xs ∙ long) (sizes_positive fs ss names ts kept)
    known.combination known.size known.fault over large small) in
    record { kind = all.0; size = all.1; fault = all.2 }

pub verdict_unfit : (ss : List Sense) (names : List Naming) (from : ℕ) (under : Bool) (n : List ℕ)
    (xs : List Expression) (k : ModelFault) (j : Judged)
    → sense_of ss (length xs) (found names n) ≡ Err k → j.kind ≡ OfAny → j.size ≡ 1
    → j.fault ≡ Some k → IsFinding ss names from under (Apply n (terms_in xs)) j
verdict_unfit ss names from under n xs k j none kind size fault =
    let all = unfit_term ss names from under n (terms_in xs) k (ap (λ (m : ℕ). sense_of ss m (found names n)) (count_arguments xs) ∙ none) in
    record { kind = kind ∙ all.0; size = ap (λ (m : ℕ). min m 4097) (size ∙ all.1); fault = fault ∙ all.2 }

-- ---- what is used

pub noted_none : (v : List Used → List Used) (f : List ℕ → List ℕ) (a : Uses)
    → ((us : List Used) → v us ≡ us) → ((is : List ℕ) → f is ≡ is) → AreGrown v f a a
noted_none v f a values functions = record {
  indexed = λ ix. ix;
  listed = λ ix. ix;
  values = λ ix. sym (values (reverse a.values.items));
  functions = λ ix. sym (functions (reverse a.functions.items));
}

-- a name alone
pub noted_name : (from : ℕ) (o : Option Found) (a b : Uses)
    → (IsIndexed a.indexes.items a.values.items → IsIndexed b.indexes.items b.values.items)
    → (IsIndexed a.indexes.items a.values.items
    → reverse b.values.items ≡ with_name (reverse a.values.items) from o)
    → b.functions ≡ a.functions → b.applied ≡ a.applied
    → AreGrown (λ us. with_name us from o) (λ is. is) a b
noted_name from o a b indexed values functions applied = record {
  indexed = indexed;
  listed = λ ix. rw (functions, applied) ix;
  values = values;
  functions = λ ix. ap (λ (v : Vec ℕ Global). reverse v.items) functions;
}

pub noted_then : (v w : List Used → List Used) (f g : List ℕ → List ℕ) (a b c : Uses)
    → AreGrown v f a b → AreGrown w g b c → AreGrown (λ us. w (v us)) (λ is. g (f is)) a c
noted_then v w f g a b c x y = record {
  indexed = λ ix. y.indexed (x.indexed ix);
  listed = λ ix. y.listed (x.listed ix);
  values = λ ix. y.values (x.indexed ix) ∙ ap w (x.values ix);
  functions = λ ix. y.functions (x.listed ix) ∙ ap g (x.functions ix);
}

-- before the argument at that index
abbrev pub AreNotedTo : List Usage → List Naming → List (List ℕ) → ℕ → List Expression → ℕ → Uses
    → Uses → Type 0
AreNotedTo us names ps from xs i old now =
    (new : Uses)
    → AreGrown (with_values_among us names ps from (terms_in (drop i xs)))
    (with_functions_among us names ps (terms_in (drop i xs))) now new
    → AreGrown (with_values_among us names ps from (terms_in xs))
    (with_functions_among us names ps (terms_in xs)) old new

pub noted_more : (us : List Usage) (names : List Naming) (ps : List (List ℕ)) (from : ℕ)
    (xs : List Expression) (i : ℕ) (e : Expression) (old now new : Uses) → i < length xs
    → e ≡ get_or xs i e
    → AreGrown (with_values us names ps from (term_of e)) (with_functions us names ps (term_of e))
    now new → AreNotedTo us names ps from xs i old now
    → AreNotedTo us names ps from xs (i + 1) old new
noted_more us names ps from xs i e old now new lt is one inv = λ later h.
    let rest = terms_in (drop (i + 1) xs) in
    inv later (rw (next xs i e lt is) (noted_then (with_values us names ps from (term_of e))
    (with_values_among us names ps from rest) (with_functions us names ps (term_of e))
    (with_functions_among us names ps rest) now new later one h))

pub noted_all : (us : List Usage) (names : List Naming) (ps : List (List ℕ)) (from : ℕ)
    (xs : List Expression) (i : ℕ) (old now : Uses) → length xs ≤ i
    → AreNotedTo us names ps from xs i old now
    → AreGrown (with_values_among us names ps from (terms_in xs))
    (with_functions_among us names ps (terms_in xs)) old now
noted_all us names ps from xs i old now past inv =
    inv now (rw (drop_all i xs past) (noted_none _ _ now (λ vs. refl) (λ is. refl)))

-- an application of a function, and then its arguments
pub noted_applied : (us : List Usage) (names : List Naming) (ps : List (List ℕ)) (from : ℕ)
    (x : List ℕ) (xs : List Expression) (f : Function) (a b c : Uses)
    → usage_seen us names ps (length xs) x ≡ Some (usage_of f)
    → AreGrown (λ vs. with_all_used vs f.values.items)
    (λ is. with_items is (f.item ∷ f.functions.items)) a b
    → AreGrown (with_values_among us names ps from (terms_in xs))
    (with_functions_among us names ps (terms_in xs)) b c
    → AreGrown (with_values us names ps from (Apply x (terms_in xs)))
    (with_functions us names ps (Apply x (terms_in xs))) a c
noted_applied us names ps from x xs f a b c seen first rest =
    let ts = terms_in xs in
    let is : usage_seen us names ps (count_of ts) x ≡ Some (usage_of f) = ap (λ (m : ℕ). usage_seen us names ps m x) (count_arguments xs) ∙ seen in
    subst
    (λ (o : Option Usage). AreGrown
    (λ vs. with_values_among us names ps from ts (with_all_used vs (values_of o)))
    (λ fs. with_functions_among us names ps ts (with_items fs (functions_of o))) a c)
    (sym is)
    (noted_then (λ vs. with_all_used vs f.values.items) (with_values_among us names ps from ts)
    (λ is. with_items is (f.item ∷ f.functions.items)) (with_functions_among us names ps ts)
    a b c first rest)

pub noted_unapplied : (us : List Usage) (names : List Naming) (ps : List (List ℕ)) (from : ℕ)
    (x : List ℕ) (xs : List Expression) (a b : Uses)
    → usage_seen us names ps (length xs) x ≡ None
    → AreGrown (with_values_among us names ps from (terms_in xs))
    (with_functions_among us names ps (terms_in xs)) a b
    → AreGrown (with_values us names ps from (Apply x (terms_in xs)))
    (with_functions us names ps (Apply x (terms_in xs))) a b
noted_unapplied us names ps from x xs a b seen rest =
    let ts = terms_in xs in
    let is : usage_seen us names ps (count_of ts) x ≡ None = ap (λ (m : ℕ). usage_seen us names ps m x) (count_arguments xs) ∙ seen in
    subst
    (λ (o : Option Usage). AreGrown
    (λ vs. with_values_among us names ps from ts (with_all_used vs (values_of o)))
    (λ fs. with_functions_among us names ps ts (with_items fs (functions_of o))) a b)
    (sym is) rest

-- ---- what is appended

pub grown_infix : (ss : List Sense) (names : List Naming) (ps : List (List ℕ)) (op : Infix)
    (a b : Term) (x y z w : Template)
    → IsGrown x y (pieces_in ss names ps a) (HasLarge ss names ps a)
    → IsGrown y z (pieces_in ss names ps b) (HasLarge ss names ps b)
    → IsGrown z w (pieces.Joined op ∷ []) ⊥
    → IsGrown x w (pieces_in ss names ps (Join op a b)) (HasLarge ss names ps (Join op a b))
grown_infix ss names ps op a b x y z w first second last =
    grown_then x y w _ _ _ (HasLarge ss names ps b) (HasLarge ss names ps (Join op a b))
    (λ l. inl l) (λ r. inr r) first
    (grown_then y z w _ _ _ ⊥ (HasLarge ss names ps b) (λ l. l) (λ bad. absurd bad) second last)

pub grown_postfix : (ss : List Sense) (names : List Naming) (ps : List (List ℕ)) (op : Postfix)
    (a : Term) (x y z : Template)
    → IsGrown x y (pieces_in ss names ps a) (HasLarge ss names ps a)
    → IsGrown y z (pieces.Marked op ∷ []) ⊥
    → IsGrown x z (pieces_in ss names ps (Mark op a)) (HasLarge ss names ps (Mark op a))
grown_postfix ss names ps op a x y z inner last =
    grown_then x y z _ _ _ ⊥ (HasLarge ss names ps a) (λ l. l) (λ bad. absurd bad) inner last

pub grown_complement : (ss : List Sense) (names : List Naming) (ps : List (List ℕ)) (a : Term)
    (x y z : Template) → IsGrown x y (pieces_in ss names ps a) (HasLarge ss names ps a)
    → IsGrown y z (pieces.Complement ∷ []) ⊥
    → IsGrown x z (pieces_in ss names ps (Not a)) (HasLarge ss names ps (Not a))
grown_complement ss names ps a x y z inner last =
    grown_then x y z _ _ _ ⊥ (HasLarge ss names ps a) (λ l. l) (λ bad. absurd bad) inner last

pub grown_identity : (ss : List Sense) (names : List Naming) (ps : List (List ℕ)) (a : Term)
    (x y z : Template) → IsGrown x y (pieces_in ss names ps a) (HasLarge ss names ps a)
    → IsGrown y z (pieces.Identity ∷ []) ⊥
    → IsGrown x z (pieces_in ss names ps (On a)) (HasLarge ss names ps (On a))
grown_identity ss names ps a x y z inner last =
    grown_then x y z _ _ _ ⊥ (HasLarge ss names ps a) (λ l. l) (λ bad. absurd bad) inner last
