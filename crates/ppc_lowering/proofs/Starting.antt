-- What places hold at the start.
use Rattle.std.proofs.Common.{ℕ, zero, suc, ◌≡◌, ◌<◌, ◌+◌, inl, inr, Bool, true, false, List, [], ◌∷◌, ◌++◌, length, get_or, set, take, replicate, refl, sym, ap, subst, ◌∙◌, if◌then◌else◌, arith, Vec}
use Rattle.std.specs.List.{AllPairs, All}
use Rattle.std.specs.Int.{w32, cast_unsigned}
use Rattle.std.specs.Ordering.{is_eq, ordering_reverse, ordering_index}
use Rattle.std.specs.declared.cmp.Ordering.{Ordering}
use Rattle.std.specs.declared.cmp.Ordering.TheVariants.{Less, Equal, Greater}
use Rattle.std.specs.declared.alloc.Global.{Global}
use Rattle.std.proofs.lemmas.Bool.{cases_eq, cases_lt}
use Rattle.std.proofs.lemmas.List.{append_assoc, get_or-set_same, get_or-set_other, get_or_default, get_or-replicate, length-set, length-replicate, length_push, get_or_append_left, get_or_push, take_more}
use Rattle.std.proofs.lemmas.List.Elements.{All-nil, All-cons, All-append}
use Rattle.text_values.specs.declared.test.Place.{Place}
use Rattle.text_values.specs.declared.test.Place.TheVariants.{Location, Register}
use Rattle.text_values.specs.declared.test.Value as written
use Rattle.text_values.specs.declared.test.Value.TheVariants as values
use Rattle.text_values.specs.declared.test.InitEntry.{InitEntry}
use Rattle.text_values.specs.declared.test.Thread.{Thread}
use Rattle.thread_runs.specs.declared.value.Value.{Value}
use Rattle.thread_runs.specs.declared.value.Value.TheVariants.{Number, Address, NoValue}
use Rattle.thread_runs.specs.declared.instruction.Line.{Line}
use Rattle.thread_runs.specs.ValueSet.{IsProperValue}
use Rattle.ppc_lowering.specs.Lowering.{name_cmp, IsNameBefore, name_index, lowered_value, Starts, AreInitial, AreRegisters, AreFiles, LowersTo, AreThreadLines, blank, put_location, put_register}
use Rattle.ppc_lowering.proofs.Sorting.{order, same_name, number_found}

-- one entry more
starts_same : (es : List InitEntry) (e : InitEntry) (p : Place) (names : List (List ℕ))
    → e.place ≡ p → Starts (es ++ e ∷ []) p names (lowered_value names e.value)
starts_same es e p names h =
    inl (
      e,
      record {
        before = es;
        behind = [];
        there = refl;
        place = h;
        last = All-nil (λ f. f.place ≡ p → ⊥);
      },
      refl,
    )

starts_other : (es : List InitEntry) (e : InitEntry) (p : Place) (names : List (List ℕ)) (v : Value)
    → (e.place ≡ p → ⊥) → Starts es p names v → Starts (es ++ e ∷ []) p names v
starts_other es e p names v h s =
    let one = All-cons (λ f. f.place ≡ p → ⊥) e [] h (All-nil (λ f. f.place ≡ p → ⊥)) in
    elim s [
      | inl w ↦ inl (
        w.0,
        record {
          before = w.1.before;
          behind = w.1.behind ++ e ∷ [];
          there =
              ap (λ (fs : List InitEntry). fs ++ e ∷ []) w.1.there
              ∙ append_assoc w.1.before (w.0 ∷ w.1.behind) (e ∷ []);
          place = w.1.place;
          last = All-append (λ f. f.place ≡ p → ⊥) w.1.behind (e ∷ []) w.1.last one;
        },
        w.2,
      )
      | inr w ↦ inr (All-append (λ f. f.place ≡ p → ⊥) es (e ∷ []) w.0 one, w.1)
    ]

-- places apart
abbrev name_in : Place → List ℕ
name_in (Location n) = n
name_in (Register t r) = []

abbrev thread_in : Place → ℕ
thread_in (Location n) = 0
thread_in (Register t r) = t

abbrev number_in : Place → ℕ
number_in (Location n) = 0
number_in (Register t r) = r

abbrev kind_in : Place → ℕ
kind_in (Location n) = 0
kind_in (Register t r) = 1

abbrev none_in : Value → ℕ
none_in NoValue = 1
none_in (Number n) = 0
none_in (Address l) = 0

-- the number of a name that is there
pub is_equal : (o : Ordering) → is_eq o ≡ true → o ≡ Equal
is_equal Less e =
    absurd (let f : zero ≡ suc zero = ap (λ (b : Bool). if b then suc zero else zero) e in
    omega arith)
is_equal Equal e = refl
is_equal Greater e =
    absurd (let f : zero ≡ suc zero = ap (λ (b : Bool). if b then suc zero else zero) e in
    omega arith)

own_turn : (o : Ordering) → o ≡ ordering_reverse o → o ≡ Equal
own_turn Less e =
    absurd (let f : ordering_index Less ≡ ordering_index Greater = ap ordering_index e in
    omega arith)
own_turn Equal e = refl
own_turn Greater e =
    absurd (let f : ordering_index Greater ≡ ordering_index Less = ap ordering_index e in
    omega arith)

name_itself : (n : List ℕ) → name_cmp n n ≡ Equal
name_itself n = own_turn (name_cmp n n) (order.antisymm n n)

pub number_at : (names : List (List ℕ)) (k : ℕ) → AllPairs IsNameBefore names → k < length names
    → k ≡ name_index names (get_or names k [])
number_at names k rising lt =
    number_found names (get_or names k []) k rising lt (λ d. subst
    (λ (n : List ℕ). name_cmp n (get_or names k []) ≡ Equal) (get_or_default names k [] d lt)
    (name_itself (get_or names k [])))

name_step : (x name : List ℕ) (xs : List (List ℕ)) (b : Bool) (k : ℕ) → is_eq (name_cmp x name) ≡ b
    → ((k : ℕ) → k < length xs → name_index xs name ≡ k → name ≡ get_or xs k [])
    → k < suc (length xs)
    → (if b then zero else suc (name_index xs name)) ≡ k → name ≡ get_or (x ∷ xs) k []
name_step x name xs true zero t rest lt e = sym (same_name x name (is_equal (name_cmp x name) t))
name_step x name xs true (suc k) t rest lt e = absurd (omega (arith, e))
name_step x name xs false zero t rest lt e = absurd (omega (arith, e))
name_step x name xs false (suc k) t rest lt e = rest k (omega arith) (omega (arith, e))

name_at : (names : List (List ℕ)) (name : List ℕ) (k : ℕ) → k < length names
    → name_index names name ≡ k → name ≡ get_or names k []
name_at [] name k lt e = absurd (omega arith)
name_at (x ∷ xs) name k lt e =
    name_step x name xs (is_eq (name_cmp x name)) k refl (name_at xs name) lt e

-- the locations
initial_step : (es : List InitEntry) (e : InitEntry) (names : List (List ℕ)) (xs : List Value)
    (p : Place) → e.place ≡ p → AllPairs IsNameBefore names → AreInitial es names xs
    → AreInitial (es ++ e ∷ []) names (put_location names p (lowered_value names e.value) xs)
initial_step es e names xs (Location name) is rising h = record {
  each_one = length-set xs (name_index names name) (lowered_value names e.value) ∙ h.each_one;
  starts = λ k lt. let within = h.each_one in elim (cases_eq k (name_index names name)) [
    | inl same ↦
        let value : get_or (set xs (name_index names name) (lowered_value names e.value)) k NoValue ≡ lowered_value names e.value = subst (λ (i : ℕ). get_or (set xs (name_index names name) (lowered_value names e.value)) i NoValue ≡ lowered_value names e.value) (sym same) (get_or-set_same xs (name_index names name) (lowered_value names e.value) NoValue (omega arith)) in
        let here : e.place ≡ Location (get_or names k []) = is ∙ ap Location (name_at names name k lt (sym same)) in
        subst (λ (v : Value). Starts (es ++ e ∷ []) (Location (get_or names k [])) names v)
        (sym value) (starts_same es e (Location (get_or names k [])) names here)
    | inr other ↦
        subst (λ (v : Value). Starts (es ++ e ∷ []) (Location (get_or names k [])) names v)
        (sym (get_or-set_other xs (name_index names name) k (lowered_value names e.value) NoValue
        other))
        (starts_other es e (Location (get_or names k [])) names (get_or xs k NoValue)
        (λ eq. other (number_at names k rising lt
        ∙ ap (name_index names) (sym (ap name_in (sym is ∙ eq)))))
        (h.starts k lt))
  ];
}
initial_step es e names xs (Register t r) is rising h = record {
  each_one = h.each_one;
  starts =
      λ k lt. starts_other es e (Location (get_or names k [])) names (get_or xs k NoValue)
      (λ eq. let f : suc zero ≡ zero = ap kind_in (sym is ∙ eq) in omega arith) (h.starts k lt);
}

pub initial_more : (init : List InitEntry) (k : ℕ) (e : InitEntry) (names : List (List ℕ))
    (xs ys : List Value) → k < length init → get_or init k e ≡ e → AllPairs IsNameBefore names
    → AreInitial (take k init) names xs
    → ys ≡ put_location names e.place (lowered_value names e.value) xs
    → AreInitial (take (k + 1) init) names ys
initial_more init k e names xs ys lt there rising h made =
    let more : take (k + 1) init ≡ take k init ++ e ∷ [] = take_more init k e lt ∙ ap (λ (f : InitEntry). take k init ++ f ∷ []) there in
    subst (λ (es : List InitEntry). AreInitial es names ys) (sym more) (subst
    (λ (zs : List Value). AreInitial (take k init ++ e ∷ []) names zs) (sym made)
    (initial_step (take k init) e names xs e.place refl rising h))

-- they are values
number_one : (n : ℕ) → IsProperValue (Number n)
number_one n e = absurd (let f : zero ≡ suc zero = ap none_in e in omega arith)

is_one : (names : List (List ℕ)) (v : written.Value) → IsProperValue (lowered_value names v)
is_one names (values.Number n) e = number_one (cast_unsigned w32 n) e
is_one names (values.Address n) e = absurd (let f : zero ≡ suc zero = ap none_in e in omega arith)

starts_one : (es : List InitEntry) (p : Place) (names : List (List ℕ)) (v : Value)
    → Starts es p names v → IsProperValue v
starts_one es p names v s = elim s [
  | inl w ↦ subst (λ (x : Value). IsProperValue x) (sym w.2) (is_one names w.0.value)
  | inr w ↦ subst (λ (x : Value). IsProperValue x) (sym w.1) (number_one 0)
]

pub initial_proper : (es : List InitEntry) (names : List (List ℕ)) (xs : List Value)
    → AreInitial es names xs → All IsProperValue xs
initial_proper es names xs h k d lt =
    let same = h.each_one in
    subst (λ (x : Value). IsProperValue x) (get_or_default xs k NoValue d lt) (starts_one es
    (Location (get_or names k [])) names (get_or xs k NoValue) (h.starts k (omega arith)))

-- the registers
registers_step : (es : List InitEntry) (e : InitEntry) (names : List (List ℕ)) (t : ℕ)
    (file : List Value) → ((r : ℕ) → e.place ≡ Register t r → ⊥) → AreRegisters es names t file
    → AreRegisters (es ++ e ∷ []) names t file
registers_step es e names t file none h = record {
  each_one = h.each_one;
  starts =
      λ r lt.
      starts_other es e (Register t r) names (get_or file r NoValue) (none r) (h.starts r lt);
}

registers_put : (es : List InitEntry) (e : InitEntry) (names : List (List ℕ)) (t r : ℕ)
    (file : List Value) → e.place ≡ Register t r → AreRegisters es names t file
    → AreRegisters (es ++ e ∷ []) names t (set file r (lowered_value names e.value))
registers_put es e names t r file is h = record {
  each_one = length-set file r (lowered_value names e.value) ∙ h.each_one;
  starts = λ k lt. let within = h.each_one in elim (cases_eq k r) [
    | inl same ↦
        let value : get_or (set file r (lowered_value names e.value)) k NoValue ≡ lowered_value names e.value = subst (λ (i : ℕ). get_or (set file r (lowered_value names e.value)) i NoValue ≡ lowered_value names e.value) (sym same) (get_or-set_same file r (lowered_value names e.value) NoValue (omega arith)) in
        subst (λ (v : Value). Starts (es ++ e ∷ []) (Register t k) names v) (sym value)
        (starts_same es e (Register t k) names (is ∙ ap (λ (i : ℕ). Register t i) (sym same)))
    | inr other ↦
        subst (λ (v : Value). Starts (es ++ e ∷ []) (Register t k) names v)
        (sym (get_or-set_other file r k (lowered_value names e.value) NoValue other))
        (starts_other es e (Register t k) names (get_or file k NoValue)
        (λ eq. other (sym (ap number_in (sym is ∙ eq)))) (h.starts k lt))
  ];
}

files_step : (es : List InitEntry) (e : InitEntry) (names : List (List ℕ)) (n : ℕ)
    (files : List (List Value)) (p : Place) → e.place ≡ p → AreFiles es names n files
    → AreFiles (es ++ e ∷ []) names n (put_register p (lowered_value names e.value) files)
files_step es e names n files (Location name) is h = record {
  each_one = h.each_one;
  starts =
      λ t lt. registers_step es e names t (get_or files t [])
      (λ r eq. let f : zero ≡ suc zero = ap kind_in (sym is ∙ eq) in omega arith) (h.starts t lt);
}
files_step es e names n files (Register t r) is h =
    let file : List Value = set (get_or files t []) r (lowered_value names e.value) in record {
      each_one = length-set files t file ∙ h.each_one;
      starts = λ k lt. let within = h.each_one in elim (cases_eq k t) [
        | inl same ↦
            let value : get_or (set files t file) k [] ≡ file = subst (λ (i : ℕ). get_or (set files t file) i [] ≡ file) (sym same) (get_or-set_same files t file [] (omega arith)) in
            subst (λ (zs : List Value). AreRegisters (es ++ e ∷ []) names k zs) (sym value)
            (subst (λ (i : ℕ). AreRegisters (es ++ e ∷ []) names i file) (sym same)
            (registers_put es e names t r (get_or files t []) is
            (h.starts t (omega arith))))
        | inr other ↦
            subst (λ (zs : List Value). AreRegisters (es ++ e ∷ []) names k zs)
            (sym (get_or-set_other files t k file [] other))
            (registers_step es e names k (get_or files k [])
            (λ i eq. other (sym (ap thread_in (sym is ∙ eq)))) (h.starts k lt))
      ];
    }

pub files_more : (init : List InitEntry) (k : ℕ) (e : InitEntry) (names : List (List ℕ)) (n : ℕ)
    (xs ys : List (List Value)) → k < length init → get_or init k e ≡ e
    → AreFiles (take k init) names n xs
    → ys ≡ put_register e.place (lowered_value names e.value) xs
    → AreFiles (take (k + 1) init) names n ys
files_more init k e names n xs ys lt there h made =
    let more : take (k + 1) init ≡ take k init ++ e ∷ [] = take_more init k e lt ∙ ap (λ (f : InitEntry). take k init ++ f ∷ []) there in
    subst (λ (es : List InitEntry). AreFiles es names n ys) (sym more) (subst
    (λ (zs : List (List Value)). AreFiles (take k init ++ e ∷ []) names n zs) (sym made)
    (files_step (take k init) e names n xs e.place refl h))

registers_none : (names : List (List ℕ)) (t : ℕ) → AreRegisters [] names t (blank)
registers_none names t = record {
  each_one = refl;
  starts =
      λ r lt.
      inr (All-nil (λ f. f.place ≡ Register t r → ⊥), get_or-replicate 32 r (Number 0) NoValue lt);
}

pub files_none : (names : List (List ℕ)) (n : ℕ) (xs : List (List Value)) → xs ≡ replicate n blank
    → AreFiles [] names n xs
files_none names n xs made =
    subst (λ (zs : List (List Value)). AreFiles [] names n zs) (sym made) (record {
      each_one = length-replicate n (blank);
      starts =
          λ t lt. subst (λ (zs : List Value). AreRegisters [] names t zs)
          (sym (get_or-replicate n t (blank) [] lt)) (registers_none names t);
    })

-- the lines
threads_step : (threads : List Thread) (thread : Thread) (made : Vec Line Global)
    (xs : List (Vec Line Global)) → AreThreadLines threads xs
    → LowersTo thread.steps.items made.items → AreThreadLines (threads ++ thread ∷ []) (xs ++ made ∷ [])
threads_step threads thread made xs h lines = record {
  each_one =
      length_push xs made ∙ ap (λ (n : ℕ). n + 1) h.each_one ∙ sym (length_push threads thread);
  each =
      λ t d e lt.
      let same = h.each_one in
      let long = length_push threads thread in elim (cases_lt t (length threads)) [
        | inl less ↦
            subst (λ (x : Thread). LowersTo x.steps.items (get_or (xs ++ made ∷ []) t e).items)
            (sym (get_or_append_left threads (thread ∷ []) d t less))
            (subst (λ (y : Vec Line Global). LowersTo (get_or threads t d).steps.items y.items)
            (sym (get_or_append_left xs (made ∷ []) e t (omega arith))) (h.each t d e less))
        | inr le ↦
            let there : t ≡ length threads = omega arith in
            subst (λ (x : Thread). LowersTo x.steps.items (get_or (xs ++ made ∷ []) t e).items)
            (sym (get_or_push threads thread d t (sym there)))
            (subst (λ (y : Vec Line Global). LowersTo thread.steps.items y.items)
            (sym (get_or_push xs made e t (same ∙ sym there))) lines)
      ];
}

pub threads_more : (threads : List Thread) (k : ℕ) (thread : Thread) (made : Vec Line Global)
    (xs ys : List (Vec Line Global)) → k < length threads → get_or threads k thread ≡ thread
    → AreThreadLines (take k threads) xs
    → LowersTo thread.steps.items made.items → ys ≡ xs ++ made ∷ []
    → AreThreadLines (take (k + 1) threads) ys
threads_more threads k thread made xs ys lt there h lines e =
    let more : take (k + 1) threads ≡ take k threads ++ thread ∷ [] = take_more threads k thread lt ∙ ap (λ (x : Thread). take k threads ++ x ∷ []) there in
    subst (λ (ts : List Thread). AreThreadLines ts ys) (sym more) (subst
    (λ (zs : List (Vec Line Global)). AreThreadLines (take k threads ++ thread ∷ []) zs) (sym e)
    (threads_step (take k threads) thread made xs h lines))
