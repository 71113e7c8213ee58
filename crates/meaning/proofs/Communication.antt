-- What does not depend on reads-from and coherence.
use Rattle.std.proofs.Common.{◌≡◌, Bool, true, false, List, [], ◌∷◌, map, reverse, bytes_eq, refl, true≢false, ap₂, subst}
use Rattle.std.proofs.lemmas.Slice.Eq.{bytes_eq-Decides}
use Rattle.predefined_names.specs.declared.predefined.Predefined.{Predefined}
use Rattle.predefined_names.specs.declared.predefined.Predefined.TheVariants as names
use Rattle.predefined_names.specs.PredefinedNames.{spelling}
use Rattle.text_values.specs.TestValue.{Content}
use Rattle.text_values.specs.ModelValue.{Clause}
use Rattle.meaning.specs.Names.{Name}
use Rattle.meaning.specs.Runs.{Run}
use Rattle.meaning.specs.Executions.{Event, Execution, IsEvent}
use Rattle.meaning.specs.Predefined.{predefined_names}
use Rattle.meaning.specs.Cat.{Bound, Names, choice_of, bound_of, AreMet}
use Rattle.meaning.specs.Evaluates.{predefined_bound, outermost}
use Rattle.meaning.specs.Laws.{is_communication, IsFree, HaveNames}
use Rattle.meaning.proofs.Agreeing.{Agree, met_alike}

abbrev pub execution_of : List Run → List Event → List (List Event) → Execution
execution_of runs reads_from coherence =
    record { runs = runs; reads_from = reads_from; coherence = coherence }

pub events_stay : (t : Content) (runs : List Run) (a b : List Event) (c d : List (List Event))
    → IsEvent t (execution_of runs a c) ≡ IsEvent t (execution_of runs b d)
events_stay t runs a b c d = refl

pub bound_stays : (t : Content) (runs : List Run) (a b : List Event) (c d : List (List Event))
    (p : Predefined) → is_communication p ≡ false
    → predefined_bound t (execution_of runs a c) p ≡ predefined_bound t (execution_of runs b d) p
bound_stays t runs a b c d names.ReadsFrom free = absurd (true≢false free)
bound_stays t runs a b c d names.Coherence free = absurd (true≢false free)
bound_stays t runs a b c d names.FromReads free = absurd (true≢false free)
bound_stays t runs a b c d names.ReadsFromExternal free = absurd (true≢false free)
bound_stays t runs a b c d names.ReadsFromInternal free = absurd (true≢false free)
bound_stays t runs a b c d names.CoherenceExternal free = absurd (true≢false free)
bound_stays t runs a b c d names.CoherenceInternal free = absurd (true≢false free)
bound_stays t runs a b c d names.FromReadsExternal free = absurd (true≢false free)
bound_stays t runs a b c d names.FromReadsInternal free = absurd (true≢false free)
bound_stays t runs a b c d names.Communication free = absurd (true≢false free)
bound_stays t runs a b c d _ free = refl

-- a name that is passed over
pub passed_over : {A : Type 1} (test : Bool) → (test ≡ true → ⊥) → (a b c d : A) → c ≡ d
    → choice_of test a c ≡ choice_of test b d
passed_over true not_true a b c d same = absurd (not_true refl)
passed_over false not_true a b c d same = same

abbrev bound_by : (Predefined → Bound Event) → List Predefined → Names Event
bound_by f ps = map (λ p. (spelling p, f p)) ps

-- one predefined name more, which is bound alike if it is free
one_agrees : (f g : Predefined → Bound Event) (p : Predefined) (n : Name) → IsFree n
    → (communication : Bool) → is_communication p ≡ communication
    → (is_communication p ≡ false → f p ≡ g p) → (b c : Bound Event) → b ≡ c
    → choice_of (bytes_eq (spelling p) n) (f p) b ≡ choice_of (bytes_eq (spelling p) n) (g p) c
one_agrees f g p n free true is same b c rest =
    passed_over (bytes_eq (spelling p) n)
    (λ eq. free p is ((bytes_eq-Decides (spelling p) n).0 eq)) (f p) (g p) b c rest
one_agrees f g p n free false is same b c rest =
    ap₂ (choice_of (bytes_eq (spelling p) n)) (same is) rest

-- predefined names agree where those that are free are bound alike
predefined_agree : (f g : Predefined → Bound Event)
    → ((p : Predefined) → is_communication p ≡ false → f p ≡ g p) → (ps : List Predefined)
    → Agree IsFree (bound_by f ps) (bound_by g ps)
predefined_agree f g same [] n free = refl
predefined_agree f g same (p ∷ ps) n free =
    one_agrees f g p n free (is_communication p) refl (same p) (bound_of (bound_by f ps) n)
    (bound_of (bound_by g ps) n) (predefined_agree f g same ps n free)

outermost_agree : (t : Content) (runs : List Run) (a b : List Event) (c d : List (List Event))
    → Agree IsFree (outermost t (execution_of runs a c)) (outermost t (execution_of runs b d))
outermost_agree t runs a b c d =
    predefined_agree (predefined_bound t (execution_of runs a c))
    (predefined_bound t (execution_of runs b d)) (bound_stays t runs a b c d)
    (reverse predefined_names)

-- checks that see only free names are met in both executions
met_in_both : (t : Content) (items : List Clause) → HaveNames IsFree items → (runs : List Run)
    (a b : List Event) (c d : List (List Event))
    → AreMet (IsEvent t (execution_of runs a c)) (outermost t (execution_of runs a c)) items
    → AreMet (IsEvent t (execution_of runs b d)) (outermost t (execution_of runs b d)) items
met_in_both t items free runs a b c d h =
    met_alike IsFree (IsEvent t (execution_of runs a c)) (outermost t (execution_of runs a c))
    (outermost t (execution_of runs b d)) (outermost_agree t runs a b c d) items free h

pub runs_alone_decide : (t : Content) (items : List Clause) → HaveNames IsFree items
    → (x y : Execution) → x.runs ≡ y.runs
    → AreMet (IsEvent t x) (outermost t x) items → AreMet (IsEvent t y) (outermost t y) items
runs_alone_decide t items free x y same h =
    subst
    (λ (runs : List Run).
    AreMet (IsEvent t (execution_of runs y.reads_from y.coherence))
    (outermost t (execution_of runs y.reads_from y.coherence)) items)
    same
    (met_in_both t items free x.runs x.reads_from y.reads_from x.coherence y.coherence h)
