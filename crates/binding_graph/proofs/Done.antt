-- The items of a model so far.
use Rattle.std.proofs.Common.{ℕ, ◌≡◌, ◌≤◌, ◌<◌, ◌+◌, List, [], ◌∷◌, ◌++◌, length, map, reverse, drop, get_or, Option, Some, None, true, false, refl, sym, ◌∙◌, add-one, append_assoc, ap}
use Rattle.std.specs.Prelude.{is_some}
use Rattle.std.proofs.Math.Seq.{drop-cons}
use Rattle.std.proofs.lemmas.List.{drop_all, append-nil}
use Rattle.text_values.specs.declared.model.Item.{Item}
use Rattle.binding_kinds.specs.declared.fault.ModelFault.{ModelFault}
use Rattle.binding_kinds.specs.declared.scope.Entry.{Entry}
use Rattle.binding_kinds.specs.Value.{Naming, entry_of, bare_item}
use Rattle.binding_kinds.specs.declared.function.Function.{Function}
use Rattle.binding_kinds.specs.Senses.{Sense, HaveSenses}
use Rattle.binding_kinds.specs.Faults.{names_after, senses_after}
use Rattle.binding_kinds.specs.Verdict.{or_else}
use Rattle.binding_kinds.specs.First.{first_of_item, first}
use Rattle.binding_kinds.specs.Fits.{AreKnown, AreSoundSenses}
use Rattle.binding_kinds.proofs.Fitted.{known_item, sound_item}
use Rattle.binding_graph.specs.declared.resolved.ResolvedItem.{ResolvedItem}
use Rattle.binding_graph.specs.Usages.{Usage, usage_of, usages_after}
use Rattle.binding_graph.specs.Resolved.{IsResolvedIn, AreResolved}

-- before the item at that index, after which the names and the functions are those
pub record AreDone (ss : List Sense) (us : List Usage) (old now : List Naming) (fs : List Function)
    (items : List Item) (i : ℕ) (done : List ResolvedItem) : Type 0 where
  pub senses : List Sense
  pub kept : HaveSenses fs senses
  pub sound : AreSoundSenses senses
  pub known : AreKnown now
  pub all : (rs : List ResolvedItem)
      → AreResolved senses (map usage_of fs) now i (map bare_item (drop i items)) rs
      → AreResolved ss us old 0 (map bare_item items) (done ++ rs)

-- before the item at that index: what is kept of the functions, and what is left to be looked for
pub record AreSearched (ss : List Sense) (old now : List Naming) (fs : List Function)
    (items : List Item) (i : ℕ) : Type 0 where
  pub senses : List Sense
  pub kept : HaveSenses fs senses
  pub first : first ss old 0 (map bare_item items)
      ≡ first senses now i (map bare_item (drop i items))

drop_next : {X : Type 0} (xs : List X) (i : ℕ) (d : X) → i < length xs
    → drop i xs ≡ get_or xs i d ∷ drop (i + 1) xs
drop_next xs i d lt = rw (add-one i) (drop-cons xs i d lt)

-- what is left to look through for the first fault, behind an item without fault
pub searched_more : (ss : List Sense) (old : List Naming) (before after : List Entry)
    (fs gs : List Function) (items : List Item) (i : ℕ) (d : Item) → i < length items
    → AreSearched ss old (reverse (map entry_of before)) fs items i
    → ((senses : List Sense) → HaveSenses fs senses
    → None
    ≡ first_of_item senses (reverse (map entry_of before)) i
    (bare_item (get_or items i d)))
    → ((senses : List Sense) → HaveSenses fs senses
    → reverse (map entry_of after)
    ≡ names_after senses (reverse (map entry_of before)) i (bare_item (get_or items i d)))
    → ((senses : List Sense) → HaveSenses fs senses
    → HaveSenses gs (senses_after senses (reverse (map entry_of before))
    (bare_item (get_or items i d))))
    → AreSearched ss old (reverse (map entry_of after)) gs items (i + 1)
searched_more ss old before after fs gs items i d lt m none names kept =
    let c = bare_item (get_or items i d) in
    let now = reverse (map entry_of before) in
    let later = senses_after m.senses now c in
    record {
      senses = later;
      kept = kept m.senses m.kept;
      first =
          m.first
          ∙ (ap (λ (l : List Item). first m.senses now i (map bare_item l)) (drop_next items i d lt)
          ∙ (ap
          (λ (q : Option ModelFault). or_else q (first later (names_after m.senses now i c) (i + 1)
          (map bare_item (drop (i + 1) items))))
          (sym (none m.senses m.kept))
          ∙ ap (λ (n : List Naming). first later n (i + 1) (map bare_item (drop (i + 1) items)))
          (sym (names m.senses m.kept))));
    }

-- an item at fault is the first
pub searched_fault : (ss : List Sense) (old : List Naming) (before : List Entry)
    (fs : List Function) (items : List Item) (i : ℕ) (d : Item) (k : ModelFault)
    → i < length items → AreSearched ss old (reverse (map entry_of before)) fs items i
    → ((senses : List Sense) → HaveSenses fs senses
    → Some k
    ≡ first_of_item senses (reverse (map entry_of before)) i
    (bare_item (get_or items i d)))
    → Some k ≡ first ss old 0 (map bare_item items)
searched_fault ss old before fs items i d k lt m is =
    let c = bare_item (get_or items i d) in
    let now = reverse (map entry_of before) in
    sym (m.first
    ∙ (ap (λ (l : List Item). first m.senses now i (map bare_item l)) (drop_next items i d lt)
    ∙ ap
    (λ (q : Option ModelFault). or_else q (first (senses_after m.senses now c)
    (names_after m.senses now i c) (i + 1) (map bare_item (drop (i + 1) items))))
    (sym (is m.senses m.kept))))

-- behind the last item there is no fault
pub searched_all : (ss : List Sense) (old now : List Naming) (fs : List Function)
    (items : List Item) (i : ℕ) → length items ≤ i → AreSearched ss old now fs items i
    → None ≡ first ss old 0 (map bare_item items)
searched_all ss old now fs items i past m =
    sym (m.first
    ∙ ap (λ (l : List Item). first m.senses now i (map bare_item l)) (drop_all i items past))

pub done_more : (ss : List Sense) (us : List Usage) (old : List Naming) (before after : List Entry)
    (items : List Item) (i : ℕ) (d : Item) (fs gs : List Function)
    (done all : List ResolvedItem) (r : ResolvedItem) → i < length items
    → (m : AreDone ss us old (reverse (map entry_of before)) fs items i done)
    → None ≡ first_of_item m.senses (reverse (map entry_of before)) i (bare_item (get_or items i d))
    → HaveSenses gs (senses_after m.senses (reverse (map entry_of before))
    (bare_item (get_or items i d)))
    → reverse (map entry_of after)
    ≡ names_after m.senses (reverse (map entry_of before)) i (bare_item (get_or items i d))
    → map usage_of gs
    ≡ usages_after (map usage_of fs) (reverse (map entry_of before)) i
    (bare_item (get_or items i d))
    → (let earlier = reverse (map entry_of before) in
    let c = bare_item (get_or items i d) in
    IsResolvedIn m.senses (map usage_of fs) earlier (names_after m.senses earlier i c)
    (length earlier) c r) → all ≡ done ++ r ∷ []
    → AreDone ss us old (reverse (map entry_of after)) gs items (i + 1) all
done_more ss us old before after items i d fs gs done all r lt m none functions names usages
    resolved pushed =
    let c = bare_item (get_or items i d) in
    let earlier = reverse (map entry_of before) in
    record {
      senses = senses_after m.senses earlier c;
      kept = functions;
      sound = sound_item m.senses earlier i c m.sound m.known (sym none);
      known = rw names (known_item m.senses earlier i c m.sound m.known (sym none));
      all = λ rs h.
          rw (pushed, append_assoc done (r ∷ []) rs) (m.all (r ∷ rs) (rw (drop_next items i d lt)
          (resolved, (rw (names, usages) at h))));
    }

-- behind the last item
pub all_done : (ss : List Sense) (us : List Usage) (old now : List Naming) (fs : List Function)
    (items : List Item) (i : ℕ) (done : List ResolvedItem)
    → AreDone ss us old now fs items i done → length items ≤ i
    → AreResolved ss us old 0 (map bare_item items) done
all_done ss us old now fs items i done m le =
    rw append-nil at (m.all [] (rw (drop_all i items le) tt))

pub none_of : (o : Option ModelFault) → is_some o ≡ false → o ≡ None
none_of None e = refl
none_of (Some k) e = absurd (let f : true ≡ false = e in cc)
