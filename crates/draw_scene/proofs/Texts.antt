-- Drawings one behind the other, of which the first so many are passed over.
use Rattle.std.proofs.Common.{◌≡◌, ◌∙◌, ℕ, ◌+◌, ◌<◌, ◌≤◌, Bool, true, false, List, [], ◌∷◌, ◌++◌, length, sym, subst, arith}
use Rattle.std.specs.Prelude.{drop, nat_lt}
use Rattle.std.proofs.lemmas.Bool.{ltb-false, ltb-true}
use Rattle.std.proofs.lemmas.List.{drop-append-le, drop_all, length-append}
use Rattle.draw_graph.specs.declared.drawing.Drawing.{Drawing}
use Rattle.draw_scene.specs.declared.drawn.Format.{Format}
use Rattle.draw_scene.specs.Drawn.{AddsDrawn, AddsUnless, AreTexts, NoText, OneText}

pub no_texts : (format : Format) (locations : List (List ℕ)) (initial skipped : ℕ)
    → AreTexts format locations initial (drop skipped []) []
no_texts format locations initial skipped =
    subst (λ (es : List Drawing). AreTexts format locations initial es [])
    (sym (drop_all skipped [] (omega arith))) NoText

-- one that is passed over leaves the texts as they are
texts_skipped : (format : Format) (locations : List (List ℕ)) (initial skipped : ℕ)
    (ds : List Drawing) (d : Drawing) (old new : List ℕ) → length ds < skipped
    → AreTexts format locations initial (drop skipped ds) old → new ≡ old
    → AreTexts format locations initial (drop skipped (ds ++ d ∷ [])) new
texts_skipped format locations initial skipped ds d old new lt texts same =
    let long : length (ds ++ d ∷ []) ≡ length ds + 1 = length-append ds (d ∷ []) in
    let none = drop_all skipped ds (omega (arith, lt)) in
    let none_more = drop_all skipped (ds ++ d ∷ []) (omega (arith, lt, long)) in
    subst
    (λ (t : List ℕ). AreTexts format locations initial (drop skipped (ds ++ d ∷ [])) t) (sym same)
    (subst (λ (es : List Drawing). AreTexts format locations initial es old) (none ∙ sym none_more)
    texts)

texts_more : (format : Format) (locations : List (List ℕ)) (initial skipped : ℕ)
    (ds : List Drawing) (d : Drawing) (old new : List ℕ) → skipped ≤ length ds
    → AreTexts format locations initial (drop skipped ds) old
    → AddsDrawn format locations initial d old new
    → AreTexts format locations initial (drop skipped (ds ++ d ∷ [])) new
texts_more format locations initial skipped ds d old new le texts adds =
    subst (λ (es : List Drawing). AreTexts format locations initial es new)
    (sym (drop-append-le skipped ds (d ∷ []) le))
    (OneText (drop skipped ds) d old new texts adds)

-- one drawing more
pub texts_on : (format : Format) (locations : List (List ℕ)) (initial skipped : ℕ)
    (ds : List Drawing) (d : Drawing) (old new : List ℕ) (passed : Bool)
    → nat_lt (length ds) skipped ≡ passed
    → AreTexts format locations initial (drop skipped ds) old
    → AddsUnless passed format locations initial d old new
    → AreTexts format locations initial (drop skipped (ds ++ d ∷ [])) new
texts_on format locations initial skipped ds d old new true passes texts adds =
    texts_skipped format locations initial skipped ds d old new (ltb-true (length ds) skipped passes)
    texts adds
texts_on format locations initial skipped ds d old new false passes texts adds =
    texts_more format locations initial skipped ds d old new
    (ltb-false (length ds) skipped passes) texts adds
