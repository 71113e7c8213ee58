-- The bytes of a drawing, and of many. `put_unless_skipped` cites the last definition.
use Rattle.std.specs.Prelude.{◌≡◌, ℕ, Bool, true, false, List, [], ◌∷◌, ◌++◌, codes, Option, Some, None}
use Rattle.std.specs.List.{flat_map}
use Rattle.draw_graph.specs.declared.drawing.Drawing.{Drawing}
use Rattle.draw_graph.specs.Texts.{drawing_text}
use Rattle.draw_layout.specs.declared.layout.Layout.{Layout}
use Rattle.draw_layout.specs.declared.picture.Picture.{Picture}
use Rattle.draw_layout.specs.Layout.{IsLayout, picture_fits}
use Rattle.draw_svg.specs.Svg.{svg_text}
use Rattle.escaped_texts.specs.Elements.{element}
use Rattle.escaped_texts.specs.Escaped.{escaped}
use Rattle.why_text.specs.Events.{event_name}
use Rattle.why_text.specs.declared.reason.ToldStep.{ToldStep}
use Rattle.draw_scene.specs.Scene.{IsPicture}
use Rattle.draw_scene.specs.declared.drawn.Format.{Format}
use Rattle.draw_scene.specs.declared.drawn.Format.TheVariants as formats
use Rattle.draw_scene.specs.declared.drawn.TheConstants.{STYLE, THICK, TOO_LARGE}

-- the text of a picture at its places, behind another; or the picture does not fit
pub data AddsSvg (style : List ℕ) (p : Picture) (old new : List ℕ) : Type 0 where
  Fits : (l : Layout) → IsLayout p l → new ≡ old ++ svg_text style p l → AddsSvg style p old new
  FitsNot : picture_fits p ≡ false → new ≡ old ++ TOO_LARGE.now → AddsSvg style p old new

-- the text of a drawing, with this style
abbrev pub AddsSvgOf : (style : List ℕ) → List (List ℕ) → ℕ → Drawing → (old new : List ℕ)
    → Type 0
AddsSvgOf style locations initial d old new =
    (p : Picture) × IsPicture locations initial d p × AddsSvg style p old new

-- ---- figures

-- a step, by the name that carries it
unfoldable pub step_words : ℕ → ToldStep → List ℕ
step_words initial step =
    codes " -" ++ step.label.items ++ codes "-> " ++ event_name initial step.to

unfoldable pub walk_words : ℕ → ℕ → List ToldStep → List ℕ
walk_words initial first steps =
    THICK.now ++ event_name initial first ++ flat_map (step_words initial) steps

abbrev pub reason_words : ℕ → Option ℕ → List ToldStep → List ℕ
reason_words initial None steps = []
reason_words initial (Some first) steps = walk_words initial first steps

unfoldable pub caption : ℕ → Drawing → List ℕ
caption initial d =
    element (codes "figcaption") []
    (escaped (d.title.items ++ reason_words initial d.first d.steps.items))

abbrev pub AddsFigure : List (List ℕ) → ℕ → Drawing → (old new : List ℕ) → Type 0
AddsFigure locations initial d old new =
    AddsSvgOf [] locations initial d (old ++ caption initial d) new

-- the text of a drawing in this format, behind another, over locations of these names, the first so
-- many events being initial stores
abbrev pub AddsDrawn : Format → List (List ℕ) → ℕ → Drawing → (old new : List ℕ) → Type 0
AddsDrawn formats.Dot locations initial d old new = new ≡ old ++ drawing_text locations initial d
AddsDrawn formats.Svg locations initial d old new =
    AddsSvgOf STYLE.now locations initial d old new
AddsDrawn formats.Figure locations initial d old new = AddsFigure locations initial d old new

-- ---- many drawings

-- the texts of drawings, one behind the other
pub data AreTexts (format : Format) (locations : List (List ℕ)) (initial : ℕ)
    : List Drawing → List ℕ → Type 0 where
  NoText : AreTexts format locations initial [] []
  OneText : (ds : List Drawing) (d : Drawing) (text more : List ℕ)
      → AreTexts format locations initial ds text → AddsDrawn format locations initial d text more
      → AreTexts format locations initial (ds ++ d ∷ []) more

-- the text of a drawing is added, unless it is passed over
abbrev pub AddsUnless : (skipped : Bool) → Format → List (List ℕ) → ℕ → Drawing
    → (old new : List ℕ) → Type 0
AddsUnless true format locations initial d old new = new ≡ old
AddsUnless false format locations initial d old new = AddsDrawn format locations initial d old new
