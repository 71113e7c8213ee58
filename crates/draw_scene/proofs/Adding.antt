-- What is added to a text or a list.
use Rattle.std.proofs.Common.{◌≡◌, ℕ, List, [], ◌++◌, Result, Ok, Err, OnOk, subst}
use Rattle.draw_layout.specs.declared.layout.Layout.{Layout}
use Rattle.draw_layout.specs.declared.picture.Picture.{Picture}
use Rattle.draw_layout.specs.Layout.{IsLayout}
use Rattle.draw_svg.specs.Svg.{svg_text}
use Rattle.draw_graph.specs.declared.drawing.Drawing.{Drawing}
use Rattle.draw_scene.specs.Drawn.{AddsFigure, AddsSvg, AddsSvgOf, Fits, caption}
use Rattle.draw_scene.specs.Scene.{IsPicture}

pub laid : {T E : Type 0} (r : Result T E) (style : List ℕ) (p : Picture) (l : Layout)
    (old new : List ℕ) → IsLayout p l → OnOk r (new ≡ old ++ svg_text style p l)
    → OnOk r (AddsSvg style p old new)
laid (Ok u) style p l old new is e = Fits l is e
laid (Err f) style p l old new is e = tt

pub pictured : {T E : Type 0} (r : Result T E) (style : List ℕ) (locations : List (List ℕ))
    (initial : ℕ) (d : Drawing) (p : Picture) (old new : List ℕ)
    → IsPicture locations initial d p → OnOk r (AddsSvg style p old new)
    → OnOk r (AddsSvgOf style locations initial d old new)
pictured (Ok u) style locations initial d p old new is adds = (p, is, adds)
pictured (Err f) style locations initial d p old new is adds = tt

pub captioned : {T E : Type 0} (r : Result T E) (locations : List (List ℕ)) (initial : ℕ)
    (d : Drawing) (old mid new : List ℕ) → mid ≡ old ++ caption initial d
    → OnOk r (AddsSvgOf [] locations initial d mid new)
    → OnOk r (AddsFigure locations initial d old new)
captioned (Ok u) locations initial d old mid new is adds =
    subst (λ (t : List ℕ). AddsSvgOf [] locations initial d t new) is adds
captioned (Err f) locations initial d old mid new is adds = tt
