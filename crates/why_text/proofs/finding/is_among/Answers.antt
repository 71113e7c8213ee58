use Rattle.std.proofs.Common.{◌≡◌, ◌<◌, ◌∙◌, ℕ, List, Bool, true, length, get_or, ap, sym, arith}
use Rattle.std.specs.Prelude.{Vec}
use Rattle.std.specs.List.{list_any}
use Rattle.std.specs.declared.alloc.Global.{Global}
use Rattle.std.proofs.lemmas.List.{get_or-map, length-map}
use Rattle.std.proofs.lemmas.List.Folds.{list_any_at}
use Rattle.why_text.specs.Findings.{is_of_kind, texts_in}
use Rattle.why_text.proofs.finding.is_among.Goals as goal

among_at : (p : List ℕ → Bool) (kinds : List (Vec ℕ Global)) (i : ℕ) (k : Vec ℕ Global)
    → i < length kinds → k ≡ get_or kinds i k → p k.items ≡ true
    → list_any p (texts_in kinds) ≡ true
among_at p kinds i k lt is passes =
    let same : get_or (texts_in kinds) i k.items ≡ k.items =
    get_or-map (λ (v : Vec ℕ Global). v.items) kinds i k k.items lt
    ∙ ap (λ (v : Vec ℕ Global). v.items) (sym is) in
    list_any_at p (texts_in kinds) i k.items
    (omega (arith, length-map kinds (λ (v : Vec ℕ Global). v.items))) (ap p same ∙ passes)

pub returns-then-is_same : goal.returns-then-is_same
returns-then-is_same c =
    let passes : is_of_kind c.args.kind.now c.other-item.result.items ≡ true =
    ap (is_of_kind c.args.kind.now) (sym c.deref.ensures.value) ∙ sym c.is_same.ensures
    ∙ c.if-is_same.true in
    sym (among_at (is_of_kind c.args.kind.now) c.args.kinds.now c.loop-other.other-index
    c.other-item.result
    (omega arith) c.other-item.is passes)
