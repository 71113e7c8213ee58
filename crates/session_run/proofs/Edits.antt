-- An edit of own texts, by whether it is refused.
use Rattle.std.proofs.Common.{◌≡◌, ℕ, ◌≤◌, ◌+◌, List, [], true, false, ap, sym, subst, ◌∙◌}
use Rattle.bench_texts.specs.BenchTexts.{BenchTexts, no_texts}
use Rattle.bench_texts.specs.declared.edit.Edit as code
use Rattle.bench_texts.specs.Edits.{Edit, Applies, edit_of}
use Rattle.session_edits.specs.Answer.{SessionAnswer}
use Rattle.session_edits.specs.Edits.{IsEditAnswer, IsAccepted, IsRefused}
use Rattle.board.specs.declared.operation.BoardOp.{BoardOp}
use Rattle.memo_engine.specs.declared.graph.TheConstants.{LAST}
use Rattle.session_views.specs.Knowing.{KnowsOwn, KnowsTexts, HasOwnEdit}

-- an edit that is accepted makes them
pub accepted_applies : (t after : BenchTexts) (e : Edit) (said : SessionAnswer) → IsEditAnswer t e said after
    → said.refused ≡ false → Applies t false e after
accepted_applies t after e said (IsAccepted applies is) accepted = applies
accepted_applies t after e said (IsRefused fault answer refuses is same) accepted =
    let wrong : true ≡ false = sym (ap (λ (s : SessionAnswer). s.refused) is) ∙ accepted in absurd cc

-- ---- who knows its texts

abbrev pub HasOwnEdits : code.Edit → (seen later : List BoardOp) → Type 0
HasOwnEdits e seen later = (number : ℕ) × (number ≤ LAST) × HasOwnEdit e number seen later

-- the law of own edits
abbrev pub EditsAreCounted : BenchTexts → Type 0
EditsAreCounted t =
    (e : code.Edit) (number : ℕ) (seen later : List BoardOp) (made : ℕ) (new : BenchTexts)
    → KnowsTexts seen made t → number ≤ LAST → HasOwnEdit e number seen later
    → Applies t false (edit_of e) new → KnowsTexts later (made + 1) new

pub knows_texts : (seen : List BoardOp) (t : BenchTexts) → KnowsOwn [] 0 no_texts → seen ≡ []
    → t ≡ no_texts → KnowsOwn seen 0 t
knows_texts seen t k nothing none =
    subst (λ (l : List BoardOp). KnowsOwn l 0 t) (sym nothing)
    (subst (λ (x : BenchTexts). KnowsOwn [] 0 x) (sym none) k)

pub accepted_ready : (e : code.Edit) (seen later : List BoardOp) (made : ℕ) (t after : BenchTexts)
    (said : SessionAnswer) → EditsAreCounted t → KnowsTexts seen made t → HasOwnEdits e seen later
    → IsEditAnswer t (edit_of e) said after → said.refused ≡ false
    → KnowsTexts later (made + 1) after
accepted_ready e seen later made t after said law ready has edited accepted =
    law e has.0 seen later made after ready has.1 has.2
    (accepted_applies t after (edit_of e) said edited accepted)
