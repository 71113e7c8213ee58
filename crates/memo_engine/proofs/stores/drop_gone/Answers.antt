use Rattle.std.proofs.Common.{◌∙◌, rules, sym}
use Rattle.memo_core.proofs.Slots.{retained_memos, retained_marks, retained_matched}
use Rattle.memo_engine.proofs.MatchLemmas.{retained_old}
use Rattle.memo_engine.proofs.stores.drop_gone.Goals as goal

pub returns-clause-memos : goal.returns-clause-memos
returns-clause-memos g c =
    retained_memos _ (g.T.Texts.keeps c.args.texts.now) _ (λ n k b w h call. search rules) _ _
    c.retain.ensures.filtered

pub returns-clause-marks : goal.returns-clause-marks
returns-clause-marks g c =
    λ n. retained_marks _ (g.T.Texts.keeps c.args.texts.now) _ (λ n k b w h call. search rules) _ _
    c.retain.ensures.filtered n

pub returns-clause-matched : goal.returns-clause-matched
returns-clause-matched g c =
    λ n h.
    retained_old (g.T.Texts.keeps c.args.texts.now n) _ (sym (retained_matched _
    (g.T.Texts.keeps c.args.texts.now) _ (λ n k b w h call. search rules) _ _
    c.retain.ensures.filtered n) ∙ h)
