use Rattle.std.proofs.Common.{◌≡◌, Some, None, ap, sym, ◌∙◌, subst}
use Rattle.std.proofs.lemmas.Option.{none-some, same_Some}
use Rattle.memo_core.specs.Run.{Bench}
use Rattle.memo_core.specs.Views.{as_memos, shown_outputs}
use Rattle.cells.specs.Cells.{IsVerdict}
use Rattle.cells.proofs.Solved.{bench_solved, value_shows, carries_same}
use Rattle.cells.proofs.bench.Bench.shown_at.Goals as goal

pub shown-requires-clause-used : goal.shown-requires-clause-used
shown-requires-clause-used g c =
    let s = c.self.inside.graph in
    let valid = c.self.invariant.right.0 in
    let is = subst (λ (b : Bench _ _). IsVerdict (g.T.CellTexts.verdict_of b.texts) c.args.verdict) (sym c.self.view_is) c.requires in
    g.met.T.CellTexts.verdict_used s.texts is.0 is.1 c.args.verdict valid is.2

pub unreachable-requires : goal.unreachable-requires
unreachable-requires g c =
    let s = c.self.inside.graph in
    let t = g.T.Texts in
    let laws = g.met.T.Texts in
    let ms = as_memos s.memos.entries in
    let valid = c.self.invariant.right.0 in
    let is = subst (λ (b : Bench _ _). IsVerdict (g.T.CellTexts.verdict_of b.texts) c.args.verdict) (sym c.self.view_is) c.requires in
    let solved = bench_solved t.is_valid t.since t.net t.makes t.is_there laws.given_stays laws.sound laws.used_there laws.used_closed s.texts ms s.taken valid c.self.invariant.right.1 in
    let held = g.met.T.CellTexts.solved s.texts is.0 is.1 valid ms c.args.verdict solved is.2 c.in-Some.ensures.settled in
    let found = value_shows g.T.CellTexts.outcome_in ms c.args.verdict (shown_outputs c.in-Some.outputs.now) held.0 held.1 c.in-Some.ensures.stored None c.in-None-output_token.ensures.value in
    none-some found.0 found.1

pub unreachable-requires-in-None-outcome_in : goal.unreachable-requires-in-None-outcome_in
unreachable-requires-in-None-outcome_in g c =
    let s = c.self.inside.graph in
    let t = g.T.Texts in
    let laws = g.met.T.Texts in
    let ms = as_memos s.memos.entries in
    let valid = c.self.invariant.right.0 in
    let is = subst (λ (b : Bench _ _). IsVerdict (g.T.CellTexts.verdict_of b.texts) c.args.verdict) (sym c.self.view_is) c.requires in
    let solved = bench_solved t.is_valid t.since t.net t.makes t.is_there laws.given_stays laws.sound laws.used_there laws.used_closed s.texts ms s.taken valid c.self.invariant.right.1 in
    let held = g.met.T.CellTexts.solved s.texts is.0 is.1 valid ms c.args.verdict solved is.2 c.in-Some.ensures.settled in
    let found = value_shows g.T.CellTexts.outcome_in ms c.args.verdict (shown_outputs c.in-Some.outputs.now) held.0 held.1 c.in-Some.ensures.stored (Some c.in-Some-output_token.token.now.value) c.in-Some-output_token.ensures.value in
    none-some held.0 (c.in-None-outcome_in.ensures
    ∙ ap g.T.CellTexts.outcome_in (c.see.ensures ∙ same_Some _ _ found.1) ∙ found.2)

pub returns-clause-shown : goal.returns-clause-shown
returns-clause-shown g c test model there =
    let s = c.self.inside.graph in
    let t = g.T.Texts in
    let laws = g.met.T.Texts in
    let ms = as_memos s.memos.entries in
    let valid = c.self.invariant.right.0 in
    let is_there = subst (λ (b : Bench _ _). g.T.CellTexts.verdict_of b.texts test model ≡ Some c.args.verdict) (sym c.self.view_is) there in
    let solved = bench_solved t.is_valid t.since t.net t.makes t.is_there laws.given_stays laws.sound laws.used_there laws.used_closed s.texts ms s.taken valid c.self.invariant.right.1 in
    let held = g.met.T.CellTexts.solved s.texts test model valid ms c.args.verdict solved is_there c.in-Some.ensures.settled in
    let found = value_shows g.T.CellTexts.outcome_in ms c.args.verdict (shown_outputs c.in-Some.outputs.now) held.0 held.1 c.in-Some.ensures.stored (Some c.in-Some-output_token.token.now.value) c.in-Some-output_token.ensures.value in
    let is = same_Some _ _ (c.in-Some-outcome_in.ensures ∙ ap g.T.CellTexts.outcome_in (c.see.ensures ∙ same_Some _ _ found.1) ∙ found.2) in
    rw (← c.self.view_is) (record {
      verdict = c.args.verdict;
      is = is_there;
      settled = c.in-Some.ensures.settled;
      carries =
          carries_same g.T.CellTexts.outcome_in ms c.args.verdict held.0
          c.in-Some-outcome_in.outcome.now (sym is) held.1;
    })

pub returns-clause-from_scratch : goal.returns-clause-from_scratch
returns-clause-from_scratch g c test model there =
    let s = c.self.inside.graph in
    let t = g.T.Texts in
    let laws = g.met.T.Texts in
    let ms = as_memos s.memos.entries in
    let valid = c.self.invariant.right.0 in
    let is_there = subst (λ (b : Bench _ _). g.T.CellTexts.verdict_of b.texts test model ≡ Some c.args.verdict) (sym c.self.view_is) there in
    let solved = bench_solved t.is_valid t.since t.net t.makes t.is_there laws.given_stays laws.sound laws.used_there laws.used_closed s.texts ms s.taken valid c.self.invariant.right.1 in
    let held = g.met.T.CellTexts.solved s.texts test model valid ms c.args.verdict solved is_there c.in-Some.ensures.settled in
    let found = value_shows g.T.CellTexts.outcome_in ms c.args.verdict (shown_outputs c.in-Some.outputs.now) held.0 held.1 c.in-Some.ensures.stored (Some c.in-Some-output_token.token.now.value) c.in-Some-output_token.ensures.value in
    let is = same_Some _ _ (c.in-Some-outcome_in.ensures ∙ ap g.T.CellTexts.outcome_in (c.see.ensures ∙ same_Some _ _ found.1) ∙ found.2) in
    rw (← c.self.view_is, is) held.2
