use Rattle.std.proofs.Common.{arith}
use Rattle.std.proofs.lemmas.Result.{IfOk-weaker}
use Rattle.why_forbidden.proofs.Graphing.{checks_within, few_candidates, resolved_sound}
use Rattle.why_forbidden.proofs.drawing.space_text.Goals as goal

pub candidates_text-requires-clause-ready : goal.candidates_text-requires-clause-ready
candidates_text-requires-clause-ready c =
    let is = c.in_ok-evaluated.ensures in
    let seen = c.as_judged.ensures in
    rw (seen.text, seen.checks, c.deref.ensures.value, c.deref-3.ensures.value) record {
      named =
          checks_within c.args.space.now _ c.args.model.now c.args.resolved.now.items.items
          c.in_ok-evaluated.evaluated.checks.items c.requires.items is.each_check;
      all = c.in_ok-relations.ensures;
      sized = c.in_ok-shown.ensures.sized;
    }

pub candidates_text-requires-clause-runs : goal.candidates_text-requires-clause-runs
candidates_text-requires-clause-runs c = rw c.deref-2.ensures.value c.in_ok-runs.ensures

pub candidates_text-requires-clause-few : goal.candidates_text-requires-clause-few
candidates_text-requires-clause-few c =
    omega (arith, few_candidates c.args.test.now c.args.space.now c.requires.executions)

pub returns : goal.returns
returns c =
    let is = c.in_ok-evaluated.ensures in
    let seen = c.as_judged.ensures in
    IfOk-weaker c.candidates_text.result _ _ (λ v h. record {
      resolved = c.args.resolved.now.items.items;
      resolves = c.requires.items;
      space = c.args.space.now;
      lists = c.requires.executions;
      values = c.as_judged.result.values;
      checks = c.in_ok-evaluated.evaluated.checks.items;
      shown = c.in_ok-shown.shown.items;
      all_shown = c.in_ok-shown.ensures.all;
      checked = record {
        answers = c.in_ok-evaluated.evaluated.answers;
        valued =
            is.columns (resolved_sound c.args.model.now c.args.resolved.now.items.items
            c.requires.faultless c.requires.items);
        each = is.each_check;
        all = is.all_checks;
        bound = seen.bound;
        each_name = rw seen.predefined is.each_name;
        all_names = rw seen.predefined is.all_names;
      };
      drawn = rw (seen.text, seen.items, seen.checks, c.deref-3.ensures.value) at h;
    }) c.candidates_text.ensures
