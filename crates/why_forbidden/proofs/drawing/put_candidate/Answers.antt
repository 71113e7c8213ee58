use Rattle.std.proofs.Common.{◌≡◌, ◌∙◌, arith, length, refl}
use Rattle.candidate_spaces.specs.Space.{IsShownAt}
use Rattle.why_forbidden.specs.Drawable.{subject_of}
use Rattle.why_forbidden.proofs.Graphing.{asked_is, none_is, shown_there, wanted_is}
use Rattle.why_forbidden.proofs.drawing.put_candidate.Goals as goal

pub returns-then-not-is_wanted : goal.returns-then-not-is_wanted
returns-then-not-is_wanted c =
    let space = c.args.scene.space.now in
    let k = c.args.candidate in
    let e = c.in-Some.execution in
    let found = c.in_ok-found.found in
    let some = rw c.in-Some.is at c.in_ok-execution.ensures.some in
    let shown : IsShownAt space k e = some.1 in
    let (one, is) = shown_there space k e shown in
    let subject = subject_of c.args.scene in
    let has = asked_is subject k e one c.deref.result.now c.is_satisfied-satisfied.result shown is c.deref.ensures.value c.is_satisfied-satisfied.ensures in
    let kept = none_is c.is_none.result found c.is_none.ensures in
    let asked = wanted_is c.args.request.wanted subject one found c.is_satisfied-satisfied.result c.is_none.result c.is_wanted.result has kept c.is_wanted.ensures in (
      one,
      found,
      record {
        is = is;
        judged = c.in_ok-found.ensures;
        asked = asked ∙ c.if-not-is_wanted.true;
      },
      refl,
    )

pub returns : goal.returns
returns c =
    let space = c.args.scene.space.now in
    let k = c.args.candidate in
    let e = c.in-Some.execution in
    let found = c.in_ok-found.found in
    let some = rw c.in-Some.is at c.in_ok-execution.ensures.some in
    let shown : IsShownAt space k e = some.1 in
    let (one, is) = shown_there space k e shown in
    let subject = subject_of c.args.scene in
    let has = asked_is subject k e one c.deref.result.now c.is_satisfied-satisfied.result shown is c.deref.ensures.value c.is_satisfied-satisfied.ensures in
    let kept = none_is c.is_none.result found c.is_none.ensures in
    let asked = wanted_is c.args.request.wanted subject one found c.is_satisfied-satisfied.result c.is_none.result c.is_wanted.result has kept c.is_wanted.ensures in
    let number : c.len.result ≡ length space.locations.items = omega (arith, c.len.ensures, space.locations.ok.0) in (
      one,
      found,
      c.in_ok-drawing.drawing,
      record {
        is = is;
        judged = c.in_ok-found.ensures;
        asked = asked ∙ c.if-not-is_wanted.false;
      },
      c.in_ok-drawing.ensures one is,
      rw (c.deref-2.ensures.value, number) at c.in_ok-put_unless_skipped.ensures,
    )
