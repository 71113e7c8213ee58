use Rattle.std.proofs.Common.{ℕ, ◌<◌, ◌≤◌, ◌^◌, arith}
use Rattle.bench_texts.specs.Held.{texts_of}
use Rattle.bench_texts.specs.Edits.{edit_of}
use Rattle.bench_text_laws.proofs.Results.{result_one}
use Rattle.session_views.proofs.Counts.{few_before, knows_own_edit}
use Rattle.session_views.proofs.laws.own_edits_are_counted.Goals as goal

pub returns : goal.returns
returns c = λ e number seen later made new k low h applies.
    let below : made < number = few_before e number seen later made (texts_of c.args.own.now) k.1 h in
    let most : number ≤ 2 ^ 63 = low in (
      omega (arith, below, most),
      knows_own_edit e number seen later made (texts_of c.args.own.now) new k.1 h
          (result_one c.args.own.now (edit_of e)) applies,
    )
