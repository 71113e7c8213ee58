use Rattle.std.proofs.Common.{length, IsTrue, fold, subst}
use Rattle.std.specs.Prelude.{is_ok}
use Rattle.cells.specs.Cells.{cells as cells_of}
use Rattle.desk_ledger.specs.Posts.{IsPosted, SettlesRight}
use Rattle.desk_ledger.proofs.Outcomes.{get_below}
use Rattle.desk_ledger.proofs.Appending.{posts_one, posted_here, posted_kept, count_one}
use Rattle.desk_ledger.proofs.AllPosted.{keeps_one}
use Rattle.desk_ledger.proofs.posting.post.Goals as goal

pub append-requires : goal.append-requires
append-requires g c =
    let x = g.X.BoardTexts in
    let ops = c.args.press.now.all in
    let b = fold g.X.Operations.after g.X.Operations.none ops in
    let scratch = g.X.CellTexts.from_scratch c.args.bench.now.texts in
    let m = subst (λ d. SettlesRight x.settles scratch d (x.cells d) c.args.index c.in-Ok-Some.op) c.in-Some.ensures (rw c.in-Ok-Some.field-0-is at (rw c.in-Ok-Some.is at c.settle_of-made.ensures.made)) in
    let e = get_below (x.cells b) c.args.index c.requires.at in
    g.met.X.BoardTexts.settle_follows c.args.bench.now.texts ops c.args.index e.0 m.outcome
    c.in-Ok-Some.op c.requires.valid c.requires.after e.1 (m.right e.0 e.1) m.op_is

pub returns-in-Ok-Some-clause-posts : goal.returns-in-Ok-Some-clause-posts
returns-in-Ok-Some-clause-posts g c =
    let x = g.X.BoardTexts in
    let laws = g.met.X.BoardTexts in
    let o = g.X.Operations in
    let t = c.args.bench.now.texts in
    let ops = c.args.press.now.all in
    let b = fold o.after o.none ops in
    let op = c.in-Ok-Some.op in
    let scratch = g.X.CellTexts.from_scratch t in
    let m = subst (λ d. SettlesRight x.settles scratch d (x.cells d) c.args.index op) c.in-Some.ensures (rw c.in-Ok-Some.field-0-is at (rw c.in-Ok-Some.is at c.settle_of-made.ensures.made)) in
    let settle = laws.settle_named b c.args.index m.outcome op m.op_is in
    let shows = laws.settle_shows b c.args.index m.outcome op m.op_is in
    let means = cells_of g.X.CellTexts.verdict_of g.X.CellTexts.outcome_in g.X.CellTexts.from_scratch g.X.CellTexts.reaches in
    posts_one x.is_settle x.are_after x.last_number (λ l. length (x.cells (fold o.after o.none l)))
    t c.append.result c.args.press.now c.append.new.self op c.append.ensures.all
    c.append.ensures.published
    settle c.requires.after (laws.settle_after t ops op c.requires.after settle)
    (laws.settle_number ops op settle) (count_one g.X.Texts.net means c.args.bench.now x.cells
    o.after o.none ops op c.args.index m.outcome shows)

pub returns-in-Ok-Some-clause-posted : goal.returns-in-Ok-Some-clause-posted
returns-in-Ok-Some-clause-posted g c ok =
    let x = g.X.BoardTexts in
    let o = g.X.Operations in
    let ops = c.args.press.now.all in
    let b = fold o.after o.none ops in
    let op = c.in-Ok-Some.op in
    let scratch = g.X.CellTexts.from_scratch c.args.bench.now.texts in
    let m = subst (λ d. SettlesRight x.settles scratch d (x.cells d) c.args.index op) c.in-Some.ensures (rw c.in-Ok-Some.field-0-is at (rw c.in-Ok-Some.is at c.settle_of-made.ensures.made)) in
    let shows = g.met.X.BoardTexts.settle_shows b c.args.index m.outcome op m.op_is in
    let means = cells_of g.X.CellTexts.verdict_of g.X.CellTexts.outcome_in g.X.CellTexts.from_scratch g.X.CellTexts.reaches in
    posted_here g.X.Texts.net means c.args.bench.now x.cells o.after o.none c.append.result ops
    c.append.new.self.all op c.args.index m.outcome c.append.ensures.all shows
    (subst IsTrue c.is_ok.ensures.value ok)

pub returns-in-Ok-Some-clause-kept : goal.returns-in-Ok-Some-clause-kept
returns-in-Ok-Some-clause-kept g c =
    let x = g.X.BoardTexts in
    let o = g.X.Operations in
    let ops = c.args.press.now.all in
    let b = fold o.after o.none ops in
    let op = c.in-Ok-Some.op in
    let scratch = g.X.CellTexts.from_scratch c.args.bench.now.texts in
    let m = subst (λ d. SettlesRight x.settles scratch d (x.cells d) c.args.index op) c.in-Some.ensures (rw c.in-Ok-Some.field-0-is at (rw c.in-Ok-Some.is at c.settle_of-made.ensures.made)) in
    let shows = g.met.X.BoardTexts.settle_shows b c.args.index m.outcome op m.op_is in
    let means = cells_of g.X.CellTexts.verdict_of g.X.CellTexts.outcome_in g.X.CellTexts.from_scratch g.X.CellTexts.reaches in
    posted_kept g.X.Texts.net means c.args.bench.now x.cells o.after o.none c.append.result ops
    c.append.new.self.all op c.args.index m.outcome c.append.ensures.all shows

pub returns-in-Ok-None-clause-posted : goal.returns-in-Ok-None-clause-posted
returns-in-Ok-None-clause-posted g c ok =
    let x = g.X.BoardTexts in
    let means = cells_of g.X.CellTexts.verdict_of g.X.CellTexts.outcome_in g.X.CellTexts.from_scratch g.X.CellTexts.reaches in
    subst (λ d. IsPosted g.X.Texts.net means c.args.bench.now (x.cells d) c.args.index)
    c.in-Some.ensures (rw c.in-Ok-None.field-0-is at
    (rw c.in-Ok-None.is at c.settle_of-made.ensures.none))

pub returns-in-Ok-Some-clause-stays : goal.returns-in-Ok-Some-clause-stays
returns-in-Ok-Some-clause-stays g c =
    let x = g.X.BoardTexts in
    let o = g.X.Operations in
    let ops = c.args.press.now.all in
    let b = fold o.after o.none ops in
    let op = c.in-Ok-Some.op in
    let scratch = g.X.CellTexts.from_scratch c.args.bench.now.texts in
    let m = subst (λ d. SettlesRight x.settles scratch d (x.cells d) c.args.index op) c.in-Some.ensures (rw c.in-Ok-Some.field-0-is at (rw c.in-Ok-Some.is at c.settle_of-made.ensures.made)) in
    let shows = g.met.X.BoardTexts.settle_shows b c.args.index m.outcome op m.op_is in
    keeps_one x.cells o.after o.none c.append.result ops c.append.new.self.all op c.args.index
    m.outcome c.append.ensures.all shows
