use Rattle.std.proofs.Common.{List, Ok, ap, sym, subst, ◌∙◌, arith}
use Rattle.cat_syntax.specs.ParserState.{state_of}
use Rattle.cat_syntax.specs.ReadingTexts.{FailsAt}
use Rattle.cat_grammar.specs.Running.{ItemsResult, items_of}
use Rattle.text_values.specs.ModelValue.{Clause}
use Rattle.cat_syntax.proofs.Texts.{at_start, too_long, fits, refused}
use Rattle.cat_syntax.proofs.read.read_all.Goals as goal

pub returns-then-bytes-gt-MAX_BYTES-clause-reads : goal.returns-then-bytes-gt-MAX_BYTES-clause-reads
returns-then-bytes-gt-MAX_BYTES-clause-reads c = too_long c.args.form c.args.bytes.now (omega arith)

pub returns-in-Ok-clause-reads : goal.returns-in-Ok-clause-reads
returns-in-Ok-clause-reads c =
    let parser = c.new-parser.result in
    let started = at_start c.args.form parser.form (state_of parser) c.args.bytes.now c.new-parser.ensures.form c.new-parser.ensures.start in
    fits c.args.form c.args.bytes.now (omega arith)
    ∙ ap items_of (sym started ∙ c.in-Ok.ensures.steps)
    ∙ ap (λ (cs : List Clause). Ok cs) (sym c.into_items.ensures)

pub returns-in-Err-clause-reads : goal.returns-in-Err-clause-reads
returns-in-Err-clause-reads c =
    let parser = c.new-parser.result in
    let started = at_start c.args.form parser.form (state_of parser) c.args.bytes.now c.new-parser.ensures.form c.new-parser.ensures.start in
    refused c.args.form c.args.bytes.now c.in-Err.fault (omega arith) (subst
    (λ (r : ItemsResult). FailsAt c.in-Err.fault r) started c.in-Err.ensures.steps)
