use Rattle.std.proofs.Common.{◌<◌, ◌+◌, ap, sym, subst, arith}
use Rattle.desk_history.specs.Histories.{Pressed}
use Rattle.desk.proofs.Refusing.{not_so}
use Rattle.desk.proofs.state.make_edit.Goals as goal

pub edit_told-requires : goal.edit_told-requires
edit_told-requires g c =
    let laws = g.met.X.BoardTexts in
    let b = c.args.bench.now in
    let later : g.X.BoardTexts.last_number c.args.ledger.now.all < b.taken + 1 = omega (arith, c.requires.last) in
    record {
      may_tell = λ t p prepared. record {
        before = b.texts;
        edit = c.args.edit;
        prepared_so = prepared;
        follows =
            λ op announced. laws.edit_follows b.texts t c.args.edit p (b.taken + 1) op
            c.args.ledger.now.all c.requires.valid c.requires.after later prepared announced;
      };
    }

pub returns-in-Ok-Some-clause-after : goal.returns-in-Ok-Some-clause-after
returns-in-Ok-Some-clause-after g c =
    let laws = g.met.X.BoardTexts in
    let b = c.args.bench.now in
    let told = rw c.in-Ok-Some.field-0-is at (rw c.in-Ok-Some.is at c.edit_told.ensures.told) in
    let a = told.tells_it in
    let after = laws.edit_after b.texts told.ready c.edit_told.new.self.texts c.args.edit told.prepared c.in-Ok-Some.number a.op c.args.ledger.now.all c.requires.valid c.requires.after told.prepares_it a.announced told.commits_it in
    subst (λ l. g.X.BoardTexts.are_after c.edit_told.new.self.texts l) (sym a.all) after

pub returns-in-Ok-Some-clause-made : goal.returns-in-Ok-Some-clause-made
returns-in-Ok-Some-clause-made g c =
    let told = rw c.in-Ok-Some.field-0-is at (rw c.in-Ok-Some.is at c.edit_told.ensures.told) in
    let a = told.tells_it in
    record {
      step = rw c.in-Ok-Some.field-0-is at (rw c.in-Ok-Some.is at c.edit_told.ensures.edited);
      number_is = rw c.in-Ok-Some.field-0-is at (rw c.in-Ok-Some.is at c.edit_told.ensures.number);
      op = a.op;
      is =
          g.met.X.BoardTexts.edit_named c.args.bench.now.texts told.ready c.args.edit told.prepared
          c.in-Ok-Some.number a.op c.args.ledger.now.all c.requires.valid c.requires.after
          told.prepares_it a.announced;
      list = a.all;
    }

pub returns-in-Ok-Some-clause-edited : goal.returns-in-Ok-Some-clause-edited
returns-in-Ok-Some-clause-edited g c =
    let told = rw c.in-Ok-Some.field-0-is at (rw c.in-Ok-Some.is at c.edit_told.ensures.told) in
    let a = told.tells_it in
    record {
      valid = c.requires.valid;
      after = c.requires.after;
      ready = told.ready;
      prepared = told.prepared;
      op = a.op;
      prepares_it = told.prepares_it;
      announced = a.announced;
      commits_it = told.commits_it;
      list = a.all;
    }

pub returns-then-wants_memory-clause-published : goal.returns-then-wants_memory-clause-published
returns-then-wants_memory-clause-published g c =
    ap (λ (l : Pressed _). l.published) c.in-Err.ensures.unseen

pub returns-else-wants_memory-clause-published : goal.returns-else-wants_memory-clause-published
returns-else-wants_memory-clause-published g c =
    ap (λ (l : Pressed _). l.published) c.in-Err.ensures.unseen

pub returns-then-wants_memory-clause-valid : goal.returns-then-wants_memory-clause-valid
returns-then-wants_memory-clause-valid g c = c.in-Err.ensures.refused.texts.valid c.requires.valid

pub returns-then-wants_memory-clause-after : goal.returns-then-wants_memory-clause-after
returns-then-wants_memory-clause-after g c =
    let t = c.args.bench.now.texts in
    let same = c.in-Err.ensures.refused.texts in
    rw c.in-Err.ensures.unseen (g.met.X.BoardTexts.after_same t c.edit_told.new.self.texts
    c.args.ledger.now.all c.requires.valid c.in-Err.ensures.last
    (same.since t (g.met.X.Texts.since_same t c.requires.valid)) c.requires.after)

pub returns-then-wants_memory-clause-last : goal.returns-then-wants_memory-clause-last
returns-then-wants_memory-clause-last g c =
    let taken = c.in-Err.ensures.refused.taken in
    rw c.in-Err.ensures.unseen (omega (arith, taken, c.requires.last))

pub returns-then-wants_memory-clause-err : goal.returns-then-wants_memory-clause-err
returns-then-wants_memory-clause-err g c = (c.in-Err.ensures.refused, c.in-Err.ensures.unseen)

pub returns-else-wants_memory-clause-valid : goal.returns-else-wants_memory-clause-valid
returns-else-wants_memory-clause-valid g c = c.in-Err.ensures.refused.texts.valid c.requires.valid

pub returns-else-wants_memory-clause-after : goal.returns-else-wants_memory-clause-after
returns-else-wants_memory-clause-after g c =
    let t = c.args.bench.now.texts in
    let same = c.in-Err.ensures.refused.texts in
    rw c.in-Err.ensures.unseen (g.met.X.BoardTexts.after_same t c.edit_told.new.self.texts
    c.args.ledger.now.all c.requires.valid c.in-Err.ensures.last
    (same.since t (g.met.X.Texts.since_same t c.requires.valid)) c.requires.after)

pub returns-else-wants_memory-clause-last : goal.returns-else-wants_memory-clause-last
returns-else-wants_memory-clause-last g c =
    let taken = c.in-Err.ensures.refused.taken in
    rw c.in-Err.ensures.unseen (omega (arith, taken, c.requires.last))

pub returns-else-wants_memory-clause-fault : goal.returns-else-wants_memory-clause-fault
returns-else-wants_memory-clause-fault g c =
    (c.in-Err.ensures.fault, not_so c.wants_memory.ensures c.if-wants_memory.false)

pub returns-else-wants_memory-clause-err : goal.returns-else-wants_memory-clause-err
returns-else-wants_memory-clause-err g c = (c.in-Err.ensures.refused, c.in-Err.ensures.unseen)

pub returns-in-Ok-None-clause-valid : goal.returns-in-Ok-None-clause-valid
returns-in-Ok-None-clause-valid g c =
    let refused = rw c.in-Ok-None.field-0-is at (rw c.in-Ok-None.is at c.edit_told.ensures.refused) in
    refused.texts.valid c.requires.valid

pub returns-in-Ok-None-clause-after : goal.returns-in-Ok-None-clause-after
returns-in-Ok-None-clause-after g c =
    let t = c.args.bench.now.texts in
    let refused = rw c.in-Ok-None.field-0-is at (rw c.in-Ok-None.is at c.edit_told.ensures.refused) in
    let held = rw c.in-Ok-None.field-0-is at (rw c.in-Ok-None.is at c.edit_told.ensures.held) in
    let last = rw c.in-Ok-None.field-0-is at (rw c.in-Ok-None.is at c.edit_told.ensures.last) in
    rw held (g.met.X.BoardTexts.after_same t c.edit_told.new.self.texts c.args.ledger.now.all
    c.requires.valid last
    (refused.texts.since t (g.met.X.Texts.since_same t c.requires.valid)) c.requires.after)

pub returns-in-Ok-None-clause-last : goal.returns-in-Ok-None-clause-last
returns-in-Ok-None-clause-last g c =
    let refused = rw c.in-Ok-None.field-0-is at (rw c.in-Ok-None.is at c.edit_told.ensures.refused) in
    let held = rw c.in-Ok-None.field-0-is at (rw c.in-Ok-None.is at c.edit_told.ensures.held) in
    let taken = refused.taken in
    rw held (omega (arith, taken, c.requires.last))

pub returns-in-Ok-None-clause-err : goal.returns-in-Ok-None-clause-err
returns-in-Ok-None-clause-err g c =
    let refused = rw c.in-Ok-None.field-0-is at (rw c.in-Ok-None.is at c.edit_told.ensures.refused) in
    let held = rw c.in-Ok-None.field-0-is at (rw c.in-Ok-None.is at c.edit_told.ensures.held) in
    (refused, held)

pub returns-in-Ok-None-clause-published : goal.returns-in-Ok-None-clause-published
returns-in-Ok-None-clause-published g c =
    let held = rw c.in-Ok-None.field-0-is at (rw c.in-Ok-None.is at c.edit_told.ensures.held) in
    ap (λ (l : Pressed _). l.published) held

pub returns-in-Ok-Some-clause-valid : goal.returns-in-Ok-Some-clause-valid
returns-in-Ok-Some-clause-valid g c =
    let b = c.args.bench.now in
    let step = rw c.in-Ok-Some.field-0-is at (rw c.in-Ok-Some.is at c.edit_told.ensures.edited) in
    g.met.X.Texts.valid_edited b.texts c.edit_told.new.self.texts c.args.edit (b.taken + 1)
    c.requires.valid step.0
