use Rattle.std.proofs.Common.{sym, subst}
use Rattle.std.proofs.lemmas.List.{take_all}
use Rattle.std.proofs.lemmas.List.Elements.{All-more, All-same}
use Rattle.text_values.specs.declared.test.InitEntry.{InitEntry}
use Rattle.meaning_laws.specs.Words.{IsWrittenWord}
use Rattle.meaning_laws.proofs.written.entries_are_words.Goals as goal

pub loop-entry-preserved : goal.loop-entry-preserved
loop-entry-preserved c =
    let P = λ (e : InitEntry). IsWrittenWord e.value in
    All-more P c.args.entries.now c.loop-entry.entry-index c.entry-item.result
    c.loop-entry-test.true c.loop-entry.invariant (subst P c.entry-item.is c.value_is_word.ensures)

pub returns : goal.returns
returns c =
    All-same (λ (e : InitEntry). IsWrittenWord e.value) c.args.entries.now _
    (sym (take_all c.loop-entry.entry-index c.args.entries.now c.loop-entry-test.false))
    c.loop-entry.invariant
