use Rattle.std.proofs.lemmas.Result.{on_ok_weaker}
use Rattle.outcome_texts.proofs.Labels.{witnesses_joined}
use Rattle.outcome_texts.proofs.log.put_witnesses.Goals as goal

pub returns : goal.returns
returns c =
    on_ok_weaker c.put_bytes-4.result
    (witnesses_joined c.args.text.now.items c.put_bytes.new.text.items c.put_bytes-2.new.text.items
    c.put_decimal.new.text.items c.put_bytes-3.new.text.items c.put_decimal-2.new.text.items
    c.put_bytes-4.new.text.items c.met_word.result.now c.args.ok c.args.positive c.args.negative
    c.met_word.ensures c.in_ok-put_bytes.ensures c.in_ok-put_bytes-2.ensures
    c.in_ok-put_decimal.ensures c.in_ok-put_bytes-3.ensures c.in_ok-put_decimal-2.ensures)
    c.put_bytes-4.ensures
