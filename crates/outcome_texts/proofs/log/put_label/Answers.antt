use Rattle.outcome_texts.proofs.Labels.{label_joined}
use Rattle.outcome_texts.proofs.log.put_label.Goals as goal

pub returns : goal.returns
returns c =
    label_joined c.args.text.now.items c.put_bytes.new.text.items c.put_bytes-2.new.text.items
    c.put_bytes-3.new.text.items c.args.name.now
    c.in_ok-put_bytes.ensures c.in_ok-put_bytes-2.ensures c.in_ok-put_bytes-3.ensures
