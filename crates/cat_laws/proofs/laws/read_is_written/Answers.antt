use Rattle.cat_laws.proofs.Named.{item_is_written, model_is_written, item_was_written, model_was_written}
use Rattle.cat_laws.proofs.laws.read_is_written.Goals as goal

pub returns : goal.returns
returns c =
    record {
      item = item_is_written;
      model = model_is_written;
      read_item = item_was_written;
      read_model = model_was_written;
    }
