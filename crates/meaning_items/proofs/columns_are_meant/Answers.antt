use Rattle.meaning_items.proofs.Columns.{columns_meant}
use Rattle.meaning_items.proofs.columns_are_meant.Goals as goal

pub returns : goal.returns
returns c = λ space items resolved faultless made k one there.
    columns_meant space items resolved faultless made k one there
