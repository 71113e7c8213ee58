use Rattle.cat_grammar.proofs.Outcomes.{items_found, items_only, fault_found, no_fault}
use Rattle.cat_grammar.proofs.laws.reads_the_grammar.Goals as goal

pub returns : goal.returns
returns c =
    record {
      found = λ form ps ts ends cs e. items_found form ps ts ends cs e;
      only = items_only;
      fault = fault_found;
      whole = no_fault;
    }
