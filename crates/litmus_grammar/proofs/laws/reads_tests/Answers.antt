use Rattle.std.proofs.Common.{refl}
use Rattle.litmus_grammar.proofs.Heads.{test_led, test_whole, few_of}
use Rattle.litmus_grammar.proofs.TestFaults.{test_fault_where}
use Rattle.litmus_grammar.proofs.laws.reads_tests.Goals as goal

pub returns-clause-found : goal.returns-clause-found
returns-clause-found c = λ ps s few e d.
    let x = test_whole ps s few e d in
    record { tree = x.tree; fine = x.fine; whole = x.whole }

pub returns-clause-complete : goal.returns-clause-complete
returns-clause-complete c = λ ps x few.
    let t = test_led x.tree x.fine (few_of x.tree ps x.whole few) ps x.whole in
    record {
      after = _;
      by = t.by;
      holds = record {
        name = refl;
        init = record { entries = t.entries; stand = t.stand };
        meant = t.meant;
        noted = t.noted;
        observed = refl;
        condition = record { quantifier_is = refl; formula_is = refl };
      };
    }

pub returns-clause-fault : goal.returns-clause-fault
returns-clause-fault c = λ ps rule offset few e. test_fault_where ps rule offset few e
