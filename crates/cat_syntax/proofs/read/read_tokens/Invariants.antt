use Rattle.std.proofs.Common.{◌≡◌, ◌-◌, ◌≤◌, length, drop}
use Rattle.cat_syntax.specs.ParserState.{state_of}
use Rattle.cat_grammar.specs.Grammar.{model_limits}
use Rattle.cat_tokens.specs.Lexer.{model_lexing, tokens_from}
use Rattle.cat_grammar.specs.Running.{run_items}
use Rattle.cat_syntax.proofs.read.read_tokens.Given as goal

abbrev pub invariant-loop-offset : goal.invariant-loop-offset
invariant-loop-offset l =
    record { before : l.before ≤ l.offset; within : l.offset ≤ length l.bytes; form : l.parser.form ≡ l.fn.parser.form; ran : run_items model_limits l.fn.parser.form 0 (state_of l.fn.parser) (model_lexing l.bytes) ≡ run_items model_limits l.fn.parser.form l.before (state_of l.parser) (tokens_from 0 l.offset (drop l.offset l.bytes)) }

abbrev pub decreases-loop-offset : goal.decreases-loop-offset
decreases-loop-offset l = length l.bytes - l.offset
