use Rattle.std.proofs.Common.{sym, ap, ◌∙◌, take}
use Rattle.litmus_tokens.specs.declared.lexer.NextLexeme.TheVariants.{Lexeme}
use Rattle.litmus_tokens.specs.declared.token.Token.TheVariants.{Keyline}
use Rattle.litmus_tokens.specs.Lexer.{line_lexeme}
use Rattle.litmus_tokens.proofs.Turns.{keyline, no_keyline}
use Rattle.litmus_tokens.proofs.lexer.line_lexeme.Goals as goal

pub returns-in-Some : goal.returns-in-Some
returns-in-Some c =
    ap (Lexeme Keyline) c.ascii_length.ensures.value
    ∙ sym (keyline (take c.line_length-n.result c.args.text.now) c.in-Some.field-0
    c.in-Some.ensures)
    ∙ ap (λ n. line_lexeme (take n c.args.text.now)) c.line_length-n.ensures.value

pub returns-in-None : goal.returns-in-None
returns-in-None c =
    sym (no_keyline (take c.line_length-n.result c.args.text.now) c.in-None.ensures)
    ∙ ap (λ n. line_lexeme (take n c.args.text.now)) c.line_length-n.ensures.value
