use Rattle.std.proofs.Common.{◌++◌, ap, ◌∙◌, append_assoc}
use Rattle.std.specs.Prelude.{codes}
use Rattle.std.proofs.lemmas.Result.{on_ok_weaker}
use Rattle.escaped_texts.specs.Strings.{string_text}
use Rattle.outcome_texts.specs.Log.{observation_word}
use Rattle.outcome_lines.specs.Json.{word_member}
use Rattle.outcome_lines.proofs.json_parts.put_word_member.Goals as goal

pub returns : goal.returns
unfolding word_member
returns c =
    on_ok_weaker c.put_string.result
    (λ e. e
    ∙ ap (λ l. c.put_bytes.new.text.items ++ string_text l) c.observation_word.ensures
    ∙ ap (λ l. l ++ string_text (observation_word c.args.observation)) c.in_ok-put_bytes.ensures
    ∙ append_assoc c.args.text.now.items (codes ",\"observation\":")
    (string_text (observation_word c.args.observation)))
    c.put_string.ensures
