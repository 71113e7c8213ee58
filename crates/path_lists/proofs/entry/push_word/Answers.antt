use Rattle.std.proofs.Common.{◌≢◌, ◌++◌, List, false, None, map, length, true≢false, sym, ap, ◌∙◌, lit<, arith}
use Rattle.std.proofs.lemmas.Bool.Decides.{nat_tests}
use Rattle.std.proofs.lemmas.Result.{on_ok_weaker}
use Rattle.std.proofs.lemmas.Str.Pattern.{starts_char, strip_prefix_char}
use Rattle.path_lists.specs.Lists.{ListedPath, listed_by}
use Rattle.path_lists.proofs.Paths.{path_word}
use Rattle.path_lists.proofs.entry.push_word.Goals as goal

pub returns-in-None : goal.returns-in-None
returns-in-None c =
    let hash = starts_char 35 c.args.word.now false c.if-starts_with.ensures.cases (lit< tt) (lit< tt) in
    let some : length c.args.word.now ≢ 0 = grind (arith, nat_tests) in
    on_ok_weaker c.push_path-in-None.result
    (λ e. e ∙ ap (λ (l : List ListedPath). map listed_by c.args.entries.now.items ++ l)
    (sym (path_word c.args.list.now c.args.line c.args.word.now some
    (λ h. true≢false (sym (hash.1 h)))
    (strip_prefix_char 64 c.args.word.now None c.in-None.ensures.cases (lit< tt)))))
    c.push_path-in-None.ensures
