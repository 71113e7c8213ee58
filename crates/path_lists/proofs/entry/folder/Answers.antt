use Rattle.std.proofs.Common.{Some, None, sym, ◌∙◌, lit<}
use Rattle.std.proofs.lemmas.Str.Pattern.{rfind_char}
use Rattle.path_lists.proofs.Paths.{folder_none, folder_some, front}
use Rattle.path_lists.proofs.entry.folder.Goals as goal

pub returns-in-Some : goal.returns-in-Some
returns-in-Some c =
    let h = rfind_char 47 c.args.path.now (Some c.in-Some.index) c.in-Some.ensures.cases (lit< tt) in
    c.range.ensures.value ∙ front c.args.path.now c.in-Some.index
    ∙ sym (folder_some c.args.path.now c.in-Some.index h.0 h.1 h.2)

pub returns-in-None : goal.returns-in-None
returns-in-None c =
    sym (folder_none c.args.path.now
    (rfind_char 47 c.args.path.now None c.in-None.ensures.cases (lit< tt)))
