-- What holds of each page.
use Rattle.std.specs.Prelude.{◌≡◌, ℕ, List, [], ◌++◌, All}
use Rattle.escaped_texts.specs.Balanced.{Content, markup_behind}
use Rattle.report_details.specs.Reported.{ReportedTest}
use Rattle.report_page.specs.Page.{type_line}
use Rattle.report_answers.specs.Scripts.{IsPlainMarkup, script_count}

-- each drawing closes its elements in order and opens no script
abbrev pub HasPlainDrawings : ReportedTest → Type 0
HasPlainDrawings t = All IsPlainMarkup t.drawings

-- Behind the line of its type a page opens and closes elements in order, and one of them is a script.
pub record IsWellFormed (page : List ℕ) : Type 0 where
  pub body : List ℕ
  pub begins : page ≡ type_line ++ body
  pub closes : markup_behind (Content []) body ≡ Content []
  pub has_one_script : script_count (Content []) body ≡ 1
