-- The words of the language.
use Rattle.std.specs.Prelude.{ℕ, List, Bool, true, false, ◌||◌, Option, Some, None, codes, if◌then◌else◌}
use Rattle.std.specs.Str.{bytes_eq}
use Rattle.cat_tokens.specs.declared.rule.CatRule.TheVariants.{Unsupported}
use Rattle.text_values.specs.declared.model.CheckWord.TheVariants.{Acyclic, Irreflexive, Empty}
use Rattle.cat_tokens.specs.declared.token.Token.{Token}
use Rattle.cat_tokens.specs.declared.token.Token.TheVariants as tokens

-- a word that begins an item
unfoldable pub item_word : List ℕ → Option Token
item_word t =
    if bytes_eq t (codes "let") then Some tokens.Let else (
    if bytes_eq t (codes "acyclic") then Some (tokens.Check Acyclic) else (
    if bytes_eq t (codes "irreflexive") then Some (tokens.Check Irreflexive) else (
    if bytes_eq t (codes "empty") then Some (tokens.Check Empty) else (
    if bytes_eq t (codes "flag") then Some tokens.Flag else (
    if bytes_eq t (codes "show") then Some tokens.Show else (
    if bytes_eq t (codes "unshow") then Some tokens.Unshow else (
    if bytes_eq t (codes "include") then Some tokens.Include else None)))))))

-- a word within an item
unfoldable pub part_word : List ℕ → Option Token
part_word t =
    if bytes_eq t (codes "rec") then Some tokens.Rec else (
    if bytes_eq t (codes "and") then Some tokens.And else (
    if bytes_eq t (codes "as") then Some tokens.As else None))

-- a word of definitions that models may not use here
unfoldable pub is_definition_word : List ℕ → Bool
is_definition_word t =
    if bytes_eq t (codes "procedure") then true else (
    if bytes_eq t (codes "call") then true else (
    if bytes_eq t (codes "enum") then true else (
    if bytes_eq t (codes "match") then true else (
    if bytes_eq t (codes "try") then true else (
    if bytes_eq t (codes "fold") then true else (
    if bytes_eq t (codes "fun") then true else (
    if bytes_eq t (codes "function") then true else (
    if bytes_eq t (codes "instructions") then true else false))))))))

-- another word that models may not use here
unfoldable pub is_other_word : List ℕ → Bool
is_other_word t =
    if bytes_eq t (codes "with") then true else (
    if bytes_eq t (codes "from") then true else (
    if bytes_eq t (codes "in") then true else (
    if bytes_eq t (codes "begin") then true else (
    if bytes_eq t (codes "end") then true else (
    if bytes_eq t (codes "forall") then true else (
    if bytes_eq t (codes "do") then true else (
    if bytes_eq t (codes "undefined_unless") then true else (
    if bytes_eq t (codes "requires") then true else (
    if bytes_eq t (codes "default") then true else false)))))))))

abbrev pub name_or_broken : Bool → List ℕ → Token
name_or_broken true n = tokens.Broken Unsupported
name_or_broken false n = tokens.Name n

abbrev pub word_or : Option Token → Token → Token
word_or (Some t) other = t
word_or None other = other

-- the token of a word: one of the grammar, one that is not supported, or a name
abbrev pub word_token : List ℕ → Token
word_token n =
    word_or (item_word n) (word_or (part_word n)
    (name_or_broken (is_definition_word n || is_other_word n) n))
