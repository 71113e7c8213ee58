-- Elements as bytes: a tag that opens, what stands inside, a tag that closes. `put_open`,
-- `put_close` and `put_element` cite these.
use Rattle.std.specs.Prelude.{ℕ, List, ◌++◌, codes}
use Rattle.std.specs.List.{flat_map}
use Rattle.escaped_texts.specs.Escaped.{escaped}

-- a name and a value
abbrev pub Attribute : Type 0
Attribute = List ℕ × List ℕ

unfoldable pub attribute_text : Attribute → List ℕ
attribute_text a = codes " " ++ a.0 ++ codes "=\"" ++ escaped a.1 ++ codes "\""

unfoldable pub open_tag : List ℕ → List Attribute → List ℕ
open_tag name attributes = codes "<" ++ name ++ flat_map attribute_text attributes ++ codes ">"

unfoldable pub close_tag : List ℕ → List ℕ
close_tag name = codes "</" ++ name ++ codes ">"

-- an element with these bytes inside
unfoldable pub element : List ℕ → List Attribute → List ℕ → List ℕ
element name attributes inside = open_tag name attributes ++ inside ++ close_tag name
