-- What a resolved item does, as plain data.
use Rattle.std.specs.Prelude.{ℕ, Bool, List, map, Option}
use Rattle.text_values.specs.declared.model.CheckWord.{CheckWord}
use Rattle.binding_kinds.specs.declared.kinds.Kind.{Kind}
use Rattle.binding_graph.specs.declared.resolved.Body.{Body}
use Rattle.binding_graph.specs.declared.resolved.Code.{Code}
use Rattle.binding_graph.specs.declared.resolved.Role.{Role}
use Rattle.binding_graph.specs.declared.resolved.Role.TheVariants as roles
use Rattle.binding_graph.specs.declared.resolved.Step.{Step}

-- an expression of a kind, as steps
pub record CodeContent : Type 0 where
  pub kind : Kind
  pub steps : List Step

pub record BodyContent : Type 0 where
  pub name : List ℕ
  pub code : CodeContent

pub data RoleContent : Type 0 where
  Group : (recursive : Bool) (bodies : List BodyContent) → RoleContent
  Check : (negated : Bool) (word : CheckWord) (code : CodeContent) (flag : Option (List ℕ))
      → RoleContent
  Silent : RoleContent

abbrev pub code_content : Code → CodeContent
code_content c = record { kind = c.kind; steps = c.steps.items }

abbrev pub body_content : Body → BodyContent
body_content b = record { name = b.name; code = code_content b.code }

abbrev pub role_content : Role → RoleContent
role_content (roles.Group recursive bodies) = Group recursive (map body_content bodies.items)
role_content (roles.Check c) = Check c.negated c.word (code_content c.code) c.flag
role_content roles.Silent = Silent
