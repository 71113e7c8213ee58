-- Shapes of bodies, and of steps with their kinds.
use Rattle.std.proofs.Common.{◌≡◌, List, [], ◌∷◌, map, refl, sym, ap, ◌∙◌}
use Rattle.binding_kinds.specs.declared.kinds.Kind.{Kind}
use Rattle.binding_graph.specs.declared.resolved.Body.{Body}
use Rattle.binding_graph.specs.declared.resolved.Step.{Step}
use Rattle.binding_graph.specs.declared.resolved.Step.TheVariants as steps
use Rattle.binding_graph.specs.Contents.{CodeContent, BodyContent, RoleContent, Group, Check, Silent, body_content}
use Rattle.binding_graph.specs.Lowering.{LoweringState, lowering_start}
use Rattle.binding_shapes.specs.Shapes.{shape_of_step, shape_of_code, shape_of_body, role_shape, step_with, steps_with, code_in, code_with, body_with, role_with}

-- ---- bodies as they are held

abbrev pub body_shape : Body → BodyContent
body_shape b = shape_of_body (body_content b)

shapes_are : (bs : List Body) → map shape_of_body (map body_content bs) ≡ map body_shape bs
shapes_are [] = refl
shapes_are (b ∷ bs) = ap (λ (l : List BodyContent). body_shape b ∷ l) (shapes_are bs)

pub shapes_from : (xs ys : List Body)
    → map shape_of_body (map body_content xs) ≡ map shape_of_body (map body_content ys)
    → map body_shape xs ≡ map body_shape ys
shapes_from xs ys same = sym (shapes_are xs) ∙ (same ∙ shapes_are ys)

pub shapes_to : (xs ys : List Body) → map body_shape xs ≡ map body_shape ys
    → map shape_of_body (map body_content xs) ≡ map shape_of_body (map body_content ys)
shapes_to xs ys same = shapes_are xs ∙ (same ∙ sym (shapes_are ys))

-- ---- kinds put in come of the shape alone

step_by_shape : (ks : List Kind) (s : Step) (st : LoweringState)
    → step_with ks (shape_of_step s) st ≡ step_with ks s st
step_by_shape ks (steps.PushSet source) st = refl
step_by_shape ks steps.PushEverything st = refl
step_by_shape ks steps.PushNoEvents st = refl
step_by_shape ks (steps.BlendSets how) st = refl
step_by_shape ks steps.ComplementSet st = refl
step_by_shape ks (steps.PushRelation source) st = refl
step_by_shape ks steps.PushNoPairs st = refl
step_by_shape ks (steps.BlendRelations how) st = refl
step_by_shape ks steps.SequenceRelations st = refl
step_by_shape ks steps.ProductOfSets st = refl
step_by_shape ks steps.IdentityOn st = refl
step_by_shape ks (steps.Close how) st = refl
step_by_shape ks steps.ComplementRelation st = refl

pub steps_by_shape : (ks : List Kind) (ss : List Step) (st : LoweringState)
    → steps_with ks (map shape_of_step ss) st ≡ steps_with ks ss st
steps_by_shape ks [] st = refl
steps_by_shape ks (s ∷ ss) st =
    ap (steps_with ks (map shape_of_step ss)) (step_by_shape ks s st)
    ∙ steps_by_shape ks ss (step_with ks s st)

code_by_shape : (ks : List Kind) (c : CodeContent) → code_with ks (shape_of_code c) ≡ code_with ks c
code_by_shape ks c = ap code_in (steps_by_shape ks c.steps lowering_start)

bodies_by_shape : (ks : List Kind) (bs : List BodyContent)
    → map (body_with ks) (map shape_of_body bs) ≡ map (body_with ks) bs
bodies_by_shape ks [] = refl
bodies_by_shape ks (b ∷ bs) = λ i.
    record { name = b.name; code = code_by_shape ks b.code i } ∷ bodies_by_shape ks bs i

pub role_by_shape : (ks : List Kind) (r : RoleContent) → role_with ks (role_shape r) ≡ role_with ks r
role_by_shape ks (Group recursive bodies) = ap (Group recursive) (bodies_by_shape ks bodies)
role_by_shape ks (Check negated word code flag) =
    ap (λ (c : CodeContent). Check negated word c flag) (code_by_shape ks code)
role_by_shape ks Silent = refl
