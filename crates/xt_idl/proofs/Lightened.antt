-- What the rules at a type's own node see of it is there without the types of its cases.
use Rattle.std.proofs.Common.{◌≡◌, refl, sym, ap, ◌∙◌, List, [], ◌∷◌, map}
use Rattle.xt_shapes.specs.declared.leaves.Primitive.TheVariants.{Boolean}
use Rattle.xt_shapes.specs.Shape.{case_heads}
use Rattle.type_trees.specs.Trees.{CaseHead, Tree, prim, str, enumeration, bitmask, sequence, array, map_of, structure, union, alias, Cases, no_cases, one_case}
use Rattle.type_trees.specs.View.{cases_of}
use Rattle.type_trees.specs.Bridge.{case_shape, case_shapes}
use Rattle.node_rules.specs.Table.{case_names, failing}
use Rattle.idl_types.specs.State.{Declared}
use Rattle.idl_types.specs.declared.declarations.UsedCase.{UsedCase}
use Rattle.idl_types.specs.Definitions.{case_whole}
use Rattle.xt_idl.specs.Light.{bare_case, light_cases, light, bare_used}

pub bare_cases : (cs : List (CaseHead × Tree)) → cases_of (map bare_case cs) ≡ light_cases (cases_of cs)
bare_cases [] = refl
bare_cases (c ∷ cs) = ap (λ rest. one_case c.0 (prim Boolean) rest) (bare_cases cs)

own_bare_cases : (ts : Declared) (own : List UsedCase) → map bare_case (map (case_whole ts) own) ≡ map bare_used own
own_bare_cases ts [] = refl
own_bare_cases ts (c ∷ own) = ap (λ rest. bare_used c ∷ rest) (own_bare_cases ts own)

pub cases_are : (ts : Declared) (own : List UsedCase) → light_cases (cases_of (map (case_whole ts) own)) ≡ cases_of (map bare_used own)
cases_are ts own = sym (bare_cases (map (case_whole ts) own)) ∙ ap cases_of (own_bare_cases ts own)

-- ---- the rules at the node

case_names_kept : (cs : Cases) → case_names (light_cases cs) ≡ case_names cs
case_names_kept no_cases = refl
case_names_kept (one_case h t cs) = ap (λ rest. h.name ∷ rest) (case_names_kept cs)

case_heads_kept : (cs : Cases) → case_heads (case_shapes (light_cases cs)) ≡ case_heads (case_shapes cs)
case_heads_kept no_cases = refl
case_heads_kept (one_case h t cs) = ap (λ rest. case_shape h ∷ rest) (case_heads_kept cs)

pub failing_light : (t : Tree) → failing (light t) ≡ failing t
unfolding failing
failing_light (structure h ms) = refl
failing_light (union h d cs) = rw (case_names_kept cs, case_heads_kept cs) refl
failing_light (alias n t) = refl
failing_light (prim p) = refl
failing_light (str n) = refl
failing_light (enumeration n x b ls) = refl
failing_light (bitmask n b fs) = refl
failing_light (sequence n c t) = refl
failing_light (array ds c t) = refl
failing_light (map_of n kc k vc v) = refl
