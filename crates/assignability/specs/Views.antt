-- What the program's failures and verdicts say: no failure, or a rule with its path (this profile's own).
use Rattle.std.specs.Prelude.{ℕ, Bool, ◌&&◌, ◌||◌, not, Option, Some, None}
use Rattle.std.specs.Option.{option_map}
use Rattle.assignability.specs.declared.verdict.Failure.{Failure}
use Rattle.assignability.specs.declared.verdict.Verdict.{Verdict}
use Rattle.assignability.specs.declared.verdict.Verdict.TheVariants.{Yes, No}
use Rattle.type_rules.specs.Places.{depth, cases_depth}
use Rattle.type_trees.specs.View.{tree, cases_tree}
use Rattle.type_trees.specs.declared.types.UnionType.{UnionType, out-UnionType}
use Rattle.xcdr_model.specs.Failure.{First}
use Rattle.xcdr_model.specs.Keys.{is_structure, key_fit}
use Rattle.xt_shapes.specs.Keyable.{counted}
use Rattle.xt_shapes.specs.Lists.{is_some_and}
use Rattle.xt_shapes.specs.NodeRules.{is_discard}
use Rattle.xt_shapes.specs.Select.{shape_at}
use Rattle.xt_shapes.specs.Shape.{Head, Shape, Members}

abbrev pub failure_view : Option Failure → First
failure_view = option_map (λ f. (f.rule, f.path))

abbrev pub verdict_view : Verdict → First
verdict_view Yes = None
verdict_view (No rule path) = Some (rule, path)

-- a key's member is not counted, or its types keep keys apart on both sides (this profile's rule on keys)
abbrev pub counted_fits : Bool → Head → Shape → Members → Bool
counted_fits keyed h t ns = not (counted keyed h) || ((not (is_structure t) || is_discard h.tc) && is_some_and (shape_at ns h.id) (λ u. key_fit t u))

-- how deep a union's parts are
abbrev pub disc_depth : UnionType → ℕ
disc_depth t = let u = out-UnionType t in depth (tree u.disc)

abbrev pub bodies_depth : UnionType → ℕ
bodies_depth t = let u = out-UnionType t in cases_depth (cases_tree u.cases)
