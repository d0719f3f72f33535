use Rattle.std.proofs.Common.{drop}
use Rattle.type_trees.specs.declared.types.StructType.{out-StructType}
use Rattle.type_trees.specs.View.{members_tree, cases_tree}
use Rattle.type_resolve.specs.Objects as spec
use Rattle.type_resolve.specs.Views.{member_sides, case_sides}
use Rattle.type_resolve.proofs.Loops.{SoFar, needed}
use Rattle.type_resolve.proofs.Layers.{StandsOn, head_of}
use Rattle.type_resolve.proofs.walk.+objects.Given as goal

abbrev pub invariant-members-loop-member : goal.invariant-members-loop-member
invariant-members-loop-member l = SoFar needed (λ c. spec.member_parts c) l.fn.pool l.pool (members_tree l.own) (members_tree (drop l.member-index l.own)) (member_sides l.parts)

abbrev pub invariant-cases-loop-case : goal.invariant-cases-loop-case
invariant-cases-loop-case l = SoFar spec.case_texts (λ c. spec.case_parts c) l.fn.pool l.pool (cases_tree l.cases) (cases_tree (drop l.case-index l.cases)) (case_sides l.parts)

abbrev pub invariant-structure-loop-layer : goal.invariant-structure-loop-layer
invariant-structure-loop-layer l = StandsOn (head_of l.kind) (members_tree (out-StructType l.kind).members) l.fn.pool l.pool l.base l.had (drop l.layer-index (out-StructType l.kind).bases)
