use Rattle.std.proofs.Common.{◌≡◌, ◌∙◌, [], ◌∷◌, ◌++◌, ap, rules, take}
use Rattle.std.proofs.lemmas.List.{take_min}
use Rattle.type_trees.specs.Bases.{take_members}
use Rattle.type_trees.specs.View.{members_tree}
use Rattle.type_trees.specs.declared.types.StructType.{out-StructType}
use Rattle.type_values.proofs.BaseSteps.{first_members, base_is}
use Rattle.type_values.proofs.bases.base_of.Goals as goal

pub returns : goal.returns
returns c =
    let s = out-StructType c.args.structure.now in
    let last = c.in-Some.last.now in
    let first : take c.min-count.result c.as_slice-own.result.now ≡ take last.count s.members = search (rules, take_min) in
    let members : members_tree c.in_ok-copy_members.field-0 ≡ take_members last.count (members_tree s.members) = c.in_ok-copy_members.ensures ∙ ap members_tree first ∙ first_members last.count s.members in
    let bases : s.bases ≡ c.in-Some.before.now ++ last ∷ [] = search rules in
    let built = base_is c.args.structure.now c.in-Some.before.now last (members_tree c.in_ok-copy_members.field-0) bases members in
    search (rules, built)
