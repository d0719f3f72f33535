use Rattle.std.proofs.Common.{rules, ◌∙◌, ◌≡◌, ◌++◌, ap, map, sym}
use Rattle.type_trees.specs.Trees.{MemberHead, Tree}
use Rattle.type_trees.specs.View.{member_tree, members_of}
use Rattle.idl_printer.specs.Parts.{members_behind}
use Rattle.idl_printer.specs.Lines.{last_base, count_of}
use Rattle.idl_types.specs.declared.declarations.UsedMember.{UsedMember}
use Rattle.idl_types.specs.Uses.{whole}
use Rattle.idl_types.specs.Definitions.{declared, member_head, member_whole, members_before, bases_before}
use Rattle.xt_idl.specs.Outlines.{use_outline, members_outline}
use Rattle.xt_idl.proofs.Outlined.{own_behind}
use Rattle.xt_idl.proofs.outlines.outline_structure.Goals as goal

pub returns : goal.returns
returns c =
    let ts = declared c.args.types.now in
    let base = c.args.kind.now.base in
    let shown : UsedMember → MemberHead × Tree = λ x. (member_head x, use_outline (whole ts x.used)) in
    let own : map member_tree c.append_members.new.members ≡ map shown c.args.kind.now.members =
    c.in_ok-append_members.ensures ∙ ap (λ ms. map member_tree ms ++ map shown c.as_slice-own.result.now) c.new-members.ensures ∙ ap (map shown) c.as_slice-own.ensures in
    let all : members_of (map member_tree c.append_members.new.members) ≡ members_outline (members_behind (count_of (last_base (bases_before ts base))) (members_of (members_before ts base ++ map (member_whole ts) c.args.kind.now.members))) =
    ap members_of own ∙ sym (own_behind ts base c.args.kind.now.members c.requires) in
    search (rules, all)
