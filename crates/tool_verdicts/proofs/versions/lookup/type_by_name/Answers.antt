use Rattle.std.proofs.Common.{◌≡◌, ◌+◌, List, Bool, false, Some, add-one, drop, if◌then◌else◌, rules, sym, ap, ◌∙◌, subst, ℕ}
use Rattle.std.specs.Str.{bytes_eq}
use Rattle.type_trees.specs.declared.types.Named.{Named}
use Rattle.type_trees.specs.View.{tree}
use Rattle.idl_types.specs.State.{declared}
use Rattle.tool_types.specs.Declaring.{AreIdentified}
use Rattle.tool_types.specs.names.Names.{type_by_name}
use Rattle.tool_types.proofs.Declares.{identified_next, next_type}
use Rattle.tool_verdicts.proofs.versions.lookup.type_by_name.Goals as goal

pub loop-at-preserved : goal.loop-at-preserved
loop-at-preserved c =
    let name = c.args.name.now in
    let types = c.args.types.now in
    let ids = c.args.ids.now in
    let i = c.loop-at.at in
    let t = c.index-types-at.result in
    let next = next_type types i t c.loop-at-test.true c.index-types-at.is in
    let other : bytes_eq t.name name ≡ false = search rules in
    let passed : type_by_name name (declared (drop i types)) ≡ type_by_name name (declared (drop (i + 1) types)) =
    ap (λ (l : List Named). type_by_name name (declared l)) next ∙ ap (λ (b : Bool). if b then Some (tree t.ty) else type_by_name name (declared (drop (i + 1) types))) other in
    record {
      identified = subst (λ (n : ℕ). AreIdentified (declared (drop n types)) (drop n ids)) (sym (add-one i)) (identified_next i types ids c.loop-at-test.true c.loop-at.invariant.identified);
      same = sym passed ∙ c.loop-at.invariant.same;
    }
