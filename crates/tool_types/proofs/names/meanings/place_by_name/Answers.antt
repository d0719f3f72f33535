use Rattle.std.proofs.Common.{◌≡◌, ◌+◌, Bool, true, false, Some, drop, if◌then◌else◌, rules, sym, ap, ◌∙◌}
use Rattle.std.specs.Str.{bytes_eq}
use Rattle.idl_types.specs.State.{Declared}
use Rattle.idl_types.specs.Uses.{tree_at}
use Rattle.idl_types.specs.Definitions.{declared}
use Rattle.tool_types.specs.names.Names.{type_by_name}
use Rattle.tool_types.proofs.OfNames.Places.{end_declared, next_declared}
use Rattle.tool_types.proofs.names.meanings.place_by_name.Goals as goal

pub loop-at-preserved : goal.loop-at-preserved
loop-at-preserved c =
    let name = c.args.name.now in
    let types = c.args.types.now in
    let i = c.loop-at.at in
    let d = c.index-types-at.result in
    let next = next_declared types i d c.loop-at-test.true c.index-types-at.is in
    let other : bytes_eq d.name name ≡ false = search rules in
    let passed : type_by_name name (drop i (declared types)) ≡ type_by_name name (drop (i + 1) (declared types)) =
    ap (λ (l : Declared). type_by_name name l) next ∙ ap (λ (b : Bool). if b then Some (tree_at (declared types) i) else type_by_name name (drop (i + 1) (declared types))) other in
    sym passed ∙ c.loop-at.invariant

pub returns-then-eq-clause-found : goal.returns-then-eq-clause-found
returns-then-eq-clause-found c =
    let name = c.args.name.now in
    let types = c.args.types.now in
    let i = c.loop-at.at in
    let d = c.index-types-at.result in
    let next = next_declared types i d c.loop-at-test.true c.index-types-at.is in
    let same : bytes_eq d.name name ≡ true = search rules in
    let here : type_by_name name (drop i (declared types)) ≡ Some (tree_at (declared types) i) =
    ap (λ (l : Declared). type_by_name name l) next ∙ ap (λ (b : Bool). if b then Some (tree_at (declared types) i) else type_by_name name (drop (i + 1) (declared types))) same in
    sym here ∙ c.loop-at.invariant

pub returns-clause-found : goal.returns-clause-found
returns-clause-found c =
    let name = c.args.name.now in
    let types = c.args.types.now in
    let none = end_declared types c.loop-at.at c.loop-at-test.false in
    sym (ap (λ (l : Declared). type_by_name name l) none) ∙ c.loop-at.invariant
