use Rattle.std.proofs.Common.{◌∙◌, ◌&&◌, ℕ, Option, sym, ap, take, arith}
use Rattle.type_trees.specs.Trees.{Tree}
use Rattle.idl_types.specs.declared.declarations.Definition.{Definition}
use Rattle.idl_types.specs.Definitions.{declared, defined, members_on, members_before}
use Rattle.xt_idl.specs.Numbers.{lacks, numbers_in}
use Rattle.xt_idl.proofs.Keeping.{structure_lacks, before_same, before_none, at_most}
use Rattle.xt_idl.proofs.numbers.+bases.Goals as goal

pub lacks_at-returns-then-lacks : goal.lacks_at-returns-then-lacks
lacks_at-returns-then-lacks t c =
    let ds = c.args.known.now.types.now in
    let ts = declared (take c.args.at ds) in
    let name = c.in-Some.declaration.now.name in
    let is = c.in-Some.ensures.1 ∙ ap (λ (d : Definition). defined ts name d) c.in-Struct.is in
    let split = structure_lacks ds c.args.at name c.in-Struct.kind c.args.numbers c.args.known.now.valid is in
    let own = sym (c.lacks.ensures _ c.sets_at.ensures) ∙ c.if-lacks.true in
    c.lacks_below.ensures ∙ sym (split ∙ ap (λ b. b && lacks c.args.numbers (numbers_in (members_before ts c.in-Struct.kind.base))) own)

pub lacks_at-returns-else-lacks : goal.lacks_at-returns-else-lacks
lacks_at-returns-else-lacks t c =
    let ds = c.args.known.now.types.now in
    let ts = declared (take c.args.at ds) in
    let name = c.in-Some.declaration.now.name in
    let is = c.in-Some.ensures.1 ∙ ap (λ (d : Definition). defined ts name d) c.in-Struct.is in
    let split = structure_lacks ds c.args.at name c.in-Struct.kind c.args.numbers c.args.known.now.valid is in
    let own = sym (c.lacks.ensures _ c.sets_at.ensures) ∙ c.if-lacks.false in
    c.if-lacks.false ∙ sym (split ∙ ap (λ b. b && lacks c.args.numbers (numbers_in (members_before ts c.in-Struct.kind.base))) own)

pub lacks_below-returns-then-at-place : goal.lacks_below-returns-then-at-place
lacks_below-returns-then-at-place t c =
    let ds = c.args.known.now.types.now in
    let n = c.args.numbers in
    let base = ap (λ (b : Option ℕ). lacks n (numbers_in (members_before (declared (take c.args.at ds)) b))) c.in-Some.is in
    at_most c.args.at c.in-Some.place c.if-at-place.true ∙ sym (base ∙ ap (λ (x : Tree). lacks n (numbers_in (members_on x))) (before_none ds c.args.at c.in-Some.place (omega (arith, c.if-at-place.true))))

pub lacks_below-returns-else-at-place : goal.lacks_below-returns-else-at-place
lacks_below-returns-else-at-place t c =
    let ds = c.args.known.now.types.now in
    let n = c.args.numbers in
    let base = ap (λ (b : Option ℕ). lacks n (numbers_in (members_before (declared (take c.args.at ds)) b))) c.in-Some.is in
    c.lacks_at.ensures ∙ sym (base ∙ ap (λ (x : Tree). lacks n (numbers_in (members_on x))) (before_same ds c.args.at c.in-Some.place (omega (arith, c.if-at-place.false))))
