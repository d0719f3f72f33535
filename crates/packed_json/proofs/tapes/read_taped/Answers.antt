use Rattle.std.proofs.Common.{◌≡◌, ℕ, List, Ok, sym, subst, arith}
use Rattle.std.specs.Str.{IsUtf8}
use Rattle.json.specs.Token.{Token}
use Rattle.packed_reader.specs.declared.values.Packed.{Packed}
use Rattle.packed_reader.specs.View.{packed_val}
use Rattle.std.specs.Prelude.{IfSome}
use Rattle.type_rules.specs.Places.{depth}
use Rattle.type_rules.proofs.Kept.{limits_kept}
use Rattle.type_trees.specs.View.{tree}
use Rattle.json_values.specs.Read.{value_of, read_as}
use Rattle.packed_json.specs.Tapes.{Reads}
use Rattle.dynamic_data.proofs.NamesApart.{type_is_faithful}
use Rattle.packed_json.proofs.OfTapes.Whole.{taped, typed_too}
use Rattle.packed_json.proofs.tapes.read_taped.Goals as goal

pub read_part-requires : goal.read_part-requires
read_part-requires c = type_is_faithful (tree c.args.ty.now) c.requires

pub returns-clause-value : goal.returns-clause-value
returns-clause-value c =
    let t = tree c.args.ty.now in
    let r = c.read_part.result in
    let small = (limits_kept t c.requires).0 in
    let reads = subst (λ (ts : List Token). Reads (value_of t) (depth t) ts r) c.root.ensures.same c.read_part.ensures in
    subst (λ (s : List ℕ). IfSome r (λ (value : Packed). read_as t s ≡ Ok (packed_val value))) c.in-Ok.ensures.cases.0
    (taped t (depth t) c.in-Ok.text.now c.in-Ok-parse.tape r (subst IsUtf8 (sym c.in-Ok.ensures.cases.0) c.in-Ok.ensures.cases.1) c.in-Ok-parse.ensures.ok.1 c.in-Ok-parse.ensures.value (omega arith) reads)

pub returns-clause-typed : goal.returns-clause-typed
returns-clause-typed c = typed_too (tree c.args.ty.now) c.args.text.now c.read_part.result c.requires (returns-clause-value c)
