use Rattle.std.proofs.Common.{◌∙◌, ◌+◌, ◌*◌, ℕ, List, sym, ap}
use Rattle.xt_shapes.specs.Shape.{product}
use Rattle.idl_types.specs.declared.uses.Used.{Used}
use Rattle.idl_types.specs.Uses.{whole}
use Rattle.idl_types.specs.Definitions.{declared}
use Rattle.idl_types.proofs.Wholes.{whole_array}
use Rattle.xt_idl.specs.declared.measures.Measure.{Measure}
use Rattle.xt_idl.specs.Measures.{measured, large, of_collection}
use Rattle.xt_idl.proofs.Measuring.{array_is}
use Rattle.xt_idl.proofs.measures.+measure_use.Goals as goal

pub returns-in-Array : goal.returns-in-Array
returns-in-Array t c =
    let ts = declared c.args.known.now.types.now in
    let element = c.measure_use-elem-in-Array in
    let over : ℕ → Measure = λ w. of_collection element.result.depth element.result.nodes w element.result.is_leaf in
    let of_element : Measure → Measure = λ m. of_collection m.depth m.nodes (large (1 + product c.in-Array.dims * m.weight)) m.is_leaf in
    let weighs = c.array_weight-weight.ensures ∙ ap (λ (ds : List ℕ). large (1 + product ds * element.result.weight)) c.as_slice.ensures in
    let is = element.ensures ∙ ap (λ (u : Used). measured (whole ts u)) c.deref-in-Array.ensures in
    c.of_collection-in-Array.ensures ∙ ap over weighs ∙ ap of_element is ∙ sym (array_is c.in-Array.dims c.in-Array.tc (whole ts c.in-Array.elem.value)) ∙ sym (ap (λ (u : Used). measured (whole ts u)) c.in-Array.is ∙ ap measured (whole_array ts c.in-Array.dims c.in-Array.tc c.in-Array.elem))
