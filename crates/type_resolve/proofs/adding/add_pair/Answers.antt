use Rattle.std.proofs.Common.{[], ◌∷◌}
use Rattle.std.proofs.lemmas.Result.{err_from_is_err_and}
use Rattle.object_formats.specs.Tables.{text_of}
use Rattle.object_formats.specs.View as view
use Rattle.type_resolve.specs.Views.{itself}
use Rattle.type_resolve.proofs.Added.{adds_then, halts_front, halts_then, stores_err}
use Rattle.type_resolve.proofs.adding.add_pair.Goals as goal

pub returns-in_err-minimal : goal.returns-in_err-minimal
returns-in_err-minimal c =
    let p = err_from_is_err_and c.from_residual.result c.from_residual.ensures.1 in
    stores_err itself c.from_residual.result _ _ _ _ _ _ p.1 p.2 (halts_front _ _ _ (text_of (view.object c.args.pair.minimal) ∷ []) (text_of (view.object c.args.pair.complete) ∷ []) c.in_err-minimal.ensures)

pub returns-in_err-complete : goal.returns-in_err-complete
returns-in_err-complete c =
    let r = c.from_residual-in_err-complete in
    let p = err_from_is_err_and r.result r.ensures.1 in
    stores_err itself r.result _ _ _ _ _ _ p.1 p.2 (halts_then _ _ _ _ (text_of (view.object c.args.pair.minimal) ∷ []) (text_of (view.object c.args.pair.complete) ∷ []) c.in_ok-minimal.ensures.0 c.in_err-complete.ensures)

pub returns : goal.returns
returns c =
    let minimal = c.in_ok-minimal.ensures.1 in
    let complete = c.in_ok-complete.ensures.1 in
    (adds_then _ _ _ (text_of (view.object c.args.pair.minimal) ∷ []) (text_of (view.object c.args.pair.complete) ∷ []) c.in_ok-minimal.ensures.0 c.in_ok-complete.ensures.0, cc)
