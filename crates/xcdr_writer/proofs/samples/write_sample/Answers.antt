use Rattle.std.proofs.Common.{ℕ, List, [], ◌∷◌, ◌++◌, OnOk, OnErr, replicate, subst}
use Rattle.type_trees.specs.Bridge.{type_shape}
use Rattle.type_trees.specs.View.{val}
use Rattle.xt_outside.specs.Outside.{AppendsAll, AppendsPrefix}
use Rattle.xcdr_model.specs.FixedSpelling.{fixed_of}
use Rattle.xt_outside.proofs.Joined.{on_err, first_part, both, second_part}
use Rattle.xcdr_writer.proofs.SampleSteps.{sample_is}
use Rattle.xcdr_writer.proofs.samples.write_sample.Goals as goal

pub returns-in_err-write_whole-clause-prefix : goal.returns-in_err-write_whole-clause-prefix
returns-in_err-write_whole-clause-prefix g c =
    let t = type_shape c.args.ty.now in
    let v = val c.args.value.now in
    let id = c.identifier_of.result in
    let pad = c.padding_of-padding.result in
    let old = g.K.Sink.taken c.args.sink.now in
    let new = g.K.Sink.taken c.write_whole.new.sink in
    let part = first_part old new (0 ∷ id ∷ 0 ∷ pad ∷ []) (fixed_of c.args.rep c.args.order t v 0 ++ replicate {A = ℕ} pad 0) c.in_err-write_whole.ensures.prefix in
    on_err c.from_residual.result (subst (λ (l : List ℕ). AppendsPrefix old new l) (sample_is c.args.rep c.args.order t v id pad c.identifier_of.ensures c.padding_of-padding.ensures.padding) part)

pub returns-clause-whole : goal.returns-clause-whole
returns-clause-whole g c =
    let t = type_shape c.args.ty.now in
    let v = val c.args.value.now in
    let id = c.identifier_of.result in
    let pad = c.padding_of-padding.result in
    let old = g.K.Sink.taken c.args.sink.now in
    let new = g.K.Sink.taken c.write_padded.new.sink in
    let all = both c.write_padded.result old (g.K.Sink.taken c.write_whole.new.sink) new (0 ∷ id ∷ 0 ∷ pad ∷ []) (fixed_of c.args.rep c.args.order t v 0 ++ replicate {A = ℕ} pad 0) c.in_ok-write_whole.ensures.whole c.write_padded.ensures.whole in
    subst (λ (l : List ℕ). OnOk c.write_padded.result (AppendsAll old new l)) (sample_is c.args.rep c.args.order t v id pad c.identifier_of.ensures c.padding_of-padding.ensures.padding) all

pub returns-clause-prefix : goal.returns-clause-prefix
returns-clause-prefix g c =
    let t = type_shape c.args.ty.now in
    let v = val c.args.value.now in
    let id = c.identifier_of.result in
    let pad = c.padding_of-padding.result in
    let old = g.K.Sink.taken c.args.sink.now in
    let new = g.K.Sink.taken c.write_padded.new.sink in
    let part = second_part c.write_padded.result old (g.K.Sink.taken c.write_whole.new.sink) new (0 ∷ id ∷ 0 ∷ pad ∷ []) (fixed_of c.args.rep c.args.order t v 0 ++ replicate {A = ℕ} pad 0) c.in_ok-write_whole.ensures.whole c.write_padded.ensures.prefix in
    subst (λ (l : List ℕ). OnErr c.write_padded.result (AppendsPrefix old new l)) (sample_is c.args.rep c.args.order t v id pad c.identifier_of.ensures c.padding_of-padding.ensures.padding) part
