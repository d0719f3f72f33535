use Rattle.std.proofs.Common.{◌≡◌, ◌∙◌, ◌++◌, ◌-◌, ◌<◌, ap, set, length, ℕ, List, arith}
use Rattle.std.specs.Vec.{vec_len}
use Rattle.xt_shapes.specs.declared.leaves.Order.TheVariants.{Little}
use Rattle.xcdr_model.specs.FixedSpelling.{fixed_of}
use Rattle.xcdr_model.specs.Numbers.{padding}
use Rattle.xcdr_model.specs.SampleSpelling.{identifier, with_head}
use Rattle.type_trees.specs.Bridge.{type_shape}
use Rattle.packed_reader.specs.View.{packed_val}
use Rattle.packed_writer.specs.Appending.{Begun}
use Rattle.packed_writer.proofs.Heads.{whole_sample, head_there}
use Rattle.packed_writer.proofs.samples.write_plain.Goals as goal

pub index_mut-requires : goal.index_mut-requires
index_mut-requires c =
    let t = type_shape c.args.ty.now in
    let f = fixed_of c.args.rep Little t (packed_val c.args.value.now) in
    let head = c.in_ok-all.all.items in
    let items = c.end-all.result.items in
    let there : length head - 1 < length c.align.new.self.octets = head_there f c.args.front.items head (identifier c.args.rep t Little) c.in_ok-all.ensures c.new-body.ensures c.in_ok-write_value.ensures c.in_ok-align.ensures in
    let begin : c.len-begin.result ≡ length head = c.len-begin.ensures ∙ ap (λ (k : Begun). length k.octets) c.new-body.ensures in
    let all : items ≡ c.align.new.self.octets = c.end-all.ensures in
    let long : vec_len c.end-all.result ≡ length items = c.end-all.result.ok.0 in
    omega (arith, there, begin, ap length all, long)

pub returns : goal.returns
returns c =
    let t = type_shape c.args.ty.now in
    let f = fixed_of c.args.rep Little t (packed_val c.args.value.now) in
    let front = c.args.front.items in
    let head = c.in_ok-all.all.items in
    let body = c.write_value.new.out in
    let whole : set c.align.new.self.octets (length head - 1) (padding 4 (length body.octets - body.origin)) ≡ front ++ with_head (identifier c.args.rep t Little) (f 0) = whole_sample f front head (identifier c.args.rep t Little) c.in_ok-all.ensures c.new-body.ensures c.in_ok-write_value.ensures c.in_ok-align.ensures in
    let begin : c.len-begin.result ≡ length head = c.len-begin.ensures ∙ ap (λ (k : Begun). length k.octets) c.new-body.ensures in
    let all : c.end-all.result.items ≡ c.align.new.self.octets = c.end-all.ensures in
    let zeros : c.padding-zeros.result ≡ padding 4 (length body.octets - body.origin) = c.padding-zeros.ensures.octets ∙ ap (λ (n : ℕ). padding 4 n) c.place.ensures in
    ap (λ (l : List ℕ). set l (c.len-begin.result - 1) c.padding-zeros.result) all
    ∙ ap (λ (n : ℕ). set c.align.new.self.octets (n - 1) c.padding-zeros.result) begin
    ∙ ap (λ (n : ℕ). set c.align.new.self.octets (length head - 1) n) zeros
    ∙ whole
