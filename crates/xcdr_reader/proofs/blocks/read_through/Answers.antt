use Rattle.std.proofs.Common.{◌≡◌, ◌*◌, ◌∙◌, ap, refl, List, ℕ, length, Ok}
use Rattle.std.proofs.lemmas.Result.{err_from_is_err_and}
use Rattle.xt_shapes.specs.declared.leaves.Order.{Order}
use Rattle.xt_shapes.specs.declared.leaves.Primitive.{Primitive}
use Rattle.xt_shapes.specs.declared.leaves.Try.{Try}
use Rattle.xt_shapes.specs.Defaults.{default_of}
use Rattle.xt_shapes.specs.Sizes.{size}
use Rattle.xt_shapes.specs.Vals.{Val}
use Rattle.type_trees.specs.Bridge.{type_shape}
use Rattle.xcdr_model.specs.Reading.{Spot, Reading, ◌>>=◌, octets_at}
use Rattle.try_construct.specs.Gathering.{Gathered}
use Rattle.try_construct.specs.Items.{items_of}
use Rattle.xt_wire.specs.cursor.Standing.{Standing}
use Rattle.xt_wire.proofs.OfCursor.Ahead.{Ahead, begins, goes_on, fails, ends}
use Rattle.xcdr_reader.specs.Blocks.{and_numbers, block_read}
use Rattle.xcdr_reader.proofs.blocks.read_through.Goals as goal

behind : ℕ → Try → Val → Primitive → ℕ → Gathered Val → List ℕ → Order → Spot → Reading (Gathered Val)
behind bound tc d p m g ys o s = Ok (and_numbers bound tc d o p m g ys, s)

starts : (bound : ℕ) (tc : Try) (d : Val) (p : Primitive) (m : ℕ) (g : Gathered Val) (n : ℕ) (a : Standing) → n ≡ m * size p → Ahead (block_read bound tc d p m g) (λ o s. octets_at n s >>= λ ys. behind bound tc d p m g ys.0 o ys.1) a a
unfolding behind
starts bound tc d p m g n a e = begins (block_read bound tc d p m g) _ a (λ s. rw e refl)

pub returns-in_err-read_octets : goal.returns-in_err-read_octets
unfolding behind
returns-in_err-read_octets g c =
    let a = g.C.Cursor.state c.args.cursor.now in
    let into = c.read_octets.new.into in
    let d = default_of (type_shape c.args.elem.now.ty) in
    let p = err_from_is_err_and c.from_residual.result c.from_residual.ensures.1 in
    rw (p.1, p.2) (fails (λ u. into) _ (λ o s. octets_at (length into) s) (behind c.args.bound c.args.elem.now.tc d c.args.prim c.args.many (items_of c.args.items.now)) (starts c.args.bound c.args.elem.now.tc d c.args.prim c.args.many (items_of c.args.items.now) (length into) a (c.read_octets.auto.into ∙ c.requires)) c.in_err-read_octets.ensures)

pub returns : goal.returns
unfolding behind
returns g c =
    let a = g.C.Cursor.state c.args.cursor.now in
    let into = c.read_octets.new.into in
    let d = default_of (type_shape c.args.elem.now.ty) in
    let u = goes_on (λ u. into) (λ o s. octets_at (length into) s) (behind c.args.bound c.args.elem.now.tc d c.args.prim c.args.many (items_of c.args.items.now)) (starts c.args.bound c.args.elem.now.tc d c.args.prim c.args.many (items_of c.args.items.now) (length into) a (c.read_octets.auto.into ∙ c.requires)) c.in_ok-read_octets.ensures in
    ends _ (λ o. and_numbers c.args.bound c.args.elem.now.tc d o c.args.prim c.args.many (items_of c.args.items.now) into) u (c.in_ok-take_numbers.ensures ∙ ap (λ (o : Order). and_numbers c.args.bound c.args.elem.now.tc d o c.args.prim c.args.many (items_of c.args.items.now) into) (c.order.ensures ∙ c.in_ok-read_octets.ensures.within.order))
