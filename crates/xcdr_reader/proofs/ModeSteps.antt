-- What comes of a member, and what is left of a region, by what was tested.
use Rattle.std.proofs.Common.{◌≡◌, refl, sym, ap, ◌∙◌, ℕ, ◌+◌, true, false, [], length, drop, nat_lt, Ok, arith}
use Rattle.std.proofs.lemmas.Bool.{le-ltb}
use Rattle.std.proofs.lemmas.List.{drop_all}
use Rattle.xt_shapes.specs.declared.leaves.Order.{Order}
use Rattle.xcdr_model.specs.Reading.{Spot, Reading, ◌>>=◌, step}
use Rattle.xt_shapes.specs.Shape.{Members}
use Rattle.xcdr_model.specs.Projection.{Part}
use Rattle.xcdr_model.specs.Xcdr1Reading.{at_end_of}
use Rattle.xt_wire.specs.cursor.Standing.{Standing, Stands, room}
use Rattle.xt_wire.specs.cursor.Decoding.{spot}
use Rattle.xt_wire.specs.cursor.Steps.{pass_at}
use Rattle.xt_wire.proofs.OfCursor.Ahead.{Ahead, begins, rephrased, room_is}
use Rattle.xcdr_reader.specs.declared.modes.Mode.{Mode}
use Rattle.xcdr_reader.specs.declared.modes.Mode.TheVariants.{Two, Inner, Tail}
use Rattle.xcdr_reader.specs.Modes.{to_end}
use Rattle.xcdr_reader.specs.Insides.{members_read, cut_read}
use Rattle.xcdr_reader.proofs.Gathering.{bind_ok}

-- all octets of the region are passed over
pass_all : (n : ℕ) (o : Order) (s : Spot) → n ≡ length s.rest → at_end_of tt s ≡ pass_at n o s
unfolding step
pass_all n o s e =
    let long : nat_lt (length s.rest) n ≡ false = le-ltb _ _ (omega arith) in
    let none : drop n s.rest ≡ [] = drop_all n s.rest (omega arith) in
    rw (long, none) (ap (λ (k : ℕ). Ok (tt, record { at = s.at + k; rest = [] })) (sym e))

pub rest_passed : (n : ℕ) (a : Standing) → Stands a → n ≡ room a → Ahead (λ o s. at_end_of tt s) (pass_at n) a a
rest_passed n a st e = rephrased (λ o s. at_end_of tt s) (pass_at n) (begins (λ o s. at_end_of tt s) (λ o s. at_end_of tt s) a (λ s. refl)) (λ xs is. pass_all n a.order (spot a xs) (e ∙ sym (room_is xs st is)))

-- a value, and what is left of the region behind it
abbrev pub rest_behind : Mode → Part → Order → Spot → Reading Part
rest_behind m x o s = to_end m x s

abbrev pub with_value : {A : Type 0} → A → Unit {0} → Order → Spot → Reading A
with_value x u o s = Ok (x, s)

pub cut_begin : (m : Mode) (ms : Members) (a : Standing) → Ahead (cut_read m ms) (λ o s. members_read m true ms o s >>= λ x. rest_behind m x.0 o x.1) a a
cut_begin m ms a = begins (cut_read m ms) _ a (λ s. refl)

value_end : {A : Type 0} (m : Mode) (x : A) (o : Order) (s : Spot) → to_end m x s ≡ (to_end m tt s >>= λ u. with_value x u.0 o u.1)
value_end Two x o s = sym (bind_ok (tt, s) (λ u. with_value x u.0 o u.1))
value_end Inner x o s = sym (bind_ok (tt, record { at = s.at + length s.rest; rest = [] }) (λ u. with_value x u.0 o u.1))
value_end Tail x o s = sym (bind_ok (tt, record { at = s.at + length s.rest; rest = [] }) (λ u. with_value x u.0 o u.1))

pub value_ended : {A : Type 0} (m : Mode) (x : A) {f : Order → Spot → Reading A} {a b : Standing} → Ahead f (λ o s. to_end m x s) a b → Ahead f (λ o s. to_end m tt s >>= λ u. with_value x u.0 o u.1) a b
value_ended m x {b = b} u = rephrased (λ o s. to_end m x s) (λ o s. to_end m tt s >>= λ u. with_value x u.0 o u.1) u (λ xs e. value_end m x b.order (spot b xs))
