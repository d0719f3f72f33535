-- Worked Notes of streams, written and read, by computation (this profile's own).
use Rattle.std.proofs.Common.{refl}
use Rattle.std.specs.Prelude.{◌≡◌, [], ◌∷◌, Option, Some, None, codes}
use Rattle.xt_shapes.specs.declared.leaves.Rep.TheVariants.{Xcdr1, Xcdr2}
use Rattle.type_trees.specs.declared.types.HashId.{HashId}
use Rattle.hex.proofs.OnLiterals.{hex_on_literals}
use Rattle.xt_recorder.specs.Streams.{stream_text, stream_of}

abbrev id : HashId
id = record { kind = 242; hash = 238 ∷ 81 ∷ 254 ∷ 142 ∷ 175 ∷ 121 ∷ 65 ∷ 49 ∷ 19 ∷ 123 ∷ 187 ∷ 114 ∷ 102 ∷ 202 ∷ [] }

written : stream_text id Xcdr1 ≡ codes "stream f2ee51fe8eaf794131137bbb7266ca xcdr1"
unfolding hex_on_literals
written = refl

told : stream_of (codes "stream f2ee51fe8eaf794131137bbb7266ca xcdr2") ≡ Some (id, Xcdr2)
unfolding hex_on_literals
told = refl

-- a kind that no object has, a digit too few, no representation, upper case, and octets behind
other_kind : stream_of (codes "stream f0ee51fe8eaf794131137bbb7266ca xcdr2") ≡ None
unfolding hex_on_literals
other_kind = refl

short : stream_of (codes "stream f2ee51fe8eaf794131137bbb7266c xcdr2") ≡ None
unfolding hex_on_literals
short = refl

no_representation : stream_of (codes "stream f2ee51fe8eaf794131137bbb7266ca xcdr3") ≡ None
unfolding hex_on_literals
no_representation = refl

upper_case : stream_of (codes "stream F2EE51FE8EAF794131137BBB7266CA xcdr2") ≡ None
unfolding hex_on_literals
upper_case = refl

behind : stream_of (codes "stream f2ee51fe8eaf794131137bbb7266ca xcdr2 ") ≡ None
unfolding hex_on_literals
behind = refl
