-- Laws: keys are short exactly where the octets of each are at most 16 (DDS-XTypes 1.3, 7.6.8).
use Rattle.std.specs.Prelude.{◌≡◌, ◌≤◌, ◌<◌, length, true, false, IsTrue}
use Rattle.xt_shapes.specs.NodeRules.{rules_hold}
use Rattle.xt_shapes.specs.Shape.{Shape}
use Rattle.xt_shapes.specs.Typing.{has_type}
use Rattle.xt_shapes.specs.Vals.{Val}
use Rattle.xcdr_model.specs.KeyOctets.{key_octets, short}

-- Of a valid type with short keys each value has at most 16 key octets.
abbrev pub ShortKeysFit : Type 0
ShortKeysFit = (t : Shape) (v : Val) → IsTrue (rules_hold t) → short t ≡ true → IsTrue (has_type t v) → length (key_octets t v) ≤ 16

-- a value of the type with more than 16 key octets
abbrev pub HasLongKey : Shape → Type 0
HasLongKey t = (v : Val) × IsTrue (has_type t v) × (16 < length (key_octets t v))

-- A valid type without short keys has a value with more.
abbrev pub OthersHaveLongKeys : Type 0
OthersHaveLongKeys = (t : Shape) → IsTrue (rules_hold t) → short t ≡ false → HasLongKey t
