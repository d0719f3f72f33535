-- How many octets numbers take, and which have a sign (DDS-XTypes 1.3, 7.2.2.2, 7.2.2.4.1 and 7.4).
use Rattle.std.specs.Prelude.{ℕ, ◌*◌, ◌^◌, ◌-◌, Bool, true, false, cond, nat_le}
use Rattle.xt_shapes.specs.declared.leaves.Primitive.{Primitive}

-- octets of a primitive (DDS-XTypes 1.3, 7.2.2.2 and 7.4)
abbrev pub size : Primitive → ℕ
size Primitive.Boolean = 1
size Primitive.Byte = 1
size Primitive.Int8 = 1
size Primitive.Uint8 = 1
size Primitive.Int16 = 2
size Primitive.Uint16 = 2
size Primitive.Int32 = 4
size Primitive.Uint32 = 4
size Primitive.Int64 = 8
size Primitive.Uint64 = 8
size Primitive.Float32 = 4
size Primitive.Float64 = 8
size Primitive.Char8 = 1

-- a float is its raw bits as an unsigned number
abbrev pub is_signed : Primitive → Bool
is_signed Primitive.Boolean = false
is_signed Primitive.Byte = false
is_signed Primitive.Int8 = true
is_signed Primitive.Uint8 = false
is_signed Primitive.Int16 = true
is_signed Primitive.Uint16 = false
is_signed Primitive.Int32 = true
is_signed Primitive.Uint32 = false
is_signed Primitive.Int64 = true
is_signed Primitive.Uint64 = false
is_signed Primitive.Float32 = false
is_signed Primitive.Float64 = false
is_signed Primitive.Char8 = false

abbrev pub is_boolean : Primitive → Bool
is_boolean Primitive.Boolean = true
is_boolean Primitive.Byte = false
is_boolean Primitive.Int8 = false
is_boolean Primitive.Uint8 = false
is_boolean Primitive.Int16 = false
is_boolean Primitive.Uint16 = false
is_boolean Primitive.Int32 = false
is_boolean Primitive.Uint32 = false
is_boolean Primitive.Int64 = false
is_boolean Primitive.Uint64 = false
is_boolean Primitive.Float32 = false
is_boolean Primitive.Float64 = false
is_boolean Primitive.Char8 = false

-- octets of an enumeration's holder (DDS-XTypes 1.3, 7.2.2.4.1: by its bit bound), which has a sign only where it has four
-- (this profile's own)
abbrev pub enum_size : ℕ → ℕ
enum_size bits = cond (nat_le bits 8) 1 (cond (nat_le bits 16) 2 4)

-- octets of a bitmask's holder
abbrev pub mask_size : ℕ → ℕ
mask_size bits = cond (nat_le bits 8) 1 (cond (nat_le bits 16) 2 (cond (nat_le bits 32) 4 8))

-- the first number that k octets with a sign can't hold
abbrev pub half : ℕ → ℕ
half k = 128 * 256 ^ (k - 1)
