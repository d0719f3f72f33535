-- What stands before a collection's elements, with the kind that says whether they are plain (this profile's own).
use Rattle.std.specs.Prelude.{ℕ, List, Bool, true, false, ◌&&◌, ◌==◌}
use Rattle.object_formats.specs.Format.{several}
use Rattle.object_formats.specs.Tables.{head, bound, fits, fit_all, is_large, any_large, is_plain, ek_of, hashed}
use Rattle.object_formats.specs.Objects.{Identifier, none, prim, str, sequence, array, map_of, hash}

abbrev pub is_bounded_head : Bool → Bool → ℕ → ℕ → ℕ → Bool
is_bounded_head complete plain ek flags n = (head complete (fits (is_large n)) (bound (is_large n))).good (ek, (flags, n)) && (ek == ek_of complete plain)

abbrev pub is_array_head : Bool → Bool → ℕ → ℕ → List ℕ → Bool
is_array_head complete plain ek flags dims = (head complete (fit_all (any_large dims)) (several (bound (any_large dims)))).good (ek, (flags, dims)) && (ek == ek_of complete plain)

-- whether what stands before the identifiers in an identifier is good; where there are none, whether the whole is
abbrev pub is_head : Bool → Identifier → Bool
is_head complete none = false
is_head complete (prim p) = true
is_head complete (str n) = true
is_head complete (sequence ek flags n element) = is_bounded_head complete (is_plain element) ek flags n
is_head complete (array ek flags dims element) = is_array_head complete (is_plain element) ek flags dims
is_head complete (map_of ek flags n value key_flags key) = is_bounded_head complete (is_plain value && is_plain key) ek flags n
is_head complete (hash h) = (hashed complete).good (hash h)
