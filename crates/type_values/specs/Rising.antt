-- Maps whose keys rise, so that no two are the same (this profile's own).
use Rattle.std.specs.Prelude.{List, [], ◌∷◌, Bool, true, false, ◌&&◌}
use Rattle.std.specs.Ordering.{int_cmp, nat_cmp, is_lt}
use Rattle.std.specs.Cmp.Lexicographic.{slice_cmp}
use Rattle.xt_shapes.specs.Vals.{Val, int, text}

-- numbers by size, texts by their octets
abbrev pub goes_before : Val → Val → Bool
goes_before (int i) (int j) = is_lt (int_cmp i j)
goes_before (text s) (text t) = is_lt (slice_cmp nat_cmp s t)
goes_before _ _ = false

abbrev pub rises_from : Val → List (Val × Val) → Bool
rises_from key [] = true
rises_from key (entry ∷ entries) = goes_before key entry.0 && rises_from entry.0 entries

-- each key goes before the next
abbrev pub rises : List (Val × Val) → Bool
rises [] = true
rises (entry ∷ entries) = rises_from entry.0 entries
