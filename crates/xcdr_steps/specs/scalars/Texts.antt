-- A text whose count was read (DDS-XTypes 1.3, 7.4).
use Rattle.std.specs.Prelude.{ℕ, ◌-◌, List, Ok}
use Rattle.xt_shapes.specs.declared.leaves.Order.{Order}
use Rattle.xcdr_model.specs.Reading.{Spot, Reading, ◌>>=◌, octets_at}
use Rattle.xcdr_model.specs.Xcdr2Reading.{without_nul}

-- the octets of a text behind its count, given that with its place
abbrev pub counted_text : ℕ × ℕ → Order → Spot → Reading (List ℕ)
counted_text v o s = octets_at v.1 s >>= λ t. without_nul v.0 (v.1 - 1) t.0 >>= λ u. Ok (u, t.1)
