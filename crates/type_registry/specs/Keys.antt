-- Identifiers as the keys of a map (this profile's own).
use Rattle.std.specs.Prelude.{ℕ, List, refl}
use Rattle.std.specs.Coded.{Coded, code_by, coded×, coded_ℕ, coded_list}
use Rattle.type_trees.specs.declared.types.HashId.{HashId}

-- an identifier is stored as the pair of its fields
abbrev pub coded_id : Coded HashId
coded_id = code_by (ℕ × List ℕ) (coded× coded_ℕ (coded_list coded_ℕ)) (λ id. (id.kind, id.hash)) (λ k. record { kind = k.0; hash = k.1 }) (λ _. refl)
