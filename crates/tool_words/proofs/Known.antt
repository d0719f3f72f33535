-- The kind of an identifier that is read.
use Rattle.std.proofs.Common.{◌≡◌, ℕ, Bool, true, false, List, drop, refl, sym, ap, ◌∙◌}
use Rattle.std.specs.Prelude.{Option, Some, None, Result, Ok, Err, slice_index, if◌then◌else◌}
use Rattle.hex.specs.Hex.{decode_sized}
use Rattle.hex.specs.declared.error.FromHexError.{FromHexError}
use Rattle.type_trees.specs.declared.types.HashId.{HashId}
use Rattle.type_trees.specs.Ids.{is_object_kind, id_of, id_decoded, id_of_digits}

of_octets : (octets : List ℕ) (id : HashId) (b : Bool) → is_object_kind (slice_index octets 0) ≡ b → id_of octets ≡ Some id → is_object_kind id.kind ≡ true
of_octets octets id true is e =
    let same : Some (record { kind = slice_index octets 0; hash = drop 1 octets }) ≡ Some id = sym (ap (λ (b : Bool). let made : Option HashId = (if b then Some (record { kind = slice_index octets 0; hash = drop 1 octets }) else None) in made) is) ∙ e in
    ap (λ (o : Option HashId). kind_in o) (sym same) ∙ is
  where
    kind_in : Option HashId → Bool
    kind_in None = true
    kind_in (Some i) = is_object_kind i.kind
of_octets octets id false is e = absurd (none (sym (ap (λ (b : Bool). let made : Option HashId = (if b then Some (record { kind = slice_index octets 0; hash = drop 1 octets }) else None) in made) is) ∙ e))
  where
    none : None ≡ Some id → ⊥
    none c = cc

decoded : (r : Result (List ℕ) FromHexError) (id : HashId) → id_decoded r ≡ Some id → is_object_kind id.kind ≡ true
decoded (Ok octets) id e = of_octets octets id (is_object_kind (slice_index octets 0)) refl e
decoded (Err fault) id e = absurd cc

pub known_kind : (digits : List ℕ) (id : HashId) → id_of_digits digits ≡ Some id → is_object_kind id.kind ≡ true
known_kind digits id e = decoded (decode_sized digits 15) id e
