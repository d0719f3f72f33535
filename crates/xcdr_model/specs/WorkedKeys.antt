-- Worked keys, their octets and their hashes (DDS-XTypes 1.3, 7.6.8).
use Rattle.std.specs.Prelude.{◌≡◌, ℕ, pos, [], ◌∷◌, true, false}
use Rattle.std.proofs.Common.{refl}
use Rattle.md5.specs.Md5.{block_words, rounds, compress, hash_after, digest_bytes, md5}
use Rattle.xt_shapes.specs.declared.leaves.Ext.TheVariants.{Final, Appendable, Mutable}
use Rattle.xt_shapes.specs.declared.leaves.Primitive.TheVariants as prims
use Rattle.xt_shapes.specs.declared.leaves.Rep.TheVariants.{Xcdr2}
use Rattle.xt_shapes.specs.Shape.{Shape, prim, str, structure, union, no_members, no_cases}
use Rattle.xt_shapes.specs.Vals.{Val, text, union_of, absent}
use Rattle.xcdr_model.specs.Worked.{long, octet, plain, keyed, case_of, whole, values, reads, readings, spellings}
use Rattle.xcdr_model.specs.KeyOctets.{key_octets, short, key_hash}

-- ---- a text as key: short under a bound of 8, hashed under a bound of 32

abbrev by_text : ℕ → Shape
by_text bound = structure Final (keyed 0 (str bound) no_members)

abbrev ab : Val
ab = values (text (0x61 ∷ 0x62 ∷ []) ∷ [])

octets_of_ab : key_octets (by_text 8) ab ≡ 0x00 ∷ 0x00 ∷ 0x00 ∷ 0x03 ∷ 0x61 ∷ 0x62 ∷ 0x00 ∷ []
unfolding spellings
octets_of_ab = refl

hash_of_ab : key_hash (by_text 8) ab ≡ 0x00 ∷ 0x00 ∷ 0x00 ∷ 0x03 ∷ 0x61 ∷ 0x62 ∷ 0x00 ∷ 0x00 ∷ 0x00 ∷ 0x00 ∷ 0x00 ∷ 0x00 ∷ 0x00 ∷ 0x00 ∷ 0x00 ∷ 0x00 ∷ []
unfolding spellings
hash_of_ab = refl

the_same_octets_under_32 : key_octets (by_text 32) ab ≡ key_octets (by_text 8) ab
unfolding spellings
the_same_octets_under_32 = refl

not_short_under_32 : short (by_text 32) ≡ false
unfolding spellings
not_short_under_32 = refl

hash_under_32 : key_hash (by_text 32) ab ≡ 0x18 ∷ 0x65 ∷ 0x94 ∷ 0xB7 ∷ 0x20 ∷ 0x5D ∷ 0x08 ∷ 0xAC ∷ 0x2F ∷ 0xF8 ∷ 0xE1 ∷ 0xAC ∷ 0x47 ∷ 0xFB ∷ 0x4B ∷ 0x2A ∷ []
unfolding spellings block_words rounds compress hash_after digest_bytes md5
hash_under_32 = refl

-- ---- keys by rising id, not in declared order

abbrev by_two : Shape
by_two = structure Mutable (keyed 2 octet (keyed 1 long (plain 3 long no_members)))

by_rising_id : key_octets by_two (values (whole 9 ∷ whole 5 ∷ whole 7 ∷ [])) ≡ 0x00 ∷ 0x00 ∷ 0x00 ∷ 0x05 ∷ 0x09 ∷ []
unfolding spellings
by_rising_id = refl

nested_without_keys_counts_all : key_octets (structure Final (keyed 0 (structure Appendable (plain 1 octet (plain 0 long no_members))) no_members)) (values (values (whole 9 ∷ whole 5 ∷ []) ∷ [])) ≡ 0x00 ∷ 0x00 ∷ 0x00 ∷ 0x05 ∷ 0x09 ∷ []
unfolding spellings
nested_without_keys_counts_all = refl

key_of_a_union : key_octets (union Final true (prim prims.Int16) (case_of 0 (pos 0 ∷ []) long no_cases)) (union_of (pos 258) absent) ≡ 0x01 ∷ 0x02 ∷ []
unfolding spellings
key_of_a_union = refl

no_key : key_octets (structure Appendable (plain 0 long no_members)) (values (whole 9 ∷ [])) ≡ []
unfolding spellings
no_key = refl

-- ---- a sample with its key

abbrev counted : Shape
counted = structure Mutable (keyed 1 long (plain 2 long no_members))

sample_with_a_key : reads Xcdr2 counted (0x00 ∷ 0x0B ∷ 0x00 ∷ 0x00 ∷ 0x10 ∷ 0x00 ∷ 0x00 ∷ 0x00 ∷ 0x01 ∷ 0x00 ∷ 0x00 ∷ 0xA0 ∷ 0x01 ∷ 0x00 ∷ 0x00 ∷ 0x00 ∷ 0x02 ∷ 0x00 ∷ 0x00 ∷ 0x20 ∷ 0x05 ∷ 0x00 ∷ 0x00 ∷ 0x00 ∷ []) (values (whole 1 ∷ whole 5 ∷ []))
unfolding readings
sample_with_a_key = refl

hash_of_its_key : key_hash counted (values (whole 1 ∷ whole 5 ∷ [])) ≡ 0x00 ∷ 0x00 ∷ 0x00 ∷ 0x01 ∷ 0x00 ∷ 0x00 ∷ 0x00 ∷ 0x00 ∷ 0x00 ∷ 0x00 ∷ 0x00 ∷ 0x00 ∷ 0x00 ∷ 0x00 ∷ 0x00 ∷ 0x00 ∷ []
unfolding spellings
hash_of_its_key = refl
