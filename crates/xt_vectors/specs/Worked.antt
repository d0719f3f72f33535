-- Worked draws, a pair, and a run of no pairs, checked by computation (this profile's own).
use Rattle.std.specs.Prelude.{◌≡◌, ℕ, [], ◌∷◌, false, codes}
use Rattle.std.proofs.Common.{refl}
use Rattle.md5.specs.Md5.{block_words, rounds, compress, hash_after, digest_bytes, md5}
use Rattle.xt_shapes.specs.declared.leaves.Ext.TheVariants.{Mutable}
use Rattle.xt_shapes.specs.declared.leaves.Rep.TheVariants.{Xcdr2}
use Rattle.xt_shapes.specs.declared.leaves.Try.{Try}
use Rattle.xt_shapes.specs.declared.leaves.Try.TheVariants.{Discard, UseDefault}
use Rattle.xt_shapes.specs.Vals.{text, struct_of, one_slot, no_slots, present}
use Rattle.type_trees.specs.declared.types.Name.TheVariants.{Full}
use Rattle.type_trees.specs.Trees.{Tree, str, no_members, member}
use Rattle.xt_vectors.specs.Draws.{next, drawn}
use Rattle.xt_vectors.specs.Plans.{sort_drawn, plan_drawn}
use Rattle.xt_vectors.specs.Readers.{change_drawn, reader_plans}
use Rattle.xt_vectors.specs.Types.{type_of, numbered, structure_over}
use Rattle.xt_vectors.specs.Values.{number_drawn, up_to, letter_drawn, value_drawn, slot_drawn}
use Rattle.xt_vectors.specs.Pairs.{pair_from, pair_drawn}
use Rattle.xt_vectors.specs.Runs.{summary}

-- ---- draws

state_behind_zero : next 0 ≡ 1442695040888963407
unfolding next
state_behind_zero = refl

drawn_at_zero : drawn 3 0 ≡ 2
unfolding next drawn
drawn_at_zero = refl

-- ---- the pair of the state 9: a string of up to four octets, to a reader with one of up to one, which has its default past that

unfoldable all_drawn : ℕ
unfolding next drawn sort_drawn plan_drawn change_drawn reader_plans type_of number_drawn up_to letter_drawn value_drawn slot_drawn pair_from pair_drawn
all_drawn = 0

abbrev one_text : Try → ℕ → Tree
one_text tc bound = structure_over (codes "G") Mutable (member (record { id = 0; name = Full (numbered 109 0); tc = tc; optional = false; must_understand = false; key = false }) (str bound) no_members)

pair_of_nine : pair_drawn 9 ≡ (record { rep = Xcdr2; reader = one_text UseDefault 1; writer = one_text Discard 4; value = struct_of (one_slot (present (text (codes "vhns"))) no_slots) }, 12249230618910294912)
unfolding all_drawn
pair_of_nine = refl

-- ---- no pairs: the digest is that of no octets

unfoldable hashed : ℕ
unfolding block_words rounds compress hash_after digest_bytes md5
hashed = 0

no_pairs : summary 7 0 ≡ record { pairs = 0; yes = 0; no = 0; ok = 0; discarded = 0; must_understand = 0; digest = 0xd4 ∷ 0x1d ∷ 0x8c ∷ 0xd9 ∷ 0x8f ∷ 0x00 ∷ 0xb2 ∷ 0x04 ∷ 0xe9 ∷ 0x80 ∷ 0x09 ∷ 0x98 ∷ 0xec ∷ 0xf8 ∷ 0x42 ∷ 0x7e ∷ [] }
unfolding hashed
no_pairs = refl
