-- The Note of a stream has 43 octets.
use Rattle.std.proofs.Common.{◌≡◌, refl, ap, ap₂, ◌∙◌, ℕ, ◌+◌, ◌*◌, Bool, true, false, List, [], ◌∷◌, ◌++◌, take, drop, length, Option, Some, None, if◌then◌else◌, arith, length-append}
use Rattle.std.proofs.lemmas.List.{take_at}
use Rattle.std.proofs.lemmas.Slice.Eq.{bytes_eq-Decides}
use Rattle.std.proofs.Math.Seq.{drop-append-add}
use Rattle.std.specs.Str.{bytes_eq}
use Rattle.xt_shapes.specs.declared.leaves.Rep.{Rep}
use Rattle.xt_shapes.specs.declared.leaves.Rep.TheVariants.{Xcdr1, Xcdr2}
use Rattle.type_trees.specs.declared.types.HashId.{HashId}
use Rattle.type_trees.specs.Ids.{is_object_kind, id_octets, id_of, id_decoded, id_of_digits, id_text}
use Rattle.hex.specs.Hex.{encode_with, encode_lower}
use Rattle.hex.proofs.HexLemmas.{decode_sized-encode_lower}
use Rattle.xt_recorder.specs.Streams.{rep_text, stream_text, rep_of, told_by}
use Rattle.xt_recorder.specs.Laws.{IsId, StreamTold, StreamOnly}

encoded : (xs : List ℕ) → length (encode_lower xs) ≡ 2 * length xs
unfolding encode_with
encoded [] = omega arith
encoded (x ∷ xs) = omega (arith, encoded xs)

rep_length : (rep : Rep) → length (rep_text rep) ≡ 5
rep_length Xcdr1 = refl
rep_length Xcdr2 = refl

pub stream_length : (id : HashId) (rep : Rep) → length id.hash ≡ 14 → length (stream_text id rep) ≡ 43
stream_length id rep fourteen = omega (arith, length-append (id_text id) (32 ∷ rep_text rep), encoded (id.kind ∷ id.hash), rep_length rep, fourteen)

-- ---- a stream's text is read as what was written

rep_read : (rep : Rep) → rep_of (rep_text rep) ≡ Some rep
rep_read Xcdr1 = refl
rep_read Xcdr2 = refl

id_back : (id : HashId) (b : Bool) → is_object_kind id.kind ≡ b → b ≡ true → id_of (id_octets id) ≡ Some id
id_back id b is holds = rw (is ∙ holds) refl

id_read : (id : HashId) → IsId id → id_of_digits (id_text id) ≡ Some id
id_read id known = ap id_decoded (decode_sized-encode_lower (id_octets id) 15 (omega (arith, known.count)) known.octets) ∙ id_back id true known.kind refl

abbrev tail_of : HashId → Rep → List ℕ
tail_of id rep = id_text id ++ 32 ∷ rep_text rep

digits_in : (id : HashId) (rep : Rep) → IsId id → take 30 (tail_of id rep) ≡ id_text id
digits_in id rep known = take_at (id_text id) (32 ∷ rep_text rep) 30 (omega (arith, encoded (id_octets id), known.count))

rep_in : (id : HashId) (rep : Rep) → IsId id → drop 31 (tail_of id rep) ≡ rep_text rep
rep_in id rep known = ap (λ n. drop n (tail_of id rep)) (let long : 31 ≡ length (id_text id) + 1 = omega (arith, encoded (id_octets id), known.count) in long) ∙ drop-append-add (id_text id) (32 ∷ rep_text rep) 1

pub told : StreamTold
told id rep known =
    ap₂ (told_by (stream_text id rep)) (ap id_of_digits (digits_in id rep known) ∙ id_read id known) (ap rep_of (rep_in id rep known) ∙ rep_read rep)
    ∙ rw ((bytes_eq-Decides (stream_text id rep) (stream_text id rep)).1 refl) refl

abbrev by_match : Bool → HashId → Rep → Option (HashId × Rep)
by_match b i r = if b then Some (i, r) else None

told_same : (payload : List ℕ) (x : Option HashId) (y : Option Rep) (id : HashId) (rep : Rep) → told_by payload x y ≡ Some (id, rep) → payload ≡ stream_text id rep
told_same payload None y id rep e = absurd cc
told_same payload (Some i) None id rep e = absurd cc
told_same payload (Some i) (Some r) id rep e = by_test (bytes_eq payload (stream_text i r)) refl e
  where
    by_test : (b : Bool) → bytes_eq payload (stream_text i r) ≡ b → by_match b i r ≡ Some (id, rep) → payload ≡ stream_text id rep
    by_test true is e = (let pair : (i, r) ≡ (id, rep) = cc in (bytes_eq-Decides payload (stream_text i r)).0 is ∙ ap (λ (p : HashId × Rep). stream_text p.0 p.1) pair)
    by_test false is e = absurd cc

pub only : StreamOnly
only payload id rep e = told_same payload (id_of_digits (take 30 (drop 7 payload))) (rep_of (drop 38 payload)) id rep e
