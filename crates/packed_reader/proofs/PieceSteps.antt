-- The members of a MUTABLE structure, one piece after another in declared order, where each comes, or is optional and does not.
use Rattle.std.proofs.Common.{◌≡◌, refl, sym, ap, subst, ◌∙◌, ℕ, zero, suc, ◌+◌, ◌-◌, ◌*◌, ◌<◌, ◌≤◌, ◌%◌, ◌/◌, ◌^◌, Bool, true, false, cond, not, ◌||◌, ◌==◌, nat_lt, nat_le, List, [], ◌∷◌, ◌++◌, length, drop, get_or, Some, Ok, Err, append_assoc, append-nil, arith, length-drop}
use Rattle.std.proofs.lemmas.Bool.{and_parts, le-ltb, ne_eqb, le-leb, lt-leb}
use Rattle.xt_shapes.specs.declared.leaves.Order.{Order}
use Rattle.xt_shapes.specs.declared.leaves.Rep.TheVariants.{Xcdr2}
use Rattle.xt_shapes.specs.Lists.{has}
use Rattle.xt_shapes.specs.Select.{has_member}
use Rattle.xt_shapes.specs.Shape.{Head, Shape, Members, member}
use Rattle.xt_shapes.specs.Vals.{Val, Slot as Body, absent, present, struct_of, slots_of}
use Rattle.type_trees.specs.declared.types.Member as declared
use Rattle.type_trees.specs.Bridge.{type_shape, members_shape, member_head}
use Rattle.try_construct.proofs.StructureSteps.{same_id, other_id, not_true}
use Rattle.xcdr_model.specs.Numbers.{padding}
use Rattle.xcdr_model.specs.Premises.{distinct_members}
use Rattle.xcdr_model.specs.Projection.{Part, whole_structure}
use Rattle.xcdr_model.specs.Reading.{Spot, ◌>>=◌, number_at, step}
use Rattle.xcdr_model.specs.Xcdr2Reading.{read, read_named, Contents, piece_at, pieces_at, ends, contents, content_at, holder}
use Rattle.packed_reader.specs.Spots.{IsFront}
use Rattle.packed_reader.specs.Reads.{plain, MayBe, Reads}
use Rattle.packed_reader.specs.Pieces.{IsPiece, ReadsContent, ReadsPiece, ReadsPieces}
use Rattle.packed_reader.proofs.Taken.{Taken, taken_parts, no_parts, part_taken, one_taken, all_taken}
use Rattle.packed_reader.proofs.MemberSteps.{TakenTo, next_shape, none_left}

-- ---- a header and its content

pub told_is : (o : Order) (code n : ℕ) (s s2 : Spot) → code ≡ 4 → number_at 4 o 4 s ≡ Ok (n, s2) → content_at o code s ≡ Ok (n, s2)
unfolding ◌>>=◌
told_is o code n s s2 is e = rw (is, e) refl

pub counted_is : (o : Order) (code n unit : ℕ) (s s2 : Spot) → 4 < code → number_at 4 o 4 s ≡ Ok (n, s2) → unit ≡ cond (code == 5) 1 (cond (code == 6) 4 8) → content_at o code s ≡ Ok (4 + n * unit, s)
unfolding ◌>>=◌
counted_is o code n unit s s2 above e is =
    let long : nat_lt code 4 ≡ false = le-ltb code 4 (omega arith) in
    let other : (code == 4) ≡ false = ne_eqb code 4 (λ same. absurd (omega arith)) in
    rw (long, e, other, ← is) refl

behind_less : (n : ℕ) (s behind : Spot) → behind ≡ step n s → length behind.rest ≤ length s.rest
unfolding step
behind_less n s behind is = let e = ap (λ (x : Spot). length x.rest) is in omega (arith, e, length-drop n s.rest)

piece_told : (o : Order) (word n : ℕ) (s s2 s3 content behind : Spot) → number_at 4 o 4 s ≡ Ok (word, s2) → content_at o (word / 2 ^ 28 % 8) s2 ≡ Ok (n, s3) → (word % 2 ^ 28 == 2 ^ 28 - 1) ≡ false → IsFront n s3 content behind
    → piece_at o s ≡ Ok (record { header = holder 4 4 s; id = word % 2 ^ 28; must = word / 2 ^ 31 == 1; content = content }, behind)
unfolding piece_at ◌>>=◌
piece_told o word n s s2 s3 content behind e f some fr = rw (e, f, some, le-ltb (length s3.rest) n fr.fits, fr.inside_is, fr.after_is) refl

pub piece_is : (o : Order) (id word n : ℕ) (s s2 s3 content behind : Spot) → number_at 4 o 4 s ≡ Ok (word, s2) → content_at o (word / 2 ^ 28 % 8) s2 ≡ Ok (n, s3) → word % 2 ^ 28 ≡ id → (word % 2 ^ 28 == 2 ^ 28 - 1) ≡ false → IsFront n s3 content behind
    → padding 4 s.at < length s.rest → length s2.rest < length s.rest → length s3.rest ≤ length s2.rest → IsPiece o id s content behind
piece_is o id word n s s2 s3 content behind e f is some fr room one two =
    let P : ℕ → Type 0 = λ k. IsPiece o k s content behind in
    subst P is (record {
      header = holder 4 4 s;
      must = word / 2 ^ 31 == 1;
      told = piece_told o word n s s2 s3 content behind e f some fr;
      room = room;
      later = (let less = behind_less n s3 behind fr.after_is in omega arith);
    })

-- ---- the contents that are still to come

abbrev rest_contents : Order → Members → List ℕ → ℕ → Spot → Contents
rest_contents o all seen n s = let ps = pieces_at o n s in contents (λ id. read_named o all id) seen ps.0 ps.1

abbrev pub pieces_read : Order → Members → Spot → Contents
pieces_read o all s = rest_contents o all [] (length s.rest) s

abbrev in_front : List (ℕ × Part) → List (ℕ × Part) × Bool → Contents
in_front ps r = Ok (ps ++ r.0, r.1)

-- what was made of all pieces is what came of the first members, with the contents from here on
pub record PiecesLeft (o : Order) (all rest : Members) (ss : List Body) (made : Contents) (s : Spot) : Type 0 where
  pub fuel : ℕ
  pub seen : List ℕ
  pub enough : length s.rest ≤ fuel
  pub fresh : (id : ℕ) → has_member rest id ≡ true → has (λ i. i == id) seen ≡ false
  pub left : made ≡ (rest_contents o all seen fuel s >>= in_front (taken_parts all ss))

none_in_front : (ms : Members) (r : Contents) → r ≡ (r >>= in_front (taken_parts ms []))
unfolding ◌>>=◌
none_in_front ms (Ok x) = rw (no_parts ms) refl
none_in_front ms (Err f) = refl

pub pieces_first : (o : Order) (ms : Members) (s : Spot) → PiecesLeft o ms ms [] (pieces_read o ms s) s
pieces_first o ms s = record {
  fuel = length s.rest;
  seen = [];
  enough = omega arith;
  fresh = λ id there. refl;
  left = none_in_front ms (pieces_read o ms s);
}

has_first : (h : Head) (t : Shape) (ms : Members) → has_member (member h t ms) h.id ≡ true
has_first h t ms = rw (same_id h.id) refl

first_named : (o : Order) (h : Head) (t : Shape) (ms : Members) → read_named o (member h t ms) h.id ≡ Some (λ s1. read o t s1)
unfolding read_named
first_named o h t ms = rw (same_id h.id) refl

has_more : (h : Head) (t : Shape) (ms : Members) (id : ℕ) → has_member ms id ≡ true → has_member (member h t ms) id ≡ true
has_more h t ms id there = rw there (or_true (h.id == id))
  where
    or_true : (b : Bool) → (b || true) ≡ true
    or_true true = refl
    or_true false = refl

-- ---- a content that comes

abbrev with_content : ℕ → Part → List (ℕ × Part) × Bool → Contents
with_content id y r = Ok ((id, y) ∷ r.0, r.1)

some_more : (s : Spot) → padding 4 s.at < length s.rest → ends s ≡ false
some_more s room = lt-leb (length s.rest) (padding 4 s.at) room

one_content : (o : Order) (all : Members) (seen : List ℕ) (k id : ℕ) (t : Shape) (v : Val) (s content behind end : Spot) → IsPiece o id s content behind → read_named o all id ≡ Some (λ s1. read o t s1) → has (λ i. i == id) seen ≡ false → Reads Xcdr2 o t content v end → end.rest ≡ []
    → rest_contents o all seen (suc k) s ≡ (rest_contents o all (id ∷ seen) k behind >>= with_content id (plain v))
unfolding pieces_at contents ◌>>=◌
one_content o all seen k id t v s content behind end piece named fresh e filled = rw (some_more s piece.room, piece.told, named, fresh, e, filled) refl

content_in_front : (ps : List (ℕ × Part)) (id : ℕ) (y : Part) (r : Contents) → ((r >>= with_content id y) >>= in_front ps) ≡ (r >>= in_front (ps ++ (id, y) ∷ []))
unfolding ◌>>=◌
content_in_front ps id y (Ok x) = rw (append_assoc ps ((id, y) ∷ []) x.0) refl
content_in_front ps id y (Err f) = refl

-- ids that are still to come are not among those that came
fresh_more : (h : Head) (t : Shape) (ms : Members) (seen : List ℕ) → distinct_members (member h t ms) ≡ true → ((id : ℕ) → has_member (member h t ms) id ≡ true → has (λ i. i == id) seen ≡ false) → (id : ℕ) → has_member ms id ≡ true → has (λ i. i == id) (h.id ∷ seen) ≡ false
fresh_more h t ms seen apart fresh id there =
    let (none, more) = and_parts (not (has_member ms h.id)) (distinct_members ms) apart in
    let other : (h.id == id) ≡ false = other_id ms h.id id (not_true (has_member ms h.id) none) there in
    rw (other, fresh id (has_more h t ms id there)) refl

content_more : (o : Order) (all ms : Members) (h : Head) (t : Shape) (ss : List Body) (v : Val) (made : Contents) (s behind : Spot) → Taken all (member h t ms) ss → PiecesLeft o all (member h t ms) ss made s → ReadsContent o h t s v behind → PiecesLeft o all ms (ss ++ present v ∷ []) made behind
content_more o all ms h t ss v made s behind taken left r =
    let k = left.fuel - 1 in
    let one : left.fuel ≡ suc k = omega (arith, left.enough, r.piece.later) in
    let here = has_first h t ms in
    let named : read_named o all h.id ≡ Some (λ s1. read o t s1) = taken.named o h.id here ∙ first_named o h t ms in
    record {
      fuel = k;
      seen = h.id ∷ left.seen;
      enough = omega (arith, left.enough, r.piece.later);
      fresh = fresh_more h t ms left.seen taken.apart left.fresh;
      left =
          left.left
          ∙ ap (λ (n : ℕ). rest_contents o all left.seen n s >>= in_front (taken_parts all ss)) one
          ∙ ap (λ (c : Contents). c >>= in_front (taken_parts all ss)) (one_content o all left.seen k h.id t v s r.content behind r.end r.piece named (left.fresh h.id here) r.value r.filled)
          ∙ content_in_front (taken_parts all ss) h.id (plain v) (rest_contents o all (h.id ∷ left.seen) k behind)
          ∙ ap (λ ps. rest_contents o all (h.id ∷ left.seen) k behind >>= in_front ps) (sym (part_taken all ms h t ss (present v) taken));
    }

absent_more : (o : Order) (all ms : Members) (h : Head) (t : Shape) (ss : List Body) (made : Contents) (s : Spot) → Taken all (member h t ms) ss → PiecesLeft o all (member h t ms) ss made s → PiecesLeft o all ms (ss ++ absent ∷ []) made s
absent_more o all ms h t ss made s taken left = record {
  fuel = left.fuel;
  seen = left.seen;
  enough = left.enough;
  fresh = λ id there. left.fresh id (has_more h t ms id there);
  left = left.left ∙ ap (λ ps. rest_contents o all left.seen left.fuel s >>= in_front ps) (sym (part_taken all ms h t ss absent taken ∙ append-nil (taken_parts all ss)));
}

piece_more : (o : Order) (all ms : Members) (h : Head) (t : Shape) (ss : List Body) (b : Body) (made : Contents) (s s2 : Spot) → Taken all (member h t ms) ss → PiecesLeft o all (member h t ms) ss made s → ReadsPiece o h t s b s2 → PiecesLeft o all ms (ss ++ b ∷ []) made s2
piece_more o all ms h t ss absent made s s2 taken left r =
    let P : Spot → Type 0 = λ x. PiecesLeft o all ms (ss ++ absent ∷ []) made x in
    subst P (sym r.1) (absent_more o all ms h t ss made s taken left)
piece_more o all ms h t ss (present v) made s s2 taken left r = content_more o all ms h t ss v made s s2 taken left r

piece_allowed : (o : Order) (h : Head) (t : Shape) (s : Spot) (b : Body) (s2 : Spot) → ReadsPiece o h t s b s2 → MayBe h b
piece_allowed o h t s absent s2 r = r.0
piece_allowed o h t s (present v) s2 r = tt

-- ---- of the program's members

pub piece_taken : (ms : List declared.Member) (i : ℕ) (m : declared.Member) (ss : List Body) (b : Body) (o : Order) (s s2 : Spot) → i < length ms → m ≡ get_or ms i m → TakenTo ms i ss → ReadsPiece o (member_head m) (type_shape m.ty) s b s2 → TakenTo ms (i + 1) (ss ++ b ∷ [])
piece_taken ms i m ss b o s s2 within is taken r =
    let all = members_shape ms in
    let P : Members → Type 0 = λ rest. Taken all rest ss in
    one_taken all (members_shape (drop (i + 1) ms)) (member_head m) (type_shape m.ty) ss b (subst P (next_shape ms i m within is) taken) (piece_allowed o (member_head m) (type_shape m.ty) s b s2 r)

pub piece_left : (ms : List declared.Member) (i : ℕ) (m : declared.Member) (ss : List Body) (b : Body) (o : Order) (made : Contents) (s s2 : Spot) → i < length ms → m ≡ get_or ms i m → TakenTo ms i ss → PiecesLeft o (members_shape ms) (members_shape (drop i ms)) ss made s → ReadsPiece o (member_head m) (type_shape m.ty) s b s2
    → PiecesLeft o (members_shape ms) (members_shape (drop (i + 1) ms)) (ss ++ b ∷ []) made s2
piece_left ms i m ss b o made s s2 within is taken left r =
    let all = members_shape ms in
    let next = next_shape ms i m within is in
    let P : Members → Type 0 = λ rest. Taken all rest ss in
    let Q : Members → Type 0 = λ rest. PiecesLeft o all rest ss made s in
    piece_more o all (members_shape (drop (i + 1) ms)) (member_head m) (type_shape m.ty) ss b made s s2 (subst P next taken) (subst Q next left) r

-- ---- at the region's end

no_contents : (o : Order) (all : Members) (seen : List ℕ) (n : ℕ) (s : Spot) → s.rest ≡ [] → rest_contents o all seen n s ≡ Ok ([], false)
unfolding pieces_at contents
no_contents o all seen zero s none = refl
no_contents o all seen (suc n) s none =
    let over : ends s ≡ true = ap (λ (xs : List ℕ). nat_le (length xs) (padding 4 s.at)) none ∙ le-leb 0 (padding 4 s.at) (omega arith) in
    rw over refl

made_whole : (o : Order) (all : Members) (ss : List Body) (s : Spot) → pieces_read o all s ≡ Ok (taken_parts all ss, false) → whole_structure all (taken_parts all ss) false ≡ plain (struct_of (slots_of ss)) → ReadsPieces o all s (struct_of (slots_of ss))
unfolding ◌>>=◌
made_whole o all ss s e whole = rw (e, whole) refl

all_made : (ps : List (ℕ × Part)) → (Ok ([], false) >>= in_front ps) ≡ Ok (ps, false)
unfolding ◌>>=◌
all_made ps = rw (append-nil ps) refl

pub pieces_end : (ms : List declared.Member) (i : ℕ) (ss : List Body) (o : Order) (s end : Spot) → length ms ≤ i → distinct_members (members_shape ms) ≡ true → TakenTo ms i ss → PiecesLeft o (members_shape ms) (members_shape (drop i ms)) ss (pieces_read o (members_shape ms) s) end → end.rest ≡ [] → ReadsPieces o (members_shape ms) s (struct_of (slots_of ss))
pieces_end ms i ss o s end past ok taken left over =
    let all = members_shape ms in
    let P : Members → Type 0 = λ rest. Taken all rest ss in
    let ps = taken_parts all ss in
    made_whole o all ss s
    (left.left ∙ ap (λ (c : Contents). c >>= in_front ps) (no_contents o all left.seen left.fuel end over) ∙ all_made ps)
    (all_taken all ss ok (subst P (none_left ms i past) taken))
