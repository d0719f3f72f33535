-- Pieces that are read one after another make what reading all headers and then the contents makes.
use Rattle.std.proofs.Common.{◌≡◌, refl, sym, ap, ◌∙◌, ℕ, zero, suc, ◌-◌, ◌/◌, ◌%◌, ◌^◌, Bool, true, false, cond, ◌||◌, ◌==◌, nat_lt, List, [], ◌∷◌, ◌++◌, length, Option, Some, None, Result, Ok, Err, is_some, append_assoc, append-nil}
use Rattle.xt_shapes.specs.declared.leaves.Order.{Order}
use Rattle.xt_shapes.specs.Lists.{has}
use Rattle.std.specs.Option.{option_map}
use Rattle.xt_shapes.specs.Shape.{Members, no_members, member}
use Rattle.xcdr_model.specs.declared.malformed.Fault.{Fault}
use Rattle.xcdr_model.specs.declared.malformed.Why.TheVariants.{MemberId, MemberSize, Twice, LengthRest}
use Rattle.xcdr_model.specs.Reading.{Spot, Reading, fault_at, ◌>>=◌, number_at, step, front, passing, filling, is_used_up}
use Rattle.xcdr_model.specs.Projection.{Part, whole_structure, built_at}
use Rattle.xcdr_model.specs.Xcdr2Reading.{read, read_named, done, Piece, Contents, piece_at, pieces_at, ends, and_more, content_of, contents, content_at, holder, members_at}
use Rattle.try_construct.proofs.GatherSteps.{or_assoc, or_false}
use Rattle.xcdr_steps.specs.reading.Headings.{Told, Next, ended, told}
use Rattle.xcdr_steps.specs.two.Headers.{told_of, checked_header, header_at}
use Rattle.xcdr_reader.specs.declared.modes.Mode.TheVariants.{Two}
use Rattle.xcdr_reader.specs.Members.{Pieces, Reader, named_in, piece_read, heading_read, if_piece, pieces_then, mutable_read}
use Rattle.xcdr_reader.proofs.SeenIds.{Seen, seen_more}

-- what was read, without the place
abbrev value_of : {A : Type 0} → Reading A → Result A Fault
value_of r = r >>= λ x. Ok x.0

-- ---- a piece is a header and its content

abbrev piece_of : Told × Spot → Reading Piece
piece_of x = Ok (record { header = x.0.at; id = x.0.id; must = x.0.must; content = front x.0.size x.1 }, step x.0.size x.1)

piece_checked : (o : Order) (v : ℕ × ℕ) (n : ℕ × Spot) → (cond (v.1 % 2 ^ 28 == 2 ^ 28 - 1) (fault_at v.0 MemberId) (cond (nat_lt (length n.1.rest) n.0) (fault_at v.0 MemberSize) (Ok (record { header = v.0; id = v.1 % 2 ^ 28; must = v.1 / 2 ^ 31 == 1; content = front n.0 n.1 }, step n.0 n.1)))) ≡ (checked_header v n.0 o n.1 >>= piece_of)
unfolding ◌>>=◌
piece_checked o v n = by_tests (v.1 % 2 ^ 28 == 2 ^ 28 - 1) (nat_lt (length n.1.rest) n.0)
  where
    by_tests : (a b : Bool) → (cond a (fault_at v.0 MemberId) (cond b (fault_at v.0 MemberSize) (Ok (record { header = v.0; id = v.1 % 2 ^ 28; must = v.1 / 2 ^ 31 == 1; content = front n.0 n.1 }, step n.0 n.1)))) ≡ (cond a (fault_at v.0 MemberId) (cond b (fault_at v.0 MemberSize) (Ok (told_of v n.0, n.1))) >>= piece_of)
    by_tests true b = refl
    by_tests false true = refl
    by_tests false false = refl

bind_bind : {A B C : Type 0} (r : Reading A) (f : A × Spot → Reading B) (h : B × Spot → Result C Fault) → ((r >>= f) >>= h) ≡ (r >>= λ x. f x >>= h)
unfolding ◌>>=◌
bind_bind (Ok x) f h = refl
bind_bind (Err e) f h = refl

each_bind : {A : Type 0} {B : Type 0} (r : Reading A) (f h : A × Spot → Result B Fault) → ((x : A × Spot) → f x ≡ h x) → (r >>= f) ≡ (r >>= h)
unfolding ◌>>=◌
each_bind (Ok x) f h same = same x
each_bind (Err e) f h same = refl

piece_is : (o : Order) (s : Spot) → piece_at o s ≡ (header_at o s >>= piece_of)
unfolding piece_at
piece_is o s =
    each_bind (number_at 4 o 4 s) _ (λ h. (content_at o (h.0 / 2 ^ 28 % 8) h.1 >>= λ n. checked_header (holder 4 4 s, h.0) n.0 o n.1) >>= piece_of)
    (λ h. each_bind (content_at o (h.0 / 2 ^ 28 % 8) h.1) _ (λ n. checked_header (holder 4 4 s, h.0) n.0 o n.1 >>= piece_of) (λ n. piece_checked o (holder 4 4 s, h.0) n)
    ∙ sym (bind_bind (content_at o (h.0 / 2 ^ 28 % 8) h.1) (λ n. checked_header (holder 4 4 s, h.0) n.0 o n.1) piece_of))
    ∙ sym (bind_bind (number_at 4 o 4 s) (λ h. content_at o (h.0 / 2 ^ 28 % 8) h.1 >>= λ n. checked_header (holder 4 4 s, h.0) n.0 o n.1) piece_of)

-- ---- the contents that are still to come

abbrev rest_contents : (ℕ → Option (Spot → Reading Part)) → List ℕ → Order → ℕ → Spot → Contents
rest_contents known seen o n s = let ps = pieces_at o n s in contents known seen ps.0 ps.1

abbrev one_content : (ℕ → Option (Spot → Reading Part)) → List ℕ → Order → ℕ → Piece × Spot → Contents
one_content known seen o n q = content_of (known q.0.id) seen q.0 (λ seen2. rest_contents known seen2 o n q.1)

after_header : (known : ℕ → Option (Spot → Reading Part)) (seen : List ℕ) (o : Order) (n : ℕ) (r : Result (Piece × Spot) Fault)
    → (let ps = and_more r (λ s1. pieces_at o n s1) in contents known seen ps.0 ps.1) ≡ (r >>= one_content known seen o n)
unfolding ◌>>=◌ contents
after_header known seen o n (Ok q) = refl
after_header known seen o n (Err f) = refl

next_content : (known : ℕ → Option (Spot → Reading Part)) (seen : List ℕ) (o : Order) (n : ℕ) (s : Spot)
    → rest_contents known seen o (suc n) s ≡ cond (ends s) (Ok ([], false)) (piece_at o s >>= one_content known seen o n)
unfolding pieces_at contents
next_content known seen o n s =
    elim (ends s) as (λ b. (let ps = cond b ([], None) (and_more (piece_at o s) (λ s1. pieces_at o n s1)) in contents known seen ps.0 ps.1) ≡ cond b (Ok ([], false)) (piece_at o s >>= one_content known seen o n)) [
      | true ↦ refl
      | false ↦ after_header known seen o n (piece_at o s)
    ]

-- the structure of what came and of the contents that are still to come
abbrev with_pieces : Members → Pieces → Contents → Result Part Fault
with_pieces ms ps r = r >>= λ x. Ok (whole_structure ms (ps.0 ++ x.0) (ps.1 || x.1))

no_more : (ms : Members) (ps : Pieces) → Ok (whole_structure ms ps.0 ps.1) ≡ with_pieces ms ps (Ok ([], false))
unfolding ◌>>=◌
no_more ms ps = rw (append-nil ps.0, or_false ps.1) refl

-- an unknown content
passed : (ms : Members) (ps : Pieces) (must : Bool) (r : Contents) → with_pieces ms (ps.0 ++ [], ps.1 || must) r ≡ with_pieces ms ps (r >>= λ x. Ok (x.0, must || x.1))
unfolding ◌>>=◌
passed ms ps must (Ok x) = rw (append-nil ps.0, or_assoc ps.1 must x.1) refl
passed ms ps must (Err f) = refl

-- a known content
kept : (ms : Members) (ps : Pieces) (id : ℕ) (y : Part) (r : Contents) → with_pieces ms (ps.0 ++ (id, y) ∷ [], ps.1 || false) r ≡ with_pieces ms ps (r >>= λ x. Ok ((id, y) ∷ x.0, x.1))
unfolding ◌>>=◌
kept ms ps id y (Ok x) = rw (append_assoc ps.0 ((id, y) ∷ []) x.0, or_false ps.1) refl
kept ms ps id y (Err f) = refl

-- the reading of the pieces, without the place, is that of the contents
abbrev SameThen : Members → Order → ℕ → Type 0
SameThen ms o n = (seen : List ℕ) (ps : Pieces) (s : Spot) → Seen seen ps → value_of (pieces_then Two ms n ps o s) ≡ with_pieces ms ps (rest_contents (λ id. read_named o ms id) seen o n s)

abbrev known_by : Members → Order → ℕ → Option (Spot → Reading Part)
known_by ms o id = read_named o ms id

-- a content is a region that is used up
abbrev filled_by : Option (Spot → Reading Part) → Option Reader
filled_by f = option_map (λ h n s. filling n h s) f

named_two : (o : Order) (ms : Members) (id : ℕ) → named_in Two o ms id ≡ filled_by (read_named o ms id)
unfolding read_named named_in
named_two o no_members id = refl
named_two o (member h t ms) id = by_test (h.id == id) (named_two o ms id)
  where
    by_test : (b : Bool) → named_in Two o ms id ≡ filled_by (read_named o ms id) → cond b (Some (λ n s. filling n (λ s1. read o t s1) s)) (named_in Two o ms id) ≡ filled_by (cond b (Some (λ s1. read o t s1)) (read_named o ms id))
    by_test true same = refl
    by_test false same = same

abbrev stepped : ℕ → Spot → Part → Reading Part
stepped n s y = Ok (y, step n s)

abbrev came_piece : ℕ → Part × Spot → Reading Pieces
came_piece id y = Ok (((id, y.0) ∷ [], false), y.1)

abbrev next_pieces : Members → Order → ℕ → Pieces → Pieces × Spot → Reading Part
next_pieces ms o n ps x = pieces_then Two ms n (ps.0 ++ x.0.0, ps.1 || x.0.1) o x.1

abbrev content_kept : ℕ → Part → List (ℕ × Part) × Bool → Contents
content_kept id y z = Ok ((id, y) ∷ z.0, z.1)

abbrev content_then : Members → Order → ℕ → List ℕ → Told → Spot → Part → Contents
content_then ms o n seen k s y = rest_contents (known_by ms o) (k.id ∷ seen) o n (step k.size s) >>= content_kept k.id y

filled_test : (ms : Members) (o : Order) (n : ℕ) (seen : List ℕ) (ps : Pieces) (k : Told) (s : Spot) (x : Part × Spot) (b : Bool) → Seen seen ps → SameThen ms o n
    → value_of (((cond {A = Result Part Fault} b (Ok x.0) (fault_at x.1.at LengthRest) >>= stepped k.size s) >>= came_piece k.id) >>= next_pieces ms o n ps) ≡ with_pieces ms ps (cond {A = Result Part Fault} b (Ok x.0) (fault_at x.1.at LengthRest) >>= content_then ms o n seen k s)
unfolding ◌>>=◌
filled_test ms o n seen ps k s x true same more = more (k.id ∷ seen) (ps.0 ++ (k.id, x.0) ∷ [], ps.1 || false) (step k.size s) (seen_more seen ps k.id x.0 (ps.1 || false) same) ∙ kept ms ps k.id x.0 (rest_contents (known_by ms o) (k.id ∷ seen) o n (step k.size s))
filled_test ms o n seen ps k s x false same more = refl

filled : (ms : Members) (o : Order) (n : ℕ) (seen : List ℕ) (ps : Pieces) (k : Told) (s : Spot) (r : Reading Part) → Seen seen ps → SameThen ms o n
    → value_of (((r >>= λ x. is_used_up x >>= stepped k.size s) >>= came_piece k.id) >>= next_pieces ms o n ps) ≡ with_pieces ms ps (r >>= λ x. is_used_up x >>= content_then ms o n seen k s)
unfolding ◌>>=◌
filled ms o n seen ps k s (Ok x) same more = filled_test ms o n seen ps k s x (length x.1.rest == 0) same more
filled ms o n seen ps k s (Err f) same more = refl

piece_test : (ms : Members) (o : Order) (n : ℕ) (seen : List ℕ) (ps : Pieces) (k : Told) (s : Spot) (f : Spot → Reading Part) (b : Bool) → Seen seen ps → SameThen ms o n
    → value_of (cond {A = Reading Pieces} b (fault_at k.at Twice) (filling k.size f s >>= came_piece k.id) >>= next_pieces ms o n ps) ≡ with_pieces ms ps (cond {A = Contents} b (fault_at k.at Twice) (f (front k.size s) >>= λ x. is_used_up x >>= content_then ms o n seen k s))
unfolding ◌>>=◌ filling
piece_test ms o n seen ps k s f true same more = refl
piece_test ms o n seen ps k s f false same more = filled ms o n seen ps k s (f (front k.size s)) same more

abbrev piece_told : Told → Spot → Piece
piece_told k s = record { header = k.at; id = k.id; must = k.must; content = front k.size s }

one_piece : (ms : Members) (o : Order) (n : ℕ) (seen : List ℕ) (ps : Pieces) (k : Told) (s : Spot) (f : Option (Spot → Reading Part)) → Seen seen ps → SameThen ms o n
    → value_of (piece_read (filled_by f) (is_some (built_at ps.0 k.id)) k s >>= next_pieces ms o n ps) ≡ with_pieces ms ps (content_of f seen (piece_told k s) (λ seen2. rest_contents (known_by ms o) seen2 o n (step k.size s)))
unfolding ◌>>=◌
one_piece ms o n seen ps k s None same more = more seen (ps.0 ++ [], ps.1 || k.must) (step k.size s) (λ id. same id ∙ ap (λ (l : List (ℕ × Part)). is_some (built_at l id)) (sym (append-nil ps.0))) ∙ passed ms ps k.must (rest_contents (known_by ms o) seen o n (step k.size s))
one_piece ms o n seen ps k s (Some f) same more = ap (λ (b : Bool). value_of (piece_read (filled_by (Some f)) b k s >>= next_pieces ms o n ps)) (sym (same k.id)) ∙ piece_test ms o n seen ps k s f (has (λ i. i == k.id) seen) same more

-- what is made of what comes next
abbrev came_by : Pieces → ℕ → Bool
came_by ps id = is_some (built_at ps.0 id)

abbrev after_piece : Members → Order → ℕ → Pieces → Option Pieces × Spot → Reading Part
after_piece ms o n ps x = if_piece x.0 (Ok (whole_structure ms ps.0 ps.1, x.1)) (λ q. pieces_then Two ms n (ps.0 ++ q.0, ps.1 || q.1) o x.1)

some_piece : (ms : Members) (o : Order) (n : ℕ) (ps : Pieces) (r : Reading Pieces) → ((r >>= λ y. Ok (Some y.0, y.1)) >>= after_piece ms o n ps) ≡ (r >>= next_pieces ms o n ps)
unfolding ◌>>=◌
some_piece ms o n ps (Ok y) = refl
some_piece ms o n ps (Err f) = refl

abbrev some_header : Told × Spot → Reading Next
some_header h = Ok (told h.0, h.1)

one_header : (ms : Members) (o : Order) (n : ℕ) (seen : List ℕ) (ps : Pieces) (r : Reading Told) → Seen seen ps → SameThen ms o n → value_of (((r >>= some_header) >>= λ x. heading_read Two ms (came_by ps) x.0 o x.1) >>= after_piece ms o n ps) ≡ with_pieces ms ps ((r >>= piece_of) >>= one_content (known_by ms o) seen o n)
unfolding ◌>>=◌
one_header ms o n seen ps (Ok h) same more =
    ap (λ (r : Reading Part). value_of r) (some_piece ms o n ps (piece_read (named_in Two o ms h.0.id) (came_by ps h.0.id) h.0 h.1) ∙ ap (λ (f : Option Reader). piece_read f (came_by ps h.0.id) h.0 h.1 >>= next_pieces ms o n ps) (named_two o ms h.0.id))
    ∙ one_piece ms o n seen ps h.0 h.1 (read_named o ms h.0.id) same more
one_header ms o n seen ps (Err f) same more = refl

ends_or : (ms : Members) (o : Order) (n : ℕ) (seen : List ℕ) (ps : Pieces) (s : Spot) (b : Bool) → Seen seen ps → SameThen ms o n
    → value_of ((cond {A = Reading Next} b (Ok (ended, s)) (header_at o s >>= some_header) >>= λ x. heading_read Two ms (came_by ps) x.0 o x.1) >>= after_piece ms o n ps) ≡ with_pieces ms ps (cond {A = Contents} b (Ok ([], false)) (piece_at o s >>= one_content (known_by ms o) seen o n))
unfolding ◌>>=◌
ends_or ms o n seen ps s true same more = no_more ms ps
ends_or ms o n seen ps s false same more = one_header ms o n seen ps (header_at o s) same more ∙ ap (λ (r : Reading Piece). with_pieces ms ps (r >>= one_content (known_by ms o) seen o n)) (sym (piece_is o s))

no_fuel : (ms : Members) (o : Order) (seen : List ℕ) (ps : Pieces) (s : Spot) → value_of (Ok (whole_structure ms ps.0 ps.1, s)) ≡ with_pieces ms ps (rest_contents (known_by ms o) seen o zero s)
unfolding pieces_at contents ◌>>=◌
no_fuel ms o seen ps s = no_more ms ps

pub pieces_are : (ms : Members) (o : Order) (n : ℕ) (seen : List ℕ) (ps : Pieces) (s : Spot) → Seen seen ps → value_of (pieces_then Two ms n ps o s) ≡ with_pieces ms ps (rest_contents (λ id. read_named o ms id) seen o n s)
unfolding pieces_then
pieces_are ms o zero seen ps s same = no_fuel ms o seen ps s
pieces_are ms o (suc n) seen ps s same = ends_or ms o n seen ps s (ends s) same (pieces_are ms o n) ∙ ap (with_pieces ms ps) (sym (next_content (λ id. read_named o ms id) seen o n s))

-- ---- the whole structure

abbrev at_step : {A : Type 0} → ℕ → Spot → A → Reading A
at_step n s x = Ok (x, step n s)

from_value : {A : Type 0} (n : ℕ) (s : Spot) (r : Reading A) → (r >>= λ x. at_step n s x.0) ≡ (value_of r >>= at_step n s)
unfolding ◌>>=◌
from_value n s (Ok x) = refl
from_value n s (Err f) = refl

passing_same : {A : Type 0} (n : ℕ) (f h : Spot → Reading A) (s : Spot) → value_of (f (front n s)) ≡ value_of (h (front n s)) → passing n f s ≡ passing n h s
unfolding passing
passing_same n f h s same = from_value n s (f (front n s)) ∙ ap (λ r. r >>= at_step n s) same ∙ sym (from_value n s (h (front n s)))

members_value : (ms : Members) (s : Spot) (r : Contents) → value_of (done (λ x. whole_structure ms x.0 x.1) (r >>= λ x. Ok (x, s))) ≡ with_pieces ms ([], false) r
unfolding ◌>>=◌
members_value ms s (Ok x) = refl
members_value ms s (Err f) = refl

pub mutable_is : (ms : Members) (o : Order) (n : ℕ) (s : Spot) → passing n (λ s1. done (λ r. whole_structure ms r.0 r.1) (members_at o (λ id. read_named o ms id) s1)) s ≡ passing n (mutable_read Two ms o) s
mutable_is ms o n s =
    let f = front n s in
    passing_same n (λ s1. done (λ r. whole_structure ms r.0 r.1) (members_at o (λ id. read_named o ms id) s1)) (mutable_read Two ms o) s
    (members_value ms f (rest_contents (λ id. read_named o ms id) [] o (length f.rest) f) ∙ sym (pieces_are ms o (length f.rest) [] ([], false) f (λ id. refl)))
