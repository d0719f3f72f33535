-- Parameters that are read one after another make what reading all headers and then the contents makes.
use Rattle.std.proofs.Common.{◌≡◌, refl, sym, ap, subst, ◌∙◌, ℕ, zero, suc, ◌+◌, ◌-◌, ◌%◌, ◌^◌, ◌≤◌, ◌<◌, min, Bool, true, false, cond, not, ◌||◌, ◌==◌, nat_lt, nat_le, List, [], ◌∷◌, ◌++◌, length, take, drop, Option, Some, None, Result, Ok, Err, is_some, append_assoc, append-nil, length-drop, arith}
use Rattle.std.proofs.lemmas.Bool.{lt-ltb, ltb-false}
use Rattle.xt_shapes.specs.declared.leaves.Order.{Order}
use Rattle.xt_shapes.specs.Lists.{has}
use Rattle.xt_shapes.specs.Shape.{Shape, Members, no_members, member}
use Rattle.xcdr_model.specs.declared.malformed.Fault.{Fault}
use Rattle.xcdr_model.specs.declared.malformed.Why.TheVariants.{Short, MemberId, Twice, LengthRest, Parameter}
use Rattle.xcdr_model.specs.Numbers.{number, padding}
use Rattle.xcdr_model.specs.Reading.{Spot, Reading, fault_at, ◌>>=◌, step, front, is_used_up}
use Rattle.xcdr_model.specs.Projection.{Part, whole_structure, built_at}
use Rattle.xcdr_model.specs.Xcdr1Reading.{Mark, block_at, mark_at, first_octets, short_mark, long_mark, is_end, is_ignored, is_no_id, sized_at, shifted, closed_by, content_read, is_open, Params, pass_on, and_one, one_param, params_at, fault_of, params_read, read1, read_named1}
use Rattle.xcdr_model.specs.Xcdr2Reading.{done, Piece, Contents, content_of, contents}
use Rattle.try_construct.proofs.GatherSteps.{or_assoc, or_false}
use Rattle.xcdr_steps.specs.reading.Headings.{Told, Next, ended, ignored, told}
use Rattle.xcdr_steps.specs.one.Marks.{placed_mark}
use Rattle.xcdr_steps.specs.one.Parameters.{told_of, with_content, parameter_of, parameter_at}
use Rattle.xcdr_reader.specs.declared.modes.Mode.{Mode}
use Rattle.xcdr_reader.specs.declared.modes.Mode.TheVariants.{Inner, Tail}
use Rattle.xcdr_reader.specs.Modes.{parameter_content, content_in, next_in}
use Rattle.xcdr_reader.specs.Members.{Pieces, Reader, named_in, piece_read, heading_read, if_piece, no_more, pieces_then, mutable_read}
use Rattle.xcdr_reader.proofs.Gathering.{bind_ok}
use Rattle.xcdr_reader.proofs.SeenIds.{Seen, seen_more}

-- the modes of XCDR1
pub record IsOwn (m : Mode) : Type 0 where
  pub next : (o : Order) (s : Spot) → next_in m o s ≡ parameter_at o s
  pub none : (x : Part) (s : Spot) → no_more m x s ≡ fault_at s.at Short
  pub content : (n : ℕ) (t : Shape) (o : Order) (s : Spot) → content_in m n t o s ≡ parameter_content n t o s

pub inner_own : IsOwn Inner
inner_own = record { next = λ o s. refl; none = λ x s. refl; content = λ n t o s. refl }

pub tail_own : IsOwn Tail
tail_own = record { next = λ o s. refl; none = λ x s. refl; content = λ n t o s. refl }

-- ---- each parameter takes octets

abbrev Less : {A : Type 0} → Spot → A × Spot → Type 0
Less s x = length x.1.rest < length s.rest

block_less : (n : ℕ) (s : Spot) (x : List ℕ × Spot) → 0 < n → block_at n s ≡ Ok x → Less s x
unfolding block_at step
block_less n s x some e = by_test (nat_lt (length s.rest) (padding 4 s.at + n)) refl e
  where
    by_test : (b : Bool) → nat_lt (length s.rest) (padding 4 s.at + n) ≡ b → cond {A = Reading (List ℕ)} b (fault_at (s.at + min (padding 4 s.at) (length s.rest)) Short) (Ok (take n (drop (padding 4 s.at) s.rest), record { at = s.at + (padding 4 s.at + n); rest = drop (padding 4 s.at + n) s.rest })) ≡ Ok x → Less s x
    by_test true t e = absurd cc
    by_test false t e =
        let same : (take n (drop (padding 4 s.at) s.rest), record { at = s.at + (padding 4 s.at + n); rest = drop (padding 4 s.at + n) s.rest }) ≡ x = cc in
        subst (λ (y : List ℕ × Spot). Less s y) same (omega (arith, length-drop (padding 4 s.at + n) s.rest, ltb-false _ _ t, some))

abbrev long_checked : Order → ℕ → List ℕ × Spot → Reading Mark
long_checked o at x = cond (number o (take 2 (drop 2 x.0)) == 8) (Ok (long_mark o x.0, x.1)) (fault_at at Parameter)

mark_less : (o : Order) (s : Spot) (m : Mark × Spot) → mark_at o s ≡ Ok m → Less s m
unfolding mark_at ◌>>=◌
mark_less o s m e = by_first (block_at 4 s) refl e
  where
    by_length : (x : List ℕ × Spot) (b : Bool) → Less s x → cond {A = Reading Mark} b (Ok (long_mark o x.0, x.1)) (fault_at (s.at + padding 4 s.at) Parameter) ≡ Ok m → Less s m
    by_length x true less e = (let same : (long_mark o x.0, x.1) ≡ m = cc in subst (λ (y : Mark × Spot). Less s y) same less)
    by_length x false less e = absurd cc

    by_long : (r : Reading (List ℕ)) → block_at 12 s ≡ r → (r >>= long_checked o (s.at + padding 4 s.at)) ≡ Ok m → Less s m
    by_long (Ok x) is e = by_length x (number o (take 2 (drop 2 x.0)) == 8) (block_less 12 s x (omega arith) is) e
    by_long (Err f) is e = absurd cc

    by_form : (h : List ℕ × Spot) (b : Bool) → Less s h → cond {A = Reading Mark} b (block_at 12 s >>= long_checked o (s.at + padding 4 s.at)) (Ok (short_mark o h.0, h.1)) ≡ Ok m → Less s m
    by_form h true less e = by_long (block_at 12 s) refl e
    by_form h false less e = (let same : (short_mark o h.0, h.1) ≡ m = cc in subst (λ (y : Mark × Spot). Less s y) same less)

    by_first : (r : Reading (List ℕ)) → block_at 4 s ≡ r → (r >>= λ h. cond (first_octets o h.0 % 2 ^ 14 == 0x3F01) (block_at 12 s >>= long_checked o (s.at + padding 4 s.at)) (Ok (short_mark o h.0, h.1))) ≡ Ok m → Less s m
    by_first (Ok h) is e = by_form h (first_octets o h.0 % 2 ^ 14 == 0x3F01) (block_less 4 s h (omega arith) is) e
    by_first (Err f) is e = absurd cc

step_left : (n : ℕ) (s : Spot) → length (step n s).rest ≡ length s.rest - n
unfolding step
step_left n s = length-drop n s.rest

-- where no octet is left no header is
no_header : (o : Order) (s : Spot) → length s.rest ≡ 0 → mark_at o s ≡ fault_at s.at Short
unfolding mark_at block_at ◌>>=◌
no_header o s none =
    let short : nat_lt (length s.rest) (padding 4 s.at + 4) ≡ true = lt-ltb _ _ (omega (arith, none)) in
    let at : s.at + min (padding 4 s.at) (length s.rest) ≡ s.at = omega (arith, none) in
    rw (short, at) refl

-- ---- the contents that are still to come

-- contents that are read, and where the list ended
abbrev with_end : (ℕ → Option (Spot → Reading Part)) → List ℕ → Params → Reading (List (ℕ × Part) × Bool)
with_end known seen q = contents known seen q.0 (fault_of q.1) >>= λ r. q.1 >>= λ s1. Ok (r, s1)

abbrev rest_params : (ℕ → Option (Spot → Reading Part)) → List ℕ → Order → ℕ → Spot → Reading (List (ℕ × Part) × Bool)
rest_params known seen o n s = with_end known seen (params_at o (suc n) s)

-- the structure of what came and of the contents that are still to come
abbrev with_params : Members → Pieces → Reading (List (ℕ × Part) × Bool) → Reading Part
with_params ms ps r = r >>= λ x. Ok (whole_structure ms (ps.0 ++ x.0.0) (ps.1 || x.0.1), x.1)

abbrev known_by : Members → Order → ℕ → Option (Spot → Reading Part)
known_by ms o id = read_named1 o ms id

abbrev SameThen : Mode → Members → Order → ℕ → Type 0
SameThen m ms o n = (seen : List ℕ) (ps : Pieces) (s : Spot) → Seen seen ps → length s.rest ≤ n → pieces_then m ms n ps o s ≡ with_params ms ps (rest_params (known_by ms o) seen o n s)

-- a reader of XCDR1's definition, and the same given the content's length
abbrev IsReader : Option (Spot → Reading Part) → Option Reader → Type 0
IsReader None None = Unit {0}
IsReader None (Some g) = ⊥
IsReader (Some f) None = ⊥
IsReader (Some f) (Some g) = (closed : Bool) × (h : Spot → Reading Part) × (f ≡ content_read closed h) × ((n : ℕ) (s : Spot) → g n s ≡ (content_read closed h (front n s) >>= λ x. Ok (x.0, step n s)))

named_one : (m : Mode) (o : Order) (ms : Members) (id : ℕ) → IsOwn m → IsReader (read_named1 o ms id) (named_in m o ms id)
unfolding read_named1 named_in
named_one m o no_members id own = tt
named_one m o (member h t ms) id own = by_test (h.id == id) (named_one m o ms id own)
  where
    by_test : (b : Bool) → IsReader (read_named1 o ms id) (named_in m o ms id) → IsReader (cond b (Some (content_read (not (is_open t)) (λ s1. read1 true o t s1))) (read_named1 o ms id)) (cond b (Some (λ n s. content_in m n t o s)) (named_in m o ms id))
    by_test true more = (not (is_open t), (λ s1. read1 true o t s1), refl, λ n s. own.content n t o s)
    by_test false more = more

-- ---- what comes next, and what is behind it

abbrev next_pieces : Mode → Members → Order → ℕ → Pieces → Pieces × Spot → Reading Part
next_pieces m ms o n ps x = pieces_then m ms n (ps.0 ++ x.0.0, ps.1 || x.0.1) o x.1

abbrev after_piece : Mode → Members → Order → ℕ → Pieces → Option Pieces × Spot → Reading Part
after_piece m ms o n ps x = if_piece x.0 (Ok (whole_structure ms ps.0 ps.1, x.1)) (λ q. pieces_then m ms n (ps.0 ++ q.0, ps.1 || q.1) o x.1)

some_piece : (m : Mode) (ms : Members) (o : Order) (n : ℕ) (ps : Pieces) (r : Reading Pieces) → ((r >>= λ y. Ok (Some y.0, y.1)) >>= after_piece m ms o n ps) ≡ (r >>= next_pieces m ms o n ps)
unfolding ◌>>=◌
some_piece m ms o n ps (Ok y) = refl
some_piece m ms o n ps (Err f) = refl

abbrev came_by : Pieces → ℕ → Bool
came_by ps id = is_some (built_at ps.0 id)

-- the list's end
at_end : (ms : Members) (ps : Pieces) (s : Spot) → Ok (whole_structure ms ps.0 ps.1, s) ≡ with_params ms ps (Ok (([], false), s))
unfolding ◌>>=◌
at_end ms ps s = rw (append-nil ps.0, or_false ps.1) refl

-- a parameter that is passed over, marked or not
abbrev and_must : Bool → (List (ℕ × Part) × Bool) × Spot → Reading (List (ℕ × Part) × Bool)
and_must must x = Ok ((x.0.0, must || x.0.1), x.1)

passed : (ms : Members) (ps : Pieces) (must : Bool) (r : Reading (List (ℕ × Part) × Bool)) → with_params ms (ps.0 ++ [], ps.1 || must) r ≡ with_params ms ps (r >>= and_must must)
unfolding ◌>>=◌
passed ms ps must (Ok x) = rw (append-nil ps.0, or_assoc ps.1 must x.0.1) refl
passed ms ps must (Err f) = refl

unmarked : (r : Reading (List (ℕ × Part) × Bool)) → (r >>= and_must false) ≡ r
unfolding ◌>>=◌
unmarked (Ok x) = refl
unmarked (Err f) = refl

-- a content that was read
abbrev and_content : ℕ → Part → (List (ℕ × Part) × Bool) × Spot → Reading (List (ℕ × Part) × Bool)
and_content id y x = Ok (((id, y) ∷ x.0.0, x.0.1), x.1)

kept : (ms : Members) (ps : Pieces) (id : ℕ) (y : Part) (r : Reading (List (ℕ × Part) × Bool)) → with_params ms (ps.0 ++ (id, y) ∷ [], ps.1 || false) r ≡ with_params ms ps (r >>= and_content id y)
unfolding ◌>>=◌
kept ms ps id y (Ok x) = rw (append_assoc ps.0 ((id, y) ∷ []) x.0.0, or_false ps.1) refl
kept ms ps id y (Err f) = refl

-- the pieces behind a piece, and what it brings to their contents
must_end : (must : Bool) (r : Contents) (z : Result Spot Fault) → ((r >>= λ x. Ok (x.0, must || x.1)) >>= λ x. z >>= λ s1. Ok (x, s1)) ≡ ((r >>= λ x. z >>= λ s1. Ok (x, s1)) >>= and_must must)
unfolding ◌>>=◌
must_end must (Ok x) (Ok s1) = refl
must_end must (Ok x) (Err f) = refl
must_end must (Err f) z = refl

content_end : (id : ℕ) (y : Part) (r : Contents) (z : Result Spot Fault) → ((r >>= λ x. Ok ((id, y) ∷ x.0, x.1)) >>= λ x. z >>= λ s1. Ok (x, s1)) ≡ ((r >>= λ x. z >>= λ s1. Ok (x, s1)) >>= and_content id y)
unfolding ◌>>=◌
content_end id y (Ok x) (Ok s1) = refl
content_end id y (Ok x) (Err f) = refl
content_end id y (Err f) z = refl

-- ---- a member's content

abbrev piece_told : Told → Spot → Piece
piece_told k s = record { header = k.at; id = k.id; must = k.must; content = front k.size s }

abbrev came_piece : ℕ → Part × Spot → Reading Pieces
came_piece id y = Ok (((id, y.0) ∷ [], false), y.1)

-- what the definition makes of a content that was read, and of the parameters behind it
abbrev content_then : Members → Order → List ℕ → ℕ → Params → Part → Reading (List (ℕ × Part) × Bool)
content_then ms o seen id q y = with_end (known_by ms o) (id ∷ seen) q >>= and_content id y

-- a closed content is used up
used_case : (x : Part × Spot) (b : Bool) (at : ℕ) (k : Part → Contents) → (shifted at (cond {A = Reading Part} b (Ok (x.0, record { at = x.1.at; rest = [] })) (fault_at x.1.at LengthRest)) >>= λ y. is_used_up y >>= k) ≡ (shifted at (cond {A = Reading Part} b (Ok (x.0, record { at = x.1.at; rest = [] })) (fault_at x.1.at LengthRest)) >>= λ y. k y.0)
unfolding ◌>>=◌
used_case x true at k = refl
used_case x false at k = refl

used_content : (closed : Bool) (h : Spot → Reading Part) (c : Spot) (k : Part → Contents) → (content_read closed h c >>= λ y. is_used_up y >>= k) ≡ (content_read closed h c >>= λ y. k y.0)
unfolding content_read ◌>>=◌
used_content closed h c k = by_read (h (record { at = 0; rest = c.rest }))
  where
    by_read : (r : Reading Part) → (shifted c.at (r >>= λ x. closed_by closed x) >>= λ y. is_used_up y >>= k) ≡ (shifted c.at (r >>= λ x. closed_by closed x) >>= λ y. k y.0)
    by_read (Ok x) = used_case x (nat_le (length x.1.rest) (cond closed 3 0)) c.at k
    by_read (Err f) = refl

-- the definition's content, with the parameters behind it
content_known : (ms : Members) (o : Order) (seen : List ℕ) (id : ℕ) (q : Params) (r : Reading Part)
    → ((r >>= λ y. contents (known_by ms o) (id ∷ seen) q.0 (fault_of q.1) >>= λ x. Ok ((id, y.0) ∷ x.0, x.1)) >>= λ x. q.1 >>= λ s1. Ok (x, s1)) ≡ (r >>= λ y. content_then ms o seen id q y.0)
unfolding ◌>>=◌
content_known ms o seen id q (Ok y) = content_end id y.0 (contents (known_by ms o) (id ∷ seen) q.0 (fault_of q.1)) q.1
content_known ms o seen id q (Err f) = refl

content_came : (m : Mode) (ms : Members) (o : Order) (n : ℕ) (seen : List ℕ) (ps : Pieces) (k : Told) (s : Spot) (r : Reading Part) → Seen seen ps → SameThen m ms o n → length (step k.size s).rest ≤ n
    → (((r >>= λ x. Ok (x.0, step k.size s)) >>= came_piece k.id) >>= next_pieces m ms o n ps) ≡ with_params ms ps (r >>= λ y. content_then ms o seen k.id (params_at o (suc n) (step k.size s)) y.0)
unfolding ◌>>=◌
content_came m ms o n seen ps k s (Ok x) same more le = more (k.id ∷ seen) (ps.0 ++ (k.id, x.0) ∷ [], ps.1 || false) (step k.size s) (seen_more seen ps k.id x.0 (ps.1 || false) same) le ∙ kept ms ps k.id x.0 (rest_params (known_by ms o) (k.id ∷ seen) o n (step k.size s))
content_came m ms o n seen ps k s (Err f) same more le = refl

-- contents, and where the list ended
abbrev and_end : Params → List (ℕ × Part) × Bool → Reading (List (ℕ × Part) × Bool)
and_end q x = q.1 >>= λ s1. Ok (x, s1)

abbrev contents_behind : Members → Order → Params → List ℕ → Contents
contents_behind ms o q seen = contents (known_by ms o) seen q.0 (fault_of q.1)

twice_told : (m : Mode) (ms : Members) (o : Order) (n : ℕ) (ps : Pieces) (k : Told) (q : Params) → (fault_at {A = Pieces × Spot} k.at Twice >>= next_pieces m ms o n ps) ≡ with_params ms ps (fault_at {A = List (ℕ × Part) × Bool} k.at Twice >>= and_end q)
unfolding ◌>>=◌
twice_told m ms o n ps k q = refl

known_piece : (m : Mode) (ms : Members) (o : Order) (n : ℕ) (seen : List ℕ) (ps : Pieces) (k : Told) (s : Spot) (f : Spot → Reading Part) (g : Reader) (b : Bool) → IsReader (Some f) (Some g) → Seen seen ps → SameThen m ms o n → length (step k.size s).rest ≤ n
    → (cond {A = Reading Pieces} b (fault_at k.at Twice) (g k.size s >>= came_piece k.id) >>= next_pieces m ms o n ps)
    ≡ with_params ms ps (cond {A = Contents} b (fault_at k.at Twice) (f (front k.size s) >>= λ x. is_used_up x >>= λ y. contents_behind ms o (params_at o (suc n) (step k.size s)) (k.id ∷ seen) >>= λ z. Ok ((k.id, y) ∷ z.0, z.1)) >>= and_end (params_at o (suc n) (step k.size s)))
known_piece m ms o n seen ps k s f g true reader same more le = twice_told m ms o n ps k (params_at o (suc n) (step k.size s))
known_piece m ms o n seen ps k s f g false reader same more le =
    let closed = reader.0 in
    let h = reader.1 in
    let q = params_at o (suc n) (step k.size s) in
    let r = content_read closed h (front k.size s) in
    let rest : Part → Contents = λ y. contents_behind ms o q (k.id ∷ seen) >>= λ z. Ok ((k.id, y) ∷ z.0, z.1) in
    ap (λ (x : Reading Part). (x >>= came_piece k.id) >>= next_pieces m ms o n ps) (reader.3 k.size s)
    ∙ content_came m ms o n seen ps k s r same more le
    ∙ ap (with_params ms ps) (sym (content_known ms o seen k.id q r) ∙ ap (λ (c : Contents). c >>= and_end q) (sym (used_content closed h (front k.size s) rest)))
    ∙ ap (λ (e : Spot → Reading Part). with_params ms ps ((e (front k.size s) >>= λ x. is_used_up x >>= rest) >>= and_end q)) (sym reader.2)

one_piece : (m : Mode) (ms : Members) (o : Order) (n : ℕ) (seen : List ℕ) (ps : Pieces) (k : Told) (s : Spot) (f : Option (Spot → Reading Part)) (g : Option Reader) → IsReader f g → Seen seen ps → SameThen m ms o n → length (step k.size s).rest ≤ n
    → (piece_read g (came_by ps k.id) k s >>= next_pieces m ms o n ps) ≡ with_params ms ps (content_of f seen (piece_told k s) (contents_behind ms o (params_at o (suc n) (step k.size s))) >>= and_end (params_at o (suc n) (step k.size s)))
one_piece m ms o n seen ps k s None None reader same more le =
    let q = params_at o (suc n) (step k.size s) in
    bind_ok (([], k.must), step k.size s) (next_pieces m ms o n ps)
    ∙ more seen (ps.0 ++ [], ps.1 || k.must) (step k.size s) (λ id. same id ∙ ap (λ (l : List (ℕ × Part)). is_some (built_at l id)) (sym (append-nil ps.0))) le
    ∙ passed ms ps k.must (with_end (known_by ms o) seen q)
    ∙ ap (with_params ms ps) (sym (must_end k.must (contents_behind ms o q seen) q.1))
one_piece m ms o n seen ps k s None (Some g) reader same more le = absurd reader
one_piece m ms o n seen ps k s (Some f) None reader same more le = absurd reader
one_piece m ms o n seen ps k s (Some f) (Some g) reader same more le =
    ap (λ (b : Bool). piece_read (Some g) b k s >>= next_pieces m ms o n ps) (sym (same k.id))
    ∙ known_piece m ms o n seen ps k s f g (has (λ i. i == k.id) seen) reader same more le

-- ---- a header, by what is tested of it

abbrev with_heading : Mode → Members → Order → ℕ → Pieces → Reading Next → Reading Part
with_heading m ms o n ps r = (r >>= λ x. heading_read m ms (came_by ps) x.0 o x.1) >>= after_piece m ms o n ps

by_tests : (m : Mode) (ms : Members) (o : Order) (n : ℕ) (seen : List ℕ) (ps : Pieces) (v : ℕ × Mark) (s : Spot) (a b c d : Bool) → IsOwn m → nat_lt (length s.rest) v.1.length ≡ d → Seen seen ps → SameThen m ms o n → length (step v.1.length s).rest ≤ n
    → with_heading m ms o n ps (cond a (Ok (ended, s)) (cond b (with_content v (ignored v.1.length) s) (cond c (fault_at v.0 MemberId) (with_content v (told (told_of v)) s))))
    ≡ with_params ms ps (with_end (known_by ms o) seen (cond a ([], Ok s) (cond b (pass_on (sized_at v.0 v.1 s) (λ s1. params_at o (suc n) s1)) (and_one (cond {A = Result Mark Fault} c (fault_at v.0 MemberId) (Ok v.1) >>= λ k. sized_at v.0 k s) (λ s1. params_at o (suc n) s1)))))
unfolding ◌>>=◌ sized_at contents
by_tests m ms o n seen ps v s true b c d own e same more le = at_end ms ps s
by_tests m ms o n seen ps v s false true c true own e same more le = rw e refl
by_tests m ms o n seen ps v s false true c false own e same more le = rw e (
    more seen (ps.0 ++ [], ps.1 || false) (step v.1.length s) (λ id. same id ∙ ap (λ (l : List (ℕ × Part)). is_some (built_at l id)) (sym (append-nil ps.0))) le
    ∙ passed ms ps false (rest_params (known_by ms o) seen o n (step v.1.length s))
    ∙ ap (with_params ms ps) (unmarked (rest_params (known_by ms o) seen o n (step v.1.length s))))
by_tests m ms o n seen ps v s false false true d own e same more le = refl
by_tests m ms o n seen ps v s false false false true own e same more le = rw e refl
by_tests m ms o n seen ps v s false false false false own e same more le = rw e (
    some_piece m ms o n ps (piece_read (named_in m o ms v.1.id) (came_by ps v.1.id) (told_of v) s)
    ∙ one_piece m ms o n seen ps (told_of v) s (read_named1 o ms v.1.id) (named_in m o ms v.1.id) (named_one m o ms v.1.id own) same more le)

abbrev placed_at : ℕ → Order → Reading Mark → Reading Next
placed_at header o r = (r >>= placed_mark header) >>= λ x. parameter_of x.0 o x.1

placed_ok : (header : ℕ) (o : Order) (k : Mark × Spot) → placed_at header o (Ok k) ≡ parameter_of (header, k.0) o k.1
unfolding ◌>>=◌
placed_ok header o k = refl

not_told : (m : Mode) (ms : Members) (o : Order) (n : ℕ) (seen : List ℕ) (ps : Pieces) (header : ℕ) (f : Fault) → with_heading m ms o n ps (placed_at header o (Err f)) ≡ with_params ms ps (with_end (known_by ms o) seen ([], Err f))
unfolding ◌>>=◌ contents
not_told m ms o n seen ps header f = refl

one_header : (m : Mode) (ms : Members) (o : Order) (n : ℕ) (seen : List ℕ) (ps : Pieces) (header : ℕ) (s : Spot) (r : Reading Mark) → IsOwn m → mark_at o s ≡ r → Seen seen ps → SameThen m ms o n → length s.rest ≤ suc n
    → with_heading m ms o n ps (placed_at header o r) ≡ with_params ms ps (with_end (known_by ms o) seen (one_param header r (λ s1. params_at o (suc n) s1)))
one_header m ms o n seen ps header s (Ok k) own is same more le =
    let less = mark_less o s k is in
    ap (with_heading m ms o n ps) (placed_ok header o k)
    ∙ by_tests m ms o n seen ps (header, k.0) k.1 (is_end k.0) (is_ignored k.0) (is_no_id k.0) (nat_lt (length k.1.rest) k.0.length) own refl same more (omega (arith, step_left k.0.length k.1, less, le))
one_header m ms o n seen ps header s (Err f) own is same more le = not_told m ms o n seen ps header f

-- ---- all parameters

no_turn : (m : Mode) (ms : Members) (o : Order) (seen : List ℕ) (ps : Pieces) (s : Spot) → length s.rest ≡ 0 → fault_at s.at Short ≡ with_params ms ps (rest_params (known_by ms o) seen o zero s)
unfolding params_at contents ◌>>=◌
no_turn m ms o seen ps s none = rw (no_header o s none) refl

parameters_then : (m : Mode) (ms : Members) (o : Order) (n : ℕ) (own : IsOwn m) (seen : List ℕ) (ps : Pieces) (s : Spot) → Seen seen ps → length s.rest ≤ n → pieces_then m ms n ps o s ≡ with_params ms ps (rest_params (known_by ms o) seen o n s)
unfolding pieces_then params_at
parameters_then m ms o zero own seen ps s same le = own.none (whole_structure ms ps.0 ps.1) s ∙ no_turn m ms o seen ps s (omega (arith, le))
parameters_then m ms o (suc n) own seen ps s same le =
    ap (with_heading m ms o n ps) (own.next o s)
    ∙ one_header m ms o n seen ps (s.at + padding 4 s.at) s (mark_at o s) own refl same (parameters_then m ms o n own) le

pub parameters_are : (m : Mode) (ms : Members) (o : Order) (s : Spot) → IsOwn m → done (λ r. whole_structure ms r.0 r.1) (params_read o (λ id. read_named1 o ms id) s) ≡ mutable_read m ms o s
parameters_are m ms o s own = sym (parameters_then m ms o (length s.rest) own [] ([], false) s (λ id. refl) (omega arith))
