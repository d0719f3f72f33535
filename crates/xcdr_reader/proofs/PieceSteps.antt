-- Pieces, as the program keeps them.
use Rattle.std.proofs.Common.{◌≡◌, refl, sym, ap, ap₂, ◌∙◌, subst, ℕ, zero, suc, ◌+◌, ◌-◌, ◌<◌, ◌≤◌, Bool, true, false, ◌||◌, List, [], ◌∷◌, ◌++◌, length, replicate, Option, Some, None, Ok, is_some, arith, slice_get, get_or, take, nat_lt}
use Rattle.xt_shapes.specs.declared.leaves.Order.{Order}
use Rattle.xt_shapes.specs.Shape.{Head, Shape, Members, no_members, member}
use Rattle.xt_shapes.specs.Vals.{Slot as Body}
use Rattle.type_trees.specs.declared.types.Member as declared
use Rattle.type_trees.specs.Bridge.{type_shape, members_shape, member_head}
use Rattle.xcdr_model.specs.Premises.{distinct_members}
use Rattle.xcdr_model.specs.Projection.{Built, Part, built_at, any_unseen, slot_from, whole_structure}
use Rattle.std.proofs.lemmas.Bool.{le-ltb}
use Rattle.xcdr_model.specs.declared.malformed.Why.TheVariants.{Twice}
use Rattle.xcdr_model.specs.Reading.{Spot, Reading, fault_at, ◌>>=◌}
use Rattle.xt_wire.specs.cursor.Steps.{pass_at}
use Rattle.xcdr_steps.specs.declared.reading.headings.Header.{Header}
use Rattle.try_construct.specs.Members.{by_member, so_far, have_come, and_slot_at, filled_of, at_index}
use Rattle.try_construct.proofs.StructureSteps.{comes, none_came, filled_whole, member_count}
use Rattle.try_construct.proofs.GatherSteps.{or_false}
use Rattle.xt_wire.specs.cursor.Standing.{Standing, Stands, room}
use Rattle.xt_wire.specs.cursor.Decoding.{spot}
use Rattle.xt_wire.proofs.OfCursor.Ahead.{Ahead, begins, rephrased, room_is}
use Rattle.xcdr_steps.specs.reading.Headings.{Told, Next, ended, ignored, told, header_view}
use Rattle.xcdr_steps.specs.reading.Indices.{index_of}
use Rattle.xcdr_reader.specs.declared.modes.Mode.{Mode}
use Rattle.xcdr_reader.specs.Modes.{content_in, next_in}
use Rattle.xcdr_reader.specs.declared.known.Known.{Known}
use Rattle.xcdr_reader.specs.Members.{Pieces, named_in, piece_read, heading_read, next_piece, if_piece, no_more, pieces_then, mutable_read, Holds, IsIndexed, flag_at, has_come}
use Rattle.xcdr_reader.proofs.Gathering.{each_bind}
use Rattle.xcdr_reader.proofs.Indexed.{found, not_found, indexed}

-- ---- the flags of what came

come_count : (ms : Members) (ps : List (ℕ × Part)) → length (have_come ms ps) ≡ member_count ms
come_count no_members ps = refl
come_count (member h t ms) ps = ap (λ (n : ℕ). suc n) (come_count ms ps)

count_is : (ms : List declared.Member) → member_count (members_shape ms) ≡ length ms
count_is [] = refl
count_is (m ∷ ms) = ap (λ (n : ℕ). suc n) (count_is ms)

pub held_count : (ms : List declared.Member) (k : Known) (ps : Pieces) → Holds (members_shape ms) k ps → length (by_member k.slots).1 ≡ length ms
held_count ms k ps h = ap (λ (y : Option (List (Option Body)) × List Bool × Bool). length y.1) h.slots ∙ come_count (members_shape ms) ps.0 ∙ count_is ms

pub held_index : (ms : List declared.Member) (k : Known) (ps : Pieces) → Holds (members_shape ms) k ps → IsIndexed (members_shape ms) k
held_index ms k ps h = h.indexed

flag_of : (ms : Members) (ps : List (ℕ × Part)) (i : ℕ) (h : Head) (t : Shape) → at_index ms i ≡ Some (h, t) → slice_get (have_come ms ps) i ≡ Some (is_some (built_at ps h.id))
flag_of no_members ps i h t is = absurd cc
flag_of (member k s ms) ps zero h t is = (let p : (k, s) ≡ (h, t) = cc in ap (λ (y : Head × Shape). Some (is_some (built_at ps y.0.id))) p)
flag_of (member k s ms) ps (suc i) h t is = flag_of ms ps i h t is

flag_some : (flags : List Bool) (i : ℕ) (b : Bool) → slice_get flags i ≡ Some b → flag_at flags (Some i) ≡ b
flag_some flags i b e = ap (λ (o : Option Bool). elim o as (λ x. Bool) [ None ↦ false | Some c ↦ c ]) e

-- the flag of a member that was found tells whether it came
pub came_is : (ms : Members) (k : Known) (ps : Pieces) (id i : ℕ) → Holds ms k ps → index_of ms id ≡ Some i → has_come ms k id ≡ is_some (built_at ps.0 id)
came_is ms k ps id i h is =
    let f = found ms i id is in
    let flags : (by_member k.slots).1 ≡ have_come ms ps.0 = ap (λ (y : Option (List (Option Body)) × List Bool × Bool). y.1) h.slots in
    ap₂ flag_at flags is ∙ flag_some (have_come ms ps.0) i (is_some (built_at ps.0 f.0.id)) (flag_of ms ps.0 i f.0 f.1 f.2) ∙ ap (λ (n : ℕ). is_some (built_at ps.0 n)) f.3

same_piece : (m : Mode) (ms : Members) (k : Known) (ps : Pieces) (h : Told) (o : Order) (s : Spot) (x : Option ℕ) → Holds ms k ps → index_of ms h.id ≡ x → piece_read (named_in m o ms h.id) (is_some (built_at ps.0 h.id)) h s ≡ piece_read (named_in m o ms h.id) (has_come ms k h.id) h s
same_piece m ms k ps h o s None held is = rw (not_found ms h.id m o is) refl
same_piece m ms k ps h o s (Some i) held is = ap (λ b. piece_read (named_in m o ms h.id) b h s) (sym (came_is ms k ps h.id i held is))

same_heading : (m : Mode) (ms : Members) (k : Known) (ps : Pieces) (x : Next) (o : Order) (s : Spot) → Holds ms k ps → heading_read m ms (λ id. is_some (built_at ps.0 id)) x o s ≡ heading_read m ms (has_come ms k) x o s
same_heading m ms k ps ended o s held = refl
same_heading m ms k ps (ignored n) o s held = refl
same_heading m ms k ps (told h) o s held = ap (λ (r : Reading Pieces). r >>= λ y. Ok (Some y.0, y.1)) (same_piece m ms k ps h o s (index_of ms h.id) held refl)

-- what comes next, as the program tells whether its member came
same_next : (m : Mode) (ms : Members) (k : Known) (ps : Pieces) (o : Order) (s : Spot) → Holds ms k ps → next_piece m ms (λ id. is_some (built_at ps.0 id)) o s ≡ next_piece m ms (has_come ms k) o s
same_next m ms k ps o s held = each_bind (next_in m o s) (λ x. heading_read m ms (λ id. is_some (built_at ps.0 id)) x.0 o x.1) (λ x. heading_read m ms (has_come ms k) x.0 o x.1) (λ x. same_heading m ms k ps x.0 o x.1 held)

-- ---- one after another

abbrev pub pieces_from : Mode → Members → ℕ → ℕ → Pieces → Order → Spot → Reading Part
pieces_from m ms n i ps = pieces_then m ms (n - i) ps

abbrev pub piece_then : Mode → Members → ℕ → ℕ → Pieces → Pieces → Order → Spot → Reading Part
piece_then m ms n i ps x = pieces_from m ms n (i + 1) (ps.0 ++ x.0, ps.1 || x.1)

abbrev pub piece_after : Mode → Members → ℕ → ℕ → Pieces → Option Pieces → Order → Spot → Reading Part
piece_after m ms n i ps x o s = if_piece x (Ok (whole_structure ms ps.0 ps.1, s)) (λ q. piece_then m ms n i ps q o s)

pub pieces_begin : (m : Mode) (ms : Members) (n : ℕ) (a : Standing) → Stands a → n ≡ room a → Ahead (mutable_read m ms) (pieces_from m ms n 0 ([], false)) a a
pieces_begin m ms n a st e = rephrased (mutable_read m ms) (pieces_from m ms n 0 ([], false)) (begins (mutable_read m ms) (mutable_read m ms) a (λ s. refl))
    (λ xs is. ap (λ (k : ℕ). pieces_then m ms k ([], false) a.order (spot a xs)) (room_is xs st is ∙ omega (arith, e)))

abbrev with_next : Mode → Members → ℕ → ℕ → Pieces → Order → Reading (Option Pieces) → Reading Part
with_next m ms n i ps o r = r >>= λ x. piece_after m ms n i ps x.0 o x.1

pub piece_next : (m : Mode) (ms : Members) (n i : ℕ) (k : Known) (ps : Pieces) {f : Order → Spot → Reading Part} {a b : Standing} → i < n → Holds ms k ps → Ahead f (pieces_from m ms n i ps) a b
    → Ahead f (λ o s. next_piece m ms (has_come ms k) o s >>= λ x. piece_after m ms n i ps x.0 o x.1) a b
unfolding pieces_then
piece_next m ms n i k ps {b = b} lt held u =
    let next : n - i ≡ suc (n - (i + 1)) = omega arith in
    rephrased (pieces_from m ms n i ps) (λ o s. next_piece m ms (has_come ms k) o s >>= λ x. piece_after m ms n i ps x.0 o x.1) u
    (λ xs is. ap (λ (j : ℕ). pieces_then m ms j ps b.order (spot b xs)) next ∙ ap (with_next m ms n i ps b.order) (same_next m ms k ps b.order (spot b xs) held))

pub piece_none : (m : Mode) (ms : Members) (n i : ℕ) (ps : Pieces) {f : Order → Spot → Reading Part} {a b : Standing} → n ≤ i → Ahead f (pieces_from m ms n i ps) a b → Ahead f (λ o s. no_more m (whole_structure ms ps.0 ps.1) s) a b
unfolding pieces_then
piece_none m ms n i ps {b = b} le u =
    let none : n - i ≡ 0 = omega arith in
    rephrased (pieces_from m ms n i ps) (λ o s. no_more m (whole_structure ms ps.0 ps.1) s) u (λ xs is. ap (λ (k : ℕ). pieces_then m ms k ps b.order (spot b xs)) none)

-- ---- what is kept

none_of : (o : Option Built) → is_some o ≡ false → o ≡ None
none_of None e = refl
none_of (Some x) e = absurd cc

some_same : (x y : Head × Shape) → Some x ≡ Some y → x ≡ y
some_same x y e = cc

-- what came of a member is settled into its slot
pub kept_slots : (ms : Members) (k : Known) (ps : Pieces) (at id : ℕ) (x : Part) (d : Head) (t : Shape) → distinct_members ms ≡ true → Holds ms k ps → index_of ms id ≡ Some at → has_come ms k id ≡ false → at_index ms at ≡ Some (d, t)
    → and_slot_at (by_member k.slots) at (slot_from d t (Some x.0), x.1) ≡ so_far ms (ps.0 ++ (id, x) ∷ [])
kept_slots ms k ps at id x d t apart h is new there =
    let f = found ms at id is in
    let same : (f.0, f.1) ≡ (d, t) = some_same (f.0, f.1) (d, t) (sym f.2 ∙ there) in
    let dh : d.id ≡ id = ap (λ (y : Head × Shape). y.0.id) (sym same) ∙ f.3 in
    let none : built_at ps.0 d.id ≡ None = none_of (built_at ps.0 d.id) (ap (λ (n : ℕ). is_some (built_at ps.0 n)) dh ∙ sym (came_is ms k ps id at h is) ∙ new) in
    let r = comes ms ps.0 at d t x apart there none in
    ap (λ y. and_slot_at y at (slot_from d t (Some x.0), x.1)) h.slots ∙ sym r ∙ ap (λ (n : ℕ). so_far ms (ps.0 ++ (n, x) ∷ [])) dh

pub kept_whole : (ms : Members) (k : Known) (ps : Pieces) → Holds ms k ps → ((filled_of ms (by_member k.slots)).0, (filled_of ms (by_member k.slots)).1 || k.unseen) ≡ whole_structure ms ps.0 ps.1
kept_whole ms k ps h =
    ap₂ (λ (y : Part) (u : Bool). (y.0, y.1 || u)) (ap (filled_of ms) h.slots ∙ filled_whole ms ps.0) h.unseen
    ∙ ap (λ (b : Bool). ((whole_structure ms ps.0 ps.1).0, b || ps.1)) (or_false (any_unseen ps.0))

pub none_held : (ms : List declared.Member) (k : Known) → by_member k.slots ≡ (Some (replicate (length ms) None), replicate (length ms) false, false) → k.unseen ≡ false → IsIndexed (members_shape ms) k → Holds (members_shape ms) k ([], false)
none_held ms k e u i = record { slots = e ∙ ap (λ (n : ℕ). (Some (replicate n None), replicate n false, false)) (sym (count_is ms)) ∙ sym (none_came (members_shape ms)); unseen = u; indexed = i }

-- ---- a piece

abbrev pub piece_at : Mode → Members → Known → Header → Standing → Order → Spot → Reading Pieces
piece_at m ms k h a o s = piece_read (named_in m o ms h.id) (has_come ms k h.id) (header_view a h) s

came_index : (ms : Members) (k : Known) (id : ℕ) (x : Option ℕ) → index_of ms id ≡ x → flag_at (by_member k.slots).1 x ≡ true → (i : ℕ) × (index_of ms id ≡ Some i)
came_index ms k id None is e = absurd cc
came_index ms k id (Some i) is e = (i, is)

pub piece_twice : (m : Mode) (ms : Members) (k : Known) (h : Header) (a : Standing) → has_come ms k h.id ≡ true → Ahead (piece_at m ms k h a) (λ o s. fault_at (h.at - a.origin) Twice) a a
piece_twice m ms k h a e =
    let at = came_index ms k h.id (index_of ms h.id) refl e in
    let f = found ms at.0 h.id at.1 in
    begins (piece_at m ms k h a) (λ o s. fault_at (h.at - a.origin) Twice) a (λ s. rw (f.4 m a.order, e) refl)

abbrev pub passed_piece : Bool → Unit {0} → Order → Spot → Reading Pieces
passed_piece must u o s = Ok (([], must), s)

pub piece_passed : (m : Mode) (ms : Members) (k : Known) (h : Header) (a : Standing) → Stands a → h.length ≤ room a → index_of ms h.id ≡ None → Ahead (piece_at m ms k h a) (λ o s. pass_at h.length o s >>= λ u. passed_piece h.must u.0 o u.1) a a
unfolding ◌>>=◌
piece_passed m ms k h a st fits is = rephrased (piece_at m ms k h a) (λ o s. pass_at h.length o s >>= λ u. passed_piece h.must u.0 o u.1) (begins (piece_at m ms k h a) (piece_at m ms k h a) a (λ s. refl))
    (λ xs e. let long : nat_lt (length (take (room a) xs)) h.length ≡ false = le-ltb _ _ (omega (arith, room_is xs st e, fits)) in rw (not_found ms h.id m a.order is, long) refl)

abbrev pub kept_piece : ℕ → Part → Order → Spot → Reading Pieces
kept_piece id y o s = Ok (((id, y) ∷ [], false), s)

pub piece_kept : (m : Mode) (ms : List declared.Member) (k : Known) (h : Header) (a : Standing) (at : ℕ) (d : declared.Member) → index_of (members_shape ms) h.id ≡ Some at → has_come (members_shape ms) k h.id ≡ false → at < length ms
    → Ahead (piece_at m (members_shape ms) k h a) (λ o s. content_in m h.length (type_shape (get_or ms at d).ty) o s >>= λ y. kept_piece h.id y.0 o y.1) a a
piece_kept m ms k h a at d is new within =
    let f = found (members_shape ms) at h.id is in
    let pair : (f.0, f.1) ≡ (member_head (get_or ms at d), type_shape (get_or ms at d).ty) = some_same (f.0, f.1) (member_head (get_or ms at d), type_shape (get_or ms at d).ty) (sym f.2 ∙ indexed ms at d within) in
    let shape : f.1 ≡ type_shape (get_or ms at d).ty = ap (λ (y : Head × Shape). y.1) pair in
    begins (piece_at m (members_shape ms) k h a) _ a (λ s. rw (f.4 m a.order, new, shape) refl)

-- ---- what comes next

abbrev pub heading_then : Mode → Members → (ℕ → Bool) → Next → Order → Spot → Reading (Option Pieces)
heading_then m ms came x o s = heading_read m ms came x o s

pub next_begin : (m : Mode) (ms : Members) (came : ℕ → Bool) (a : Standing) → Ahead (next_piece m ms came) (λ o s. next_in m o s >>= λ x. heading_then m ms came x.0 o x.1) a a
next_begin m ms came a = begins (next_piece m ms came) _ a (λ s. refl)

abbrev pub nothing_known : Unit {0} → Order → Spot → Reading (Option Pieces)
nothing_known u o s = Ok (Some ([], false), s)

pub next_passed : (m : Mode) (ms : Members) (came : ℕ → Bool) (n : ℕ) {f : Order → Spot → Reading (Option Pieces)} {a b : Standing} → Stands b → n ≤ room b → Ahead f (heading_then m ms came (ignored n)) a b → Ahead f (λ o s. pass_at n o s >>= λ u. nothing_known u.0 o u.1) a b
unfolding ◌>>=◌
next_passed m ms came n {b = b} st fits u = rephrased (heading_then m ms came (ignored n)) (λ o s. pass_at n o s >>= λ u. nothing_known u.0 o u.1) u
    (λ xs e. let long : nat_lt (length (take (room b) xs)) n ≡ false = le-ltb _ _ (omega (arith, room_is xs st e, fits)) in rw long refl)

abbrev pub some_piece : Pieces → Order → Spot → Reading (Option Pieces)
some_piece q o s = Ok (Some q, s)

told_same : (a b : Standing) (h : Header) → b.origin ≡ a.origin → header_view a h ≡ header_view b h
told_same a b h e = ap (λ (k : ℕ). record { at = h.at - k; id = h.id; must = h.must; size = h.length }) (sym e)

-- the piece of a header, whose place is counted from the same origin
pub next_told : (m : Mode) (ms : Members) (k : Known) (h : Header) {f : Order → Spot → Reading (Option Pieces)} {a : Standing} (b : Standing) {c : Standing} → c.origin ≡ b.origin → Ahead f (heading_then m ms (has_come ms k) (told (header_view b h))) a c → Ahead f (λ o s. piece_at m ms k h c o s >>= λ y. some_piece y.0 o y.1) a c
next_told m ms k h {f} {a} b {c} same u = subst (λ (y : Told). Ahead f (heading_then m ms (has_come ms k) (told y)) a c) (told_same b c h same) u
