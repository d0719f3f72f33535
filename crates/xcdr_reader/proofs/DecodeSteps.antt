-- Loops over parts, and parts one after another.
use Rattle.std.proofs.Common.{◌≡◌, refl, sym, ap, ◌∙◌, subst, ℕ, suc, ◌+◌, ◌-◌, ◌<◌, ◌≤◌, Bool, true, false, List, [], ◌∷◌, length, drop, Option, Some, None, Ok, arith, get_or}
use Rattle.xt_shapes.specs.declared.leaves.Order.{Order}
use Rattle.xt_shapes.specs.declared.leaves.Try.{Try}
use Rattle.xt_shapes.specs.Defaults.{default_of}
use Rattle.xt_shapes.specs.Shape.{Head, Shape}
use Rattle.xt_shapes.specs.Vals.{Val, Slot as Body}
use Rattle.type_trees.specs.declared.types.Member as declared
use Rattle.type_trees.specs.Bridge.{type_shape, members_shape, member_head}
use Rattle.xcdr_model.specs.Premises.{distinct_members}
use Rattle.xcdr_model.specs.Projection.{Part, whole_items, whole_entries}
use Rattle.xcdr_model.specs.Reading.{Spot, Reading, ◌>>=◌, number_at, each_at}
use Rattle.xcdr_model.specs.Xcdr2Reading.{done}
use Rattle.try_construct.specs.Gathering.{Gathered, none_yet}
use Rattle.try_construct.specs.Items.{items_then, and_item}
use Rattle.try_construct.specs.Entries.{entries_then, and_entry}
use Rattle.try_construct.specs.Members.{and_slot, structure_of}
use Rattle.xt_wire.specs.cursor.Standing.{Standing}
use Rattle.xt_wire.specs.cursor.Decoding.{spot}
use Rattle.xt_wire.proofs.OfCursor.Ahead.{Ahead, begins, rephrased}
use Rattle.xcdr_steps.specs.reading.Counts.{counted}
use Rattle.xcdr_steps.proofs.OfReading.ByIndex.{next_shape, none_left}
use Rattle.xcdr_reader.specs.declared.modes.Mode.{Mode}
use Rattle.xcdr_reader.specs.declared.comings.Coming.{Coming}
use Rattle.xcdr_reader.specs.declared.comings.Coming.TheVariants.{Absent, Here, Content}
use Rattle.xcdr_reader.specs.Modes.{read_in, content_in, inner}
use Rattle.xcdr_reader.specs.Comings.{coming_read}
use Rattle.xcdr_reader.specs.Parts.{items_read, entry_at, entries_read, some_read, coming_part, member_part, slot_read, slot_more}
use Rattle.xcdr_reader.specs.Insides.{members_read}
use Rattle.xcdr_reader.proofs.Gathering.{bind_bind, bind_ok, each_bind, rest_parts, next_part, no_part, items_start, entries_start}
use Rattle.xcdr_reader.proofs.InOrder.{rest_members, slot_part, next_member, no_member, members_start}

-- ---- the parts of a collection

abbrev pub parts_from : {G P : Type 0} → (G → List P → Part) → (Order → Spot → Reading P) → ℕ → ℕ → G → Order → Spot → Reading Part
parts_from fin F n i g o s = rest_parts fin g (n - i) (F o) s

pub part_next : {G P : Type 0} (fin : G → List P → Part) (add : G → P → G) (F : Order → Spot → Reading P) (n i : ℕ) (g : G) {f : Order → Spot → Reading Part} {a b : Standing} → ((h : G) (x : P) (xs : List P) → fin h (x ∷ xs) ≡ fin (add h x) xs) → i < n → Ahead f (parts_from fin F n i g) a b
    → Ahead f (λ o s. F o s >>= λ x. parts_from fin F n (i + 1) (add g x.0) o x.1) a b
part_next fin add F n i g {b = b} law lt u =
    let next : n - i ≡ suc (n - (i + 1)) = omega arith in
    rephrased (parts_from fin F n i g) (λ o s. F o s >>= λ x. parts_from fin F n (i + 1) (add g x.0) o x.1) u
    (λ xs is. ap (λ (k : ℕ). rest_parts fin g k (F b.order) (spot b xs)) next ∙ next_part fin add g (n - (i + 1)) (F b.order) (spot b xs) law)

pub part_none : {G P : Type 0} (fin : G → List P → Part) (F : Order → Spot → Reading P) (n i : ℕ) (g : G) {f : Order → Spot → Reading Part} {a b : Standing} → n ≤ i → Ahead f (parts_from fin F n i g) a b → Ahead f (λ o s. Ok (fin g [], s)) a b
part_none fin F n i g {b = b} le u =
    let none : n - i ≡ 0 = omega arith in
    rephrased (parts_from fin F n i g) (λ o s. Ok (fin g [], s)) u (λ xs is. ap (λ (k : ℕ). rest_parts fin g k (F b.order) (spot b xs)) none ∙ no_part fin g (F b.order) (spot b xs))

abbrev pub value_at : Mode → Shape → Order → Spot → Reading Part
value_at m t o s = read_in m o t s

abbrev pub items_behind : Mode → ℕ → Try → Shape → ℕ → Order → Spot → Reading Part
items_behind m bound tc t n o s = done (whole_items bound tc (default_of t)) (each_at n (λ s1. read_in m o t s1) s)

pub items_begin : (m : Mode) (bound : ℕ) (tc : Try) (t : Shape) (given : Option ℕ) (a : Standing) → Ahead (items_read m bound tc t given) (λ o s. counted given o s >>= λ n. items_behind m bound tc t n.0 o n.1) a a
items_begin m bound tc t given a = begins (items_read m bound tc t given) _ a (λ s. refl)

pub items_counted : (m : Mode) (bound : ℕ) (tc : Try) (t : Shape) (n : ℕ) (g : Gathered Val) {f : Order → Spot → Reading Part} {a b : Standing} → g ≡ none_yet → Ahead f (items_behind m bound tc t n) a b → Ahead f (parts_from (items_then bound tc (default_of t)) (value_at m t) n 0 g) a b
items_counted m bound tc t n g {b = b} e u =
    let all : n - 0 ≡ n = omega arith in
    rephrased (items_behind m bound tc t n) (parts_from (items_then bound tc (default_of t)) (value_at m t) n 0 g) u (λ xs is. rw (e, all) (items_start bound tc (default_of t) n (λ s1. read_in m b.order t s1) (spot b xs)))

pub items_law : (bound : ℕ) (tc : Try) (d : Val) (h : Gathered Val) (x : Part) (xs : List Part) → items_then bound tc d h (x ∷ xs) ≡ items_then bound tc d (and_item bound tc d h x) xs
items_law bound tc d h x xs = refl

abbrev pub item_then : Mode → ℕ → Try → Shape → ℕ → ℕ → Gathered Val → Part → Order → Spot → Reading Part
item_then m bound tc t n i g x = parts_from (items_then bound tc (default_of t)) (value_at m t) n (i + 1) (and_item bound tc (default_of t) g x)

-- ---- the entries of a map

abbrev pub entries_behind : Mode → ℕ → Try → Shape → Try → Shape → ℕ → Order → Spot → Reading Part
entries_behind m bound kc k vc t n o s = done (whole_entries bound kc (default_of k) vc (default_of t)) (each_at n (λ s1. entry_at m k t o s1) s)

pub entries_begin : (m : Mode) (bound : ℕ) (kc : Try) (k : Shape) (vc : Try) (t : Shape) (a : Standing) → Ahead (entries_read m bound kc k vc t) (λ o s. number_at 4 o 4 s >>= λ n. entries_behind m bound kc k vc t n.0 o n.1) a a
entries_begin m bound kc k vc t a = begins (entries_read m bound kc k vc t) _ a (λ s. refl)

abbrev pub entries_from : Mode → ℕ → Try → Shape → Try → Shape → ℕ → ℕ → Gathered (Val × Val) → Order → Spot → Reading Part
entries_from m bound kc k vc t n i g = parts_from (entries_then bound kc (default_of k) vc (default_of t)) (entry_at m k t) n i g

pub entries_counted : (m : Mode) (bound : ℕ) (kc : Try) (k : Shape) (vc : Try) (t : Shape) (n : ℕ) (g : Gathered (Val × Val)) {f : Order → Spot → Reading Part} {a b : Standing} → g ≡ none_yet → Ahead f (entries_behind m bound kc k vc t n) a b → Ahead f (entries_from m bound kc k vc t n 0 g) a b
entries_counted m bound kc k vc t n g {b = b} e u =
    let all : n - 0 ≡ n = omega arith in
    rephrased (entries_behind m bound kc k vc t n) (entries_from m bound kc k vc t n 0 g) u (λ xs is. rw (e, all) (entries_start bound kc (default_of k) vc (default_of t) n (λ s1. entry_at m k t b.order s1) (spot b xs)))

pub entries_law : (bound : ℕ) (kc : Try) (kd : Val) (vc : Try) (vd : Val) (h : Gathered (Val × Val)) (x : Part × Part) (xs : List (Part × Part)) → entries_then bound kc kd vc vd h (x ∷ xs) ≡ entries_then bound kc kd vc vd (and_entry bound kc kd vc vd h x) xs
entries_law bound kc kd vc vd h x xs = refl

abbrev pub entry_then : Mode → ℕ → Try → Shape → Try → Shape → ℕ → ℕ → Gathered (Val × Val) → Part → Part → Order → Spot → Reading Part
entry_then m bound kc k vc t n i g x y = entries_from m bound kc k vc t n (i + 1) (and_entry bound kc (default_of k) vc (default_of t) g (x, y))

-- behind the key comes the value
abbrev pub value_then : Mode → ℕ → Try → Shape → Try → Shape → ℕ → ℕ → Gathered (Val × Val) → Part → Order → Spot → Reading Part
value_then m bound kc k vc t n i g x o s = read_in m o t s >>= λ y. entry_then m bound kc k vc t n i g x y.0 o y.1

abbrev put_together : {A B C : Type 0} → (A → B → C) → A → B × Spot → Reading C
put_together h x y = Ok (h x y.0, y.1)

abbrev at_spot : {C D : Type 0} → (C → Spot → Reading D) → C × Spot → Reading D
at_spot G z = G z.0 z.1

bind_value : {A B C D : Type 0} (r : Reading A) (f : A → Spot → Reading B) (h : A → B → C) (G : C → Spot → Reading D) → ((r >>= λ x. f x.0 x.1 >>= put_together h x.0) >>= at_spot G) ≡ (r >>= λ x. f x.0 x.1 >>= λ y. G (h x.0 y.0) y.1)
bind_value r f h G =
    bind_bind r (λ x. f x.0 x.1 >>= put_together h x.0) (at_spot G)
    ∙ each_bind r (λ x. (f x.0 x.1 >>= put_together h x.0) >>= at_spot G) (λ x. f x.0 x.1 >>= λ y. G (h x.0 y.0) y.1)
    (λ x. bind_bind (f x.0 x.1) (put_together h x.0) (at_spot G) ∙ each_bind (f x.0 x.1) (λ y. put_together h x.0 y >>= at_spot G) (λ y. G (h x.0 y.0) y.1) (λ y. bind_ok (h x.0 y.0, y.1) (at_spot G)))

pub entry_next : (m : Mode) (bound : ℕ) (kc : Try) (k : Shape) (vc : Try) (t : Shape) (n i : ℕ) (g : Gathered (Val × Val)) {f : Order → Spot → Reading Part} {a b : Standing} → i < n → Ahead f (entries_from m bound kc k vc t n i g) a b
    → Ahead f (λ o s. read_in m o k s >>= λ x. value_then m bound kc k vc t n i g x.0 o x.1) a b
entry_next m bound kc k vc t n i g {b = b} lt u =
    let fin = entries_then bound kc (default_of k) vc (default_of t) in
    let add = and_entry bound kc (default_of k) vc (default_of t) in
    rephrased (λ o s. entry_at m k t o s >>= λ x. parts_from fin (entry_at m k t) n (i + 1) (add g x.0) o x.1) (λ o s. read_in m o k s >>= λ x. value_then m bound kc k vc t n i g x.0 o x.1)
    (part_next fin add (entry_at m k t) n i g (entries_law bound kc (default_of k) vc (default_of t)) lt u)
    (λ xs is. bind_value (read_in m b.order k (spot b xs)) (λ x s. read_in m b.order t s) (λ x y. (x, y)) (λ z s. parts_from fin (entry_at m k t) n (i + 1) (add g z) b.order s))

-- ---- members in declared order

abbrev pub members_from : Mode → Bool → List declared.Member → ℕ → Option (List Body) × Bool → Order → Spot → Reading Part
members_from m cut ms i g = rest_members m cut (members_shape (drop i ms)) g

abbrev made_of : {P A : Type 0} → (P → A) → P × Spot → Reading A
made_of h x = Ok (h x.0, x.1)

bind_slot : {P A B : Type 0} (r : Reading P) (h : P → A) (G : A → Spot → Reading B) → (r >>= λ x. G (h x.0) x.1) ≡ ((r >>= made_of h) >>= at_spot G)
bind_slot r h G = sym (bind_bind r (made_of h) (at_spot G) ∙ each_bind r (λ x. made_of h x >>= at_spot G) (λ x. G (h x.0) x.1) (λ x. bind_ok (h x.0, x.1) (at_spot G)))

pub member_next : (m : Mode) (cut : Bool) (ms : List declared.Member) (i : ℕ) (d : declared.Member) (g : Option (List Body) × Bool) {f : Order → Spot → Reading Part} {a b : Standing} → i < length ms → d ≡ get_or ms i d → Ahead f (members_from m cut ms i g) a b
    → Ahead f (λ o s. slot_read m cut (member_head d) (type_shape d.ty) o s >>= λ x. members_from m cut ms (i + 1) (and_slot g x.0) o x.1) a b
member_next m cut ms i d g {f} {a} {b} within is u =
    let goal : declared.Member → Type 0 = λ n. Ahead f (λ o s. slot_read m cut (member_head n) (type_shape n.ty) o s >>= λ x. members_from m cut ms (i + 1) (and_slot g x.0) o x.1) a b in
    let n = get_or ms i d in
    let h = member_head n in
    let t = type_shape n.ty in
    subst goal (sym is) (rephrased (members_from m cut ms i g) (λ o s. slot_read m cut h t o s >>= λ x. members_from m cut ms (i + 1) (and_slot g x.0) o x.1) u
    (λ xs e. ap (λ ns. rest_members m cut ns g b.order (spot b xs)) (next_shape ms i d within) ∙ next_member m b.order cut h t (members_shape (drop (i + 1) ms)) g (spot b xs)
    ∙ bind_slot (member_part m cut h t b.order (spot b xs)) (slot_part h t) (λ x s. members_from m cut ms (i + 1) (and_slot g x) b.order s)))

-- the same, with the slot taken
pub more_next : (m : Mode) (cut : Bool) (ms : List declared.Member) (i : ℕ) (d : declared.Member) (g : Option (List Body) × Bool) {f : Order → Spot → Reading Part} {a b : Standing} → i < length ms → d ≡ get_or ms i d → Ahead f (members_from m cut ms i g) a b
    → Ahead f (λ o s. slot_more m cut (member_head d) (type_shape d.ty) g o s >>= λ x. members_from m cut ms (i + 1) x.0 o x.1) a b
more_next m cut ms i d g {b = b} within is u =
    let h = member_head d in
    let t = type_shape d.ty in
    rephrased (λ o s. slot_read m cut h t o s >>= λ x. members_from m cut ms (i + 1) (and_slot g x.0) o x.1) (λ o s. slot_more m cut h t g o s >>= λ x. members_from m cut ms (i + 1) x.0 o x.1) (member_next m cut ms i d g within is u)
    (λ xs e. bind_slot (slot_read m cut h t b.order (spot b xs)) (and_slot g) (λ x s. members_from m cut ms (i + 1) x b.order s))

pub members_none : (m : Mode) (cut : Bool) (ms : List declared.Member) (i : ℕ) (g : Option (List Body) × Bool) {f : Order → Spot → Reading Part} {a b : Standing} → length ms ≤ i → Ahead f (members_from m cut ms i g) a b → Ahead f (λ o s. Ok (structure_of g, s)) a b
members_none m cut ms i g {b = b} le u = rephrased (members_from m cut ms i g) (λ o s. Ok (structure_of g, s)) u (λ xs e. ap (λ ns. rest_members m cut ns g b.order (spot b xs)) (none_left ms i le) ∙ no_member m b.order cut g (spot b xs))

pub members_begin : (m : Mode) (cut : Bool) (ms : List declared.Member) (g : Option (List Body) × Bool) (a : Standing) → g ≡ (Some [], false) → distinct_members (members_shape ms) ≡ true → Ahead (members_read m cut (members_shape ms)) (members_from m cut ms 0 g) a a
members_begin m cut ms g a e apart = begins (members_read m cut (members_shape ms)) _ a (λ s. rw e (members_start m a.order cut (members_shape ms) s apart))

-- ---- a member

abbrev pub slot_behind : Mode → Head → Shape → Coming → Order → Spot → Reading (Option Body × Bool)
slot_behind m h t c o s = coming_part m t c o s >>= λ x. Ok (slot_part h t x.0, x.1)

abbrev taken : Option (List Body) × Bool → (Option Body × Bool) × Spot → Reading (Option (List Body) × Bool)
taken g x = Ok (and_slot g x.0, x.1)

abbrev pub more_behind : Mode → Head → Shape → Option (List Body) × Bool → Coming → Order → Spot → Reading (Option (List Body) × Bool)
more_behind m h t g c o s = slot_behind m h t c o s >>= taken g

pub more_begin : (m : Mode) (cut : Bool) (h : Head) (t : Shape) (g : Option (List Body) × Bool) (a : Standing) → Ahead (slot_more m cut h t g) (λ o s. coming_read m cut h.optional h.id o s >>= λ c. more_behind m h t g c.0 o c.1) a a
more_begin m cut h t g a = begins (slot_more m cut h t g) _ a (λ s.
    let r = coming_read m cut h.optional h.id a.order s in
    ap (λ (r : Reading (Option Body × Bool)). r >>= taken g) (bind_bind r (λ c. coming_part m t c.0 a.order c.1) (λ x. Ok (slot_part h t x.0, x.1)))
    ∙ bind_bind r (λ c. slot_behind m h t c.0 a.order c.1) (taken g))

pub more_absent : (m : Mode) (h : Head) (t : Shape) (g : Option (List Body) × Bool) {f : Order → Spot → Reading (Option (List Body) × Bool)} {a b : Standing} → Ahead f (more_behind m h t g Absent) a b → Ahead f (λ o s. Ok (and_slot g (slot_part h t None), s)) a b
more_absent m h t g {b = b} u = rephrased (more_behind m h t g Absent) (λ o s. Ok (and_slot g (slot_part h t None), s)) u
    (λ xs e. ap (λ (r : Reading (Option Body × Bool)). r >>= taken g) (bind_ok (None, spot b xs) (λ x. Ok (slot_part h t x.0, x.1))) ∙ bind_ok (slot_part h t None, spot b xs) (taken g))

abbrev slot_made : Head → Shape → Part × Spot → Reading (Option Body × Bool)
slot_made h t x = Ok (slot_part h t (Some x.0), x.1)

abbrev pub more_made : Head → Shape → Option (List Body) × Bool → Part → Order → Spot → Reading (Option (List Body) × Bool)
more_made h t g x o s = Ok (and_slot g (slot_part h t (Some x)), s)

slot_there : (h : Head) (t : Shape) (r : Reading Part) → (some_read r >>= λ x. Ok (slot_part h t x.0, x.1)) ≡ (r >>= slot_made h t)
slot_there h t r = bind_bind r (λ x. Ok (Some x.0, x.1)) (λ x. Ok (slot_part h t x.0, x.1)) ∙ each_bind r (λ x. Ok (Some x.0, x.1) >>= λ x. Ok (slot_part h t x.0, x.1)) (slot_made h t) (λ x. bind_ok (Some x.0, x.1) (λ y. Ok (slot_part h t y.0, y.1)))

-- the slots with that of a value that was read
taken_there : (h : Head) (t : Shape) (g : Option (List Body) × Bool) (o : Order) (r : Reading Part) → ((some_read r >>= λ x. Ok (slot_part h t x.0, x.1)) >>= taken g) ≡ (r >>= λ x. more_made h t g x.0 o x.1)
taken_there h t g o r =
    ap (λ (r : Reading (Option Body × Bool)). r >>= taken g) (slot_there h t r)
    ∙ bind_bind r (slot_made h t) (taken g)
    ∙ each_bind r (λ x. slot_made h t x >>= taken g) (λ x. more_made h t g x.0 o x.1) (λ x. bind_ok (slot_part h t (Some x.0), x.1) (taken g))

pub more_here : (m : Mode) (h : Head) (t : Shape) (g : Option (List Body) × Bool) {f : Order → Spot → Reading (Option (List Body) × Bool)} {a b : Standing} → Ahead f (more_behind m h t g Here) a b → Ahead f (λ o s. read_in (inner m) o t s >>= λ x. more_made h t g x.0 o x.1) a b
more_here m h t g {b = b} u = rephrased (more_behind m h t g Here) (λ o s. read_in (inner m) o t s >>= λ x. more_made h t g x.0 o x.1) u (λ xs e. taken_there h t g b.order (read_in (inner m) b.order t (spot b xs)))

pub more_content : (m : Mode) (h : Head) (t : Shape) (n : ℕ) (g : Option (List Body) × Bool) {f : Order → Spot → Reading (Option (List Body) × Bool)} {a b : Standing} → Ahead f (more_behind m h t g (Content n)) a b → Ahead f (λ o s. content_in m n t o s >>= λ x. more_made h t g x.0 o x.1) a b
more_content m h t n g {b = b} u = rephrased (more_behind m h t g (Content n)) (λ o s. content_in m n t o s >>= λ x. more_made h t g x.0 o x.1) u (λ xs e. taken_there h t g b.order (content_in m n t b.order (spot b xs)))
