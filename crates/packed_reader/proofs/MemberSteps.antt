-- The members of a structure in declared order, one after another, where each is there, or optional and absent.
use Rattle.std.proofs.Common.{◌≡◌, refl, sym, ap, subst, ◌∙◌, ℕ, ◌+◌, ◌<◌, ◌≤◌, Bool, true, false, ◌&&◌, ◌==◌, List, [], ◌∷◌, ◌++◌, length, drop, get_or, drop_of_length-le, Ok, Err, append_assoc, append-nil, zero-add}
use Rattle.std.proofs.lemmas.Bool.{and_parts}
use Rattle.std.proofs.lemmas.List.{at_drop_more}
use Rattle.xt_shapes.specs.declared.leaves.Order.{Order}
use Rattle.xt_shapes.specs.declared.leaves.Rep.{Rep}
use Rattle.xt_shapes.specs.declared.leaves.Rep.TheVariants.{Xcdr1, Xcdr2}
use Rattle.xt_shapes.specs.Shape.{Head, Shape, Members, no_members, member}
use Rattle.xt_shapes.specs.Vals.{Val, Slot as Body, absent, present, struct_of, slots_of}
use Rattle.type_trees.specs.declared.types.Member as declared
use Rattle.type_trees.specs.Bridge.{type_shape, members_shape, member_head}
use Rattle.type_trees.proofs.Views.{member_tree_is}
use Rattle.try_construct.specs.declared.guides.Guide.{Guide}
use Rattle.try_construct.specs.Guides.{IsGuide, AreGuides, part_at}
use Rattle.try_construct.proofs.GuideSteps.{guide_of_member}
use Rattle.xcdr_model.specs.Premises.{distinct_members, sound, sound_members}
use Rattle.xcdr_model.specs.Projection.{Part, whole_structure}
use Rattle.xcdr_model.specs.Reading.{Spot, Reading, ◌>>=◌}
use Rattle.xcdr_model.specs.Xcdr1Reading.{read_members1, optional1_at}
use Rattle.xcdr_model.specs.Xcdr2Reading.{read_members, optional_at, present_at, done}
use Rattle.packed_reader.specs.Reads.{members_in, plain, own_parts, Reads, ReadsSlot}
use Rattle.packed_reader.proofs.Taken.{Taken, taken_parts, no_parts, part_taken, one_taken, all_taken}

-- ---- the program's members

pub next_shape : (ms : List declared.Member) (i : ℕ) (m : declared.Member) → i < length ms → m ≡ get_or ms i m → members_shape (drop i ms) ≡ member (member_head m) (type_shape m.ty) (members_shape (drop (i + 1) ms))
next_shape ms i m within is = at_drop_more (λ xs. members_shape xs) ms i m within ∙ rw (← is, member_tree_is m) refl

pub none_left : (ms : List declared.Member) (i : ℕ) → length ms ≤ i → members_shape (drop i ms) ≡ no_members
none_left ms i le = ap (λ (xs : List declared.Member). members_shape xs) (drop_of_length-le ms le)

sound_parts : (ms : List declared.Member) (i : ℕ) (m : declared.Member) → sound_members (members_shape (drop i ms)) ≡ true → i < length ms → m ≡ get_or ms i m → (sound (type_shape m.ty) ≡ true) × (sound_members (members_shape (drop (i + 1) ms)) ≡ true)
sound_parts ms i m ok within is = and_parts _ _ (ap sound_members (sym (next_shape ms i m within is)) ∙ ok)

pub sound_here : (ms : List declared.Member) (i : ℕ) (m : declared.Member) → sound_members (members_shape (drop i ms)) ≡ true → i < length ms → m ≡ get_or ms i m → sound (type_shape m.ty) ≡ true
sound_here ms i m ok within is = (sound_parts ms i m ok within is).0

pub sound_more : (ms : List declared.Member) (i : ℕ) (m : declared.Member) → sound_members (members_shape (drop i ms)) ≡ true → i < length ms → m ≡ get_or ms i m → sound_members (members_shape (drop (i + 1) ms)) ≡ true
sound_more ms i m ok within is = (sound_parts ms i m ok within is).1

pub guide_here : (ms : List declared.Member) (g part : Guide) (i : ℕ) (m : declared.Member) → AreGuides (members_shape ms) g 0 → i < length ms → m ≡ get_or ms i m → part ≡ part_at g i → IsGuide (type_shape m.ty) part
guide_here ms g part i m are within is at_i =
    let P : declared.Member → Type 0 = λ x. IsGuide (type_shape x.ty) (part_at g i) in
    let Q : Guide → Type 0 = λ x. IsGuide (type_shape m.ty) x in
    let R : ℕ → Type 0 = λ n. IsGuide (type_shape (get_or ms i m).ty) (part_at g n) in
    subst Q (sym at_i) (subst P (sym is) (subst R (zero-add i) (guide_of_member ms g 0 i m within are)))

-- ---- a member

pub slot_here : (r : Rep) (o : Order) (h : Head) (t : Shape) (v : Val) (s s2 : Spot) → h.optional ≡ false → Reads r o t s v s2 → ReadsSlot r o h t s (present v) s2
unfolding optional_at optional1_at ◌>>=◌
slot_here Xcdr1 o h t v s s2 there e = record { allowed = tt; parts = rw (there, e) refl }
slot_here Xcdr2 o h t v s s2 there e = record { allowed = tt; parts = rw (there, e) refl }

pub slot_present : (o : Order) (h : Head) (t : Shape) (v : Val) (there : Bool) (s s2 s3 : Spot) → h.optional ≡ true → there ≡ true → present_at o s ≡ Ok (there, s2) → Reads Xcdr2 o t s2 v s3 → ReadsSlot Xcdr2 o h t s (present v) s3
unfolding optional_at ◌>>=◌
slot_present o h t v there s s2 s3 may is e f = record { allowed = tt; parts = rw (may, e, is, f) refl }

pub slot_absent : (o : Order) (h : Head) (t : Shape) (there : Bool) (s s2 : Spot) → h.optional ≡ true → there ≡ false → present_at o s ≡ Ok (there, s2) → ReadsSlot Xcdr2 o h t s absent s2
unfolding optional_at ◌>>=◌
slot_absent o h t there s s2 may is e = record { allowed = may; parts = rw (may, e, is) refl }

-- ---- the members from here on, behind what came of the first

abbrev joined : Members → List (ℕ × Part) → List (ℕ × Part) × Spot → Reading Part
joined all ps xs = Ok (whole_structure all (ps ++ xs.0) false, xs.1)

abbrev pub members_left : Rep → Order → Bool → Members → Members → List Body → Spot → Reading Part
members_left r o cut all rest ss s = members_in r o cut rest s >>= joined all (taken_parts all ss)

done_joined : (ms : Members) (r : Reading (List (ℕ × Part))) → (r >>= joined ms []) ≡ done (λ ps. whole_structure ms ps false) r
unfolding ◌>>=◌
done_joined ms (Ok x) = refl
done_joined ms (Err f) = refl

pub members_first : (r : Rep) (o : Order) (cut : Bool) (ms : Members) (s : Spot) → members_left r o cut ms ms [] s ≡ done (λ ps. whole_structure ms ps false) (members_in r o cut ms s)
members_first r o cut ms s = ap (λ ps. members_in r o cut ms s >>= joined ms ps) (no_parts ms) ∙ done_joined ms (members_in r o cut ms s)

abbrev in_front : List (ℕ × Part) → List (ℕ × Part) × Spot → Reading (List (ℕ × Part))
in_front qs xs = Ok (qs ++ xs.0, xs.1)

part_joined : (all : Members) (ps qs : List (ℕ × Part)) (r : Reading (List (ℕ × Part))) → ((r >>= in_front qs) >>= joined all ps) ≡ (r >>= joined all (ps ++ qs))
unfolding ◌>>=◌
part_joined all ps qs (Ok x) = rw (append_assoc ps qs x.0) refl
part_joined all ps qs (Err f) = refl

member_read : (r : Rep) (o : Order) (cut : Bool) (ms : Members) (h : Head) (t : Shape) (b : Body) (s s2 : Spot) → (cut && (length s.rest == 0)) ≡ false → ReadsSlot r o h t s b s2 → members_in r o cut (member h t ms) s ≡ (members_in r o cut ms s2 >>= in_front (own_parts h.id b))
unfolding read_members read_members1 ◌>>=◌
member_read Xcdr1 o cut ms h t b s s2 more slot = rw (more, slot.parts) refl
member_read Xcdr2 o cut ms h t b s s2 more slot = rw (more, slot.parts) refl

member_next : (r : Rep) (o : Order) (cut : Bool) (all ms : Members) (h : Head) (t : Shape) (ss : List Body) (b : Body) (s s2 : Spot) → Taken all (member h t ms) ss → (cut && (length s.rest == 0)) ≡ false → ReadsSlot r o h t s b s2
    → members_left r o cut all (member h t ms) ss s ≡ members_left r o cut all ms (ss ++ b ∷ []) s2
member_next r o cut all ms h t ss b s s2 taken more slot =
    ap (λ r. r >>= joined all (taken_parts all ss)) (member_read r o cut ms h t b s s2 more slot)
    ∙ part_joined all (taken_parts all ss) (own_parts h.id b) (members_in r o cut ms s2)
    ∙ ap (λ ps. members_in r o cut ms s2 >>= joined all ps) (sym (part_taken all ms h t ss b taken))

-- of the program's members
abbrev pub TakenTo : List declared.Member → ℕ → List Body → Type 0
TakenTo ms i ss = Taken (members_shape ms) (members_shape (drop i ms)) ss

pub one_more_taken : (ms : List declared.Member) (i : ℕ) (m : declared.Member) (ss : List Body) (b : Body) (r : Rep) (o : Order) (s s2 : Spot) → i < length ms → m ≡ get_or ms i m → TakenTo ms i ss → ReadsSlot r o (member_head m) (type_shape m.ty) s b s2 → TakenTo ms (i + 1) (ss ++ b ∷ [])
one_more_taken ms i m ss b r o s s2 within is taken slot =
    let all = members_shape ms in
    let P : Members → Type 0 = λ rest. Taken all rest ss in
    one_taken all (members_shape (drop (i + 1) ms)) (member_head m) (type_shape m.ty) ss b (subst P (next_shape ms i m within is) taken) slot.allowed

pub one_more_left : (ms : List declared.Member) (i : ℕ) (m : declared.Member) (ss : List Body) (b : Body) (r : Rep) (o : Order) (cut : Bool) (s s2 : Spot) → i < length ms → m ≡ get_or ms i m → TakenTo ms i ss → (cut && (length s.rest == 0)) ≡ false → ReadsSlot r o (member_head m) (type_shape m.ty) s b s2
    → members_left r o cut (members_shape ms) (members_shape (drop i ms)) ss s ≡ members_left r o cut (members_shape ms) (members_shape (drop (i + 1) ms)) (ss ++ b ∷ []) s2
one_more_left ms i m ss b r o cut s s2 within is taken more slot =
    let all = members_shape ms in
    let next = next_shape ms i m within is in
    let P : Members → Type 0 = λ rest. Taken all rest ss in
    ap (λ rest. members_left r o cut all rest ss s) next
    ∙ member_next r o cut all (members_shape (drop (i + 1) ms)) (member_head m) (type_shape m.ty) ss b s s2 (subst P next taken) more slot

none_read : (r : Rep) (o : Order) (cut : Bool) (s : Spot) → members_in r o cut no_members s ≡ Ok ([], s)
unfolding read_members read_members1
none_read Xcdr1 o cut s = refl
none_read Xcdr2 o cut s = refl

no_more : (r : Rep) (o : Order) (cut : Bool) (all : Members) (ss : List Body) (s : Spot) → distinct_members all ≡ true → Taken all no_members ss → members_left r o cut all no_members ss s ≡ Ok (plain (struct_of (slots_of ss)), s)
unfolding ◌>>=◌
no_more r o cut all ss s ok taken = rw (none_read r o cut s, append-nil (taken_parts all ss), all_taken all ss ok taken) refl

pub members_end : (ms : List declared.Member) (i : ℕ) (ss : List Body) (r : Rep) (o : Order) (cut : Bool) (s : Spot) → length ms ≤ i → distinct_members (members_shape ms) ≡ true → TakenTo ms i ss → members_left r o cut (members_shape ms) (members_shape (drop i ms)) ss s ≡ Ok (plain (struct_of (slots_of ss)), s)
members_end ms i ss r o cut s past ok taken =
    let all = members_shape ms in
    let none = none_left ms i past in
    let P : Members → Type 0 = λ rest. Taken all rest ss in
    ap (λ rest. members_left r o cut all rest ss s) none ∙ no_more r o cut all ss s ok (subst P none taken)
