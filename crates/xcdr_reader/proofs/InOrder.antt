-- Members in declared order: what is read of each, one after another, is what is read of all.
use Rattle.std.proofs.Common.{◌≡◌, refl, sym, ap, ◌∙◌, ℕ, Bool, true, false, cond, ◌&&◌, ◌==◌, List, [], ◌∷◌, ◌++◌, length, Option, Some, None, Ok, Err, inl, inr}
use Rattle.std.proofs.lemmas.Bool.{cases_Bool}
use Rattle.xt_shapes.specs.declared.leaves.Order.{Order}
use Rattle.xt_shapes.specs.Shape.{Head, Shape, Members, no_members, member}
use Rattle.xt_shapes.specs.Vals.{Slot as Body}
use Rattle.xcdr_model.specs.Premises.{distinct_members}
use Rattle.xcdr_model.specs.Reading.{Spot, Reading, ◌>>=◌}
use Rattle.xcdr_model.specs.Projection.{Part, slot_from, whole_structure}
use Rattle.xcdr_model.specs.Xcdr1Reading.{read_members1}
use Rattle.xcdr_model.specs.Xcdr2Reading.{read_members, done}
use Rattle.try_construct.specs.Members.{and_slot, built_in, unseen_in, slots_then, structure_of, parts_by_id}
use Rattle.try_construct.proofs.StructureSteps.{slots_whole}
use Rattle.xcdr_reader.specs.declared.modes.Mode.{Mode}
use Rattle.xcdr_reader.specs.declared.modes.Mode.TheVariants.{Two, Inner, Tail}
use Rattle.xcdr_reader.specs.declared.comings.Coming.TheVariants.{Absent}
use Rattle.xcdr_reader.specs.Parts.{coming_part, member_part, each_member}
use Rattle.xcdr_reader.specs.Insides.{members_in, members_read}
use Rattle.xcdr_reader.proofs.OneMember.{came_of, one_member, here_part, member_is}
use Rattle.xcdr_reader.proofs.Gathering.{bind_bind, bind_ok, each_bind}

-- what came of one member and of those behind it, under their ids
abbrev by_id : Members → Reading (List (Option Part)) → Reading (List (ℕ × Part))
by_id ms r = done (parts_by_id ms) r

abbrev and_rest : Option Part → Reading (List (Option Part)) → Reading (List (Option Part))
and_rest x r = r >>= λ xs. Ok (x ∷ xs.0, xs.1)

one_more : (h : Head) (t : Shape) (ms : Members) (x : Part) (r : Reading (List (Option Part))) → by_id (member h t ms) (and_rest (Some x) r) ≡ (by_id ms r >>= λ ps. Ok (((h.id, x) ∷ []) ++ ps.0, ps.1))
unfolding ◌>>=◌
one_more h t ms x (Ok xs) = refl
one_more h t ms x (Err e) = refl

none_more : (h : Head) (t : Shape) (ms : Members) (r : Reading (List (Option Part))) → by_id (member h t ms) (and_rest None r) ≡ by_id ms r
unfolding ◌>>=◌
none_more h t ms (Ok xs) = refl
none_more h t ms (Err e) = refl

nothing_in_front : (r : Reading (List (ℕ × Part))) → (r >>= λ ps. Ok ([] ++ ps.0, ps.1)) ≡ r
unfolding ◌>>=◌
nothing_in_front (Ok ps) = refl
nothing_in_front (Err e) = refl

-- the members from here on, given what came of this one
abbrev behind : Mode → Order → Bool → Members → Option Part × Spot → Reading (List (Option Part))
behind m o cut ms x = and_rest x.0 (each_member m o cut ms x.1)

abbrev joined : Mode → Order → Bool → Members → List (ℕ × Part) × Spot → Reading (List (ℕ × Part))
joined m o cut ms x = members_in m o cut ms x.1 >>= λ xs. Ok (x.0 ++ xs.0, xs.1)

-- one member and those behind it
came : (m : Mode) (o : Order) (cut : Bool) (h : Head) (t : Shape) (ms : Members) (r : Reading (Option Part)) → ((s : Spot) → by_id ms (each_member m o cut ms s) ≡ members_in m o cut ms s)
    → by_id (member h t ms) (r >>= behind m o cut ms) ≡ (came_of h.id r >>= joined m o cut ms)
unfolding ◌>>=◌
came m o cut h t ms (Ok (Some x, s)) same = one_more h t ms x (each_member m o cut ms s) ∙ ap (λ r. r >>= λ ps. Ok (((h.id, x) ∷ []) ++ ps.0, ps.1)) (same s)
came m o cut h t ms (Ok (None, s)) same = none_more h t ms (each_member m o cut ms s) ∙ same s ∙ sym (nothing_in_front (members_in m o cut ms s))
came m o cut h t ms (Err e) same = refl

-- where the region has ended nothing more comes
ended_members : (m : Mode) (o : Order) (ms : Members) (s : Spot) → (length s.rest == 0) ≡ true → members_in m o true ms s ≡ Ok ([], s)
unfolding read_members read_members1
ended_members Two o no_members s e = refl
ended_members Inner o no_members s e = refl
ended_members Tail o no_members s e = refl
ended_members Two o (member h t ms) s e = rw e refl
ended_members Inner o (member h t ms) s e = rw e refl
ended_members Tail o (member h t ms) s e = rw e refl

at_end : (m : Mode) (o : Order) (cut : Bool) (ms : Members) (s : Spot) → (cut && (length s.rest == 0)) ≡ true → members_in m o cut ms s ≡ Ok ([], s)
at_end m o true ms s e = ended_members m o ms s e
at_end m o false ms s e = absurd cc

-- the members are the first and those behind it
members_more : (m : Mode) (o : Order) (cut : Bool) (h : Head) (t : Shape) (ms : Members) (s : Spot) → members_in m o cut (member h t ms) s ≡ cond (cut && (length s.rest == 0)) (Ok ([], s)) (one_member m h t o s >>= joined m o cut ms)
unfolding read_members read_members1
members_more Two o cut h t ms s = refl
members_more Inner o cut h t ms s = refl
members_more Tail o cut h t ms s = refl

no_members_in : (m : Mode) (o : Order) (cut : Bool) (s : Spot) → members_in m o cut no_members s ≡ Ok ([], s)
unfolding read_members read_members1
no_members_in Two o cut s = refl
no_members_in Inner o cut s = refl
no_members_in Tail o cut s = refl

pub in_order : (m : Mode) (o : Order) (cut : Bool) (ms : Members) (s : Spot) → done (parts_by_id ms) (each_member m o cut ms s) ≡ members_in m o cut ms s
unfolding each_member
in_order m o cut no_members s = bind_ok ([], s) (λ x. Ok (parts_by_id no_members x.0, x.1)) ∙ sym (no_members_in m o cut s)
in_order m o cut (member h t ms) s =
    let same = λ (s2 : Spot). in_order m o cut ms s2 in
    elim (cases_Bool (cut && (length s.rest == 0))) [
      | inl end ↦ rw (end, members_more m o cut h t ms s, end) (ap (λ r. by_id (member h t ms) (r >>= behind m o cut ms)) (bind_ok (Absent, s) (λ c. coming_part m t c.0 o c.1)) ∙ ap (by_id (member h t ms)) (bind_ok (None, s) (behind m o cut ms)) ∙ none_more h t ms (each_member m o cut ms s) ∙ same s ∙ at_end m o cut ms s end)
      | inr more ↦ rw (more, members_more m o cut h t ms s, more) (came m o cut h t ms (here_part m h.optional h.id t o s) same ∙ ap (λ r. r >>= joined m o cut ms) (member_is m h t o s))
    ]

-- ---- gathered as they come

abbrev finish : Members → Option (List Body) × Bool → List (Option Part) × Spot → Reading Part
finish ms g xs = Ok (slots_then ms g xs.0, xs.1)

-- the members from here on, behind those that were gathered
unfoldable pub rest_members : Mode → Bool → Members → Option (List Body) × Bool → Order → Spot → Reading Part
rest_members m cut ms g o s = each_member m o cut ms s >>= finish ms g

-- what a member's part is settled to
abbrev pub slot_part : Head → Shape → Option Part → Option Body × Bool
slot_part h t x = (slot_from h t (built_in x), unseen_in x)

one_slot : (h : Head) (t : Shape) (ms : Members) (g : Option (List Body) × Bool) (x : Option Part) (r : Reading (List (Option Part))) → (and_rest x r >>= finish (member h t ms) g) ≡ (r >>= finish ms (and_slot g (slot_part h t x)))
unfolding ◌>>=◌
one_slot h t ms g x (Ok xs) = refl
one_slot h t ms g x (Err e) = refl

pub next_member : (m : Mode) (o : Order) (cut : Bool) (h : Head) (t : Shape) (ms : Members) (g : Option (List Body) × Bool) (s : Spot)
    → rest_members m cut (member h t ms) g o s ≡ (member_part m cut h t o s >>= λ x. rest_members m cut ms (and_slot g (slot_part h t x.0)) o x.1)
unfolding each_member rest_members
next_member m o cut h t ms g s =
    bind_bind (member_part m cut h t o s) (behind m o cut ms) (finish (member h t ms) g)
    ∙ each_bind (member_part m cut h t o s) (λ x. behind m o cut ms x >>= finish (member h t ms) g) (λ x. each_member m o cut ms x.1 >>= finish ms (and_slot g (slot_part h t x.0))) (λ x. one_slot h t ms g x.0 (each_member m o cut ms x.1))

pub no_member : (m : Mode) (o : Order) (cut : Bool) (g : Option (List Body) × Bool) (s : Spot) → rest_members m cut no_members g o s ≡ Ok (structure_of g, s)
unfolding each_member rest_members ◌>>=◌
no_member m o cut g s = refl

whole_of : (ms : Members) (r : Reading (List (Option Part))) → distinct_members ms ≡ true → done (λ ps. whole_structure ms ps false) (done (parts_by_id ms) r) ≡ (r >>= λ xs. Ok (slots_then ms (Some [], false) xs.0, xs.1))
unfolding ◌>>=◌
whole_of ms (Ok xs) apart = ap (λ p. Ok (p, xs.1)) (sym (slots_whole ms xs.0 apart))
whole_of ms (Err e) apart = refl

pub members_start : (m : Mode) (o : Order) (cut : Bool) (ms : Members) (s : Spot) → distinct_members ms ≡ true → members_read m cut ms o s ≡ rest_members m cut ms (Some [], false) o s
unfolding rest_members
members_start m o cut ms s apart = ap (done (λ ps. whole_structure ms ps false)) (sym (in_order m o cut ms s)) ∙ whole_of ms (each_member m o cut ms s) apart
