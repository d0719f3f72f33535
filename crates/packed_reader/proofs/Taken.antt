-- The members of a structure that were taken in declared order, and those that are still to come.
use Rattle.std.proofs.Common.{◌≡◌, refl, sym, ap, ap₂, ◌∙◌, ℕ, Bool, true, false, not, ◌==◌, List, [], ◌∷◌, ◌++◌, map, Option, Some, None, append_assoc}
use Rattle.std.proofs.lemmas.Bool.{and_parts}
use Rattle.std.proofs.lemmas.List.{map-append, append-nil}
use Rattle.xt_shapes.specs.declared.leaves.Order.{Order}
use Rattle.xt_shapes.specs.declared.leaves.Try.{Try}
use Rattle.xt_shapes.specs.declared.leaves.Try.TheVariants.{Discard, UseDefault, Trim}
use Rattle.xt_shapes.specs.Select.{has_member}
use Rattle.xt_shapes.specs.Shape.{Head, Shape, Members, no_members, member}
use Rattle.xt_shapes.specs.Vals.{Val, Slot as Body, absent, present, struct_of, slots_of}
use Rattle.xcdr_model.specs.Premises.{distinct_members}
use Rattle.xcdr_model.specs.Projection.{Part, got, settled, slot_default, slot_from, whole_structure}
use Rattle.xcdr_model.specs.Xcdr2Reading.{read_named}
use Rattle.try_construct.specs.Members.{and_slot, built_in, unseen_in, slots_then, parts_by_id}
use Rattle.try_construct.proofs.StructureSteps.{slots_whole, other_id, not_true}
use Rattle.packed_reader.specs.Reads.{plain, own_parts, MayBe}

-- what came of a member, by its slot
abbrev pub came : Body → Option Part
came absent = None
came (present v) = Some (plain v)

-- what came of the first members, under their ids
abbrev pub taken_parts : Members → List Body → List (ℕ × Part)
taken_parts ms ss = parts_by_id ms (map came ss)

-- the slots are those of the first members, and the rest are still to come
pub record Taken (all rest : Members) (ss : List Body) : Type 0 where
  pub parts : (xs : List (Option Part)) → parts_by_id all (map came ss ++ xs) ≡ taken_parts all ss ++ parts_by_id rest xs
  pub slots : (xs : List (Option Part)) → slots_then all (Some [], false) (map came ss ++ xs) ≡ slots_then rest (Some ss, false) xs
  pub apart : distinct_members rest ≡ true
  pub named : (o : Order) (id : ℕ) → has_member rest id ≡ true → read_named o all id ≡ read_named o rest id

pub no_parts : (ms : Members) → parts_by_id ms [] ≡ []
no_parts no_members = refl
no_parts (member h t ms) = refl

pub none_taken : (ms : Members) → distinct_members ms ≡ true → Taken ms ms []
none_taken ms ok = record {
  parts = λ xs. ap (λ ps. ps ++ parts_by_id ms xs) (sym (no_parts ms));
  slots = λ xs. refl;
  apart = ok;
  named = λ o id there. refl;
}

settled_got : (tc : Try) (d : Body) (v : Val) → settled tc d present (got v) ≡ Some (present v)
settled_got Discard d v = refl
settled_got UseDefault d v = refl
settled_got Trim d v = refl

-- a slot more
slot_settled : (h : Head) (t : Shape) (b : Body) → MayBe h b → slot_from h t (built_in (came b)) ≡ Some b
slot_settled h t absent may = rw may refl
slot_settled h t (present v) may = settled_got h.tc (slot_default h t) v

none_unseen : (b : Body) → unseen_in (came b) ≡ false
none_unseen absent = refl
none_unseen (present v) = refl

one_part : (h : Head) (t : Shape) (ms : Members) (b : Body) (xs : List (Option Part)) → parts_by_id (member h t ms) (came b ∷ xs) ≡ own_parts h.id b ++ parts_by_id ms xs
one_part h t ms absent xs = refl
one_part h t ms (present v) xs = refl

came_more : (ss : List Body) (b : Body) (xs : List (Option Part)) → map came (ss ++ b ∷ []) ++ xs ≡ map came ss ++ (came b ∷ xs)
came_more ss b xs = rw (map-append came ss (b ∷ [])) (append_assoc (map came ss) (came b ∷ []) xs)

-- what came of one member more
pub part_taken : (all ms : Members) (h : Head) (t : Shape) (ss : List Body) (b : Body) → Taken all (member h t ms) ss → taken_parts all (ss ++ b ∷ []) ≡ taken_parts all ss ++ own_parts h.id b
part_taken all ms h t ss b taken =
    ap (parts_by_id all) (map-append came ss (b ∷ []))
    ∙ taken.parts (came b ∷ [])
    ∙ ap (λ ps. taken_parts all ss ++ ps) (one_part h t ms b [] ∙ ap (λ ps. own_parts h.id b ++ ps) (no_parts ms) ∙ append-nil (own_parts h.id b))

named_behind : (o : Order) (h : Head) (t : Shape) (ms : Members) (id : ℕ) → (h.id == id) ≡ false → read_named o (member h t ms) id ≡ read_named o ms id
unfolding read_named
named_behind o h t ms id other = rw other refl

pub one_taken : (all ms : Members) (h : Head) (t : Shape) (ss : List Body) (b : Body) → Taken all (member h t ms) ss → MayBe h b → Taken all ms (ss ++ b ∷ [])
one_taken all ms h t ss b taken may =
    let (apart, more) = and_parts (not (has_member ms h.id)) (distinct_members ms) taken.apart in
    record {
      parts = λ xs.
          ap (parts_by_id all) (came_more ss b xs)
          ∙ taken.parts (came b ∷ xs)
          ∙ ap (λ ps. taken_parts all ss ++ ps) (one_part h t ms b xs)
          ∙ sym (append_assoc (taken_parts all ss) (own_parts h.id b) (parts_by_id ms xs))
          ∙ ap (λ ps. ps ++ parts_by_id ms xs) (sym (part_taken all ms h t ss b taken));
      slots = λ xs.
          ap (slots_then all (Some [], false)) (came_more ss b xs)
          ∙ taken.slots (came b ∷ xs)
          ∙ ap₂ (λ (x : Option Body) (u : Bool). slots_then ms (and_slot (Some ss, false) (x, u)) xs) (slot_settled h t b may) (none_unseen b);
      apart = more;
      named = λ o id there.
          let other : (h.id == id) ≡ false = other_id ms h.id id (not_true (has_member ms h.id) apart) there in
          taken.named o id (rw other there) ∙ named_behind o h t ms id other;
    }

-- where all were taken, they make the structure of their slots
pub all_taken : (all : Members) (ss : List Body) → distinct_members all ≡ true → Taken all no_members ss → whole_structure all (taken_parts all ss) false ≡ plain (struct_of (slots_of ss))
all_taken all ss ok taken =
    sym (slots_whole all (map came ss) ok)
    ∙ ap (slots_then all (Some [], false)) (sym (append-nil (map came ss)))
    ∙ taken.slots []
