-- Members by their index.
use Rattle.std.proofs.Common.{◌≡◌, refl, sym, ap, ◌∙◌, ℕ, zero, suc, ◌+◌, ◌<◌, ◌≤◌, Bool, true, false, not, ◌||◌, ◌==◌, List, [], ◌∷◌, length, drop, get_or, drop_of_length-le, Some, arith, eq-eqb, inl, inr}
use Rattle.std.proofs.lemmas.Bool.{cases_Bool, eqb-true, and_parts}
use Rattle.std.proofs.lemmas.List.{at_drop_more}
use Rattle.xt_shapes.specs.Select.{has_member}
use Rattle.xt_shapes.specs.Shape.{no_members, member}
use Rattle.type_trees.specs.declared.types.Member as declared
use Rattle.type_trees.specs.Bridge.{type_shape, members_shape, member_head}
use Rattle.type_trees.proofs.Views.{member_tree_is}
use Rattle.xcdr_model.specs.Premises.{distinct_members}
use Rattle.try_construct.proofs.CasesByIndex.{shifted_none}
use Rattle.xcdr_steps.specs.reading.Indices.{index_of}

pub next_shape : (ms : List declared.Member) (i : ℕ) (d : declared.Member) → i < length ms → members_shape (drop i ms) ≡ member (member_head (get_or ms i d)) (type_shape (get_or ms i d).ty) (members_shape (drop (i + 1) ms))
next_shape ms i d within = at_drop_more (λ xs. members_shape xs) ms i d within ∙ rw (member_tree_is (get_or ms i d)) refl

pub none_left : (ms : List declared.Member) (i : ℕ) → length ms ≤ i → members_shape (drop i ms) ≡ no_members
none_left ms i le = ap (λ (xs : List declared.Member). members_shape xs) (drop_of_length-le ms le)

not_true : (b : Bool) → not b ≡ true → b ≡ false
not_true true e = absurd cc
not_true false e = refl

or_true : (b : Bool) → (b || true) ≡ true
or_true true = refl
or_true false = refl

has_id : (ms : List declared.Member) (i id : ℕ) (d : declared.Member) → i < length ms → (get_or ms i d).id ≡ id → has_member (members_shape ms) id ≡ true
has_id [] i id d within is = absurd (omega arith)
has_id (m ∷ ms) zero id d within is = rw (member_tree_is m, eq-eqb m.id id is) refl
has_id (m ∷ ms) (suc i) id d within is = rw (member_tree_is m, has_id ms i id d (omega arith) is) (or_true (m.id == id))

-- where ids are distinct, the member with an index is the first with its id
pub at_once : (ms : List declared.Member) (i id : ℕ) (d : declared.Member) → distinct_members (members_shape ms) ≡ true → i < length ms → (get_or ms i d).id ≡ id → index_of (members_shape ms) id ≡ Some i
at_once [] i id d apart within is = absurd (omega arith)
at_once (m ∷ ms) zero id d apart within is = rw (member_tree_is m, eq-eqb m.id id is) refl
at_once (m ∷ ms) (suc i) id d apart within is =
    let (none, more) = and_parts (not (has_member (members_shape ms) m.id)) (distinct_members (members_shape ms)) (rw (member_tree_is m) at apart) in
    let other : (m.id == id) ≡ false = elim (cases_Bool (m.id == id)) [
      | inl same ↦ (let z : true ≡ false = sym (has_id ms i id d (omega arith) is) ∙ ap (has_member (members_shape ms)) (sym (eqb-true m.id id same)) ∙ not_true (has_member (members_shape ms) m.id) none in absurd cc)
      | inr ne ↦ ne
    ] in
    rw (member_tree_is m, other, at_once ms i id d more (omega arith) is) refl

pub ruleset index_rules = (shifted_none)
