-- Members by their index: what is found of them.
use Rattle.std.proofs.Common.{◌≡◌, refl, sym, ap, ◌∙◌, ℕ, zero, suc, ◌<◌, Bool, true, false, cond, not, ◌||◌, ◌==◌, List, [], ◌∷◌, length, get_or, Option, Some, None, arith, eq-eqb, subst, inl, inr}
use Rattle.std.specs.Option.{option_map}
use Rattle.std.proofs.lemmas.Bool.{cases_Bool, eqb-true, and_parts}
use Rattle.xt_shapes.specs.declared.leaves.Order.{Order}
use Rattle.xt_shapes.specs.Select.{has_member}
use Rattle.xt_shapes.specs.Shape.{Head, Shape, Members, no_members, member}
use Rattle.type_trees.specs.declared.types.Member as declared
use Rattle.type_trees.specs.declared.types.Case as declared_case
use Rattle.type_trees.specs.Bridge.{type_shape, members_shape, member_head, cases_shape}
use Rattle.type_trees.proofs.Views.{member_tree_is, case_tree_is}
use Rattle.xcdr_model.specs.Premises.{distinct_members, sound, sound_members, sound_cases}
use Rattle.try_construct.specs.Members.{at_index}
use Rattle.xcdr_steps.specs.reading.Indices.{index_of}
use Rattle.xcdr_reader.specs.declared.modes.Mode.{Mode}
use Rattle.xcdr_reader.specs.Modes.{content_in}
use Rattle.xcdr_reader.specs.Members.{named_in}

-- ---- by the index

not_true : (b : Bool) → not b ≡ true → b ≡ false
not_true true e = absurd cc
not_true false e = refl

has_indexed : (ms : Members) (i id : ℕ) (h : Head) (t : Shape) → at_index ms i ≡ Some (h, t) → h.id ≡ id → has_member ms id ≡ true
has_indexed no_members i id h t is e = absurd cc
has_indexed (member k s ms) zero id h t is e =
    let p : (k, s) ≡ (h, t) = cc in
    let same : k.id ≡ id = ap (λ (y : Head × Shape). y.0.id) p ∙ e in
    rw (eq-eqb k.id id same) refl
has_indexed (member k s ms) (suc i) id h t is e = rw (has_indexed ms i id h t is e) (or_true (k.id == id))
  where
    or_true : (b : Bool) → (b || true) ≡ true
    or_true true = refl
    or_true false = refl

-- where ids are distinct, the member with an index is the first with its id
pub first_indexed : (ms : Members) (i id : ℕ) (h : Head) (t : Shape) → distinct_members ms ≡ true → at_index ms i ≡ Some (h, t) → h.id ≡ id → index_of ms id ≡ Some i
first_indexed no_members i id h t apart is e = absurd cc
first_indexed (member k s ms) zero id h t apart is e =
    let p : (k, s) ≡ (h, t) = cc in
    let same : k.id ≡ id = ap (λ (y : Head × Shape). y.0.id) p ∙ e in
    rw (eq-eqb k.id id same) refl
first_indexed (member k s ms) (suc i) id h t apart is e =
    let (none, more) = and_parts (not (has_member ms k.id)) (distinct_members ms) apart in
    let other : (k.id == id) ≡ false = elim (cases_Bool (k.id == id)) [
      | inl same ↦ (let z : true ≡ false = sym (has_indexed ms i id h t is e) ∙ ap (has_member ms) (sym (eqb-true k.id id same)) ∙ not_true (has_member ms k.id) none in absurd cc)
      | inr ne ↦ ne
    ] in
    rw (other, first_indexed ms i id h t more is e) refl

-- the member with an index, of the program's
pub indexed : (ms : List declared.Member) (i : ℕ) (d : declared.Member) → i < length ms → at_index (members_shape ms) i ≡ Some (member_head (get_or ms i d), type_shape (get_or ms i d).ty)
indexed [] i d within = absurd (omega arith)
indexed (m ∷ ms) zero d within = rw (member_tree_is m) refl
indexed (m ∷ ms) (suc i) d within = rw (member_tree_is m) (indexed ms i d (omega arith))

-- what is found of an id: a member with it, which its readers find
abbrev Found : Members → ℕ → ℕ → Type 0
Found ms i id = (h : Head) × (t : Shape) × (at_index ms i ≡ Some (h, t)) × (h.id ≡ id) × ((k : Mode) (o : Order) → named_in k o ms id ≡ Some (λ n s. content_in k n t o s))

found_later : (h : Head) (t : Shape) (ms : Members) (i id : ℕ) (x : Option ℕ) → ((j : ℕ) → x ≡ Some j → Found ms j id) → (h.id == id) ≡ false → option_map (λ i. suc i) x ≡ Some i → Found (member h t ms) i id
unfolding named_in
found_later h t ms i id None more other e = absurd cc
found_later h t ms i id (Some j) more other e =
    let f = more j refl in
    let at : suc j ≡ i = cc in
    (f.0, f.1, subst (λ (n : ℕ). at_index (member h t ms) n ≡ Some (f.0, f.1)) at f.2, f.3, λ k o. rw other (f.4 k o))

found_test : (h : Head) (t : Shape) (ms : Members) (i id : ℕ) (b : Bool) → ((j : ℕ) → index_of ms id ≡ Some j → Found ms j id) → (h.id == id) ≡ b → cond b (Some 0) (option_map (λ i. suc i) (index_of ms id)) ≡ Some i → Found (member h t ms) i id
unfolding named_in
found_test h t ms i id true more same e =
    let at : 0 ≡ i = cc in
    (h, t, subst (λ (n : ℕ). at_index (member h t ms) n ≡ Some (h, t)) at refl, eqb-true h.id id same, λ k o. rw same refl)
found_test h t ms i id false more other e = found_later h t ms i id (index_of ms id) more other e

-- an index that was found is of a member with that id
pub found : (ms : Members) (i id : ℕ) → index_of ms id ≡ Some i → Found ms i id
found no_members i id is = absurd cc
found (member h t ms) i id is = found_test h t ms i id (h.id == id) (λ j e. found ms j id e) refl is

none_of : (x : Option ℕ) → option_map (λ i. suc i) x ≡ None → x ≡ None
none_of None e = refl
none_of (Some i) e = absurd cc

not_test : (h : Head) (t : Shape) (ms : Members) (id : ℕ) (k : Mode) (o : Order) (b : Bool) → (index_of ms id ≡ None → named_in k o ms id ≡ None) → cond b (Some 0) (option_map (λ i. suc i) (index_of ms id)) ≡ None → cond b (Some (λ n s. content_in k n t o s)) (named_in k o ms id) ≡ None
not_test h t ms id k o true more e = absurd cc
not_test h t ms id k o false more e = more (none_of (index_of ms id) e)

pub not_found : (ms : Members) (id : ℕ) (k : Mode) (o : Order) → index_of ms id ≡ None → named_in k o ms id ≡ None
unfolding named_in
not_found no_members id k o is = refl
not_found (member h t ms) id k o is = not_test h t ms id k o (h.id == id) (λ e. not_found ms id k o e) is

-- ---- what the types' soundness gives their parts

pub sound_at : (ms : Members) (i : ℕ) (h : Head) (t : Shape) → at_index ms i ≡ Some (h, t) → sound_members ms ≡ true → sound t ≡ true
sound_at no_members i h t is ok = absurd cc
sound_at (member k s ms) zero h t is ok =
    let p : (k, s) ≡ (h, t) = cc in
    ap (λ (y : Head × Shape). sound y.1) (sym p) ∙ (and_parts (sound s) (sound_members ms) ok).0
sound_at (member k s ms) (suc i) h t is ok = sound_at ms i h t is (and_parts (sound s) (sound_members ms) ok).1

pub sound_case : (cs : List declared_case.Case) (i : ℕ) (d : declared_case.Case) → i < length cs → sound_cases (cases_shape cs) ≡ true → sound (type_shape (get_or cs i d).ty) ≡ true
sound_case [] i d within ok = absurd (omega arith)
sound_case (c ∷ cs) zero d within ok = (and_parts (sound (type_shape c.ty)) (sound_cases (cases_shape cs)) (rw (case_tree_is c) at ok)).0
sound_case (c ∷ cs) (suc i) d within ok = sound_case cs i d (omega arith) (and_parts (sound (type_shape c.ty)) (sound_cases (cases_shape cs)) (rw (case_tree_is c) at ok)).1

-- an index that was found is of one of the members
pub index_inside : (ms : List declared.Member) (i id : ℕ) → index_of (members_shape ms) id ≡ Some i → i < length ms
index_inside [] i id e = absurd cc
index_inside (m ∷ ms) i id e = by_test ms i (m.id == id) (index_of (members_shape ms) id) (λ j. index_inside ms j id) (rw (member_tree_is m) at e)
  where
    by_test : (ms : List declared.Member) (i : ℕ) (b : Bool) (x : Option ℕ) → ((j : ℕ) → x ≡ Some j → j < length ms) → cond b (Some 0) (option_map (λ j. suc j) x) ≡ Some i → i < suc (length ms)
    by_test ms i true x more e = (let z : 0 ≡ i = cc in omega arith)
    by_test ms i false None more e = absurd cc
    by_test ms i false (Some j) more e = (let z : suc j ≡ i = cc in omega (arith, more j refl))

-- the same of an item that was read
pub sound_item : (ms : List declared.Member) (i : ℕ) (d : declared.Member) → sound_members (members_shape ms) ≡ true → i < length ms → sound (type_shape (get_or ms i d).ty) ≡ true
sound_item ms i d ok within = sound_at (members_shape ms) i (member_head (get_or ms i d)) (type_shape (get_or ms i d).ty) (indexed ms i d within) ok
