use Rattle.std.proofs.Common.{◌≡◌, refl, ℕ, List, Option, ◌+◌, ◌<◌, length, drop, sym, ap, ◌∙◌, subst, arith, rules}
use denote.Param.Weighed.{at_most}
use Rattle.std.proofs.lemmas.List.{drop_all}
use Rattle.json.specs.Json.{no_items, no_members}
use Rattle.json.specs.Tree.{ItemsHaveNumbers, MembersHaveNumbers}
use Rattle.json.specs.Value.{value_view, items_view, members_view}
use Rattle.type_trees.specs.declared.types.Case.{Case}
use Rattle.type_trees.specs.declared.types.UnionType.{out-UnionType}
use Rattle.type_trees.specs.View.{tree, members_tree, cases_tree, sequence_tree, array_tree, union_tree}
use Rattle.type_trees.proofs.types.Member.TheLaws as member_laws
use Rattle.type_trees.proofs.Views.{tree_seq, tree_array, tree_union, sequence_tree_is, array_tree_is, map_tree_is, struct_tree_is, union_tree_is}
use Rattle.dynamic_data.specs.numbers.Forms.{LeafTurns, Puts}
use Rattle.dynamic_data.specs.numbers.Walks.{Turns, PairTurns, ObjectTurns, MemberTurns, CaseTurns, SelectedTurns, BodyTurns, case_in}
use Rattle.dynamic_data.proofs.OfNumbers.JsonViews.{items_at, members_at, view_array}
use Rattle.dynamic_data.proofs.OfNumbers.Walked.{ItemsWritten, MembersWritten, one_more_item, one_more_member, all_items, all_members, put_as, not_two, two_turned, case_here, case_past, cases_depth_at, cases_named_at, array_of, object_of}
use Rattle.dynamic_data.proofs.OfNumbers.MemberPlaces.{depth_at, named_at, turned_at, kept_at}
use Rattle.dynamic_data.proofs.numbers.walk.+turn.Goals as goal

pub turn_items-loop-item-preserved : goal.turn_items-loop-item-preserved
turn_items-loop-item-preserved t c =
    let l = c.loop-item in
    let T = Turns (LeafTurns c.args.form) (tree c.args.ty.now) in
    let xs = c.args.items.now in
    let x = c.item-item.result in
    let here = items_at xs l.item-index x (omega arith) c.item-item.is in
    let put = c.in_ok-turn.ensures in record {
      written = one_more_item T (items_view xs) (value_view x) (items_view (drop (l.item-index + 1) xs)) _ _ _ put.1.0 (subst (λ r. ItemsWritten T (items_view xs) r c.args.out.now.tokens l.out.tokens) here l.invariant.written) put.1.1 put.1.2;
      before = put.0 ∙ l.invariant.before;
      writable = (subst ItemsHaveNumbers here l.invariant.writable).1;
    }

pub turn_items-returns : goal.turn_items-returns
turn_items-returns t c =
    let l = c.loop-item in
    let T = Turns (LeafTurns c.args.form) (tree c.args.ty.now) in
    let xs = c.args.items.now in
    let nothing : items_view (drop l.item-index xs) ≡ no_items = ap items_view (drop_all l.item-index xs (omega arith)) in (
      c.end_array.ensures.room.0 ∙ l.invariant.before,
      all_items T (items_view xs) _ _ _ (subst (λ r. ItemsWritten T (items_view xs) r c.args.out.now.tokens l.out.tokens) nothing l.invariant.written) c.in_ok-end_array.ensures.ok,
    )

pub turn_pairs-loop-item-preserved : goal.turn_pairs-loop-item-preserved
turn_pairs-loop-item-preserved t c =
    let l = c.loop-item in
    let kind = c.args.kind.now in
    let L = LeafTurns c.args.form in
    let T = PairTurns (Turns L (tree kind.key.ty)) (Turns L (tree kind.value.ty)) in
    let xs = c.args.items.now in
    let x = c.item-item.result in
    let here = items_at xs l.item-index x (omega arith) c.item-item.is in
    let put = c.in_ok-turn_pair.ensures in record {
      written = one_more_item T (items_view xs) (value_view x) (items_view (drop (l.item-index + 1) xs)) _ _ _ put.1.0 (subst (λ r. ItemsWritten T (items_view xs) r c.args.out.now.tokens l.out.tokens) here l.invariant.written) put.1.1 put.1.2;
      before = put.0 ∙ l.invariant.before;
      writable = (subst ItemsHaveNumbers here l.invariant.writable).1;
    }

pub turn_pairs-returns : goal.turn_pairs-returns
turn_pairs-returns t c =
    let l = c.loop-item in
    let kind = c.args.kind.now in
    let L = LeafTurns c.args.form in
    let T = PairTurns (Turns L (tree kind.key.ty)) (Turns L (tree kind.value.ty)) in
    let xs = c.args.items.now in
    let nothing : items_view (drop l.item-index xs) ≡ no_items = ap items_view (drop_all l.item-index xs (omega arith)) in (
      c.end_array.ensures.room.0 ∙ l.invariant.before,
      all_items T (items_view xs) _ _ _ (subst (λ r. ItemsWritten T (items_view xs) r c.args.out.now.tokens l.out.tokens) nothing l.invariant.written) c.in_ok-end_array.ensures.ok,
    )

pub turn_members-loop-part-preserved : goal.turn_members-loop-part-preserved
turn_members-loop-part-preserved t c =
    let l = c.loop-part in
    let T = MemberTurns (LeafTurns c.args.form) (members_tree c.args.members.now) in
    let xs = c.args.parts.now in
    let x = c.part-item.result in
    let here = members_at xs l.part-index x (omega arith) c.part-item.is in
    let put = c.in_ok-turn_member.ensures in record {
      written = one_more_member T (members_view xs) x.0.now (value_view x.1) (members_view (drop (l.part-index + 1) xs)) _ _ _ _ put.1.0 (subst (λ r. MembersWritten T (members_view xs) r c.args.out.now.tokens l.out.tokens) here l.invariant.written) c.in_ok-key.ensures.ok put.1.1 put.1.2;
      before = put.0 ∙ c.key.ensures.room.0 ∙ l.invariant.before;
      writable = (subst MembersHaveNumbers here l.invariant.writable).1;
    }

pub turn_members-returns : goal.turn_members-returns
turn_members-returns t c =
    let l = c.loop-part in
    let T = MemberTurns (LeafTurns c.args.form) (members_tree c.args.members.now) in
    let xs = c.args.parts.now in
    let nothing : members_view (drop l.part-index xs) ≡ no_members = ap members_view (drop_all l.part-index xs (omega arith)) in (
      c.end_object.ensures.room.0 ∙ l.invariant.before,
      all_members T (members_view xs) _ _ _ (subst (λ r. MembersWritten T (members_view xs) r c.args.out.now.tokens l.out.tokens) nothing l.invariant.written) c.in_ok-end_object.ensures.ok,
    )

pub turn_bodies-loop-part-preserved : goal.turn_bodies-loop-part-preserved
turn_bodies-loop-part-preserved t c =
    let l = c.loop-part in
    let T = BodyTurns (SelectedTurns (CaseTurns (LeafTurns c.args.form) (cases_tree c.args.cases.now)) c.args.id) in
    let xs = c.args.parts.now in
    let x = c.part-item.result in
    let here = members_at xs l.part-index x (omega arith) c.part-item.is in
    let put = c.in_ok-turn_body.ensures in record {
      written = one_more_member T (members_view xs) x.0.now (value_view x.1) (members_view (drop (l.part-index + 1) xs)) _ _ _ _ put.1.0 (subst (λ r. MembersWritten T (members_view xs) r c.args.out.now.tokens l.out.tokens) here l.invariant.written) c.in_ok-key.ensures.ok put.1.1 put.1.2;
      before = put.0 ∙ c.key.ensures.room.0 ∙ l.invariant.before;
      writable = (subst MembersHaveNumbers here l.invariant.writable).1;
    }

pub turn_bodies-returns : goal.turn_bodies-returns
turn_bodies-returns t c =
    let l = c.loop-part in
    let T = BodyTurns (SelectedTurns (CaseTurns (LeafTurns c.args.form) (cases_tree c.args.cases.now)) c.args.id) in
    let xs = c.args.parts.now in
    let nothing : members_view (drop l.part-index xs) ≡ no_members = ap members_view (drop_all l.part-index xs (omega arith)) in (
      c.end_object.ensures.room.0 ∙ l.invariant.before,
      all_members T (members_view xs) _ _ _ (subst (λ r. MembersWritten T (members_view xs) r c.args.out.now.tokens l.out.tokens) nothing l.invariant.written) c.in_ok-end_object.ensures.ok,
    )

pub turn_member-turn_found-requires : goal.turn_member-turn_found-requires
turn_member-turn_found-requires t c =
    let ms = c.args.members.now in
    let m = c.index-members-at.result in
    let within = c.in-Some.ensures.within in
    let is = c.index-members-at.is in
    let deep = depth_at ms c.in-Some.at m within is (search rules) in
    let named = named_at ms c.in-Some.at m within is (search rules) in
    let smaller = rw (← is) at (at_most member_laws.the_size ms c.in-Some.at m within) in
    search rules

pub turn_member-returns-in-Some : goal.turn_member-returns-in-Some
turn_member-returns-in-Some t c =
    let L = LeafTurns c.args.form in
    let ms = c.args.members.now in
    let m = c.index-members-at.result in
    let j = value_view c.args.part.now in
    let found = sym c.place.ensures.place ∙ c.in-Some.is in
    put_as (Turns L (tree m.ty)) (MemberTurns L (members_tree ms) c.args.key.now) j c.turn_found.result c.args.out.now c.args.out.now c.turn_found.new.out refl
    (λ k h. turned_at L ms c.in-Some.at m c.args.key.now j k found c.index-members-at.is h) c.turn_found.ensures

pub turn_member-returns-in-None : goal.turn_member-returns-in-None
turn_member-returns-in-None t c =
    let L = LeafTurns c.args.form in
    let ms = c.args.members.now in
    let j = value_view c.args.part.now in
    let none = sym c.place.ensures.place ∙ c.in-None.is in
    put_as (λ a b. b ≡ a) (MemberTurns L (members_tree ms) c.args.key.now) j c.keep.result c.args.out.now c.args.out.now c.keep.new.out refl
    (λ k h. kept_at L ms c.args.key.now j k none h) c.keep.ensures

pub turn_case-loop-case-preserved : goal.turn_case-loop-case-preserved
turn_case-loop-case-preserved t c =
    let l = c.loop-case in
    let cs = c.args.cases.now in
    let x = c.case-item.result in
    let within : l.case-index < length cs = omega arith in
    let deep = cases_depth_at x cs l.case-index within c.case-item.is in record {
      same = l.invariant.same;
      turned = λ j k h. l.invariant.turned j k (case_past (LeafTurns c.args.form) x cs l.case-index c.args.id j k within c.case-item.is c.if-case-id.false h);
      deep = omega (arith, deep, l.invariant.deep);
      named = cases_named_at x cs l.case-index within c.case-item.is l.invariant.named;
    }

pub turn_case-returns-then-case-id : goal.turn_case-returns-then-case-id
turn_case-returns-then-case-id t c =
    let l = c.loop-case in
    let L = LeafTurns c.args.form in
    let cs = c.args.cases.now in
    let x = c.case-item.result in
    let j = value_view c.args.part.now in
    put_as (Turns L (tree x.ty)) (CaseTurns L (cases_tree cs) c.args.id) j c.turn.result c.args.out.now l.out c.turn.new.out l.invariant.same
    (λ k h. l.invariant.turned j k (case_here L x cs l.case-index c.args.id j k (omega arith) c.case-item.is c.if-case-id.true h)) c.turn.ensures

pub turn_case-returns : goal.turn_case-returns
turn_case-returns t c =
    let l = c.loop-case in
    let L = LeafTurns c.args.form in
    let cs = c.args.cases.now in
    let j = value_view c.args.part.now in
    let nothing = drop_all l.case-index cs (omega arith) in
    put_as (λ a b. b ≡ a) (CaseTurns L (cases_tree cs) c.args.id) j c.keep.result c.args.out.now l.out c.keep.new.out l.invariant.same
    (λ k h. l.invariant.turned j k (subst (λ rest. CaseTurns L (cases_tree rest) c.args.id j k) (sym nothing) h)) c.keep.ensures

pub turn_array-returns : goal.turn_array-returns
turn_array-returns t c =
    array_of (Turns (LeafTurns c.args.form) (tree c.args.ty.now)) c.args.part.now c.in-Array.items c.as_slice.result.now c.turn_items.result c.args.out.now c.begin_array.new.self c.turn_items.new.out
    c.in-Array.is c.as_slice.ensures.value c.begin_array.ensures.room.0 c.in_ok-begin_array.ensures.ok c.turn_items.ensures

pub turn_both-returns : goal.turn_both-returns
turn_both-returns t c =
    let L = LeafTurns c.args.form in
    let kind = c.args.kind.now in
    let one = c.in_ok-turn.ensures in
    let two = c.in_ok-turn-2.ensures in (
      c.end_array.ensures.room.0 ∙ two.0 ∙ one.0 ∙ c.begin_array.ensures.room.0,
      two_turned (Turns L (tree kind.key.ty)) (Turns L (tree kind.value.ty)) c.args.items.now c.index-items-0.result c.index-items-1.result _ _ _ _ _ c.requires.two c.index-items-0.is c.index-items-1.is c.in_ok-begin_array.ensures.ok one.1 two.1 c.in_ok-end_array.ensures.ok,
    )

pub turn_pair-returns-then-len-ne2 : goal.turn_pair-returns-then-len-ne2
turn_pair-returns-then-len-ne2 t c =
    let L = LeafTurns c.args.form in
    let kind = c.args.kind.now in
    let T = Turns L (tree kind.key.ty) in
    let S = Turns L (tree kind.value.ty) in
    let items = c.in-Array.items in
    let j = value_view c.args.part.now in
    let is = ap value_view c.in-Array.is ∙ view_array items in
    let other : length items.items ≡ 2 → ⊥ = search rules in
    put_as (λ a b. b ≡ a) (PairTurns T S) j c.keep-then-len-ne2.result c.args.out.now c.args.out.now c.keep-then-len-ne2.new.out refl (λ k h. not_two T S j items.items k is other h) c.keep-then-len-ne2.ensures

pub turn_map-returns : goal.turn_map-returns
turn_map-returns t c =
    let L = LeafTurns c.args.form in
    let kind = c.args.kind.now in
    let T = PairTurns (Turns L (tree kind.key.ty)) (Turns L (tree kind.value.ty)) in
    subst (λ tree. Puts (Turns L tree) (value_view c.args.part.now) c.turn_pairs.result c.args.out.now c.turn_pairs.new.out) (sym (map_tree_is kind))
    (array_of T c.args.part.now c.in-Array.items c.as_slice.result.now c.turn_pairs.result c.args.out.now c.begin_array.new.self c.turn_pairs.new.out
    c.in-Array.is c.as_slice.ensures.value c.begin_array.ensures.room.0 c.in_ok-begin_array.ensures.ok c.turn_pairs.ensures)

pub turn_struct-returns : goal.turn_struct-returns
turn_struct-returns t c =
    let L = LeafTurns c.args.form in
    let kind = c.args.kind.now in
    let T = MemberTurns L (members_tree c.as_slice-members.result.now) in
    let written = object_of T c.args.part.now c.in-Object.parts c.as_slice.result.now c.turn_members.result c.args.out.now c.begin_object.new.self c.turn_members.new.out
    c.in-Object.is c.as_slice.ensures.value c.begin_object.ensures.room.0 c.in_ok-begin_object.ensures.ok c.turn_members.ensures in
    subst (λ tree. Puts (Turns L tree) (value_view c.args.part.now) c.turn_members.result c.args.out.now c.turn_members.new.out) (sym (struct_tree_is kind))
    (subst (λ ms. Puts (ObjectTurns (MemberTurns L (members_tree ms))) (value_view c.args.part.now) c.turn_members.result c.args.out.now c.turn_members.new.out) c.as_slice-members.ensures written)

pub turn_union-returns : goal.turn_union-returns
turn_union-returns t c =
    let L = LeafTurns c.args.form in
    let kind = c.args.kind.now in
    let T = BodyTurns (SelectedTurns (CaseTurns L (cases_tree c.as_slice-2.result.now)) c.in_ok-id.id) in
    let written = object_of T c.args.part.now c.in-Object.parts c.as_slice-3.result.now c.turn_bodies.result c.args.out.now c.begin_object.new.self c.turn_bodies.new.out
    c.in-Object.is c.as_slice-3.ensures.value c.begin_object.ensures.room.0 c.in_ok-begin_object.ensures.ok c.turn_bodies.ensures in
    let j = value_view c.args.part.now in
    let disc = tree (out-UnionType kind).disc in
    let shown = λ (cs : List Case) (id : Option ℕ). Puts (ObjectTurns (BodyTurns (SelectedTurns (CaseTurns L (cases_tree cs)) id))) j c.turn_bodies.result c.args.out.now c.turn_bodies.new.out in
    let chosen : c.in_ok-id.id ≡ case_in disc (cases_tree (out-UnionType kind).cases) j = subst (λ cs. c.in_ok-id.id ≡ case_in disc (cases_tree cs) j) c.as_slice.ensures c.in_ok-id.ensures in
    subst (λ tree. Puts (Turns L tree) j c.turn_bodies.result c.args.out.now c.turn_bodies.new.out) (sym (union_tree_is kind))
    (subst (shown (out-UnionType kind).cases) chosen (subst (λ cs. shown cs c.in_ok-id.id) c.as_slice-2.ensures written))

pub turn-returns-in-Seq : goal.turn-returns-in-Seq
turn-returns-in-Seq t c =
    let L = LeafTurns c.args.form in
    let seq = c.deref.result.now in
    let is : tree c.args.ty.now ≡ sequence_tree seq = ap tree c.in-Seq.is ∙ tree_seq c.in-Seq.kind ∙ ap sequence_tree (sym c.deref.ensures) in
    subst (λ tree. Puts (Turns L tree) (value_view c.args.part.now) c.turn_array.result c.args.out.now c.turn_array.new.out) (sym (is ∙ sequence_tree_is seq)) c.turn_array.ensures

pub turn-returns-in-Array : goal.turn-returns-in-Array
turn-returns-in-Array t c =
    let L = LeafTurns c.args.form in
    let array = c.deref-in-Array.result.now in
    let is : tree c.args.ty.now ≡ array_tree array = ap tree c.in-Array.is ∙ tree_array c.in-Array.kind ∙ ap array_tree (sym c.deref-in-Array.ensures) in
    subst (λ tree. Puts (Turns L tree) (value_view c.args.part.now) c.turn_array-in-Array.result c.args.out.now c.turn_array-in-Array.new.out) (sym (is ∙ array_tree_is array)) c.turn_array-in-Array.ensures

pub turn-returns-in-Union : goal.turn-returns-in-Union
turn-returns-in-Union t c =
    let L = LeafTurns c.args.form in
    let union = c.deref-in-Union.result.now in
    let is : tree c.args.ty.now ≡ union_tree union = ap tree c.in-Union.is ∙ tree_union c.in-Union.kind ∙ ap union_tree (sym c.deref-in-Union.ensures) in
    subst (λ tree. Puts (Turns L tree) (value_view c.args.part.now) c.turn_union.result c.args.out.now c.turn_union.new.out) (sym is) c.turn_union.ensures
