-- A structure on a base that is valid and of the same extensibility: the base's layers, and one more layer with its own members.
use Rattle.std.proofs.Common.{◌≡◌, ℕ, ◌≤◌, List, [], ◌∷◌, ◌++◌, map, length, Some, None, refl, sym, ap, subst, ◌∙◌, arith}
use Rattle.std.proofs.lemmas.Bool.{and_parts}
use Rattle.std.specs.Prelude.{Bool, true, false, cond, nat_le}
use mathlib.Core.Path.{fun_ext}
use Rattle.xt_shapes.specs.declared.leaves.Ext.{Ext}
use Rattle.xt_shapes.specs.declared.leaves.Ext.TheVariants as E
use Rattle.xt_shapes.specs.declared.leaves.Step.{Step}
use Rattle.xt_shapes.specs.Kinds.{same_ext}
use Rattle.type_trees.specs.declared.types.Base.{Base}
use Rattle.type_trees.specs.Trees.{StructHead, Tree, prim, str, enumeration, bitmask, sequence, array, map_of, structure, union, alias, Members, no_members, member}
use Rattle.type_trees.specs.View.{members_of}
use Rattle.type_trees.specs.sizes.TypeNodes.{nodes, member_nodes}
use Rattle.type_rules.specs.Valid.{is_small, type_fault}
use Rattle.type_rules.proofs.DeepSteps.{first_none, some_is}
use Rattle.object_formats.specs.Objects as o
use Rattle.object_formats.specs.Objects.{Identifier, MemberPart, Object}
use Rattle.idl_tokens.specs.Classes.{Text}
use Rattle.idl_types.specs.State.{Declared}
use Rattle.idl_types.specs.Uses.{whole}
use Rattle.idl_types.specs.Definitions.{ListedMembers, listed, as_base, count_of, members_on, bases_on, member_whole, is_structure_of}
use Rattle.idl_types.specs.declared.declarations.UsedMember.{UsedMember}
use Rattle.idl_types.specs.declared.declarations.StructDefinition.{StructDefinition}
use Rattle.type_resolve.specs.Objects.{own, top, layers, struct_object, member_part, layer_object, last_layer, layer_texts, member_count, identifier, member_parts, texts, member_texts, joined, both_texts}
use Rattle.type_resolve.specs.Definitions.{used_member_part}
use Rattle.type_resolve.proofs.Returning.{Rises}
use Rattle.type_resolve.proofs.Valid.{le_is, comes_back}
use Rattle.type_resolve.proofs.Present.{last_had, last-top, texts-count}
use Rattle.type_resolve.proofs.Front.{AllWithin, had_within, between-behind, last_front, texts_front}

-- ---- a base has at most 65,536 members

nodes_some : (t : Tree) → 1 ≤ nodes t
nodes_some (prim p) = omega arith
nodes_some (str n) = omega arith
nodes_some (enumeration n e b ls) = omega arith
nodes_some (bitmask n b fs) = omega arith
nodes_some (sequence n tc t) = omega arith
nodes_some (array ds tc t) = omega arith
nodes_some (map_of n kc k vc v) = omega arith
nodes_some (structure h ms) = omega arith
nodes_some (union h d cs) = omega arith
nodes_some (alias n t) = omega arith

count_nodes : (ms : Members) → member_count ms ≤ member_nodes ms
count_nodes no_members = omega arith
count_nodes (member h t ms) = omega (arith, nodes_some t, count_nodes ms)

small_is : (b : Bool) (f : ℕ × List Step) → cond b None (Some f) ≡ None → b ≡ true
small_is true f e = refl
small_is false f e = absurd (some_is f e)

few_members : (h : StructHead) (ms : Members) → type_fault (structure h ms) ≡ None → member_count ms ≤ 65536
unfolding type_fault
few_members h ms e =
    let small : is_small (structure h ms) ≡ true = small_is (is_small (structure h ms)) (16, []) (first_none _ _ (first_none _ _ e).1).0 in
    let le : nodes (structure h ms) ≤ 65536 = le_is (nodes (structure h ms)) 65536 (and_parts (nat_le (nodes (structure h ms)) 65536) _ small).0 in
    omega (arith, le, count_nodes ms)

-- ---- the base's layers

listed_back : (ms : Members) → members_of (listed ms) ≡ ms
listed_back no_members = refl
listed_back (member h t ms) = ap (member h t) (listed_back ms)

listed_count : (ms : Members) → length (listed ms) ≡ member_count ms
listed_count no_members = refl
listed_count (member h t ms) = omega (arith, listed_count ms)

as_top : (h : StructHead) (ms : Members) → member_count ms ≤ 65536 → as_base h (listed ms) ≡ top h (member_count ms)
as_top h ms le =
    let count : count_of (listed ms) ≡ member_count ms = omega (arith, le, listed_count ms) in
    ap (λ (n : ℕ). top h n) count

rises_within : (before : ℕ) (bs : List Base) (t : Base) (end : ℕ) → Rises before bs end → t.count ≤ end → AllWithin (bs ++ t ∷ []) end
rises_within before [] t end r le = (le, tt)
rises_within before (b ∷ bs) t end r le = (r.1, rises_within b.count bs t end r.2 le)

same_ext_is : (a b : Ext) → same_ext a b ≡ true → a ≡ b
same_ext_is E.Final E.Final e = refl
same_ext_is E.Final E.Appendable e = absurd cc
same_ext_is E.Final E.Mutable e = absurd cc
same_ext_is E.Appendable E.Final e = absurd cc
same_ext_is E.Appendable E.Appendable e = refl
same_ext_is E.Appendable E.Mutable e = absurd cc
same_ext_is E.Mutable E.Final e = absurd cc
same_ext_is E.Mutable E.Appendable e = absurd cc
same_ext_is E.Mutable E.Mutable e = refl

module _ (ts : Declared) where
  texts_on : (before : ListedMembers) (ms : List UsedMember) → member_texts (members_of (before ++ map (member_whole ts) ms)) ≡ member_texts (members_of before) ++ map (λ m. texts (whole ts m.used)) ms
  unfolding member_texts
  texts_on [] [] = refl
  texts_on [] (m ∷ ms) = ap (λ us. texts (whole ts m.used) ∷ us) (texts_on [] ms)
  texts_on (b ∷ before) ms = ap (λ us. texts b.1 ∷ us) (texts_on before ms)

  parts_on : (c : Bool) (before : ListedMembers) (ms : List UsedMember) → member_parts c (members_of (before ++ map (member_whole ts) ms)) ≡ member_parts c (members_of before) ++ map (used_member_part c ts) ms
  unfolding member_parts
  parts_on c [] [] = refl
  parts_on c [] (m ∷ ms) = ap (λ ps. used_member_part c ts m ∷ ps) (parts_on c [] ms)
  parts_on c (b ∷ before) ms = ap (λ ps. member_part c b.0 (identifier c b.1) ∷ ps) (parts_on c before ms)

  parts-count : (c : Bool) (ms : Members) → length (member_parts c ms) ≡ member_count ms
  unfolding member_parts
  parts-count c no_members = refl
  parts-count c (member h t ms) = omega (arith, parts-count c ms)

  -- a structure's own layer, on the layers of these bases
  module _ (h : StructHead) (before : ListedMembers) (ms : List UsedMember) (within : AllWithin h.bases (member_count (members_of before))) (all : last_had 0 h.bases ≡ member_count (members_of before)) where
    abbrev base_members : Members
    base_members = members_of before

    abbrev all_members : Members
    all_members = members_of (before ++ map (member_whole ts) ms)

    abbrev needs : List (List (List ℕ))
    needs = map (λ m. texts (whole ts m.used)) ms

    abbrev parts : Bool → List MemberPart
    parts c = map (used_member_part c ts) ms

    abbrev base_id : Bool → Identifier
    base_id c = last_layer c h.ext o.none 0 h.bases (member_parts c base_members)

    abbrev object : Bool → Object
    object c = struct_object c h.name h.ext h.nested h.hashed_ids (base_id c) (parts c)

    abbrev own_layer : Base
    own_layer = top h (member_count all_members)

    needs_long : length (member_texts base_members ++ needs) ≤ own_layer.count
    needs_long = let e : length (member_texts all_members) ≡ length (member_texts base_members ++ needs) = ap length (texts_on before ms) in omega (arith, e, texts-count all_members)

    parts_long : (c : Bool) → length (member_parts c base_members ++ parts c) ≤ own_layer.count
    parts_long c = let e : length (member_parts c all_members) ≡ length (member_parts c base_members ++ parts c) = ap length (parts_on c before ms) in omega (arith, e, parts-count c all_members)

    own_object_is : (c : Bool) → layer_object c h.ext (base_id c) (last_had 0 h.bases) own_layer (member_parts c base_members ++ parts c) ≡ object c
    own_object_is c =
        ap (λ ps. struct_object c h.name h.ext h.nested h.hashed_ids (base_id c) ps) (between-behind (last_had 0 h.bases) own_layer.count (member_parts c base_members) (parts c) (omega (arith, all, parts-count c base_members)) (parts_long c))

    pub layered_id : (c : Bool) → last_layer c h.ext o.none 0 (layers h (member_count all_members)) (member_parts c all_members) ≡ own (object c)
    layered_id c =
        let few : AllWithin h.bases (length (member_parts c base_members)) = subst (λ n. AllWithin h.bases n) (sym (parts-count c base_members)) within in
        ap (λ ps. last_layer c h.ext o.none 0 (layers h (member_count all_members)) ps) (parts_on c before ms) ∙ last_front h.ext own_layer c o.none 0 h.bases (member_parts c base_members) (parts c) few ∙ ap own (own_object_is c)

    pub layered_texts : layer_texts h.ext (λ c. o.none) 0 (layers h (member_count all_members)) (member_texts all_members) (λ c. member_parts c all_members)
        ≡ layer_texts h.ext (λ c. o.none) 0 h.bases (member_texts base_members) (λ c. member_parts c base_members) ++ (joined needs ++ both_texts object)
    layered_texts =
        let few : AllWithin h.bases (length (member_texts base_members)) = subst (λ n. AllWithin h.bases n) (sym (texts-count base_members)) within in
        let as_many : (c : Bool) → length (member_parts c base_members) ≡ length (member_texts base_members) = λ c. parts-count c base_members ∙ sym (texts-count base_members) in
        let same_parts : ◌≡◌ {A = Bool → List MemberPart} (λ c. member_parts c all_members) (λ c. member_parts c base_members ++ parts c) = fun_ext (λ c. parts_on c before ms) in
        let same_object : ◌≡◌ {A = Bool → Object} (λ c. layer_object c h.ext (base_id c) (last_had 0 h.bases) own_layer (member_parts c base_members ++ parts c)) object = fun_ext own_object_is in
        let front : List (List ℕ) = layer_texts h.ext (λ c. o.none) 0 h.bases (member_texts base_members) (λ c. member_parts c base_members) in
        ap (λ ns. layer_texts h.ext (λ c. o.none) 0 (layers h (member_count all_members)) ns (λ c. member_parts c all_members)) (texts_on before ms)
        ∙ ap (λ (ps : Bool → List MemberPart). layer_texts h.ext (λ c. o.none) 0 (layers h (member_count all_members)) (member_texts base_members ++ needs) ps) same_parts
        ∙ texts_front h.ext own_layer (member_texts base_members) needs (λ c. member_parts c base_members) parts as_many (λ c. o.none) 0 h.bases few
        ∙ ap (λ ns. front ++ (joined ns ++ both_texts (λ c. layer_object c h.ext (base_id c) (last_had 0 h.bases) own_layer (member_parts c base_members ++ parts c)))) (between-behind (last_had 0 h.bases) own_layer.count (member_texts base_members) needs (omega (arith, all, texts-count base_members)) needs_long)
        ∙ ap (λ (f : Bool → Object). front ++ (joined needs ++ both_texts f)) same_object

  -- ---- a structure's definition

  -- the texts that a structure needs before those of its own members, what it names as its base, and what it is named by
  pub record IsOn (s : StructDefinition) (name : Text) (h : StructHead) (before : ListedMembers) (first : List (List ℕ)) (base : Bool → Identifier) : Type 0 where
    pub texts_are : texts (structure h (members_of (before ++ map (member_whole ts) s.members)))
        ≡ first ++ (joined (map (λ m. texts (whole ts m.used)) s.members) ++ both_texts (λ c. struct_object c (Some name) s.ext s.nested s.hashed_ids (base c) (map (used_member_part c ts) s.members)))
    pub named : (c : Bool) → identifier c (structure h (members_of (before ++ map (member_whole ts) s.members))) ≡ own (struct_object c (Some name) s.ext s.nested s.hashed_ids (base c) (map (used_member_part c ts) s.members))

  abbrev pub head_on : StructDefinition → Text → List Base → StructHead
  head_on s name bs = record { name = Some name; ext = s.ext; nested = s.nested; hashed_ids = s.hashed_ids; bases = bs }

  pub on_none : (s : StructDefinition) (name : Text) → IsOn s name (head_on s name []) [] [] (λ c. o.none)
  unfolding texts identifier member_texts member_parts
  on_none s name = record { texts_are = layered_texts (head_on s name []) [] s.members tt refl; named = layered_id (head_on s name []) [] s.members tt refl }

  module _ (s : StructDefinition) (name : Text) (hb : StructHead) (msb : Members) (same : s.ext ≡ hb.ext) (valid : type_fault (structure hb msb) ≡ None) where
    few : member_count msb ≤ 65536
    few = few_members hb msb valid

    layers_are : bases_on (structure hb msb) ≡ layers hb (member_count msb)
    layers_are = ap (λ b. hb.bases ++ b ∷ []) (as_top hb msb few)

    within : AllWithin (layers hb (member_count msb)) (member_count msb)
    within = rises_within 0 hb.bases (top hb (member_count msb)) (member_count msb) (comes_back (structure hb msb) valid).2 (omega arith)

    all_had : last_had 0 (layers hb (member_count msb)) ≡ member_count msb
    all_had = omega (arith, had_within 0 (layers hb (member_count msb)) (member_count msb) (omega arith) within, last-top 0 hb.bases (top hb (member_count msb)))

    on_layers : IsOn s name (head_on s name (layers hb (member_count msb))) (listed msb) (texts (structure hb msb)) (λ c. identifier c (structure hb msb))
    unfolding texts identifier
    on_layers =
        let h = head_on s name (layers hb (member_count msb)) in
        let back : members_of (listed msb) ≡ msb = listed_back msb in
        let in_count : AllWithin h.bases (member_count (members_of (listed msb))) = subst (λ ms. AllWithin h.bases (member_count ms)) (sym back) within in
        let had : last_had 0 h.bases ≡ member_count (members_of (listed msb)) = all_had ∙ ap member_count (sym back) in
        let base_is : ◌≡◌ {A = Bool → Identifier} (λ c. last_layer c s.ext o.none 0 (layers hb (member_count msb)) (member_parts c (members_of (listed msb)))) (λ c. last_layer c hb.ext o.none 0 (layers hb (member_count msb)) (member_parts c msb)) =
        ap (λ ms c. last_layer c s.ext o.none 0 (layers hb (member_count msb)) (member_parts c ms)) back ∙ ap (λ e c. last_layer c e o.none 0 (layers hb (member_count msb)) (member_parts c msb)) same in
        let first_is : layer_texts s.ext (λ c. o.none) 0 (layers hb (member_count msb)) (member_texts (members_of (listed msb))) (λ c. member_parts c (members_of (listed msb))) ≡ texts (structure hb msb) =
        ap (λ ms. layer_texts s.ext (λ c. o.none) 0 (layers hb (member_count msb)) (member_texts ms) (λ c. member_parts c ms)) back ∙ ap (λ e. layer_texts e (λ c. o.none) 0 (layers hb (member_count msb)) (member_texts msb) (λ c. member_parts c msb)) same in
        let own_needs : List (List ℕ) = joined (map (λ m. texts (whole ts m.used)) s.members) in
        record {
          texts_are =
              layered_texts h (listed msb) s.members in_count had
              ∙ ap (λ (f : Bool → Identifier). layer_texts s.ext (λ c. o.none) 0 (layers hb (member_count msb)) (member_texts (members_of (listed msb))) (λ c. member_parts c (members_of (listed msb))) ++ (own_needs ++ both_texts (λ c. struct_object c (Some name) s.ext s.nested s.hashed_ids (f c) (map (used_member_part c ts) s.members)))) base_is
              ∙ ap (λ us. us ++ (own_needs ++ both_texts (λ c. struct_object c (Some name) s.ext s.nested s.hashed_ids (identifier c (structure hb msb)) (map (used_member_part c ts) s.members)))) first_is;
          named = λ c. layered_id h (listed msb) s.members in_count had c ∙ ap (λ (f : Bool → Identifier). own (struct_object c (Some name) s.ext s.nested s.hashed_ids (f c) (map (used_member_part c ts) s.members))) base_is;
        }

    pub on_structure : IsOn s name (head_on s name (bases_on (structure hb msb))) (listed msb) (texts (structure hb msb)) (λ c. identifier c (structure hb msb))
    on_structure = subst (λ bs. IsOn s name (head_on s name bs) (listed msb) (texts (structure hb msb)) (λ c. identifier c (structure hb msb))) (sym layers_are) on_layers

  pub on_base : (s : StructDefinition) (name : Text) (b : Tree) → is_structure_of s.ext b ≡ true → type_fault b ≡ None → IsOn s name (head_on s name (bases_on b)) (members_on b) (texts b) (λ c. identifier c b)
  on_base s name (structure hb msb) fits valid = on_structure s name hb msb (same_ext_is s.ext hb.ext fits) valid
  on_base s name (prim p) fits valid = absurd cc
  on_base s name (str n) fits valid = absurd cc
  on_base s name (enumeration n x b ls) fits valid = absurd cc
  on_base s name (bitmask n b fs) fits valid = absurd cc
  on_base s name (sequence n tc t) fits valid = absurd cc
  on_base s name (array ds tc t) fits valid = absurd cc
  on_base s name (map_of n kc k vc v) fits valid = absurd cc
  on_base s name (union h d cs) fits valid = absurd cc
  on_base s name (alias n t) fits valid = absurd cc
