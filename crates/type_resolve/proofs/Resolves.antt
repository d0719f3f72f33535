-- The walk gives the type again.
use Rattle.std.proofs.Common.{◌≡◌, ℕ, ◌+◌, ◌<◌, ◌≤◌, List, [], ◌∷◌, ◌++◌, map, take, drop, max, length, refl, sym, ap, subst, ◌∙◌, append_assoc, arith}
use Rattle.std.proofs.lemmas.List.{append-nil, take_all, length-take-le, length-map, drop-map, take-map}
use Rattle.std.specs.Prelude.{Bool, true, Option, Ok}
use Rattle.xt_shapes.specs.declared.leaves.Ext.{Ext}
use Rattle.xt_shapes.specs.declared.leaves.Step.TheVariants as S
use Rattle.type_trees.specs.declared.types.HashId.{HashId}
use Rattle.type_trees.specs.declared.types.Base.{Base}
use Rattle.type_trees.specs.declared.types.Flag.{Flag}
use Rattle.type_trees.specs.Trees.{MemberHead, CaseHead, StructHead, UnionHead, Tree, prim, str, enumeration, bitmask, sequence, array, map_of, structure, union, alias, Members, no_members, member, Cases, no_cases, one_case}
use Rattle.type_trees.specs.View.{members_of, cases_of}
use Rattle.type_trees.specs.sizes.TypeNodes.{nodes, member_nodes, case_nodes}
use Rattle.type_rules.specs.Places.{depth, members_depth, cases_depth}
use Rattle.object_formats.specs.Objects as o
use Rattle.object_formats.specs.Objects.{Identifier, MemberPart, CasePart, Object}
use Rattle.object_formats.specs.Tables.{text_of}
use Rattle.type_object.specs.Names.{named}
use Rattle.type_object.specs.Pools.{Texts}
use Rattle.object_walks.specs.Resolving as r
use Rattle.object_walks.specs.Resolving.{try_of, Stop, Got, Walk, ◌>>=◌, walk, node}
use Rattle.type_resolve.specs.Objects.{own, set, top, literal_part, flag_part, case_part, union_object, member_flags, case_flags, between, layers, layer_object, last_layer, member_count, member_parts, case_parts, identifier, try_flags, type_flags, alias_object}
use Rattle.type_resolve.specs.Held.{EachObject, EachMember, EachCase, EachLayer, IsIn}
use Rattle.type_resolve.proofs.Returning.{Rises, EachPosition, ComesBack, MembersComeBack, CasesComeBack}
use Rattle.type_resolve.proofs.Present.{take-max}
use Rattle.type_resolve.proofs.Back.{tries_back, member_back, member_says, case_back, case_says, type_says, ext_back, key_says, literals_back, octet_back}
use Rattle.type_resolve.proofs.Weights.{weight, weigh, total, layers_weight, member_weights, case_weights, Weighs, AllWeigh, types_of, layer_weighs, none_weighs, tree_weighs, members_weigh}
use Rattle.type_resolve.proofs.Walks.{total_nodes-append, Above, above-less, follows, level, part_is, then_ok, Listed, total_nodes, weights_of, AllGo, go-take, go-drop, members_are, Stands, none_stands, next_stands}

-- ---- a structure's members as a list

abbrev pub list_of : Members → Listed
list_of no_members = []
list_of (member h t ms) = (h, t) ∷ list_of ms

members_again : (ms : Members) → members_of (list_of ms) ≡ ms
members_again no_members = refl
members_again (member h t ms) = ap (member h t) (members_again ms)

list-count : (ms : Members) → length (list_of ms) ≡ member_count ms
list-count no_members = refl
list-count (member h t ms) = let rest = list-count ms in omega arith

list-nodes : (ms : Members) → total_nodes (list_of ms) ≡ member_nodes ms
list-nodes no_members = refl
list-nodes (member h t ms) = ap (λ n. nodes t + n) (list-nodes ms)

list-weights : (ms : Members) → weights_of (list_of ms) ≡ member_weights ms
list-weights no_members = refl
list-weights (member h t ms) = ap (λ ws. weight t ∷ ws) (list-weights ms)

weights-between : (had count : ℕ) (ms : Listed) → weights_of (between had count ms) ≡ between had count (weights_of ms)
weights-between had count ms = sym (drop-map (λ (m : MemberHead × Tree). weight m.1) had (take count ms)) ∙ ap (drop had) (sym (take-map (λ (m : MemberHead × Tree). weight m.1) count ms))

layers-grow : (bw had : ℕ) (bs : List Base) (ws : List ℕ) → bw ≤ layers_weight bw had bs ws
layers-grow bw had [] ws = omega arith
layers-grow bw had (b ∷ bs) ws = let rest = layers-grow (1 + (bw + total (between had b.count ws))) (max had b.count) bs ws in omega arith

-- the layers weigh at least what is behind the first members
total-append : (a b : List ℕ) → total (a ++ b) ≡ total a + total b
total-append [] b = omega arith
total-append (n ∷ a) b = let rest = total-append a b in omega arith

covers_from : (bw had : ℕ) (bs : List Base) (b : Base) (ws : List ℕ) → length ws ≤ b.count → total (take had ws) ≤ bw → total ws ≤ layers_weight bw had (bs ++ b ∷ []) ws
covers_from bw had [] b ws long so_far =
    let sum : total ws ≡ total (take had ws) + total (between had b.count ws) = ap total (sym (take_all (max had b.count) ws (omega arith)) ∙ take-max had b.count ws) ∙ total-append (take had ws) (between had b.count ws) in
    omega arith
covers_from bw had (c ∷ bs) b ws long so_far =
    let sum : total (take (max had c.count) ws) ≡ total (take had ws) + total (between had c.count ws) = ap total (take-max had c.count ws) ∙ total-append (take had ws) (between had c.count ws) in
    covers_from (1 + (bw + total (between had c.count ws))) (max had c.count) bs b ws long (omega arith)

none_taken : (ws : List ℕ) → total (take 0 ws) ≡ 0
none_taken [] = refl
none_taken (w ∷ ws) = refl

covers : (bw had : ℕ) (bs : List Base) (b : Base) (ws : List ℕ) → length ws ≤ b.count → total ws ≤ layers_weight bw 0 (bs ++ b ∷ []) ws
covers bw had bs b ws long = covers_from bw 0 bs b ws long (omega (arith, none_taken ws))

module _ (pool : Texts) (most : ℕ) where
  -- ---- the layers below the structure itself

  module _ (go : Walk) (ext : Ext) (parts : List MemberPart) (all : Listed) (itself : Base) (go_all : AllGo pool most go parts all) (weigh_all : AllWeigh pool (types_of pool parts) (weights_of all)) where
    -- what stands below the structure itself
    pub record Below (done : List Base) (last : Identifier) (heavy : ℕ) : Type 0 where
      pub base : Identifier
      pub bw : ℕ
      pub had : ℕ
      pub within : had ≤ length all
      pub stands : Stands pool most go ext base bw done (take had all)
      pub here : IsIn pool (layer_object true ext base had itself parts)
      pub is : last ≡ own (layer_object true ext base had itself parts)
      pub weighs : heavy ≡ 1 + (bw + total (between had itself.count (weights_of all)))

    pub below : (done bs : List Base) (base : Identifier) (bw had : ℕ) → Stands pool most go ext base bw done (take had all) → Weighs pool base bw → had ≤ length all → Rises had bs (length all)
        → EachLayer (IsIn pool) ext base had (bs ++ itself ∷ []) parts → layers_weight bw had (bs ++ itself ∷ []) (weights_of all) ≤ most
        → Below (done ++ bs) (last_layer true ext base had (bs ++ itself ∷ []) parts) (layers_weight bw had (bs ++ itself ∷ []) (weights_of all))
    below done [] base bw had stands heavy within rises each light = record {
      base = base;
      bw = bw;
      had = had;
      within = within;
      stands = subst (λ bs. Stands pool most go ext base bw bs (take had all)) (sym (append-nil done)) stands;
      here = each.0;
      is = refl;
      weighs = refl;
    }
    below done (b ∷ bs) base bw had stands heavy within rises each light =
        let more = between had b.count all in
        let x = layer_object true ext base had b parts in
        let ws : weights_of more ≡ between had b.count (weights_of all) = weights-between had b.count all in
        let bw' = 1 + (bw + total (between had b.count (weights_of all))) in
        let grow : bw' ≤ layers_weight bw' (max had b.count) (bs ++ itself ∷ []) (weights_of all) = layers-grow bw' (max had b.count) (bs ++ itself ∷ []) (weights_of all) in
        let next_heavy : Weighs pool (own x) bw' = layer_weighs pool ext base bw had b parts (weights_of all) each.0 heavy weigh_all in
        let greatest : max had b.count ≡ b.count = omega (arith, rises.0) in
        let joined_up : take had all ++ more ≡ take (max had b.count) all = sym (take-max had b.count all) in
        let long : length (take had all ++ more) ≡ b.count = ap length (joined_up ∙ ap (λ n. take n all) greatest) ∙ length-take-le b.count all rises.1 in
        let own_weight : weigh most pool (own x) ≡ 1 + (bw + total (weights_of more)) = next_heavy most (omega (arith, grow, light)) ∙ ap (λ v. 1 + (bw + total v)) (sym ws) in
        let mine : AllGo pool most go (between had b.count parts) more = go-drop pool most go had (take b.count parts) (take b.count all) (go-take pool most go b.count parts all go_all) in
        let up : Stands pool most go ext (own x) (1 + (bw + total (weights_of more))) (done ++ b ∷ []) (take had all ++ more) = next_stands pool most go ext base bw had b parts done (take had all) more stands each.0 mine long own_weight in
        let up2 : Stands pool most go ext (own x) bw' (done ++ b ∷ []) (take (max had b.count) all) = subst (λ ms. Stands pool most go ext (own x) bw' (done ++ b ∷ []) ms) joined_up (subst (λ v. Stands pool most go ext (own x) (1 + (bw + total v)) (done ++ b ∷ []) (take had all ++ more)) ws up) in
        let risen : Rises (max had b.count) bs (length all) = subst (λ n. Rises n bs (length all)) (sym greatest) rises.2 in
        let rest = below (done ++ b ∷ []) bs (own x) bw' (max had b.count) up2 next_heavy (omega (arith, greatest, rises.1)) risen each.1 light in
        subst (λ ds. Below ds (last_layer true ext (own x) (max had b.count) (bs ++ itself ∷ []) parts) (layers_weight bw' (max had b.count) (bs ++ itself ∷ []) (weights_of all))) (append_assoc done (b ∷ []) bs) rest

  -- ---- nodes that are named by a hash

  -- inside an object
  deeper : (x : Object) (v w : ℕ) (is : List HashId) → weigh most pool (own x) ≡ w → v < w → Above pool most w is → Above pool most v (named (text_of x) ∷ is)
  deeper x v w is heavy lt above = (omega (arith, heavy), above-less pool most v w is (omega arith) above)

  object_node : (go : Walk) (x : Object) (w n : ℕ) (is : List HashId) (y : Got Tree) → IsIn pool x → weigh most pool (own x) ≡ w → Above pool most w is → r.of_object pool go (named (text_of x) ∷ is) x n ≡ y → node pool go is (own x) n ≡ y
  object_node go x w n is y here heavy above e = then_ok _ (follows pool most x is here (subst (λ v. Above pool most v is) (sym heavy) above)) e

  flags_back : (fs : List Flag) → EachPosition fs → map r.flag_of (map (flag_part true) fs) ≡ fs
  flags_back [] h = refl
  flags_back (f ∷ fs) h = ap (λ p. record { name = f.name; position = p } ∷ map r.flag_of (map (flag_part true) fs)) (octet_back f.position h.0) ∙ ap (λ gs. f ∷ gs) (flags_back fs h.1)

  -- a structure, from what stands below it
  struct_node : (go : Walk) (h : StructHead) (ms : Members) (base : Identifier) (bw had n : ℕ) (is : List HashId)
      → had ≤ length (list_of ms) → Stands pool most go h.ext base bw h.bases (take had (list_of ms)) → IsIn pool (layer_object true h.ext base had (top h (member_count ms)) (member_parts true ms)) → AllGo pool most go (member_parts true ms) (list_of ms)
      → weigh most pool (own (layer_object true h.ext base had (top h (member_count ms)) (member_parts true ms))) ≡ 1 + (bw + total (between had (member_count ms) (weights_of (list_of ms))))
      → length h.bases ≤ 15 → n + member_nodes ms ≤ 65536 → Above pool most (1 + (bw + total (between had (member_count ms) (weights_of (list_of ms))))) is
      → node pool go is (own (layer_object true h.ext base had (top h (member_count ms)) (member_parts true ms))) n ≡ Ok (structure h ms, n + member_nodes ms)
  struct_node go h ms base bw had n is within stands here go_all heavy few fits above =
      let all = list_of ms in
      let count = member_count ms in
      let parts = member_parts true ms in
      let mine = between had count all in
      let x = layer_object true h.ext base had (top h count) parts in
      let f = type_flags true h.ext h.nested h.hashed_ids in
      let says = type_says h.ext h.nested h.hashed_ids in
      let v = bw + total (between had count (weights_of all)) in
      let inner : Above pool most v (named (text_of x) ∷ is) = deeper x v (1 + v) is heavy (omega arith) above in
      let whole : take had all ++ mine ≡ all = sym (take-max had count all) ∙ take_all (max had count) all (omega (arith, list-count ms)) in
      let sum : total_nodes (take had all) + total_nodes mine ≡ member_nodes ms = sym (total_nodes-append (take had all) mine) ∙ ap total_nodes whole ∙ list-nodes ms in
      let ws : total (weights_of mine) ≡ total (between had count (weights_of all)) = ap total (weights-between had count all) in
      let first : r.bases 15 pool go (r.ext_of f) (named (text_of x) ∷ is) base n ≡ Ok ((h.bases, take had all), n + total_nodes (take had all)) =
      ap (λ e. r.bases 15 pool go e (named (text_of x) ∷ is) base n) says.0 ∙ stands 15 n (named (text_of x) ∷ is) few (omega (arith, sum)) (above-less pool most bw v (named (text_of x) ∷ is) (omega arith) inner) in
      let second : r.members go (named (text_of x) ∷ is) (between had count parts) (n + total_nodes (take had all)) ≡ Ok (mine, n + total_nodes (take had all) + total_nodes mine) =
      members_are pool most go (between had count parts) mine (go-drop pool most go had (take count parts) (take count all) (go-take pool most go count parts all go_all)) (n + total_nodes (take had all)) v (named (text_of x) ∷ is) (omega (arith, sum)) (omega (arith, ws)) inner in
      let answer : List (MemberHead × Tree) → ℕ → Got Tree = λ l k. Ok (structure (record { name = h.name; ext = r.ext_of f; nested = r.bit f 8; hashed_ids = r.bit f 16; bases = h.bases }) (members_of l), k) in
      let last : answer (take had all ++ mine) (n + total_nodes (take had all) + total_nodes mine) ≡ Ok (structure h ms, n + member_nodes ms) =
      ap (λ l. answer l (n + total_nodes (take had all) + total_nodes mine)) whole
      ∙ ap (λ k. answer all k) (omega (arith, sum))
      ∙ ap (λ e. Ok (structure (record { name = h.name; ext = e; nested = r.bit f 8; hashed_ids = r.bit f 16; bases = h.bases }) (members_of all), n + member_nodes ms)) says.0
      ∙ ap (λ b. Ok (structure (record { name = h.name; ext = h.ext; nested = b; hashed_ids = r.bit f 16; bases = h.bases }) (members_of all), n + member_nodes ms)) says.1
      ∙ ap (λ b. Ok (structure (record { name = h.name; ext = h.ext; nested = h.nested; hashed_ids = b; bases = h.bases }) (members_of all), n + member_nodes ms)) says.2
      ∙ ap (λ m. Ok (structure h m, n + member_nodes ms)) (members_again ms) in
      object_node go x (1 + v) n is (Ok (structure h ms, n + member_nodes ms)) here heavy above (then_ok _ first (then_ok _ (then_ok _ second refl) last))

  -- ---- unions

  abbrev pub case_list : Cases → List (CaseHead × Tree)
  case_list no_cases = []
  case_list (one_case h t cs) = (h, t) ∷ case_list cs

  cases_again : (cs : Cases) → cases_of (case_list cs) ≡ cs
  cases_again no_cases = refl
  cases_again (one_case h t cs) = ap (one_case h t) (cases_again cs)

  abbrev union_answer : Option (List ℕ) → Ext → Bool → Bool → Bool → Tree → Cases → ℕ → Got Tree
  union_answer name ext nested hashed_ids disc_key disc cs n = Ok (union (record { name = name; ext = ext; nested = nested; hashed_ids = hashed_ids; disc_key = disc_key }) disc cs, n)

  union_last : (h : UnionHead) (disc : Tree) (cs : Cases) (n : ℕ) → let f = type_flags true h.ext h.nested h.hashed_ids in union_answer h.name (r.ext_of f) (r.bit f 8) (r.bit f 16) (r.bit (1 + set h.disc_key 32) 32) disc (cases_of (case_list cs)) (n + 1 + nodes disc + case_nodes cs) ≡ Ok (union h disc cs, n + (1 + nodes disc + case_nodes cs))
  union_last h disc cs n =
      let f = type_flags true h.ext h.nested h.hashed_ids in
      let says = type_says h.ext h.nested h.hashed_ids in
      let k = n + 1 + nodes disc + case_nodes cs in
      ap (λ x. union_answer h.name x (r.bit f 8) (r.bit f 16) (r.bit (1 + set h.disc_key 32) 32) disc (cases_of (case_list cs)) k) says.0
      ∙ ap (λ x. union_answer h.name h.ext x (r.bit f 16) (r.bit (1 + set h.disc_key 32) 32) disc (cases_of (case_list cs)) k) says.1
      ∙ ap (λ x. union_answer h.name h.ext h.nested x (r.bit (1 + set h.disc_key 32) 32) disc (cases_of (case_list cs)) k) says.2
      ∙ ap (λ x. union_answer h.name h.ext h.nested h.hashed_ids x disc (cases_of (case_list cs)) k) (key_says h.disc_key)
      ∙ ap (λ c. Ok (union h disc c, k)) (cases_again cs)
      ∙ ap (λ m. Ok (union h disc cs, m)) (omega arith)

  -- ---- all types

  mutual
    unfolding identifier

    pub tree_walks : (t : Tree) → EachObject (IsIn pool) t → ComesBack t → weight t ≤ most → (levels n : ℕ) (is : List HashId) → depth t ≤ levels → n + nodes t ≤ 65536 → Above pool most (weight t) is → walk levels pool is (identifier true t) n ≡ Ok (t, n + nodes t)
    tree_walks (prim p) each back light levels n is deep fits above = level pool levels n is (o.prim p) _ (omega arith) (omega arith) (λ l e. refl)
    tree_walks (str bound) each back light levels n is deep fits above = level pool levels n is (o.str bound) _ (omega arith) (omega arith) (λ l e. refl)
    tree_walks (enumeration name ext bits ls) each back light levels n is deep fits above =
        level pool levels n is (identifier true (enumeration name ext bits ls)) _ (omega arith) (omega arith) (λ l e.
        object_node (walk l pool) _ 1 (n + 1) is _ each (tree_weighs pool (enumeration name ext bits ls) each most light) above
        (ap (λ x. Ok (enumeration name x (r.in_octet bits) (map r.literal_of (map (literal_part true) ls)), n + 1)) (ext_back ext) ∙ ap (λ x. Ok (enumeration name ext x (map r.literal_of (map (literal_part true) ls)), n + 1)) (octet_back bits back) ∙ ap (λ x. Ok (enumeration name ext bits x, n + 1)) (literals_back ls)))
    tree_walks (bitmask name bits fs) each back light levels n is deep fits above =
        level pool levels n is (identifier true (bitmask name bits fs)) _ (omega arith) (omega arith) (λ l e.
        object_node (walk l pool) _ 1 (n + 1) is _ each (tree_weighs pool (bitmask name bits fs) each most light) above
        (ap (λ x. Ok (bitmask name x (map r.flag_of (map (flag_part true) fs)), n + 1)) (octet_back bits back.0) ∙ ap (λ x. Ok (bitmask name bits x, n + 1)) (flags_back fs back.1)))
    tree_walks (sequence bound tc t) each back light levels n is deep fits above =
        level pool levels n is (identifier true (sequence bound tc t)) _ (omega arith) (omega arith) (λ l e.
        then_ok _ (part_is (walk l pool) S.Element is tc (try_flags tc) (identifier true t) (n + 1) (n + 1 + nodes t) t (tries_back tc) (tree_walks t each back (omega arith) l (n + 1) is (omega (arith, e)) (omega arith) (above-less pool most (weight t) (1 + weight t) is (omega arith) above)))
        (ap (λ k. Ok (sequence bound tc t, k)) (omega arith)))
    tree_walks (array dims tc t) each back light levels n is deep fits above =
        level pool levels n is (identifier true (array dims tc t)) _ (omega arith) (omega arith) (λ l e.
        then_ok _ (part_is (walk l pool) S.Element is tc (try_flags tc) (identifier true t) (n + 1) (n + 1 + nodes t) t (tries_back tc) (tree_walks t each back (omega arith) l (n + 1) is (omega (arith, e)) (omega arith) (above-less pool most (weight t) (1 + weight t) is (omega arith) above)))
        (ap (λ k. Ok (array dims tc t, k)) (omega arith)))
    tree_walks (map_of bound kc k vc v) each back light levels n is deep fits above =
        level pool levels n is (identifier true (map_of bound kc k vc v)) _ (omega arith) (omega arith) (λ l e.
        then_ok _ (part_is (walk l pool) S.Entry is vc (try_flags vc) (identifier true v) (n + 1) (n + 1 + nodes v) v (tries_back vc) (tree_walks v each.1 back.1 (omega arith) l (n + 1) is (omega (arith, e)) (omega arith) (above-less pool most (weight v) (1 + (weight v + weight k)) is (omega arith) above)))
        (then_ok _ (part_is (walk l pool) S.Key is kc (try_flags kc) (identifier true k) (n + 1 + nodes v) (n + 1 + nodes v + nodes k) k (tries_back kc) (tree_walks k each.0 back.0 (omega arith) l (n + 1 + nodes v) is (omega (arith, e)) (omega arith) (above-less pool most (weight k) (1 + (weight v + weight k)) is (omega arith) above)))
        (ap (λ m. Ok (map_of bound kc k vc v, m)) (omega arith))))
    tree_walks (structure h ms) each back light levels n is deep fits above =
        level pool levels n is (identifier true (structure h ms)) _ (omega arith) (omega arith) (λ l e.
        let go = walk l pool in
        let all = list_of ms in
        let heavy : weigh most pool (identifier true (structure h ms)) ≡ weight (structure h ms) = tree_weighs pool (structure h ms) each most light in
        let light_all : layers_weight 1 0 (layers h (member_count ms)) (weights_of all) ≤ most = subst (λ ws. layers_weight 1 0 (layers h (member_count ms)) ws ≤ most) (sym (list-weights ms)) light in
        let list_light : total (weights_of all) ≤ layers_weight 1 0 (layers h (member_count ms)) (weights_of all) = covers 1 0 h.bases (top h (member_count ms)) (weights_of all) (omega (arith, list-count ms, length-map all (λ (m : MemberHead × Tree). weight m.1))) in
        let go_all : AllGo pool most go (member_parts true ms) all = members_go ms each.0 back.0 most (omega (arith, list_light)) l (omega (arith, e)) in
        let weigh_all : AllWeigh pool (types_of pool (member_parts true ms)) (weights_of all) = subst (λ ws. AllWeigh pool (types_of pool (member_parts true ms)) ws) (sym (list-weights ms)) (members_weigh pool ms each.0) in
        let rises : Rises 0 h.bases (length all) = subst (λ c. Rises 0 h.bases c) (sym (list-count ms)) back.2 in
        let b = below go h.ext (member_parts true ms) all (top h (member_count ms)) go_all weigh_all [] h.bases o.none 1 0 (none_stands pool most go h.ext 1) (none_weighs pool) (omega arith) rises each.1 light_all in
        let is_own : identifier true (structure h ms) ≡ own (layer_object true h.ext b.base b.had (top h (member_count ms)) (member_parts true ms)) = b.is in
        let weights : weight (structure h ms) ≡ 1 + (b.bw + total (between b.had (member_count ms) (weights_of all))) = ap (layers_weight 1 0 (layers h (member_count ms))) (sym (list-weights ms)) ∙ b.weighs in
        ap (λ i. node pool go is i (n + 1)) is_own ∙ struct_node go h ms b.base b.bw b.had (n + 1) is b.within b.stands b.here go_all (ap (weigh most pool) (sym is_own) ∙ heavy ∙ weights) back.1 (omega arith) (subst (λ w. Above pool most w is) weights above)
        ∙ ap (λ k. Ok (structure h ms, k)) (omega arith))
    tree_walks (union h disc cs) each back light levels n is deep fits above =
        level pool levels n is (identifier true (union h disc cs)) _ (omega arith) (omega arith) (λ l e.
        let go = walk l pool in
        let w = 1 + (weight disc + total (case_weights cs)) in
        let x = union_object true h (identifier true disc) (case_parts true cs) in
        let heavy : weigh most pool (own x) ≡ w = tree_weighs pool (union h disc cs) each most light in
        let f = type_flags true h.ext h.nested h.hashed_ids in
        let says = type_says h.ext h.nested h.hashed_ids in
        let inner : Above pool most (weight disc + total (case_weights cs)) (named (text_of x) ∷ is) = deeper x (weight disc + total (case_weights cs)) w is heavy (omega arith) above in
        let first = part_is go S.Disc (named (text_of x) ∷ is) (try_of (1 + set h.disc_key 32)) (1 + set h.disc_key 32) (identifier true disc) (n + 1) (n + 1 + nodes disc) disc refl (tree_walks disc each.0 back.0 (omega arith) l (n + 1) (named (text_of x) ∷ is) (omega (arith, e)) (omega arith) (above-less pool most (weight disc) (weight disc + total (case_weights cs)) (named (text_of x) ∷ is) (omega arith) inner)) in
        let second = cases_walk cs each.1 back.1 (omega arith) l (n + 1 + nodes disc) (named (text_of x) ∷ is) (omega (arith, e)) (omega arith) (above-less pool most (total (case_weights cs)) (weight disc + total (case_weights cs)) (named (text_of x) ∷ is) (omega arith) inner) in
        let last : union_answer h.name (r.ext_of f) (r.bit f 8) (r.bit f 16) (r.bit (1 + set h.disc_key 32) 32) disc (cases_of (case_list cs)) (n + 1 + nodes disc + case_nodes cs) ≡ Ok (union h disc cs, n + (1 + nodes disc + case_nodes cs)) = union_last h disc cs n in
        object_node go x w (n + 1) is _ each.2 heavy above (then_ok _ first (then_ok _ second last)))
    tree_walks (alias name t) each back light levels n is deep fits above =
        level pool levels n is (identifier true (alias name t)) _ (omega arith) (omega arith) (λ l e.
        let x = alias_object true name (identifier true t) in
        let heavy : weigh most pool (own x) ≡ 1 + weight t = tree_weighs pool (alias name t) each most light in
        object_node (walk l pool) x (1 + weight t) (n + 1) is _ each.1 heavy above
        (then_ok _ (tree_walks t each.0 back (omega arith) l (n + 1) (named (text_of x) ∷ is) (omega (arith, e)) (omega arith) (deeper x (weight t) (1 + weight t) is heavy (omega arith) above)) (ap (λ k. Ok (alias name t, k)) (omega arith))))

    members_go : (ms : Members) → EachMember (IsIn pool) ms → MembersComeBack ms → (w : ℕ) → total (weights_of (list_of ms)) ≤ most → (l : ℕ) → members_depth ms ≤ l → AllGo pool most (walk l pool) (member_parts true ms) (list_of ms)
    members_go no_members each back w light l deep = tt
    members_go (member h t ms) each back w light l deep = (
      λ n is fits above. then_ok _ (part_is (walk l pool) (S.Member h.id) is h.tc (member_flags h) (identifier true t) n (n + nodes t) t (member_says h.tc h.optional h.must_understand h.key).0 (tree_walks t each.0 back.0 (omega arith) l n is (omega arith) fits above)) (ap (λ m. Ok ((m, t), n + nodes t)) (member_back h (identifier true t))),
      members_go ms each.1 back.1 w (omega arith) l (omega arith),
    )

    cases_walk : (cs : Cases) → EachCase (IsIn pool) cs → CasesComeBack cs → total (case_weights cs) ≤ most → (l n : ℕ) (is : List HashId) → cases_depth cs ≤ l → n + case_nodes cs ≤ 65536 → Above pool most (total (case_weights cs)) is → r.cases (walk l pool) is (case_parts true cs) n ≡ Ok (case_list cs, n + case_nodes cs)
    cases_walk no_cases each back light l n is deep fits above = ap (λ k. Ok ([], k)) (omega arith)
    cases_walk (one_case h t cs) each back light l n is deep fits above =
        let first : r.case (walk l pool) is (case_part true h (identifier true t)) n ≡ Ok ((h, t), n + nodes t) =
        then_ok _ (part_is (walk l pool) (S.Member h.id) is h.tc (case_flags h) (identifier true t) n (n + nodes t) t (case_says h.tc h.is_default).0 (tree_walks t each.0 back.0 (omega arith) l n is (omega arith) (omega arith) (above-less pool most (weight t) (weight t + total (case_weights cs)) is (omega arith) above))) (ap (λ m. Ok ((m, t), n + nodes t)) (case_back h (identifier true t))) in
        then_ok _ first (then_ok _ (cases_walk cs each.1 back.1 (omega arith) l (n + nodes t) is (omega arith) (omega arith) (above-less pool most (total (case_weights cs)) (weight t + total (case_weights cs)) is (omega arith) above)) (ap (λ k. Ok ((h, t) ∷ case_list cs, k)) (omega arith)))
