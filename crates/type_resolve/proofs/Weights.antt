-- How large the tree of an identifier is, told from a pool alone. So one identifier can't stand for two trees of different sizes.
use Rattle.std.proofs.Common.{◌≡◌, ℕ, zero, suc, ◌+◌, ◌<◌, ◌≤◌, List, [], ◌∷◌, map, take, drop, max, refl, sym, ap, subst, ◌∙◌, arith}
use Rattle.std.proofs.lemmas.List.{drop-map, take-map}
use Rattle.std.specs.Prelude.{true, Option, Some, None}
use Rattle.xt_shapes.specs.declared.leaves.Ext.{Ext}
use Rattle.type_trees.specs.declared.types.Base.{Base}
use Rattle.type_trees.specs.Trees.{Tree, prim, str, enumeration, bitmask, sequence, array, map_of, structure, union, alias, Members, no_members, member, Cases, no_cases, one_case}
use Rattle.object_formats.specs.Objects as o
use Rattle.object_formats.specs.Objects.{Identifier, MemberPart, CasePart, Object}
use Rattle.type_object.specs.Pools.{Texts, object_at}
use Rattle.type_resolve.specs.Objects.{own, between, layers, layer_object, last_layer, member_count, identifier, member_parts, case_parts}
use Rattle.type_resolve.specs.Held.{EachObject, EachMember, EachCase, EachLayer, IsIn}

abbrev pub total : List ℕ → ℕ
total [] = 0
total (n ∷ ns) = n + total ns

-- ---- of trees

abbrev pub layers_weight : ℕ → ℕ → List Base → List ℕ → ℕ
layers_weight base had [] ws = base
layers_weight base had (b ∷ bs) ws = layers_weight (1 + (base + total (between had b.count ws))) (max had b.count) bs ws

abbrev mutual
  pub weight : Tree → ℕ
  weight (prim p) = 1
  weight (str bound) = 1
  weight (enumeration name ext bits literals) = 1
  weight (bitmask name bits flags) = 1
  weight (sequence bound tc t) = 1 + weight t
  weight (array dims tc t) = 1 + weight t
  weight (map_of bound kc k vc v) = 1 + (weight v + weight k)
  weight (structure h ms) = layers_weight 1 0 (layers h (member_count ms)) (member_weights ms)
  weight (union h disc cs) = 1 + (weight disc + total (case_weights cs))
  weight (alias name t) = 1 + weight t

  pub member_weights : Members → List ℕ
  member_weights no_members = []
  member_weights (member h t ms) = weight t ∷ member_weights ms

  pub case_weights : Cases → List ℕ
  case_weights no_cases = []
  case_weights (one_case h t cs) = weight t ∷ case_weights cs

-- ---- of identifiers in a pool, so many steps deep

abbrev pub object_weight : (Identifier → ℕ) → Option Object → ℕ
object_weight go None = 0
object_weight go (Some (o.alias n t)) = 1 + go t
object_weight go (Some (o.enumeration n f b l)) = 1
object_weight go (Some (o.bitmask n b f)) = 1
object_weight go (Some (o.structure n f b ms)) = 1 + (go b + total (map (λ m. go m.ty) ms))
object_weight go (Some (o.union n f df d cs)) = 1 + (go d + total (map (λ c. go c.ty) cs))

abbrev pub node_weight : (Identifier → ℕ) → Texts → Identifier → ℕ
node_weight go pool o.none = 1
node_weight go pool (o.prim p) = 1
node_weight go pool (o.str n) = 1
node_weight go pool (o.sequence ek flags bound t) = 1 + go t
node_weight go pool (o.array ek flags dims t) = 1 + go t
node_weight go pool (o.map_of ek flags bound v kf k) = 1 + (go v + go k)
node_weight go pool (o.hash id) = object_weight go (object_at id pool)

unfoldable pub weigh : ℕ → Texts → Identifier → ℕ
weigh zero pool i = 0
weigh (suc k) pool i = node_weight (weigh k pool) pool i

-- ---- they are the same

module _ (pool : Texts) where
  -- an identifier is so heavy, as soon as so many steps are taken
  abbrev pub Weighs : Identifier → ℕ → Type 0
  Weighs i w = (k : ℕ) → w ≤ k → weigh k pool i ≡ w

  weighs_by : (i : Identifier) (w : ℕ) → 0 < w → ((k : ℕ) → w ≤ suc k → node_weight (weigh k pool) pool i ≡ w) → Weighs i w
  unfolding weigh
  weighs_by i w some h zero le = absurd (omega arith)
  weighs_by i w some h (suc k) le = h k le

  -- an object that is there
  weighs_own : (x : Object) (w : ℕ) → IsIn pool x → 0 < w → ((k : ℕ) → w ≤ suc k → object_weight (weigh k pool) (Some x) ≡ w) → Weighs (own x) w
  weighs_own x w is some h = weighs_by (own x) w some (λ k le. ap (object_weight (weigh k pool)) is ∙ h k le)

  -- of each part
  abbrev pub AllWeigh : List Identifier → List ℕ → Type 0
  AllWeigh [] [] = Unit {0}
  AllWeigh [] (w ∷ ws) = ⊥
  AllWeigh (i ∷ is) [] = ⊥
  AllWeigh (i ∷ is) (w ∷ ws) = Weighs i w × AllWeigh is ws

  total_is : (is : List Identifier) (ws : List ℕ) (k : ℕ) → AllWeigh is ws → total ws ≤ k → total (map (weigh k pool) is) ≡ total ws
  total_is [] [] k h le = refl
  total_is [] (w ∷ ws) k h le = absurd h
  total_is (i ∷ is) [] k h le = absurd h
  total_is (i ∷ is) (w ∷ ws) k h le =
      let first : weigh k pool i ≡ w = h.0 k (omega arith) in
      let rest : total (map (weigh k pool) is) ≡ total ws = total_is is ws k h.1 (omega arith) in
      omega arith

  all-take : (n : ℕ) (is : List Identifier) (ws : List ℕ) → AllWeigh is ws → AllWeigh (take n is) (take n ws)
  all-take zero [] [] h = tt
  all-take (suc n) [] [] h = tt
  all-take n [] (w ∷ ws) h = absurd h
  all-take n (i ∷ is) [] h = absurd h
  all-take zero (i ∷ is) (w ∷ ws) h = tt
  all-take (suc n) (i ∷ is) (w ∷ ws) h = (h.0, all-take n is ws h.1)

  all-drop : (n : ℕ) (is : List Identifier) (ws : List ℕ) → AllWeigh is ws → AllWeigh (drop n is) (drop n ws)
  all-drop zero [] [] h = tt
  all-drop (suc n) [] [] h = tt
  all-drop n [] (w ∷ ws) h = absurd h
  all-drop n (i ∷ is) [] h = absurd h
  all-drop zero (i ∷ is) (w ∷ ws) h = h
  all-drop (suc n) (i ∷ is) (w ∷ ws) h = all-drop n is ws h.1

  -- ---- layers

  abbrev pub types_of : List MemberPart → List Identifier
  types_of ms = map (λ m. m.ty) ms

  parts_total : (go : Identifier → ℕ) (ms : List MemberPart) → total (map (λ m. go m.ty) ms) ≡ total (map go (types_of ms))
  parts_total go [] = refl
  parts_total go (m ∷ ms) = ap (λ n. go m.ty + n) (parts_total go ms)

  case_total : (go : Identifier → ℕ) (cs : List CasePart) → total (map (λ c. go c.ty) cs) ≡ total (map go (map (λ c. c.ty) cs))
  case_total go [] = refl
  case_total go (c ∷ cs) = ap (λ n. go c.ty + n) (case_total go cs)

  own-between : (had count : ℕ) (ms : List MemberPart) → types_of (between had count ms) ≡ between had count (types_of ms)
  own-between had count ms = sym (drop-map (λ (m : MemberPart). m.ty) had (take count ms)) ∙ ap (drop had) (sym (take-map (λ (m : MemberPart). m.ty) count ms))

  -- the weight of a layer on a base
  pub layer_weighs : (ext : Ext) (base : Identifier) (bw had : ℕ) (b : Base) (parts : List MemberPart) (ws : List ℕ) → IsIn pool (layer_object true ext base had b parts) → Weighs base bw → AllWeigh (types_of parts) ws
      → Weighs (own (layer_object true ext base had b parts)) (1 + (bw + total (between had b.count ws)))
  layer_weighs ext base bw had b parts ws is h all =
      weighs_own (layer_object true ext base had b parts) (1 + (bw + total (between had b.count ws))) is (omega arith) (λ k le.
      let mine : AllWeigh (types_of (between had b.count parts)) (between had b.count ws) = subst (λ is. AllWeigh is (between had b.count ws)) (sym (own-between had b.count parts)) (all-drop had (take b.count (types_of parts)) (take b.count ws) (all-take b.count (types_of parts) ws all)) in
      let first : weigh k pool base ≡ bw = h k (omega arith) in
      let sum : total (map (λ m. weigh k pool m.ty) (between had b.count parts)) ≡ total (between had b.count ws) = parts_total (weigh k pool) (between had b.count parts) ∙ total_is (types_of (between had b.count parts)) (between had b.count ws) k mine (omega arith) in
      ap (λ n. 1 + (n + total (map (λ m. weigh k pool m.ty) (between had b.count parts)))) first ∙ ap (λ n. 1 + (bw + n)) sum)

  last_weighs : (ext : Ext) (base : Identifier) (bw had : ℕ) (bs : List Base) (parts : List MemberPart) (ws : List ℕ) → EachLayer (IsIn pool) ext base had bs parts → Weighs base bw → AllWeigh (types_of parts) ws
      → Weighs (last_layer true ext base had bs parts) (layers_weight bw had bs ws)
  last_weighs ext base bw had [] parts ws each h all = h
  last_weighs ext base bw had (b ∷ bs) parts ws each h all =
      last_weighs ext (own (layer_object true ext base had b parts)) (1 + (bw + total (between had b.count ws))) (max had b.count) bs parts ws each.1 (layer_weighs ext base bw had b parts ws each.0 h all) all

  pub none_weighs : Weighs o.none 1
  none_weighs = weighs_by o.none 1 (omega arith) (λ k le. refl)

  -- ---- trees

  mutual
    unfolding identifier

    pub tree_weighs : (t : Tree) → EachObject (IsIn pool) t → Weighs (identifier true t) (weight t)
    tree_weighs (prim p) each = weighs_by (o.prim p) 1 (omega arith) (λ k le. refl)
    tree_weighs (str bound) each = weighs_by (o.str bound) 1 (omega arith) (λ k le. refl)
    tree_weighs (enumeration name ext bits literals) each = weighs_own _ 1 each (omega arith) (λ k le. refl)
    tree_weighs (bitmask name bits flags) each = weighs_own _ 1 each (omega arith) (λ k le. refl)
    tree_weighs (sequence bound tc t) each = let h = tree_weighs t each in weighs_by (identifier true (sequence bound tc t)) (1 + weight t) (omega arith) (λ k le. ap (λ n. 1 + n) (h k (omega arith)))
    tree_weighs (array dims tc t) each = let h = tree_weighs t each in weighs_by (identifier true (array dims tc t)) (1 + weight t) (omega arith) (λ k le. ap (λ n. 1 + n) (h k (omega arith)))
    tree_weighs (map_of bound kc k vc v) each =
        let first = tree_weighs v each.1 in
        let second = tree_weighs k each.0 in
        weighs_by (identifier true (map_of bound kc k vc v)) (1 + (weight v + weight k)) (omega arith) (λ n le. ap (λ m. 1 + (m + weigh n pool (identifier true k))) (first n (omega arith)) ∙ ap (λ m. 1 + (weight v + m)) (second n (omega arith)))
    tree_weighs (structure head ms) each = last_weighs head.ext o.none 1 0 (layers head (member_count ms)) (member_parts true ms) (member_weights ms) each.1 none_weighs (members_weigh ms each.0)
    tree_weighs (union head disc cs) each =
        let first = tree_weighs disc each.0 in
        let rest = cases_weigh cs each.1 in
        weighs_own _ (1 + (weight disc + total (case_weights cs))) each.2 (omega arith) (λ k le.
        let sum : total (map (λ c. weigh k pool c.ty) (case_parts true cs)) ≡ total (case_weights cs) = case_total (weigh k pool) (case_parts true cs) ∙ total_is (map (λ c. c.ty) (case_parts true cs)) (case_weights cs) k rest (omega arith) in
        ap (λ n. 1 + (n + total (map (λ c. weigh k pool c.ty) (case_parts true cs)))) (first k (omega arith)) ∙ ap (λ n. 1 + (weight disc + n)) sum)
    tree_weighs (alias name t) each = let h = tree_weighs t each.0 in weighs_own _ (1 + weight t) each.1 (omega arith) (λ k le. ap (λ n. 1 + n) (h k (omega arith)))

    pub members_weigh : (ms : Members) → EachMember (IsIn pool) ms → AllWeigh (types_of (member_parts true ms)) (member_weights ms)
    members_weigh no_members each = tt
    members_weigh (member head t ms) each = (tree_weighs t each.0, members_weigh ms each.1)

    cases_weigh : (cs : Cases) → EachCase (IsIn pool) cs → AllWeigh (map (λ c. c.ty) (case_parts true cs)) (case_weights cs)
    cases_weigh no_cases each = tt
    cases_weigh (one_case head t cs) each = (tree_weighs t each.0, cases_weigh cs each.1)
