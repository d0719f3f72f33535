-- The structures of drawn members break no rule.
use Rattle.std.proofs.Common.{◌≡◌, ℕ, zero, suc, ◌+◌, ◌*◌, ◌<◌, ◌≤◌, Bool, true, cond, ◌&&◌, List, [], ◌∷◌, map, length, Option, Some, None, refl, ap, ap₂, ◌∙◌, lit≤, arith}
use Rattle.std.specs.Prelude.{nat_eq}
use Rattle.std.specs.Option.{option_map}
use Rattle.std.proofs.lemmas.Bool.{lt-ltb, le-leb, and_from}
use Rattle.xt_shapes.specs.declared.leaves.Ext.{Ext}
use Rattle.xt_shapes.specs.declared.leaves.Step.{Step}
use Rattle.xt_shapes.specs.Keyable.{counted_keyable}
use Rattle.xt_shapes.specs.Lists.{all, or_else}
use Rattle.xt_shapes.specs.NodeRules.{distinct, not_empty, hashes_apart, is_low, keys_discard}
use Rattle.xt_shapes.specs.Shape.{heads}
use Rattle.xt_shapes.specs.Weight.{weight, weights}
use Rattle.type_trees.specs.Trees.{Tree, Members}
use Rattle.type_trees.specs.View.{members_of}
use Rattle.type_trees.specs.Bridge.{shape, member_shapes}
use Rattle.type_trees.specs.sizes.TypeNodes.{nodes, member_nodes}
use Rattle.node_rules.specs.Names.{name_fits}
use Rattle.node_rules.specs.Table.{member_names, rules_at, first_broken, failing}
use Rattle.type_rules.specs.faultless.Laws.{Hold}
use Rattle.type_rules.specs.Valid.{fault_beneath, first_fault, fault_inside, members_fault, first_deep, deep_members, is_small, type_fault}
use Rattle.type_rules.proofs.DeepSteps.{deep_suc, deep_structure, deep_no_members, deep_member}
use Rattle.type_rules.proofs.FaultSteps.{fault_is, inside_structure, members_fault_none, members_fault_step}
use Rattle.xt_vectors.specs.declared.plans.Plan.{Plan}
use Rattle.xt_vectors.specs.declared.plans.Sort.{Sort}
use Rattle.xt_vectors.specs.declared.plans.Sort.TheVariants.{Long, Octet, Text, Shorts, Literals, Pair}
use Rattle.xt_vectors.specs.Types.{enumeration_of, inner, type_of, member_of, structure_of}
use Rattle.xt_vectors.proofs.Names.{hashed, member_hash, hash_tells, member_name, enum_name, each_of, apart}
use Rattle.xt_vectors.proofs.Planned.{Fits, Between, low_high, few_between}

-- ---- the type of a member

none_broken : (rs : List (ℕ × Bool)) → Hold rs → first_broken rs ≡ None
none_broken [] h = refl
none_broken (r ∷ rs) h = ap (λ b. cond b (first_broken rs) (Some r.0)) h.0 ∙ none_broken rs h.1

enum_holds : (id last : ℕ) → id < 9 → last ≤ 3 → Hold (rules_at (enumeration_of id last))
unfolding hashed
enum_holds id zero lt le = (ap (λ b. b && true) (enum_name id lt), (refl, (refl, (refl, tt))))
enum_holds id (suc zero) lt le = (ap (λ b. b && true) (enum_name id lt), (refl, (refl, (refl, tt))))
enum_holds id (suc (suc zero)) lt le = (ap (λ b. b && true) (enum_name id lt), (refl, (refl, (refl, tt))))
enum_holds id (suc (suc (suc zero))) lt le = (ap (λ b. b && true) (enum_name id lt), (refl, (refl, (refl, tt))))
enum_holds id (suc (suc (suc (suc n)))) lt le = absurd (omega arith)

no_fault : (t : Tree) → failing t ≡ None → fault_inside t ≡ None → first_fault t ≡ None
no_fault t own below = fault_is t ∙ ap₂ (λ (a : Option ℕ) (b : Option (ℕ × List Step)). or_else (option_map (λ r. (r, [])) a) b) own below

fails_not : (t : Tree) → Hold (rules_at t) → failing t ≡ None
unfolding failing
fails_not t h = none_broken (rules_at t) h

inner_valid : first_fault inner ≡ None
unfolding hashed first_fault failing
inner_valid = refl

sort_valid : (id : ℕ) (sort : Sort) → id < 9 → Fits sort → first_fault (type_of id sort) ≡ None
unfolding type_of first_fault failing fault_inside
sort_valid id Long lt f = refl
sort_valid id Octet lt f = refl
sort_valid id (Text bound) lt f = refl
sort_valid id (Shorts bound) lt f = refl
sort_valid id (Literals last) lt f = no_fault (enumeration_of id last) (fails_not (enumeration_of id last) (enum_holds id last lt f)) refl
sort_valid id Pair lt f = inner_valid

sort_shallow : (id : ℕ) (sort : Sort) → first_deep 15 (type_of id sort) ≡ None
unfolding type_of first_deep
sort_shallow id Long = refl
sort_shallow id Octet = refl
sort_shallow id (Text bound) = refl
sort_shallow id (Shorts bound) = refl
sort_shallow id (Literals last) = refl
sort_shallow id Pair = refl

sort_nodes : (id : ℕ) (sort : Sort) → nodes (type_of id sort) ≤ 3
unfolding type_of
sort_nodes id Long = lit≤ tt
sort_nodes id Octet = lit≤ tt
sort_nodes id (Text bound) = lit≤ tt
sort_nodes id (Shorts bound) = lit≤ tt
sort_nodes id (Literals last) = lit≤ tt
sort_nodes id Pair = lit≤ tt

sort_weight : (id : ℕ) (sort : Sort) → weight (shape (type_of id sort)) ≤ 3
unfolding type_of
sort_weight id Long = lit≤ tt
sort_weight id Octet = lit≤ tt
sort_weight id (Text bound) = lit≤ tt
sort_weight id (Shorts bound) = lit≤ tt
sort_weight id (Literals last) = lit≤ tt
sort_weight id Pair = lit≤ tt

-- ---- members

abbrev pub members : List Plan → Members
members ps = members_of (map member_of ps)

all_shallow : (ps : List Plan) → deep_members 15 (members ps) ≡ None
all_shallow [] = deep_no_members 15
all_shallow (p ∷ ps) =
    let m = member_of p in
    deep_member 15 m.0 m.1 (members ps) ∙ ap₂ (λ (a b : Option (List Step)). or_else (option_map (λ q. Step.Member p.id ∷ q) a) b) (sort_shallow p.id p.sort) (all_shallow ps)

all_valid : (low high : ℕ) (ps : List Plan) → high ≤ 9 → Between low high ps → members_fault (members ps) ≡ None
all_valid low high [] le b = members_fault_none
all_valid low high (p ∷ ps) le b =
    let m = member_of p in
    let lt : p.id < 9 = omega (arith, le, low_high (p.id + 1) high ps b.2) in
    members_fault_step m.0 m.1 (members ps)
    ∙ ap₂ (λ (x y : Option (ℕ × List Step)). or_else (option_map (fault_beneath (Step.Member p.id ∷ [])) x) y) (sort_valid p.id p.sort lt b.1) (all_valid (p.id + 1) high ps le b.2)

few_nodes : (ps : List Plan) → member_nodes (members ps) ≤ 3 * length ps
few_nodes [] = omega arith
few_nodes (p ∷ ps) = omega (arith, sort_nodes p.id p.sort, few_nodes ps)

few_weights : (ps : List Plan) → weights (member_shapes (members ps)) ≤ 3 * length ps
few_weights [] = omega arith
few_weights (p ∷ ps) = omega (arith, sort_weight p.id p.sort, few_weights ps)

all_named : (low high : ℕ) (ps : List Plan) → high ≤ 9 → Between low high ps → all name_fits (member_names (members ps)) ≡ true
all_named low high [] le b = refl
all_named low high (p ∷ ps) le b = and_from _ _ (member_name p.id (omega (arith, le, low_high (p.id + 1) high ps b.2))) (all_named (p.id + 1) high ps le b.2)

all_low : (low high : ℕ) (ps : List Plan) → high ≤ 9 → Between low high ps → all is_low (map (λ h. h.id) (heads (member_shapes (members ps)))) ≡ true
all_low low high [] le b = refl
all_low low high (p ∷ ps) le b = and_from _ _ (lt-ltb p.id 268435455 (omega (arith, le, low_high (p.id + 1) high ps b.2))) (all_low (p.id + 1) high ps le b.2)

hashes_are : (ps : List Plan) → map (λ h. h.hash) (heads (member_shapes (members ps))) ≡ each_of member_hash hash_tells ps
hashes_are [] = refl
hashes_are (p ∷ ps) = ap (λ l. member_hash p.id ∷ l) (hashes_are ps)

ids_are : (ps : List Plan) → map (λ h. h.id) (heads (member_shapes (members ps))) ≡ each_of (λ i. i) (λ i j a b e. e) ps
ids_are [] = refl
ids_are (p ∷ ps) = ap (λ l. p.id ∷ l) (ids_are ps)

no_keys : (ps : List Plan) → counted_keyable true (member_shapes (members ps)) ≡ true
no_keys [] = refl
no_keys (p ∷ ps) = no_keys ps

none_discarded : (ps : List Plan) → keys_discard (heads (member_shapes (members ps))) ≡ true
none_discarded [] = refl
none_discarded (p ∷ ps) = none_discarded ps

some_member : (ps : List Plan) → 1 ≤ length ps → not_empty (heads (member_shapes (members ps))) ≡ true
some_member [] le = absurd (omega arith)
some_member (p ∷ ps) le = refl

-- ---- the structure

struct_holds : (ext : Ext) (high : ℕ) (ps : List Plan) → high ≤ 9 → 1 ≤ length ps → Between 0 high ps → Hold (rules_at (structure_of ext ps))
struct_holds ext high ps le some b =
    let names = all_named 0 high ps le b in
    let hashes = ap hashes_apart (hashes_are ps) ∙ apart member_hash hash_tells 0 high ps le b in
    let ids = and_from _ _ (all_low 0 high ps le b) (ap (λ l. distinct nat_eq l) (ids_are ps) ∙ apart (λ i. i) (λ i j x y e. e) 0 high ps le b) in
    (names, (hashes, (ids, (some_member ps some, (no_keys ps, (none_discarded ps, (refl, tt)))))))

pub structure_valid : (ext : Ext) (high : ℕ) (ps : List Plan) → high ≤ 9 → 1 ≤ length ps → Between 0 high ps → type_fault (structure_of ext ps) ≡ None
unfolding type_fault
structure_valid ext high ps le some b =
    let t = structure_of ext ps in
    let few = few_between 0 high ps b in
    let shallow : first_deep 16 t ≡ None = deep_suc 15 t ∙ deep_structure 15 _ (members ps) ∙ all_shallow ps in
    let small : is_small t ≡ true = and_from _ _ (le-leb (nodes t) 65536 (omega (arith, few_nodes ps, few, le))) (le-leb (weight (shape t)) 65536 (omega (arith, few_weights ps, few, le))) in
    let rules : first_fault t ≡ None = no_fault t (fails_not t (struct_holds ext high ps le some b)) (inside_structure _ (members ps) ∙ all_valid 0 high ps le b) in
    ap (λ (d : Option (List Step)). or_else (option_map (λ p. (15, p)) d) (or_else (cond (is_small t) None (Some (16, []))) (first_fault t))) shallow
    ∙ ap₂ (λ (s : Bool) (f : Option (ℕ × List Step)). or_else (cond s None (Some (16, []))) f) small rules
