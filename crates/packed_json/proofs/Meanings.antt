-- What plans mean, level by level.
use Rattle.std.proofs.Common.{◌≡◌, List, map, rules, Box, Global}
use Rattle.xt_shapes.specs.declared.leaves.Primitive.{Primitive}
use Rattle.json_values.specs.Written.{int_data, prim_data, mask_data, octets_data}
use Rattle.packed_json.specs.declared.plan.Plan as p
use Rattle.packed_json.specs.declared.plan.Plan.{Plan, the_lemmas}
use Rattle.packed_json.specs.declared.plan.PlannedMap.{PlannedMap}
use Rattle.packed_json.specs.declared.plan.PlannedMember.{PlannedMember}
use Rattle.packed_json.specs.declared.plan.PlannedUnion.{PlannedUnion}
use Rattle.packed_json.specs.Plans.{Named, meaning, part, leaf_meaning, literal_meaning, list_meaning, map_meaning, struct_meaning, union_meaning}

pub plan_prim : (x : Primitive) → meaning (p.Prim x) ≡ leaf_meaning (int_data (prim_data x))
plan_prim x = search (rules, the_lemmas)

pub plan_text : meaning p.Text ≡ leaf_meaning octets_data
plan_text = search (rules, the_lemmas)

pub plan_mask : meaning p.Mask ≡ leaf_meaning (int_data mask_data)
plan_mask = search (rules, the_lemmas)

pub plan_enum : (names : Named) → meaning (p.Enum names) ≡ literal_meaning names
plan_enum names = search (rules, the_lemmas)

pub plan_list : (b : Box Plan Global) → meaning (p.List b) ≡ list_meaning (meaning b.value)
plan_list b = search (rules, the_lemmas)

pub plan_map : (b : Box PlannedMap Global) → meaning (p.Map b) ≡ map_meaning (meaning b.value.key) (meaning b.value.value)
plan_map b = search (rules, the_lemmas)

pub plan_struct : (xs : List PlannedMember) → meaning (p.Struct xs) ≡ struct_meaning (map part xs)
plan_struct xs = search (rules, the_lemmas)

pub plan_union : (b : Box PlannedUnion Global) → meaning (p.Union b) ≡ union_meaning (meaning b.value.disc) b.value.index (map meaning b.value.cases)
plan_union b = search (rules, the_lemmas)

pub part_is : (m : PlannedMember) → part m ≡ record { at = m.at; key = m.key; value = meaning m.plan }
part_is m = search (rules, the_lemmas)

pub ruleset plan_rules = (plan_prim, plan_text, plan_mask, plan_enum, plan_list, plan_map, plan_struct, plan_union, part_is)
