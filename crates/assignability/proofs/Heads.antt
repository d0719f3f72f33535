-- The rules at a node, which read members and cases without their types, on a type's members and cases.
use Rattle.std.proofs.Common.{◌≡◌, ℤ, List, [], ◌∷◌, Bool, map, refl, sym, ap, ◌∙◌}
use Rattle.xt_shapes.specs.declared.leaves.Ext.{Ext}
use Rattle.xt_shapes.specs.Shape.{heads, case_heads}
use Rattle.xt_shapes.specs.Keyable.{any_key}
use Rattle.type_trees.specs.declared.types.Case.{Case}
use Rattle.type_trees.specs.declared.types.Member.{Member}
use Rattle.type_trees.specs.Bridge.{members_shape, cases_shape, member_head, case_head}
use Rattle.type_trees.proofs.Shapes.{members_shape_first, cases_shape_first}
use Rattle.xcdr_model.specs.Keys.{same_counted}
use Rattle.xcdr_model.specs.Rules.{same_names, same_case_names, ids_within, needs_within, common_member, same_places, has_label, label_sets}
use Rattle.node_judge.specs.Bare.{bare, bare_cases}
use Rattle.node_judge.proofs.Heads.{ids_over, needs_over, common_over, places_over, any_key_over, counted_over, has_label_over, sets_over}

heads_are : (ms : List Member) → map member_head ms ≡ heads (members_shape ms)
heads_are [] = refl
heads_are (m ∷ ms) = ap (λ l. member_head m ∷ l) (heads_are ms) ∙ sym (ap heads (members_shape_first m ms))

case_heads_are : (cs : List Case) → map case_head cs ≡ case_heads (cases_shape cs)
case_heads_are [] = refl
case_heads_are (c ∷ cs) = ap (λ l. case_head c ∷ l) (case_heads_are cs) ∙ sym (ap case_heads (cases_shape_first c cs))

pub names_are : (ms ns : List Member) → same_names (map member_head ms) (map member_head ns) ≡ same_names (heads (members_shape ms)) (heads (members_shape ns))
names_are ms ns = ap (λ l. same_names l (map member_head ns)) (heads_are ms) ∙ ap (same_names (heads (members_shape ms))) (heads_are ns)

pub case_names_are : (cs ds : List Case) → same_case_names (map case_head cs) (map case_head ds) ≡ same_case_names (case_heads (cases_shape cs)) (case_heads (cases_shape ds))
case_names_are cs ds = ap (λ l. same_case_names l (map case_head ds)) (case_heads_are cs) ∙ ap (same_case_names (case_heads (cases_shape cs))) (case_heads_are ds)

pub ids_are : (ms ns : List Member) → ids_within (bare (map member_head ms)) (bare (map member_head ns)) ≡ ids_within (members_shape ms) (members_shape ns)
ids_are ms ns = ids_over member_head members_shape heads_are ms ns

pub needs_are : (ms ns : List Member) → needs_within (bare (map member_head ms)) (bare (map member_head ns)) ≡ needs_within (members_shape ms) (members_shape ns)
needs_are ms ns = needs_over member_head members_shape heads_are ms ns

pub common_is : (ms ns : List Member) → common_member (bare (map member_head ms)) (bare (map member_head ns)) ≡ common_member (members_shape ms) (members_shape ns)
common_is ms ns = common_over member_head members_shape heads_are ms ns

pub places_are : (ms ns : List Member) → same_places (bare (map member_head ms)) (bare (map member_head ns)) ≡ same_places (members_shape ms) (members_shape ns)
places_are ms ns = places_over member_head members_shape heads_are ms ns

pub any_key_is : (ms : List Member) → any_key (bare (map member_head ms)) ≡ any_key (members_shape ms)
any_key_is ms = any_key_over member_head members_shape heads_are ms

pub counted_are : (keyed : Bool) (ms : List Member) (other : Bool) (ns : List Member) → same_counted keyed (bare (map member_head ms)) other (bare (map member_head ns)) ≡ same_counted keyed (members_shape ms) other (members_shape ns)
counted_are keyed ms other ns = counted_over member_head members_shape heads_are keyed ms other ns

pub label_is : (cs : List Case) (d : ℤ) → has_label (bare_cases (map case_head cs)) d ≡ has_label (cases_shape cs) d
label_is cs d = has_label_over case_head cases_shape case_heads_are cs d

pub sets_are : (e : Ext) (cs ds : List Case) → label_sets e (bare_cases (map case_head cs)) (bare_cases (map case_head ds)) ≡ label_sets e (cases_shape cs) (cases_shape ds)
sets_are e cs ds = sets_over case_head cases_shape case_heads_are e cs ds

pub ruleset head_rules = (names_are, case_names_are, ids_are, needs_are, common_is, places_are, any_key_is, counted_are, label_is, sets_are)
