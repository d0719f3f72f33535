-- The rules at a node don't read the types of members and cases, in whatever way these are seen.
use Rattle.std.proofs.Common.{◌≡◌, ℤ, List, [], ◌∷◌, Bool, map, refl, ap, ◌∙◌}
use Rattle.xt_shapes.specs.declared.leaves.Ext.{Ext}
use Rattle.xt_shapes.specs.Shape.{heads, case_heads}
use Rattle.xt_shapes.specs.Select.{select, default_case}
use Rattle.xt_shapes.specs.Keyable.{any_key}
use Rattle.xcdr_model.specs.Keys.{same_counted}
use Rattle.xcdr_model.specs.Rules.{same_names, same_case_names, ids_within, needs_within, common_member, same_places, label_sets}
use Rattle.node_judge.proofs.Heads.{ids_over, needs_over, common_over, places_over, any_key_over, counted_over, default_over, select_over, sets_over}
use Rattle.pair_memo.specs.declared.nodes.parts.Part.{Part}
use Rattle.pair_memo.specs.declared.nodes.parts.Arm.{Arm}
use Rattle.pair_memo.specs.nodes.Seen.{See}
use Rattle.pair_memo.specs.nodes.Views.{part_head, arm_head, parts_in, arms_in, bare, bare_cases}

module _ (see : See) where
  pub heads_in : (ps : List Part) → map part_head ps ≡ heads (parts_in see ps)
  heads_in [] = refl
  heads_in (p ∷ ps) = ap (λ l. part_head p ∷ l) (heads_in ps)

  pub case_heads_in : (cs : List Arm) → map arm_head cs ≡ case_heads (arms_in see cs)
  case_heads_in [] = refl
  case_heads_in (c ∷ cs) = ap (λ l. arm_head c ∷ l) (case_heads_in cs)

  pub names_bare : (ps qs : List Part) → same_names (map part_head ps) (map part_head qs) ≡ same_names (heads (parts_in see ps)) (heads (parts_in see qs))
  names_bare ps qs = ap (λ l. same_names l (map part_head qs)) (heads_in ps) ∙ ap (same_names (heads (parts_in see ps))) (heads_in qs)

  pub case_names_bare : (cs ds : List Arm) → same_case_names (map arm_head cs) (map arm_head ds) ≡ same_case_names (case_heads (arms_in see cs)) (case_heads (arms_in see ds))
  case_names_bare cs ds = ap (λ l. same_case_names l (map arm_head ds)) (case_heads_in cs) ∙ ap (same_case_names (case_heads (arms_in see cs))) (case_heads_in ds)

  pub ids_bare : (ps qs : List Part) → ids_within (bare ps) (bare qs) ≡ ids_within (parts_in see ps) (parts_in see qs)
  ids_bare ps qs = ids_over part_head (parts_in see) heads_in ps qs

  pub needs_bare : (ps qs : List Part) → needs_within (bare ps) (bare qs) ≡ needs_within (parts_in see ps) (parts_in see qs)
  needs_bare ps qs = needs_over part_head (parts_in see) heads_in ps qs

  pub common_bare : (ps qs : List Part) → common_member (bare ps) (bare qs) ≡ common_member (parts_in see ps) (parts_in see qs)
  common_bare ps qs = common_over part_head (parts_in see) heads_in ps qs

  pub places_bare : (ps qs : List Part) → same_places (bare ps) (bare qs) ≡ same_places (parts_in see ps) (parts_in see qs)
  places_bare ps qs = places_over part_head (parts_in see) heads_in ps qs

  pub any_key_bare : (ps : List Part) → any_key (bare ps) ≡ any_key (parts_in see ps)
  any_key_bare ps = any_key_over part_head (parts_in see) heads_in ps

  pub counted_bare : (keyed : Bool) (ps : List Part) (other : Bool) (qs : List Part) → same_counted keyed (bare ps) other (bare qs) ≡ same_counted keyed (parts_in see ps) other (parts_in see qs)
  counted_bare keyed ps other qs = counted_over part_head (parts_in see) heads_in keyed ps other qs

  pub counted_keys : (ps qs : List Part) → same_counted (any_key (bare ps)) (bare ps) (any_key (bare qs)) (bare qs) ≡ same_counted (any_key (parts_in see ps)) (parts_in see ps) (any_key (parts_in see qs)) (parts_in see qs)
  counted_keys ps qs =
      counted_bare (any_key (bare ps)) ps (any_key (bare qs)) qs ∙ ap (λ k. same_counted k (parts_in see ps) (any_key (bare qs)) (parts_in see qs)) (any_key_bare ps) ∙ ap (λ k. same_counted (any_key (parts_in see ps)) (parts_in see ps) k (parts_in see qs)) (any_key_bare qs)

  pub default_bare : (cs : List Arm) → default_case (bare_cases cs) ≡ default_case (arms_in see cs)
  default_bare cs = default_over arm_head (arms_in see) case_heads_in cs

  pub select_bare : (cs : List Arm) (d : ℤ) → select (bare_cases cs) d ≡ select (arms_in see cs) d
  select_bare cs d = select_over arm_head (arms_in see) case_heads_in cs d

  pub sets_bare : (e : Ext) (cs ds : List Arm) → label_sets e (bare_cases cs) (bare_cases ds) ≡ label_sets e (arms_in see cs) (arms_in see ds)
  sets_bare e cs ds = sets_over arm_head (arms_in see) case_heads_in e cs ds

pub ruleset bare_rules = (names_bare, case_names_bare, ids_bare, needs_bare, common_bare, places_bare, any_key_bare, counted_bare, default_bare, select_bare, sets_bare)
