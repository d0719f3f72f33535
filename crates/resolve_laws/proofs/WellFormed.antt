-- The complete objects of a valid type with names are well formed.
use Rattle.std.proofs.Common.{◌≡◌, ℕ, ◌^◌, ◌<◌, ◌≤◌, refl, arith}
use Rattle.std.proofs.lemmas.Bool.{and_parts, and_from, ltb-true}
use Rattle.std.specs.Prelude.{true, ◌&&◌}
use Rattle.xt_shapes.specs.Lists.{all}
use Rattle.xt_shapes.specs.NodeRules.{is_low}
use Rattle.type_trees.specs.Trees.{Tree, prim, str, enumeration, bitmask, sequence, array, map_of, structure, union, alias, Members, no_members, member, Cases, no_cases, one_case}
use Rattle.object_formats.specs.Format.{each_good}
use Rattle.object_formats.specs.Objects as o
use Rattle.object_formats.specs.Tables as T
use Rattle.object_formats.specs.Tables.{has_name}
use Rattle.node_rules.specs.Names.{name_fits, scope_fits}
use Rattle.node_rules.specs.Table.{member_names, case_names}
use Rattle.type_rules.specs.Places.{depth, members_depth, cases_depth}
use Rattle.type_rules.proofs.Kept.{limits_kept}
use Rattle.type_resolve.specs.Objects.{top, layers, member_count, identifier, member_parts, case_parts}
use Rattle.type_resolve.specs.Held.{EachObject, EachMember, EachCase, IsWellFormed}
use Rattle.type_resolve.proofs.Returning.{ComesBack, MembersComeBack, CasesComeBack}
use Rattle.type_resolve.proofs.Valid.{comes_back}
use Rattle.type_resolve.proofs.Again.{resolves_again}
use Rattle.resolve_laws.specs.Named.{is_full, is_named, are_named, cases_named, is_signed_word, numbers_fit, members_fit, cases_fit}
use Rattle.resolve_laws.specs.Laws.{ObjectsAreWellFormed, ResolvesToItself}
use Rattle.resolve_laws.proofs.Identifiers.{identifier_good}
use Rattle.resolve_laws.proofs.Parts.{member_good, case_good}
use Rattle.resolve_laws.proofs.Objects.{alias_well_formed, enum_well_formed, mask_well_formed, union_well_formed, no_base, layers_well_formed, all_of_more}
use Rattle.resolve_laws.proofs.Kept.{member_ids, case_ids, KeepsNames, MembersKeepNames, CasesKeepNames, keeps_names}

low_is : (id : ℕ) → is_low id ≡ true → id < 2 ^ 28
low_is id e = omega (arith, ltb-true id 268435455 e)

parts_good : (ms : Members) → are_named ms ≡ true → members_fit ms ≡ true → all name_fits (member_names ms) ≡ true → all is_low (member_ids ms) ≡ true → members_depth ms ≤ 16
    → each_good (T.member true) (member_parts true ms) ≡ true
unfolding each_good member_parts
parts_good no_members named fit names ids le = refl
parts_good (member h t ms) named fit names ids le =
    let here = and_parts (is_full h.name && is_named t) (are_named ms) named in
    let own = and_parts (is_full h.name) (is_named t) here.0 in
    let fits = and_parts (numbers_fit t) (members_fit ms) fit in
    let scopes = and_parts (name_fits h.name) _ names in
    let low = and_parts (is_low h.id) _ ids in
    and_from _ _ (member_good h (identifier true t) (low_is h.id low.0) own.0 scopes.0 (identifier_good t own.1 fits.0 (omega arith))) (parts_good ms here.1 fits.1 scopes.1 low.1 (omega arith))

case_parts_good : (cs : Cases) → cases_named cs ≡ true → cases_fit cs ≡ true → all name_fits (case_names cs) ≡ true → all is_low (case_ids cs) ≡ true → cases_depth cs ≤ 16
    → each_good (T.case true) (case_parts true cs) ≡ true
unfolding each_good case_parts
case_parts_good no_cases named fit names ids le = refl
case_parts_good (one_case h t cs) named fit names ids le =
    let here = and_parts (is_full h.name && is_named t) (cases_named cs) named in
    let own = and_parts (is_full h.name) (is_named t) here.0 in
    let fits = and_parts (all is_signed_word h.labels && numbers_fit t) (cases_fit cs) fit in
    let parts = and_parts (all is_signed_word h.labels) (numbers_fit t) fits.0 in
    let scopes = and_parts (name_fits h.name) _ names in
    let low = and_parts (is_low h.id) _ ids in
    let good = identifier_good t own.1 parts.1 (omega arith) in
    and_from _ _ (case_good h (identifier true t) (low_is h.id low.0) own.0 scopes.0 parts.0 good) (case_parts_good cs here.1 fits.1 scopes.1 low.1 (omega arith))

mutual
  each_object : (t : Tree) → ComesBack t → KeepsNames t → is_named t ≡ true → numbers_fit t ≡ true → depth t ≤ 16 → EachObject IsWellFormed t
  each_object (prim p) back keeps named fit le = tt
  each_object (str bound) back keeps named fit le = tt
  each_object (enumeration name ext bits literals) back keeps named fit le =
      let names = and_parts (has_name name) _ named in
      let scopes = and_parts (scope_fits name) _ keeps in
      enum_well_formed name ext bits literals names.0 scopes.0 back names.1 scopes.1 fit
  each_object (bitmask name bits flags) back keeps named fit le =
      let names = and_parts (has_name name) _ named in
      let scopes = and_parts (scope_fits name) _ keeps in
      mask_well_formed name bits flags names.0 scopes.0 back.0 names.1 scopes.1 back.1
  each_object (sequence bound tc t) back keeps named fit le = each_object t back keeps named (and_parts _ (numbers_fit t) fit).1 (omega arith)
  each_object (array dims tc t) back keeps named fit le = each_object t back keeps named (and_parts _ (numbers_fit t) fit).1 (omega arith)
  each_object (map_of bound kc k vc v) back keeps named fit le =
      let names = and_parts (is_named k) (is_named v) named in
      let fits = and_parts (numbers_fit k) (numbers_fit v) (and_parts _ (numbers_fit k && numbers_fit v) fit).1 in
      (each_object k back.0 keeps.0 names.0 fits.0 (omega arith), each_object v back.1 keeps.1 names.1 fits.1 (omega arith))
  each_object (structure h ms) back keeps named fit le =
      let names = and_parts (has_name h.name && all (λ b. has_name b.name) h.bases) (are_named ms) named in
      let own = and_parts (has_name h.name) (all (λ b. has_name b.name) h.bases) names.0 in
      let scopes = and_parts (scope_fits h.name && all (λ b. scope_fits b.name) h.bases) (all name_fits (member_names ms)) keeps.1 in
      let own_scopes = and_parts (scope_fits h.name) (all (λ b. scope_fits b.name) h.bases) scopes.0 in
      let itself = top h (member_count ms) in
      let all_named = all_of_more (λ b. has_name b.name) h.bases itself own.1 own.0 in
      let all_scopes = all_of_more (λ b. scope_fits b.name) h.bases itself own_scopes.1 own_scopes.0 in (
        each_member ms back.0 keeps.0 names.1 fit (omega arith),
        layers_well_formed h.ext o.none 0 (layers h (member_count ms)) (member_parts true ms) no_base all_named all_scopes (parts_good ms names.1 fit scopes.1 keeps.2 (omega arith)),
      )
  each_object (union h disc cs) back keeps named fit le =
      let names = and_parts (has_name h.name) (is_named disc && cases_named cs) named in
      let inner = and_parts (is_named disc) (cases_named cs) names.1 in
      let fits = and_parts (numbers_fit disc) (cases_fit cs) fit in
      let scopes = and_parts (scope_fits h.name) (all name_fits (case_names cs)) keeps.2 in
      let disc_good = identifier_good disc inner.0 fits.0 (omega arith) in
      let cs_good = case_parts_good cs inner.1 fits.1 scopes.1 keeps.3 (omega arith) in (
        each_object disc back.0 keeps.0 inner.0 fits.0 (omega arith),
        each_case cs back.1 keeps.1 inner.1 fits.1 (omega arith),
        union_well_formed h (identifier true disc) (case_parts true cs) names.0 scopes.0 disc_good cs_good,
      )
  each_object (alias name t) back keeps named fit le =
      let names = and_parts (has_name name) (is_named t) named in
      (each_object t back keeps.0 names.1 fit (omega arith), alias_well_formed name (identifier true t) names.0 keeps.1 (identifier_good t names.1 fit (omega arith)))

  each_member : (ms : Members) → MembersComeBack ms → MembersKeepNames ms → are_named ms ≡ true → members_fit ms ≡ true → members_depth ms ≤ 16 → EachMember IsWellFormed ms
  each_member no_members back keeps named fit le = tt
  each_member (member h t ms) back keeps named fit le =
      let here = and_parts (is_full h.name && is_named t) (are_named ms) named in
      let fits = and_parts (numbers_fit t) (members_fit ms) fit in
      (each_object t back.0 keeps.0 (and_parts (is_full h.name) (is_named t) here.0).1 fits.0 (omega arith), each_member ms back.1 keeps.1 here.1 fits.1 (omega arith))

  each_case : (cs : Cases) → CasesComeBack cs → CasesKeepNames cs → cases_named cs ≡ true → cases_fit cs ≡ true → cases_depth cs ≤ 16 → EachCase IsWellFormed cs
  each_case no_cases back keeps named fit le = tt
  each_case (one_case h t cs) back keeps named fit le =
      let here = and_parts (is_full h.name && is_named t) (cases_named cs) named in
      let fits = and_parts (all is_signed_word h.labels && numbers_fit t) (cases_fit cs) fit in
      let named_inside = (and_parts (is_full h.name) (is_named t) here.0).1 in
      let fits_inside = (and_parts (all is_signed_word h.labels) (numbers_fit t) fits.0).1 in
      (each_object t back.0 keeps.0 named_inside fits_inside (omega arith), each_case cs back.1 keeps.1 here.1 fits.1 (omega arith))

pub objects_are_well_formed : ObjectsAreWellFormed
objects_are_well_formed t valid named fit = each_object t (comes_back t valid) (keeps_names t valid) named fit (limits_kept t valid).0

pub resolves_to_itself : ResolvesToItself
resolves_to_itself old new t id valid named fit is adds = resolves_again old new t id (objects_are_well_formed t valid named fit) valid is adds
