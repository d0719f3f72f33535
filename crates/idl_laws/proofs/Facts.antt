-- What the rules of valid types say of the parts of a definition.
use Rattle.std.proofs.Common.{◌≡◌, refl, sym, ◌∙◌, ap, ℕ, ◌≤◌, true, List, ◌∷◌, map, None, arith}
use Rattle.std.proofs.lemmas.Bool.{and_parts}
use Rattle.std.specs.Prelude.{max}
use Rattle.xt_shapes.specs.Lists.{all}
use Rattle.xt_shapes.specs.NodeRules.{is_low}
use Rattle.xt_shapes.specs.Shape.{heads, case_heads}
use Rattle.type_trees.specs.declared.types.Name.{Name}
use Rattle.type_trees.specs.Trees.{Members, no_members, member, Cases, no_cases, one_case}
use Rattle.type_trees.specs.Bridge.{name_number, member_shapes, case_shapes}
use Rattle.node_rules.specs.Names.{name_fits}
use Rattle.node_rules.specs.Table.{member_names, case_names}
use Rattle.type_rules.specs.Places.{depth, members_depth, cases_depth}
use Rattle.type_rules.specs.Valid.{first_fault, members_fault, cases_fault}
use Rattle.type_rules.proofs.DeepSteps.{first_none, unmapped}
use Rattle.type_rules.proofs.FaultSteps.{members_fault_step, cases_fault_step}

-- ---- members and cases

abbrev pub GoodMembers : Members → Type 0
GoodMembers no_members = Unit {0}
GoodMembers (member m t ms) = (name_fits m.name ≡ true) × ((is_low m.id ≡ true) × ((depth t ≤ 15) × ((first_fault t ≡ None) × GoodMembers ms)))

below_left : (a b n : ℕ) → max a b ≤ n → a ≤ n
below_left a b n h = omega arith

below_right : (a b n : ℕ) → max a b ≤ n → b ≤ n
below_right a b n h = omega arith

pub good_members : (ms : Members) → all name_fits (member_names ms) ≡ true → all is_low (map (λ h. h.id) (heads (member_shapes ms))) ≡ true → members_depth ms ≤ 15 → members_fault ms ≡ None → GoodMembers ms
good_members no_members names ids shallow valid = tt
good_members (member m t ms) names ids shallow valid =
    let name = and_parts _ _ names in
    let id = and_parts _ _ ids in
    let fault = first_none _ _ (sym (members_fault_step m t ms) ∙ valid) in
    (name.0, (id.0, (below_left (depth t) (members_depth ms) 15 shallow, (unmapped _ _ fault.0, good_members ms name.1 id.1 (below_right (depth t) (members_depth ms) 15 shallow) fault.1))))

abbrev pub GoodCases : Cases → Type 0
GoodCases no_cases = Unit {0}
GoodCases (one_case c t cs) = (name_fits c.name ≡ true) × ((is_low c.id ≡ true) × ((depth t ≤ 15) × ((first_fault t ≡ None) × GoodCases cs)))

pub good_cases : (cs : Cases) → all name_fits (case_names cs) ≡ true → all is_low (map (λ h. h.id) (case_heads (case_shapes cs))) ≡ true → cases_depth cs ≤ 15 → cases_fault cs ≡ None → GoodCases cs
good_cases no_cases names ids shallow valid = tt
good_cases (one_case c t cs) names ids shallow valid =
    let name = and_parts _ _ names in
    let id = and_parts _ _ ids in
    let fault = first_none _ _ (sym (cases_fault_step c t cs) ∙ valid) in
    (name.0, (id.0, (below_left (depth t) (cases_depth cs) 15 shallow, (unmapped _ _ fault.0, good_cases cs name.1 id.1 (below_right (depth t) (cases_depth cs) 15 shallow) fault.1))))

-- ---- names whose hashes are apart

abbrev pub numbers : List Name → List ℕ
numbers = map name_number

pub member_numbers : (ms : Members) → map (λ h. h.hash) (heads (member_shapes ms)) ≡ numbers (member_names ms)
member_numbers no_members = refl
member_numbers (member m t ms) = ap (λ ns. name_number m.name ∷ ns) (member_numbers ms)

pub case_numbers : (cs : Cases) → map (λ h. h.hash) (case_heads (case_shapes cs)) ≡ numbers (case_names cs)
case_numbers no_cases = refl
case_numbers (one_case c t cs) = ap (λ ns. name_number c.name ∷ ns) (case_numbers cs)
