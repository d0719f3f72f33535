-- What a value of JSON means for a type it means after a walk along the type, and raw bits for the numbers that stand then for floats.
use Rattle.std.proofs.Common.{◌≡◌, refl, ℕ, Bool, true, false, ◌==◌, cond, Option, Some, None, bytes_eq, ap, ◌∙◌}
use Rattle.std.specs.Bool.{MatchBool}
use Rattle.std.specs.Prelude.{if◌then◌else◌}
use Rattle.std.proofs.lemmas.Bool.{and_parts}
use Rattle.json.specs.Json.{Json}
use Rattle.serde_json.specs.Data.{Data}
use Rattle.serde_json.specs.Read.{of_json}
use Rattle.type_trees.specs.Trees.{Tree, prim, str, enumeration, bitmask, sequence, array, map_of, structure, union, alias, Members, no_members, member, Cases, no_cases, one_case}
use Rattle.xt_shapes.specs.declared.leaves.Primitive.{Primitive}
use Rattle.xt_shapes.specs.declared.leaves.Step.{Step}
use Rattle.xt_shapes.specs.Vals.{Val}
use Rattle.dynamic_data.specs.Faithful.{are_apart, is_faithful, members_are_faithful, cases_are_faithful}
use Rattle.json_values.specs.Names.{name_text, member_names}
use Rattle.json_values.specs.Steps.{Reading, beneath}
use Rattle.json_values.specs.Read.{value_of, case_reading}
use Rattle.dynamic_data.specs.numbers.Bits.{bits, member_bits, selected_bits, case_bits}
use Rattle.dynamic_data.specs.numbers.Walks.{Turn, Turns, MemberTurns, SelectedTurns, CaseTurns}
use Rattle.dynamic_data.proofs.OfNumbers.Onward.{Onward, onward_beneath}
use Rattle.dynamic_data.proofs.OfNumbers.Sound.{Sound}
use Rattle.dynamic_data.proofs.OfNumbers.Arrays.{Keeps, Turned, unturned, sequence_come, arrays_come, map_come}
use Rattle.dynamic_data.proofs.OfNumbers.Objects.{KeysCome}
use Rattle.dynamic_data.proofs.OfNumbers.Structures.{MemberKeeps, struct_come}
use Rattle.dynamic_data.proofs.OfNumbers.Unions.{Printed, CaseKeeps, body_come, union_come}
use Rattle.dynamic_data.proofs.OfNumbers.Leaves.{LeavesTurned}

member_at : (b : Bool) (S P : Turn) (f g : Json → Json) (K L : Data → Data → Type 0) → ((j k : Json) (d : Data) → Sound j → of_json j ≡ Some d → S j k → (e : Data) × (of_json (f k) ≡ Some e) × K d e)
    → ((j k : Json) (d : Data) → Sound j → of_json j ≡ Some d → P j k → (e : Data) × (of_json (g k) ≡ Some e) × L d e)
    → (j k : Json) (d : Data) → Sound j → of_json j ≡ Some d → MatchBool b (S j k) (P j k) → (e : Data) × (of_json (if b then f k else g k) ≡ Some e) × MatchBool b (K d e) (L d e)
member_at true S P f g K L here later j k d s is turn = here j k d s is turn
member_at false S P f g K L here later j k d s is turn = later j k d s is turn

case_at : (b : Bool) (S P : Turn) (f g : Json → Json) (h q : Data → Reading Val) → Turned S f h → Turned P g q
    → (j k : Json) (d : Data) → Sound j → of_json j ≡ Some d → MatchBool b (S j k) (P j k) → (e : Data) × (of_json (if b then f k else g k) ≡ Some e) × Onward (cond b (h d) (q d)) (cond b (h e) (q e))
case_at true S P f g h q here later j k d s is turn = here j k d s is turn
case_at false S P f g h q here later j k d s is turn = later j k d s is turn

inside : (id : ℕ) (S : Turn) (g : Json → Json) (f : Data → Reading Val) → Turned S g f → Turned S g (λ d. beneath (Step.Member id) (f d))
inside id S g f step j k d s is turn =
    let r = step j k d s is turn in
    (r.0, r.1, onward_beneath (Step.Member id) (f d) (f r.0) r.2)

selected_come : (cs : Cases) (S : ℕ → Turn) (g : ℕ → Json → Json) → ((id : ℕ) → Turned (S id) (g id) (case_reading cs id)) → (o : Option ℕ) (j k : Json) (d : Data) → Sound j → of_json j ≡ Some d → SelectedTurns S o j k
    → (e : Data) × (of_json (selected_bits g o k) ≡ Some e) × CaseKeeps cs o d e
selected_come cs S g step None j k d s is turn = (d, ap of_json turn ∙ is, refl)
selected_come cs S g step (Some id) j k d s is turn = step id j k d s is turn

module _ (printed : Printed) (too_large : Json) (T : Primitive → Turn) (leaves : LeavesTurned too_large T) where
  mutual
    pub come : (t : Tree) → is_faithful t ≡ true → Turned (Turns T t) (bits too_large t) (value_of t)
    come (prim p) ok = leaves p
    come (str bound) ok = λ j k d s is turn. unturned (value_of (str bound)) (λ l. l) j k d turn refl is
    come (enumeration name ext width literals) ok = λ j k d s is turn. unturned (value_of (enumeration name ext width literals)) (λ l. l) j k d turn refl is
    come (bitmask name width flags) ok = λ j k d s is turn. unturned (value_of (bitmask name width flags)) (λ l. l) j k d turn refl is
    come (sequence bound tc t) ok = sequence_come bound (Turns T t) (bits too_large t) (value_of t) (come t ok)
    come (array dims tc t) ok = arrays_come dims (Turns T t) (bits too_large t) (value_of t) (come t ok)
    come (map_of bound kc key vc value) ok =
        let parts = and_parts (is_faithful key) (is_faithful value) ok in
        map_come bound (Turns T key) (Turns T value) (bits too_large key) (bits too_large value) (value_of key) (value_of value) (come key parts.0) (come value parts.1)
    come (structure head ms) ok =
        let parts = and_parts (are_apart (member_names ms)) (members_are_faithful ms) ok in
        struct_come ms (MemberTurns T ms) (member_bits too_large ms) parts.0 (members_come ms parts.1)
    come (union head disc cs) ok =
        let parts = and_parts (is_faithful disc) (cases_are_faithful cs) ok in
        union_come disc cs (SelectedTurns (CaseTurns T cs)) (selected_bits (case_bits too_large cs)) printed
        (λ o. body_come cs o (SelectedTurns (CaseTurns T cs) o) (selected_bits (case_bits too_large cs) o) (selected_come cs (CaseTurns T cs) (case_bits too_large cs) (cases_come cs parts.1) o))
    come (alias name t) ok = come t ok

    members_come : (ms : Members) → members_are_faithful ms ≡ true → KeysCome (MemberKeeps ms) (MemberTurns T ms) (member_bits too_large ms)
    members_come no_members ok = λ key j k d s is turn. (d, ap of_json turn ∙ is, tt)
    members_come (member head t ms) ok =
        let parts = and_parts (is_faithful t) (members_are_faithful ms) ok in
        λ key. member_at (bytes_eq (name_text head.name) key) (Turns T t) (MemberTurns T ms key) (bits too_large t) (member_bits too_large ms key) (Keeps (value_of t)) (MemberKeeps ms key) (come t parts.0) (members_come ms parts.1 key)

    cases_come : (cs : Cases) → cases_are_faithful cs ≡ true → (id : ℕ) → Turned (CaseTurns T cs id) (case_bits too_large cs id) (case_reading cs id)
    cases_come no_cases ok id = λ j k d s is turn. unturned (case_reading no_cases id) (λ l. l) j k d turn refl is
    cases_come (one_case head t cs) ok id =
        let parts = and_parts (is_faithful t) (cases_are_faithful cs) ok in
        case_at (head.id == id) (Turns T t) (CaseTurns T cs id) (bits too_large t) (case_bits too_large cs id) (λ d. beneath (Step.Member id) (value_of t d)) (case_reading cs id)
        (inside id (Turns T t) (bits too_large t) (value_of t) (come t parts.0)) (cases_come cs parts.1 id)
