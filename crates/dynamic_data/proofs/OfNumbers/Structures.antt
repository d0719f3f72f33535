-- A structure is read of an object as of another with the same keys, where at each member's name the same is read.
use Rattle.std.proofs.Common.{◌≡◌, refl, ℕ, List, ◌∷◌, not, Bool, true, false, Option, Some, None, bytes_eq, true≢false, sym, subst, ◌∙◌}
use Rattle.std.specs.Bool.{⊤, MatchBool}
use Rattle.std.proofs.lemmas.Bool.{and_parts, or_parts}
use Rattle.std.proofs.lemmas.Slice.Eq.{bytes_eq-Decides}
use Rattle.json.specs.Json.{Json}
use Rattle.serde_json.specs.Data as rows
use Rattle.serde_json.specs.Data.{Data}
use Rattle.serde_json.specs.Find.{get_member}
use Rattle.type_trees.specs.Trees.{Tree, Members, no_members, member, MemberHead}
use Rattle.xt_shapes.specs.declared.leaves.Step.{Step}
use Rattle.xt_shapes.specs.Vals.{Val, struct_of, slots_of, present}
use Rattle.dynamic_data.specs.Faithful.{are_apart}
use Rattle.json_values.specs.declared.faults.JsonRule.{JsonRule}
use Rattle.json_values.specs.Names.{name_text, is_among, member_names}
use Rattle.json_values.specs.Steps.{Reading, beneath, mapped_to}
use Rattle.json_values.specs.Read.{value_of, slot_of, slots_in, has_other, has_missing, struct_where}
use Rattle.dynamic_data.specs.numbers.Bits.{in_object}
use Rattle.dynamic_data.specs.numbers.Walks.{Turn, ObjectTurns}
use Rattle.dynamic_data.proofs.OfNumbers.Onward.{Onward, onward_beneath, onward_mapped, onward_next, onward_unless}
use Rattle.dynamic_data.proofs.OfNumbers.Arrays.{Keeps, Turned}
use Rattle.dynamic_data.proofs.OfNumbers.Objects.{AtKey, KeysCome, MembersKeep, FoundKeep, get_kept, other_kept, missing_kept, object_come}

-- at a name the first member with it reads the same
abbrev pub MemberKeeps : Members → AtKey
MemberKeeps no_members key d e = ⊤
MemberKeeps (member head t ms) key d e = MatchBool (bytes_eq (name_text head.name) key) (Keeps (value_of t) d e) (MemberKeeps ms key d e)

-- at the name of each of the members
abbrev NamesKeep : Members → (List ℕ → Data → Data → Type 0) → rows.Members → rows.Members → Type 0
NamesKeep no_members K os ps = ⊤
NamesKeep (member head t ms) K os ps = FoundKeep (K (name_text head.name)) (get_member (name_text head.name) os) (get_member (name_text head.name) ps) × NamesKeep ms K os ps

same_bytes : (s : List ℕ) → bytes_eq s s ≡ true
same_bytes s = (bytes_eq-Decides s s).1 refl

weaker : (P Q : Data → Data → Type 0) → ((d e : Data) → P d e → Q d e) → (o q : Option Data) → FoundKeep P o q → FoundKeep Q o q
weaker P Q f None q h = h
weaker P Q f (Some d) q h = (h.0, h.1, f d h.0 h.2)

names_kept : (ms : Members) (K : AtKey) (os ps : rows.Members) → MembersKeep K os ps → NamesKeep ms K os ps
names_kept no_members K os ps h = tt
names_kept (member head t ms) K os ps h = (get_kept K (name_text head.name) os ps h, names_kept ms K os ps h)

differ : (n k : List ℕ) (b : Bool) → bytes_eq n k ≡ b → (n ≡ k → ⊥) → b ≡ false
differ n k true is other = absurd (other ((bytes_eq-Decides n k).0 is))
differ n k false is other = refl

other_way : (n k : List ℕ) → bytes_eq k n ≡ false → bytes_eq n k ≡ false
other_way n k apart = differ n k (bytes_eq n k) refl (λ same. true≢false (sym (subst (λ m. bytes_eq m n ≡ true) same (same_bytes n)) ∙ apart))

not_true : (b : Bool) → not b ≡ true → b ≡ false
not_true true h = cc h
not_true false h = refl

-- past a member whose name is none of the others
passes : (head : MemberHead) (t : Tree) (all ms : Members) (os ps : rows.Members) → is_among (name_text head.name) (member_names ms) ≡ false → NamesKeep ms (MemberKeeps (member head t all)) os ps
    → NamesKeep ms (MemberKeeps all) os ps
passes head t all no_members os ps apart h = tt
passes head t all (member other s ms) os ps apart h =
    let n = name_text other.name in
    let parts = or_parts (bytes_eq n (name_text head.name)) (is_among (name_text head.name) (member_names ms)) apart in (
      weaker (MemberKeeps (member head t all) n) (MemberKeeps all n)
          (λ d e k. subst (λ b. MatchBool b (Keeps (value_of t) d e) (MemberKeeps all n d e)) (other_way (name_text head.name) n parts.0) k) (get_member n os) (get_member n ps) h.0,
      passes head t all ms os ps parts.1 h.1,
    )

-- each member reads the same
abbrev SlotsKeep : Members → rows.Members → rows.Members → Type 0
SlotsKeep no_members os ps = ⊤
SlotsKeep (member head t ms) os ps = FoundKeep (Keeps (value_of t)) (get_member (name_text head.name) os) (get_member (name_text head.name) ps) × SlotsKeep ms os ps

slots_kept : (ms : Members) (os ps : rows.Members) → are_apart (member_names ms) ≡ true → NamesKeep ms (MemberKeeps ms) os ps → SlotsKeep ms os ps
slots_kept no_members os ps apart h = tt
slots_kept (member head t ms) os ps apart h =
    let parts = and_parts (not (is_among (name_text head.name) (member_names ms))) (are_apart (member_names ms)) apart in
    let n = name_text head.name in (
      weaker (MemberKeeps (member head t ms) n) (Keeps (value_of t)) (λ d e k. subst (λ b. MatchBool b (Keeps (value_of t) d e) (MemberKeeps ms n d e)) (same_bytes n) k) (get_member n os) (get_member n ps) h.0,
      slots_kept ms os ps parts.1 (passes head t ms ms os ps (not_true _ parts.0) h.1),
    )

slot_onward : (id : ℕ) (f : Data → Reading Val) (o q : Option Data) → FoundKeep (Keeps f) o q → Onward (slot_of id f o) (slot_of id f q)
slot_onward id f None q h = subst (λ x. Onward (slot_of id f None) (slot_of id f x)) (sym h) (λ v e. e)
slot_onward id f (Some d) q h =
    subst (λ x. Onward (slot_of id f (Some d)) (slot_of id f x)) (sym h.1)
    (onward_mapped present (beneath (Step.Member id) (f d)) (beneath (Step.Member id) (f h.0)) (onward_beneath (Step.Member id) (f d) (f h.0) h.2))

slots_onward : (ms : Members) (os ps : rows.Members) → SlotsKeep ms os ps → Onward (slots_in ms os) (slots_in ms ps)
slots_onward no_members os ps h = λ v e. e
slots_onward (member head t ms) os ps h =
    let n = name_text head.name in
    onward_next (slot_of head.id (value_of t) (get_member n os)) (slot_of head.id (value_of t) (get_member n ps)) (λ b. mapped_to (λ bs. b ∷ bs) (slots_in ms os)) (λ b. mapped_to (λ bs. b ∷ bs) (slots_in ms ps))
    (slot_onward head.id (value_of t) (get_member n os) (get_member n ps) h.0) (λ b is. onward_mapped (λ bs. b ∷ bs) (slots_in ms os) (slots_in ms ps) (slots_onward ms os ps h.1))

struct_kept : (ms : Members) (os ps : rows.Members) → are_apart (member_names ms) ≡ true → MembersKeep (MemberKeeps ms) os ps → Keeps (struct_where ms (slots_in ms)) (rows.object os) (rows.object ps)
struct_kept ms os ps apart h =
    let K = MemberKeeps ms in
    onward_unless (has_other (member_names ms) os) (has_other (member_names ms) ps) JsonRule.Unknown _ _ (other_kept K (member_names ms) os ps h)
    (onward_unless (has_missing ms os) (has_missing ms ps) JsonRule.Missing _ _ (missing_kept K ms os ps h)
    (onward_mapped (λ bs. struct_of (slots_of bs)) (slots_in ms os) (slots_in ms ps) (slots_onward ms os ps (slots_kept ms os ps apart (names_kept ms K os ps h)))))

pub struct_come : (ms : Members) (S : List ℕ → Turn) (g : List ℕ → Json → Json) → are_apart (member_names ms) ≡ true → KeysCome (MemberKeeps ms) S g → Turned (ObjectTurns S) (in_object g) (struct_where ms (slots_in ms))
struct_come ms S g apart step j k d s is turn = object_come (MemberKeeps ms) S g (struct_where ms (slots_in ms)) step j k d s is turn (λ js os ps same found h. struct_kept ms os ps apart h)
