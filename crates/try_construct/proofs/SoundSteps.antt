-- What holds of a type's parts where it holds of the type.
use Rattle.std.proofs.Common.{◌≡◌, ap, ◌∙◌, ℕ, Bool, true, false, cond, ◌==◌, ◌&&◌, not, nat_lt, List, Some}
use Rattle.std.proofs.lemmas.Bool.{and_parts}
use Rattle.xt_shapes.specs.declared.leaves.Ext.{Ext}
use Rattle.xt_shapes.specs.declared.leaves.Try.{Try}
use Rattle.xt_shapes.specs.Kinds.{as_sequence, as_array, as_map, as_structure, as_union}
use Rattle.xt_shapes.specs.Select.{case_at}
use Rattle.xt_shapes.specs.Shape.{Shape, sequence, array, map_of, structure, union, Members, Cases, no_cases, one_case, product}
use Rattle.xcdr_model.specs.Premises.{some_member, distinct_members, sound, sound_members, sound_cases}
use Rattle.xcdr_model.specs.Projection.{is_mutable}

pub sequence_sound : (s : Shape) (x : ℕ × Try × Shape) → Some x ≡ as_sequence s → sound s ≡ true → sound x.2 ≡ true
sequence_sound (sequence bound tc t) x is ok = (let e : x ≡ (bound, tc, t) = cc in ap (λ (y : ℕ × Try × Shape). sound y.2) e ∙ ok)
sequence_sound s x is ok = absurd cc

pub array_sound : (s : Shape) (x : List ℕ × Try × Shape) → Some x ≡ as_array s → sound s ≡ true → sound x.2 ≡ true
array_sound (array dims tc t) x is ok = (let e : x ≡ (dims, tc, t) = cc in ap (λ (y : List ℕ × Try × Shape). sound y.2) e ∙ (and_parts (nat_lt 0 (product dims)) (sound t) ok).1)
array_sound s x is ok = absurd cc

pub map_sound : (s : Shape) (x : ℕ × Try × Shape × Try × Shape) → Some x ≡ as_map s → sound s ≡ true → (sound x.2 ≡ true) × (sound x.4 ≡ true)
map_sound (map_of bound kc k vc t) x is ok =
    let e : x ≡ (bound, kc, k, vc, t) = cc in
    let p = and_parts (sound k) (sound t) ok in
    (ap (λ (y : ℕ × Try × Shape × Try × Shape). sound y.2) e ∙ p.0, ap (λ (y : ℕ × Try × Shape × Try × Shape). sound y.4) e ∙ p.1)
map_sound s x is ok = absurd cc

pub structure_sound : (s : Shape) (x : Ext × Members) → Some x ≡ as_structure s → sound s ≡ true → (sound_members x.1 ≡ true) × (distinct_members x.1 ≡ true)
structure_sound (structure ext ms) x is ok =
    let e : x ≡ (ext, ms) = cc in
    let p = and_parts (distinct_members ms) (sound_members ms) (and_parts (some_member ms) (distinct_members ms && sound_members ms) ok).1 in
    (ap (λ (y : Ext × Members). sound_members y.1) e ∙ p.1, ap (λ (y : Ext × Members). distinct_members y.1) e ∙ p.0)
structure_sound s x is ok = absurd cc

pub union_sound : (s : Shape) (x : Ext × Bool × Shape × Cases) → Some x ≡ as_union s → sound s ≡ true → sound_cases x.3 ≡ true
union_sound (union ext key disc cs) x is ok =
    let e : x ≡ (ext, key, disc, cs) = cc in
    ap (λ (y : Ext × Bool × Shape × Cases). sound_cases y.3) e ∙ (and_parts (sound disc) (sound_cases cs) (and_parts (not (is_mutable ext)) (sound disc && sound_cases cs) ok).1).1
union_sound s x is ok = absurd cc

pub case_sound : (cs : Cases) (id : ℕ) (t : Shape) → sound_cases cs ≡ true → Some t ≡ case_at cs id → sound t ≡ true
case_sound no_cases id t ok is = absurd cc
case_sound (one_case h u cs) id t ok is = by_test (h.id == id) is (case_sound cs id t (and_parts (sound u) (sound_cases cs) ok).1)
  where
    by_test : (b : Bool) → Some t ≡ cond b (Some u) (case_at cs id) → (Some t ≡ case_at cs id → sound t ≡ true) → sound t ≡ true
    by_test true here more = (let e : t ≡ u = cc in ap sound e ∙ (and_parts (sound u) (sound_cases cs) ok).0)
    by_test false here more = more here
