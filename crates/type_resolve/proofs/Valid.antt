-- A type without a fault holds in one octet what its objects hold in two, and its bases are those of V18.
use Rattle.std.proofs.Common.{◌≡◌, ℕ, ◌<◌, ◌≤◌, List, [], ◌∷◌, map, length, refl, sym, subst, ◌∙◌, arith, tests}
use Rattle.std.proofs.lemmas.Bool.{and_parts}
use Rattle.std.specs.Prelude.{Bool, true, false, ◌&&◌, nat_le, nat_lt, nat_eq, None}
use Rattle.xt_shapes.specs.declared.leaves.Ext.{Ext}
use Rattle.xt_shapes.specs.Lists.{all}
use Rattle.xt_shapes.specs.Shape as shapes
use Rattle.xt_shapes.specs.Shape.{heads}
use Rattle.xt_shapes.specs.NodeRules.{not_empty, not_mutable, hashes_apart, ids_fit, enum_fits, mask_fits, keys_discard, distinct}
use Rattle.xt_shapes.specs.Keyable.{counted_keyable}
use Rattle.type_trees.specs.declared.types.Base.{Base}
use Rattle.type_trees.specs.declared.types.Flag.{Flag}
use Rattle.type_trees.specs.Trees.{Tree, prim, str, enumeration, bitmask, sequence, array, map_of, structure, union, alias, Members, no_members, member, Cases, no_cases, one_case}
use Rattle.type_trees.specs.Bridge.{literal_shape, flag_shape, member_shapes}
use Rattle.node_rules.specs.Rules.{bases_fit, counts_rise}
use Rattle.node_rules.specs.Table.{failing, first_broken, rules_at, enum_names, mask_names, struct_names}
use Rattle.type_rules.specs.Valid.{first_fault, fault_inside, members_fault, cases_fault, type_fault}
use Rattle.type_rules.proofs.DeepSteps.{first_none, unmapped, some_is}
use Rattle.type_rules.proofs.FaultSteps.{fault_is, inside_sequence, inside_array, inside_map, inside_structure, inside_union, inside_alias, members_fault_step, cases_fault_step}
use Rattle.type_resolve.specs.Objects.{member_count}
use Rattle.type_resolve.proofs.Returning.{Rises, EachPosition, ComesBack, MembersComeBack, CasesComeBack}

pub le_is : (n m : ℕ) → nat_le n m ≡ true → n ≤ m
le_is n m e = grind (arith, tests)

lt_is : (n m : ℕ) → nat_lt n m ≡ true → n < m
lt_is n m e = grind (arith, tests)

-- the last of the rules holds where none is broken
last_of_four : (k : ℕ) (names hashes filled fits : Bool) → first_broken ((1, names) ∷ (2, hashes) ∷ (4, filled) ∷ (k, fits) ∷ []) ≡ None → fits ≡ true
last_of_four k false hashes filled fits e = absurd (some_is 1 e)
last_of_four k true false filled fits e = absurd (some_is 2 e)
last_of_four k true true false fits e = absurd (some_is 4 e)
last_of_four k true true true false e = absurd (some_is k e)
last_of_four k true true true true e = refl

last_of_seven : (names hashes ids filled keys discard bases : Bool) → first_broken ((1, names) ∷ (2, hashes) ∷ (3, ids) ∷ (4, filled) ∷ (12, keys) ∷ (13, discard) ∷ (18, bases) ∷ []) ≡ None → bases ≡ true
last_of_seven false hashes ids filled keys discard bases e = absurd (some_is 1 e)
last_of_seven true false ids filled keys discard bases e = absurd (some_is 2 e)
last_of_seven true true false filled keys discard bases e = absurd (some_is 3 e)
last_of_seven true true true false keys discard bases e = absurd (some_is 4 e)
last_of_seven true true true true false discard bases e = absurd (some_is 12 e)
last_of_seven true true true true true false bases e = absurd (some_is 13 e)
last_of_seven true true true true true true false e = absurd (some_is 18 e)
last_of_seven true true true true true true true e = refl

broken_none : (t : Tree) → failing t ≡ None → first_broken (rules_at t) ≡ None
unfolding failing
broken_none t e = e

enum_bits : (ext : Ext) (bits : ℕ) (ls : List shapes.Literal) → enum_fits ext bits ls ≡ true → bits ≤ 255
enum_bits ext bits ls e =
    let first = and_parts (not_mutable ext && (nat_le 1 bits && nat_le bits 32)) _ e in
    let bounds = and_parts (not_mutable ext) (nat_le 1 bits && nat_le bits 32) first.0 in
    let upper = le_is bits 32 (and_parts (nat_le 1 bits) (nat_le bits 32) bounds.1).1 in
    omega arith

mask_bits : (bits : ℕ) (fs : List shapes.Flag) → mask_fits bits fs ≡ true → (bits ≤ 64) × (all (λ f. nat_lt f.position bits) fs ≡ true)
mask_bits bits fs e =
    let parts = and_parts (nat_le 1 bits && nat_le bits 64) (all (λ f. nat_lt f.position bits) fs && distinct nat_eq (map (λ f. f.position) fs)) e in
    (le_is bits 64 (and_parts (nat_le 1 bits) (nat_le bits 64) parts.0).1, (and_parts (all (λ f. nat_lt f.position bits) fs) _ parts.1).0)

positions : (bits : ℕ) (fs : List Flag) → bits ≤ 64 → all (λ f. nat_lt f.position bits) (map flag_shape fs) ≡ true → EachPosition fs
positions bits [] le e = tt
positions bits (f ∷ fs) le e =
    let parts = and_parts (nat_lt f.position bits) (all (λ g. nat_lt g.position bits) (map flag_shape fs)) e in
    let below = lt_is f.position bits parts.0 in
    (omega arith, positions bits fs le parts.1)

heads-count : (ms : Members) → length (heads (member_shapes ms)) ≡ member_count ms
heads-count no_members = refl
heads-count (member h t ms) = let rest = heads-count ms in omega arith

rises : (before : ℕ) (bs : List Base) (end : ℕ) → counts_rise before bs end ≡ true → Rises before bs end
rises before [] end e = tt
rises before (b ∷ bs) end e =
    let parts = and_parts (nat_lt before b.count && nat_lt b.count end) (counts_rise b.count bs end) e in
    let bounds = and_parts (nat_lt before b.count) (nat_lt b.count end) parts.0 in
    let lower = lt_is before b.count bounds.0 in
    let upper = lt_is b.count end bounds.1 in
    (omega arith, omega arith, rises b.count bs end parts.1)

bases_back : (bs : List Base) (n : ℕ) → bases_fit bs n ≡ true → (length bs ≤ 15) × Rises 0 bs n
bases_back bs n e = let parts = and_parts (nat_le (length bs) 15) (counts_rise 0 bs n) e in (le_is (length bs) 15 parts.0, rises 0 bs n parts.1)

from_node : (t : Tree) → (failing t ≡ None → fault_inside t ≡ None → ComesBack t) → first_fault t ≡ None → ComesBack t
from_node t here e =
    let both = first_none _ _ (sym (fault_is t) ∙ e) in
    here (unmapped _ _ both.0) both.1

mutual
  node_back : (t : Tree) → failing t ≡ None → fault_inside t ≡ None → ComesBack t
  node_back (prim p) own below = tt
  node_back (str bound) own below = tt
  node_back (enumeration name ext bits literals) own below =
      let ls = map literal_shape literals in
      enum_bits ext bits ls (last_of_four 5 (enum_names name literals) (hashes_apart (map (λ l. l.hash) ls)) (not_empty ls) (enum_fits ext bits ls) (broken_none (enumeration name ext bits literals) own))
  node_back (bitmask name bits flags) own below =
      let fs = map flag_shape flags in
      let fits = mask_bits bits fs (last_of_four 6 (mask_names name flags) (hashes_apart (map (λ f. f.hash) fs)) (not_empty fs) (mask_fits bits fs) (broken_none (bitmask name bits flags) own)) in
      (omega (arith, fits.0), positions bits flags fits.0 fits.1)
  node_back (sequence bound tc t) own below = from_node t (node_back t) (unmapped _ _ (sym (inside_sequence bound tc t) ∙ below))
  node_back (array dims tc t) own below = from_node t (node_back t) (unmapped _ _ (sym (inside_array dims tc t) ∙ below))
  node_back (map_of bound kc k vc v) own below =
      let both = first_none _ _ (sym (inside_map bound kc k vc v) ∙ below) in
      (from_node k (node_back k) (unmapped _ _ both.0), from_node v (node_back v) (unmapped _ _ both.1))
  node_back (structure h ms) own below =
      let hs = heads (member_shapes ms) in
      let fit = last_of_seven (struct_names h ms) (hashes_apart (map (λ g. g.hash) hs)) (ids_fit (map (λ g. g.id) hs)) (not_empty hs) (counted_keyable true (member_shapes ms)) (keys_discard hs) (bases_fit h.bases (length hs)) (broken_none (structure h ms) own) in
      let back = bases_back h.bases (length hs) fit in
      (members_back ms (sym (inside_structure h ms) ∙ below), back.0, subst (λ n. Rises 0 h.bases n) (heads-count ms) back.1)
  node_back (union h disc cs) own below =
      let both = first_none _ _ (sym (inside_union h disc cs) ∙ below) in
      (from_node disc (node_back disc) (unmapped _ _ both.0), cases_back cs both.1)
  node_back (alias name t) own below = from_node t (node_back t) (sym (inside_alias name t) ∙ below)

  members_back : (ms : Members) → members_fault ms ≡ None → MembersComeBack ms
  members_back no_members e = tt
  members_back (member h t ms) e =
      let both = first_none _ _ (sym (members_fault_step h t ms) ∙ e) in
      (from_node t (node_back t) (unmapped _ _ both.0), members_back ms both.1)

  cases_back : (cs : Cases) → cases_fault cs ≡ None → CasesComeBack cs
  cases_back no_cases e = tt
  cases_back (one_case h t cs) e =
      let both = first_none _ _ (sym (cases_fault_step h t cs) ∙ e) in
      (from_node t (node_back t) (unmapped _ _ both.0), cases_back cs both.1)

pub comes_back : (t : Tree) → type_fault t ≡ None → ComesBack t
unfolding type_fault
comes_back t e = from_node t (node_back t) (first_none _ _ (first_none _ _ e).1).1
