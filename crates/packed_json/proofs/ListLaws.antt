-- Lists, and what is found of literals.
use Rattle.std.proofs.Common.{◌≡◌, refl, sym, ap, ℕ, ℤ, zero, suc, ◌<◌, Bool, true, false, Option, Some, None, IfSome, List, [], ◌∷◌, ◌++◌, ◌≤◌, length, get_or, map, arith}
use Rattle.std.proofs.lemmas.Bool.{and_parts}
use Rattle.std.specs.BTreeMap.{get}
use Rattle.std.specs.Ordering.{int_cmp}
use Rattle.serde_json.specs.Written.{items_text}
use Rattle.xt_shapes.specs.Vals.{int, text, listed, mapped, struct_of, union_of, Vals, no_vals, one_val, Slot, absent, slots_of}
use Rattle.type_trees.specs.Trees.{Tree}
use Rattle.json_values.specs.Written.{data_of, vals_data}
use Rattle.packed_json.specs.Plans.{Meaning, IsPlanOf, IsListPlanOf, Named, Writes, literal_meaning, list_meaning, vals_text, vals_fit, slot_at}

pub items_are : (t : Tree) (m : Meaning) (later : Bool) (vs : Vals) → IsPlanOf t m → vals_fit m.fits vs ≡ true → vals_text m.text later vs ≡ items_text later (vals_data (data_of t) vs)
items_are t m later no_vals is fit = refl
items_are t m later (one_val v vs) is fit =
    let parts = and_parts (m.fits v) (vals_fit m.fits vs) fit in
    rw (is v parts.0, items_are t m true vs is parts.1) refl

-- ---- literals

-- the name that is found is what is wanted
pub literal_put : (o : Option (Unit {0})) (names : Named) (n : ℤ) (name old new : List ℕ) → get int_cmp names n ≡ Some name → IfSome o (λ u. new ≡ old ++ name) → IfSome o (λ u. Writes (literal_meaning names) (int n) old new)
literal_put None names n name old new found put = put
literal_put (Some u) names n name old new found put = record { fits = rw found refl; text = rw found put }

-- ---- lists

pub list_planned : (t : Tree) (m : Meaning) → IsPlanOf t m → IsListPlanOf t (list_meaning m)
list_planned t m is (int i) fits = absurd cc
list_planned t m is (text s) fits = absurd cc
list_planned t m is (listed vs) fits = ap (λ s. 91 ∷ s) (items_are t m false vs is fits)
list_planned t m is (mapped ps) fits = absurd cc
list_planned t m is (struct_of ss) fits = absurd cc
list_planned t m is (union_of d b) fits = absurd cc

-- ---- slots

pub slot_there : {S : Type 0} (f : S → Slot) (ss : List S) (at : ℕ) (s : S) → at < length ss → s ≡ get_or ss at s → slot_at (slots_of (map f ss)) at ≡ f s
slot_there f [] at s within is = absurd (omega arith)
slot_there f (x ∷ ss) zero s within is = ap f (sym is)
slot_there f (x ∷ ss) (suc at) s within is = slot_there f ss at s (omega arith) is

pub slot_past : {S : Type 0} (f : S → Slot) (ss : List S) (at : ℕ) → length ss ≤ at → slot_at (slots_of (map f ss)) at ≡ absent
slot_past f [] at past = refl
slot_past f (x ∷ ss) zero past = absurd (omega arith)
slot_past f (x ∷ ss) (suc at) past = slot_past f ss at (omega arith)
