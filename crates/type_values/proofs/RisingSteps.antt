-- Keys that rise are apart.
use Rattle.std.proofs.Common.{◌≡◌, refl, List, [], ◌∷◌, Bool, true, false, ◌||◌, ap, ap₂, sym, ◌∙◌}
use Rattle.std.proofs.lemmas.Bool.{and_parts, and_from}
use Rattle.std.proofs.lemmas.Cmp.{int_cmp_total, nat_list_cmp_total}
use Rattle.std.proofs.lemmas.Map.Text.{is_eq-slice_cmp}
use Rattle.std.specs.declared.cmp.Ordering.{Ordering}
use Rattle.std.specs.declared.cmp.Ordering.TheVariants.{Less, Equal, Greater}
use Rattle.std.specs.Cmp.{IsTotalOrder}
use Rattle.std.specs.Cmp.Lexicographic.{slice_cmp}
use Rattle.std.specs.Ordering.{int_cmp, nat_cmp, is_lt, is_eq}
use Rattle.xt_shapes.specs.Lists.{has}
use Rattle.xt_shapes.specs.Typing.{same_key, repeats}
use Rattle.xt_shapes.specs.Vals.{Val, int, text}
use Rattle.type_values.specs.Rising.{goes_before, rises_from, rises}

is_less : (r : Ordering) → is_lt r ≡ true → r ≡ Less
is_less Less h = refl
is_less Equal h = absurd cc
is_less Greater h = absurd cc

unequal : (r : Ordering) → is_lt r ≡ true → is_eq r ≡ false
unequal Less h = refl
unequal Equal h = absurd cc
unequal Greater h = absurd cc

lesser : {K : Type 0} (R : K → K → Ordering) → IsTotalOrder R → (x y z : K) → is_lt (R x y) ≡ true → is_lt (R y z) ≡ true → is_lt (R x z) ≡ true
lesser R total x y z h i = ap is_lt (total.trans x y z (is_less (R x y) h) (is_less (R y z) i))

-- ---- what goes before what

before_before : (a b c : Val) → goes_before a b ≡ true → goes_before b c ≡ true → goes_before a c ≡ true
before_before (int i) (int j) (int k) h g = lesser int_cmp int_cmp_total i j k h g
before_before (text s) (text t) (text u) h g = lesser (slice_cmp nat_cmp) nat_list_cmp_total s t u h g
before_before a b c h g = absurd cc

pub before_apart : (a b : Val) → goes_before a b ≡ true → same_key a b ≡ false
before_apart (int i) (int j) h = unequal (int_cmp i j) h
before_apart (text s) (text t) h = sym (is_eq-slice_cmp s t) ∙ unequal (slice_cmp nat_cmp s t) h
before_apart a b h = absurd cc

-- ---- along a list

from_lower : (k l : Val) (es : List (Val × Val)) → goes_before k l ≡ true → rises_from l es ≡ true → rises_from k es ≡ true
from_lower k l [] h r = refl
from_lower k l (e ∷ es) h r =
    let p = and_parts (goes_before l e.0) (rises_from e.0 es) r in and_from (goes_before k e.0) (rises_from e.0 es) (before_before k l e.0 h p.0) p.1

apart_from : (k : Val) (es : List (Val × Val)) → rises_from k es ≡ true → has (λ y. same_key k y.0) es ≡ false
apart_from k [] r = refl
apart_from k (e ∷ es) r =
    let p = and_parts (goes_before k e.0) (rises_from e.0 es) r in
    ap₂ (λ (a b : Bool). a || b) (before_apart k e.0 p.0) (apart_from k es (from_lower k e.0 es p.0 p.1))

pub rises_apart : (es : List (Val × Val)) → rises es ≡ true → repeats es ≡ false
rises_apart [] r = refl
rises_apart (e ∷ []) r = refl
rises_apart (e ∷ f ∷ es) r =
    let p = and_parts (goes_before e.0 f.0) (rises_from f.0 es) r in
    ap₂ (λ (a b : Bool). a || b) (apart_from e.0 (f ∷ es) r) (rises_apart (f ∷ es) p.1)
