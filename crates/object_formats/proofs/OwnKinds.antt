-- An object's kind, in its text and in the hashes in it.
use Rattle.std.proofs.Common.{Result, Err, ◌≡◌, ℕ, ◌<◌, ◌≤◌, Bool, true, false, cond, List, [], ◌∷◌, ◌++◌, length, get_or, take, drop, Option, Some, None, Ok, refl, sym, ap, subst, ◌∙◌, arith}
use Rattle.std.specs.Prelude.{OnOk, slice_index, nat_lt, ◌==◌, ◌||◌}
use Rattle.std.proofs.lemmas.Bool.{ltb-false}
use Rattle.std.proofs.lemmas.List.{drop_at, get_or-drop, get_or-take, length-take}
use Rattle.type_trees.specs.Ids.{is_object_kind}
use Rattle.object_formats.specs.declared.faults.ObjectRule.TheVariants as rules
use Rattle.object_formats.specs.declared.faults.ObjectFault.{ObjectFault}
use Rattle.object_formats.specs.declared.objects.TypeObject.{TypeObject}
use Rattle.object_formats.specs.View.{object, Answers}
use Rattle.object_formats.specs.Octets.{number, zeros, padding}
use Rattle.object_formats.specs.Format.{Spot, spot, fault, ◌>>=◌, raw_at, past, num, chosen, closed, aligned, tagged}
use Rattle.object_formats.specs.Objects.{Object}
use Rattle.object_formats.specs.Tables as T
use Rattle.object_formats.proofs.Whole.{guard_ok}
use Rattle.object_formats.proofs.Lawful.{bind_ok, ok_is, raw_taken, past_taken}

-- what an octet field read
head_is : (bs : List ℕ) → length bs ≡ 1 → number bs ≡ get_or bs 0 0
unfolding number
head_is [] e = absurd (omega arith)
head_is (a ∷ []) e = omega arith
head_is (a ∷ b ∷ bs) e = absurd (omega arith)

no_padding : (p : ℕ) → padding 1 p ≡ 0
unfolding padding
no_padding p = omega arith

octet_read : (s : Spot) (n : ℕ) (t : Spot) → (num 1 1).read s ≡ Ok (n, t) → (0 < length s.rest) × (n ≡ get_or s.rest 0 0)
unfolding num zeros
octet_read s n t e =
    let b = bind_ok (past (padding 1 s.at) s.at s.rest) (λ u. raw_at 1 u >>= λ bs. Ok (number bs.0, bs.1)) (n, t) e in
    let d = bind_ok (raw_at 1 b.0) (λ bs. Ok (number bs.0, bs.1)) (n, t) b.2 in
    let h = past_taken (padding 1 s.at) s.at s.rest b.0 b.1 in
    let r = raw_taken 1 b.0 d.0.0 d.0.1 d.1 in
    let none : zeros (padding 1 s.at) ≡ [] = ap zeros (no_padding s.at) in
    let rest : s.rest ≡ b.0.rest = h.parts ∙ ap (λ (z : List ℕ). z ++ b.0.rest) none in
    let there : 0 < length b.0.rest = omega (arith, ap length r.0.parts, r.1, length-take 1 b.0.rest, ap length r.2) in
    let is : number d.0.0 ≡ n = ap (λ (x : ℕ × Spot). x.0) (ok_is (number d.0.0, d.0.1) (n, t) d.2) in
    let first : get_or d.0.0 0 0 ≡ get_or b.0.rest 0 0 = ap (λ (c : List ℕ). get_or c 0 0) r.2 ∙ get_or-take 1 b.0.rest 0 0 (omega arith) in
    (subst (λ (c : List ℕ). 0 < length c) (sym rest) there, sym is ∙ head_is d.0.0 r.1 ∙ first ∙ ap (λ (c : List ℕ). get_or c 0 0) (sym rest))

count_read : (bs : List ℕ) (n : ℕ) (t : Spot) → (num 4 4).read (spot 0 bs) ≡ Ok (n, t) → t.rest ≡ drop 4 bs
unfolding num padding past raw_at
count_read bs n t e =
    let d = bind_ok (raw_at 4 (spot 0 bs)) (λ c. Ok (number c.0, c.1)) (n, t) e in
    let r = raw_taken 4 (spot 0 bs) d.0.0 d.0.1 d.1 in
    ap (λ (x : ℕ × Spot). x.1.rest) (sym (ok_is (number d.0.0, d.0.1) (n, t) d.2)) ∙ sym (drop_at d.0.0 d.0.1.rest 4 r.1) ∙ ap (drop 4) (sym r.0.parts)

passes_so : (a b : Bool) (c : Bool) → cond a (Some false) (cond b (Some true) None) ≡ Some c → (a || b) ≡ true
passes_so true b c e = refl
passes_so false true c e = refl
passes_so false false c e = absurd cc

kind_passes : (n : ℕ) (c : Bool) → T.complete_of n ≡ Some c → is_object_kind n ≡ true
kind_passes n c e = passes_so (n == 241) (n == 242) c e

chosen_kind : (n p : ℕ) (s : Spot) (x : Object × Spot) → chosen rules.Kind p T.kinds (T.complete_of n) s ≡ Ok x → is_object_kind n ≡ true
chosen_kind n p s x e = chosen_so n (T.complete_of n) p s x refl e
  where
    chosen_so : (n : ℕ) (c : Option Bool) (p : ℕ) (s : Spot) (x : Object × Spot) → T.complete_of n ≡ c → chosen rules.Kind p T.kinds c s ≡ Ok x → is_object_kind n ≡ true
    chosen_so n None p s x is e = absurd cc
    chosen_so n (Some c) p s x is e = kind_passes n c is

-- an object's text is no longer than a text may be, and its kind stands behind the count of its octets
pub text_short : (bs : List ℕ) (o : Object) → T.object_of bs ≡ Ok o → length bs ≤ 131072
unfolding T.object_of
text_short bs o e = ltb-false _ _ (guard_ok (nat_lt 131072 (length bs)) (record { at = 131072; rule = rules.Long }) (T.object.read (spot 0 bs) >>= λ x. cond (length x.1.rest == 0) (Ok x.0) (fault x.1.at rules.Trailing)) o e).0

pub text_kind : (bs : List ℕ) (o : Object) → T.object_of bs ≡ Ok o → is_object_kind (slice_index bs 4) ≡ true
unfolding T.object_of T.object
text_kind bs o e =
    let inner = tagged rules.Kind T.complete_of T.own T.is_complete T.kinds in
    let g = guard_ok (nat_lt 131072 (length bs)) (record { at = 131072; rule = rules.Long }) (T.object.read (spot 0 bs) >>= λ x. cond (length x.1.rest == 0) (Ok x.0) (fault x.1.at rules.Trailing)) o e in
    let x = bind_ok (T.object.read (spot 0 bs)) (λ x. cond (length x.1.rest == 0) (Ok x.0) (fault x.1.at rules.Trailing)) o g.1 in
    let n = bind_ok ((num 4 4).read (spot 0 bs)) (λ n. inner.read (spot n.1.at (take n.0 n.1.rest)) >>= λ y. closed (aligned 4 0) n.0 n.1 y.1 >>= λ t. Ok (y.0, t)) x.0 x.1 in
    let y = bind_ok (inner.read (spot n.0.1.at (take n.0.0 n.0.1.rest))) (λ y. closed (aligned 4 0) n.0.0 n.0.1 y.1 >>= λ t. Ok (y.0, t)) x.0 n.2 in
    let k = bind_ok ((num 1 1).read (spot n.0.1.at (take n.0.0 n.0.1.rest))) (λ k. chosen rules.Kind n.0.1.at T.kinds (T.complete_of k.0) k.1) y.0 y.1 in
    let h = octet_read (spot n.0.1.at (take n.0.0 n.0.1.rest)) k.0.0 k.0.1 k.1 in
    let room : 0 < n.0.0 = omega (arith, h.0, length-take n.0.0 n.0.1.rest) in
    let first : get_or (take n.0.0 n.0.1.rest) 0 0 ≡ get_or bs 4 0 = get_or-take n.0.0 n.0.1.rest 0 0 room ∙ ap (λ (c : List ℕ). get_or c 0 0) (count_read bs n.0.0 n.0.1 n.1) ∙ get_or-drop 4 bs 0 0 in
    ap is_object_kind (sym first ∙ sym h.1) ∙ chosen_kind k.0.0 n.0.1.at k.0.1 y.0 k.2

pub own_is_kind : (c : Bool) → is_object_kind (T.own c) ≡ true
own_is_kind false = refl
own_is_kind true = refl

-- the same of what a reader answered
pub answered_has_kind : (bs : List ℕ) (r : Result TypeObject ObjectFault) → Answers (λ (o : TypeObject). object o) r (T.object_of bs) → OnOk r (is_object_kind (slice_index bs 4) ≡ true)
answered_has_kind bs (Ok o) e = text_kind bs (object o) e
answered_has_kind bs (Err f) e = tt
