-- The complete objects of a type are in a pool that has all its texts.
use Rattle.std.proofs.Common.{◌≡◌, ℕ, zero, suc, ◌≤◌, List, [], ◌∷◌, ◌++◌, length, refl, sym, ap, subst, ◌∙◌, take, drop, max, append_assoc, arith}
use Rattle.std.proofs.lemmas.List.{append-nil, take_all}
use Rattle.std.specs.Prelude.{Bool, true, Ok}
use Rattle.xt_shapes.specs.declared.leaves.Ext.{Ext}
use Rattle.type_trees.specs.declared.types.Base.{Base}
use Rattle.type_trees.specs.Trees.{Tree, prim, str, enumeration, bitmask, sequence, array, map_of, structure, union, alias, Members, no_members, member, Cases, no_cases, one_case}
use Rattle.object_formats.specs.Objects as o
use Rattle.object_formats.specs.Objects.{Identifier, MemberPart, Object}
use Rattle.object_formats.specs.Tables.{text_of, object_of}
use Rattle.object_formats.proofs.Whole.{written_is_read}
use Rattle.type_object.specs.Pools.{Texts, object_in, answered}
use Rattle.type_resolve.specs.Objects.{own, top, between, joined, both_texts, layers, layer_object, layer_texts, member_count, member_parts, texts, member_texts, case_texts}
use Rattle.type_resolve.specs.Held.{IsHeld, AreHeld, EachObject, EachMember, EachCase, EachLayer, IsIn, IsWellFormed, ObjectsAreIn}
use Rattle.type_resolve.proofs.Kept.{added_are_held}
use Rattle.type_resolve.proofs.Short.{is_short}

-- ---- of two lists

pub held_first : (pool : Texts) (a b : List (List ℕ)) → AreHeld pool (a ++ b) → AreHeld pool a
held_first pool [] b h = tt
held_first pool (t ∷ a) b h = (h.0, held_first pool a b h.1)

pub held_second : (pool : Texts) (a b : List (List ℕ)) → AreHeld pool (a ++ b) → AreHeld pool b
held_second pool [] b h = h
held_second pool (t ∷ a) b h = held_second pool a b h.1

-- ---- an object

pub held_in : (pool : Texts) (x : Object) → IsWellFormed x → IsHeld pool (text_of x) → IsIn pool x
held_in pool x good h =
    let read : object_of (text_of x) ≡ Ok x = written_is_read x good (is_short (text_of x) h.read.object h.read.read) in
    ap object_in h.there ∙ ap answered read

-- the second of both texts
both_in : (pool : Texts) (x : Bool → Object) (rest : List (List ℕ)) → IsWellFormed (x true) → AreHeld pool (both_texts x ++ rest) → IsIn pool (x true)
both_in pool x rest good h = held_in pool (x true) good h.1.0

-- ---- layers

layers_in : (pool : Texts) (ext : Ext) (base : Bool → Identifier) (had : ℕ) (bs : List Base) (needs : List (List (List ℕ))) (parts : Bool → List MemberPart)
    → EachLayer IsWellFormed ext (base true) had bs (parts true) → AreHeld pool (layer_texts ext base had bs needs parts) → EachLayer (IsIn pool) ext (base true) had bs (parts true)
layers_in pool ext base had [] needs parts good h = tt
layers_in pool ext base had (b ∷ bs) needs parts good h =
    let x : Bool → Object = λ c. layer_object c ext (base c) had b (parts c) in
    let rest = held_second pool (joined (between had b.count needs)) _ h in
    (both_in pool x _ good.0 rest, layers_in pool ext (λ c. own (x c)) (max had b.count) bs needs parts good.1 (held_second pool (both_texts x) _ rest))

-- ---- the members of all layers are all members

joined-append : (a b : List (List (List ℕ))) → joined (a ++ b) ≡ joined a ++ joined b
joined-append [] b = refl
joined-append (ts ∷ a) b = ap (λ us. ts ++ us) (joined-append a b) ∙ sym (append_assoc ts (joined a) (joined b))

pub held_both : (pool : Texts) (a b : List (List ℕ)) → AreHeld pool a → AreHeld pool b → AreHeld pool (a ++ b)
held_both pool [] b h k = k
held_both pool (t ∷ a) b h k = (h.0, held_both pool a b h.1 k)

take-none : {A : Type 0} (n : ℕ) → take {A = A} n [] ≡ []
take-none zero = refl
take-none (suc n) = refl

drop-none : {A : Type 0} (n : ℕ) → drop {A = A} n [] ≡ []
drop-none zero = refl
drop-none (suc n) = refl

pub take-max : {A : Type 0} (had count : ℕ) (xs : List A) → take (max had count) xs ≡ take had xs ++ between had count xs
take-max had count [] = take-none (max had count) ∙ sym (ap (λ ys. ys ++ between had count []) (take-none had) ∙ ap (drop had) (take-none count) ∙ drop-none had)
take-max zero count (x ∷ xs) = ap (λ n. take n (x ∷ xs)) none
  where
    none : max 0 count ≡ count
    none = omega arith
take-max (suc had) zero (x ∷ xs) = ap (λ n. take n (x ∷ xs)) all ∙ sym (append-nil (x ∷ take had xs))
  where
    all : max (suc had) 0 ≡ suc had
    all = omega arith
take-max (suc had) (suc count) (x ∷ xs) = ap (λ n. take n (x ∷ xs)) more ∙ ap (λ ys. x ∷ ys) (take-max had count xs)
  where
    more : max (suc had) (suc count) ≡ suc (max had count)
    more = omega arith

-- how many members the last layer has
abbrev pub last_had : ℕ → List Base → ℕ
last_had had [] = had
last_had had (b ∷ bs) = last_had (max had b.count) bs

needs_held : (pool : Texts) (ext : Ext) (base : Bool → Identifier) (had : ℕ) (bs : List Base) (needs : List (List (List ℕ))) (parts : Bool → List MemberPart)
    → AreHeld pool (joined (take had needs)) → AreHeld pool (layer_texts ext base had bs needs parts) → AreHeld pool (joined (take (last_had had bs) needs))
needs_held pool ext base had [] needs parts before h = before
needs_held pool ext base had (b ∷ bs) needs parts before h =
    let x : Bool → Object = λ c. layer_object c ext (base c) had b (parts c) in
    let own_needs = held_first pool (joined (between had b.count needs)) _ h in
    let rest = held_second pool (joined (between had b.count needs)) _ h in
    let so_far : AreHeld pool (joined (take (max had b.count) needs)) =
    subst (λ ts. AreHeld pool ts) (sym (joined-append (take had needs) (between had b.count needs)) ∙ ap joined (sym (take-max had b.count needs))) (held_both pool (joined (take had needs)) (joined (between had b.count needs)) before own_needs) in
    needs_held pool ext (λ c. own (x c)) (max had b.count) bs needs parts so_far (held_second pool (both_texts x) _ rest)

pub last-top : (had : ℕ) (bs : List Base) (b : Base) → b.count ≤ last_had had (bs ++ b ∷ [])
last-top had [] b = omega arith
last-top had (c ∷ bs) b = last-top (max had c.count) bs b

pub texts-count : (ms : Members) → length (member_texts ms) ≡ member_count ms
unfolding member_texts
texts-count no_members = refl
texts-count (member h t ms) = omega (arith, texts-count ms)

-- ---- all objects of a type

mutual
  unfolding texts

  objects_in : (pool : Texts) (t : Tree) → EachObject IsWellFormed t → AreHeld pool (texts t) → EachObject (IsIn pool) t
  objects_in pool (prim p) good h = tt
  objects_in pool (str bound) good h = tt
  objects_in pool (enumeration name ext bits literals) good h = held_in pool _ good h.1.0
  objects_in pool (bitmask name bits flags) good h = held_in pool _ good h.1.0
  objects_in pool (sequence bound tc t) good h = objects_in pool t good h
  objects_in pool (array dims tc t) good h = objects_in pool t good h
  objects_in pool (map_of bound kc k vc v) good h = (objects_in pool k good.0 (held_first pool (texts k) (texts v) h), objects_in pool v good.1 (held_second pool (texts k) (texts v) h))
  objects_in pool (structure head ms) good h =
      let bs = layers head (member_count ms) in
      let some = needs_held pool head.ext (λ c. o.none) 0 bs (member_texts ms) (λ c. member_parts c ms) tt h in
      let long : length (member_texts ms) ≤ last_had 0 bs = omega (arith, texts-count ms, last-top 0 head.bases (top head (member_count ms))) in
      let every : AreHeld pool (joined (member_texts ms)) = subst (λ ts. AreHeld pool (joined ts)) (take_all (last_had 0 bs) (member_texts ms) long) some in
      (members_in pool ms good.0 every, layers_in pool head.ext (λ c. o.none) 0 bs (member_texts ms) (λ c. member_parts c ms) good.1 h)
  objects_in pool (union head disc cs) good h =
      let rest = held_second pool (texts disc) _ h in
      (objects_in pool disc good.0 (held_first pool (texts disc) _ h), cases_in pool cs good.1 (held_first pool (case_texts cs) _ rest), held_in pool _ good.2 (held_second pool (case_texts cs) _ rest).1.0)
  objects_in pool (alias name t) good h = (objects_in pool t good.0 (held_first pool (texts t) _ h), held_in pool _ good.1 (held_second pool (texts t) _ h).1.0)

  members_in : (pool : Texts) (ms : Members) → EachMember IsWellFormed ms → AreHeld pool (joined (member_texts ms)) → EachMember (IsIn pool) ms
  members_in pool no_members good h = tt
  members_in pool (member head t ms) good h = (objects_in pool t good.0 (held_first pool (texts t) _ h), members_in pool ms good.1 (held_second pool (texts t) _ h))

  cases_in : (pool : Texts) (cs : Cases) → EachCase IsWellFormed cs → AreHeld pool (case_texts cs) → EachCase (IsIn pool) cs
  cases_in pool no_cases good h = tt
  cases_in pool (one_case head t cs) good h = (objects_in pool t good.0 (held_first pool (texts t) _ h), cases_in pool cs good.1 (held_second pool (texts t) _ h))

pub objects_are_in : ObjectsAreIn
objects_are_in old new t good h = objects_in new t good (added_are_held old new (texts t) h).1
