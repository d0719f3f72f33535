-- Which fields of objects are good, where each number has the width of its type.
use Rattle.std.proofs.Common.{◌≡◌, ℕ, suc, ◌^◌, ◌-◌, ◌<◌, ℤ, pos, negsuc, w32, List, [], ◌∷◌, ◌++◌, length, cond, Option, Some, None, refl, sym, ap, ◌∙◌, arith}
use Rattle.std.specs.Prelude.{Bool, true, false, not, ◌&&◌, ◌||◌, ◌==◌, nat_lt}
use Rattle.std.proofs.lemmas.Bool.{and_from, false≢true, lt-ltb, leb-false}
use mir.Val.{SFits}
use Rattle.xt_shapes.specs.declared.leaves.Primitive.{Primitive}
use Rattle.xt_shapes.specs.declared.leaves.Primitive.TheVariants as P
use Rattle.type_trees.specs.declared.types.HashId.{HashId}
use Rattle.type_trees.specs.declared.types.Name.TheVariants.{Full, Hashed}
use Rattle.object_formats.specs.declared.objects.ObjectLiteral.{ObjectLiteral}
use Rattle.object_formats.specs.declared.objects.ObjectFlag.{ObjectFlag}
use Rattle.object_formats.specs.Octets.{without_sign}
use Rattle.object_formats.specs.Format.{Format, num, raw, text, several, in_part, each_good}
use Rattle.object_formats.specs.Objects as o
use Rattle.object_formats.specs.Objects.{Identifier, MemberPart, CasePart, Object}
use Rattle.object_formats.specs.Tables as T
use Rattle.object_formats.specs.Heads as heads

-- ---- numbers

pub num_good : (a k n : ℕ) → n < 256 ^ k → (num a k).good n ≡ true
unfolding num
num_good a k n lt = lt-ltb n (256 ^ k) lt

pub flags_good : (test : ℕ → Bool) (n : ℕ) → n < 65536 → (T.flags_of test).good n ≡ test n
flags_good test n lt = ap (λ b. b && test n) (num_good 2 2 n lt)

-- ---- names

no_annotations_good : T.no_annotations.good tt ≡ true
unfolding num
no_annotations_good = refl

and_true : (a : Bool) → (a && true) ≡ a
and_true true = refl
and_true false = refl

and_false : (a : Bool) → (a && false) ≡ false
and_false true = refl
and_false false = refl

and_three : (a b c : Bool) → (a && (b && c)) ≡ ((a && b) && c)
and_three true b c = refl
and_three false b c = refl

and_four : (a b c d : Bool) → (a && (b && (c && d))) ≡ (((a && b) && c) && d)
and_four a b c d = and_three a b (c && d) ∙ and_three (a && b) c d

pub full_good : (complete : Bool) (t : List ℕ) → (T.name complete).good (Full t) ≡ (complete && text.good t)
unfolding T.name
full_good false t = refl
full_good true t = ap (λ b. text.good t && b) no_annotations_good ∙ and_true (text.good t)

pub hashed_good : (complete : Bool) (n : ℕ) → n < 4294967296 → (T.name complete).good (Hashed n) ≡ not complete
unfolding T.name
hashed_good false n lt = num_good 1 4 n lt
hashed_good true n lt = refl

pub named_good : (complete : Bool) (t : List ℕ) → (T.detail complete).good (Some t) ≡ (complete && text.good t)
unfolding T.detail
named_good false t = refl
named_good true t = ap (λ b. b && text.good t) no_annotations_good

pub unnamed_good : (complete : Bool) → (T.detail complete).good None ≡ not complete
unfolding T.detail
unnamed_good false = refl
unnamed_good true = refl

-- ---- numbers with a sign, bounds and dimensions

pub signed_good : (value : ℤ) → SFits w32 value → T.signed.good value ≡ true
unfolding T.signed without_sign num
signed_good (pos n) fits = let small : n < 2147483648 = fits.sfits in rw (lt-ltb n 2147483648 small) (lt-ltb n 4294967296 (omega arith))
signed_good (negsuc n) fits = let small : n < 2147483648 = fits.sfits in rw (lt-ltb n 2147483648 small) (lt-ltb (4294967296 - suc n) 4294967296 (omega arith))

pub large_good : (n : ℕ) → n < 4294967296 → (T.bound true).good n ≡ true
large_good n lt = num_good 4 4 n lt

pub small_good : (n : ℕ) → (T.bound false).good n ≡ nat_lt n 256
unfolding num
small_good n = refl

same_is : (b : Bool) → T.same b b ≡ true
same_is true = refl
same_is false = refl

bound_by : (large : Bool) (n : ℕ) → T.is_large n ≡ large → n < 4294967296 → (T.bound large).good n ≡ true
bound_by false n e lt = num_good 1 1 n (leb-false 256 n e)
bound_by true n e lt = num_good 4 4 n lt

bound_good : (n : ℕ) → n < 4294967296 → (T.bound (T.is_large n)).good n ≡ true
bound_good n lt = bound_by (T.is_large n) n refl lt

-- ---- lists of parts

pub each_more : {A : Type 0} (f : Format A) (xs : List A) (x : A) → each_good f (xs ++ x ∷ []) ≡ (each_good f xs && f.good x)
unfolding each_good
each_more f [] x = and_true (f.good x)
each_more f (y ∷ ys) x = ap (λ b. f.good y && b) (each_more f ys x) ∙ and_three (f.good y) (each_good f ys) (f.good x)

pub each_none : {A : Type 0} (f : Format A) → each_good f [] ≡ true
unfolding each_good
each_none f = refl

-- ---- hashes and identifiers

hash_by : (b : Bool) (h : List ℕ) → length h ≡ 14 → in_part (raw 14).good (cond b (Some h) None) ≡ b
unfolding raw
hash_by true h e = ap (λ n. n == 14) e
hash_by false h e = refl

pub hash_good : (complete : Bool) (h : HashId) → length h.hash ≡ 14 → (T.hashed complete).good (o.hash h) ≡ (h.kind == T.own complete)
hash_good complete h e = hash_by (h.kind == T.own complete) h.hash e

prim_same : (p : Primitive) → T.is_prim p (o.prim p) ≡ Some tt
prim_same P.Boolean = refl
prim_same P.Byte = refl
prim_same P.Int16 = refl
prim_same P.Int32 = refl
prim_same P.Int64 = refl
prim_same P.Uint16 = refl
prim_same P.Uint32 = refl
prim_same P.Uint64 = refl
prim_same P.Float32 = refl
prim_same P.Float64 = refl
prim_same P.Int8 = refl
prim_same P.Uint8 = refl
prim_same P.Char8 = refl

pub none_deep : (complete : Bool) (deep : ℕ) (t : Identifier) → deep ≡ 0 → (T.nested complete deep).good t ≡ false
unfolding T.nested T.too_deep
none_deep complete deep t e = rw e refl

-- an identifier that may nest is good where what follows its first octet is
nested_by : (complete : Bool) (deep : ℕ) (t : Identifier) → (deep ≡ 0 → ⊥) → (T.nested complete deep).good t ≡ (T.branch complete (T.nested complete (deep - 1)) (T.code t)).good t
unfolding T.nested
nested_by complete deep t some = let e : deep ≡ suc (deep - 1) = omega arith in ap (λ (n : ℕ). (T.nested complete n).good t) e

pub none_good : (complete : Bool) (deep : ℕ) → (deep ≡ 0 → ⊥) → (T.nested complete deep).good o.none ≡ false
none_good complete deep some = nested_by complete deep o.none some

pub prim_good : (complete : Bool) (deep : ℕ) (p : Primitive) → (deep ≡ 0 → ⊥) → (T.nested complete deep).good (o.prim p) ≡ true
prim_good complete deep p some = nested_by complete deep (o.prim p) some ∙ ap (in_part (λ u. true)) (prim_same p)

pub str_good : (complete : Bool) (deep n : ℕ) → (deep ≡ 0 → ⊥) → n < 4294967296 → (T.nested complete deep).good (o.str n) ≡ true
str_good complete deep n some lt = nested_by complete deep (o.str n) some ∙ and_from ((T.bound (T.is_large n)).good n) (T.fits (T.is_large n) n) (bound_good n lt) (same_is (T.is_large n))

pub inner_hash_good : (complete : Bool) (deep : ℕ) (h : HashId) → (deep ≡ 0 → ⊥) → (T.nested complete deep).good (o.hash h) ≡ (T.hashed complete).good (o.hash h)
inner_hash_good complete deep h some = nested_by complete deep (o.hash h) some

-- the kind of what is in a collection is one of the two where it is the right one
ek_good : (complete plain : Bool) (n : ℕ) → n < 256 → (n == T.ek_of complete plain) ≡ true → (T.ek complete).good n ≡ true
ek_good complete plain n lt e = and_from ((num 1 1).good n) (T.is_ek complete n) (num_good 1 1 n lt) (by plain e)
  where
    or_true : (a : Bool) → (a || true) ≡ true
    or_true true = refl
    or_true false = refl

    by : (plain : Bool) → (n == T.ek_of complete plain) ≡ true → T.is_ek complete n ≡ true
    by true e = ap (λ b. b || (n == T.own complete)) e
    by false e = ap (λ b. (n == 243) || b) e ∙ or_true (n == 243)

-- what stands before a collection's elements, with the kind that it has to be
head_by : (e f s t k : Bool) → (k ≡ true → e ≡ true) → t ≡ true → (((e && (f && s)) && t) && k) ≡ ((f && k) && s)
head_by e f s t false h g = and_false ((e && (f && s)) && t) ∙ sym (ap (λ b. b && s) (and_false f))
head_by false f s t true h g = absurd (false≢true (h refl))
head_by true true s t true h g = ap (λ b. (s && b) && true) g ∙ and_true (s && true) ∙ and_true s
head_by true false s t true h g = refl

pub bounded_head : (complete plain : Bool) (ek flags bound : ℕ) → ek < 256 → bound < 4294967296
    → heads.is_bounded_head complete plain ek flags bound ≡ ((T.flags_of T.tries).good flags && (ek == T.ek_of complete plain))
bounded_head complete plain ek flags bound lt fits =
    head_by ((T.ek complete).good ek) ((T.flags_of T.tries).good flags) ((T.bound (T.is_large bound)).good bound) (T.fits (T.is_large bound) bound) (ek == T.ek_of complete plain) (ek_good complete plain ek lt) (same_is (T.is_large bound))
    ∙ ap (λ b. ((T.flags_of T.tries).good flags && (ek == T.ek_of complete plain)) && b) (bound_good bound fits) ∙ and_true _

pub array_head : (complete plain : Bool) (ek flags : ℕ) (dims : List ℕ) → ek < 256
    → heads.is_array_head complete plain ek flags dims ≡ (((T.flags_of T.tries).good flags && (ek == T.ek_of complete plain)) && each_good (T.bound (T.any_large dims)) dims)
array_head complete plain ek flags dims lt =
    head_by ((T.ek complete).good ek) ((T.flags_of T.tries).good flags) (each_good (T.bound (T.any_large dims)) dims) (T.fit_all (T.any_large dims) dims) (ek == T.ek_of complete plain) (ek_good complete plain ek lt) (same_is (T.any_large dims))

kind_last : (h i k : Bool) → ((h && i) && k) ≡ ((h && k) && i)
kind_last true i true = and_true i
kind_last true true false = refl
kind_last true false false = refl
kind_last false i k = refl

pub seq_good : (complete : Bool) (deep ek flags bound : ℕ) (t : Identifier) → (deep ≡ 0 → ⊥)
    → (T.nested complete deep).good (o.sequence ek flags bound t) ≡ (heads.is_bounded_head complete (T.is_plain t) ek flags bound && (T.nested complete (deep - 1)).good t)
seq_good complete deep ek flags bound t some =
    nested_by complete deep (o.sequence ek flags bound t) some
    ∙ kind_last ((T.head complete (T.fits (T.is_large bound)) (T.bound (T.is_large bound))).good (ek, (flags, bound))) ((T.nested complete (deep - 1)).good t) (ek == T.ek_of complete (T.is_plain t))

pub array_good : (complete : Bool) (deep ek flags : ℕ) (dims : List ℕ) (t : Identifier) → (deep ≡ 0 → ⊥)
    → (T.nested complete deep).good (o.array ek flags dims t) ≡ (heads.is_array_head complete (T.is_plain t) ek flags dims && (T.nested complete (deep - 1)).good t)
array_good complete deep ek flags dims t some =
    nested_by complete deep (o.array ek flags dims t) some
    ∙ kind_last ((T.head complete (T.fit_all (T.any_large dims)) (several (T.bound (T.any_large dims)))).good (ek, (flags, dims))) ((T.nested complete (deep - 1)).good t) (ek == T.ek_of complete (T.is_plain t))

pub map_good : (complete : Bool) (deep ek flags bound key_flags : ℕ) (v k : Identifier) → (deep ≡ 0 → ⊥)
    → (T.nested complete deep).good (o.map_of ek flags bound v key_flags k)
    ≡ (((heads.is_bounded_head complete (T.is_plain v && T.is_plain k) ek flags bound && (T.nested complete (deep - 1)).good v) && (T.flags_of T.tries).good key_flags) && (T.nested complete (deep - 1)).good k)
map_good complete deep ek flags bound key_flags v k some =
    let V = (T.nested complete (deep - 1)).good v in
    let G = (T.flags_of T.tries).good key_flags in
    let I = (T.nested complete (deep - 1)).good k in
    nested_by complete deep (o.map_of ek flags bound v key_flags k) some
    ∙ kind_last ((T.head complete (T.fits (T.is_large bound)) (T.bound (T.is_large bound))).good (ek, (flags, bound))) (V && (G && I)) (ek == T.ek_of complete (T.is_plain v && T.is_plain k))
    ∙ and_four (heads.is_bounded_head complete (T.is_plain v && T.is_plain k) ek flags bound) V G I

-- ---- parts of lists

pub literal_good : (complete : Bool) (l : ObjectLiteral) → (T.literal complete).good l ≡ ((T.signed.good l.value && (T.flags_of T.literal_flags).good l.flags) && (T.name complete).good l.name)
unfolding T.literal
literal_good complete l = refl

pub flag_good : (complete : Bool) (f : ObjectFlag) → f.position < 65536 → (T.flag complete).good f ≡ (T.name complete).good f.name
unfolding T.flag num
flag_good complete f lt = ap (λ b. b && (T.name complete).good f.name) (num_good 2 2 f.position lt)

pub member_good : (complete : Bool) (m : MemberPart) → m.id < 4294967296 → (T.member complete).good m ≡ (((T.flags_of T.member_flags).good m.flags && (T.identifier complete).good m.ty) && (T.name complete).good m.name)
unfolding T.member
member_good complete m lt =
    let F = (T.flags_of T.member_flags).good m.flags in
    let I = (T.identifier complete).good m.ty in
    let N = (T.name complete).good m.name in
    ap (λ b. b && (F && (I && N))) (num_good 4 4 m.id lt) ∙ and_three F I N

pub case_good : (complete : Bool) (c : CasePart) → c.id < 4294967296 → (T.case complete).good c ≡ ((((T.flags_of T.case_flags).good c.flags && (T.identifier complete).good c.ty) && each_good T.signed c.labels) && (T.name complete).good c.name)
unfolding T.case
case_good complete c lt =
    let F = (T.flags_of T.case_flags).good c.flags in
    let I = (T.identifier complete).good c.ty in
    let L = each_good T.signed c.labels in
    let N = (T.name complete).good c.name in
    ap (λ b. b && (F && (I && (L && N)))) (num_good 4 4 c.id lt) ∙ and_four F I L N

pub headless : (complete : Bool) (deep : ℕ) (t : Identifier) → (deep ≡ 0 → ⊥) → heads.is_head complete t ≡ false → (T.nested complete deep).good t ≡ false
headless complete deep o.none some e = none_good complete deep some
headless complete deep (o.prim p) some e = absurd cc
headless complete deep (o.str n) some e = absurd cc
headless complete deep (o.sequence ek flags n t) some e = seq_good complete deep ek flags n t some ∙ ap (λ b. b && (T.nested complete (deep - 1)).good t) e
headless complete deep (o.array ek flags dims t) some e = array_good complete deep ek flags dims t some ∙ ap (λ b. b && (T.nested complete (deep - 1)).good t) e
headless complete deep (o.map_of ek flags n v key_flags k) some e =
    map_good complete deep ek flags n key_flags v k some ∙ ap (λ b. ((b && (T.nested complete (deep - 1)).good v) && (T.flags_of T.tries).good key_flags) && (T.nested complete (deep - 1)).good k) e
headless complete deep (o.hash h) some e = inner_hash_good complete deep h some ∙ e

pub ruleset nested_rules = (none_deep, headless, none_good, prim_good, str_good, inner_hash_good, seq_good, array_good, map_good)

-- ---- whole objects

no_flags_good : T.no_flags.good tt ≡ true
unfolding num
no_flags_good = refl

closing_good : (complete : Bool) → (T.closing complete).good tt ≡ true
unfolding T.closing
closing_good false = refl
closing_good true = no_annotations_good

without_closing : (complete i : Bool) → (i && (T.closing complete).good tt) ≡ i
without_closing complete i = ap (λ b. i && b) (closing_good complete) ∙ and_true i

pub alias_good : (complete : Bool) (name : Option (List ℕ)) (ty : Identifier) → (T.alias_body complete).good (name, ty) ≡ ((T.detail complete).good name && (T.identifier complete).good ty)
unfolding T.alias_body
alias_good complete name ty =
    let D = (T.detail complete).good name in
    let I = (T.identifier complete).good ty in
    ap (λ b. b && (D && (b && (I && (T.closing complete).good tt)))) no_flags_good ∙ ap (λ b. D && b) (without_closing complete I)

pub enum_good : (complete : Bool) (name : Option (List ℕ)) (flags bits : ℕ) (literals : List ObjectLiteral) → bits < 65536
    → (T.enum_body complete).good (flags, ((bits, name), literals)) ≡ (((T.flags_of (T.type_flags complete)).good flags && (T.detail complete).good name) && each_good (T.literal complete) literals)
unfolding T.enum_body
enum_good complete name flags bits literals lt =
    let F = (T.flags_of (T.type_flags complete)).good flags in
    let D = (T.detail complete).good name in
    let L = each_good (T.literal complete) literals in
    ap (λ b. F && ((b && D) && L)) (num_good 2 2 bits lt) ∙ and_three F D L

pub mask_good : (complete : Bool) (name : Option (List ℕ)) (bits : ℕ) (flags : List ObjectFlag) → bits < 65536 → (T.mask_body complete).good ((bits, name), flags) ≡ ((T.detail complete).good name && each_good (T.flag complete) flags)
unfolding T.mask_body
mask_good complete name bits flags lt =
    let D = (T.detail complete).good name in
    let L = each_good (T.flag complete) flags in
    ap (λ b. b && (((num 2 2).good bits && D) && L)) no_flags_good ∙ ap (λ b. (b && D) && L) (num_good 2 2 bits lt)

pub struct_good : (complete : Bool) (name : Option (List ℕ)) (flags : ℕ) (base : Identifier) (members : List MemberPart)
    → (T.struct_body complete).good (flags, ((base, name), members)) ≡ ((((T.flags_of (T.type_flags complete)).good flags && (T.base complete).good base) && (T.detail complete).good name) && each_good (T.member complete) members)
unfolding T.struct_body
struct_good complete name flags base members =
    let F = (T.flags_of (T.type_flags complete)).good flags in
    let B = (T.base complete).good base in
    let D = (T.detail complete).good name in
    let L = each_good (T.member complete) members in
    and_three F (B && D) L ∙ ap (λ b. b && L) (and_three F B D)

pub union_good : (complete : Bool) (name : Option (List ℕ)) (flags disc_flags : ℕ) (disc : Identifier) (cases : List CasePart)
    → (T.union_body complete).good (flags, (name, ((disc_flags, disc), cases)))
    ≡ (((((T.flags_of (T.type_flags complete)).good flags && (T.detail complete).good name) && (T.flags_of T.disc_flags).good disc_flags) && (T.identifier complete).good disc) && each_good (T.case complete) cases)
unfolding T.union_body
union_good complete name flags disc_flags disc cases =
    let F = (T.flags_of (T.type_flags complete)).good flags in
    let D = (T.detail complete).good name in
    let G = (T.flags_of T.disc_flags).good disc_flags in
    let I = (T.identifier complete).good disc in
    let L = each_good (T.case complete) cases in
    ap (λ b. F && (D && ((G && b) && L))) (without_closing complete I) ∙ ap (λ b. F && (D && b)) (sym (and_three G I L)) ∙ and_three F D (G && (I && L)) ∙ and_four (F && D) G I L
