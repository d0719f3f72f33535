-- The formats of objects and identifiers go both ways.
use Rattle.std.proofs.Common.{◌≡◌, ℕ, zero, suc, ◌+◌, ◌-◌, ◌^◌, ◌<◌, ℤ, Bool, true, false, cond, List, [], ◌∷◌, length, Option, Some, None, Ok, refl, sym, ap, ◌∙◌, arith}
use Rattle.std.specs.Prelude.{◌&&◌, ◌==◌}
use Rattle.std.proofs.lemmas.Bool.{ltb-true, eqb-true, eq-eqb, and_parts}
use Rattle.std.proofs.lemmas.List.{length-append}
use Rattle.xt_shapes.specs.declared.leaves.Primitive.{Primitive}
use Rattle.xt_shapes.specs.declared.leaves.Primitive.TheVariants as P
use Rattle.type_trees.specs.declared.types.Name.{Name}
use Rattle.type_trees.specs.declared.types.Name.TheVariants.{Full, Hashed}
use Rattle.object_formats.specs.declared.objects.ObjectLiteral.{ObjectLiteral}
use Rattle.object_formats.specs.declared.objects.ObjectFlag.{ObjectFlag}
use Rattle.object_formats.specs.declared.faults.ObjectRule.TheVariants as rules
use Rattle.object_formats.specs.Octets.{with_sign, without_sign}
use Rattle.object_formats.specs.declared.codes.Code.{Code}
use Rattle.object_formats.specs.declared.codes.Code.TheVariants as C
use Rattle.object_formats.specs.Format.{Format, fault, aligned, raw, num, text, nothing, both, before, only, in_part, spelled_part, part, tagged, counted, several, here, exactly}
use Rattle.object_formats.specs.Objects.{Identifier, MemberPart, CasePart}
use Rattle.object_formats.specs.Objects.{none, prim, str, sequence, array, map_of, hash}
use Rattle.object_formats.specs.Tables as T
use Rattle.object_formats.proofs.Lawful.{bind_ok, Lawful, length-num, lawful_num, lawful_raw}
use Rattle.object_formats.proofs.Combined.{lawful_nothing, lawful_both, lawful_before, lawful_behind, lawful_only, lawful_part, lawful_tagged, lawful_counted, lawful_several}
use Rattle.object_formats.proofs.Texts.{lawful_text, sign_back, sign_made}

pub some_is : {A : Type 0} (x y : A) → (let o : Option A = Some x in o) ≡ Some y → x ≡ y
some_is x y e = cc

cond_some : {A : Type 0} (b : Bool) (x y : A) → cond b (Some x) None ≡ Some y → (b ≡ true) × (x ≡ y)
cond_some true x y e = (refl, cc)
cond_some false x y e = absurd cc

-- ---- small fields

num_is : (k n : ℕ) → (num k k).good n ≡ true → n < 256 ^ k
unfolding num
num_is k n e = ltb-true _ _ e

pub lawful_exactly : (k n : ℕ) (rule : _) → Lawful (exactly k n rule)
lawful_exactly k n rule = lawful_part (λ m. tt) (λ u. Some n) (only (aligned k) rule (λ m. m == n) (num k k)) (lawful_only (aligned k) rule (λ m. m == n) (num k k) (lawful_num k k))
    (λ m good. ap Some (sym (eqb-true m n ((and_parts ((num k k).good m) (m == n) good).1))))
    (λ u m e. refl)

pub lawful_no_flags : Lawful T.no_flags
lawful_no_flags = lawful_exactly 2 0 rules.Flags

pub lawful_no_annotations : Lawful T.no_annotations
lawful_no_annotations = lawful_before _ _ (lawful_exactly 1 0 rules.Annotation) (lawful_exactly 1 0 rules.Annotation)

pub lawful_flags : (test : ℕ → Bool) → Lawful (T.flags_of test)
lawful_flags test = lawful_only (aligned 2) rules.Flags test (num 2 2) (lawful_num 2 2)

pub lawful_signed : Lawful T.signed
unfolding T.signed
lawful_signed = lawful_part with_sign without_sign (num 4 4) (lawful_num 4 4) (λ n good. sign_back n (num_is 4 n good)) sign_made

the_name : (n : Name) (t : List ℕ) → T.full_name n ≡ Some t → n ≡ Full t
the_name (Full u) t e = ap Full (some_is u t e)
the_name (Hashed h) t e = absurd cc

the_hash : (n : Name) (h : ℕ) → T.hashed_name n ≡ Some h → n ≡ Hashed h
the_hash (Full u) h e = absurd cc
the_hash (Hashed k) h e = ap Hashed (some_is k h e)

pub lawful_name : (complete : Bool) → Lawful (T.name complete)
unfolding T.name
lawful_name false = lawful_part Hashed T.hashed_name (num 1 4) (lawful_num 1 4) (λ n good. refl) the_hash
lawful_name true = lawful_behind T.no_annotations (part Full T.full_name text) lawful_no_annotations (lawful_part Full T.full_name text lawful_text (λ n good. refl) the_name)

without_name : (n : Option (List ℕ)) (u : Unit {0}) → T.no_name n ≡ Some u → n ≡ None
without_name None u e = refl
without_name (Some t) u e = absurd cc

pub lawful_detail : (complete : Bool) → Lawful (T.detail complete)
unfolding T.detail
lawful_detail false = lawful_part (λ u. None) T.no_name nothing lawful_nothing (λ u good. refl) without_name
lawful_detail true = lawful_part Some T.a_name (before T.no_annotations text) (lawful_before T.no_annotations text lawful_no_annotations lawful_text) (λ n good. refl) (λ n t e. e)

pub lawful_closing : (complete : Bool) → Lawful (T.closing complete)
unfolding T.closing
lawful_closing false = lawful_nothing
lawful_closing true = lawful_no_annotations

-- ---- identifiers

code_again : (complete : Bool) (c : Code) → T.code_of complete (T.code_octet complete c) ≡ Some c
unfolding T.code_of T.code_octet
code_again false (C.Prim P.Boolean) = refl
code_again false (C.Str false) = refl
code_again false (C.Seq false) = refl
code_again false (C.Array false) = refl
code_again false (C.Map false) = refl
code_again true (C.Prim P.Boolean) = refl
code_again true (C.Str false) = refl
code_again true (C.Seq false) = refl
code_again true (C.Array false) = refl
code_again true (C.Map false) = refl
code_again _ _ = refl

found_step : (complete : Bool) (n : ℕ) (d c : Code) (others : Option Code) (b : Bool) → (n == T.code_octet complete d) ≡ b → cond b (Some d) others ≡ Some c → (others ≡ Some c → n ≡ T.code_octet complete c) → n ≡ T.code_octet complete c
found_step complete n d c others true t k later = eqb-true n (T.code_octet complete d) t ∙ ap (T.code_octet complete) (some_is d c k)
found_step complete n d c others false t k later = later k

found_is : (complete : Bool) (n : ℕ) (cs : List Code) (c : Code) → T.found complete n cs ≡ Some c → n ≡ T.code_octet complete c
found_is complete n [] c e = absurd cc
found_is complete n (d ∷ cs) c e = found_step complete n d c (T.found complete n cs) (n == T.code_octet complete d) refl e (λ k. found_is complete n cs c k)

code_back : (complete : Bool) (n : ℕ) (c : Code) → T.code_of complete n ≡ Some c → n ≡ T.code_octet complete c
unfolding T.code_of
code_back complete n c e = found_is complete n T.all_codes c e

code_below : (complete : Bool) (c : Code) → T.code_octet complete c < 256
unfolding T.code_octet
code_below false (C.Prim P.Boolean) = omega arith
code_below false (C.Str false) = omega arith
code_below false (C.Seq false) = omega arith
code_below false (C.Array false) = omega arith
code_below false (C.Map false) = omega arith
code_below true (C.Prim P.Boolean) = omega arith
code_below true (C.Str false) = omega arith
code_below true (C.Seq false) = omega arith
code_below true (C.Array false) = omega arith
code_below true (C.Map false) = omega arith
code_below _ _ = omega arith

prim_is : (p q : Primitive) → T.prim_octet p ≡ T.prim_octet q → p ≡ q
unfolding T.code_octet
prim_is p q e =
    let one : T.code_of false (T.prim_octet p) ≡ Some (C.Prim p) = code_again false (C.Prim p) in
    let two : T.code_of false (T.prim_octet q) ≡ Some (C.Prim q) = code_again false (C.Prim q) in
    let both_are : Some (C.Prim p) ≡ Some (C.Prim q) = sym one ∙ ap (T.code_of false) e ∙ two in
    cc

same_prim : (p q : Primitive) (u : Unit {0}) → cond (T.prim_octet p == T.prim_octet q) (Some tt) None ≡ Some u → q ≡ p
same_prim p q u e = sym (prim_is p q (eqb-true _ _ (cond_some (T.prim_octet p == T.prim_octet q) tt u e).0))

-- what is good in a format of formats
only_inner : {A : Type 0} (place : ℕ → ℕ) (rule : _) (test : A → Bool) (f : Format A) (x : A) → (only place rule test f).good x ≡ true → f.good x ≡ true
only_inner place rule test f x h = (and_parts (f.good x) (test x) h).0

only_test : {A : Type 0} (place : ℕ → ℕ) (rule : _) (test : A → Bool) (f : Format A) (x : A) → (only place rule test f).good x ≡ true → test x ≡ true
only_test place rule test f x h = (and_parts (f.good x) (test x) h).1

both_left : {A B : Type 0} (f : Format A) (g : Format B) (z : A × B) → (both f g).good z ≡ true → f.good z.0 ≡ true
both_left f g z h = (and_parts (f.good z.0) (g.good z.1) h).0

same_is : (a b : Bool) → T.same a b ≡ true → b ≡ a
same_is true b e = e
same_is false true e = absurd cc
same_is false false e = refl

-- the size of a collection says which code it has
head_size : {A : Type 0} (complete : Bool) (test : A → Bool) (size : Format A) (inner_type : Type 0) (inner : Format inner_type) (kinded : T.Head A × inner_type → Bool) (x : T.Head A × inner_type) →
    (only here rules.Identifier kinded (both (T.head complete test size) inner)).good x ≡ true → test x.0.1.1 ≡ true
head_size complete test size I inner kinded x good =
    let H = T.head complete test size in
    only_test (λ p. p - 1) rules.Identifier (λ h. test h.1.1) (both (T.ek complete) (both (T.flags_of T.tries) size)) x.0
    (both_left H inner x (only_inner here rules.Identifier kinded (both H inner) x good))

prim_good : (p q : Primitive) (b : Bool) → (T.prim_octet p == T.prim_octet q) ≡ b → in_part nothing.good (cond b (Some tt) None) ≡ true → C.Prim q ≡ C.Prim p
prim_good p q true e good = ap C.Prim (sym (prim_is p q (eqb-true _ _ e)))
prim_good p q false e good = absurd cc

is_the_prim : (p : Primitive) (a : Identifier) (u : Unit {0}) → T.is_prim p a ≡ Some u → a ≡ prim p
is_the_prim p (prim q) u e = ap prim (same_prim p q u e)
is_the_prim p _ u e = absurd cc

own_prim : (p : Primitive) → T.is_prim p (prim p) ≡ Some tt
own_prim p = rw (eq-eqb (T.prim_octet p) (T.prim_octet p) refl) refl

is_the_str : (a : Identifier) (n : ℕ) → T.str_of a ≡ Some n → a ≡ str n
is_the_str (str m) n e = ap str (some_is m n e)
is_the_str _ n e = absurd cc

is_the_sequence : (a : Identifier) (x : T.Head ℕ × Identifier) → T.sequence_of a ≡ Some x → a ≡ sequence x.0.0 x.0.1.0 x.0.1.1 x.1
is_the_sequence (sequence ek fl n t) x e = ap (λ (y : T.Head ℕ × Identifier). sequence y.0.0 y.0.1.0 y.0.1.1 y.1) (some_is ((ek, (fl, n)), t) x e)
is_the_sequence _ x e = absurd cc

is_the_array : (a : Identifier) (x : T.Head (List ℕ) × Identifier) → T.array_of a ≡ Some x → a ≡ array x.0.0 x.0.1.0 x.0.1.1 x.1
is_the_array (array ek fl n t) x e = ap (λ (y : T.Head (List ℕ) × Identifier). array y.0.0 y.0.1.0 y.0.1.1 y.1) (some_is ((ek, (fl, n)), t) x e)
is_the_array _ x e = absurd cc

is_the_map : (a : Identifier) (x : T.Head ℕ × (Identifier × (ℕ × Identifier))) → T.map_parts a ≡ Some x → a ≡ map_of x.0.0 x.0.1.0 x.0.1.1 x.1.0 x.1.1.0 x.1.1.1
is_the_map (map_of ek fl n v kf k) x e = ap (λ (y : T.Head ℕ × (Identifier × (ℕ × Identifier))). map_of y.0.0 y.0.1.0 y.0.1.1 y.1.0 y.1.1.0 y.1.1.1) (some_is ((ek, (fl, n)), (v, (kf, k))) x e)
is_the_map _ x e = absurd cc

is_the_hash : (complete : Bool) (a : Identifier) (bs : List ℕ) → T.hash_octets complete a ≡ Some bs → a ≡ hash (T.hash_id complete bs)
is_the_hash complete (hash h) bs e =
    let k = cond_some (h.kind == T.own complete) h.hash bs e in
    let kind_is : h.kind ≡ T.own complete = eqb-true _ _ k.0 in
    let first : hash h ≡ hash (record { kind = T.own complete; hash = h.hash }) = ap (λ (k : ℕ). hash (record { kind = k; hash = h.hash })) kind_is in
    first ∙ ap (λ (b : List ℕ). hash (T.hash_id complete b)) k.1
is_the_hash complete _ bs e = absurd cc

own_hash : (complete : Bool) (bs : List ℕ) → T.hash_octets complete (hash (T.hash_id complete bs)) ≡ Some bs
own_hash complete bs = rw (eq-eqb (T.own complete) (T.own complete) refl) refl

pub lawful_hashed : (complete : Bool) → Lawful (T.hashed complete)
lawful_hashed complete = lawful_part (λ bs. hash (T.hash_id complete bs)) (T.hash_octets complete) (raw 14) (lawful_raw 14) (λ bs good. own_hash complete bs) (is_the_hash complete)

lawful_bound : (large : Bool) → Lawful (T.bound large)
lawful_bound large = lawful_num (T.width large) (T.width large)

bound_filled : (large : Bool) (p n : ℕ) → 0 < length ((T.bound large).spell p n)
bound_filled false p n = omega (arith, length-num 1 1 p n)
bound_filled true p n = omega (arith, length-num 4 4 p n)

lawful_head : {A : Type 0} (complete : Bool) (test : A → Bool) (size : Format A) → Lawful size → Lawful (T.head complete test size)
lawful_head complete test size L =
    lawful_only (λ p. p - 1) rules.Identifier (λ h. test h.1.1) (both (T.ek complete) (both (T.flags_of T.tries) size))
    (lawful_both (T.ek complete) (both (T.flags_of T.tries) size) (lawful_only here rules.Identifier (T.is_ek complete) (num 1 1) (lawful_num 1 1))
    (lawful_both (T.flags_of T.tries) size (lawful_flags T.tries) L))

module _ (complete : Bool) (inner : Format Identifier) (L : Lawful inner) where
  only_there : (c : Code) (a : Identifier) → (T.branch complete inner c).good a ≡ true → T.code a ≡ c
  only_there (C.Prim p) (prim q) good = prim_good p q (T.prim_octet p == T.prim_octet q) refl good
  only_there (C.Str large) (str n) good = ap C.Str (same_is large (T.is_large n) (only_test (λ p. p - 1) rules.Identifier (T.fits large) (T.bound large) n good))
  only_there (C.Seq large) (sequence ek flags n t) good =
      ap C.Seq (same_is large (T.is_large n) (head_size complete (T.fits large) (T.bound large) Identifier inner (λ x. x.0.0 == T.ek_of complete (T.is_plain x.1)) ((ek, (flags, n)), t) good))
  only_there (C.Array large) (array ek flags ds t) good =
      ap C.Array (same_is large (T.any_large ds) (head_size complete (λ ds. T.same large (T.any_large ds)) (several (T.bound large)) Identifier inner (λ x. x.0.0 == T.ek_of complete (T.is_plain x.1)) ((ek, (flags, ds)), t) good))
  only_there (C.Map large) (map_of ek flags n v kf k) good =
      ap C.Map (same_is large (T.is_large n) (head_size complete (T.fits large) (T.bound large) (Identifier × (ℕ × Identifier)) (both inner (both (T.flags_of T.tries) inner)) (λ x. x.0.0 == T.ek_of complete (T.is_plain x.1.0 && T.is_plain x.1.1.1)) ((ek, (flags, n)), (v, (kf, k))) good))
  only_there C.Hash (hash h) good = refl
  only_there _ _ good = absurd cc

  lawful_branch : (c : Code) → Lawful (T.branch complete inner c)
  lawful_branch (C.Prim p) = lawful_part (λ u. prim p) (T.is_prim p) nothing lawful_nothing (λ u good. own_prim p) (is_the_prim p)
  lawful_branch (C.Str large) =
      lawful_part str T.str_of (only (λ p. p - 1) rules.Identifier (T.fits large) (T.bound large)) (lawful_only (λ p. p - 1) rules.Identifier (T.fits large) (T.bound large) (lawful_bound large)) (λ n good. refl) is_the_str
  lawful_branch (C.Seq large) =
      let H = T.head complete (T.fits large) (T.bound large) in
      let test = λ (x : T.Head ℕ × Identifier). x.0.0 == T.ek_of complete (T.is_plain x.1) in
      lawful_part (λ x. sequence x.0.0 x.0.1.0 x.0.1.1 x.1) T.sequence_of (only here rules.Identifier test (both H inner))
      (lawful_only here rules.Identifier test (both H inner) (lawful_both H inner (lawful_head complete (T.fits large) (T.bound large) (lawful_bound large)) L)) (λ x good. refl) is_the_sequence
  lawful_branch (C.Array large) =
      let fits = λ (ds : List ℕ). T.same large (T.any_large ds) in
      let H = T.head complete fits (several (T.bound large)) in
      let test = λ (x : T.Head (List ℕ) × Identifier). x.0.0 == T.ek_of complete (T.is_plain x.1) in
      lawful_part (λ x. array x.0.0 x.0.1.0 x.0.1.1 x.1) T.array_of (only here rules.Identifier test (both H inner))
      (lawful_only here rules.Identifier test (both H inner) (lawful_both H inner (lawful_head complete fits (several (T.bound large)) (lawful_several (T.bound large) (lawful_bound large) (λ p n good. bound_filled large p n))) L)) (λ x good. refl) is_the_array
  lawful_branch (C.Map large) =
      let H = T.head complete (T.fits large) (T.bound large) in
      let test = λ (x : T.Head ℕ × (Identifier × (ℕ × Identifier))). x.0.0 == T.ek_of complete (T.is_plain x.1.0 && T.is_plain x.1.1.1) in
      let W = both inner (both (T.flags_of T.tries) inner) in
      lawful_part (λ x. map_of x.0.0 x.0.1.0 x.0.1.1 x.1.0 x.1.1.0 x.1.1.1) T.map_parts (only here rules.Identifier test (both H W))
      (lawful_only here rules.Identifier test (both H W) (lawful_both H W (lawful_head complete (T.fits large) (T.bound large) (lawful_bound large)) (lawful_both inner (both (T.flags_of T.tries) inner) L (lawful_both (T.flags_of T.tries) inner (lawful_flags T.tries) L)))) (λ x good. refl) is_the_map
  lawful_branch C.Hash = lawful_hashed complete

  pub lawful_coded : Lawful (tagged rules.Identifier (T.code_of complete) (T.code_octet complete) T.code (T.branch complete inner))
  lawful_coded = lawful_tagged rules.Identifier (T.code_of complete) (T.code_octet complete) T.code (T.branch complete inner) (code_below complete) (code_again complete) (code_back complete) lawful_branch only_there

lawful_too_deep : Lawful T.too_deep
unfolding T.too_deep
lawful_too_deep = record {
  again = λ x p rest good small. absurd cc;
  taken = λ s x t fits e. let n = bind_ok ((num 1 1).read s) (λ n. fault s.at rules.Identifier) (x, t) e in absurd (never n.2);
} where
  never : {A : Type 0} {p : ℕ} {y : A} → fault p rules.Identifier ≡ Ok y → ⊥
  never e = absurd cc

lawful_nested : (complete : Bool) (deep : ℕ) → Lawful (T.nested complete deep)
unfolding T.nested
lawful_nested complete zero = lawful_too_deep
lawful_nested complete (suc deep) = lawful_coded complete (T.nested complete deep) (lawful_nested complete deep)

pub lawful_identifier : (complete : Bool) → Lawful (T.identifier complete)
unfolding T.identifier
lawful_identifier complete = lawful_nested complete 16

-- ---- the parts of objects

pub pick : {K : Type 0} (octet : K → ℕ) (n m : ℕ) (d c : K) (others : Option K) → octet d ≡ m → cond (n == m) (Some d) others ≡ Some c → (others ≡ Some c → n ≡ octet c) → n ≡ octet c
pick octet n m d c others is e later = by (n == m) refl e where
  by : (b : Bool) → (n == m) ≡ b → cond b (Some d) others ≡ Some c → n ≡ octet c
  by true t k = eqb-true n m t ∙ sym is ∙ ap octet (some_is d c k)
  by false t k = later k

nothing_there : {K : Type 0} (c : K) (n : ℕ) → (let o : Option K = None in o) ≡ Some c → n ≡ 0
nothing_there c n e = absurd cc

base_again : (complete : Bool) (c : T.BaseCode) → T.base_code_of complete (T.base_octet complete c) ≡ Some c
base_again false T.no_base = refl
base_again false T.some_base = refl
base_again true T.no_base = refl
base_again true T.some_base = refl

base_back : (complete : Bool) (n : ℕ) (c : T.BaseCode) → T.base_code_of complete n ≡ Some c → n ≡ T.base_octet complete c
base_back complete n c e = pick (T.base_octet complete) n 0 T.no_base c _ refl e (λ e. pick (T.base_octet complete) n (T.own complete) T.some_base c None refl e (λ e. absurd cc))

base_below : (complete : Bool) (c : T.BaseCode) → T.base_octet complete c < 256
base_below false T.no_base = omega arith
base_below false T.some_base = omega arith
base_below true T.no_base = omega arith
base_below true T.some_base = omega arith

is_the_none : (a : Identifier) (u : Unit {0}) → T.is_none a ≡ Some u → a ≡ none
is_the_none none u e = refl
is_the_none _ u e = absurd cc

lawful_base_branch : (complete : Bool) (c : T.BaseCode) → Lawful (T.base_branch complete c)
lawful_base_branch complete T.no_base = lawful_part (λ u. none) T.is_none nothing lawful_nothing (λ u good. refl) is_the_none
lawful_base_branch complete T.some_base = lawful_hashed complete

base_there : (complete : Bool) (c : T.BaseCode) (a : Identifier) → (T.base_branch complete c).good a ≡ true → T.base_code a ≡ c
base_there complete T.no_base none good = refl
base_there complete T.some_base (hash h) good = refl
base_there complete _ _ good = absurd cc

pub lawful_base : (complete : Bool) → Lawful (T.base complete)
unfolding T.base
lawful_base complete = lawful_tagged rules.Base (T.base_code_of complete) (T.base_octet complete) T.base_code (T.base_branch complete) (base_below complete) (base_again complete) (base_back complete) (lawful_base_branch complete) (base_there complete)

counted_filled : {A : Type 0} (f : Format A) (p : ℕ) (x : A) → 0 < length ((counted f).spell p x)
counted_filled f p x =
    let b = f.spell (aligned 4 p + 4) x in
    let h = (num 4 4).spell p (length b) in
    omega (arith, length-append h b, length-num 4 4 p (length b))

pub lawful_literal : (complete : Bool) → Lawful (T.literal complete)
unfolding T.literal
lawful_literal complete =
    let C = both T.signed (T.flags_of T.literal_flags) in
    let W = both (counted C) (T.name complete) in
    lawful_part _ _ (counted W) (lawful_counted W (lawful_both (counted C) (T.name complete) (lawful_counted C (lawful_both T.signed (T.flags_of T.literal_flags) lawful_signed (lawful_flags T.literal_flags))) (lawful_name complete)))
    (λ x good. refl) (λ r x e. ap (λ (y : (ℤ × ℕ) × Name). record { value = y.0.0; flags = y.0.1; name = y.1 }) (some_is ((r.value, r.flags), r.name) x e))

pub literal_filled : (complete : Bool) (p : ℕ) (x : ObjectLiteral) → 0 < length ((T.literal complete).spell p x)
unfolding T.literal
literal_filled complete p x = counted_filled (both (counted (both T.signed (T.flags_of T.literal_flags))) (T.name complete)) p ((x.value, x.flags), x.name)

pub lawful_flag : (complete : Bool) → Lawful (T.flag complete)
unfolding T.flag
lawful_flag complete =
    let W = both (num 2 2) (before T.no_flags (T.name complete)) in
    lawful_part _ _ (counted W) (lawful_counted W (lawful_both (num 2 2) (before T.no_flags (T.name complete)) (lawful_num 2 2) (lawful_before T.no_flags (T.name complete) lawful_no_flags (lawful_name complete))))
    (λ x good. refl) (λ r x e. ap (λ (y : ℕ × Name). record { position = y.0; name = y.1 }) (some_is (r.position, r.name) x e))

pub flag_filled : (complete : Bool) (p : ℕ) (x : ObjectFlag) → 0 < length ((T.flag complete).spell p x)
unfolding T.flag
flag_filled complete p x = counted_filled (both (num 2 2) (before T.no_flags (T.name complete))) p (x.position, x.name)

pub lawful_member : (complete : Bool) → Lawful (T.member complete)
unfolding T.member
lawful_member complete =
    let I = T.identifier complete in
    let N = T.name complete in
    let F = T.flags_of T.member_flags in
    let W = both (num 4 4) (both F (both I N)) in
    lawful_part _ _ (counted W) (lawful_counted W (lawful_both (num 4 4) (both F (both I N)) (lawful_num 4 4) (lawful_both F (both I N) (lawful_flags T.member_flags) (lawful_both I N (lawful_identifier complete) (lawful_name complete)))))
    (λ x good. refl) (λ r x e. ap (λ (y : ℕ × (ℕ × (Identifier × Name))). record { id = y.0; flags = y.1.0; ty = y.1.1.0; name = y.1.1.1 }) (some_is (r.id, (r.flags, (r.ty, r.name))) x e))

pub member_filled : (complete : Bool) (p : ℕ) (x : MemberPart) → 0 < length ((T.member complete).spell p x)
unfolding T.member
member_filled complete p x = counted_filled (both (num 4 4) (both (T.flags_of T.member_flags) (both (T.identifier complete) (T.name complete)))) p (x.id, (x.flags, (x.ty, x.name)))

signed_part : (p : ℕ) (o : Option ℕ) → in_part (num 4 4).good o ≡ true → 0 < length (spelled_part ((num 4 4).spell p) o)
signed_part p None good = absurd cc
signed_part p (Some n) good = omega (arith, length-num 4 4 p n)

signed_filled : (p : ℕ) (i : ℤ) → T.signed.good i ≡ true → 0 < length (T.signed.spell p i)
unfolding T.signed
signed_filled p i good = signed_part p (without_sign i) good

pub lawful_labels : Lawful (several T.signed)
lawful_labels = lawful_several T.signed lawful_signed signed_filled

pub lawful_case : (complete : Bool) → Lawful (T.case complete)
unfolding T.case
lawful_case complete =
    let I = T.identifier complete in
    let S = several T.signed in
    let N = T.name complete in
    let F = T.flags_of T.case_flags in
    let W = both (num 4 4) (both F (both I (both S N))) in
    lawful_part _ _ (counted W) (lawful_counted W (lawful_both (num 4 4) (both F (both I (both S N))) (lawful_num 4 4) (lawful_both F (both I (both S N)) (lawful_flags T.case_flags) (lawful_both I (both S N) (lawful_identifier complete) (lawful_both S N lawful_labels (lawful_name complete))))))
    (λ x good. refl) (λ r x e. ap (λ (y : ℕ × (ℕ × (Identifier × (List ℤ × Name)))). record { id = y.0; flags = y.1.0; ty = y.1.1.0; labels = y.1.1.1.0; name = y.1.1.1.1 }) (some_is (r.id, (r.flags, (r.ty, (r.labels, r.name)))) x e))

pub case_filled : (complete : Bool) (p : ℕ) (x : CasePart) → 0 < length ((T.case complete).spell p x)
unfolding T.case
case_filled complete p x = counted_filled (both (num 4 4) (both (T.flags_of T.case_flags) (both (T.identifier complete) (both (several T.signed) (T.name complete))))) p (x.id, (x.flags, (x.ty, (x.labels, x.name))))

pub lawful_listed : {A : Type 0} (f : Format A) → Lawful f → ((p : ℕ) (x : A) → 0 < length (f.spell p x)) → Lawful (T.listed f)
lawful_listed f L filled = lawful_counted (several f) (lawful_several f L (λ p x good. filled p x))
