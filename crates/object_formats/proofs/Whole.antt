-- Each object has one text, and each text one object.
use Rattle.std.proofs.Common.{◌≡◌, ℕ, ◌+◌, ◌<◌, ◌≤◌, Bool, true, false, cond, ltb, List, [], ◌++◌, length, Option, Some, None, Result, Ok, Err, refl, sym, ap, subst, ◌∙◌, arith}
use Rattle.std.specs.Prelude.{◌&&◌, nat_lt, ◌==◌}
use Rattle.std.proofs.lemmas.Bool.{ltb-false, le-ltb, eqb-true, and_parts}
use Rattle.std.proofs.lemmas.List.{append-nil, nil_from_length}
use Rattle.object_formats.specs.declared.objects.ObjectLiteral.{ObjectLiteral}
use Rattle.object_formats.specs.declared.objects.ObjectFlag.{ObjectFlag}
use Rattle.object_formats.specs.declared.faults.ObjectRule.TheVariants as rules
use Rattle.object_formats.specs.declared.faults.Fault.{Fault}
use Rattle.object_formats.specs.declared.codes.Kind.{Kind}
use Rattle.object_formats.specs.declared.codes.Kind.TheVariants as K
use Rattle.object_formats.specs.Format.{spot, fault, ◌>>=◌, num, both, before, behind, tagged, counted}
use Rattle.object_formats.specs.Objects.{Identifier, MemberPart, CasePart, Object}
use Rattle.object_formats.specs.Objects.{alias, enumeration, bitmask, structure, union}
use Rattle.std.specs.Prelude.{IfOk, OnOk}
use Rattle.object_formats.specs.declared.faults.ObjectFault.{ObjectFault}
use Rattle.object_formats.specs.declared.objects.TypeObject.{TypeObject}
use Rattle.object_formats.specs.View.{object, Answers}
use Rattle.object_formats.specs.Tables as T
use Rattle.object_formats.proofs.Lawful.{IsOctets, then_ok, bind_ok, test_ok, Lawful, lawful_num}
use Rattle.object_formats.proofs.Combined.{lawful_both, lawful_before, lawful_behind, lawful_part, lawful_tagged, lawful_counted}
use Rattle.object_formats.proofs.Tables.{some_is, pick, lawful_no_flags, lawful_flags, lawful_detail, lawful_closing, lawful_base, lawful_identifier, lawful_literal, lawful_flag, lawful_member, lawful_case, literal_filled, flag_filled, member_filled, case_filled, lawful_listed}

lawful_alias : (c : Bool) → Lawful (T.alias_body c)
unfolding T.alias_body
lawful_alias c =
    let D = counted (T.detail c) in
    let R = before T.no_flags (behind (T.identifier c) (T.closing c)) in
    lawful_before T.no_flags (both D (counted R)) lawful_no_flags (lawful_both D (counted R) (lawful_counted (T.detail c) (lawful_detail c)) (lawful_counted R (lawful_before T.no_flags (behind (T.identifier c) (T.closing c)) lawful_no_flags (lawful_behind (T.closing c) (T.identifier c) (lawful_closing c) (lawful_identifier c)))))

lawful_bits : (c : Bool) → Lawful (counted (both (num 2 2) (T.detail c)))
lawful_bits c = lawful_counted (both (num 2 2) (T.detail c)) (lawful_both (num 2 2) (T.detail c) (lawful_num 2 2) (lawful_detail c))

lawful_enum : (c : Bool) → Lawful (T.enum_body c)
unfolding T.enum_body
lawful_enum c =
    let D = counted (both (num 2 2) (T.detail c)) in
    let L = T.listed (T.literal c) in
    lawful_both (T.flags_of (T.type_flags c)) (both D L) (lawful_flags (T.type_flags c)) (lawful_both D L (lawful_bits c) (lawful_listed (T.literal c) (lawful_literal c) (literal_filled c)))

lawful_mask : (c : Bool) → Lawful (T.mask_body c)
unfolding T.mask_body
lawful_mask c =
    let D = counted (both (num 2 2) (T.detail c)) in
    let L = T.listed (T.flag c) in
    lawful_counted (before T.no_flags (both D L)) (lawful_before T.no_flags (both D L) lawful_no_flags (lawful_both D L (lawful_bits c) (lawful_listed (T.flag c) (lawful_flag c) (flag_filled c))))

lawful_struct : (c : Bool) → Lawful (T.struct_body c)
unfolding T.struct_body
lawful_struct c =
    let B = both (T.base c) (T.detail c) in
    let L = T.listed (T.member c) in
    lawful_both (T.flags_of (T.type_flags c)) (both (counted B) L) (lawful_flags (T.type_flags c)) (lawful_both (counted B) L (lawful_counted B (lawful_both (T.base c) (T.detail c) (lawful_base c) (lawful_detail c))) (lawful_listed (T.member c) (lawful_member c) (member_filled c)))

lawful_union : (c : Bool) → Lawful (T.union_body c)
unfolding T.union_body
lawful_union c =
    let D = counted (T.detail c) in
    let I = behind (T.identifier c) (T.closing c) in
    let S = both (T.flags_of T.disc_flags) I in
    let L = T.listed (T.case c) in
    lawful_both (T.flags_of (T.type_flags c)) (both D (both (counted S) L)) (lawful_flags (T.type_flags c)) (lawful_both D (both (counted S) L) (lawful_counted (T.detail c) (lawful_detail c))
    (lawful_both (counted S) L (lawful_counted S (lawful_both (T.flags_of T.disc_flags) I (lawful_flags T.disc_flags) (lawful_behind (T.closing c) (T.identifier c) (lawful_closing c) (lawful_identifier c)))) (lawful_listed (T.case c) (lawful_case c) (case_filled c))))

is_alias : (o : Object) (x : _) → T.alias_parts o ≡ Some x → o ≡ alias x.0 x.1
is_alias (alias n r) x e = ap (λ (y : Option (List ℕ) × Identifier). alias y.0 y.1) (some_is (n, r) x e)
is_alias _ x e = absurd cc

is_enum : (o : Object) (x : _) → T.enum_parts o ≡ Some x → o ≡ enumeration x.1.0.1 x.0 x.1.0.0 x.1.1
is_enum (enumeration n f b l) x e = ap (λ (y : ℕ × ((ℕ × Option (List ℕ)) × List ObjectLiteral)). enumeration y.1.0.1 y.0 y.1.0.0 y.1.1) (some_is (f, ((b, n), l)) x e)
is_enum _ x e = absurd cc

is_mask : (o : Object) (x : _) → T.mask_parts o ≡ Some x → o ≡ bitmask x.0.1 x.0.0 x.1
is_mask (bitmask n b f) x e = ap (λ (y : (ℕ × Option (List ℕ)) × List ObjectFlag). bitmask y.0.1 y.0.0 y.1) (some_is ((b, n), f) x e)
is_mask _ x e = absurd cc

is_struct : (o : Object) (x : _) → T.struct_parts o ≡ Some x → o ≡ structure x.1.0.1 x.0 x.1.0.0 x.1.1
is_struct (structure n f b m) x e = ap (λ (y : ℕ × ((Identifier × Option (List ℕ)) × List MemberPart)). structure y.1.0.1 y.0 y.1.0.0 y.1.1) (some_is (f, ((b, n), m)) x e)
is_struct _ x e = absurd cc

is_union : (o : Object) (x : _) → T.union_parts o ≡ Some x → o ≡ union x.1.0 x.0 x.1.1.0.0 x.1.1.0.1 x.1.1.1
is_union (union n f df d cs) x e = ap (λ (y : ℕ × (Option (List ℕ) × ((ℕ × Identifier) × List CasePart))). union y.1.0 y.0 y.1.1.0.0 y.1.1.0.1 y.1.1.1) (some_is (f, (n, ((df, d), cs))) x e)
is_union _ x e = absurd cc

lawful_body : (c : Bool) (k : Kind) → Lawful (T.body c k)
lawful_body c K.Alias = lawful_part (λ x. alias x.0 x.1) T.alias_parts (T.alias_body c) (lawful_alias c) (λ x good. refl) is_alias
lawful_body c K.Enum = lawful_part (λ x. enumeration x.1.0.1 x.0 x.1.0.0 x.1.1) T.enum_parts (T.enum_body c) (lawful_enum c) (λ x good. refl) is_enum
lawful_body c K.Mask = lawful_part (λ x. bitmask x.0.1 x.0.0 x.1) T.mask_parts (T.mask_body c) (lawful_mask c) (λ x good. refl) is_mask
lawful_body c K.Struct = lawful_part (λ x. structure x.1.0.1 x.0 x.1.0.0 x.1.1) T.struct_parts (T.struct_body c) (lawful_struct c) (λ x good. refl) is_struct
lawful_body c K.Union = lawful_part (λ x. union x.1.0 x.0 x.1.1.0.0 x.1.1.0.1 x.1.1.1) T.union_parts (T.union_body c) (lawful_union c) (λ x good. refl) is_union

kind_again : (k : Kind) → T.kind_of (T.kind_octet k) ≡ Some k
kind_again K.Alias = refl
kind_again K.Enum = refl
kind_again K.Mask = refl
kind_again K.Struct = refl
kind_again K.Union = refl

kind_below : (k : Kind) → T.kind_octet k < 256
kind_below K.Alias = omega arith
kind_below K.Enum = omega arith
kind_below K.Mask = omega arith
kind_below K.Struct = omega arith
kind_below K.Union = omega arith

kind_back : (n : ℕ) (k : Kind) → T.kind_of n ≡ Some k → n ≡ T.kind_octet k
kind_back n k e =
    pick T.kind_octet n 48 K.Alias k _ refl e (λ e. pick T.kind_octet n 64 K.Enum k _ refl e (λ e. pick T.kind_octet n 65 K.Mask k _ refl e (λ e. pick T.kind_octet n 81 K.Struct k _ refl e (λ e. pick T.kind_octet n 82 K.Union k None refl e (λ e. absurd cc)))))

kind_there : (c : Bool) (k : Kind) (o : Object) → (T.body c k).good o ≡ true → T.kind o ≡ k
kind_there c K.Alias (alias n r) good = refl
kind_there c K.Enum (enumeration n f b l) good = refl
kind_there c K.Mask (bitmask n b f) good = refl
kind_there c K.Struct (structure n f b m) good = refl
kind_there c K.Union (union n f df d cs) good = refl
kind_there _ _ _ good = absurd cc

lawful_kinds : (c : Bool) → Lawful (T.kinds c)
lawful_kinds c = lawful_tagged rules.Kind T.kind_of T.kind_octet T.kind (T.body c) kind_below kind_again kind_back (lawful_body c) (kind_there c)

-- ---- minimal or complete

detail_says : (c : Bool) (n : Option (List ℕ)) → (T.detail c).good n ≡ true → T.has_name n ≡ c
unfolding T.detail
detail_says false None good = refl
detail_says false (Some t) good = absurd cc
detail_says true None good = absurd cc
detail_says true (Some t) good = refl

left : (a b : Bool) → (a && b) ≡ true → a ≡ true
left a b e = (and_parts a b e).0

right : (a b : Bool) → (a && b) ≡ true → b ≡ true
right a b e = (and_parts a b e).1

complete_there : (c : Bool) (o : Object) → (T.kinds c).good o ≡ true → T.is_complete o ≡ c
unfolding T.alias_body T.enum_body T.mask_body T.struct_body T.union_body
complete_there c (alias n r) good = detail_says c n (left _ _ (right _ _ good))
complete_there c (enumeration n f b l) good = detail_says c n (right _ _ (left _ _ (right _ _ good)))
complete_there c (bitmask n b f) good = detail_says c n (right _ _ (left _ _ (right _ _ good)))
complete_there c (structure n f b m) good = detail_says c n (right _ _ (left _ _ (right _ _ good)))
complete_there c (union n f df d cs) good = detail_says c n (left _ _ (right _ _ good))

own_again : (c : Bool) → T.complete_of (T.own c) ≡ Some c
own_again false = refl
own_again true = refl

own_below : (c : Bool) → T.own c < 256
own_below false = omega arith
own_below true = omega arith

own_back : (n : ℕ) (c : Bool) → T.complete_of n ≡ Some c → n ≡ T.own c
own_back n c e = pick T.own n 241 false c _ refl e (λ e. pick T.own n 242 true c None refl e (λ e. absurd cc))

pub lawful_object : Lawful T.object
unfolding T.object
lawful_object = lawful_counted (tagged rules.Kind T.complete_of T.own T.is_complete T.kinds) (lawful_tagged rules.Kind T.complete_of T.own T.is_complete T.kinds own_below own_again own_back lawful_kinds complete_there)

pub guard_ok : {A : Type 0} (b : Bool) (d : Fault) (r : Result A Fault) (y : A) → cond b (Err d) r ≡ Ok y → (b ≡ false) × (r ≡ Ok y)
guard_ok true d r y e = absurd cc
guard_ok false d r y e = (refl, e)

-- a well formed object is read from its text
pub written_is_read : (o : Object) → T.is_well_formed o ≡ true → length (T.text_of o) ≤ 131072 → T.object_of (T.text_of o) ≡ Ok o
unfolding T.object_of T.text_of T.is_well_formed
written_is_read o good small =
    let b = T.object.spell 0 o in
    let long : ltb 131072 (length b) ≡ false = le-ltb _ _ small in
    let one : T.object.read (spot 0 b) ≡ Ok (o, spot (0 + length b) []) = ap (λ (c : List ℕ). T.object.read (spot 0 c)) (sym (append-nil b)) ∙ lawful_object.again o 0 [] good (omega arith) in
    rw long (then_ok _ one refl)

-- what is read is well formed, and its text is what it was read from
pub read_is_written : (bs : List ℕ) (o : Object) → IsOctets bs → T.object_of bs ≡ Ok o → (T.is_well_formed o ≡ true) × (bs ≡ T.text_of o) × (length bs ≤ 131072)
unfolding T.object_of T.text_of T.is_well_formed
read_is_written bs o fits e =
    let g = guard_ok (nat_lt 131072 (length bs)) (record { at = 131072; rule = rules.Long }) (T.object.read (spot 0 bs) >>= λ x. cond (length x.1.rest == 0) (Ok x.0) (fault x.1.at rules.Trailing)) o e in
    let x = bind_ok (T.object.read (spot 0 bs)) (λ x. cond (length x.1.rest == 0) (Ok x.0) (fault x.1.at rules.Trailing)) o g.1 in
    let t = test_ok (length x.0.1.rest == 0) (record { at = x.0.1.at; rule = rules.Trailing }) x.0.0 o x.2 in
    let h = lawful_object.taken (spot 0 bs) x.0.0 x.0.1 fits x.1 in
    let none_left : x.0.1.rest ≡ [] = nil_from_length _ (eqb-true _ _ t.0) in
    let text : bs ≡ T.object.spell 0 x.0.0 = h.took.parts ∙ ap (λ (c : List ℕ). T.object.spell 0 x.0.0 ++ c) none_left ∙ append-nil _ in
    (ap T.object.good (sym t.1) ∙ h.good, text ∙ ap (T.object.spell 0) t.1, ltb-false _ _ g.0)

pub again : (o : Object) (bs : List ℕ) → bs ≡ T.text_of o → T.is_well_formed o ≡ true → length bs ≤ 131072 → T.object_of bs ≡ Ok o
again o bs e good small = ap T.object_of e ∙ written_is_read o good (subst (λ (c : List ℕ). length c ≤ 131072) e small)

-- the same of what a reader answered
module _ (bs : List ℕ) (fits : IsOctets bs) where
  pub answered_is_well_formed : (r : Result TypeObject ObjectFault) → Answers (λ (o : TypeObject). object o) r (T.object_of bs) → IfOk r (λ o. T.is_well_formed (object o) ≡ true)
  answered_is_well_formed (Ok o) e = (read_is_written bs (object o) fits e).0
  answered_is_well_formed (Err f) e = tt

  pub answered_is_text : (r : Result TypeObject ObjectFault) → Answers (λ (o : TypeObject). object o) r (T.object_of bs) → IfOk r (λ o. bs ≡ T.text_of (object o))
  answered_is_text (Ok o) e = (read_is_written bs (object o) fits e).1
  answered_is_text (Err f) e = tt

  pub answered_is_short : (r : Result TypeObject ObjectFault) → Answers (λ (o : TypeObject). object o) r (T.object_of bs) → OnOk r (length bs ≤ 131072)
  answered_is_short (Ok o) e = (read_is_written bs (object o) fits e).2
  answered_is_short (Err f) e = tt
