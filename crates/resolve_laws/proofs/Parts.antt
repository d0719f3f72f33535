-- The parts of complete objects are good.
use Rattle.std.proofs.Common.{◌≡◌, ℕ, ◌+◌, ◌^◌, ◌<◌, ◌≤◌, List, [], ◌∷◌, map, take, drop, zero, suc, refl, arith}
use Rattle.std.proofs.lemmas.Bool.{and_parts, and_from}
use Rattle.std.specs.Prelude.{Bool, true, false, ◌&&◌}
use Rattle.xt_shapes.specs.declared.leaves.Ext.{Ext}
use Rattle.xt_shapes.specs.declared.leaves.Ext.TheVariants as E
use Rattle.xt_shapes.specs.declared.leaves.Try.{Try}
use Rattle.xt_shapes.specs.declared.leaves.Try.TheVariants as Y
use Rattle.xt_shapes.specs.Lists.{all}
use Rattle.type_trees.specs.declared.types.Literal.{Literal}
use Rattle.type_trees.specs.declared.types.Flag.{Flag}
use Rattle.type_trees.specs.Trees.{MemberHead, CaseHead}
use Rattle.object_formats.specs.Format.{Format, num, each_good}
use Rattle.object_formats.specs.Objects.{Identifier}
use Rattle.object_formats.specs.Tables as T
use Rattle.node_rules.specs.Names.{name_fits}
use Rattle.type_resolve.specs.Objects.{set, try_flags, type_flags, member_flags, case_flags, literal_part, flag_part, member_part, case_part, between}
use Rattle.type_resolve.proofs.Returning.{EachPosition}
use Rattle.resolve_laws.specs.Named.{is_full, is_signed_word}
use Rattle.resolve_laws.proofs.Fields.{num_good, no_flags_good, name_in_full, signed_good, each_signed}

-- ---- flags, by all that may be set

abbrev both_ways : (Bool → Bool) → Bool
both_ways f = f false && f true

either : (f : Bool → Bool) → both_ways f ≡ true → (b : Bool) → f b ≡ true
either f e false = (and_parts (f false) (f true) e).0
either f e true = (and_parts (f false) (f true) e).1

abbrev member_test : Try → Bool → Bool → Bool → Bool
member_test tc optional must_understand key = (T.flags_of T.member_flags).good (try_flags tc + (set optional 8 + (set must_understand 16 + set key 32)))

each_member : (tc : Try) → both_ways (λ o. both_ways (λ m. both_ways (λ k. member_test tc o m k))) ≡ true
unfolding num T.member_flags
each_member Y.Discard = refl
each_member Y.UseDefault = refl
each_member Y.Trim = refl

member_flags_good : (h : MemberHead) → (T.flags_of T.member_flags).good (member_flags h) ≡ true
member_flags_good h =
    let some : both_ways (λ m. both_ways (λ k. member_test h.tc h.optional m k)) ≡ true = either (λ o. both_ways (λ m. both_ways (λ k. member_test h.tc o m k))) (each_member h.tc) h.optional in
    either (λ k. member_test h.tc h.optional h.must_understand k) (either (λ m. both_ways (λ k. member_test h.tc h.optional m k)) some h.must_understand) h.key

abbrev case_test : Try → Bool → Bool
case_test tc is_default = (T.flags_of T.case_flags).good (try_flags tc + set is_default 64)

each_case : (tc : Try) → both_ways (case_test tc) ≡ true
unfolding num T.case_flags
each_case Y.Discard = refl
each_case Y.UseDefault = refl
each_case Y.Trim = refl

case_flags_good : (h : CaseHead) → (T.flags_of T.case_flags).good (case_flags h) ≡ true
case_flags_good h = either (case_test h.tc) (each_case h.tc) h.is_default

abbrev type_test : Ext → Bool → Bool → Bool
type_test ext nested hashed_ids = (T.flags_of (T.type_flags true)).good (type_flags true ext nested hashed_ids)

each_type : (ext : Ext) → both_ways (λ n. both_ways (λ i. type_test ext n i)) ≡ true
unfolding num T.type_flags
each_type E.Final = refl
each_type E.Appendable = refl
each_type E.Mutable = refl

pub type_flags_good : (ext : Ext) (nested hashed_ids : Bool) → (T.flags_of (T.type_flags true)).good (type_flags true ext nested hashed_ids) ≡ true
type_flags_good ext nested hashed_ids = either (λ i. type_test ext nested i) (either (λ n. both_ways (λ i. type_test ext n i)) (each_type ext) nested) hashed_ids

pub disc_flags_good : (key : Bool) → (T.flags_of T.disc_flags).good (1 + set key 32) ≡ true
unfolding num T.disc_flags
disc_flags_good true = refl
disc_flags_good false = refl

literal_flags_good : (is_default : Bool) → (T.flags_of T.literal_flags).good (set is_default 64) ≡ true
unfolding num T.literal_flags
literal_flags_good true = refl
literal_flags_good false = refl

-- ---- literals, flags, members and cases

literal_good : (l : Literal) → is_full l.name ≡ true → name_fits l.name ≡ true → is_signed_word l.value ≡ true → (T.literal true).good (literal_part true l) ≡ true
unfolding T.literal
literal_good l full fits word = rw (signed_good l.value word, literal_flags_good l.is_default, name_in_full l.name full fits) refl

pub literals_good : (ls : List Literal) → all (λ l. is_full l.name) ls ≡ true → all (λ l. name_fits l.name) ls ≡ true → all (λ l. is_signed_word l.value) ls ≡ true
    → each_good (T.literal true) (map (literal_part true) ls) ≡ true
unfolding each_good
literals_good [] full fits words = refl
literals_good (l ∷ ls) full fits words =
    let a = and_parts (is_full l.name) _ full in
    let b = and_parts (name_fits l.name) _ fits in
    let c = and_parts (is_signed_word l.value) _ words in
    and_from _ _ (literal_good l a.0 b.0 c.0) (literals_good ls a.1 b.1 c.1)

flag_good : (f : Flag) → is_full f.name ≡ true → name_fits f.name ≡ true → f.position ≤ 255 → (T.flag true).good (flag_part true f) ≡ true
unfolding T.flag
flag_good f full fits small = rw (num_good 2 2 f.position (omega arith), no_flags_good, name_in_full f.name full fits) refl

pub flags_good : (fs : List Flag) → all (λ f. is_full f.name) fs ≡ true → all (λ f. name_fits f.name) fs ≡ true → EachPosition fs → each_good (T.flag true) (map (flag_part true) fs) ≡ true
unfolding each_good
flags_good [] full fits small = refl
flags_good (f ∷ fs) full fits small =
    let a = and_parts (is_full f.name) _ full in
    let b = and_parts (name_fits f.name) _ fits in
    and_from _ _ (flag_good f a.0 b.0 small.0) (flags_good fs a.1 b.1 small.1)

pub member_good : (h : MemberHead) (i : Identifier) → h.id < 2 ^ 28 → is_full h.name ≡ true → name_fits h.name ≡ true → (T.identifier true).good i ≡ true
    → (T.member true).good (member_part true h i) ≡ true
unfolding T.member
member_good h i low full fits good = rw (num_good 4 4 h.id (omega arith), member_flags_good h, good, name_in_full h.name full fits) refl

pub case_good : (h : CaseHead) (i : Identifier) → h.id < 2 ^ 28 → is_full h.name ≡ true → name_fits h.name ≡ true → all is_signed_word h.labels ≡ true
    → (T.identifier true).good i ≡ true → (T.case true).good (case_part true h i) ≡ true
unfolding T.case
case_good h i low full fits words good = rw (num_good 4 4 h.id (omega arith), case_flags_good h, good, each_signed h.labels words, name_in_full h.name full fits) refl

-- ---- some of a list

good-take : {A : Type 0} (f : Format A) (n : ℕ) (xs : List A) → each_good f xs ≡ true → each_good f (take n xs) ≡ true
unfolding each_good
good-take f zero [] e = refl
good-take f zero (x ∷ xs) e = refl
good-take f (suc n) [] e = refl
good-take f (suc n) (x ∷ xs) e = let both = and_parts (f.good x) (each_good f xs) e in and_from (f.good x) _ both.0 (good-take f n xs both.1)

good-drop : {A : Type 0} (f : Format A) (n : ℕ) (xs : List A) → each_good f xs ≡ true → each_good f (drop n xs) ≡ true
unfolding each_good
good-drop f zero [] e = refl
good-drop f zero (x ∷ xs) e = e
good-drop f (suc n) [] e = refl
good-drop f (suc n) (x ∷ xs) e = good-drop f n xs (and_parts (f.good x) (each_good f xs) e).1

pub good-between : {A : Type 0} (f : Format A) (had count : ℕ) (xs : List A) → each_good f xs ≡ true → each_good f (between had count xs) ≡ true
good-between f had count xs e = good-drop f had (take count xs) (good-take f count xs e)
