-- Complete objects are well formed, where their parts are good.
use Rattle.std.proofs.Common.{◌≡◌, ℕ, ◌≤◌, List, [], ◌∷◌, ◌++◌, max, refl, arith}
use Rattle.std.proofs.lemmas.Bool.{false≢true, and_parts, and_from}
use Rattle.std.specs.Prelude.{Bool, true, Option, Some, None}
use Rattle.xt_shapes.specs.declared.leaves.Ext.{Ext}
use Rattle.xt_shapes.specs.declared.leaves.Ext.TheVariants as E
use Rattle.xt_shapes.specs.Lists.{all}
use Rattle.type_trees.specs.declared.types.Base.{Base}
use Rattle.type_trees.specs.declared.types.Literal.{Literal}
use Rattle.type_trees.specs.declared.types.Flag.{Flag}
use Rattle.type_trees.specs.Trees.{UnionHead}
use Rattle.object_formats.specs.Format.{num, each_good}
use Rattle.object_formats.specs.Objects as o
use Rattle.object_formats.specs.Objects.{Identifier, MemberPart, CasePart, Object}
use Rattle.object_formats.specs.Tables as T
use Rattle.object_formats.specs.Tables.{has_name}
use Rattle.node_rules.specs.Names.{name_fits, scope_fits}
use Rattle.type_resolve.specs.Objects.{own, ext_flag, alias_object, enum_object, mask_object, union_object, struct_object, layer_object}
use Rattle.type_resolve.specs.Held.{EachLayer, IsWellFormed}
use Rattle.type_resolve.proofs.Returning.{EachPosition}
use Rattle.resolve_laws.specs.Named.{is_full, is_signed_word}
use Rattle.resolve_laws.proofs.Fields.{num_good, no_flags_good, closing_good, detail_good}
use Rattle.resolve_laws.proofs.Hashes.{own_good}
use Rattle.resolve_laws.proofs.Parts.{type_flags_good, disc_flags_good, literals_good, flags_good, good-between}

-- what holds of a type's name, where there is one
with_name : (P : Option (List ℕ) → Type 0) → ((t : List ℕ) → scope_fits (Some t) ≡ true → P (Some t)) → (name : Option (List ℕ)) → has_name name ≡ true → scope_fits name ≡ true → P name
with_name P some None named fits = absurd (false≢true named)
with_name P some (Some t) named fits = some t fits

pub alias_well_formed : (name : Option (List ℕ)) (i : Identifier) → has_name name ≡ true → scope_fits name ≡ true → (T.identifier true).good i ≡ true → IsWellFormed (alias_object true name i)
unfolding T.is_well_formed T.object T.alias_body
alias_well_formed name i named fits good = with_name (λ n. IsWellFormed (alias_object true n i)) (λ t e. rw (no_flags_good, detail_good t e, good, closing_good) refl) name named fits

ext_good : (ext : Ext) → (T.flags_of (T.type_flags true)).good (ext_flag ext) ≡ true
unfolding num T.type_flags
ext_good E.Final = refl
ext_good E.Appendable = refl
ext_good E.Mutable = refl

pub enum_well_formed : (name : Option (List ℕ)) (ext : Ext) (bits : ℕ) (ls : List Literal) → has_name name ≡ true → scope_fits name ≡ true → bits ≤ 255
    → all (λ l. is_full l.name) ls ≡ true → all (λ l. name_fits l.name) ls ≡ true → all (λ l. is_signed_word l.value) ls ≡ true → IsWellFormed (enum_object true name ext bits ls)
unfolding T.is_well_formed T.object T.enum_body
enum_well_formed name ext bits ls named fits small full names words =
    with_name (λ n. IsWellFormed (enum_object true n ext bits ls)) (λ t e. rw (ext_good ext, num_good 2 2 bits (omega arith), detail_good t e, literals_good ls full names words) refl) name named fits

pub mask_well_formed : (name : Option (List ℕ)) (bits : ℕ) (fs : List Flag) → has_name name ≡ true → scope_fits name ≡ true → bits ≤ 255
    → all (λ f. is_full f.name) fs ≡ true → all (λ f. name_fits f.name) fs ≡ true → EachPosition fs → IsWellFormed (mask_object true name bits fs)
unfolding T.is_well_formed T.object T.mask_body
mask_well_formed name bits fs named fits small full names below =
    with_name (λ n. IsWellFormed (mask_object true n bits fs)) (λ t e. rw (no_flags_good, num_good 2 2 bits (omega arith), detail_good t e, flags_good fs full names below) refl) name named fits

pub union_well_formed : (h : UnionHead) (disc : Identifier) (cs : List CasePart) → has_name h.name ≡ true → scope_fits h.name ≡ true → (T.identifier true).good disc ≡ true
    → each_good (T.case true) cs ≡ true → IsWellFormed (union_object true h disc cs)
unfolding T.is_well_formed T.object T.union_body
union_well_formed h disc cs named fits disc_good cs_good =
    with_name (λ n. IsWellFormed (union_object true (record h { name = n }) disc cs))
    (λ t e. rw (type_flags_good h.ext h.nested h.hashed_ids, detail_good t e, disc_flags_good h.disc_key, disc_good, closing_good, cs_good) refl)
    h.name
    named
    fits

-- ---- structures, layer by layer

struct_well_formed : (name : Option (List ℕ)) (ext : Ext) (nested hashed_ids : Bool) (base : Identifier) (ms : List MemberPart) → has_name name ≡ true → scope_fits name ≡ true
    → (T.base true).good base ≡ true → each_good (T.member true) ms ≡ true
    → IsWellFormed (struct_object true name ext nested hashed_ids base ms)
unfolding T.is_well_formed T.object T.struct_body
struct_well_formed name ext nested hashed_ids base ms named fits base_good ms_good =
    with_name (λ n. IsWellFormed (struct_object true n ext nested hashed_ids base ms)) (λ t e. rw (type_flags_good ext nested hashed_ids, base_good, detail_good t e, ms_good) refl) name named fits

pub no_base : (T.base true).good o.none ≡ true
unfolding T.base
no_base = refl

own_base : (x : Object) → T.is_complete x ≡ true → (T.base true).good (own x) ≡ true
unfolding T.base
own_base x complete = own_good x complete

pub layers_well_formed : (ext : Ext) (base : Identifier) (had : ℕ) (bs : List Base) (parts : List MemberPart) → (T.base true).good base ≡ true
    → all (λ b. has_name b.name) bs ≡ true → all (λ b. scope_fits b.name) bs ≡ true → each_good (T.member true) parts ≡ true
    → EachLayer IsWellFormed ext base had bs parts
layers_well_formed ext base had [] parts base_good named fits good = tt
layers_well_formed ext base had (b ∷ bs) parts base_good named fits good =
    let names = and_parts (has_name b.name) _ named in
    let scopes = and_parts (scope_fits b.name) _ fits in
    let x = layer_object true ext base had b parts in (
      struct_well_formed b.name ext b.nested b.hashed_ids base _ names.0 scopes.0 base_good (good-between (T.member true) had b.count parts good),
      layers_well_formed ext (own x) (max had b.count) bs parts (own_base x names.0) names.1 scopes.1 good,
    )

pub all_of_more : {A : Type 0} (test : A → Bool) (xs : List A) (x : A) → all test xs ≡ true → test x ≡ true → all test (xs ++ x ∷ []) ≡ true
all_of_more test [] x e last = rw last refl
all_of_more test (y ∷ xs) x e last = let both = and_parts (test y) (all test xs) e in and_from (test y) _ both.0 (all_of_more test xs x both.1 last)
