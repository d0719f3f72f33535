-- The base of a structure: what a structure has from it.
use Rattle.std.proofs.Common.{◌≡◌, refl, ◌∙◌, ap, ℕ, zero, suc, ◌-◌, ◌≤◌, ◌<◌, true, min, List, [], ◌∷◌, ◌++◌, length, Some, arith, tests}
use Rattle.std.proofs.lemmas.Bool.{and_parts}
use Rattle.std.specs.Prelude.{nat_lt}
use Rattle.xt_shapes.specs.declared.leaves.Ext.{Ext}
use Rattle.xt_shapes.specs.Kinds.{same_ext}
use Rattle.type_trees.specs.declared.types.Base.{Base}
use Rattle.type_trees.specs.Bases.{take_members, split_last, head_of}
use Rattle.type_trees.specs.Trees.{structure, StructHead, Members, no_members, member}
use Rattle.type_trees.specs.View.{members_of}
use Rattle.node_rules.specs.Rules.{counts_rise}
use Rattle.idl_types.specs.Definitions.{listed}
use Rattle.idl_definitions.specs.Structures.{heritage}
use Rattle.idl_printer.specs.Parts.{members_behind}
use Rattle.idl_printer.specs.Lines.{last_base}

-- ---- members

pub members_listed : (ms : Members) → members_of (listed ms) ≡ ms
members_listed no_members = refl
members_listed (member m t ms) = ap (λ rest. member m t rest) (members_listed ms)

pub split_members : (n : ℕ) (ms : Members) → listed (take_members n ms) ++ listed (members_behind n ms) ≡ listed ms
split_members zero ms = refl
split_members (suc n) no_members = refl
split_members (suc n) (member m t ms) = ap (λ rest. (m, t) ∷ rest) (split_members n ms)

abbrev pub count : Members → ℕ
count ms = length (listed ms)

first_count : (n : ℕ) (ms : Members) → n ≤ count ms → length (listed (take_members n ms)) ≡ n
first_count zero ms fits = refl
first_count (suc n) no_members fits = absurd (omega arith)
first_count (suc n) (member m t ms) fits = let more = first_count n ms (omega arith) in omega arith

-- ---- bases

same_ext_is : (e : Ext) → same_ext e e ≡ true
same_ext_is Ext.Final = refl
same_ext_is Ext.Appendable = refl
same_ext_is Ext.Mutable = refl

last_joined : (b : Base) (bs : List Base) → (split_last b bs).0 ++ (split_last b bs).1 ∷ [] ≡ b ∷ bs
last_joined b [] = refl
last_joined b (c ∷ cs) = ap (λ rest. b ∷ rest) (last_joined c cs)

pub last_is : (b : Base) (bs : List Base) → last_base (b ∷ bs) ≡ Some (split_last b bs).1
last_is b [] = refl
last_is b (c ∷ cs) =
    let e : length (b ∷ c ∷ cs) - 1 ≡ suc (length (c ∷ cs) - 1) = omega arith in
    rw e (last_is c cs)

below : (a b : ℕ) → nat_lt a b ≡ true → a < b
below a b e = grind (arith, tests)

-- the last count of counts that rise is below the end
pub last_below : (before : ℕ) (b : Base) (bs : List Base) (end : ℕ) → counts_rise before (b ∷ bs) end ≡ true → (split_last b bs).1.count < end
last_below before b [] end rise = below _ _ (and_parts _ _ (and_parts _ _ rise).0).1
last_below before b (c ∷ cs) end rise = last_below b.count c cs end (and_parts _ _ rise).1

with_count : Base → ℕ → Base
with_count b n = record { name = b.name; nested = b.nested; hashed_ids = b.hashed_ids; count = n }

pub heritage_is : (head : StructHead) (ms : Members) (b : Base) (bs : List Base) → (split_last b bs).1.count ≤ count ms → (split_last b bs).1.count ≤ 4294967295
    → heritage head.ext (structure (head_of head (split_last b bs)) (take_members (split_last b bs).1.count ms)) ≡ record { fits = true; bases = b ∷ bs; members = listed (take_members (split_last b bs).1.count ms) }
unfolding with_count
heritage_is head ms b bs fits small =
    let last = (split_last b bs).1 in
    let first = listed (take_members last.count ms) in
    let counted : min (length first) 4294967295 ≡ last.count = rw (first_count last.count ms fits) (omega arith) in
    let is_last : with_count last (min (length first) 4294967295) ≡ last = ap (with_count last) counted in
    let all : (split_last b bs).0 ++ with_count last (min (length first) 4294967295) ∷ [] ≡ b ∷ bs = ap (λ l. (split_last b bs).0 ++ l ∷ []) is_last ∙ last_joined b bs in
    let same = same_ext_is head.ext in
    ap (λ e. record { fits = e; bases = (split_last b bs).0 ++ with_count last (min (length first) 4294967295) ∷ []; members = first }) same ∙ ap (λ bases. record { fits = true; bases = bases; members = first }) all
