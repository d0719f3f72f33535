-- What a structure has from its base.
use Rattle.std.proofs.Common.{◌≡◌, refl, sym, ◌∙◌, ap, subst, true≢false, ℕ, zero, suc, ◌≤◌, true, List, [], ◌∷◌, ◌++◌, length, Some, None, arith}
use Rattle.std.specs.Prelude.{codes}
use Rattle.xt_shapes.specs.declared.leaves.Ext.{Ext}
use Rattle.xt_shapes.specs.Kinds.{same_ext}
use Rattle.type_trees.specs.declared.types.Base.{Base}
use Rattle.type_trees.specs.Bases.{take_members, split_last, head_of, base_from}
use Rattle.type_trees.specs.Trees.{Tree, prim, str, sequence, map_of, array, enumeration, bitmask, structure, union, alias, StructHead, Members, no_members, member}
use Rattle.type_trees.specs.View.{members_of}
use Rattle.type_trees.specs.sizes.TypeNodes.{nodes, member_nodes}
use Rattle.type_rules.specs.Valid.{type_fault}
use Rattle.type_rules.proofs.Kept.{limits_kept}
use Rattle.idl_types.specs.State.{State, Declared}
use Rattle.idl_types.specs.Definitions.{ListedMembers, as_base, listed}
use Rattle.idl_definitions.specs.Structures.{Heritage, heritage, no_heritage, base_clause}
use Rattle.idl_printer.specs.Parts.{members_behind}
use Rattle.idl_printer.specs.Lines.{last_base, count_of}
use Rattle.idl_laws.specs.Printable.{IsNamed, IsOnBase}
use Rattle.idl_laws.proofs.Bases.{last_is}
use Rattle.idl_laws.proofs.OfParsed.Gives.{Yields, bind, given, if_eaten}
use Rattle.idl_laws.proofs.OfParsed.Sound.{Sound}
use Rattle.idl_laws.proofs.OfParsed.Uses.{declared_used}
use Rattle.idl_laws.proofs.OfParsed.ByName.{Stands, by_name_yields}

-- ---- a valid structure has few members

some_nodes : (t : Tree) → 1 ≤ nodes t
some_nodes (prim p) = omega arith
some_nodes (str n) = omega arith
some_nodes (sequence n tc t) = omega arith
some_nodes (map_of n kc k vc v) = omega arith
some_nodes (array ds tc t) = omega arith
some_nodes (enumeration name ext bits ls) = omega arith
some_nodes (bitmask name bits fs) = omega arith
some_nodes (structure head ms) = omega arith
some_nodes (union head disc cs) = omega arith
some_nodes (alias name t) = omega arith

members_counted : (ms : Members) → length (listed ms) ≤ member_nodes ms
members_counted no_members = omega arith
members_counted (member m t ms) = omega (arith, some_nodes t, members_counted ms)

-- ---- a base behind others

split_behind : (a : Base) (bs : List Base) (b : Base) → split_last a (bs ++ b ∷ []) ≡ (a ∷ bs, b)
split_behind a [] b = refl
split_behind a (c ∷ cs) b = ap (λ r. (a ∷ r.0, r.1)) (split_behind c cs b)

base_behind : (bs : List Base) (b : Base) (head : StructHead) (ms : Members) → base_from (bs ++ b ∷ []) head ms ≡ Some (head_of head (bs, b), take_members b.count ms)
base_behind [] b head ms = refl
base_behind (a ∷ bs) b head ms = ap (λ s. Some (head_of head s, take_members s.1.count ms)) (split_behind a bs b)

last_behind : (bs : List Base) (b : Base) → last_base (bs ++ b ∷ []) ≡ Some b
last_behind [] b = refl
last_behind (a ∷ bs) b = last_is a (bs ++ b ∷ []) ∙ ap (λ s. Some s.1) (split_behind a bs b)

-- ---- members of the base, and those behind them

first_taken : (n : ℕ) (ms : Members) (own : ListedMembers) → n ≡ length (listed ms) → take_members n (members_of (listed ms ++ own)) ≡ ms
first_taken zero no_members own e = refl
first_taken zero (member m t ms) own e = absurd (omega arith)
first_taken (suc n) no_members own e = absurd (omega arith)
first_taken (suc n) (member m t ms) own e = ap (λ rest. member m t rest) (first_taken n ms own (omega arith))

others_behind : (n : ℕ) (ms : Members) (own : ListedMembers) → n ≡ length (listed ms) → members_behind n (members_of (listed ms ++ own)) ≡ members_of own
others_behind zero no_members own e = refl
others_behind zero (member m t ms) own e = absurd (omega arith)
others_behind (suc n) no_members own e = absurd (omega arith)
others_behind (suc n) (member m t ms) own e = others_behind n ms own (omega arith)

-- ---- what is inherited

-- With further members behind those of the base, the base is that very structure.
pub record Inherits (known : Declared) (ext : Ext) (h : Heritage) : Type 0 where
  pub on : (head : StructHead) → head.ext ≡ ext → (own : ListedMembers) → IsOnBase known (base_from h.bases head (members_of (h.members ++ own)))
  pub own : (own : ListedMembers) → members_behind (count_of (last_base h.bases)) (members_of (h.members ++ own)) ≡ members_of own

none_inherited : (known : Declared) (ext : Ext) → Inherits known ext (no_heritage true)
none_inherited known ext = record { on = λ head e own. tt; own = λ own. refl }

same_ext_is : (a b : Ext) → same_ext a b ≡ true → a ≡ b
same_ext_is Ext.Final Ext.Final e = refl
same_ext_is Ext.Appendable Ext.Appendable e = refl
same_ext_is Ext.Mutable Ext.Mutable e = refl
same_ext_is Ext.Final Ext.Appendable e = absurd (true≢false (sym e))
same_ext_is Ext.Final Ext.Mutable e = absurd (true≢false (sym e))
same_ext_is Ext.Appendable Ext.Final e = absurd (true≢false (sym e))
same_ext_is Ext.Appendable Ext.Mutable e = absurd (true≢false (sym e))
same_ext_is Ext.Mutable Ext.Final e = absurd (true≢false (sym e))
same_ext_is Ext.Mutable Ext.Appendable e = absurd (true≢false (sym e))

abbrev base_is : StructHead → Members → Base
base_is h ms = as_base h (listed ms)

counted : (h : StructHead) (ms : Members) → length (listed ms) ≤ 65536 → (base_is h ms).count ≡ length (listed ms)
counted h ms small = omega arith

-- the base that a structure on it has is the structure itself
whole_base : (h head : StructHead) (ms : Members) (own : ListedMembers) → length (listed ms) ≤ 65536 → head.ext ≡ h.ext
    → structure (head_of head (h.bases, base_is h ms)) (take_members (base_is h ms).count (members_of (listed ms ++ own))) ≡ structure h ms
whole_base h head ms own small same =
    ap (λ e. structure (record { name = h.name; ext = e; nested = h.nested; hashed_ids = h.hashed_ids; bases = h.bases }) (take_members (base_is h ms).count (members_of (listed ms ++ own)))) same
    ∙ ap (λ taken. structure h taken) (first_taken (base_is h ms).count ms own (counted h ms small))

structure_inherited : (known : Declared) (ext : Ext) (h : StructHead) (ms : Members) → IsNamed known h.name (structure h ms) → length (listed ms) ≤ 65536 → ext ≡ h.ext
    → Inherits known ext (heritage ext (structure h ms))
structure_inherited known ext h ms named small e = record {
  on = λ head same own.
      let whole = subst (λ t. IsNamed known h.name t) (sym (whole_base h head ms own small (same ∙ e))) named in
      subst (λ b. IsOnBase known b) (sym (base_behind h.bases (base_is h ms) head (members_of (listed ms ++ own)))) whole;
  own = λ own. ap (λ b. members_behind (count_of b) (members_of (listed ms ++ own))) (last_behind h.bases (base_is h ms)) ∙ others_behind (base_is h ms).count ms own (counted h ms small);
}

few_members : (h : StructHead) (ms : Members) → type_fault (structure h ms) ≡ None → length (listed ms) ≤ 65536
few_members h ms valid = omega (arith, (limits_kept (structure h ms) valid).1, members_counted ms)

inherits_by : (known : Declared) → Sound known → (ext : Ext) (t : Tree) → Stands known t → (heritage ext t).fits ≡ true → Inherits known ext (heritage ext t)
inherits_by known sound ext (structure h ms) stands fits =
    let used = declared_used known sound stands.place stands.full (structure h ms) stands.is in
    let small = few_members h ms (sound stands.place stands.full (structure h ms) stands.is).valid in
    structure_inherited known ext h ms used small (same_ext_is ext h.ext fits)
inherits_by known sound ext (prim p) stands fits = absurd (true≢false (sym fits))
inherits_by known sound ext (str n) stands fits = absurd (true≢false (sym fits))
inherits_by known sound ext (sequence n tc t) stands fits = absurd (true≢false (sym fits))
inherits_by known sound ext (map_of n kc k vc v) stands fits = absurd (true≢false (sym fits))
inherits_by known sound ext (array ds tc t) stands fits = absurd (true≢false (sym fits))
inherits_by known sound ext (enumeration name x bits ls) stands fits = absurd (true≢false (sym fits))
inherits_by known sound ext (bitmask name bits fs) stands fits = absurd (true≢false (sym fits))
inherits_by known sound ext (union head disc cs) stands fits = absurd (true≢false (sym fits))
inherits_by known sound ext (alias name t) stands fits = absurd (true≢false (sym fits))

pub base_yields : (s : State) → Sound s.types → (ext : Ext) → Yields (base_clause s ext) (λ h. h.fits ≡ true → Inherits s.types ext h)
unfolding base_clause
base_yields s sound ext = if_eaten (codes ":") (bind (by_name_yields s) (λ t stands. given (inherits_by s.types sound ext t stands))) (given (λ _. none_inherited s.types ext))
