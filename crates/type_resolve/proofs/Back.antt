-- What the flags of a complete object say is what the type has.
use Rattle.std.proofs.Common.{◌≡◌, ℕ, ◌+◌, ◌≤◌, List, [], ◌∷◌, map, refl, ap, ◌∙◌, arith}
use Rattle.std.specs.Prelude.{Bool, true, false}
use Rattle.xt_shapes.specs.declared.leaves.Ext.{Ext}
use Rattle.xt_shapes.specs.declared.leaves.Ext.TheVariants as E
use Rattle.xt_shapes.specs.declared.leaves.Try.{Try}
use Rattle.xt_shapes.specs.declared.leaves.Try.TheVariants as Y
use Rattle.type_trees.specs.declared.types.Literal.{Literal}
use Rattle.type_trees.specs.Trees.{MemberHead, CaseHead}
use Rattle.object_formats.specs.Objects.{Identifier}
use Rattle.object_walks.specs.Resolving.{bit, try_of, ext_of, in_octet, literal_of, member_head, case_head}
use Rattle.type_resolve.specs.Objects.{set, try_flags, ext_flag, type_flags, literal_part, member_part, case_part}

-- each part of the flags by itself
pub tries_back : (tc : Try) → try_of (try_flags tc) ≡ tc
tries_back Y.Discard = refl
tries_back Y.UseDefault = refl
tries_back Y.Trim = refl

module _ (tc : Try) (o m k : Bool) where
  abbrev pub of_member : ℕ
  of_member = try_flags tc + (set o 8 + (set m 16 + set k 32))

pub member_says : (tc : Try) (o m k : Bool) → (try_of (of_member tc o m k) ≡ tc) × (bit (of_member tc o m k) 8 ≡ o) × (bit (of_member tc o m k) 16 ≡ m) × (bit (of_member tc o m k) 32 ≡ k)
member_says Y.Discard false false false = (refl, refl, refl, refl)
member_says Y.Discard false false true = (refl, refl, refl, refl)
member_says Y.Discard false true false = (refl, refl, refl, refl)
member_says Y.Discard false true true = (refl, refl, refl, refl)
member_says Y.Discard true false false = (refl, refl, refl, refl)
member_says Y.Discard true false true = (refl, refl, refl, refl)
member_says Y.Discard true true false = (refl, refl, refl, refl)
member_says Y.Discard true true true = (refl, refl, refl, refl)
member_says Y.UseDefault false false false = (refl, refl, refl, refl)
member_says Y.UseDefault false false true = (refl, refl, refl, refl)
member_says Y.UseDefault false true false = (refl, refl, refl, refl)
member_says Y.UseDefault false true true = (refl, refl, refl, refl)
member_says Y.UseDefault true false false = (refl, refl, refl, refl)
member_says Y.UseDefault true false true = (refl, refl, refl, refl)
member_says Y.UseDefault true true false = (refl, refl, refl, refl)
member_says Y.UseDefault true true true = (refl, refl, refl, refl)
member_says Y.Trim false false false = (refl, refl, refl, refl)
member_says Y.Trim false false true = (refl, refl, refl, refl)
member_says Y.Trim false true false = (refl, refl, refl, refl)
member_says Y.Trim false true true = (refl, refl, refl, refl)
member_says Y.Trim true false false = (refl, refl, refl, refl)
member_says Y.Trim true false true = (refl, refl, refl, refl)
member_says Y.Trim true true false = (refl, refl, refl, refl)
member_says Y.Trim true true true = (refl, refl, refl, refl)

pub member_back : (h : MemberHead) (i : Identifier) → member_head (member_part true h i) ≡ h
member_back h i = let p = member_says h.tc h.optional h.must_understand h.key in rw (p.0, p.1, p.2, p.3) refl

pub case_says : (tc : Try) (d : Bool) → (try_of (try_flags tc + set d 64) ≡ tc) × (bit (try_flags tc + set d 64) 64 ≡ d)
case_says Y.Discard false = (refl, refl)
case_says Y.Discard true = (refl, refl)
case_says Y.UseDefault false = (refl, refl)
case_says Y.UseDefault true = (refl, refl)
case_says Y.Trim false = (refl, refl)
case_says Y.Trim true = (refl, refl)

pub case_back : (h : CaseHead) (i : Identifier) → case_head (case_part true h i) ≡ h
case_back h i = let p = case_says h.tc h.is_default in rw (p.0, p.1) refl

pub type_says : (e : Ext) (n h : Bool) → (ext_of (type_flags true e n h) ≡ e) × (bit (type_flags true e n h) 8 ≡ n) × (bit (type_flags true e n h) 16 ≡ h)
type_says E.Final false false = (refl, refl, refl)
type_says E.Final false true = (refl, refl, refl)
type_says E.Final true false = (refl, refl, refl)
type_says E.Final true true = (refl, refl, refl)
type_says E.Appendable false false = (refl, refl, refl)
type_says E.Appendable false true = (refl, refl, refl)
type_says E.Appendable true false = (refl, refl, refl)
type_says E.Appendable true true = (refl, refl, refl)
type_says E.Mutable false false = (refl, refl, refl)
type_says E.Mutable false true = (refl, refl, refl)
type_says E.Mutable true false = (refl, refl, refl)
type_says E.Mutable true true = (refl, refl, refl)

pub ext_back : (e : Ext) → ext_of (ext_flag e) ≡ e
ext_back E.Final = refl
ext_back E.Appendable = refl
ext_back E.Mutable = refl

pub key_says : (k : Bool) → bit (1 + set k 32) 32 ≡ k
key_says false = refl
key_says true = refl

default_says : (d : Bool) → bit (set d 64) 64 ≡ d
default_says false = refl
default_says true = refl

pub literal_back : (l : Literal) → literal_of (literal_part true l) ≡ l
literal_back l = rw (default_says l.is_default) refl

pub literals_back : (ls : List Literal) → map literal_of (map (literal_part true) ls) ≡ ls
literals_back [] = refl
literals_back (l ∷ ls) = ap (λ m. m ∷ map literal_of (map (literal_part true) ls)) (literal_back l) ∙ ap (λ ms. l ∷ ms) (literals_back ls)

pub octet_back : (n : ℕ) → n ≤ 255 → in_octet n ≡ n
octet_back n le = omega arith
