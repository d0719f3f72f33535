-- A worked list that is printable, and names that are not apart, by computation (this profile's own).
use Rattle.std.specs.Prelude.{◌≡◌, ℕ, negsuc, true, false, List, [], ◌∷◌, Some, codes, refl}
use Rattle.std.specs.Fmt.{digits}
use Rattle.std.proofs.lemmas.Bool.{leb-true}
use Rattle.md5.specs.Md5.{block_words, rounds, compress, hash_after, digest_bytes, md5}
use Rattle.xt_shapes.specs.declared.leaves.Primitive.TheVariants as prims
use Rattle.xt_shapes.specs.declared.leaves.Ext.{Ext}
use Rattle.xt_shapes.specs.declared.leaves.Try.{Try}
use Rattle.xt_shapes.specs.Typing.{has_type}
use Rattle.type_trees.specs.declared.types.Name.TheVariants as name_of
use Rattle.type_trees.specs.declared.types.Base.{Base}
use Rattle.type_trees.specs.Trees.{Tree, prim, str, sequence, array, enumeration, structure, union, Members, no_members, member, no_cases, one_case}
use Rattle.idl_types.specs.State.{Declared}
use Rattle.xt_idl.specs.Worked.{computed}
use Rattle.idl_laws.specs.Printable.{IsPrintable, parts, names_apart}

-- with all definitions at hand
unfoldable at_hand : Declared → Declared
unfolding computed digits block_words rounds compress hash_after digest_bytes md5 has_type
at_hand ds = ds

pub parts_of_a_name : parts (codes "M::N::A") ≡ codes "M" ∷ codes "N" ∷ codes "A" ∷ []
parts_of_a_name = refl

abbrev long : Tree
long = prim prims.Int32

abbrev told : ℕ → List ℕ → Tree → Members → Members
told id name t ms = member (record { id = id; name = name_of.Full name; tc = Try.Discard; optional = false; must_understand = true; key = true }) t ms

abbrev struct_of : List ℕ → List Base → Members → Tree
struct_of name bases ms = structure (record { name = Some name; ext = Ext.Final; nested = true; hashed_ids = false; bases = bases }) ms

-- a structure and another on it, in a module
abbrev base : Tree
base = struct_of (codes "B") [] (told 3 (codes "x") long no_members)

abbrev derived : Tree
derived = struct_of (codes "M::D") (record { name = Some (codes "B"); nested = true; hashed_ids = false; count = 1 } ∷ []) (told 3 (codes "x") long (told 7 (codes "y") (array (2 ∷ []) Try.Discard long) no_members))

-- an enumeration and a union over it
abbrev color : Tree
color = enumeration (Some (codes "M::C")) Ext.Final 32 (record { name = name_of.Full (codes "RED"); value = negsuc 2; is_default = true } ∷ [])

abbrev choice : Tree
choice =
    union (record { name = Some (codes "U"); ext = Ext.Appendable; nested = false; hashed_ids = true; disc_key = true }) color
    (one_case (record { id = 4; name = name_of.Full (codes "a"); tc = Try.Trim; labels = negsuc 2 ∷ []; is_default = true }) (sequence 9 Try.UseDefault (str 3)) no_cases)

abbrev mixed : Declared
mixed = (codes "B", base) ∷ (codes "M::D", derived) ∷ (codes "M::C", color) ∷ (codes "U", choice) ∷ []

pub a_mixed_list : IsPrintable mixed
unfolding at_hand
a_mixed_list = record {
  apart = refl;
  defined = (
    refl,
    (
      refl,
      (
        (refl, (tt, (refl, (tt, tt)))),
        (
          refl,
          (
            refl,
            (
              (refl, ((0, refl), (refl, ((refl, ((leb-true 2 4294967295 refl, tt), tt)), tt)))),
              (
                refl,
                (
                  refl,
                  (
                    (refl, refl),
                    (
                      refl,
                      (refl, ((refl, ((2, refl), (refl, (refl, ((leb-true 9 4294967295 refl, leb-true 3 4294967295 refl), tt))))), tt)),
                    ),
                  ),
                ),
              ),
            ),
          ),
        ),
      ),
    ),
  );
}

-- a type whose name is a module of another type's
pub a_type_is_no_module : names_apart ((codes "M", base) ∷ (codes "M::C", color) ∷ []) ≡ false
a_type_is_no_module = refl
