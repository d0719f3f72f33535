-- A type is of the kind that its tree is of.
use Rattle.std.proofs.Common.{◌≡◌, ◌≢◌, ℕ, refl, sym, ap, subst, ◌∙◌, Box, Global}
use Rattle.xt_shapes.specs.declared.leaves.Primitive.{Primitive}
use Rattle.type_trees.specs.declared.types.EnumType.{EnumType}
use Rattle.type_trees.specs.declared.types.MaskType.{MaskType}
use Rattle.type_trees.specs.declared.types.XType as x
use Rattle.type_trees.specs.declared.types.XType.{XType, XType-F, out-XType, roll-XType, roll-out-XType}
use Rattle.type_trees.specs.declared.types.XType.TheVariants.{rolls-Prim, rolls-Str, rolls-Enum, rolls-Mask, rolls-Seq, rolls-Array, rolls-Map, rolls-Struct, rolls-Union, rolls-Alias}
use Rattle.type_trees.specs.declared.types.AliasType.{AliasType}
use Rattle.type_trees.specs.declared.types.ArrayType.{ArrayType}
use Rattle.type_trees.specs.declared.types.Case.{Case}
use Rattle.type_trees.specs.declared.types.Elem.{Elem}
use Rattle.type_trees.specs.declared.types.MapType.{MapType}
use Rattle.type_trees.specs.declared.types.Member.{Member}
use Rattle.type_trees.specs.declared.types.SeqType.{SeqType}
use Rattle.type_trees.specs.declared.types.StructType.{StructType}
use Rattle.type_trees.specs.declared.types.UnionType.{UnionType}
use Rattle.type_trees.specs.Trees.{Tree, prim, str, enumeration, bitmask, sequence, array, map_of, structure, union, alias}
use Rattle.type_trees.specs.View.{tree}
use Rattle.type_trees.proofs.Views.{tree_prim, tree_str, tree_enum, tree_mask, tree_seq, tree_array, tree_map, tree_struct, tree_union, tree_alias, alias_tree_is, sequence_tree_is, array_tree_is, map_tree_is, struct_tree_is, union_tree_is}

-- the type is of the tree's kind
abbrev pub Like : Tree → XType → Type 0
Like (prim p) t = (q : Primitive) × (t ≡ x.Prim q)
Like (str n) t = (m : ℕ) × (t ≡ x.Str m)
Like (enumeration name ext bits literals) t = (b : Box EnumType Global) × (t ≡ x.Enum b)
Like (bitmask name bits flags) t = (b : Box MaskType Global) × (t ≡ x.Mask b)
Like (sequence bound tc u) t = (b : Box SeqType Global) × (t ≡ x.Seq b)
Like (array dims tc u) t = (b : Box ArrayType Global) × (t ≡ x.Array b)
Like (map_of bound kc k vc v) t = (b : Box MapType Global) × (t ≡ x.Map b)
Like (structure head ms) t = (b : Box StructType Global) × (t ≡ x.Struct b)
Like (union head disc cs) t = (b : Box UnionType Global) × (t ≡ x.Union b)
Like (alias name u) t = (b : Box AliasType Global) × (t ≡ x.Alias b)

rolled : (o : XType-F XType AliasType ArrayType Case Elem MapType Member SeqType StructType UnionType) → Like (tree (roll-XType o)) (roll-XType o)
rolled (XType-F.Prim p) = subst (λ t. Like (tree t) t) (sym (rolls-Prim p)) (subst (λ u. Like u (x.Prim p)) (sym (tree_prim p)) (p, refl))
rolled (XType-F.Str n) = subst (λ t. Like (tree t) t) (sym (rolls-Str n)) (subst (λ u. Like u (x.Str n)) (sym (tree_str n)) (n, refl))
rolled (XType-F.Enum b) = subst (λ t. Like (tree t) t) (sym (rolls-Enum b)) (subst (λ u. Like u (x.Enum b)) (sym (tree_enum b)) (b, refl))
rolled (XType-F.Mask b) = subst (λ t. Like (tree t) t) (sym (rolls-Mask b)) (subst (λ u. Like u (x.Mask b)) (sym (tree_mask b)) (b, refl))
rolled (XType-F.Seq b) = subst (λ t. Like (tree t) t) (sym (rolls-Seq b)) (subst (λ u. Like u (x.Seq b)) (sym (tree_seq b ∙ sequence_tree_is b.value)) (b, refl))
rolled (XType-F.Array b) = subst (λ t. Like (tree t) t) (sym (rolls-Array b)) (subst (λ u. Like u (x.Array b)) (sym (tree_array b ∙ array_tree_is b.value)) (b, refl))
rolled (XType-F.Map b) = subst (λ t. Like (tree t) t) (sym (rolls-Map b)) (subst (λ u. Like u (x.Map b)) (sym (tree_map b ∙ map_tree_is b.value)) (b, refl))
rolled (XType-F.Struct b) = subst (λ t. Like (tree t) t) (sym (rolls-Struct b)) (subst (λ u. Like u (x.Struct b)) (sym (tree_struct b ∙ struct_tree_is b.value)) (b, refl))
rolled (XType-F.Union b) = subst (λ t. Like (tree t) t) (sym (rolls-Union b)) (subst (λ u. Like u (x.Union b)) (sym (tree_union b ∙ union_tree_is b.value)) (b, refl))
rolled (XType-F.Alias b) = subst (λ t. Like (tree t) t) (sym (rolls-Alias b)) (subst (λ u. Like u (x.Alias b)) (sym (tree_alias b ∙ alias_tree_is b.value)) (b, refl))

of_kind : (t : XType) (u : Tree) → tree t ≡ u → Like u t
of_kind t u e = subst (λ v. Like v t) e (subst (λ s. Like (tree s) s) (roll-out-XType t) (rolled (out-XType t)))

-- a type of a kind and one that is not of it have different trees

pub apart_prim : (l r : XType) (p : Primitive) → l ≡ x.Prim p → ((p' : Primitive) → r ≡ x.Prim p' → ⊥) → tree l ≢ tree r
apart_prim l r p is not same = let w = of_kind r _ (sym same ∙ ap tree is ∙ (tree_prim p)) in not w.0 w.1

pub apart_str : (l r : XType) (n : ℕ) → l ≡ x.Str n → ((n' : ℕ) → r ≡ x.Str n' → ⊥) → tree l ≢ tree r
apart_str l r n is not same = let w = of_kind r _ (sym same ∙ ap tree is ∙ (tree_str n)) in not w.0 w.1

pub apart_enum : (l r : XType) (b : Box EnumType Global) → l ≡ x.Enum b → ((b' : Box EnumType Global) → r ≡ x.Enum b' → ⊥) → tree l ≢ tree r
apart_enum l r b is not same = let w = of_kind r _ (sym same ∙ ap tree is ∙ (tree_enum b)) in not w.0 w.1

pub apart_mask : (l r : XType) (b : Box MaskType Global) → l ≡ x.Mask b → ((b' : Box MaskType Global) → r ≡ x.Mask b' → ⊥) → tree l ≢ tree r
apart_mask l r b is not same = let w = of_kind r _ (sym same ∙ ap tree is ∙ (tree_mask b)) in not w.0 w.1

pub apart_seq : (l r : XType) (b : Box SeqType Global) → l ≡ x.Seq b → ((b' : Box SeqType Global) → r ≡ x.Seq b' → ⊥) → tree l ≢ tree r
apart_seq l r b is not same = let w = of_kind r _ (sym same ∙ ap tree is ∙ (tree_seq b ∙ sequence_tree_is b.value)) in not w.0 w.1

pub apart_array : (l r : XType) (b : Box ArrayType Global) → l ≡ x.Array b → ((b' : Box ArrayType Global) → r ≡ x.Array b' → ⊥) → tree l ≢ tree r
apart_array l r b is not same = let w = of_kind r _ (sym same ∙ ap tree is ∙ (tree_array b ∙ array_tree_is b.value)) in not w.0 w.1

pub apart_map : (l r : XType) (b : Box MapType Global) → l ≡ x.Map b → ((b' : Box MapType Global) → r ≡ x.Map b' → ⊥) → tree l ≢ tree r
apart_map l r b is not same = let w = of_kind r _ (sym same ∙ ap tree is ∙ (tree_map b ∙ map_tree_is b.value)) in not w.0 w.1

pub apart_struct : (l r : XType) (b : Box StructType Global) → l ≡ x.Struct b → ((b' : Box StructType Global) → r ≡ x.Struct b' → ⊥) → tree l ≢ tree r
apart_struct l r b is not same = let w = of_kind r _ (sym same ∙ ap tree is ∙ (tree_struct b ∙ struct_tree_is b.value)) in not w.0 w.1

pub apart_union : (l r : XType) (b : Box UnionType Global) → l ≡ x.Union b → ((b' : Box UnionType Global) → r ≡ x.Union b' → ⊥) → tree l ≢ tree r
apart_union l r b is not same = let w = of_kind r _ (sym same ∙ ap tree is ∙ (tree_union b ∙ union_tree_is b.value)) in not w.0 w.1

pub apart_alias : (l r : XType) (b : Box AliasType Global) → l ≡ x.Alias b → ((b' : Box AliasType Global) → r ≡ x.Alias b' → ⊥) → tree l ≢ tree r
apart_alias l r b is not same = let w = of_kind r _ (sym same ∙ ap tree is ∙ (tree_alias b ∙ alias_tree_is b.value)) in not w.0 w.1
