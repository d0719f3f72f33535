-- Where the texts of all declared types are held, those of what a definition uses are.
use Rattle.std.proofs.Common.{ℕ, zero, suc, List, [], ◌∷◌, map, Option, Some, None, sym, subst}
use Rattle.type_trees.specs.Trees.{Tree}
use Rattle.idl_types.specs.State.{Declared}
use Rattle.idl_types.specs.Uses.{tree_at, used_level, whole}
use Rattle.idl_types.specs.declared.uses.Used.{Used, map-Used, roll-Used}
use Rattle.idl_types.specs.declared.uses.Used.TheOpen.{Used-F}
use Rattle.idl_types.specs.declared.uses.Used.TheFolds.{fold-roll-Used, ind-Used}
use Rattle.idl_types.specs.declared.declarations.UsedMember.{UsedMember}
use Rattle.idl_types.specs.declared.declarations.UsedCase.{UsedCase}
use Rattle.idl_types.specs.declared.declarations.Definition.{Definition}
use Rattle.idl_types.specs.declared.declarations.Definition.TheVariants as definition_of
use Rattle.type_object.specs.Pools.{Texts}
use Rattle.type_resolve.specs.Held.{AreHeld}
use Rattle.type_resolve.specs.Objects.{texts, joined}
use Rattle.type_resolve.specs.Definitions.{types_texts, base_texts, needed_texts}
use Rattle.type_resolve.proofs.Present.{held_first, held_second, held_both}

module _ (pool : Texts) where
  held_at : (ts : Declared) (at : ℕ) → AreHeld pool (types_texts ts) → AreHeld pool (texts (tree_at ts at))
  unfolding texts
  held_at [] at h = tt
  held_at (d ∷ ts) zero h = held_first pool (texts d.1) (types_texts ts) h
  held_at (d ∷ ts) (suc at) h = held_at ts at (held_second pool (texts d.1) (types_texts ts) h)

  module _ (ts : Declared) (h : AreHeld pool (types_texts ts)) where
    abbrev IsUsedHeld : Used → Type 0
    IsUsedHeld u = AreHeld pool (texts (whole ts u))

    -- one level of a use, where each use in it is held
    held_level : {S : Type 0} (f : S → Used) (good : (s : S) → IsUsedHeld (f s)) (y : Used-F S) → AreHeld pool (texts (used_level ts (map-Used Used Tree (whole ts) (map-Used S Used f y))))
    unfolding texts
    held_level f good (Used-F.Prim p) = tt
    held_level f good (Used-F.Str n) = tt
    held_level f good (Used-F.Seq n tc b) = good b.value
    held_level f good (Used-F.Array ds tc b) = good b.value
    held_level f good (Used-F.Map n kc k vc v) = held_both pool (texts (whole ts (f k.value))) (texts (whole ts (f v.value))) (good k.value) (good v.value)
    held_level f good (Used-F.Declared at) = held_at ts at h

    held_rolled : {S : Type 0} (f : S → Used) (good : (s : S) → IsUsedHeld (f s)) (y : Used-F S) → IsUsedHeld (roll-Used (map-Used S Used f y))
    held_rolled {S} f good y = subst (λ t. AreHeld pool (texts t)) (sym (fold-roll-Used Tree (used_level ts) (map-Used S Used f y))) (held_level f good y)

    held_use : (u : Used) → IsUsedHeld u
    held_use = ind-Used IsUsedHeld (λ x y is. subst (λ z. IsUsedHeld (roll-Used z)) is (held_rolled (λ e. e.0) (λ e. e.1) y))

    held_members : (ms : List UsedMember) → AreHeld pool (joined (map (λ m. texts (whole ts m.used)) ms))
    held_members [] = tt
    held_members (m ∷ ms) = held_both pool (texts (whole ts m.used)) _ (held_use m.used) (held_members ms)

    held_cases : (cs : List UsedCase) → AreHeld pool (joined (map (λ c. texts (whole ts c.used)) cs))
    held_cases [] = tt
    held_cases (c ∷ cs) = held_both pool (texts (whole ts c.used)) _ (held_use c.used) (held_cases cs)

    held_base : (base : Option ℕ) → AreHeld pool (base_texts ts base)
    held_base None = tt
    held_base (Some at) = held_at ts at h

    pub needed_held : (d : Definition) → AreHeld pool (needed_texts ts d)
    needed_held (definition_of.Enum e) = tt
    needed_held (definition_of.Mask m) = tt
    needed_held (definition_of.Struct s) = held_both pool (base_texts ts s.base) _ (held_base s.base) (held_members s.members)
    needed_held (definition_of.Union u) = held_both pool (texts (whole ts u.disc)) _ (held_use u.disc) (held_cases u.cases)
    needed_held (definition_of.Alias used) = held_use used
