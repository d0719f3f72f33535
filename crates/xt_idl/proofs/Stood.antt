-- What stands for uses, level by level, and where outlines stand for declared types.
use Rattle.std.proofs.Common.{◌≡◌, refl, sym, ap, subst, ◌∙◌, ℕ, List, rules, Box, Global}
use Rattle.xt_shapes.specs.declared.leaves.Primitive.{Primitive}
use Rattle.xt_shapes.specs.declared.leaves.Try.{Try}
use Rattle.type_trees.specs.Trees.{Tree, prim, str, sequence, array, map_of}
use Rattle.idl_types.specs.State.{Declared}
use Rattle.idl_types.specs.declared.uses.Used as u
use Rattle.idl_types.specs.declared.uses.Used.{Used, the_lemmas, map-Used, roll-Used, fold-roll-Used, ind-Used}
use Rattle.idl_types.specs.declared.uses.Used.TheOpen.{Used-F}
use Rattle.idl_types.specs.Uses.{tree_at, whole}
use Rattle.xt_idl.specs.Outlines.{use_outline}
use Rattle.xt_idl.specs.Standing.{stood_level, stood_by}

pub stood_prim : (placed : ℕ → Tree) (p : Primitive) → stood_by placed (u.Prim p) ≡ prim p
stood_prim placed p = search (rules, the_lemmas)

pub stood_str : (placed : ℕ → Tree) (n : ℕ) → stood_by placed (u.Str n) ≡ str n
stood_str placed n = search (rules, the_lemmas)

pub stood_seq : (placed : ℕ → Tree) (n : ℕ) (tc : Try) (b : Box Used Global) → stood_by placed (u.Seq n tc b) ≡ sequence n tc (stood_by placed b.value)
stood_seq placed n tc b = search (rules, the_lemmas)

pub stood_array : (placed : ℕ → Tree) (ds : List ℕ) (tc : Try) (b : Box Used Global) → stood_by placed (u.Array ds tc b) ≡ array ds tc (stood_by placed b.value)
stood_array placed ds tc b = search (rules, the_lemmas)

pub stood_map : (placed : ℕ → Tree) (n : ℕ) (kc : Try) (k : Box Used Global) (vc : Try) (v : Box Used Global) → stood_by placed (u.Map n kc k vc v) ≡ map_of n kc (stood_by placed k.value) vc (stood_by placed v.value)
stood_map placed n kc k vc v = search (rules, the_lemmas)

pub stood_declared : (placed : ℕ → Tree) (at : ℕ) → stood_by placed (u.Declared at) ≡ placed at
stood_declared placed at = search (rules, the_lemmas)

pub ruleset stood_rules = (stood_prim, stood_str, stood_seq, stood_array, stood_map, stood_declared)

-- ---- where outlines stand

abbrev outlines_of : Declared → ℕ → Tree
outlines_of ts at = use_outline (tree_at ts at)

abbrev IsOutlined : Declared → Used → Type 0
IsOutlined ts used = stood_by (outlines_of ts) used ≡ use_outline (whole ts used)

stood_roll : (placed : ℕ → Tree) (x : Used-F Used) → stood_by placed (roll-Used x) ≡ stood_level placed (map-Used Used Tree (stood_by placed) x)
stood_roll placed x = fold-roll-Used Tree (stood_level placed) x

-- one level of a use, with proofs beside the uses in it
abbrev Proved : Declared → Type 0
Proved ts = Used-F ((used : Used) × IsOutlined ts used)

abbrev unproved : (ts : Declared) → Proved ts → Used-F Used
unproved ts = map-Used ((used : Used) × IsOutlined ts used) Used (λ e. e.0)

level_outlined : (ts : Declared) (y : Proved ts)
    → stood_level (outlines_of ts) (map-Used Used Tree (stood_by (outlines_of ts)) (unproved ts y)) ≡ use_outline (stood_level (tree_at ts) (map-Used Used Tree (whole ts) (unproved ts y)))
level_outlined ts (Used-F.Prim p) = refl
level_outlined ts (Used-F.Str n) = refl
level_outlined ts (Used-F.Seq n tc t) = rw t.value.1 refl
level_outlined ts (Used-F.Array ds tc t) = rw t.value.1 refl
level_outlined ts (Used-F.Map n kc k vc v) = rw (k.value.1, v.value.1) refl
level_outlined ts (Used-F.Declared at) = refl

use_outlined : (ts : Declared) (y : Proved ts) → IsOutlined ts (roll-Used (unproved ts y))
use_outlined ts y = stood_roll (outlines_of ts) (unproved ts y) ∙ level_outlined ts y ∙ ap use_outline (sym (stood_roll (tree_at ts) (unproved ts y)))

pub stood_outline : (ts : Declared) (used : Used) → stood_by (λ at. use_outline (tree_at ts at)) used ≡ use_outline (whole ts used)
stood_outline ts = ind-Used (IsOutlined ts) (λ x y is. subst (λ z. IsOutlined ts (roll-Used z)) is (use_outlined ts y))
