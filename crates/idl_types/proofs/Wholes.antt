-- What uses stand for, level by level.
use Rattle.std.proofs.Common.{◌≡◌, ℕ, List, rules, Box, Global}
use Rattle.xt_shapes.specs.declared.leaves.Primitive.{Primitive}
use Rattle.xt_shapes.specs.declared.leaves.Try.{Try}
use Rattle.type_trees.specs.Trees.{prim, str, sequence, array, map_of}
use Rattle.idl_types.specs.State.{Declared}
use Rattle.idl_types.specs.declared.uses.Used as u
use Rattle.idl_types.specs.declared.uses.Used.{Used, the_lemmas}
use Rattle.idl_types.specs.Uses.{tree_at, whole}

pub whole_prim : (ts : Declared) (p : Primitive) → whole ts (u.Prim p) ≡ prim p
whole_prim ts p = search (rules, the_lemmas)

pub whole_str : (ts : Declared) (n : ℕ) → whole ts (u.Str n) ≡ str n
whole_str ts n = search (rules, the_lemmas)

pub whole_seq : (ts : Declared) (n : ℕ) (tc : Try) (b : Box Used Global) → whole ts (u.Seq n tc b) ≡ sequence n tc (whole ts b.value)
whole_seq ts n tc b = search (rules, the_lemmas)

pub whole_array : (ts : Declared) (ds : List ℕ) (tc : Try) (b : Box Used Global) → whole ts (u.Array ds tc b) ≡ array ds tc (whole ts b.value)
whole_array ts ds tc b = search (rules, the_lemmas)

pub whole_map : (ts : Declared) (n : ℕ) (kc : Try) (k : Box Used Global) (vc : Try) (v : Box Used Global) → whole ts (u.Map n kc k vc v) ≡ map_of n kc (whole ts k.value) vc (whole ts v.value)
whole_map ts n kc k vc v = search (rules, the_lemmas)

pub whole_declared : (ts : Declared) (at : ℕ) → whole ts (u.Declared at) ≡ tree_at ts at
whole_declared ts at = search (rules, the_lemmas)

pub ruleset whole_rules = (whole_prim, whole_str, whole_seq, whole_array, whole_map, whole_declared)
