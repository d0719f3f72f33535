-- Identifiers and objects, level by level.
use Rattle.std.proofs.Common.{◌≡◌, ℕ, List, rules, Box, Global}
use Rattle.xt_shapes.specs.declared.leaves.Primitive.{Primitive}
use Rattle.type_trees.specs.declared.types.HashId.{HashId}
use Rattle.object_formats.specs.declared.objects.TypeIdentifier as t
use Rattle.object_formats.specs.declared.objects.TypeIdentifier.{TypeIdentifier, the_lemmas}
use Rattle.object_formats.specs.Objects.{none, prim, str, sequence, array, map_of, hash}
use Rattle.object_formats.specs.View.{identifier}

pub of_none : identifier t.None ≡ none
of_none = search (rules, the_lemmas)

pub of_prim : (p : Primitive) → identifier (t.Prim p) ≡ prim p
of_prim p = search (rules, the_lemmas)

pub of_str : (n : ℕ) → identifier (t.Str n) ≡ str n
of_str n = search (rules, the_lemmas)

pub of_seq : (ek flags bound : ℕ) (e : Box TypeIdentifier Global) → identifier (t.Seq ek flags bound e) ≡ sequence ek flags bound (identifier e.value)
of_seq ek flags bound e = search (rules, the_lemmas)

pub of_array : (ek flags : ℕ) (dims : List ℕ) (e : Box TypeIdentifier Global) → identifier (t.Array ek flags dims e) ≡ array ek flags dims (identifier e.value)
of_array ek flags dims e = search (rules, the_lemmas)

pub of_map : (ek flags bound : ℕ) (v : Box TypeIdentifier Global) (kf : ℕ) (k : Box TypeIdentifier Global) → identifier (t.Map ek flags bound v kf k) ≡ map_of ek flags bound (identifier v.value) kf (identifier k.value)
of_map ek flags bound v kf k = search (rules, the_lemmas)

pub of_hash : (h : HashId) → identifier (t.Hash h) ≡ hash h
of_hash h = search (rules, the_lemmas)

pub ruleset identifier_rules = (of_none, of_prim, of_str, of_seq, of_array, of_map, of_hash)
