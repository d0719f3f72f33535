-- What stands at a place.
use Rattle.std.proofs.Common.{◌≡◌, ℕ, ◌<◌, List, map, length, deque_len, slice_get, Some, IfSome, sym, ap, subst, ◌∙◌, arith}
use Rattle.std.proofs.lemmas.Option.{slice_get-map}
use Rattle.std.specs.Option.{option_map, option_and_then}
use Rattle.key_instances.specs.kept.Kept.{InstancesOf}
use Rattle.key_instances.specs.Caches.{key_of, count_of, value_of}
use Rattle.key_instances.specs.Held.{held}
use Rattle.key_instances.specs.declared.entry.Entry.{Entry}

module _ {V : Type 0} (es : List (List ℕ × Entry V)) (i : ℕ) (k : List ℕ) (e : Entry V) (is : Some (k, e) ≡ slice_get es i) where
  held_at : Some (k, e.values.items) ≡ slice_get (map held es) i
  held_at = ap (option_map held) is ∙ sym (slice_get-map held es i)

  pub key_read : Some k ≡ key_of (map held es) i
  key_read = ap (option_map (λ (x : List ℕ × List V). x.0)) held_at

  pub count_read : Some (length e.values.items) ≡ count_of (map held es) i
  count_read = ap (option_map (λ (x : List ℕ × List V). length x.1)) held_at

  pub value_read : (j : ℕ) (x : V) → slice_get e.values.items j ≡ Some x → Some x ≡ value_of (map held es) i j
  value_read j x there = sym there ∙ ap (option_and_then (λ (f : List ℕ × List V). slice_get f.1 j)) held_at

  pub below_count : (all : InstancesOf V) → map held es ≡ all → (j : ℕ) → IfSome (count_of all i) (λ n. j < n) → j < deque_len e.values
  below_count all same j below =
      let count : count_of all i ≡ Some (length e.values.items) = sym (count_read ∙ ap (λ x. count_of x i) same) in
      let under : j < length e.values.items = subst (λ o. IfSome o (λ n. j < n)) count below in
      omega (arith, under, e.values.ok.0)
