-- Packed values, level by level.
use Rattle.std.proofs.Common.{◌≡◌, ℕ, ℤ, pos, List, map, rules, Bor, Box, Global}
use Rattle.xt_shapes.specs.Vals.{int, text, listed, struct_of, union_of, vals_of, slots_of, absent, present}
use Rattle.packed_reader.specs.declared.values.Numbers.{Numbers}
use Rattle.packed_reader.specs.declared.values.OwnNumbers.{OwnNumbers}
use Rattle.packed_reader.specs.declared.values.Packed as p
use Rattle.packed_reader.specs.declared.values.Packed.{Packed, the_lemmas}
use Rattle.packed_reader.specs.declared.values.PackedSlot as s
use Rattle.packed_reader.specs.declared.values.PackedSlot.{PackedSlot}
use Rattle.packed_reader.specs.declared.values.PackedUnion.{PackedUnion}
use Rattle.packed_reader.specs.View.{packed_val, packed_union, packed_slot, numbers_of, own_numbers}

pub packed_natural : (n : ℕ) → packed_val (p.Natural n) ≡ int (pos n)
packed_natural n = search (rules, the_lemmas)

pub packed_whole : (i : ℤ) → packed_val (p.Whole i) ≡ int i
packed_whole i = search (rules, the_lemmas)

pub packed_text : (t : Bor (List ℕ)) → packed_val (p.Text t) ≡ text t.now
packed_text t = search (rules, the_lemmas)

pub packed_numbers : (x : Numbers) → packed_val (p.Numbers x) ≡ listed (vals_of (numbers_of x))
packed_numbers x = search (rules, the_lemmas)

pub packed_own : (x : OwnNumbers) → packed_val (p.Own x) ≡ listed (vals_of (own_numbers x))
packed_own x = search (rules, the_lemmas)

pub packed_list : (vs : List Packed) → packed_val (p.List vs) ≡ listed (vals_of (map packed_val vs))
packed_list vs = search (rules, the_lemmas)

pub packed_struct : (ss : List PackedSlot) → packed_val (p.Struct ss) ≡ struct_of (slots_of (map packed_slot ss))
packed_struct ss = search (rules, the_lemmas)

pub packed_boxed : (b : Box PackedUnion Global) → packed_val (p.Union b) ≡ packed_union b.value
packed_boxed b = search (rules, the_lemmas)

pub packed_union_is : (u : PackedUnion) → packed_union u ≡ union_of u.disc (packed_slot u.body)
packed_union_is u = search (rules, the_lemmas)

pub packed_absent : packed_slot s.Absent ≡ absent
packed_absent = search (rules, the_lemmas)

pub packed_present : (v : Packed) → packed_slot (s.Present v) ≡ present (packed_val v)
packed_present v = search (rules, the_lemmas)

pub ruleset packed_rules = (packed_natural, packed_whole, packed_text, packed_numbers, packed_own, packed_list, packed_struct, packed_boxed, packed_union_is, packed_absent, packed_present)
