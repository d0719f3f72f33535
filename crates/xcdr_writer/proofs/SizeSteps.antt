-- Where the parts of a spelling end.
use Rattle.std.proofs.Common.{◌≡◌, refl, sym, ap, ◌∙◌, ℕ, ◌+◌, ◌*◌, ◌^◌, ◌≤◌, ◌<◌, ℤ, Bool, true, false, cond, List, [], ◌∷◌, ◌++◌, length, replicate, Option, Some, None, arith, min, nat_lt, map, drop, get_or, length-append, append_assoc, zero, suc, append-nil, ◌==◌, tests, ⊎_elim, Box, Global}
use Rattle.std.proofs.lemmas.Bool.{cases_lt}
use Rattle.std.proofs.Math.Seq.{drop-nil}
use Rattle.std.specs.Option.{is_some}
use Rattle.std.proofs.lemmas.List.{drop_more, drop_all, length-replicate}
use Rattle.xt_shapes.specs.declared.leaves.Ext.{Ext}
use Rattle.xt_shapes.specs.declared.leaves.Ext.TheVariants.{Final, Appendable, Mutable}
use Rattle.xt_shapes.specs.declared.leaves.Primitive.{Primitive}
use Rattle.xt_shapes.specs.declared.leaves.Try.{Try}
use Rattle.xt_shapes.specs.declared.leaves.Order.{Order}
use Rattle.xt_shapes.specs.declared.leaves.Rep.{Rep}
use Rattle.xt_shapes.specs.declared.leaves.Rep.TheVariants.{Xcdr1, Xcdr2}
use Rattle.xt_shapes.specs.Kinds.{as_prim}
use Rattle.xt_shapes.specs.Select.{select, is_must}
use Rattle.xt_shapes.specs.Sizes.{size, enum_size, mask_size}
use Rattle.xt_shapes.specs.Shape.{Head, Literal, Flag, Shape, prim, str, enumeration, bitmask, sequence, array, map_of, structure, union, Members, Cases}
use Rattle.xt_shapes.specs.Vals.{Val, Slot, absent, present, number_in, octets_in, items_in, entries_in, slots_in, disc_in, body_in, first, others}
use Rattle.xcdr_model.specs.FixedSpelling.{Fixed, nothing, number_fixed, then_fixed, headed_fixed, each_fixed, collection_fixed, counted_fixed, scalar_size, scalar_fixed, text_fixed, slot_fixed, piece_fixed, if_selected_fixed, if_present_fixed, fixed_of, fixed, members_fixed, pieces_fixed, case_fixed, fixed1, members_fixed1, params_fixed, case_fixed1}
use Rattle.xcdr_model.specs.Numbers.{padding, raw, octets}
use Rattle.xcdr_model.specs.Xcdr2Reading.{is_primitive}
use Rattle.xcdr_model.specs.Xcdr2Spelling.{bit}
use Rattle.type_trees.specs.declared.types.Member.{Member}
use Rattle.type_trees.specs.declared.types.XType as x
use Rattle.type_trees.specs.declared.types.XType.{XType}
use Rattle.type_trees.specs.declared.types.EnumType.{EnumType}
use Rattle.type_trees.specs.declared.types.MaskType.{MaskType}
use Rattle.type_trees.specs.declared.types.SeqType.{SeqType}
use Rattle.type_trees.specs.declared.types.ArrayType.{ArrayType}
use Rattle.type_trees.specs.declared.types.MapType.{MapType}
use Rattle.type_trees.specs.declared.types.StructType.{StructType}
use Rattle.type_trees.specs.declared.types.UnionType.{UnionType}
use Rattle.type_trees.specs.Parts.{structure_parts, union_parts}
use Rattle.type_trees.specs.declared.types.Case.{Case}
use Rattle.type_trees.specs.declared.values.Pair.{Pair}
use Rattle.type_trees.specs.declared.values.Slot as values
use Rattle.type_trees.specs.Bridge.{type_shape, members_shape, cases_shape, member_head, shape, literal_shape, flag_shape}
use Rattle.type_trees.specs.View.{val, pair_val, slots_val}
use Rattle.type_trees.proofs.Views.{member_tree_is, case_tree_is, pair_val_is, tree_prim, tree_str, tree_enum, tree_mask, tree_seq, tree_array, tree_map, tree_struct, tree_union, sequence_tree_is, array_tree_is, map_tree_is, struct_tree_is, union_tree_is}
use Rattle.xt_wire.proofs.OfWriter.NumberSteps.{length-octets}
use Rattle.value_writer.specs.Places.{end_of, number_end}
use Rattle.value_writer.specs.Runs.{run_fixed}
use Rattle.value_writer.proofs.Ends.{end_of_then, end_of_number, end_of_headed, end_of_nothing, end_of_octets, end_of_same}
use Rattle.xcdr_writer.specs.Parts.{most_of, slot_in, piece_in, members_of, pieces_of, case_of, items_fixed, sequence_fixed, array_fixed, map_fixed, structure_fixed, selected_fixed, union_fixed, delimiter_end, header_end, presence_end}

-- ---- numbers and texts

pub padding_zero : (p : ℕ) → padding 0 p ≡ 0
unfolding padding
padding_zero p = omega arith

pub number_end_zero : (r : Rep) (p : ℕ) → number_end (most_of r) 0 p ≡ min 4294967296 p
number_end_zero Xcdr1 p = ap (λ (n : ℕ). min 4294967296 (p + (n + 0))) (padding_zero p) ∙ omega arith
number_end_zero Xcdr2 p = ap (λ (n : ℕ). min 4294967296 (p + (n + 0))) (padding_zero p) ∙ omega arith

pub end_of_text : (o : Order) (t : List ℕ) (p : ℕ) → end_of (text_fixed o t) p ≡ min 4294967296 (min 4294967296 (number_end 4 4 p + length t) + 1)
end_of_text o t p =
    end_of_then (number_fixed 4 o 4 (length t + 1)) (λ q. t ++ 0 ∷ []) p
    ∙ ap (λ (q : ℕ). end_of (λ k. t ++ 0 ∷ []) q) (end_of_number 4 o 4 (length t + 1) p)
    ∙ end_of_octets (t ++ 0 ∷ []) (number_end 4 4 p)
    ∙ omega (arith, length-append t (0 ∷ []))

-- ---- collections

pub end_of_counted : {A : Type 0} (o : Order) (f : A → Fixed) (xs : List A) (p : ℕ) → end_of (counted_fixed o f xs) p ≡ end_of (each_fixed f xs) (number_end 4 4 p)
end_of_counted o f xs p = end_of_then (number_fixed 4 o 4 (length xs)) (each_fixed f xs) p ∙ ap (λ (q : ℕ). end_of (each_fixed f xs) q) (end_of_number 4 o 4 (length xs) p)

pub end_of_collection : (plain : Bool) (o : Order) (f : Fixed) (p : ℕ) → end_of (collection_fixed plain o f) p ≡ end_of f (delimiter_end plain p)
end_of_collection true o f p = refl
end_of_collection false o f p = end_of_headed o f p

-- an element is plain where it is a primitive behind its aliases
pub plain_is : (t : Shape) (b : Bool) → b ≡ is_some (as_prim t) → b ≡ is_primitive t
plain_is (prim p) b e = e
plain_is (str bound) b e = e
plain_is (enumeration e1 bits ls) b e = e
plain_is (bitmask bits fs) b e = e
plain_is (sequence bound tc t) b e = e
plain_is (array dims tc t) b e = e
plain_is (map_of bound kc k vc t) b e = e
plain_is (structure e1 ms) b e = e
plain_is (union e1 key disc cs) b e = e

-- a list of primitives is a run
items_of_prim : (r : Rep) (o : Order) (p : Primitive) (vs : List Val) → items_fixed r o (prim p) vs ≡ run_fixed (most_of r) o (size p) vs
unfolding fixed fixed1
items_of_prim Xcdr1 o p vs = refl
items_of_prim Xcdr2 o p vs = refl

pub items_are : (r : Rep) (o : Order) (t : Shape) (p : Primitive) (vs : List Val) → as_prim t ≡ Some p → items_fixed r o t vs ≡ run_fixed (most_of r) o (size p) vs
items_are r o (prim q) p vs e = ap (λ (k : Primitive). items_fixed r o (prim k) vs) (some_same e) ∙ items_of_prim r o p vs
  where
    some_same : Some q ≡ Some p → q ≡ p
    some_same e = cc
items_are r o (str bound) p vs e = absurd (cc)
items_are r o (enumeration e1 bits ls) p vs e = absurd (cc)
items_are r o (bitmask bits fs) p vs e = absurd (cc)
items_are r o (sequence bound tc t) p vs e = absurd (cc)
items_are r o (array dims tc t) p vs e = absurd (cc)
items_are r o (map_of bound kc k vc t) p vs e = absurd (cc)
items_are r o (structure e1 ms) p vs e = absurd (cc)
items_are r o (union e1 key disc cs) p vs e = absurd (cc)

-- ---- members

-- a count that needs no padding
headed_at : (o : Order) (f : Fixed) (q : ℕ) → padding 4 q ≡ 0 → headed_fixed o f q ≡ octets o 4 (length (f (q + 4))) ++ f (q + 4)
unfolding headed_fixed number_fixed
headed_at o f q e = ap (λ (n : ℕ). (replicate n 0 ++ octets o 4 (length (f (q + (n + 4))))) ++ f (q + (n + 4))) e

behind_header : (p : ℕ) → padding 4 (p + (padding 4 p + 4)) ≡ 0
unfolding padding
behind_header p = omega arith

short_piece : (o : Order) (n : ℕ) (f : Fixed) (p : ℕ) → let zeros = replicate {A = ℕ} (padding 4 p) 0 in
    zeros ++ ((octets o 4 n ++ []) ++ f (p + (padding 4 p + 4))) ≡ then_fixed (number_fixed 4 o 4 n) f p
unfolding then_fixed number_fixed
short_piece o n f p =
    let zeros = replicate {A = ℕ} (padding 4 p) 0 in
    let xs = octets o 4 n in
    let len : length (zeros ++ xs) ≡ padding 4 p + 4 = omega (arith, length-append zeros xs, length-replicate {A = ℕ} (padding 4 p) 0, length-octets o 4 n) in
    ap (λ (l : List ℕ). zeros ++ (l ++ f (p + (padding 4 p + 4)))) (append-nil xs) ∙ sym (append_assoc zeros xs (f (p + (padding 4 p + 4)))) ∙ ap (λ (m : ℕ). (zeros ++ xs) ++ f (p + m)) (sym len)

long_piece : (o : Order) (n : ℕ) (f : Fixed) (p : ℕ) → let zeros = replicate {A = ℕ} (padding 4 p) 0 in
    let x = f (p + (padding 4 p + 8)) in
    zeros ++ ((octets o 4 n ++ octets o 4 (length x)) ++ x) ≡ then_fixed (number_fixed 4 o 4 n) (headed_fixed o f) p
unfolding then_fixed number_fixed
long_piece o n f p =
    let zeros = replicate {A = ℕ} (padding 4 p) 0 in
    let xs = octets o 4 n in
    let x = f (p + (padding 4 p + 8)) in
    let len : length (zeros ++ xs) ≡ padding 4 p + 4 = omega (arith, length-append zeros xs, length-replicate {A = ℕ} (padding 4 p) 0, length-octets o 4 n) in
    let there : (p + (padding 4 p + 4)) + 4 ≡ p + (padding 4 p + 8) = omega arith in
    let header = λ (q : ℕ). octets o 4 (length (f q)) ++ f q in
    ap (λ (l : List ℕ). zeros ++ l) (append_assoc xs (octets o 4 (length x)) x) ∙ sym (append_assoc zeros xs (octets o 4 (length x) ++ x))
    ∙ ap (λ (q : ℕ). (zeros ++ xs) ++ header q) (sym there)
    ∙ ap (λ (l : List ℕ). (zeros ++ xs) ++ l) (sym (headed_at o f (p + (padding 4 p + 4)) (behind_header p)))
    ∙ ap (λ (m : ℕ). (zeros ++ xs) ++ headed_fixed o f (p + m)) (sym len)

-- a member's header, and then its content, behind a count where its length has no code
pub piece_parts : (o : Order) (h : Head) (code : ℕ) (f : Val → Fixed) (w : Val) (p : ℕ)
    → piece_fixed o h code f (present w) p ≡ then_fixed (number_fixed 4 o 4 (bit (is_must h) * 2 ^ 31 + code * 2 ^ 28 + h.id)) (cond (nat_lt code 4) (f w) (headed_fixed o (f w))) p
unfolding piece_fixed
piece_parts o h code f w p = by_code (nat_lt code 4)
  where
    by_code : (c : Bool)
        → replicate {A = ℕ} (padding 4 p) 0 ++ ((octets o 4 (bit (is_must h) * 2 ^ 31 + code * 2 ^ 28 + h.id) ++ cond c [] (octets o 4 (length (f w (p + (padding 4 p + cond c 4 8)))))) ++ f w (p + (padding 4 p + cond c 4 8)))
        ≡ then_fixed (number_fixed 4 o 4 (bit (is_must h) * 2 ^ 31 + code * 2 ^ 28 + h.id)) (cond c (f w) (headed_fixed o (f w))) p
    by_code true = short_piece o (bit (is_must h) * 2 ^ 31 + code * 2 ^ 28 + h.id) (f w) p
    by_code false = long_piece o (bit (is_must h) * 2 ^ 31 + code * 2 ^ 28 + h.id) (f w) p

pub end_of_piece : (o : Order) (h : Head) (code : ℕ) (f : Val → Fixed) (w : Val) (p : ℕ) → end_of (piece_fixed o h code f (present w)) p ≡ end_of (f w) (header_end code p)
end_of_piece o h code f w p =
    let n = bit (is_must h) * 2 ^ 31 + code * 2 ^ 28 + h.id in
    end_of_same (piece_fixed o h code f (present w)) (then_fixed (number_fixed 4 o 4 n) (cond (nat_lt code 4) (f w) (headed_fixed o (f w)))) p (piece_parts o h code f w p)
    ∙ end_of_then (number_fixed 4 o 4 n) (cond (nat_lt code 4) (f w) (headed_fixed o (f w))) p
    ∙ ap (λ (q : ℕ). end_of (cond (nat_lt code 4) (f w) (headed_fixed o (f w))) q) (end_of_number 4 o 4 n p)
    ∙ by_code (nat_lt code 4)
  where
    by_code : (c : Bool) → end_of (cond c (f w) (headed_fixed o (f w))) (number_end 4 4 p) ≡ end_of (f w) (cond c (number_end 4 4 p) (number_end 4 4 (number_end 4 4 p)))
    by_code true = refl
    by_code false = end_of_headed o (f w) (number_end 4 4 p)

pub end_of_no_piece : (o : Order) (h : Head) (code : ℕ) (f : Val → Fixed) (p : ℕ) → end_of (piece_fixed o h code f absent) p ≡ min 4294967296 p
unfolding piece_fixed
end_of_no_piece o h code f p = end_of_nothing p

-- an optional member, behind its octet
pub end_of_slot : (opt : Bool) (o : Order) (f : Val → Fixed) (s : Slot) (p : ℕ) → end_of (slot_fixed opt o f s) p ≡ end_of (if_present_fixed s f) (presence_end opt p)
end_of_slot false o f absent p = refl
end_of_slot false o f (present w) p = refl
end_of_slot true o f absent p = end_of_number 4 o 1 0 p ∙ sym (end_of_nothing (number_end 4 1 p) ∙ omega arith)
end_of_slot true o f (present w) p = end_of_then (number_fixed 4 o 1 1) (f w) p ∙ ap (λ (q : ℕ). end_of (f w) q) (end_of_number 4 o 1 1 p)

-- ---- slots beside members

pub others_drop : (ss : List values.Slot) (i : ℕ) → others (slots_val (drop i ss)) ≡ slots_val (drop (i + 1) ss)
others_drop [] i = rw (drop-nil i, drop-nil (i + 1)) refl
others_drop (s ∷ ss) zero = refl
others_drop (s ∷ ss) (suc i) = others_drop ss i ∙ ap (λ (n : ℕ). slots_val (drop n (s ∷ ss))) (more i)
  where
    more : (i : ℕ) → suc (i + 1) ≡ suc i + 1
    more i = omega arith

pub members_step : (r : Rep) (o : Order) (ms : List Member) (ss : List values.Slot) (i : ℕ) (m : Member) → i < length ms → m ≡ get_or ms i m
    → members_of r o (members_shape (drop i ms)) (slots_val (drop i ss)) ≡ then_fixed (slot_in r o (member_head m) (λ w. fixed_of r o (type_shape m.ty) w) (first (slots_val (drop i ss)))) (members_of r o (members_shape (drop (i + 1) ms)) (slots_val (drop (i + 1) ss)))
unfolding members_fixed members_fixed1
members_step Xcdr1 o ms ss i m within is = rw (drop_more ms i m within, ← is, member_tree_is m, others_drop ss i) refl
members_step Xcdr2 o ms ss i m within is = rw (drop_more ms i m within, ← is, member_tree_is m, others_drop ss i) refl

pub pieces_step : (r : Rep) (o : Order) (ms : List Member) (ss : List values.Slot) (i : ℕ) (m : Member) → i < length ms → m ≡ get_or ms i m
    → pieces_of r o (members_shape (drop i ms)) (slots_val (drop i ss)) ≡ then_fixed (piece_in r o (member_head m) (scalar_size (type_shape m.ty)) (λ w. fixed_of r o (type_shape m.ty) w) (first (slots_val (drop i ss)))) (pieces_of r o (members_shape (drop (i + 1) ms)) (slots_val (drop (i + 1) ss)))
unfolding pieces_fixed params_fixed
pieces_step Xcdr1 o ms ss i m within is = rw (drop_more ms i m within, ← is, member_tree_is m, others_drop ss i) refl
pieces_step Xcdr2 o ms ss i m within is = rw (drop_more ms i m within, ← is, member_tree_is m, others_drop ss i) refl

pub members_end : (r : Rep) (o : Order) (ms : List Member) (ss : List values.Slot) (i : ℕ) → length ms ≤ i → members_of r o (members_shape (drop i ms)) (slots_val (drop i ss)) ≡ nothing
unfolding members_fixed members_fixed1
members_end Xcdr1 o ms ss i past = rw (drop_all i ms past) refl
members_end Xcdr2 o ms ss i past = rw (drop_all i ms past) refl

pub pieces_end : (r : Rep) (o : Order) (ms : List Member) (ss : List values.Slot) (i : ℕ) → length ms ≤ i → pieces_of r o (members_shape (drop i ms)) (slots_val (drop i ss)) ≡ nothing
unfolding pieces_fixed params_fixed
pieces_end Xcdr1 o ms ss i past = rw (drop_all i ms past) refl
pieces_end Xcdr2 o ms ss i past = rw (drop_all i ms past) refl

-- ---- the parts that a type is spelled by

pub structure_is : (r : Rep) (o : Order) (e : Ext) (ms : Members) (v : Val) → fixed_of r o (structure e ms) v ≡ structure_fixed r o e ms (slots_in v)
unfolding fixed fixed1
structure_is Xcdr1 o Final ms v = refl
structure_is Xcdr1 o Appendable ms v = refl
structure_is Xcdr1 o Mutable ms v = refl
structure_is Xcdr2 o Final ms v = refl
structure_is Xcdr2 o Appendable ms v = refl
structure_is Xcdr2 o Mutable ms v = refl

pub union_is : (r : Rep) (o : Order) (e : Ext) (key : Bool) (disc : Shape) (cs : Cases) (v : Val) → fixed_of r o (union e key disc cs) v ≡ union_fixed r o e disc cs (disc_in v) (body_in v)
unfolding fixed fixed1
union_is Xcdr1 o Final key disc cs v = refl
union_is Xcdr1 o Appendable key disc cs v = refl
union_is Xcdr1 o Mutable key disc cs v = refl
union_is Xcdr2 o Final key disc cs v = refl
union_is Xcdr2 o Appendable key disc cs v = refl
union_is Xcdr2 o Mutable key disc cs v = refl

pub str_is : (r : Rep) (o : Order) (bound : ℕ) (v : Val) → fixed_of r o (str bound) v ≡ text_fixed o (octets_in v)
unfolding fixed fixed1
str_is Xcdr1 o bound v = refl
str_is Xcdr2 o bound v = refl

pub sequence_is : (r : Rep) (o : Order) (bound : ℕ) (tc : Try) (t : Shape) (v : Val) → fixed_of r o (sequence bound tc t) v ≡ sequence_fixed r o t (items_in v)
unfolding fixed fixed1
sequence_is Xcdr1 o bound tc t v = refl
sequence_is Xcdr2 o bound tc t v = refl

pub array_is : (r : Rep) (o : Order) (dims : List ℕ) (tc : Try) (t : Shape) (v : Val) → fixed_of r o (array dims tc t) v ≡ array_fixed r o t (items_in v)
unfolding fixed fixed1
array_is Xcdr1 o dims tc t v = refl
array_is Xcdr2 o dims tc t v = refl

pub map_is : (r : Rep) (o : Order) (bound : ℕ) (kc : Try) (k : Shape) (vc : Try) (t : Shape) (v : Val) → fixed_of r o (map_of bound kc k vc t) v ≡ map_fixed r o k t (entries_in v)
unfolding fixed fixed1
map_is Xcdr1 o bound kc k vc t v = refl
map_is Xcdr2 o bound kc k vc t v = refl

pub prim_is : (r : Rep) (o : Order) (p : Primitive) (v : Val) → fixed_of r o (prim p) v ≡ scalar_fixed (most_of r) o (prim p) (number_in v)
unfolding fixed fixed1
prim_is Xcdr1 o p v = refl
prim_is Xcdr2 o p v = refl

pub enumeration_is : (r : Rep) (o : Order) (e : Ext) (bits : ℕ) (ls : List Literal) (v : Val) → fixed_of r o (enumeration e bits ls) v ≡ scalar_fixed (most_of r) o (enumeration e bits ls) (number_in v)
unfolding fixed fixed1
enumeration_is Xcdr1 o e bits ls v = refl
enumeration_is Xcdr2 o e bits ls v = refl

pub bitmask_is : (r : Rep) (o : Order) (bits : ℕ) (fs : List Flag) (v : Val) → fixed_of r o (bitmask bits fs) v ≡ scalar_fixed (most_of r) o (bitmask bits fs) (number_in v)
unfolding fixed fixed1
bitmask_is Xcdr1 o bits fs v = refl
bitmask_is Xcdr2 o bits fs v = refl

-- ---- steps of a loop over parts

pub capped_start : (f : Fixed) (p q : ℕ) → q ≡ min p 4294967296 → end_of f q ≡ end_of f p
unfolding end_of
capped_start f p q e = ⊎_elim
    (λ below. ap (λ (n : ℕ). min 4294967296 (n + length (f n))) (e ∙ omega (arith, below)))
    (λ above. omega (arith, e, above))
    (cases_lt p 4294967296)

pub capped_min : (p q : ℕ) → q ≡ min p 4294967296 → min 4294967296 q ≡ q
capped_min p q e = omega (arith, e)

pub step_end : (f g h : Fixed) (p q t : ℕ) → h ≡ then_fixed f g → q ≡ end_of f p → end_of h p ≡ t → end_of g q ≡ t
step_end f g h p q t parts is whole = ap (λ (k : ℕ). end_of g k) is ∙ sym (end_of_then f g p) ∙ ap (λ (k : Fixed). end_of k p) (sym parts) ∙ whole

pub capped_end : (f : Fixed) (p q : ℕ) → q ≡ end_of f p → min 4294967296 q ≡ q
unfolding end_of
capped_end f p q e = omega (arith, e)

pub last_end : (h : Fixed) (p t : ℕ) → h ≡ nothing → end_of h p ≡ t → min 4294967296 p ≡ p → p ≡ t
last_end h p t none whole low = sym low ∙ sym (end_of_nothing p) ∙ ap (λ (k : Fixed). end_of k p) (sym none) ∙ whole

pub next_entry : (es : List Pair) (i : ℕ) (e : Pair) → i < length es → e ≡ get_or es i e → map pair_val (drop i es) ≡ (val e.key, val e.value) ∷ map pair_val (drop (i + 1) es)
next_entry es i e within is = rw (drop_more es i e within, ← is, pair_val_is e) refl

pub no_more_entries : (es : List Pair) (i : ℕ) → length es ≤ i → map pair_val (drop i es) ≡ []
no_more_entries es i past = ap (map pair_val) (drop_all i es past)

-- ---- cases

eq_yes : (a b : ℕ) → a ≡ b → (a == b) ≡ true
eq_yes a b e = grind (arith, tests)

eq_no : (a b : ℕ) → (a ≡ b → ⊥) → (a == b) ≡ false
eq_no a b e = grind (arith, tests)

pub case_here : (r : Rep) (o : Order) (cs : List Case) (i id : ℕ) (c : Case) (s : Slot) → i < length cs → c ≡ get_or cs i c → c.id ≡ id → case_of r o (cases_shape (drop i cs)) id s ≡ if_present_fixed s (λ w. fixed_of r o (type_shape c.ty) w)
unfolding case_fixed case_fixed1
case_here Xcdr1 o cs i id c s within is e = rw (drop_more cs i c within, ← is, case_tree_is c, eq_yes c.id id e) refl
case_here Xcdr2 o cs i id c s within is e = rw (drop_more cs i c within, ← is, case_tree_is c, eq_yes c.id id e) refl

pub case_next : (r : Rep) (o : Order) (cs : List Case) (i id : ℕ) (c : Case) (s : Slot) → i < length cs → c ≡ get_or cs i c → (c.id ≡ id → ⊥) → case_of r o (cases_shape (drop i cs)) id s ≡ case_of r o (cases_shape (drop (i + 1) cs)) id s
unfolding case_fixed case_fixed1
case_next Xcdr1 o cs i id c s within is e = rw (drop_more cs i c within, ← is, case_tree_is c, eq_no c.id id e) refl
case_next Xcdr2 o cs i id c s within is e = rw (drop_more cs i c within, ← is, case_tree_is c, eq_no c.id id e) refl

pub case_none : (r : Rep) (o : Order) (cs : List Case) (i id : ℕ) (s : Slot) → length cs ≤ i → case_of r o (cases_shape (drop i cs)) id s ≡ nothing
unfolding case_fixed case_fixed1
case_none Xcdr1 o cs i id s past = rw (drop_all i cs past) refl
case_none Xcdr2 o cs i id s past = rw (drop_all i cs past) refl

-- ---- the shapes of the program's types

pub shape_seq : (b : Box SeqType Global) → type_shape (x.Seq b) ≡ sequence b.value.bound b.value.elem.tc (type_shape b.value.elem.ty)
shape_seq b = ap shape (tree_seq b ∙ sequence_tree_is b.value)

pub shape_array : (b : Box ArrayType Global) → type_shape (x.Array b) ≡ array b.value.dims b.value.elem.tc (type_shape b.value.elem.ty)
shape_array b = ap shape (tree_array b ∙ array_tree_is b.value)

pub shape_map : (b : Box MapType Global) → type_shape (x.Map b) ≡ map_of b.value.bound b.value.key.tc (type_shape b.value.key.ty) b.value.value.tc (type_shape b.value.value.ty)
shape_map b = ap shape (tree_map b ∙ map_tree_is b.value)

pub shape_struct : (b : Box StructType Global) → let parts = structure_parts b.value in type_shape (x.Struct b) ≡ structure parts.0 parts.1
shape_struct b = ap shape (tree_struct b ∙ struct_tree_is b.value)

pub shape_union : (b : Box UnionType Global) → let parts = union_parts b.value in type_shape (x.Union b) ≡ union parts.0 parts.1 parts.2 parts.3
shape_union b = ap shape (tree_union b ∙ union_tree_is b.value)

pub shape_str : (n : ℕ) → type_shape (x.Str n) ≡ str n
shape_str n = ap shape (tree_str n)

pub shape_prim : (p : Primitive) → type_shape (x.Prim p) ≡ prim p
shape_prim p = ap shape (tree_prim p)

pub shape_enum : (b : Box EnumType Global) → type_shape (x.Enum b) ≡ enumeration b.value.ext b.value.bits (map literal_shape b.value.literals)
shape_enum b = ap shape (tree_enum b)

pub shape_mask : (b : Box MaskType Global) → type_shape (x.Mask b) ≡ bitmask b.value.bits (map flag_shape b.value.flags)
shape_mask b = ap shape (tree_mask b)

-- ---- whole values, by the kind of their type

pub value_as : (r : Rep) (o : Order) (ty : XType) (t : Shape) (v : Val) (f : Fixed) → type_shape ty ≡ t → fixed_of r o t v ≡ f → fixed_of r o (type_shape ty) v ≡ f
value_as r o ty t v f is spelled = ap (λ (s : Shape). fixed_of r o s v) is ∙ spelled

pub end_as : (f g : Fixed) (p q : ℕ) → f ≡ g → q ≡ end_of g p → q ≡ end_of f p
end_as f g p q e is = is ∙ ap (λ (k : Fixed). end_of k p) (sym e)

pub spelled_str : (r : Rep) (o : Order) (ty : XType) (n : ℕ) (v : Val) → ty ≡ x.Str n → fixed_of r o (type_shape ty) v ≡ text_fixed o (octets_in v)
spelled_str r o ty n v e = value_as r o ty (str n) v _ (ap type_shape e ∙ shape_str n) (str_is r o n v)

pub spelled_seq : (r : Rep) (o : Order) (ty : XType) (b : Box SeqType Global) (v : Val) → ty ≡ x.Seq b → fixed_of r o (type_shape ty) v ≡ sequence_fixed r o (type_shape b.value.elem.ty) (items_in v)
spelled_seq r o ty b v e = value_as r o ty _ v _ (ap type_shape e ∙ shape_seq b) (sequence_is r o b.value.bound b.value.elem.tc (type_shape b.value.elem.ty) v)

pub spelled_array : (r : Rep) (o : Order) (ty : XType) (b : Box ArrayType Global) (v : Val) → ty ≡ x.Array b → fixed_of r o (type_shape ty) v ≡ array_fixed r o (type_shape b.value.elem.ty) (items_in v)
spelled_array r o ty b v e = value_as r o ty _ v _ (ap type_shape e ∙ shape_array b) (array_is r o b.value.dims b.value.elem.tc (type_shape b.value.elem.ty) v)

pub spelled_map : (r : Rep) (o : Order) (ty : XType) (b : Box MapType Global) (v : Val) → ty ≡ x.Map b → fixed_of r o (type_shape ty) v ≡ map_fixed r o (type_shape b.value.key.ty) (type_shape b.value.value.ty) (entries_in v)
spelled_map r o ty b v e = value_as r o ty _ v _ (ap type_shape e ∙ shape_map b) (map_is r o b.value.bound b.value.key.tc (type_shape b.value.key.ty) b.value.value.tc (type_shape b.value.value.ty) v)

pub spelled_struct : (r : Rep) (o : Order) (ty : XType) (b : Box StructType Global) (v : Val) → ty ≡ x.Struct b → let parts = structure_parts b.value in fixed_of r o (type_shape ty) v ≡ structure_fixed r o parts.0 parts.1 (slots_in v)
spelled_struct r o ty b v e = let parts = structure_parts b.value in value_as r o ty (structure parts.0 parts.1) v _ (ap type_shape e ∙ shape_struct b) (structure_is r o parts.0 parts.1 v)

pub spelled_union : (r : Rep) (o : Order) (ty : XType) (b : Box UnionType Global) (v : Val) → ty ≡ x.Union b → let parts = union_parts b.value in fixed_of r o (type_shape ty) v ≡ union_fixed r o parts.0 parts.2 parts.3 (disc_in v) (body_in v)
spelled_union r o ty b v e = let parts = union_parts b.value in value_as r o ty (union parts.0 parts.1 parts.2 parts.3) v _ (ap type_shape e ∙ shape_union b) (union_is r o parts.0 parts.1 parts.2 parts.3 v)

pub spelled_prim : (r : Rep) (o : Order) (ty : XType) (p : Primitive) (v : Val) → ty ≡ x.Prim p → fixed_of r o (type_shape ty) v ≡ number_fixed (most_of r) o (size p) (raw (size p) (number_in v))
spelled_prim r o ty p v e = value_as r o ty (prim p) v _ (ap type_shape e ∙ shape_prim p) (prim_is r o p v)

pub spelled_enum : (r : Rep) (o : Order) (ty : XType) (b : Box EnumType Global) (v : Val) → ty ≡ x.Enum b → fixed_of r o (type_shape ty) v ≡ number_fixed (most_of r) o (enum_size b.value.bits) (raw (enum_size b.value.bits) (number_in v))
spelled_enum r o ty b v e = value_as r o ty (enumeration b.value.ext b.value.bits (map literal_shape b.value.literals)) v _ (ap type_shape e ∙ shape_enum b) (enumeration_is r o b.value.ext b.value.bits (map literal_shape b.value.literals) v)

pub spelled_mask : (r : Rep) (o : Order) (ty : XType) (b : Box MaskType Global) (v : Val) → ty ≡ x.Mask b → fixed_of r o (type_shape ty) v ≡ number_fixed (most_of r) o (mask_size b.value.bits) (raw (mask_size b.value.bits) (number_in v))
spelled_mask r o ty b v e = value_as r o ty (bitmask b.value.bits (map flag_shape b.value.flags)) v _ (ap type_shape e ∙ shape_mask b) (bitmask_is r o b.value.bits (map flag_shape b.value.flags) v)

-- ---- unions

pub selected_none : (r : Rep) (o : Order) (disc : Shape) (cs : Cases) (d : ℤ) (s : Slot) (p : ℕ) → select cs d ≡ None → number_end (most_of r) (scalar_size disc) p ≡ end_of (selected_fixed r o disc cs d s) p
selected_none r o disc cs d s p none =
    let rest = if_selected_fixed (select cs d) (λ i. case_of r o cs i s) in
    let last : end_of rest (number_end (most_of r) (scalar_size disc) p) ≡ number_end (most_of r) (scalar_size disc) p = ap (λ (k : Option ℕ). end_of (if_selected_fixed k (λ i. case_of r o cs i s)) (number_end (most_of r) (scalar_size disc) p)) none ∙ end_of_nothing (number_end (most_of r) (scalar_size disc) p) ∙ omega arith in
    sym (end_of_then (scalar_fixed (most_of r) o disc d) rest p ∙ ap (λ (q : ℕ). end_of rest q) (end_of_number (most_of r) o (scalar_size disc) (raw (scalar_size disc) d) p) ∙ last)

pub selected_some : (r : Rep) (o : Order) (disc : Shape) (cs : Cases) (d : ℤ) (s : Slot) (i p : ℕ) → select cs d ≡ Some i → end_of (case_of r o cs i s) (number_end (most_of r) (scalar_size disc) p) ≡ end_of (selected_fixed r o disc cs d s) p
selected_some r o disc cs d s i p some =
    let rest = if_selected_fixed (select cs d) (λ k. case_of r o cs k s) in
    let last : end_of rest (number_end (most_of r) (scalar_size disc) p) ≡ end_of (case_of r o cs i s) (number_end (most_of r) (scalar_size disc) p) = ap (λ (k : Option ℕ). end_of (if_selected_fixed k (λ j. case_of r o cs j s)) (number_end (most_of r) (scalar_size disc) p)) some in
    sym (end_of_then (scalar_fixed (most_of r) o disc d) rest p ∙ ap (λ (q : ℕ). end_of rest q) (end_of_number (most_of r) o (scalar_size disc) (raw (scalar_size disc) d) p) ∙ last)

-- ---- spellings in parts

pub counted_parts : {A : Type 0} (o : Order) (f : A → Fixed) (xs : List A) (n : ℕ) → n ≡ length xs → (p : ℕ) → counted_fixed o f xs p ≡ then_fixed (number_fixed 4 o 4 n) (each_fixed f xs) p
counted_parts o f xs n e p = ap (λ (k : ℕ). then_fixed (number_fixed 4 o 4 k) (each_fixed f xs) p) (sym e)

pub then_assoc : (f g h : Fixed) (p : ℕ) → then_fixed (then_fixed f g) h p ≡ then_fixed f (then_fixed g h) p
unfolding then_fixed
then_assoc f g h p =
    let a = f p in
    let b = g (p + length a) in
    append_assoc a b (h (p + length (a ++ b))) ∙ ap (λ (n : ℕ). a ++ (b ++ h n)) (ap (λ (n : ℕ). p + n) (length-append a b) ∙ omega arith)

pub not_below : (a b : ℕ) → b ≤ a → nat_lt a b ≡ false
not_below a b le = grind (arith, tests)
