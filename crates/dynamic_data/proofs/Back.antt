-- A value is read from its JSON as it was.
use Rattle.std.proofs.Common.{◌≡◌, refl, ℕ, ◌^◌, ℤ, [], ◌∷◌, List, length, map, Bool, true, false, not, ◌&&◌, ◌==◌, cond, Option, Some, None, Ok, ap, ◌∙◌}
use Rattle.std.specs.Bool.{⊤}
use Rattle.std.proofs.lemmas.Bool.{and_parts}
use Rattle.serde_json.specs.Data as json
use Rattle.serde_json.specs.Data.{Data}
use Rattle.serde_json.specs.Find.{get_member}
use Rattle.xt_shapes.specs.declared.leaves.Step.{Step}
use Rattle.xt_shapes.specs.Lists.{all}
use Rattle.xt_shapes.specs.Select.{is_literal, select}
use Rattle.xt_shapes.specs.Shape.{product}
use Rattle.xt_shapes.specs.Typing.{has_type, have_types, case_type, of_body, of_prim, is_below, is_past, is_text_within, repeats, on_int, on_text, on_list, on_map, on_struct, on_union}
use Rattle.xt_shapes.specs.Vals.{Val, int, text, listed, mapped, struct_of, union_of, number_in, Slot as Body, absent, present, Vals, Pairs, Slots, each_val, each_pair}
use Rattle.type_trees.specs.Trees.{Tree, prim, str, enumeration, bitmask, sequence, array, map_of, structure, union, alias, Members, no_members, member, Cases, no_cases, one_case}
use Rattle.type_trees.specs.Bridge.{literal_shape, shape, member_shapes, case_shapes}
use Rattle.json_values.specs.Names.{member_names}
use Rattle.json_values.specs.Steps.{Reading, beneath, and_then}
use Rattle.json_values.specs.Read as spec
use Rattle.json_values.specs.Read.{value_of, case_reading, body_of, case_of}
use Rattle.json_values.specs.Written.{data_of, case_data, body_data, disc_key, value_key, prim_data, literal_data, mask_data, octets_data, int_data, list_data, map_data, struct_data, union_data, vals_data, pairs_data, slots_data}
use Rattle.dynamic_data.specs.Faithful.{are_apart, is_faithful, members_are_faithful, cases_are_faithful}
use Rattle.dynamic_data.proofs.BackLeaves.{at_false, back_prim, back_text, back_literal, back_mask}
use Rattle.dynamic_data.proofs.BackRows.{back_sequence, back_array, back_map}
use Rattle.dynamic_data.proofs.BackMembers.{Good, AllGood, back_struct}

-- ---- unions

abbrev CasesGood : Cases → Type 0
CasesGood no_cases = ⊤
CasesGood (one_case h t cs) = Good t × CasesGood cs

by_id : (b : Bool) (id : ℕ) (t : Tree) (cs : Cases) (w : Val) → Good t → (case_type (case_shapes cs) id w ≡ true → case_reading cs id (case_data cs id w) ≡ Ok w)
    → cond b (has_type (shape t) w) (case_type (case_shapes cs) id w) ≡ true
    → cond b (beneath (Step.Member id) (value_of t (cond b (data_of t w) (case_data cs id w)))) (case_reading cs id (cond b (data_of t w) (case_data cs id w))) ≡ Ok w
by_id true id t cs w good later fits = ap (beneath (Step.Member id)) (good w fits)
by_id false id t cs w good later fits = later fits

case_back : (cs : Cases) → CasesGood cs → (id : ℕ) (w : Val) → case_type (case_shapes cs) id w ≡ true → case_reading cs id (case_data cs id w) ≡ Ok w
unfolding case_type
case_back no_cases good id w fits = cc fits
case_back (one_case h t cs) good id w fits = by_id (h.id == id) id t cs w good.0 (case_back cs good.1 id w) fits

body_back : (cs : Cases) (d : ℤ) (o : Option ℕ) (b : Body) → CasesGood cs → of_body o (λ i w. case_type (case_shapes cs) i w) b ≡ true
    → body_of d o (case_reading cs) (get_member value_key (body_data o (case_data cs) b)) ≡ Ok (union_of d b)
body_back cs d None absent good fits = refl
body_back cs d None (present v) good fits = cc fits
body_back cs d (Some id) absent good fits = cc fits
body_back cs d (Some id) (present v) good fits = ap (case_of d) (case_back cs good id v fits)

no_other_keys : (o : Option ℕ) (f : ℕ → Val → Data) (b : Body) (d : Data) → spec.has_other (disc_key ∷ value_key ∷ []) (json.member disc_key d (body_data o f b)) ≡ false
no_other_keys None f absent d = refl
no_other_keys None f (present v) d = refl
no_other_keys (Some id) f absent d = refl
no_other_keys (Some id) f (present v) d = refl

abbrev union_json : Tree → Cases → ℤ → Body → Data
union_json disc cs d b = json.object (json.member disc_key (data_of disc (int d)) (body_data (select (case_shapes cs) d) (case_data cs) b))

abbrev reading : Cases → ℤ → Option Data → Reading Val
reading cs n part = body_of n (select (case_shapes cs) n) (case_reading cs) part

back_union : (disc : Tree) (cs : Cases) (d : ℤ) (b : Body) → Good disc → CasesGood cs → (has_type (shape disc) (int d) && of_body (select (case_shapes cs) d) (λ i w. case_type (case_shapes cs) i w) b) ≡ true
    → spec.union_where (value_of disc) (λ n part. body_of n (select (case_shapes cs) n) (case_reading cs) part) (union_json disc cs d b) ≡ Ok (union_of d b)
back_union disc cs d b good cases h =
    let parts = and_parts (has_type (shape disc) (int d)) _ h in
    let o = select (case_shapes cs) d in
    at_false (spec.has_other (disc_key ∷ value_key ∷ []) (json.member disc_key (data_of disc (int d)) (body_data o (case_data cs) b))) _ _ (no_other_keys o (case_data cs) b (data_of disc (int d)))
    ∙ ap (λ r. and_then (beneath Step.Disc r) (λ v. reading cs (number_in v) (get_member value_key (body_data o (case_data cs) b)))) (good (int d) parts.0)
    ∙ body_back cs d o b cases parts.1

-- ---- values of each kind

ints_back : (p : ℤ → Bool) (f : Data → Reading Val) (g : ℤ → Data) → ((n : ℤ) → p n ≡ true → f (g n) ≡ Ok (int n)) → (v : Val) → on_int v p ≡ true → f (int_data g v) ≡ Ok v
ints_back p f g back (int n) h = back n h
ints_back p f g back (text s) h = cc h
ints_back p f g back (listed vs) h = cc h
ints_back p f g back (mapped ps) h = cc h
ints_back p f g back (struct_of ss) h = cc h
ints_back p f g back (union_of d b) h = cc h

texts_back : (bound : ℕ) (v : Val) → on_text v (is_text_within bound) ≡ true → spec.text_of bound (octets_data v) ≡ Ok v
texts_back bound (int n) h = cc h
texts_back bound (text s) h = back_text bound s h
texts_back bound (listed vs) h = cc h
texts_back bound (mapped ps) h = cc h
texts_back bound (struct_of ss) h = cc h
texts_back bound (union_of d b) h = cc h

lists_back : (p : List Val → Bool) (f : Data → Reading Val) (g : Val → Data) → ((vs : Vals) → p (each_val vs) ≡ true → f (json.array (vals_data g vs)) ≡ Ok (listed vs)) → (v : Val) → on_list v p ≡ true → f (list_data g v) ≡ Ok v
lists_back p f g back (int n) h = cc h
lists_back p f g back (text s) h = cc h
lists_back p f g back (listed vs) h = back vs h
lists_back p f g back (mapped ps) h = cc h
lists_back p f g back (struct_of ss) h = cc h
lists_back p f g back (union_of d b) h = cc h

maps_back : (p : List (Val × Val) → Bool) (f : Data → Reading Val) (g h : Val → Data) → ((ps : Pairs) → p (each_pair ps) ≡ true → f (json.array (pairs_data g h ps)) ≡ Ok (mapped ps)) → (v : Val) → on_map v p ≡ true → f (map_data g h v) ≡ Ok v
maps_back p f g h back (int n) e = cc e
maps_back p f g h back (text s) e = cc e
maps_back p f g h back (listed vs) e = cc e
maps_back p f g h back (mapped ps) e = back ps e
maps_back p f g h back (struct_of ss) e = cc e
maps_back p f g h back (union_of d b) e = cc e

structs_back : (p : Slots → Bool) (f : Data → Reading Val) (g : Slots → json.Members) → ((ss : Slots) → p ss ≡ true → f (json.object (g ss)) ≡ Ok (struct_of ss)) → (v : Val) → on_struct v p ≡ true → f (struct_data g v) ≡ Ok v
structs_back p f g back (int n) h = cc h
structs_back p f g back (text s) h = cc h
structs_back p f g back (listed vs) h = cc h
structs_back p f g back (mapped ps) h = cc h
structs_back p f g back (struct_of ss) h = back ss h
structs_back p f g back (union_of d b) h = cc h

unions_back : (p : ℤ → Body → Bool) (f : Data → Reading Val) (g : ℤ → Data) (h : ℤ → Body → json.Members)
    → ((d : ℤ) (b : Body) → p d b ≡ true → f (json.object (json.member disc_key (g d) (h d b))) ≡ Ok (union_of d b)) → (v : Val) → on_union v p ≡ true → f (union_data g h v) ≡ Ok v
unions_back p f g h back (int n) e = cc e
unions_back p f g h back (text s) e = cc e
unions_back p f g h back (listed vs) e = cc e
unions_back p f g h back (mapped ps) e = cc e
unions_back p f g h back (struct_of ss) e = cc e
unions_back p f g h back (union_of d b) e = back d b e

-- ---- every type

mutual
  unfolding has_type

  pub back : (t : Tree) → is_faithful t ≡ true → Good t
  back (prim p) ok v h = ints_back (of_prim p) (spec.prim_of p) (prim_data p) (back_prim p) v h
  back (str bound) ok v h = texts_back bound v h
  back (enumeration name ext bits ls) ok v h = ints_back (is_literal (map literal_shape ls)) (spec.literal_of ls) (literal_data ls) (λ n. back_literal ls n ok) v h
  back (bitmask name bits flags) ok v h = ints_back (is_below (2 ^ bits)) (spec.whole_of (is_below (2 ^ bits))) mask_data (λ n. back_mask bits n ok) v h
  back (sequence bound tc t) ok v h =
      lists_back (λ xs. not (is_past bound (length xs)) && all (λ w. has_type (shape t) w) xs) (spec.sequence_of bound (value_of t)) (data_of t) (back_sequence bound (λ w. has_type (shape t) w) (value_of t) (data_of t) (back t ok)) v h
  back (array dims tc t) ok v h =
      lists_back (λ xs. (length xs == product dims) && all (λ w. has_type (shape t) w) xs) (spec.array_of dims (value_of t)) (data_of t) (back_array dims (λ w. has_type (shape t) w) (value_of t) (data_of t) (back t ok)) v h
  back (map_of bound kc k vc t) ok v h =
      let parts = and_parts (is_faithful k) (is_faithful t) ok in
      maps_back (λ xs. (not (is_past bound (length xs)) && not (repeats xs)) && all (λ e. has_type (shape k) e.0 && has_type (shape t) e.1) xs) (spec.map_of_pairs bound (value_of k) (value_of t)) (data_of k) (data_of t)
      (back_map bound (λ w. has_type (shape k) w) (λ w. has_type (shape t) w) (value_of k) (value_of t) (data_of k) (data_of t) (back k parts.0) (back t parts.1)) v h
  back (structure head ms) ok v h =
      let parts = and_parts (are_apart (member_names ms)) (members_are_faithful ms) ok in
      structs_back (λ ss. have_types (member_shapes ms) ss) (spec.struct_where ms (spec.slots_in ms)) (λ ss. slots_data ms ss json.no_members) (λ ss. back_struct ms ss (members_back ms parts.1) parts.0) v h
  back (union head disc cs) ok v h =
      let parts = and_parts (is_faithful disc) (cases_are_faithful cs) ok in
      unions_back (λ d b. has_type (shape disc) (int d) && of_body (select (case_shapes cs) d) (λ i w. case_type (case_shapes cs) i w) b) (spec.union_where (value_of disc) (λ n part. body_of n (select (case_shapes cs) n) (case_reading cs) part))
      (λ d. data_of disc (int d)) (λ d b. body_data (select (case_shapes cs) d) (case_data cs) b) (λ d b. back_union disc cs d b (back disc parts.0) (cases_back cs parts.1)) v h
  back (alias name t) ok v h = back t ok v h

  members_back : (ms : Members) → members_are_faithful ms ≡ true → AllGood ms
  members_back no_members ok = tt
  members_back (member h t ms) ok =
      let parts = and_parts (is_faithful t) (members_are_faithful ms) ok in
      (back t parts.0, members_back ms parts.1)

  cases_back : (cs : Cases) → cases_are_faithful cs ≡ true → CasesGood cs
  cases_back no_cases ok = tt
  cases_back (one_case h t cs) ok =
      let parts = and_parts (is_faithful t) (cases_are_faithful cs) ok in
      (back t parts.0, cases_back cs parts.1)
