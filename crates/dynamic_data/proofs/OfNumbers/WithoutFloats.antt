-- Where a type has no float, nothing becomes a number, and nothing becomes raw bits.
use Rattle.std.proofs.Common.{◌≡◌, refl, sym, ap, ◌∙◌, subst, ℕ, ◌==◌, List, [], ◌∷◌, Bool, true, false, cond, Option, Some, None, Ok, Err, option_and_then, bytes_eq}
use Rattle.std.specs.Str.{is_utf8}
use Rattle.std.proofs.lemmas.Bool.{or_parts}
use Rattle.std.proofs.lemmas.Str.{IsUtf8-from_is_utf8}
use Rattle.json.specs.Json as json
use Rattle.json.specs.Json.{Json}
use Rattle.json.specs.Print.{print}
use Rattle.json.specs.Tree.{json_tokens}
use Rattle.serde_json.specs.Read.{of_json}
use Rattle.serde_json.specs.Written.{outline}
use Rattle.serde_json.proofs.Texts.{print-outline}
use Rattle.type_trees.specs.Trees.{Tree, prim, str, enumeration, bitmask, sequence, array, map_of, structure, union, alias, Members, no_members, member, Cases, no_cases, one_case}
use Rattle.type_rules.proofs.Kept.{limits_kept}
use Rattle.xt_shapes.specs.declared.leaves.Primitive.{Primitive}
use Rattle.xt_shapes.specs.Vals.{Val}
use Rattle.json_values.specs.declared.faults.JsonRule.{JsonRule}
use Rattle.json_values.specs.declared.faults.ValueFault.TheVariants.{NotJson, Wrong, OutOfMemory}
use Rattle.json_values.specs.Names.{name_text}
use Rattle.json_values.specs.Read.{if_json, read_as}
use Rattle.json_values.specs.Steps.{Reading}
use Rattle.json_values.specs.Written.{data_of, json_text, value_key}
use Rattle.dynamic_data.specs.numbers.Bits.{bits}
use Rattle.dynamic_data.specs.numbers.Floats.{ShowsNumber}
use Rattle.xt_shapes.specs.NodeRules.{is_float}
use Rattle.dynamic_data.specs.numbers.Kinds.{has_floats, members_have_floats, cases_have_floats}
use Rattle.dynamic_data.specs.numbers.Laws.{PlainIsShown, PlainIsRead}
use Rattle.dynamic_data.specs.numbers.Texts.{tree_of, document, ShowsTree, bits_tree, bits_text, with_range}
use Rattle.dynamic_data.specs.numbers.Walks.{Turn, PairTurns, BodyTurns, SelectedTurns, case_in, Turns, MemberTurns, CaseTurns}
use Rattle.dynamic_data.proofs.NameTexts.{type_has_texts}
use Rattle.dynamic_data.proofs.OfNumbers.Parsed.{document_printed, printed, tree_sound}
use Rattle.dynamic_data.proofs.OfNumbers.Sound.{Sound}
use Rattle.dynamic_data.proofs.OfNumbers.Turned.{turns_give}
use Rattle.dynamic_data.proofs.OfNumbers.TwoWalks.{Leaf, Self, self_array, self_pair, self_object, self_either, self_selected}
use Rattle.dynamic_data.proofs.OfNumbers.Written.{written_sound}

-- ---- a walk that keeps each leaf but floats keeps all

abbrev KeepsPlain : (Primitive → Turn) → Type 0
KeepsPlain L = (p : Primitive) → is_float p ≡ false → Self (L p)

module _ (L : Primitive → Turn) (keeps : KeepsPlain L) where
  mutual
    plain_self : (t : Tree) → has_floats t ≡ false → Self (Turns L t)
    plain_self (prim p) none = keeps p none
    plain_self (str bound) none = λ j. refl
    plain_self (enumeration name ext width literals) none = λ j. refl
    plain_self (bitmask name width flags) none = λ j. refl
    plain_self (sequence bound tc t) none = self_array (Turns L t) (plain_self t none)
    plain_self (array dims tc t) none = self_array (Turns L t) (plain_self t none)
    plain_self (map_of bound kc key vc value) none =
        let parts = or_parts (has_floats key) (has_floats value) none in
        self_array (PairTurns (Turns L key) (Turns L value)) (self_pair (Turns L key) (Turns L value) (plain_self key parts.0) (plain_self value parts.1))
    plain_self (structure head ms) none = self_object (MemberTurns L ms) (plain_members ms none)
    plain_self (union head disc cs) none = λ j.
        let o = case_in disc cs j in
        self_object (BodyTurns (SelectedTurns (CaseTurns L cs) o))
        (λ key. self_either (bytes_eq key value_key) (SelectedTurns (CaseTurns L cs) o) (λ j k. k ≡ j) (self_selected (CaseTurns L cs) (plain_cases cs none) o) (λ j. refl)) j
    plain_self (alias name t) none = plain_self t none

    plain_members : (ms : Members) → members_have_floats ms ≡ false → (key : List ℕ) → Self (MemberTurns L ms key)
    plain_members no_members none key = λ j. refl
    plain_members (member head t ms) none key =
        let parts = or_parts (has_floats t) (members_have_floats ms) none in
        self_either (bytes_eq (name_text head.name) key) (Turns L t) (MemberTurns L ms key) (plain_self t parts.0) (plain_members ms parts.1 key)

    plain_cases : (cs : Cases) → cases_have_floats cs ≡ false → (id : ℕ) → Self (CaseTurns L cs id)
    plain_cases no_cases none id = λ j. refl
    plain_cases (one_case head t cs) none id =
        let parts = or_parts (has_floats t) (cases_have_floats cs) none in
        self_either (head.id == id) (Turns L t) (CaseTurns L cs id) (plain_self t parts.0) (plain_cases cs parts.1 id)

shows_plain : KeepsPlain ShowsNumber
shows_plain Primitive.Boolean none = λ j. refl
shows_plain Primitive.Byte none = λ j. refl
shows_plain Primitive.Int8 none = λ j. refl
shows_plain Primitive.Uint8 none = λ j. refl
shows_plain Primitive.Int16 none = λ j. refl
shows_plain Primitive.Uint16 none = λ j. refl
shows_plain Primitive.Int32 none = λ j. refl
shows_plain Primitive.Uint32 none = λ j. refl
shows_plain Primitive.Int64 none = λ j. refl
shows_plain Primitive.Uint64 none = λ j. refl
shows_plain Primitive.Float32 none = absurd cc
shows_plain Primitive.Float64 none = absurd cc
shows_plain Primitive.Char8 none = λ j. refl

bits_plain : (x : Json) → KeepsPlain (Leaf x)
bits_plain x Primitive.Boolean none = λ j. refl
bits_plain x Primitive.Byte none = λ j. refl
bits_plain x Primitive.Int8 none = λ j. refl
bits_plain x Primitive.Uint8 none = λ j. refl
bits_plain x Primitive.Int16 none = λ j. refl
bits_plain x Primitive.Uint16 none = λ j. refl
bits_plain x Primitive.Int32 none = λ j. refl
bits_plain x Primitive.Uint32 none = λ j. refl
bits_plain x Primitive.Int64 none = λ j. refl
bits_plain x Primitive.Uint64 none = λ j. refl
bits_plain x Primitive.Float32 none = absurd cc
bits_plain x Primitive.Float64 none = absurd cc
bits_plain x Primitive.Char8 none = λ j. refl

-- ---- what is written is also shown

pub plain_shown : PlainIsShown
plain_shown t v valid none =
    let text = json_text t v in
    let j = outline (data_of t v) in
    let is = sym (print-outline (data_of t v)) in
    let found = ap document is ∙ document_printed j (written_sound t v (limits_kept t valid).0 (type_has_texts t valid)) in
    subst (λ o. ShowsTree t o text text) (sym found) (j, plain_self ShowsNumber shows_plain t none j, is)

-- ---- what is read stays

bits_same : (x : Json) (t : Tree) → has_floats t ≡ false → (j : Json) → j ≡ bits x t j
bits_same x t none j = turns_give x (Leaf x) (λ p j k same. same) t j j (plain_self (Leaf x) (bits_plain x) t none j)

sound_at : (text : List ℕ) (j : Json) (b : Bool) → is_utf8 text ≡ b → cond b (tree_of text) None ≡ Some j → Sound j
sound_at text j true utf8 found = tree_sound text j (IsUtf8-from_is_utf8 text utf8) found
sound_at text j false utf8 found = absurd cc

means_at : (t : Tree) (b : Bool) (o : Option Json) → if_json t (cond b (option_and_then of_json o) None) ≡ if_json t (option_and_then of_json (cond b o None))
means_at t true o = refl
means_at t false o = refl

-- what a text means is what its tree does
means : (t : Tree) (text : List ℕ) → read_as t text ≡ if_json t (option_and_then of_json (document text))
means t text = means_at t (is_utf8 text) (tree_of text)

bits_at : (x : Json) (t : Tree) (text : List ℕ) (o : Option Json) → has_floats t ≡ false → document text ≡ o → read_as t (bits_tree x t text o) ≡ read_as t text
bits_at x t text None none found = refl
bits_at x t text (Some j) none found =
    ap (λ k. read_as t (print (json_tokens k))) (sym (bits_same x t none j)) ∙ printed t j (sound_at text j (is_utf8 text) refl found)
    ∙ sym (means t text ∙ ap (λ o. if_json t (option_and_then of_json o)) found)

bits_read : (x : Json) (t : Tree) (text : List ℕ) → has_floats t ≡ false → read_as t (bits_text x t text) ≡ read_as t text
bits_read x t text none = bits_at x t text (document text) none refl

range_same : (r : Reading Val) → with_range r r ≡ r
range_same (Ok v) = refl
range_same (Err NotJson) = refl
range_same (Err (Wrong path JsonRule.Kind)) = refl
range_same (Err (Wrong path JsonRule.Unknown)) = refl
range_same (Err (Wrong path JsonRule.Missing)) = refl
range_same (Err (Wrong path JsonRule.Range)) = refl
range_same (Err (Wrong path JsonRule.Literal)) = refl
range_same (Err (Wrong path JsonRule.Text)) = refl
range_same (Err (Wrong path JsonRule.Bound)) = refl
range_same (Err (Wrong path JsonRule.Count)) = refl
range_same (Err (Wrong path JsonRule.Twice)) = refl
range_same (Err (Wrong path JsonRule.Case)) = refl
range_same (Err OutOfMemory) = refl

pub plain_read : PlainIsRead
plain_read t text none =
    ap (λ r. with_range r (read_as t (bits_text (json.number (48 ∷ [])) t text))) (bits_read (json.string []) t text none)
    ∙ ap (with_range (read_as t text)) (bits_read (json.number (48 ∷ [])) t text none) ∙ range_same (read_as t text)
