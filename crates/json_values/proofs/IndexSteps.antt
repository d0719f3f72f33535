-- Indices of literals and members, built from the last one.
use Rattle.std.proofs.Common.{◌≡◌, refl, sym, ap, ◌∙◌, ℕ, ℤ, zero, suc, ◌+◌, ◌<◌, Bool, true, false, cond, ◌||◌, List, [], ◌∷◌, length, get_or, drop, Option, Some, None, String, Global, Ok, string_bytes, option_map, bytes_eq, subst, arith}
use Rattle.std.proofs.lemmas.Bool.{and_parts}
use Rattle.std.proofs.lemmas.List.{drop_more}
use Rattle.std.proofs.lemmas.Map.Text.{btree_map_updates_text, btree_set_updates_text}
use Rattle.std.specs.BTreeMap as tree
use Rattle.std.specs.BTreeMap.{BTreeMap}
use Rattle.std.specs.BTreeSet as sorted
use Rattle.std.specs.BTreeSet.{BTreeSet}
use Rattle.std.specs.Ordering.{int_cmp, int_eq}
use Rattle.std.specs.Str.{is_utf8}
use Rattle.std.specs.String.{string_cmp}
use Rattle.serde_json.specs.Data as json
use Rattle.serde_json.specs.Data.{Data}
use Rattle.xt_shapes.specs.Lists.{all}
use Rattle.xt_shapes.specs.Vals.{int}
use Rattle.type_trees.specs.declared.types.Literal.{Literal}
use Rattle.type_trees.specs.declared.types.Member.{Member}
use Rattle.type_trees.specs.View.{members_tree}
use Rattle.type_trees.proofs.Views.{member_tree_is}
use Rattle.json_values.specs.declared.faults.JsonRule.{JsonRule}
use Rattle.json_values.specs.Names.{name_text, literal_names}
use Rattle.json_values.specs.Steps.{here}
use Rattle.json_values.specs.Read.{literal_named}
use Rattle.json_values.specs.Written.{literal_data}
use Rattle.json_values.specs.Indices.{value_named, text_of_value, HoldsValues, HoldsTexts, HoldsNames}

-- ---- names are texts

pub literal_is_text : (ls : List Literal) (i : ℕ) (l : Literal) → i < length ls → l ≡ get_or ls i l → all is_utf8 (literal_names ls) ≡ true → is_utf8 (name_text l.name) ≡ true
literal_is_text [] i l within is named = absurd (omega arith)
literal_is_text (x ∷ ls) zero l within is named = subst (λ (y : Literal). is_utf8 (name_text y.name) ≡ true) (sym is) (and_parts (is_utf8 (name_text x.name)) (all is_utf8 (literal_names ls)) named).0
literal_is_text (x ∷ ls) (suc i) l within is named = literal_is_text ls i l (omega arith) is (and_parts (is_utf8 (name_text x.name)) (all is_utf8 (literal_names ls)) named).1

-- ---- one literal, or member, more

pub values_step : (ls : List Literal) (i j : ℕ) (l : Literal) (name : String Global) (v : ℤ) (old new : BTreeMap (String Global) ℤ) → i + 1 ≡ j → i < length ls → l ≡ get_or ls i l → string_bytes name ≡ name_text l.name → v ≡ l.value
    → tree.UpdatesBy string_cmp (string_cmp name) old new (Some v) → HoldsValues (drop j ls) old → HoldsValues (drop i ls) new
values_step ls i j l name v old new next within is named same updates held s =
    btree_map_updates_text (string_bytes name) old new (Some v) updates s
    ∙ rw (drop_more ls i l within, ← is, next, named, held s, same) refl

pub texts_step : (ls : List Literal) (i j : ℕ) (l : Literal) (name : String Global) (v : ℤ) (old new : BTreeMap ℤ (String Global)) → i + 1 ≡ j → i < length ls → l ≡ get_or ls i l → string_bytes name ≡ name_text l.name → v ≡ l.value
    → tree.UpdatesBy int_cmp (int_cmp v) old new (Some name) → HoldsTexts (drop j ls) old → HoldsTexts (drop i ls) new
texts_step ls i j l name v old new next within is named same updates held n =
    ap (option_map (λ (t : String Global). string_bytes t)) (updates.0 n)
    ∙ ap (λ w. option_map (λ (t : String Global). string_bytes t) (cond (int_eq w n) (Some name) (tree.get int_cmp old n))) same
    ∙ chosen (int_eq l.value n) (tree.get int_cmp old n) (held n)
    ∙ rw (drop_more ls i l within, ← is, next) refl
  where
    chosen : (b : Bool) (o : Option (String Global)) → option_map (λ (t : String Global). string_bytes t) o ≡ text_of_value (drop j ls) n
        → option_map (λ (t : String Global). string_bytes t) (cond b (Some name) o) ≡ cond b (Some (name_text l.name)) (text_of_value (drop j ls) n)
    chosen true o e = ap Some named
    chosen false o e = e

pub names_step : (ms : List Member) (i j : ℕ) (m : Member) (name : String Global) (old new : BTreeSet (String Global)) → i + 1 ≡ j → i < length ms → m ≡ get_or ms i m → string_bytes name ≡ name_text m.name
    → sorted.UpdatesBy string_cmp (string_cmp name) old new true → HoldsNames (members_tree (drop j ms)) old → HoldsNames (members_tree (drop i ms)) new
names_step ms i j m name old new next within is named updates held s =
    btree_set_updates_text (string_bytes name) old new true updates s
    ∙ rw (drop_more ms i m within, ← is, next, named, held s, member_tree_is m) (chosen (bytes_eq (name_text m.name) s) _)
  where
    chosen : (b c : Bool) → cond b true c ≡ (b || c)
    chosen true c = refl
    chosen false c = refl

-- ---- what an index finds

pub named_value : (ls : List Literal) (s : List ℕ) (n : ℤ) → value_named ls s ≡ Some n → literal_named ls s ≡ Ok (int n)
named_value [] s n found = absurd cc
named_value (l ∷ ls) s n found = chosen (bytes_eq (name_text l.name) s) (named_value ls s n) found
  where
    chosen : (b : Bool) → (value_named ls s ≡ Some n → literal_named ls s ≡ Ok (int n)) → cond b (Some l.value) (value_named ls s) ≡ Some n → cond b (Ok (int l.value)) (literal_named ls s) ≡ Ok (int n)
    chosen true more e = cc
    chosen false more e = more e

pub unnamed : (ls : List Literal) (s : List ℕ) → value_named ls s ≡ None → literal_named ls s ≡ here JsonRule.Literal
unnamed [] s none = refl
unnamed (l ∷ ls) s none = chosen (bytes_eq (name_text l.name) s) (unnamed ls s) none
  where
    chosen : (b : Bool) → (value_named ls s ≡ None → literal_named ls s ≡ here JsonRule.Literal) → cond b (Some l.value) (value_named ls s) ≡ None → cond b (Ok (int l.value)) (literal_named ls s) ≡ here JsonRule.Literal
    chosen true more e = absurd cc
    chosen false more e = more e

pub valued : (ls : List Literal) (n : ℤ) (s : List ℕ) → text_of_value ls n ≡ Some s → literal_data ls n ≡ json.string s
valued [] n s found = absurd cc
valued (l ∷ ls) n s found = chosen (int_eq l.value n) (valued ls n s) found
  where
    chosen : (b : Bool) → (text_of_value ls n ≡ Some s → literal_data ls n ≡ json.string s) → cond b (Some (name_text l.name)) (text_of_value ls n) ≡ Some s → cond b (json.string (name_text l.name)) (literal_data ls n) ≡ json.string s
    chosen true more e = cc
    chosen false more e = more e

pub unvalued : (ls : List Literal) (n : ℤ) → text_of_value ls n ≡ None → literal_data ls n ≡ json.null
unvalued [] n none = refl
unvalued (l ∷ ls) n none = chosen (int_eq l.value n) (unvalued ls n) none
  where
    chosen : (b : Bool) → (text_of_value ls n ≡ None → literal_data ls n ≡ json.null) → cond b (Some (name_text l.name)) (text_of_value ls n) ≡ None → cond b (json.string (name_text l.name)) (literal_data ls n) ≡ json.null
    chosen true more e = absurd cc
    chosen false more e = more e
