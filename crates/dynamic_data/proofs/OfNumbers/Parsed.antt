-- What is read of a text that is UTF-8 can be printed, and is read of the print.
use Rattle.std.proofs.Common.{◌≡◌, ℕ, zero, suc, ◌≤◌, cond, Bool, true, false, List, [], ◌∷◌, ◌++◌, length, Option, Some, None, Ok, option_and_then, refl, sym, ap, ◌∙◌, subst, append-nil}
use Rattle.std.specs.Prelude.{⊤}
use Rattle.std.specs.Str.{IsUtf8, is_utf8}
use Rattle.std.proofs.lemmas.Str.{IsUtf8-append, IsUtf8-nil, IsUtf8-from_is_utf8, is_utf8-from_IsUtf8}
use Rattle.json.specs.Token.{Token, begin_object, end_object, begin_array, end_array, key, string, number, boolean, null, bad}
use Rattle.json.specs.Lex.{tokens}
use Rattle.json.specs.Json.{Json, array, object, Items, no_items, item, Members, no_members, member, Parse, parse_map, after_end_array, read_key, items_step, members_step, items, members, value_with, value, if_last}
use Rattle.json.specs.Json as json
use Rattle.json.specs.Print.{IsNumber, IsPrintableOrBad, ArePrintableOrBad, separator, token_text, print_from, print, ends}
use Rattle.json.specs.Tree.{json_tokens, items_tokens, members_tokens, depth}
use Rattle.json.proofs.Nesting.{value-depth}
use Rattle.json.proofs.Numbered.{ArePrintableOrBad-tokens}
use Rattle.json.proofs.Printed.Tokens.{tokens-print}
use Rattle.json.proofs.Printed.Trees.{value-json_tokens, ArePrintable-json_tokens}
use Rattle.json.proofs.Printed.Utf8.{IsUtf8-are_ascii, IsUtf8-quoted, IsUtf8-key, IsUtf8-boolean, IsUtf8-separator}
use Rattle.serde_json.specs.Data.{Data}
use Rattle.serde_json.specs.Read.{max_depth, of_json}
use Rattle.type_trees.specs.Trees.{Tree}
use Rattle.xt_shapes.specs.Vals.{Val}
use Rattle.json_values.specs.Read.{value_of, if_json, read_as}
use Rattle.dynamic_data.specs.numbers.Texts.{tree_of, document}
use Rattle.dynamic_data.proofs.OfNumbers.NumberTexts.{number_utf8}
use Rattle.dynamic_data.proofs.OfNumbers.Sound.{Fine, FineItems, FineMembers, Sound, HasNumbers-Fine}
use Rattle.dynamic_data.proofs.OfNumbers.Unions.{Printed}
use Rattle.dynamic_data.proofs.OfNumbers.Strings.{IsText, AreTexts, tokens_are_texts}

-- ---- tokens

abbrev FineToken : Token → Type 0
FineToken begin_object = ⊤
FineToken end_object = ⊤
FineToken begin_array = ⊤
FineToken end_array = ⊤
FineToken (key s) = IsUtf8 s
FineToken (string s) = IsUtf8 s
FineToken (number s) = IsNumber s
FineToken (boolean b) = ⊤
FineToken null = ⊤
FineToken bad = ⊤

abbrev Tokens : List Token → Type 0
Tokens [] = ⊤
Tokens (t ∷ ts) = FineToken t × Tokens ts

fine_token : (t : Token) → IsPrintableOrBad t → IsText t → FineToken t
fine_token begin_object p q = tt
fine_token end_object p q = tt
fine_token begin_array p q = tt
fine_token end_array p q = tt
fine_token (key s) p q = q
fine_token (string s) p q = q
fine_token (number s) p q = p
fine_token (boolean b) p q = tt
fine_token null p q = tt
fine_token bad p q = tt

fine_tokens : (ts : List Token) → ArePrintableOrBad ts → AreTexts ts → Tokens ts
fine_tokens [] p q = tt
fine_tokens (t ∷ ts) p q = (fine_token t p.0 q.0, fine_tokens ts p.1 q.1)

-- ---- values

abbrev Gives : {A : Type 0} → (A → Type 0) → Option (A × List Token) → Type 0
Gives Q None = ⊤
Gives Q (Some p) = Q p.0 × Tokens p.1

abbrev Keeps : {A : Type 0} → (A → Type 0) → Parse A → Type 0
Keeps Q p = (ts : List Token) → Tokens ts → Gives Q (p ts)

mapped : {A B : Type 0} (P : A → Type 0) (Q : B → Type 0) (f : A → B) → ((a : A) → P a → Q (f a)) → (o : Option (A × List Token)) → Gives P o → Gives Q (parse_map f o)
mapped P Q f g None h = tt
mapped P Q f g (Some p) h = (g p.0 h.0, h.1)

and_more : {B : Type 0} (Q : B → Type 0) (f : Json → B → B) → ((j : Json) (b : B) → Fine j → Q b → Q (f j b)) → (more : Parse B) → Keeps Q more
    → (o : Option (Json × List Token)) → Gives Fine o → Gives Q (option_and_then (λ q. parse_map (f q.0) (more q.1)) o)
and_more Q f g more keeps None h = tt
and_more Q f g more keeps (Some q) h = mapped Q Q (f q.0) (λ b. g q.0 b h.0) _ (keeps q.1 h.1)

abbrev Rest : Option (List Token) → Type 0
Rest None = ⊤
Rest (Some r) = Tokens r

closing : (ts : List Token) → Tokens ts → Rest (after_end_array ts)
closing [] h = tt
closing (begin_object ∷ ts) h = tt
closing (end_object ∷ ts) h = tt
closing (begin_array ∷ ts) h = tt
closing (end_array ∷ ts) h = h.1
closing (key s ∷ ts) h = tt
closing (string s ∷ ts) h = tt
closing (number s ∷ ts) h = tt
closing (boolean v ∷ ts) h = tt
closing (null ∷ ts) h = tt
closing (bad ∷ ts) h = tt

abbrev IfKey : Option (List ℕ) → Type 0
IfKey None = ⊤
IfKey (Some s) = IsUtf8 s

naming : Keeps IfKey read_key
naming [] h = tt
naming (begin_object ∷ ts) h = tt
naming (end_object ∷ ts) h = (tt, h.1)
naming (begin_array ∷ ts) h = tt
naming (end_array ∷ ts) h = tt
naming (key s ∷ ts) h = (h.0, h.1)
naming (string s ∷ ts) h = tt
naming (number s ∷ ts) h = tt
naming (boolean v ∷ ts) h = tt
naming (null ∷ ts) h = tt
naming (bad ∷ ts) h = tt

module _ (p : Parse Json) (keeps : Keeps Fine p) where
  item_turn : (more : Parse Items) → Keeps FineItems more → (ts : List Token) → Tokens ts → (o : Option (List Token)) → Rest o → Gives FineItems (items_step p more ts o)
  item_turn more again ts h (Some r) q = (tt, q)
  item_turn more again ts h None q = and_more FineItems item (λ j b x y. (x, y)) more again (p ts) (keeps ts h)

  keeps_items : (n : ℕ) → Keeps FineItems (items p n)
  unfolding items
  keeps_items zero ts h = tt
  keeps_items (suc n) ts h = item_turn (items p n) (keeps_items n) ts h (after_end_array ts) (closing ts h)

  member_turn : (more : Parse Members) → Keeps FineMembers more → (o : Option (Option (List ℕ) × List Token)) → Gives IfKey o → Gives FineMembers (option_and_then (λ q. members_step p more q.0 q.1) o)
  member_turn more again None h = tt
  member_turn more again (Some (None, s)) h = (tt, h.1)
  member_turn more again (Some (Some k, s)) h = and_more FineMembers (member k) (λ j b x y. (h.0, x, y)) more again (p s) (keeps s h.1)

  keeps_members : (n : ℕ) → Keeps FineMembers (members p n)
  unfolding members
  keeps_members zero ts h = tt
  keeps_members (suc n) ts h = member_turn (members p n) (keeps_members n) (read_key ts) (naming ts h)

keeps_value_with : (a : Parse Items) (o : Parse Members) → Keeps FineItems a → Keeps FineMembers o → Keeps Fine (value_with a o)
keeps_value_with a o p q [] h = tt
keeps_value_with a o p q (begin_object ∷ ts) h = mapped FineMembers Fine object (λ m x. x) _ (q ts h.1)
keeps_value_with a o p q (end_object ∷ ts) h = tt
keeps_value_with a o p q (begin_array ∷ ts) h = mapped FineItems Fine array (λ m x. x) _ (p ts h.1)
keeps_value_with a o p q (end_array ∷ ts) h = tt
keeps_value_with a o p q (key s ∷ ts) h = tt
keeps_value_with a o p q (string s ∷ ts) h = (h.0, h.1)
keeps_value_with a o p q (number s ∷ ts) h = (h.0, h.1)
keeps_value_with a o p q (boolean v ∷ ts) h = (tt, h.1)
keeps_value_with a o p q (null ∷ ts) h = (tt, h.1)
keeps_value_with a o p q (bad ∷ ts) h = tt

keeps_value : (n : ℕ) → Keeps Fine (value n)
unfolding value
keeps_value zero = keeps_value_with (λ ts. None) (λ ts. None) (λ ts h. tt) (λ ts h. tt)
keeps_value (suc n) =
    keeps_value_with (λ ts. items (value n) (length ts) ts) (λ ts. members (value n) (length ts) ts)
    (λ ts. keeps_items (value n) (keeps_value n) (length ts) ts) (λ ts. keeps_members (value n) (keeps_value n) (length ts) ts)

whole_sound : (o : Option (Json × List Token)) (j : Json) → Gives Fine o → ((k : Json) (r : List Token) → o ≡ Some (k, r) → depth k ≤ max_depth) → option_and_then (λ p. if_last p.0 p.1) o ≡ Some j → Sound j
whole_sound None j h deep e = absurd cc
whole_sound (Some (k, [])) j h deep e =
    let same : k ≡ j = cc in
    subst Sound same (h.0, deep k [] refl)
whole_sound (Some (k, t ∷ ts)) j h deep e = absurd cc

pub tree_sound : (text : List ℕ) (j : Json) → IsUtf8 text → tree_of text ≡ Some j → Sound j
tree_sound text j u e =
    whole_sound (value max_depth (tokens text)) j (keeps_value max_depth (tokens text) (fine_tokens (tokens text) (ArePrintableOrBad-tokens text) (tokens_are_texts text u)))
    (λ k r is. value-depth max_depth (tokens text) r k is) e

-- ---- printed again

fine_append : (ts us : List Token) → Tokens ts → Tokens us → Tokens (ts ++ us)
fine_append [] us h k = k
fine_append (t ∷ ts) us h k = (h.0, fine_append ts us h.1 k)

mutual
  fine_tree : (j : Json) → Fine j → Tokens (json_tokens j)
  fine_tree json.null h = (tt, tt)
  fine_tree (json.boolean b) h = (tt, tt)
  fine_tree (json.number s) h = (h, tt)
  fine_tree (json.string s) h = (h, tt)
  fine_tree (json.array js) h = (tt, fine_trees js h)
  fine_tree (json.object ms) h = (tt, fine_members ms h)

  fine_trees : (js : Items) → FineItems js → Tokens (items_tokens js)
  fine_trees no_items h = (tt, tt)
  fine_trees (item j js) h = fine_append (json_tokens j) (items_tokens js) (fine_tree j h.0) (fine_trees js h.1)

  fine_members : (ms : Members) → FineMembers ms → Tokens (members_tokens ms)
  fine_members no_members h = (tt, tt)
  fine_members (member k j ms) h = (h.0, fine_append (json_tokens j) (members_tokens ms) (fine_tree j h.1) (fine_members ms h.2))

token_utf8 : (t : Token) → FineToken t → IsUtf8 (token_text t)
token_utf8 begin_object h = IsUtf8-are_ascii (123 ∷ []) refl
token_utf8 end_object h = IsUtf8-are_ascii (125 ∷ []) refl
token_utf8 begin_array h = IsUtf8-are_ascii (91 ∷ []) refl
token_utf8 end_array h = IsUtf8-are_ascii (93 ∷ []) refl
token_utf8 (key s) h = IsUtf8-key s h
token_utf8 (string s) h = IsUtf8-quoted s h
token_utf8 (number s) h = number_utf8 s h
token_utf8 (boolean b) h = IsUtf8-boolean b
token_utf8 null h = IsUtf8-are_ascii (110 ∷ 117 ∷ 108 ∷ 108 ∷ []) refl
token_utf8 bad h = IsUtf8-nil

print_utf8 : (after : Bool) (ts : List Token) → Tokens ts → IsUtf8 (print_from after ts)
unfolding print_from
print_utf8 after [] h = IsUtf8-nil
print_utf8 after (t ∷ ts) h =
    IsUtf8-append (separator after t) (token_text t ++ print_from (ends t) ts) (IsUtf8-separator after t) (IsUtf8-append (token_text t) (print_from (ends t) ts) (token_utf8 t h.0) (print_utf8 (ends t) ts h.1))

pub print_is_utf8 : (j : Json) → Sound j → is_utf8 (print (json_tokens j)) ≡ true
print_is_utf8 j s = is_utf8-from_IsUtf8 (print (json_tokens j)) (print_utf8 false (json_tokens j) (fine_tree j s.0))

pub tree_printed : (j : Json) → Sound j → tree_of (print (json_tokens j)) ≡ Some j
tree_printed j s =
    ap (option_and_then (λ p. if_last p.0 p.1))
    (ap (value max_depth) (tokens-print (json_tokens j) (ArePrintable-json_tokens j (HasNumbers-Fine j s.0)) ∙ sym (append-nil (json_tokens j))) ∙ value-json_tokens j max_depth [] s.1)

pub document_printed : (j : Json) → Sound j → document (print (json_tokens j)) ≡ Some j
document_printed j s = ap (λ b. cond b (tree_of (print (json_tokens j))) None) (print_is_utf8 j s) ∙ tree_printed j s

-- a text that is read as a value has a tree with data of that value
pub record IsReadAs (t : Tree) (text : List ℕ) (v : Val) : Type 0 where
  pub tree : Json
  pub data_is : Data
  pub document_is : document text ≡ Some tree
  pub sound : Sound tree
  pub of : of_json tree ≡ Some data_is
  pub reads : value_of t data_is ≡ Ok v

data_found : (t : Tree) (v : Val) (q : Option Data) → if_json t q ≡ Ok v → (d : Data) × (q ≡ Some d) × (value_of t d ≡ Ok v)
data_found t v None h = absurd cc
data_found t v (Some d) h = (d, refl, h)

read_at : (t : Tree) (text : List ℕ) (v : Val) (b : Bool) (o : Option Json) → is_utf8 text ≡ b → tree_of text ≡ o → if_json t (cond b (option_and_then of_json o) None) ≡ Ok v → IsReadAs t text v
read_at t text v true (Some j) utf8 found h =
    let d = data_found t v (of_json j) h in
    record { tree = j; data_is = d.0; document_is = ap (λ b. cond b (tree_of text) None) utf8 ∙ found; sound = tree_sound text j (IsUtf8-from_is_utf8 text utf8) found; of = d.1; reads = d.2 }
read_at t text v true None utf8 found h = absurd cc
read_at t text v false o utf8 found h = absurd cc

pub read_found : (t : Tree) (text : List ℕ) (v : Val) → read_as t text ≡ Ok v → IsReadAs t text v
read_found t text v h = read_at t text v (is_utf8 text) (tree_of text) refl refl h

pub printed : Printed
printed t j s =
    let text = print (json_tokens j) in
    ap (λ b. if_json t (cond b (option_and_then of_json (tree_of text)) None)) (print_is_utf8 j s) ∙ ap (λ o. if_json t (option_and_then of_json o)) (tree_printed j s)
