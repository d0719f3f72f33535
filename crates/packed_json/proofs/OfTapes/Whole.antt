-- A whole text.
use Rattle.std.proofs.Common.{◌≡◌, refl, ℕ, ◌≤◌, true, cond, List, [], Option, Some, None, Ok, option_and_then, sym, ap, ◌∙◌, arith, append-nil}
use Rattle.std.specs.Prelude.{IfSome, IsSome}
use Rattle.std.specs.Str.{IsUtf8}
use Rattle.std.proofs.lemmas.Option.{IfSome_then}
use Rattle.std.proofs.lemmas.Str.{is_utf8-from_IsUtf8}
use Rattle.json.specs.Token.{Token}
use Rattle.json.specs.Find.{BeginsWith}
use Rattle.json.specs.Json.{Json, value, if_last, document}
use Rattle.json.specs.Tree.{json_tokens, depth}
use Rattle.json.proofs.Printed.Trees.{value-json_tokens}
use Rattle.json.proofs.Unique.Spelling.{tokens-document}
use Rattle.serde_json.specs.Read.{of_json, read, max_depth}
use Rattle.xt_shapes.specs.Typing.{has_type}
use Rattle.xt_shapes.specs.Vals.{Val}
use Rattle.packed_reader.specs.declared.values.Packed.{Packed}
use Rattle.packed_reader.specs.View.{packed_val}
use Rattle.type_trees.specs.Bridge.{shape}
use Rattle.type_trees.specs.Trees.{Tree}
use Rattle.type_rules.specs.Valid.{type_fault}
use Rattle.json_values.specs.Read.{value_of, if_json, read_as}
use Rattle.packed_json.specs.Tapes.{Means, Reads}
use Rattle.dynamic_data.proofs.Typed.{read_typed}

-- where the tree nests no deeper than `serde_json` reads, it is the tree that `serde_json` reads
pub read_whole : (text : List ℕ) (j : Json) → document text ≡ Some j → depth j ≤ max_depth → read text ≡ of_json j
read_whole text j found deep =
    ap (λ o. option_and_then of_json (option_and_then (λ p. if_last p.0 p.1) o))
    (ap (value max_depth) (tokens-document text j found ∙ sym (append-nil (json_tokens j))) ∙ value-json_tokens j max_depth [] deep)

pub whole_means : (t : Tree) (n : ℕ) (text : List ℕ) (j : Json) (v : Val) → IsUtf8 text → document text ≡ Some j → n ≤ max_depth → Means (value_of t) n j v → read_as t text ≡ Ok v
whole_means t n text j v utf8 found deep h =
    let level : depth j ≤ max_depth = omega (arith, h.within) in
    ap (λ b. if_json t (cond b (read text) None)) (is_utf8-from_IsUtf8 text utf8) ∙ ap (if_json t) (read_whole text j found level ∙ h.of) ∙ h.reads

some_of : {A : Type 0} (o : Option A) → IsSome o → (a : A) × (o ≡ Some a)
some_of None h = absurd cc
some_of (Some a) h = (a, refl)

pub taped : (t : Tree) (n : ℕ) (text : List ℕ) (ts : List Token) (r : Option Packed) → IsUtf8 text → IsSome (document text) → ((j : Json) → document text ≡ Some j → BeginsWith ts j) → n ≤ max_depth → Reads (value_of t) n ts r
    → IfSome r (λ value. read_as t text ≡ Ok (packed_val value))
taped t n text ts r utf8 some begins deep reads =
    let j = some_of (document text) some in
    IfSome_then r (reads j.0 (begins j.0 j.1)) (λ value means. whole_means t n text j.0 (packed_val value) utf8 j.1 deep means)

pub typed_too : (t : Tree) (text : List ℕ) (r : Option Packed) → type_fault t ≡ None → IfSome r (λ value. read_as t text ≡ Ok (packed_val value)) → IfSome r (λ value. has_type (shape t) (packed_val value) ≡ true)
typed_too t text r valid h = IfSome_then r h (λ value is. read_typed t text (packed_val value) valid is)
