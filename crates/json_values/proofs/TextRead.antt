-- The text of a value is read as the value's JSON.
use Rattle.std.proofs.Common.{◌≡◌, ℕ, ◌≤◌, List, [], Option, Some, option_and_then, sym, ap, subst, ◌∙◌, arith, append-nil}
use Rattle.std.specs.Str.{IsUtf8}
use Rattle.json.specs.Token.{Token}
use Rattle.json.specs.Lex.{tokens}
use Rattle.json.specs.Print.{print}
use Rattle.json.specs.Json as json
use Rattle.json.specs.Tree.{json_tokens}
use Rattle.json.proofs.Printed.Trees.{value-json_tokens}
use Rattle.serde_json.specs.Data.{Data}
use Rattle.serde_json.specs.Read.{read, of_json, max_depth}
use Rattle.serde_json.specs.Written.{outline}
use Rattle.type_trees.specs.Trees.{Tree}
use Rattle.xt_shapes.specs.Vals.{Val}
use Rattle.type_rules.specs.Places.{depth}
use Rattle.json_values.specs.Read.{json_of}
use Rattle.json_values.specs.Written.{data_of}
use Rattle.json_values.proofs.FineData.{sound}
use Rattle.json_values.proofs.Sorted.{json_back, outline_depth}
use Rattle.json_values.proofs.Utf8.{reads_some}

abbrev whole : Option (json.Json × List Token) → Option Data
whole o = option_and_then of_json (option_and_then (λ p. json.if_last p.0 p.1) o)

pub text_read : (t : Tree) (v : Val) (ts : List Token) (text : List ℕ) → depth t ≤ 16 → ts ≡ json_tokens (outline (data_of t v)) → text ≡ print ts → tokens (print ts) ≡ ts → IsUtf8 (print ts)
    → json_of text ≡ Some (data_of t v)
text_read t v ts text shallow written printed same utf8 =
    let d = data_of t v in
    let s = sound t v in
    let deep = outline_depth d in
    let found = ap tokens printed ∙ same ∙ written in
    let parsed : read text ≡ Some d =
    ap whole (ap (json.value max_depth) (found ∙ sym (append-nil (json_tokens (outline d)))) ∙ value-json_tokens (outline d) max_depth [] (omega (arith, s.1, deep, shallow))) ∙ json_back d s.0 in
    reads_some text d (subst IsUtf8 (sym printed) utf8) parsed
