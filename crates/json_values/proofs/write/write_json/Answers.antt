use Rattle.std.proofs.Common.{◌≡◌, ◌++◌, ap, ◌∙◌}
use Rattle.json.specs.Print.{print}
use Rattle.json.specs.Tree.{json_tokens}
use Rattle.serde_json.specs.Written.{outline}
use Rattle.serde_json.proofs.Texts.{print-outline}
use Rattle.type_trees.specs.View.{tree, val}
use Rattle.json_values.specs.Written.{data_of}
use Rattle.json_values.proofs.TextRead.{text_read}
use Rattle.json_values.proofs.write.write_json.Goals as goal

pub returns-in-Ok : goal.returns-in-Ok
returns-in-Ok c =
    let t = tree c.args.ty.now in
    let v = val c.args.value.now in
    let d = data_of t v in
    let ts = c.write_value.new.out.tokens in
    let tokens : ts ≡ json_tokens (outline d) = c.in-Ok.ensures.ok ∙ ap (λ old. old ++ json_tokens (outline d)) c.new-out.ensures.tokens in
    let printed : c.from_vec.result ≡ print ts = c.from_vec.ensures ∙ c.into_inner.ensures.items ∙ ap (λ b. b ++ print ts) (c.write_value.ensures.before ∙ c.new-out.ensures.before ∙ c.new.ensures.items) in
    record {
      text = printed ∙ ap print tokens ∙ print-outline d;
      reads_back = λ shallow. text_read t v ts c.from_vec.result shallow tokens printed c.into_inner.ensures.reads_back c.into_inner.ensures.utf8;
    }
