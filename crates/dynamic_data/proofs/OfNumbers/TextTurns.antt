-- The text that a walk gives, by the tree of the text that it was given.
use Rattle.std.proofs.Common.{◌≡◌, refl, ℕ, List, [], Bool, true, false, cond, Option, Some, None, ap, ◌∙◌}
use Rattle.std.specs.Str.{IsUtf8, is_utf8}
use Rattle.std.proofs.lemmas.Str.{is_utf8-from_IsUtf8, IsUtf8-from_is_utf8}
use Rattle.json.specs.Token.{Token}
use Rattle.json.specs.Json as json
use Rattle.json.specs.Json.{Json}
use Rattle.json.specs.Lex.{tokens}
use Rattle.json.specs.Print.{print}
use Rattle.json.specs.Tree.{json_tokens}
use Rattle.xt_shapes.specs.declared.leaves.Primitive.{Primitive}
use Rattle.type_trees.specs.Trees.{Tree}
use Rattle.dynamic_data.specs.declared.numbers.forms.Form.{Form}
use Rattle.dynamic_data.specs.numbers.Floats.{leaf_bits}
use Rattle.dynamic_data.specs.numbers.Forms.{LeafTurns, TurnsText, too_large}
use Rattle.dynamic_data.specs.numbers.Texts.{bits_tree, bits_text, tree_of, document}
use Rattle.dynamic_data.proofs.OfNumbers.Turned.{Gives, turns_give}

pub tree_read : (text : List ℕ) (j : Json) (read rest : List Token) → IsUtf8 text → read ≡ tokens text → json.value 127 read ≡ Some (j, rest) → rest ≡ [] → document text ≡ Some j
tree_read text j read rest utf8 same is ended = rw (is_utf8-from_IsUtf8 text utf8, ← same, is, ended) refl

no_tree_at : (text : List ℕ) (b : Bool) → is_utf8 text ≡ b → (IsUtf8 text → ⊥) → cond b (tree_of text) None ≡ None
no_tree_at text true is not = absurd (not (IsUtf8-from_is_utf8 text is))
no_tree_at text false is not = refl

pub no_tree : (text : List ℕ) → (IsUtf8 text → ⊥) → document text ≡ None
no_tree text not = no_tree_at text (is_utf8 text) refl not

-- ---- from numbers to raw bits

leaf_gives : (form : Form) → (form ≡ Form.Numbers → ⊥) → (p : Primitive) → Gives (LeafTurns form p) (leaf_bits (too_large form) p)
leaf_gives Form.Numbers other p j k h = absurd (other refl)
leaf_gives Form.Bits other p j k h = h
leaf_gives Form.BitsOrZero other p j k h = h

bits_tree_is : (form : Form) (t : Tree) (o : Option Json) (text bits : List ℕ) → (form ≡ Form.Numbers → ⊥) → TurnsText (LeafTurns form) t o bits → bits ≡ bits_tree (too_large form) t text o
bits_tree_is form t None text bits other h = absurd h
bits_tree_is form t (Some j) text bits other h = h.2 ∙ ap (λ k. print (json_tokens k)) (turns_give (too_large form) (LeafTurns form) (leaf_gives form other) t j h.0 h.1)

pub bits_text_is : (form : Form) (t : Tree) (text bits : List ℕ) → (form ≡ Form.Numbers → ⊥) → TurnsText (LeafTurns form) t (document text) bits → bits ≡ bits_text (too_large form) t text
bits_text_is form t text bits other h = bits_tree_is form t (document text) text bits other h
