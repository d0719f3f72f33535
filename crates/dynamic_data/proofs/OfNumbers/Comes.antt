-- A value is read from its JSON with numbers.
use Rattle.std.proofs.Common.{◌≡◌, ℕ, [], ◌∷◌, List, true, Some, Ok, ap, subst, ◌∙◌}
use Rattle.json.specs.Json as json
use Rattle.json.specs.Json.{Json}
use Rattle.json.specs.Print.{print}
use Rattle.json.specs.Tree.{json_tokens}
use Rattle.serde_json.specs.Data.{Data}
use Rattle.serde_json.specs.Read.{of_json}
use Rattle.type_trees.specs.Trees.{Tree}
use Rattle.xt_shapes.specs.declared.leaves.Primitive.{Primitive}
use Rattle.xt_shapes.specs.Vals.{Val}
use Rattle.dynamic_data.specs.Faithful.{is_faithful}
use Rattle.dynamic_data.proofs.NamesApart.{type_is_faithful}
use Rattle.json_values.specs.Read.{value_of, if_json, read_as}
use Rattle.dynamic_data.specs.numbers.Bits.{bits}
use Rattle.dynamic_data.specs.numbers.Floats.{ShowsNumber}
use Rattle.dynamic_data.specs.numbers.Laws.{NumbersComeBack, BitsAreRead}
use Rattle.dynamic_data.specs.numbers.Texts.{document, ShowsTree, bits_tree, bits_text, with_range, read_numbers}
use Rattle.dynamic_data.specs.numbers.Walks.{Turn, Turns}
use Rattle.dynamic_data.proofs.OfNumbers.Sound.{Sound}
use Rattle.dynamic_data.proofs.OfNumbers.Kept.{kept_sound, turns_kept}
use Rattle.dynamic_data.proofs.OfNumbers.KeptLeaves.{IsLeaf, shows_kept, leaf_bits_kept, empty_leaf}
use Rattle.dynamic_data.proofs.OfNumbers.Leaves.{LeavesTurned, Stays, IsData, leaves_stay, leaves_shown, empty_text}
use Rattle.dynamic_data.proofs.OfNumbers.Meaning.{come}
use Rattle.dynamic_data.proofs.OfNumbers.Parsed.{document_printed, read_found, printed}
use Rattle.dynamic_data.proofs.OfNumbers.TwoWalks.{Leaf, turns_self, bits_turn}

-- what is written in place of numbers is read as the value
bits_read : (x : Json) (T : Primitive → Turn) → IsLeaf x → LeavesTurned x T → (t : Tree) → is_faithful t ≡ true → (j k : Json) (d : Data) (v : Val) → Sound j → Sound k → of_json j ≡ Some d → value_of t d ≡ Ok v → Turns T t j k
    → read_as t (print (json_tokens (bits x t k))) ≡ Ok v
bits_read x T leaf leaves t ok j k d v s sound is reads turn =
    let found = come printed x T leaves t ok j k d s is turn in
    let again = kept_sound k (bits x t k) (turns_kept (Leaf x) (leaf_bits_kept x leaf) t k (bits x t k) (bits_turn x t k)) sound in
    printed t (bits x t k) again ∙ ap (if_json t) found.1 ∙ found.2 v reads

text_read : (x : Json) (t : Tree) (shown : List ℕ) (k : Json) (v : Val) → document shown ≡ Some k → read_as t (print (json_tokens (bits x t k))) ≡ Ok v → read_as t (bits_text x t shown) ≡ Ok v
text_read x t shown k v found reads = ap (λ o. read_as t (bits_tree x t shown o)) found ∙ reads

-- a text whose tree may stand in place of the value's is read as the value
tree_read : (T : Primitive → Turn) → ((x : Json) → IsData x → LeavesTurned x T) → (t : Tree) → is_faithful t ≡ true → (j k : Json) (d : Data) (v : Val) (shown : List ℕ) → Sound j → Sound k → of_json j ≡ Some d → value_of t d ≡ Ok v
    → Turns T t j k → document shown ≡ Some k → read_numbers t shown ≡ Ok v
tree_read T leaves t ok j k d v shown s sound is reads turn found =
    let first = text_read (json.string []) t shown k v found (bits_read (json.string []) T empty_leaf (leaves (json.string []) empty_text) t ok j k d v s sound is reads turn) in
    ap (λ r. with_range r (read_as t (bits_text (json.number (48 ∷ [])) t shown))) first

pub numbers_back : NumbersComeBack
numbers_back t text shown v valid reads shows =
    let r = read_found t text v reads in
    let parts = subst (λ o. ShowsTree t o text shown) r.document_is shows in
    let sound = kept_sound r.tree parts.0 (turns_kept ShowsNumber shows_kept t r.tree parts.0 parts.1) r.sound in
    tree_read ShowsNumber leaves_shown t (type_is_faithful t valid) r.tree parts.0 r.data_is v shown r.sound sound r.of r.reads parts.1 (ap document parts.2 ∙ document_printed parts.0 sound)

pub bits_back : BitsAreRead
bits_back t text v valid reads =
    let r = read_found t text v reads in
    tree_read Stays leaves_stay t (type_is_faithful t valid) r.tree r.tree r.data_is v text r.sound r.sound r.of r.reads (turns_self t r.tree) r.document_is
