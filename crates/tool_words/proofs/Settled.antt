-- The settings of a policy, one behind another.
use Rattle.std.proofs.Common.{◌≡◌, sym, ◌∙◌, ℕ, Bool, List}
use Rattle.std.specs.Prelude.{Option, codes}
use Rattle.xcdr_model.specs.declared.verdict.Policy.{Policy}
use Rattle.tool_words.specs.Words.{told, settings, settings_end}

pub settled : (coercion : Bool) (text : List ℕ) (s q n : Bool × List ℕ) → s ≡ told (codes ",string-bounds") text → q ≡ told (codes ",sequence-bounds") s.1 → n ≡ told (codes ",any-names") q.1 → settings_end coercion s.0 q.0 n ≡ settings coercion text
unfolding settings
settled coercion text s q n e f g = (λ i. settings_end coercion s.0 q.0 (g i)) ∙ (λ i. settings_end coercion s.0 (f i).0 (told (codes ",any-names") (f i).1)) ∙ (λ i. settings_end coercion (e i).0 (told (codes ",sequence-bounds") (e i).1).0 (told (codes ",any-names") (told (codes ",sequence-bounds") (e i).1).1))
