use Rattle.std.proofs.Common.{◌≡◌, ℕ, ◌+◌, ◌-◌, ◌++◌, List, take, drop, ap, ◌∙◌, arith}
use Rattle.std.proofs.lemmas.List.{drop-drop}
use Rattle.object_writer.proofs.writer.put_word.Goals as goal

over : (at k : ℕ) (text ys zs : List ℕ) → k ≡ 4 → ys ≡ zs → take at text ++ (ys ++ drop k (drop at text)) ≡ take at text ++ (zs ++ drop (at + 4) text)
over at k text ys zs e h =
    ap (λ (front : List ℕ). take at text ++ (front ++ drop k (drop at text))) h
    ∙ ap (λ (rest : List ℕ). take at text ++ (zs ++ rest)) (ap (λ (n : ℕ). drop n (drop at text)) e ∙ drop-drop 4 at text)

pub returns : goal.returns
returns c = over c.args.at (c.args.at + 4 - c.args.at) c.args.text.now _ _ (omega arith) (c.copy_from_slice.ensures.after ∙ c.word_octets.ensures)
