-- A record's head that goes over zeros.
use Rattle.std.proofs.Common.{◌≡◌, ◌∙◌, refl, ap, ℕ, List, ◌∷◌, ◌++◌, length, take, drop}
use Rattle.std.proofs.Math.Seq.{take-append_seam}
use Rattle.xt_io.specs.declared.Kind.TheVariants.{Sample}
use Rattle.xt_io.specs.Records.{head_octets, record_octets}

pub head_over : (n k : ℕ) (xs shown head back sample : List ℕ) → n ≡ length xs → xs ≡ 0 ∷ 0 ∷ 0 ∷ 0 ∷ 0 ∷ sample → shown ≡ xs → back ≡ drop 5 shown → head ≡ head_octets Sample k → k ≡ length sample
    → take n ((head ++ back) ++ drop (length (head ++ back)) xs) ≡ record_octets Sample sample
head_over n k xs shown head back sample all zeros same behind is long =
    let rest : back ≡ sample = behind ∙ ap (λ l. drop 5 l) (same ∙ zeros) in
    rw (all, rest, zeros, is, long, take-append_seam sample (drop (length sample) sample)) refl
