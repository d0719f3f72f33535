-- One step along a full name. What was met since the last colon is a range of it.
use Rattle.std.proofs.Common.{◌≡◌, ℕ, ◌+◌, ◌-◌, ◌<◌, ◌≤◌, ◌==◌, true, false, List, [], ◌∷◌, ◌++◌, length, take, drop, slice_range, slice_index, refl, ap, ◌∙◌, arith}
use Rattle.std.proofs.lemmas.List.{take_more, take_rest, drop_more, drop_all, get_or-drop, length-drop}
use Rattle.idl_printer.specs.Lines.{opening_text, openings_from, last_from}

pub range_more : (s : List ℕ) (i j : ℕ) → i ≤ j → j < length s → slice_range s i (j + 1) ≡ slice_range s i j ++ slice_index s j ∷ []
range_more s i j h k =
    let e : j + 1 - i ≡ (j - i) + 1 = omega (arith, h) in
    let b : j - i < length (drop i s) = omega (arith, h, k, length-drop i s) in
    let at : i + (j - i) ≡ j = omega (arith, h) in
    ap (λ n. take n (drop i s)) e ∙ take_more (drop i s) (j - i) 0 b ∙ ap (λ x. take (j - i) (drop i s) ++ x ∷ []) (get_or-drop i s (j - i) 0 ∙ ap (slice_index s) at)

pub range_none : (s : List ℕ) (i : ℕ) → slice_range s i i ≡ []
range_none s i = let e : i - i ≡ 0 = omega arith in ap (λ n. take n (drop i s)) e

pub range_rest : (s : List ℕ) (i n : ℕ) → length s ≤ n → n ≤ length s → slice_range s i n ≡ drop i s
range_rest s i n h k = let e : n - i ≡ length s - i = omega (arith, h, k) in ap (λ m. take m (drop i s)) e ∙ take_rest s i

pub openings_colon : (s part : List ℕ) (at : ℕ) → at < length s → (slice_index s at == 58) ≡ true → openings_from part (drop at s) ≡ opening_text part ++ openings_from [] (drop (at + 1) s)
openings_colon s part at h k = rw (drop_more s at 0 h, k) refl

pub openings_other : (s part : List ℕ) (at : ℕ) → at < length s → (slice_index s at == 58) ≡ false → openings_from part (drop at s) ≡ openings_from (part ++ slice_index s at ∷ []) (drop (at + 1) s)
openings_other s part at h k = rw (drop_more s at 0 h, k) refl

pub openings_over : (s part : List ℕ) (at : ℕ) → length s ≤ at → openings_from part (drop at s) ≡ []
openings_over s part at h = ap (openings_from part) (drop_all at s h)

pub last_colon : (s part : List ℕ) (at : ℕ) → at < length s → (slice_index s at == 58) ≡ true → last_from part (drop at s) ≡ last_from [] (drop (at + 1) s)
last_colon s part at h k = rw (drop_more s at 0 h, k) refl

pub last_other : (s part : List ℕ) (at : ℕ) → at < length s → (slice_index s at == 58) ≡ false → last_from part (drop at s) ≡ last_from (part ++ slice_index s at ∷ []) (drop (at + 1) s)
last_other s part at h k = rw (drop_more s at 0 h, k) refl

pub last_over : (s part : List ℕ) (at : ℕ) → length s ≤ at → last_from part (drop at s) ≡ part
last_over s part at h = ap (last_from part) (drop_all at s h)

pub ruleset opening_steps = (openings_colon, openings_other, openings_over, range_more, range_none)

pub ruleset last_steps = (last_colon, last_other, last_over, range_more, range_none, range_rest)
