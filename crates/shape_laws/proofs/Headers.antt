-- Headers and contents: the pieces that are spelled are the pieces that are found.
use Rattle.std.proofs.Common.{◌≡◌, ℕ, zero, suc, ◌+◌, ◌-◌, ◌*◌, ◌^◌, ◌/◌, ◌%◌, ◌<◌, ◌≤◌, Bool, true, false, List, [], ◌∷◌, ◌++◌, length, None, Ok, refl, sym, ap, ap₂, ◌∙◌, append_assoc, arith, ◌==◌, ltb, leb}
use Rattle.std.proofs.lemmas.Bool.{le-ltb, lt-ltb, lt-leb, le-leb, ne_eqb}
use Rattle.std.proofs.lemmas.List.{length-append, append-nil, take_at}
use Rattle.xt_shapes.specs.declared.leaves.Order.{Order}
use Rattle.xcdr_model.specs.Numbers.{octets, padding}
use Rattle.xcdr_model.specs.Reading.{Spot, number_at}
use Rattle.xcdr_model.specs.Spelling.{IsNumber}
use Rattle.xcdr_model.specs.Xcdr2Reading.{Piece, content_at, piece_at, pieces_at}
use Rattle.xcdr_model.specs.Xcdr2Spelling.{bit, word, unit_of, HasForm, sized, counted, shared, IsPiece, Pieces}
use Rattle.shape_laws.proofs.Steps.{spot, Reads, then_ok, reads_number, length-octets, step_is, one_at_end}

bit_le : (b : Bool) → bit b ≤ 1
bit_le true = omega arith
bit_le false = omega arith

bit_back : (b : Bool) → (bit b == 1) ≡ b
bit_back true = refl
bit_back false = refl

word_id : (code : ℕ) (q : Piece) → q.id < 2 ^ 28 → word code q % 2 ^ 28 ≡ q.id
word_id code q lt = omega arith

word_code : (code : ℕ) (q : Piece) → code < 8 → q.id < 2 ^ 28 → word code q / 2 ^ 28 % 8 ≡ code
word_code code q c lt = omega arith

word_must : (code : ℕ) (q : Piece) → code < 8 → q.id < 2 ^ 28 → (word code q / 2 ^ 31 == 1) ≡ q.must
word_must code q c lt = let e : word code q / 2 ^ 31 ≡ bit q.must = omega (arith, bit_le q.must) in ap (λ (n : ℕ). n == 1) e ∙ bit_back q.must

word_fits : (code : ℕ) (q : Piece) → code < 8 → q.id < 2 ^ 28 → word code q < 256 ^ 4
word_fits code q c lt = omega (arith, bit_le q.must)

-- four octets after a place that is a multiple of four there is no padding
no_padding : (p : ℕ) → padding 4 (p + padding 4 p + 4) ≡ 0
unfolding padding
no_padding p = omega arith

abbrev made : ℕ → ℕ → ℕ → Bool → List ℕ → Piece
made hd id at must c = record { header = hd; id = id; must = must; content = record { at = at; rest = c } }

same_piece : (q : Piece) (hd id at : ℕ) (must : Bool) (c : List ℕ) → hd ≡ q.header → id ≡ q.id → must ≡ q.must → at ≡ q.content.at → c ≡ q.content.rest → made hd id at must c ≡ q
same_piece q hd id at must c e1 e2 e3 e4 e5 = rw (e1, e2, e3, e4, e5) refl

-- a piece, once its header is read
finish : (o : Order) (q : Piece) (p : ℕ) (b rest : List ℕ) (h : IsPiece o q p b) (code : ℕ) (s1 : Spot) → code < 8 → number_at 4 o 4 (spot p (b ++ rest)) ≡ Ok (word code q, s1)
    → content_at o code s1 ≡ Ok (length q.content.rest, spot q.content.at (q.content.rest ++ rest)) → piece_at o (spot p (b ++ rest)) ≡ Ok (q, spot (p + length b) rest)
unfolding piece_at
finish o q p b rest h code s1 small e c =
    let id-fits : q.id < 2 ^ 28 = omega (arith, h.id_fits) in
    let known : (word code q % 2 ^ 28 == 2 ^ 28 - 1) ≡ false = ne_eqb _ _ (λ z. omega (arith, word_id code q id-fits, h.id_fits)) in
    let long : ltb (length (q.content.rest ++ rest)) (length q.content.rest) ≡ false = le-ltb _ _ (omega (arith, length-append q.content.rest rest)) in
    let past : q.content.at + length q.content.rest ≡ p + length b = omega (arith, h.content_is, ap length h.parts ∙ length-append h.pad (h.head ++ q.content.rest), length-append h.head q.content.rest) in
    then_ok _ e (then_ok _ (ap (λ (n : ℕ). content_at o n s1) (word_code code q small id-fits) ∙ c)
    (rw (known, long) (ap₂ (λ (r : Piece) (s : Spot). Ok (r, s)) (same_piece q _ _ _ _ _ (sym h.header_is) (word_id code q id-fits) (word_must code q small id-fits) refl (take_at q.content.rest rest (length q.content.rest) refl)) (step_is q.content.rest rest (length q.content.rest) q.content.at refl ∙ ap (λ (n : ℕ). spot n rest) past))))

-- the number in front of a header
first_word : (o : Order) (q : Piece) (p : ℕ) (b rest : List ℕ) (h : IsPiece o q p b) (code : ℕ) (tail : List ℕ) → code < 8 → h.head ≡ octets o 4 (word code q) ++ tail
    → number_at 4 o 4 (spot p (b ++ rest)) ≡ Ok (word code q, spot (p + length h.pad + 4) (tail ++ (q.content.rest ++ rest)))
first_word o q p b rest h code tail small e =
    let w = octets o 4 (word code q) in
    let id-fits : q.id < 2 ^ 28 = omega (arith, h.id_fits) in
    let parts : b ++ rest ≡ (h.pad ++ w) ++ (tail ++ (q.content.rest ++ rest)) = rw (h.parts, e) (simp append_assoc) in
    let number : IsNumber 4 o 4 (word code q) p (h.pad ++ w) = record { pad = h.pad; aligned = h.aligned; fits = word_fits code q small id-fits; parts = refl } in
    let place : p + length (h.pad ++ w) ≡ p + length h.pad + 4 = omega (arith, length-append h.pad w, length-octets o 4 (word code q)) in
    ap (λ (c : List ℕ). number_at 4 o 4 (spot p c)) parts ∙ reads_number 4 o 4 (word code q) p (h.pad ++ w) (tail ++ (q.content.rest ++ rest)) number
    ∙ ap (λ (n : ℕ). Ok (word code q, spot n (tail ++ (q.content.rest ++ rest)))) place

piece_by : (o : Order) (q : Piece) (p : ℕ) (b rest : List ℕ) (h : IsPiece o q p b) → HasForm o q h.head → piece_at o (spot p (b ++ rest)) ≡ Ok (q, spot (p + length b) rest)
piece_by o q p b rest h (sized code lt len e) =
    let small : ltb code 4 ≡ true = lt-ltb _ _ lt in
    let head : length h.head ≡ 4 = ap length e ∙ length-octets o 4 (word code q) in
    let at : p + length h.pad + 4 ≡ q.content.at = omega (arith, h.content_is) in
    finish o q p b rest h code (spot (p + length h.pad + 4) ([] ++ (q.content.rest ++ rest))) (omega arith) (first_word o q p b rest h code [] (omega arith) (e ∙ sym (append-nil (octets o 4 (word code q)))))
    (rw (small, ← len, at) refl)
piece_by o q p b rest h (counted fits e) =
    let n = length q.content.rest in
    let w = octets o 4 n in
    let head : length h.head ≡ 8 = ap length e ∙ omega (arith, length-append (octets o 4 (word 4 q)) w, length-octets o 4 (word 4 q), length-octets o 4 n) in
    let at : p + length h.pad + 4 + length w ≡ q.content.at = omega (arith, h.content_is, length-octets o 4 n) in
    let place : p + padding 4 p + 4 ≡ p + length h.pad + 4 = omega (arith, h.aligned) in
    let none : 0 ≡ padding 4 (p + length h.pad + 4) = sym (no_padding p) ∙ ap (padding 4) place in
    let number : IsNumber 4 o 4 n (p + length h.pad + 4) w = record { pad = []; aligned = none; fits = fits; parts = refl } in
    finish o q p b rest h 4 (spot (p + length h.pad + 4) (w ++ (q.content.rest ++ rest))) (omega arith) (first_word o q p b rest h 4 w (omega arith) e)
    (then_ok _ (reads_number 4 o 4 n (p + length h.pad + 4) w (q.content.rest ++ rest) number) (ap (λ (m : ℕ). Ok (n, spot m (q.content.rest ++ rest))) at))
piece_by o q p b rest h (shared code n more above small fits c len e) =
    let w = octets o 4 n in
    let big : ltb code 4 ≡ false = le-ltb _ _ (omega arith) in
    let other : (code == 4) ≡ false = ne_eqb _ _ (λ z. omega arith) in
    let head : length h.head ≡ 4 = ap length e ∙ length-octets o 4 (word code q) in
    let at : p + length h.pad + 4 ≡ q.content.at = omega (arith, h.content_is) in
    let place : p + padding 4 p + 4 ≡ p + length h.pad + 4 = omega (arith, h.aligned) in
    let none : 0 ≡ padding 4 (p + length h.pad + 4) = sym (no_padding p) ∙ ap (padding 4) place in
    let number : IsNumber 4 o 4 n (p + length h.pad + 4) w = record { pad = []; aligned = none; fits = fits; parts = refl } in
    let whole : 4 + n * unit_of code ≡ length q.content.rest = omega (arith, len, ap length c ∙ length-append w more, length-octets o 4 n) in
    let s1 = spot (p + length h.pad + 4) (q.content.rest ++ rest) in
    let read : number_at 4 o 4 s1 ≡ Ok (n, spot (p + length h.pad + 4 + length w) (more ++ rest)) =
    ap (λ (d : List ℕ). number_at 4 o 4 (spot (p + length h.pad + 4) d)) (ap (λ (d : List ℕ). d ++ rest) c ∙ append_assoc w more rest) ∙ reads_number 4 o 4 n (p + length h.pad + 4) w (more ++ rest) number in
    finish o q p b rest h code s1 small (first_word o q p b rest h code [] small (e ∙ sym (append-nil (octets o 4 (word code q)))))
    (rw big (then_ok _ read (rw (other, whole) (ap (λ (m : ℕ). Ok (length q.content.rest, spot m (q.content.rest ++ rest))) at))))

pub piece_again : (o : Order) (q : Piece) → Reads (piece_at o) (IsPiece o q) q
piece_again o q p b rest h = piece_by o q p b rest h h.form

-- ---- all pieces of a region

piece_long : (o : Order) (q : Piece) (p : ℕ) (b : List ℕ) → IsPiece o q p b → padding 4 p + 4 ≤ length b
piece_long o q p b h = omega (arith, ap length h.parts ∙ length-append h.pad (h.head ++ q.content.rest), length-append h.head q.content.rest, h.aligned, head_long q h.head h.form)
  where
    head_long : (q : Piece) (c : List ℕ) → HasForm o q c → 4 ≤ length c
    head_long q c (sized code lt len e) = omega (arith, ap length e, length-octets o 4 (word code q))
    head_long q c (counted fits e) = omega (arith, ap length e ∙ length-append (octets o 4 (word 4 q)) (octets o 4 (length q.content.rest)), length-octets o 4 (word 4 q))
    head_long q c (shared code n more above small fits k len e) = omega (arith, ap length e, length-octets o 4 (word code q))

pub pieces_again : (o : Order) (qs : List Piece) (n p : ℕ) (b : List ℕ) → length b ≤ n → Pieces o qs p b → pieces_at o n (spot p b) ≡ (qs, None)
unfolding pieces_at
pieces_again o [] zero p b le h = refl
pieces_again o [] (suc n) p b le h = let end : leb (length b) (padding 4 p) ≡ true = le-leb _ _ h in rw end refl
pieces_again o (q ∷ qs) zero p b le h = absurd (omega (arith, piece_long o q p h.left h.one, ap length h.parts ∙ length-append h.left h.right))
pieces_again o (q ∷ qs) (suc n) p b le h =
    let long = piece_long o q p h.left h.one in
    let len : length b ≡ length h.left + length h.right = ap length h.parts ∙ length-append h.left h.right in
    let not_end : leb (length b) (padding 4 p) ≡ false = lt-leb _ _ (omega arith) in
    let one : piece_at o (spot p b) ≡ Ok (q, spot (p + length h.left) h.right) = one_at_end (piece_at o) (IsPiece o q) (Pieces o qs) q (piece_again o q) p b h in
    let more = pieces_again o qs n (p + length h.left) h.right (omega arith) h.two in
    rw (not_end, one, more) refl
