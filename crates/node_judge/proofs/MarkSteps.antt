-- Names and numbers compared block by block.
use Rattle.std.proofs.Common.{◌≡◌, refl, sym, ◌∙◌, ap, ℕ, zero, suc, ℤ, pos, List, [], ◌∷◌, map, take, drop, Bool, true, false, ◌&&◌, ◌==◌, arith, tests}
use Rattle.std.specs.Bool.{beq}
use Rattle.std.specs.Ordering.{int_eq}
use Rattle.node_judge.specs.Marks.{fits, same_marks, member_mark, case_mark, literal_mark}
use Rattle.node_judge.specs.declared.marks.Mark.{Mark}
use Rattle.xcdr_model.specs.Rules.{name_fits, same_names, case_name_fits, same_case_names, literal_name_fits, same_literal_names}
use Rattle.xt_shapes.specs.Lists.{all}
use Rattle.xt_shapes.specs.Shape.{Head, CaseHead, Literal}

-- ---- rows and columns of a table of tests

all_true : {A : Type 0} (ys : List A) → all (λ y. true) ys ≡ true
all_true [] = refl
all_true (y ∷ ys) = all_true ys

swap_and : (a b c d : Bool) → ((a && b) && (c && d)) ≡ ((a && c) && (b && d))
swap_and true true c d = refl
swap_and true false true d = refl
swap_and true false false d = refl
swap_and false b c d = refl

all_both : {A : Type 0} (p q : A → Bool) (ys : List A) → (all p ys && all q ys) ≡ all (λ y. p y && q y) ys
all_both p q [] = refl
all_both p q (y ∷ ys) = swap_and (p y) (all p ys) (q y) (all q ys) ∙ ap (λ r. (p y && q y) && r) (all_both p q ys)

all_swap : {A B : Type 0} (r : A → B → Bool) (xs : List A) (ys : List B) → all (λ x. all (λ y. r x y) ys) xs ≡ all (λ y. all (λ x. r x y) xs) ys
all_swap r [] ys = sym (all_true ys)
all_swap r (x ∷ xs) ys = ap (λ b. all (λ y. r x y) ys && b) (all_swap r xs ys) ∙ all_both (λ y. r x y) (λ y. all (λ x. r x y) xs) ys

pub by_columns : (b : Bool) (block xs ys : List Mark) → b ≡ all (λ mark. all (λ held. fits held mark) block) ys → block ≡ xs → b ≡ same_marks xs ys
by_columns b block xs ys is held = rw (← held) (is ∙ sym (all_swap (λ a b. fits a b) block ys))

-- ---- blocks

and_assoc : (a b c : Bool) → ((a && b) && c) ≡ (a && (b && c))
and_assoc true b c = refl
and_assoc false b c = refl

in_blocks : {A B : Type 0} (p : B → Bool) (f : A → B) (n : ℕ) (xs : List A) → all p (map f xs) ≡ (all p (map f (take n xs)) && all p (map f (drop n xs)))
in_blocks p f zero xs = refl
in_blocks p f (suc n) [] = refl
in_blocks p f (suc n) (x ∷ xs) = rw (in_blocks p f n xs) (sym (and_assoc (p (f x)) (all p (map f (take n xs))) (all p (map f (drop n xs)))))

pub block_step : {A : Type 0} (f : A → Mark) (b : Bool) (n : ℕ) (xs block more : List A) (ys : List Mark) → block ≡ take n xs → more ≡ drop n xs → b ≡ same_marks (map f block) ys
    → same_marks (map f xs) ys ≡ (b && same_marks (map f more) ys)
block_step f b n xs block more ys front back is = in_blocks (λ a. all (λ y. fits a y) ys) f n xs ∙ rw (← front, ← back, is) refl

same_ids : (a b : ℕ) → int_eq (pos a) (pos b) ≡ (a == b)
same_ids a b = grind (arith, tests)

-- ---- the marks of members, cases and literals are what the rules on names compare

member_row : (hash id : ℕ) (ks : List Head) → all (λ b. fits (record { hash = hash; number = pos id }) b) (map member_mark ks) ≡ name_fits hash id ks
member_row hash id [] = refl
member_row hash id (k ∷ ks) =
    ap (λ b. beq (hash == k.hash) b && all (λ x. fits (record { hash = hash; number = pos id }) x) (map member_mark ks)) (same_ids id k.id) ∙ ap (λ b. beq (hash == k.hash) (id == k.id) && b) (member_row hash id ks)

member_marks : (hs ks : List Head) → same_names hs ks ≡ same_marks (map member_mark hs) (map member_mark ks)
member_marks [] ks = refl
member_marks (h ∷ hs) ks = ap (λ b. b && same_names hs ks) (sym (member_row h.hash h.id ks)) ∙ ap (λ b. all (λ y. fits (member_mark h) y) (map member_mark ks) && b) (member_marks hs ks)

case_row : (hash id : ℕ) (ks : List CaseHead) → all (λ b. fits (record { hash = hash; number = pos id }) b) (map case_mark ks) ≡ case_name_fits hash id ks
case_row hash id [] = refl
case_row hash id (k ∷ ks) =
    ap (λ b. beq (hash == k.hash) b && all (λ x. fits (record { hash = hash; number = pos id }) x) (map case_mark ks)) (same_ids id k.id) ∙ ap (λ b. beq (hash == k.hash) (id == k.id) && b) (case_row hash id ks)

case_marks : (hs ks : List CaseHead) → same_case_names hs ks ≡ same_marks (map case_mark hs) (map case_mark ks)
case_marks [] ks = refl
case_marks (h ∷ hs) ks = ap (λ b. b && same_case_names hs ks) (sym (case_row h.hash h.id ks)) ∙ ap (λ b. all (λ y. fits (case_mark h) y) (map case_mark ks) && b) (case_marks hs ks)

literal_row : (hash : ℕ) (value : ℤ) (ks : List Literal) → all (λ b. fits (record { hash = hash; number = value }) b) (map literal_mark ks) ≡ literal_name_fits hash value ks
literal_row hash value [] = refl
literal_row hash value (k ∷ ks) = rw (literal_row hash value ks) refl

literal_marks : (ls ks : List Literal) → same_literal_names ls ks ≡ same_marks (map literal_mark ls) (map literal_mark ks)
literal_marks [] ks = refl
literal_marks (l ∷ ls) ks = rw (literal_marks ls ks, literal_row l.hash l.value ks) refl

-- parts whose marks are those of what they are seen as
module _ {A B : Type 0} (mark_of : A → Mark) (seen : A → B) (mark : B → Mark) (marked : (x : A) → mark_of x ≡ mark (seen x)) where
  marks_are : (xs : List A) → map mark_of xs ≡ map mark (map seen xs)
  marks_are [] = refl
  marks_are (x ∷ xs) = ap (λ m. m ∷ map mark_of xs) (marked x) ∙ ap (λ ms. mark (seen x) ∷ ms) (marks_are xs)

  both_marks : (xs ys : List A) → same_marks (map mark_of xs) (map mark_of ys) ≡ same_marks (map mark (map seen xs)) (map mark (map seen ys))
  both_marks xs ys = ap (λ ms. same_marks ms (map mark_of ys)) (marks_are xs) ∙ ap (same_marks (map mark (map seen xs))) (marks_are ys)

pub names_by_marks : {A : Type 0} (mark_of : A → Mark) (seen : A → Head) → ((x : A) → mark_of x ≡ member_mark (seen x)) → (xs ys : List A) → same_marks (map mark_of xs) (map mark_of ys) ≡ same_names (map seen xs) (map seen ys)
names_by_marks mark_of seen marked xs ys = both_marks mark_of seen member_mark marked xs ys ∙ sym (member_marks (map seen xs) (map seen ys))

pub case_names_by_marks : {A : Type 0} (mark_of : A → Mark) (seen : A → CaseHead) → ((x : A) → mark_of x ≡ case_mark (seen x)) → (xs ys : List A) → same_marks (map mark_of xs) (map mark_of ys) ≡ same_case_names (map seen xs) (map seen ys)
case_names_by_marks mark_of seen marked xs ys = both_marks mark_of seen case_mark marked xs ys ∙ sym (case_marks (map seen xs) (map seen ys))

pub literal_names_by_marks : {A : Type 0} (mark_of : A → Mark) (seen : A → Literal) → ((x : A) → mark_of x ≡ literal_mark (seen x)) → (xs ys : List A) → same_marks (map mark_of xs) (map mark_of ys) ≡ same_literal_names (map seen xs) (map seen ys)
literal_names_by_marks mark_of seen marked xs ys = both_marks mark_of seen literal_mark marked xs ys ∙ sym (literal_marks (map seen xs) (map seen ys))
